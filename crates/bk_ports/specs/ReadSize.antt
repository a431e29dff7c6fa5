-- How many bytes a read asks for.
-- Example (EndingExamples): 16,384 at first, 10 where all but 10 of 2^30 bytes are taken, and 1 where these are taken.
use Rattle.std.specs.Prelude.{ℕ, ◌-◌, min, max}
use Rattle.bk_ports.specs.declared.input.TheConstants.{BLOCK, MOST_BYTES}

-- where so many bytes were taken: 16,384, but not more than are left of 2^30 bytes; and where none is left, 1
abbrev pub asked_count : ℕ → ℕ
asked_count taken = max 1 (min BLOCK (MOST_BYTES - taken))
