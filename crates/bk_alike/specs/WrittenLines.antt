-- What calls that write lines leave.
use Rattle.std.specs.List.{concat}
use Rattle.std.specs.Prelude.{Err, List, Ok, Option, Result, ℕ}
use Rattle.std.specs.Io.KnownBytes.{Appends}
use Rattle.bk_ports.specs.Causes.{AppendsPrefix}

-- these lines were written, or a beginning of them where a write failed
abbrev pub WritesLines : {T E : Type 0} → List (List ℕ) → Option (List ℕ) → Option (List ℕ) → Result T E → Type 0
WritesLines lines before after (Ok x) = Appends before after (concat lines)
WritesLines lines before after (Err f) = AppendsPrefix before after (concat lines)
