-- Sources and sinks in memory: what they hold, and what each call does.
-- Example (StoreExamples): of `abcdef`, at most 4 bytes a call, a buffer of 3 bytes gets 3 and one of 9 gets 4; of
-- `defg` a call that fails keeps `def` where its pair says 3.
use Rattle.std.specs.Prelude.{ℕ, ◌-◌, ◌==◌, min, List, ◌++◌, length, take, drop, find, unwrap_or, Result, Ok, Err}
use Rattle.std.specs.declared.option.Option.{Option}
use Rattle.std.specs.Option.{option_map}
use Rattle.bk_ports.specs.Causes.{counted}

-- what a contract sees of a `MemSource`: the bytes still to come, how many of them a call gives at most, the numbers of
-- the calls that fail, the number of the next call, and how many calls have failed
pub record Supply : Type 0 where
  pub left : List ℕ
  pub most : ℕ
  pub fails : List ℕ
  pub call : ℕ
  pub faults : ℕ

-- how many bytes a call gives that doesn't fail, to a buffer of this length
abbrev pub given_count : Supply → ℕ → ℕ
given_count s room = min (length s.left) (min room s.most)

-- the supply after a call with this result
abbrev pub after_read : {E : Type 0} → Supply → Result ℕ E → Supply
after_read s (Ok n) = record s { left = drop n s.left; call = counted s.call }
after_read s (Err _) = record s { call = counted s.call; faults = counted s.faults }

-- what a contract sees of a `FillSource`: so many copies of a byte
pub record Copies : Type 0 where
  pub byte : ℕ
  pub count : ℕ

-- what a contract sees of a `MemSink`: how many bytes it has room for in all, the bytes kept, the pairs of a call that
-- fails and how many bytes it keeps, the number of the next call, and how many calls have failed
pub record Store : Type 0 where
  pub room : ℕ
  pub kept : List ℕ
  pub fails : List (ℕ × ℕ)
  pub call : ℕ
  pub faults : ℕ

-- how many bytes a call keeps, where it is one of those that fail: the first pair with its number says it
abbrev pub limit_of : List (ℕ × ℕ) → ℕ → Option ℕ
limit_of fails call = option_map (λ (p : ℕ × ℕ). p.1) (find (λ (p : ℕ × ℕ). p.0 == call) fails)

-- how many bytes of a piece fit
abbrev pub fitting_count : Store → List ℕ → ℕ
fitting_count s piece = min (length piece) (s.room - length s.kept)

-- how many bytes of a piece the next call keeps
abbrev pub kept_count : Store → List ℕ → ℕ
kept_count s piece = min (fitting_count s piece) (unwrap_or (limit_of s.fails s.call) (length piece))

-- the store after a call that was given a piece, with this result
abbrev pub after_write : {T E : Type 0} → Store → List ℕ → Result T E → Store
after_write s piece (Ok _) = record s { kept = s.kept ++ piece; call = counted s.call }
after_write s piece (Err _) = record s {
  kept = s.kept ++ take (kept_count s piece) piece;
  call = counted s.call;
  faults = counted s.faults;
}
