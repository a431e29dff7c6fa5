-- Worked examples of what the answer to one line writes: the line itself and a line feed, by two calls.
use Rattle.std.proofs.Common.{◌≡◌, Bool, List, Some, [], ◌∷◌, false, refl, ℕ}
use Rattle.std.specs.Prelude.{codes}
use Rattle.bk_ports.specs.WrittenAnswer.{HasOutcome, IsStopped}
use Rattle.bk_ports.specs.declared.Outcome.TheVariants.{Accepted, NoMemory}
use Rattle.bk_ports.specs.declared.line.Stop.TheVariants.{WriteFailed}

abbrev echoes : List (List ℕ) → Bool → Type 0
echoes pieces refused = (pieces ≡ codes "ab" ∷ codes "\n" ∷ []) × (refused ≡ false)

-- the whole answer stands behind what stood there
accepted : HasOutcome echoes ⊥ (Some (codes "0\n")) (Some (codes "0\nab\n")) Accepted
accepted = record { pieces = codes "ab" ∷ codes "\n" ∷ []; answer = (refl, refl); written = refl }

-- where memory may be wanting and is, nothing is written
wanting : HasOutcome echoes (Unit {0}) (Some (codes "0\n")) (Some (codes "0\n")) NoMemory
wanting = record { cause = tt; kept = refl }

-- the second call failed: the first one's piece stands there
begun : IsStopped echoes ⊥ (Some (codes "0\n")) (Some (codes "0\nab")) WriteFailed
begun = record { pieces = codes "ab" ∷ codes "\n" ∷ []; refused = false; answer = (refl, refl); written = (2, refl) }
