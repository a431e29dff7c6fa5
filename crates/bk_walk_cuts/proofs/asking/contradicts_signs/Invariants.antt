use Rattle.std.proofs.Common.{List, ℕ, ◌≡◌}
use Rattle.bk_forms.specs.FormLaws.{MeetsEquations}
use Rattle.bk_walk_cuts.proofs.MoveAnswers.{NoneContradicts}
use Rattle.bk_walk_cuts.specs.KnownSides.{KeepsFirst}
use Rattle.bk_walk_cuts.specs.FormCuts.{kept_by_signs}
use Rattle.bk_walk_cuts.specs.SidesOfTilings.{AgreeWith}
use Rattle.bk_walk_cuts.proofs.asking.contradicts_signs.Given as goal

abbrev pub invariant-loop-i : goal.invariant-loop-i
invariant-loop-i l = record {
  meets : (sides : List ℕ) → MeetsEquations 16 l.initial.ledger sides → AgreeWith l.signs l.levels sides → MeetsEquations 16 l.ledger sides;
  first : KeepsFirst l.initial.ledger l.ledger;
  kept : l.ledger ≡ kept_by_signs l.initial.ledger l.levels l.signs l.i;
  none : NoneContradicts l.initial.ledger l.levels l.signs l.i;
}
