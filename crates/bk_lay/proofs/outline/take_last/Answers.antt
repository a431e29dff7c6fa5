use Rattle.std.proofs.Common.{Option, [], ap, arith, length, suc, zero, ℕ, ◌++◌, ◌+◌, ◌<◌, ◌∙◌, ◌∷◌}
use Rattle.std.proofs.lemmas.Bool.{false≢true}
use Rattle.std.specs.Prelude.{option_to_list}
use Rattle.std.proofs.lemmas.List.{length-append}
use Rattle.bk_lay.proofs.MeetingRuns.{first_from_right, last_from_left}
use Rattle.bk_lay.specs.declared.outline.LevelRun.{LevelRun}
use Rattle.bk_lay.proofs.outline.take_last.Goals as goal

pub returns-in-Some-clause-beside : goal.returns-in-Some-clause-beside
returns-in-Some-clause-beside c width laid m =
    last_from_left width laid c.pop.new.self.items c.args.left.now.items c.args.right.now.items c.in-Some.run' c.in-Some.ensures.items m

pub returns-in-None-clause-beside : goal.returns-in-None-clause-beside
returns-in-None-clause-beside c width laid m =
    first_from_right width laid c.args.left.now.items c.pop.new.self.items c.pop-in-None.new.self.items c.args.right.now.items c.unwrap.result
    (ap (λ v. v.items) c.in-None.ensures.empty) (λ h. false≢true (c.in-None.ensures.variant.1 h))
    (c.pop-in-None.ensures.items ∙ ap (λ (o : Option LevelRun). c.pop-in-None.new.self.items ++ option_to_list o) c.unwrap.ensures) m

-- what is left where there is none at the left
right_left : (n m : ℕ) → (0 < n → ⊥) → 0 < n + m → 0 < m
right_left zero m none some = omega arith
right_left (suc n) m none some = absurd (none (omega arith))

pub unwrap-requires : goal.unwrap-requires
unwrap-requires c = c.pop-in-None.ensures.variant.1
    (right_left (length c.args.left.now.items) (length c.args.right.now.items) (λ h. false≢true (c.in-None.ensures.variant.1 h)) c.requires)

pub returns-in-Some-clause-fewer : goal.returns-in-Some-clause-fewer
returns-in-Some-clause-fewer c = omega (arith, c.in-Some.ensures.len)

pub returns-in-None-clause-fewer : goal.returns-in-None-clause-fewer
returns-in-None-clause-fewer c = omega (
  arith,
  ap (λ v. length v.items) c.in-None.ensures.empty,
  ap length (c.pop-in-None.ensures.items ∙ ap (λ (o : Option LevelRun). c.pop-in-None.new.self.items ++ option_to_list o) c.unwrap.ensures),
  length-append c.pop-in-None.new.self.items (c.unwrap.result ∷ []),
)
