use Rattle.std.proofs.Common.{List, inl, inr, refl, subst, sym}
use Rattle.bk_forms.specs.FormLaws.{MeetsEquations}
use Rattle.bk_forms.specs.Form.{Form as SeenForm}
use Rattle.bk_forms.specs.Reduction.{addition}
use Rattle.bk_walk_cuts.proofs.Asked.{keeps_after}
use Rattle.bk_walk_cuts.proofs.MoveAnswers.{no_contradiction}
use Rattle.bk_walk_cuts.proofs.asking.is_contradiction.Goals as goal

pub returns-in-Added : goal.returns-in-Added
returns-in-Added c = record {
  meets = λ sides meets same. record {
    meets = elim c.in-Added.is [
      | inl h ↦ (c.add_equation.ensures.added h sides).1 (meets, same)
      | inr h ↦ subst (λ (k : List SeenForm). MeetsEquations 16 k sides) (sym (c.add_equation.ensures.unchanged (λ e. cc (h, e)))) meets
    ];
    none = refl;
  };
  first = keeps_after c.args.ledger.now c.add_equation.new.self (addition c.args.ledger.now c.args.left.now c.args.right.now) c.add_equation.ensures.kept;
  kept = c.add_equation.ensures.kept;
  all = λ told. absurd (no_contradiction (addition c.args.ledger.now c.args.left.now c.args.right.now) c.add_equation.result c.add_equation.ensures.answer
      c.in-Added.is told);
}

pub returns-in-Contradiction-clause-meets : goal.returns-in-Contradiction-clause-meets
returns-in-Contradiction-clause-meets c sides meets same = absurd (c.add_equation.ensures.contradiction c.in-Contradiction.is sides meets same)

pub returns-in-Contradiction-clause-first : goal.returns-in-Contradiction-clause-first
returns-in-Contradiction-clause-first c = keeps_after c.args.ledger.now c.add_equation.new.self
    (addition c.args.ledger.now c.args.left.now c.args.right.now) c.add_equation.ensures.kept

pub returns-in-Contradiction-clause-kept : goal.returns-in-Contradiction-clause-kept
returns-in-Contradiction-clause-kept c = c.add_equation.ensures.kept

pub returns-in-Contradiction-clause-all : goal.returns-in-Contradiction-clause-all
returns-in-Contradiction-clause-all c = λ _. refl
