use Rattle.std.proofs.Common.{List, [], ap, arith, length, refl, sym, take_all, true, ℕ, ◌==◌, ◌∙◌, ◌∷◌, ◌≡◌, ◌≢◌}
use Rattle.std.proofs.Common.{eqb-true}
use Rattle.bk_forms.specs.Form.{Form as SeenForm}
use Rattle.bk_forms.specs.Reduction.{addition, kept_after}
use Rattle.bk_walk_cuts.specs.FormCuts.{kept_by_widths}
use Rattle.bk_walk_cuts.specs.SideForms.{sum_of_sides}
use Rattle.bk_walk_cuts.proofs.asking.contradicts_widths.Goals as goal

-- a list of no items is empty
none_there : (ns : List ℕ) → true ≡ (length ns == 0) → ns ≡ []
none_there [] e = refl
none_there (_ ∷ _) e = absurd (omega (arith, eqb-true _ _ (sym e)))

-- where the valley has no squares, nothing is added
none_kept : (kept : List SeenForm) (valley numbers : List ℕ) → valley ≡ [] → kept ≡ kept_by_widths kept valley numbers
none_kept kept valley numbers e = ap (λ (ns : List ℕ). kept_by_widths kept ns numbers) (sym e)

-- where the valley has squares, the equation of the widths is kept
some_kept : (kept : List SeenForm) (valley numbers : List ℕ) → valley ≢ []
    → kept_after kept (addition kept (sum_of_sides valley) (sum_of_sides numbers)) ≡ kept_by_widths kept valley numbers
some_kept kept [] numbers some = absurd (some refl)
some_kept kept (_ ∷ _) numbers some = refl

pub returns-then-is_empty-clause-meets : goal.returns-then-is_empty-clause-meets
returns-then-is_empty-clause-meets c sides meets same = record { meets = meets; none = refl }

pub returns-then-is_empty-clause-first : goal.returns-then-is_empty-clause-first
returns-then-is_empty-clause-first c = record { more = omega arith; same = take_all (length c.args.ledger.now) c.args.ledger.now (omega arith) }

pub returns-then-is_empty-clause-kept : goal.returns-then-is_empty-clause-kept
returns-then-is_empty-clause-kept c = none_kept c.args.ledger.now c.args.valley.now c.args.numbers.now (none_there c.args.valley.now c.if-is_empty.ensures)

pub returns-then-is_empty-clause-all : goal.returns-then-is_empty-clause-all
returns-then-is_empty-clause-all c told = absurd (told.some (none_there c.args.valley.now c.if-is_empty.ensures))

pub returns-clause-first : goal.returns-clause-first
returns-clause-first c = c.is_contradiction.ensures.first

pub returns-clause-all : goal.returns-clause-all
returns-clause-all c told = c.is_contradiction.ensures.all
    ((λ i. addition c.args.ledger.now (c.sum_of_sides.ensures i) (c.sum_of_sides-2.ensures i)) ∙ told.contradict)
