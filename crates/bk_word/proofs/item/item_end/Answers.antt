-- The bytes passed are blanks, so the byte at `start` is not passed.
use Rattle.std.specs.Prelude.{List, drop, length, ℕ, ◌+◌, ◌-◌, ◌<◌, ◌∷◌, ◌≡◌, ◌≤◌}
use Rattle.std.proofs.Common.{ap, arith, get_or, inl, inr, refl, subst, sym, ◌∙◌}
use Rattle.std.proofs.lemmas.Bool.{cases_lt}
use Rattle.std.proofs.lemmas.List.{drop_all, drop_more}
use Rattle.bk_grammar.specs.Grammar.{Blanks, IsBlank}
use Rattle.bk_word.proofs.item.item_end.Goals as goal

-- a blank stands behind the byte that is none
stands_behind : (text : List ℕ) (start end : ℕ) → (IsBlank (get_or text start 0) → ⊥) → start < end → IsBlank (get_or text (end - 1) 0) → start < end - 1
stands_behind text start end bare behind blank = elim (cases_lt start (end - 1)) [
  | inl less ↦ less
  | inr more ↦ absurd (bare (subst (λ (k : ℕ). IsBlank (get_or text k 0)) (let e : end - 1 ≡ start = omega (arith, behind, more) in e) blank))
]

-- a blank more
blank_more : (text : List ℕ) (end : ℕ) → 0 < end → end ≤ length text → IsBlank (get_or text (end - 1) 0) → Blanks (drop end text)
    → Blanks (drop (end - 1) text)
blank_more text end some within blank blanks =
    let e : end - 1 + 1 ≡ end = omega (arith, some) in
    subst Blanks (sym (drop_more text (end - 1) 0 (omega (arith, some, within)) ∙ ap (λ (n : ℕ). get_or text (end - 1) 0 ∷ drop n text) e)) (blank, blanks)

pub loop-end-init : goal.loop-end-init
loop-end-init c = record {
  behind = c.requires.within;
  within = omega arith;
  blanks = subst Blanks (sym (drop_all (length c.args.text.now) c.args.text.now (omega arith))) tt;
}

pub overflow_sub-end : goal.overflow_sub-end
overflow_sub-end c = omega (arith, c.loop-end.invariant.behind)

pub bounds-text-end : goal.bounds-text-end
bounds-text-end c = omega (arith, c.loop-end.invariant.behind, c.loop-end.invariant.within)

pub overflow_sub-end-in-loop-end : goal.overflow_sub-end-in-loop-end
overflow_sub-end-in-loop-end c = omega (arith, c.loop-end.invariant.behind)

pub loop-end-smaller : goal.loop-end-smaller
loop-end-smaller c = omega (arith, c.loop-end.invariant.behind)

pub loop-end-preserved : goal.loop-end-preserved
loop-end-preserved c =
    let blank = c.loop-end-test.ensures.yes refl in
    record {
      behind = stands_behind c.args.text.now c.args.start c.loop-end.end c.requires.bare c.loop-end.invariant.behind blank;
      within = omega (arith, c.loop-end.invariant.within);
      blanks =
          blank_more c.args.text.now c.loop-end.end (omega (arith, c.loop-end.invariant.behind)) c.loop-end.invariant.within blank
          c.loop-end.invariant.blanks;
    }

pub returns-clause-behind : goal.returns-clause-behind
returns-clause-behind c = c.loop-end.invariant.behind

pub returns-clause-within : goal.returns-clause-within
returns-clause-within c = c.loop-end.invariant.within

pub returns-clause-blanks : goal.returns-clause-blanks
returns-clause-blanks c = c.loop-end.invariant.blanks

pub returns-clause-bare : goal.returns-clause-bare
returns-clause-bare c = c.loop-end-test.ensures.no refl
