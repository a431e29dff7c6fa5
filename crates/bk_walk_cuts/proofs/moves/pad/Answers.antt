use Rattle.std.proofs.Common.{ap, arith, refl, sym, ◌+◌, ◌-◌, ◌∙◌, ◌≡◌, lit<}
use Rattle.bk_catalogue.proofs.TreeOfWords.LastSigns.{fill_none, fill_one, filled_up}
use Rattle.bk_catalogue.specs.NextMove.{padded}
use Rattle.bk_word.specs.Word.{Move}
use Rattle.bk_walk_cuts.proofs.moves.pad.Goals as goal

pub signs-init : goal.signs-init
signs-init c = record { count = refl; signs = refl }

pub signs-smaller : goal.signs-smaller
signs-smaller c = let e = c.push.ensures.len in omega (arith, c.signs-test.true, c.len.ensures.value)

pub signs-preserved : goal.signs-preserved
signs-preserved c = record {
  count = c.signs.invariant.count;
  signs = ap (filled_up (c.from.result - 1 + c.args.sides)) c.push.ensures.items
      ∙ fill_one (c.from.result - 1 + c.args.sides) c.signs.m-inside.signs.items (omega (arith, c.signs-test.true, c.len.ensures.value))
      ∙ c.signs.invariant.signs;
}

pub returns : goal.returns
returns c = (λ i. record { count = c.signs.invariant.count i; signs = signs i }) ∙ ap (padded c.args.sides) c.m.view_is
  where
    signs : c.signs.m-inside.signs.items ≡ filled_up (c.m.inside.count - 1 + c.args.sides) c.m.inside.signs.items
    signs = sym (fill_none (c.from.result - 1 + c.args.sides) c.signs.m-inside.signs.items
        (omega (arith, c.signs-test.false, c.len.ensures.value))) ∙ c.signs.invariant.signs
        ∙ ap (λ k. filled_up (k - 1 + c.args.sides) c.m.inside.signs.items) c.from.ensures

pub overflow_sub-wanted : goal.overflow_sub-wanted
overflow_sub-wanted c = omega (arith, c.from.ensures, c.requires.some, ap (λ (m : Move). m.count) c.m.view_is)

pub overflow_add-wanted : goal.overflow_add-wanted
overflow_add-wanted c = omega (arith, c.from.ensures, c.requires.few, c.requires.sides, ap (λ (m : Move). m.count) c.m.view_is)

pub len-requires : goal.len-requires
len-requires c = lit< tt
