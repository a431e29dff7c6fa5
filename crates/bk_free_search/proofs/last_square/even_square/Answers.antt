use Rattle.std.proofs.Common.{List, [], ap, arith, length, lit<, ◌++◌, ◌∙◌, ◌∷◌}
use Rattle.std.proofs.lemmas.List.{length-replicate}
use Rattle.bk_word.specs.declared.Sign.{Sign}
use Rattle.bk_word.specs.declared.Sign.TheVariants.{Even}
use Rattle.bk_free_search.proofs.NextWords.LastSquare.{more_evens}
use Rattle.bk_free_search.proofs.last_square.even_square.Goals as goal

pub push-requires : goal.push-requires
push-requires c = (
  lit< tt,
  omega (
    arith,
    ap (λ (l : List Sign). length l) c.sides.invariant.items,
    length-replicate c.sides._side Even,
    c.sides.invariant.few,
    c.requires,
  ),
)

pub sides-preserved : goal.sides-preserved
sides-preserved c = record {
  items = c.push.ensures ∙ ap (λ (l : List Sign). l ++ Even ∷ []) c.sides.invariant.items ∙ more_evens c.sides._side;
  few = omega (arith, c.sides-test.true);
}
