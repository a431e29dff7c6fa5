use Rattle.std.specs.List.Sorted.{IsPermutation}
use Rattle.std.proofs.Common.{List, ap, arith, rules, subst, sym, ◌∙◌}
use Rattle.std.proofs.lemmas.List.Sorted.{IsNonDecreasingBy-from_sort, answers_always}
use Rattle.bk_tiling.specs.declared.Square.{Square}
use Rattle.bk_pair.proofs.KeptSquares.{kept_by_sides, seen_as}
use Rattle.bk_pair.specs.SquaresBySide.{AreSideBitsOf, AreSidesAscending, tiling_of}
use Rattle.bk_pair.specs.OwnSides.{stands_apart}
use Rattle.bk_pair.proofs.kept.KeptTiling.new.Goals as goal

pub stands_apart-apart-requires : goal.stands_apart-apart-requires
stands_apart-apart-requires c =
    subst AreSidesAscending (sym c.as_slice.ensures.value)
    (IsNonDecreasingBy-from_sort (λ (q : Square). q.s) c.sort_unstable_by_key.new.self.items
    (c.sort_unstable_by_key.ensures.sorted (λ (q : Square). q.s) (answers_always _ _ _ (λ f a r g h. search rules))))

pub invariant_of-result : goal.invariant_of-result
invariant_of-result c =
    let items = c.sort_unstable_by_key.new.self.items in
    let moved : IsPermutation c.args.tiling.now.squares items =
    subst (λ (l : List Square). IsPermutation l items) (c.in_ok-squares.ensures.items ∙ c.squares.ensures.value) c.sort_unstable_by_key.ensures.permutation in
    kept_by_sides c.args.tiling.now c.squares.ensures.kept items moved
    (IsNonDecreasingBy-from_sort (λ (q : Square). q.s) c.sort_unstable_by_key.new.self.items
    (c.sort_unstable_by_key.ensures.sorted (λ (q : Square). q.s) (answers_always _ _ _ (λ f a r g h. search rules))))
    c.width-width.result c.height-height.result c.width-width.ensures.value c.height-height.ensures.value c.stands_apart-apart.result
    (c.stands_apart-apart.ensures ∙ ap (λ (l : List Square). stands_apart (tiling_of c.width-width.result c.height-height.result l)) c.as_slice.ensures.value)
    c.small_sides-small.result (omega arith)
    (subst (AreSideBitsOf c.small_sides-small.result) c.as_slice-2.ensures.value c.small_sides-small.ensures)

pub returns : goal.returns
returns c =
    let items = c.sort_unstable_by_key.new.self.items in
    let moved : IsPermutation c.args.tiling.now.squares items =
    subst (λ (l : List Square). IsPermutation l items) (c.in_ok-squares.ensures.items ∙ c.squares.ensures.value) c.sort_unstable_by_key.ensures.permutation in
    seen_as c.args.tiling.now c.squares.ensures.kept items moved c.width-width.result c.height-height.result c.width-width.ensures.value
    c.height-height.ensures.value
