use Rattle.std.proofs.Common.{false, true, ◌≡◌, ap, count_by, take, ◌+◌, ◌∙◌}
use Rattle.bk_simple.proofs.TwoParts.{uncut_parts, inside_parts, uncut_whole}
use Rattle.bk_simple.specs.Border.{rectangle_of, is_inside}
use Rattle.bk_tiling.specs.Sharing.{EdgesFit}
use Rattle.std.proofs.lemmas.List.Elements.{All-drop, All-take}
use Rattle.bk_simple.proofs.KeptEdges.{edges_of_kept_fit}
use Rattle.bk_simple.proofs.count_inside.Goals as goal

pub returns-in_err-behind-clause-uncut : goal.returns-in_err-behind-clause-uncut
returns-in_err-behind-clause-uncut c = rw c.from_residual.ensures (
  (λ none. let e : false ≡ true = none in cc),
  (λ uncut. c.in_err-behind.ensures.uncut.1
      (rw c.squares-squares.ensures.value (uncut_parts (rectangle_of c.args.r.now) c.args.first c.args.tiling.now.squares uncut).1)),
)

pub slice_bounds-count_among-count : goal.slice_bounds-count_among-count
slice_bounds-count_among-count c = rw c.squares-squares.ensures.value c.requires.place

pub count_among-requires-clause-squares : goal.count_among-requires-clause-squares
count_among-requires-clause-squares c =
    rw c.squares-squares.ensures.value (All-take EdgesFit _ _ (All-drop EdgesFit c.args.first c.args.tiling.now.squares
    (edges_of_kept_fit c.args.tiling.now c.squares-squares.ensures.kept)))

pub count_among-requires-clause-fits : goal.count_among-requires-clause-fits
count_among-requires-clause-fits c = c.requires.fits

pub returns-in_err-behind-clause-count : goal.returns-in_err-behind-clause-count
returns-in_err-behind-clause-count c = rw c.from_residual.ensures tt

pub count_among-requires-2-clause-squares : goal.count_among-requires-2-clause-squares
count_among-requires-2-clause-squares c =
    rw c.squares-squares.ensures.value (All-take EdgesFit _ _ (edges_of_kept_fit c.args.tiling.now c.squares-squares.ensures.kept))

pub count_among-requires-2-clause-fits : goal.count_among-requires-2-clause-fits
count_among-requires-2-clause-fits c = c.requires.fits

pub returns-in_err-before-clause-uncut : goal.returns-in_err-before-clause-uncut
returns-in_err-before-clause-uncut c = rw c.from_residual-in_err-before.ensures (
  (λ none. let e : false ≡ true = none in cc),
  (λ uncut. c.in_err-before.ensures.uncut.1
      (rw c.squares-squares.ensures.value (uncut_parts (rectangle_of c.args.r.now) c.args.first c.args.tiling.now.squares uncut).0)),
)

pub returns-in_err-before-clause-count : goal.returns-in_err-before-clause-count
returns-in_err-before-clause-count c = rw c.from_residual-in_err-before.ensures tt

pub returns-clause-uncut : goal.returns-clause-uncut
returns-clause-uncut c = (
  λ _. uncut_whole (rectangle_of c.args.r.now) c.args.first c.args.tiling.now.squares (rw c.squares-squares.ensures.value at
      (c.in_ok-before.ensures.uncut.0 (λ i. true)))
      (rw c.squares-squares.ensures.value at (c.in_ok-behind.ensures.uncut.0 (λ i. true))),
  λ _ i. true,
)

pub returns-clause-count : goal.returns-clause-count
returns-clause-count c =
    ap (λ z. z + c.in_ok-behind.behind) (rw c.squares-squares.ensures.value at c.in_ok-before.ensures.count)
    ∙ ap (λ z. count_by (is_inside (rectangle_of c.args.r.now)) (take c.args.first c.args.tiling.now.squares) + z)
    (rw c.squares-squares.ensures.value at c.in_ok-behind.ensures.count) ∙ inside_parts (rectangle_of c.args.r.now) c.args.first c.args.tiling.now.squares
