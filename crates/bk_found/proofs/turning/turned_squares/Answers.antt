-- The squares that are pushed are the first ones of the placement, each turned with the rectangle.
use Rattle.std.proofs.Common.{List, [], ap, arith, length, lit<, map, sym, take, ◌+◌, ◌++◌, ◌∙◌, ◌∷◌}
use Rattle.std.proofs.lemmas.List.{map_more, take_all}
use Rattle.bk_sym.specs.Image.{image_square}
use Rattle.bk_tiling.specs.declared.Square.{Square}
use Rattle.bk_found.proofs.turning.turned_squares.Goals as goal

pub new-squares-requires : goal.new-squares-requires
new-squares-requires c = lit< tt

pub as_slice-q-items-requires : goal.as_slice-q-items-requires
as_slice-q-items-requires c = lit< tt

pub squares-init : goal.squares-init
squares-init c = record { read = c.new-squares.ensures; many = ap length c.new-squares.ensures }

pub offset_bounds-q-items-q-index : goal.offset_bounds-q-items-q-index
offset_bounds-q-items-q-index c = omega (arith, c.squares-test.true, c.as_slice-q-items.ensures.fits)

pub push-requires : goal.push-requires
push-requires c = (lit< tt, omega (arith, c.squares.invariant.many, c.squares-test.true, c.as_slice-q-items.ensures.fits))

pub squares-preserved : goal.squares-preserved
squares-preserved c = record {
  read = c.push.ensures.items
      ∙ ap (λ (l : List Square). l ++ c.image_square.result ∷ []) c.squares.invariant.read
      ∙ ap (λ (s : Square). map (image_square c.args.which c.args.placed.now.width c.args.placed.now.height)
      (take c.squares.q-index c.as_slice-q-items.result.now) ++ s ∷ []) c.image_square.ensures
      ∙ sym (map_more (image_square c.args.which c.args.placed.now.width c.args.placed.now.height) c.as_slice-q-items.result.now c.squares.q-index _
      c.squares-test.true);
  many = c.push.ensures.len ∙ ap (λ n. n + 1) c.squares.invariant.many;
}

pub returns : goal.returns
returns c = c.squares.invariant.read
    ∙ ap (map (image_square c.args.which c.args.placed.now.width c.args.placed.now.height))
    (take_all c.squares.q-index c.as_slice-q-items.result.now (omega (arith, c.squares-test.false)) ∙ c.as_slice-q-items.ensures.value)
