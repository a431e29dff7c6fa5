use Rattle.std.proofs.Common.{List, ap, map, subst, sym, ℕ, ◌∙◌, ◌≡◌, arith, length, ◌<◌, ◌≤◌, [], lit<, take, ◌++◌, ◌∷◌}
use Rattle.bk_tiling.specs.CodeOrder.{in_code_order}
use Rattle.bk_tiling.specs.KeptTiling.{IsKept}
use Rattle.bk_tiling.specs.Refusal.{HaveSides, ShareNoCell}
use Rattle.bk_tiling.specs.declared.Square.{Square}
use Rattle.bk_sym.proofs.KeptImages.{all_turned, kept_image, made, turned_apart, turned_sides}
use Rattle.bk_sym.specs.Image.{image, image_size, image_square}
use Rattle.std.proofs.lemmas.List.{length-map, length-take, map_more}
use Rattle.bk_sym.proofs.image.Goals.{After-loop-q, After-turned_size-width}
use Rattle.bk_sym.proofs.image.Goals as goal

abbrev none : Square
none = record { x = 0; y = 0; s = 0 }

-- the squares made so far leave room
room : (f : Square → Square) (made squares : List Square) (k : ℕ) → made ≡ map f
    (take k squares) → k < length squares → length squares ≤ 200 → length made < 200
room f made squares k e few most = omega (arith, ap length e, length-map (take k squares) f, length-take k squares)

-- the squares are all turned
items : (c : After-loop-q) → c.loop-q.squares.items ≡ map (image_square c.args.which c.args.tiling.now.width c.args.tiling.now.height)
    c.args.tiling.now.squares
items c =
    all_turned c.args.which c.args.tiling.now c.width-width.result c.height-height.result c.loop-q.q-index c.squares-q-items.result.now
    c.loop-q.squares.items c.width-width.ensures.value c.height-height.ensures.value c.squares-q-items.ensures.value c.loop-q-test.false c.loop-q.invariant

pub put_in_order-requires-clause-sides : goal.put_in_order-requires-clause-sides
put_in_order-requires-clause-sides c =
    subst HaveSides (sym (items (goal.at.put_in_order-requires-clause-sides c).After-loop-q))
    (turned_sides c.args.which c.args.tiling.now c.squares-q-items.ensures.kept)

pub put_in_order-requires-clause-apart : goal.put_in_order-requires-clause-apart
put_in_order-requires-clause-apart c =
    subst ShareNoCell (sym (items (goal.at.put_in_order-requires-clause-apart c).After-loop-q))
    (turned_apart c.args.which c.args.tiling.now c.squares-q-items.ensures.kept)

-- with their order and size they are the image
whole : (c : After-turned_size-width) → c.loop-q.squares.items ≡ map (image_square c.args.which c.args.tiling.now.width c.args.tiling.now.height)
    c.args.tiling.now.squares
    → record { width = c.turned_size-width.result.0; height = c.turned_size-width.result.1; squares = c.put_in_order.new.squares.items }
    ≡ image c.args.which c.args.tiling.now
whole c all =
    let size : c.turned_size-width.result ≡ image_size c.args.which c.args.tiling.now.width c.args.tiling.now.height =
    rw (c.width-width.ensures.value, c.height-height.ensures.value) at c.turned_size-width.ensures in
    made c.turned_size-width.result.0 c.turned_size-width.result.1 c.put_in_order.new.squares.items (image c.args.which c.args.tiling.now)
    (ap (λ (p : ℕ × ℕ). p.0) size) (ap (λ (p : ℕ × ℕ). p.1) size) (c.put_in_order.ensures ∙ ap in_code_order all)

pub from_known-requires : goal.from_known-requires
from_known-requires c =
    let at = goal.at.from_known-requires c in
    subst IsKept (sym (whole at.After-turned_size-width (items at.After-loop-q))) (kept_image c.args.which c.args.tiling.now c.squares-q-items.ensures.kept)

pub push-requires : goal.push-requires
push-requires c = (
  lit< tt,
  room
      (image_square c.args.which c.width-width.result c.height-height.result) c.loop-q.squares.items c.squares-q-items.result.now c.loop-q.q-index
      c.loop-q.invariant c.loop-q-test.true (rw c.squares-q-items.ensures.value c.squares-q-items.ensures.kept.few),
)

pub loop-q-preserved : goal.loop-q-preserved
loop-q-preserved c =
    c.push.ensures.items ∙ ap (λ (s : List Square). s ++ c.image_square.result ∷ []) c.loop-q.invariant
    ∙ ap (λ (q : Square). map (image_square c.args.which c.width-width.result c.height-height.result)
    (take c.loop-q.q-index c.squares-q-items.result.now) ++ q ∷ []) c.image_square.ensures
    ∙ sym (map_more
    (image_square c.args.which c.width-width.result c.height-height.result) c.squares-q-items.result.now c.loop-q.q-index none c.loop-q-test.true)

pub returns-clause-value : goal.returns-clause-value
returns-clause-value c =
    let at = goal.at.returns-clause-value c in
    c.from_known.ensures ∙ whole at.After-turned_size-width (items at.After-loop-q)

pub returns-clause-kept : goal.returns-clause-kept
returns-clause-kept c =
    let at = goal.at.returns-clause-kept c in
    subst IsKept (sym (c.from_known.ensures ∙ whole at.After-turned_size-width (items at.After-loop-q)))
    (kept_image c.args.which c.args.tiling.now c.squares-q-items.ensures.kept)
