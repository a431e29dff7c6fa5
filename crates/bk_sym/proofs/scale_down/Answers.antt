use Rattle.std.proofs.Common.{ap, subst, sym, ◌∙◌, ◌≡◌, List, [], arith, get_or, length, lit<, map, take, ℕ, ◌++◌, ◌<◌, ◌∷◌, ◌≤◌}
use Rattle.bk_tiling.specs.KeptTiling.{IsKept}
use Rattle.bk_tiling.specs.Scale.{IsPrimitiveTiling, enlarged}
use Rattle.bk_tiling.specs.Tiling.{Tiling}
use Rattle.bk_sym.proofs.CanonicalPrimitive.{scaled_primitive}
use Rattle.bk_sym.proofs.KeptImages.{divided_square, kept_scaled, scaled_made}
use Rattle.bk_sym.proofs.ScaledDown.{side_divisor, whole_again}
use Rattle.bk_sym.specs.Canonical.{scaled_down_tiling}
use Rattle.std.proofs.lemmas.List.{length-map, length-take, map_more}
use Rattle.bk_tiling.specs.declared.Square.{Square}
use Rattle.bk_sym.proofs.scale_down.Goals as goal

abbrev none : Square
none = record { x = 0; y = 0; s = 0 }

-- the squares made so far leave room
room : (f : Square → Square) (made squares : List Square) (k : ℕ) → made ≡ map f
    (take k squares) → k < length squares → length squares ≤ 200 → length made < 200
room f made squares k e few most = omega (arith, ap length e, length-map (take k squares) f, length-take k squares)

pub from_known-requires : goal.from_known-requires
from_known-requires c =
    let t : Tiling = c.args.tiling.now in
    subst IsKept (sym (scaled_made t c.side_divisor-divisor.result c.width.result c.height.result c.loop-q.q-index c.squares-q-items.result.now
    c.loop-q.squares.items c.side_divisor-divisor.ensures.value c.width.ensures.value c.height.ensures.value c.squares-q-items.ensures.value
    c.loop-q-test.false c.loop-q.invariant)) (kept_scaled t c.squares-q-items.ensures.kept)

same : (c : goal.After-from_known) → c.from_known.result ≡ scaled_down_tiling c.args.tiling.now
same c = c.from_known.ensures ∙ scaled_made c.args.tiling.now c.side_divisor-divisor.result c.width.result c.height.result c.loop-q.q-index
    c.squares-q-items.result.now c.loop-q.squares.items c.side_divisor-divisor.ensures.value c.width.ensures.value c.height.ensures.value
    c.squares-q-items.ensures.value c.loop-q-test.false c.loop-q.invariant

pub returns-clause-exact : goal.returns-clause-exact
returns-clause-exact c =
    let t : Tiling = c.args.tiling.now in
    whole_again t c.squares-q-items.ensures.kept.tiling ∙ ap (enlarged (side_divisor t)) (sym (same c))

pub returns-clause-primitive : goal.returns-clause-primitive
returns-clause-primitive c =
    let t : Tiling = c.args.tiling.now in
    subst IsPrimitiveTiling (sym (same c)) (scaled_primitive t c.squares-q-items.ensures.kept.tiling)

pub nonzero_div-q : goal.nonzero_div-q
nonzero_div-q c = omega (arith, c.side_divisor-divisor.ensures.some)

pub nonzero_div-q-in-loop-q : goal.nonzero_div-q-in-loop-q
nonzero_div-q-in-loop-q c = omega (arith, c.side_divisor-divisor.ensures.some)

pub nonzero_div-q-in-loop-q-2 : goal.nonzero_div-q-in-loop-q-2
nonzero_div-q-in-loop-q-2 c = omega (arith, c.side_divisor-divisor.ensures.some)

pub nonzero_div-width : goal.nonzero_div-width
nonzero_div-width c = omega (arith, c.side_divisor-divisor.ensures.some)

pub nonzero_div-height : goal.nonzero_div-height
nonzero_div-height c = omega (arith, c.side_divisor-divisor.ensures.some)

pub push-requires : goal.push-requires
push-requires c = (
  lit< tt,
  room
      (divided_square c.side_divisor-divisor.result) c.loop-q.squares.items c.squares-q-items.result.now c.loop-q.q-index c.loop-q.invariant
      c.loop-q-test.true (rw c.squares-q-items.ensures.value c.squares-q-items.ensures.kept.few),
)

pub loop-q-preserved : goal.loop-q-preserved
loop-q-preserved c =
    c.push.ensures.items ∙ ap (λ (s : List Square). s ++ divided_square c.side_divisor-divisor.result
    (get_or c.squares-q-items.result.now c.loop-q.q-index none) ∷ []) c.loop-q.invariant
    ∙ sym (map_more (divided_square c.side_divisor-divisor.result) c.squares-q-items.result.now c.loop-q.q-index none c.loop-q-test.true)

pub returns-clause-value : goal.returns-clause-value
returns-clause-value c = same c

pub returns-clause-kept : goal.returns-clause-kept
returns-clause-kept c = subst IsKept (sym (same c)) (kept_scaled c.args.tiling.now c.squares-q-items.ensures.kept)
