-- The last point of a row lies on a right side.
use Rattle.std.specs.List.{list_any}
use Rattle.std.proofs.Common.{Bool, List, [], ap, arith, inl, inr, min, sym, true, false, ◌&&◌, ◌+◌, ◌-◌, ◌==◌, ◌∙◌, ◌∷◌, ◌≡◌, ◌≢◌}
use Rattle.std.proofs.lemmas.Bool.{and_from, eq-eqb, le-leb, or_left, or_right}
use Rattle.bk_tiling.proofs.Cells.{IsOver, counted_one, over_from}
use Rattle.bk_tiling.proofs.Sizes.{high_enough}
use Rattle.bk_tiling.proofs.TilingLaws.{cell_once, wide_enough, within_of}
use Rattle.bk_tiling.specs.Point.{is_at_edge, is_at_side, is_corner}
use Rattle.bk_tiling.specs.Tiling.{IsOneOf, IsWithin, covers, whole}
use Rattle.bk_tiling.specs.declared.Square.{Square}
use Rattle.bk_draw.proofs.Rows.{glyph}
use Rattle.bk_draw.specs.Drawing.{is_across, is_along}
use Rattle.bk_draw.specs.DrawingLaws.{NoRowEndsWithASpace}

-- one that passes is found
found : (p : Square → Bool) (squares : List Square) (q : Square) → IsOneOf q squares → p q ≡ true → list_any p squares ≡ true
found p [] q h e = absurd h
found p (r ∷ squares) q (inl same) e = or_left (p r) (list_any p squares) (ap p (sym same) ∙ e)
found p (r ∷ squares) q (inr h) e = or_right (p r) (list_any p squares) (found p squares q h e)

-- a point of a side is no space
glyph-side : (corner edge : Bool) → glyph corner edge true ≢ 32
glyph-side true edge e = omega (arith, e)
glyph-side false true e = omega (arith, e)
glyph-side false false e = omega (arith, e)

-- no row that is drawn ends with a space
pub no_row_ends_with_a_space : NoRowEndsWithASpace
no_row_ends_with_a_space t y tiling low = end over.0 over.1 (over_from (t.width - 1) (min y (t.height - 1)) over.0 over.2)
  where
    over : (q : Square) × IsOneOf q t.squares × (covers (t.width - 1) (min y (t.height - 1)) q ≡ true)
    over = counted_one (covers (t.width - 1) (min y (t.height - 1))) t.squares
        (omega (arith, cell_once t tiling (t.width - 1) (min y (t.height - 1)) (omega (arith, wide_enough t tiling)) (omega (arith, high_enough t tiling))))

    end : (q : Square) → IsOneOf q t.squares → IsOver (t.width - 1) (min y (t.height - 1)) q
        → glyph (list_any (is_corner t.width y) t.squares) (list_any (λ q. is_across q t.width && is_at_edge q y) t.squares)
        (list_any (λ q. is_at_side q t.width && is_along q y) t.squares) ≢ 32
    end q h o e = glyph-side (list_any (is_corner t.width y) t.squares) (list_any (λ q. is_across q t.width && is_at_edge q y) t.squares)
        (ap (glyph (list_any (is_corner t.width y) t.squares) (list_any (λ q. is_across q t.width && is_at_edge q y) t.squares)) (sym side) ∙ e)
      where
        w : IsWithin (whole t) q
        w = within_of t tiling q h

        right : t.width ≡ q.x + q.s
        right = omega (arith, w.right, o.right, wide_enough t tiling)

        at_side : is_at_side q t.width ≡ true
        at_side = or_right (t.width == q.x) (t.width == q.x + q.s) (eq-eqb t.width (q.x + q.s) right)

        along : is_along q y ≡ true
        along = and_from _ _ (le-leb q.y y (omega (arith, o.top))) (le-leb y (q.y + q.s) (omega (arith, o.bottom, low)))

        side : list_any (λ q. is_at_side q t.width && is_along q y) t.squares ≡ true
        side = found (λ q. is_at_side q t.width && is_along q y) t.squares q h (and_from (is_at_side q t.width) (is_along q y) at_side along)
