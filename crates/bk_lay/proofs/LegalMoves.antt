-- The move under the leftmost valley is legal.
use Rattle.std.proofs.Common.{Bool, List, [], ap, arith, cond, false, inl, inr, length, map, nat_eq, nat_lt, sym, ℕ, ◌++◌, ◌+◌, ◌<◌, ◌∙◌, ◌∷◌, ◌≡◌, ◌⊎◌}
use Rattle.std.proofs.lemmas.Bool.Decides.{nat_tests}
use Rattle.std.proofs.lemmas.List.{length-append, length-map, map-append}
use Rattle.bk_tiling.specs.Column.{depth}
use Rattle.bk_tiling.specs.declared.Segment.{Segment}
use Rattle.bk_tiling.specs.Tiling.{IsTiling, Tiling}
use Rattle.bk_tiling.specs.declared.Square.{Square}
use Rattle.bk_word.specs.Outline.{IsLegalMove, Outline, has_left_wall, has_right_wall, open_side, valley_place}
use Rattle.bk_word.specs.declared.Sign.{Sign}
use Rattle.bk_lay.proofs.Depicting.{FirstIs, LastIs, left_count, right_count, some_signs}
use Rattle.bk_lay.proofs.Filling.{valley_is_filled}
use Rattle.bk_lay.proofs.Joining.{levels}
use Rattle.bk_lay.proofs.Places.{HasFirst, HasLast}
use Rattle.bk_lay.specs.Depiction.{FillsFromTop}
use Rattle.bk_lay.specs.TilingWord.{IsLeftmostValley, bottoms, depth_before, depth_from, move_under, signs_between, squares_under}

-- what stands at the left of a valley, as its level tells it
pub last_level_is_the_depth_at_the_left : (laid : List Square) (x : ℕ) (before : List Segment) → ((before ≡ []) × (x ≡ 0)) ⊎ HasLast laid x before
    → LastIs (levels before) (depth_before laid x)
last_level_is_the_depth_at_the_left laid x before left = record { shape = cases left }
  where
    cases : ((before ≡ []) × (x ≡ 0)) ⊎ HasLast laid x before → ((levels before ≡ []) × (depth_before laid x ≡ []))
        ⊎ ((front : List ℕ) × (l : ℕ) × (levels before ≡ front ++ l ∷ []) × (depth_before laid x ≡ l ∷ []))
    cases (inl (none, at)) = inl (ap levels none, ap (depth_before laid) at)
    cases (inr h) = inr (levels h.front, (h.last).level, ap levels h.is ∙ map-append (λ r. r.level) h.front (h.last ∷ []), h.level)

-- what stands at the right of a valley, as its level tells it
pub first_level_is_the_depth_at_the_right : (width : ℕ) (laid : List Square) (x : ℕ) (after : List Segment) → ((after ≡ []) × (x ≡ width))
    ⊎ HasFirst width laid x after
    → FirstIs (levels after) (depth_from width laid x)
first_level_is_the_depth_at_the_right width laid x after right = record { shape = cases right }
  where
    bare : nat_lt x width ≡ false → depth_from width laid x ≡ []
    bare e = ap (λ (b : Bool). cond b (depth laid x ∷ []) []) e

    test : (a b : ℕ) → a ≡ b → nat_lt a b ≡ false
    test a b e = grind (arith, nat_tests)

    cases : ((after ≡ []) × (x ≡ width)) ⊎ HasFirst width laid x after → ((levels after ≡ []) × (depth_from width laid x ≡ []))
        ⊎ ((r : ℕ) × (back : List ℕ) × (levels after ≡ r ∷ back) × (depth_from width laid x ≡ r ∷ []))
    cases (inl (none, at)) = inl (ap levels none, bare (test x width at))
    cases (inr h) = inr ((h.first).level, levels h.back, ap levels h.is, h.level)

-- the move under the leftmost valley, which stands between these levels, is legal
pub valley_move_is_legal : (t : Tiling) (laid : List Square) (v : Segment) → IsTiling t → FillsFromTop t laid → IsLeftmostValley t.width laid v
    → v.level < t.height
    → (o : Outline) (before after : List ℕ) → o.signs ≡ signs_between (before ++ v.level ∷ after) → valley_place o.signs ≡ length before
    → LastIs before (depth_before laid v.x) → FirstIs after (depth_from t.width laid (v.x + v.width)) → IsLegalMove o (move_under t laid v)
valley_move_is_legal t laid v tiling fills found low o before after level_signs number last first = record { some = some; signs = whole ∙ sym sides }
  where
    some : 0 < length (squares_under t v)
    some = (valley_is_filled t laid v tiling fills found low).0

    ns : List ℕ
    ns = map (λ q. q.y + q.s) (squares_under t v)

    total : length (bottoms t laid v) ≡ length (depth_before laid v.x) + length (squares_under t v) + length (depth_from t.width laid (v.x + v.width))
    total = omega (
      arith,
      length-append (depth_before laid v.x ++ ns) (depth_from t.width laid (v.x + v.width)),
      length-append (depth_before laid v.x) ns,
      length-map (squares_under t v) (λ q. q.y + q.s),
    )

    whole : length (signs_between (bottoms t laid v)) + 1 ≡ length (depth_before laid v.x) + length (squares_under t v) + length
        (depth_from t.width laid (v.x + v.width))
    whole = some_signs (bottoms t laid v) (omega (arith, total, some)) ∙ total

    a : open_side (has_left_wall o) ≡ length (depth_before laid v.x)
    a = ap (λ (n : ℕ). open_side (nat_eq n 0)) number ∙ left_count before (depth_before laid v.x) last

    b : open_side (has_right_wall o) ≡ length (depth_from t.width laid (v.x + v.width))
    b = ap (λ (signs : List Sign). open_side (nat_eq (valley_place o.signs) (length signs))) level_signs
        ∙ right_count (valley_place o.signs) before v.level after (depth_from t.width laid (v.x + v.width)) first number

    sides : length (squares_under t v) + open_side (has_left_wall o) + open_side (has_right_wall o)
        ≡ length (depth_before laid v.x) + length (squares_under t v) + length (depth_from t.width laid (v.x + v.width))
    sides = omega (arith, a, b)
