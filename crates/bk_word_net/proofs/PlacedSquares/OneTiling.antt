-- Two tilings of one word are equal up to scale: their sides in the order of laying are two flows of one net, so they
-- are in proportion, and with the word they fix all places.
use Rattle.std.specs.Prelude.{pos, ◌*ℤ◌}
use Rattle.std.proofs.Common.{List, [], arith, map, refl, subst, sym, ℕ, ◌*◌, ◌++◌}
use Rattle.std.proofs.Common.{◌∙◌, ◌∷◌, ◌≡◌}
use Rattle.std.proofs.Math.IntN.{pos-*ℤ-pos}
use Rattle.std.proofs.lemmas.Int.{ints}
use Rattle.bk_tiling.proofs.Cells.{in_all}
use Rattle.bk_tiling.proofs.Scaling.{from_enlarged, in_enlarged, order_enlarged, same_members}
use Rattle.bk_tiling.proofs.TilingLaws.{wide_enough}
use Rattle.bk_tiling.specs.Scale.{enlarged_square}
use Rattle.bk_tiling.specs.Tiling.{IsOneOf, IsTiling, Tiling}
use Rattle.bk_tiling.specs.declared.Square.{Square}
use Rattle.bk_word.specs.Outline.{start}
use Rattle.bk_word.specs.Play.{after_moves}
use Rattle.bk_word.specs.Word.{Word}
use Rattle.bk_lay.proofs.ValleySegment.{all_squares_laid_at_full_depth}
use Rattle.bk_lay.proofs.WordPlay.{tiling_word_is_complete}
use Rattle.bk_lay.specs.TilingWord.{MovesFollow, squares_under}
use Rattle.bk_word_net.proofs.TilingWords.AlongWord.{AtEnd, along_start, at_end}
use Rattle.bk_word_net.proofs.WordFlows.LaidFlow.{laid_sides_are_a_flow}
use Rattle.bk_word_net.proofs.WordFlows.NoLoose.{a_word_has_one_flow}
use Rattle.bk_word_net.specs.WordFlow.{AWordHasOneTiling, LaidAlong, LaidSidesFixATiling, laid_flow, laid_so_far}
use Rattle.bk_word_net.proofs.PlacedSquares.GrownAlike.{enlarged_alike, same_laid}

-- the law: each move lays its squares in the one leftmost valley
pub laid_sides_fix_a_tiling : LaidSidesFixATiling
laid_sides_fix_a_tiling t u w tl ul tv uv m n tiling other a b p q l k sides = enlarged_alike m n t u tiling other a b
    (same_members (map (enlarged_square m) t.squares) (map (enlarged_square n) u.squares) (order_enlarged m t.squares a tiling.ordered)
    (order_enlarged n u.squares b other.ordered)
    (members m n t u tl ul tiling te ue laid) (members n m u t ul tl other ue te (sym laid)))
  where
    te : AtEnd t (after_moves start w) tl tv
    te = at_end t w tiling p tl tv l

    ue : AtEnd u (after_moves start w) ul uv
    ue = at_end u w other q ul uv k

    laid : map (enlarged_square m) tl ≡ map (enlarged_square n) ul
    laid = same_laid m n t u tiling other [] [] [] [] [] [] start w (along_start t tiling) (along_start u other) p q tl ul tv uv l k sides refl

    members : (m n : ℕ) (t u : Tiling) (tl ul : List Square) {tv uv : List ℕ} → IsTiling t → AtEnd t (after_moves start w) tl tv
        → AtEnd u (after_moves start w) ul uv → map (enlarged_square m) tl ≡ map (enlarged_square n) ul
        → (r : Square) → IsOneOf r (map (enlarged_square m) t.squares) → IsOneOf r (map (enlarged_square n) u.squares)
    members m n t u tl ul is te ue same r h =
        subst (λ (s : Square). IsOneOf s (map (enlarged_square n) u.squares)) (sym image.2)
        (in_enlarged n u.squares image.0 (in_all (λ s. IsOneOf s u.squares) ul ((ue.along).fills).squares image.0 image.1))
      where
        from : (s : Square) × IsOneOf s t.squares × (r ≡ enlarged_square m s)
        from = from_enlarged m t.squares r h

        there : IsOneOf r (map (enlarged_square m) tl)
        there = subst (λ (s : Square). IsOneOf s (map (enlarged_square m) tl)) (sym from.2)
            (in_enlarged m tl from.0 (all_squares_laid_at_full_depth t is tl (te.along).fills te.full from.0 from.1))

        image : (s : Square) × IsOneOf s ul × (r ≡ enlarged_square n s)
        image = from_enlarged n ul r (subst (IsOneOf r) same there)

-- what is laid along a word
pub laid_along : (t : Tiling) (laid : List Square) (levels : List ℕ) (w : Word) → MovesFollow t laid w → (all_laid : List Square)
    × ((all_levels : List ℕ) × LaidAlong t (laid_so_far laid levels) w (laid_so_far all_laid all_levels))
laid_along t laid levels [] p = (laid, (levels ++ t.height ∷ [], (refl, refl)))
laid_along t laid levels (m ∷ w) p = let rest = laid_along t (laid ++ squares_under t p.0) (levels ++ (p.0).level ∷ []) w p.4 in
    (rest.0, ((rest.1).0, (p.0, p.1, (rest.1).1)))

sides_alike : (a b : ℕ) (ts us : List Square)
    → map (λ c. c *ℤ pos a) (map (λ q. pos q.s) us) ≡ map (λ c. c *ℤ pos b) (map (λ q. pos q.s) ts) → map (λ q. b * q.s) ts ≡ map (λ q. a * q.s) us
sides_alike a b [] [] e = refl
sides_alike a b [] (r ∷ us) e = absurd (cc)
sides_alike a b (q ∷ ts) [] e = absurd (cc)
sides_alike a b (q ∷ ts) (r ∷ us) e = λ i. one i ∷ sides_alike a b ts us rest i
  where
    first : pos r.s *ℤ pos a ≡ pos q.s *ℤ pos b
    first = cc

    rest : map (λ c. c *ℤ pos a) (map (λ q. pos q.s) us) ≡ map (λ c. c *ℤ pos b) (map (λ q. pos q.s) ts)
    rest = cc

    inside : pos (r.s * a) ≡ pos (q.s * b) → r.s * a ≡ q.s * b
    inside f = omega (arith, ints)

    one : b * q.s ≡ a * r.s
    one = omega (arith, inside (sym (pos-*ℤ-pos r.s a) ∙ first ∙ pos-*ℤ-pos q.s b))

-- the law: the one flow fixes the sides up to scale
pub a_word_has_one_tiling : AWordHasOneTiling
a_word_has_one_tiling t u w tiling other p q = (
  u.width,
  t.width,
  wide_enough u other,
  wide_enough t tiling,
  laid_sides_fix_a_tiling t u w tl.0 ul.0 (tl.1).0 (ul.1).0 u.width t.width tiling other (wide_enough u other) (wide_enough t tiling) p q
      (tl.1).1 (ul.1).1 (sides_alike t.width u.width tl.0 ul.0 proportion),
)
  where
    tl : (laid : List Square) × ((levels : List ℕ) × LaidAlong t (laid_so_far [] []) w (laid_so_far laid levels))
    tl = laid_along t [] [] w p

    ul : (laid : List Square) × ((levels : List ℕ) × LaidAlong u (laid_so_far [] []) w (laid_so_far laid levels))
    ul = laid_along u [] [] w q

    proportion : map (λ c. c *ℤ pos t.width) (map (λ q. pos q.s) ul.0) ≡ map (λ c. c *ℤ pos u.width) (map (λ q. pos q.s) tl.0)
    proportion = (a_word_has_one_flow w (laid_flow t tl.0 (tl.1).0) (tiling_word_is_complete t w tiling p).0
        (laid_sides_are_a_flow t w tl.0 (tl.1).0 tiling p (tl.1).1) (omega (arith, ints, wide_enough t tiling))).proportional
        (laid_flow u ul.0 (ul.1).0) (laid_sides_are_a_flow u w ul.0 (ul.1).0 other q (ul.1).1)
