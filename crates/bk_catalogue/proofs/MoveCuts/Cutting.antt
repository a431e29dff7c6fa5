-- The cuts of a walk: after moves that leave one segment, no member's word goes on; and pairs of equal squares that
-- are a part.
use Rattle.std.proofs.Common.{List, [], ap, arith, inl, inr, length, refl, subst, sym, true, ℕ, ◌++◌, ◌+◌, ◌-◌, ◌<◌, ◌∙◌, ◌∷◌, ◌≡◌, ◌≤◌, ◌⊎◌}
use Rattle.std.proofs.lemmas.Bool.{cases_lt}
use Rattle.bk_laws.proofs.ZippedLists.{zip_length}
use Rattle.bk_tiling.proofs.Cells.{column_from, column_left, column_right, counted_one, depth_comes_from, depth_reaches, in_all, no_two, over_from}
use Rattle.bk_tiling.proofs.TilingLaws.{cell_once, own_cell, side_of, wide_enough, within_of}
use Rattle.bk_tiling.specs.Column.{AreRuns, covers_column, depth}
use Rattle.bk_tiling.specs.declared.Segment.{Segment}
use Rattle.bk_tiling.specs.Tiling.{IsOneOf, IsTiling, IsWithin, Rectangle, Tiling, covers}
use Rattle.bk_tiling.specs.declared.Square.{Square}
use Rattle.bk_simple.specs.Simple.{IsCompound}
use Rattle.bk_word.specs.Outline.{start}
use Rattle.bk_word.specs.Play.{outline_of}
use Rattle.bk_word.specs.Word.{Word, order_of}
use Rattle.bk_lay.proofs.SquaresOnce.{squares_once}
use Rattle.bk_lay.proofs.WordPlay.{NoneTwice, fewer, none_twice}
use Rattle.bk_lay.specs.Depiction.{IsSegment}
use Rattle.bk_lay.specs.TilingWord.{IsWordOf}
use Rattle.bk_word_net.proofs.TilingWords.AlongWord.{HasBegun, NotBegun}
use Rattle.bk_word_net.proofs.WordFlows.NoLoose.{closed_count}
use Rattle.bk_catalogue.proofs.Members.Parts.{IsWithinWhole, Reached, compound, few_within, many_within, reached}
use Rattle.bk_catalogue.specs.Cuts.{OneSegmentIsBarren}

module _ (n : ℕ) (t : Tiling) (front rest : Word) (tiling : IsTiling t) (order : length t.squares ≡ n) (simple : IsCompound t → ⊥) (wide : t.height ≤ t.width)
    (some : 0 < length front) (small : order_of front < n) (one : length (outline_of front).segments ≡ 1) (p : IsWordOf t (front ++ rest)) where
  r : Reached t (outline_of front) rest (order_of front)
  r = reached t front rest tiling p

  flat_run : (runs : List Segment) → length runs ≡ 1 → AreRuns t.width r.laid 0 runs → (d : ℕ) × ((c : ℕ) → c < t.width → depth r.laid c ≡ d)
  flat_run [] e cut = absurd (omega arith)
  flat_run (u ∷ v ∷ runs) e cut = absurd (omega arith)
  flat_run (u ∷ []) e cut = (u.level, λ c h. (cut.1).level c (omega (arith, cut.0)) (omega (arith, cut.0, cut.2)))

  level : (d : ℕ) × ((c : ℕ) → c < t.width → depth r.laid c ≡ d)
  level = flat_run ((r.along).depicts).runs (zip_length (IsSegment r.laid) ((r.along).depicts).runs (outline_of front).segments
      ((r.along).depicts).segments ∙ one) ((r.along).depicts).cut

  d : ℕ
  d = level.0

  deep : 0 < level.0
  deep = from (r.along).begun
    where
      from : NotBegun r.laid r.nodes (outline_of front) ⊎ HasBegun t r.laid r.nodes (outline_of front) → 0 < level.0
      from (inl k) = absurd (omega (arith, some, closed_count start front, ap length k.no_list))
      from (inr b) = omega (arith, b.deep 0 (wide_enough t tiling), level.1 0 (wide_enough t tiling))

  laid_in : (q : Square) → IsOneOf q r.laid → IsOneOf q t.squares
  laid_in q h = in_all (λ s. IsOneOf s t.squares) r.laid ((r.along).fills).squares q h

  -- a square of the tiling with a cell above the run is laid
  is_laid : (q : Square) → IsOneOf q t.squares → (i j : ℕ) → i < t.width → j < level.0 → covers i j q ≡ true → IsOneOf q r.laid
  is_laid q h i j a b e = from (counted_one (covers i j) r.laid (omega (arith, ((r.along).fills).filled i j a (omega (arith, level.1 i a)))))
    where
      from : (s : Square) × IsOneOf s r.laid × (covers i j s ≡ true) → IsOneOf q r.laid
      from (s, k, f) = subst (λ (z : Square). IsOneOf z r.laid)
          (no_two (covers i j) t.squares (omega (
            arith,
            cell_once t tiling i j a (omega (arith, (within_of t tiling q h).bottom, (over_from i j q e).bottom)),
          )) s q (laid_in s k) f h e) k

  wide_of : (q : Square) → IsOneOf q t.squares → q.x < t.width
  wide_of q h = let a = (within_of t tiling q h).right in omega (arith, side_of t tiling q h)

  higher : level.0 < t.height
  higher = cases (cases_lt level.0 t.height)
    where
      cases : (level.0 < t.height) ⊎ (t.height ≤ level.0) → level.0 < t.height
      cases (inl h) = h
      cases (inr h) = absurd (omega (
        arith,
        order,
        r.long,
        small,
        fewer t.squares r.laid (squares_once t tiling)
            (λ q k. is_laid q k q.x q.y (wide_of q k) (let b = (within_of t tiling q k).bottom in omega (arith, side_of t tiling q k)) (own_cell t tiling q k)),
      ))

  bottom_of : (q : Square) → IsOneOf q r.laid → q.y + q.s ≤ level.0
  bottom_of q h = omega (
    arith,
    depth_reaches r.laid q.x q h
        (column_from q.x q (omega arith) (omega (arith, side_of t tiling q (laid_in q h)))),
    level.1 q.x (wide_of q (laid_in q h)),
  )

  within : (q : Square) → IsOneOf q r.laid → IsWithin (record { x = 0; y = 0; width = t.width; height = level.0 }) q
  within q h = record {
    left = omega arith;
    right = omega (arith, (within_of t tiling q (laid_in q h)).right);
    top = omega arith;
    bottom =
        omega (arith, bottom_of q h);
  }

  laid_once : NoneTwice r.laid
  laid_once = none_twice r.laid (λ q h. omega (
    arith,
    ((r.along).fills).filled q.x q.y (wide_of q (laid_in q h))
        (omega (arith, bottom_of q h, side_of t tiling q (laid_in q h), level.1 q.x (wide_of q (laid_in q h)))),
  )) (λ q h. own_cell t tiling q (laid_in q h))

  -- where only one square is laid, the tiling is higher than wide
  not_one : (laid : List Square) → r.laid ≡ laid → length laid ≤ 1 → ⊥
  not_one [] e h = omega (arith, deep, level.1 0 (wide_enough t tiling), ap (λ (l : List Square). depth l 0) e)
  not_one (q ∷ s ∷ laid) e h = omega arith
  not_one (q ∷ []) e h = omega (
    arith,
    (covered 0 (wide_enough t tiling)).0,
    (covered (t.width - 1) (omega (arith, wide_enough t tiling))).1,
    bottom_of q (subst (IsOneOf q) (sym e) (inl refl)),
    higher,
    wide,
  )
    where
      covered : (c : ℕ) → c < t.width → (q.x ≤ c) × (c < q.x + q.s)
      covered c a = from (depth_comes_from r.laid c 0 (omega (arith, deep, level.1 c a)))
        where
          only : (z : Square) → IsOneOf z (q ∷ []) → z ≡ q
          only z (inl k) = k
          only z (inr k) = absurd k

          from : (z : Square) × IsOneOf z r.laid × (covers_column c z ≡ true) × (0 < z.y + z.s) → (q.x ≤ c) × (c < q.x + q.s)
          from (z, k, f, g) = subst (λ (y : Square). (y.x ≤ c) × (c < y.x + y.s)) (only z (subst (IsOneOf z) e k)) (column_left c z f, column_right c z f)

  some_laid : 2 ≤ length r.laid
  some_laid = cases (cases_lt 1 (length r.laid))
    where
      cases : (1 < length r.laid) ⊎ (length r.laid ≤ 1) → 2 ≤ length r.laid
      cases (inl h) = omega arith
      cases (inr h) = absurd (not_one r.laid refl h)

  -- one segment before the end would be the bottom of a part
  pub one_segment_cut : ⊥
  one_segment_cut = simple (compound t tiling (record { x = 0; y = 0; width = t.width; height = level.0 })
      (record { right = omega arith; bottom = omega (arith, higher) })
      (λ q h i j a b c f e. within q (is_laid q h i j (omega arith) (omega arith) e))
      (omega (
        arith,
        some_laid,
        many_within t tiling (record { x = 0; y = 0; width = t.width; height = level.0 }) r.laid laid_once
            (λ q h. (laid_in q h, within q h)),
      ))
      (omega (
        arith,
        r.long,
        small,
        order,
        few_within t tiling (record { x = 0; y = 0; width = t.width; height = level.0 }) r.laid
            (λ q h w. is_laid q h q.x q.y (wide_of q h) (omega (arith, w.bottom, side_of t tiling q h)) (own_cell t tiling q h)),
      )))

-- the law
pub one_segment_is_barren : OneSegmentIsBarren
one_segment_is_barren n class front some small one e rest entry word =
    one_segment_cut n e.tiling front rest (entry.member).tiling (entry.member).order (entry.member).simple ((entry.member).canonical).lying some small one
    (subst (IsWordOf e.tiling) word entry.word)

module _ (t : Tiling) (tiling : IsTiling t) (r : Rectangle) (inside : IsWithinWhole t r) (p q : Square) (p_in : IsOneOf p t.squares)
    (q_in : IsOneOf q t.squares) (apart : p ≡ q → ⊥)
    (p_within : IsWithin r p) (q_within : IsWithin r q) (fill : (i j : ℕ) → r.x ≤ i → i < r.x + r.width → r.y ≤ j → j < r.y + r.height
    → (covers i j p ≡ true) ⊎ (covers i j q ≡ true)) where
  one_of_two : (s : Square) → IsOneOf s t.squares → (i j : ℕ) → r.x ≤ i → i < r.x + r.width → r.y ≤ j → j < r.y + r.height
      → covers i j s ≡ true → IsOneOf s (p ∷ q ∷ [])
  one_of_two s h i j a b c d e = cases (fill i j a b c d)
    where
      cases : (covers i j p ≡ true) ⊎ (covers i j q ≡ true) → IsOneOf s (p ∷ q ∷ [])
      cases (inl f) = inl (no_two (covers i j) t.squares
          (omega (arith, cell_once t tiling i j (omega (arith, inside.right)) (omega (arith, inside.bottom)))) s p h e p_in f)
      cases (inr f) = inr (inl (no_two (covers i j) t.squares
          (omega (arith, cell_once t tiling i j (omega (arith, inside.right)) (omega (arith, inside.bottom)))) s q h e q_in f))

  two_once : NoneTwice (p ∷ q ∷ [])
  two_once = ((λ h. other h), ((λ h. h), tt))
    where
      other : IsOneOf p (q ∷ []) → ⊥
      other (inl e) = apart e
      other (inr e) = e

  within_two : (s : Square) → IsOneOf s (p ∷ q ∷ []) → IsOneOf s t.squares × IsWithin r s
  within_two s (inl e) = (subst (λ (z : Square). IsOneOf z t.squares) (sym e) p_in, subst (IsWithin r) (sym e) p_within)
  within_two s (inr (inl e)) = (subst (λ (z : Square). IsOneOf z t.squares) (sym e) q_in, subst (IsWithin r) (sym e) q_within)
  within_two s (inr (inr e)) = absurd e

  -- two squares that fill a rectangle are a part, if there is a third
  pub pair_is_part : 3 ≤ length t.squares → IsCompound t
  pair_is_part many = compound t tiling r inside (λ s h i j a b c d e. (within_two s (one_of_two s h i j a b c d e)).1)
      (omega (arith, many_within t tiling r (p ∷ q ∷ []) two_once within_two))
      (omega (
        arith,
        many,
        few_within t tiling r (p ∷ q ∷ [])
            (λ s h w. let a = w.left in let b = w.right in let c = w.top in let d = w.bottom in
            one_of_two s h s.x s.y a (omega (arith, side_of t tiling s h)) c (omega (arith, side_of t tiling s h)) (own_cell t tiling s h)),
      ))

  -- a third square makes three
  pub three_squares : (s : Square) → IsOneOf s t.squares → (s ≡ p → ⊥) → (s ≡ q → ⊥) → 3 ≤ length t.squares
  three_squares s h a b = omega (arith, fewer (s ∷ p ∷ q ∷ []) t.squares ((λ k. other k), two_once) (λ z k. each z k))
    where
      other : IsOneOf s (p ∷ q ∷ []) → ⊥
      other (inl e) = a e
      other (inr (inl e)) = b e
      other (inr (inr e)) = e

      each : (z : Square) → IsOneOf z (s ∷ p ∷ q ∷ []) → IsOneOf z t.squares
      each z (inl e) = subst (λ (y : Square). IsOneOf y t.squares) (sym e) h
      each z (inr k) = (within_two z k).0
