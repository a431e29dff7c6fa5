-- A tiling with a vertical line from the top to the bottom that no square lies across is compound.
use Rattle.std.proofs.Common.{Bool, List, [], ap, arith, cond, false, filter, inl, inr, length, sym, true, ℕ, ◌++◌, ◌+◌, ◌-◌, ◌<◌, ◌∙◌, ◌∷◌, ◌≡◌, ◌≤◌, ◌⊎◌}
use Rattle.std.proofs.lemmas.Bool.{cases_Bool}
use Rattle.std.proofs.lemmas.List.{length-append}
use Rattle.bk_tiling.proofs.Cells.{counted_one, in_filter, over_from}
use Rattle.bk_tiling.proofs.Members.{in_back, in_front}
use Rattle.bk_tiling.proofs.Sizes.{high_enough}
use Rattle.bk_tiling.proofs.TilingLaws.{cell_once, wide_enough, within_of}
use Rattle.bk_tiling.specs.Tiling.{IsOneOf, IsTiling, IsWithin, Rectangle, Tiling, covers}
use Rattle.bk_tiling.specs.declared.Square.{Square}
use Rattle.bk_simple.specs.Simple.{IsCompound}
use Rattle.bk_lay.proofs.SquaresOnce.{squares_once}
use Rattle.bk_lay.proofs.WordPlay.{fewer}
use Rattle.bk_catalogue.proofs.Members.Parts.{compound, lies_within, within_from, within_to}
use Rattle.bk_catalogue.proofs.MoveCuts.LinesLeft.{LineLeft}

fewer_pass : (p : Square → Bool) (squares : List Square) → length (filter p squares) ≤ length squares
fewer_pass p [] = omega arith
fewer_pass p (q ∷ squares) = cases (p q) (fewer_pass p squares)
  where
    cases : (b : Bool) → length (filter p squares) ≤ length squares → length (cond b (q ∷ filter p squares) (filter p squares)) ≤ length (q ∷ squares)
    cases true h = omega arith
    cases false h = omega arith

less_pass : (p : Square → Bool) (squares : List Square) (q : Square) → IsOneOf q squares → p q ≡ false → length (filter p squares) < length squares
less_pass p [] q h e = absurd h
less_pass p (r ∷ squares) q (inl same) e = omega (arith, ap length refused, fewer_pass p squares)
  where
    refused : filter p (r ∷ squares) ≡ filter p squares
    refused = ap (λ (b : Bool). cond b (r ∷ filter p squares) (filter p squares)) (ap p (sym same) ∙ e)
less_pass p (r ∷ squares) q (inr h) e = cases (p r) (less_pass p squares q h e)
  where
    cases : (b : Bool) → length (filter p squares) < length squares → length (cond b (r ∷ filter p squares) (filter p squares)) < length (r ∷ squares)
    cases true k = omega arith
    cases false k = omega arith

module _ (t : Tiling) (tiling : IsTiling t) (line : LineLeft t) where
  high : 0 < t.height
  high = high_enough t tiling

  abbrev left_part : Rectangle
  left_part = record { x = 0; y = 0; width = line.column; height = t.height }

  abbrev right_part : Rectangle
  right_part = record { x = line.column; y = 0; width = t.width - line.column; height = t.height }

  in_left : (q : Square) → IsOneOf q t.squares → q.x + q.s ≤ line.column → IsWithin left_part q
  in_left q h e = record { left = omega arith; right = omega arith; top = omega arith; bottom = let b = (within_of t tiling q h).bottom in omega arith }

  in_right : (q : Square) → IsOneOf q t.squares → line.column ≤ q.x → IsWithin right_part q
  in_right q h e = record {
    left = e;
    right = let a = (within_of t tiling q h).right in omega (arith, line.left);
    top = omega arith;
    bottom = let b = (within_of t tiling q h).bottom in omega arith;
  }

  -- each square lies in one of the parts, and some square in each
  as_many : length t.squares ≤ length (filter (lies_within left_part) t.squares) + length (filter (lies_within right_part) t.squares)
  as_many = omega (
    arith,
    length-append (filter (lies_within left_part) t.squares) (filter (lies_within right_part) t.squares),
    fewer t.squares (filter (lies_within left_part) t.squares ++ filter (lies_within right_part) t.squares) (squares_once t tiling)
        (λ q h. cases q h (line.clear q h)),
  )
    where
      cases : (q : Square) → IsOneOf q t.squares → (q.x + q.s ≤ line.column) ⊎ (line.column ≤ q.x)
          → IsOneOf q (filter (lies_within left_part) t.squares ++ filter (lies_within right_part) t.squares)
      cases q h (inl e) = in_front (filter (lies_within left_part) t.squares) (filter (lies_within right_part) t.squares) q
          (in_filter (lies_within left_part) t.squares q h (within_to left_part q (in_left q h e)))
      cases q h (inr e) = in_back (filter (lies_within left_part) t.squares) (filter (lies_within right_part) t.squares) q
          (in_filter (lies_within right_part) t.squares q h (within_to right_part q (in_right q h e)))

  one_over : (c : ℕ) → c < t.width → (q : Square) × IsOneOf q t.squares × (q.x ≤ c) × (c < q.x + q.s)
  one_over c h = from (counted_one (covers c 0) t.squares (omega (arith, cell_once t tiling c 0 h high)))
    where
      from : (q : Square) × IsOneOf q t.squares × (covers c 0 q ≡ true) → (q : Square) × IsOneOf q t.squares × (q.x ≤ c) × (c < q.x + q.s)
      from (q, k, e) = let o = over_from c 0 q e in (q, k, o.left, o.right)

  refused : (r : Rectangle) (q : Square) → (IsWithin r q → ⊥) → lies_within r q ≡ false
  refused r q f = cases (cases_Bool (lies_within r q))
    where
      cases : (lies_within r q ≡ true) ⊎ (lies_within r q ≡ false) → lies_within r q ≡ false
      cases (inl e) = absurd (f (within_from r q e))
      cases (inr e) = e

  not_all_left : length (filter (lies_within left_part) t.squares) < length t.squares
  not_all_left = let q = one_over line.column line.left in
      less_pass (lies_within left_part) t.squares q.0 q.1 (refused left_part q.0 (λ w. let r = w.right in omega (arith, q.3)))

  not_all_right : length (filter (lies_within right_part) t.squares) < length t.squares
  not_all_right = let q = one_over 0 (wide_enough t tiling) in
      less_pass (lies_within right_part) t.squares q.0 q.1 (refused right_part q.0 (λ w. let l = w.left in omega (arith, q.2, line.right)))

  reach_left : (q : Square) → IsOneOf q t.squares → (i j : ℕ) → 0 ≤ i → i < 0 + line.column → 0 ≤ j → j < 0 + t.height
      → covers i j q ≡ true → IsWithin left_part q
  reach_left q h i j a b c d e = cases (line.clear q h)
    where
      cases : (q.x + q.s ≤ line.column) ⊎ (line.column ≤ q.x) → IsWithin left_part q
      cases (inl k) = in_left q h k
      cases (inr k) = let o = over_from i j q e in let l = o.left in absurd (omega arith)

  reach_right : (q : Square) → IsOneOf q t.squares → (i j : ℕ) → line.column ≤ i → i < line.column + (t.width - line.column) → 0 ≤ j
      → j < 0 + t.height → covers i j q ≡ true → IsWithin right_part q
  reach_right q h i j a b c d e = cases (line.clear q h)
    where
      cases : (q.x + q.s ≤ line.column) ⊎ (line.column ≤ q.x) → IsWithin right_part q
      cases (inl k) = let o = over_from i j q e in let r = o.right in absurd (omega arith)
      cases (inr k) = in_right q h k

  -- a line from the top to the bottom makes the tiling compound
  pub line_is_compound : 3 ≤ length t.squares → IsCompound t
  line_is_compound many = cases (two (length (filter (lies_within left_part) t.squares)))
    where
      two : (k : ℕ) → (2 ≤ k) ⊎ (k ≤ 1)
      two k = grind arith

      cases : (2 ≤ length (filter (lies_within left_part) t.squares)) ⊎ (length (filter (lies_within left_part) t.squares) ≤ 1) → IsCompound t
      cases (inl h) = compound t tiling left_part (record { right = omega (arith, line.left); bottom = omega arith }) reach_left h not_all_left
      cases (inr h) = compound t tiling right_part (record { right = omega (arith, line.left); bottom = omega arith }) reach_right
          (omega (arith, as_many)) not_all_right
