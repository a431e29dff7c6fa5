-- Levels and bottoms in one proportion compare alike: the signs between them are the same.
use Rattle.std.proofs.Common.{Bool, List, [], ap, arith, cond, false, inl, inr, length, map, refl, slice_index_or, suc, sym, true, zero, ℕ, ◌*◌, ◌++◌}
use Rattle.std.proofs.Common.{◌+◌, ◌-◌, ◌<◌, ◌∙◌, ◌∷◌, ◌≡◌, ◌≤◌, ◌⊎◌}
use Rattle.std.proofs.lemmas.Bool.Decides.{nat_tests}
use Rattle.std.proofs.lemmas.List.{map-append}
use Rattle.bk_laws.proofs.NumberOrder.{lt_or_eq_or_gt}
use Rattle.bk_laws.proofs.Occurrences.{times, times-first_positive, times_at, times_in}
use Rattle.bk_laws.proofs.Products.{mul_below}
use Rattle.bk_word.specs.Outline.{Outline, has_left_wall, has_right_wall, valley_place}
use Rattle.bk_word.specs.Play.{new_squares, numbers_from}
use Rattle.bk_word.specs.Word.{Move}
use Rattle.bk_lay.specs.TilingWord.{sign_between, signs_between}
use Rattle.bk_word_net.specs.FlowTiling.{bottoms_of_move, segment_bottom}

sign_scaled : (k a b : ℕ) → 0 < k → sign_between (k * a) (k * b) ≡ sign_between a b
sign_scaled k a b h = cases (lt_or_eq_or_gt a b)
  where
    less : (a b c d : ℕ) → a < b → c < d → sign_between a b ≡ sign_between c d
    less a b c d e f = grind (arith, nat_tests)

    more : (a b c d : ℕ) → b < a → d < c → sign_between a b ≡ sign_between c d
    more a b c d e f = grind (arith, nat_tests)

    even : (a b c d : ℕ) → a ≡ b → c ≡ d → sign_between a b ≡ sign_between c d
    even a b c d e f = grind (arith, nat_tests)

    cases : (a < b) ⊎ (a ≡ b) ⊎ (b < a) → sign_between (k * a) (k * b) ≡ sign_between a b
    cases (inl l) = less (k * a) (k * b) a b (mul_below k a b h l) l
    cases (inr (inl e)) = even (k * a) (k * b) a b (ap (λ (n : ℕ). k * n) e) e
    cases (inr (inr l)) = more (k * a) (k * b) a b (mul_below k b a h l) l

-- signs between levels stay when these are multiplied
pub signs_scaled : (k : ℕ) (ls : List ℕ) → 0 < k → signs_between (map (λ n. k * n) ls) ≡ signs_between ls
signs_scaled k [] h = refl
signs_scaled k (a ∷ []) h = refl
signs_scaled k (a ∷ b ∷ ls) h = λ i. sign_scaled k a b h i ∷ signs_scaled k (b ∷ ls) h i

module _ (k l most : ℕ) (b c : ℕ → ℕ) (alike : (n : ℕ) → 1 ≤ n → n ≤ most → k * b n ≡ l * c n) where
  segment_alike : (numbers : List ℕ) → ((n : ℕ) → 0 < times n numbers → (1 ≤ n) × (n ≤ most)) → k * segment_bottom b numbers ≡ l * segment_bottom c numbers
  segment_alike [] each = omega arith
  segment_alike (n ∷ numbers) each = let r = each n (times-first_positive n numbers) in alike n r.0 r.1

  new_alike : (n j : ℕ) → 1 ≤ n → n + j ≤ most + 1 → map (λ m. k * m) (map b (numbers_from n j)) ≡ map (λ m. l * m) (map c (numbers_from n j))
  new_alike n zero h e = refl
  new_alike n (suc j) h e = λ i. alike n h (omega arith) i ∷ new_alike (n + 1) j (omega arith) (omega arith) i

  side_alike : (wall : Bool) (x y : ℕ) → k * x ≡ l * y → map (λ m. k * m) (cond wall [] (x ∷ [])) ≡ map (λ m. l * m) (cond wall [] (y ∷ []))
  side_alike true x y e = refl
  side_alike false x y e = ap (λ (m : ℕ). m ∷ []) e

  -- bottoms in one proportion, those of a move
  pub bottoms_alike : (o : Outline) (m : Move) → ((n : ℕ) → 0 < times_in n o.segments → (1 ≤ n) × (n ≤ most))
      → length o.hung + m.count ≤ most → map (λ n. k * n) (bottoms_of_move b o m) ≡ map (λ n. l * n) (bottoms_of_move c o m)
  bottoms_alike o m each few =
      map-append (λ n. k * n) (left b ++ map b (new_squares o m)) (right b)
      ∙ ap (λ (xs : List ℕ). xs ++ map (λ n. k * n) (right b)) (map-append (λ n. k * n) (left b) (map b (new_squares o m)))
      ∙ (λ i. (side_alike (has_left_wall o) (segment_bottom b (slice_index_or o.segments (valley_place o.signs - 1) []))
      (segment_bottom c (slice_index_or o.segments (valley_place o.signs - 1) []))
      (segment_alike (slice_index_or o.segments (valley_place o.signs - 1) []) (at (valley_place o.signs - 1))) i
      ++ new_alike (length o.hung + 1) m.count (omega arith) (omega arith) i)
      ++ side_alike (has_right_wall o) (segment_bottom b (slice_index_or o.segments (valley_place o.signs + 1) []))
      (segment_bottom c (slice_index_or o.segments (valley_place o.signs + 1) []))
      (segment_alike (slice_index_or o.segments (valley_place o.signs + 1) []) (at (valley_place o.signs + 1))) i)
      ∙ sym (map-append (λ n. l * n) (left c ++ map c (new_squares o m)) (right c)
      ∙ ap (λ (xs : List ℕ). xs ++ map (λ n. l * n) (right c)) (map-append (λ n. l * n) (left c) (map c (new_squares o m))))
    where
      left : (ℕ → ℕ) → List ℕ
      left f = cond (has_left_wall o) [] (segment_bottom f (slice_index_or o.segments (valley_place o.signs - 1) []) ∷ [])

      right : (ℕ → ℕ) → List ℕ
      right f = cond (has_right_wall o) [] (segment_bottom f (slice_index_or o.segments (valley_place o.signs + 1) []) ∷ [])

      at : (p n : ℕ) → 0 < times n (slice_index_or o.segments p []) → (1 ≤ n) × (n ≤ most)
      at p n h = each n (omega (arith, h, times_at n p o.segments))
