-- Lists of numbers, sides and signs, as the placing goes through them.
use Rattle.std.proofs.Common.{List, [], arith, drop, get_or, length, map, refl, slice_index_or, subst, suc, sym, zero, ℕ, ◌+◌, ◌<◌, ◌∷◌, ◌≡◌, ◌≤◌}
use Rattle.bk_word.specs.declared.Sign.{Sign}
use Rattle.bk_lay.specs.TilingWord.{sign_between, signs_between}

-- the signs from a place on: the one there and the further ones
pub record SignsAt (b : ℕ → ℕ) (signs : List Sign) (numbers : List ℕ) (i : ℕ) (d : Sign) : Type 0 where
  pub forth : drop i signs ≡ signs_between (map b (drop i numbers))
      → (slice_index_or signs i d ≡ sign_between (b (get_or numbers i 0)) (b (get_or numbers (i + 1) 0)))
      × (drop (i + 1) signs ≡ signs_between (map b (drop (i + 1) numbers)))
  pub back : slice_index_or signs i d ≡ sign_between (b (get_or numbers i 0)) (b (get_or numbers (i + 1) 0))
      → drop (i + 1) signs ≡ signs_between (map b (drop (i + 1) numbers)) → drop i signs ≡ signs_between (map b (drop i numbers))

-- signs between the bottoms of squares: the one at a place, and those behind it
pub signs_at : (b : ℕ → ℕ) (signs : List Sign) (numbers : List ℕ) (i : ℕ) (d : Sign) → i < length signs → length signs + 1 ≡ length numbers
    → SignsAt b signs numbers i d
signs_at b [] numbers i d h e = absurd (omega arith)
signs_at b (s ∷ signs) [] i d h e = absurd (omega arith)
signs_at b (s ∷ signs) (n ∷ []) i d h e = absurd (omega arith)
signs_at b (s ∷ signs) (n ∷ m ∷ numbers) zero d h e = record { forth = λ f. (head f, tail f); back = λ f g. λ i. f i ∷ g i }
  where
    head : s ∷ signs ≡ sign_between (b n) (b m) ∷ signs_between (map b (m ∷ numbers)) → s ≡ sign_between (b n) (b m)
    head f = cc

    tail : s ∷ signs ≡ sign_between (b n) (b m) ∷ signs_between (map b (m ∷ numbers)) → signs ≡ signs_between (map b (m ∷ numbers))
    tail f = cc
signs_at b (s ∷ signs) (n ∷ m ∷ numbers) (suc i) d h e = again (signs_at b signs (m ∷ numbers) i d (omega arith) (omega arith))
  where
    next : i + 1 ≡ suc i
    next = omega arith

    next_again : suc i + 1 ≡ suc (suc i)
    next_again = omega arith

    again : SignsAt b signs (m ∷ numbers) i d → SignsAt b (s ∷ signs) (n ∷ m ∷ numbers) (suc i) d
    again r = record {
      forth = λ f. let p = r.forth f in (
        subst (λ (k : ℕ). slice_index_or signs i d ≡ sign_between (b (get_or (m ∷ numbers) i 0)) (b (get_or (n ∷ m ∷ numbers) k 0))) (sym next_again)
            (subst (λ (k : ℕ). slice_index_or signs i d ≡ sign_between (b (get_or (m ∷ numbers) i 0)) (b (get_or (m ∷ numbers) k 0))) next p.0),
        subst (λ (k : ℕ). drop k (s ∷ signs) ≡ signs_between (map b (drop k (n ∷ m ∷ numbers)))) (sym next_again)
            (subst (λ (k : ℕ). drop k signs ≡ signs_between (map b (drop k (m ∷ numbers)))) next p.1),
      );
      back = λ f g. r.back
          (subst (λ (k : ℕ). slice_index_or signs i d ≡ sign_between (b (get_or (m ∷ numbers) i 0)) (b (get_or (m ∷ numbers) k 0))) (sym next)
          (subst (λ (k : ℕ). slice_index_or signs i d ≡ sign_between (b (get_or (m ∷ numbers) i 0)) (b (get_or (n ∷ m ∷ numbers) k 0))) next_again f))
          (subst (λ (k : ℕ). drop k signs ≡ signs_between (map b (drop k (m ∷ numbers)))) (sym next)
          (subst (λ (k : ℕ). drop k (s ∷ signs) ≡ signs_between (map b (drop k (n ∷ m ∷ numbers)))) next_again g));
    }

-- past the last sign there is one square and nothing to compare
pub signs_done : (b : ℕ → ℕ) (signs : List Sign) (numbers : List ℕ) (i : ℕ) → length signs ≤ i → i ≤ length signs
    → length signs + 1 ≡ length numbers → drop i signs ≡ signs_between (map b (drop i numbers))
signs_done b [] [] i g h e = absurd (omega arith)
signs_done b [] (n ∷ []) zero g h e = refl
signs_done b [] (n ∷ m ∷ numbers) i g h e = absurd (omega arith)
signs_done b [] (n ∷ []) (suc i) g h e = absurd (omega arith)
signs_done b (s ∷ signs) [] i g h e = absurd (omega arith)
signs_done b (s ∷ signs) (n ∷ numbers) zero g h e = absurd (omega arith)
signs_done b (s ∷ signs) (n ∷ numbers) (suc i) g h e = signs_done b signs numbers i (omega arith) (omega arith) (omega arith)
