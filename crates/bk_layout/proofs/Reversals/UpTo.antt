-- Up to reversals: each layout is so to itself, and one after another.
use Rattle.std.proofs.Common.{Bool, ap, arith, cond, false, inl, inr, refl, true, ℕ, ◌<◌, ◌∙◌, ◌≡◌, ◌⊎◌}
use Rattle.bk_laws.proofs.Truth.{absurd-of_true_and_false}
use Rattle.bk_layout.specs.Layout.{Layout}
use Rattle.bk_layout.specs.Reversal.{IsUpToReversals}

-- a layout is itself up to reversals
pub up_to_itself : (l : Layout) → IsUpToReversals l l
up_to_itself l = record {
  is_reversed = λ q. false;
  squares = refl;
  bottom = refl;
  top = refl;
  above_kept = λ q h e. refl;
  below_kept = λ q h e. refl;
  left_kept = λ q h e. refl;
  right_kept = λ q h e. refl;
  above_reversed = λ q h e. absurd-of_true_and_false false e refl;
  below_reversed = λ q h e. absurd-of_true_and_false false e refl;
  left_reversed = λ q h e. absurd-of_true_and_false false e refl;
  right_reversed = λ q h e. absurd-of_true_and_false false e refl;
  later = λ q h e. absurd-of_true_and_false false e refl;
}

-- no square is reversed in it
pub none_reversed : (l : Layout) (q : ℕ) → (up_to_itself l).is_reversed q ≡ false
unfolding up_to_itself
none_reversed l q = refl

-- the nodes and the lines of a square
abbrev stand : Layout → ℕ → ℕ × ℕ × ℕ × ℕ
stand l q = (l.above q, l.below q, l.left q, l.right q)

-- those of a square that stands reversed
abbrev reverse : ℕ × ℕ × ℕ × ℕ → ℕ × ℕ × ℕ × ℕ
reverse s = (s.1, s.0, s.3, s.2)

module _ (l m : Layout) (a : IsUpToReversals l m) (q : ℕ) (low : q < l.squares) where
  kept : a.is_reversed q ≡ false → stand m q ≡ stand l q
  kept e = λ i. (a.above_kept q low e i, a.below_kept q low e i, a.left_kept q low e i, a.right_kept q low e i)

  reversed : a.is_reversed q ≡ true → stand m q ≡ reverse (stand l q)
  reversed e = λ i. (a.above_reversed q low e i, a.below_reversed q low e i, a.left_reversed q low e i, a.right_reversed q low e i)

module _ (l m n : Layout) (a : IsUpToReversals l m) (b : IsUpToReversals m n) where
  abbrev both : ℕ → Bool
  both q = cond (b.is_reversed q) (cond (a.is_reversed q) false true) (a.is_reversed q)

  -- reversed in neither or in both a square stands as before, reversed in one it stands reversed
  one_of : (q : ℕ) → q < l.squares → ((both q ≡ false) × (stand n q ≡ stand l q)) ⊎ ((both q ≡ true) × (stand n q ≡ reverse (stand l q)) × (0 < l.above q))
  one_of q low = on (a.is_reversed q) refl (b.is_reversed q) refl
    where
      low_m : q < m.squares
      low_m = omega (arith, low, a.squares)

      is : {x y : Bool} → a.is_reversed q ≡ x → b.is_reversed q ≡ y → both q ≡ cond y (cond x false true) x
      is e f = λ i. cond {A = Bool} (f i) (cond {A = Bool} (e i) false true) (e i)

      on : (x : Bool) → a.is_reversed q ≡ x → (y : Bool) → b.is_reversed q ≡ y
          → ((both q ≡ false) × (stand n q ≡ stand l q)) ⊎ ((both q ≡ true) × (stand n q ≡ reverse (stand l q)) × (0 < l.above q))
      on true e true f = inl (is e f, reversed m n b q low_m f ∙ ap reverse (reversed l m a q low e))
      on true e false f = inr (is e f, kept m n b q low_m f ∙ reversed l m a q low e, a.later q low e)
      on false e true f = inr (is e f, reversed m n b q low_m f ∙ ap reverse (kept l m a q low e), omega (arith, b.later q low_m f, a.above_kept q low e))
      on false e false f = inl (is e f, kept m n b q low_m f ∙ kept l m a q low e)

  stays : (q : ℕ) → q < l.squares → both q ≡ false → stand n q ≡ stand l q
  stays q low e = on (one_of q low)
    where
      on : ((both q ≡ false) × (stand n q ≡ stand l q)) ⊎ ((both q ≡ true) × (stand n q ≡ reverse (stand l q)) × (0 < l.above q)) → stand n q ≡ stand l q
      on (inl k) = k.1
      on (inr k) = absurd-of_true_and_false (both q) k.0 e

  reverses : (q : ℕ) → q < l.squares → both q ≡ true → (stand n q ≡ reverse (stand l q)) × (0 < l.above q)
  reverses q low e = on (one_of q low)
    where
      on : ((both q ≡ false) × (stand n q ≡ stand l q)) ⊎ ((both q ≡ true) × (stand n q ≡ reverse (stand l q)) × (0 < l.above q))
          → (stand n q ≡ reverse (stand l q)) × (0 < l.above q)
      on (inl k) = absurd-of_true_and_false (both q) e k.0
      on (inr k) = (k.1, k.2)

  -- up to reversals is transitive
  pub up_to_both : IsUpToReversals l n
  up_to_both = record {
    is_reversed = both;
    squares = b.squares ∙ a.squares;
    bottom = b.bottom ∙ a.bottom;
    top = b.top ∙ a.top;
    above_kept = λ q h e i. (stays q h e i).0;
    below_kept = λ q h e i. (stays q h e i).1;
    left_kept = λ q h e i. (stays q h e i).2;
    right_kept = λ q h e i. (stays q h e i).3;
    above_reversed = λ q h e i. ((reverses q h e).0 i).0;
    below_reversed = λ q h e i. ((reverses q h e).0 i).1;
    left_reversed = λ q h e i. ((reverses q h e).0 i).2;
    right_reversed = λ q h e i. ((reverses q h e).0 i).3;
    later = λ q h e. (reverses q h e).1;
  }
