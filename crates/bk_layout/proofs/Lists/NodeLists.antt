-- Lists by a function: each number stands once in the list of its value. By places, by counts, and with one number moved.
use Rattle.std.proofs.Common.{List, Some, ap, arith, cond, inl, inr, nat_eq, refl, slice_get, subst, suc, sym, zero, ℕ}
use Rattle.std.proofs.Common.{◌+◌, ◌<◌, ◌∙◌, ◌≡◌, ◌≤◌, ◌⊎◌}
use Rattle.std.proofs.lemmas.Bool.{cases_eq}
use Rattle.bk_laws.proofs.Occurrences.{slice_get-of_times_positive, times, times-le_one_of_unique_place, times-positive_of_slice_get}
use Rattle.bk_laws.proofs.Occurrences.{unique_place-of_times_le_one}
use Rattle.bk_laws.proofs.TestsAsNumbers.{cond_count-nat_eq_other, cond_count-nat_eq_same}
use Rattle.bk_layout.specs.Layout.{AreLists, Layout}

-- each number below a bound stands once in the list of its value, and no other number does anywhere
pub record Sorted (n : ℕ) (a : ℕ → ℕ) (h : ℕ → List ℕ) : Type 0 where
  pub counted : (x w : ℕ) → x < n → times x (h w) ≡ cond {A = ℕ} (nat_eq (a x) w) 1 0
  pub low : (x w : ℕ) → 0 < times x (h w) → x < n

-- ---- by places

module _ (n : ℕ) (a : ℕ → ℕ) (h : ℕ → List ℕ) (s : Sorted n a h) where
  -- what stands in the list of a node has this node
  pub sorted_is : (v k q : ℕ) → slice_get (h v) k ≡ Some q → (q < n) × (a q ≡ v)
  sorted_is v k q e = (below, cases (cases_eq (a q) v))
    where
      below : q < n
      below = s.low q v (times-positive_of_slice_get (h v) k q e)

      cases : (a q ≡ v) ⊎ (a q ≡ v → ⊥) → a q ≡ v
      cases (inl f) = f
      cases (inr f) = absurd (omega (arith, times-positive_of_slice_get (h v) k q e, s.counted q v below, cond_count-nat_eq_other (a q) v f))

  -- each square stands in the list of its node
  pub sorted_has : (q : ℕ) → q < n → (k : ℕ) × (slice_get (h (a q)) k ≡ Some q)
  sorted_has q low = slice_get-of_times_positive (h (a q)) q (omega (arith, s.counted q (a q) low, cond_count-nat_eq_same (a q) (a q) refl))

  -- a square stands at one place only in the list of its node
  pub sorted_once : (v j k q : ℕ) → slice_get (h v) j ≡ Some q → slice_get (h v) k ≡ Some q → j ≡ k
  sorted_once v j k q e f = unique_place-of_times_le_one (h v) q (few (cases_eq (a q) v)) j k e f
    where
      few : (a q ≡ v) ⊎ (a q ≡ v → ⊥) → times q (h v) ≤ 1
      few (inl g) = omega (arith, s.counted q v (s.low q v (times-positive_of_slice_get (h v) j q e)), cond_count-nat_eq_same (a q) v g)
      few (inr g) = omega (arith, s.counted q v (s.low q v (times-positive_of_slice_get (h v) j q e)), cond_count-nat_eq_other (a q) v g)

-- lists in which each number has one place, in that of its value, are such lists
pub sorted_by_places : (n : ℕ) (a : ℕ → ℕ) (h : ℕ → List ℕ) → ((v k q : ℕ) → slice_get (h v) k ≡ Some q → (q < n) × (a q ≡ v))
    → ((q : ℕ) → q < n → (k : ℕ) × (slice_get (h (a q)) k ≡ Some q))
    → ((v j k q : ℕ) → slice_get (h v) j ≡ Some q → slice_get (h v) k ≡ Some q → j ≡ k) → Sorted n a h
sorted_by_places n a h is has once = record { counted = λ q v low. counted q v low (cases_eq (a q) v); low = λ q v some. below q v some }
  where
    below : (q v : ℕ) → 0 < times q (h v) → q < n
    below q v some = let g = slice_get-of_times_positive (h v) q some in (is v g.0 q g.1).0

    none : (q v : ℕ) → (a q ≡ v → ⊥) → (t : ℕ) → times q (h v) ≡ t → times q (h v) ≡ 0
    none q v e zero t = t
    none q v e (suc n) t = let g = slice_get-of_times_positive (h v) q (omega (arith, t)) in absurd (e (is v g.0 q g.1).1)

    counted : (q v : ℕ) → q < n → (a q ≡ v) ⊎ (a q ≡ v → ⊥) → times q (h v) ≡ cond {A = ℕ} (nat_eq (a q) v) 1 0
    counted q v low (inl e) = let g = has q low in
        omega (
          arith,
          cond_count-nat_eq_same (a q) v e,
          times-positive_of_slice_get (h v) g.0 q (subst (λ (u : ℕ). slice_get (h u) g.0 ≡ Some q) e g.1),
          times-le_one_of_unique_place (h v) q (λ j k f g. once v j k q f g),
        )
    counted q v low (inr e) = omega (arith, cond_count-nat_eq_other (a q) v e, none q v e (times q (h v)) refl)

-- what hangs from the nodes of a layout are such lists
pub hanging_sorted : (l : Layout) → AreLists l → Sorted l.squares l.above l.hanging
hanging_sorted l lists = sorted_by_places l.squares l.above l.hanging lists.hanging_is lists.hangs lists.hanging_once

-- what ends on the nodes of a layout are lists in which each square stands once, at its own node
pub ending_sorted : (l : Layout) → AreLists l → Sorted l.squares l.below l.ending
ending_sorted l lists = sorted_by_places l.squares l.below l.ending lists.ending_is lists.ends lists.ending_once

-- lists of what hangs and of what ends, in which each square stands once, at its own node, are those of a layout
pub lists_of_sorted : (l : Layout) → Sorted l.squares l.above l.hanging → Sorted l.squares l.below l.ending → AreLists l
lists_of_sorted l hangings endings = record {
  hanging_is = sorted_is l.squares l.above l.hanging hangings;
  ending_is = sorted_is l.squares l.below l.ending endings;
  hangs = sorted_has l.squares l.above l.hanging hangings;
  ends = sorted_has l.squares l.below l.ending endings;
  hanging_once = sorted_once l.squares l.above l.hanging hangings;
  ending_once = sorted_once l.squares l.below l.ending endings;
}

-- ---- one number moved

-- a number is the first of two, or the second, or neither
pub same_as_one : (u v w : ℕ) → (w ≡ u) ⊎ ((w ≡ v) ⊎ ((w ≡ u → ⊥) × (w ≡ v → ⊥)))
same_as_one u v w = on (cases_eq w u) (cases_eq w v)
  where
    on : (w ≡ u) ⊎ (w ≡ u → ⊥) → (w ≡ v) ⊎ (w ≡ v → ⊥) → (w ≡ u) ⊎ ((w ≡ v) ⊎ ((w ≡ u → ⊥) × (w ≡ v → ⊥)))
    on (inl e) f = inl e
    on (inr e) (inl f) = inr (inl f)
    on (inr e) (inr f) = inr (inr (e, f))

-- values and lists before and after a number is moved from the list of one value to that of another
pub record IsMoved (a b : ℕ → ℕ) (h i : ℕ → List ℕ) (q new : ℕ) : Type 0 where
  pub is : b q ≡ new
  pub apart : a q ≡ new → ⊥
  pub others : (x : ℕ) → (x ≡ q → ⊥) → b x ≡ a x
  pub fewer : (x : ℕ) → times x (h (a q)) ≡ times x (i (a q)) + cond {A = ℕ} (nat_eq x q) 1 0
  pub more : (x : ℕ) → times x (i new) ≡ times x (h new) + cond {A = ℕ} (nat_eq x q) 1 0
  pub kept : (w : ℕ) → (w ≡ a q → ⊥) → (w ≡ new → ⊥) → i w ≡ h w

-- after that each number stands once in the list of its value
pub sorted_moved : (n : ℕ) (a b : ℕ → ℕ) (h i : ℕ → List ℕ) (q new : ℕ) → q < n → Sorted n a h → IsMoved a b h i q new → Sorted n b i
sorted_moved n a b h i q new q_low s m =
    record { counted = λ x w low. counted x w low (cases_eq x q); low = λ x w some. low x w some (cases_eq x q) }
  where
    same : (x w : ℕ) → (x ≡ q → ⊥) → times x (i w) ≡ times x (h w)
    same x w differ = on (same_as_one (a q) new w)
      where
        on : (w ≡ a q) ⊎ ((w ≡ new) ⊎ ((w ≡ a q → ⊥) × (w ≡ new → ⊥))) → times x (i w) ≡ times x (h w)
        on (inl e) = subst (λ (y : ℕ). times x (i y) ≡ times x (h y)) (sym e) (omega (arith, m.fewer x, cond_count-nat_eq_other x q differ))
        on (inr (inl e)) = subst (λ (y : ℕ). times x (i y) ≡ times x (h y)) (sym e) (omega (arith, m.more x, cond_count-nat_eq_other x q differ))
        on (inr (inr (e, f))) = ap (times x) (m.kept w e f)

    moved : (w : ℕ) → times q (i w) ≡ cond {A = ℕ} (nat_eq (b q) w) 1 0
    moved w = on (same_as_one (a q) new w)
      where
        on : (w ≡ a q) ⊎ ((w ≡ new) ⊎ ((w ≡ a q → ⊥) × (w ≡ new → ⊥))) → times q (i w) ≡ cond {A = ℕ} (nat_eq (b q) w) 1 0
        on (inl e) = subst (λ (y : ℕ). times q (i y) ≡ cond {A = ℕ} (nat_eq (b q) y) 1 0) (sym e) (omega (
          arith,
          m.fewer q,
          cond_count-nat_eq_same q q refl,
          s.counted q (a q) q_low,
          cond_count-nat_eq_same (a q) (a q) refl,
          cond_count-nat_eq_other (b q) (a q) (λ f. m.apart (sym f ∙ m.is)),
        ))
        on (inr (inl e)) = subst (λ (y : ℕ). times q (i y) ≡ cond {A = ℕ} (nat_eq (b q) y) 1 0) (sym e) (omega (
          arith,
          m.more q,
          cond_count-nat_eq_same q q refl,
          s.counted q new q_low,
          cond_count-nat_eq_other (a q) new (λ f. m.apart f),
          cond_count-nat_eq_same (b q) new m.is,
        ))
        on (inr (inr (e, f))) = ap (times q) (m.kept w e f) ∙ s.counted q w q_low
            ∙ cond_count-nat_eq_other (a q) w (λ g. e (sym g)) ∙ sym (cond_count-nat_eq_other (b q) w (λ g. f (sym g ∙ m.is)))

    counted : (x w : ℕ) → x < n → (x ≡ q) ⊎ (x ≡ q → ⊥) → times x (i w) ≡ cond {A = ℕ} (nat_eq (b x) w) 1 0
    counted x w x_low (inl e) = subst (λ (y : ℕ). times y (i w) ≡ cond {A = ℕ} (nat_eq (b y) w) 1 0) (sym e) (moved w)
    counted x w x_low (inr e) = same x w e ∙ s.counted x w x_low ∙ ap (λ (y : ℕ). cond {A = ℕ} (nat_eq y w) 1 0) (sym (m.others x e))

    low : (x w : ℕ) → 0 < times x (i w) → (x ≡ q) ⊎ (x ≡ q → ⊥) → x < n
    low x w some (inl e) = omega (arith, e, q_low)
    low x w some (inr e) = s.low x w (omega (arith, some, same x w e))
