-- Where each square of a complete word ends, as it is read: at the node that closes it, or at the last one.
use Rattle.std.specs.List.{list_any}
use Rattle.std.proofs.Common.{Bool, List, [], ap, arith, cond, false, inl, inr, length, map, nat_eq, not, refl, slice_index, suc, sym, take, true, zero, ℕ}
use Rattle.std.proofs.Common.{◌++◌, ◌+◌, ◌<◌, ◌∙◌, ◌∷◌, ◌≡◌, ◌≤◌, ◌⊎◌}
use Rattle.std.proofs.lemmas.List.{length-take-le}
use Rattle.bk_laws.proofs.Occurrences.{times, times-list_any_cases, times_in}
use Rattle.bk_laws.proofs.ListItems.{slice_index-extensionality, slice_index-take}
use Rattle.bk_laws.proofs.ListsOfLists.{only_list-of_length_one}
use Rattle.bk_laws.proofs.TestsAsNumbers.{cond-open_end}
use Rattle.bk_word.specs.Outline.{Outline}
use Rattle.bk_word.specs.Play.{numbers_from}
use Rattle.bk_word_net.proofs.Outlines.Numbering.{Numbered, times_one}
use Rattle.bk_word_net.specs.WordNet.{end_of}

end_last : (closed : List (List ℕ)) (s : List ℕ) (q : ℕ) → 0 < times_in q (closed ++ s ∷ []) → end_of closed q ≡ end_of (closed ++ s ∷ []) q
end_last [] s q h = cases (times-list_any_cases q s)
  where
    there : list_any (nat_eq q) s ≡ true → ◌≡◌ {A = ℕ} 0 (cond (not (list_any (nat_eq q) s)) (1 + 0) 0)
    there e = sym (ap (λ (b : Bool). cond (not b) (1 + 0) 0) e)

    cases : ((list_any (nat_eq q) s ≡ true) × (0 < times q s)) ⊎ ((list_any (nat_eq q) s ≡ false) × (times q s ≡ 0))
        → ◌≡◌ {A = ℕ} 0 (cond (not (list_any (nat_eq q) s)) (1 + 0) 0)
    cases (inl a) = there a.0
    cases (inr a) = absurd (omega (arith, h, a.1))
end_last (x ∷ closed) s q h = cases (times-list_any_cases q x) (end_last closed s q)
  where
    cases : ((list_any (nat_eq q) x ≡ true) × (0 < times q x)) ⊎ ((list_any (nat_eq q) x ≡ false) × (times q x ≡ 0))
        → (0 < times_in q (closed ++ s ∷ []) → end_of closed q ≡ end_of (closed ++ s ∷ []) q)
        → ◌≡◌ {A = ℕ} (cond (not (list_any (nat_eq q) x)) (1 + end_of closed q) 0) (cond (not (list_any (nat_eq q) x)) (1 + end_of (closed ++ s ∷ []) q) 0)
    cases (inl a) rest = ap (λ (b : Bool). cond (not b) (1 + end_of closed q) 0) a.0
        ∙ sym (ap (λ (b : Bool). cond (not b) (1 + end_of (closed ++ s ∷ []) q) 0) a.0)
    cases (inr a) rest = cond-open_end (not (list_any (nat_eq q) x)) (end_of closed q) (end_of (closed ++ s ∷ []) q) (λ e. rest (omega (arith, h, a.1)))

index_map : (f : ℕ → ℕ) (b n k : ℕ) → k < n → slice_index (map f (numbers_from b n)) k ≡ f (b + k)
index_map f b zero k h = absurd (omega arith)
index_map f b (suc n) zero h = ap f same
  where
    same : b ≡ b + 0
    same = omega arith
index_map f b (suc n) (suc k) h = index_map f (b + 1) n k (omega arith) ∙ ap f same
  where
    same : b + 1 + k ≡ b + suc k
    same = omega arith

length-numbered : (f : ℕ → ℕ) (b n : ℕ) → length (map f (numbers_from b n)) ≡ n
length-numbered f b zero = refl
length-numbered f b (suc n) = ap suc (length-numbered f (b + 1) n)

-- where each square ends, as it is read, is where it ends in the outline of a complete word
pub ends_read_are_those_of_the_outline : (o : Outline) (n : ℕ) (ended : List ℕ) → Numbered o → length o.segments ≡ 1 → n ≡ length o.hung → n ≤ 200
    → length ended ≡ 200 → ((k : ℕ) → k < 200 → slice_index ended k ≡ end_of o.closed (k + 1))
    → take n ended ≡ map (end_of (o.closed ++ o.segments)) (numbers_from 1 n)
ends_read_are_those_of_the_outline o n ended numbered one all few long read =
    slice_index-extensionality (take n ended) (map (end_of (o.closed ++ o.segments)) (numbers_from 1 n))
    (taken ∙ sym (length-numbered (end_of (o.closed ++ o.segments)) 1 n)) each
  where
    taken : length (take n ended) ≡ n
    taken = length-take-le n ended (omega arith)

    last : (s : List ℕ) × (o.segments ≡ s ∷ [])
    last = only_list-of_length_one o.segments one

    each : (k : ℕ) → k < length (take n ended) → slice_index (take n ended) k ≡ slice_index (map (end_of (o.closed ++ o.segments)) (numbers_from 1 n)) k
    each k h = slice_index-take n ended k below ∙ read k (omega (arith, below)) ∙ end_last o.closed last.0 (k + 1) there
        ∙ ap (λ (l : List (List ℕ)). end_of (o.closed ++ l) (k + 1)) (sym last.1)
        ∙ ap (end_of (o.closed ++ o.segments)) same ∙ sym (index_map (end_of (o.closed ++ o.segments)) 1 n k below)
      where
        below : k < n
        below = omega (arith, taken)

        same : k + 1 ≡ 1 + k
        same = omega arith

        there : 0 < times_in (k + 1) (o.closed ++ last.0 ∷ [])
        there = omega (
          arith,
          ap (λ (l : List (List ℕ)). times_in (k + 1) (o.closed ++ l)) last.1,
          numbered (k + 1),
          times_one (k + 1) 1 (length o.hung) (omega arith) (omega (arith, below)),
        )
