-- The lines that a closed node touches are the same after the next move as before it.
use Rattle.std.proofs.Common.{List, Some, [], ap, arith, inl, inr, length, length-append, replicate, slice_get, subst, suc, sym, ℕ, ◌-◌, ◌<◌, ◌∙◌}
use Rattle.std.proofs.Common.{◌∷◌, ◌≡◌, ◌≤◌, ◌⊎◌}
use Rattle.std.proofs.lemmas.Bool.{cases_lt}
use Rattle.std.proofs.lemmas.Option.{get_or_from_slice_get}
use Rattle.bk_laws.proofs.ListPlaces.{get_after, get_append, get_front, slice_get-append_front_back, slice_get-replicate_is}
use Rattle.bk_laws.proofs.Occurrences.{times, times-positive_of_slice_get, times_at, times_in-append}
use Rattle.bk_word.specs.Outline.{Outline, valley_of}
use Rattle.bk_word.specs.Play.{after_move}
use Rattle.bk_word.specs.Word.{Move}
use Rattle.bk_word_net.proofs.WordFlows.NoLoose.{hung_number}
use Rattle.bk_word_net.proofs.Outlines.Numbering.{Numbered}
use Rattle.bk_layout.specs.LineNumbers.{left_end, new_sides, right_end, sides_after, sides_at}
use Rattle.bk_layout.specs.NodeCut.{TouchesClosed}
use Rattle.bk_layout.specs.SharedNodes.{IsAtClosed}

-- what a closed node touches it touches after the next move
at_after : (o : Outline) (m : Move) (place v : ℕ) → IsAtClosed o place v → IsAtClosed (after_move o m) place v
at_after o m place v a = record {
  within = omega (arith, a.within, length-append o.hung (replicate m.count (length o.closed)));
  closed = omega (arith, a.closed, length-append o.closed (valley_of o ∷ []));
  at = cases a.at;
}
  where
    cases : (slice_get o.hung place ≡ Some v) ⊎ ((k : ℕ) × (numbers : List ℕ) × (slice_get o.closed v ≡ Some numbers)
        × (slice_get numbers k ≡ Some (suc place)))
        → (slice_get (after_move o m).hung place ≡ Some v) ⊎ ((k : ℕ) × (numbers : List ℕ) × (slice_get (after_move o m).closed v ≡ Some numbers)
        × (slice_get numbers k ≡ Some (suc place)))
    cases (inl e) = inl (get_append o.hung (replicate m.count (length o.closed)) place v e)
    cases (inr (k, numbers, e, f)) = inr (k, numbers, get_append o.closed (valley_of o ∷ []) v numbers e, f)

pair_after : (o : Outline) (sides : List (ℕ × ℕ)) (m : Move) (place : ℕ) → place < length sides
    → sides_at (sides_after o sides m) (suc place) ≡ sides_at sides (suc place)
pair_after o sides m place low = get_front sides (new_sides (length o.hung) m.count (left_end sides (valley_of o)) (right_end sides (valley_of o)))
    (suc place - 1) (0, 1) (omega (arith, low))

-- a line that a closed node touches it touches after the next move
pub touch_after : (o : Outline) (sides : List (ℕ × ℕ)) (m : Move) (line v : ℕ) → length sides ≡ length o.hung → TouchesClosed o sides line v
    → TouchesClosed (after_move o m) (sides_after o sides m) line v
touch_after o sides m line v long t = record {
  place = t.place;
  at = at_after o m t.place v t.at;
  beside = subst (λ (s : ℕ × ℕ). (s.0 ≡ line) ⊎ (s.1 ≡ line)) (sym (pair_after o sides m t.place (omega (arith, (t.at).within, long)))) t.beside;
}

-- a number in a closed node is that of a square hung before
number_in : (o : Outline) → Numbered o → (v k number : ℕ) (numbers : List ℕ) → slice_get o.closed v ≡ Some numbers → slice_get numbers k ≡ Some number
    → number ≤ length o.hung
number_in o numbered v k number numbers e f = (hung_number o numbered number (omega (
  arith,
  times-positive_of_slice_get numbers k number f,
  times_at number v o.closed,
  ap (λ (l : List ℕ). times number l) (get_or_from_slice_get o.closed v numbers [] e),
  times_in-append number o.closed o.segments,
))).1

at_before : (o : Outline) (m : Move) → Numbered o → (place v : ℕ) → v < length o.closed → IsAtClosed (after_move o m) place v → IsAtClosed o place v
at_before o m numbered place v old a = cases a.at
  where
    hangs : slice_get (after_move o m).hung place ≡ Some v → (place < length o.hung) ⊎ (length o.hung ≤ place) → place < length o.hung
    hangs e (inl low) = low
    hangs e (inr high) = absurd (omega (
      arith,
      old,
      slice_get-replicate_is m.count (length o.closed) (place - length o.hung) v
          (sym (get_after o.hung (replicate m.count (length o.closed)) (place - length o.hung) place (omega (arith, high))) ∙ e),
    ))

    cases : (slice_get (after_move o m).hung place ≡ Some v) ⊎ ((k : ℕ) × (numbers : List ℕ) × (slice_get (after_move o m).closed v ≡ Some numbers)
        × (slice_get numbers k ≡ Some (suc place)))
        → IsAtClosed o place v
    cases (inl e) = let low = hangs e (cases_lt place (length o.hung)) in
        record { within = low; closed = old; at = inl (slice_get-append_front_back o.hung (replicate m.count (length o.closed)) place v low e) }
    cases (inr (k, numbers, e, f)) = let same = slice_get-append_front_back o.closed (valley_of o ∷ []) v numbers old e in
        record { within = omega (arith, number_in o numbered v k (suc place) numbers same f); closed = old; at = inr (k, numbers, same, f) }

-- a line that a node, closed before, touches after the next move it touched before
pub touch_before : (o : Outline) (sides : List (ℕ × ℕ)) (m : Move) (line v : ℕ) → Numbered o → length sides ≡ length o.hung → v < length o.closed
    → TouchesClosed (after_move o m) (sides_after o sides m) line v → TouchesClosed o sides line v
touch_before o sides m line v numbered long old t = record {
  place = t.place;
  at = before;
  beside = subst (λ (s : ℕ × ℕ). (s.0 ≡ line) ⊎ (s.1 ≡ line)) (pair_after o sides m t.place (omega (arith, before.within, long))) t.beside;
}
  where
    before : IsAtClosed o t.place v
    before = at_before o m numbered t.place v old t.at
