-- The lines that the node touches which a move closes: those beside the squares that end on it, and beside those that hang from it.
use Rattle.std.proofs.Common.{List, Some, [], ap, arith, inl, inr, length, length-append, refl, replicate, slice_get, subst, suc, sym, ℕ, ◌+◌, ◌-◌, ◌<◌}
use Rattle.std.proofs.Common.{◌∙◌, ◌∷◌, ◌≡◌, ◌≤◌, ◌⊎◌}
use Rattle.std.proofs.lemmas.Bool.{cases_lt}
use Rattle.std.proofs.lemmas.List.{length-replicate}
use Rattle.std.proofs.lemmas.Option.{get_or_from_slice_get, same_Some}
use Rattle.bk_laws.proofs.ListPlaces.{get_after, get_last, slice_get-append_front_back, slice_get-replicate}
use Rattle.bk_laws.proofs.Occurrences.{times-positive_of_slice_get, times_at, times_in-append}
use Rattle.bk_word.specs.Outline.{Outline, valley_of, valley_place}
use Rattle.bk_word.specs.Play.{after_move}
use Rattle.bk_word.specs.Word.{Move}
use Rattle.bk_word_net.proofs.WordFlows.NoLoose.{Played, hung_number}
use Rattle.bk_word_net.proofs.Outlines.Numbering.{Numbered}
use Rattle.bk_layout.specs.LineNumbers.{sides_after, sides_at}
use Rattle.bk_layout.specs.NodeCut.{TouchesClosed}
use Rattle.bk_free_search.proofs.Boards.LeftLines.{index_side, lefts_in}
use Rattle.bk_free_search.proofs.Boards.RightLines.{rights_in}
use Rattle.bk_free_search.specs.NodeLines.{IsAtSquare, IsBesideNew, IsBesideOneOf}

beside_pair : (sides : List (ℕ × ℕ)) (place line : ℕ) → IsAtSquare (lefts_in sides) (rights_in sides) (suc place) line
    → ((sides_at sides (suc place)).0 ≡ line) ⊎ ((sides_at sides (suc place)).1 ≡ line)
beside_pair sides place line (inl e) = inl (index_side (λ s. s.0) sides (suc place - 1) ∙ e)
beside_pair sides place line (inr e) = inr (index_side (λ s. s.1) sides (suc place - 1) ∙ e)

-- the node that a move closes touches the lines beside the squares that end on it
pub touch_valley : (o : Outline) (sides : List (ℕ × ℕ)) (m : Move) (line : ℕ) → Numbered o
    → IsBesideOneOf (lefts_in (sides_after o sides m)) (rights_in (sides_after o sides m)) (valley_of o) line
    → TouchesClosed (after_move o m) (sides_after o sides m) line (length o.closed)
touch_valley o sides m line numbered b = record {
  place = b.number - 1;
  at = record {
    within = omega (arith, low.0, low.1, length-append o.hung (replicate m.count (length o.closed)));
    closed = omega (arith, length-append o.closed (valley_of o ∷ []));
    at = inr (b.place, valley_of o, get_last o.closed (valley_of o) [], b.at ∙ ap (λ (n : ℕ). Some n) (sym one));
  };
  beside = beside_pair (sides_after o sides m) (b.number - 1) line (subst
      (λ n. IsAtSquare (lefts_in (sides_after o sides m)) (rights_in (sides_after o sides m)) n line) (sym one) b.beside);
}
  where
    low : (1 ≤ b.number) × (b.number ≤ length o.hung)
    low = hung_number o numbered b.number (omega (
      arith,
      times-positive_of_slice_get (valley_of o) b.place b.number b.at,
      times_at b.number (valley_place o.signs) o.segments,
      times_in-append b.number o.closed o.segments,
    ))

    one : suc (b.number - 1) ≡ b.number
    one = omega (arith, low.0)

-- a closed node touches the lines beside the squares that the move hangs under it
pub touch_new : (o : Outline) (sides : List (ℕ × ℕ)) (m : Move) (line : ℕ)
    → IsBesideNew (lefts_in (sides_after o sides m)) (rights_in (sides_after o sides m)) (length o.hung) m.count line
    → TouchesClosed (after_move o m) (sides_after o sides m) line (length o.closed)
touch_new o sides m line b = record {
  place = length o.hung + b.k;
  at = record {
    within = omega (arith, b.low, length-append o.hung (replicate m.count (length o.closed)), length-replicate m.count (length o.closed));
    closed = omega (arith, length-append o.closed (valley_of o ∷ []));
    at = inl (get_after o.hung (replicate m.count (length o.closed)) b.k (length o.hung + b.k) refl ∙ slice_get-replicate m.count (length o.closed) b.k b.low);
  };
  beside = beside_pair (sides_after o sides m) (length o.hung + b.k) line
      (subst (λ n. IsAtSquare (lefts_in (sides_after o sides m)) (rights_in (sides_after o sides m)) n line) number b.beside);
}
  where
    number : length o.hung + b.k + 1 ≡ suc (length o.hung + b.k)
    number = omega arith

pair_beside : (sides : List (ℕ × ℕ)) (place line : ℕ) → ((sides_at sides (suc place)).0 ≡ line) ⊎ ((sides_at sides (suc place)).1 ≡ line)
    → IsAtSquare (lefts_in sides) (rights_in sides) (suc place) line
pair_beside sides place line (inl e) = inl (sym (index_side (λ s. s.0) sides (suc place - 1)) ∙ e)
pair_beside sides place line (inr e) = inr (sym (index_side (λ s. s.1) sides (suc place - 1)) ∙ e)

-- a closed node touches only lines beside the squares that end on it, or beside those hung under it
pub only_touch : (o : Outline) (sides : List (ℕ × ℕ)) (m : Move) (line : ℕ) → Played o
    → TouchesClosed (after_move o m) (sides_after o sides m) line (length o.closed)
    → IsBesideOneOf (lefts_in (sides_after o sides m)) (rights_in (sides_after o sides m)) (valley_of o) line
    ⊎ IsBesideNew (lefts_in (sides_after o sides m)) (rights_in (sides_after o sides m)) (length o.hung) m.count line
only_touch o sides m line played t = cases (t.at).at
  where
    beside : IsAtSquare (lefts_in (sides_after o sides m)) (rights_in (sides_after o sides m)) (suc t.place) line
    beside = pair_beside (sides_after o sides m) t.place line t.beside

    new : slice_get (after_move o m).hung t.place ≡ Some (length o.closed) → (t.place < length o.hung) ⊎ (length o.hung ≤ t.place) → length o.hung ≤ t.place
    new e (inl low) = absurd (omega (
      arith,
      played.below t.place low,
      get_or_from_slice_get o.hung t.place (length o.closed) 0
          (slice_get-append_front_back o.hung (replicate m.count (length o.closed)) t.place (length o.closed) low e),
    ))
    new e (inr high) = high

    cases : (slice_get (after_move o m).hung t.place ≡ Some (length o.closed))
        ⊎ ((k : ℕ) × (numbers : List ℕ) × (slice_get (after_move o m).closed (length o.closed) ≡ Some numbers) × (slice_get numbers k ≡ Some (suc t.place)))
        → IsBesideOneOf (lefts_in (sides_after o sides m)) (rights_in (sides_after o sides m)) (valley_of o) line
        ⊎ IsBesideNew (lefts_in (sides_after o sides m)) (rights_in (sides_after o sides m)) (length o.hung) m.count line
    cases (inl e) =
        let high = new e (cases_lt t.place (length o.hung)) in
        let number : suc t.place ≡ length o.hung + (t.place - length o.hung) + 1 = omega (arith, high) in
        inr (record {
          k = t.place - length o.hung;
          low = omega (arith, high, (t.at).within, length-append o.hung (replicate m.count (length o.closed)), length-replicate m.count (length o.closed));
          beside = subst (λ n. IsAtSquare (lefts_in (sides_after o sides m)) (rights_in (sides_after o sides m)) n line) number beside;
        })
    cases (inr (k, numbers, e, f)) =
        let same : numbers ≡ valley_of o = same_Some numbers (valley_of o) (sym e ∙ get_last o.closed (valley_of o) []) in
        inl (record { place = k; number = suc t.place; at = subst (λ (l : List ℕ). slice_get l k ≡ Some (suc t.place)) same f; beside = beside })
