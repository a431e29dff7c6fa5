-- How many squares each move closes and hangs, as the records of a skeleton say, and the numbers of the closed squares.
use Rattle.std.proofs.Common.{List, [], ap, arith, length, map, refl, slice_index, sum, sym, ℕ, ◌++◌, ◌+◌, ◌<◌, ◌∙◌, ◌∷◌, ◌≡◌, ◌≤◌}
use Rattle.std.proofs.lemmas.List.{append-nil, append_assoc, map-append}
use Rattle.std.proofs.lemmas.List.Sums.{sum_by-cons}
use Rattle.bk_laws.proofs.Occurrences.{times, times-concat, times-slice_index_positive, times_in-append}
use Rattle.bk_laws.proofs.ListItems.{slice_index-map_length}
use Rattle.bk_laws.proofs.Sums.{sum-map_length}
use Rattle.bk_word.proofs.StoredBytes.{order_more}
use Rattle.bk_word.specs.Outline.{Outline, sizes_of, start, valley_of, valley_place}
use Rattle.bk_word.specs.Play.{after_move, after_moves, outline_of}
use Rattle.bk_word.specs.Word.{Word, order_of}
use Rattle.bk_word_net.proofs.Outlines.Numbering.{numbered_moves, numbered_start}
use Rattle.bk_word_net.proofs.WordFlows.NoLoose.{hung_number}
use Rattle.bk_play.proofs.SkelReads.{counted_in}
use Rattle.bk_play.specs.Skeleton.{IsStoredSkeleton, SkeletonLists, records_from}
use Rattle.bk_play.specs.Wiring.{AreNumbers, closed_of, hung_and_closed}

-- how many squares the records say that each move closes and hangs
pub closed_records : (o : Outline) (from : ℕ) (w : Word) → map length (after_moves o w).closed ≡ map length o.closed ++ closed_of (records_from o from w)
closed_records o from [] = sym (append-nil (map length o.closed))
closed_records o from (m ∷ w) = closed_records (after_move o m) (from + length m.signs) w
    ∙ ap (λ (l : List ℕ). l ++ closed_of (records_from (after_move o m) (from + length m.signs) w))
    (map-append length o.closed (valley_of o ∷ []) ∙ ap (λ n. map length o.closed ++ n ∷ []) (sym (slice_index-map_length o.segments (valley_place o.signs))))
    ∙ append_assoc (map length o.closed) (slice_index (sizes_of o) (valley_place o.signs) ∷ [])
    (closed_of (records_from (after_move o m) (from + length m.signs) w))

-- the records say how many squares each move hangs
pub counts_records : (o : Outline) (from : ℕ) (w : Word) → hung_and_closed (records_from o from w) ≡ map (λ m. m.count) w
counts_records o from [] = refl
counts_records o from (m ∷ w) = ap (λ (l : List ℕ). m.count ∷ l) (counts_records (after_move o m) (from + length m.signs) w)

-- all moves of a word hang as many squares as its order says
pub counts_sum : (w : Word) → sum (map (λ m. m.count) w) ≡ order_of w
counts_sum [] = refl
counts_sum (m ∷ w) = omega (arith, sum_by-cons (λ (n : ℕ). n) m.count (map (λ m. m.count) w), order_more m w, counts_sum w)

-- the numbers of the closed squares are those of squares
pub closed_numbers : {w : Word} {lists : SkeletonLists}
    → IsStoredSkeleton w lists → AreNumbers 200 lists.closed
closed_numbers {w = w} {lists = lists} s =
    record { positive = λ i h. (number i h).0; small = λ i h. omega (arith, (number i h).1, (counted_in s).hung, (s.kept).few) }
  where
    number : (i : ℕ) → i < length lists.closed → (1 ≤ slice_index lists.closed i) × (slice_index lists.closed i ≤ length (outline_of w).hung)
    number i h = hung_number (outline_of w) (numbered_moves start w numbered_start) (slice_index lists.closed i) (omega (
      arith,
      times-slice_index_positive lists.closed i h,
      ap (times (slice_index lists.closed i)) (s.shows).closed_are,
      times-concat (slice_index lists.closed i) (outline_of w).closed,
      times_in-append (slice_index lists.closed i) (outline_of w).closed (outline_of w).segments,
    ))

-- the records say how many squares each node closes
pub closed_sizes : {w : Word} {lists : SkeletonLists}
    → IsStoredSkeleton w lists → closed_of lists.records ≡ map length (outline_of w).closed
closed_sizes {w = w} s = ap closed_of s.records_are ∙ sym (closed_records start 0 w)

-- as many squares are closed as the records say
pub closed_many : {w : Word} {lists : SkeletonLists}
    → IsStoredSkeleton w lists → length lists.closed ≡ sum (closed_of lists.records)
closed_many {w = w} s = ap length (s.shows).closed_are ∙ sym (sum-map_length (outline_of w).closed) ∙ ap sum (sym (closed_sizes s))
