-- The record of a move, found by its place among all.
use Rattle.std.proofs.Common.{List, Some, [], ap, arith, drop, length, slice_get, slice_index_or, slice_range, subst, suc}
use Rattle.std.proofs.Common.{sym, take, zero, ℕ, ◌+◌, ◌-◌, ◌<◌, ◌∙◌, ◌∷◌, ◌≡◌, ◌≤◌}
use Rattle.std.proofs.lemmas.List.{length-drop, length-map, length-take-le}
use Rattle.bk_laws.proofs.Sums.{sum-take_map_length}
use Rattle.bk_laws.proofs.ListItems.{slice_index-map_length}
use Rattle.bk_word.specs.Outline.{Outline, start, valley_of, valley_place}
use Rattle.bk_word.specs.Play.{after_move, after_moves}
use Rattle.bk_word.specs.Word.{Move, Word}
use Rattle.bk_word.specs.declared.Sign.{Sign}
use Rattle.bk_play.proofs.SkelReads.{Spans, record_spans}
use Rattle.bk_play.proofs.StoredMoves.{stored_word, records_many}
use Rattle.bk_word_net.specs.LaidOutline.{front_of}
use Rattle.bk_play.specs.Skeleton.{IsStoredSkeleton, SkeletonLists, move_of, moves_stored, signs_of, records_from}
use Rattle.bk_play.specs.MoveRecords.{SaysWhere}
use Rattle.bk_play.specs.Valley.{IsKeptSkeleton}
use Rattle.bk_play.specs.declared.records.MoveRecord.{MoveRecord}

-- the record of a move stands among the records as they are read
pub place_there : (played : List Sign) {records seen : List MoveRecord} {now : Word} {i : ℕ} → moves_stored records played ≡ now → seen ≡ records
    → i < length now → i < length seen
place_there played {records} shown read h = omega (arith, h, ap length shown, length-map records (move_of played), ap length read)

record At (o : Outline) (w : Word) (i : ℕ) (noted : MoveRecord) : Type 0 where
  count : (m : Move) → slice_get w i ≡ Some m → noted.count ≡ m.count
  first : noted.first ≡ length (front_of (after_moves o (take i w)))
  closed : noted.closed ≡ length (valley_of (after_moves o (take i w)))

record_there : (o : Outline) (from : ℕ) (w : Word) (i : ℕ) (d : MoveRecord) → i < length w → At o w i (slice_index_or (records_from o from w) i d)
record_there o from [] i d h = absurd (omega arith)
record_there o from (n ∷ w) zero d h = record {
  count = λ m e. same m e;
  first = sum-take_map_length (valley_place o.signs) o.segments;
  closed =
      slice_index-map_length o.segments (valley_place o.signs);
}
  where
    same : (m : Move) → Some n ≡ Some m → n.count ≡ m.count
    same m e = let f : n ≡ m = cc in ap (λ (k : Move). k.count) f
record_there o from (n ∷ w) (suc i) d h = let r = record_there (after_move o n) (from + length n.signs) w i d (omega arith) in
    record { count = r.count; first = r.first; closed = r.closed }

-- the signs of a move, cut out of all signs by its record
signs_cut : (played : List Sign) (records : List MoveRecord) (i : ℕ) (d : MoveRecord) (m : Move) → i < length records
    → slice_get (moves_stored records played) i ≡ Some m → slice_range played (slice_index_or records i d).from (slice_index_or records i d).to ≡ m.signs
signs_cut played [] i d m h e = absurd (omega arith)
signs_cut played (t ∷ records) zero d m h e = ap (λ (k : Move). k.signs) same
  where
    same : move_of played t ≡ m
    same = cc
signs_cut played (t ∷ records) (suc i) d m h e = signs_cut played records i d m (omega arith) e

-- the record of a move says how many squares it hangs, where its valley stood, and which signs are its own
pub says_where : {v w : Word} {lists : SkeletonLists} {seen : List MoveRecord} → IsStoredSkeleton v lists → v ≡ w → seen ≡ lists.records
    → (i : ℕ) (d : MoveRecord) → i < length w → SaysWhere w i (slice_index_or seen i d)
says_where {w = w} s a f i d h = subst (λ (l : List MoveRecord). SaysWhere w i (slice_index_or l i d))
    (sym (f ∙ s.records_are ∙ ap (records_from start 0) a)) (record {
      count = r.count;
      first = r.first;
      closed = r.closed;
      order = spans.order;
      few = spans.few;
      within = omega (arith, spans.within);
      signs = λ m e. signs_cut (signs_of w) (records_from start 0 w) i d m (omega (arith, h, records_many start 0 w))
          (ap (λ (u : Word). slice_get u i) (stored_word w) ∙ e);
    })
  where
    r : At start w i (slice_index_or (records_from start 0 w) i d)
    r = record_there start 0 w i d h

    kept : IsKeptSkeleton w
    kept = subst IsKeptSkeleton a s.kept

    spans : Spans (slice_index_or (records_from start 0 w) i d) (0 + length (signs_of w))
    spans = record_spans start 0 w kept.legal kept.few i d h

-- a move has few signs
pub a_move_has_at_most_201_signs : {w : Word} {i : ℕ} {noted : MoveRecord} (m : Move) → SaysWhere w i noted → slice_get w i ≡ Some m → length m.signs ≤ 201
a_move_has_at_most_201_signs {w} {i} {noted} m says e = omega (
  arith,
  says.order,
  says.few,
  says.within,
  ap (length {A = Sign}) (says.signs m e),
  length-take-le (noted.to - noted.from) (drop noted.from (signs_of w)) (omega (arith, says.within, length-drop noted.from (signs_of w))),
)
