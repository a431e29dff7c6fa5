-- A small skeleton with a move played.
use Rattle.std.specs.List.{splice}
use Rattle.std.proofs.Common.{List, [], ap, arith, count_by, filter, length, refl, slice_range, subst, sym, ℕ, ◌++◌, ◌+◌, ◌∙◌, ◌∷◌, ◌≡◌, ◌≤◌}
use Rattle.bk_word.proofs.StoredBytes.{order_one}
use Rattle.bk_word.specs.Outline.{IsLegalMove}
use Rattle.bk_word.specs.Play.{numbers_from, outline_of, parts}
use Rattle.bk_word.specs.Word.{Move, Word, order_of}
use Rattle.bk_word.specs.declared.Sign.{Sign}
use Rattle.bk_play.proofs.Playing.{Playing, moves_shown, playing_within, stored_played, stored_shown}
use Rattle.bk_play.proofs.SkelFacts.{skeleton_lists_after_a_move}
use Rattle.bk_play.specs.Skeleton.{IsStoredSkeleton, SkeletonLists, first_touched, moves_stored, open_sides_of_record, sizes_after, record_of}
use Rattle.bk_play.specs.Skeleton.{with_parted}
use Rattle.bk_play.specs.SmallSkeleton.{IsStoredSmall, StandsAt}
use Rattle.bk_play.specs.declared.records.MoveRecord.{MoveRecord}

-- the lists are those after the move, as they are made by the record and the signs that are read
pub played_lists : {most : ℕ} {w : Word} {m : Move} {lists : SkeletonLists} {noted : MoveRecord} {new_ends new_sizes : List ℕ} {new_signs : List Sign}
    {new_closed : List ℕ} {new_records : List MoveRecord} {new_played moved : List Sign}
    → Playing most w m lists noted → moved ≡ m.signs
    → new_ends ≡ splice lists.ends noted.first (noted.first + noted.closed) (numbers_from (length lists.ends + length lists.closed + 1) noted.count)
    → new_sizes ≡ splice lists.sizes (first_touched noted) (first_touched noted + (open_sides_of_record noted + 1)) (sizes_after noted moved)
    → new_signs ≡ splice lists.signs (first_touched noted) (first_touched noted + open_sides_of_record noted) (filter parts moved)
    → new_closed ≡ lists.closed ++ slice_range lists.ends noted.first (noted.first + noted.closed)
    → new_records ≡ lists.records ++ noted ∷ [] → new_played ≡ lists.played ++ m.signs
    → record { ends = new_ends; sizes = new_sizes; signs = new_signs; closed = new_closed; records = new_records; played = new_played }
    ≡ skeleton_lists_after_a_move lists m noted
played_lists {lists = lists} {noted = noted} p own e f g h j k = λ i. record {
  ends = (e ∙ (λ i. splice lists.ends noted.first (noted.first + noted.closed)
      (numbers_from (length lists.ends + length lists.closed + 1) ((p.record_is) i).count))) i;
  sizes = (f ∙ (λ i. splice lists.sizes (first_touched noted) (first_touched noted + (open_sides_of_record noted + 1)) (sizes_after noted (own i)))) i;
  signs = (g ∙ (λ i. splice lists.signs (first_touched noted) (first_touched noted + open_sides_of_record noted) (filter parts (own i)))) i;
  closed = h i;
  records = j i;
  played = k i;
}

-- lists that store few squares still do so after a legal move
pub small_played : {w : Word} {m : Move} {lists : SkeletonLists} {noted : MoveRecord} {new : SkeletonLists} {place first new_place new_first : ℕ}
    → IsStoredSmall w lists place first → Playing 16 w m lists noted → new ≡ skeleton_lists_after_a_move lists m noted
    → StandsAt new.sizes new.signs new_place new_first → IsStoredSmall (moves_stored new.records new.played) new new_place new_first
small_played {w = w} {m = m} {new = new} s p n v = record {
  valley = v;
  stored = stored_shown later;
  few = omega (arith, ap order_of (moves_shown later), order_one w m, p.room);
}
  where
    later : IsStoredSkeleton (w ++ m ∷ []) new
    later = stored_played s.stored p n

-- what is known of a small skeleton where a legal move is played, as its record is made
pub small_playing : {w now : Word} {lists : SkeletonLists} {place first count : ℕ} {moved : List Sign} {m : Move} {from : ℕ} (noted : MoveRecord)
    → IsStoredSmall w lists place first → w ≡ now → record { count = count; signs = moved } ≡ m
    → IsLegalMove (outline_of now) m → order_of now + m.count ≤ 16
    → with_parted noted (count_by parts m.signs) ≡ record_of lists.sizes lists.signs m from → from ≡ length lists.played
    → Playing 16 w (record { count = count; signs = moved }) lists (with_parted noted (count_by parts moved))
small_playing {lists = lists} {from = from} noted s e f legal few g h =
    playing_within 16 (omega arith) s.stored e f legal few
    (subst (λ (m : Move). with_parted noted (count_by parts m.signs) ≡ record_of lists.sizes lists.signs m from) (sym f) g) refl refl refl h
