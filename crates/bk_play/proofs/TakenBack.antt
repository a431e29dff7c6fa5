-- What is stored of a skeleton whose last move is taken back.
use Rattle.std.specs.List.{splice}
use Rattle.std.proofs.Common.{List, [], ap, arith, drop, length, subst, sym, take, ◌++◌, ◌+◌, ◌-◌, ◌<◌, ◌∙◌, ◌∷◌, ◌≡◌, ◌≤◌}
use Rattle.std.proofs.lemmas.List.{length-append, same_from_push, take_at}
use Rattle.bk_word.proofs.StoredBytes.{order_one}
use Rattle.bk_word.specs.Outline.{IsLegalMove, Outline, sizes_of, start}
use Rattle.bk_word.specs.Play.{after_move, outline_of}
use Rattle.bk_word.specs.Word.{Move, Word, order_of}
use Rattle.bk_play.proofs.PlayedFlat.{shows_back}
use Rattle.bk_play.proofs.SkelFacts.{ShowsIn}
use Rattle.bk_word_net.proofs.Outlines.Shape.{Shaped, shaped_moves, shaped_start}
use Rattle.bk_play.proofs.StoredMoves.{Ends, nonempty_word_has_a_last_move, records-snoc, signs-snoc}
use Rattle.bk_word.proofs.PlayLaws.{after-snoc, legal-last, legal_front}
use Rattle.bk_play.specs.Skeleton.{exchange_back_of, GiveWay, IsStoredSkeleton, SkeletonLists, first_touched, moves_stored, signs_before, signs_of}
use Rattle.bk_play.specs.Skeleton.{sizes_before, record_of}
use Rattle.bk_play.specs.Skeleton.{records_from}
use Rattle.bk_play.specs.Valley.{IsKeptSkeleton}
use Rattle.bk_play.specs.declared.records.MoveRecord.{MoveRecord}
use Rattle.bk_play.proofs.BackFits.{closed_in, ends_few, ends_in, gives_back}

-- the lists with the last move taken back, of this record; before it there were these records
abbrev pub lists_before : SkeletonLists → List MoveRecord → MoveRecord → SkeletonLists
lists_before lists rest noted = record {
  ends = splice lists.ends noted.first (noted.first + noted.count) (drop (length lists.closed - noted.closed) lists.closed);
  sizes = splice lists.sizes (first_touched noted) (first_touched noted + (noted.parted + 1)) (sizes_before noted);
  signs = splice lists.signs (first_touched noted) (first_touched noted + noted.parted) (signs_before noted);
  closed = take (length lists.closed - noted.closed) lists.closed;
  records = rest;
  played = take noted.from lists.played;
}

-- what is stored before the last move, and the numbers that taking it back rests on
pub record TakesBack (w : Word) (lists : SkeletonLists) (rest : List MoveRecord) (noted : MoveRecord) : Type 0 where
  pub front : Word
  pub last : Move
  pub whole : w ≡ front ++ last ∷ []
  pub stored : IsStoredSkeleton front (lists_before lists rest noted)
  pub closed_within : noted.closed ≤ length lists.closed
  pub ends_within : noted.first + noted.count ≤ length lists.ends
  pub ends_fit : length lists.ends - noted.count + noted.closed ≤ 200
  pub gives : GiveWay 200 (exchange_back_of noted) lists.sizes lists.signs

-- the last move taken back
pub takes_back : (w : Word) (lists : SkeletonLists) (rest : List MoveRecord) (noted : MoveRecord)
    → IsStoredSkeleton w lists → lists.records ≡ rest ++ noted ∷ [] → 0 < length w → TakesBack w lists rest noted
takes_back w lists rest noted s cut some = back (nonempty_word_has_a_last_move w some)
  where
    back : Ends w → TakesBack w lists rest noted
    back r = record {
      front = r.front;
      last = r.last;
      whole = r.whole;
      stored = record {
        kept = kept;
        shows = subst (λ (t : MoveRecord). ShowsIn (outline_of r.front) (lists_before lists rest t)) (sym record_is)
            (shows_back (outline_of r.front) shaped r.last legal (0 + length (signs_of r.front)) lists.ends lists.sizes lists.signs lists.closed shows);
        records_are = rest_is;
        played_are = ap (λ (t : MoveRecord). take t.from lists.played) record_is
            ∙ ap (take (0 + length (signs_of r.front))) (s.played_are ∙ ap signs_of r.whole ∙ signs-snoc r.front r.last)
            ∙ take_at (signs_of r.front) (r.last).signs (0 + length (signs_of r.front)) (omega arith);
      };
      closed_within = subst (λ (t : MoveRecord). t.closed ≤ length lists.closed) (sym record_is)
          (closed_in r.front r.last kept legal few (0 + length (signs_of r.front)) lists.closed (shows).closed_are);
      ends_within = subst (λ (t : MoveRecord). t.first + t.count ≤ length lists.ends) (sym record_is)
          (ends_in r.front r.last kept legal few (0 + length (signs_of r.front)) lists.ends shows.ends_are);
      ends_fit = subst (λ (t : MoveRecord). length lists.ends - t.count + t.closed ≤ 200) (sym record_is)
          (ends_few r.front r.last kept legal few (0 + length (signs_of r.front)) lists.ends shows.ends_are);
      gives = subst (λ (t : MoveRecord). GiveWay 200 (exchange_back_of t) lists.sizes lists.signs) (sym record_is)
          (gives_back r.front r.last kept legal few (0 + length (signs_of r.front)) lists.sizes lists.signs shows.sizes_are shows.signs_are);
    }
      where
        whole_kept : IsKeptSkeleton (r.front ++ r.last ∷ [])
        whole_kept = subst IsKeptSkeleton r.whole s.kept

        kept : IsKeptSkeleton r.front
        kept = record { legal = legal_front start r.front (r.last ∷ []) whole_kept.legal; few = omega (arith, order_one r.front r.last, whole_kept.few) }

        legal : IsLegalMove (outline_of r.front) r.last
        legal = legal-last start r.front r.last whole_kept.legal

        few : order_of r.front + r.last.count ≤ 200
        few = omega (arith, order_one r.front r.last, whole_kept.few)

        shows : ShowsIn (after_move (outline_of r.front) r.last) lists
        shows = subst (λ (o : Outline). ShowsIn o lists) (ap outline_of r.whole ∙ after-snoc start r.front r.last) s.shows

        shaped : Shaped (outline_of r.front)
        shaped = shaped_moves start r.front kept.legal shaped_start

        pair : (rest ≡ records_from start 0 r.front)
            × (noted ≡ record_of (sizes_of (outline_of r.front)) (outline_of r.front).signs r.last (0 + length (signs_of r.front)))
        pair = same_from_push rest (records_from start 0 r.front) noted
            (record_of (sizes_of (outline_of r.front)) (outline_of r.front).signs r.last (0 + length (signs_of r.front)))
            (sym cut ∙ s.records_are ∙ ap (records_from start 0) r.whole ∙ records-snoc start 0 r.front r.last)

        rest_is : rest ≡ records_from start 0 r.front
        rest_is = pair.0

        record_is : noted ≡ record_of (sizes_of (outline_of r.front)) (outline_of r.front).signs r.last (0 + length (signs_of r.front))
        record_is = pair.1

-- the last move of what the code has stored is taken back, where it has a move
pub taken_back : {self : Word} {lists : SkeletonLists} {rest : List MoveRecord} {noted : MoveRecord}
    → IsStoredSkeleton (moves_stored lists.records lists.played) lists → lists.records ≡ rest ++ noted ∷ [] → 0 < length self
    → moves_stored lists.records lists.played ≡ self → TakesBack (moves_stored lists.records lists.played) lists rest noted
taken_back {self} {lists} {rest} {noted} s cut some same =
    takes_back (moves_stored lists.records lists.played) lists rest noted s cut (omega (arith, some, ap (length {A = Move}) same))

-- with the last move taken back, the lists store the word without it
pub stored_back : {w : Word} {lists : SkeletonLists} {rest : List MoveRecord} {noted : MoveRecord} {new : SkeletonLists}
    → (b : TakesBack w lists rest noted) → new ≡ lists_before lists rest noted → IsStoredSkeleton b.front new
stored_back b n = subst (IsStoredSkeleton b.front) (sym n) b.stored

-- the moves that are left
pub front_left : {w : Word} {lists : SkeletonLists} {rest : List MoveRecord} {noted : MoveRecord}
    → (b : TakesBack w lists rest noted) → (now : Word) → w ≡ now → b.front ≡ take (length now - 1) now
front_left b now e = sym (take_at b.front (b.last ∷ []) (length now - 1) long) ∙ ap (take (length now - 1)) (sym b.whole ∙ e)
  where
    long : length b.front ≡ length now - 1
    long = omega (arith, ap (length {A = Move}) e, ap (length {A = Move}) b.whole, length-append b.front (b.last ∷ []))
