-- A small skeleton with its last move taken back, by the outline that it had before: what is stored then is stored of the moves before.
use Rattle.std.specs.List.{concat}
use Rattle.std.proofs.Common.{List, [], ap, arith, length, subst, sum, sym, take, ℕ, ◌++◌, ◌-◌, ◌<◌, ◌∙◌, ◌∷◌, ◌≡◌, ◌≤◌}
use Rattle.std.proofs.lemmas.List.{length-append, take_at}
use Rattle.std.proofs.lemmas.List.Folds.{concat-append}
use Rattle.bk_word.proofs.PlayLaws.{after-snoc}
use Rattle.bk_word.proofs.StoredBytes.{order_one}
use Rattle.bk_word.specs.Outline.{start, valley_of, valley_place}
use Rattle.bk_word.specs.Play.{outline_of}
use Rattle.bk_word.specs.Word.{Move, Word, order_of}
use Rattle.bk_word.specs.declared.Sign.{Sign}
use Rattle.bk_play.proofs.Playing.{moves_shown, stored_shown}
use Rattle.bk_play.proofs.StoredMoves.{Ends, nonempty_word_has_a_last_move, records-snoc, records_many, signs-snoc}
use Rattle.bk_play.specs.Skeleton.{IsStoredSkeleton, SkeletonLists, moves_stored, signs_of, records_from}
use Rattle.bk_play.specs.SmallSkeleton.{IsOutlineOf, IsStoredSmall}
use Rattle.bk_play.specs.declared.small.SmallOutline.{SmallOutline}
use Rattle.bk_play.specs.declared.records.MoveRecord.{MoveRecord}

-- the lists with the last move taken back: the open segments as they were, and of the closed squares, the records and the
-- signs as much as there was
abbrev pub lists_cut : SmallOutline → List ℕ → List MoveRecord → List Sign → SkeletonLists
lists_cut before closed records played = record {
  ends = before.open.ends.items;
  sizes = before.open.sizes.items;
  signs = before.open.signs.items;
  closed = take before.closed closed;
  records = take before.records records;
  played = take before.played played;
}

-- the lists are so where each other one is cut off at the number that was kept
pub cut_back : (before : SmallOutline) (closed : List ℕ) (records : List MoveRecord) (played : List Sign) {new_closed : List ℕ}
    {new_records : List MoveRecord} {new_played : List Sign} {a b d : ℕ} → new_closed ≡ take a closed → a ≡ before.closed → new_records ≡ take b records
    → b ≡ before.records → new_played ≡ take d played → d ≡ before.played
    → record (lists_cut before closed records played) { closed = new_closed; records = new_records; played = new_played }
    ≡ lists_cut before closed records played
cut_back before closed records played e a f b g d = λ i. record (lists_cut before closed records played) {
  closed = (e ∙ ap (λ n. take n closed) a) i;
  records = (f ∙ ap (λ n. take n records) b) i;
  played = (g ∙ ap (λ n. take n played) d) i;
}

-- the moves before the last one
all_but_last : (front : Word) (last : Move) → take (length (front ++ last ∷ []) - 1) (front ++ last ∷ []) ≡ front
all_but_last front last = take_at front (last ∷ []) (length (front ++ last ∷ []) - 1) (omega (arith, length-append front (last ∷ [])))

-- the squares closed before the last move come first among those closed after it
closed_first : (front : Word) (last : Move) (n : ℕ) → n ≡ length (concat (outline_of front).closed)
    → take n (concat (outline_of (front ++ last ∷ [])).closed) ≡ concat (outline_of front).closed
closed_first front last n e =
    ap (λ o. take n (concat o.closed)) (after-snoc start front last)
    ∙ ap (take n) (concat-append (outline_of front).closed (valley_of (outline_of front) ∷ []))
    ∙ take_at (concat (outline_of front).closed) (concat (valley_of (outline_of front) ∷ [])) n (sym e)

-- the lists then store the moves before the last one
pub small_back : {w : Word} {lists : SkeletonLists} {before : SmallOutline} {new : SkeletonLists} {place first : ℕ}
    → IsStoredSmall w lists place first → 0 < length w → IsOutlineOf (take (length w - 1) w) before
    → new ≡ lists_cut before lists.closed lists.records lists.played
    → IsStoredSkeleton (take (length w - 1) w) new
small_back {w} {lists} {before} s some b n = subst (IsStoredSkeleton (take (length w - 1) w)) (sym n) (back (nonempty_word_has_a_last_move w some))
  where
    back : Ends w → IsStoredSkeleton (take (length w - 1) w) (lists_cut before lists.closed lists.records lists.played)
    back r = subst (λ (v : Word). IsStoredSkeleton v (lists_cut before lists.closed lists.records lists.played)) (sym front_is) (record {
      kept = o.kept;
      shows = record {
        ends_are = o.ends_are;
        sizes_are = o.sizes_are;
        signs_are = o.signs_are;
        closed_are = ap (take before.closed) ((s.stored).shows.closed_are ∙ ap (λ (v : Word). concat (outline_of v).closed) r.whole)
            ∙ closed_first r.front r.last before.closed o.closed_is;
      };
      records_are = ap (take before.records) ((s.stored).records_are ∙ ap (records_from start 0) r.whole ∙ records-snoc start 0 r.front r.last)
          ∙ take_at (records_from start 0 r.front) _ before.records (records_many start 0 r.front ∙ sym o.records_is);
      played_are = ap (take before.played) ((s.stored).played_are ∙ ap signs_of r.whole ∙ signs-snoc r.front r.last)
          ∙ take_at (signs_of r.front) (r.last).signs before.played (sym o.played_is);
    })
      where
        front_is : take (length w - 1) w ≡ r.front
        front_is = ap (λ (v : Word). take (length v - 1) v) r.whole ∙ all_but_last r.front r.last

        o : IsOutlineOf r.front before
        o = subst (λ (v : Word). IsOutlineOf v before) front_is b

-- fewer squares hang before the last move
pub fewer_before : (w : Word) → 0 < length w → order_of (take (length w - 1) w) ≤ order_of w
fewer_before w some = fewer (nonempty_word_has_a_last_move w some)
  where
    fewer : Ends w → order_of (take (length w - 1) w) ≤ order_of w
    fewer r = omega (
      arith,
      ap (λ (v : Word). order_of (take (length v - 1) v)) r.whole,
      ap order_of (all_but_last r.front r.last),
      ap order_of r.whole,
      order_one r.front r.last,
    )

-- the lists after the last move is taken back store few squares, of the moves that they show
pub small_kept_back : {w : Word} {lists : SkeletonLists} {before : SmallOutline} {new : SkeletonLists} {place first : ℕ}
    → IsStoredSmall w lists place first → 0 < length w → IsOutlineOf (take (length w - 1) w) before
    → new ≡ lists_cut before lists.closed lists.records lists.played
    → IsStoredSmall (moves_stored new.records new.played) new before.open.place before.open.first
small_kept_back {w} {before = before} s some b n = record {
  valley = record {
    place_is = b.valley.place_is ∙ ap (λ (l : SkeletonLists). valley_place l.signs) (sym n);
    first_is = b.valley.first_is ∙ ap (λ (l : SkeletonLists). sum (take (valley_place l.signs) l.sizes)) (sym n);
  };
  stored = stored_shown (small_back s some b n);
  few = omega (arith, ap order_of (moves_shown (small_back s some b n)), fewer_before w some, s.few);
}
