-- What is read of a skeleton: its segments and its moves.
use Rattle.std.proofs.Common.{List, [], ap, arith, get_or, length, map, refl, slice_index, slice_index_or, slice_range}
use Rattle.std.proofs.Common.{suc, sum, sym, take, zero, ℕ, ◌++◌, ◌+◌, ◌<◌, ◌∙◌, ◌∷◌, ◌≡◌, ◌≤◌}
use Rattle.std.proofs.lemmas.List.{length-append, length-map}
use Rattle.bk_laws.proofs.Sums.{sum-take_suc}
use Rattle.bk_word.proofs.StoredBytes.{order_more}
use Rattle.bk_word.specs.Outline.{Outline, valley_place}
use Rattle.bk_word.specs.Play.{AreLegalFrom, after_move}
use Rattle.bk_word.specs.Word.{Word, order_of}
use Rattle.bk_word.specs.declared.Sign.{Sign}
use Rattle.bk_play.proofs.EndNodes.{CutAt, cut_at, here_is}
use Rattle.bk_play.proofs.SkelFacts.{Counted, counted}
use Rattle.bk_word.proofs.PlayLaws.{at_most_one_sign_more_than_squares}
use Rattle.bk_play.specs.Skeleton.{IsStoredSkeleton, SkeletonLists, Shows, signs_of, records_from}
use Rattle.bk_play.specs.declared.records.MoveRecord.{MoveRecord}

-- what is stored has as many items as its word has squares and segments
pub counted_in : {w : Word} {lists : SkeletonLists}
    → IsStoredSkeleton w lists → Counted w lists.ends lists.sizes lists.signs lists.closed
counted_in {w = w} {lists = lists} s = counted w lists.ends lists.sizes lists.signs lists.closed s.kept s.shows

list_at : (lists : List (List ℕ)) (n : ℕ) (c : CutAt lists n) → slice_index_or lists n [] ≡ c.here
list_at lists n c = ap (λ (l : List (List ℕ)). slice_index_or l n []) c.whole ∙ go c.front n c.long
  where
    go : (front : List (List ℕ)) (n : ℕ) → length front ≡ n → slice_index_or (front ++ c.here ∷ c.back) n [] ≡ c.here
    go [] zero e = refl
    go [] (suc n) e = absurd (omega arith)
    go (s ∷ front) zero e = absurd (omega arith)
    go (s ∷ front) (suc n) e = go front n (omega arith)

-- the squares and the size of a segment, as they are read
pub segment_read : (o : Outline) (ends sizes : List ℕ) (signs : List Sign) (closed : List ℕ) (place : ℕ)
    → Shows o ends sizes signs closed → place < length sizes
    → slice_range ends (sum (take place sizes)) (sum (take place sizes) + slice_index sizes place) ≡ slice_index_or o.segments place []
segment_read o ends sizes signs closed place s h =
    (λ i. slice_range (s.ends_are i) (sum (take place (s.sizes_are i))) (next i))
    ∙ here_is o.segments place cut ∙ sym (list_at o.segments place cut)
  where
    cut : CutAt o.segments place
    cut = cut_at o.segments place (omega (arith, ap length s.sizes_are, length-map o.segments (length {A = ℕ})))

    next : sum (take place sizes) + slice_index sizes place ≡ sum (take (suc place) (map length o.segments))
    next = sym (sum-take_suc sizes place h) ∙ ap (λ (l : List ℕ). sum (take (suc place) l)) s.sizes_are

-- the signs of a move, where it is read
pub record Spans (noted : MoveRecord) (end : ℕ) : Type 0 where
  pub order : noted.from ≤ noted.to
  pub within : noted.to ≤ end
  pub few : noted.to ≤ noted.from + 201

-- the signs of each move stand among those played, and are at most 201
pub record_spans : (o : Outline) (from : ℕ) (w : Word) → AreLegalFrom o w → order_of w ≤ 200 → (i : ℕ) (d : MoveRecord) → i < length w
    → Spans (get_or (records_from o from w) i d) (from + length (signs_of w))
record_spans o from [] legal few i d h = absurd (omega arith)
record_spans o from (m ∷ w) legal few zero d h = record {
  order = omega arith;
  within = omega (arith, length-append m.signs (signs_of w));
  few = omega (arith, at_most_one_sign_more_than_squares o m legal.0, order_more m w);
}
record_spans o from (m ∷ w) legal few (suc i) d h = let r =
    record_spans (after_move o m) (from + length m.signs) w legal.1 (omega (arith, order_more m w)) i d (omega arith) in record {
      order = r.order;
      within = omega (arith, r.within, length-append m.signs (signs_of w));
      few = r.few;
    }

-- where the squares of a segment end, as it is read
pub reads_segment : (sizes once again : List ℕ) (signs : List Sign) (place first size : ℕ) → sizes ≡ again → once ≡ again
    → place ≡ valley_place signs → first ≡ sum (take (valley_place signs) sizes) → size ≡ slice_index once place
    → place < length again → first + size ≡ sum (take (suc place) again)
reads_segment sizes once again signs place first size e f at begins is within =
    omega (
      arith,
      begins,
      ap (λ n. sum (take n sizes)) at,
      ap (λ (l : List ℕ). sum (take place l)) e,
      is,
      ap (λ (l : List ℕ). slice_index l place) f,
      sum-take_suc again place within,
    )
