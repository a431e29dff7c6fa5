-- The leftmost valley by its places, and the segments beside it.
use Rattle.std.specs.List.{concat, sum}
use Rattle.std.proofs.Common.{List, Some, [], ap, arith, drop, length, refl, slice_get, slice_index_or, subst, sym, take}
use Rattle.std.proofs.Common.{ℕ, ◌+◌, ◌-◌, ◌<◌, ◌∙◌, ◌≡◌, ◌≤◌}
use Rattle.std.proofs.lemmas.List.{length-drop, length-take}
use Rattle.std.proofs.lemmas.Option.{get_or_from_slice_get}
use Rattle.bk_laws.proofs.Sums.{sum-map_length, sum-take_and_next_le, sum-take_one_more}
use Rattle.bk_word.proofs.PlayLists.{place_within}
use Rattle.bk_word.specs.Outline.{sizes_of, valley_of, valley_place}
use Rattle.bk_word.specs.Play.{IsLegal, outline_of}
use Rattle.bk_word.specs.Word.{Word, order_of}
use Rattle.bk_word.specs.declared.Sign.{Sign}
use Rattle.bk_catalogue.proofs.HangingBounds.BoundsOfWords.{sizes_long}
use Rattle.bk_free_search.proofs.NextWords.Cutting.{few_signs_open}
use Rattle.bk_free_search.proofs.Boards.OpenSegments.{segment_read}
use Rattle.bk_play.specs.SmallSkeleton.{IsValleyPlace}
use Rattle.bk_play.specs.declared.small.ValleyPlace.{ValleyPlace}

-- the places of a valley of equal words
pub valley_of_equal : (w v : Word) (place : ValleyPlace) → w ≡ v → IsValleyPlace w place → IsValleyPlace v place
valley_of_equal w v place same is = subst (λ u. IsValleyPlace u place) same is

-- the valley's place is not behind the signs, as a skeleton shows them
pub valley_low : {w skel : Word} {signs : List Sign} {place : ℕ} → skel ≡ w → signs ≡ (outline_of skel).signs → place ≡ valley_place (outline_of w).signs
    → place ≤ length signs
valley_low {w = w} same are is =
    omega (arith, is, place_within (outline_of w).signs, ap length are, ap (λ (v : Word). length (outline_of v).signs) same)

-- a valley of at most 16 squares has a small place
pub place_few : {w skel : Word} {signs : List Sign} {place : ℕ} → IsLegal skel → skel ≡ w → signs ≡ (outline_of skel).signs → order_of w ≤ 16
    → place ≡ valley_place (outline_of w).signs → place ≤ 32
place_few {skel = skel} legal same are few is =
    omega (arith, few, valley_low same are is, few_signs_open skel legal, ap order_of same, ap length are)

-- where the valley stands at no right wall, the next place is that of a segment
pub right_low : {w : Word} {signs : List Sign} {sizes : List ℕ} {v : ValleyPlace} → IsLegal w → signs ≡ (outline_of w).signs → sizes ≡ sizes_of (outline_of w)
    → IsValleyPlace w v → (v.place ≡ length signs → ⊥) → v.place + 1 < length sizes
right_low {w = w} legal are sizes_are is apart = omega (
  arith,
  apart,
  valley_low {w = w} refl are is.stands.place_is,
  sizes_long w legal,
  ap length sizes_are,
  ap length are,
)

module _ (w : Word) (legal : IsLegal w) (sizes ends : List ℕ) (s : sizes ≡ sizes_of (outline_of w)) (e : ends ≡ concat (outline_of w).segments)
    (v : ValleyPlace) (is : IsValleyPlace w v) where
  -- the valley's place is that of a segment
  pub place_low : v.place < length sizes
  place_low = omega (arith, is.stands.place_is, place_within (outline_of w).signs, sizes_long w legal, ap length s)

  start_sum : v.start ≡ sum (take v.place sizes)
  start_sum = is.stands.first_is ∙ (λ i. sum (take (sym is.stands.place_is i) (sym s i)))

  end_sum : v.end ≡ v.start + slice_index_or sizes v.place 0
  end_sum = is.end_is ∙ ap (λ l. v.start + slice_index_or l v.place 0) (sym s)

  ends_many : length ends ≡ sum sizes
  ends_many = omega (arith, ap length e, sum-map_length (outline_of w).segments, ap sum s)

  -- the valley ends within the list of the squares at the bottom
  pub ends_within : v.end ≤ length ends
  ends_within = omega (arith, sum-take_and_next_le sizes v.place place_low, start_sum, end_sum, ends_many)

  -- the valley's squares
  pub valley_read : take (v.end - v.start) (drop v.start ends) ≡ valley_of (outline_of w)
  valley_read = ap (λ k. take k (drop v.start ends)) (ap (λ k. k - v.start) end_sum)
      ∙ sym (get_or_from_slice_get (outline_of w).segments v.place (take (v.start + slice_index_or sizes v.place 0 - v.start) (drop v.start ends)) []
      (segment_read w sizes ends v.place v.start (slice_index_or sizes v.place 0) s e place_low start_sum refl))
      ∙ ap (λ k. slice_index_or (outline_of w).segments k []) is.stands.place_is

  -- the size at the valley's place is the number of the valley's squares
  pub valley_long : slice_index_or sizes v.place 0 ≡ length (valley_of (outline_of w))
  valley_long = omega (
    arith,
    ap length valley_read,
    length-take (v.end - v.start) (drop v.start ends),
    length-drop v.start ends,
    ends_within,
    end_sum,
  )

  -- the segment at the valley's left ends within the list at the valley's start
  left_fits : 0 < v.place → slice_index_or sizes (v.place - 1) 0 ≤ v.start
  left_fits some = let one : v.place - 1 + 1 ≡ v.place = omega (arith, some) in
      omega (arith, start_sum, sum-take_one_more sizes (v.place - 1) (omega (arith, place_low)), ap (λ k. sum (take k sizes)) one)

  -- the segment at the valley's left is read from the list of squares, up to the valley's start
  pub left_read : 0 < v.place → slice_get (outline_of w).segments (valley_place (outline_of w).signs - 1)
      ≡ Some (take (v.start - (v.start - slice_index_or sizes (v.place - 1) 0)) (drop (v.start - slice_index_or sizes (v.place - 1) 0) ends))
  left_read some = let one : v.place - 1 + 1 ≡ v.place = omega (arith, some) in
      let many : ℕ = slice_index_or sizes (v.place - 1) 0 in
      let long : v.start - many + many - (v.start - many) ≡ v.start - (v.start - many) = omega (arith, left_fits some) in
      ap (λ k. slice_get (outline_of w).segments (k - 1)) (sym is.stands.place_is)
      ∙ segment_read w sizes ends (v.place - 1) (v.start - many) many s e (omega (arith, place_low))
      (omega (arith, start_sum, sum-take_one_more sizes (v.place - 1) (omega (arith, place_low)), ap (λ k. sum (take k sizes)) one)) refl
      ∙ ap (λ k. Some (take k (drop (v.start - many) ends))) long

  -- the segment at the valley's right lies within the list of squares
  pub right_fits : v.place + 1 < length sizes → v.end + slice_index_or sizes (v.place + 1) 0 ≤ length ends
  right_fits more = omega (
    arith,
    sum-take_and_next_le sizes (v.place + 1) more,
    sum-take_one_more sizes v.place place_low,
    start_sum,
    end_sum,
    ends_many,
  )

  -- the segment at the valley's right is read from the list of squares, from the valley's end on
  pub right_read : v.place + 1 < length sizes → slice_get (outline_of w).segments (valley_place (outline_of w).signs + 1)
      ≡ Some (take (v.end + slice_index_or sizes (v.place + 1) 0 - v.end) (drop v.end ends))
  right_read more = ap (λ k. slice_get (outline_of w).segments (k + 1)) (sym is.stands.place_is)
      ∙ segment_read w sizes ends (v.place + 1) v.end (slice_index_or sizes (v.place + 1) 0) s e more
      (omega (arith, sum-take_one_more sizes v.place place_low, start_sum, end_sum)) refl
