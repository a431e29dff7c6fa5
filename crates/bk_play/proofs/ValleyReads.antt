-- The leftmost valley of a skeleton, read from the flat lists as they are looked up.
use Rattle.std.proofs.Common.{List, [], ap, arith, drop, length, nat_eq, slice_index, slice_index_or, slice_range, suc, sum, sym, take, ℕ, ◌+◌, ◌-◌}
use Rattle.std.proofs.Common.{◌<◌, ◌∙◌, ◌≡◌, ◌≤◌}
use Rattle.bk_laws.proofs.Sums.{sum-take_le}
use Rattle.bk_word.specs.Outline.{Outline, valley_of, valley_place}
use Rattle.bk_word.specs.Play.{outline_of}
use Rattle.bk_word.specs.Word.{Word}
use Rattle.bk_word.specs.declared.Sign.{Sign}
use Rattle.bk_play.proofs.SkelReads.{counted_in, reads_segment, segment_read}
use Rattle.bk_play.specs.Skeleton.{IsStoredSkeleton, SkeletonLists}
use Rattle.bk_play.specs.Valley.{leftmost_valley}

-- what is looked for a valley: a size more than signs, and few squares in all
pub valley_sizes : {w : Word} {lists : SkeletonLists}
    → IsStoredSkeleton w lists
    → (looked : List ℕ) (between : List Sign) → looked ≡ lists.sizes → between ≡ lists.signs
    → (length looked ≡ length between + 1) × (sum looked ≤ 200)
valley_sizes s looked between e f =
    let k = counted_in s in (omega (arith, ap length e, ap length f, k.many), omega (arith, ap sum e, k.total, k.all, (s.kept).few))

-- the valley is one of the segments
pub valley_within : {w : Word} {lists : SkeletonLists}
    → IsStoredSkeleton w lists
    → (looked : List ℕ) (between : List Sign) (place : ℕ) → looked ≡ lists.sizes → between ≡ lists.signs → place ≤ length between
    → place < length looked
valley_within s looked between place e f low = omega (arith, low, ap length e, ap length f, (counted_in s).many)

-- the squares between two places of a list are those of the leftmost valley
pub record AreOfValley (w : Word) (squares : List ℕ) (first end : ℕ) : Type 0 where
  pub within : end ≤ length squares
  pub are : take (end - first) (drop first squares) ≡ valley_of (outline_of w)

-- the squares from where the leftmost valley is found to begin, as many as its size says, are those of the valley
pub valley_cut : {w : Word} {lists : SkeletonLists}
    → IsStoredSkeleton w lists
    → (looked again squares : List ℕ) (between : List Sign) (place first size : ℕ) → looked ≡ lists.sizes → again ≡ lists.sizes → squares ≡ lists.ends
    → between ≡ lists.signs → place ≡ valley_place between → place ≤ length between → first ≡ sum (take (valley_place between) looked)
    → size ≡ slice_index again place → AreOfValley w squares first (first + size)
valley_cut {w = w} {lists = lists} s looked again squares between place first size e f g h at low begins is =
    record {
      within = omega (arith, flat, sum-take_le lists.sizes (suc place), (counted_in s).total, ap length g);
      are = (λ j. slice_range (g j) (start j) (start j + many j))
          ∙ segment_read (outline_of w) lists.ends lists.sizes lists.signs lists.closed place s.shows within
          ∙ ap (λ n. slice_index_or (outline_of w).segments n []) (at ∙ ap valley_place (h ∙ (s.shows).signs_are));
    }
  where
    within : place < length lists.sizes
    within = omega (arith, low, ap length h, (counted_in s).many)

    flat : first + size ≡ sum (take (suc place) lists.sizes)
    flat = reads_segment looked again lists.sizes between place first size e f at begins is within

    start : first ≡ sum (take place lists.sizes)
    start = begins ∙ (λ j. sum (take (sym at j) (e j)))

    many : size ≡ slice_index lists.sizes place
    many = is ∙ ap (λ (l : List ℕ). slice_index l place) f

-- the leftmost valley, as it is read
pub valley_read : (o : Outline) (place many : ℕ) (squares : List ℕ) → place ≡ valley_place o.signs → many ≡ length o.signs → squares ≡ valley_of o
    → (record { place = place; left_wall = nat_eq place 0; right_wall = nat_eq place many; squares = squares }) ≡ leftmost_valley o
valley_read o place many squares at all own =
    λ i. record { place = at i; left_wall = nat_eq (at i) 0; right_wall = nat_eq (at i) (all i); squares = own i }
