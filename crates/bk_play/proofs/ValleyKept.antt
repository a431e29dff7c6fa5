-- Where the leftmost valley stands, as a small skeleton keeps it and as it is looked up.
use Rattle.std.proofs.Common.{List, ap, arith, length, slice_index, sum, sym, take, ℕ, ◌+◌, ◌<◌, ◌∙◌, ◌≡◌, ◌≤◌}
use Rattle.bk_laws.proofs.Sums.{sum-take_le}
use Rattle.bk_word.proofs.PlayLists.{place_within}
use Rattle.bk_word.specs.Outline.{sizes_of, valley_place}
use Rattle.bk_word.specs.Play.{outline_of}
use Rattle.bk_word.specs.Word.{Word}
use Rattle.bk_word.specs.declared.Sign.{Sign}
use Rattle.bk_play.proofs.SkelFacts.{Counted}
use Rattle.bk_play.proofs.SkelReads.{counted_in}
use Rattle.bk_play.specs.Skeleton.{SkeletonLists}
use Rattle.bk_play.specs.SmallSkeleton.{IsStoredSmall, IsValleyPlace, StandsAt}

-- what is kept of the leftmost valley, where it is looked up among the sizes and signs
pub record Looked (sizes : List ℕ) (signs : List Sign) (place first : ℕ) : Type 0 where
  pub at : place ≡ valley_place signs
  pub within : place ≤ length signs
  pub begins : first ≡ sum (take (valley_place signs) sizes)
  pub few : first ≤ 200
  pub inside : place < length sizes

-- what is kept of the leftmost valley, where it is looked up among the lists that a small skeleton stores
pub kept_looked : {w : Word} {lists : SkeletonLists} {place first : ℕ}
    → IsStoredSmall w lists place first
    → (looked : List ℕ) (between : List Sign) (at begin : ℕ) → looked ≡ lists.sizes → between ≡ lists.signs → at ≡ place → begin ≡ first
    → Looked looked between at begin
kept_looked {w = w} {lists = lists} s looked between at begin e f g h = record {
  at = g ∙ (s.valley).place_is ∙ ap valley_place (sym f);
  within = omega (arith, g, (s.valley).place_is, place_within lists.signs, ap length f);
  begins = h ∙ (s.valley).first_is ∙ (λ i. sum (take (valley_place (sym f i)) (sym e i)));
  few = omega (arith, h, (s.valley).first_is, sum-take_le lists.sizes (valley_place lists.signs), c.total, c.all, ((s.stored).kept).few);
  inside = omega (arith, g, (s.valley).place_is, place_within lists.signs, ap length e, c.many);
}
  where
    c : Counted w lists.ends lists.sizes lists.signs lists.closed
    c = counted_in s.stored

-- the leftmost valley stands where it is found among the lists that are read
pub stands_read : {sizes : List ℕ} {signs : List Sign} {read : List ℕ} {between : List Sign} {place first : ℕ} → read ≡ sizes → between ≡ signs
    → place ≡ valley_place between → first ≡ sum (take (valley_place between) read) → StandsAt sizes signs place first
stands_read e f g h = record { place_is = g ∙ ap valley_place f; first_is = h ∙ (λ i. sum (take (valley_place (f i)) (e i))) }

-- the leftmost valley of the outline stands at the place that is kept
pub place_kept : {w now : Word} {lists : SkeletonLists} {place first : ℕ}
    → IsStoredSmall w lists place first → w ≡ now → place ≡ valley_place (outline_of now).signs
place_kept s e = (s.valley).place_is ∙ ap valley_place ((s.stored).shows).signs_are ∙ ap (λ (v : Word). valley_place (outline_of v).signs) e

-- the leftmost valley stands in the word at the place that is kept, and ends with as many squares as are read of it
pub valley_kept : {w now : Word} {lists : SkeletonLists} {place first : ℕ}
    → IsStoredSmall w lists place first → w ≡ now
    → {read : List ℕ} {at begin size : ℕ} → read ≡ lists.sizes → at ≡ place → begin ≡ first → size ≡ slice_index read at
    → IsValleyPlace now (record { place = at; start = begin; end = begin + size })
valley_kept {w = w} {now = now} {lists = lists} s same {at = at} {begin = begin} {size = size} e f g h = record {
  stands = record {
    place_is = f ∙ place_kept s same;
    first_is = g ∙ (s.valley).first_is ∙ (λ i. sum (take (valley_place (signs_are i)) (sizes_are i)));
  };
  end_is = ap (λ n. begin + n) (h ∙ ap (λ (l : List ℕ). slice_index l at) (e ∙ sizes_are));
}
  where
    sizes_are : lists.sizes ≡ sizes_of (outline_of now)
    sizes_are = ((s.stored).shows).sizes_are ∙ ap (λ (v : Word). sizes_of (outline_of v)) same

    signs_are : lists.signs ≡ (outline_of now).signs
    signs_are = ((s.stored).shows).signs_are ∙ ap (λ (v : Word). (outline_of v).signs) same
