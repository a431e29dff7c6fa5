-- Where the flow of a word's net is unfit no member of the class has the word; and which numbers are found to be the same.
use Rattle.std.specs.List.{Contains}
use Rattle.std.specs.Prelude.{List, ℤ}
use Rattle.std.proofs.Common.{Some, ap, arith, inl, inr, length, refl, slice_get, subst, sym, take, ℕ, ◌+◌, ◌<◌, ◌∙◌, ◌≡◌, ◌≤◌}
use Rattle.std.proofs.lemmas.Bool.{cases_lt}
use Rattle.std.proofs.lemmas.List.{length-take-le}
use Rattle.std.proofs.lemmas.Option.{slice_get_within}
use Rattle.bk_laws.proofs.AllOfLists.{none_below_one-where_all_positive}
use Rattle.bk_laws.proofs.ListPlaces.{slice_get-from_take}
use Rattle.bk_laws.proofs.Membership.{contains-take}
use Rattle.bk_net.specs.Flow.{IsPrimitiveFlow}
use Rattle.bk_word.specs.Play.{IsComplete}
use Rattle.bk_word.specs.Word.{Word}
use Rattle.bk_word.specs.declared.Class.{Class}
use Rattle.bk_lay.specs.TilingWord.{IsWordOf}
use Rattle.bk_word_net.proofs.PlacedSquares.WordTilings.{none_by}
use Rattle.bk_word_net.specs.WordNet.{net_of_word}
use Rattle.bk_catalogue.proofs.Members.RepeatedSides.{no_perfect_member}
use Rattle.bk_catalogue.specs.Repeated.{HasNoMember, HasTwoAlike}
use Rattle.bk_tree_walk.specs.WholeWords.{IsUnfit}

-- no member has a word whose currents are unfit
pub none_unfit : (w : Word) (class : Class) (total : ℤ) (currents : List ℤ) → IsComplete w → IsPrimitiveFlow (net_of_word w) total currents
    → IsUnfit class currents → HasNoMember class w
none_unfit w class total currents complete flow (inl any) e is same =
    none_by w complete total currents flow currents refl (none_below_one-where_all_positive currents any) e.tiling (is.member).tiling
    (subst (IsWordOf e.tiling) same is.word)
none_unfit w class total currents complete flow (inr (perfect, two)) e is same = no_perfect_member w class perfect total currents flow two e is same

-- ---- numbers that are the same

-- no two of the first numbers are
abbrev pub AreIntegersApartTo : List ℤ → ℕ → Type 0
AreIntegersApartTo numbers n = (first second : ℕ) (number : ℤ) → first < second → second < n → slice_get numbers first ≡ Some number
    → slice_get numbers second ≡ Some number → ⊥

-- no two of all numbers are the same, where no two of the first ones are
pub none_alike_where_all_are_apart : (numbers : List ℤ) (n : ℕ) → AreIntegersApartTo numbers n → length numbers ≤ n → HasTwoAlike numbers → ⊥
none_alike_where_all_are_apart numbers n apart all two =
    let low = slice_get_within numbers two.second two.number two.at_second in
    apart two.first two.second two.number two.apart (omega (arith, low, all)) two.at_first two.at_second

-- a number that is one of those before it is found again
pub alike_from : (numbers : List ℤ) (i : ℕ) (number : ℤ) → i < length numbers → slice_get numbers i ≡ Some number → Contains (take i numbers) number
    → HasTwoAlike numbers
alike_from numbers i number within here (k, low, same) = record {
  first = k;
  second = i;
  number = number;
  apart = omega (arith, low, length-take-le i numbers (omega (arith, within)));
  at_first = slice_get-from_take numbers i k number low same;
  at_second = here;
}

-- where a number is none of those before, one more number is apart
pub apart_with_one_integer_more : (numbers : List ℤ) (i : ℕ) (number : ℤ) → slice_get numbers i ≡ Some number → AreIntegersApartTo numbers i
    → (Contains (take i numbers) number → ⊥) → AreIntegersApartTo numbers (i + 1)
apart_with_one_integer_more numbers i number here apart none first second n low high at_first at_second = elim (cases_lt second i) [
  | inl h ↦ apart first second n low h at_first at_second
  | inr h ↦
      let same : second ≡ i = omega (arith, high, h) in
      let number_is : Some n ≡ Some number = sym at_second ∙ ap (slice_get numbers) same ∙ here in
      let one : n ≡ number = cc in
      none (contains-take numbers i first number (omega (arith, low, same)) (at_first ∙ number_is))
]
