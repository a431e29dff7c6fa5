-- A table that a search has filled is whole, since each member has an image with a word that the search has met; and what a whole table tells of the numbers
-- from a bound on.
use Rattle.std.specs.List.{AllByRecursion}
use Rattle.std.proofs.Common.{Contains, None, Some, [], ap, arith, inl, inr, subst, sym}
use Rattle.std.proofs.Common.{ℕ, ◌<◌, ◌∙◌, ◌∷◌, ◌≡◌, ◌≤◌}
use Rattle.bk_laws.proofs.Membership.{all-contains}
use Rattle.bk_word.proofs.StoredBytes.{order_more}
use Rattle.bk_word.specs.Play.{IsComplete}
use Rattle.bk_word.specs.Word.{Word, order_of}
use Rattle.bk_word.specs.declared.Class.{Class}
use Rattle.bk_catalogue.specs.Catalogue.{Entry, IsEntry}
use Rattle.bk_catalogue.proofs.Members.OneEntry.{entry_complete}
use Rattle.bk_layout.proofs.NormalImages.ImagesToMeet.{each_member_is_met}
use Rattle.bk_layout.specs.NormalImage.{IsNormalSought}
use Rattle.bk_packed.specs.KeptNumbers.{AreAscendingNumbers, Holds, IsFirstFrom}
use Rattle.bk_packed.specs.Packed.{packed}
use Rattle.bk_walk.specs.Finding.{Finding, HasMet, IsMembersNumber, Wanted, wanted}
use Rattle.bk_walk.specs.MemberTables.{HasNoneFrom, IsMemberTable, IsNextNumber, IsWhole}

-- a search that has met all words that are sought holds each member
pub whole_table : (n : ℕ) (s : Finding) → 3 ≤ n → s.order ≡ n → ((w : Word) → IsNormalSought n w → HasMet s w) → IsWhole s
whole_table n s many order_is all e own =
    let is = subst (λ k. IsEntry k s.class e) order_is own in
    let m = each_member_is_met n s.class e.tiling many is.member in
    all m.word m.sought e m.turn own m.met

-- a search that holds as much as a whole one is whole
pub still_whole : (s u : Finding) → wanted u ≡ wanted s → ((x : ℕ) → Holds s.numbers x → Holds u.numbers x) → IsWhole s → IsWhole u
still_whole s u same kept whole e is least = kept (packed e.word)
    (whole e (subst (λ (w : Wanted). IsEntry w.order w.class e) same is) (omega (arith, least, ap (λ (w : Wanted). w.from) same)))

-- ---- the table of order 0

-- no entry has order 0
pub no_entry : (class : Class) (e : Entry) → IsEntry 0 class e → ⊥
no_entry class e is = let c = entry_complete 0 class e is in none e.word c.0 c.1
  where
    none : (w : Word) → IsComplete w → order_of w ≡ 0 → ⊥
    none [] complete none_hang = omega (arith, complete.some)
    none (m ∷ w) complete none_hang = omega (arith, complete.legal.0.some, none_hang, order_more m w)

-- a table of order 0 that has no numbers is a member table
pub table_of_none : (s : Finding) → s.order ≡ 0 → s.numbers.kept ≡ [] → IsMemberTable s
table_of_none s none kept = record {
  ascending = subst AreAscendingNumbers (sym kept) tt;
  few = omega (arith, none);
  whole = λ e is above. absurd (no_entry s.class e (subst (λ n. IsEntry n s.class e) none is));
}

-- ---- the numbers from a bound on

-- the least number that isn't below the bound is the next member's
pub first_kept_is_the_next_number : (t : Finding) (bound x : ℕ) → IsWhole t → ((y : ℕ) → Contains t.numbers.kept y → IsMembersNumber t y)
    → IsFirstFrom t.numbers.kept bound x → IsNextNumber t bound x
first_kept_is_the_next_number t bound x whole only first = record { member = only x first.has; first = first; least = least }
  where
    least : t.from ≤ bound → (e : Entry) → IsEntry t.order t.class e → bound ≤ packed e.word → x ≤ packed e.word
    least from e is above = held (whole e is (omega (arith, from, above)))
      where
        held : Holds t.numbers (packed e.word) → x ≤ packed e.word
        held (inl has) = all-contains (λ y. bound ≤ y → x ≤ y) t.numbers.kept (packed e.word) first.least has above
        held (inr beyond) = omega (arith, all-contains (λ y. y < packed e.word) t.numbers.kept x beyond.beyond first.has)

-- if no number is kept from a bound on and none was dropped, no member's word has a number from there on
pub no_number_from_a_bound_above_all_kept : (t : Finding) (bound : ℕ) → IsWhole t → AllByRecursion (λ y. y < bound) t.numbers.kept → HasNoneFrom t bound
no_number_from_a_bound_above_all_kept t bound whole below = record { kept = below; none = none }
  where
    none : t.from ≤ bound → t.numbers.limit ≡ None → (e : Entry) → IsEntry t.order t.class e → bound ≤ packed e.word → ⊥
    none from uncut e is above = held (whole e is (omega (arith, from, above)))
      where
        held : Holds t.numbers (packed e.word) → ⊥
        held (inl has) = omega (arith, all-contains (λ y. y < bound) t.numbers.kept (packed e.word) below has, above)
        held (inr beyond) = let cut : Some beyond.limit ≡ None = sym beyond.cut ∙ uncut in cc
