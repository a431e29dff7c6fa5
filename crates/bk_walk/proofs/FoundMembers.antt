-- What a search finds at a complete word: the one tiling that is tried there is each image of a member that is met by the word. And what it keeps
-- are the numbers of members alone.
use Rattle.std.proofs.Common.{Contains, None, Option, Some, ap, arith, inl, inr, length, map, subst, suc, sym, zero, ℕ, ◌/◌, ◌<◌, ◌∙◌}
use Rattle.std.proofs.Common.{◌∷◌, ◌≡◌, ◌≤◌, ◌⊎◌}
use Rattle.bk_tiling.specs.Scale.{IsPrimitiveTiling}
use Rattle.bk_tiling.specs.Tiling.{IsTiling, Tiling}
use Rattle.bk_simple.specs.Simple.{IsSimple}
use Rattle.bk_sym.proofs.AlikeLaws.{a_canonical_tiling_is_its_own}
use Rattle.bk_sym.proofs.CanonicalLaws.{a_canonical_tiling_is_one}
use Rattle.bk_sym.specs.Canonical.{IsCanonicalOf, scaled_down_tiling}
use Rattle.bk_sym.specs.Image.{image, image_square}
use Rattle.bk_frac.specs.Divisor.{gcd_of}
use Rattle.bk_tiling.proofs.OrderLaws.{in_code_order-length}
use Rattle.std.proofs.lemmas.List.{length-map}
use Rattle.bk_tiling.specs.declared.Square.{Square}
use Rattle.bk_sym.specs.declared.Turn.{Turn}
use Rattle.bk_word.specs.Word.{Word}
use Rattle.bk_word.specs.declared.Class.{Class}
use Rattle.bk_catalogue.specs.Catalogue.{Entry, IsEntry, IsMember, IsOfClass}
use Rattle.bk_layout.proofs.NormalImages.ImagesToMeet.{each_image_is_a_members}
use Rattle.bk_layout.specs.NormalImage.{IsMetByNormalWord}
use Rattle.bk_found.specs.Found.{IsFound, IsPlacementOf}
use Rattle.bk_found.specs.declared.placing.Placed.{Placed}
use Rattle.bk_lay.specs.TilingWord.{IsWordOf}
use Rattle.bk_packed.proofs.AscendingNumbers.{AreSame, all_map, all_same}
use Rattle.bk_packed.specs.KeptNumbers.{HasMoreDifferent, Holds, Numbers}
use Rattle.bk_packed.specs.Packed.{packed}
use Rattle.bk_walk.specs.Finding.{Finding, HasMet, HasMoreMembers, HasOnlyMembers, IsHeld, IsMembersNumber, Wanted, wanted}

-- the placement that a leaf found
pub found_here : (t : Tiling) (found : Option Placed) (p : Placed) → IsFound t found → found ≡ Some p → IsPlacementOf t p
found_here t found p (q, e, place) is = let same : q ≡ p = cc in subst (IsPlacementOf t) same place

-- where something is found for a tiling, it is not nothing
pub found_is_not_nothing : (t : Tiling) (found : Option Placed) → IsFound t found → found ≡ None → ⊥
found_is_not_nothing t found (q, e, place) is = absurd (cc)

-- what is found at a word: each primitive tiling of the class that is met by it is placed so
abbrev pub FindsAll : Word → Class → Option Placed → Type 0
FindsAll w class found = (u : Tiling) → IsMetByNormalWord u w → IsPrimitiveTiling u → IsOfClass class u → IsFound u found

-- so each image of a member that is met by it is found
found_image : (w : Word) (found : Option Placed) (s : Finding) → FindsAll w s.class found → (e : Entry) (turn : Turn) → IsEntry s.order s.class e
    → IsMetByNormalWord (image turn e.tiling) w → IsFound (image turn e.tiling) found
found_image w found s all e turn is met =
    let of_member = each_image_is_a_members s.order s.class e.tiling turn is.member in
    all (image turn e.tiling) met of_member.primitive of_member.of_class

-- where nothing is found there is none
pub met_nothing : (w : Word) (found : Option Placed) (s : Finding) → FindsAll w s.class found → found ≡ None → HasMet s w
met_nothing w found s all none e turn is met = absurd (found_is_not_nothing (image turn e.tiling) found (found_image w found s all e turn is met) none)

-- searches for the same have the same members
same_entry : (s u : Finding) → wanted u ≡ wanted s → (e : Entry) → IsEntry u.order u.class e → IsEntry s.order s.class e
same_entry s u same e is = subst (λ (w : Wanted). IsEntry w.order w.class e) same is

-- where a member is held, if an image of it is placed, the word is met
pub met_placed : (w : Word) (found : Option Placed) (p : Placed) (s u : Finding) → FindsAll w s.class found → found ≡ Some p → wanted u ≡ wanted s
    → ((t : Tiling) (turn : Turn) → IsMember s.order s.class t → IsPlacementOf (image turn t) p → IsHeld s.from u.numbers t) → HasMet u w
met_placed w found p s u all is_p same put e turn is met least =
    put e.tiling turn here.member (found_here (image turn e.tiling) found p (found_image w found s all e turn here met) is_p) e.word is.word
    (omega (arith, least, ap (λ (w : Wanted). w.from) same))
  where
    here : IsEntry s.order s.class e
    here = same_entry s u same e is

-- what was held is still held
pub still_met : (s u : Finding) → wanted u ≡ wanted s → ((x : ℕ) → Holds s.numbers x → Holds u.numbers x) → (w : Word) → HasMet s w → HasMet u w
still_met s u same kept w met e turn is by least =
    kept (packed e.word) (met e turn (same_entry s u same e is) by (omega (arith, least, ap (λ (w : Wanted). w.from) same)))

-- the canonical tiling of an image of a member is the member
pub the_member : (n : ℕ) (class : Class) (t u c : Tiling) (turn : Turn) → IsMember n class t → u ≡ image turn t → IsCanonicalOf u c → c ≡ t
the_member n class t u c turn member same canonical =
    let of_member = each_image_is_a_members n class t turn member in
    (a_canonical_tiling_is_one (image turn t) c t of_member.tiling (subst (λ v. IsCanonicalOf v c) same canonical) of_member.canonical).1

-- the canonical tiling of a tiling has as many squares as the tiling
pub as_many : (t c : Tiling) → IsCanonicalOf t c → length c.squares ≡ length t.squares
as_many t c canonical =
    let scaled : Tiling = scaled_down_tiling t in
    let g : ℕ = gcd_of (map (λ q. q.s) t.squares) in
    let f : Square → Square = λ q. record { x = q.x / g; y = q.y / g; s = q.s / g } in
    ap (λ (u : Tiling). length u.squares) canonical.image_of
    ∙ in_code_order-length (map (image_square canonical.turn scaled.width scaled.height) scaled.squares)
    ∙ length-map scaled.squares (image_square canonical.turn scaled.width scaled.height)
    ∙ length-map t.squares f

-- a tiling that passes the tests is a member
pub is_member : (n : ℕ) (class : Class) (u c : Tiling) → IsTiling u → IsTiling c → IsCanonicalOf u c → length u.squares ≡ n → IsSimple c
    → IsOfClass class c → IsMember n class c
is_member n class u c tiling own canonical order simple of_class = record {
  tiling = own;
  order = as_many u c canonical ∙ order;
  simple = simple;
  class = of_class;
  canonical = a_canonical_tiling_is_its_own u c tiling canonical;
}

-- an image of a member has its order
pub order_of_image : (n : ℕ) (class : Class) (t u : Tiling) (turn : Turn) → IsMember n class t → u ≡ image turn t → length u.squares ≡ n
order_of_image n class t u turn member same =
    ap (λ (v : Tiling). length v.squares) same ∙ (each_image_is_a_members n class t turn member).order_is

-- the number of a member's word, where it isn't below the one from which words are kept
pub members_number : (s : Finding) (t : Tiling) (w : Word) (x : ℕ) → IsMember s.order s.class t → IsWordOf t w → x ≡ packed w → s.from ≤ x → IsMembersNumber s x
members_number s t w x member word is least = (record { tiling = t; word = w }, record { member = member; word = word }, sym is, least)

-- with one such number more there are still only such
pub only_with : (s : Finding) (numbers : Numbers) (x : ℕ) → HasOnlyMembers s → IsMembersNumber s x
    → ((y : ℕ) → Contains numbers.kept y → Contains s.numbers.kept y ⊎ (y ≡ x))
    → HasOnlyMembers (record { order = s.order; class = s.class; from = s.from; numbers = numbers })
only_with s numbers x only is one y kept = cases (one y kept)
  where
    cases : Contains s.numbers.kept y ⊎ (y ≡ x) → IsMembersNumber s y
    cases (inl before) = only y before
    cases (inr same) = subst (IsMembersNumber s) (sym same) is

-- ---- numbers that were dropped

-- where one more number is put, and that is a member's, there are more than the room of those that were put only where there are so many members
pub more_members : (room : ℕ) (s : Finding) (x : ℕ) → HasOnlyMembers s → IsMembersNumber s x → HasMoreDifferent room (x ∷ s.numbers.kept)
    → HasMoreMembers room s
more_members room s x only is more = record {
  numbers = more.different;
  ascending = more.ascending;
  each = all_map (λ y. Contains (x ∷ s.numbers.kept) y) (IsMembersNumber s) more.different each more.each;
  more = more.more;
}
  where
    each : (y : ℕ) → Contains (x ∷ s.numbers.kept) y → IsMembersNumber s y
    each y (zero, low, same) = subst (IsMembersNumber s) same is
    each y (suc k, low, same) = only y (k, omega (arith, low), same)

-- where a search has more members than its room, so has one of its order and class that keeps other numbers
pub as_many_members : (room : ℕ) (s u : Finding) → wanted u ≡ wanted s → HasMoreMembers room s → HasMoreMembers room u
as_many_members room s u same more = record {
  numbers = more.numbers;
  ascending = more.ascending;
  each = all_map (IsMembersNumber s) (IsMembersNumber u) more.numbers (λ y is. as_in y is) more.each;
  more = more.more;
}
  where
    as_in : (y : ℕ) → IsMembersNumber s y → IsMembersNumber u y
    as_in y (e, is, at, from) = (
      e,
      subst (λ (w : Wanted). IsEntry w.order w.class e) (sym same) is,
      at,
      omega (arith, from, ap (λ (w : Wanted). w.from) same),
    )

-- numbers of members alone, where the same are kept
pub only_same : (s u : Finding) → wanted u ≡ wanted s → AreSame u.numbers.kept s.numbers.kept → HasOnlyMembers s → HasOnlyMembers u
only_same s u same kept only x has = as_in (only x ((kept x).0 has))
  where
    as_in : IsMembersNumber s x → IsMembersNumber u x
    as_in (e, is, at, from) = (
      e,
      subst (λ (w : Wanted). IsEntry w.order w.class e) (sym same) is,
      at,
      omega (arith, from, ap (λ (w : Wanted). w.from) same),
    )

-- what is held where the same numbers are kept, and none more was dropped
pub held_settled : (s u : Numbers) → AreSame u.kept s.kept → u.limit ≡ s.limit → (x : ℕ) → Holds s x → Holds u x
held_settled s u same limit x (inl has) = inl ((same x).1 has)
held_settled s u same limit x (inr above) = inr (record {
  limit = above.limit;
  cut = limit ∙ above.cut;
  from = above.from;
  beyond = all_same (λ y. y < x) s.kept u.kept (λ y. ((same y).1, (same y).0)) above.beyond;
})
