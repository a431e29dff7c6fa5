-- A side in front of bytes, and the byte right behind it; and the bracket that opens a group.
use Rattle.std.specs.Prelude.{Bool, List, Some, [], drop, false, length, option_and_then, refl, suc, take, true, zero, ℕ, ◌+◌, ◌<◌, ◌∷◌, ◌≡◌, ◌≤◌}
use Rattle.std.proofs.Common.{ap, arith, get_or, subst, sym, ◌∙◌}
use Rattle.std.proofs.Math.Seq.{take-add}
use Rattle.std.proofs.lemmas.List.{length-drop, take_more}
use Rattle.bk_text.specs.GatheredSides.{Gathered, gathered_after}
use Rattle.bk_text.specs.Onward.{IsFrontSide, OpensGroup, SpellOn, at_number, behind_sides, onward, with_last_side}
use Rattle.bk_text.specs.LineReader.{line_kind_of}
use Rattle.bk_text.specs.declared.reader.Bracket.{Bracket}
use Rattle.bk_text.specs.declared.reader.Bracket.TheVariants.{Round, Square}
use Rattle.bk_text.specs.declared.reader.Field.TheVariants.{Side}
use Rattle.bk_text.specs.declared.reader.Header.{Header}
use Rattle.bk_text.specs.declared.reader.ByteKind.TheVariants.{Close, Comma, Open}
use Rattle.bk_text.specs.declared.reader.Place.{Place}
use Rattle.bk_text.specs.declared.reader.Place.TheVariants.{BeforeGroup, BeforeSide, BehindGroup, Number}
use Rattle.bk_text.proofs.NumberBytes.{side_begins, step}
use Rattle.bk_text.proofs.Strides.{from, from_is_drop, onward-append}

-- the byte ends the side so
abbrev pub Ends : ℕ → Bracket → ℕ → Bool → Type 0
Ends b bracket side closed = (h : Header) (g : Gathered)
    → onward (b ∷ []) (at_number (BeforeSide h bracket) (Side h bracket) side) g ≡ Some (behind_sides h bracket closed, with_last_side side closed g)

-- a comma ends a side, and the group goes on
pub comma_ends : (b side : ℕ) (bracket : Bracket) → 0 < side → line_kind_of b ≡ Comma → Ends b bracket side false
comma_ends b zero bracket some kind h g = absurd (omega (arith, some))
comma_ends b (suc n) bracket some kind h g = ap (step (Number (Side h bracket) (suc n)) g) kind

-- a group's own bracket ends a side and the group
pub bracket_ends : (b side : ℕ) (bracket : Bracket) → 0 < side → line_kind_of b ≡ Close bracket → Ends b bracket side true
bracket_ends b zero bracket some kind h g = absurd (omega (arith, some))
bracket_ends b (suc n) Square some kind h g = ap (step (Number (Side h Square) (suc n)) g) kind
bracket_ends b (suc n) Round some kind h g = ap (step (Number (Side h Round) (suc n)) g) kind

-- digits and the byte that ends them are a side in front of the bytes
pub front_side : (bracket : Bracket) (bytes : List ℕ) (side digits : ℕ) (closed : Bool) → SpellOn 999_999_999_999_999 (take digits bytes) 0 side → 0 < side
    → digits < length bytes → Ends (get_or bytes digits 0) bracket side closed → IsFrontSide bracket bytes side (digits + 1) closed
front_side bracket bytes side digits closed spelled some within ends = record {
  side_fits = (some, spelled.small);
  some = omega arith;
  within = omega (arith, within);
  leads = λ h g. ap (λ z. onward z (BeforeSide h bracket) g) (take_more bytes digits 0 within)
      ∙ onward-append (take digits bytes) (get_or bytes digits 0 ∷ []) (BeforeSide h bracket)
      (at_number (BeforeSide h bracket) (Side h bracket) side) g g
      (spelled.leads (BeforeSide h bracket) (Side h bracket) (side_begins h bracket) refl g)
      ∙ ends h g;
}

-- one side further in a group
pub front_side_ends_within_the_bytes : (bracket : Bracket) (bytes : List ℕ) (taken side len : ℕ) (closed : Bool) → taken ≤ length bytes
    → IsFrontSide bracket (from taken bytes) side len closed → taken + len ≤ length bytes
front_side_ends_within_the_bytes bracket bytes taken side len closed within front =
    let front' : IsFrontSide bracket (drop taken bytes) side len closed =
    subst (λ (z : List ℕ). IsFrontSide bracket z side len closed) (from_is_drop taken bytes) front in
    omega (arith, within, front'.within, length-drop taken bytes)

-- with one more side in front taken, the reader stands before the next side or behind the group
pub group_further : (bracket : Bracket) (bytes : List ℕ) (taken side len : ℕ) (closed : Bool) (start g h : Gathered)
    → ((header : Header) → onward (take taken bytes) (BeforeSide header bracket) start ≡ Some (BeforeSide header bracket, g))
    → IsFrontSide bracket (from taken bytes) side len closed → h ≡ with_last_side side closed g
    → (header : Header) → onward (take (taken + len) bytes) (BeforeSide header bracket) start ≡ Some (behind_sides header bracket closed, h)
group_further bracket bytes taken side len closed start g h so_far front same header =
    let front' : IsFrontSide bracket (drop taken bytes) side len closed =
    subst (λ (z : List ℕ). IsFrontSide bracket z side len closed) (from_is_drop taken bytes) front in
    ap (λ z. onward z (BeforeSide header bracket) start) (take-add taken len bytes)
    ∙ onward-append (take taken bytes) (take len (drop taken bytes)) (BeforeSide header bracket) (BeforeSide header bracket) start g (so_far header)
    ∙ front'.leads header g ∙ ap (λ z. Some (behind_sides header bracket closed, z)) (sym same)

-- where groups begin
pub group_follows : (header : Header) → OpensGroup (BeforeGroup header) header
group_follows header = record { next = λ bracket. refl; keeps = λ bracket g. refl }

-- behind a group a bracket opens the next one
pub group_goes_on : (header : Header) → OpensGroup (BehindGroup header) header
group_goes_on header = record { next = λ bracket. refl; keeps = λ bracket g. refl }

-- with the bracket that opens a group and sides of it taken, the reader stands before the next side or behind the group
pub group_taken : (place : Place) (header : Header) (bracket : Bracket) (bytes : List ℕ) (taken : ℕ) (closed : Bool) (g h : Gathered)
    → OpensGroup place header → 0 < length bytes → line_kind_of (get_or bytes 0 0) ≡ Open bracket
    → ((any : Header) → onward (take taken (from 1 bytes)) (BeforeSide any bracket) g ≡ Some (behind_sides any bracket closed, h))
    → onward (take (taken + 1) bytes) place g ≡ Some (behind_sides header bracket closed, h)
group_taken place header bracket [] taken closed g h opens some is leads = absurd (omega (arith, some))
group_taken place header bracket (b ∷ bs) taken closed g h opens some is leads =
    let first : onward (b ∷ []) place g ≡ Some (BeforeSide header bracket, g) =
    ap (step place g) is ∙ ap (option_and_then (λ q. Some (q, gathered_after place (Open bracket) g))) (opens.next bracket)
    ∙ ap (λ z. Some (BeforeSide header bracket, z)) (opens.keeps bracket g) in
    let more : taken + 1 ≡ 1 + taken = omega arith in
    ap (λ z. onward (take z (b ∷ bs)) place g) more ∙ ap (λ z. onward z place g) (take-add 1 taken (b ∷ bs))
    ∙ onward-append (b ∷ []) (take taken (drop 1 (b ∷ bs))) place (BeforeSide header bracket) g g first
    ∙ ap (λ z. onward (take taken z) (BeforeSide header bracket) g) (sym (from_is_drop 1 (b ∷ bs))) ∙ leads header
