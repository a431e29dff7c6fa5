-- What an entry stands for: its canonical tiling, where it is a member.
use Rattle.std.specs.Prelude.{IsTrue, ◌↔◌}
use Rattle.std.proofs.Common.{Bool, List, [], ap, arith, length, map, refl, subst, suc, sym, true, zero, ℕ, ◌++◌, ◌∙◌, ◌∷◌, ◌≡◌, ◌≢◌}
use Rattle.bk_laws.proofs.AllOfLists.{all_append}
use Rattle.bk_laws.proofs.Membership.{all-contains}
use Rattle.bk_tiling.proofs.OrderLaws.{in_code_order-length}
use Rattle.bk_tiling.specs.Tiling.{IsTiling, Tiling}
use Rattle.bk_simple.specs.Simple.{IsPerfect, IsSimple}
use Rattle.bk_sym.proofs.AlikeLaws.{a_canonical_tiling_is_its_own}
use Rattle.bk_sym.proofs.CanonicalLaws.{a_canonical_tiling_is_one}
use Rattle.bk_sym.specs.Canonical.{IsCanonicalOf, scaled_down_tiling}
use Rattle.bk_sym.specs.Image.{image_square}
use Rattle.bk_word.specs.declared.Class.TheVariants.{Perfect}
use Rattle.std.specs.Prelude.{◌/◌}
use Rattle.std.proofs.lemmas.List.{length-map}
use Rattle.bk_sym.proofs.ScaledDown.{side_divisor}
use Rattle.bk_catalogue.specs.Catalogue.{IsMember}
use Rattle.bk_verify_report.specs.KeptEntries.{AreKeptApart, AreKeptEntries, IsFirstSight, IsKeptFrom, IsNotKept, IsTakenIn, Kept, RepeatsFrom, StandsFor}
use Rattle.bk_verify_report.specs.KeptEntries.{StandsForNone, EntriesState, with_kept}
use Rattle.bk_verify_report.specs.VerifyLaws.{AnEntryIsToldOneThing}
use Rattle.bk_verify_report.specs.declared.entries.Fed.TheVariants.{Foreign, New, Repeats}

-- the canonical tiling has as many squares
pub canonical_order : (t u : Tiling) → IsCanonicalOf t u → length u.squares ≡ length t.squares
canonical_order t u is =
    let s = scaled_down_tiling t in
    ap (λ (v : Tiling). length v.squares) is.image_of
    ∙ in_code_order-length (map (image_square is.turn s.width s.height) s.squares)
    ∙ length-map s.squares (image_square is.turn s.width s.height)
    ∙ length-map t.squares (λ q. record { x = q.x / side_divisor t; y = q.y / side_divisor t; s = q.s / side_divisor t })

-- a tiling of another order stands for no member
pub none_of_other_order : (n : ℕ) (t : Tiling) → (length t.squares ≡ n → ⊥) → StandsForNone n t
none_of_other_order n t not v stands = not (sym (canonical_order t v stands.canonical) ∙ (stands.member).order)

module _ (n : ℕ) (t u : Tiling) (tiling : IsTiling t) (is : IsCanonicalOf t u) where
  -- what the tiling stands for is its canonical tiling
  pub stands_one : (v : Tiling) → StandsFor n t v → v ≡ u
  stands_one v stands = (a_canonical_tiling_is_one t v u tiling stands.canonical is).1

  -- a tiling whose canonical tiling isn't perfect and simple stands for no member
  pub none_of_other_kind : (IsPerfect u → IsSimple u → ⊥) → StandsForNone n t
  none_of_other_kind not v stands =
      let member = subst (IsMember n Perfect) (stands_one v stands) stands.member in not member.class member.simple

  -- a perfect and simple canonical tiling is a member of its order
  pub stands_for : length t.squares ≡ n → IsPerfect u → IsSimple u → StandsFor n t u
  stands_for order perfect simple = record {
    canonical = is;
    member = record {
      tiling = (a_canonical_tiling_is_one t u u tiling is is).0;
      order = canonical_order t u is ∙ order;
      simple = simple;
      class = perfect;
      canonical = a_canonical_tiling_is_its_own t u tiling is;
    };
  }

-- what was told of a tiling shows that it stands for a member: its order, and that its canonical tiling is perfect and simple
pub stands_told : (n : ℕ) (t u : Tiling) (order wanted : ℕ) (told : Bool) → IsTiling t → IsCanonicalOf t u → order ≡ length t.squares → wanted ≡ n
    → order ≡ wanted
    → (IsTrue told ↔ IsPerfect u × IsSimple u) → told ≡ true → StandsFor n t u
stands_told n t u order wanted told tiling is length_is wanted_is same says it =
    let kind = says.0 it in stands_for n t u tiling is (sym length_is ∙ same ∙ wanted_is) kind.0 kind.1

-- a pair is among those that are kept, or its tiling isn't kept
not_itself : (pairs : List Kept) (u : Tiling) (line : ℕ) → IsNotKept pairs u → IsKeptFrom pairs u line → ⊥
not_itself pairs u line new from = all-contains (λ (p : Kept). p.tiling ≢ u) pairs (record { line = line; tiling = u }) new from refl

apart_more : (pairs : List Kept) (p : Kept) → AreKeptApart pairs → IsNotKept pairs p.tiling → AreKeptApart (pairs ++ p ∷ [])
apart_more [] p apart new = (tt, tt)
apart_more (q ∷ pairs) p apart new = (
  all_append (λ (r : Kept). r.tiling ≢ q.tiling) pairs (p ∷ []) apart.0 (λ e. new.0 (sym e), tt),
  apart_more pairs p apart.1 new.1,
)

-- the entries with one more member
pub kept_with : (s : EntriesState) (t : Tiling) (line : ℕ) (sight : IsFirstSight s t) → AreKeptEntries s → AreKeptEntries (with_kept s line sight.tiling)
kept_with s t line sight kept = record {
  least = kept.least;
  most = kept.most;
  members = all_append (λ (p : Kept). IsMember s.order Perfect p.tiling) s.pairs (record { line = line; tiling = sight.tiling } ∷ []) kept.members
      ((sight.stands).member, tt);
  apart = apart_more s.pairs (record { line = line; tiling = sight.tiling }) kept.apart sight.new;
}

-- a tiling is kept from one line
one_line : (pairs : List Kept) (u : Tiling) (a b : ℕ) → AreKeptApart pairs → IsKeptFrom pairs u a → IsKeptFrom pairs u b → a ≡ b
one_line [] u a b apart from that = absurd (omega (arith, from.1))
one_line (p ∷ pairs) u a b apart (zero, few, e) (zero, little, f) = ap (λ (k : Kept). k.line) (sym e ∙ f)
one_line (p ∷ pairs) u a b apart (zero, few, e) (suc k, little, f) = absurd
    (not_itself pairs p.tiling b apart.0 (subst (λ (v : Tiling). IsKeptFrom pairs v b) (ap (λ (q : Kept). q.tiling) (sym e)) (k, omega (arith, little), f)))
one_line (p ∷ pairs) u a b apart (suc k, few, e) (zero, little, f) = absurd
    (not_itself pairs p.tiling a apart.0 (subst (λ (v : Tiling). IsKeptFrom pairs v a) (ap (λ (q : Kept). q.tiling) (sym f)) (k, omega (arith, few), e)))
one_line (p ∷ pairs) u a b apart (suc k, few, e) (suc l, little, f) = one_line pairs u a b apart.1 (k, omega (arith, few), e) (l, omega (arith, little), f)

module _ (s : EntriesState) (t : Tiling) (kept : AreKeptEntries s) (tiling : IsTiling t) where
  one_stands : (u v : Tiling) → StandsFor s.order t u → StandsFor s.order t v → u ≡ v
  one_stands u v a b = (a_canonical_tiling_is_one t u v tiling a.canonical b.canonical).1

  not_both : (line : ℕ) → IsFirstSight s t → RepeatsFrom s t line → ⊥
  not_both line sight again = not_itself s.pairs sight.tiling line sight.new
      (subst (λ (v : Tiling). IsKeptFrom s.pairs v line) (one_stands again.tiling sight.tiling again.stands sight.stands) again.kept)

  same_line : (a b : ℕ) → RepeatsFrom s t a → RepeatsFrom s t b → a ≡ b
  same_line a b from that = one_line s.pairs from.tiling a b kept.apart from.kept
      (subst (λ (v : Tiling). IsKeptFrom s.pairs v b) (one_stands that.tiling from.tiling that.stands from.stands) that.kept)

-- what is told of an entry is one thing
pub an_entry_is_told_one_thing : AnEntryIsToldOneThing
an_entry_is_told_one_thing s line t New New x y kept tiling a b = refl
an_entry_is_told_one_thing s line t New (Repeats g) x y kept tiling a b = absurd (not_both s t kept tiling g a.sight b.0)
an_entry_is_told_one_thing s line t New Foreign x y kept tiling a b = absurd (b.0 (a.sight).tiling (a.sight).stands)
an_entry_is_told_one_thing s line t (Repeats f) New x y kept tiling a b = absurd (not_both s t kept tiling f b.sight a.0)
an_entry_is_told_one_thing s line t (Repeats f) (Repeats g) x y kept tiling a b = ap (λ (l : ℕ). Repeats l) (same_line s t kept tiling f g a.0 b.0)
an_entry_is_told_one_thing s line t (Repeats f) Foreign x y kept tiling a b = absurd (b.0 (a.0).tiling (a.0).stands)
an_entry_is_told_one_thing s line t Foreign New x y kept tiling a b = absurd (a.0 (b.sight).tiling (b.sight).stands)
an_entry_is_told_one_thing s line t Foreign (Repeats g) x y kept tiling a b = absurd (a.0 (b.0).tiling (b.0).stands)
an_entry_is_told_one_thing s line t Foreign Foreign x y kept tiling a b = refl

-- a member that was new is kept
module _ (s : EntriesState) (t u : Tiling) (line : ℕ) (pairs : List Kept) (stands : StandsFor s.order t u) (new : IsNotKept s.pairs u) where
  -- the entry is the first one that stands for the member
  abbrev pub first_sight : IsFirstSight s t
  first_sight = record { tiling = u; stands = stands; new = new }

  now_is : pairs ≡ s.pairs ++ record { line = line; tiling = u } ∷ [] → record { order = s.order; pairs = pairs } ≡ with_kept s line u
  now_is e = λ i. record { order = s.order; pairs = e i }

  -- an entry that is the first one to stand for a member is taken in
  pub taken_in : pairs ≡ s.pairs ++ record { line = line; tiling = u } ∷ [] → IsTakenIn s line t (record { order = s.order; pairs = pairs })
  taken_in e = record { sight = first_sight; taken = now_is e }

  -- what is kept with an entry that is taken in is right
  pub kept_then : AreKeptEntries s → pairs ≡ s.pairs ++ record { line = line; tiling = u } ∷ [] → AreKeptEntries (record { order = s.order; pairs = pairs })
  kept_then kept e = subst AreKeptEntries (sym (now_is e)) (kept_with s t line first_sight kept)
