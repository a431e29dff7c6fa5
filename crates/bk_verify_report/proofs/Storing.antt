-- Kept members are found under their width and flat list, which fix them.
use Rattle.std.specs.List.{AllByRecursion}
use Rattle.std.specs.Map.{lookup}
use Rattle.std.proofs.Common.{Bool, Contains, Err, List, None, Ok, Some, [], ap, false, map, refl, subst, inl, inr, sym, true}
use Rattle.std.proofs.Common.{true≢false, ℕ, ◌&&◌, ◌++◌, ◌∙◌, ◌∷◌, ◌≡◌, ◌⊎◌}
use Rattle.std.specs.Prelude.{OnErr, OnOk, Result, nat_eq}
use Rattle.std.specs.Cmp.Lexicographic.{pointwise}
use Rattle.std.proofs.lemmas.Bool.{and_parts, eq-eqb, eqb-true}
use lib.Pointwise.{bytes_decides}
use Rattle.std.proofs.lemmas.Map.{NonePasses, lookup-none, none_passes_from_lookup}
use Rattle.std.proofs.lemmas.Map.Views.{Contains-from_lookup}
use Rattle.std.proofs.lemmas.Bool.{cases_Bool}
use Rattle.bk_laws.proofs.AllOfLists.{all_append}
use Rattle.bk_laws.proofs.Membership.{all-contains, contains-map}
use Rattle.indexmap.proofs.CallerLemmas.{insert_entry-new}
use Rattle.indexmap.specs.IndexMap.{IndexMap, IsUnchanged, insert_entry}
use Rattle.bk_tiling.specs.Tiling.{IsTiling, Tiling, sides_of}
use Rattle.bk_code.proofs.FlatList.{a_flat_list_fixes_a_tiling, flat_is_sides}
use Rattle.bk_verify_report.specs.KeptEntries.{IsKeptFrom, IsNotKept, Kept}
use Rattle.bk_verify_report.specs.StoredMember.{IsKeyOf, IsSeenOf, IsStoredMember, kept_member}
use Rattle.bk_verify_report.specs.declared.kept.Flat.{Flat}
use Rattle.bk_verify_report.specs.declared.kept.Seen.{Seen}

-- two tilings of one width and one flat list are one
same_tiling : (t u : Tiling) → IsTiling t → IsTiling u → t.width ≡ u.width → sides_of t ≡ sides_of u → t ≡ u
same_tiling t u is that width sides = a_flat_list_fixes_a_tiling t u is that width (flat_is_sides t ∙ sides ∙ sym (flat_is_sides u))

-- what is compared of two keys tells them apart
pub record TellsApart (same : Flat → Flat → Bool) : Type 0 where
  pub one : (a b : Flat) → same a b ≡ true → a ≡ b
  pub itself : (a : Flat) → same a a ≡ true

-- widths and flat lists are compared
abbrev pub same_flat : Flat → Flat → Bool
same_flat a b = nat_eq a.width b.width && pointwise nat_eq a.sides.items b.sides.items

-- two keys that are told to be one are equal, and each is told to be itself
pub tells_apart : TellsApart same_flat
tells_apart = record { one = one; itself = itself }
  where
    one : (a b : Flat) → same_flat a b ≡ true → a ≡ b
    one a b e =
        let parts = and_parts (nat_eq a.width b.width) (pointwise nat_eq a.sides.items b.sides.items) e in
        let width : a.width ≡ b.width = eqb-true a.width b.width parts.0 in
        let sides : a.sides.items ≡ b.sides.items = (bytes_decides a.sides.items b.sides.items).0 parts.1 in
        λ i. record { width = width i; sides = record { items = sides i } }

    itself : (a : Flat) → same_flat a a ≡ true
    itself a = λ i. eq-eqb a.width a.width refl i && (bytes_decides a.sides.items a.sides.items).1 refl i

module _ (same : Flat → Flat → Bool) (laws : TellsApart same) (key : Flat) (t : Tiling) (is : IsKeyOf key t) where
  -- a member that is stored under the key is the tiling
  stored_is : (seen : Seen) → IsStoredMember (key, seen) → (kept_member (key, seen)).tiling ≡ t
  stored_is seen stored = same_tiling (kept_member (key, seen)).tiling t stored.tiling is.tiling is.width (sym stored.sides ∙ is.sides)

  -- a tiling found under its key is kept from the line that is stored there
  pub found_is_kept : (es : List (Flat × Seen)) (seen : Seen) → AllByRecursion IsStoredMember es → lookup (same key) es ≡ Some seen
      → IsKeptFrom (map kept_member es) t seen.line
  found_is_kept es seen all e =
      let there : Contains es (key, seen) = Contains-from_lookup {eq = same} laws.one key seen es e in
      subst (λ (u : Tiling). IsKeptFrom (map kept_member es) u seen.line) (stored_is seen (all-contains IsStoredMember es (key, seen) all there))
      (contains-map kept_member es (key, seen) there)

  -- the tiling stands under its key alone
  key_is : (e : Flat × Seen) → IsStoredMember e → (kept_member e).tiling ≡ t → e.0 ≡ key
  key_is (other, seen) stored e =
      let width : other.width ≡ key.width = ap (λ (u : Tiling). u.width) e ∙ sym is.width in
      let sides : other.sides.items ≡ key.sides.items = stored.sides ∙ ap sides_of e ∙ sym is.sides in
      λ i. record { width = width i; sides = record { items = sides i } }

  not_kept : (es : List (Flat × Seen)) → AllByRecursion IsStoredMember es → NonePasses (same key) es → IsNotKept (map kept_member es) t
  not_kept [] all none = tt
  not_kept (e ∷ es) all none = (
    λ is_it. true≢false (sym (laws.itself key) ∙ subst (λ (k : Flat). same key k ≡ false) (key_is e all.0 is_it) none.0),
    not_kept es all.1 none.1,
  )

  -- a tiling that is not found under its key is not kept
  pub missed : (es : List (Flat × Seen)) → AllByRecursion IsStoredMember es → lookup (same key) es ≡ None → IsNotKept (map kept_member es) t
  missed es all e = not_kept es all (none_passes_from_lookup (same key) es e)

  none_passes : (es : List (Flat × Seen)) → AllByRecursion IsStoredMember es → IsNotKept (map kept_member es) t → NonePasses (same key) es
  none_passes [] all new = tt
  none_passes ((other, seen) ∷ es) all new = (cases (cases_Bool (same key other)), none_passes es all.1 new.1)
    where
      cases : (same key other ≡ true) ⊎ (same key other ≡ false) → same key other ≡ false
      cases (inl e) = absurd (new.0 (subst (λ (k : Flat). IsStoredMember (k, seen) → (kept_member (k, seen)).tiling ≡ t) (laws.one key other e)
          (stored_is seen) all.0))
      cases (inr e) = e

  -- a tiling that is not kept is not found under its key
  pub absent : (es : List (Flat × Seen)) → AllByRecursion IsStoredMember es → IsNotKept (map kept_member es) t → lookup (same key) es ≡ None
  absent es all new = lookup-none (same key) es (none_passes es all new)

module _ (key : Flat) (line : ℕ) (seen : Seen) (t : Tiling) (is : IsKeyOf key t) (of : IsSeenOf line seen t) where
  -- a key and what is seen of a tiling are what is kept of it
  pub kept_pair : kept_member (key, seen) ≡ record { line = line; tiling = t }
  kept_pair = λ i. record { line = of.on i; tiling = record { width = is.width i; height = of.height i; squares = of.squares i } }

  -- a tiling stored under its own width and flat list is a stored member
  pub stored_pair : IsStoredMember (key, seen)
  stored_pair = record {
    tiling = subst (λ (k : Kept). IsTiling k.tiling) (sym kept_pair) is.tiling;
    sides = is.sides ∙ ap (λ (k : Kept). sides_of k.tiling) (sym kept_pair);
  }

  -- stored members with one more are stored members
  pub stored_members_with_one_more : (es : List (Flat × Seen)) → AllByRecursion IsStoredMember es → AllByRecursion IsStoredMember (es ++ (key, seen) ∷ [])
  stored_members_with_one_more es all = all_append IsStoredMember es ((key, seen) ∷ []) all (stored_pair, tt)

  -- what is kept is one more where one more is stored
  pub kept_members_with_one_stored_more : (es : List (Flat × Seen))
      → map kept_member (es ++ (key, seen) ∷ []) ≡ map kept_member es ++ record { line = line; tiling = t } ∷ []
  kept_members_with_one_stored_more [] = ap (λ (k : Kept). k ∷ []) kept_pair
  kept_members_with_one_stored_more (e ∷ es) = ap (λ (ks : List Kept). kept_member e ∷ ks) (kept_members_with_one_stored_more es)

-- what is stored after a tiling was inserted, or not
module _ {S : Type 0} (same : Flat → Flat → Bool) (laws : TellsApart same) (old new : IndexMap Flat Seen S) (key : Flat) (line : ℕ) (seen : Seen)
    (t : Tiling) (is : IsKeyOf key t) (of : IsSeenOf line seen t) where
  inserted : AllByRecursion IsStoredMember old.entries → IsNotKept (map kept_member old.entries) t → new.entries ≡ insert_entry same old.entries key seen
      → new.entries ≡ old.entries ++ (key, seen) ∷ []
  inserted all not e = e ∙ insert_entry-new same old key seen (absent same laws key t is old.entries all not)

  -- an insert that succeeds or fails leaves all that is stored members
  pub still_stored : {A E : Type 0} (r : Result A E) → AllByRecursion IsStoredMember old.entries → IsNotKept (map kept_member old.entries) t
      → OnOk r (new.entries ≡ insert_entry same old.entries key seen) → OnErr r (IsUnchanged old new) → AllByRecursion IsStoredMember new.entries
  still_stored (Ok a) all not ok err = subst (AllByRecursion IsStoredMember) (sym (inserted all not ok))
      (stored_members_with_one_more key line seen t is of old.entries all)
  still_stored (Err x) all not ok err = subst (AllByRecursion IsStoredMember) (sym err) all

  -- an insert that succeeds keeps the tiling on its line behind the others
  pub kept_now : (pairs : List Kept) → map kept_member old.entries ≡ pairs → AllByRecursion IsStoredMember old.entries → IsNotKept pairs t
      → new.entries ≡ insert_entry same old.entries key seen → map kept_member new.entries ≡ pairs ++ record { line = line; tiling = t } ∷ []
  kept_now pairs seen_is all not e =
      let absent_there = subst (λ (ps : List Kept). IsNotKept ps t) (sym seen_is) not in
      ap (λ (es : List (Flat × Seen)). map kept_member es) (inserted all absent_there e) ∙ kept_members_with_one_stored_more key line seen t is of old.entries
      ∙ ap (λ (ps : List Kept). ps ++ record { line = line; tiling = t } ∷ []) seen_is
