-- A place is stored in a group, and an item among the items.
use Rattle.std.specs.List.{list_any, position_or_len}
use Rattle.std.specs.Map.{keys_of, values_of}
use Rattle.std.specs.Prelude.{Bool, Some, cond, false, map, slice_get, zero}
use Rattle.std.proofs.Common.{List, [], ap, arith, inl, inr, length, refl, suc, sym, ℕ, ◌++◌, ◌||◌, ◌∙◌, ◌∷◌, ◌≡◌, ◌≤◌}
use Rattle.std.proofs.lemmas.Bool.{cases_Bool, true≢false}
use Rattle.std.proofs.lemmas.List.{length-map, map-append}
use Rattle.std.proofs.lemmas.Option.{same_Some}
use Rattle.indexmap.specs.IndexMap.{insert_entry, set_value_at}
use Rattle.bk_alike.specs.Alike.{size_eq, with_size}
use Rattle.bk_alike.specs.Grouped.{with_place}
use Rattle.bk_alike.proofs.GroupingLaws.{absent_at}

-- one more place in a group that is written back
pub set_placed : {K V : Type 0} (f : V → List ℕ) (entries : List (K × V)) (g : ℕ) (v d : V) (place : ℕ) → slice_get (values_of entries) g ≡ Some d
    → f v ≡ f d ++ place ∷ []
    → map f (values_of (set_value_at entries g v)) ≡ with_place (map f (values_of entries)) g place
set_placed f [] g v d place at e = absurd (cc)
set_placed f (x ∷ entries) zero v d place at e =
    ap (λ (l : List ℕ). l ∷ map f (values_of entries)) (e ∙ ap (λ w. f w ++ place ∷ []) (sym (same_Some x.1 d at)))
set_placed f (x ∷ entries) (suc g) v d place at e = ap (λ (l : List (List ℕ)). f x.1 ∷ l) (set_placed f entries g v d place at e)

-- a group that is written back as it was
pub set_same : {K V : Type 0} (f : V → List ℕ) (entries : List (K × V)) (g : ℕ) (v d : V) → slice_get (values_of entries) g ≡ Some d → f v ≡ f d
    → map f (values_of (set_value_at entries g v)) ≡ map f (values_of entries)
set_same f [] g v d at e = absurd (cc)
set_same f (x ∷ entries) zero v d at e = ap (λ (l : List ℕ). l ∷ map f (values_of entries)) (e ∙ ap f (sym (same_Some x.1 d at)))
set_same f (x ∷ entries) (suc g) v d at e = ap (λ (l : List (List ℕ)). f x.1 ∷ l) (set_same f entries g v d at e)

-- a new group at the end
pub with_place-end : (groups : List (List ℕ)) (k place : ℕ) → length groups ≤ k → with_place groups k place ≡ groups ++ (place ∷ []) ∷ []
with_place-end [] k place late = refl
with_place-end (g ∷ groups) zero place late = absurd (omega arith)
with_place-end (g ∷ groups) (suc k) place late = ap (λ (l : List (List ℕ)). g ∷ l) (with_place-end groups k place (omega arith))

-- a size that is not there goes last
new_entry : {V : Type 0} (entries : List ((ℕ × ℕ) × V)) (a : ℕ × ℕ) (v : V) → list_any (size_eq a) (keys_of entries) ≡ false
    → insert_entry size_eq entries a v ≡ entries ++ (a, v) ∷ []
new_entry [] a v none = refl
new_entry {V} (x ∷ entries) a v none = elim (cases_Bool (size_eq a x.0)) [
  | inl t ↦ absurd (true≢false (sym (ap (λ (b : Bool). b || list_any (size_eq a) (keys_of entries)) t) ∙ none))
  | inr f ↦
      let rest = sym (ap (λ (b : Bool). b || list_any (size_eq a) (keys_of entries)) f) ∙ none in
      ap (λ (b : Bool). cond {A = List ((ℕ × ℕ) × V)} b ((x.0, v) ∷ entries) (x ∷ insert_entry size_eq entries a v)) f
      ∙ ap (λ (l : List ((ℕ × ℕ) × V)). x ∷ l) (new_entry entries a v rest)
]

module _ {V : Type 0} (f : V → List ℕ) (entries more : List ((ℕ × ℕ) × V)) (a : ℕ × ℕ) (v : V) (place : ℕ)
    (late : length (keys_of entries) ≤ position_or_len (size_eq a) (keys_of entries)) (is : more ≡ insert_entry size_eq entries a v) where
  at_end : more ≡ entries ++ (a, v) ∷ []
  at_end = is ∙ new_entry entries a v (absent_at a (keys_of entries) late)

  -- the sizes with a new one
  pub keys_grown : keys_of more ≡ with_size (keys_of entries) a
  keys_grown =
      ap (λ (l : List ((ℕ × ℕ) × V)). keys_of l) at_end ∙ map-append (λ e. e.0) entries ((a, v) ∷ [])
      ∙ sym (ap (λ (b : Bool). cond b (keys_of entries) (keys_of entries ++ a ∷ [])) (absent_at a (keys_of entries) late))

  -- the groups with a new item are those with its place put in its group
  pub groups_grown : f v ≡ place ∷ []
      → map f (values_of more) ≡ with_place (map f (values_of entries)) (position_or_len (size_eq a) (keys_of entries)) place
  groups_grown one =
      ap (λ (l : List ((ℕ × ℕ) × V)). map f (values_of l)) at_end
      ∙ ap (map f) (map-append (λ e. e.1) entries ((a, v) ∷ []))
      ∙ map-append f (values_of entries) (v ∷ [])
      ∙ ap (λ (l : List ℕ). map f (values_of entries) ++ l ∷ []) one
      ∙ sym (with_place-end (map f (values_of entries)) (position_or_len (size_eq a) (keys_of entries)) place
      (omega (arith, late, length-map entries (λ e. e.0), length-map entries (λ e. e.1), length-map (values_of entries) f)))
