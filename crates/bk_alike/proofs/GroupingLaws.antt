-- One more item goes to the group of its size.
use Rattle.std.specs.List.{AllByRecursion, enumerate_from, list_any, position_or_len}
use Rattle.std.specs.Prelude.{Bool, Some, cond, false, filter, fold, map, not, slice_get, true, zero}
use Rattle.std.proofs.Common.{List, [], ap, arith, inl, inr, length, refl, subst, suc, sym, ℕ, ◌++◌, ◌+◌, ◌<◌, ◌||◌, ◌∙◌, ◌∷◌, ◌≡◌, ◌≤◌}
use Rattle.std.proofs.lemmas.Bool.{cases_Bool, true≢false}
use Rattle.std.proofs.lemmas.Bool.Decides.{nat_tests}
use Rattle.std.proofs.lemmas.List.{append-nil, length-append, map-append}
use Rattle.std.proofs.lemmas.List.Elements.{filter-append}
use Rattle.std.proofs.lemmas.List.Folds.{list_any-append}
use Rattle.std.proofs.lemmas.List.Sums.{fold-append}
use Rattle.bk_laws.proofs.AllOfLists.{all_append}
use Rattle.bk_alike.specs.Alike.{alike_groups, group_of, item_size, size_eq, sizes, with_size}
use Rattle.bk_alike.specs.Grouped.{AreSizesApart, IsGrouped, with_place}
use Rattle.bk_alike.specs.declared.item.KeptItem.{KeptItem}

-- sizes that are one are the same
pub same_size : (a b : ℕ × ℕ) → size_eq a b ≡ true → a ≡ b
same_size (a, c) (b, d) e = let x : a ≡ b = grind (arith, nat_tests) in let y : c ≡ d = grind (arith, nat_tests) in λ i. (x i, y i)

size_eq-refl : (a : ℕ × ℕ) → size_eq a a ≡ true
size_eq-refl (a, c) = grind (arith, nat_tests)

-- whether two sizes are one does not depend on their order
pub size_eq-sym : (a b : ℕ × ℕ) → size_eq a b ≡ size_eq b a
size_eq-sym (a, c) (b, d) = grind (arith, nat_tests)

-- the sizes with one more item
pub sizes-push : (items : List KeptItem) (x : KeptItem) → sizes (items ++ x ∷ []) ≡ with_size (sizes items) (item_size x)
sizes-push items x =
    ap (λ (l : List (ℕ × ℕ)). fold with_size [] l) (map-append item_size items (x ∷ [])) ∙ fold-append with_size [] (map item_size items) (item_size x ∷ [])

enumerate-push : (n : ℕ) (items : List KeptItem) (x : KeptItem) → enumerate_from n (items ++ x ∷ []) ≡ enumerate_from n items ++ (n + length items, x) ∷ []
enumerate-push n [] x = let e : n ≡ n + 0 = omega arith in ap (λ (k : ℕ). (k, x) ∷ []) e
enumerate-push n (y ∷ items) x =
    let e : (n + 1) + length items ≡ n + length (y ∷ items) = omega arith in
    ap (λ (l : List (ℕ × KeptItem)). (n, y) ∷ l) (enumerate-push (n + 1) items x ∙ ap (λ (k : ℕ). enumerate_from (n + 1) items ++ (k, x) ∷ []) e)

-- a group with one more item
fst_cond : (b : Bool) (n : ℕ) (x : KeptItem) → map (λ (i, item). i) (cond {A = List (ℕ × KeptItem)} b ((n, x) ∷ []) []) ≡ cond b (n ∷ []) []
fst_cond true n x = refl
fst_cond false n x = refl

-- one item more is put behind the group of a size, if it has that size
pub group-push : (items : List KeptItem) (x : KeptItem) (a : ℕ × ℕ) → group_of (items ++ x ∷ []) a
    ≡ group_of items a ++ cond (size_eq a (item_size x)) (length items ∷ []) []
group-push items x a =
    let e : 0 + length items ≡ length items = omega arith in
    let test : ℕ × KeptItem → Bool = λ (i, item). size_eq a (item_size item) in
    let first : ℕ × KeptItem → ℕ = λ (i, item). i in
    ap (λ (l : List (ℕ × KeptItem)). map first (filter test l)) (enumerate-push 0 items x ∙ ap (λ (k : ℕ). enumerate_from 0 items ++ (k, x) ∷ []) e)
    ∙ ap (λ (l : List (ℕ × KeptItem)). map first l) (filter-append test (enumerate_from 0 items) ((length items, x) ∷ []))
    ∙ map-append first (filter test (enumerate_from 0 items)) (filter test ((length items, x) ∷ []))
    ∙ ap (λ (l : List ℕ). map first (filter test (enumerate_from 0 items)) ++ l) (fst_cond (size_eq a (item_size x)) (length items) x)

group-more : (items : List KeptItem) (x : KeptItem) (a : ℕ × ℕ) → size_eq a (item_size x) ≡ true
    → group_of (items ++ x ∷ []) a ≡ group_of items a ++ length items ∷ []
group-more items x a e = group-push items x a ∙ ap (λ (b : Bool). group_of items a ++ cond b (length items ∷ []) []) e

group-same : (items : List KeptItem) (x : KeptItem) (a : ℕ × ℕ) → size_eq a (item_size x) ≡ false → group_of (items ++ x ∷ []) a ≡ group_of items a
group-same items x a e = group-push items x a ∙ ap (λ (b : Bool). group_of items a ++ cond b (length items ∷ []) []) e ∙ append-nil (group_of items a)

-- a size that is not among others is none of them
none_is : (a : ℕ × ℕ) (S : List (ℕ × ℕ)) → list_any (size_eq a) S ≡ false → AllByRecursion (λ b. size_eq a b ≡ false) S
none_is a [] e = tt
none_is a (b ∷ S) e = elim (cases_Bool (size_eq a b)) [
  | inl t ↦ absurd (true≢false (sym (ap (λ (v : Bool). v || list_any (size_eq a) S) t) ∙ e))
  | inr f ↦ (f, none_is a S (sym (ap (λ (v : Bool). v || list_any (size_eq a) S) f) ∙ e))
]

-- ---- sizes stay apart

apart-last : (S : List (ℕ × ℕ)) (a : ℕ × ℕ) → AreSizesApart S → AllByRecursion (λ b. size_eq a b ≡ false) S → AreSizesApart (S ++ a ∷ [])
apart-last [] a apart none = (tt, tt)
apart-last (b ∷ S) a apart none =
    (all_append (λ c. size_eq b c ≡ false) S (a ∷ []) apart.0 (size_eq-sym b a ∙ none.0, tt), apart-last S a apart.1 none.1)

apart-push : (S : List (ℕ × ℕ)) (a : ℕ × ℕ) → AreSizesApart S → AreSizesApart (with_size S a)
apart-push S a apart = elim (cases_Bool (list_any (size_eq a) S)) [
  | inl t ↦ subst (λ (v : Bool). AreSizesApart (cond v S (S ++ a ∷ []))) (sym t) apart
  | inr f ↦ subst (λ (v : Bool). AreSizesApart (cond v S (S ++ a ∷ []))) (sym f) (apart-last S a apart (none_is a S f))
]

-- ---- the place of one more item

front : (b : ℕ × ℕ) (S : List (ℕ × ℕ)) (a : ℕ × ℕ) → size_eq a b ≡ false → with_size (b ∷ S) a ≡ b ∷ with_size S a
front b S a f =
    ap (λ (v : Bool). cond (v || list_any (size_eq a) S) (b ∷ S) (b ∷ (S ++ a ∷ []))) f ∙ pulled (list_any (size_eq a) S)
  where
    pulled : (v : Bool) → cond {A = List (ℕ × ℕ)} v (b ∷ S) (b ∷ (S ++ a ∷ [])) ≡ b ∷ cond v S (S ++ a ∷ [])
    pulled true = refl
    pulled false = refl

present : (b : ℕ × ℕ) (S : List (ℕ × ℕ)) (a : ℕ × ℕ) → size_eq a b ≡ true → with_size (b ∷ S) a ≡ b ∷ S
present b S a t = ap (λ (v : Bool). cond (v || list_any (size_eq a) S) (b ∷ S) (b ∷ (S ++ a ∷ []))) t

here : (b : ℕ × ℕ) (S : List (ℕ × ℕ)) (a : ℕ × ℕ) → size_eq a b ≡ true → position_or_len (size_eq a) (b ∷ S) ≡ zero
here b S a t = ap (λ (v : Bool). cond {A = ℕ} (not v) (1 + position_or_len (size_eq a) S) 0) t

later : (b : ℕ × ℕ) (S : List (ℕ × ℕ)) (a : ℕ × ℕ) → size_eq a b ≡ false → position_or_len (size_eq a) (b ∷ S) ≡ suc (position_or_len (size_eq a) S)
later b S a f =
    let n : 1 + position_or_len (size_eq a) S ≡ suc (position_or_len (size_eq a) S) = omega arith in
    ap (λ (v : Bool). cond {A = ℕ} (not v) (1 + position_or_len (size_eq a) S) 0) f ∙ n

-- what is found at the place of a size
pub found_at : (f : ℕ × ℕ → List ℕ) (a : ℕ × ℕ) (S : List (ℕ × ℕ)) → position_or_len (size_eq a) S < length S
    → slice_get (map f S) (position_or_len (size_eq a) S) ≡ Some (f a)
found_at f a [] h = absurd (omega arith)
found_at f a (b ∷ S) h = elim (cases_Bool (size_eq a b)) [
  | inl t ↦ subst (λ (k : ℕ). slice_get (map f (b ∷ S)) k ≡ Some (f a)) (sym (here b S a t)) (ap (λ (c : ℕ × ℕ). Some (f c)) (sym (same_size a b t)))
  | inr n ↦
      let next = later b S a n in
      subst (λ (k : ℕ). slice_get (map f (b ∷ S)) k ≡ Some (f a)) (sym next) (found_at f a S (omega (arith, h, next)))
]

-- what stands nowhere among sizes is none of them
pub absent_at : (a : ℕ × ℕ) (S : List (ℕ × ℕ)) → length S ≤ position_or_len (size_eq a) S → list_any (size_eq a) S ≡ false
absent_at a [] h = refl
absent_at a (b ∷ S) h = elim (cases_Bool (size_eq a b)) [
  | inl t ↦ absurd (omega (arith, h, here b S a t))
  | inr n ↦ ap (λ (v : Bool). v || list_any (size_eq a) S) n ∙ absent_at a S (omega (arith, h, later b S a n))
]

-- a size that stands somewhere among sizes is one of them
pub present_at : (a : ℕ × ℕ) (S : List (ℕ × ℕ)) → position_or_len (size_eq a) S < length S → list_any (size_eq a) S ≡ true
present_at a [] h = absurd (omega arith)
present_at a (b ∷ S) h = elim (cases_Bool (size_eq a b)) [
  | inl t ↦ ap (λ (v : Bool). v || list_any (size_eq a) S) t
  | inr n ↦ ap (λ (v : Bool). v || list_any (size_eq a) S) n ∙ present_at a S (omega (arith, h, later b S a n))
]

module _ (f g : ℕ × ℕ → List ℕ) (a : ℕ × ℕ) (n : ℕ) (same : (b : ℕ × ℕ) → size_eq b a ≡ false → g b ≡ f b)
    (more : (b : ℕ × ℕ) → size_eq b a ≡ true → g b ≡ f b ++ n ∷ []) where
  none_here : (S : List (ℕ × ℕ)) → AllByRecursion (λ b. size_eq a b ≡ false) S → map g S ≡ map f S
  none_here [] none = refl
  none_here (b ∷ S) none =
      let e = same b (size_eq-sym b a ∙ none.0) in
      λ i. e i ∷ none_here S none.1 i

  placed : (S : List (ℕ × ℕ)) → AreSizesApart S → (list_any (size_eq a) S ≡ false → f a ≡ [])
      → map g (with_size S a) ≡ with_place (map f S) (position_or_len (size_eq a) S) n
  placed [] apart absent =
      ap (λ (l : List ℕ). l ∷ []) (more a (size_eq-refl a) ∙ ap (λ (l : List ℕ). l ++ n ∷ []) (absent refl))
  placed (b ∷ S) apart absent = elim (cases_Bool (size_eq a b)) [
    | inl t ↦
        let others : AllByRecursion (λ c. size_eq a c ≡ false) S = subst (λ (d : ℕ × ℕ). AllByRecursion (λ c. size_eq d c ≡ false) S)
        (sym (same_size a b t)) apart.0 in
        ap (map g) (present b S a t)
        ∙ (let e = more b (size_eq-sym b a ∙ t) in λ i. e i ∷ none_here S others i)
        ∙ sym (ap (λ (k : ℕ). with_place (f b ∷ map f S) k n) (here b S a t))
    | inr h ↦
        let rest : map g (with_size S a) ≡ with_place (map f S) (position_or_len (size_eq a) S) n =
        placed S apart.1 (λ e. absent (ap (λ (v : Bool). v || list_any (size_eq a) S) h ∙ e)) in
        ap (map g) (front b S a h)
        ∙ (let e = same b (size_eq-sym b a ∙ h) in λ i. e i ∷ rest i)
        ∙ sym (ap (λ (k : ℕ). with_place (f b ∷ map f S) k n) (later b S a h))
  ]

-- ---- all of it

no_others-push : (items : List KeptItem) (x : KeptItem) → ((a : ℕ × ℕ) → list_any (size_eq a) (sizes items) ≡ false → group_of items a ≡ [])
    → (a : ℕ × ℕ) → list_any (size_eq a) (with_size (sizes items) (item_size x)) ≡ false → group_of (items ++ x ∷ []) a ≡ []
no_others-push items x before a e = elim (cases_Bool (list_any (size_eq (item_size x)) (sizes items))) [
  | inl t ↦
      let none : list_any (size_eq a) (sizes items)
      ≡ false = sym (ap (λ (v : Bool). list_any (size_eq a) (cond v (sizes items) (sizes items ++ item_size x ∷ []))) t) ∙ e in
      elim (cases_Bool (size_eq a (item_size x))) [
        | inl is ↦ absurd (true≢false (sym t ∙ ap (λ (b : ℕ × ℕ). list_any (size_eq b) (sizes items)) (sym (same_size a (item_size x) is)) ∙ none))
        | inr not ↦ group-same items x a not ∙ before a none
      ]
  | inr f ↦
      let both : (list_any (size_eq a) (sizes items) || (size_eq a (item_size x) || false)) ≡ false =
      sym (list_any-append (size_eq a) (sizes items) (item_size x ∷ []))
      ∙ sym (ap (λ (v : Bool). list_any (size_eq a) (cond v (sizes items) (sizes items ++ item_size x ∷ []))) f) ∙ e in
      let parts = neither (list_any (size_eq a) (sizes items)) (size_eq a (item_size x)) both in
      group-same items x a parts.1 ∙ before a parts.0
]
  where
    neither : (p q : Bool) → (p || (q || false)) ≡ false → (p ≡ false) × (q ≡ false)
    neither true q e = absurd (true≢false e)
    neither false true e = absurd (true≢false e)
    neither false false e = (refl, refl)

-- one item more leaves the stored groups and sizes those of the items
pub grouped-push : (items : List KeptItem) (x : KeptItem) (stored stored' : List (ℕ × ℕ)) (groups groups' : List (List ℕ))
    → IsGrouped items stored groups → length items < 16384
    → stored' ≡ with_size stored (item_size x) → groups' ≡ with_place groups (position_or_len (size_eq (item_size x)) stored) (length items)
    → IsGrouped (items ++ x ∷ []) stored' groups'
grouped-push items x stored stored' groups groups' g fits s p =
    let a = item_size x in
    let all : sizes (items ++ x ∷ []) ≡ with_size (sizes items) a = sizes-push items x in
    record {
      few = omega (arith, length-append items (x ∷ []));
      sizes_are = s ∙ ap (λ (l : List (ℕ × ℕ)). with_size l a) g.sizes_are ∙ sym all;
      groups_are =
          p ∙ ap (λ (l : List (List ℕ)). with_place l (position_or_len (size_eq a) stored) (length items)) g.groups_are
          ∙ ap (λ (l : List (ℕ × ℕ)). with_place (alike_groups items) (position_or_len (size_eq a) l) (length items)) g.sizes_are
          ∙ sym (placed (group_of items) (group_of (items ++ x ∷ [])) a (length items) (λ b e. group-same items x b e) (λ b e. group-more items x b e)
          (sizes items) g.apart (g.no_others a))
          ∙ ap (map (group_of (items ++ x ∷ []))) (sym all);
      apart = subst AreSizesApart (sym all) (apart-push (sizes items) a g.apart);
      no_others = λ b e. no_others-push items x g.no_others b (ap (list_any (size_eq b)) (sym all) ∙ e);
    }
