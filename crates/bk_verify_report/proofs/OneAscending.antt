-- Ascending lists of entries that contain the same entries are one, and so an order has one number of members.
use Rattle.std.proofs.Common.{Contains, List, [], ap, arith, inl, inr, length, refl, subst, suc, sym, zero, ℕ, ◌∙◌, ◌∷◌, ◌≡◌, ◌⊎◌}
use Rattle.std.specs.Prelude.{⊤}
use Rattle.bk_laws.proofs.Membership.{all-contains, contains-later}
use Rattle.bk_word.proofs.FollowLaws.{not_itself}
use Rattle.bk_word.proofs.WordOrder.{follows_trans}
use Rattle.bk_word.specs.Word.{Follows}
use Rattle.bk_word.specs.declared.Class.TheVariants.{Perfect}
use Rattle.bk_catalogue.specs.Catalogue.{AreAscending, Entry, IsEntry}
use Rattle.bk_verify_report.specs.KeptEntries.{CountsMembers}

first_or_later : (x : Entry) (xs : List Entry) (e : Entry) → Contains (x ∷ xs) e → (x ≡ e) ⊎ Contains xs e
first_or_later x xs e (zero, below, is) = inl is
first_or_later x xs e (suc k, below, is) = inr (k, omega (arith, below), is)

at_first : (x : Entry) (xs : List Entry) → Contains (x ∷ xs) x
at_first x xs = (0, omega arith, refl)

same_first : (x y : Entry) (xs ys : List Entry) → AreAscending (x ∷ xs) → AreAscending (y ∷ ys) → (y ≡ x) ⊎ Contains ys x → (x ≡ y) ⊎ Contains xs y → x ≡ y
same_first x y xs ys p q (inl e) h = sym e
same_first x y xs ys p q (inr c) (inl e) = e
same_first x y xs ys p q (inr c) (inr d) =
    absurd
    (not_itself x.word
    (follows_trans x.word y.word x.word (all-contains (λ f. Follows f.word x.word) xs y p.0 d) (all-contains (λ f. Follows f.word y.word) ys x q.0 c)))

-- what is behind the first entry of the one is behind that of the other
behind : (x y e : Entry) (xs ys : List Entry) → AreAscending (x ∷ xs) → x ≡ y → Contains xs e → (y ≡ e) ⊎ Contains ys e → Contains ys e
behind x y e xs ys p same c (inl is) =
    absurd (not_itself e.word (subst (λ (g : Entry). Follows e.word g.word) (same ∙ is) (all-contains (λ f. Follows f.word x.word) xs e p.0 c)))
behind x y e xs ys p same c (inr d) = d

-- an ascending list is fixed by what it contains
pub same_ascending : (xs ys : List Entry) → AreAscending xs → AreAscending ys → ((e : Entry) → Contains xs e → Contains ys e)
    → ((e : Entry) → Contains ys e → Contains xs e) → xs ≡ ys
same_ascending [] [] p q to from = refl
same_ascending [] (y ∷ ys) p q to from = let none = from y (at_first y ys) in absurd (omega (arith, none.1))
same_ascending (x ∷ xs) [] p q to from = let none = to x (at_first x xs) in absurd (omega (arith, none.1))
same_ascending (x ∷ xs) (y ∷ ys) p q to from =
    let same : x ≡ y = same_first x y xs ys p q (first_or_later y ys x (to x (at_first x xs))) (first_or_later x xs y (from y (at_first y ys))) in
    let rest : xs ≡ ys =
    same_ascending xs ys p.1 q.1 (λ e c. behind x y e xs ys p same c (first_or_later y ys e (to e (contains-later x xs e c))))
    (λ e c. behind y x e ys xs q (sym same) c (first_or_later x xs e (from e (contains-later y ys e c)))) in
    λ i. same i ∷ rest i

-- an order has one number of members
pub order_has_one_number_of_members : (n c d : ℕ) → CountsMembers n (λ word. ⊤) c → CountsMembers n (λ word. ⊤) d → c ≡ d
order_has_one_number_of_members n c d p q =
    let same : p.entries ≡ q.entries =
    same_ascending p.entries q.entries p.ascending q.ascending (λ e in_p. q.all e (all-contains (IsEntry n Perfect) p.entries e p.each in_p) tt)
    (λ e in_q. p.all e (all-contains (IsEntry n Perfect) q.entries e q.each in_q) tt) in
    p.number ∙ ap (λ (l : List Entry). length l) same ∙ sym q.number
