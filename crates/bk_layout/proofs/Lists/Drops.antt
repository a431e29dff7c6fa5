-- Lists of signs that are the same up to one place, where the one has above and the other under.
use Rattle.std.proofs.Common.{List, [], arith, inl, inr, length, refl, ◌++◌, ◌∷◌, ◌≡◌, ◌⊎◌}
use Rattle.bk_laws.proofs.ListPlaces.{head_same, tail_same}
use Rattle.bk_word.specs.Word.{Word}
use Rattle.bk_word.specs.declared.Sign.{Sign}
use Rattle.bk_word.specs.declared.Sign.TheVariants.{Above, Under}

-- the signs are the same up to a place at which the first have above, the second under
abbrev pub Drops : List Sign → List Sign → Type 0
Drops [] signs = ⊥
Drops (g ∷ h) [] = ⊥
Drops (g ∷ h) (i ∷ j) = ((g ≡ Above) × (i ≡ Under)) ⊎ ((g ≡ i) × Drops h j)

-- words that are the same up to a move, where the one's signs drop
abbrev pub IsLess : Word → Word → Type 0
IsLess [] w = ⊥
IsLess (a ∷ v) [] = ⊥
IsLess (a ∷ v) (b ∷ w) = ((a.count ≡ b.count) × Drops a.signs b.signs) ⊎ ((a ≡ b) × IsLess v w)

differ : {A : Type 0} (g : Sign) → g ≡ Above → g ≡ Under → A
differ g e f = absurd (cc)

-- what stands before and behind both
pub drops_behind : (b x y : List Sign) → Drops (b ++ x) (b ++ y) → Drops x y
drops_behind [] x y d = d
drops_behind (g ∷ b) x y (inl (e, f)) = differ g e f
drops_behind (g ∷ b) x y (inr (e, f)) = drops_behind b x y f

never : (a : List Sign) → Drops a a → ⊥
never [] d = d
never (g ∷ a) (inl (e, f)) = differ g e f
never (g ∷ a) (inr (e, f)) = never a f

-- signs that are the same behind don't matter
pub drops_before : (x y a : List Sign) → length x ≡ length y → Drops (x ++ a) (y ++ a) → Drops x y
drops_before [] [] a e d = absurd (never a d)
drops_before [] (h ∷ y) a e d = absurd (omega arith)
drops_before (g ∷ x) [] a e d = absurd (omega arith)
drops_before (g ∷ x) (h ∷ y) a e (inl f) = inl f
drops_before (g ∷ x) (h ∷ y) a e (inr (f, d)) = inr (f, drops_before x y a (omega (arith, e)) d)

-- lists of signs that are equal before a rest have equal rests
pub same_behind : (b x y : List Sign) → b ++ x ≡ b ++ y → x ≡ y
same_behind [] x y e = e
same_behind (g ∷ b) x y e = same_behind b x y (tail_same g g (b ++ x) (b ++ y) e)

-- lists of signs of one length that are equal before an equal rest are equal
pub same_before : (x y a : List Sign) → length x ≡ length y → x ++ a ≡ y ++ a → x ≡ y
same_before [] [] a e f = refl
same_before [] (h ∷ y) a e f = absurd (omega arith)
same_before (g ∷ x) [] a e f = absurd (omega arith)
same_before (g ∷ x) (h ∷ y) a e f = let rest : x ≡ y = same_before x y a (omega (arith, e)) (tail_same g h (x ++ a) (y ++ a) f) in
    let one : g ≡ h = head_same g h (x ++ a) (y ++ a) f in λ i. one i ∷ rest i
