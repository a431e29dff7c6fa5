-- The closing bound over parts of the signs: a move lowers it by at most 1.
use Rattle.std.proofs.Common.{List, [], ap, arith, cond, count_by, drop, filter, inl, inr, length, max, refl, suc, sym, take, zero}
use Rattle.std.proofs.Common.{ℕ, ◌++◌, ◌+◌, ◌-◌, ◌∙◌, ◌∷◌, ◌≡◌, ◌≤◌, ◌⊎◌}
use Rattle.std.proofs.lemmas.List.{append-nil, take-append-drop}
use Rattle.std.proofs.lemmas.List.Sums.{sum_by-append, sum_by-cons}
use Rattle.bk_laws.proofs.ListParts.{drop-cons_one_more}
use Rattle.bk_word.specs.Outline.{Outline, valley_place}
use Rattle.bk_word.specs.Play.{after_move, parts}
use Rattle.bk_word.specs.Signs.{is_above, is_under}
use Rattle.bk_word.specs.Word.{Move}
use Rattle.bk_word.specs.declared.Sign.{Sign}
use Rattle.bk_word.specs.declared.Sign.TheVariants.{Above, Even, Under}
use Rattle.bk_catalogue.specs.ClosingBound.{closing_bound}

-- how many signs are above, and how many under
abbrev pub aboves : List Sign → ℕ
aboves signs = count_by is_above signs

-- how many are under
abbrev pub unders : List Sign → ℕ
unders signs = count_by is_under signs

-- counted from the first on
pub aboves-cons : (s : Sign) (signs : List Sign) → aboves (s ∷ signs) ≡ cond (is_above s) 1 0 + aboves signs
aboves-cons s signs = sum_by-cons (λ x. cond (is_above x) 1 0) s signs

-- the signs under are counted from the first on
pub unders-cons : (s : Sign) (signs : List Sign) → unders (s ∷ signs) ≡ cond (is_under s) 1 0 + unders signs
unders-cons s signs = sum_by-cons (λ x. cond (is_under x) 1 0) s signs

-- the signs above of two lists together are as many as those of each
pub aboves-append : (xs ys : List Sign) → aboves (xs ++ ys) ≡ aboves xs + aboves ys
aboves-append xs ys = sum_by-append (λ x. cond (is_above x) 1 0) xs ys

-- the signs under of two lists together are as many as those of each
pub unders-append : (xs ys : List Sign) → unders (xs ++ ys) ≡ unders xs + unders ys
unders-append xs ys = sum_by-append (λ x. cond (is_under x) 1 0) xs ys

-- the bound is at least the number of signs under
pub bound_unders : (xs : List Sign) → unders xs ≤ closing_bound xs
bound_unders [] = omega arith
bound_unders (Above ∷ xs) = omega (arith, bound_unders xs, unders-cons Above xs)
bound_unders (Even ∷ xs) = omega (arith, bound_unders xs, unders-cons Even xs)
bound_unders (Under ∷ xs) = omega (arith, unders-cons Under xs)

-- the bound is at least the number of signs above
pub bound_aboves : (xs : List Sign) → aboves xs ≤ closing_bound xs
bound_aboves [] = omega arith
bound_aboves (Above ∷ xs) = omega (arith, bound_aboves xs, aboves-cons Above xs)
bound_aboves (Even ∷ xs) = omega (arith, bound_aboves xs, aboves-cons Even xs)
bound_aboves (Under ∷ xs) = omega (arith, bound_aboves xs, aboves-cons Under xs)

-- the bound over two parts
pub bound-append : (xs ys : List Sign) → closing_bound (xs ++ ys) ≡ max (closing_bound xs + unders ys) (aboves xs + closing_bound ys)
bound-append [] ys = omega (arith, bound_unders ys)
bound-append (Above ∷ xs) ys = omega (arith, bound-append xs ys, aboves-cons Above xs)
bound-append (Even ∷ xs) ys = omega (arith, bound-append xs ys, aboves-cons Even xs)
bound-append (Under ∷ xs) ys = omega (arith, bound-append xs ys, aboves-cons Under xs, unders-append xs ys)

-- signs that come between make it no smaller
bound_between : (xs ms ys : List Sign) → closing_bound (xs ++ ys) ≤ closing_bound (xs ++ ms ++ ys)
bound_between xs ms ys = omega (arith, bound-append xs ys, bound-append (xs ++ ms) ys, bound-append xs ms, aboves-append xs ms)

-- signs even count for nothing among those under
pub unders-parts : (xs : List Sign) → unders (filter parts xs) ≡ unders xs
unders-parts [] = refl
unders-parts (Above ∷ xs) = omega (arith, unders-parts xs, unders-cons Above xs, unders-cons Above (filter parts xs))
unders-parts (Even ∷ xs) = omega (arith, unders-parts xs, unders-cons Even xs)
unders-parts (Under ∷ xs) = omega (arith, unders-parts xs, unders-cons Under xs, unders-cons Under (filter parts xs))

-- even signs don't matter to it
pub bound-parts : (xs : List Sign) → closing_bound (filter parts xs) ≡ closing_bound xs
bound-parts [] = refl
bound-parts (Above ∷ xs) = ap suc (bound-parts xs)
bound-parts (Even ∷ xs) = bound-parts xs
bound-parts (Under ∷ xs) = omega (arith, bound-parts xs, unders-parts xs)

-- the signs around the valley: those before it are not above, and behind it is none or the sign above
pub record AroundValley (signs : List Sign) : Type 0 where
  pub none : aboves (take (valley_place signs) signs) ≡ 0
  pub behind : ((drop (valley_place signs) signs ≡ []) × (drop (valley_place signs + 1) signs ≡ []))
      ⊎ (drop (valley_place signs) signs ≡ Above ∷ drop (valley_place signs + 1) signs)

-- one sign more in front of the valley
behind_next : (s : Sign) (signs : List Sign) (k : ℕ) → ((drop k signs ≡ []) × (drop (k + 1) signs ≡ [])) ⊎ (drop k signs ≡ Above ∷ drop (k + 1) signs)
    → ((drop (suc k) (s ∷ signs) ≡ []) × (drop (suc k + 1) (s ∷ signs) ≡ [])) ⊎ (drop (suc k) (s ∷ signs) ≡ Above ∷ drop (suc k + 1) (s ∷ signs))
behind_next s signs k (inl (e, f)) = inl (e, drop-cons_one_more s signs k ∙ f)
behind_next s signs k (inr e) = inr (e ∙ ap (λ ss. Above ∷ ss) (sym (drop-cons_one_more s signs k)))

-- signs, cut around the leftmost valley
pub around_valley : (signs : List Sign) → AroundValley signs
around_valley [] = record { none = refl; behind = inl (refl, refl) }
around_valley (Above ∷ signs) = record { none = refl; behind = inr refl }
around_valley (Even ∷ signs) = let a = around_valley signs in
    record { none = omega (arith, a.none, aboves-cons Even (take (valley_place signs) signs)); behind = behind_next Even signs (valley_place signs) a.behind }
around_valley (Under ∷ signs) = let a = around_valley signs in
    record { none = omega (arith, a.none, aboves-cons Under (take (valley_place signs) signs)); behind = behind_next Under signs (valley_place signs) a.behind }

-- the last sign of a part
record LastSign (xs : List Sign) (k : ℕ) : Type 0 where
  last : List Sign
  is : take k xs ≡ take (k - 1) xs ++ last
  few : length last ≤ 1

last_of : (xs : List Sign) (j : ℕ) → (last : List Sign) × (take (suc j) xs ≡ take j xs ++ last) × (length last ≤ 1)
last_of [] zero = ([], refl, omega arith)
last_of [] (suc j) = ([], refl, omega arith)
last_of (x ∷ xs) zero = (x ∷ [], refl, omega arith)
last_of (x ∷ xs) (suc j) = onto (last_of xs j)
  where
    onto : (last : List Sign) × (take (suc j) xs ≡ take j xs ++ last) × (length last ≤ 1) → (last : List Sign)
        × (take (suc (suc j)) (x ∷ xs) ≡ take (suc j) (x ∷ xs) ++ last) × (length last ≤ 1)
    onto (last, is, few) = (last, ap (λ ys. x ∷ ys) is, few)

last_sign : (xs : List Sign) (k : ℕ) → LastSign xs k
last_sign xs zero = record { last = []; is = (λ i. take (none i) xs) ∙ sym (append-nil (take (0 - 1) xs)); few = omega arith }
  where
    none : 0 ≡ 0 - 1
    none = omega arith
last_sign xs (suc j) = let l = last_of xs j in record { last = l.0; is = l.1 ∙ (λ i. take (one i) xs ++ l.0); few = l.2 }
  where
    one : j ≡ suc j - 1
    one = omega arith

few_signs : (xs : List Sign) → length xs ≤ 1 → (closing_bound xs ≤ 1) × (unders xs ≤ 1)
few_signs [] h = (omega arith, omega arith)
few_signs (Above ∷ []) h = (omega arith, omega arith)
few_signs (Even ∷ []) h = (omega arith, omega arith)
few_signs (Under ∷ []) h = (omega arith, omega arith)
few_signs (x ∷ y ∷ xs) h = absurd (omega arith)

-- without the signs at both sides of the valley it is smaller by at most 1
bound_without : (signs : List Sign) → closing_bound signs ≤ 1 + closing_bound (take (valley_place signs - 1) signs ++ drop (valley_place signs + 1) signs)
bound_without signs = cases a.behind
  where
    a : AroundValley signs
    a = around_valley signs

    l : LastSign signs (valley_place signs)
    l = last_sign signs (valley_place signs)

    whole : closing_bound signs ≡ max (closing_bound (take (valley_place signs) signs) + unders (drop (valley_place signs) signs))
        (aboves (take (valley_place signs) signs) + closing_bound (drop (valley_place signs) signs))
    whole = ap closing_bound (sym (take-append-drop (valley_place signs) signs))
        ∙ bound-append (take (valley_place signs) signs) (drop (valley_place signs) signs)

    before : closing_bound (take (valley_place signs) signs)
        ≡ max (closing_bound (take (valley_place signs - 1) signs) + unders l.last) (aboves (take (valley_place signs - 1) signs) + closing_bound l.last)
    before = ap closing_bound l.is ∙ bound-append (take (valley_place signs - 1) signs) l.last

    apart : closing_bound (take (valley_place signs - 1) signs ++ drop (valley_place signs + 1) signs)
        ≡ max (closing_bound (take (valley_place signs - 1) signs) + unders (drop (valley_place signs + 1) signs))
        (aboves (take (valley_place signs - 1) signs) + closing_bound (drop (valley_place signs + 1) signs))
    apart = bound-append (take (valley_place signs - 1) signs) (drop (valley_place signs + 1) signs)

    small : (closing_bound l.last ≤ 1) × (unders l.last ≤ 1)
    small = few_signs l.last l.few

    low : closing_bound (take (valley_place signs) signs) ≤ closing_bound (take (valley_place signs - 1) signs) + 1
    low = omega (arith, before, small.0, small.1, bound_aboves (take (valley_place signs - 1) signs))

    cases : ((drop (valley_place signs) signs ≡ []) × (drop (valley_place signs + 1) signs ≡ []))
        ⊎ (drop (valley_place signs) signs ≡ Above ∷ drop (valley_place signs + 1) signs)
        → closing_bound signs ≤ 1 + closing_bound (take (valley_place signs - 1) signs ++ drop (valley_place signs + 1) signs)
    cases (inl (e, f)) = omega (arith, whole, a.none, apart, low, ap closing_bound e, ap unders e)
    cases (inr e) = omega (arith, whole, a.none, apart, low, ap closing_bound e, ap unders e, unders-cons Above (drop (valley_place signs + 1) signs))

-- a move lowers the bound by at most 1
pub bound_after : (o : Outline) (m : Move) → closing_bound o.signs ≤ 1 + closing_bound (after_move o m).signs
bound_after o m = omega (
  arith,
  bound_without o.signs,
  bound_between (take (valley_place o.signs - 1) o.signs) m.signs (drop (valley_place o.signs + 1) o.signs),
  bound-parts (take (valley_place o.signs - 1) o.signs ++ m.signs ++ drop (valley_place o.signs + 1) o.signs),
)
