-- Numbers that are told apart by their remainders, or by comparing each with those before it.
use Rattle.std.specs.Prelude.{AllPairs, ◌↔◌}
use Rattle.std.proofs.Common.{Bool, List, ap, arith, false, get_or, inl, inr, length, map, set, subst, sym, true, ℕ, ◌%◌, ◌+◌}
use Rattle.std.proofs.Common.{◌<◌, ◌∙◌, ◌≡◌, ◌≢◌, ◌≤◌, ◌⊎◌}
use Rattle.std.proofs.lemmas.Bool.{both_ways, cases_eq}
use Rattle.std.proofs.lemmas.List.{get_or-map, get_or-set_other, get_or-set_same, length-map}
use Rattle.bk_laws.proofs.ListItems.{get_or-zero_or_any_default}
use Rattle.bk_tiling.specs.declared.Square.{Square}

-- among the first n numbers no two are equal
abbrev pub AreNumbersApartTo : List ℕ → ℕ → Type 0
AreNumbersApartTo numbers n = (i j : ℕ) → i < j → j < n → get_or numbers i 0 ≢ get_or numbers j 0

-- the remainders of the first n numbers are marked
abbrev pub AreMarkedTo : List Bool → List ℕ → ℕ → Type 0
AreMarkedTo met numbers n = (k : ℕ) → k < n → get_or met (get_or numbers k 0 % 256) false ≡ true

-- one number more is apart from those before it
pub apart_with_one_number_more : (numbers : List ℕ) (n : ℕ) → AreNumbersApartTo numbers n → ((k : ℕ) → k < n → get_or numbers k 0 ≢ get_or numbers n 0)
    → AreNumbersApartTo numbers (n + 1)
apart_with_one_number_more numbers n apart new i j up low same = cases (cases_eq j n)
  where
    cases : (j ≡ n) ⊎ (j ≡ n → ⊥) → ⊥
    cases (inl e) = new i (omega (arith, e)) (same ∙ ap (λ (k : ℕ). get_or numbers k 0) e)
    cases (inr e) = apart i j up (omega (arith, e)) same

-- a number whose remainder isn't marked is new
pub new_by_remainder : (met : List Bool) (numbers : List ℕ) (n : ℕ) → AreMarkedTo met numbers n → get_or met (get_or numbers n 0 % 256) false ≡ false
    → (k : ℕ) → k < n → get_or numbers k 0 ≢ get_or numbers n 0
new_by_remainder met numbers n marked unmarked k low same =
    both_ways (get_or met (get_or numbers n 0 % 256) false) unmarked (subst (λ (x : ℕ). get_or met (x % 256) false ≡ true) same (marked k low))

-- with the remainder of one number more those of all are marked
pub marked_more : (met : List Bool) (numbers : List ℕ) (n : ℕ) → length met ≡ 256 → AreMarkedTo met numbers n
    → AreMarkedTo (set met (get_or numbers n 0 % 256) true) numbers (n + 1)
marked_more met numbers n many marked k low = cases (cases_eq (get_or numbers k 0 % 256) (get_or numbers n 0 % 256))
  where
    in_room : get_or numbers n 0 % 256 < length met
    in_room = omega (arith, many)

    earlier : (get_or numbers k 0 % 256 ≡ get_or numbers n 0 % 256 → ⊥) → k < n
    earlier other = elim (cases_eq k n) [ inl e ↦ absurd (other (ap (λ (i : ℕ). get_or numbers i 0 % 256) e)) | inr e ↦ omega (arith, e, low) ]

    cases : (get_or numbers k 0 % 256 ≡ get_or numbers n 0 % 256) ⊎ (get_or numbers k 0 % 256 ≡ get_or numbers n 0 % 256 → ⊥)
        → get_or (set met (get_or numbers n 0 % 256) true) (get_or numbers k 0 % 256) false ≡ true
    cases (inl e) = subst (λ (i : ℕ). get_or (set met (get_or numbers n 0 % 256) true) i false ≡ true) (sym e)
        (get_or-set_same met (get_or numbers n 0 % 256) true false in_room)
    cases (inr e) = get_or-set_other met (get_or numbers n 0 % 256) (get_or numbers k 0 % 256) true false e ∙ marked k (earlier e)

-- numbers that are apart up to the last one all differ
pub all_numbers_apart_differ : (numbers : List ℕ) (n : ℕ) → length numbers ≤ n → AreNumbersApartTo numbers n → AllPairs ◌≢◌ numbers
all_numbers_apart_differ numbers n all apart i j d up low same =
    apart i j up (omega (arith, low, all)) (get_or-zero_or_any_default numbers i d (omega arith) ∙ same ∙ sym (get_or-zero_or_any_default numbers j d low))

-- the sides of squares differ where their list has no two that are equal
pub sides_differ : (squares : List Square) → AllPairs ◌≢◌ (map (λ q. q.s) squares) ↔ AllPairs (λ p q. p.s ≢ q.s) squares
sides_differ squares = (there, back)
  where
    there : AllPairs ◌≢◌ (map (λ q. q.s) squares) → AllPairs (λ p q. p.s ≢ q.s) squares
    there apart i j d up low same = apart i j d.s up (omega (arith, low, length-map squares (λ q. q.s)))
        (get_or-map (λ q. q.s) squares i d d.s (omega arith) ∙ same ∙ sym (get_or-map (λ q. q.s) squares j d d.s low))

    back : AllPairs (λ p q. p.s ≢ q.s) squares → AllPairs ◌≢◌ (map (λ q. q.s) squares)
    back apart i j n up low same =
        let d : Square = record { x = 0; y = 0; s = n } in
        let within : j < length squares = omega (arith, low, length-map squares (λ q. q.s)) in
        apart i j d up within (sym (get_or-map (λ q. q.s) squares i d n (omega arith)) ∙ same ∙ get_or-map (λ q. q.s) squares j d n within)
