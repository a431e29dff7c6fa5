-- Lists of numbers as lists of the squares that have these numbers, in the order in which squares were hung.
use Rattle.std.proofs.Common.{List, [], ap, arith, length, map, refl, slice_index_or, subst, ℕ, ◌++◌, ◌+◌, ◌-◌, ◌<◌}
use Rattle.std.proofs.Common.{◌∙◌, ◌∷◌, ◌≡◌, ◌≤◌}
use Rattle.std.proofs.lemmas.List.{append_assoc, length-append, map-append}
use Rattle.bk_laws.proofs.Occurrences.{times, times_in, times_in-append}
use Rattle.bk_laws.proofs.ListItems.{slice_index_or-append_here}
use Rattle.bk_laws.proofs.TestsAsNumbers.{cond_count-nat_eq_same}
use Rattle.bk_laws.proofs.ListPlaces.{get_front}
use Rattle.bk_word.specs.Outline.{Outline}
use Rattle.bk_word.specs.Play.{before_first_list, joined, numbers_from}
use Rattle.bk_word.specs.declared.Sign.{Sign}
use Rattle.bk_word.specs.declared.Sign.TheVariants.{Above, Even, Under}
use Rattle.bk_word_net.proofs.Outlines.Numbering.{Numbered, times_some}
use Rattle.bk_layout.proofs.Sweeps.Chains.{singles}

-- the square of a number
abbrev pub sq_of : List ℕ → ℕ → ℕ
sq_of laid m = slice_index_or laid (m - 1) 0

-- the squares of lists of numbers
abbrev pub lists_at : List ℕ → List (List ℕ) → List (List ℕ)
lists_at laid lists = map (map (sq_of laid)) lists

-- the numbers are those of squares that were laid
abbrev pub AreLaid : List ℕ → List (List ℕ) → Type 0
AreLaid laid lists = (m : ℕ) → 0 < times_in m lists → (1 ≤ m) × (m ≤ length laid)

-- numbers of laid squares keep their squares when more squares are laid
pub list_more : (laid new : List ℕ) (numbers : List ℕ) → ((m : ℕ) → 0 < times m numbers → (1 ≤ m) × (m ≤ length laid))
    → map (sq_of (laid ++ new)) numbers ≡ map (sq_of laid) numbers
list_more laid new [] f = refl
list_more laid new (n ∷ numbers) f = λ i. here i ∷ list_more laid new numbers (λ m h. f m (omega (arith, h))) i
  where
    at : (1 ≤ n) × (n ≤ length laid)
    at = f n (omega (arith, cond_count-nat_eq_same n n refl))

    here : sq_of (laid ++ new) n ≡ sq_of laid n
    here = get_front laid new (n - 1) 0 (omega (arith, at.0, at.1))

-- lists of numbers keep their squares when more squares are laid
pub lists_more : (laid new : List ℕ) (lists : List (List ℕ)) → AreLaid laid lists → lists_at (laid ++ new) lists ≡ lists_at laid lists
lists_more laid new [] f = refl
lists_more laid new (numbers ∷ lists) f = λ i. list_more laid new numbers (λ m h. f m (omega (arith, h))) i
    ∷ lists_more laid new lists (λ m h. f m (omega (arith, h))) i

-- the numbers of new squares are theirs
pub new_numbers : (laid new : List ℕ) (from : ℕ) → from ≡ length laid + 1 → map (sq_of (laid ++ new)) (numbers_from from (length new)) ≡ new
new_numbers laid [] from e = refl
new_numbers laid (q ∷ new) from e =
    let rest : map (sq_of (laid ++ q ∷ new)) (numbers_from (from + 1) (length new)) ≡ new =
    subst (λ (all : List ℕ). map (sq_of all) (numbers_from (from + 1) (length new)) ≡ new) (append_assoc laid (q ∷ []) new)
    (new_numbers (laid ++ q ∷ []) new (from + 1) (omega (arith, e, length-append laid (q ∷ [])))) in
    λ i. slice_index_or-append_here laid q new (from - 1) (omega (arith, e)) i ∷ rest i

-- the numbers of new squares stay theirs when more squares are laid
pub new_numbers_more : (laid new more : List ℕ) (from : ℕ) → from ≡ length laid + 1 → map (sq_of ((laid ++ new) ++ more)) (numbers_from from (length new)) ≡ new
new_numbers_more laid [] more from e = refl
new_numbers_more laid (q ∷ new) more from e =
    let rest : map (sq_of ((laid ++ q ∷ new) ++ more)) (numbers_from (from + 1) (length new)) ≡ new =
    subst (λ (all : List ℕ). map (sq_of (all ++ more)) (numbers_from (from + 1) (length new)) ≡ new) (append_assoc laid (q ∷ []) new)
    (new_numbers_more (laid ++ q ∷ []) new more (from + 1) (omega (arith, e, length-append laid (q ∷ [])))) in
    let first : sq_of ((laid ++ q ∷ new) ++ more) from ≡ q =
    get_front (laid ++ q ∷ new) more (from - 1) 0 (omega (arith, e, length-append laid (q ∷ new))) ∙ slice_index_or-append_here laid q new
    (from - 1) (omega (arith, e)) in
    λ i. first i ∷ rest i

-- a map goes through single segments
pub map_singles : (f : ℕ → ℕ) (numbers : List ℕ) → map (map f) (singles numbers) ≡ singles (map f numbers)
map_singles f [] = refl
map_singles f (n ∷ numbers) = ap (λ (x : List (List ℕ)). (f n ∷ []) ∷ x) (map_singles f numbers)

map_before : (f : ℕ → ℕ) (s : List ℕ) (lists : List (List ℕ)) → map (map f) (before_first_list s lists) ≡ before_first_list (map f s) (map (map f) lists)
map_before f s [] = refl
map_before f s (t ∷ lists) = ap (λ (x : List ℕ). x ∷ map (map f) lists) (map-append f s t)

-- a map goes through joined segments
pub map_joined : (f : ℕ → ℕ) (signs : List Sign) (lists : List (List ℕ)) → map (map f) (joined signs lists) ≡ joined signs (map (map f) lists)
map_joined f signs [] = refl
map_joined f [] (s ∷ lists) = refl
map_joined f (Above ∷ signs) (s ∷ lists) = ap (λ (x : List (List ℕ)). map f s ∷ x) (map_joined f signs lists)
map_joined f (Under ∷ signs) (s ∷ lists) = ap (λ (x : List (List ℕ)). map f s ∷ x) (map_joined f signs lists)
map_joined f (Even ∷ signs) (s ∷ lists) = map_before f s (joined signs lists) ∙ ap (before_first_list (map f s)) (map_joined f signs lists)

-- what stands closed and open has the numbers of what was hung
pub all_laid : (o : Outline) → Numbered o → (laid : List ℕ) → length laid ≡ length o.hung → (m : ℕ)
    → 0 < times_in m o.closed + times_in m o.segments → (1 ≤ m) × (m ≤ length laid)
all_laid o numbered laid long m h = let r =
    times_some m 1 (length o.hung) (omega (arith, h, numbered m, times_in-append m o.closed o.segments)) in (r.0, omega (arith, r.1, long))

-- a number stands in single segments as often as in the row
pub times_singles : (m : ℕ) (numbers : List ℕ) → times_in m (singles numbers) ≡ times m numbers
times_singles m [] = refl
times_singles m (n ∷ numbers) = omega (arith, times_singles m numbers)
