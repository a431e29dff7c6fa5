-- The words of few and short moves are a finite list, and all legal words of an order are among them.
use Rattle.std.specs.List.{AllByRecursion}
use Rattle.std.specs.Prelude.{flat_map, map}
use Rattle.std.proofs.Common.{List, [], arith, inl, inr, length, refl, subst, suc, zero, ℕ, ◌++◌, ◌+◌, ◌∷◌, ◌≡◌, ◌≤◌, ◌⊎◌}
use Rattle.bk_word.proofs.PlayLaws.{at_most_one_sign_more_than_squares, moves_many}
use Rattle.bk_word.proofs.StoredBytes.{order_more}
use Rattle.bk_word.specs.Outline.{Outline, start}
use Rattle.bk_word.specs.Play.{AreLegalFrom, after_move}
use Rattle.bk_word.specs.Word.{Move, Word, order_of}
use Rattle.bk_word.specs.declared.Sign.{Sign}
use Rattle.bk_word.specs.declared.Sign.TheVariants.{Above, Even, Under}
use Rattle.bk_laws.proofs.NoneRepeated.{IsIn}
use Rattle.bk_laws.proofs.Membership.{is_in-append_left, is_in-append_right, is_in-map}
use Rattle.bk_laws.proofs.NumberOrder.{le_suc-last_or_less, le_zero-is_zero}

in_flat : {A B : Type 0} (f : A → List B) (x : A) (y : B) (xs : List A) → IsIn x xs → IsIn y (f x) → IsIn y (flat_map f xs)
in_flat f x y [] h k = absurd h
in_flat {A} f x y (z ∷ xs) (inl e) k = is_in-append_left y (f z) (flat_map f xs) (subst (λ (u : A). IsIn y (f u)) e k)
in_flat f x y (z ∷ xs) (inr h) k = is_in-append_right y (f z) (flat_map f xs) (in_flat f x y xs h k)

-- all lists of so many signs
sign_lists : ℕ → List (List Sign)
sign_lists zero = [] ∷ []
sign_lists (suc k) = flat_map (λ s. map (λ signs. s ∷ signs) (sign_lists k)) (Above ∷ Even ∷ Under ∷ [])

in_three : (s : Sign) → IsIn s (Above ∷ Even ∷ Under ∷ [])
in_three Above = inl refl
in_three Even = inr (inl refl)
in_three Under = inr (inr (inl refl))

in_signs : (signs : List Sign) → IsIn signs (sign_lists (length signs))
unfolding sign_lists
in_signs [] = inl refl
in_signs (s ∷ signs) =
    in_flat (λ (t : Sign). map (λ (rest : List Sign). t ∷ rest) (sign_lists (length signs))) s (s ∷ signs) (Above ∷ Even ∷ Under ∷ []) (in_three s)
    (is_in-map (λ (rest : List Sign). s ∷ rest) signs (sign_lists (length signs)) (in_signs signs))

-- all lists of so many signs or fewer
short_lists : ℕ → List (List Sign)
short_lists zero = sign_lists zero
short_lists (suc n) = sign_lists (suc n) ++ short_lists n

in_short : (n : ℕ) (signs : List Sign) → length signs ≤ n → IsIn signs (short_lists n)
unfolding short_lists
in_short zero signs few = subst (λ (k : ℕ). IsIn signs (sign_lists k)) (le_zero-is_zero (length signs) few) (in_signs signs)
in_short (suc n) signs few = by (le_suc-last_or_less (length signs) n few) (in_short n signs)
  where
    by : (length signs ≡ suc n) ⊎ (length signs ≤ n) → (length signs ≤ n → IsIn signs (short_lists n)) → IsIn signs (sign_lists (suc n) ++ short_lists n)
    by (inl e) rest = is_in-append_left signs (sign_lists (suc n)) (short_lists n) (subst (λ (k : ℕ). IsIn signs (sign_lists k)) e (in_signs signs))
    by (inr h) rest = is_in-append_right signs (sign_lists (suc n)) (short_lists n) (rest h)

-- all moves of so many squares or fewer, with so many signs or fewer
moves_to : ℕ → ℕ → List Move
moves_to zero n = map (λ signs. record { count = 0; signs = signs }) (short_lists n)
moves_to (suc c) n = map (λ signs. record { count = suc c; signs = signs }) (short_lists n) ++ moves_to c n

of_count : (c n : ℕ) (m : Move) → m.count ≡ c → length m.signs ≤ n → IsIn m (map (λ signs. record { count = c; signs = signs }) (short_lists n))
of_count c n m e few =
    subst (λ (k : ℕ). IsIn m (map (λ signs. record { count = k; signs = signs }) (short_lists n))) e
    (is_in-map (λ (signs : List Sign). record { count = m.count; signs = signs }) m.signs (short_lists n) (in_short n m.signs few))

in_moves : (c n : ℕ) (m : Move) → m.count ≤ c → length m.signs ≤ n → IsIn m (moves_to c n)
unfolding moves_to
in_moves zero n m small few = of_count 0 n m (le_zero-is_zero m.count small) few
in_moves (suc c) n m small few = by (le_suc-last_or_less m.count c small) (λ h. in_moves c n m h few)
  where
    by : (m.count ≡ suc c) ⊎ (m.count ≤ c) → (m.count ≤ c → IsIn m (moves_to c n))
        → IsIn m (map (λ signs. record { count = suc c; signs = signs }) (short_lists n) ++ moves_to c n)
    by (inl e) rest = is_in-append_left m (map (λ signs. record { count = suc c; signs = signs }) (short_lists n)) (moves_to c n) (of_count (suc c) n m e few)
    by (inr h) rest = is_in-append_right m (map (λ signs. record { count = suc c; signs = signs }) (short_lists n)) (moves_to c n) (rest h)

-- all words of so many moves or fewer, each of n squares or fewer with at most one sign more
pub words_to : ℕ → ℕ → List Word
words_to zero n = [] ∷ []
words_to (suc k) n = [] ∷ flat_map (λ m. map (λ w. m ∷ w) (words_to k n)) (moves_to n (n + 1))

abbrev IsSmall : ℕ → Move → Type 0
IsSmall n m = (m.count ≤ n) × (length m.signs ≤ n + 1)

in_words : (k n : ℕ) (w : Word) → length w ≤ k → AllByRecursion (IsSmall n) w → IsIn w (words_to k n)
unfolding words_to
in_words zero n [] few all = inl refl
in_words zero n (m ∷ w) few all = absurd (omega (arith, few))
in_words (suc k) n [] few all = inl refl
in_words (suc k) n (m ∷ w) few all =
    inr (in_flat (λ (x : Move). map (λ (rest : Word). x ∷ rest) (words_to k n)) m (m ∷ w) (moves_to n (n + 1)) (in_moves n (n + 1) m (all.0).0 (all.0).1)
    (is_in-map (λ (rest : Word). m ∷ rest) w (words_to k n) (in_words k n w (omega (arith, few)) all.1)))

-- a legal word is among them
each_small : (o : Outline) (n : ℕ) (w : Word) → AreLegalFrom o w → order_of w ≤ n → AllByRecursion (IsSmall n) w
each_small o n [] legal few = tt
each_small o n (m ∷ w) legal few = (
  (omega (arith, order_more m w, few), omega (arith, at_most_one_sign_more_than_squares o m legal.0, order_more m w, few)),
  each_small (after_move o m) n w legal.1 (omega (arith, order_more m w, few)),
)

-- the legal words of order n or less are among those of n moves and n squares a move
pub among_all : (n : ℕ) (w : Word) → AreLegalFrom start w → order_of w ≤ n → IsIn w (words_to n n)
among_all n w legal few = in_words n n w (omega (arith, moves_many start w legal, few)) (each_small start n w legal few)
