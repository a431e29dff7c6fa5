-- The magnitudes of a candidate's currents are the sides of its squares, and so those of the tiling, in some order.
use Rattle.std.specs.List.Sorted.{IsPermutation}
use Rattle.std.specs.Prelude.{nat_abs, negsuc, pos, ℤ}
use Rattle.std.proofs.Common.{Bool, List, [], ap, arith, cond, false, length, map, refl, slice_index_or, subst, suc, true}
use Rattle.std.proofs.Common.{ℕ, ◌+◌, ◌<◌, ◌∙◌, ◌∷◌, ◌≡◌}
use Rattle.std.proofs.lemmas.List.Sorted.{IsPermutation-append_comm, IsPermutation-append_left, IsPermutation-cons, IsPermutation-map, IsPermutation-refl}
use Rattle.std.proofs.lemmas.List.Sorted.{IsPermutation-sym, IsPermutation-trans}
use Rattle.bk_tiling.specs.CodeOrder.{comes_before, in_code_order, with_square}
use Rattle.bk_tiling.specs.Tiling.{Tiling, sides_of}
use Rattle.bk_tiling.specs.declared.Square.{Square}
use Rattle.bk_net.specs.Flow.{Flow}
use Rattle.bk_word.specs.Play.{numbers_from}
use Rattle.bk_word.specs.Word.{Word}
use Rattle.bk_word_net.specs.WordNet.{net_of_word}
use Rattle.bk_layout.specs.LineNumbers.{square_lines as sides_at}
use Rattle.bk_found.specs.Candidate.{candidate_square, candidate_squares, level_in, line_place, placed_square, right_edges}

-- ---- squares put in order are the same squares

exchanged : (q r : Square) (squares others : List Square) → IsPermutation (q ∷ squares) others → IsPermutation (q ∷ r ∷ squares) (r ∷ others)
exchanged q r squares others rest = IsPermutation-trans (q ∷ r ∷ squares) (r ∷ q ∷ squares) (r ∷ others)
    (IsPermutation-append_left squares (q ∷ r ∷ []) (r ∷ q ∷ []) (IsPermutation-append_comm (q ∷ []) (r ∷ [])))
    (IsPermutation-cons r (q ∷ squares) others rest)

either : (q r : Square) (squares : List Square) (b : Bool) → IsPermutation (q ∷ r ∷ squares) (r ∷ with_square q squares)
    → IsPermutation (q ∷ r ∷ squares) (cond b (q ∷ r ∷ squares) (r ∷ with_square q squares))
either q r squares true later = IsPermutation-refl (q ∷ r ∷ squares)
either q r squares false later = later

with_square_permutes : (q : Square) (squares : List Square) → IsPermutation (q ∷ squares) (with_square q squares)
with_square_permutes q [] = IsPermutation-refl (q ∷ [])
with_square_permutes q (r ∷ squares) =
    either q r squares (comes_before q r) (exchanged q r squares (with_square q squares) (with_square_permutes q squares))

in_order_permutes : (squares : List Square) → IsPermutation squares (in_code_order squares)
in_order_permutes [] = IsPermutation-refl []
in_order_permutes (q ∷ squares) = IsPermutation-trans (q ∷ squares) (q ∷ in_code_order squares) (with_square q (in_code_order squares))
    (IsPermutation-cons q squares (in_code_order squares) (in_order_permutes squares)) (with_square_permutes q (in_code_order squares))

-- a tiling has the sides of its squares in any order
pub sides_in_order : (t : Tiling) (squares : List Square) → in_code_order squares ≡ t.squares → IsPermutation (sides_of t) (map (λ q. q.s) squares)
sides_in_order t squares same = IsPermutation-map (λ q. q.s) t.squares squares
    (IsPermutation-sym squares t.squares (subst (λ (qs : List Square). IsPermutation squares qs) same (in_order_permutes squares)))

-- ---- the sides of a candidate

side_is : (left right above below current : ℤ) → (placed_square left right above below current).s ≡ nat_abs current
side_is left right above below (pos s) = refl
side_is left right above below (negsuc s) = refl

sides_from : (currents : List ℤ) (b : ℕ) (g : ℕ → Square)
    → ((k : ℕ) → k < length currents → (g (b + k)).s ≡ nat_abs (slice_index_or currents k (pos 0)))
    → map (λ q. q.s) (map g (numbers_from b (length currents))) ≡ map nat_abs currents
sides_from [] b g each = refl
sides_from (c ∷ currents) b g each = λ i. first i ∷ sides_from currents (b + 1) g rest i
  where
    first : (g b).s ≡ nat_abs c
    first = let at : b ≡ b + 0 = omega arith in ap (λ (n : ℕ). (g n).s) at ∙ each 0 (omega arith)

    rest : (k : ℕ) → k < length currents → (g (b + 1 + k)).s ≡ nat_abs (slice_index_or currents k (pos 0))
    rest k h = let at : b + 1 + k ≡ b + suc k = omega arith in ap (λ (n : ℕ). (g n).s) at ∙ each (suc k) (omega (arith, h))

candidate_side : (w : Word) (f : Flow) (k n : ℕ) → n ≡ k → (candidate_square w f n).s ≡ nat_abs (slice_index_or f.currents k (pos 0))
candidate_side w f k n same = ap (λ (i : ℕ). (candidate_square w f i).s) same
    ∙ side_is (line_place f.total (right_edges w f) (slice_index_or (sides_at w) k (0, 1)).0) (slice_index_or (right_edges w f) k (pos 0))
    (level_in f (slice_index_or (net_of_word w).wires k (0, 0)).0) (level_in f (slice_index_or (net_of_word w).wires k (0, 0)).1)
    (slice_index_or f.currents k (pos 0))

candidate_sides : (w : Word) (f : Flow) → map (λ q. q.s) (candidate_squares w f) ≡ map nat_abs f.currents
candidate_sides w f = sides_from f.currents 0 (candidate_square w f) (λ k h. candidate_side w f k (0 + k) (omega arith))

-- the magnitudes are the sides of the tiling that the candidate is
pub magnitudes_are_sides : (t : Tiling) (w : Word) (f : Flow) → in_code_order (candidate_squares w f) ≡ t.squares
    → IsPermutation (sides_of t) (map nat_abs f.currents)
magnitudes_are_sides t w f same =
    subst (IsPermutation (sides_of t)) (candidate_sides w f) (sides_in_order t (candidate_squares w f) same)
