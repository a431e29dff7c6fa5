-- As many squares hang from the top of a tiling's layout as the first move of the tiling's word hangs.
use Rattle.std.proofs.Common.{Bool, List, Some, [], ap, arith, cond, count_by, false, filter, length, nat_lt, refl, slice_get, suc, sym}
use Rattle.std.proofs.Common.{true, ℕ, ◌+◌, ◌==◌, ◌∙◌, ◌∷◌, ◌≡◌, ◌≤◌}
use Rattle.std.proofs.lemmas.Bool.{eq-eqb, eqb-true}
use Rattle.std.proofs.lemmas.Bool.Decides.{nat_tests}
use Rattle.std.proofs.lemmas.List.Sums.{length-filter, sum_by-cons}
use Rattle.std.proofs.lemmas.Option.{get_or_from_slice_get}
use Rattle.bk_laws.proofs.Truth.{same_test-of_implications}
use Rattle.bk_tiling.proofs.Cells.{count-cons}
use Rattle.bk_tiling.specs.SquareGroups.{square_groups}
use Rattle.bk_tiling.specs.Tiling.{IsOneOf, IsTiling, Tiling, square_of}
use Rattle.bk_tiling.specs.declared.Segment.{Segment}
use Rattle.bk_tiling.specs.declared.Square.{Square}
use Rattle.bk_word.specs.Play.{numbers_from}
use Rattle.bk_word.specs.Word.{Move, Word}
use Rattle.bk_lay.specs.TilingWord.{IsWordOf, hangs_under}
use Rattle.bk_lay.proofs.LaidRuns.{one_of}
use Rattle.bk_word_net.proofs.TilingWords.AlongWord.{top_valley}
use Rattle.bk_layout.proofs.TilingLayouts.Edges.{right_within, side}
use Rattle.bk_layout.proofs.TilingLayouts.TilingSquares.{node_at}
use Rattle.bk_layout.specs.TilingLayout.{layout_of, node_above, put_by, sorted_by}
use Rattle.bk_layout.proofs.TilingLayouts.GroupNodes.{IsNode}

put_long : (f : ℕ → ℕ) (q : ℕ) (xs : List ℕ) → length (put_by f q xs) ≡ suc (length xs)
put_long f q [] = refl
put_long f q (x ∷ xs) = cases (nat_lt (f q) (f x)) (put_long f q xs)
  where
    cases : (b : Bool) → length (put_by f q xs) ≡ suc (length xs) → length (cond b (q ∷ x ∷ xs) (x ∷ put_by f q xs)) ≡ suc (suc (length xs))
    cases true rest = refl
    cases false rest = ap suc rest

sorted_long : (f : ℕ → ℕ) (xs : List ℕ) → length (sorted_by f xs) ≡ length xs
sorted_long f [] = refl
sorted_long f (x ∷ xs) = put_long f x (sorted_by f xs) ∙ ap suc (sorted_long f xs)

-- numbers that pass a test, and squares that pass another at the same places
count_pairs : (p : ℕ → Bool) (p' : Square → Bool) (b : ℕ) (squares : List Square)
    → ((k : ℕ) (q : Square) → slice_get squares k ≡ Some q → p (b + k) ≡ p' q) → count_by p (numbers_from b (length squares)) ≡ count_by p' squares
count_pairs p p' b [] each = refl
count_pairs p p' b (q ∷ squares) each = omega (
  arith,
  sum_by-cons (λ (k : ℕ). cond {A = ℕ} (p k) 1 0) b (numbers_from (b + 1) (length squares)),
  count-cons p' q squares,
  ap (λ (c : Bool). cond {A = ℕ} c 1 0) (ap p at ∙ each 0 q refl),
  count_pairs p p' (b + 1) squares (λ k r e. ap p (next k) ∙ each (suc k) r e),
)
  where
    at : b ≡ b + 0
    at = omega arith

    next : (k : ℕ) → b + 1 + k ≡ b + suc k
    next k = omega arith

module _ (t : Tiling) (tiling : IsTiling t) where
  top : IsNode t 0
  top = node_at t tiling 0 (omega arith)

  under_from : (v : Segment) (q : Square) → hangs_under v q ≡ true → q.y ≡ v.level
  under_from v q h = grind (arith, nat_tests)

  under_to : (v : Segment) (q : Square) → q.y ≡ v.level → v.x ≤ q.x → q.x + q.s ≤ v.x + v.width → hangs_under v q ≡ true
  under_to v q e l r = grind (arith, nat_tests)

  -- a square hangs from the top's node where its top is at level 0
  same_test : (v : Segment) → v.x ≡ 0 → v.width ≡ t.width → v.level ≡ 0 → (q : Square) → IsOneOf q t.squares
      → (node_above (square_groups t.squares) q == 0) ≡ hangs_under v q
  same_test v x width level q h = same_test-of_implications (node_above (square_groups t.squares) q == 0) (hangs_under v q)
      (λ e. let hang = top.hang_to q h (eqb-true (node_above (square_groups t.squares) q) 0 e) in
      under_to v q (omega (arith, hang.0, (top.top refl).0, level)) (omega (arith, x)) (omega (arith, x, width, right_within t tiling q h)))
      (λ e. eq-eqb (node_above (square_groups t.squares) q) 0
      (top.hang_from q q.x h (omega (arith, under_from v q e, (top.top refl).0, level)) (omega (arith, (top.top refl).1))
      (omega (arith, (top.top refl).2, right_within t tiling q h, side t tiling q h)) (omega arith) (omega (arith, side t tiling q h))))

  -- the first move of the tiling's word hangs as many squares as hang from the top in its layout
  pub first_count : (word : Word) (n : Move) → IsWordOf t word → slice_get word 0 ≡ Some n → length ((layout_of t).hanging 0) ≡ n.count
  first_count [] n follows e = absurd (cc)
  first_count (m ∷ word) n (v, found, low, is, rest) e =
      sorted_long (λ q. (square_of t q).x) (filter (λ q. node_above (square_groups t.squares) (square_of t q) == 0) (numbers_from 0 (length t.squares)))
      ∙ length-filter (λ q. node_above (square_groups t.squares) (square_of t q) == 0) (numbers_from 0 (length t.squares))
      ∙ count_pairs (λ q. node_above (square_groups t.squares) (square_of t q) == 0) (hangs_under v) 0 t.squares each
      ∙ sym (length-filter (hangs_under v) t.squares) ∙ ap (λ (z : Move). z.count) (sym is) ∙ ap (λ (z : Move). z.count) same
    where
      same : m ≡ n
      same = cc

      wide : (v.x ≡ 0) × (v.width ≡ t.width)
      wide = top_valley t tiling v found

      -- nothing is laid, so the depth is 0
      level : v.level ≡ 0
      level = sym ((found.valley).flat.level v.x (omega arith) (omega (arith, (found.valley).flat.some)))

      each : (k : ℕ) (q : Square) → slice_get t.squares k ≡ Some q → (node_above (square_groups t.squares) (square_of t (0 + k)) == 0) ≡ hangs_under v q
      each k q f = ap (λ (i : ℕ). node_above (square_groups t.squares) (square_of t i) == 0) (from_zero k)
          ∙ ap (λ (r : Square). node_above (square_groups t.squares) r == 0)
          (get_or_from_slice_get t.squares k q (record { x = 0; y = 0; s = 0 }) f) ∙ same_test v wide.0 wide.1 level q (one_of t.squares k q f)
        where
          from_zero : (k : ℕ) → 0 + k ≡ k
          from_zero k = omega arith
