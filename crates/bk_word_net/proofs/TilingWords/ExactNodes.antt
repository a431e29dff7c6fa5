-- Each move of a tiling's word hangs one whole group: each valley that is filled is the run of columns of a group of the
-- tiling's code, and no valley is filled twice.
use Rattle.std.proofs.Common.{List, Some, [], ap, arith, inl, inr, length, slice_get, subst, suc, sym, ℕ, ◌++◌, ◌+◌, ◌<◌, ◌∙◌, ◌∷◌, ◌≡◌, ◌≤◌, ◌⊎◌}
use Rattle.std.proofs.lemmas.Bool.{cases_lt}
use Rattle.bk_laws.proofs.ListPlaces.{slice_get-snoc_cases}
use Rattle.bk_tiling.proofs.Cells.{depth-append, from_append}
use Rattle.bk_tiling.specs.Column.{depth}
use Rattle.bk_tiling.specs.declared.Segment.{Segment}
use Rattle.bk_tiling.specs.Tiling.{IsOneOf, IsTiling, Tiling}
use Rattle.bk_tiling.specs.declared.Square.{Square}
use Rattle.bk_word.specs.Outline.{Outline, start}
use Rattle.bk_word.specs.Play.{after_move, after_moves}
use Rattle.bk_word.specs.Word.{Move, Word}
use Rattle.bk_lay.proofs.Filling.{is_under}
use Rattle.bk_lay.specs.TilingWord.{IsLeftmostValley, IsWordOf, MovesFollow, squares_under}
use Rattle.bk_word_net.proofs.TilingWords.AlongWord.{Along, along_move, along_start}
use Rattle.bk_word_net.proofs.TilingWords.GroupRuns.{Exact, IsGroupRun, deeper, flat, run}

module _ (t : Tiling) (laid : List Square) (nodes : List Segment) (o : Outline) (v : Segment) (tiling : IsTiling t)
    (a : Along t laid nodes o) (x : Exact t laid nodes) (found : IsLeftmostValley t.width laid v) (low : v.level < t.height) where
  -- once the squares under the leftmost valley are laid, too, the valleys that are filled are exactly the runs of groups
  pub exact_move : Exact t (laid ++ squares_under t v) (nodes ++ v ∷ [])
  exact_move = record {
    right = λ q h e. right q (from_append laid (squares_under t v) q h) e;
    left = λ q h c e. left q (from_append laid (squares_under t v) q h) c e;
    runs = λ k u e. runs k u (slice_get-snoc_cases nodes v k u e);
    passed = λ k u e. passed k u (slice_get-snoc_cases nodes v k u e);
    once = λ j k u e f. once j k u (slice_get-snoc_cases nodes v j u e) (slice_get-snoc_cases nodes v k u f);
  }
    where
      right : (q : Square) → IsOneOf q laid ⊎ IsOneOf q (squares_under t v) → q.x + q.s < t.width → q.y < depth (laid ++ squares_under t v) (q.x + q.s)
      right q (inl h) e = omega (arith, x.right q h e, depth-append laid (squares_under t v) (q.x + q.s))
      right q (inr h) e = cases (cases_lt (q.x + q.s) (v.x + v.width))
        where
          cases : (q.x + q.s < v.x + v.width) ⊎ (v.x + v.width ≤ q.x + q.s) → q.y < depth (laid ++ squares_under t v) (q.x + q.s)
          cases (inl l) = let u = is_under t laid v tiling a.fills found low q h in omega (
            arith,
            u.level,
            deeper t laid nodes o v tiling a x found low
                (q.x + q.s) (omega (arith, u.left)) l,
          )
          cases (inr l) = let u = is_under t laid v tiling a.fills found low q h in let same : q.x + q.s ≡ v.x + v.width = omega (arith, u.right) in
              omega (arith, u.level, (found.valley).right (omega (arith, same)), ap (depth laid) same, depth-append laid (squares_under t v) (q.x + q.s))

      left : (q : Square) → IsOneOf q laid ⊎ IsOneOf q (squares_under t v) → (c : ℕ) → suc c ≡ q.x → q.y < depth (laid ++ squares_under t v) c
      left q (inl h) c e = omega (arith, x.left q h c e, depth-append laid (squares_under t v) c)
      left q (inr h) c e = cases (cases_lt c v.x)
        where
          cases : (c < v.x) ⊎ (v.x ≤ c) → q.y < depth (laid ++ squares_under t v) c
          cases (inl l) = let u = is_under t laid v tiling a.fills found low q h in
              omega (arith, u.level, (found.valley).left c (omega (arith, u.left)), depth-append laid (squares_under t v) c)
          cases (inr l) = let u = is_under t laid v tiling a.fills found low q h in omega (
            arith,
            u.level,
            deeper t laid nodes o v tiling a x found low c l
                (omega (arith, u.right)),
          )

      runs : (k : ℕ) (u : Segment) → ((k < length nodes) × (slice_get nodes k ≡ Some u)) ⊎ ((k ≡ length nodes) × (v ≡ u)) → IsGroupRun t u
      runs k u (inl h) = x.runs k u h.1
      runs k u (inr h) = subst (IsGroupRun t) h.1 (run t laid nodes o v tiling a x found low)

      passed : (k : ℕ) (u : Segment) → ((k < length nodes) × (slice_get nodes k ≡ Some u)) ⊎ ((k ≡ length nodes) × (v ≡ u))
          → u.level < depth (laid ++ squares_under t v) u.x
      passed k u (inl h) = omega (arith, x.passed k u h.1, depth-append laid (squares_under t v) u.x)
      passed k u (inr h) = subst (λ (s : Segment). s.level < depth (laid ++ squares_under t v) s.x) h.1 (deeper t laid nodes o v tiling a x found low v.x
          (omega arith) (omega (arith, (flat t laid nodes o v tiling a x found low).some)))

      not_old : (k : ℕ) (u : Segment) → slice_get nodes k ≡ Some u → v ≡ u → ⊥
      not_old k u e same = omega (
        arith,
        subst (λ (s : Segment). s.level < depth laid s.x) (sym same) (x.passed k u e),
        (flat t laid nodes o v tiling a x found low).level v.x (omega arith) (omega (arith, (flat t laid nodes o v tiling a x found low).some)),
      )

      once : (j k : ℕ) (u : Segment) → ((j < length nodes) × (slice_get nodes j ≡ Some u)) ⊎ ((j ≡ length nodes) × (v ≡ u))
          → ((k < length nodes) × (slice_get nodes k ≡ Some u)) ⊎ ((k ≡ length nodes) × (v ≡ u)) → j ≡ k
      once j k u (inl h) (inl i) = x.once j k u h.1 i.1
      once j k u (inl h) (inr i) = absurd (not_old j u h.1 i.1)
      once j k u (inr h) (inl i) = absurd (not_old k u i.1 h.1)
      once j k u (inr h) (inr i) = h.0 ∙ sym i.0

-- ---- to the end

-- what is so at the end of a tiling's word
pub record ExactEnd (t : Tiling) (o : Outline) : Type 0 where
  pub laid : List Square
  pub nodes : List Segment
  pub along : Along t laid nodes o
  pub exact : Exact t laid nodes
  pub full : (c : ℕ) → c < t.width → depth laid c ≡ t.height

exact_to : (t : Tiling) → IsTiling t → (laid : List Square) (nodes : List Segment) (o : Outline) (w : Word) → Along t laid nodes o
    → Exact t laid nodes → MovesFollow t laid w → ExactEnd t (after_moves o w)
exact_to t tiling laid nodes o [] a x p = record { laid = laid; nodes = nodes; along = a; exact = x; full = p }
exact_to t tiling laid nodes o (m ∷ w) a x p = exact_to t tiling (laid ++ squares_under t p.0) (nodes ++ p.0 ∷ []) (after_move o m) w
    (subst (λ (n : Move). Along t (laid ++ squares_under t p.0) (nodes ++ p.0 ∷ []) (after_move o n)) (sym p.3)
    (along_move t laid nodes o p.0 tiling a p.1 p.2))
    (exact_move t laid nodes o p.0 tiling a x p.1 p.2) p.4

-- a tiling's word leads there
pub exact_end : (t : Tiling) (w : Word) → IsTiling t → IsWordOf t w → ExactEnd t (after_moves start w)
exact_end t w tiling p = exact_to t tiling [] [] start w (along_start t tiling)
    (record { right = λ q h. absurd h; left = λ q h. absurd h; runs = λ k v e. absurd (cc); passed = λ k v e. absurd (cc); once = λ j k v e. absurd (cc) }) p
