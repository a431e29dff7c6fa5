use Rattle.std.specs.Prelude.{IsTrue, false, get_or, length, nat_eq, ℕ, ◌+◌, ◌<◌, ◌≡◌}
use Rattle.std.proofs.Common.{arith, inl, inr, ◌∙◌}
use Rattle.std.proofs.lemmas.Bool.{eq-eqb, eqb-true, false_from_ne_true, false≢true}
use Rattle.bk_tiling.specs.Tiling.{IsTiling, Tiling}
use Rattle.bk_tiling.specs.declared.Square.{Square}
use Rattle.bk_simple.proofs.SideWalks.{AreNext, left_low, none_but_whole, walk_all, walk_crossed, walk_more, walk_start}
use Rattle.bk_simple.proofs.TopRuns.{begins_right, squares_at_a_level_are_a_run}
use Rattle.bk_laws.proofs.FixedWidths.{number_below_fits}
use Rattle.bk_simple.proofs.KeptEdges.{edges_of_kept_fit, next_place_fits, place_in_memory_fits}
use Rattle.bk_simple.proofs.has_none_under.Goals as goal
use Rattle.bk_simple.proofs.has_none_under.Goals.{After-end_with-right_end, then-crosses-via-else-crosses+then-crosses-2, then-crosses-via-then-crosses}

abbrev none : Square
none = record { x = 0; y = 0; s = 0 }

-- a place before one of a square is one
before_few : (i last n : ℕ) → i < last → last < n → i < n
before_few i last n before few = omega (arith, before, few)

abbrev right_of : Tiling → ℕ → ℕ
right_of t last = (get_or t.squares last none).x + (get_or t.squares last none).s

-- what the two calls give are the next ends
next_ends : (t : Tiling) (tiling : IsTiling t) (i last k l r m n : ℕ)
    → (IsTrue (nat_eq (get_or t.squares k none).x (get_or t.squares i none).x) → m ≡ (get_or t.squares k none).y + (get_or t.squares k none).s)
    → (nat_eq (get_or t.squares k none).x (get_or t.squares i none).x ≡ false → m ≡ l)
    → (IsTrue (nat_eq ((get_or t.squares k none).x + (get_or t.squares k none).s) (right_of t last))
    → n ≡ (get_or t.squares k none).y + (get_or t.squares k none).s)
    → (nat_eq ((get_or t.squares k none).x + (get_or t.squares k none).s) (right_of t last) ≡ false → n ≡ r)
    → AreNext t tiling none i (right_of t last) k l r m n
next_ends t tiling i last k l r m n a b c d = record {
  left = λ e. a (eq-eqb _ _ e);
  not_left = λ h. b (false_from_ne_true _ (λ e. h (eqb-true _ _ e)));
  right = λ e. c (eq-eqb _ _ e);
  not_right = λ h. d (false_from_ne_true _ (λ e. h (eqb-true _ _ e)));
}

-- so are they behind both
next : (c : After-end_with-right_end) (tiling : IsTiling c.args.tiling.now) → AreNext c.args.tiling.now tiling none c.args.i
    (right_of c.args.tiling.now c.args.last) c.loop-k.k c.loop-k.left_end c.loop-k.right_end c.end_with-left_end.result c.end_with-right_end.result
next c tiling =
    next_ends c.args.tiling.now tiling c.args.i c.args.last c.loop-k.k c.loop-k.left_end c.loop-k.right_end c.end_with-left_end.result
    c.end_with-right_end.result
    (rw c.squares-squares.ensures.value at c.end_with-left_end.ensures.there) (rw c.squares-squares.ensures.value at c.end_with-left_end.ensures.elsewhere)
    (rw c.squares-squares.ensures.value at c.end_with-right_end.ensures.there) (rw c.squares-squares.ensures.value at c.end_with-right_end.ensures.elsewhere)

pub loop-k-init : goal.loop-k-init
loop-k-init c tiling =
    let t : Tiling = c.args.tiling.now in
    let run = squares_at_a_level_are_a_run t tiling c.args.i none c.args.last c.requires.places.0 c.requires.places.1 c.requires.level in
    let apart = rw c.squares-squares.ensures.value at c.if-left_end-right_end.false in
    rw c.squares-squares.ensures.value
    (walk_start t tiling none c.args.i c.args.last (right_of t c.args.last) run (λ e. apart (omega (arith, e, c.requires.level))))

pub returns-then-crosses : goal.returns-then-crosses
returns-then-crosses c is r part first ends =
    let t : Tiling = c.args.tiling.now in
    let tiling : IsTiling t = c.squares-squares.ensures.kept.tiling in
    let few : c.loop-k.k < length t.squares = rw c.squares-squares.ensures.value at c.loop-k-test.true in
    walk_crossed t tiling none c.args.i (right_of t c.args.last) c.loop-k.k c.loop-k.left_end c.loop-k.right_end
    (rw c.squares-squares.ensures.value at (c.loop-k.invariant tiling)) few
    (elim c.then-crosses.branch [
      | then-crosses-via-then-crosses w ↦ inl (rw c.squares-squares.ensures.value at (c.crosses.ensures.0 w.if-crosses.true))
      | then-crosses-via-else-crosses+then-crosses-2 w ↦
          inr (rw c.squares-squares.ensures.value at (w.crosses-else-crosses.ensures.0 w.if-crosses-2.true))
    ]) r (record { part = part; first = first; ends = ends })

pub overflow_sub-right : goal.overflow_sub-right
overflow_sub-right c =
    let t : Tiling = c.args.tiling.now in
    let right = begins_right t c.squares-squares.ensures.kept.tiling c.args.i none c.args.last c.requires.places.0 c.requires.places.1 c.requires.level in
    rw c.squares-squares.ensures.value (omega (arith, right))

pub overflow_sub-result : goal.overflow_sub-result
overflow_sub-result c =
    let t : Tiling = c.args.tiling.now in
    let tiling : IsTiling t = c.squares-squares.ensures.kept.tiling in
    let few : c.loop-k.k < length t.squares = rw c.squares-squares.ensures.value at c.loop-k-test.true in
    rw c.squares-squares.ensures.value
    (left_low t tiling none c.args.i (right_of t c.args.last) c.loop-k.k c.loop-k.left_end c.loop-k.right_end c.end_with-left_end.result
    c.end_with-right_end.result (rw c.squares-squares.ensures.value at (c.loop-k.invariant tiling)) few
    (next (goal.at.overflow_sub-result c).After-end_with-right_end tiling))

pub returns-then-right-left : goal.returns-then-right-left
returns-then-right-left c high r part first ends =
    let t : Tiling = c.args.tiling.now in
    let tiling : IsTiling t = c.squares-squares.ensures.kept.tiling in
    let few : c.loop-k.k < length t.squares = rw c.squares-squares.ensures.value at c.loop-k-test.true in
    none_but_whole t tiling none c.args.i (right_of t c.args.last) c.loop-k.k c.loop-k.left_end c.loop-k.right_end
    c.end_with-left_end.result c.end_with-right_end.result (rw c.squares-squares.ensures.value at (c.loop-k.invariant tiling)) few
    (next (goal.at.returns-then-right-left c).After-end_with-right_end tiling)
    c.if-left_end-right_end-2.true ((rw c.squares-squares.ensures.value at c.if-right-left.true) ∙ c.width.ensures.value)
    (eqb-true _ _ (rw c.squares-squares.ensures.value at high) ∙ c.height.ensures.value)
    r (record { part = part; first = first; ends = ends })

pub loop-k-preserved : goal.loop-k-preserved
loop-k-preserved c tiling =
    let t : Tiling = c.args.tiling.now in
    let few : c.loop-k.k < length t.squares = rw c.squares-squares.ensures.value at c.loop-k-test.true in
    rw c.squares-squares.ensures.value
    (walk_more t tiling none c.args.i (right_of t c.args.last) c.loop-k.k c.loop-k.left_end c.loop-k.right_end c.end_with-left_end.result
    c.end_with-right_end.result (rw c.squares-squares.ensures.value at (c.loop-k.invariant tiling)) few
    (next (goal.at.loop-k-preserved c).After-end_with-right_end tiling)
    c.if-left_end-right_end-2.false)

pub returns : goal.returns
returns c is r part first ends =
    let t : Tiling = c.args.tiling.now in
    let tiling : IsTiling t = c.squares-squares.ensures.kept.tiling in
    let all = rw c.squares-squares.ensures.value at c.loop-k-test.false in
    walk_all t tiling none c.args.i (right_of t c.args.last) c.loop-k.k c.loop-k.left_end c.loop-k.right_end
    (rw c.squares-squares.ensures.value at (c.loop-k.invariant tiling)) all r (record { part = part; first = first; ends = ends })

pub offset_bounds-squares-i : goal.offset_bounds-squares-i
offset_bounds-squares-i c = place_in_memory_fits c.args.tiling.now c.squares-squares.ensures.kept c.args.i
    (before_few _ _ _ c.requires.places.0 c.requires.places.1)

pub bounds-squares-i : goal.bounds-squares-i
bounds-squares-i c = rw c.squares-squares.ensures.value (before_few _ _ _ c.requires.places.0 c.requires.places.1)

pub offset_bounds-squares-last : goal.offset_bounds-squares-last
offset_bounds-squares-last c = place_in_memory_fits c.args.tiling.now c.squares-squares.ensures.kept c.args.last c.requires.places.1

pub bounds-squares-last : goal.bounds-squares-last
bounds-squares-last c = rw c.squares-squares.ensures.value c.requires.places.1

pub overflow_add-right : goal.overflow_add-right
overflow_add-right c =
    rw c.squares-squares.ensures.value (number_below_fits
    (edges_of_kept_fit c.args.tiling.now c.squares-squares.ensures.kept c.args.last none c.requires.places.1).1)

pub overflow_add-left_end : goal.overflow_add-left_end
overflow_add-left_end c =
    rw c.squares-squares.ensures.value (number_below_fits (edges_of_kept_fit c.args.tiling.now c.squares-squares.ensures.kept c.args.i none
    (before_few _ _ _ c.requires.places.0 c.requires.places.1)).2)

pub overflow_add-right_end : goal.overflow_add-right_end
overflow_add-right_end c =
    rw c.squares-squares.ensures.value (number_below_fits
    (edges_of_kept_fit c.args.tiling.now c.squares-squares.ensures.kept c.args.last none c.requires.places.1).2)

pub returns-then-left_end-right_end : goal.returns-then-left_end-right_end
returns-then-left_end-right_end c = λ e. absurd (false≢true e)

pub returns-else-right-left : goal.returns-else-right-left
returns-else-right-left c = λ e. absurd (c.if-right-left.false (eqb-true _ _ e))

pub overflow_step-k : goal.overflow_step-k
overflow_step-k c = next_place_fits c.args.tiling.now c.squares-squares.ensures.kept c.args.last c.requires.places.1

pub offset_bounds-squares-k : goal.offset_bounds-squares-k
offset_bounds-squares-k c = place_in_memory_fits c.args.tiling.now c.squares-squares.ensures.kept c.loop-k.k
    (rw c.squares-squares.ensures.value at c.loop-k-test.true)

pub bounds-squares-k : goal.bounds-squares-k
bounds-squares-k c = c.loop-k-test.true

pub end_with-left_end-requires : goal.end_with-left_end-requires
end_with-left_end-requires c =
    rw c.squares-squares.ensures.value (edges_of_kept_fit c.args.tiling.now c.squares-squares.ensures.kept c.loop-k.k none
    (rw c.squares-squares.ensures.value at c.loop-k-test.true)).2

pub overflow_add-q : goal.overflow_add-q
overflow_add-q c =
    rw c.squares-squares.ensures.value (number_below_fits (edges_of_kept_fit c.args.tiling.now c.squares-squares.ensures.kept c.loop-k.k none
    (rw c.squares-squares.ensures.value at c.loop-k-test.true)).1)

pub end_with-right_end-requires : goal.end_with-right_end-requires
end_with-right_end-requires c =
    rw c.squares-squares.ensures.value (edges_of_kept_fit c.args.tiling.now c.squares-squares.ensures.kept c.loop-k.k none
    (rw c.squares-squares.ensures.value at c.loop-k-test.true)).2
