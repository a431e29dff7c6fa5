use Rattle.std.proofs.Common.{ap, arith, length, slice_get, sym, ◌-◌, ◌∙◌, true≢false}
use Rattle.bk_word.specs.Word.{Word}
use Rattle.bk_tree_walk.proofs.Standing.{IsLastMove, last_of_legal_moves_is_legal, taken_last}
use Rattle.std.proofs.lemmas.List.{nil_from_length}
use Rattle.bk_tree_walk.proofs.tree_walk.climb.Goals as goal

pub returns-then-moves-eq0-clause-on : goal.returns-then-moves-eq0-clause-on
returns-then-moves-eq0-clause-on c = λ e. absurd (true≢false (sym e))

pub next_move-requires : goal.next_move-requires
next_move-requires c =
    let was = taken_last c.args.lined.now c.pop.new.self c.read_move.new.m c.moves-moves.result
    (c.moves-moves.ensures.value ∙ ap length c.skel.ensures.value) (omega (arith, c.if-moves-eq0.false))
    (ap (λ (w : Word). slice_get w (c.moves-moves.result - 1)) (sym c.skel-2.ensures.value) ∙ c.read_move.ensures) c.pop.ensures in
    let last : IsLastMove c.pop.new.self c.read_move.new.m =
    last_of_legal_moves_is_legal c.args.lined.now c.pop.new.self c.read_move.new.m c.skel.ensures.legal c.requires.small was in
    record { count = omega (arith, last.count); signs = omega (arith, last.signs) }

pub returns-clause-on : goal.returns-clause-on
returns-clause-on c _ = record {
  last = c.read_move.new.m;
  was = taken_last c.args.lined.now c.pop.new.self c.read_move.new.m c.moves-moves.result
      (c.moves-moves.ensures.value ∙ ap length c.skel.ensures.value) (omega (arith, c.if-moves-eq0.false))
      (ap (λ (w : Word). slice_get w (c.moves-moves.result - 1)) (sym c.skel-2.ensures.value) ∙ c.read_move.ensures) c.pop.ensures;
  next = c.next_move.ensures;
}

pub overflow_sub-moves : goal.overflow_sub-moves
overflow_sub-moves c = omega (arith, c.if-moves-eq0.false)

pub read_move-requires : goal.read_move-requires
read_move-requires c = omega (
  arith,
  c.if-moves-eq0.false,
  c.moves-moves.ensures.value,
  ap length c.skel.ensures.value,
  ap length c.skel-2.ensures.value,
)

pub pop-requires : goal.pop-requires
pop-requires c = omega (arith, c.if-moves-eq0.false, c.moves-moves.ensures.value, ap length c.skel.ensures.value)

pub returns-clause-end : goal.returns-clause-end
returns-clause-end c = λ e. absurd (true≢false e)

pub returns-clause-kept : goal.returns-clause-kept
returns-clause-kept c = λ e. absurd (true≢false e)

pub returns-then-moves-eq0-clause-end : goal.returns-then-moves-eq0-clause-end
returns-then-moves-eq0-clause-end c = λ _. nil_from_length c.args.lined.now
    (omega (arith, c.if-moves-eq0.true, c.moves-moves.ensures.value, ap length c.skel.ensures.value))

pub returns-then-moves-eq0-clause-kept : goal.returns-then-moves-eq0-clause-kept
returns-then-moves-eq0-clause-kept c = λ _. nil_from_length c.args.lined.now
    (omega (arith, c.if-moves-eq0.true, c.moves-moves.ensures.value, ap length c.skel.ensures.value))
