use Rattle.std.proofs.Common.{[], ap, arith, false, sym, true, ◌++◌, ◌∙◌, ◌∷◌}
use Rattle.std.proofs.lemmas.Bool.{false≢true}
use Rattle.bk_laws.proofs.ListPlaces.{take-snoc_next}
use Rattle.bk_word.specs.Word.{order_of}
use Rattle.bk_walk.proofs.PlayedMoves.{legal_stands, order_at}
use Rattle.std.proofs.lemmas.List.{take_all}
use Rattle.bk_walk.proofs.walk.word_played.Goals as goal

pub push-requires-clause-stands : goal.push-requires-clause-stands
push-requires-clause-stands c = legal_stands c.args.skel.now c.moves.i c.read_move.new.m c.moves-i-end.ensures.kept.legal c.read_move.ensures

pub push-requires-clause-few : goal.push-requires-clause-few
push-requires-clause-few c = omega (
  arith,
  order_at c.args.skel.now c.moves.i c.read_move.new.m 16 c.read_move.ensures c.requires,
  ap order_of c.moves.invariant,
)

pub unreachable-requires : goal.unreachable-requires
unreachable-requires c = false≢true (c.in-Err.ensures.inline
    (omega (arith, order_at c.args.skel.now c.moves.i c.read_move.new.m 16 c.read_move.ensures c.requires, ap order_of c.moves.invariant)))

pub moves-preserved : goal.moves-preserved
moves-preserved c = c.in-Ok.ensures.ok ∙ ap (λ l. l ++ c.read_move.new.m ∷ []) c.moves.invariant
    ∙ sym (take-snoc_next c.args.skel.now c.moves.i c.read_move.new.m c.read_move.ensures)

pub moves-init : goal.moves-init
moves-init c = c.new-word.ensures

pub read_move-requires : goal.read_move-requires
read_move-requires c = omega (arith, c.moves-test.true, c.moves-i-end.ensures.value)

pub returns : goal.returns
returns c = c.moves.invariant ∙ take_all c.moves.i c.args.skel.now (omega (arith, c.moves-test.false, c.moves-i-end.ensures.value))
