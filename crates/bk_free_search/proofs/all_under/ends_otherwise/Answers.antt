use Rattle.std.specs.Prelude.{◌/◌}
use Rattle.std.proofs.Common.{[], ap, arith, cond, false, length, nat_lt, subst, true, ℕ, ◌++◌, ◌+◌, ◌<◌, ◌∙◌, ◌∷◌, ◌≡◌}
use Rattle.std.proofs.lemmas.Bool.{ltb-true}
use Rattle.std.proofs.lemmas.List.{length-append}
use Rattle.bk_word.specs.Play.{IsLegal}
use Rattle.bk_word.specs.Word.{Move, Word, order_of}
use Rattle.bk_word.proofs.StoredBytes.{order_append, order_more}
use Rattle.bk_layout.proofs.NormalCuts.LastMoves.{all_under_at_left_is_normal_barren, all_under_at_right_is_normal_barren, all_under_is_normal_barren}
use Rattle.bk_free_search.proofs.NextWords.UnderSigns.{all_under, moves_few, squares_few}
use Rattle.bk_free_search.proofs.all_under.ends_otherwise.Goals as goal

pub overflow_add-moves : goal.overflow_add-moves
overflow_add-moves c = omega (
  arith,
  moves_few c.requires c.skel.ensures.legal c.skel.ensures.value c.moves.ensures.value,
)

-- how many moves and signs there are then
few : (c : goal.After-struct_known-1) → c.moves.result + c.look_after-after.result.signs < 120
few c = omega (
  arith,
  moves_few c.requires c.skel.ensures.legal c.skel.ensures.value c.moves.ensures.value,
  c.look_after-after.ensures.few.2,
)

pub overflow_add-moves-2 : goal.overflow_add-moves-2
overflow_add-moves-2 c = omega (arith, few c)

pub overflow_add-moves-3 : goal.overflow_add-moves-3
overflow_add-moves-3 c = omega (arith, few c)

pub overflow_add-order-2 : goal.overflow_add-order-2
overflow_add-order-2 c = omega (
  arith,
  squares_few c.requires c.skel-2.ensures.value c.order.ensures.value (c.from.ensures ∙ ap (λ (m : Move). m.count) c.m.view_is),
  c.look_after-after.ensures.few.2,
)

pub overflow_add-after : goal.overflow_add-after
overflow_add-after c = omega (arith, c.look_after-after.ensures.few.1, c.look_after-after.ensures.few.2)

pub overflow_add-result : goal.overflow_add-result
overflow_add-result c = omega (arith, c.look_after-after.ensures.few.1, c.look_after-after.ensures.few.2)

pub returns-then-order-from : goal.returns-then-order-from
returns-then-order-from c _ = all_under_is_normal_barren c.args.order c.most_moves.result (c.args.board.now ++ c.args.m.now ∷ [])
    (all_under c.args.order c.args.board.now c.args.m.now c.look_after-after.result c.most_moves.result c.requires c.look_after-after.ensures.stands
    (subst IsLegal c.skel.ensures.value c.skel.ensures.legal) (c.are_under_then.ensures c.if-not-are_under_then.false)
    (c.most_moves.ensures ∙ ap (λ (k : ℕ). cond {A = ℕ} (nat_lt c.look_after-after.result.top k) (c.args.order / 2) ((c.args.order + 1) / 2)) c.max.ensures)
    (omega (arith, c.if-moves-most_moves.false, c.moves.ensures.value, ap (λ (w : Word). length w) c.skel.ensures.value)))
    (λ even. c.if-order-from.true (omega (
      arith,
      even,
      c.from-2.ensures,
      c.order.ensures.value,
      ap order_of c.skel-2.ensures.value,
      c.from.ensures,
      ap (λ (m : Move). m.count) c.m.view_is,
      c.look_after-after.ensures.stands.signs_are,
      order_append c.args.board.now (c.args.m.now ∷ []),
      order_more c.args.m.now [],
    )))

pub returns-then-after : goal.returns-then-after
returns-then-after c _ = all_under_at_left_is_normal_barren c.args.order c.most_moves.result (c.args.board.now ++ c.args.m.now ∷ [])
    (all_under c.args.order c.args.board.now c.args.m.now c.look_after-after.result c.most_moves.result c.requires c.look_after-after.ensures.stands
    (subst IsLegal c.skel.ensures.value c.skel.ensures.legal) (c.are_under_then.ensures c.if-not-are_under_then.false)
    (c.most_moves.ensures ∙ ap (λ (k : ℕ). cond {A = ℕ} (nat_lt c.look_after-after.result.top k) (c.args.order / 2) ((c.args.order + 1) / 2)) c.max.ensures)
    (omega (arith, c.if-moves-most_moves.false, c.moves.ensures.value, ap (λ (w : Word). length w) c.skel.ensures.value)))
    (omega (
      arith,
      c.if-after.true,
      c.look_after-after.ensures.stands.left_is,
      c.look_after-after.ensures.stands.right_is,
      c.look_after-after.ensures.stands.signs_are,
    ))

pub returns-then-are_most_moves : goal.returns-then-are_most_moves
returns-then-are_most_moves c told = all_under_at_right_is_normal_barren c.args.order c.most_moves.result (c.args.board.now ++ c.args.m.now ∷ [])
    (all_under c.args.order c.args.board.now c.args.m.now c.look_after-after.result c.most_moves.result c.requires c.look_after-after.ensures.stands
    (subst IsLegal c.skel.ensures.value c.skel.ensures.legal) (c.are_under_then.ensures c.if-not-are_under_then.false)
    (c.most_moves.ensures ∙ ap (λ (k : ℕ). cond {A = ℕ} (nat_lt c.look_after-after.result.top k) (c.args.order / 2) ((c.args.order + 1) / 2)) c.max.ensures)
    (omega (arith, c.if-moves-most_moves.false, c.moves.ensures.value, ap (λ (w : Word). length w) c.skel.ensures.value)))
    (omega (
      arith,
      c.are_most_moves.ensures c.if-are_most_moves.true,
      c.moves.ensures.value,
      ap (λ (w : Word). length w) c.skel.ensures.value,
      c.look_after-after.ensures.stands.signs_are,
      length-append c.args.board.now (c.args.m.now ∷ []),
    ))
    (omega (
      arith,
      ltb-true c.from-then-are_most_moves.result (c.look_after-after.result.right + c.look_after-after.result.signs) told,
      c.from-then-are_most_moves.ensures,
      c.look_after-after.ensures.stands.top_is,
      c.look_after-after.ensures.stands.right_is,
      c.look_after-after.ensures.stands.signs_are,
    ))

pub returns-then-not-are_under_then : goal.returns-then-not-are_under_then
returns-then-not-are_under_then c none = let e : false ≡ true = none in cc

pub returns-then-moves-most_moves : goal.returns-then-moves-most_moves
returns-then-moves-most_moves c none = let e : false ≡ true = none in cc

pub are_most_moves-requires : goal.are_most_moves-requires
are_most_moves-requires c = omega (
  arith,
  moves_few c.requires c.skel.ensures.legal c.skel.ensures.value c.moves.ensures.value,
  c.look_after-after.ensures.few.2,
)

pub look_after-after-requires-clause-few : goal.look_after-after-requires-clause-few
look_after-after-requires-clause-few c = omega (arith, c.requires.few, c.requires.most)

pub look_after-after-requires-clause-legal : goal.look_after-after-requires-clause-legal
look_after-after-requires-clause-legal c = c.requires.legal

pub overflow_add-order : goal.overflow_add-order
overflow_add-order c =
    omega (arith, squares_few c.requires c.skel-2.ensures.value c.order.ensures.value (c.from.ensures ∙ ap (λ (m : Move). m.count) c.m.view_is))
