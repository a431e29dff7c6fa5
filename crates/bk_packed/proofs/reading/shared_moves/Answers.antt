use Rattle.std.proofs.Common.{List, Some, ap, arith, length, slice_get, subst, sym, take, ℕ, ◌+◌, ◌<◌, ◌≡◌}
use Rattle.bk_word.specs.Word.{Move, Word}
use Rattle.bk_word.specs.declared.Sign.{Sign}
use Rattle.bk_packed.specs.Packed.{move_digits, packed, word_digits}
use Rattle.bk_packed.specs.ReadMoves.{HasDigits, IsSharedFront}
use Rattle.bk_packed.proofs.NextDigits.{IsMoveAt, digits_with_one_move_more, has_at, has_next, move_at, move_is_at}
use Rattle.bk_packed.proofs.ReadMoves.{alike_up_to_place}
use Rattle.bk_packed.proofs.reading.shared_moves.Goals as goal

-- the move that is looked at
same : (w : Word) (i count : ℕ) (signs : List Sign) → IsMoveAt w i → ((m : Move) → slice_get w i ≡ Some m → count ≡ m.count)
    → ((m : Move) → slice_get w i ≡ Some m → signs ≡ m.signs) → ◌≡◌ {A = Move} (record { count = count; signs = signs }) (move_at w i)
same w i count signs m e f = λ j. record { count = e (move_at w i) m.at j; signs = f (move_at w i) m.at j }

pub has_move-requires-clause-some : goal.has_move-requires-clause-some
has_move-requires-clause-some c =
    let m = move_is_at c.args.skel.now c.moves.i c.requires.legal c.requires.few (omega (arith, c.moves-test.true, c.moves-i-end.ensures.value)) in
    omega (arith, m.some, c.count_at.ensures (move_at c.args.skel.now c.moves.i) m.at)

pub has_move-requires-clause-within : goal.has_move-requires-clause-within
has_move-requires-clause-within c =
    let m = move_is_at c.args.skel.now c.moves.i c.requires.legal c.requires.few (omega (arith, c.moves-test.true, c.moves-i-end.ensures.value)) in
    omega (arith, m.room, c.moves.invariant.place, ap length (c.signs_at-signs.ensures (move_at c.args.skel.now c.moves.i) m.at))

pub returns-then-not-has_move-clause-shared : goal.returns-then-not-has_move-clause-shared
returns-then-not-has_move-clause-shared c w legal few e is =
    let m = move_is_at c.args.skel.now c.moves.i c.requires.legal c.requires.few (omega (arith, c.moves-test.true, c.moves-i-end.ensures.value)) in
    let not : c.moves.i < length c.args.skel.now → HasDigits (packed w) 0 (word_digits (take (c.moves.i + 1) c.args.skel.now)) → ⊥ =
    λ low has. (let found = c.has_move.ensures.1 (subst (λ (k : Move). HasDigits c.args.number c.moves.place (move_digits k))
    (sym (same c.args.skel.now c.moves.i c.count_at.result c.signs_at-signs.result.now m c.count_at.ensures c.signs_at-signs.ensures))
    (has_at c.args.number c.moves.place c.args.skel.now c.moves.i m c.moves.invariant.place
    (subst (λ n. HasDigits n 0 (word_digits (take (c.moves.i + 1) c.args.skel.now))) is has))) in cc) in
    alike_up_to_place c.args.skel.now w c.moves.i c.requires.legal legal e few
    (subst (λ n. HasDigits n 0 (word_digits (take c.moves.i c.args.skel.now))) (sym is) c.moves.invariant.has) not

pub overflow_add-place-in-moves : goal.overflow_add-place-in-moves
overflow_add-place-in-moves c =
    let m = move_is_at c.args.skel.now c.moves.i c.requires.legal c.requires.few (omega (arith, c.moves-test.true, c.moves-i-end.ensures.value)) in
    omega (arith, m.room, c.moves.invariant.place, ap length (c.signs_at-signs.ensures (move_at c.args.skel.now c.moves.i) m.at))

pub moves-preserved : goal.moves-preserved
moves-preserved c =
    let m = move_is_at c.args.skel.now c.moves.i c.requires.legal c.requires.few (omega (arith, c.moves-test.true, c.moves-i-end.ensures.value)) in
    record {
      place = digits_with_one_move_more c.args.skel.now c.moves.i c.moves.place (length c.signs_at-signs.result.now) m c.moves.invariant.place
          (ap length (c.signs_at-signs.ensures (move_at c.args.skel.now c.moves.i) m.at));
      has = has_next c.args.number c.moves.place c.args.skel.now c.moves.i m c.moves.invariant.place c.moves.invariant.has
          (subst (λ (k : Move). HasDigits c.args.number c.moves.place (move_digits k))
          (same c.args.skel.now c.moves.i c.count_at.result c.signs_at-signs.result.now m c.count_at.ensures c.signs_at-signs.ensures)
          (c.has_move.ensures.0 c.if-not-has_move.false));
    }

pub returns-clause-shared : goal.returns-clause-shared
returns-clause-shared c w legal few e is =
    let all : c.moves.i ≡ c.moves-2.result = omega (arith, c.moves-test.false, c.moves-i-end.ensures.value, c.moves-2.ensures.value) in
    subst (IsSharedFront c.args.skel.now w) all (alike_up_to_place c.args.skel.now w c.moves.i c.requires.legal legal e few
    (subst (λ n. HasDigits n 0 (word_digits (take c.moves.i c.args.skel.now))) (sym is) c.moves.invariant.has)
    (λ low. absurd (omega (arith, c.moves-test.false, c.moves-i-end.ensures.value, low))))
