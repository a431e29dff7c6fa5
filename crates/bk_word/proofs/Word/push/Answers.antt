-- The bytes of the move are appended, and a buffer without room for them is as it was.
use Rattle.std.specs.Prelude.{length, map, ◌+◌, ◌++◌, ◌∷◌, ◌≡◌}
use Rattle.std.proofs.Common.{ap, arith, lit<, refl, subst, sym, ◌∙◌}
use Rattle.std.proofs.lemmas.List.{length-map}
use Rattle.bk_laws.proofs.Outcomes.{ok-is_not_err, on_ok-apply}
use Rattle.bk_word.specs.StoredWord.{IsStoredWord, sign_byte, stored_move, word_in}
use Rattle.bk_word.specs.Word.{Move}
use Rattle.bk_word.proofs.StoredBytes.{has_bytes, move_fits_where_squares_are_few, pushed}
use Rattle.bk_word.proofs.Word.push.Goals as goal

pub append_move-requires : goal.append_move-requires
append_move-requires c = omega (
  arith,
  on_ok-apply c.reserve.result _ (sym c.is_err.ensures.value ∙ c.if-is_err.false) c.reserve.ensures.ok,
)

appended : (c : goal.After-append_move) → c.append_move.new.bytes.items ≡ c.self.inside.bytes.items ++ stored_move c.args.m.now
appended c =
    c.append_move.ensures.items ∙ (λ i. c.reserve.ensures.items i ++ c.m.inside.count ∷ map sign_byte (c.as_slice-signs.ensures.value i))
    ∙ ap (λ (m : Move). c.self.inside.bytes.items ++ stored_move m) c.m.view_is

pub invariant_of-self-2 : goal.invariant_of-self-2
invariant_of-self-2 c = record {
  stored = subst IsStoredWord (sym (appended c)) (pushed c.self.inside.bytes.items c.args.self.now c.args.m.now c.self.invariant.stored c.self.view_is
      c.requires.stands c.requires.few).1;
  room = omega (arith, c.self.invariant.room, c.reserve.ensures.capacity, c.append_move.ensures.capacity);
}

pub returns-clause-ok : goal.returns-clause-ok
returns-clause-ok c = ap word_in (appended c)
    ∙ (pushed c.self.inside.bytes.items c.args.self.now c.args.m.now c.self.invariant.stored c.self.view_is c.requires.stands c.requires.few).0

move_length : (c : goal.Then-is_err) → 1 + length c.as_slice-signs.result.now ≡ length (stored_move c.args.m.now)
move_length c = omega (
  arith,
  length-map c.m.inside.signs.items sign_byte,
  ap length c.as_slice-signs.ensures.value,
  ap (λ (m : Move). length (stored_move m)) c.m.view_is,
)

pub returns-then-is_err-clause-inline : goal.returns-then-is_err-clause-inline
returns-then-is_err-clause-inline c = λ few. ok-is_not_err c.reserve.result
    (c.reserve.ensures.succeeds (omega (
      arith,
      move_length c,
      move_fits_where_squares_are_few c.self.inside.bytes.items c.args.self.now c.args.m.now c.self.inside.bytes.capacity c.self.invariant c.self.view_is
          c.requires.stands few,
    )))
    (sym c.is_err.ensures.value ∙ c.if-is_err.true)

pub returns-then-is_err-clause-bytes : goal.returns-then-is_err-clause-bytes
returns-then-is_err-clause-bytes c = λ few. ok-is_not_err c.reserve.result
    (c.reserve.ensures.succeeds (omega (
      arith,
      move_length c,
      has_bytes c.self.inside.bytes.items c.args.self.now c.args.m.now c.self.inside.bytes.capacity c.self.invariant c.self.view_is few,
    )))
    (sym c.is_err.ensures.value ∙ c.if-is_err.true)

pub as_slice-signs-requires : goal.as_slice-signs-requires
as_slice-signs-requires c = lit< tt

pub overflow_add-signs : goal.overflow_add-signs
overflow_add-signs c = omega (arith, c.as_slice-signs.ensures.fits)

pub reserve-requires : goal.reserve-requires
reserve-requires c = lit< tt

pub invariant_of-self : goal.invariant_of-self
invariant_of-self c = record {
  stored = subst IsStoredWord (sym c.reserve.ensures.items) c.self.invariant.stored;
  room = omega (arith, c.self.invariant.room, c.reserve.ensures.capacity);
}

pub returns-then-is_err-clause-unchanged : goal.returns-then-is_err-clause-unchanged
returns-then-is_err-clause-unchanged c = ap word_in c.reserve.ensures.items ∙ c.self.view_is

pub returns-clause-inline : goal.returns-clause-inline
returns-clause-inline c = λ few. refl

pub returns-clause-bytes : goal.returns-clause-bytes
returns-clause-bytes c = λ few. refl
