use Rattle.std.proofs.Common.{ap, arith, length, map, refl, subst, sym, ◌*◌, ◌+◌, ◌<◌, ◌∙◌}
use Rattle.std.proofs.lemmas.List.{length-map}
use Rattle.bk_word.specs.Outline.{open_side}
use Rattle.bk_word.specs.Word.{sign_place}
use Rattle.bk_packed.specs.Packed.{move_digits}
use Rattle.bk_packed.specs.ReadMoves.{HasDigits}
use Rattle.bk_packed.proofs.NextDigits.{has_made, made_count, made_signs, sign_low}
use Rattle.bk_packed.proofs.ReadMoves.{one_move, read_from}
use Rattle.bk_packed.proofs.reading.read_next.Goals as goal

pub digits_played-place-requires-clause-legal : goal.digits_played-place-requires-clause-legal
digits_played-place-requires-clause-legal c =
    (read_from c.args.skel.now c.args.number c.requires.next c.requires.rest c.requires.legal c.requires.few c.requires.is).legal_front

pub digits_played-place-requires-clause-few : goal.digits_played-place-requires-clause-few
digits_played-place-requires-clause-few c =
    (read_from c.args.skel.now c.args.number c.requires.next c.requires.rest c.requires.legal c.requires.few c.requires.is).few_front

pub digit_at-requires : goal.digit_at-requires
digit_at-requires c =
    let r = read_from c.args.skel.now c.args.number c.requires.next c.requires.rest c.requires.legal c.requires.few c.requires.is in
    omega (arith, r.room, c.digits_played-place.ensures)

pub overflow_add-place : goal.overflow_add-place
overflow_add-place c =
    let r = read_from c.args.skel.now c.args.number c.requires.next c.requires.rest c.requires.legal c.requires.few c.requires.is in
    omega (arith, r.room, c.digits_played-place.ensures)

pub digit_at-requires-2 : goal.digit_at-requires-2
digit_at-requires-2 c =
    let r = read_from c.args.skel.now c.args.number c.requires.next c.requires.rest c.requires.legal c.requires.few c.requires.is in
    omega (arith, r.room, c.digits_played-place.ensures)

pub overflow_add-place-2 : goal.overflow_add-place-2
overflow_add-place-2 c =
    let r = read_from c.args.skel.now c.args.number c.requires.next c.requires.rest c.requires.legal c.requires.few c.requires.is in
    omega (arith, r.room, c.digits_played-place.ensures)

pub read_signs-requires-clause-room : goal.read_signs-requires-clause-room
read_signs-requires-clause-room c =
    let r = read_from c.args.skel.now c.args.number c.requires.next c.requires.rest c.requires.legal c.requires.few c.requires.is in
    let has = subst (λ p. HasDigits c.args.number p (move_digits c.requires.next)) (sym c.digits_played-place.ensures) r.has in
    let count = made_count c.args.number c.digits_played-place.result c.digit_at.result c.digit_at-2.result c.requires.next c.digit_at.ensures
    c.digit_at-2.ensures r.legal.some has in
    omega (
      arith,
      r.room,
      count,
      r.legal.signs,
      c.from.ensures,
      c.open_side.ensures ∙ ap open_side c.walls-left.ensures.left,
      c.open_side-2.ensures ∙ ap open_side c.walls-left.ensures.right,
      c.digits_played-place.ensures,
      length-map c.requires.next.signs sign_place,
    )

pub read_signs-requires-clause-digits : goal.read_signs-requires-clause-digits
read_signs-requires-clause-digits c k low =
    let r = read_from c.args.skel.now c.args.number c.requires.next c.requires.rest c.requires.legal c.requires.few c.requires.is in
    let has = subst (λ p. HasDigits c.args.number p (move_digits c.requires.next)) (sym c.digits_played-place.ensures) r.has in
    let count = made_count c.args.number c.digits_played-place.result c.digit_at.result c.digit_at-2.result c.requires.next c.digit_at.ensures
    c.digit_at-2.ensures r.legal.some has in
    let within : k < length (map sign_place c.requires.next.signs) = omega (
      arith,
      low,
      count,
      r.legal.signs,
      c.from.ensures,
      c.open_side.ensures ∙ ap open_side c.walls-left.ensures.left,
      c.open_side-2.ensures ∙ ap open_side c.walls-left.ensures.right,
      length-map c.requires.next.signs sign_place,
    ) in
    let at = made_signs c.args.number c.digits_played-place.result c.requires.next has k within in
    omega (arith, at, sign_low c.requires.next.signs k)

pub returns : goal.returns
returns c next rest legal few is =
    let r = read_from c.args.skel.now c.args.number next rest legal few is in
    let has = subst (λ p. HasDigits c.args.number p (move_digits next)) (sym c.digits_played-place.ensures) r.has in
    let made = has_made c.args.number c.digits_played-place.result c.digit_at.result c.digit_at-2.result (4 * c.digit_at.result + c.digit_at-2.result + 1)
    c.read_signs.new.signs.items c.digit_at.ensures c.digit_at-2.ensures refl c.read_signs.ensures.read in
    one_move c.args.number c.digits_played-place.result (record {
      count = 4 * c.digit_at.result + c.digit_at-2.result + 1;
      signs =
          c.read_signs.new.signs.items;
    })
    next (omega arith) r.legal.some
    (λ e. omega (
      arith,
      e,
      c.read_signs.ensures.many,
      r.legal.signs,
      c.from.ensures,
      c.open_side.ensures ∙ ap open_side c.walls-left.ensures.left,
      c.open_side-2.ensures ∙ ap open_side c.walls-left.ensures.right,
    ))
    made has
