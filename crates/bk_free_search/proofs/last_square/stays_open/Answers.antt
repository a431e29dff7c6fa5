use Rattle.std.proofs.Common.{ap, arith, length, nat_eq, ◌∙◌}
use Rattle.std.proofs.lemmas.Bool.{eqb-false, not-true}
use Rattle.bk_word.specs.Outline.{open_sides, valley_of}
use Rattle.bk_word.specs.Play.{outline_of}
use Rattle.bk_word.specs.Word.{Word}
use Rattle.bk_free_search.proofs.NextWords.LastSquare.{lone_is_barred, others_are_barred}
use Rattle.bk_free_search.proofs.last_square.stays_open.Goals as goal

pub returns-then-valley_squares-eq1 : goal.returns-then-valley_squares-eq1
returns-then-valley_squares-eq1 c _ = lone_is_barred c.args.order c.args.board.now c.requires.least c.requires.one (length c.valley_squares.result.now)
    (ap length c.valley_squares.ensures ∙ ap (λ (w : Word). length (valley_of (outline_of w))) c.skel-skel.ensures.value)
    c.if-valley_squares-eq1.true

pub returns : goal.returns
returns c told = others_are_barred c.args.order c.args.board.now c.requires.least c.requires.one (λ same.
    eqb-false (length c.signs.result.now) c.open_sides.result (not-true (nat_eq (length c.signs.result.now) c.open_sides.result) told) (omega (
      arith,
      same,
      ap length c.signs.ensures,
      ap (λ (w : Word). length (outline_of w).signs) c.skel-skel.ensures.value,
      c.open_sides.ensures.is,
      ap (λ (w : Word). open_sides (outline_of w)) c.skel-skel.ensures.value,
    )))
