use Rattle.std.specs.Int.{w64}
use Rattle.std.specs.Prelude.{nat_abs, pos}
use Rattle.std.proofs.Common.{ap, arith, of_z, slice_index_or, subst, sym, to_z, ℕ, ◌*◌, ◌+◌, ◌^◌, ◌==◌, ◌∙◌}
use Rattle.std.proofs.lemmas.Bool.{ne_eqb}
use Rattle.std.proofs.lemmas.Int.{to_z-of_z}
use Rattle.bk_found.specs.ToldCorners.{AreLongestTold, Lines}
use Rattle.bk_found.specs.declared.corners.Contact.{Contact}
use Rattle.bk_found.specs.declared.corners.Longest.{Longest}
use Rattle.bk_found.proofs.LevelSteps.{held_as_is}
use Rattle.bk_found.proofs.ToldSteps.{told_more, told_none}
use Rattle.bk_found.proofs.corners.longest_in_corners.Goals as goal
use Rattle.bk_found.proofs.corners.longest_in_corners.Goals.{else-top+else-bottom, then-top}

pub squares-preserved : goal.squares-preserved
squares-preserved c =
    let l : Lines = record {
      wires = c.args.candidate.now.wires.now;
      currents = c.args.candidate.now.currents.now;
      lefts = c.args.candidate.now.lefts.now;
      rights = c.args.candidate.now.rights.now;
      total = to_z w64 (of_z w64 c.args.candidate.now.total);
      last = c.args.candidate.now.last;
    } in
    let contact : ℕ → ℕ → ℕ → Contact = λ left right width. record {
      top = (slice_index_or c.args.candidate.now.wires.now c.squares.i (0, 0)).0 == 0;
      bottom = (slice_index_or c.args.candidate.now.wires.now c.squares.i (0, 0)).1 == c.args.candidate.now.last;
      left = left == 0;
      right = right == width;
    } in
    let right_held = held_as_is (17 * 2 ^ 34) (slice_index_or c.args.candidate.now.rights.now c.squares.i (pos 0)) (c.args.candidate.now.known.small_rights
    c.squares.i (omega (arith, c.squares-test.true, c.args.candidate.now.known.rights, c.args.candidate.now.known.wires))) (omega arith) in
    let current_held = held_as_is (2 ^ 34) (slice_index_or c.args.candidate.now.currents.now c.squares.i (pos 0)) (c.args.candidate.now.known.small_currents
    c.squares.i (omega (arith, c.squares-test.true, c.args.candidate.now.known.currents, c.args.candidate.now.known.wires))) (omega arith) in
    elim c.if-top.branch [
      | then-top w ↦ subst (λ (m : Longest). AreLongestTold l (c.squares.i + 1) m) (sym w.longest-is)
          (told_more l c.squares.i c.squares.longest c.squares.invariant w.with_square-longest.result
          (contact w.unsigned_abs-left.result w.unsigned_abs.result c.unsigned_abs-width.result)
          w.unsigned_abs-then-top.result (λ i. contact ((w.unsigned_abs-left.ensures.value
          ∙ ap nat_abs (to_z-of_z w64 w.line_place.result (record { sfits = w.line_place.type_inv }) ∙ w.line_place.ensures)) i)
          ((w.unsigned_abs.ensures.value ∙ ap nat_abs right_held) i) (c.unsigned_abs-width.ensures.value i))
          (w.unsigned_abs-then-top.ensures.value ∙ ap nat_abs current_held) w.with_square-longest.ensures.top
          w.with_square-longest.ensures.bottom w.with_square-longest.ensures.left w.with_square-longest.ensures.right)
      | else-top+else-bottom w ↦ subst (λ (m : Longest). AreLongestTold l (c.squares.i + 1) m) (sym w.longest-is)
          (told_none l c.squares.i c.squares.longest c.squares.invariant
          (ne_eqb (slice_index_or c.args.candidate.now.wires.now c.squares.i (0, 0)).0 0 w.if-top.false)
          (ne_eqb (slice_index_or c.args.candidate.now.wires.now c.squares.i (0, 0)).1 c.args.candidate.now.last w.if-bottom.false))
    ]
