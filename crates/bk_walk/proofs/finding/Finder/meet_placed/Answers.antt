use Rattle.std.proofs.Common.{arith, lit<, refl, ◌∙◌}
use Rattle.std.proofs.lemmas.Bool.{false≢true}
use Rattle.bk_sym.specs.Turns.{after}
use Rattle.bk_walk.proofs.TurnedSquares.{turned_image}
use Rattle.bk_walk.proofs.finding.Finder.meet_placed.Goals as goal

pub as_slice-requires : goal.as_slice-requires
as_slice-requires g c = lit< tt

pub meet_tiling-requires : goal.meet_tiling-requires
meet_tiling-requires g c = omega (arith, g.N.fits)

pub returns-in-Ok : goal.returns-in-Ok
returns-in-Ok g c = record {
  fixed = c.meet_tiling.ensures.fixed;
  put = λ t turn member place. c.meet_tiling.ensures.put t (after c.best_turn-which.result turn) member (c.in-Ok.ensures.value
      ∙ (turned_image t turn c.args.placed.now c.best_turn-which.result c.lying_size-width.result.0 c.lying_size-width.result.1 c.as_slice.result.now
      member.tiling place (c.lying_size-width.ensures c.best_turn-which.result c.best_turn-which.ensures)
      (c.as_slice.ensures.value ∙ c.turned_squares-squares.ensures)).1);
  kept = c.meet_tiling.ensures.kept;
}

pub returns-in-Err : goal.returns-in-Err
returns-in-Err g c = record {
  fixed = refl;
  put = λ t turn member place. absurd (false≢true (c.in-Err.ensures.accepted.1
      (turned_image t turn c.args.placed.now c.best_turn-which.result c.lying_size-width.result.0 c.lying_size-width.result.1 c.as_slice.result.now
      member.tiling place (c.lying_size-width.ensures c.best_turn-which.result c.best_turn-which.ensures)
      (c.as_slice.ensures.value ∙ c.turned_squares-squares.ensures)).0));
  kept = λ x held. held;
}
