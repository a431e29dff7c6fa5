use Rattle.std.proofs.Common.{List, ap, arith, refl, sym, ◌∙◌}
use Rattle.bk_tiling.specs.declared.Square.{Square}
use Rattle.bk_profile.proofs.Storing.{gap_narrow, gap_read, level_small, stored_laid}
use Rattle.bk_profile.specs.OutlineRuns.{width_of}
use Rattle.bk_profile.proofs.profile.lay_under.Goals as goal

pub returns-then-total-gap-clause-err : goal.returns-then-total-gap-clause-err
returns-then-total-gap-clause-err c = record {
  gap = c.args.runs.segment;
  is_gap = gap_read _ _ _ _ c.requires.stored refl c.requires.runs;
  width = refl;
  total_is = c.requires.total;
  misfit = λ e. c.if-total-gap.true (sym c.requires.total ∙ e);
}

pub returns-then-total-gap-clause-same : goal.returns-then-total-gap-clause-same
returns-then-total-gap-clause-same c = refl

pub returns-then-total-gap-clause-stored : goal.returns-then-total-gap-clause-stored
returns-then-total-gap-clause-stored c = c.requires.stored

pub hang-requires-clause-order : goal.hang-requires-clause-order
hang-requires-clause-order c = (c.requires.runs).places.some

pub hang-requires-clause-within : goal.hang-requires-clause-within
hang-requires-clause-within c = (c.requires.runs).places.within

pub hang-requires-clause-some : goal.hang-requires-clause-some
hang-requires-clause-some c = c.requires.some

pub hang-requires-clause-room : goal.hang-requires-clause-room
hang-requires-clause-room c = omega (arith, ((c.requires.stored).outline).few, c.requires.room)

pub hang-requires-clause-high : goal.hang-requires-clause-high
hang-requires-clause-high c = omega (arith, level_small _ _ _ _ c.requires.stored refl c.requires.runs)

pub hang-requires-clause-sides : goal.hang-requires-clause-sides
hang-requires-clause-sides c = c.requires.sides

pub push_group-requires-clause-room : goal.push_group-requires-clause-room
push_group-requires-clause-room c = c.requires.room

pub push_group-requires-clause-fits : goal.push_group-requires-clause-fits
push_group-requires-clause-fits c =
    omega (arith, gap_narrow _ _ _ _ c.requires.stored refl c.requires.runs, c.requires.total, c.if-total-gap.false)

pub returns-clause-ok : goal.returns-clause-ok
returns-clause-ok c = record {
  gap = c.args.runs.segment;
  is_gap = gap_read _ _ _ _ c.requires.stored refl c.requires.runs;
  fits = c.requires.total ∙ c.if-total-gap.false;
  laid = ap (λ (l : List Square). record { width = width_of c.args.outline.now.items; squares = l }) c.push_group.ensures;
}

pub returns-clause-stored : goal.returns-clause-stored
returns-clause-stored c =
    rw (c.push_group.ensures, c.hang.ensures)
    (stored_laid _ _ _ _ c.requires.stored refl c.requires.runs c.args.sides.now (c.requires.total ∙ c.if-total-gap.false) c.requires.sides
    c.requires.some c.requires.room)
