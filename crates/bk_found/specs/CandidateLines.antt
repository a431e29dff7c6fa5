-- The lines of a candidate of the code.
-- Example (TiesExamples): those of 2u.1e with the currents 2, 1, 1.
use Rattle.bk_found.specs.ToldCorners.{Lines}
use Rattle.bk_found.specs.declared.lines.Candidate.{Candidate}

abbrev pub candidate_lines : Candidate → Lines
candidate_lines c = record {
  wires = c.wires.now;
  currents = c.currents.now;
  lefts = c.lefts.now;
  rights = c.rights.now;
  total = c.total;
  last = c.last;
}
