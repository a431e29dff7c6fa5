use Rattle.std.proofs.Common.{List, subst, sym}
use Rattle.bk_laws.proofs.Outcomes.{on_ok-intro, on_ok-of_error}
use Rattle.bk_verify_report.proofs.Storing.{kept_now, same_flat, still_stored, tells_apart}
use Rattle.bk_verify_report.specs.KeptEntries.{IsNotKept, Kept}
use Rattle.bk_verify_report.proofs.kept.KeptMembers.keep.Goals as goal
use Rattle.bk_verify_report.proofs.kept.KeptMembers.keep.Goals.{in-Err, in-Ok}

pub invariant_of-self : goal.invariant_of-self
invariant_of-self c =
    still_stored same_flat tells_apart c.self.inside.entries c.insert.new.self c.flat_of.result c.args.line c.seen_on.result c.args.tiling.now c.flat_of.ensures
    c.seen_on.ensures c.insert.result c.self.invariant
    (subst (λ (pairs : List Kept). IsNotKept pairs c.args.tiling.now) (sym c.self.view_is) c.requires.new) c.insert.ensures.entries c.insert.ensures.err

pub returns-clause-kept : goal.returns-clause-kept
returns-clause-kept c =
    elim c.match-insert.branch [
      | in-Ok w ↦ on_ok-intro _ c.match-insert.result (kept_now same_flat tells_apart c.self.inside.entries c.insert.new.self c.flat_of.result c.args.line
          c.seen_on.result c.args.tiling.now c.flat_of.ensures c.seen_on.ensures
          c.args.self.now c.self.view_is c.self.invariant c.requires.new w.in-Ok.ensures.entries)
      | in-Err w ↦ on_ok-of_error _ c.match-insert.result _ w.result-is
    ]
