use Rattle.std.proofs.Common.{ap, ◌∙◌}
use Rattle.bk_laws.proofs.HasAtLaws.{has_at-read}
use Rattle.bk_profile.proofs.RunStarts.{no_run}
use Rattle.bk_profile.specs.declared.runs.OutlineRun.{OutlineRun}
use Rattle.bk_profile.proofs.runs.lowest_runs.Goals as goal

pub returns : goal.returns
returns c = record {
  places = c.lowest-first.ensures;
  x = c.segment.ensures.x;
  end = c.segment.ensures.end;
  level = c.segment.ensures.level no_run
      ∙ ap (λ (r : OutlineRun). r.level)
      (has_at-read c.args.outline.now c.lowest-first.result.0 c.lowest-first.ensures.run no_run c.lowest-first.ensures.run_is);
}
