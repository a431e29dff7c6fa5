-- A move is ruled out if it brings more equations than squares, and is ruled out by them.
use Rattle.std.proofs.Common.{sym, true≢false, ◌∙◌}
use Rattle.bk_walk_cuts.proofs.tracing.Tracing.rules_out.Goals as goal

pub returns-then-not-binds_earlier : goal.returns-then-not-binds_earlier
returns-then-not-binds_earlier c = record {
  sound = λ e. absurd (true≢false (sym e));
  few = λ e. absurd (true≢false (sym e));
  more = λ e. absurd (true≢false (sym e));
  all = λ _ _ more _. absurd (true≢false (sym more ∙ sym c.binds_earlier.ensures ∙ c.if-not-binds_earlier.true));
}

pub returns : goal.returns
returns c = record {
  sound = c.would_rule_out.ensures.sound;
  few = c.would_rule_out.ensures.few;
  more = λ _. sym c.binds_earlier.ensures ∙ c.if-not-binds_earlier.false;
  all = λ marks few _. c.would_rule_out.ensures.all marks few;
}
