-- The process ends as the run of its arguments does, or says why there are none.
use Rattle.std.proofs.Common.{rules}
use Rattle.bk_top.proofs.ProcessEnd.{asked_by, ended_as_run}
use Rattle.bk_top.specs.Words.{AsksErrorsOnly, AsksNoLines}
use Rattle.bk_top.proofs.exit.run_to_exit.Goals as goal

pub returns-in-Ok-clause-ended : goal.returns-in-Ok-clause-ended
returns-in-Ok-clause-ended g c =
    ended_as_run c.args.arguments.now c.in-Ok.words c.deref.result.now _ _ c.run.result _ c.in-Ok.is c.deref.ensures.value c.run.ensures.ran
    c.from.ensures

pub returns-in-Err-NotText-clause-ended : goal.returns-in-Err-NotText-clause-ended
returns-in-Err-NotText-clause-ended g c = search rules

pub returns-in-Ok-clause-unread : goal.returns-in-Ok-clause-unread
returns-in-Ok-clause-unread g c = λ none.
    c.run.ensures.unread
    (asked_by AsksNoLines c.args.arguments.now c.in-Ok.words c.deref.result.now c.in-Ok.is c.deref.ensures.value none)

pub returns-in-Ok-clause-unwritten : goal.returns-in-Ok-clause-unwritten
returns-in-Ok-clause-unwritten g c = λ only.
    c.run.ensures.unwritten
    (asked_by AsksErrorsOnly c.args.arguments.now c.in-Ok.words c.deref.result.now c.in-Ok.is c.deref.ensures.value only)

pub returns-in-Ok-clause-silent : goal.returns-in-Ok-clause-silent
returns-in-Ok-clause-silent g c = λ some.
    c.run.ensures.silent
    (asked_by (λ words. ¬ AsksErrorsOnly words) c.args.arguments.now c.in-Ok.words c.deref.result.now c.in-Ok.is c.deref.ensures.value some)
