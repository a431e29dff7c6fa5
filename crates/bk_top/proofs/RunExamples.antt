-- Worked examples of what is asked, of the statuses, of what decides them, and of a catalogue that was written.
use Rattle.std.proofs.Common.{Some, [], arith, inl, refl, ◌≡◌}
use Rattle.std.specs.Prelude.{List, codes, ℕ}
use Rattle.bk_word.specs.declared.Class.TheVariants.{Imperfect}
use Rattle.bk_alike.specs.declared.Wanted.TheVariants.{Groups}
use Rattle.bk_answer.specs.declared.command.Command.TheVariants.{Plain}
use Rattle.bk_answer.specs.declared.plain.PlainCommand.TheVariants.{Check}
use Rattle.bk_ask.specs.declared.Ask.TheVariants as asks
use Rattle.bk_ports.specs.declared.Ended.TheVariants.{NoneRefused, TooMany}
use Rattle.bk_list.proofs.ListingExamples.{whole_catalogue}
use Rattle.bk_top.proofs.AnsweredLines.{answers_lines}
use Rattle.bk_top.specs.DecidedStatus.{IsDecided}
use Rattle.bk_top.specs.Outside.{Outside, status_of}
use Rattle.bk_top.specs.ReadsToEnd.{AnswersLines}
use Rattle.bk_top.specs.Running.{IsToldText}
use Rattle.bk_top.specs.WholeCatalogue.{AppendsCatalogue}
use Rattle.bk_top.specs.Words.{work_asked}
use Rattle.bk_top.specs.declared.work.Work.TheVariants as works

check_answers_lines : work_asked asks.Check ≡ works.Lines (Plain Check)
check_answers_lines = refl

alike_gathers_groups : work_asked asks.Alike ≡ works.Gather Groups
alike_gathers_groups = refl

too_many_status : status_of TooMany ≡ 7
too_many_status = refl

-- of no lines none is refused, so the status is 0
no_lines : IsDecided (Plain Check) [] 0
no_lines = record {
  one_of = inl refl;
  wanting = λ six. absurd (omega arith);
  refused = λ other. (λ one. absurd (omega arith), λ some. absurd (omega (arith, (some.1).1)));
}

told_whole : IsToldText (codes "a\n") (record { bytes = Some (codes "0\n"); faults = 2 }) (record { bytes = Some (codes "0\na\n"); faults = 2 })
told_whole = inl (refl, refl)

-- nothing is read, and these bytes are written
abbrev written_so_far : List ℕ → Outside
written_so_far bytes = record {
  source = record { bytes = Some []; faults = 0 };
  out = record { bytes = Some bytes; faults = 0 };
  err = record { bytes = Some []; faults = 0 };
}

catalogue_appended : AppendsCatalogue 2 Imperfect (written_so_far (codes "0\n"))
    (written_so_far (codes "0\n2 2x1 [1,1] ; 2e\n; end order 2 class imperfect listed 1\n"))
catalogue_appended = record { bytes = _; catalogue = whole_catalogue; appends = refl }

-- `check` of an input without bytes
checked_none : AnswersLines (Plain Check) (written_so_far (codes "0\n")) (written_so_far (codes "0\n")) 0
checked_none =
    answers_lines (Plain Check) (written_so_far (codes "0\n")) (written_so_far (codes "0\n")) NoneRefused 0 refl
    (record {
      input = [];
      taken = refl;
      at_end = refl;
      within = omega arith;
      written = record { replies = []; each = tt; written = refl; any = refl };
    })
    (refl, refl)
