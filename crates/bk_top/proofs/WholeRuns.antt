-- A whole run, for each kind of what is done.
use Rattle.std.proofs.Common.{List, ap, arith, inl, inr, map, refl, subst, sym, ℕ, ◌∙◌, ◌≡◌, ◌≤◌, ◌⊎◌}
use Rattle.std.specs.Prelude.{String, string_bytes, ◌≢◌}
use Rattle.std.specs.declared.alloc.Global.{Global}
use Rattle.bk_ports.specs.Answered.{answers_of, of_fronts}
use Rattle.bk_ports.specs.Ending.{EndsWith, Output, Streams}
use Rattle.bk_ports.specs.Faults.{CountsTell, Faults}
use Rattle.bk_ports.specs.declared.Ended.{Ended}
use Rattle.bk_ports.specs.declared.Ended.TheVariants.{NoMemory, NoneRefused, ReadFailed, SomeRefused, TooMany, WriteFailed}
use Rattle.bk_answer.specs.Answer.{AnswersLine, MayWant}
use Rattle.bk_answer.specs.declared.command.Command.{Command}
use Rattle.bk_ask.proofs.OneAsk.{one_ask}
use Rattle.bk_ask.specs.Help.{help_text, usage}
use Rattle.bk_ask.specs.declared.Ask.{Ask}
use Rattle.bk_ask.specs.declared.Ask.TheVariants as asks
use Rattle.bk_alike.specs.GroupsEnd.{list_output}
use Rattle.bk_alike.specs.declared.Wanted.{Wanted}
use Rattle.bk_verify_report.specs.VerifyRun.{report_of}
use Rattle.bk_top.proofs.AnsweredLines.{answers_lines}
use Rattle.bk_top.proofs.Endings.{ask_of}
use Rattle.bk_top.proofs.ReadToEnd.{lists_lines, verifies_lines}
use Rattle.bk_top.specs.Outside.{Outside, Port, faults_of, status_of, streams_of}
use Rattle.bk_top.specs.ReadsToEnd.{ReadsToEnd}
use Rattle.bk_top.specs.Running.{Does, IsToldText, IsWholeRun, Lists, Tries}
use Rattle.bk_top.specs.Words.{AsksErrorsOnly, AsksNoLines, ReadsNoLines, WordsAsk, WordsAskNothing, listing_asked, work_asked}
use Rattle.bk_top.specs.declared.listing.AskedListing.{AskedListing}
use Rattle.bk_top.specs.declared.work.Work.{Work}
use Rattle.bk_top.specs.declared.work.Work.TheVariants as works

same : (words : List (String Global)) (a b : Ask) → WordsAsk words a → WordsAsk words b → a ≡ b
same words a b = one_ask (map string_bytes words) a b

-- ---- the words that ask for some work

-- what the words ask where the work says it again
abbrev pub IsAskedAs : List (String Global) → Work → Type 0
IsAskedAs words (works.Listing asked) = WordsAsk words (ask_of asked)
IsAskedAs words (works.Verify n) = WordsAsk words (asks.Verify n)
IsAskedAs words works.Help = WordsAsk words asks.Help
IsAskedAs words _ = Unit {0}

-- whatever is asked, the work says of it what the words ask
asked_as : (words : List (String Global)) (ask : Ask) → WordsAsk words ask → IsAskedAs words (work_asked ask)
asked_as words (asks.List n class from limit) wanted = wanted
asked_as words (asks.Verify n) wanted = wanted
asked_as words asks.Help wanted = wanted
asked_as words _ wanted = tt

-- words that ask for this work
pub record AskFor (words : List (String Global)) (work : Work) : Type 0 where
  pub ask : Ask
  pub asked : WordsAsk words ask
  pub is : work_asked ask ≡ work

-- what is done for what the words ask
pub ask_for : (words : List (String Global)) (ask : Ask) (done work : Work) → WordsAsk words ask → done ≡ work_asked ask → done ≡ work
    → AskFor words work
ask_for words ask done work asked does is = record { ask = ask; asked = asked; is = sym does ∙ is }

module _ (words : List (String Global)) (work : Work) (a : AskFor words work) where
  -- the words ask what the work says again
  pub asked_work : IsAskedAs words work
  asked_work = subst (IsAskedAs words) a.is (asked_as words a.ask a.asked)

  -- work that reads lines isn't asked by words that ask for none
  pub work_reads : (ReadsNoLines work → ⊥) → AsksNoLines words → ⊥
  work_reads reads none = reads (subst ReadsNoLines a.is (none a.ask a.asked))

  -- work other than `help` isn't asked by words that ask for a text on errors only
  pub work_writes : (works.Help ≡ work → ⊥) → AsksErrorsOnly words → ⊥
  work_writes other (inl nothing) = nothing a.ask a.asked
  work_writes other (inr helped) = other (ap work_asked (same words asks.Help a.ask helped a.asked) ∙ a.is)

  -- a run that does this work
  pub whole_run_by_the_work_done : (before after : Outside) (status : ℕ) → (status ≤ 7) × (status ≢ 5) → (status ≡ 2 → ⊥) → Does work before after status
      → IsWholeRun words before after status
  whole_run_by_the_work_done before after status statuses not does = record {
    status_2_asks_nothing = λ e. absurd (not e);
    nothing_asked = λ nothing. absurd (nothing a.ask a.asked);
    done = λ other asked. subst (λ (x : Ask). Does (work_asked x) before after status) (same words a.ask other a.asked asked)
        (subst (λ (w : Work). Does w before after status) (sym a.is) does);
    statuses = statuses;
  }

-- ---- the statuses of each kind of work

-- a status of a run over lines
record IsLineStatus (status : ℕ) : Type 0 where
  within : (status ≤ 7) × (status ≢ 5)
  not_two : status ≡ 2 → ⊥

line_status : (ended : Ended) (status : ℕ) → status ≡ status_of ended → IsLineStatus status
line_status NoneRefused status s = record { within = (omega (arith, s), λ e. omega (arith, s)); not_two = λ e. omega (arith, s) }
line_status SomeRefused status s = record { within = (omega (arith, s), λ e. omega (arith, s)); not_two = λ e. omega (arith, s) }
line_status ReadFailed status s = record { within = (omega (arith, s), λ e. omega (arith, s)); not_two = λ e. omega (arith, s) }
line_status WriteFailed status s = record { within = (omega (arith, s), λ e. omega (arith, s)); not_two = λ e. omega (arith, s) }
line_status NoMemory status s = record { within = (omega (arith, s), λ e. omega (arith, s)); not_two = λ e. omega (arith, s) }
line_status TooMany status s = record { within = (omega (arith, s), λ e. omega (arith, s)); not_two = λ e. omega (arith, s) }

-- a status of a run that can fail at a write only
write_status : (status : ℕ) → (status ≡ 0) ⊎ (status ≡ 4) → IsLineStatus status
write_status status (inl s) = record { within = (omega (arith, s), λ e. omega (arith, s)); not_two = λ e. omega (arith, s) }
write_status status (inr s) = record { within = (omega (arith, s), λ e. omega (arith, s)); not_two = λ e. omega (arith, s) }

read_status : (output : Output) (streams : Streams) (faults : Faults) (status : ℕ) → ReadsToEnd output streams faults status → IsLineStatus status
read_status output streams faults status reads = line_status reads.ended status reads.status_is

tried_status : (seed count : ℕ) (before after : Port) (status : ℕ) → Tries seed count before after status → (status ≡ 0) ⊎ (status ≡ 4)
tried_status seed count before after status tries = elim tries.ends [ inl h ↦ inl h.0 | inr h ↦ inr h.0 ]

-- ---- the run of each kind of work

module _ (words : List (String Global)) (before after : Outside) (status : ℕ) where
  -- a command that answers lines
  pub run_of_lines : (command : Command) (ended : Ended) → AskFor words (works.Lines command)
      → EndsWith (answers_of (of_fronts (record { answers = AnswersLine command; may_want = MayWant command }))) (streams_of before after) ended
      → CountsTell ended (faults_of before after) → status ≡ status_of ended → after.err ≡ before.err → IsWholeRun words before after status
  run_of_lines command ended a ends tell s silent =
      let known = line_status ended status s in
      whole_run_by_the_work_done words (works.Lines command) a before after status known.within known.not_two
      (answers_lines command before after ended status s ends tell, silent)

  -- a listing
  pub run_of_listing : (asked : AskedListing) → AskFor words (works.Listing asked) → Lists (listing_asked asked) before.out after.out status
      → after.err ≡ before.err → IsWholeRun words before after status
  run_of_listing asked a lists silent =
      let known = write_status status lists.no_other in
      whole_run_by_the_work_done words (works.Listing asked) a before after status known.within known.not_two (lists, silent)

  -- a trial
  pub run_of_trial : (seed count : ℕ) → AskFor words (works.Trial seed count) → Tries seed count before.out after.out status → after.err ≡ before.err
      → IsWholeRun words before after status
  run_of_trial seed count a tries silent =
      let known = write_status status (tried_status seed count before.out after.out status tries) in
      whole_run_by_the_work_done words (works.Trial seed count) a before after status known.within known.not_two (tries, silent)

  -- groups or pairs
  pub run_of_gathering : (wanted : Wanted) → AskFor words (works.Gather wanted)
      → ReadsToEnd (list_output wanted) (streams_of before after) (faults_of before after) status → after.err ≡ before.err
      → IsWholeRun words before after status
  run_of_gathering wanted a reads silent =
      let known = read_status (list_output wanted) (streams_of before after) (faults_of before after) status reads in
      whole_run_by_the_work_done words (works.Gather wanted) a before after status known.within known.not_two
      (lists_lines wanted before after status reads, silent)

  -- a list that is held against a catalogue
  pub run_of_verify : (n : ℕ) → AskFor words (works.Verify n)
      → ReadsToEnd (report_of n) (streams_of before after) (faults_of before after) status → after.err ≡ before.err → IsWholeRun words before after status
  run_of_verify n a reads silent =
      let known = read_status (report_of n) (streams_of before after) (faults_of before after) status reads in
      whole_run_by_the_work_done words (works.Verify n) a before after status known.within known.not_two (verifies_lines n before after status reads, silent)

-- the text of `help`
pub run_of_help : (words : List (String Global)) (before after : Outside) → AskFor words works.Help → IsToldText help_text before.err after.err
    → IsWholeRun words before after 0
run_of_help words before after a told =
    whole_run_by_the_work_done words works.Help a before after 0 (omega arith, λ e. omega (arith, e)) (λ e. omega (arith, e)) (refl, told)

-- a run whose words ask nothing has status 2 and writes the line of usage
pub run_of_nothing : (words : List (String Global)) (before after : Outside) → WordsAskNothing words → IsToldText usage before.err after.err
    → IsWholeRun words before after 2
run_of_nothing words before after nothing told = record {
  status_2_asks_nothing = λ e. nothing;
  nothing_asked = λ n. (refl, told);
  done = λ ask asked. absurd (nothing ask asked);
  statuses = (omega arith, λ e. omega (arith, e));
}
