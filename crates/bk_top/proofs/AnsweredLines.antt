-- The runs of the commands that answer lines: the lines decide the status.
use Rattle.std.proofs.Common.{ℕ, ◌≡◌, ◌⊎◌}
use Rattle.std.specs.Prelude.{List, Some}
use Rattle.bk_ports.proofs.Deciding.{HasOneReply, memory_wanting_at_a_line_of_the_input, refused_none, refused_some}
use Rattle.bk_ports.proofs.OtherReplies.{ends_by_any_wider_replies}
use Rattle.bk_ports.specs.Answered.{answers_of, of_fronts}
use Rattle.bk_ports.specs.Deciding.{HasRefused}
use Rattle.bk_ports.specs.Ending.{EndsWith}
use Rattle.bk_ports.specs.Faults.{CountsTell}
use Rattle.bk_ports.specs.Lines.{lines_of}
use Rattle.bk_ports.specs.declared.Ended.{Ended}
use Rattle.bk_ports.specs.declared.Ended.TheVariants.{NoMemory, NoneRefused, SomeRefused}
use Rattle.bk_answer.proofs.CheckedLines.{a_reply, wants_whole}
use Rattle.bk_answer.proofs.OneAnswer.{one_answer}
use Rattle.bk_answer.specs.Answer.{AnswersLine, MayWant}
use Rattle.bk_answer.specs.declared.command.Command.{Command}
use Rattle.bk_top.proofs.Statuses.{ending_at, is_calm, one_of_three, reads_to_end}
use Rattle.bk_top.specs.DecidedStatus.{IsDecided, replies_of}
use Rattle.bk_top.specs.Outside.{Outside, faults_of, status_of, streams_of}
use Rattle.bk_top.specs.ReadsToEnd.{AnswersLines, ReadsToEnd}

-- lines have one reply
one_reply : (command : Command) → HasOneReply (replies_of command).answers
one_reply command line pieces others p q first other = one_answer command line pieces others p q first.answer other.answer

-- what is kept of a line is answered as the line
pub replied_whole : (command : Command) (before after : Outside) (ended : Ended)
    → EndsWith (answers_of (of_fronts (record { answers = AnswersLine command; may_want = MayWant command }))) (streams_of before after) ended
    → EndsWith (answers_of (replies_of command)) (streams_of before after) ended
replied_whole command before after ended =
    ends_by_any_wider_replies (of_fronts (record { answers = AnswersLine command; may_want = MayWant command })) (replies_of command)
    (record { reply = a_reply command; wants = wants_whole command }) (streams_of before after) ended

module _ (command : Command) (before after : Outside) (status : ℕ) (reads : ReadsToEnd (answers_of (replies_of command)) (streams_of before after)
    (faults_of before after) status)
    (input : List ℕ) (tells : before.source.bytes ≡ Some input) where
  at : (ended : Ended) → status ≡ status_of ended → EndsWith (answers_of (replies_of command)) (streams_of before after) ended
  at = ending_at (answers_of (replies_of command)) (streams_of before after) (faults_of before after) status reads

  some_line : status ≡ 1 → HasRefused (replies_of command) (lines_of input)
  some_line one = refused_some (replies_of command) (streams_of before after) input tells (at SomeRefused one)

  no_line : status ≡ 0 → HasRefused (replies_of command) (lines_of input) → ⊥
  no_line zero = refused_none (replies_of command) (streams_of before after) input tells (one_reply command) (at NoneRefused zero)

  -- the lines decide the status
  decided : (status ≡ 0) ⊎ ((status ≡ 1) ⊎ (status ≡ 6)) → IsDecided command (lines_of input) status
  decided one = record {
    one_of = one;
    wanting = λ six. memory_wanting_at_a_line_of_the_input (replies_of command) (streams_of before after) input tells (at NoMemory six);
    refused = λ other. (some_line, λ some. one_of_three (HasRefused (replies_of command) (lines_of input)) status no_line some other one);
  }

-- all that the statuses say of a run over lines
pub answers_lines : (command : Command) (before after : Outside) (ended : Ended) (status : ℕ) → status ≡ status_of ended
    → EndsWith (answers_of (of_fronts (record { answers = AnswersLine command; may_want = MayWant command }))) (streams_of before after) ended
    → CountsTell ended (faults_of before after) → AnswersLines command before after status
answers_lines command before after ended status s ends tell =
    let reads = reads_to_end (answers_of (replies_of command)) (streams_of before after) (faults_of before after) ended status s
    (replied_whole command before after ended ends) tell in
    record {
      reads = reads;
      decided = λ input tells few none. decided command before after status reads input tells (reads.complete (is_calm before after input tells few none));
    }
