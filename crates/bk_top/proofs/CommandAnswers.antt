-- The answers of a command that has another name too.
use Rattle.std.proofs.Common.{subst, ◌≡◌}
use Rattle.bk_answer.specs.Answer.{AnswersLine, MayWant}
use Rattle.bk_answer.specs.declared.command.Command.{Command}
use Rattle.bk_ports.specs.Answered.{answers_of, of_fronts}
use Rattle.bk_ports.specs.Ending.{EndsWith, Streams}
use Rattle.bk_ports.specs.declared.Ended.{Ended}

-- a run that ends as one of the same command does
pub ends_as_named : (command other : Command) (streams : Streams) (ended : Ended) → other ≡ command
    → EndsWith (answers_of (of_fronts (record { answers = AnswersLine other; may_want = MayWant other }))) streams ended
    → EndsWith (answers_of (of_fronts (record { answers = AnswersLine command; may_want = MayWant command }))) streams ended
ends_as_named command other streams ended same ends =
    subst (λ (c : Command). EndsWith (answers_of (of_fronts (record { answers = AnswersLine c; may_want = MayWant c }))) streams ended) same ends
