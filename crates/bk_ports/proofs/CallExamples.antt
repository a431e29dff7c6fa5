-- Worked examples of programs seen by their calls.
use Rattle.std.proofs.Common.{◌≡◌, ◌++◌, [], ◌∷◌, List, lit≤, refl, subst, ℕ}
use Rattle.std.specs.List.{concat}
use Rattle.std.specs.Prelude.{codes}
use Rattle.bk_ports.proofs.CallOrder.{each_line_answered}
use Rattle.bk_ports.proofs.EndingExamples.{echo}
use Rattle.bk_ports.specs.Answered.{answers_of}
use Rattle.bk_ports.specs.Calls.{Call, EndsAsSaid, Program, ends, gave, reads}
use Rattle.bk_ports.specs.Reply.{AreReplies, Reply, text_of}
use Rattle.bk_ports.specs.declared.Ended.TheVariants.{NoneRefused, ReadFailed}

-- a program that reads a second time before it writes anything
abbrev reads_twice : Program
reads_twice = reads 2 (λ first. reads 2 (λ second. ends NoneRefused) (ends ReadFailed)) (ends ReadFailed)

-- its first read may give a whole line, and then it reads again
abbrev one_line : List Call
one_line = gave (codes "a\n") ∷ []

-- a line that `echo` answers by itself isn't answered by nothing
some_answer : (replies : List Reply) → AreReplies echo.answers (codes "a" ∷ []) replies → [] ≡ text_of replies → ⊥
some_answer [] each none = absurd each
some_answer (reply ∷ replies) each none =
    let some : [] ≡ concat ((codes "a" ++ 10 ∷ []) ∷ []) ++ text_of replies =
    subst (λ (l : List (List ℕ)). [] ≡ concat l ++ text_of replies) each.0.0 none in cc

-- so not each of its runs ends as said
late : EndsAsSaid (answers_of echo) reads_twice → ⊥
late said =
    let answered = each_line_answered (answers_of echo) reads_twice said one_line [] 2 (λ second. ends NoneRefused) (ends ReadFailed)
    (lit≤ tt, refl) tt in
    some_answer answered.1.replies answered.1.each answered.1.written
