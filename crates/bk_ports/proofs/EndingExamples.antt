-- Worked examples of how runs over lines end, of what is read, and of lines that are entered.
use Rattle.std.proofs.Common.{◌≡◌, ℕ, ◌+◌, ◌-◌, ◌^◌, ◌==◌, [], ◌∷◌, ◌++◌, Some, false, get_or, inl, inr, lit<, lit≤, refl, true}
use Rattle.std.specs.Prelude.{codes}
use Rattle.bk_ports.specs.Answered.{Replies, answers_of}
use Rattle.bk_ports.specs.ReadSize.{asked_count}
use Rattle.bk_ports.specs.Deciding.{HasRefused}
use Rattle.bk_ports.specs.Ending.{AreRead, EndsWith, Streams, streams_told}
use Rattle.bk_ports.specs.Entering.{AreEntered, Entering, entering_from}
use Rattle.bk_ports.specs.Faults.{CountsTell, faults_told}
use Rattle.bk_ports.specs.declared.Ended.TheVariants.{ReadFailed, SomeRefused, WriteFailed}
use Rattle.bk_ports.specs.Reply.{Reply}

-- each line is answered by itself and a line feed, and one that begins with `!` is refused
abbrev pub echo : Replies
echo = record {
  answers = λ line pieces refused. (pieces ≡ (line ++ 10 ∷ []) ∷ []) × (refused ≡ (get_or line 0 0 == 33));
  may_want = λ line. ⊥;
}

abbrev first : Reply
first = record { pieces = codes "a\n" ∷ []; refused = false }

abbrev second : Reply
second = record { pieces = codes "!\n" ∷ []; refused = true }

-- two lines are read to the end of the input, and the second is refused
abbrev whole : Streams
whole = streams_told (Some (codes "a\n!\n")) (Some []) (Some (codes "0\n")) (Some (codes "0\na\n!\n"))

whole_answered : EndsWith (answers_of echo) whole SomeRefused
whole_answered = record {
  input = codes "a\n!\n";
  taken = refl;
  at_end = refl;
  within = lit≤ tt;
  written = record { replies = first ∷ second ∷ []; each = ((refl, refl), ((refl, refl), tt)); written = refl; any = refl };
}

one_refused : HasRefused echo (codes "a" ∷ codes "!" ∷ [])
one_refused = (codes "!", (1, lit< tt, refl), codes "!\n" ∷ [], (refl, refl))

-- a read fails in the second line: the first is answered
abbrev part : Streams
part = streams_told (Some (codes "a\n!\n")) (Some (codes "\n")) (Some []) (Some (codes "a\n"))

part_answered : EndsWith (answers_of echo) part ReadFailed
part_answered = record {
  input = codes "a\n!";
  taken = refl;
  within = lit≤ tt;
  refused = false;
  written = record { replies = first ∷ []; each = ((refl, refl), tt); written = refl; any = refl };
}

-- of these bytes one line was read, and at the end of the input two
read_first : AreRead (Some (codes "\n")) (codes "a\n!") (codes "a" ∷ [])
read_first = inl refl

read_last : AreRead (Some []) (codes "a\n!") (codes "a" ∷ codes "!" ∷ [])
read_last = inr (refl, refl)

-- the sum of the numbers of the lines is kept, and nothing is written
abbrev summed : Entering ℕ
summed = record {
  enters = λ sum number line pieces refused next. (pieces ≡ []) × (refused ≡ false) × (next ≡ sum + number);
  may_want = λ sum number line. ⊥;
}

abbrev nothing : Reply
nothing = record { pieces = []; refused = false }

summed_twice : AreEntered (entering_from summed 10 1) (codes "a" ∷ [] ∷ []) (nothing ∷ nothing ∷ []) 13
summed_twice = (11, (refl, refl, refl), (13, (refl, refl, refl), refl))

-- what the first read asks for, one where 10 bytes are left, and one more
asked_counts : (asked_count 0 ≡ 16384) × ((asked_count (2 ^ 30 - 10) ≡ 10) × (asked_count (2 ^ 30) ≡ 1))
asked_counts = (refl, (refl, refl))

-- the third write fails, and no read
one_write_failed : CountsTell WriteFailed (faults_told 0 0 2 3)
one_write_failed = (refl, lit< tt)
