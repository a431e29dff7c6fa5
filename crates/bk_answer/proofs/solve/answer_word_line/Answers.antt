-- The item of the line is read as a word, and the word is answered.
use Rattle.std.proofs.Common.{None, Option, arith, false, refl, subst, sym, ℕ, ◌<◌, ◌≡◌, ◌≤◌}
use Rattle.std.specs.Prelude.{IfNone, slice_range}
use Rattle.bk_laws.proofs.Bytes.{keeps-itself}
use Rattle.bk_grammar.specs.Grammar.{LineEnd}
use Rattle.bk_ports.proofs.Pieces.{writes_none}
use Rattle.bk_word.specs.ReadWord.{IsWordFaultOf}
use Rattle.bk_word.specs.Word.{Word, order_of}
use Rattle.bk_word.specs.WordText.{IsTextOf}
use Rattle.bk_word.specs.declared.reading.WordFault.{WordFault}
use Rattle.bk_report.specs.declared.refusal.Refused.TheVariants.{Long, Many}
use Rattle.bk_answer.specs.Answer.{MayWant}
use Rattle.bk_answer.specs.WordAnswer.{AnswersWord, AnswersWordLine, HasWord, large_word, no_word, no_word_item, of_word, word_too_long}
use Rattle.bk_answer.specs.declared.command.Command.TheVariants.{Memory}
use Rattle.bk_answer.specs.declared.command.MemoryCommand.TheVariants.{Solve}
use Rattle.bk_answer.proofs.ReplySteps.{refusal_replies, replies_more, text_replies}
use Rattle.bk_answer.proofs.solve.answer_word_line.Goals as goal

none_is : {T : Type 0} (P : Type 0) (o : Option T) → o ≡ None → IfNone o P → P
none_is P o e = subst (λ z. IfNone z P) e

pub returns-in_default-clause-reply : goal.returns-in_default-clause-reply
returns-in_default-clause-reply g c =
    writes_none (AnswersWordLine c.args.line.now) false (g.O.Sink.written c.args.out.now)
    (no_word_item (omega (arith, c.if-line-gt-LONGEST_LINE.false))
    (none_is (LineEnd c.args.line.now) c.word_item.result c.in_default.is c.word_item.ensures.none))

pub returns-in-Ok-clause-reply : goal.returns-in-Ok-clause-reply
returns-in-Ok-clause-reply g c =
    let has : HasWord c.args.line.now c.in-Ok.word = record {
      start = c.in-Some.start;
      text = slice_range c.args.line.now c.in-Some.start c.in-Some.end;
      item = record { short = omega (arith, c.if-line-gt-LONGEST_LINE.false); stop = c.in-Some.end; item = c.in-Some.ensures.some; text_is = refl };
      word = c.in-Ok.ensures.read;
      few = subst (λ (n : ℕ). n ≤ 200) c.order-few.ensures.value c.order-few.ensures.few;
    } in
    replies_more (AnswersWord c.in-Ok.word) (AnswersWordLine c.args.line.now) (16 < order_of c.in-Ok.word) (MayWant (Memory Solve) c.args.line.now)
    (λ pieces refused. of_word c.in-Ok.word pieces refused has) (λ w. (c.in-Ok.word, has, w))
    (g.O.Sink.written c.args.out.now) (g.O.Sink.written c.answer_word.new.out) c.answer_word.result c.answer_word.ensures.reply

pub returns-in-Err-Text-clause-reply : goal.returns-in-Err-Text-clause-reply
returns-in-Err-Text-clause-reply g c =
    text_replies (AnswersWordLine c.args.line.now) (MayWant (Memory Solve) c.args.line.now) c.in-Some.start c.in-Err-Text.at _
    (g.O.Sink.written c.args.out.now) (g.O.Sink.written c.refuse-in-Err-Text.new.out) c.refuse-in-Err-Text.result (sym c.in-Err-Text.at-is)
    (no_word c.in-Some.start c.in-Err-Text.at (slice_range c.args.line.now c.in-Some.start c.in-Some.end)
    (record { short = omega (arith, c.if-line-gt-LONGEST_LINE.false); stop = c.in-Some.end; item = c.in-Some.ensures.some; text_is = refl })
    (subst (λ (f : WordFault). IsWordFaultOf f (slice_range c.args.line.now c.in-Some.start c.in-Some.end))
    c.in-Err-Text.field-0-is c.in-Err-Text.ensures.fault))
    c.refuse-in-Err-Text.ensures.outcome c.refuse-in-Err-Text.ensures.failed

pub returns-in-Err-Many-clause-reply : goal.returns-in-Err-Many-clause-reply
returns-in-Err-Many-clause-reply g c =
    let cause : (w : Word) × IsTextOf (slice_range c.args.line.now c.in-Some.start c.in-Some.end) w × (200 < order_of w) =
    subst (λ (f : WordFault). IsWordFaultOf f (slice_range c.args.line.now c.in-Some.start c.in-Some.end))
    c.in-Err-Many.field-0-is c.in-Err-Many.ensures.fault in
    refusal_replies (AnswersWordLine c.args.line.now) (MayWant (Memory Solve) c.args.line.now) Many (g.O.Sink.written c.args.out.now)
    (g.O.Sink.written c.refuse-in-Err-Many.new.out) c.refuse-in-Err-Many.result
    (large_word c.in-Some.start (slice_range c.args.line.now c.in-Some.start c.in-Some.end) cause.0
    (record { short = omega (arith, c.if-line-gt-LONGEST_LINE.false); stop = c.in-Some.end; item = c.in-Some.ensures.some; text_is = refl }) cause.1 cause.2)
    c.refuse-in-Err-Many.ensures.outcome c.refuse-in-Err-Many.ensures.failed

pub returns-then-line-gt-LONGEST_LINE-clause-reply : goal.returns-then-line-gt-LONGEST_LINE-clause-reply
returns-then-line-gt-LONGEST_LINE-clause-reply g c =
    refusal_replies (AnswersWordLine c.args.line.now) (MayWant (Memory Solve) c.args.line.now) Long (g.O.Sink.written c.args.out.now)
    (g.O.Sink.written c.refuse.new.out) c.refuse.result (word_too_long c.if-line-gt-LONGEST_LINE.true) c.refuse.ensures.outcome c.refuse.ensures.failed

pub returns-then-line-gt-LONGEST_LINE-clause-cause : goal.returns-then-line-gt-LONGEST_LINE-clause-cause
returns-then-line-gt-LONGEST_LINE-clause-cause g c = c.refuse.ensures.cause

pub returns-in-Ok-clause-cause : goal.returns-in-Ok-clause-cause
returns-in-Ok-clause-cause g c = c.answer_word.ensures.cause

pub returns-in-Err-Text-clause-cause : goal.returns-in-Err-Text-clause-cause
returns-in-Err-Text-clause-cause g c = c.refuse-in-Err-Text.ensures.cause

pub returns-in-Err-Many-clause-cause : goal.returns-in-Err-Many-clause-cause
returns-in-Err-Many-clause-cause g c = c.refuse-in-Err-Many.ensures.cause

pub returns-in_default-clause-cause : goal.returns-in_default-clause-cause
returns-in_default-clause-cause g c = record { later = omega arith; ok = refl; failed = tt }

pub slice_bounds-read_word-count : goal.slice_bounds-read_word-count
slice_bounds-read_word-count g c = c.in-Some.ensures.some.order

pub slice_bounds-read_word-start : goal.slice_bounds-read_word-start
slice_bounds-read_word-start g c = c.in-Some.ensures.some.order

pub slice_bounds-read_word-end : goal.slice_bounds-read_word-end
slice_bounds-read_word-end g c = c.in-Some.ensures.some.within

pub answer_word-requires : goal.answer_word-requires
answer_word-requires g c = c.in-Ok.ensures.read.some

pub returns-in-Err-NoMemory-clause-cause : goal.returns-in-Err-NoMemory-clause-cause
returns-in-Err-NoMemory-clause-cause g c = record { later = omega arith; ok = refl; failed = tt }

pub returns-in-Err-NoMemory-clause-reply : goal.returns-in-Err-NoMemory-clause-reply
returns-in-Err-NoMemory-clause-reply g c =
    let wanting = subst (λ (f : WordFault). IsWordFaultOf f (slice_range c.args.line.now c.in-Some.start c.in-Some.end)) c.in-Err-NoMemory.field-0-is
    c.in-Err-NoMemory.ensures.fault in
    let has : HasWord c.args.line.now wanting.0 = record {
      start = c.in-Some.start;
      text = slice_range c.args.line.now c.in-Some.start c.in-Some.end;
      item = record { short = omega (arith, c.if-line-gt-LONGEST_LINE.false); stop = c.in-Some.end; item = c.in-Some.ensures.some; text_is = refl };
      word = wanting.1;
      few = wanting.3;
    } in
    record { cause = (wanting.0, has, wanting.2); kept = keeps-itself (g.O.Sink.written c.args.out.now) }
