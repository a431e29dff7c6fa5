use Rattle.std.proofs.Common.{refl, ◌<◌, ◌∙◌}
use Rattle.bk_tiling.specs.Tiling.{order}
use Rattle.bk_lay.proofs.WordPlay.{tiling_word_is_complete}
use Rattle.bk_report.specs.Listings.{word_line}
use Rattle.bk_answer.specs.Telling.{TellsPieces}
use Rattle.bk_answer.specs.declared.command.Command.TheVariants.{Memory}
use Rattle.bk_answer.specs.declared.command.MemoryCommand.TheVariants.{Word}
use Rattle.bk_answer.proofs.Writing.{cause_told, piece_told, wanting_past_16}
use Rattle.bk_answer.proofs.by_word.tell_word.Goals as goal

pub write_word_line-requires : goal.write_word_line-requires
write_word_line-requires g c = (tiling_word_is_complete c.args.tiling.now c.in-Ok.word c.requires c.in-Ok.ensures.word).0.some

pub returns-in-Ok-clause-reply : goal.returns-in-Ok-clause-reply
returns-in-Ok-clause-reply g c =
    piece_told (Memory Word) c.args.tiling.now (16 < order c.args.tiling.now) (g.O.Sink.written c.args.out.now) (g.O.Sink.written c.write_all.new.self)
    (word_line c.in-Ok.word) c.as_slice.result.now c.write_all.result c.accepted.result
    (c.in-Ok.word, c.in-Ok.ensures.word, refl)
    (c.as_slice.ensures.value ∙ c.write_word_line.ensures) c.write_all.ensures.ok c.write_all.ensures.err c.accepted.ensures

pub returns-in-Ok-clause-cause : goal.returns-in-Ok-clause-cause
returns-in-Ok-clause-cause g c = cause_told (g.O.Sink.faults c.args.out.now) (g.O.Sink.faults c.write_all.new.self) c.write_all.result
    c.accepted.result c.write_all.ensures.cause c.accepted.ensures

pub returns-in-Err-clause-reply : goal.returns-in-Err-clause-reply
returns-in-Err-clause-reply g c =
    wanting_past_16 (TellsPieces (Memory Word) c.args.tiling.now) c.args.tiling.now c.word_of.result _
    (g.O.Sink.written c.args.out.now) c.in-Err.is c.word_of.ensures.inline
