use Rattle.std.proofs.lemmas.List.{length-append}
use Rattle.std.proofs.Common.{ap, arith, length, ℕ}
use Rattle.bk_report.proofs.word.write_word_line.Goals as goal

pub clear-requires : goal.clear-requires
clear-requires c = omega arith

pub write_word-requires-clause-some : goal.write_word-requires-clause-some
write_word-requires-clause-some c = c.requires

pub write_word-requires-clause-room : goal.write_word-requires-clause-room
write_word-requires-clause-room c = omega (arith, ap length c.clear.ensures)

pub push-requires : goal.push-requires
push-requires c = omega (arith, length-append {A = ℕ}, ap length c.clear.ensures, ap length c.write_word.ensures.text)
