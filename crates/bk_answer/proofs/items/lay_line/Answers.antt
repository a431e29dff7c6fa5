use Rattle.std.proofs.Common.{arith}
use Rattle.bk_text.specs.GatheredSides.{line_gathered}
use Rattle.bk_answer.specs.Item.{HasItem}
use Rattle.bk_answer.specs.Refusing.{too_long}
use Rattle.bk_answer.proofs.ItemSteps.{laid_of_item, not_read, refused_of_item}
use Rattle.bk_answer.proofs.items.lay_line.Goals as goal

pub returns-then-line-gt-LONGEST_LINE-clause-refused : goal.returns-then-line-gt-LONGEST_LINE-clause-refused
returns-then-line-gt-LONGEST_LINE-clause-refused c = too_long c.if-line-gt-LONGEST_LINE.true

has_item : (c : goal.After-lay_item) → HasItem c.args.line.now (line_gathered c.in-Ok.ending c.read_into.new.gatherer)
has_item c = record {
  short = omega arith;
  meaning = c.in-Ok.ensures.read;
  few = c.lay_item.ensures.few;
}

pub returns-in-Ok-clause-laid : goal.returns-in-Ok-clause-laid
returns-in-Ok-clause-laid c =
    laid_of_item c.args.line.now (line_gathered c.in-Ok.ending c.read_into.new.gatherer) (has_item c) c.lay_item.result
    c.lay_item.ensures.laid

pub returns-in-Ok-clause-refused : goal.returns-in-Ok-clause-refused
returns-in-Ok-clause-refused c =
    refused_of_item c.args.line.now (line_gathered c.in-Ok.ending c.read_into.new.gatherer) (has_item c) c.lay_item.result c.lay_item.ensures.refused

pub returns-in-Err-clause-refused : goal.returns-in-Err-clause-refused
returns-in-Err-clause-refused c = not_read c.args.line.now c.in-Err.fault c.refused_text.result (omega arith) c.in-Err.ensures.fault c.refused_text.ensures
