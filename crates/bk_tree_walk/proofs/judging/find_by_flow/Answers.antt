use Rattle.bk_word.specs.Word.{order_of}
use Rattle.bk_tree_walk.proofs.MemberEntries.{member_from, none_other}
use Rattle.std.proofs.Common.{sym, true≢false}
use Rattle.bk_tree_walk.proofs.judging.find_by_flow.Goals as goal

pub returns-in-Found-clause-yes : goal.returns-in-Found-clause-yes
returns-in-Found-clause-yes c true_is = record {
  member = member_from c.args.class c.realise_by_in.new.tiling c.args.skel.now c.in-Found.ensures.tiling c.in-Found.ensures.word
      (c.qualifies.ensures.yes true_is);
  word = c.in-Found.ensures.word;
}

pub returns-in-Found-clause-no : goal.returns-in-Found-clause-no
returns-in-Found-clause-no c false_is = none_other (order_of c.args.skel.now) c.args.class c.realise_by_in.new.tiling c.args.skel.now
    c.in-Found.ensures.tiling c.in-Found.ensures.primitive c.in-Found.ensures.word (c.qualifies.ensures.no false_is)

pub realise_by_in-requires-clause-closed : goal.realise_by_in-requires-clause-closed
realise_by_in-requires-clause-closed c = c.requires.whole

pub realise_by_in-requires-clause-flow : goal.realise_by_in-requires-clause-flow
realise_by_in-requires-clause-flow c = c.requires.flow

pub returns-in-Nothing-clause-yes : goal.returns-in-Nothing-clause-yes
returns-in-Nothing-clause-yes c = λ e. absurd (true≢false (sym e))
