use Rattle.std.proofs.Common.{arith}
use Rattle.bk_word.proofs.PlayLists.{place_within}
use Rattle.bk_word.specs.Play.{outline_of}
use Rattle.bk_free_search.proofs.Asks.AskedNext.{asked_even}
use Rattle.bk_free_search.proofs.asking.left_even.Goals as goal

pub is_wide_then-requires-clause-place : goal.is_wide_then-requires-clause-place
is_wide_then-requires-clause-place c = omega (arith, c.requires.place, place_within (outline_of c.args.board.now).signs)

pub returns : goal.returns
returns c = asked_even c.args.board.now c.args.place c.requires.place c.args.passed c.past_one.result c.requires.few c.requires.counted
    c.past_one.ensures.few c.is_wide_then.result c.past_one.ensures.passed c.is_wide_then.ensures
