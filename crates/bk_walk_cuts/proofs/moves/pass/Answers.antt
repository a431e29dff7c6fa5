-- Only the first signs are left, and the move after those with these is the next.
use Rattle.std.proofs.Common.{ap, arith, length, lit<, ◌∙◌}
use Rattle.bk_word.specs.Word.{Move}
use Rattle.bk_catalogue.specs.NextMove.{move_after}
use Rattle.bk_walk_cuts.specs.MoveCuts.{passed}
use Rattle.bk_walk_cuts.proofs.moves.pass.Goals as goal

pub truncate-requires : goal.truncate-requires
truncate-requires c = lit< tt

pub next_move-requires-clause-count : goal.next_move-requires-clause-count
next_move-requires-clause-count c = omega (arith, c.requires.count, ap (λ (m : Move). m.count) c.m.view_is)

pub next_move-requires-clause-signs : goal.next_move-requires-clause-signs
next_move-requires-clause-signs c = omega (arith, c.truncate.ensures.len, c.requires.signs, ap (λ (m : Move). length m.signs) c.m.view_is)

pub returns : goal.returns
returns c =
    c.next_move.ensures ∙ ap (λ l. move_after (record { count = c.m.inside.count; signs = l })) c.truncate.ensures.items
    ∙ ap (passed c.args.kept) c.m.view_is
