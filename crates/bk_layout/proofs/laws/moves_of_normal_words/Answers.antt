use Rattle.bk_layout.proofs.NormalCuts.NumbersShown.{a_word_shows_numbers}
use Rattle.bk_layout.proofs.FreeCuts.RunsOfLines.{wall_moves_hang_one}
use Rattle.bk_layout.proofs.NormalCuts.FewMoves.{a_move_hangs_at_walls, most_moves_are_most}
use Rattle.bk_layout.proofs.NormalCuts.LastMoves.{a_move_leaves_segments}
use Rattle.bk_layout.proofs.NormalCuts.NextMove.{most_moves_hold_then}
use Rattle.bk_layout.proofs.laws.moves_of_normal_words.Goals as goal

pub returns-clause-a_word_shows_numbers : goal.returns-clause-a_word_shows_numbers
returns-clause-a_word_shows_numbers c = a_word_shows_numbers

pub returns-clause-wall_moves_hang_one : goal.returns-clause-wall_moves_hang_one
returns-clause-wall_moves_hang_one c = wall_moves_hang_one

pub returns-clause-a_move_hangs_at_walls : goal.returns-clause-a_move_hangs_at_walls
returns-clause-a_move_hangs_at_walls c = a_move_hangs_at_walls

pub returns-clause-a_move_leaves_segments : goal.returns-clause-a_move_leaves_segments
returns-clause-a_move_leaves_segments c = a_move_leaves_segments

pub returns-clause-most_moves_are_most : goal.returns-clause-most_moves_are_most
returns-clause-most_moves_are_most c = most_moves_are_most

pub returns-clause-most_moves_hold_then : goal.returns-clause-most_moves_hold_then
returns-clause-most_moves_hold_then c = most_moves_hold_then
