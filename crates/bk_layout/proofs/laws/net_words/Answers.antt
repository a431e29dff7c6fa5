use Rattle.bk_layout.proofs.FreeCuts.CutsOfTilings.{a_simple_tiling_has_a_sound_layout, even_squares_are_free_barren, one_segment_is_free_barren}
use Rattle.bk_layout.proofs.FreeCuts.CutsOfTilings.{one_under_one_is_free_barren, staying_above_is_free_barren, too_many_lines_is_free_barren}
use Rattle.bk_layout.proofs.Sweeps.OpenRuns.{open_segments_end_together}
use Rattle.bk_layout.proofs.TilingLayouts.ApartLines.{lines_of_a_tiling_are_apart}
use Rattle.bk_layout.proofs.FreeCuts.SharedPairs.{lines_share_the_node_above}
use Rattle.bk_layout.proofs.FreeCuts.NumberedLines.{line_numbers_are_lines}
use Rattle.bk_layout.proofs.FreeCuts.CutByNodes.{shared_node_is_free_barren}
use Rattle.bk_layout.proofs.SignedWords.SignedTilingWords.{a_word_up_to_reversals_is_signed}
use Rattle.bk_layout.proofs.SignedWords.SignedFlows.{signed_sides_are_the_one_flow}
use Rattle.bk_layout.proofs.Reversals.SoundReversal.{a_reversed_layout_is_sound}
use Rattle.bk_layout.proofs.Reversals.SoundWords.{a_simple_tiling_is_sound_around, a_sound_layout_has_a_sound_word_by_rule_r}
use Rattle.bk_layout.proofs.FreeCuts.NetWords.{a_free_barren_word_is_net_barren, a_simple_tiling_has_a_net_word}
use Rattle.bk_layout.proofs.FreeCuts.NetWords.{even_then_above_is_net_barren}
use Rattle.bk_layout.proofs.laws.net_words.Goals as goal

pub returns-clause-a_simple_tiling_has_a_sound_layout : goal.returns-clause-a_simple_tiling_has_a_sound_layout
returns-clause-a_simple_tiling_has_a_sound_layout c = a_simple_tiling_has_a_sound_layout

pub returns-clause-staying_above_is_free_barren : goal.returns-clause-staying_above_is_free_barren
returns-clause-staying_above_is_free_barren c = staying_above_is_free_barren

pub returns-clause-one_segment_is_free_barren : goal.returns-clause-one_segment_is_free_barren
returns-clause-one_segment_is_free_barren c = one_segment_is_free_barren

pub returns-clause-even_squares_are_free_barren : goal.returns-clause-even_squares_are_free_barren
returns-clause-even_squares_are_free_barren c = even_squares_are_free_barren

pub returns-clause-one_under_one_is_free_barren : goal.returns-clause-one_under_one_is_free_barren
returns-clause-one_under_one_is_free_barren c = one_under_one_is_free_barren

pub returns-clause-too_many_lines_is_free_barren : goal.returns-clause-too_many_lines_is_free_barren
returns-clause-too_many_lines_is_free_barren c = too_many_lines_is_free_barren

pub returns-clause-open_segments_end_together : goal.returns-clause-open_segments_end_together
returns-clause-open_segments_end_together c = open_segments_end_together

pub returns-clause-lines_of_a_tiling_are_apart : goal.returns-clause-lines_of_a_tiling_are_apart
returns-clause-lines_of_a_tiling_are_apart c = lines_of_a_tiling_are_apart

pub returns-clause-lines_share_the_node_above : goal.returns-clause-lines_share_the_node_above
returns-clause-lines_share_the_node_above c = lines_share_the_node_above

pub returns-clause-line_numbers_are_lines : goal.returns-clause-line_numbers_are_lines
returns-clause-line_numbers_are_lines c = line_numbers_are_lines

pub returns-clause-shared_node_is_free_barren : goal.returns-clause-shared_node_is_free_barren
returns-clause-shared_node_is_free_barren c = shared_node_is_free_barren

pub returns-clause-a_word_up_to_reversals_is_signed : goal.returns-clause-a_word_up_to_reversals_is_signed
returns-clause-a_word_up_to_reversals_is_signed c = a_word_up_to_reversals_is_signed

pub returns-clause-signed_sides_are_the_one_flow : goal.returns-clause-signed_sides_are_the_one_flow
returns-clause-signed_sides_are_the_one_flow c = signed_sides_are_the_one_flow

pub returns-clause-a_reversed_layout_is_sound : goal.returns-clause-a_reversed_layout_is_sound
returns-clause-a_reversed_layout_is_sound c = a_reversed_layout_is_sound

pub returns-clause-a_sound_layout_has_a_sound_word_by_rule_r : goal.returns-clause-a_sound_layout_has_a_sound_word_by_rule_r
returns-clause-a_sound_layout_has_a_sound_word_by_rule_r c = a_sound_layout_has_a_sound_word_by_rule_r

pub returns-clause-a_simple_tiling_is_sound_around : goal.returns-clause-a_simple_tiling_is_sound_around
returns-clause-a_simple_tiling_is_sound_around c = a_simple_tiling_is_sound_around

pub returns-clause-a_free_barren_word_is_net_barren : goal.returns-clause-a_free_barren_word_is_net_barren
returns-clause-a_free_barren_word_is_net_barren c = a_free_barren_word_is_net_barren

pub returns-clause-even_then_above_is_net_barren : goal.returns-clause-even_then_above_is_net_barren
returns-clause-even_then_above_is_net_barren c = even_then_above_is_net_barren

pub returns-clause-a_simple_tiling_has_a_net_word : goal.returns-clause-a_simple_tiling_has_a_net_word
returns-clause-a_simple_tiling_has_a_net_word c = a_simple_tiling_has_a_net_word
