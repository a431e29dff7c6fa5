use Rattle.bk_layout.proofs.NormalCuts.NormalWords.{a_normal_tiling_has_a_normal_word}
use Rattle.bk_layout.proofs.NormalImages.ImagesToMeet.{a_normal_word_has_settled_corners, a_normal_word_has_settled_counts, a_normal_word_is_sought}
use Rattle.bk_layout.proofs.NormalImages.ImagesToMeet.{each_image_is_a_members, each_member_is_met, each_simple_tiling_has_a_normal_word}
use Rattle.bk_layout.proofs.laws.words_to_meet.Goals as goal

pub returns-clause-a_normal_tiling_has_a_normal_word : goal.returns-clause-a_normal_tiling_has_a_normal_word
returns-clause-a_normal_tiling_has_a_normal_word c = a_normal_tiling_has_a_normal_word

pub returns-clause-each_simple_tiling_has_a_normal_word : goal.returns-clause-each_simple_tiling_has_a_normal_word
returns-clause-each_simple_tiling_has_a_normal_word c = each_simple_tiling_has_a_normal_word

pub returns-clause-a_normal_word_is_sought : goal.returns-clause-a_normal_word_is_sought
returns-clause-a_normal_word_is_sought c = a_normal_word_is_sought

pub returns-clause-a_normal_word_has_settled_counts : goal.returns-clause-a_normal_word_has_settled_counts
returns-clause-a_normal_word_has_settled_counts c = a_normal_word_has_settled_counts

pub returns-clause-a_normal_word_has_settled_corners : goal.returns-clause-a_normal_word_has_settled_corners
returns-clause-a_normal_word_has_settled_corners c = a_normal_word_has_settled_corners

pub returns-clause-each_image_is_a_members : goal.returns-clause-each_image_is_a_members
returns-clause-each_image_is_a_members c = each_image_is_a_members

pub returns-clause-each_member_is_met : goal.returns-clause-each_member_is_met
returns-clause-each_member_is_met c = each_member_is_met
