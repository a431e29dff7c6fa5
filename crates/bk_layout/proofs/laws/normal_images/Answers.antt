use Rattle.bk_layout.proofs.NormalImages.EachNormalImage.{each_tiling_has_a_normal_image}
use Rattle.bk_layout.proofs.NormalImages.ImagesToMeet.{images_are_simple}
use Rattle.bk_layout.proofs.NormalImages.LayoutCounts.{the_layout_has_the_counts}
use Rattle.bk_layout.proofs.Reversals.NumbersKept.{a_normal_tiling_has_a_normal_layout, reversals_keep_counts}
use Rattle.bk_layout.proofs.laws.normal_images.Goals as goal

pub returns-clause-each_tiling_has_a_normal_image : goal.returns-clause-each_tiling_has_a_normal_image
returns-clause-each_tiling_has_a_normal_image c = each_tiling_has_a_normal_image

pub returns-clause-images_are_simple : goal.returns-clause-images_are_simple
returns-clause-images_are_simple c = images_are_simple

pub returns-clause-the_layout_has_the_counts : goal.returns-clause-the_layout_has_the_counts
returns-clause-the_layout_has_the_counts c = the_layout_has_the_counts

pub returns-clause-reversals_keep_counts : goal.returns-clause-reversals_keep_counts
returns-clause-reversals_keep_counts c = reversals_keep_counts

pub returns-clause-a_normal_tiling_has_a_normal_layout : goal.returns-clause-a_normal_tiling_has_a_normal_layout
returns-clause-a_normal_tiling_has_a_normal_layout c = a_normal_tiling_has_a_normal_layout
