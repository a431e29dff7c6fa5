use Rattle.bk_layout.proofs.Sweeps.LayoutNet.{a_layout_has_a_free_word}
use Rattle.bk_layout.proofs.TilingLayouts.TilingFits.{a_tiling_has_a_layout}
use Rattle.bk_layout.proofs.FreeCuts.SimpleFits.{a_simple_tiling_has_a_simple_layout}
use Rattle.bk_layout.proofs.Reversals.ReversedFits.{a_reversed_layout_fits}
use Rattle.bk_layout.proofs.Reversals.RuleScan.{a_layout_has_a_word_by_rule_r}
use Rattle.bk_layout.proofs.laws.layouts.Goals as goal

pub returns-clause-a_layout_has_a_free_word : goal.returns-clause-a_layout_has_a_free_word
returns-clause-a_layout_has_a_free_word c = a_layout_has_a_free_word

pub returns-clause-a_tiling_has_a_layout : goal.returns-clause-a_tiling_has_a_layout
returns-clause-a_tiling_has_a_layout c = a_tiling_has_a_layout

pub returns-clause-a_simple_tiling_has_a_simple_layout : goal.returns-clause-a_simple_tiling_has_a_simple_layout
returns-clause-a_simple_tiling_has_a_simple_layout c = a_simple_tiling_has_a_simple_layout

pub returns-clause-a_reversed_layout_fits : goal.returns-clause-a_reversed_layout_fits
returns-clause-a_reversed_layout_fits c = a_reversed_layout_fits

pub returns-clause-a_layout_has_a_word_by_rule_r : goal.returns-clause-a_layout_has_a_word_by_rule_r
returns-clause-a_layout_has_a_word_by_rule_r c = a_layout_has_a_word_by_rule_r
