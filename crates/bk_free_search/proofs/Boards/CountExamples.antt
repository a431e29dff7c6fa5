-- The counts of 2u.1e, the word of the rectangle 3x2.
use Rattle.std.proofs.Common.{refl, ◌≡◌}
use Rattle.bk_word_net.proofs.WordFlows.WordNetExamples.{word_3x2}
use Rattle.bk_layout.specs.WordNumbers.{counts_of_word}
use Rattle.bk_free_search.specs.SeenCounts.{seen_counts}

counted : seen_counts (record { squares = 3; moves = 2; top = 2; bottom = 2; left = 1; right = 2 }) ≡ counts_of_word word_3x2
counted = refl
