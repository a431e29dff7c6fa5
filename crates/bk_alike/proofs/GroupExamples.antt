-- How lines are listed, and three items of two sizes: their groups, and the one pair among them.
use Rattle.std.specs.Fmt.{digits}
use Rattle.std.specs.Prelude.{None, codes, ◌≤◌}
use Rattle.std.proofs.Common.{List, [], false, length, lit<, lit≤, refl, true, ℕ, ◌++◌, ◌∷◌, ◌≡◌}
use Rattle.bk_sym.proofs.CanonicalTests.{canonical_by_test}
use Rattle.bk_tiling.proofs.ExampleTilings.{rectangle_3x2, square_2x2, square_at}
use Rattle.bk_tiling.proofs.TilingTest.{tiling_from_test}
use Rattle.bk_tiling.specs.Tiling.{Tiling}
use Rattle.bk_text.proofs.WhatWasRead.{read_is_line}
use Rattle.bk_text.specs.CodeLine.{Item}
use Rattle.bk_sym.specs.Canonical.{IsCanonicalOf}
use Rattle.bk_sym.specs.declared.Turn.TheVariants.{FlipX}
use Rattle.bk_report.specs.declared.refusal.Refused.TheVariants.{Gap}
use Rattle.bk_answer.proofs.CodeAnswerExamples.{gap_refused}
use Rattle.bk_answer.specs.Item.{HasTiling}
use Rattle.bk_pair.specs.declared.Kind.TheVariants.{Any, Perfect}
use Rattle.bk_alike.specs.declared.item.KeptItem.{KeptItem}
use Rattle.bk_alike.specs.GroupsEnd.{closing_lines}
use Rattle.bk_alike.specs.Listed.{Listed, ListsLine, keeps, listing_start, no_more, refuses, with_item, with_refused}
use Rattle.bk_alike.specs.Pairs.{all_pairs}
use Rattle.bk_alike.specs.declared.Wanted.TheVariants.{Groups, Pairs}

-- ---- lines

-- the rectangle 3x2 with its columns turned round
abbrev flipped : Tiling
flipped = record { width = 3; height = 2; squares = square_at 0 0 1 ∷ square_at 1 0 2 ∷ square_at 0 1 1 ∷ [] }

canonical_flipped : IsCanonicalOf flipped rectangle_3x2
canonical_flipped = canonical_by_test flipped rectangle_3x2 FlipX refl (lit≤ tt) refl

has_flipped : HasTiling (codes "[1,2][1]") flipped
has_flipped = record {
  item = Item None None ((1 ∷ 2 ∷ []) ∷ (1 ∷ []) ∷ []);
  is_item = record { short = lit≤ tt; meaning = read_is_line (codes "[1,2][1]") (Item None None ((1 ∷ 2 ∷ []) ∷ (1 ∷ []) ∷ [])) refl; few = lit≤ tt };
  stated = record { laid = record { tiling = tiling_from_test flipped refl; code_is = refl }; order_is = tt; size_is = tt };
}

-- it is kept by its canonical tiling, and nothing is written yet
kept_flipped : ListsLine listing_start.state 1 (codes "[1,2][1]") (record { pieces = []; refused = false }) (with_item listing_start.state 1 rectangle_3x2)
kept_flipped = keeps flipped rectangle_3x2 has_flipped (lit< tt) canonical_flipped

-- a refusal is written at once, and counted
refused_second : (s : Listed) → ListsLine s 2 (codes "[18,15][7,9]")
    (record { pieces = codes "line 2 no gap 2 15 16\n" ∷ []; refused = true }) (with_refused s)
unfolding digits
refused_second s = refuses (Gap 2 15 16) gap_refused

-- where 16,384 items are kept, no other is
kept_no_more : (s : Listed) → 16_384 ≤ length s.items
    → ListsLine s 16_385 (codes "[1,2][1]") (record { pieces = codes "line 16385 no more\n" ∷ []; refused = true }) (with_refused s)
unfolding digits
kept_no_more s full = no_more flipped has_flipped full

-- ---- groups and pairs

abbrev items : List KeptItem
items = record { line = 1; tiling = rectangle_3x2 } ∷ record { line = 2; tiling = square_2x2 } ∷ record { line = 4; tiling = rectangle_3x2 } ∷ []

-- line 3 was refused
abbrev listed : Listed
listed = record { items = items; refused = 1 }

abbrev fed : List ℕ → List ℕ
fed line = line ++ 10 ∷ []

groups-listed : closing_lines Groups listed
    ≡ fed (codes "3x2 2") ∷ fed (codes "1 [2,1][1]") ∷ fed (codes "4 [2,1][1]") ∷ fed (codes "2x2 1") ∷ fed (codes "2 [1,1][1,1]")
    ∷ fed (codes "; groups 2 items 3 refused 1") ∷ []
unfolding digits
groups-listed = refl

pairs-listed : closing_lines (Pairs Any) listed ≡ fed (codes "1 4 5x5 [2,1,2][1][3,2][1,1]") ∷ fed (codes "; pairs 1 items 3 refused 1") ∷ []
unfolding digits
pairs-listed = refl

-- no two of them make a perfect square
no-perfect : all_pairs Perfect items ≡ []
no-perfect = refl
