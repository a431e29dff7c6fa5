-- The member of order 2 is a small tiling; a larger square isn't.
use Rattle.std.proofs.Common.{[], arith, lit<, lit≤, ◌+◌, ◌^◌, ◌∷◌}
use Rattle.bk_catalogue.proofs.Members.CatalogueExamples.{entry_is}
use Rattle.bk_catalogue.proofs.Members.TwoSquares.{row_of_two}
use Rattle.bk_read_back.specs.Small.{IsSmallTiling}

-- the row of two squares of side 1 is small
small_row : IsSmallTiling row_of_two
small_row = record {
  width = lit≤ tt;
  height = lit≤ tt;
  sides = (lit≤ tt, (lit≤ tt, tt));
  kept = record {
    tiling = (entry_is.member).tiling;
    few = lit≤ tt;
    sides = ((lit< tt, lit≤ tt), ((lit< tt, lit≤ tt), tt));
    width_fits = lit< tt;
    height_fits = lit< tt;
  };
}

-- a single square that is one longer than a small one
not_small : IsSmallTiling (record { width = 2 ^ 34 + 1; height = 2 ^ 34 + 1; squares = record { x = 0; y = 0; s = 2 ^ 34 + 1 } ∷ [] }) → ⊥
not_small small = omega (arith, small.width)
