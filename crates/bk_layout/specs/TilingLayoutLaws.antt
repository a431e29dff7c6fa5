-- A tiling has a layout that fits, whose net is its Smith diagram. Statements alone; they are proved apart.
use Rattle.std.specs.Prelude.{◌≡◌}
use Rattle.bk_tiling.specs.Tiling.{IsTiling, Tiling}
use Rattle.bk_net.specs.Diagram.{smith_diagram}
use Rattle.bk_layout.specs.Layout.{Fits, net_of_layout}
use Rattle.bk_layout.specs.TilingLayout.{layout_of}

abbrev pub ATilingHasALayout : Type 0
ATilingHasALayout = (t : Tiling) → IsTiling t → Fits (layout_of t) × (net_of_layout (layout_of t) ≡ smith_diagram t)
