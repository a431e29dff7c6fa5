-- The squared square of order 21 tiles its square, and is simple.
use Rattle.std.specs.Prelude.{refl}
use Rattle.bk_tiling.proofs.ExampleTilings.{square_112x112}
use Rattle.bk_tiling.proofs.TilingTest.{tiling_from_test}
use Rattle.bk_tiling.specs.Tiling.{IsTiling}
use Rattle.bk_simple.proofs.SimpleTest.{simple_from_test}
use Rattle.bk_simple.specs.Simple.{IsSimple}

-- the squares of the 112x112 square tile it
tiling-112x112 : IsTiling square_112x112
tiling-112x112 = tiling_from_test square_112x112 refl

-- no two or more of them, and not all, fill a rectangle
simple-112x112 : IsSimple square_112x112
simple-112x112 = simple_from_test square_112x112 tiling-112x112 refl
