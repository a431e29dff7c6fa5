-- What is found of a word in room that is there: the tiling that stands in it then, or none.
-- Example (RealisedExamples): of a word that nothing is found of the room tells no tiling, whatever stands in it.
use Rattle.std.specs.Prelude.{None, Option, Some}
use Rattle.bk_tiling.specs.Tiling.{Tiling}
use Rattle.bk_skel.specs.declared.placing.Realised.{Realised}
use Rattle.bk_skel.specs.declared.placing.Realised.TheVariants.{Found, Nothing}

abbrev pub tiling_found : Realised → Tiling → Option Tiling
tiling_found Found t = Some t
tiling_found Nothing t = None
