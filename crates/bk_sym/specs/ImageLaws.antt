-- What holds of images and of canonical tilings. Statements alone; they are proved apart.
use Rattle.std.specs.Prelude.{◌≡◌}
use Rattle.bk_tiling.specs.Scale.{AreAlike}
use Rattle.bk_tiling.specs.Tiling.{IsTiling, Tiling}
use Rattle.bk_sym.specs.Canonical.{IsCanonical, IsCanonicalOf}
use Rattle.bk_sym.specs.Image.{image}
use Rattle.bk_sym.specs.Turns.{after, undoing}
use Rattle.bk_sym.specs.declared.Turn.{Turn}

-- each image of a tiling is a tiling
abbrev pub ImagesAreTilings : Type 0
ImagesAreTilings = (t : Tiling) (turn : Turn) → IsTiling t → IsTiling (image turn t)

-- an image of an image is an image
abbrev pub ImagesOfImages : Type 0
ImagesOfImages = (t : Tiling) (a b : Turn) → IsTiling t → image a (image b t) ≡ image (after a b) t

-- a tiling is an image of each of its images
abbrev pub ImagesAreUndone : Type 0
ImagesAreUndone = (t : Tiling) (turn : Turn) → IsTiling t → image (undoing turn) (image turn t) ≡ t

-- each tiling has a canonical tiling. Example (ImageExamples): of 33x32 enlarged twofold
-- and with columns and levels exchanged it is 33x32
abbrev pub EveryTilingHasACanonical : Type 0
EveryTilingHasACanonical = (t : Tiling) → IsTiling t → (c : Tiling) × IsCanonicalOf t c

-- a tiling has at most one canonical tiling, and it is a tiling
abbrev pub ACanonicalTilingIsOne : Type 0
ACanonicalTilingIsOne =
    (t u v : Tiling) → IsTiling t → IsCanonicalOf t u → IsCanonicalOf t v → IsTiling u × (u ≡ v)

-- tilings that are images of each other, up to scale, have the same canonical tiling: so all images and all multiples
-- of a tiling have
abbrev pub AlikeTilingsHaveOneCanonical : Type 0
AlikeTilingsHaveOneCanonical =
    (t u c d : Tiling) (turn : Turn) → IsTiling t → IsTiling u → AreAlike (image turn t) u → IsCanonicalOf t c
    → IsCanonicalOf u d
    → c ≡ d

-- of two tilings with the same canonical tiling each is an image of the other, up to scale
abbrev pub OneCanonicalMeansAlike : Type 0
OneCanonicalMeansAlike =
    (t u c : Tiling) → IsTiling t → IsTiling u → IsCanonicalOf t c → IsCanonicalOf u c
    → (turn : Turn) × AreAlike (image turn t) u

-- a canonical tiling is its own
abbrev pub ACanonicalTilingIsItsOwn : Type 0
ACanonicalTilingIsItsOwn = (t c : Tiling) → IsTiling t → IsCanonicalOf t c → IsCanonical c
