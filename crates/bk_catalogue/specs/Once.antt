-- Each simple tiling of the order and the class stands in the catalogue once. A statement alone; it is proved apart.
-- Example (CatalogueExamples): of order 2 and the class imperfect there is one entry, that of the row of two squares.
use Rattle.std.specs.Prelude.{Contains, List, length, ℕ, ◌++◌, ◌∷◌, ◌≡◌}
use Rattle.bk_tiling.specs.Scale.{AreAlike}
use Rattle.bk_tiling.specs.Tiling.{IsTiling, Tiling}
use Rattle.bk_simple.specs.Simple.{IsSimple}
use Rattle.bk_sym.specs.Canonical.{IsCanonicalOf}
use Rattle.bk_sym.specs.Image.{image}
use Rattle.bk_sym.specs.declared.Turn.{Turn}
use Rattle.bk_word.specs.declared.Class.{Class}
use Rattle.bk_catalogue.specs.Catalogue.{Entry, IsCatalogue, IsEntry, IsOfClass}

-- u is, up to scale, one of the eight images of t
pub record IsImageToScale (t u : Tiling) : Type 0 where
  pub turn : Turn
  pub alike : AreAlike (image turn t) u

-- no entry of the list is that of an image of t
abbrev pub HasNoImageOf : Tiling → List Entry → Type 0
HasNoImageOf t entries = (f : Entry) → Contains entries f → IsImageToScale t f.tiling → ⊥

-- the list has exactly one entry of an image of t: that of the canonical tiling of t, with its word. Each entry of an
-- image is this one, and it stands at one place alone, for neither the entries before it nor those after it have one
pub record IsListedOnce (n : ℕ) (class : Class) (t : Tiling) (entries : List Entry) : Type 0 where
  pub entry : Entry
  pub is : IsEntry n class entry
  pub canonical : IsCanonicalOf t entry.tiling
  pub image : IsImageToScale t entry.tiling
  pub listed : Contains entries entry
  pub only : (f : Entry) → Contains entries f → IsImageToScale t f.tiling → f ≡ entry
  pub before : List Entry
  pub after : List Entry
  pub place : entries ≡ before ++ entry ∷ after
  pub none_before : HasNoImageOf t before
  pub none_after : HasNoImageOf t after

-- a simple tiling of n squares and of the class, whether or not it is canonical, is listed once in the catalogue
abbrev pub EachSimpleTilingIsListedOnce : Type 0
EachSimpleTilingIsListedOnce = (n : ℕ) (class : Class) (t : Tiling) (entries : List Entry) → IsTiling t
    → length t.squares ≡ n → IsSimple t → IsOfClass class t → IsCatalogue n class entries
    → IsListedOnce n class t entries
