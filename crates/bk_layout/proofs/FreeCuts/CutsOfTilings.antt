-- The cuts on free words of simple tilings.
use Rattle.std.proofs.Common.{refl, [], arith, length, ℕ, ◌++◌, ◌+◌, ◌<◌, ◌∙◌, ◌∷◌, ◌≡◌, ◌≤◌}
use Rattle.std.proofs.lemmas.List.{append_assoc}
use Rattle.bk_tiling.proofs.TilingLaws.{side_of, within_of}
use Rattle.bk_tiling.specs.Tiling.{IsTiling, Tiling, square_of}
use Rattle.bk_word.specs.Word.{Move, Word}
use Rattle.bk_layout.proofs.Sweeps.LayoutNet.{a_layout_has_a_free_word}
use Rattle.bk_layout.specs.Layout.{Fits}
use Rattle.bk_layout.proofs.TilingLayouts.LineNumbers.{number_column, number_one, number_zero}
use Rattle.bk_layout.proofs.FreeCuts.SimpleFits.{a_simple_tiling_has_a_simple_layout}
use Rattle.bk_layout.proofs.TilingLayouts.TilingFits.{a_tiling_has_a_layout}
use Rattle.bk_layout.proofs.TilingLayouts.TilingSquares.{in_square}
use Rattle.bk_layout.specs.TilingLayout.{layout_of}
use Rattle.bk_layout.proofs.TilingLayouts.ApartLines.{lines_of_a_tiling_are_apart}
use Rattle.bk_layout.proofs.FreeCuts.CutsOfLayouts.{evens_fit, free_fits, lines_fit, one_segment_fits, pairs_fit}
use Rattle.bk_layout.specs.FreeCuts.{ASimpleTilingHasASoundLayout, AreOuterWalls, EvenSquaresAreFreeBarren, OneSegmentIsFreeBarren}
use Rattle.bk_layout.specs.FreeCuts.{OneUnderOneIsFreeBarren, StayingAboveIsFreeBarren, TooManyLinesIsFreeBarren}

fits : (t : Tiling) → IsTiling t → Fits (layout_of t)
fits t tiling = (a_tiling_has_a_layout t tiling).0

outer_walls : (t : Tiling) → IsTiling t → AreOuterWalls (layout_of t)
outer_walls t tiling = record { not_beyond = not_beyond; not_before = not_before; apart = apart }
  where
    not_beyond : (q : ℕ) → q < length t.squares → (layout_of t).left q ≡ 1 → ⊥
    not_beyond q h e = omega (
      arith,
      number_one t (square_of t q).x (square_of t q).y e,
      (within_of t tiling (square_of t q) (in_square t tiling q h)).right,
      side_of t tiling (square_of t q) (in_square t tiling q h),
    )

    not_before : (q : ℕ) → q < length t.squares → (layout_of t).right q ≡ 0 → ⊥
    not_before q h e = omega (
      arith,
      number_zero t ((square_of t q).x + (square_of t q).s) (square_of t q).y e,
      side_of t tiling (square_of t q) (in_square t tiling q h),
    )

    apart : (q : ℕ) → q < length t.squares → (layout_of t).left q ≡ (layout_of t).right q → ⊥
    apart q h e = omega (
      arith,
      number_column t (square_of t q).x (square_of t q).y ((square_of t q).x + (square_of t q).s)
          (square_of t q).y high high e,
      side_of t tiling (square_of t q) (in_square t tiling q h),
    )
      where
        high : (square_of t q).y ≤ t.height
        high = let b = (within_of t tiling (square_of t q) (in_square t tiling q h)).bottom in omega arith

-- the law: its layout fits, is simple, has outer walls and its lines apart
pub a_simple_tiling_has_a_sound_layout : ASimpleTilingHasASoundLayout
a_simple_tiling_has_a_sound_layout t tiling simple many = (
  record {
    squares = refl;
    fits = fits t tiling;
    simple = a_simple_tiling_has_a_simple_layout t tiling simple many;
    walls =
        outer_walls t tiling;
    lines = lines_of_a_tiling_are_apart t tiling;
  },
  a_layout_has_a_free_word (layout_of t) (fits t tiling),
)

-- ---- the cuts

snoc : (front : Word) (m : Move) (rest w : Word) → w ≡ (front ++ m ∷ []) ++ rest → w ≡ front ++ m ∷ rest
snoc front m rest w is = is ∙ append_assoc front (m ∷ []) rest

-- the laws on what no word begins with, each from the layout's
pub staying_above_is_free_barren : StayingAboveIsFreeBarren
staying_above_is_free_barren n front m not_free l w rest sound word is = not_free (free_fits l sound.fits w word front m rest (snoc front m rest w is))

-- moves that leave one segment, while squares are left, begin no word of a sound layout
pub one_segment_is_free_barren : OneSegmentIsFreeBarren
one_segment_is_free_barren n front some few one l w rest sound word is =
    one_segment_fits l sound.fits w word sound.simple sound.walls front rest is some (omega (arith, few, sound.squares)) one

-- moves of which one has the sign even between two of its own squares begin no word of a sound layout
pub even_squares_are_free_barren : EvenSquaresAreFreeBarren
even_squares_are_free_barren n front m even l w rest sound word is = evens_fit l sound.fits w word sound.simple front m rest (snoc front m rest w is) even

-- moves of which one hangs one square under a segment of one square begin no word of a sound layout
pub one_under_one_is_free_barren : OneUnderOneIsFreeBarren
one_under_one_is_free_barren n front m count valley l w rest sound word is =
    pairs_fit l sound.fits w word sound.simple front m rest (snoc front m rest w is) valley count

-- moves after which too few squares are left for the closings, the valleys of one square and the lines that run down from the top begin no word of a sound
-- layout
pub too_many_lines_is_free_barren : TooManyLinesIsFreeBarren
too_many_lines_is_free_barren n front least few l w rest sound word is =
    omega (arith, few, sound.squares, lines_fit l sound.fits w word sound.simple sound.walls front rest is (omega (arith, sound.squares, least)))
