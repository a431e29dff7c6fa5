-- What is kept along the first moves of a word: equations between its sides, and the levels of its bottoms.
-- Example (TraceExamples): along 2u, with squares of sides a and b, no equation is kept, and the bottoms are at the
-- levels a and b. With the mark that no square hung before, this is a trace of 2u, and with a mark that one did it
-- isn't. In a - b the coefficients are at most 1 in magnitude, and in 2a they aren't.
use Rattle.std.specs.List.{AllByRecursion}
use Rattle.std.specs.Prelude.{List, Some, [], length, nat_abs, slice_get, suc, take, ℕ, ◌≡◌, ◌≤◌}
use Rattle.bk_tiling.specs.declared.Square.{Square}
use Rattle.bk_tiling.specs.Tiling.{IsTiling, Tiling}
use Rattle.bk_simple.specs.Simple.{IsPerfect}
use Rattle.bk_word.specs.Word.{Word, order_of}
use Rattle.bk_word.specs.declared.Class.{Class}
use Rattle.bk_word.specs.declared.Class.TheVariants.{Perfect}
use Rattle.bk_forms.specs.Form.{Form}
use Rattle.bk_walk_cuts.specs.SidesOfTilings.{HoldAfter, LaidBy}
use Rattle.bk_walk_cuts.specs.declared.levels.TheConstants.{FOLLOWED}
use Rattle.bk_walk_cuts.specs.declared.tracing.Mark.{Mark}

-- each coefficient is at most so much in magnitude
abbrev pub IsSmall : ℕ → Form → Type 0
IsSmall most form = AllByRecursion (λ a. nat_abs a ≤ most) form

-- the level of each bottom has small coefficients: it is a sum of sides, at most one of each square so far
abbrev pub AreSmall : List Form → Type 0
AreSmall bottoms = (i : ℕ) (form : Form) → slice_get bottoms i ≡ Some form → IsSmall (suc i) form

-- at most 5 bottoms whose levels have small coefficients, as many as squares of the first moves that are followed
pub record AreFewSmall (bottoms : List Form) : Type 0 where
  pub few : length bottoms ≤ FOLLOWED
  pub small : AreSmall bottoms

-- the equations, the bottoms, and how many there were of both before each move that is followed
pub record Trace : Type 0 where
  pub kept : List Form
  pub bottoms : List Form
  pub marks : List Mark

-- a mark before the move at place j of a word: so many equations and bottoms held then, and no later mark has fewer
pub record IsMarked (w : Word) (trace : Trace) (j : ℕ) (mark : Mark) : Type 0 where
  pub squares_are : mark.squares ≡ order_of (take j w)
  pub some : j ≤ mark.squares
  pub equations_within : mark.equations ≤ length trace.kept
  pub squares_within : mark.squares ≤ length trace.bottoms
  pub later : (i : ℕ) (after : Mark) → j ≤ i → slice_get trace.marks i ≡ Some after
      → (mark.equations ≤ after.equations) × (mark.squares ≤ after.squares)
  pub hold : HoldAfter (take j w) (take mark.equations trace.kept) (take mark.squares trace.bottoms)

-- a trace of a word: its first moves, of at most 5 squares, are followed, and what is kept holds after them
pub record IsTraceOf (w : Word) (trace : Trace) : Type 0 where
  pub followed : length trace.marks ≤ length w
  pub count : length trace.bottoms ≡ order_of (take (length trace.marks) w)
  pub few : length trace.bottoms ≤ FOLLOWED
  pub some : length trace.marks ≤ length trace.bottoms
  pub small : AreSmall trace.bottoms
  pub hold : HoldAfter (take (length trace.marks) w) trace.kept trace.bottoms
  pub marked : (j : ℕ) (mark : Mark) → slice_get trace.marks j ≡ Some mark → IsMarked w trace j mark

-- no tiling has a word that begins with these moves, or in the class perfect no perfect one. Example
-- (SideFormExamples): in the class perfect 2e is ruled out, since its two squares are equal, and in the class imperfect
-- it isn't
abbrev pub IsRuledOut : Class → Word → Type 0
IsRuledOut class w = (t : Tiling) (laid : List Square) → IsTiling t → (class ≡ Perfect → IsPerfect t)
    → LaidBy t [] w laid → ⊥
