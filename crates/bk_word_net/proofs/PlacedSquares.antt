-- Which flows place a tiling of a word, and that it has at most one primitive tiling.
pub mod AlikeBottoms
pub mod Built
pub mod FilledColumns
pub mod FilledValley
pub mod FlowTilings
pub mod FlowWord
pub mod GrownAlike
pub mod LaidOnce
pub mod MoveBottoms
pub mod NextSides
pub mod OneTiling
pub mod PlacedMoves
pub mod PlacedSides
pub mod PlacedValley
pub mod PlacedWord
pub mod PrimitiveTiling
pub mod WordTilings
