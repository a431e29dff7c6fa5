-- The word of a tiling, held against the groups and nodes of the tiling.
pub mod AlongWord
pub mod CellGroups
pub mod ExactNodes
pub mod GroupRuns
pub mod MovesOfTiling
pub mod TilingOfMoves
pub mod WordEnds
pub mod WordNodes
pub mod WordSquares
