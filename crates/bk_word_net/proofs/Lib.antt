pub mod Outlines
pub mod PlacedSquares
pub mod TilingWords
pub mod WordFlows
