-- The outline of a word that is played, by its parts, and what it shows of what is laid.
pub mod BottomChain
pub mod MovedParts
pub mod NumberedSquares
pub mod NumberedValley
pub mod Numbering
pub mod OutlineParts
pub mod RunsAfterMove
pub mod Shape
pub mod ShownOutline
pub mod ValleyCut
