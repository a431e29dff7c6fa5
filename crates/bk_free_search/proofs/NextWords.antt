-- Which words the search goes on to, and that it loses none that is sought.
pub mod AheadMoves
pub mod AllUnderExamples
pub mod Cutting
pub mod HandedOn
pub mod LastSquare
pub mod LastSquareExamples
pub mod NextMoves
pub mod SignPhases
pub mod SoughtExamples
pub mod UnderSigns
pub mod WordsMet
