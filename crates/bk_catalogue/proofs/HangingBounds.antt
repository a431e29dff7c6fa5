-- How many squares a complete word hangs at least, by what is open after its first moves.
pub mod BoundExamples
pub mod BoundsOfWords
pub mod ClosingLaws
pub mod CountingLaws
pub mod JoinedLines
pub mod LineCounting
pub mod LineLaws
pub mod LineMoves
pub mod LinedMoves
pub mod MostClosings
pub mod SingleLaws
pub mod TallyLaws
pub mod WordBoundLaws
