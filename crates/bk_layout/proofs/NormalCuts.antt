-- With which moves no word by rule R of a sound and normal layout begins: the strong bound, walls, the last moves.
pub mod AllUnder
pub mod ClosedSegments
pub mod FewMoves
pub mod LastMoves
pub mod LastMovesExamples
pub mod MarkedSquares
pub mod MovesLeft
pub mod NextMove
pub mod NextMoveExamples
pub mod NormalWords
pub mod NumbersShown
pub mod PassCounts
pub mod StrongMoves
pub mod StrongParts
pub mod StrongWords
pub mod WideBottom
pub mod WideSegments
