-- What a board keeps, as a move is played and taken back.
pub mod BoardExamples
pub mod BoardMoves
pub mod ClosingTouches
pub mod CountExamples
pub mod KeptTouches
pub mod LeftLines
pub mod LinesBeside
pub mod LowLines
pub mod OpenSegments
pub mod OpenSquares
pub mod RightLines
pub mod SegmentsBehind
pub mod TopLineExamples
pub mod TopLineMarks
pub mod TouchedLines
pub mod ValleyPlaces
pub mod WordCounts
