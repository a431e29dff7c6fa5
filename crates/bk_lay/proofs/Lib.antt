-- leftmost valleys, and that each tiling has one word
pub mod Valleys
pub mod UnderValley
pub mod Filling
pub mod Words
pub mod WordTest
pub mod WordExamples
pub mod SquaresOnce
-- the outline of what is laid, step by step, and that the word is legal and complete
pub mod Joining
pub mod Places
pub mod ValleySquares
pub mod Depicting
pub mod LaidRuns
pub mod LegalMoves
pub mod Steps
pub mod ValleySegment
pub mod WordPlay
pub mod DepictionExamples
-- the level runs that the code keeps at both sides of a valley, move by move
pub mod CodePlaces
pub mod MeetingRuns
pub mod SignLists
pub mod SquaresAt
pub mod NextLaidMove
pub mod LaidMoveLaws
pub mod LevelRunExamples
