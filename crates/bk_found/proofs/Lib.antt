-- the squares that a word places
pub mod OtherOrder
pub mod PrimitiveFlow
pub mod PlacedEdges
pub mod Candidates
pub mod CandidateExamples
pub mod WordWires
pub mod LevelSteps
pub mod SmallFlows
pub mod RepeatedMagnitudes
pub mod FoundSides
pub mod Leaves
pub mod LeafRun
pub mod FoundExamples
pub mod ToldSteps
pub mod CornerSquares
pub mod TiesExamples
pub mod PlacingExamples
