-- What a table of members has.
pub mod FoundMembers
pub mod TurnedSquares
pub mod WholeTables
pub mod MemberTablesExamples
pub mod FindingExamples
-- Where a table of members stands.
pub mod PlaceLaws
pub mod TablesTell
pub mod LeapLaws
pub mod GoingTo
pub mod LeapStates
pub mod LeapingExamples
-- What a walk answers.
pub mod PlayedMoves
pub mod Answering
