-- Words of the tree between two places, and what a walk has passed.
pub mod Advancing
pub mod Passing
-- Where a walk begins, a step of it, and all steps one after another.
pub mod Starting
pub mod WalkSteps
pub mod Standing
pub mod PlaceLaws
pub mod WalkLoop
pub mod StateLaws
pub mod LoopSteps
-- What a complete word tells, and what a walk takes up.
pub mod MemberEntries
pub mod UnfitFlows
pub mod TakingUp
-- A word's flow by hand, and a walk of order 2.
pub mod TreeWalkExamples
pub mod TreePlaceExamples
