-- What the crate says.
pub mod Attaching
pub mod Counting
pub mod TrialCodes
pub mod TrialLaws
pub mod TrialLine
pub mod TrialLineLaws
-- How its code keeps it.
pub mod Growing
