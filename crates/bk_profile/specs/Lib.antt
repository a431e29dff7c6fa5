-- What the crate says.
pub mod Gap
pub mod Laid
pub mod LayingLaws
pub mod Refused
-- How its code keeps it.
pub mod OutlineRuns
pub mod StoredProfile
