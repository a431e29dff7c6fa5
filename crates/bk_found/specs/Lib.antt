-- What the crate says: of the tiling that a word meets.
pub mod Candidate
pub mod Found
pub mod Ties
-- How its code keeps it.
pub mod CandidateLines
pub mod KnownLines
pub mod Placing
pub mod ToldCorners
