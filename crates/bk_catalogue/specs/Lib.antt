-- What the crate says.
pub mod Ascending
pub mod BoundCuts
pub mod CanonicalCorners
pub mod Catalogue
pub mod ClosingBound
pub mod Cuts
pub mod Following
pub mod NextMove
pub mod Once
pub mod Repeated
pub mod SingleValleys
pub mod Tree
pub mod TreeLaws
pub mod VerticalCut
pub mod WordBounds
-- How its code keeps it.
pub mod Tally
