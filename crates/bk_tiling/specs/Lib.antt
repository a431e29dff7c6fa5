-- What the crate says.
pub mod Area
pub mod CodeOrder
pub mod Column
pub mod KeptTiling
pub mod Point
pub mod Refusal
pub mod RefusalLaws
pub mod Row
pub mod Scale
pub mod SquareGroups
pub mod Tiling
-- How its code keeps it.
pub mod Sharing
