-- What the crate says.
pub mod Border
pub mod FirstLaws
pub mod Neighbours
pub mod Simple
-- How its code keeps it.
pub mod CornerSquares
pub mod LargeParts
pub mod Reach
