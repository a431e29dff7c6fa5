-- What the crate says.
pub mod Rights
pub mod SeenCounts
pub mod Sought
-- How its code keeps it.
pub mod AllUnder
pub mod Apart
pub mod AskedSigns
pub mod BoardOutlines
pub mod Boards
pub mod Joining
pub mod LastSquare
pub mod Lefts
pub mod NodeLines
pub mod Strong
pub mod TopLines
pub mod Unchanged
