-- What the crate says.
pub mod Alike
pub mod GroupsEnd
pub mod Listed
pub mod OneListing
pub mod Pairs
-- How its code keeps it.
pub mod EmptyIsSkipped
pub mod Grouped
pub mod LaterLines
pub mod WrittenLines
