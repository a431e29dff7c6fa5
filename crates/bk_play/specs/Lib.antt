-- What the crate says.
pub mod MoveRecords
pub mod Skeleton
pub mod SmallSkeleton
pub mod StoredLists
pub mod Valley
-- How its code keeps it.
pub mod Wiring
