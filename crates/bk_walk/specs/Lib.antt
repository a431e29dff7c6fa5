-- What the crate says.
pub mod Finding
pub mod MemberTables
pub mod WideAfter
-- How its code keeps it.
pub mod KeptWalk
pub mod Leaping
