-- What the crate says.
pub mod CodeLine
pub mod CodeText
pub mod GatheredSides
pub mod ReadLine
pub mod TextLaws
-- How its code keeps it.
pub mod LineReader
pub mod Onward
