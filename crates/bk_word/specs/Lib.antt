-- What the crate says.
pub mod KeptWord
pub mod Outline
pub mod OwnSigns
pub mod Play
pub mod ReadWord
pub mod Signs
pub mod StoredWord
pub mod Word
pub mod WordItem
pub mod WordText
pub mod WordTextLaws
-- How its code keeps it.
pub mod Taken
pub mod WordReading
