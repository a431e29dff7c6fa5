-- What the crate says: of words as numbers, and of tables of numbers.
pub mod KeptNumbers
pub mod Packed
pub mod PackedLaws
pub mod ReadMoves
-- How its code keeps it.
pub mod TilingDigits
