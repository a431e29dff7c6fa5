-- What the crate says.
pub mod Divisor
pub mod Fraction
pub mod Proportion
-- How its code keeps it.
pub mod Magnitude
