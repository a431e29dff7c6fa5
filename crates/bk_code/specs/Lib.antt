-- What the crate says.
pub mod Code
pub mod CodeLaws
pub mod KeptCode
-- How its code keeps it.
pub mod StoredCode
