-- What the crate says.
pub mod Drawing
pub mod DrawingLaws
-- How its code keeps it.
pub mod Mark
