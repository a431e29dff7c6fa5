pub mod DrawingExamples
pub mod Rows
pub mod RightSide
