-- What the crate says.
pub mod Answer
pub mod AnswerLaws
pub mod Checked
pub mod CodeAnswer
pub mod Item
pub mod NetAnswer
pub mod Plain
pub mod Refusing
pub mod Telling
pub mod WordAnswer
-- How its code keeps it.
pub mod EmptyLine
pub mod Replies
