pub mod HangingBounds
pub mod Members
pub mod MoveCuts
pub mod TreeOfWords
