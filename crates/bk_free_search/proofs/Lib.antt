pub mod Asks
pub mod Boards
pub mod NextWords
