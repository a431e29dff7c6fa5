-- What the crate says of reads and writes.
pub mod Causes
pub mod Stores
pub mod ToldCalls
-- What the crate says of lines.
pub mod Answered
pub mod CallLaws
pub mod Calls
pub mod Deciding
pub mod Ending
pub mod Entering
pub mod Faults
pub mod Lines
pub mod ReadSize
pub mod Reply
pub mod WrittenAnswer
