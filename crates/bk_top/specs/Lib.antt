-- What the crate says. Its code is kept by what proofs/ says alone.
pub mod DecidedStatus
pub mod Ended
pub mod Outside
pub mod ReadsToEnd
pub mod Running
pub mod WholeCatalogue
pub mod Words
