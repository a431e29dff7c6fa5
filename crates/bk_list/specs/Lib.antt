-- What the crate says. Its code is kept by what proofs/ says alone.
pub mod Listing
pub mod ListingLaws
pub mod Resuming
pub mod Stepping
pub mod StoppedListing
pub mod ListedMembers
pub mod Writing
