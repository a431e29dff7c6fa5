-- What the crate says. Its code is kept by what proofs/ says alone.
pub mod AnswerWords
pub mod Answers
pub mod CheckLineLaw
pub mod EntryLaws
pub mod ListLines
pub mod Listings
pub mod Refusals
pub mod Templates
pub mod Trial
