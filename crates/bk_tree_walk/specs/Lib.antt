-- What the crate says. Its code is kept by what proofs/ says alone.
pub mod TreePlace
pub mod WholeWords
