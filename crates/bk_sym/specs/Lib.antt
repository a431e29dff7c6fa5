-- What the crate says. Its code is kept by what proofs/ says alone.
pub mod Canonical
pub mod Image
pub mod ImageLaws
pub mod Turns
