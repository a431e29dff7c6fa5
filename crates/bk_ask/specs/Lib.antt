-- What the crate says. Its code is kept by what proofs/ says alone.
pub mod AskLaws
pub mod Asked
pub mod Help
pub mod OptionValues
pub mod Options
