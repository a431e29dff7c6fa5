-- What the crate says. Its code is kept by what proofs/ says alone.
pub mod Depiction
pub mod LaidMoves
pub mod LevelRuns
pub mod TilingWord
pub mod WordLaws
