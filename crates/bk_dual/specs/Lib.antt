-- What the crate says. Its code is kept by what proofs/ says alone.
pub mod Dual
pub mod DualWires
pub mod NodeSum
