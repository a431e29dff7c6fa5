-- What the crate says. Its code is kept by what proofs/ says alone.
pub mod Claim
pub mod Form
pub mod FormLaws
pub mod KeptEquations
pub mod LedgerAnswer
pub mod Reduction
