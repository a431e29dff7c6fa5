-- What the crate says. Its code is kept by what proofs/ says alone.
pub mod FlowLaws
pub mod FlowNumbers
pub mod RefusedNet
pub mod Table
pub mod Wide
