-- What the crate says.
pub mod FlowTiling
pub mod LaidOutline
pub mod LaidTiling
pub mod Realised
pub mod Renumbering
pub mod WordFlow
pub mod WordNet
