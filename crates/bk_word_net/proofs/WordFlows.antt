-- The net of a word and its flows: no loose node, wires by their places, sums at nodes.
pub mod FlowFacts
pub mod LaidFlow
pub mod NoLoose
pub mod PlacesInLists
pub mod Renumbering
pub mod Sums
pub mod Wires
pub mod WordNetExamples
