-- A layout that fits has a free word: its nodes are closed one after another, and the net of the word is the layout's.
pub mod Chains
pub mod FreeWordExamples
pub mod LayoutExamples
pub mod LayoutNet
pub mod LayoutNumbers
pub mod MoveChain
pub mod NodeHeads
pub mod NodeLaws
pub mod OpenRuns
pub mod Sweep
pub mod SweepEnd
pub mod SweepSteps
pub mod SweepStart
pub mod Trace
pub mod ValleySides
pub mod WholeRuns
pub mod WordOfLayoutExamples
