-- Squares reversed: a layout has, up to reversed squares, a free word that keeps rule R, and stays sound.
pub mod BadMove
pub mod EvenAbove
pub mod MovesBoth
pub mod NodesUpToReversals
pub mod NumbersKept
pub mod ReversalExamples
pub mod ReversedFits
pub mod ReversedParts
pub mod ReversedLists
pub mod RuleExamples
pub mod RuleScan
pub mod SoundReversal
pub mod SoundWords
pub mod SweepsBeside
pub mod UpTo
pub mod UpToReversals
pub mod WholeBeside
