-- The tree of legal words: which move comes next, and how many words lie between two.
pub mod AllWords
pub mod FiniteWords
pub mod Fitting
pub mod LastSigns
pub mod MoveOrder
pub mod Places
pub mod Ranks
pub mod TreeCounts
pub mod TreeExamples
pub mod WordCounts
