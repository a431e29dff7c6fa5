-- The signed words of a tiling, and that its signed sides are the one flow of such a word's net.
pub mod SignedFlows
pub mod SignedTilingWords
pub mod SignedWordExamples
