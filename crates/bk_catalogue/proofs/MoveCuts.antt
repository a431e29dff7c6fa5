-- With which moves no member's word begins, and so where a walk may pass on.
pub mod BarrenExamples
pub mod ClearLines
pub mod ClearSegments
pub mod Cutting
pub mod CuttingBounds
pub mod CuttingFirst
pub mod CuttingLines
pub mod CuttingPairs
pub mod LinesLeft
pub mod OneUnderOne
