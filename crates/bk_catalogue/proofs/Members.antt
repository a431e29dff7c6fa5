-- Each simple tiling has one entry in the catalogue, and the entries of small orders.
pub mod BegunWords
pub mod Carrying
pub mod CatalogueExamples
pub mod ClassesKept
pub mod CornerLaws
pub mod CornerTest
pub mod FollowingExamples
pub mod ListedOnce
pub mod OneEntry
pub mod Parts
pub mod PartsKept
pub mod PerfectSides
pub mod QuickTests
pub mod RepeatedExamples
pub mod RepeatedSides
pub mod TwoSquares
pub mod VerticalParts
