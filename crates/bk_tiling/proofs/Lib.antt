-- squares and tilings: cells, lists in the order of a code, the test that computes, worked examples
pub mod Cells
pub mod TilingLaws
pub mod LevelTest
pub mod TilingTest
pub mod OrderLaws
pub mod ExampleTilings
pub mod TilingExamples
pub mod ColumnExamples
pub mod Members
pub mod Scaling
pub mod Rows
pub mod PuttingInOrder
pub mod Places
pub mod MovedSquares
pub mod PairCounts
pub mod EnlargedTilings
pub mod Sizes
-- the groups of a code, and that a width and the sides fix a tiling
pub mod NextCorner
pub mod Group
pub mod FilledGroup
pub mod Groups
pub mod TilingGroups
pub mod GroupStarts
pub mod JoinedParts
pub mod CutRectangles
pub mod GroupCount
-- why a list of squares is refused
pub mod Refusing
pub mod Areas
pub mod Sweeping
pub mod OneRefusal
pub mod RefusalExamples
