-- flows: the one flow of a net; what is joined
pub mod OneFlowLaws
pub mod FlowExamples
pub mod Joining
-- the Smith diagram of a tiling: its groups, the node below each square, and that the sides are its one flow
pub mod DiagramExamples
pub mod SmithLists
pub mod ColumnSums
pub mod GroupSquares
pub mod NodeBelow
pub mod GroupEdges
pub mod GroupColumns
pub mod SidesPotentials
pub mod TopGroup
pub mod SidesFlow
-- what the code reads off the squares: levels and numbers of the groups, and the wires
pub mod Hanging
pub mod SquareNumbers
pub mod NodeNumbers
-- network lines: what is written is read, and what was read is written
pub mod NetLineExamples
pub mod ReadingAll
pub mod NodeDigits
pub mod NetLinesRead
pub mod NetLinesMeant
pub mod NetStopping
pub mod NetProgress
