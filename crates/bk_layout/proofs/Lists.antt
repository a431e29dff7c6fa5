-- Lists of numbers and squares, and sums over them, as the laws on layouts need them.
pub mod Ascending
pub mod AscendingPlaces
pub mod Counting
pub mod Drops
pub mod LayoutTables
pub mod Measure
pub mod NodeLists
pub mod NumberedLists
pub mod Pieces
pub mod SameNumbers
pub mod SignedTotals
pub mod SquareLists
pub mod Totals
