-- words as numbers: digits of base 4, their order, and how they are read back
pub mod BaseFour
pub mod WordDigits
pub mod LaidDigits
pub mod PackedOrder
pub mod PackedExamples
pub mod DigitsBack
pub mod ReadMoves
pub mod NextDigits
pub mod ReadingExamples
-- tables
pub mod AscendingNumbers
pub mod BroughtForward
pub mod Keeping
pub mod FirstNumbers
pub mod KeptExamples
