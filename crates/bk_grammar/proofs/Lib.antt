pub mod Reading
pub mod NumberLaws
pub mod NumbersRead
pub mod FirstByte
pub mod Leaving
pub mod BlankBytes
pub mod GrammarExamples
