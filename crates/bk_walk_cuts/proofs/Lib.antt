-- Forms of sides, and the moves that they rule out.
pub mod SideValues
pub mod TilingForms
pub mod SmallForms
pub mod Asked
pub mod Segments
pub mod Traces
pub mod TraceMore
pub mod TraceBack
pub mod RuledOut
pub mod MoveAnswers
pub mod SideFormExamples
pub mod TraceExamples
pub mod CutExamples
-- Moves by which no member's word goes on.
pub mod CutLaws
pub mod OwingLaws
pub mod MoveCutExamples
