-- Members worked by hand.
pub mod NextMemberExamples
