pub mod LargeExamples
