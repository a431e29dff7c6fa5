pub mod CodeExamples
pub mod FlatList
pub mod Storing
pub mod GroupSteps
pub mod CodesOrdered
pub mod CodeOfTiling
