-- What the crate says.
pub mod KeptEntries
pub mod Report
pub mod ReportLaw
pub mod Rest
pub mod Told
pub mod Verify
pub mod VerifyLaws
pub mod VerifyRun
-- How its code keeps it.
pub mod EmptyIsPassedOver
pub mod ListLine
pub mod ListReading
pub mod MissingLines
pub mod ReportEnd
pub mod StoredMember
