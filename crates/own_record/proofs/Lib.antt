pub mod Answered
pub mod Extensions
pub mod OwnRecordLaws
pub mod Zones
