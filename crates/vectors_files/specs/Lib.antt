pub mod Ids
pub mod Records
