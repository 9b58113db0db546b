pub mod Constants
pub mod Exchanged
