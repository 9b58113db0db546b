pub mod Refusals
pub mod Number
