pub mod Cards
pub mod Records
