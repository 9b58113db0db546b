pub mod Sums
pub mod Salts
