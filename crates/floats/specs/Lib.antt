pub mod F64
pub mod Constants
pub mod Standins
pub mod Sum2
pub mod Ln
