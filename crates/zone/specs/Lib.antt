pub mod Heat
pub mod Layer
pub mod Good
pub mod Lent
pub mod LentSalts
