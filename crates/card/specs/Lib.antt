pub mod Version
pub mod Card
pub mod Services
pub mod Extension
pub mod Derived
pub mod Fits
pub mod Lent
pub mod Ranges
