pub mod Laws
pub mod Puts
pub mod Places
