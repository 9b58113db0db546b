pub mod Battery
pub mod Answer
pub mod Kinds
pub mod Shape
pub mod Ledger
pub mod Places
pub mod Call
