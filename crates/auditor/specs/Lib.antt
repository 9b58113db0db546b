pub mod Rules
pub mod Verdicts
pub mod Audit
pub mod Bound
pub mod Sheet
pub mod Cases
