pub mod Steps
pub mod Operations
pub mod Budget
pub mod Faults
pub mod Cases
pub mod Times
