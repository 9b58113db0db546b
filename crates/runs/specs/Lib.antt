pub mod Zoned
pub mod Runs
pub mod Hydronic
pub mod Charge
