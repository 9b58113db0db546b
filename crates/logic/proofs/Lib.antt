pub mod Branch
pub mod Tests
