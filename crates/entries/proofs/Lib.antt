pub mod Opening
pub mod Entering
pub mod Checked
