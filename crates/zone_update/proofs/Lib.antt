pub mod Falls
pub mod Lowering
pub mod Directions
pub mod Floors
pub mod Points
