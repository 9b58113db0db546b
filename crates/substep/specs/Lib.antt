pub mod Progress
pub mod Substep
