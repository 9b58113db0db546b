pub mod Lengths
pub mod CardLaws
