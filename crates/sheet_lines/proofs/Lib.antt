pub mod Lengths
pub mod Good
pub mod Back
pub mod CardFront
pub mod AnswerBack
pub mod Agreement
pub mod LineLaws
pub mod Fronts
