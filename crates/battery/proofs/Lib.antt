pub mod Accepted
pub mod AnswerLaws
pub mod FreshGood
pub mod GoodParts
pub mod Zones
pub mod CallConstants
