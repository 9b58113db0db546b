pub mod Replies
pub mod Classes
pub mod Totals
