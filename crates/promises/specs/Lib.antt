pub mod Promises
pub mod Requests
pub mod Example
pub mod Claims
pub mod TwoVersions
