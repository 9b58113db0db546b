pub mod Places
pub mod Unknown
pub mod CallLaws
pub mod CallExact
pub mod ByKind
