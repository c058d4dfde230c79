pub mod Identifiers
pub mod Levels
pub mod Additions
