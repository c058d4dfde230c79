pub mod Identifiers
pub mod Questions
pub mod Kept
pub mod Plains
pub mod Runs
