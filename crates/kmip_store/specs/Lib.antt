pub mod Objects
pub mod Errors
pub mod Makers
pub mod Planned
pub mod Plain
pub mod Steps
pub mod Answers
pub mod Runs
