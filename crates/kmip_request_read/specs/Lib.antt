pub mod Matched
pub mod Message
pub mod Reading
