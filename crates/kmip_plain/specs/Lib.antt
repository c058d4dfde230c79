pub mod Names
pub mod Plain
pub mod Writing
pub mod Payload
