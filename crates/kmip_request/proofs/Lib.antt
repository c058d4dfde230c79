pub mod Messages
mod Sized
pub mod Tables
pub mod Distinct
