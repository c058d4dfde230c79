pub mod Steps
pub mod Fault
