pub mod Calls
pub mod Valued
pub mod Operations
