pub mod Written
pub mod Places
pub mod Calls
pub mod Answers
pub mod Values
