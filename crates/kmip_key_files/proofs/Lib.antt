pub mod Steps
pub mod Telling
pub mod Written
pub mod Short
