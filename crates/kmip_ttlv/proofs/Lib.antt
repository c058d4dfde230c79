pub mod Whole
pub mod Back
