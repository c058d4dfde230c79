mod Showing
pub mod Faultless
