pub mod Members
pub mod Objects
pub mod Numbers
pub mod Distinct
