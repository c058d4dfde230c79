pub mod Shown
pub mod Listing
pub mod Split
pub mod Input
