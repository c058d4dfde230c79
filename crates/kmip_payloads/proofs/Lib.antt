pub mod Views
pub mod Levels
pub mod Tags
pub mod Members
pub mod Stands
pub mod Spots
pub mod Whole
