pub mod Tables
pub mod Values
pub mod Same
pub mod Constructors
pub mod Roots
