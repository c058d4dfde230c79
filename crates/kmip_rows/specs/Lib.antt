pub mod Rows
pub mod Operations
pub mod Structures
pub mod Kinds
pub mod Laws
pub mod Typed
