pub mod Asked
pub mod Escapes
pub mod Options
pub mod Paths
pub mod Rows
pub mod Texts
pub mod Words
