pub mod TheTable
pub mod Entries
