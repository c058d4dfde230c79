pub mod Settled
pub mod Roots
