pub mod Writing
pub mod Answering
pub mod Changes
pub mod Pairs
pub mod Refused
pub mod Requested
pub mod Matched
pub mod Settled
