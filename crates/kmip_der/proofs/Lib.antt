pub mod Steps
pub mod Apart
pub mod Back
pub mod KeysBack
pub mod Zeros
