pub mod Framing
pub mod Pairing
pub mod Agreeing
pub mod EqualReports
pub mod Variants
pub mod Served
