pub mod State
pub mod Plan
pub mod Lending
