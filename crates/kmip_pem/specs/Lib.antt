pub mod Lines
pub mod Labels
pub mod Pem
pub mod Written
pub mod Found
