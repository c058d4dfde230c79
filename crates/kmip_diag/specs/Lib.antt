pub mod Skeleton
pub mod Printed
pub mod Tokens
pub mod Diagnostic
pub mod Reading
pub mod Lines
pub mod Expansion
