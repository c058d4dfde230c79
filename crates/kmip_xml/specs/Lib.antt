pub mod Given
pub mod Scan
pub mod Values
pub mod Markup
pub mod Scalars
pub mod Reading
pub mod Texts
pub mod Refusals
