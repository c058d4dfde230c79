mod Options
pub mod Canonical
pub mod Read
mod Authentications
mod Examples
pub mod Matching
mod Framed
