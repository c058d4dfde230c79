pub mod NamedValues
pub mod Numbers
pub mod Gathered
pub mod Rests
pub mod Texts
pub mod Utf8
