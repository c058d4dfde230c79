pub mod AttributeNames
pub mod ByteStrings
pub mod Numbers
pub mod Parameters
pub mod Texts
