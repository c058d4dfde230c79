pub mod Calls
pub mod JsonLines
pub mod Objections
pub mod Answers
pub mod AnyPayload
