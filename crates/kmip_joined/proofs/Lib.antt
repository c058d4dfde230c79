pub mod PlainServer
pub mod Plain
pub mod Shown
pub mod ReportedCalls
pub mod AfterCall
pub mod Calls
pub mod Empty
pub mod Runs
