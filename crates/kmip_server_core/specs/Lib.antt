pub mod Requests
pub mod Picked
pub mod Items
pub mod Served
pub mod Answering
pub mod State
