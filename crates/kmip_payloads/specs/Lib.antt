pub mod Items
pub mod Payload
pub mod Lacks
pub mod Strays
pub mod Refusals
pub mod Laws
