pub mod Differs
pub mod AttributesShown
pub mod SameMembers
