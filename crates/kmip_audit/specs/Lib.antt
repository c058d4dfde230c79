pub mod Frames
pub mod Outcomes
pub mod Report
pub mod Printed
pub mod Skeletons
pub mod Agreement
