pub mod Fronts
pub mod Pieces
pub mod Turns
pub mod Numbers
pub mod Options
pub mod Tags
