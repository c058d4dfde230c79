pub mod Der
pub mod Curve
pub mod CurveTable
pub mod Keys
pub mod Write
