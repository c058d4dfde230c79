pub mod Forms
pub mod Told
pub mod Formats
pub mod Files
pub mod Found
pub mod CurveNames
pub mod CurveNameTable
