-- Written by tables/generate.py from tables/*.toml: change these instead.
pub mod BlockCipherModes
pub mod CryptographicAlgorithms
pub mod DigitalSignatureAlgorithms
pub mod HashingAlgorithms
pub mod KeyCompressionTypes
pub mod KeyFormatTypes
pub mod KeyRoleTypes
pub mod PaddingMethods
pub mod UsageMask
pub mod WrappingMethods
