-- Written by tables/generate.py from tables/*.toml: change these instead.
pub mod CertificateTypes
pub mod CredentialTypes
pub mod LinkTypes
pub mod NameTypes
pub mod ObjectTypes
pub mod Operations
pub mod QueryFunctions
pub mod ResultReasons
pub mod ResultStatuses
pub mod RevocationReasonCodes
pub mod States
