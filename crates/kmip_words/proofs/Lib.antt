pub mod Tagged
pub mod Foreign
pub mod AnswerLines
pub mod Added
pub mod LineCalls
pub mod Diagnostics
pub mod Exchanges
pub mod Moves
pub mod Replies
pub mod JsonLines
mod Raws
pub use Rattle.kmip_request_words.proofs.NamedValues
