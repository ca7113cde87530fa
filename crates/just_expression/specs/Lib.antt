pub mod View
pub mod Call
pub mod Parameter
pub mod Reason
pub mod Prelude
