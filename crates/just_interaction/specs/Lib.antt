pub mod Outcome
pub mod Signature
pub mod Tree
pub mod Trace
pub mod Prelude
