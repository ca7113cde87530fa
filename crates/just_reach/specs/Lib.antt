pub mod Member
pub mod Asking
pub mod Reached
pub mod Law
pub mod Members
pub mod View
pub mod Prelude
