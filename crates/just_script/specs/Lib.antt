pub mod Script
pub mod Failing
pub mod View
pub mod Prelude
