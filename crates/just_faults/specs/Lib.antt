pub mod All
pub mod Passed
pub mod Prelude
