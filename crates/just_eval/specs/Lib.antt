pub mod View
pub mod Check
pub mod Commands
pub mod Joined
pub mod Survey
pub mod Steps
pub mod Prelude
