pub mod Arguments
pub mod Beginnings
pub mod Calls
pub mod Commands
mod Examples
pub mod Halving
pub mod Messages
pub mod Paths
pub mod Spelled
pub mod Texts
pub mod Unnamed
pub mod Variables
