pub mod Ends
pub mod Events
pub mod Parts
pub mod Paths
