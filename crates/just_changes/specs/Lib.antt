pub mod Changed
pub mod Nodes
pub mod View
pub mod Prelude
