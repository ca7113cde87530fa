pub mod Graphs
pub mod Members
pub mod Needing
pub mod Nodes
pub mod Staying
pub mod Walk
