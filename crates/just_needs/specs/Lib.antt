pub mod Needed
pub mod Graph
pub mod View
pub mod Prelude
