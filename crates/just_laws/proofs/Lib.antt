pub mod Decide
pub mod Blocks
pub mod Agreed
pub mod Orders
pub mod Stages
pub mod Constants
pub mod Cones
pub mod Results
