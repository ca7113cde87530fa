pub mod Callees
pub mod Reached
pub mod Distinct
pub mod Overridden
pub mod Names
pub mod Tables
