pub mod Outcome
pub mod Parameters
pub mod Analysis
pub mod View
