pub mod Path
pub mod Pattern
pub mod Split
pub mod Replace
pub mod Case
pub mod Quote
pub mod Uri
pub mod Prelude
