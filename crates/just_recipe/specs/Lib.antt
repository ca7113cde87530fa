pub mod Expressions
pub mod Faults
pub mod Numbered
pub mod Setting
