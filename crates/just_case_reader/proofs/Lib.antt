mod Split
pub mod Stacks
pub mod Lines
pub mod Names
pub mod Numbers
mod Counts
mod Described
