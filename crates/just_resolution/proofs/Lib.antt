pub mod Closure
mod Deciding
pub mod Faults
pub mod Finding
mod Numbering
pub mod Occurrences
pub mod Ordering
mod Readers
mod Resolving
pub mod Sets
pub mod Tables
mod Turns
