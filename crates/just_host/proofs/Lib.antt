pub mod Left
pub mod Changes
mod Entries
mod Assigning
