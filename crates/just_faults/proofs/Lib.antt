pub mod Adding
pub mod Counting
pub mod Knowing
pub mod Walking
pub mod Whole
