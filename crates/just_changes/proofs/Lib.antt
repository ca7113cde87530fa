pub mod Covered
pub mod Exact
pub mod Lists
pub mod Parts
pub mod Reaching
pub mod Readings
pub mod Versions
pub mod Whole
