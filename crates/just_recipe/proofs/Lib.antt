pub mod Copying
pub mod Numbered
