pub mod Spans
pub mod Cuts
pub mod Fits
pub mod FitsLine
pub mod Steps
pub mod Results
pub mod Outcomes
