pub mod Decided
pub mod Predicted
pub mod Reordered
pub mod Cone
pub mod Results
