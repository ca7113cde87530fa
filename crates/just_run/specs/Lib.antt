pub mod Arguments
pub mod View
pub mod Said
pub mod Run
