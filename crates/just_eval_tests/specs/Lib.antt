pub mod Agreement
pub mod Prelude
