pub mod Bound
mod Cuts
mod Escapes
mod Examples
mod Framed
mod Inserted
mod Named
mod Numbering
mod Pairs
mod Placed
pub mod Places
mod PositionalLaws
pub mod Texts
mod Scopes
mod Stepped
pub mod Values
mod Writes
