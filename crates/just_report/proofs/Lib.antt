-- The proofs of the crate.
mod Displayed
mod Lines
mod Pointers
mod Repeated
mod Signs
