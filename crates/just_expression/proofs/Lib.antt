pub mod Exits
mod Calls
mod Leaves
mod Rows
mod Texts
mod Callees
mod Commands
mod InFront
