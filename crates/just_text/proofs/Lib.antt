pub mod Ascii
pub mod Components
pub mod Ends
pub mod Escapes
pub mod Exchanged
mod Examples
pub mod Joined
pub mod LastByte
pub mod Names
pub mod Pieces
pub mod Runs
pub mod Slashes
pub mod Words
