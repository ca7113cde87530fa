pub mod Called
pub mod First
pub mod Unreadable
pub mod Fault
pub mod Admitted
pub mod Apart
pub mod Seen
pub mod Prelude
