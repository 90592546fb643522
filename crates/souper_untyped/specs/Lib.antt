pub mod Messages
pub mod Lines
pub mod Hints
pub mod Says
