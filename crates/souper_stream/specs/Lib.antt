pub mod Prelude
pub mod Lines
pub mod Segments
pub mod Scanning
pub mod Reading
pub mod Buffering
pub mod Parts
pub mod Starts
