pub mod Prelude
mod Words
mod Parting
mod LineLists
pub mod Cutting
pub mod SegmentLaws
pub mod Passing
pub mod Reached
pub mod Buffers
