pub mod Lines
pub mod Comparing
