pub mod Prelude
mod Checking
mod Distinct
pub mod Seeing
pub mod Outcomes
mod ObjectLines
