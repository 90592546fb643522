pub mod Answers
pub mod Keyed
pub mod Runs
