pub mod Rows
pub mod Parts
pub mod Widened
pub mod Results
pub mod Objects
pub mod Runs
