pub mod Failures
pub mod Locations
pub mod Same
pub mod Writing
pub mod WholeLines
pub mod Groups
pub mod HintsWritten
pub mod Failing
