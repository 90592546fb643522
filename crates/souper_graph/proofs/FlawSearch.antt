-- The search for the first flaw.
pub mod Uses
pub mod Targets
pub mod Reached
pub mod Walk
pub mod Marked
pub mod Needed
pub mod Reasons
pub mod Statements
pub mod Found
