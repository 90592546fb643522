-- The names and blocks of the statements so far.
pub mod Names
pub mod Growing
pub mod Entered
