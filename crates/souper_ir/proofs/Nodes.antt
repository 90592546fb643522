-- What the functions that read nodes are proved with.
pub mod Options
pub mod Lists
pub mod Failing
pub mod Operands
pub mod Numerals
pub mod Limits
pub mod Taken
pub mod Statements
pub mod NextStatements
pub mod Ahead
pub mod Ends
