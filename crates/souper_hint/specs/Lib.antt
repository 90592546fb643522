pub mod Tokens
pub mod Hints
