pub mod Few
mod Items
pub mod Lists
pub mod Numbers
pub mod Statements
