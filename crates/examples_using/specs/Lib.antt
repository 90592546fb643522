pub mod Doubling
pub mod Folding
pub mod Names
pub mod Reports
pub mod Terms
pub mod Types
