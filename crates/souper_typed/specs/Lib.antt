pub mod Numbers
pub mod Written
pub mod Types
pub mod Examples
