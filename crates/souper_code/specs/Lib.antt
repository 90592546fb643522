pub mod Numbers
pub mod Codes
pub mod Codable
pub mod Reading
pub mod Writing
pub mod Judging
pub mod FrontFlaw
