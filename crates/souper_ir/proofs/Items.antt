-- What a parser takes of items, and what a text of items spells.
pub mod WellFormed
pub mod Steps
pub mod Lists
pub mod Texts
pub mod OneText
pub mod Joining
pub mod Parting
pub mod Starts
pub mod Stopping
