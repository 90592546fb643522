-- What errors show.
pub mod Lines
pub mod Unstyled
pub mod After
pub mod OnePlace
