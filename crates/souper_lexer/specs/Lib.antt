pub mod TokenReading
pub mod TokenView
