pub mod Watching
pub mod Streams
