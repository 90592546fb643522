-- Two well-formed items have one renumbered item if and only if they are the same graph.
pub mod InstructionMaps
pub mod Carrying
pub mod Indices
pub mod PrintedOrder
pub mod Renumbered
pub mod Nameless
pub mod Named
pub mod Naming
pub mod Renaming
pub mod Renamed
