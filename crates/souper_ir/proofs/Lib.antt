pub mod Exits
pub mod Scope
pub mod Nodes
pub mod Items
