pub mod RunLemmas
pub mod Pairs
pub mod SameRunLemmas
pub mod OneGraph
