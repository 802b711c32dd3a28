pub mod Escapes
pub mod Walks
pub mod TreeWalk
pub mod Arrays
pub mod Runs
