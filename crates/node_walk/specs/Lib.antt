pub mod Seen
pub mod Places
pub mod Next
pub mod Walked
pub mod Nodes
