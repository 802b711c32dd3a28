pub mod Sums
pub mod Weights
pub mod Tallies
pub mod Coming
pub mod Files
