pub mod Utf8
pub mod Fields
pub mod Combinators
pub mod Loops
pub mod Chains
