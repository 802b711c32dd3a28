pub mod Cutting
pub mod Extending
pub mod Joining
pub mod Making
pub mod Slicing
