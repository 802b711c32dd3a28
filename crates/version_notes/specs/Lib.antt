pub mod Notes
pub mod Parts
pub mod Faults
pub mod Reader
pub mod Reading
pub mod Writer
pub mod Walk
