pub mod Parts
pub mod Halves
pub mod Children
pub mod Fields
pub mod RootRows
