pub mod Added
pub mod Appending
pub mod Rekeyed
