pub mod Rekeyed
pub mod Progress
pub mod View
pub mod Index
pub mod Drafted
