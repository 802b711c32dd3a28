pub mod Same
pub mod Steps
pub mod Sizes
pub mod Stamps
pub mod Times
