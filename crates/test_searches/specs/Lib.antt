pub mod Logged
pub mod Worked
