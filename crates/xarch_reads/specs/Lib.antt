pub mod Searched
pub mod Written
pub mod Listed
pub mod Logged
