pub mod Frontier
pub mod Log
pub mod Text
pub mod Told
pub mod Written
pub mod Entries
