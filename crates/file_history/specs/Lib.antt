pub mod Leads
pub mod Told
pub mod Pulled
pub mod View
pub mod Opened
pub mod Parts
pub mod Halving
pub mod Rows
