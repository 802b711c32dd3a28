pub mod Pairs
pub mod Members
pub mod Walk
pub mod View
pub mod Text
