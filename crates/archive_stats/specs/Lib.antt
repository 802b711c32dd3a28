pub mod Counts
pub mod Tally
pub mod View
pub mod Counted
