pub mod Unbroken
pub mod LineTrips
pub mod Feeds
pub mod Cells
pub mod PlainCells
pub mod Taking
