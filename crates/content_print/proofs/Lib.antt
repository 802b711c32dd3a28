pub mod Handed
pub mod LentReadings
pub mod LentElements
