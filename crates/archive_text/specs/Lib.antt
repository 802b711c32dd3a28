pub mod Export
pub mod Texts
pub mod Names
pub mod Reading
pub mod Faults
pub mod Expected
