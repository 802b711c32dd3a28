pub mod Refusal
pub mod Lines
pub mod Commands
pub mod View
