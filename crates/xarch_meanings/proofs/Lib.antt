pub mod OneStep
pub mod Succeeding
mod VersionTexts
pub mod Limited
