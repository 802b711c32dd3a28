pub mod Merged
pub mod Alike
pub mod Below
pub mod Laws
pub mod Plan
pub mod PlanView
pub mod Fits
pub mod Ready
