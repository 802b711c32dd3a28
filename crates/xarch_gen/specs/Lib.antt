pub mod Company
pub mod Sample
