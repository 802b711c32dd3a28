pub mod Contents
pub mod Full
