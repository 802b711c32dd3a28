pub mod Spelled
pub mod Rising
pub mod Items
pub mod Labelled
pub mod Made
pub mod Samples
