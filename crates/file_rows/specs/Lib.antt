pub mod StandsAt
pub mod View
