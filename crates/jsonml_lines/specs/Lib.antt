pub mod Lines
pub mod Read
pub mod RoundTrip
pub mod View
