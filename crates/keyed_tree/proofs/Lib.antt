pub mod Kids
pub mod Views
pub mod SameLemmas
pub mod KidsKeep
pub mod PlainLemmas
pub mod LentVals
