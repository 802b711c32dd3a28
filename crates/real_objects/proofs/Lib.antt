mod DraftLemmas
pub mod NameLemmas
