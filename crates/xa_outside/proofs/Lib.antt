pub mod BufferedLemmas
pub mod CauseLemmas
pub mod DraftLemmas
pub mod FileLemmas
pub mod Fronts
pub mod Output
