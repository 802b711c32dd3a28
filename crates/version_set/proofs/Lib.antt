pub mod MembersLemmas
pub mod SetLemmas
pub mod Ends
pub mod Walks
pub mod Moves
pub mod Sets
pub mod Inside
