pub mod ApartLemmas
pub mod DocumentEnds
pub mod Pages
pub mod TableEnds
