pub mod ExportEnds
pub mod GivingLemmas
pub mod ImportEnds
pub mod NotesRead
