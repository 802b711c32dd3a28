pub mod View
pub mod ArchiveView
