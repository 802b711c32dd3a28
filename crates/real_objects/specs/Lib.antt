pub mod Draft
pub mod Mark
pub mod Pages
