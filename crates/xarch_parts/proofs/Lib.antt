pub mod Pushing
mod FrontLemmas
pub mod NoteLaws
