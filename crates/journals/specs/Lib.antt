pub mod Verbs
pub mod Says
pub mod Reading
