pub mod Drafts
pub mod Faults
pub mod Lines
pub mod Numbers
pub mod Words
