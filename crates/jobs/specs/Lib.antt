pub mod Openers
pub mod Reading
pub mod Fits
pub mod Texts
