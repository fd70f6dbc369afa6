mod Longer
pub mod Three
