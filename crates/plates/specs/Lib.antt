pub mod Size
pub mod Refusals
pub mod Turnings
pub mod Verdicts
