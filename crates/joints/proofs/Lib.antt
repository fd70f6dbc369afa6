pub mod Scanning
pub mod Standing
pub mod Verdicts
pub mod Within
