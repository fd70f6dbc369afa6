pub mod Cards
pub mod Heels
pub mod Members
pub mod Sheets
pub mod Splices
