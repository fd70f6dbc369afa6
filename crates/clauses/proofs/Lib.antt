pub mod ByHand
pub mod Floors
