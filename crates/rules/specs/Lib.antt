pub mod Sines
pub mod Teeth
pub mod Steel
pub mod Sides
pub mod Bites
pub mod Heel
pub mod Ranges
