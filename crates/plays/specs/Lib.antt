pub mod Beside
pub mod Plays
pub mod Fates
pub mod Lists
