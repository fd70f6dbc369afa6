pub mod Choosing
pub mod Offers
pub mod Books
pub mod Explaining
