pub mod Accounts
pub mod Picks
pub mod Piles
pub mod Sheets
pub mod Verdicts
pub mod Webs
