mod Below
mod Step
mod End
mod Written
mod Rows
mod Growing
mod Accounts
mod Entries
