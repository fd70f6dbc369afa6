mod Accounting
mod Judging
mod Stocks
mod Webs
