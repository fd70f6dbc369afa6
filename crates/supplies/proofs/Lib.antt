mod Cuts
mod Hiding
mod Layering
mod Strikes
