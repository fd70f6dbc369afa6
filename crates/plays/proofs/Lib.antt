mod Pairing
mod Ended
