mod Tables
mod Moves
mod Books
mod Racks
mod Replaying
mod Taken
