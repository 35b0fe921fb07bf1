mod Changes
mod Handing
mod Rows
mod Rooms
mod Plain
mod Tries
