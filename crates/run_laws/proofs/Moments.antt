pub mod Printing
pub mod Standing
pub mod Seats
pub mod Threads
pub mod Rounds
pub mod Reads
