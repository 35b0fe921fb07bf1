mod Maps
mod Whole
mod Going
mod Told
mod Ending
mod Writes
mod Blocks
