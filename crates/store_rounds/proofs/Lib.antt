pub mod Lending
pub mod Kept
pub mod Tended
mod Answering
mod Short
mod Faults
mod Scripts
mod Sends
mod Ranges
mod Keeps
mod Readings
mod Turns
mod Rows
mod Agendas
mod Apart
mod WorkerTurns
mod Quiet
mod Parts
mod Runs
mod HandedOver
mod Grouping
pub mod Logged
mod Duties
mod WholeRounds
mod Went
mod Running
mod Stopping
mod AddedGroups
mod Looping
mod Going
mod Counting
