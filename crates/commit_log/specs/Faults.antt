-- When a call of a log meets a failed call of its disk, as payload logs have it.
pub use Rattle.payload_log.specs.Faults.{CountsDisk}
