-- Counts of faults, as other ports have them.
pub use Rattle.byte_ports.specs.Calls.{Rose}
