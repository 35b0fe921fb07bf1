use Rattle.std.proofs.Common.{inl, length, lit≤, refl}
use Rattle.disk_ports.proofs.Anything.{from_nothing, nothing_written}
use Rattle.disk_ports.proofs.files.FileDiskDisk.TheImpl.Goals as goal

pub write_at-tells : goal.write_at-tells
write_at-tells g c = record {
  bytes = nothing_written c.result c.args.at c.args.piece.now;
  started = refl;
  crash = λ f any. from_nothing c.args.at (length c.args.piece.now) f;
  time = record { later = lit≤ tt; nothing_else = λ t f le left. inl tt; keeps = λ t f le left. tt };
  counted = c.ensures.counted;
  kept = c.ensures.kept;
  cause = c.ensures.cause;
}
