use Rattle.std.proofs.Common.{refl, lit≤}
use Rattle.byte_ports.proofs.pure.PureSourceSource.TheImpl.Goals as goal

pub read-tells : goal.read-tells
read-tells g c = record {
  bound = c.ensures.bound;
  bytes = c.ensures.bytes;
  told = refl;
  counted = lit≤ tt;
  kept = rw c.ensures.count refl;
  cause = rw c.ensures.count tt;
}
