use Rattle.core_parts.proofs.Numbering.{head_at_number}
use Rattle.core_parts.proofs.shape.Shape.head.Goals as goal

pub returns : goal.returns
returns c = head_at_number c.args.self.now c.args.table c.requires
