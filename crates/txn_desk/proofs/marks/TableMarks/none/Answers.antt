use Rattle.std.proofs.Common.{refl}
use Rattle.txn_desk.specs.Marks.{marked_tables}
use Rattle.txn_desk.proofs.marks.TableMarks.none.Goals as goal

pub returns : goal.returns
unfolding marked_tables
returns c = refl
