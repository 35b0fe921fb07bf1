use Rattle.std.proofs.Common.{Err, ◌^◌}
use Rattle.std.specs.FinMap.{nat_cmp-IsAntisymmetric}
use Rattle.std.proofs.lemmas.List.Sorted.{searched}
use Rattle.core_parts.proofs.Heads.{inserted, sorted, there}
use Rattle.core_parts.proofs.head_changes.gap_for.Goals as goal

pub returns-in-Ok : goal.returns-in-Ok
returns-in-Ok c = record {
  some = tt;
  within = tt;
  none = there 0 (2 ^ 10) c.args.blocks.now c.in-Ok.field-0 c.args.block c.requires c.in-Ok.ensures.bound (nat_cmp-IsAntisymmetric _ _ (c.in-Ok.ensures.ok 0));
}

pub returns-in-Err : goal.returns-in-Err
returns-in-Err c =
    let found = searched c.args.blocks.now c.args.block (Err c.in-Err.at) c.in-Err.ensures.position (sorted 0 (2 ^ 10) c.args.blocks.now c.requires) in record {
      some = inserted c.args.blocks.now c.in-Err.at c.args.block found.0 found.1 found.2;
      within = found.0;
      none = tt;
    }
