use Rattle.store_rounds.proofs.AddedGroups.{has_commits, is_group}
use Rattle.store_rounds.proofs.ending.add_group.Goals as goal

pub returns-in-Ok-clause-adds : goal.returns-in-Ok-clause-adds
returns-in-Ok-clause-adds g c = record {
  works = c.in-Ok.ensures.works;
  any_moment = λ tables before stands may. c.append.ensures.any_moment tables before stands
      (is_group tables c.args.group.now c.is_empty.result c.is_empty.ensures c.if-is_empty.false c.requires.short may);
  stands = λ tables before stands may. c.in-Ok.ensures.ok tables before stands
      (is_group tables c.args.group.now c.is_empty.result c.is_empty.ensures c.if-is_empty.false c.requires.short may);
}

pub returns-in-Err-Disk-clause-adds : goal.returns-in-Err-Disk-clause-adds
returns-in-Err-Disk-clause-adds g c = record {
  some = has_commits c.args.group.now c.is_empty.result c.is_empty.ensures c.if-is_empty.false;
  any_moment = λ tables before stands may. c.append.ensures.any_moment tables before stands
      (is_group tables c.args.group.now c.is_empty.result c.is_empty.ensures c.if-is_empty.false c.requires.short may);
}
