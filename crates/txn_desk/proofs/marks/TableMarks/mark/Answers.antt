use Rattle.std.proofs.Common.{◌≡◌, length, rules}
use Rattle.txn_desk.specs.Marks.{marked_tables}
use Rattle.txn_desk.proofs.Tables.{entered_mark}
use Rattle.txn_desk.proofs.marks.TableMarks.mark.Goals as goal

pub returns : goal.returns
unfolding marked_tables
returns c =
    let full : length c.args.self.now.marks ≡ 16 = search rules in
    entered_mark c.args.self.now.marks c.args.table full c.requires
