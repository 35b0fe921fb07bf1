use Rattle.std.proofs.Common.{rules}
use Rattle.std.specs.Prelude.{None}
use Rattle.reply_text.proofs.RepliesBack.{reads_reply}
use Rattle.reply_text.proofs.reading.read_line.Goals as goal

pub returns-in_default : goal.returns-in_default
returns-in_default c = reads_reply c.args.tables.now c.args.bytes.now None c.requires.tables (search rules)

pub returns-in_default-head_in : goal.returns-in_default-head_in
returns-in_default-head_in c = reads_reply c.args.tables.now c.args.bytes.now None c.requires.tables (search rules)

pub returns-in-Some-2 : goal.returns-in-Some-2
returns-in-Some-2 c = reads_reply c.args.tables.now c.args.bytes.now _ c.requires.tables (search rules)

pub returns-in-None : goal.returns-in-None
returns-in-None c = reads_reply c.args.tables.now c.args.bytes.now None c.requires.tables (search rules)
