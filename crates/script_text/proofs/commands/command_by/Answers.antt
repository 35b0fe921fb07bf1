use Rattle.script_text.proofs.commands.command_by.Goals as goal

pub returns-in-Begin : goal.returns-in-Begin
returns-in-Begin c = rw c.in-Begin.is (c.begin_in.ensures c.args.tables.now)
