use Rattle.store_rounds.proofs.WorkerTurns.{put_shown}
use Rattle.store_rounds.proofs.lines.Lines.put_turn.Goals as goal

pub returns-in-Ok-Ok-clause-ok : goal.returns-in-Ok-Ok-clause-ok
returns-in-Ok-Ok-clause-ok c =
    put_shown c.args.tables.now c.args.self.now.round c.args.worker c.in-Ok-Ok.count c.args.shown c.args.told c.in-Ok-Ok.told
    c.args.self.now.text.items c.put_all.new.self.text.items c.in-Ok-Ok.is-0 c.in-Ok-Ok.is-1 c.put_all.result c.put_all.ensures.ok c.put_all.ensures.counted
