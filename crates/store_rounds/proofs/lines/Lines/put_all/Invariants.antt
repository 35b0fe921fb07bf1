use Rattle.std.proofs.Common.{◌≡◌, ◌+◌, ◌++◌, length}
use Rattle.std.specs.Vec.Iter.{into_iter_items}
use Rattle.workload_spec.specs.ReplyText.{replies_text}
use Rattle.workload_spec.specs.declared.reply.Who.TheVariants.{Worker as TheWorker}
use Rattle.store_rounds.specs.Turned.{lines_behind}
use Rattle.store_rounds.proofs.lines.Lines.put_all.Given as goal

abbrev pub invariant-loop-said : goal.invariant-loop-said
invariant-loop-said l = record {
  grown : l.self.text.items
      ≡ l.fn.self.text.items ++ replies_text l.tables (lines_behind l.fn.self.round (TheWorker l.worker) l.fn.count l.yielded);
  round : l.self.round ≡ l.fn.self.round;
  split : l.yielded ++ into_iter_items l.said-iterator ≡ l.fn.told.items;
  counted : l.index ≡ l.fn.count + length l.yielded;
}
