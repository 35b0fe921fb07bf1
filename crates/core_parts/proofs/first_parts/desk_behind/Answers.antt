use Rattle.std.proofs.Common.{◌≡◌, ◌+◌, ◌∷◌, ◌++◌, [], take, ap, sym, ◌∙◌, arith}
use Rattle.std.proofs.lemmas.List.{take_more}
use Rattle.core_parts.proofs.FirstParts.{desk_step}
use Rattle.event_spec.specs.Replay.{opening_desk}
use Rattle.isolation_spec.specs.Contents.{History}
use Rattle.txn_desk.specs.Marks.{is_marked}
use Rattle.core_parts.proofs.first_parts.desk_behind.Goals as goal

pub loop-writes-preserved : goal.loop-writes-preserved
loop-writes-preserved c =
    let items = c.as_slice-writes-items.result.now in
    let item = c.writes-item.result in
    let took : take (c.loop-writes.writes-index + 1) items ≡ take c.loop-writes.writes-index items ++ item ∷ [] =
    take_more items c.loop-writes.writes-index item (omega arith) ∙ ap (λ x. take c.loop-writes.writes-index items ++ x ∷ []) (sym c.writes-item.is) in
    desk_step (take c.loop-writes.writes-index items) item c.args.shape.now.passes (is_marked c.tables_of.result) c.loop-writes.desk c.know_commit.new.self c.tables_of.ensures c.loop-writes.invariant c.know_commit.ensures
    ∙ ap (λ (commits : History). opening_desk commits c.args.shape.now.passes) (sym took)
