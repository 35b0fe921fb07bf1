use Rattle.std.proofs.Common.{option_map, ap, ◌∙◌}
use Rattle.std.specs.Result.{result_from_control_flow}
use Rattle.shared_store.specs.KeptCommits.{with_change}
use Rattle.shared_store.proofs.Settled.{held_for}
use Rattle.shared_store.proofs.Noted.{change_kept, change_left}
use Rattle.shared_store.proofs.store.Store.keep_write.Goals as goal

pub settle-requires : goal.settle-requires
settle-requires g c = held_for c.args.place c.in_ok-change.change c.args.kept.now c.enter.new.self c.in_ok-held.held c.in_ok-held.ensures.entered

pub returns-clause-keeps : goal.returns-clause-keeps
returns-clause-keeps g c =
    change_kept c.args.place c.args.copy c.in_ok-change.change c.args.kept.now c.settle.new.self c.make_write-told.result (c.branch-change.ensures ∙ ap result_from_control_flow c.in_ok-change.is)
    (c.settle.ensures c.args.kept.now c.in_ok-change.change c.in_ok-held.ensures.entered
    ∙ ap (λ accepted. option_map (with_change c.args.place c.in_ok-change.change accepted) c.args.kept.now) c.is_accepted.ensures)

pub returns-clause-left : goal.returns-clause-left
returns-clause-left g c =
    change_left c.args.place c.in_ok-change.change c.args.kept.now c.settle.new.self c.make_write-told.result
    (c.settle.ensures c.args.kept.now c.in_ok-change.change c.in_ok-held.ensures.entered
    ∙ ap (λ accepted. option_map (with_change c.args.place c.in_ok-change.change accepted) c.args.kept.now) c.is_accepted.ensures)
