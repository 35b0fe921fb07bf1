use Rattle.std.proofs.Common.{◌≡◌, ◌∙◌, min, arith}
use Rattle.std.specs.Prelude.{fold}
use Rattle.std.proofs.lemmas.Grind.{common_steps}
use Rattle.std.proofs.lemmas.List.Elements.{filter_map-append}
use Rattle.txn_desk.specs.Oldest.{open_starts}
use Rattle.txn_desk.proofs.LeastStart.{fold-least}
use Rattle.txn_desk.proofs.Desk.oldest.Goals as goal
use Rattle.txn_desk.proofs.Desk.oldest.Goals.{in-Some, in_default}

pub loop-open-preserved : goal.loop-open-preserved
loop-open-preserved c =
    elim c.match-open.branch [
      | in-Some w ↦ grind (arith, common_steps, filter_map-append)
      | in_default w ↦ grind (arith, common_steps, filter_map-append)
    ]

pub returns : goal.returns
returns c =
    let all : c.loop-open.oldest ≡ fold min c.self.inside.newest (open_starts c.self.inside.open_snapshots.items) =
    grind (arith, common_steps) in
    rw (← c.self.view_is) (all ∙ fold-least c.self.inside.newest c.self.inside.open_snapshots.items c.self.invariant.begun)
