use Rattle.std.proofs.Common.{◌+◌, ◌++◌, List, sym, subst, take-append-drop, ◌∙◌, ap₂}
use Rattle.std.specs.Prelude.{All}
use Rattle.shared_store.specs.Building.{StartsKeeping}
use Rattle.shared_store.specs.declared.session.Session.{Session}
use Rattle.shared_store.proofs.Rows.{first_has, is_store, row_parted}
use Rattle.shared_store.proofs.store.Store.raise.Goals as goal

pub open_all-requires-clause-has : goal.open_all-requires-clause-has
open_all-requires-clause-has c =
    let hall = c.in_ok-hall in
    first_has hall.hall c.args.core (c.args.sessions + c.args.workers) c.requires.passes c.requires.opening hall.ensures.hall
    hall.pass.seat hall.pass.hands hall.ensures.pass.0 hall.ensures.pass.1 hall.ensures.empty hall.ensures.rests

pub returns-clause-sessions : goal.returns-clause-sessions
returns-clause-sessions c =
    (row_parted c.in_ok-hall.hall c.args.sessions c.args.workers c.in_ok-row.row.items c.split_off.new.self.items c.in_ok-workers.workers.items c.in_ok-row.ensures.row c.in_ok-workers.ensures.items c.in_ok-workers.ensures.tail).0

pub returns-clause-row : goal.returns-clause-row
returns-clause-row c =
    (row_parted c.in_ok-hall.hall c.args.sessions c.args.workers c.in_ok-row.row.items c.split_off.new.self.items c.in_ok-workers.workers.items c.in_ok-row.ensures.row c.in_ok-workers.ensures.items c.in_ok-workers.ensures.tail).1

pub returns-clause-measures : goal.returns-clause-measures
returns-clause-measures c =
    (is_store c.in_ok-hall.hall c.args.core (c.args.sessions + c.args.workers) c.requires.passes c.requires.opening c.in_ok-hall.ensures.hall).opening.measures

pub returns-clause-keep : goal.returns-clause-keep
returns-clause-keep c =
    subst (All (StartsKeeping c.args.keeps))
    (sym (take-append-drop c.args.sessions c.in_ok-row.row.items)
    ∙ ap₂ (λ (front back : List Session). front ++ back) (sym c.in_ok-workers.ensures.items) (sym c.in_ok-workers.ensures.tail))
    c.in_ok-row.ensures.keeps
