use Rattle.std.proofs.Common.{◌≡◌, ℤ, None, to_z, of_z, refl, ap, sym, subst, ◌∙◌}
use Rattle.std.specs.Int.{w64}
use Rattle.std.proofs.lemmas.Int.{to_z-of_z}
use Rattle.event_spec.specs.declared.event.Event.TheVariants as event
use Rattle.event_spec.specs.Effects.{CoreEvent}
use Rattle.isolation_spec.specs.Contents.{place_at}
use Rattle.run_spec.specs.Opened.{own_key}
use Rattle.workload_spec.specs.declared.command.Command.TheVariants as command
use Rattle.shared_store.specs.Changing.{IsChangeBy, IsChangeOf, IsChangeTo}
use Rattle.shared_store.specs.Open.{WritesRow}
use Rattle.shared_store.specs.Store.{Answers, own_of, shape_in}
use Rattle.shared_store.specs.Told.{written_told}
use Rattle.shared_store.specs.Commits.{LeavesRow}
use Rattle.shared_store.proofs.Calls.{key_handed, own_open}
use Rattle.shared_store.proofs.Changed.{delete_by, delete_changes, delete_to}
use Rattle.shared_store.proofs.store.Store.delete.Goals as goal

pub change_row-requires-clause-change : goal.change_row-requires-clause-change
change_row-requires-clause-change g c =
    let st = c.args.self.now in
    let s = c.args.session.now in
    let key : ℤ = to_z w64 (of_z w64 c.args.key) in
    let o = own_open s c.requires.busy in
    let handed = key_handed c.args.table key (own_of s) o.0 c.own_key-own.result o.1 c.own_key-own.ensures in
    let is_event : c.new-event.result ≡ event.Delete (own_key c.args.table key o.0) c.args.table key =
    c.new-event.ensures ∙ ap (λ x. event.Delete x c.args.table key) handed in
    subst (λ (e : CoreEvent). IsChangeOf (shape_in st) s.session (own_of s) (place_at c.args.table key) e) (sym is_event)
    (delete_changes st s o.0 c.requires.session o.1 c.args.table key c.requires.table)

pub change_row-requires-clause-leaves : goal.change_row-requires-clause-leaves
change_row-requires-clause-leaves g c =
    let key : ℤ = to_z w64 (of_z w64 c.args.key) in
    λ some. subst (LeavesRow (place_at c.args.table key) None) (sym c.new-event.ensures) (record { own = λ own told. refl; none = λ own told. refl })

pub returns-clause-answers : goal.returns-clause-answers
returns-clause-answers g c =
    let st = c.args.self.now in
    let s = c.args.session.now in
    let key : ℤ = to_z w64 (of_z w64 c.args.key) in
    let o = own_open s c.requires.busy in
    let handed = key_handed c.args.table key (own_of s) o.0 c.own_key-own.result o.1 c.own_key-own.ensures in
    let is_event : c.new-event.result ≡ event.Delete (own_key c.args.table key o.0) c.args.table key =
    c.new-event.ensures ∙ ap (λ x. event.Delete x c.args.table key) handed in
    let by = subst (λ (e : CoreEvent). IsChangeBy (shape_in st) s.session (own_of s) (place_at c.args.table key) e (command.Delete c.args.table key)) (sym is_event)
    (delete_by st s o.0 c.requires.session o.1 c.args.table key) in
    subst (λ (k : ℤ). Answers st s c.change_row.new.session (command.Delete c.args.table k) (written_told c.args.table c.change_row.result)) (to_z-of_z w64 c.args.key c.ranges.key)
    (c.change_row.ensures.answers (command.Delete c.args.table key) by)

pub returns-clause-writes : goal.returns-clause-writes
returns-clause-writes g c =
    let st = c.args.self.now in
    let s = c.args.session.now in
    let key : ℤ = to_z w64 (of_z w64 c.args.key) in
    let o = own_open s c.requires.busy in
    let handed = key_handed c.args.table key (own_of s) o.0 c.own_key-own.result o.1 c.own_key-own.ensures in
    let is_event : c.new-event.result ≡ event.Delete (own_key c.args.table key o.0) c.args.table key =
    c.new-event.ensures ∙ ap (λ x. event.Delete x c.args.table key) handed in
    let to = subst (λ (e : CoreEvent). IsChangeTo s.session (place_at c.args.table key) None e) (sym is_event)
    (delete_to st s o.0 c.requires.session o.1 c.args.table key) in
    subst (λ (k : ℤ). WritesRow st s c.change_row.new.session (place_at c.args.table k) None c.change_row.result) (to_z-of_z w64 c.args.key c.ranges.key)
    (c.change_row.ensures.writes None to)
