use Rattle.std.proofs.Common.{◌≡◌, Some, option_map, refl, sym, ap, subst, ◌∙◌}
use Rattle.event_spec.specs.declared.event.Event.TheVariants as event
use Rattle.event_spec.specs.Effects.{CoreEvent}
use Rattle.isolation_spec.specs.Contents.{key_of, place_of}
use Rattle.isolation_spec.specs.declared.place.Place.{Place}
use Rattle.run_spec.specs.Opened.{own_key}
use Rattle.workload_spec.specs.declared.command.Command.TheVariants as command
use Rattle.shared_store.specs.Changing.{IsChangeBy, IsChangeOf, IsChangeTo}
use Rattle.shared_store.specs.Open.{WritesRow}
use Rattle.shared_store.specs.Store.{Answers, own_of, shape_in}
use Rattle.shared_store.specs.Told.{written_told}
use Rattle.std.specs.Prelude.{IfOk}
use Rattle.shared_store.specs.Commits.{MayLeaveRow}
use Rattle.shared_store.specs.Store.{wrote_of}
use Rattle.shared_store.proofs.Noted.{leaves_copy}
use Rattle.shared_store.proofs.Calls.{key_handed, own_open}
use Rattle.shared_store.proofs.Changed.{update_by, update_changes, update_to}
use Rattle.shared_store.proofs.Wrote.{fits_there}
use Rattle.shared_store.proofs.store.Store.update.Goals as goal

pub change_row-requires-clause-change : goal.change_row-requires-clause-change
change_row-requires-clause-change g c =
    let st = c.args.self.now in
    let s = c.args.session.now in
    let o = own_open s c.requires.busy in
    let given = subst (λ (place : Place). option_map (own_key place.table place.key) (own_of s) ≡ Some c.own_key-own.result) c.place_in-place.ensures.place c.own_key-own.ensures in
    let handed = key_handed c.args.table (key_of c.args.row) (own_of s) o.0 c.own_key-own.result o.1 given in
    let is_event : c.new-event.result ≡ event.Update (own_key c.args.table (key_of c.args.row) o.0) c.args.table c.args.row =
    c.new-event.ensures ∙ ap (λ x. event.Update x c.args.table c.args.row) handed in
    let fits = fits_there (shape_in st) c.args.table c.args.row c.requires.fits in
    subst (λ (place : Place). IsChangeOf (shape_in st) s.session (own_of s) place c.new-event.result) (sym c.place_in-place.ensures.place)
    (subst (λ (e : CoreEvent). IsChangeOf (shape_in st) s.session (own_of s) (place_of c.args.table c.args.row) e) (sym is_event)
    (update_changes st s o.0 c.requires.session o.1 c.args.table c.args.row fits.0 fits.1))

pub change_row-requires-clause-leaves : goal.change_row-requires-clause-leaves
change_row-requires-clause-leaves g c =
    let s = c.args.session.now in
    subst (λ (place : Place). IfOk c.copy-copy.result (MayLeaveRow (wrote_of s) place c.new-event.result)) (sym c.place_in-place.ensures.place)
    (subst (λ (e : CoreEvent). IfOk c.copy-copy.result (MayLeaveRow (wrote_of s) (place_of c.args.table c.args.row) e)) (sym c.new-event.ensures)
    (leaves_copy c.copy-copy.result (wrote_of s) (place_of c.args.table c.args.row) c.args.row (event.Update c.own_key-own.result c.args.table c.args.row) c.copy-copy.ensures
    (record { own = λ own told. refl; none = λ own told. refl })))

pub returns-clause-answers : goal.returns-clause-answers
returns-clause-answers g c =
    let st = c.args.self.now in
    let s = c.args.session.now in
    let asked = command.Update c.args.table c.args.row in
    let o = own_open s c.requires.busy in
    let given = subst (λ (place : Place). option_map (own_key place.table place.key) (own_of s) ≡ Some c.own_key-own.result) c.place_in-place.ensures.place c.own_key-own.ensures in
    let handed = key_handed c.args.table (key_of c.args.row) (own_of s) o.0 c.own_key-own.result o.1 given in
    let is_event : c.new-event.result ≡ event.Update (own_key c.args.table (key_of c.args.row) o.0) c.args.table c.args.row =
    c.new-event.ensures ∙ ap (λ x. event.Update x c.args.table c.args.row) handed in
    let by = subst (λ (place : Place). IsChangeBy (shape_in st) s.session (own_of s) place c.new-event.result asked) (sym c.place_in-place.ensures.place)
    (subst (λ (e : CoreEvent). IsChangeBy (shape_in st) s.session (own_of s) (place_of c.args.table c.args.row) e asked) (sym is_event)
    (update_by st s o.0 c.requires.session o.1 c.args.table c.args.row)) in
    subst (λ (place : Place). Answers st s c.change_row.new.session asked (written_told place.table c.change_row.result)) c.place_in-place.ensures.place
    (c.change_row.ensures.answers asked by)

pub returns-clause-writes : goal.returns-clause-writes
returns-clause-writes g c =
    let st = c.args.self.now in
    let s = c.args.session.now in
    let o = own_open s c.requires.busy in
    let given = subst (λ (place : Place). option_map (own_key place.table place.key) (own_of s) ≡ Some c.own_key-own.result) c.place_in-place.ensures.place c.own_key-own.ensures in
    let handed = key_handed c.args.table (key_of c.args.row) (own_of s) o.0 c.own_key-own.result o.1 given in
    let is_event : c.new-event.result ≡ event.Update (own_key c.args.table (key_of c.args.row) o.0) c.args.table c.args.row =
    c.new-event.ensures ∙ ap (λ x. event.Update x c.args.table c.args.row) handed in
    let to = subst (λ (place : Place). IsChangeTo s.session place (Some c.args.row) c.new-event.result) (sym c.place_in-place.ensures.place)
    (subst (λ (e : CoreEvent). IsChangeTo s.session (place_of c.args.table c.args.row) (Some c.args.row) e) (sym is_event)
    (update_to st s o.0 c.requires.session o.1 c.args.table c.args.row)) in
    subst (λ (place : Place). WritesRow st s c.change_row.new.session place (Some c.args.row) c.change_row.result) c.place_in-place.ensures.place
    (c.change_row.ensures.writes (Some c.args.row) to)
