use Rattle.std.proofs.Common.{◌≡◌, ℤ, Option, Some, refl, sym, ap, ap₂, subst, ◌∙◌}
use mathlib.Core.Logic.{inl}
use Rattle.std.specs.Int.{w64}
use Rattle.std.proofs.lemmas.Int.{to_z-of_z}
use Rattle.event_spec.specs.Effects.{CoreEvent}
use Rattle.isolation_spec.specs.declared.read.KeyRange.{KeyRange}
use Rattle.shared_store.specs.Making.{MayMake}
use Rattle.shared_store.specs.Ranging.{MayFindRange, range_read}
use Rattle.shared_store.specs.Reads.{ReadSet}
use Rattle.shared_store.specs.declared.session.Session.{Session}
use Rattle.shared_store.proofs.Calls.{may_make, own_stands}
use Rattle.shared_store.proofs.Ranged.{ranges, ranging}
use Rattle.shared_store.proofs.store.Store.range.Goals as goal

pub read_range-requires-clause-may : goal.read_range-requires-clause-may
read_range-requires-clause-may g c =
    let st = c.args.self.now in
    let s = c.args.session.now in
    let owns = own_stands st s c.own_all-own.result c.requires.session c.own_all-own.ensures in
    subst (MayMake st s.pass.seat s.pass.hands) (sym c.new-event.ensures)
    (may_make st s (ranging c.own_all-own.result c.args.table _ _) c.requires.session c.requires.room (inl (ap Some owns.0)) refl owns.1 (λ parts holds stamp. c.requires.table))

pub read_range-requires-clause-range : goal.read_range-requires-clause-range
read_range-requires-clause-range g c = (c.own_all-own.result, _, _, c.new-event.ensures)

pub returns : goal.returns
returns g c =
    let st = c.args.self.now in
    let s = c.args.session.now in
    let new : Session = record { pass = c.read_range.new.pass; session = s.session; snapshot = s.snapshot; writes = s.writes; reads = c.read_range.new.reads; kept = s.kept } in
    let asked : KeyRange = record { table = c.args.table; low = c.args.low; high = c.args.high } in
    let low = to_z-of_z w64 c.args.low c.ranges.low in
    let high = to_z-of_z w64 c.args.high c.ranges.high in
    let owns = own_stands st s c.own_all-own.result c.requires.session c.own_all-own.ensures in
    let event = c.new-event.ensures ∙ ap₂ (λ (low high : ℤ). ranging c.own_all-own.result c.args.table low high) low high in
    let range = ap₂ (λ (low high : ℤ). range_read (record { table = c.args.table; low = low; high = high }) c.read_range.result s.reads) low high in
    let finds = subst (λ (e : CoreEvent). MayFindRange st s.pass.seat s.pass.hands new.pass.seat new.pass.hands c.args.table e c.args.steps.now c.read_range.new.steps (new.pass ≡ s.pass) c.read_range.result) event c.read_range.ensures.finds in
    let by = ranges st s new c.own_all-own.result asked c.args.steps.now c.read_range.new.steps c.requires.session c.own_all-own.ensures owns.0 c.requires.table refl refl refl c.requires.busy
    c.read_range.result finds (c.read_range.ensures.reads ∙ range) (λ pass reads. subst (λ p. ◌≡◌ {A = Session} (record { pass = p; session = s.session; snapshot = s.snapshot; writes = s.writes; reads = c.read_range.new.reads; kept = s.kept }) s) (sym pass)
    (subst (λ (r : Option ReadSet). ◌≡◌ {A = Session} (record { pass = s.pass; session = s.session; snapshot = s.snapshot; writes = s.writes; reads = r; kept = s.kept }) s) (sym reads) refl)) in
    record { session = by.session; same = by.same; answers = by.answers; finds = by.finds; few = by.few; steps = by.looked }
