use Rattle.std.proofs.Common.{◌≡◌, ℕ, ℤ, List, Option, rules, to_z, of_z, w64, refl, sym, ap, ◌∙◌, subst}
use Rattle.std.proofs.Math.Facts.{to_z-of_z}
use Rattle.std.specs.Prelude.{Result, unwrap_or}
use Rattle.block_layout.specs.Place.{block_of, slot_of}
use Rattle.block_spec.specs.declared.change.Change.TheVariants as change
use Rattle.block_spec.specs.Slots.{Row}
use Rattle.core_parts.specs.Hands.{Has, Held, MayRun, after}
use Rattle.event_spec.specs.declared.event.Event.TheVariants as event
use Rattle.event_spec.specs.declared.own.OwnKey.{OwnKey}
use Rattle.event_spec.specs.declared.reply.WriteFault.{WriteFault}
use Rattle.event_spec.specs.Effects.{after_change, change_judged}
use Rattle.event_spec.specs.Judged.{differences, judged_change}
use Rattle.event_spec.specs.Lawful.{Among}
use Rattle.event_spec.specs.Parts.{Shape, ShardOf, body_at, shard_of, slot_at}
use Rattle.isolation_spec.specs.Contents.{key_of}
use Rattle.core_events.proofs.Changing.{refused, written_once}
use Rattle.core_events.proofs.Takes.{change_takes, changed_place, changes, patch_fits, takes_at}
use Rattle.core_events.proofs.Touched.{update_own, update_same, update_shard, update_slots}
use Rattle.core_events.proofs.Decided.{change_few}
use Rattle.core_events.specs.Candidates.{candidates_in, deciding}
use Rattle.core_events.specs.Slots.{HasSlots}
use Rattle.core_laws.proofs.Events.Fitting.{fits_columns}
use Rattle.block_spec.specs.Fitting.{ChangeFits}
use Rattle.std.proofs.Common.{[]}
use Rattle.block_spec.specs.Slots.{written}
use Rattle.block_spec.specs.Bodies.{with_slot}
use Rattle.core_events.specs.Writes.{of_body}
use Rattle.core_events.proofs.changes.update.Goals as goal

pub candidates-requires : goal.candidates-requires
candidates-requires g c =
    let key : to_z w64 (of_z w64 c.key_of-key.result) ≡ key_of c.args.row = to_z-of_z {w = w64} (search rules) ∙ c.key_of-key.ensures in
    subst (λ (k : ℤ). Has c.args.shape.now c.args.held.now (ShardOf c.args.table (shard_of k))) (sym key) (update_shard c.args.shape.now c.args.held.now c.args.own.now c.args.table c.args.row c.requires)

pub deciding-places-requires : goal.deciding-places-requires
deciding-places-requires g c =
    let key : to_z w64 (of_z w64 c.key_of-key.result) ≡ key_of c.args.row = to_z-of_z {w = w64} (search rules) ∙ c.key_of-key.ensures in
    subst (HasSlots c.args.shape.now c.args.held.now c.args.table) (sym (c.candidates.ensures ∙ ap (candidates_in c.args.shape.now c.args.held.now c.args.table) key)) (update_slots c.args.shape.now c.args.held.now c.args.own.now c.args.table c.args.row c.requires)

pub judge_change-requires-clause-places : goal.judge_change-requires-clause-places
judge_change-requires-clause-places g c = c.deciding-places.ensures.slots

pub judge_change-requires-clause-own : goal.judge_change-requires-clause-own
judge_change-requires-clause-own g c = update_own c.args.shape.now c.args.held.now c.args.own.now c.args.table c.args.row c.requires

-- what is judged is what is judged in the core
judged_is : (sh : Shape) (hand : Held) (own : OwnKey) (t : ℕ) (row : Row) (m : MayRun sh (event.Update own t row) hand) (places : List ℕ) (said : Result ℕ WriteFault)
    → said ≡ judged_change (slot_at sh m.parts t) places (λ block. (body_at sh m.parts t block).phase) own → places ≡ deciding (slot_at sh m.parts t) own.snapshot.stamp (candidates_in sh hand t (key_of row)) → change_judged sh m.parts own t (key_of row) ≡ said
judged_is sh hand own t row m places said is at =
    sym (change_few sh m.parts m.holds.sound own t (key_of row) (λ block. (body_at sh m.parts t block).phase))
    ∙ ap (λ (ps : List ℕ). judged_change (slot_at sh m.parts t) ps (λ block. (body_at sh m.parts t block).phase) own)
    (ap (λ (ps : List ℕ). deciding (slot_at sh m.parts t) own.snapshot.stamp ps) (update_same sh hand own t row m m.parts m.agrees) ∙ sym at) ∙ sym is

pub returns-in-Err-clause-ok : goal.returns-in-Err-clause-ok
returns-in-Err-clause-ok g c =
    let key : to_z w64 (of_z w64 c.key_of-key.result) ≡ key_of c.args.row = to_z-of_z {w = w64} (search rules) ∙ c.key_of-key.ensures in
    let is = judged_is c.args.shape.now c.args.held.now c.args.own.now c.args.table c.args.row c.requires c.deciding-places.result.now c.judge_change.result (c.judge_change.ensures c.requires.parts c.requires.agrees) (c.deciding-places.ensures.deciding c.requires.parts c.requires.agrees ∙ ap (λ (ps : List ℕ). deciding (slot_at c.args.shape.now c.requires.parts c.args.table) c.args.own.now.snapshot.stamp ps) (c.candidates.ensures ∙ ap (candidates_in c.args.shape.now c.args.held.now c.args.table) key)) ∙ c.in-Err.is in
    refused c.args.shape.now (event.Update c.args.own.now c.args.table c.args.row) c.args.held.now c.requires (change_judged c.args.shape.now c.requires.parts c.args.own.now c.args.table (key_of c.args.row)) c.in-Err.fault
    (after_change c.args.shape.now c.requires.parts c.args.own.now c.args.table (λ old. change.Patch (differences 0 old c.args.row))) is refl refl refl

pub changed_at-requires-clause-slot : goal.changed_at-requires-clause-slot
changed_at-requires-clause-slot g c =
    let key : to_z w64 (of_z w64 c.key_of-key.result) ≡ key_of c.args.row = to_z-of_z {w = w64} (search rules) ∙ c.key_of-key.ensures in
    let is = judged_is c.args.shape.now c.args.held.now c.args.own.now c.args.table c.args.row c.requires c.deciding-places.result.now c.judge_change.result (c.judge_change.ensures c.requires.parts c.requires.agrees) (c.deciding-places.ensures.deciding c.requires.parts c.requires.agrees ∙ ap (λ (ps : List ℕ). deciding (slot_at c.args.shape.now c.requires.parts c.args.table) c.args.own.now.snapshot.stamp ps) (c.candidates.ensures ∙ ap (candidates_in c.args.shape.now c.args.held.now c.args.table) key)) ∙ c.in-Ok.is in
    let a = changed_place c.args.shape.now c.requires.parts c.requires.holds.sound c.args.own.now c.args.table (key_of c.args.row) c.requires.lawful.1.2 c.in-Ok.place is in
    update_slots c.args.shape.now c.args.held.now c.args.own.now c.args.table c.args.row c.requires c.in-Ok.place (subst (Among c.in-Ok.place) (update_same c.args.shape.now c.args.held.now c.args.own.now c.args.table c.args.row c.requires c.requires.parts c.requires.agrees) a)

pub install-requires-clause-takes : goal.install-requires-clause-takes
install-requires-clause-takes g c =
    let key : to_z w64 (of_z w64 c.key_of-key.result) ≡ key_of c.args.row = to_z-of_z {w = w64} (search rules) ∙ c.key_of-key.ensures in
    let s = c.requires.parts in let own = c.args.own.now in let sh = c.args.shape.now in
    let is = judged_is c.args.shape.now c.args.held.now c.args.own.now c.args.table c.args.row c.requires c.deciding-places.result.now c.judge_change.result (c.judge_change.ensures c.requires.parts c.requires.agrees) (c.deciding-places.ensures.deciding c.requires.parts c.requires.agrees ∙ ap (λ (ps : List ℕ). deciding (slot_at c.args.shape.now c.requires.parts c.args.table) c.args.own.now.snapshot.stamp ps) (c.candidates.ensures ∙ ap (candidates_in c.args.shape.now c.args.held.now c.args.table) key)) ∙ c.in-Ok.is in
    let thawed = c.requires.lawful.1.2 in
    let a = changed_place sh s c.requires.holds.sound own c.args.table (key_of c.args.row) thawed c.in-Ok.place is in
    let row = changes sh s c.requires.holds.sound own c.args.table (key_of c.args.row) thawed c.in-Ok.place is in
    let patch = c.in_ok-patch.ensures.patch s c.requires.agrees ∙ ap (λ (o : Option Row). differences 0 (unwrap_or o []) c.args.row) row.row_is in
    takes_at sh c.args.held.now s c.args.table c.in-Ok.place own.session (change.Patch c.in_ok-patch.patch) c.requires.agrees
    (update_slots c.args.shape.now c.args.held.now c.args.own.now c.args.table c.args.row c.requires c.in-Ok.place (subst (Among c.in-Ok.place) (update_same c.args.shape.now c.args.held.now c.args.own.now c.args.table c.args.row c.requires s c.requires.agrees) a)).body
    (change_takes sh s c.requires.holds.sound own c.args.table (key_of c.args.row) thawed c.in-Ok.place is (change.Patch c.in_ok-patch.patch) refl
    (subst (λ ds. ChangeFits (body_at sh s c.args.table (block_of c.in-Ok.place)).columns (change.Patch ds)) (sym patch)
    (patch_fits sh s c.requires.holds.sound own c.args.table (key_of c.args.row) thawed c.in-Ok.place is c.args.row (fits_columns sh c.args.table c.args.row c.requires.lawful.1.0 c.requires.lawful.1.1))))

pub returns-clause-ok : goal.returns-clause-ok
returns-clause-ok g c =
    let key : to_z w64 (of_z w64 c.key_of-key.result) ≡ key_of c.args.row = to_z-of_z {w = w64} (search rules) ∙ c.key_of-key.ensures in
    let is = judged_is c.args.shape.now c.args.held.now c.args.own.now c.args.table c.args.row c.requires c.deciding-places.result.now c.judge_change.result (c.judge_change.ensures c.requires.parts c.requires.agrees) (c.deciding-places.ensures.deciding c.requires.parts c.requires.agrees ∙ ap (λ (ps : List ℕ). deciding (slot_at c.args.shape.now c.requires.parts c.args.table) c.args.own.now.snapshot.stamp ps) (c.candidates.ensures ∙ ap (candidates_in c.args.shape.now c.args.held.now c.args.table) key)) ∙ c.in-Ok.is in
    written_once c.args.shape.now (event.Update c.args.own.now c.args.table c.args.row) c.args.held.now c.requires (change_judged c.args.shape.now c.requires.parts c.args.own.now c.args.table (key_of c.args.row)) c.in-Ok.place
    (after_change c.args.shape.now c.requires.parts c.args.own.now c.args.table (λ old. change.Patch (differences 0 old c.args.row))) c.install.new.held is refl
    (c.in_ok-install.ensures.ok ∙ ap (λ ds. after c.args.shape.now (of_body c.args.table (block_of c.in-Ok.place) (with_slot (slot_of c.in-Ok.place) (written c.args.own.now.session (change.Patch ds)))) c.args.held.now)
    (c.in_ok-patch.ensures.patch c.requires.parts c.requires.agrees)) refl
