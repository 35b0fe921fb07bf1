use Rattle.std.proofs.Common.{◌≡◌, ℕ, ℤ, List, rules, to_z, of_z, w64, refl, sym, ap, ◌∙◌, subst}
use Rattle.std.proofs.Math.Facts.{to_z-of_z}
use Rattle.std.specs.Prelude.{Result}
use Rattle.block_spec.specs.declared.change.Change.TheVariants as change
use Rattle.core_parts.specs.Hands.{Has, Held, MayRun}
use Rattle.event_spec.specs.declared.event.Event.TheVariants as event
use Rattle.event_spec.specs.declared.own.OwnKey.{OwnKey}
use Rattle.event_spec.specs.declared.reply.WriteFault.{WriteFault}
use Rattle.event_spec.specs.Effects.{after_change, change_judged}
use Rattle.event_spec.specs.Judged.{judged_change}
use Rattle.event_spec.specs.Lawful.{Among}
use Rattle.event_spec.specs.Parts.{Shape, ShardOf, body_at, shard_of, slot_at}
use Rattle.core_events.proofs.Changing.{refused, written_once}
use Rattle.core_events.proofs.Takes.{change_takes, changed_place, takes_at}
use Rattle.core_events.proofs.Touched.{delete_own, delete_same, delete_shard, delete_slots}
use Rattle.core_events.proofs.Decided.{change_few}
use Rattle.core_events.specs.Candidates.{candidates_in, deciding}
use Rattle.core_events.specs.Slots.{HasSlots}
use Rattle.core_events.proofs.changes.delete.Goals as goal

pub candidates-requires : goal.candidates-requires
candidates-requires c =
    let key : to_z w64 (of_z w64 c.args.key) ≡ c.args.key = to_z-of_z {w = w64} (search rules) in
    subst (λ (k : ℤ). Has c.args.shape.now c.args.held.now (ShardOf c.args.table (shard_of k))) (sym key) (delete_shard c.args.shape.now c.args.held.now c.args.own.now c.args.table c.args.key c.requires)

pub deciding-places-requires : goal.deciding-places-requires
deciding-places-requires c =
    let key : to_z w64 (of_z w64 c.args.key) ≡ c.args.key = to_z-of_z {w = w64} (search rules) in
    subst (HasSlots c.args.shape.now c.args.held.now c.args.table) (sym (c.candidates.ensures ∙ ap (candidates_in c.args.shape.now c.args.held.now c.args.table) key)) (delete_slots c.args.shape.now c.args.held.now c.args.own.now c.args.table c.args.key c.requires)

pub judge_change-requires-clause-places : goal.judge_change-requires-clause-places
judge_change-requires-clause-places c = c.deciding-places.ensures.slots

pub judge_change-requires-clause-own : goal.judge_change-requires-clause-own
judge_change-requires-clause-own c = delete_own c.args.shape.now c.args.held.now c.args.own.now c.args.table c.args.key c.requires

-- what is judged is what is judged in the core
judged_is : (sh : Shape) (hand : Held) (own : OwnKey) (t : ℕ) (key : ℤ) (m : MayRun sh (event.Delete own t key) hand) (places : List ℕ) (said : Result ℕ WriteFault)
    → said ≡ judged_change (slot_at sh m.parts t) places (λ block. (body_at sh m.parts t block).phase) own → places ≡ deciding (slot_at sh m.parts t) own.snapshot.stamp (candidates_in sh hand t key) → change_judged sh m.parts own t key ≡ said
judged_is sh hand own t key m places said is at =
    sym (change_few sh m.parts m.holds.sound own t key (λ block. (body_at sh m.parts t block).phase))
    ∙ ap (λ (ps : List ℕ). judged_change (slot_at sh m.parts t) ps (λ block. (body_at sh m.parts t block).phase) own)
    (ap (λ (ps : List ℕ). deciding (slot_at sh m.parts t) own.snapshot.stamp ps) (delete_same sh hand own t key m m.parts m.agrees) ∙ sym at) ∙ sym is

pub returns-in-Err-clause-ok : goal.returns-in-Err-clause-ok
returns-in-Err-clause-ok c =
    let key : to_z w64 (of_z w64 c.args.key) ≡ c.args.key = to_z-of_z {w = w64} (search rules) in
    let is = judged_is c.args.shape.now c.args.held.now c.args.own.now c.args.table c.args.key c.requires c.deciding-places.result.now c.judge_change.result (c.judge_change.ensures c.requires.parts c.requires.agrees) (c.deciding-places.ensures.deciding c.requires.parts c.requires.agrees ∙ ap (λ (ps : List ℕ). deciding (slot_at c.args.shape.now c.requires.parts c.args.table) c.args.own.now.snapshot.stamp ps) (c.candidates.ensures ∙ ap (candidates_in c.args.shape.now c.args.held.now c.args.table) key)) ∙ c.in-Err.is in
    refused c.args.shape.now (event.Delete c.args.own.now c.args.table c.args.key) c.args.held.now c.requires (change_judged c.args.shape.now c.requires.parts c.args.own.now c.args.table c.args.key) c.in-Err.fault
    (after_change c.args.shape.now c.requires.parts c.args.own.now c.args.table (λ old. change.Gone)) is refl refl refl

pub install-requires-clause-takes : goal.install-requires-clause-takes
install-requires-clause-takes c =
    let key : to_z w64 (of_z w64 c.args.key) ≡ c.args.key = to_z-of_z {w = w64} (search rules) in
    let s = c.requires.parts in let own = c.args.own.now in let sh = c.args.shape.now in
    let is = judged_is c.args.shape.now c.args.held.now c.args.own.now c.args.table c.args.key c.requires c.deciding-places.result.now c.judge_change.result (c.judge_change.ensures s c.requires.agrees) (c.deciding-places.ensures.deciding c.requires.parts c.requires.agrees ∙ ap (λ (ps : List ℕ). deciding (slot_at c.args.shape.now c.requires.parts c.args.table) c.args.own.now.snapshot.stamp ps) (c.candidates.ensures ∙ ap (candidates_in c.args.shape.now c.args.held.now c.args.table) key)) ∙ c.in-Ok.is in
    let thawed = c.requires.lawful.1.1 in
    let a = changed_place sh s c.requires.holds.sound own c.args.table c.args.key thawed c.in-Ok.place is in
    takes_at sh c.args.held.now s c.args.table c.in-Ok.place own.session change.Gone c.requires.agrees
    (delete_slots c.args.shape.now c.args.held.now c.args.own.now c.args.table c.args.key c.requires c.in-Ok.place (subst (Among c.in-Ok.place) (delete_same c.args.shape.now c.args.held.now c.args.own.now c.args.table c.args.key c.requires s c.requires.agrees) a)).body
    (change_takes sh s c.requires.holds.sound own c.args.table c.args.key thawed c.in-Ok.place is change.Gone refl tt)

pub returns-clause-ok : goal.returns-clause-ok
returns-clause-ok c =
    let key : to_z w64 (of_z w64 c.args.key) ≡ c.args.key = to_z-of_z {w = w64} (search rules) in
    let is = judged_is c.args.shape.now c.args.held.now c.args.own.now c.args.table c.args.key c.requires c.deciding-places.result.now c.judge_change.result (c.judge_change.ensures c.requires.parts c.requires.agrees) (c.deciding-places.ensures.deciding c.requires.parts c.requires.agrees ∙ ap (λ (ps : List ℕ). deciding (slot_at c.args.shape.now c.requires.parts c.args.table) c.args.own.now.snapshot.stamp ps) (c.candidates.ensures ∙ ap (candidates_in c.args.shape.now c.args.held.now c.args.table) key)) ∙ c.in-Ok.is in
    written_once c.args.shape.now (event.Delete c.args.own.now c.args.table c.args.key) c.args.held.now c.requires (change_judged c.args.shape.now c.requires.parts c.args.own.now c.args.table c.args.key) c.in-Ok.place
    (after_change c.args.shape.now c.requires.parts c.args.own.now c.args.table (λ old. change.Gone)) c.install.new.held is refl c.in_ok-install.ensures.ok refl
