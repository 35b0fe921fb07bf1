use Rattle.std.proofs.Common.{ℕ, ◌≤◌, ◌^◌, List, length, None, Some, Option, arith}
use Rattle.std.specs.Prelude.{All}
use Rattle.std.proofs.lemmas.List.{length-map}
use Rattle.std.proofs.lemmas.List.FromFn.{length-range_with_len}
use Rattle.cell_model.specs.declared.table.TableDecl.{TableDecl}
use Rattle.event_spec.specs.declared.event.Event.TheVariants as event
use Rattle.event_spec.specs.declared.own.OwnTransaction.{OwnTransaction}
use Rattle.event_spec.specs.Effects.{CoreEvent}
use Rattle.event_spec.specs.Parts.{Shape, below, blocks_of}
use Rattle.run_spec.specs.Asked.{events_of}
use Rattle.run_spec.specs.Occurrences.{Occurrence}
use Rattle.isolation_spec.specs.Reads.{ReadSet}
use Rattle.shared_store.specs.Store.{Answers, MakesAtMost, StoreView, reads_of, shape_in}
use Rattle.shared_store.specs.declared.session.Session.{Session}
use Rattle.workload_spec.specs.declared.command.Command.TheVariants as command
use Rattle.workload_spec.specs.declared.reply.Said.{Said}
use Rattle.store_rounds.proofs.Kept.{blocks_few, few_made}
use Rattle.store_trials.proofs.exports.break_off.Goals as goal

-- an export reads each block of its table once, of which there are few
reads_few : (shape : Shape) (own : Option OwnTransaction) (kept : Option ReadSet) (session : ℕ) (made : List Occurrence)
    → blocks_of shape 0 ≤ 2 ^ 10 → length (events_of shape own kept session (command.Export 0) made) ≤ 2 ^ 10
reads_few shape None kept session made few = omega arith
reads_few shape (Some t) kept session made few =
    let each = length-map {B = CoreEvent} (below (blocks_of shape 0)) (event.Read t 0) in
    let all = length-range_with_len 0 (blocks_of shape 0) in
    omega (arith, each, all, few)

export_few : (store : StoreView) (old new : Session) (told : Said) → All (λ (t : TableDecl). t.blocks ≤ 2 ^ 10) (shape_in store).tables
    → Answers store old new (command.Export 0) told → MakesAtMost (2 ^ 10) old new
export_few store old new told few answers =
    few_made store old new (command.Export 0) told (2 ^ 10) (λ own made. reads_few (shape_in store) own (reads_of old) old.session made (blocks_few (shape_in store).tables 0 few)) answers

pub export_uncounted-again-requires-clause-room : goal.export_uncounted-again-requires-clause-room
export_uncounted-again-requires-clause-room g c =
    let begun = c.begin.ensures.few in
    let one = export_few c.args.store.now c.begin.new.session c.export_uncounted-first.new.session _ c.tables-tables.ensures.few c.export_uncounted-first.ensures.exports.answers in
    let room = c.requires.room in
    omega (arith, begun, one, room)

pub returns-clause-few : goal.returns-clause-few
returns-clause-few g c =
    let begun = c.begin.ensures.few in
    let one = export_few c.args.store.now c.begin.new.session c.export_uncounted-first.new.session _ c.tables-tables.ensures.few c.export_uncounted-first.ensures.exports.answers in
    let two = export_few c.args.store.now c.export_uncounted-first.new.session c.export_uncounted-again.new.session _ c.tables-tables.ensures.few c.export_uncounted-again.ensures.exports.answers in
    omega (arith, begun, one, two)
