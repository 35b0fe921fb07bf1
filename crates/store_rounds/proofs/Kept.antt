-- A command of upkeep: what it names, and by how few events it is carried out.
use Rattle.std.proofs.Common.{◌≡◌, ℕ, zero, suc, ◌+◌, ◌*◌, ◌<◌, ◌≤◌, ◌^◌, true, false, not, List, [], ◌∷◌, length, Option, None, Some, is_some, refl, sym, ap, arith, length-append, true≢false}
use mathlib.Core.Logic.{inl, inr}
use Rattle.std.specs.List.{flat_map, range_with_len}
use Rattle.std.specs.Prelude.{All, option_map, slice_get, unwrap_or}
use Rattle.std.proofs.lemmas.List.Sums.{count_by-le-length}
use Rattle.std.proofs.lemmas.List.{length-map}
use Rattle.std.proofs.lemmas.List.Elements.{All-head, All-tail}
use Rattle.std.proofs.lemmas.List.FromFn.{length-range_with_len}
use Rattle.cell_model.specs.declared.table.TableDecl.{TableDecl}
use Rattle.event_spec.specs.declared.own.OwnTransaction.{OwnTransaction}
use Rattle.event_spec.specs.declared.event.Event.TheVariants as event
use Rattle.event_spec.specs.Effects.{CoreEvent}
use Rattle.event_spec.specs.Parts.{Shape, below, blocks_of}
use Rattle.outcome_spec.specs.Forms.{is_upkeep}
use Rattle.run_spec.specs.Asked.{at_all_blocks, at_blocks, events_of}
use Rattle.run_spec.specs.Calls.{Call, IsCallBy}
use Rattle.run_spec.specs.Handed.{own_in}
use Rattle.run_spec.specs.Occurrences.{Occurrence, events_in}
use Rattle.run_spec.specs.Opened.{own_after}
use Rattle.run_spec.specs.Told.{is_shared, refusal_of}
use Rattle.shared_store.specs.Store.{Answers, MakesAtMost, StoreView, most_blocks, seen, shape_in, reads_of}
use Rattle.shared_store.specs.declared.session.Session.{Session}
use Rattle.workload_spec.specs.Valid.{is_table_place}
use Rattle.workload_spec.specs.declared.command.Command.{Command}
use Rattle.workload_spec.specs.declared.command.Command.TheVariants as command
use Rattle.workload_spec.specs.declared.reply.Said.{Said}

-- ---- what it names

-- A place at which a table is found is below the number of tables.
table_there : (tables : List TableDecl) (table : ℕ) → is_some (slice_get tables table) ≡ true → table < length tables
table_there [] table is = absurd (true≢false (sym is))
table_there (t ∷ tables) zero is = omega arith
table_there (t ∷ tables) (suc table) is = let low = table_there tables table is in omega (arith, low)

-- a compaction names a table that there is
pub table_named : (tables : List TableDecl) (table : ℕ) → is_table_place tables table ≡ true → table < length tables
table_named tables table is = table_there tables table is

-- upkeep is refused to nobody
pub upkeep_free : (command : Command) (own : Option OwnTransaction) → is_upkeep command ≡ true → refusal_of command own ≡ None
upkeep_free command.Observe own is = refl
upkeep_free command.Prune own is = refl
upkeep_free (command.Compact table) own is = refl
upkeep_free (command.Seal table block) own is = refl
upkeep_free (command.Gather table block) own is = refl
upkeep_free (command.Begin checked) own is = absurd (true≢false (sym is))
upkeep_free (command.Get table key) own is = absurd (true≢false (sym is))
upkeep_free (command.Scan table) own is = absurd (true≢false (sym is))
upkeep_free (command.Range table low high) own is = absurd (true≢false (sym is))
upkeep_free (command.Total table column low high) own is = absurd (true≢false (sym is))
upkeep_free (command.Insert table row) own is = absurd (true≢false (sym is))
upkeep_free (command.Update table row) own is = absurd (true≢false (sym is))
upkeep_free (command.Delete table key) own is = absurd (true≢false (sym is))
upkeep_free command.Commit own is = absurd (true≢false (sym is))
upkeep_free command.Abort own is = absurd (true≢false (sym is))
upkeep_free (command.Export table) own is = absurd (true≢false (sym is))

-- what is there is not nothing
pub none_is_some : {X : Type 0} (x : X) → Some x ≡ None → ⊥
none_is_some x e = cc

-- ---- by few events

-- a table has few blocks
pub blocks_few : (tables : List TableDecl) (table : ℕ) → All (λ (t : TableDecl). t.blocks ≤ 2 ^ 10) tables
    → unwrap_or (option_map (λ (t : TableDecl). t.blocks) (slice_get tables table)) 0 ≤ 2 ^ 10
blocks_few [] table all = omega arith
blocks_few (t ∷ tables) zero all = All-head (λ (t : TableDecl). t.blocks ≤ 2 ^ 10) t tables all
blocks_few (t ∷ tables) (suc table) all = blocks_few tables table (All-tail (λ (t : TableDecl). t.blocks ≤ 2 ^ 10) t tables all)

-- and so does an event for each block of each table, of which there are few
sweeps_few : (shape : Shape) (event : ℕ → ℕ → CoreEvent) → All (λ (t : TableDecl). t.blocks ≤ 2 ^ 10) shape.tables → length shape.tables ≤ 16
    → length (at_all_blocks shape event) ≤ most_blocks
sweeps_few shape event few many =
    let all = go 0 (length shape.tables) in
    omega (arith, all, many)
  where
    go : (a n : ℕ) → length (flat_map (λ table. at_blocks shape table (event table)) (range_with_len a n)) ≤ 2 ^ 10 * n
    go a zero = omega arith
    go a (suc n) =
        let rest = go (a + 1) n in
        let blocks = blocks_few shape.tables a few in
        let each = length-map (below (blocks_of shape a)) (event a) in
        let numbers = length-range_with_len 0 (blocks_of shape a) in
        let both = length-append (at_blocks shape a (event a)) (flat_map (λ table. at_blocks shape table (event table)) (range_with_len (a + 1) n)) in
        omega (arith, rest, blocks, each, numbers, both)

-- a call makes no more events than it is asked
made_few : (shape : Shape) (session : ℕ) (own : Option OwnTransaction) (refusal : Option Said) (call : Call) (most : ℕ)
    → length (events_of shape own call.reads session call.command call.made) ≤ most → IsCallBy shape false session own refusal call → length call.made ≤ most
made_few shape session own (Some line) call most few (none, told) = let nothing = ap length none in omega (arith, nothing)
made_few shape session own None call most few (inl whole) =
    let same = ap length whole.events in
    let each = length-map call.made (λ (occurrence : Occurrence). occurrence.event) in
    omega (arith, few, same, each)
made_few shape session own None call most few (inr part) =
    let same = ap length part.events in
    let parted = length-append (events_in call.made) part.missed in
    let each = length-map call.made (λ (occurrence : Occurrence). occurrence.event) in
    omega (arith, few, same, parted, each)

-- a command that is carried out by few events makes few
pub few_made : (store : StoreView) (old new : Session) (command : Command) (told : Said) (most : ℕ)
    → ((own : Option OwnTransaction) (made : List Occurrence) → length (events_of (shape_in store) own (reads_of old) old.session command made) ≤ most)
    → Answers store old new command told → MakesAtMost most old new
few_made store old new command told most few answers =
    let own : Option OwnTransaction = own_after (own_in (shape_in store) old.session (seen old)) in
    let made = made_few (shape_in store) old.session own (refusal_of command own) (record { command = command; made = answers.made; told = Some told; reads = reads_of old }) most
    (few own answers.made) answers.called.is_call in
    let events = count_by-le-length (λ (occurrence : Occurrence). not (is_shared occurrence.reply)) answers.made in
    omega (arith, made, events, answers.count)

-- an observe makes one for each block, and a seal or a gathering makes one
pub observe_few : (store : StoreView) (old new : Session) (told : Said) → All (λ (t : TableDecl). t.blocks ≤ 2 ^ 10) (shape_in store).tables → length (shape_in store).tables ≤ 16
    → Answers store old new command.Observe told → MakesAtMost most_blocks old new
observe_few store old new told few many answers =
    few_made store old new command.Observe told most_blocks (λ own made. sweeps_few (shape_in store) event.Observe few many) answers

-- a seal makes one event at most
pub seal_few : (store : StoreView) (old new : Session) (table block : ℕ) (told : Said) → Answers store old new (command.Seal table block) told → MakesAtMost 1 old new
seal_few store old new table block told answers = few_made store old new (command.Seal table block) told 1 (λ own made. omega arith) answers

-- and so does a gather
pub gather_few : (store : StoreView) (old new : Session) (table block : ℕ) (told : Said) → Answers store old new (command.Gather table block) told → MakesAtMost 1 old new
gather_few store old new table block told answers = few_made store old new (command.Gather table block) told 1 (λ own made. omega arith) answers
