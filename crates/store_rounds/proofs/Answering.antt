-- What a session is answered: refused without a transaction, or by few events.
use Rattle.std.proofs.Common.{◌≡◌, ℕ, ℤ, zero, suc, ◌<◌, ◌≤◌, ◌^◌, ◌&&◌, Bool, true, false, not, List, [], ◌∷◌, ◌++◌, map, length, Option, None, Some, is_some, option_map, refl, sym, ap, ◌∙◌, subst, append-nil, arith, length-append, true≢false}
use mathlib.Core.Logic.{inl, inr}
use Rattle.std.specs.Prelude.{All, slice_get, unwrap_or}
use Rattle.std.specs.Prelude.{option_to_list}
use Rattle.std.proofs.lemmas.List.Sums.{count_by-le-length}
use Rattle.std.proofs.lemmas.Bool.{and_parts}
use Rattle.std.proofs.lemmas.List.{length-map}
use Rattle.std.proofs.lemmas.List.Elements.{All-head, All-tail}
use Rattle.std.proofs.lemmas.List.FromFn.{length-range_with_len}
use Rattle.cell_model.specs.declared.table.TableDecl.{TableDecl}
use Rattle.event_spec.specs.declared.own.OwnTransaction.{OwnTransaction}
use Rattle.event_spec.specs.declared.event.Event.TheVariants as event
use Rattle.event_spec.specs.Effects.{CoreEvent}
use Rattle.event_spec.specs.Parts.{Shape, below, blocks_of}
use Rattle.workload_spec.specs.Valid.{is_key_number, is_table_place}
use Rattle.workload_spec.specs.declared.command.Command.{Command}
use Rattle.workload_spec.specs.declared.command.Command.TheVariants as command
use Rattle.workload_spec.specs.declared.reply.Said.{Said}
use Rattle.workload_spec.specs.declared.reply.Said.TheVariants as said
use Rattle.outcome_spec.specs.Forms.{is_upkeep}
use Rattle.run_laws.proofs.Rounds.Working.{nothing_called}
use Rattle.run_spec.specs.Asked.{at_blocks, events_of}
use Rattle.run_spec.specs.Calls.{Call, IsCallBy}
use Rattle.run_spec.specs.Handed.{own_in}
use Rattle.run_spec.specs.Occurrences.{Occurrence, events_in}
use Rattle.run_spec.specs.Opened.{own_after}
use Rattle.run_spec.specs.Told.{is_shared, refusal_of}
use Rattle.shared_store.specs.Store.{Answers, MakesAtMost, StoreView, own_of, seen, shape_in, taken_by, reads_of, wrote_of}
use Rattle.shared_store.proofs.Noted.{unwritten}
use Rattle.store_rounds.specs.Sessions.{IsFreeSession}
use Rattle.shared_store.specs.declared.session.Session.{Session}
use Rattle.store_rounds.specs.Answered.{Answered, most_events}
use Rattle.shared_store.specs.Reads.{ReadSet}

-- ---- refused without a transaction

-- A command that is refused without a transaction is told that it has none.
refusal_is : (command : Command) → is_some (refusal_of command None) ≡ true → refusal_of command None ≡ Some said.NoTransaction
refusal_is (command.Begin checked) some = absurd (true≢false (sym some))
refusal_is (command.Get table key) some = refl
refusal_is (command.Scan table) some = refl
refusal_is (command.Range table low high) some = refl
refusal_is (command.Total table column low high) some = refl
refusal_is (command.Insert table row) some = refl
refusal_is (command.Update table row) some = refl
refusal_is (command.Delete table key) some = refl
refusal_is command.Commit some = refl
refusal_is command.Abort some = refl
refusal_is command.Observe some = absurd (true≢false (sym some))
refusal_is command.Prune some = absurd (true≢false (sym some))
refusal_is (command.Compact table) some = absurd (true≢false (sym some))
refusal_is (command.Seal table block) some = absurd (true≢false (sym some))
refusal_is (command.Gather table block) some = absurd (true≢false (sym some))
refusal_is (command.Export table) some = refl

-- An option that is tested to have no value is none.
none_open : {X : Type 0} (o : Option X) → is_some o ≡ false → o ≡ None
none_open None none = refl
none_open (Some x) none = absurd (true≢false none)

-- a session without a transaction is told so where the command needs one
pub refused : (store : StoreView) (s : Session) (command : Command) → IsFreeSession store s
    → is_some (refusal_of command None) ≡ true → is_some (own_of s) ≡ false → Answers store s s command said.NoTransaction
refused store s command is needs closed =
    let call : Call = record { command = command; made = []; told = Some said.NoTransaction; reads = reads_of s } in
    let nothing : own_after (own_in (shape_in store) s.session (seen s)) ≡ None = sym is.stands.own ∙ none_open (own_of s) closed in
    record {
      made = [];
      keeps = refl;
      wrote = sym (unwritten [] (λ w. refl) (wrote_of s));
      called = nothing_called (shape_in store) false s.session (seen s) call refl
          (subst (λ own. IsCallBy (shape_in store) false s.session own (refusal_of command own) call) (sym nothing)
          (subst (λ told. IsCallBy (shape_in store) false s.session None told call) (sym (refusal_is command needs)) (refl, refl)));
      count = omega arith;
      ends = tt;
      reads = record { claim = refl; claimed = λ some. refl };
      took = record { parts = []; took = sym (append-nil (taken_by s)); touched = λ part has. absurd (true≢false (sym has)) };
    }

-- ---- tables

-- A place at which a table is found is below the number of tables.
table_there : (tables : List TableDecl) (table : ℕ) → is_some (slice_get tables table) ≡ true → table < length tables
table_there [] table is = absurd (true≢false (sym is))
table_there (t ∷ tables) zero is = omega arith
table_there (t ∷ tables) (suc table) is = let low = table_there tables table is in omega (arith, low)

-- a command names a table that there is
pub table_of_key : (tables : List TableDecl) (table : ℕ) (key : ℤ) → (is_table_place tables table && is_key_number key) ≡ true → table < length tables
table_of_key tables table key is = table_there tables table (and_parts (is_table_place tables table) (is_key_number key) is).0

-- so does a range
pub table_of_range : (tables : List TableDecl) (table : ℕ) (low high : ℤ) → (is_table_place tables table && is_key_number low && is_key_number high) ≡ true → table < length tables
table_of_range tables table low high is = table_of_key tables table low (and_parts (is_table_place tables table && is_key_number low) (is_key_number high) is).0

-- a table that a command may name is one of the tables
pub table_named : (tables : List TableDecl) (table : ℕ) → is_table_place tables table ≡ true → table < length tables
table_named tables table is = table_there tables table is

-- ---- by few events

-- Where each table has at most 1024 blocks, the table at a place has no more.
blocks_few : (tables : List TableDecl) (table : ℕ) → All (λ (t : TableDecl). t.blocks ≤ 2 ^ 10) tables
    → unwrap_or (option_map (λ (t : TableDecl). t.blocks) (slice_get tables table)) 0 ≤ 2 ^ 10
blocks_few [] table all = omega arith
blocks_few (t ∷ tables) zero all = All-head (λ (t : TableDecl). t.blocks ≤ 2 ^ 10) t tables all
blocks_few (t ∷ tables) (suc table) all = blocks_few tables table (All-tail (λ (t : TableDecl). t.blocks ≤ 2 ^ 10) t tables all)

-- One read for each block of a table with at most 1024 blocks makes no more events.
reads_few : (shape : Shape) (table : ℕ) (read : ℕ → CoreEvent) → blocks_of shape table ≤ 2 ^ 10 → length (at_blocks shape table read) ≤ 2 ^ 10
reads_few shape table read few =
    let each = length-map (below (blocks_of shape table)) read in
    let all = length-range_with_len 0 (blocks_of shape table) in
    omega (arith, each, all, few)

-- A thaw of one block at most, and a write, are few events.
thaw_and_write : (table : ℕ) (block : Option ℕ) (e : CoreEvent) → length (map (event.Thaw table) (option_to_list block) ++ e ∷ []) ≤ most_events
thaw_and_write table None e = omega arith
thaw_and_write table (Some block) e = omega arith

-- the events of any command but one of upkeep
events_few : (shape : Shape) (own : Option OwnTransaction) (kept : Option ReadSet) (session : ℕ) (asked : Command) (made : List Occurrence)
    → ((table : ℕ) → blocks_of shape table ≤ 2 ^ 10) → is_upkeep asked ≡ false
    → length (events_of shape own kept session asked made) ≤ most_events
events_few shape own kept session (command.Begin checked) made few other = omega arith
events_few shape None kept session (command.Get table key) made few other = omega arith
events_few shape (Some t) kept session (command.Get table key) made few other = omega arith
events_few shape None kept session (command.Scan table) made few other = omega arith
events_few shape (Some t) kept session (command.Scan table) made few other = let reads = reads_few shape table (event.Read t table) (few table) in omega (arith, reads)
events_few shape None kept session (command.Range table low high) made few other = omega arith
events_few shape (Some t) kept session (command.Range table low high) made few other = omega arith
events_few shape None kept session (command.Total table column low high) made few other = omega arith
events_few shape (Some t) kept session (command.Total table column low high) made few other = let reads = reads_few shape table (event.Read t table) (few table) in omega (arith, reads)
events_few shape None kept session (command.Insert table row) made few other = omega arith
events_few shape (Some t) kept session (command.Insert table row) made few other = omega arith
events_few shape None kept session (command.Update table row) made few other = omega arith
events_few shape (Some t) kept session (command.Update table row) made few other = thaw_and_write table _ _
events_few shape None kept session (command.Delete table key) made few other = omega arith
events_few shape (Some t) kept session (command.Delete table key) made few other = thaw_and_write table _ _
events_few shape None kept session command.Commit made few other = omega arith
events_few shape (Some t) kept session command.Commit made few other = omega arith
events_few shape None kept session command.Abort made few other = omega arith
events_few shape (Some t) kept session command.Abort made few other = omega arith
events_few shape own kept session command.Observe made few other = absurd (true≢false other)
events_few shape own kept session command.Prune made few other = absurd (true≢false other)
events_few shape own kept session (command.Compact table) made few other = absurd (true≢false other)
events_few shape own kept session (command.Seal table block) made few other = absurd (true≢false other)
events_few shape own kept session (command.Gather table block) made few other = absurd (true≢false other)
events_few shape None kept session (command.Export table) made few other = omega arith
events_few shape (Some t) kept session (command.Export table) made few other = let reads = reads_few shape table (event.Read t table) (few table) in omega (arith, reads)

-- A call of a command that is no upkeep makes few events.
made_few : (shape : Shape) (worker : Bool) (session : ℕ) (own : Option OwnTransaction) (refusal : Option Said) (call : Call)
    → ((table : ℕ) → blocks_of shape table ≤ 2 ^ 10) → is_upkeep call.command ≡ false
    → IsCallBy shape worker session own refusal call → length call.made ≤ most_events
made_few shape worker session own (Some line) call few other (none, told) = let e = ap length none in omega (arith, e)
made_few shape worker session own None call few other (inl whole) =
    let all = events_few shape own call.reads session call.command call.made few other in
    let same = ap length whole.events in
    let each = length-map call.made (λ (occurrence : Occurrence). occurrence.event) in
    omega (arith, all, same, each)
made_few shape worker session own None call few other (inr part) =
    let all = events_few shape own call.reads session call.command call.made few other in
    let same = ap length part.events in
    let parted = length-append (events_in call.made) part.missed in
    let each = length-map call.made (λ (occurrence : Occurrence). occurrence.event) in
    omega (arith, all, same, parted, each)

-- an answered command made few events
pub few_events : (store : StoreView) (old new : Session) (asked : Command) (told : Said) (exported now : Option (List ℕ))
    → All (λ (t : TableDecl). t.blocks ≤ 2 ^ 10) (shape_in store).tables
    → Answered store old new asked told exported now → MakesAtMost most_events old new
few_events store old new asked told exported now blocks answered = go (is_upkeep asked) refl
  where
    go : (b : Bool) → is_upkeep asked ≡ b → MakesAtMost most_events old new
    go true is = answered.kept_up is
    go false other =
        let few : (table : ℕ) → blocks_of (shape_in store) table ≤ 2 ^ 10 =
        λ (table : ℕ). blocks_few (shape_in store).tables table blocks in
        let made = made_few (shape_in store) false old.session (own_after (own_in (shape_in store) old.session (seen old)))
        (refusal_of asked (own_after (own_in (shape_in store) old.session (seen old))))
        (record { command = asked; made = answered.answers.made; told = Some told; reads = reads_of old }) few other answered.answers.called.is_call in
        let events = count_by-le-length (λ (occurrence : Occurrence). not (is_shared occurrence.reply)) answered.answers.made in
        omega (arith, made, events, answered.answers.count)
