-- A test of all events of a command, command by command.
use Rattle.std.proofs.Common.{◌≡◌, ℕ, Bool, true, false, ◌&&◌, ◌==◌, List, [], ◌∷◌, ◌++◌, map, Option, None, Some, refl, sym, ap, ◌∙◌, subst, arith}
use mathlib.Core.Logic.{inl, inr}
use Rattle.std.specs.Prelude.{IfSome, option_and_then, option_to_list}
use Rattle.std.specs.List.{filter_map, flat_map, list_all}
use Rattle.std.proofs.lemmas.Bool.Decides.{nat_tests}
use Rattle.std.proofs.lemmas.List.Folds.{list_all-append}
use Rattle.std.proofs.lemmas.Bool.{and_from}
use Rattle.event_spec.specs.declared.event.Event.TheVariants as event
use Rattle.event_spec.specs.declared.event.MovePair.{MovePair}
use Rattle.event_spec.specs.declared.own.OwnTransaction.{OwnTransaction}
use Rattle.event_spec.specs.Effects.{CoreEvent}
use Rattle.event_spec.specs.Parts.{Shape, below, blocks_of, tables_of}
use Rattle.event_spec.specs.Plans.{plan_of}
use Rattle.isolation_spec.specs.Contents.{key_of}
use Rattle.isolation_spec.specs.Reads.{ReadSet}
use Rattle.workload_spec.specs.declared.command.Command.{Command}
use Rattle.workload_spec.specs.declared.command.Command.TheVariants as command
use Rattle.workload_spec.specs.declared.reply.Said.{Said}
use Rattle.run_spec.specs.Asked.{at_all_blocks, at_blocks, events_of, imaged_block, looks_in, moves, oldest_told, parts_before, prunes, thaws}
use Rattle.run_spec.specs.Calls.{Call, IsCallBy}
use Rattle.run_spec.specs.Occurrences.{Occurrence, events_in, replies_in}
use Rattle.run_spec.specs.Opened.{own_after}
use Rattle.run_spec.specs.Told.{refusal_of}
use Rattle.run_laws.specs.Calls.Asking.{EventsAreTheSessions, OthersAskNothing, asks_nothing, is_of}
use Rattle.run_laws.specs.Calls.Coming.{is_single}

-- True is not the same as false.
not_true : true ≡ false → ⊥
not_true e = cc

-- Of two that hold together the first does.
and_first : (a b : Bool) → (a && b) ≡ true → a ≡ true
and_first true b e = refl
and_first false b e = e

module _ (p : CoreEvent → Bool) where
  -- a test that each mapped event passes all of them pass
  pub all_map : (f : ℕ → CoreEvent) → ((n : ℕ) → p (f n) ≡ true) → (ns : List ℕ) → list_all p (map f ns) ≡ true
  all_map f each [] = refl
  all_map f each (n ∷ ns) = and_from (p (f n)) (list_all p (map f ns)) (each n) (all_map f each ns)

  -- a test that all events of each list pass those of the joined lists pass
  pub all_flat : (f : ℕ → List CoreEvent) → ((n : ℕ) → list_all p (f n) ≡ true) → (ns : List ℕ)
      → list_all p (flat_map f ns) ≡ true
  all_flat f each [] = refl
  all_flat f each (n ∷ ns) =
      list_all-append p (f n) (flat_map f ns)
      ∙ and_from (list_all p (f n)) (list_all p (flat_map f ns)) (each n) (all_flat f each ns)

  -- a test that those in front and those behind pass all pass
  pub all_append : (xs ys : List CoreEvent) → list_all p xs ≡ true → list_all p ys ≡ true → list_all p (xs ++ ys) ≡ true
  all_append xs ys e f = list_all-append p xs ys ∙ and_from (list_all p xs) (list_all p ys) e f

  -- a test that an event passes it passes alone
  pub one : (e : CoreEvent) → p e ≡ true → list_all p (e ∷ []) ≡ true
  one e h = and_from (p e) true h refl

  -- a test that the event of each block passes those of all blocks pass
  pub all_blocks : (shape : Shape) (f : ℕ → ℕ → CoreEvent) → ((table block : ℕ) → p (f table block) ≡ true)
      → list_all p (at_all_blocks shape f) ≡ true
  all_blocks shape f each = all_flat
      (λ table. at_blocks shape table (f table))
      (λ table. all_map (f table) (each table) (below (blocks_of shape table)))
      (tables_of shape)

  -- a test that each pruning passes all events of a pruning command pass
  pub all_prunes : (shape : Shape) (made : List Occurrence) → ((table block oldest : ℕ) → p (event.Prune table block oldest) ≡ true)
      → list_all p (prunes shape made) ≡ true
  all_prunes shape made each = all_flat
      (λ oldest. at_all_blocks shape (λ table block. event.Prune table block oldest))
      (λ oldest. all_blocks shape (λ table block. event.Prune table block oldest) (λ table block. each table block oldest))
      (filter_map oldest_told (replies_in made))

  -- a test that a move passes the moves of a compaction pass
  pub all_moves : (table : ℕ) (pairs : List MovePair) → ((pairs : List MovePair) → p (event.Move table pairs) ≡ true)
      → list_all p (moves table pairs) ≡ true
  all_moves table [] each = refl
  all_moves table (pair ∷ pairs) each = one (event.Move table (pair ∷ pairs)) (each (pair ∷ pairs))

  -- a test that a thaw passes the thaw of a block passes, if there is one
  pub all_thaws : (table : ℕ) (block : Option ℕ) → ((block : ℕ) → p (event.Thaw table block) ≡ true)
      → list_all p (map (event.Thaw table) (option_to_list block)) ≡ true
  all_thaws table block each = all_map (event.Thaw table) each (option_to_list block)

  -- a test that all events of the command pass, those of its call pass
  pub call_passes : (shape : Shape) (worker : Bool) (session : ℕ) (own : Option OwnTransaction) (refusal : Option Said) (call : Call)
      → list_all p (events_of shape own call.reads session call.command call.made) ≡ true
      → IsCallBy shape worker session own refusal call → list_all p (events_in call.made) ≡ true
  call_passes shape worker session own (Some refusal) call passes h =
      subst (λ (made : List Occurrence). list_all p (events_in made) ≡ true) (sym h.0) refl
  call_passes shape worker session own None call passes (inl w) = ap (list_all p) w.events ∙ passes
  call_passes shape worker session own None call passes (inr h) = and_first
      (list_all p (events_in call.made))
      (list_all p h.missed)
      (sym (list_all-append p (events_in call.made) h.missed) ∙ ap (list_all p) (sym h.events) ∙ passes)

  -- a test that each read of the open transaction passes those of a scan pass
  pub reads : (shape : Shape) (own : Option OwnTransaction) (table : ℕ)
      → ((t : OwnTransaction) → own ≡ Some t → (block : ℕ) → p (event.Read t table block) ≡ true)
      → list_all p (Rattle.run_spec.specs.Asked.by_own own (λ t. at_blocks shape table (event.Read t table))) ≡ true
  reads shape None table each = refl
  reads shape (Some t) table each = all_map (event.Read t table) (each t refl) (below (blocks_of shape table))

  -- a test that looks and moves pass the events of a compaction pass
  pub compacts : (shape : Shape) (table : ℕ) (made : List Occurrence) → ((block : ℕ) → p (event.Look table block) ≡ true)
      → ((pairs : List MovePair) → p (event.Move table pairs) ≡ true)
      → list_all p (at_blocks shape table (event.Look table) ++ moves table (plan_of (looks_in made))) ≡ true
  compacts shape table made looks each = all_append
      (at_blocks shape table (event.Look table))
      (moves table (plan_of (looks_in made)))
      (all_map (event.Look table) looks (below (blocks_of shape table)))
      (all_moves table (plan_of (looks_in made)) each)

-- The events of a scan, an export or a command of upkeep ask the machine nothing.
asks : (shape : Shape) (own : Option OwnTransaction) (handed : Option ReadSet) (session : ℕ) (asked : Command) (made : List Occurrence)
    → is_single asked ≡ false → list_all asks_nothing (events_of shape own handed session asked made) ≡ true
asks shape own handed session (command.Begin checked) made other = absurd (not_true other)
asks shape own handed session (command.Get table key) made other = absurd (not_true other)
asks shape own handed session (command.Scan table) made other = reads asks_nothing shape own table (λ t is block. refl)
asks shape own handed session (command.Range table low high) made other = absurd (not_true other)
asks shape own handed session (command.Total table column low high) made other = reads asks_nothing shape own table (λ t is block. refl)
asks shape own handed session (command.Insert table row) made other = absurd (not_true other)
asks shape own handed session (command.Update table row) made other = absurd (not_true other)
asks shape own handed session (command.Delete table key) made other = absurd (not_true other)
asks shape own handed session command.Commit made other = absurd (not_true other)
asks shape own handed session command.Abort made other = absurd (not_true other)
asks shape own handed session command.Observe made other = all_blocks asks_nothing shape event.Observe (λ table block. refl)
asks shape own handed session command.Prune made other = all_prunes asks_nothing shape made (λ table block oldest. refl)
asks shape own handed session (command.Compact table) made other = compacts asks_nothing shape table made (λ block. refl) (λ pairs. refl)
asks shape own handed session (command.Seal table block) made other = refl
asks shape own handed session (command.Gather table block) made other = refl
asks shape own handed session (command.Export table) made other = reads asks_nothing shape own table (λ t is block. refl)

-- scans, exports and upkeep ask the machine nothing
pub others_ask_nothing : OthersAskNothing
others_ask_nothing shape worker session front call other is = call_passes
    asks_nothing
    shape
    worker
    session
    (own_after front)
    (refusal_of call.command (own_after front))
    call
    (asks shape (own_after front) call.reads session call.command call.made other)
    is

-- ---- under which session

-- Numbers that are the same are tested as the same.
test_same : (a b : ℕ) → a ≡ b → (a == b) ≡ true
test_same a b e = grind (arith, nat_tests, e)

-- one event of the own transaction, with thaws in front of it
thawed : (session table : ℕ) (block : Option ℕ) (e : CoreEvent) → is_of session e ≡ true
    → list_all (is_of session) (map (event.Thaw table) (option_to_list block) ++ e ∷ []) ≡ true
thawed session table block e h = all_append
    (is_of session)
    (map (event.Thaw table) (option_to_list block))
    (e ∷ [])
    (all_thaws (is_of session) table block (λ block. refl))
    (one (is_of session) e h)

-- The open transaction, if it is of the session, is tested as of it.
owned : (session : ℕ) (own : Option OwnTransaction) (t : OwnTransaction) → IfSome own (λ t. t.session ≡ session)
    → own ≡ Some t → (t.session == session) ≡ true
owned session own t same is =
    test_same t.session session (subst (λ (o : Option OwnTransaction). IfSome o (λ t. t.session ≡ session)) is same)

-- The events of a command are of the session, where what is open is of it.
stand : (shape : Shape) (own : Option OwnTransaction) (handed : Option ReadSet) (session : ℕ) (asked : Command) (made : List Occurrence)
    → IfSome own (λ t. t.session ≡ session) → list_all (is_of session) (events_of shape own handed session asked made) ≡ true
stand shape own handed session (command.Begin checked) made same =
    one (is_of session) (event.Begin session) (test_same session session refl)
stand shape None handed session (command.Get table key) made same = refl
stand shape (Some t) handed session (command.Get table key) made same =
    and_from (t.session == session) true (test_same t.session session same) refl
stand shape own handed session (command.Scan table) made same =
    reads (is_of session) shape own table (λ t is block. owned session own t same is)
stand shape None handed session (command.Range table low high) made same = refl
stand shape (Some t) handed session (command.Range table low high) made same =
    and_from (t.session == session) true (test_same t.session session same) refl
stand shape own handed session (command.Total table column low high) made same =
    reads (is_of session) shape own table (λ t is block. owned session own t same is)
stand shape None handed session (command.Insert table row) made same = refl
stand shape (Some t) handed session (command.Insert table row) made same =
    and_from (t.session == session) true (test_same t.session session same) refl
stand shape None handed session (command.Update table row) made same = refl
stand shape (Some t) handed session (command.Update table row) made same = thawed
    session
    table
    (option_and_then (imaged_block shape table (key_of row)) (parts_before made))
    (event.Update (Rattle.run_spec.specs.Opened.own_key table (key_of row) t) table row)
    (test_same t.session session same)
stand shape None handed session (command.Delete table key) made same = refl
stand shape (Some t) handed session (command.Delete table key) made same = thawed
    session
    table
    (option_and_then (imaged_block shape table key) (parts_before made))
    (event.Delete (Rattle.run_spec.specs.Opened.own_key table key t) table key)
    (test_same t.session session same)
stand shape None handed session command.Commit made same = refl
stand shape (Some t) handed session command.Commit made same =
    and_from (t.session == session) true (test_same t.session session same) refl
stand shape None handed session command.Abort made same = refl
stand shape (Some t) handed session command.Abort made same =
    and_from (t.session == session) true (test_same t.session session same) refl
stand shape own handed session command.Observe made same =
    all_blocks (is_of session) shape event.Observe (λ table block. refl)
stand shape own handed session command.Prune made same =
    all_prunes (is_of session) shape made (λ table block oldest. refl)
stand shape own handed session (command.Compact table) made same =
    compacts (is_of session) shape table made (λ block. refl) (λ pairs. refl)
stand shape own handed session (command.Seal table block) made same = refl
stand shape own handed session (command.Gather table block) made same = refl
stand shape own handed session (command.Export table) made same =
    reads (is_of session) shape own table (λ t is block. owned session own t same is)

-- the events of a call are of its own session
pub events_are_the_sessions : EventsAreTheSessions
events_are_the_sessions shape worker session front call same is = call_passes
    (is_of session)
    shape
    worker
    session
    (own_after front)
    (refusal_of call.command (own_after front))
    call
    (stand shape (own_after front) call.reads session call.command call.made same)
    is
