-- A line comes about at its call's last event.
use Rattle.std.proofs.Common.{◌≡◌, ◌⊎◌, ℕ, zero, suc, ◌-◌, ◌<◌, ◌≤◌, nat_lt, Bool, true, false, cond, List, [], ◌∷◌, ◌++◌, length, map, Option, None, Some, option_map, is_some, is_none, refl, sym, ap, ◌∙◌, subst, arith, append_assoc, ℤ}
use mathlib.Core.Logic.{inl, inr}
use Rattle.std.specs.Prelude.{IfSome, IsSome, fold, slice_get}
use Rattle.std.specs.List.{flat_map, list_all, list_any, range_with_len}
use Rattle.std.specs.Option.{option_map_or}
use Rattle.std.proofs.lemmas.Bool.Decides.{nat_tests}
use Rattle.std.proofs.lemmas.List.Sums.{fold-append}
use Rattle.std.proofs.lemmas.Option.{slice_get_past}
use Rattle.std.proofs.lemmas.Bool.{and_from}
use Rattle.block_spec.specs.Slots.{Row}
use Rattle.cell_model.specs.declared.table.TableDecl.{TableDecl}
use Rattle.run_laws.specs.Counts.Numbers.{IsNarrow}
use Rattle.core_laws.specs.Events.Laws.{IsStep, command_in}
use Rattle.core_laws.specs.Events.Named.{FollowsMachine}
use Rattle.event_spec.specs.declared.event.Event.TheVariants as event
use Rattle.event_spec.specs.declared.own.OwnTransaction.{OwnTransaction}
use Rattle.event_spec.specs.Lawful.{Among, OwnsAll, reads_handed}
use Rattle.event_spec.specs.Replies.{CoreReply}
use Rattle.event_spec.specs.Parts.{Parts, Shape, below, blocks_of, desk_at}
use Rattle.event_spec.specs.Sound.{Sound}
use Rattle.isolation_spec.specs.Contents.{contents_of, numbers_between}
use Rattle.isolation_spec.specs.Machine.{IsolationMachine, Transaction, seen_rows, step, step_of, told_total, transaction_of}
use Rattle.isolation_spec.specs.Checked.{step_with}
use Rattle.isolation_spec.specs.Store.{Answered, IsRead, Memory}
use Rattle.isolation_spec.specs.declared.command.Act.{Act}
use Rattle.isolation_spec.specs.declared.command.Answer.{Answer}
use Rattle.isolation_spec.specs.declared.command.Act.TheVariants as act
use Rattle.isolation_spec.specs.declared.command.Answer.TheVariants as answer
use Rattle.isolation_spec.specs.declared.command.Command.{Command as Request}
use Rattle.isolation_spec.specs.Reads.{ReadSet}
use Rattle.outcome_spec.specs.Entries.{Entry, thread}
use Rattle.outcome_spec.specs.Forms.{is_upkeep, is_worker}
use Rattle.outcome_spec.specs.Stale.{reads_after}
use Rattle.timeline_spec.specs.Timeline.{Answers, ExportsBy, Takes, is_of_upkeep, request_of, said_of}
use Rattle.workload_spec.specs.declared.command.Command.{Command}
use Rattle.workload_spec.specs.declared.command.Command.TheVariants as command
use Rattle.workload_spec.specs.declared.reply.Said.{Said}
use Rattle.workload_spec.specs.declared.reply.Said.TheVariants as said
use Rattle.workload_spec.specs.declared.reply.Who.{Who}
use Rattle.workload_spec.specs.declared.reply.Who.TheVariants.{Session, Worker}
use Rattle.workload_spec.specs.declared.script.Script.{Script}
use Rattle.workload_spec.specs.Valid.{are_bounds_in, is_command, is_total}
use Rattle.run_spec.specs.Asked.{at_blocks, events_of}
use Rattle.run_spec.specs.Calls.{Call, IsCall, IsCallBy, IsPart, IsWhole, is_refused}
use Rattle.run_spec.specs.Occurrences.{Occurrence, events_in, replies_in, under}
use Rattle.run_spec.specs.Opened.{own_after, own_behind}
use Rattle.run_spec.specs.Ran.{IsRunnable, shape_of}
use Rattle.run_spec.specs.Told.{in_key_order, line_of, refusal_of, rows_told}
use Rattle.run_laws.proofs.Calls.Along.{and_first, and_second}
use Rattle.run_laws.proofs.Calls.Asking.{others_ask_nothing}
use Rattle.run_laws.proofs.Calls.Coming.{lines_come_about}
use Rattle.run_laws.proofs.Calls.Upkeep.{upkeep_is_told_so}
use Rattle.run_laws.specs.Calls.Asking.{asks_nothing}
use Rattle.run_laws.specs.Calls.Coming.{EndsAt, is_single}
use Rattle.run_laws.specs.Calls.Open.{OpenAs}
use Rattle.run_laws.specs.Calls.Upkeep.{AreReplied}
use Rattle.store_laws.proofs.Permuted.{ordered_rows_are_the_rows}
use Rattle.store_laws.proofs.Scans.{reads_are_the_scan}
use Rattle.store_laws.proofs.Totals.{totals_go_by_the_rows}
use Rattle.run_laws.proofs.Told.Tells.{calls_go_on_quietly}
use Rattle.run_laws.specs.Told.Laws.{is_quiet}
use Rattle.run_laws.specs.Moments.Laws.{IsAsked, command_told}
use Rattle.run_laws.specs.Moments.Moments.{who_at}
use Rattle.run_laws.proofs.Moments.Seats.{either, session_at, worker_at}
use Rattle.run_laws.specs.Explained.Reads.{ReadsStandIn, Stands}
use Rattle.store_laws.specs.Stretches.{reads_block}
use Rattle.run_laws.proofs.Explained.Keys.{SameKeys, quiet_own}
use Rattle.run_laws.proofs.Explained.Rereading.{read_together}
use Rattle.run_laws.proofs.Explained.Scripts.{session_asked, worker_upkeep}

-- What is true is not false.
true_false : true ≡ false → ⊥
true_false e = cc

-- What is told as one of two lines and as the other is one line.
same_line : (a b : Said) → Some a ≡ Some b → a ≡ b
same_line a b e = cc

-- ---- what a session has open when a call ends

-- Quiet events one after another leave what was open in front of them.
quiet_after : (own : Option OwnTransaction) (xs : List Occurrence) → list_all is_quiet (events_in xs) ≡ true
    → fold (λ own (o : Occurrence). own_behind own o.event o.reply) own xs ≡ own
quiet_after own [] q = refl
quiet_after own (x ∷ xs) q =
    ap (λ o. fold (λ own (o : Occurrence). own_behind own o.event o.reply) o xs) (quiet_own own x.event x.reply (and_first (is_quiet x.event) (list_all is_quiet (events_in xs)) q))
    ∙ quiet_after own xs (and_second (is_quiet x.event) (list_all is_quiet (events_in xs)) q)

-- quiet events leave what a session has open
pub own_same : (began done : List Occurrence) → list_all is_quiet (events_in done) ≡ true → own_after (began ++ done) ≡ own_after began
own_same began done q = fold-append (λ own (o : Occurrence). own_behind own o.event o.reply) None began done ∙ quiet_after (own_after began) done q

-- a call's events but the last are quiet
pub front_quiet : (shape : Shape) (worker : Bool) (seat : ℕ) (began : List Occurrence) (call : Call) (pre xs : List Occurrence) (last : Occurrence)
    → IsCall shape worker seat began call → call.made ≡ pre ++ (xs ++ last ∷ []) → list_all is_quiet (events_in xs) ≡ true
front_quiet shape worker seat began call pre [] last is all = refl
front_quiet shape worker seat began call pre (x ∷ xs) last is all = and_from (is_quiet x.event) (list_all is_quiet (events_in xs)) (here xs all)
    (front_quiet shape worker seat began call (pre ++ x ∷ []) xs last is (all ∙ sym (append_assoc pre (x ∷ []) (xs ++ last ∷ []))))
  where
    here : (xs : List Occurrence) → call.made ≡ pre ++ (x ∷ xs ++ last ∷ []) → is_quiet x.event ≡ true
    here [] all = calls_go_on_quietly shape worker seat began call pre x last [] is all
    here (y ∷ ys) all = calls_go_on_quietly shape worker seat began call pre x y (ys ++ last ∷ []) is all

-- a call ends with its last event's step of the machine
pub ends_at : (done : List Occurrence) (last : Occurrence) (at next : IsolationMachine) → IsStep (command_in last.event) (reads_handed last.event) at last.reply next → EndsAt (done ++ last ∷ []) at next
ends_at [] last at next step = step
ends_at (x ∷ []) last at next step = step
ends_at (x ∷ y ∷ done) last at next step = ends_at (y ∷ done) last at next step

-- where its events ask nothing, the machine stays
pub stays_at : (made : List Occurrence) (at next : IsolationMachine) → list_all asks_nothing (events_in made) ≡ true → EndsAt made at next → next ≡ at
stays_at [] at next asks ends = ends
stays_at (x ∷ []) at next asks ends = go (command_in x.event) (and_first (asks_nothing x.event) true asks) ends
  where
    go : (o : Option Request) → is_none o ≡ true → IsStep o (reads_handed x.event) at x.reply next → next ≡ at
    go None e h = h
    go (Some c) e h = absurd (true_false (sym e))
stays_at (x ∷ y ∷ made) at next asks ends = stays_at (y ∷ made) at next (and_second (asks_nothing x.event) (list_all asks_nothing (events_in (y ∷ made))) asks) ends

-- ---- a call that ended

-- A call ended at a moment, between two states of the machine; behind it its session's reads stand.
pub record Ended (script : Script) (seat : ℕ) (parts : Parts) (front : List Occurrence) (at next : IsolationMachine) (call : Call) : Type 0 where
  pub began : List Occurrence
  pub is_call : IsCall (shape_of script) (is_worker (who_at script seat)) seat began call
  pub replied : AreReplied (shape_of script) call.made
  pub ends : EndsAt call.made at next
  pub open' : OpenAs seat (own_after began) (transaction_of seat at)
  pub asked : IsAsked script seat call.command
  -- behind it
  pub ok : Sound (shape_of script) parts
  pub follows : FollowsMachine (shape_of script) parts next
  pub reads : ReadsStandIn (shape_of script) parts front
  pub whole : under seat front ≡ began ++ call.made
  pub narrow : IsNarrow (desk_at (shape_of script) parts)
  -- what it had open
  pub keys : SameKeys (own_after began) (transaction_of seat at)

-- where a session has a transaction open, so has the machine for it
pub one_open : (seat : ℕ) (m : IsolationMachine) (own : OwnTransaction) → OpenAs seat (Some own) (transaction_of seat m)
    → (t : Transaction) × (transaction_of seat m ≡ Some t)
one_open seat m own open' = go (transaction_of seat m) open'.snapshot refl
  where
    go : (o : Option Transaction) → Some own.snapshot.number ≡ option_map (λ (t : Transaction). t.snapshot) o
        → transaction_of seat m ≡ o → (t : Transaction) × (transaction_of seat m ≡ Some t)
    go None e is = absurd (let never : ⊥ = cc e in never)
    go (Some t) e is = (t, is)

-- and where it has none, the machine has none
pub none_open : (seat : ℕ) (m : IsolationMachine) → OpenAs seat None (transaction_of seat m) → transaction_of seat m ≡ None
none_open seat m open' = go (transaction_of seat m) open'.snapshot
  where
    go : (o : Option Transaction) → None ≡ option_map (λ (t : Transaction). t.snapshot) o → o ≡ None
    go None e = refl
    go (Some t) e = absurd (let never : ⊥ = cc e in never)

-- a place at which a table stands is below their count
pub has_table : (tables : List TableDecl) (t : ℕ) → is_some (slice_get tables t) ≡ true → t < length tables
has_table tables t e = go (nat_lt t (length tables)) refl
  where
    go : (b : Bool) → nat_lt t (length tables) ≡ b → t < length tables
    go true f = grind (arith, nat_tests, f)
    go false f = absurd (true_false (sym e ∙ ap is_some (slice_get_past tables t (grind (arith, nat_tests, f)))))

-- the table of a total is there
pub total_named : (tables : List TableDecl) (table column : ℕ) (low high : ℤ) → is_total tables table column low high ≡ true → is_some (slice_get tables table) ≡ true
total_named tables table column low high is = go (slice_get tables table) is
  where
    go : (o : Option TableDecl) → option_map_or (λ (decl : TableDecl). option_map_or (λ its. are_bounds_in its low high) (slice_get decl.schema column) false) o false ≡ true → is_some o ≡ true
    go None is = absurd (true_false (sym is))
    go (Some decl) is = refl

module _ (script : Script) (valid : IsRunnable script) (seat : ℕ) (parts : Parts) (front : List Occurrence) (at next : IsolationMachine) (call : Call)
    (ended : Ended script seat parts front at next call) where
  -- a call that asks nothing of the machine leaves it as it is
  pub stays : is_single call.command ≡ false → next ≡ at
  stays other = stays_at call.made at next (others_ask_nothing (shape_of script) (is_worker (who_at script seat)) seat ended.began call other ended.is_call) ended.ends

  -- ---- a scan of a session

  -- A call whose events read blocks one after another has only reads.
  all_reads : (own : OwnTransaction) (table : ℕ) (blocks : List ℕ) → events_in call.made ≡ map (event.Read own table) blocks → list_all reads_block (events_in call.made) ≡ true
  all_reads own table blocks e = ap (list_all reads_block) e ∙ go blocks
    where
      go : (bs : List ℕ) → list_all reads_block (map (event.Read own table) bs) ≡ true
      go [] = refl
      go (b ∷ bs) = go bs

  -- each read of a call of reads alone stands
  pub stand : (own : OwnTransaction) (table : ℕ) (blocks : List ℕ) → events_in call.made ≡ map (event.Read own table) blocks → (o : Occurrence) → Among o call.made → Stands (shape_of script) parts seat o
  stand own table blocks e o a = ended.reads seat ended.began call.made ended.whole (all_reads own table blocks e) o a

  -- so, where there is a block to read, the core has the transaction open that the call reads with
  pub owns_it : (own : OwnTransaction) (table : ℕ) → (0 < blocks_of (shape_of script) table) → events_in call.made ≡ at_blocks (shape_of script) table (event.Read own table) → OwnsAll (shape_of script) own parts
  owns_it own table some e = go (blocks_of (shape_of script) table) refl some
    where
      go : (n : ℕ) → blocks_of (shape_of script) table ≡ n → 0 < n → OwnsAll (shape_of script) own parts
      go zero is less = absurd (let never : ⊥ = omega (arith, less) in never)
      go (suc n) is less = first call.made refl
        where
          events : events_in call.made ≡ event.Read own table 0 ∷ map (event.Read own table) (range_with_len 1 n)
          events = e ∙ ap (λ n. map (event.Read own table) (below n)) is

          first : (made : List Occurrence) → call.made ≡ made → OwnsAll (shape_of script) own parts
          first [] m = absurd (Rattle.run_laws.proofs.Told.Splits.none_some (event.Read own table 0) (map (event.Read own table) (range_with_len 1 n)) (ap events_in (sym m) ∙ events))
          first (x ∷ made) m =
              (stand own table (below (blocks_of (shape_of script) table)) e x (subst (Among x) (sym m) (inl refl)) own table 0
              (Rattle.run_laws.proofs.Told.Splits.heads x.event (event.Read own table 0) (events_in made) (map (event.Read own table) (range_with_len 1 n)) (ap events_in (sym m) ∙ events))).owns

  -- what reads of all blocks told, and the machine's transaction
  pub record Scanned (own : OwnTransaction) (table : ℕ) : Type 0 where
    pub t : Transaction
    pub is : transaction_of seat next ≡ Some t
    pub rows : in_key_order table (flat_map rows_told (replies_in call.made)) ≡ contents_of table (seen_rows next t)
    pub count : length (flat_map rows_told (replies_in call.made)) ≡ length (contents_of table (seen_rows next t))

  -- reads of all blocks told what the machine's transaction sees
  pub scanned : (own : OwnTransaction) (table : ℕ) → own_after ended.began ≡ Some own → is_single call.command ≡ false → is_some (slice_get script.tables table) ≡ true
      → events_in call.made ≡ at_blocks (shape_of script) table (event.Read own table) → list_any is_refused call.made ≡ false → Scanned own table
  scanned own table mine other has e granted =
      let session : own.session ≡ seat = subst (λ o. IfSome o (λ (t : OwnTransaction). t.session ≡ seat)) mine ended.open'.session_is in
      let t = one_open seat at own (subst (λ o. OpenAs seat o (transaction_of seat at)) mine ended.open') in
      let t_next : transaction_of seat next ≡ Some t.0 = ap (transaction_of seat) (stays other) ∙ t.1 in
      let table_is = has_table script.tables table has in
      let blocks = valid.shape.blocks table table_is in
      let together = read_together (shape_of script) parts seat own table call.made (below (blocks_of (shape_of script) table)) e granted (stand own table (below (blocks_of (shape_of script) table)) e) in
      let law = reads_are_the_scan (shape_of script) parts own table next t.0 valid.shape ended.ok
      (owns_it own table (omega (arith, blocks)) e) ended.follows (ap (λ q. transaction_of q next) session ∙ t_next) in
      record {
        t = t.0;
        is = t_next;
        rows = ap (in_key_order table) together ∙ law.rows;
        count = ap (λ (rows : List Row). length rows) together ∙ law.count;
      }

  -- A command that the machine answers from all rows of a table, and a call by reads of its blocks.
  record AsksRows (asked : Command) (what : Act) (table : ℕ) (answer_to : List Row → Answer) : Type 0 where
    other : is_single asked ≡ false
    named : is_command script.tables asked ≡ true → is_some (slice_get script.tables table) ≡ true
    refused : refusal_of asked None ≡ Some said.NoTransaction
    begins : (own : OwnTransaction) → refusal_of asked (Some own) ≡ None
    events : (own : OwnTransaction) (reads : Option ReadSet) (made : List Occurrence)
        → events_of (shape_of script) (Some own) reads seat asked made ≡ at_blocks (shape_of script) table (event.Read own table)
    told : (own : OwnTransaction) (replies : List CoreReply)
        → length (flat_map rows_told replies) ≡ length (in_key_order table (flat_map rows_told replies))
        → line_of (Some own) asked replies ≡ Some (said_of (answer_to (in_key_order table (flat_map rows_told replies))))
    is_read : IsRead what
    steps : (m : IsolationMachine) (reads : Option ReadSet) → step_with m reads (record { session = seat; act = what }) ≡ step_of m (record { session = seat; act = what }) (transaction_of seat m)
    without : (m : IsolationMachine) → step_of m (record { session = seat; act = what }) None ≡ (answer.NoTransaction, m)
    within : (m : IsolationMachine) (t : Transaction) → step_of m (record { session = seat; act = what }) (Some t) ≡ (answer_to (contents_of table (seen_rows m t)), m)

  scan_asks : (table : ℕ) → AsksRows (command.Scan table) (act.Scan table) table answer.Rows
  scan_asks table = record {
    other = refl;
    named = λ is. is;
    refused = refl;
    begins = λ own. refl;
    events = λ own reads made. refl;
    told = λ own replies once. refl;
    is_read = tt;
    steps = λ m reads. refl;
    without = λ m. refl;
    within = λ m t. refl;
  }

  total_asks : (table column : ℕ) (low high : ℤ)
      → AsksRows (command.Total table column low high) (act.Total table column low high) table (λ rows. told_total (numbers_between column low high rows))
  total_asks table column low high = record {
    other = refl;
    named = λ is. total_named script.tables table column low high is;
    refused = refl;
    begins = λ own. refl;
    events = λ own reads made. refl;
    told = λ own replies once. ap Some (totals_go_by_the_rows column low high (flat_map rows_told replies) (in_key_order table (flat_map rows_told replies))
        (ordered_rows_are_the_rows table (flat_map rows_told replies) once));
    is_read = tt;
    steps = λ m reads. refl;
    without = λ m. refl;
    within = λ m t. refl;
  }

  module _ (reads : Option ReadSet) (asked : Command) (what : Act) (table : ℕ) (answer_to : List Row → Answer) (asks : AsksRows asked what table answer_to) (line : Said)
      (is : call.command ≡ asked) (low : seat ≤ script.sessions) (tells : call.told ≡ Some line) where
    request : Request
    request = record { session = seat; act = what }

    other : is_single call.command ≡ false
    other = ap is_single is ∙ asks.other

    -- refused, where nothing is open
    rows_refused : own_after ended.began ≡ None → (call.made ≡ []) × (call.told ≡ Some said.NoTransaction) → Answers at reads (record { session = seat; act = what }) line next
    rows_refused mine h =
        let none = none_open seat at (subst (λ o. OpenAs seat o (transaction_of seat at)) mine ended.open') in
        record {
          outcome = Answered answer.NoTransaction;
          tells = same_line line said.NoTransaction (sym tells ∙ h.1);
          allows = asks.steps at reads ∙ ap (λ o. step_of at (record { session = seat; act = what }) o) none ∙ asks.without at ∙ ap (λ m. (answer.NoTransaction, m)) (sym (stays other));
        }

    -- carried out
    rows_whole : (own : OwnTransaction) → own_after ended.began ≡ Some own → IsWhole (shape_of script) false seat (own_after ended.began) call
        → Answers at reads (record { session = seat; act = what }) line next
    rows_whole own mine w =
        let e : events_in call.made ≡ at_blocks (shape_of script) table (event.Read own table) =
        w.events ∙ ap (λ c. events_of (shape_of script) (own_after ended.began) call.reads seat c call.made) is
        ∙ ap (λ o. events_of (shape_of script) o call.reads seat asked call.made) mine ∙ asks.events own call.reads call.made in
        let has : is_some (slice_get script.tables table) ≡ true = asks.named (ap (is_command script.tables) (sym is) ∙ session_asked script valid.valid seat call.command low ended.asked) in
        let s = scanned own table mine other has e w.granted in
        let once : length (flat_map rows_told (replies_in call.made)) ≡ length (in_key_order table (flat_map rows_told (replies_in call.made))) =
        s.count ∙ ap (λ (rows : List Row). length rows) (sym s.rows) in
        let told : call.told ≡ Some (said_of (answer_to (in_key_order table (flat_map rows_told (replies_in call.made))))) =
        w.line ∙ ap (λ c. line_of (own_after ended.began) c (replies_in call.made)) is ∙ ap (λ o. line_of o asked (replies_in call.made)) mine
        ∙ asks.told own (replies_in call.made) once in
        record {
          outcome = Answered (answer_to (contents_of table (seen_rows at s.t)));
          tells = same_line line (said_of (answer_to (in_key_order table (flat_map rows_told (replies_in call.made))))) (sym tells ∙ told)
              ∙ ap (λ rows. said_of (answer_to rows)) (s.rows ∙ ap (λ m. contents_of table (seen_rows m s.t)) (stays other));
          allows = asks.steps at reads ∙ ap (λ o. step_of at (record { session = seat; act = what }) o) (ap (transaction_of seat) (sym (stays other)) ∙ s.is)
              ∙ asks.within at s.t ∙ ap (λ m. (answer_to (contents_of table (seen_rows at s.t)), m)) (sym (stays other));
        }

    -- cut short
    rows_part : (own : OwnTransaction) → own_after ended.began ≡ Some own → IsPart (shape_of script) seat (own_after ended.began) call
        → Answers at reads (record { session = seat; act = what }) line next
    rows_part own mine p =
        let t = one_open seat at own (subst (λ o. OpenAs seat o (transaction_of seat at)) mine ended.open') in
        record {
          outcome = Memory;
          tells = same_line line said.Memory (sym tells ∙ p.line);
          allows = (inl asks.is_read, subst (λ (o : Option Transaction). IsSome o) (sym t.1) refl, stays other);
        }

    -- A line that a session told of such a command is answered so by the machine.
    rows_by : is_worker (who_at script seat) ≡ false → Answers at reads (record { session = seat; act = what }) line next
    rows_by session = go (own_after ended.began) refl (subst (λ w. IsCall (shape_of script) w seat ended.began call) session ended.is_call)
      where
        as_asked : (o : Option OwnTransaction) → own_after ended.began ≡ o → refusal_of call.command (own_after ended.began) ≡ refusal_of asked o
        as_asked o mine = ap (λ c. refusal_of c (own_after ended.began)) is ∙ ap (refusal_of asked) mine

        go : (o : Option OwnTransaction) → own_after ended.began ≡ o → IsCallBy (shape_of script) false seat (own_after ended.began) (refusal_of call.command (own_after ended.began)) call
            → Answers at reads (record { session = seat; act = what }) line next
        go None mine h = rows_refused mine (subst (λ r. IsCallBy (shape_of script) false seat (own_after ended.began) r call) (as_asked None mine ∙ asks.refused) h)
        go (Some own) mine h = made (subst (λ r. IsCallBy (shape_of script) false seat (own_after ended.began) r call) (as_asked (Some own) mine ∙ asks.begins own) h)
          where
            made : IsWhole (shape_of script) false seat (own_after ended.began) call ⊎ IsPart (shape_of script) seat (own_after ended.began) call
                → Answers at reads (record { session = seat; act = what }) line next
            made (inl w) = rows_whole own mine w
            made (inr p) = rows_part own mine p

-- ---- a line

-- a line, by whose it is, what it was asked and what it told
abbrev pub entry_as : Entry → Who → Command → Said → Entry
entry_as entry who asked line = record {
  number = entry.number;
  command = asked;
  reply = record { round = entry.reply.round; who = who; index = entry.reply.index; said = line };
}

-- Whatever a session is asked, its line comes about where each kind of command's does.
session_takes : (tables : List TableDecl) (lines : List Entry) (at next : IsolationMachine) (entry : Entry) (seat : ℕ) (asked : Command) (line : Said)
    → (is_single asked ≡ true → IfSome (request_of (Session seat) asked) (λ request. Answers at (reads_after (thread (Session seat) lines)) request line next))
    → ((table : ℕ) → asked ≡ command.Scan table → Answers at (reads_after (thread (Session seat) lines)) (record { session = seat; act = act.Scan table }) line next)
    → ((table column : ℕ) (low high : ℤ) → asked ≡ command.Total table column low high → Answers at (reads_after (thread (Session seat) lines)) (record { session = seat; act = act.Total table column low high }) line next)
    → ((table : ℕ) → asked ≡ command.Export table → ExportsBy tables lines at (transaction_of seat at) table line × (next ≡ at))
    → (is_upkeep asked ≡ true → (is_of_upkeep line ≡ true) × (next ≡ at))
    → Takes tables lines at (entry_as entry (Session seat) asked line) next
session_takes tables lines at next entry seat (command.Begin checked) line come scan total export upkeep = come refl
session_takes tables lines at next entry seat (command.Get table key) line come scan total export upkeep = come refl
session_takes tables lines at next entry seat (command.Scan table) line come scan total export upkeep = scan table refl
session_takes tables lines at next entry seat (command.Range table low high) line come scan total export upkeep = come refl
session_takes tables lines at next entry seat (command.Total table column low high) line come scan total export upkeep = total table column low high refl
session_takes tables lines at next entry seat (command.Insert table row) line come scan total export upkeep = come refl
session_takes tables lines at next entry seat (command.Update table row) line come scan total export upkeep = come refl
session_takes tables lines at next entry seat (command.Delete table key) line come scan total export upkeep = come refl
session_takes tables lines at next entry seat command.Commit line come scan total export upkeep = come refl
session_takes tables lines at next entry seat command.Abort line come scan total export upkeep = come refl
session_takes tables lines at next entry seat command.Observe line come scan total export upkeep = let u = upkeep refl in ((refl, u.0), u.1)
session_takes tables lines at next entry seat command.Prune line come scan total export upkeep = let u = upkeep refl in ((refl, u.0), u.1)
session_takes tables lines at next entry seat (command.Compact table) line come scan total export upkeep = let u = upkeep refl in ((refl, u.0), u.1)
session_takes tables lines at next entry seat (command.Seal table block) line come scan total export upkeep = let u = upkeep refl in ((refl, u.0), u.1)
session_takes tables lines at next entry seat (command.Gather table block) line come scan total export upkeep = let u = upkeep refl in ((refl, u.0), u.1)
session_takes tables lines at next entry seat (command.Export table) line come scan total export upkeep = export table refl

-- A command of upkeep is none that is a single request of the machine.
upkeep_other : (asked : Command) → is_upkeep asked ≡ true → is_single asked ≡ false
upkeep_other (command.Begin checked) e = absurd (true_false (sym e))
upkeep_other (command.Get table key) e = absurd (true_false (sym e))
upkeep_other (command.Scan table) e = refl
upkeep_other (command.Range table low high) e = absurd (true_false (sym e))
upkeep_other (command.Total table column low high) e = refl
upkeep_other (command.Insert table row) e = absurd (true_false (sym e))
upkeep_other (command.Update table row) e = absurd (true_false (sym e))
upkeep_other (command.Delete table key) e = absurd (true_false (sym e))
upkeep_other command.Commit e = absurd (true_false (sym e))
upkeep_other command.Abort e = absurd (true_false (sym e))
upkeep_other command.Observe e = refl
upkeep_other command.Prune e = refl
upkeep_other (command.Compact table) e = refl
upkeep_other (command.Seal table block) e = refl
upkeep_other (command.Gather table block) e = refl
upkeep_other (command.Export table) e = refl

-- A line of a call that ended comes about there.
pub takes : (script : Script) (valid : IsRunnable script) (seat : ℕ) (parts : Parts) (front : List Occurrence) (at next : IsolationMachine) (call : Call) (lines : List Entry) (entry : Entry)
    → Ended script seat parts front at next call
    → call.told ≡ Some entry.reply.said → entry.reply.who ≡ who_at script seat → entry.command ≡ command_told (who_at script seat) call.command
    → (is_worker (who_at script seat) ≡ false → call.reads ≡ reads_after (thread (who_at script seat) lines))
    → ((table : ℕ) → call.command ≡ command.Export table → ExportsBy script.tables lines at (transaction_of seat at) table entry.reply.said)
    → Takes script.tables lines at entry next
takes script valid seat parts front at next call lines entry ended tells who asked read export = go (either script seat)
  where
    line : Said
    line = entry.reply.said

    as_is : (w : Who) (c : Command) → entry.reply.who ≡ w → entry.command ≡ c → Takes script.tables lines at (entry_as entry w c entry.reply.said) next → Takes script.tables lines at entry next
    as_is w c who asked h = subst (λ w. Takes script.tables lines at (entry_as entry w entry.command entry.reply.said) next) (sym who)
        (subst (λ c. Takes script.tables lines at (entry_as entry w c entry.reply.said) next) (sym asked) h)

    upkeep : is_upkeep call.command ≡ true → (is_of_upkeep entry.reply.said ≡ true) × (next ≡ at)
    upkeep up = (
      upkeep_is_told_so (shape_of script) (is_worker (who_at script seat)) seat ended.began call entry.reply.said up ended.replied ended.is_call tells,
      stays script valid seat parts front at next call ended (upkeep_other call.command up),
    )

    go : (seat ≤ script.sessions) ⊎ (script.sessions < seat) → Takes script.tables lines at entry next
    go (inl low) =
        let session = session_at script seat low in
        let is_session : is_worker (who_at script seat) ≡ false = ap is_worker session in
        let handed : call.reads ≡ reads_after (thread (Session seat) lines) = read is_session ∙ ap (λ w. reads_after (thread w lines)) session in
        as_is (Session seat) call.command (who ∙ session) (asked ∙ ap (λ b. cond b command.Observe call.command) is_session)
        (session_takes script.tables lines at next entry seat call.command entry.reply.said
        (λ single. subst (λ reads. IfSome (request_of (Session seat) call.command) (λ request. Answers at reads request entry.reply.said next)) handed
        (lines_come_about (shape_of script) seat ended.began call entry.reply.said at next single
        (subst (λ w. IsCall (shape_of script) w seat ended.began call) is_session ended.is_call) tells ended.open' ended.ends))
        (λ table is. rows_by script valid seat parts front at next call ended (reads_after (thread (Session seat) lines)) (command.Scan table) (act.Scan table) table answer.Rows
        (scan_asks script valid seat parts front at next call ended table) entry.reply.said is low tells is_session)
        (λ table column from to is. rows_by script valid seat parts front at next call ended (reads_after (thread (Session seat) lines)) (command.Total table column from to) (act.Total table column from to) table
        (λ rows. told_total (numbers_between column from to rows)) (total_asks script valid seat parts front at next call ended table column from to) entry.reply.said is low tells is_session)
        (λ table is. (export table is, stays script valid seat parts front at next call ended (ap is_single is)))
        upkeep)
    go (inr high) =
        let w = worker_at script seat high in
        let up = upkeep (worker_upkeep script seat call.command high ended.asked) in
        as_is (Worker (seat - script.sessions)) command.Observe (who ∙ w) (asked ∙ ap (λ b. cond b command.Observe call.command) (ap is_worker w))
        ((refl, up.0), up.1)
