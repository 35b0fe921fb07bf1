-- What a call that ended tells may stand, or is silent where that may be.
use Rattle.std.proofs.Common.{◌≡◌, ◌⊎◌, ℕ, zero, suc, ◌+◌, ◌*◌, ◌<◌, ◌≤◌, ◌^◌, ℤ, Bool, true, false, cond, List, [], ◌∷◌, ◌++◌, length, Option, None, Some, is_some, refl, sym, ap, ◌∙◌, subst, arith, append-nil, length-append}
use mathlib.Core.Logic.{inl, inr}
use Rattle.std.specs.Prelude.{count_by, option_and_then, option_to_list, slice_get, sum_by}
use Rattle.std.specs.List.{flat_map, last_or, list_all}
use Rattle.std.proofs.lemmas.List.{length-map}
use Rattle.event_spec.specs.declared.event.Event.TheVariants as event
use Rattle.event_spec.specs.declared.own.OwnTransaction.{OwnTransaction}
use Rattle.event_spec.specs.declared.reply.Reply.TheVariants as reply
use Rattle.event_spec.specs.Effects.{CoreEvent}
use Rattle.core_laws.proofs.Events.Lists.{map_member, member_map}
use Rattle.event_spec.specs.Lawful.{Among}
use Rattle.std.specs.Option.{option_map_or}
use Rattle.std.proofs.lemmas.List.FromFn.{length-range_with_len}
use Rattle.event_spec.specs.Parts.{Parts, Shape, below, blocks_of, slots_of}
use Rattle.event_spec.specs.Replies.{CoreReply, reply_to}
use Rattle.isolation_spec.specs.Contents.{numbers_between}
use Rattle.isolation_spec.specs.Machine.{IsolationMachine}
use Rattle.isolation_spec.specs.Reads.{ReadSet}
use Rattle.outcome_spec.specs.Forms.{is_silent, is_worker}
use Rattle.timeline_spec.specs.Forms.{MayStand}
use Rattle.workload_spec.specs.declared.command.Command.{Command}
use Rattle.workload_spec.specs.declared.command.Command.TheVariants as command
use Rattle.workload_spec.specs.declared.reply.Said.{Said}
use Rattle.workload_spec.specs.declared.reply.Said.TheVariants as said
use Rattle.workload_spec.specs.declared.script.Script.{Script}
use Rattle.workload_spec.specs.Valid.{is_command, is_total}
use Rattle.run_spec.specs.Asked.{at_all_blocks, at_blocks, events_of}
use Rattle.run_spec.specs.Calls.{Call, IsCallBy, IsWhole, line_to}
use Rattle.run_spec.specs.Occurrences.{Occurrence, events_in, replies_in}
use Rattle.run_spec.specs.Opened.{own_after, own_key}
use Rattle.run_spec.specs.Ran.{IsRunnable, shape_of}
use Rattle.run_spec.specs.Told.{dropped_told, in_key_order, is_shared, is_turned, line_of, moved_told, refusal_of, rows_told, summary_of, told_by, total_told}
use Rattle.run_laws.specs.Calls.Upkeep.{AreReplied, IsReplied}
use Rattle.run_laws.specs.Told.Laws.{is_quiet}
use Rattle.run_laws.proofs.Told.Splits.{are_quiet, heads, loud_of, none_behind, none_some, quiet_of, split_events, tails}
use Rattle.run_laws.proofs.Told.Tells.{not_silent, sum_unmoved}
use Rattle.run_laws.specs.Moments.Moments.{who_at}
use Rattle.run_laws.proofs.Moments.Seats.{either}
use Rattle.run_laws.proofs.Explained.Answering.{memory_stands, refusal_stands}
use Rattle.run_laws.proofs.Explained.Exporting.{count_few, export_low, has_rows, number_low, read_few, read_long, replies_long}
use Rattle.run_laws.proofs.Explained.Scripts.{session_asked, worker_upkeep}
use Rattle.run_laws.proofs.Explained.Taking.{Ended, has_table, scanned, stand, total_named}
use Rattle.run_laws.proofs.Explained.Totals.{numbers_few, sum_small, total_small}

-- What is told as one of two lines and as the other is one line.
same_line : (a b : Said) → Some a ≡ Some b → a ≡ b
same_line a b e = cc

-- A line that is meant and never silent is the one that is told.
line_same : (worker : Bool) (here line : Said) (told : Option Said) → is_silent here ≡ false → told ≡ line_to worker (Some here) → told ≡ Some line → here ≡ line
line_same worker here line told loud is tells = same_line here line (sym (is ∙ not_silent worker here loud) ∙ tells)

-- The event behind the quiet ones of a command is not quiet.
loud_is : (shape : Shape) (own : Option OwnTransaction) (handed : Option ReadSet) (session : ℕ) (asked : Command) (made : List Occurrence) (l : CoreEvent) → loud_of shape own handed session asked made ≡ Some l → is_quiet l ≡ false
loud_is shape own handed session (command.Begin checked) made l e = ap (λ (o : Option CoreEvent). option_map_or is_quiet o false) (sym e)
loud_is shape own handed session (command.Get table key) made l e = absurd (let never : ⊥ = cc e in never)
loud_is shape own handed session (command.Scan table) made l e = absurd (let never : ⊥ = cc e in never)
loud_is shape own handed session (command.Range table low high) made l e = absurd (let never : ⊥ = cc e in never)
loud_is shape own handed session (command.Total table column low high) made l e = absurd (let never : ⊥ = cc e in never)
loud_is shape None handed session (command.Insert table row) made l e = absurd (let never : ⊥ = cc e in never)
loud_is shape (Some t) handed session (command.Insert table row) made l e = ap (λ (o : Option CoreEvent). option_map_or is_quiet o false) (sym e)
loud_is shape None handed session (command.Update table row) made l e = absurd (let never : ⊥ = cc e in never)
loud_is shape (Some t) handed session (command.Update table row) made l e = ap (λ (o : Option CoreEvent). option_map_or is_quiet o false) (sym e)
loud_is shape None handed session (command.Delete table key) made l e = absurd (let never : ⊥ = cc e in never)
loud_is shape (Some t) handed session (command.Delete table key) made l e = ap (λ (o : Option CoreEvent). option_map_or is_quiet o false) (sym e)
loud_is shape None handed session command.Commit made l e = absurd (let never : ⊥ = cc e in never)
loud_is shape (Some t) handed session command.Commit made l e = ap (λ (o : Option CoreEvent). option_map_or is_quiet o false) (sym e)
loud_is shape None handed session command.Abort made l e = absurd (let never : ⊥ = cc e in never)
loud_is shape (Some t) handed session command.Abort made l e = ap (λ (o : Option CoreEvent). option_map_or is_quiet o false) (sym e)
loud_is shape own handed session command.Observe made l e = absurd (let never : ⊥ = cc e in never)
loud_is shape own handed session command.Prune made l e = absurd (let never : ⊥ = cc e in never)
loud_is shape own handed session (command.Compact table) made l e = go (Rattle.event_spec.specs.Plans.plan_of (Rattle.run_spec.specs.Asked.looks_in made)) e
  where
    go : (pairs : List Rattle.event_spec.specs.declared.event.MovePair.MovePair) → Rattle.run_laws.proofs.Told.Splits.move_of table pairs ≡ Some l → is_quiet l ≡ false
    go [] e = absurd (let never : ⊥ = cc e in never)
    go (p ∷ ps) e = ap (λ (o : Option CoreEvent). option_map_or is_quiet o false) (sym e)
loud_is shape own handed session (command.Seal table block) made l e = ap (λ (o : Option CoreEvent). option_map_or is_quiet o false) (sym e)
loud_is shape own handed session (command.Gather table block) made l e = ap (λ (o : Option CoreEvent). option_map_or is_quiet o false) (sym e)
loud_is shape own handed session (command.Export table) made l e = absurd (let never : ⊥ = cc e in never)

-- ---- lengths

-- A number times one that is no greater is no greater.
times_most : (a b c : ℕ) → b ≤ c → a * b ≤ a * c
times_most zero b c h = omega arith
times_most (suc a) b c h =
    let rest = times_most a b c h in
    let m : suc a * b ≡ b + a * b = grind arith in
    let n : suc a * c ≡ c + a * c = grind arith in
    omega (arith, h, rest, m, n)

-- Where two lists of events, each with one more behind it, are the same, so are these two events.
init_same : (xs : List CoreEvent) (ys : List CoreEvent) (x y : CoreEvent) → xs ++ x ∷ [] ≡ ys ++ y ∷ [] → x ≡ y
init_same [] [] x y e = heads x y [] [] e
init_same [] (b ∷ ys) x y e = absurd (none_behind ys y [] (tails x b [] (ys ++ y ∷ []) e))
init_same (a ∷ xs) [] x y e = absurd (none_behind xs x [] (sym (tails a y (xs ++ x ∷ []) [] e)))
init_same (a ∷ xs) (b ∷ ys) x y e = init_same xs ys x y (tails a b (xs ++ x ∷ []) (ys ++ y ∷ []) e)

-- The events of two lists of occurrences are those of the one, then of the other.
events_append : (xs ys : List Occurrence) → events_in (xs ++ ys) ≡ events_in xs ++ events_in ys
events_append [] ys = refl
events_append (x ∷ xs) ys = ap (λ es. x.event ∷ es) (events_append xs ys)

-- Replies of at most so many rows each have at most as many times that together.
flat_stands : (ys : List CoreReply) (w : ℕ) → ((y : CoreReply) → Among y ys → length (rows_told y) ≤ w) → length (flat_map rows_told ys) ≤ length ys * w
flat_stands [] w each = omega arith
flat_stands (y ∷ ys) w each =
    let here = each y (inl refl) in
    let rest = flat_stands ys w (λ z a. each z (inr a)) in
    let all : length (rows_told y ++ flat_map rows_told ys) ≡ length (rows_told y) + length (flat_map rows_told ys) = length-append (rows_told y) (flat_map rows_told ys) in
    let m : (1 + length ys) * w ≡ w + length ys * w = grind arith in
    omega (arith, here, rest, all, m)

-- ---- a call that ended

-- where its last event, if it is not quiet, may stand; a range told few rows
pub record LastStands (call : Call) (line : Said) : Type 0 where
  pub done : List Occurrence
  pub made : Occurrence
  pub all : call.made ≡ done ++ made ∷ []
  pub may : is_quiet made.event ≡ false → MayStand call.command line
  pub few : (own : OwnTransaction) (table : ℕ) (low high : ℤ) → made.event ≡ event.Range own table low high → length (in_key_order table (rows_told made.reply)) < 2 ^ 64

module _ (script : Script) (valid : IsRunnable script) (seat : ℕ) (parts : Parts) (front : List Occurrence) (at next : IsolationMachine) (call : Call)
    (ended : Ended script seat parts front at next call)
    (fits : (count : ℕ) → call.told ≡ Some (said.Pruned count) → count < 2 ^ 64)
    (few_tables : length (at_all_blocks (shape_of script) event.Observe) < 2 ^ 32) (few_blocks : (t : ℕ) → blocks_of (shape_of script) t < 2 ^ 32) (line : Said) (tells : call.told ≡ Some line) (last : (call.made ≡ []) ⊎ LastStands call line) where
  -- The seat is that of a worker.
  worker : Bool
  worker = is_worker (who_at script seat)

  -- a loud event is the last
  at_loud : (own : Option OwnTransaction) (l : CoreEvent) → events_in call.made ≡ events_of (shape_of script) own call.reads seat call.command call.made
      → loud_of (shape_of script) own call.reads seat call.command call.made ≡ Some l → MayStand call.command line
  at_loud own l events is = go last
    where
      split : events_in call.made ≡ quiet_of (shape_of script) own call.command call.made ++ l ∷ []
      split = events ∙ split_events (shape_of script) own call.reads seat call.command call.made ∙ ap (λ o. quiet_of (shape_of script) own call.command call.made ++ option_to_list o) is

      go : (call.made ≡ []) ⊎ LastStands call line → MayStand call.command line
      go (inl none) = absurd (none_behind (quiet_of (shape_of script) own call.command call.made) l [] (sym (ap events_in none) ∙ split))
      go (inr h) =
          let same : l ≡ h.made.event = init_same (quiet_of (shape_of script) own call.command call.made) (events_in h.done) l h.made.event
          (sym split ∙ ap events_in h.all ∙ events_append h.done (h.made ∷ [])) in
          h.may (ap is_quiet (sym same) ∙ loud_is (shape_of script) own call.reads seat call.command call.made l is)

  -- Reads of all blocks of a table tell few rows.
  all_few : (t : OwnTransaction) (table : ℕ) → is_some (slice_get script.tables table) ≡ true → events_in call.made ≡ at_blocks (shape_of script) table (event.Read t table)
      → length (flat_map rows_told (replies_in call.made)) ≤ 2 ^ 47
  all_few t table has e =
      let few = flat_stands (replies_in call.made) (slots_of (shape_of script) table) (λ y a. stood y a) in
      let long = replies_long call.made in
      let blocks : length (events_in call.made) ≡ blocks_of (shape_of script) table = ap (λ (es : List CoreEvent). length es) e ∙ length-map (below (blocks_of (shape_of script) table)) (event.Read t table) ∙ length-range_with_len 0 (blocks_of (shape_of script) table) in
      let slots : slots_of (shape_of script) table ≤ 2 ^ 15 = (valid.shape.slots table (has_table script.tables table has)).1 in
      let most = times_most (length (replies_in call.made)) (slots_of (shape_of script) table) (2 ^ 15) slots in
      let small = few_blocks table in
      let narrow : length (replies_in call.made) * 2 ^ 15 ≡ 2 ^ 15 * length (replies_in call.made) = grind arith in
      omega (arith, few, long, blocks, most, narrow, small)
    where
      stood : (y : CoreReply) → Among y (replies_in call.made) → length (rows_told y) ≤ slots_of (shape_of script) table
      stood y a =
          let o = map_member (λ (o : Occurrence). o.reply) call.made y a in
          let b = map_member (event.Read t table) (below (blocks_of (shape_of script) table)) o.0.event
          (subst (Among o.0.event) e (member_map (λ (o : Occurrence). o.event) call.made o.0 o.1)) in
          let few = (stand script valid seat parts front at next call ended t table (below (blocks_of (shape_of script) table)) e o.0 o.1 t table b.0 b.2).few in
          let same = ap (λ r. length (rows_told r)) o.2 in
          omega (arith, few, same)

  -- what a worker is asked is upkeep
  no_worker : script.sessions < seat → Rattle.outcome_spec.specs.Forms.is_upkeep call.command ≡ false → ⊥
  no_worker high is = let never : false ≡ true = sym is ∙ worker_upkeep script seat call.command high ended.asked in let no : ⊥ = cc in no

  -- a whole call without one
  at_quiet : (asked : Command) → call.command ≡ asked → (own : Option OwnTransaction) → own_after ended.began ≡ own → refusal_of asked own ≡ None → IsWhole (shape_of script) (is_worker (who_at script seat)) seat own call
      → loud_of (shape_of script) own call.reads seat asked call.made ≡ None → MayStand asked line
  at_quiet (command.Begin checked) is own mine free w none = absurd (let never : ⊥ = cc none in never)
  at_quiet (command.Get table key) is None mine free w none = absurd (let never : ⊥ = cc free in never)
  at_quiet (command.Get table key) is (Some t) mine free w none = go call.made refl
    where
      events : events_in call.made ≡ event.Get (own_key table key t) table key ∷ []
      events = w.events ∙ ap (λ c. events_of (shape_of script) (Some t) call.reads seat c call.made) is

      told : call.told ≡ line_to (is_worker (who_at script seat)) (option_and_then (told_by table 0) (last_or None (replies_in call.made)))
      told = w.line ∙ ap (λ c. line_to (is_worker (who_at script seat)) (line_of (Some t) c (replies_in call.made))) is

      found : (refused : Bool) (o : Option Rattle.block_spec.specs.Slots.Row) → call.told ≡ line_to (is_worker (who_at script seat)) (told_by table 0 (cond refused reply.Memory (reply.Found o))) → MayStand (command.Get table key) line
      found true o e = subst (MayStand (command.Get table key)) (line_same (is_worker (who_at script seat)) said.Memory line call.told refl e tells) (inl tt)
      found false None e = subst (MayStand (command.Get table key)) (line_same (is_worker (who_at script seat)) said.Absent line call.told refl e tells) (inl tt)
      found false (Some row) e = subst (MayStand (command.Get table key)) (line_same (is_worker (who_at script seat)) (said.Found row) line call.told refl e tells) (inl tt)

      go : (made : List Occurrence) → call.made ≡ made → MayStand (command.Get table key) line
      go [] m = absurd (none_some (event.Get (own_key table key t) table key) [] (sym (ap events_in m) ∙ events))
      go (x ∷ y ∷ rest) m = absurd (let never : ⊥ = cc (sym (ap events_in m) ∙ events) in never)
      go (x ∷ []) m =
          let e : x.event ≡ event.Get (own_key table key t) table key = heads x.event (event.Get (own_key table key t) table key) [] [] (sym (ap events_in m) ∙ events) in
          let r : IsReplied (shape_of script) x = (subst (AreReplied (shape_of script)) m ended.replied).0 in
          found r.0 (Rattle.event_spec.specs.Effects.found (shape_of script) x.before (own_key table key t) table key)
          (told ∙ ap (λ made. line_to (is_worker (who_at script seat)) (option_and_then (told_by table 0) (last_or None (replies_in made)))) m
          ∙ ap (λ q. line_to (is_worker (who_at script seat)) (told_by table 0 q)) (r.1 ∙ ap (λ e. cond r.0 reply.Memory (reply_to (shape_of script) x.before e)) e))
  at_quiet (command.Scan table) is None mine free w none = absurd (let never : ⊥ = cc free in never)
  at_quiet (command.Scan table) is (Some t) mine free w none = go (either script seat)
    where
      go : (seat ≤ script.sessions) ⊎ (script.sessions < seat) → MayStand (command.Scan table) line
      go (inr high) = absurd (no_worker high (ap Rattle.outcome_spec.specs.Forms.is_upkeep is))
      go (inl low) =
          let e : events_in call.made ≡ at_blocks (shape_of script) table (event.Read t table) = w.events ∙ ap (λ c. events_of (shape_of script) (Some t) call.reads seat c call.made) is in
          let has : is_some (slice_get script.tables table) ≡ true = ap (is_command script.tables) (sym is) ∙ session_asked script valid.valid seat call.command low ended.asked in
          let s = scanned script valid seat parts front at next call ended t table mine (ap Rattle.run_laws.specs.Calls.Coming.is_single is) has e w.granted in
          let few = all_few t table has e in
          let count = s.count in
          let same = ap (λ (rs : List Rattle.block_spec.specs.Slots.Row). length rs) s.rows in
          subst (MayStand (command.Scan table)) (line_same (is_worker (who_at script seat)) (said.Scanned (in_key_order table (flat_map rows_told (replies_in call.made)))) line call.told refl
          (w.line ∙ ap (λ c. line_to (is_worker (who_at script seat)) (line_of (Some t) c (replies_in call.made))) is) tells)
          (inl (let w : length (in_key_order table (flat_map rows_told (replies_in call.made))) < 2 ^ 64 = omega (arith, few, count, same) in w))
  at_quiet (command.Range table from to) is None mine free w none = absurd (let never : ⊥ = cc free in never)
  at_quiet (command.Range table from to) is (Some t) mine free w none = go last
    where
      events : events_in call.made ≡ event.Range t table from to ∷ []
      events = w.events ∙ ap (λ c. events_of (shape_of script) (Some t) call.reads seat c call.made) is

      alone : (h : LastStands call line) (done : List Occurrence) → call.made ≡ done ++ h.made ∷ [] → MayStand (command.Range table from to) line
      alone h (x ∷ done) all = absurd (none_behind (events_in done) h.made.event []
          (sym (tails x.event (event.Range t table from to) (events_in (done ++ h.made ∷ [])) [] (sym (ap events_in all) ∙ events)) ∙ events_append done (h.made ∷ [])))
      alone h [] all =
          let event_is : h.made.event ≡ event.Range t table from to = heads h.made.event (event.Range t table from to) [] [] (sym (ap events_in all) ∙ events) in
          let rows : flat_map rows_told (replies_in call.made) ≡ rows_told h.made.reply = ap (λ made. flat_map rows_told (replies_in made)) all ∙ append-nil (rows_told h.made.reply) in
          subst (MayStand (command.Range table from to)) (line_same (is_worker (who_at script seat)) (said.Scanned (in_key_order table (flat_map rows_told (replies_in call.made)))) line call.told refl
          (w.line ∙ ap (λ c. line_to (is_worker (who_at script seat)) (line_of (Some t) c (replies_in call.made))) is) tells)
          (inl (subst (λ rows. length (in_key_order table rows) < 2 ^ 64) (sym rows) (h.few t table from to event_is)))

      go : (call.made ≡ []) ⊎ LastStands call line → MayStand (command.Range table from to) line
      go (inl nothing) = absurd (none_some (event.Range t table from to) [] (sym (ap events_in nothing) ∙ events))
      go (inr h) = alone h h.done h.all
  at_quiet (command.Total table column from to) is None mine free w none = absurd (let never : ⊥ = cc free in never)
  at_quiet (command.Total table column from to) is (Some t) mine free w none = go (either script seat)
    where
      go : (seat ≤ script.sessions) ⊎ (script.sessions < seat) → MayStand (command.Total table column from to) line
      go (inr high) = absurd (no_worker high (ap Rattle.outcome_spec.specs.Forms.is_upkeep is))
      go (inl low) =
          let e : events_in call.made ≡ at_blocks (shape_of script) table (event.Read t table) = w.events ∙ ap (λ c. events_of (shape_of script) (Some t) call.reads seat c call.made) is in
          let asked : is_total script.tables table column from to ≡ true = ap (is_command script.tables) (sym is) ∙ session_asked script valid.valid seat call.command low ended.asked in
          let rows : List Rattle.block_spec.specs.Slots.Row = flat_map rows_told (replies_in call.made) in
          let few = all_few t table (total_named script.tables table column from to asked) e in
          let small = total_small script.tables table column from to asked in
          let count = numbers_few column from to small rows in
          subst (MayStand (command.Total table column from to)) (line_same (is_worker (who_at script seat)) (total_told (numbers_between column from to (flat_map rows_told (replies_in call.made)))) line call.told refl
          (w.line ∙ ap (λ c. line_to (is_worker (who_at script seat)) (line_of (Some t) c (replies_in call.made))) is) tells)
          (inl (
            let n : length (numbers_between column from to (flat_map rows_told (replies_in call.made))) < 2 ^ 64 = omega (arith, count, few) in n,
            sum_small column from to small (flat_map rows_told (replies_in call.made)) few,
          ))
  at_quiet (command.Insert table row) is None mine free w none = absurd (let never : ⊥ = cc free in never)
  at_quiet (command.Insert table row) is (Some t) mine free w none = absurd (let never : ⊥ = cc none in never)
  at_quiet (command.Update table row) is None mine free w none = absurd (let never : ⊥ = cc free in never)
  at_quiet (command.Update table row) is (Some t) mine free w none = absurd (let never : ⊥ = cc none in never)
  at_quiet (command.Delete table key) is None mine free w none = absurd (let never : ⊥ = cc free in never)
  at_quiet (command.Delete table key) is (Some t) mine free w none = absurd (let never : ⊥ = cc none in never)
  at_quiet command.Commit is None mine free w none = absurd (let never : ⊥ = cc free in never)
  at_quiet command.Commit is (Some t) mine free w none = absurd (let never : ⊥ = cc none in never)
  at_quiet command.Abort is None mine free w none = absurd (let never : ⊥ = cc free in never)
  at_quiet command.Abort is (Some t) mine free w none = absurd (let never : ⊥ = cc none in never)
  at_quiet command.Observe is own mine free w none =
      let e : events_in call.made ≡ at_all_blocks (shape_of script) event.Observe = w.events ∙ ap (λ c. events_of (shape_of script) own call.reads seat c call.made) is in
      let few = count_few is_turned (replies_in call.made) in
      let long = replies_long call.made in
      let all = ap (λ (es : List CoreEvent). length es) e in
      subst (MayStand command.Observe) (line_same (is_worker (who_at script seat)) (said.Cooling (count_by is_turned (replies_in call.made))) line call.told refl
      (w.line ∙ ap (λ c. line_to (is_worker (who_at script seat)) (line_of own c (replies_in call.made))) is) tells)
      (inl (let w : count_by is_turned (replies_in call.made) < 2 ^ 64 = omega (arith, few, long, all, few_tables) in w))
  at_quiet command.Prune is own mine free w none =
      let told : call.told ≡ line_to (is_worker (who_at script seat)) (Some (said.Pruned (sum_by dropped_told (replies_in call.made)))) =
      w.line ∙ ap (λ c. line_to (is_worker (who_at script seat)) (line_of own c (replies_in call.made))) is in
      subst (MayStand command.Prune) (line_same (is_worker (who_at script seat)) (said.Pruned (sum_by dropped_told (replies_in call.made))) line call.told refl told tells)
      (inl (fits (sum_by dropped_told (replies_in call.made)) (told ∙ not_silent (is_worker (who_at script seat)) (said.Pruned (sum_by dropped_told (replies_in call.made))) refl)))
  at_quiet (command.Compact table) is own mine free w none =
      let e : events_in call.made ≡ quiet_of (shape_of script) own (command.Compact table) call.made =
      w.events ∙ ap (λ c. events_of (shape_of script) own call.reads seat c call.made) is ∙ split_events (shape_of script) own call.reads seat (command.Compact table) call.made
      ∙ ap (λ o. quiet_of (shape_of script) own (command.Compact table) call.made ++ option_to_list o) none ∙ append-nil (quiet_of (shape_of script) own (command.Compact table) call.made) in
      let sum = sum_unmoved (shape_of script) call.made ended.replied (ap (list_all is_quiet) e ∙ are_quiet (shape_of script) own (command.Compact table) call.made) in
      subst (MayStand (command.Compact table)) (line_same (is_worker (who_at script seat)) (said.Moved (sum_by moved_told (replies_in call.made))) line call.told refl
      (w.line ∙ ap (λ c. line_to (is_worker (who_at script seat)) (line_of own c (replies_in call.made))) is) tells)
      (inl (let w : sum_by moved_told (replies_in call.made) < 2 ^ 64 = omega (arith, sum) in w))
  at_quiet (command.Seal table block) is own mine free w none = absurd (let never : ⊥ = cc none in never)
  at_quiet (command.Gather table block) is own mine free w none = absurd (let never : ⊥ = cc none in never)
  at_quiet (command.Export table) is None mine free w none = absurd (let never : ⊥ = cc free in never)
  at_quiet (command.Export table) is (Some t) mine free w none =
      let e : events_in call.made ≡ at_blocks (shape_of script) table (event.Read t table) = w.events ∙ ap (λ c. events_of (shape_of script) (Some t) call.reads seat c call.made) is in
      let low = export_low script valid seat parts front at next call ended table is in
      let has : is_some (slice_get script.tables table) ≡ true = ap (is_command script.tables) (sym is) ∙ session_asked script valid.valid seat call.command low ended.asked in
      let number = number_low script valid seat parts front at next call ended table is t mine e w.granted in
      let rows = flat_stands (replies_in call.made) (slots_of (shape_of script) table) (read_few script valid seat parts front at next call ended table is t mine e w.granted) in
      let long = read_long script valid seat parts front at next call ended table is t mine e w.granted in
      let slots : slots_of (shape_of script) table ≤ 2 ^ 15 = (valid.shape.slots table (has_table script.tables table has)).1 in
      let most = times_most (length (replies_in call.made)) (slots_of (shape_of script) table) (2 ^ 15) slots in
      let small = few_blocks table in
      let narrow : length (replies_in call.made) * 2 ^ 15 ≡ 2 ^ 15 * length (replies_in call.made) = grind arith in
      let batches = count_few has_rows (replies_in call.made) in
      let images = count_few is_shared (replies_in call.made) in
      subst (MayStand (command.Export table)) (line_same (is_worker (who_at script seat)) (summary_of t (replies_in call.made)) line call.told refl
      (w.line ∙ ap (λ c. line_to (is_worker (who_at script seat)) (line_of (Some t) c (replies_in call.made))) is) tells)
      (inl (
        let n : t.snapshot.number < 2 ^ 64 = omega (arith, number) in n,
        let n : length (flat_map rows_told (replies_in call.made)) < 2 ^ 64 = omega (arith, rows, long, most, narrow, small) in n,
        let n : count_by has_rows (replies_in call.made) < 2 ^ 32 = omega (arith, batches, long, small) in n,
        let n : count_by is_shared (replies_in call.made) < 2 ^ 32 = omega (arith, images, long, small) in n,
      ))

  -- what a call that ended tells may stand where it is due
  pub may_stand : MayStand call.command line
  may_stand = go (refusal_of call.command (own_after ended.began)) refl ended.is_call
    where
      go : (r : Option Said) → refusal_of call.command (own_after ended.began) ≡ r → IsCallBy (shape_of script) (is_worker (who_at script seat)) seat (own_after ended.began) r call → MayStand call.command line
      go (Some refused) e h = subst (MayStand call.command) (same_line refused line (sym h.1 ∙ tells)) (refusal_stands call.command (own_after ended.began) refused ended.keys.fit e)
      go None e (inr p) = subst (MayStand call.command) (same_line said.Memory line (sym p.line ∙ tells)) (memory_stands call.command p.may)
      go None e (inl w) = by (loud_of (shape_of script) (own_after ended.began) call.reads seat call.command call.made) refl
        where
          by : (o : Option CoreEvent) → loud_of (shape_of script) (own_after ended.began) call.reads seat call.command call.made ≡ o → MayStand call.command line
          by (Some l) is = at_loud (own_after ended.began) l w.events is
          by None is = at_quiet call.command refl (own_after ended.began) refl e w is
