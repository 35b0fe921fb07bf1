-- The machine keeps rows of their tables where commands write such rows, and so finds and lists
-- such rows.
use Rattle.std.proofs.Common.{◌≡◌, ℕ, Bool, true, false, cond, ◌&&◌, ◌||◌, List, [], ◌∷◌, ◌++◌, Option, None, Some, ℤ, refl, sym, ap, ◌∙◌, subst}
use Rattle.std.specs.Prelude.{◌==◌, slice_get, filter, map, find, is_some}
use Rattle.std.specs.Cmp.{int_eq_equiv}
use Rattle.std.specs.Option.{option_map_or}
use Rattle.std.specs.List.{cons_option, list_any}
use Rattle.std.proofs.lemmas.Bool.{and_parts}
use Rattle.std.specs.Ordering.{int_eq}
use Rattle.cell_model.specs.declared.cell.Cell.{Cell}
use Rattle.cell_model.specs.declared.table.TableDecl.{TableDecl}
use Rattle.cell_model.specs.Rows.{fits}
use Rattle.isolation_spec.specs.Contents.{History, State, WriteSet, at_place, place_at, place_of, state_at}
use Rattle.isolation_spec.specs.Machine.{IsolationMachine, Transaction, commit, entered, opening_from, seen_rows, step, step_of, transaction_of}
use Rattle.isolation_spec.specs.Checked.{step_with, stale_of}
use Rattle.isolation_spec.specs.Reads.{ReadSet}
use Rattle.isolation_spec.specs.declared.read.Read.{Read}
use Rattle.isolation_spec.specs.declared.read.Read.TheVariants as read
use Rattle.isolation_laws.proofs.Checked.{commit-stands, commit-refused, stale-open, stale-closed}
use Rattle.isolation_spec.specs.Store.{Outcome, Answered, Freezing, Full, Memory, Allows}
use Rattle.isolation_spec.specs.declared.command.Act.{Act}
use Rattle.isolation_spec.specs.declared.command.Act.TheVariants as act
use Rattle.isolation_spec.specs.declared.command.Answer.{Answer}
use Rattle.isolation_spec.specs.declared.command.Answer.TheVariants as answer
use Rattle.isolation_spec.specs.declared.place.Place.{Place}
use Rattle.workload_spec.specs.Valid.{fits_table, is_command, is_table_place, is_key_number}
use Rattle.workload_spec.specs.declared.command.Command.{Command}
use Rattle.workload_spec.specs.declared.command.Command.TheVariants as command
use Rattle.workload_spec.specs.declared.reply.Who.{Who}
use Rattle.workload_spec.specs.declared.reply.Who.TheVariants.{Session, Worker}
use Rattle.workload_spec.specs.declared.reply.Said.{Said}
use Rattle.workload_spec.specs.declared.reply.Said.TheVariants as said
use Rattle.outcome_spec.specs.Entries.{Entry, is_same, thread}
use Rattle.outcome_spec.specs.Stale.{is_read, read_asked, read_told, reads_told, reads_after, shows_read}
use Rattle.outcome_spec.specs.Runs.{write_of}
use Rattle.outcome_spec.specs.Tables.{columns_at}
use Rattle.timeline_spec.specs.Timeline.{stale_of as stale_named}
use Rattle.timeline_spec.specs.Timeline.{Aside, Each, RunsFrom, TakesAs, Tells, TimelineFrom, request_of, said_of}
use Rattle.timeline_laws.proofs.Cuts.{change-of}
use Rattle.timeline_laws.proofs.Order.{Each-append, Each-filter, Each-second, Each-printed, Each-timeline}
use Rattle.timeline_laws.proofs.Lasts.{one-among}
use Rattle.timeline_laws.proofs.ReadSets.{ReadsAre, one_read}
use Rattle.timeline_laws.proofs.Refused.{Refused, refused-is}
use Rattle.timeline_laws.proofs.Placed.{Written, AllWritten, MayBeWritten, Placed, all-append, found-at, contents-rise, between-rise, insert-written, laid-placed, state-placed}
use Rattle.timeline_laws.proofs.Stated.{RowsFit, GotFits, IsNamed, StaleFits, stale_table}
use Rattle.timeline_laws.proofs.Steps.{Change, quiet, opens, writes, ends, commits, asks}
use Rattle.timeline_laws.proofs.Walk.{Shown, Stands, shown-opening, shown-step}

module _ (tables : List TableDecl) where
  -- what the open transactions wrote
  abbrev EachOwn : List Transaction → Type 0
  EachOwn [] = Unit {0}
  EachOwn (t ∷ ts) = Written tables t.own × EachOwn ts

  -- Committed and open writes leave rows of their tables at their places.
  pub record Kept (machine : IsolationMachine) : Type 0 where
    pub history : AllWritten tables machine.history
    pub own : EachOwn machine.open_transactions

  -- Two lists of transactions whose writes fit make one such list.
  own-append : (a b : List Transaction) → EachOwn a → EachOwn b → EachOwn (a ++ b)
  own-append [] b h k = k
  own-append (t ∷ a) b h k = (h.0, own-append a b h.1 k)

  -- Of transactions whose writes fit, the writes of those that are kept fit.
  own-filter : (p : Transaction → Bool) (ts : List Transaction) → EachOwn ts → EachOwn (filter p ts)
  own-filter p [] h = tt
  own-filter p (t ∷ ts) h = by (own-filter p ts h.1) (p t)
    where
      by : EachOwn (filter p ts) → (b : Bool) → EachOwn (cond b (t ∷ filter p ts) (filter p ts))
      by again true = (h.0, again)
      by again false = again

  -- Entering a write that fits into a session's transaction keeps that all writes fit.
  own-entered : (session : ℕ) (place : Place) (change : Option (List Cell)) → MayBeWritten tables place change → (ts : List Transaction) → EachOwn ts
      → EachOwn (map (λ t. cond (t.session == session) (entered place change t) t) ts)
  own-entered session place change may [] h = tt
  own-entered session place change may (t ∷ ts) h = (by (t.session == session), own-entered session place change may ts h.1)
    where
      by : (b : Bool) → Written tables (cond b (entered place change t) t).own
      by true = insert-written tables place change t.own may h.0
      by false = h.0

  -- A transaction that is found among those whose writes fit has such writes.
  own-found : (p : Transaction → Bool) (ts : List Transaction) (t : Transaction) → EachOwn ts → find p ts ≡ Some t → Written tables t.own
  own-found p [] t h is = absurd (let never : ⊥ = cc in never)
  own-found p (first ∷ ts) t h is = by (own-found p ts t h.1) (p first) is
    where
      by : (find p ts ≡ Some t → Written tables t.own) → (b : Bool) → cond b (Some first) (find p ts) ≡ Some t → Written tables t.own
      by again true e = let same : first ≡ t = cc in subst (λ (u : Transaction). Written tables u.own) same h.0
      by again false e = again e

  -- ---- what commands write

  -- A row that fits the table that is found fits its columns.
  table-fits : (table : ℕ) (row : List Cell) (found : Option TableDecl) → option_map_or (λ t. fits t.schema row) found false ≡ true → fits (option_map_or (λ decl. decl.schema) found []) row ≡ true
  table-fits table row None h = absurd (let never : ⊥ = cc in never)
  table-fits table row (Some decl) h = h

  -- A row that fits its table may be written at its place.
  row-may : (table : ℕ) (row : List Cell) → fits_table tables table row ≡ true → MayBeWritten tables (place_of table row) (Some row)
  row-may table row h = record { fit = table-fits table row (slice_get tables table) h; key = refl }

  -- A write at a place, as one that a command makes.
  abbrev written : Place → Option (List Cell) → Option (Place × Option (List Cell))
  written place change = Some (place, change)

  -- Of two equal writes, one may be written where the other may.
  chosen-write : (place : Place) (change : Option (List Cell)) (own_place : Place) (own_change : Option (List Cell)) → written own_place own_change ≡ written place change → MayBeWritten tables own_place own_change
      → MayBeWritten tables place change
  chosen-write place change own_place own_change is may =
      let at : own_place ≡ place = ap (λ (w : Option (Place × Option (List Cell))). option_map_or (λ x. x.0) w own_place) is in
      let row : own_change ≡ change = ap (λ (w : Option (Place × Option (List Cell))). option_map_or (λ x. x.1) w own_change) is in
      subst (λ (p : Place). MayBeWritten tables p change) at (subst (MayBeWritten tables own_place) row may)

  -- What a valid command writes may be written at its place.
  may-write : (asked : Command) (place : Place) (change : Option (List Cell)) → is_command tables asked ≡ true → write_of asked ≡ written place change → MayBeWritten tables place change
  may-write (command.Insert table row) place change valid is = chosen-write place change (place_of table row) (Some row) is (row-may table row valid)
  may-write (command.Update table row) place change valid is = chosen-write place change (place_of table row) (Some row) is (row-may table row valid)
  may-write (command.Delete table key) place change valid is = chosen-write place change (place_at table key) None is tt
  may-write _ place change valid is = absurd (let never : ⊥ = cc in never)

  -- A reply to a valid command keeps that the machine's writes fit their tables.
  kept-change : (who : Who) (asked : Command) (told : Said) (machine after : IsolationMachine) → is_command tables asked ≡ true → Kept machine → Change who asked told machine after → Kept after
  kept-change who asked told machine after valid k (quiet q) = subst Kept (sym q.same) k
  kept-change who asked told machine after valid k (opens o) = subst Kept (sym o.is) (record { history = k.history; own = own-append machine.open_transactions _ k.own (tt, tt) })
  kept-change who asked told machine after valid k (writes w) =
      subst Kept (sym w.is) (record { history = k.history; own = own-entered w.session w.place w.change (may-write asked w.place w.change valid w.write) machine.open_transactions k.own })
  kept-change who asked told machine after valid k (ends e) = subst Kept (sym e.is) (record { history = k.history; own = own-filter _ machine.open_transactions k.own })
  kept-change who asked told machine after valid k (commits c) =
      let own = own-found (λ t. t.session == c.session) machine.open_transactions c.t k.own c.at in
      subst Kept (sym c.is) (record { history = all-append tables machine.history (c.t.own ∷ []) k.history (own, tt); own = own-filter _ machine.open_transactions k.own })

  -- ---- what commands find

  -- The rows that an open transaction sees stand at their places.
  seen-placed : (machine : IsolationMachine) (session : ℕ) (t : Transaction) → Kept machine → transaction_of session machine ≡ Some t → Placed tables (seen_rows machine t)
  seen-placed machine session t k at =
      laid-placed tables (state_at machine.history t.snapshot) t.own (own-found (λ u. u.session == session) machine.open_transactions t k.own at) (state-placed tables machine.history t.snapshot k.history)

  -- What is found at a key among placed rows fits the table and has the key.
  got-fits : (table : ℕ) (key : ℤ) (rows : State) → Placed tables rows → (found : Option (List Cell)) → at_place rows (place_at table key) ≡ found → GotFits (columns_at tables table) key (said_of (answer.Found found))
  got-fits table key rows h None is = tt
  got-fits table key rows h (Some row) is =
      let at = found-at tables (place_at table key) rows row h is in
      (at.fit, ap (λ (k : ℤ). int_eq k key) at.key ∙ int_eq_equiv.refl key)

  -- the answer of the machine, or a refusal
  outcome-fits : (reads : Option ReadSet) (asked : Command) (act : Act) (machine : IsolationMachine) (session : ℕ) (own : Answer) (told : Said) (after : IsolationMachine) → (step_with machine reads (asks session act)).0 ≡ own → RowsFit tables asked (said_of own)
      → ((t b g : ℕ) → RowsFit tables asked (said.Freezing t b g)) → RowsFit tables asked said.Full → RowsFit tables asked said.Memory
      → (outcome : Outcome) → Tells outcome told → Allows machine reads (asks session act) outcome after → RowsFit tables asked told
  outcome-fits reads asked act machine session own told after is fit f g m (Answered a) tells allows =
      let e : a ≡ own = sym (ap (λ (p : Answer × IsolationMachine). p.0) allows) ∙ is in
      subst (RowsFit tables asked) (sym (tells ∙ ap said_of e)) fit
  outcome-fits reads asked act machine session own told after is fit f g m Freezing tells allows = subst (RowsFit tables asked) (sym tells.3) (f tells.0 tells.1 tells.2)
  outcome-fits reads asked act machine session own told after is fit f g m Full tells allows = subst (RowsFit tables asked) (sym tells) g
  outcome-fits reads asked act machine session own told after is fit f g m Memory tells allows = subst (RowsFit tables asked) (sym tells) m

  -- The machine's answer to a get fits the table and the key.
  get-fits : (machine : IsolationMachine) (session table : ℕ) (key : ℤ) → Kept machine → (found : Option Transaction) → transaction_of session machine ≡ found
      → RowsFit tables (command.Get table key) (said_of (step_of machine (asks session (act.Get table key)) found).0)
  get-fits machine session table key k None at = tt
  get-fits machine session table key k (Some t) at = got-fits table key (seen_rows machine t) (seen-placed machine session t k at) (at_place (seen_rows machine t) (place_at table key)) refl

  -- The machine's answer to a scan has rows that fit the table.
  scan-fits : (machine : IsolationMachine) (session table : ℕ) → Kept machine → (found : Option Transaction) → transaction_of session machine ≡ found
      → RowsFit tables (command.Scan table) (said_of (step_of machine (asks session (act.Scan table)) found).0)
  scan-fits machine session table k None at = tt
  scan-fits machine session table k (Some t) at = contents-rise tables table (seen_rows machine t) (seen-placed machine session t k at)

  -- The machine's answer to a range has rows that fit the table.
  range-fits : (machine : IsolationMachine) (session table : ℕ) (low high : ℤ) → Kept machine → (found : Option Transaction) → transaction_of session machine ≡ found
      → RowsFit tables (command.Range table low high) (said_of (step_of machine (asks session (act.Range table low high)) found).0)
  range-fits machine session table low high k None at = tt
  range-fits machine session table low high k (Some t) at = between-rise tables table low high (seen_rows machine t) (seen-placed machine session t k at)

  -- ---- what commits name

  -- the tables that there are are named
  abbrev pub AreNamed : Type 0
  AreNamed = (table : ℕ) → is_table_place tables table ≡ true → IsNamed tables table

  -- The table of a read.
  abbrev table_of : Read → ℕ
  table_of (read.Key table key) = table
  table_of (read.Table table) = table
  table_of (read.Range table low high) = table

  -- What passes a test is there.
  passes-there : (test : TableDecl → Bool) (found : Option TableDecl) → option_map_or test found false ≡ true → is_some found ≡ true
  passes-there test None h = absurd (let never : ⊥ = cc in never)
  passes-there test (Some decl) h = refl

  -- What a valid command asks to read is of a table that there is.
  asked-place : (asked : Command) (what : Read) → is_command tables asked ≡ true → read_asked asked ≡ Some what → is_table_place tables (table_of what) ≡ true
  asked-place (command.Get table key) what valid is =
      ap (λ (o : Option Read). is_table_place tables (option_map_or table_of o table)) (sym is) ∙ (and_parts (is_table_place tables table) (is_key_number key) valid).0
  asked-place (command.Scan table) what valid is = ap (λ (o : Option Read). is_table_place tables (option_map_or table_of o table)) (sym is) ∙ valid
  asked-place (command.Range table low high) what valid is =
      ap (λ (o : Option Read). is_table_place tables (option_map_or table_of o table)) (sym is)
      ∙ (and_parts (is_table_place tables table) (is_key_number low) (and_parts (is_table_place tables table && is_key_number low) (is_key_number high) valid).0).0
  asked-place (command.Total table column low high) what valid is =
      ap (λ (o : Option Read). is_table_place tables (option_map_or table_of o table)) (sym is) ∙ passes-there _ (slice_get tables table) valid
  asked-place (command.Export table) what valid is = ap (λ (o : Option Read). is_table_place tables (option_map_or table_of o table)) (sym is) ∙ valid
  asked-place _ what valid is = absurd (let never : ⊥ = cc in never)

  -- So is what such a command and its reply tell that was read.
  told-place : (asked : Command) (b : Bool) (what : Read) → is_command tables asked ≡ true → cond b (read_asked asked) None ≡ Some what → is_table_place tables (table_of what) ≡ true
  told-place asked true what valid is = asked-place asked what valid is
  told-place asked false what valid is = absurd (let never : ⊥ = cc in never)

  -- A read among those that replies to valid commands tell is of a table that there is.
  read-place : (what : Read) (entries : List Entry) → Each (λ entry. is_command tables entry.command ≡ true) entries → list_any (is_read what) (reads_told entries) ≡ true → is_table_place tables (table_of what) ≡ true
  read-place what [] valid is = absurd (let never : ⊥ = cc in never)
  read-place what (entry ∷ entries) valid is = by (read_told entry.command entry.reply.said) refl is (read-place what entries valid.1)
    where
      by : (told : Option Read) → read_told entry.command entry.reply.said ≡ told → list_any (is_read what) (cons_option told (reads_told entries)) ≡ true
          → (list_any (is_read what) (reads_told entries) ≡ true → is_table_place tables (table_of what) ≡ true) → is_table_place tables (table_of what) ≡ true
      by None at among later = later among
      by (Some first) at among later = either (is_read what first) refl among
        where
          either : (b : Bool) → is_read what first ≡ b → (b || list_any (is_read what) (reads_told entries)) ≡ true → is_table_place tables (table_of what) ≡ true
          either true same h = told-place entry.command (shows_read entry.reply.said) what valid.0 (at ∙ ap Some (sym (one_read what first same)))
          either false same h = later h

  -- A read that is printed is of the table of the read.
  printed-table : (what : Read) → stale_table (stale_named what) ≡ table_of what
  printed-table (read.Key table key) = refl
  printed-table (read.Table table) = refl
  printed-table (read.Range table low high) = refl

  module _ (start : History) (named : AreNamed) (front : List Entry) (machine : IsolationMachine) (shown : Shown start front machine) (valid : Each (λ entry. is_command tables entry.command ≡ true) front) (session : ℕ) where
    -- The read set of what the session has open, as its replies tell it.
    abbrev its_reads : Option ReadSet
    its_reads = reads_after (thread (Session session) front)

    -- A commit that is refused names a read of a table that is named.
    refused-fits : (t : Transaction) (stale : Read × ℕ) → transaction_of session machine ≡ Some t → Refused machine t its_reads stale → IsNamed tables (stale_table (stale_named stale.0))
    refused-fits t stale at r =
        let within = subst (Stands (Session session) (thread (Session session) front)) at (shown.stands (Session session)) in
        let its = subst (λ (reads : Option ReadSet). ReadsAre reads within.replies) r.reads_are within.reads_are in
        let among : list_any (is_read stale.0) (reads_told within.replies) ≡ true =
        sym (its.1 stale.0) ∙ ap (list_any (is_read stale.0)) r.found.among ∙ one-among stale.0 r.found.front r.found.rest in
        let mine = Each-second (λ entry. is_command tables entry.command ≡ true) within.ahead within.replies
        (subst (Each (λ entry. is_command tables entry.command ≡ true)) within.split (Each-filter (λ entry. is_command tables entry.command ≡ true) (λ other. is_same other.reply.who (Session session)) front valid)) in
        subst (IsNamed tables) (sym (printed-table stale.0)) (named (table_of stale.0) (read-place stale.0 within.replies mine among))

    -- What a commit of some writes is told fits.
    made-fits : (t : Transaction) (own : WriteSet) → StaleFits tables (said_of (commit machine t own).0)
    made-fits t [] = tt
    made-fits t (first ∷ rest) = tt

    -- What the machine's own commit is told fits.
    stands-fits : (found : Option Transaction) → StaleFits tables (said_of (step_of machine (asks session act.Commit) found).0)
    stands-fits None = tt
    stands-fits (Some t) = made-fits t t.own

    -- What a commit is told fits, stale or not.
    commit-fits : (stale : Option (Read × ℕ)) (found : Option Transaction) → stale_of machine its_reads session act.Commit ≡ stale → transaction_of session machine ≡ found
        → StaleFits tables (said_of (step_with machine its_reads (asks session act.Commit)).0)
    commit-fits None found is at =
        subst (λ (p : Answer × IsolationMachine). StaleFits tables (said_of p.0)) (sym (commit-stands machine its_reads session is)) (stands-fits (transaction_of session machine))
    commit-fits (Some stale) None is at = absurd (let e : None ≡ Some stale = sym (stale-closed machine its_reads session at) ∙ is in let never : ⊥ = cc in never)
    commit-fits (Some stale) (Some t) is at =
        subst (λ (p : Answer × IsolationMachine). StaleFits tables (said_of p.0)) (sym (commit-refused machine its_reads session stale is))
        (refused-fits t stale at (refused-is machine t t.own its_reads stale refl (sym (stale-open machine its_reads session t at) ∙ is)))

  -- A reply that comes about tells rows that fit what its command asks.
  takes-fits : (start : History) → AreNamed → (front : List Entry) (machine : IsolationMachine) (entry : Entry) (after : IsolationMachine) (who : Who) (asked : Command) → Shown start front machine
      → Each (λ entry. is_command tables entry.command ≡ true) front → entry.reply.who ≡ who → entry.command ≡ asked → Kept machine
      → TakesAs tables front machine entry after (request_of who asked) → RowsFit tables asked entry.reply.said
  takes-fits start named front machine entry after (Session session) (command.Get table key) shown valid is_who is k h =
      outcome-fits (reads_after (thread entry.reply.who front)) (command.Get table key) (act.Get table key) machine session (step machine (asks session (act.Get table key))).0 entry.reply.said after refl
      (get-fits machine session table key k (transaction_of session machine) refl) (λ t b g. tt) tt tt h.outcome h.tells h.allows
  takes-fits start named front machine entry after (Session session) (command.Scan table) shown valid is_who is k h =
      outcome-fits (reads_after (thread entry.reply.who front)) (command.Scan table) (act.Scan table) machine session (step machine (asks session (act.Scan table))).0 entry.reply.said after refl
      (scan-fits machine session table k (transaction_of session machine) refl) (λ t b g. tt) tt tt h.outcome h.tells h.allows
  takes-fits start named front machine entry after (Session session) (command.Range table low high) shown valid is_who is k h =
      outcome-fits (reads_after (thread entry.reply.who front)) (command.Range table low high) (act.Range table low high) machine session (step machine (asks session (act.Range table low high))).0 entry.reply.said after refl
      (range-fits machine session table low high k (transaction_of session machine) refl) (λ t b g. tt) tt tt h.outcome h.tells h.allows
  takes-fits start named front machine entry after (Session session) command.Commit shown valid is_who is k h =
      let reads : reads_after (thread entry.reply.who front) ≡ reads_after (thread (Session session) front) = ap (λ (w : Who). reads_after (thread w front)) is_who in
      let its = reads_after (thread (Session session) front) in
      outcome-fits its command.Commit act.Commit machine session (step_with machine its (asks session act.Commit)).0 entry.reply.said after refl
      (commit-fits start named front machine shown valid session (stale_of machine its session act.Commit) (transaction_of session machine) refl refl)
      (λ t b g. tt) tt tt h.outcome h.tells (subst (λ (r : Option ReadSet). Allows machine r (asks session act.Commit) h.outcome after) reads h.allows)
  takes-fits start named front machine entry after (Worker worker) (command.Get table key) shown valid is_who is k h =
      let aside : Aside tables front machine entry.reply.who (command.Get table key) entry.reply.said = subst (λ (c : Command). Aside tables front machine entry.reply.who c entry.reply.said) is h.0 in
      absurd (let e : false ≡ true = aside.0 in let never : ⊥ = cc in never)
  takes-fits start named front machine entry after (Worker worker) (command.Scan table) shown valid is_who is k h =
      let aside : Aside tables front machine entry.reply.who (command.Scan table) entry.reply.said = subst (λ (c : Command). Aside tables front machine entry.reply.who c entry.reply.said) is h.0 in
      absurd (let e : false ≡ true = aside.0 in let never : ⊥ = cc in never)
  takes-fits start named front machine entry after (Worker worker) (command.Range table low high) shown valid is_who is k h =
      let aside : Aside tables front machine entry.reply.who (command.Range table low high) entry.reply.said = subst (λ (c : Command). Aside tables front machine entry.reply.who c entry.reply.said) is h.0 in
      absurd (let e : false ≡ true = aside.0 in let never : ⊥ = cc in never)
  takes-fits start named front machine entry after (Worker worker) command.Commit shown valid is_who is k h =
      let aside : Aside tables front machine entry.reply.who command.Commit entry.reply.said = subst (λ (c : Command). Aside tables front machine entry.reply.who c entry.reply.said) is h.0 in
      absurd (let e : false ≡ true = aside.0 in let never : ⊥ = cc in never)
  takes-fits start named front machine entry after who _ shown valid is_who is k h = tt

  -- ---- along a timeline

  -- Replies that come about one behind the other tell rows that fit their commands.
  rows-fit : (start : History) → AreNamed → (front : List Entry) (machine : IsolationMachine) (rest : List Entry) → Shown start front machine → Kept machine
      → Each (λ entry. is_command tables entry.command ≡ true) front → Each (λ entry. is_command tables entry.command ≡ true) rest
      → RunsFrom start tables front machine rest → Each (λ entry. RowsFit tables entry.command entry.reply.said) rest
  rows-fit start named front machine [] shown k before valid runs = tt
  rows-fit start named front machine (entry ∷ rest) shown k before valid runs =
      let change = change-of tables front machine runs.0 entry shown.sane runs.1 in (
        takes-fits start named front machine entry runs.0 entry.reply.who entry.command shown before refl refl k runs.1,
        rows-fit start named (front ++ entry ∷ []) runs.0 rest (shown-step start front machine runs.0 entry shown change)
            (kept-change entry.reply.who entry.command entry.reply.said machine runs.0 valid.0 k change) (Each-append (λ entry. is_command tables entry.command ≡ true) front (entry ∷ []) before (valid.0, tt)) valid.1 runs.3,
      )

  -- Rows that are found and scanned in a timeline are rows of their tables, where its commands and the
  -- rows of the commits that its store began with are.
  pub printed-rows-fit : (start : History) → AllWritten tables start → AreNamed → (printed timeline : List Entry) → TimelineFrom start tables printed timeline → Each (λ entry. is_command tables entry.command ≡ true) printed
      → Each (λ entry. RowsFit tables entry.command entry.reply.said) printed
  printed-rows-fit start first named printed timeline t valid =
      Each-printed (λ entry. RowsFit tables entry.command entry.reply.said) printed timeline t.threads
      (rows-fit start named [] (opening_from start) timeline (shown-opening start) (record { history = first; own = tt }) tt
      (Each-timeline (λ entry. is_command tables entry.command ≡ true) printed timeline t.threads valid) t.runs)
