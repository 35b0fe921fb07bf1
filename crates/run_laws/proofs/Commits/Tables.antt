-- The commits of a run are commits of its tables, and workers commit nothing.
use Rattle.std.proofs.Common.{◌≡◌, ℕ, ◌<◌, Bool, true, false, cond, ◌==◌, List, [], ◌∷◌, ◌++◌, Option, None, Some, refl, sym, ap, ◌∙◌, subst}
use Rattle.std.specs.Prelude.{All, IfSome, IsSomeAnd, fold, is_none, is_some, option_and_then, option_map, option_to_list, slice_get, ℤ}
use Rattle.std.specs.BTreeMap.{insert_entry}
use Rattle.std.specs.List.{cons_option, flat_map}
use Rattle.std.specs.Option.{option_map_or}
use Rattle.std.specs.Ordering.{match_ordering}
use Rattle.std.specs.declared.cmp.Ordering.{Ordering}
use Rattle.std.specs.declared.cmp.Ordering.TheVariants.{Equal, Greater, Less}
use Rattle.std.proofs.lemmas.List.{map-append}
use Rattle.std.proofs.lemmas.List.Elements.{All-append, All-cons, All-filter, All-head, All-nil, All-tail}
use Rattle.cell_model.specs.declared.cell.Cell.{Cell}
use Rattle.cell_model.specs.declared.table.TableDecl.{TableDecl}
use Rattle.cell_model.specs.Rows.{fits, row_fault}
use Rattle.cell_model.specs.declared.row.RowFault.{RowFault}
use Rattle.event_spec.specs.declared.event.Event.TheVariants as event
use Rattle.event_spec.specs.Effects.{CoreEvent}
use Rattle.event_spec.specs.Parts.{Shape}
use Rattle.event_spec.specs.Replay.{opening}
use Rattle.event_spec.specs.Replies.{CoreReply}
use Rattle.isolation_spec.specs.Commits.{AreCommitsOf, FitsPlace, IsCommitOf, IsWriteOf}
use Rattle.isolation_spec.specs.Contents.{WriteSet, key_of, place_at, place_cmp, place_of}
use Rattle.isolation_spec.specs.declared.place.Place.{Place}
use Rattle.isolation_spec.specs.Order.{InOrder}
use Rattle.isolation_laws.proofs.Overlays.{order-insert}
use Rattle.outcome_spec.specs.Entries.{commit_in, is_accepted, is_commit}
use Rattle.outcome_spec.specs.Forms.{is_upkeep, is_worker}
use Rattle.timeline_laws.proofs.Placed.{one-place}
use Rattle.workload_spec.specs.declared.command.Command.{Command}
use Rattle.workload_spec.specs.declared.command.Command.TheVariants as command
use Rattle.workload_spec.specs.declared.reply.Said.{Said}
use Rattle.workload_spec.specs.declared.script.Script.{Script}
use Rattle.workload_spec.specs.Valid.{fits_table, is_command, is_key_number, is_table_place, is_valid}
use Rattle.run_spec.specs.declared.commit.Commit.{Commit}
use Rattle.run_spec.specs.Commits.{SessionWrites, commit_by, commit_told, commits_along, entered, line_by, own_written, says, write_sets, writes_behind, writes_of}
use Rattle.run_spec.specs.Occurrences.{Logged, Occurrence, under}
use Rattle.run_spec.specs.Ran.{Ran, RoundRun, shape_of}
use Rattle.run_spec.specs.Traces.{as_log}
use Rattle.run_laws.proofs.Calls.Along.{and_first}
use Rattle.run_laws.proofs.Calls.Upkeep.{logs_are_replied, rest_replied, under_replied}
use Rattle.run_laws.proofs.Explained.Keys.{KeyFits}
use Rattle.run_laws.proofs.Explained.Scripts.{asked_fits, event_key, worker_upkeep}
use Rattle.run_laws.proofs.Moments.Rounds.{runs_have_moments}
use Rattle.run_laws.proofs.Told.Tells.{calls_go_on_quietly, last_events_are_told}
use Rattle.run_laws.specs.Calls.Moments.{Lined, Moment, events_at}
use Rattle.run_laws.specs.Calls.Upkeep.{AreReplied}
use Rattle.run_laws.specs.Moments.Laws.{AreMoments, Ends, GoesOn, IsAsked, Stands, with_event}
use Rattle.run_laws.specs.Moments.Moments.{moments_of, who_at}
use Rattle.run_laws.specs.Told.Laws.{TellsAt, is_quiet}

-- True is not the same as false.
true_false : true ≡ false → ⊥
true_false e = cc

-- ---- what an event writes

module _ (tables : List TableDecl) where
  -- what an event writes, if it writes, is a write of the tables
  abbrev pub WriteFits : CoreEvent → Type 0
  WriteFits (event.Insert own table row) = IsWriteOf tables (place_of table row, Some row)
  WriteFits (event.Update own table row) = IsWriteOf tables (place_of table row, Some row)
  WriteFits (event.Delete own table key) = IsWriteOf tables (place_at table key, None)
  WriteFits _ = Unit {0}

  -- A quiet event writes nothing.
  quiet_write : (e : CoreEvent) → is_quiet e ≡ true → WriteFits e
  quiet_write (event.Insert own table row) q = absurd (true_false (sym q))
  quiet_write (event.Update own table row) q = absurd (true_false (sym q))
  quiet_write (event.Delete own table key) q = absurd (true_false (sym q))
  quiet_write (event.Begin session) q = tt
  quiet_write (event.Get own table key) q = tt
  quiet_write (event.Read own table block) q = tt
  quiet_write (event.Range own table low high) q = tt
  quiet_write (event.Commit own reads) q = tt
  quiet_write (event.Abort own) q = tt
  quiet_write event.Oldest q = tt
  quiet_write (event.Observe table block) q = tt
  quiet_write (event.Prune table block oldest) q = tt
  quiet_write (event.Look table block) q = tt
  quiet_write (event.Move table moves) q = tt
  quiet_write (event.Seal table block) q = tt
  quiet_write (event.Image table block image) q = tt
  quiet_write (event.Thaw table block) q = tt

  -- A row that fits its table, with a key of 64 bits, is a write of it.
  row_write : (table : ℕ) (row : List Cell) → fits_table tables table row ≡ true → is_key_number (key_of row) ≡ true → IsWriteOf tables (place_of table row, Some row)
  row_write table row fit key = record { key = key; row = by (slice_get tables table) fit }
    where
      none_of : (o : Option RowFault) → is_none o ≡ true → o ≡ None
      none_of None h = refl
      none_of (Some why) h = absurd (true_false (sym h))

      by : (found : Option TableDecl) → option_map_or (λ (t : TableDecl). fits t.schema row) found false ≡ true
          → IsSomeAnd found (λ t. IfSome (Some row) (FitsPlace t.schema (place_of table row)))
      by None h = absurd (true_false (sym h))
      by (Some decl) h = record { cells = none_of (row_fault decl.schema row) h; key = refl }

  -- A delete of a key of 64 bits is a write of its table.
  delete_write : (table : ℕ) (key : ℤ) → is_table_place tables table ≡ true → is_key_number key ≡ true → IsWriteOf tables (place_at table key, None)
  delete_write table key there is = record { key = is; row = by (slice_get tables table) there }
    where
      by : (found : Option TableDecl) → is_some found ≡ true → IsSomeAnd found (λ t. IfSome None (FitsPlace t.schema (place_at table key)))
      by None h = absurd (true_false (sym h))
      by (Some decl) h = tt

  -- ---- what a session wrote

  -- what was written are writes of the tables, in the order of their places
  pub record AreWrites (own : WriteSet) : Type 0 where
    pub each : All (IsWriteOf tables) own
    pub order : InOrder own

  -- A write more keeps that all are writes of the tables.
  insert_each : (place : Place) (value : Option (List Cell)) (own : WriteSet) → IsWriteOf tables (place, value) → All (IsWriteOf tables) own → All (IsWriteOf tables) (insert_entry place_cmp own place value)
  insert_each place value [] fit all = All-cons (IsWriteOf tables) (place, value) [] fit (All-nil (IsWriteOf tables))
  insert_each place value (w ∷ own) fit all = by (place_cmp place w.0) refl (insert_each place value own fit (All-tail (IsWriteOf tables) w own all))
    where
      by : (answer : Ordering) → place_cmp place w.0 ≡ answer → All (IsWriteOf tables) (insert_entry place_cmp own place value)
          → All (IsWriteOf tables) (match_ordering answer ((place, value) ∷ w ∷ own) ((w.0, value) ∷ own) (w ∷ insert_entry place_cmp own place value))
      by Less is further = All-cons (IsWriteOf tables) (place, value) (w ∷ own) fit all
      by Equal is further = All-cons (IsWriteOf tables) (w.0, value) own (subst (λ (p : Place). IsWriteOf tables (p, value)) (one-place place w.0 is) fit) (All-tail (IsWriteOf tables) w own all)
      by Greater is further = All-cons (IsWriteOf tables) w (insert_entry place_cmp own place value) (All-head (IsWriteOf tables) w own all) further

  -- So does one that is entered where it was accepted.
  entered_fits : (place : Place) (value : Option (List Cell)) (told : CoreReply) (own : WriteSet) → IsWriteOf tables (place, value) → AreWrites own → AreWrites (entered place value told own)
  entered_fits place value told own fit are = go (says is_accepted told)
    where
      go : (b : Bool) → AreWrites (cond b (insert_entry place_cmp own place value) own)
      go false = are
      go true = record { each = insert_each place value own fit are.each; order = order-insert own place value are.order }

  -- Nothing is so.
  none_fit : AreWrites []
  none_fit = record { each = All-nil (IsWriteOf tables); order = tt }

  -- An event more leaves writes of the tables.
  event_fits : (own : WriteSet) (e : CoreEvent) (told : CoreReply) → WriteFits e → AreWrites own → AreWrites (own_written own e told)
  event_fits own (event.Insert handed table row) told fit are = entered_fits (place_of table row) (Some row) told own fit are
  event_fits own (event.Update handed table row) told fit are = entered_fits (place_of table row) (Some row) told own fit are
  event_fits own (event.Delete handed table key) told fit are = entered_fits (place_at table key) None told own fit are
  event_fits own (event.Commit handed reads) told fit are = go (says is_commit told)
    where
      go : (b : Bool) → AreWrites (cond b [] own)
      go true = none_fit
      go false = are
  event_fits own (event.Abort handed) told fit are = none_fit
  event_fits own (event.Begin session) told fit are = are
  event_fits own (event.Get handed table key) told fit are = are
  event_fits own (event.Read handed table block) told fit are = are
  event_fits own (event.Range handed table low high) told fit are = are
  event_fits own event.Oldest told fit are = are
  event_fits own (event.Observe table block) told fit are = are
  event_fits own (event.Prune table block oldest) told fit are = are
  event_fits own (event.Look table block) told fit are = are
  event_fits own (event.Move table moves) told fit are = are
  event_fits own (event.Seal table block) told fit are = are
  event_fits own (event.Image table block image) told fit are = are
  event_fits own (event.Thaw table block) told fit are = are

  -- the event's write fits
  abbrev pub EventFits : Occurrence → Type 0
  EventFits o = WriteFits o.event

  -- Events whose writes fit leave writes of the tables.
  events_fit : (events : List Occurrence) (before : SessionWrites) → All EventFits events → AreWrites before.own → AreWrites (fold writes_behind before events).own
  events_fit [] before all are = are
  events_fit (o ∷ events) before all are = events_fit events (writes_behind before o) (All-tail EventFits o events all)
      (event_fits before.own o.event o.reply (All-head EventFits o events all) are)

  -- ---- commits

  -- a commit of this with a number
  abbrev numbered : WriteSet → ℕ → Commit
  numbered own number = record { number = number; writes = own }

  -- A commit of writes of the tables is a commit of them.
  commit_fits : (own : WriteSet) (told : CoreReply) → AreWrites own → AreCommitsOf tables (write_sets (commit_told own told))
  commit_fits [] told are = All-nil (IsCommitOf tables)
  commit_fits (first ∷ rest) told are = go (option_and_then commit_in (line_by told))
    where
      some : first ∷ rest ≡ [] → ⊥
      some e = cc

      go : (o : Option ℕ) → AreCommitsOf tables (write_sets (option_to_list (option_map (numbered (first ∷ rest)) o)))
      go None = All-nil (IsCommitOf tables)
      go (Some number) = All-cons (IsCommitOf tables) (first ∷ rest) [] (record { some = some; rises = are.order; each = are.each }) (All-nil (IsCommitOf tables))

  -- So is the commit that an event makes.
  made_fits : (own : WriteSet) (e : CoreEvent) (told : CoreReply) → AreWrites own → AreCommitsOf tables (write_sets (commit_by own e told))
  made_fits own (event.Commit handed reads) told are = commit_fits own told are
  made_fits own (event.Begin session) told are = All-nil (IsCommitOf tables)
  made_fits own (event.Get handed table key) told are = All-nil (IsCommitOf tables)
  made_fits own (event.Insert handed table row) told are = All-nil (IsCommitOf tables)
  made_fits own (event.Update handed table row) told are = All-nil (IsCommitOf tables)
  made_fits own (event.Delete handed table key) told are = All-nil (IsCommitOf tables)
  made_fits own (event.Read handed table block) told are = All-nil (IsCommitOf tables)
  made_fits own (event.Range handed table low high) told are = All-nil (IsCommitOf tables)
  made_fits own (event.Abort handed) told are = All-nil (IsCommitOf tables)
  made_fits own event.Oldest told are = All-nil (IsCommitOf tables)
  made_fits own (event.Observe table block) told are = All-nil (IsCommitOf tables)
  made_fits own (event.Prune table block oldest) told are = All-nil (IsCommitOf tables)
  made_fits own (event.Look table block) told are = All-nil (IsCommitOf tables)
  made_fits own (event.Move table moves) told are = All-nil (IsCommitOf tables)
  made_fits own (event.Seal table block) told are = All-nil (IsCommitOf tables)
  made_fits own (event.Image table block image) told are = All-nil (IsCommitOf tables)
  made_fits own (event.Thaw table block) told are = All-nil (IsCommitOf tables)

  -- The commits along events whose writes fit are commits of the tables.
  pub along_fit : (front made : List Occurrence) → All EventFits front → All EventFits made → AreCommitsOf tables (write_sets (commits_along front made))
  along_fit front [] before all = All-nil (IsCommitOf tables)
  along_fit front (o ∷ made) before all =
      let own = (writes_of (under o.session front)).own in
      let here = made_fits own o.event o.reply
      (events_fit (under o.session front) (record { own = []; commits = [] }) (All-filter (λ (x : Occurrence). x.session == o.session) EventFits front before) none_fit) in
      let later = along_fit (front ++ o ∷ []) made
      (All-append EventFits front (o ∷ []) before (All-cons EventFits o [] (All-head EventFits o made all) (All-nil EventFits))) (All-tail EventFits o made all) in
      subst (AreCommitsOf tables) (sym (map-append (λ (c : Commit). c.writes) (commit_by own o.event o.reply) (commits_along (front ++ o ∷ []) made)))
      (All-append (IsCommitOf tables) (write_sets (commit_by own o.event o.reply)) (write_sets (commits_along (front ++ o ∷ []) made)) here later)

-- ---- the events of a run

-- the event is no commit
abbrev pub is_no_commit : CoreEvent → Bool
is_no_commit (event.Commit handed reads) = false
is_no_commit _ = true

-- Nor is a quiet one.
quiet_no_commit : (e : CoreEvent) → is_quiet e ≡ true → is_no_commit e ≡ true
quiet_no_commit (event.Commit handed reads) q = absurd (true_false (sym q))
quiet_no_commit _ q = refl

-- Replies in a row are the replay's where those of two parts are.
both_replied : (shape : Shape) (xs ys : List Occurrence) → AreReplied shape xs → AreReplied shape ys → AreReplied shape (xs ++ ys)
both_replied shape [] ys h k = k
both_replied shape (x ∷ xs) ys h k = (h.0, both_replied shape xs ys h.1 k)

-- what holds of an event at a seat of a script: its write fits, and a worker's is no commit
pub record FitsAt (script : Script) (seat : ℕ) (e : CoreEvent) : Type 0 where
  pub write : WriteFits script.tables e
  pub worker : script.sessions < seat → is_no_commit e ≡ true

module _ (script : Script) (valid : is_valid script ≡ true) where
  -- An event that a call ends with, by what the call is asked.
  last_fits : (seat : ℕ) (worker : Bool) (made : List Occurrence) (e : CoreEvent) (told : CoreReply) (asked : Command) (line : Option Said)
      → IsAsked script seat asked → TellsAt worker made e told asked line → FitsAt script seat e
  last_fits seat worker made e told asked line is h = record { write = by e h (event_key script valid seat worker made e told asked line is h); worker = λ high. never e high h }
    where
      is_asked : (other : Command) → asked ≡ other → is_upkeep other ≡ false → is_command script.tables other ≡ true
      is_asked other same quiet = ap (is_command script.tables) (sym same) ∙ asked_fits script valid seat asked is (ap is_upkeep same ∙ quiet)

      by : (e : CoreEvent) → TellsAt worker made e told asked line → KeyFits e → WriteFits script.tables e
      by (event.Insert own table row) h key = row_write script.tables table row (is_asked (command.Insert table row) h.0 refl) key
      by (event.Update own table row) h key = row_write script.tables table row (is_asked (command.Update table row) h.0 refl) key
      by (event.Delete own table key') h key =
          delete_write script.tables table key' (and_first (is_table_place script.tables table) (is_key_number key') (is_asked (command.Delete table key') h.0 refl)) key
      by (event.Begin session) h key = tt
      by (event.Get own table key') h key = tt
      by (event.Read own table block) h key = tt
      by (event.Range own table low high) h key = tt
      by (event.Commit own reads) h key = tt
      by (event.Abort own) h key = tt
      by event.Oldest h key = tt
      by (event.Observe table block) h key = tt
      by (event.Prune table block oldest) h key = tt
      by (event.Look table block) h key = tt
      by (event.Move table moves) h key = tt
      by (event.Seal table block) h key = tt
      by (event.Image table block image) h key = tt
      by (event.Thaw table block) h key = tt

      never : (e : CoreEvent) → script.sessions < seat → TellsAt worker made e told asked line → is_no_commit e ≡ true
      never (event.Commit own reads) high h = absurd (true_false (sym (worker_upkeep script seat asked high is) ∙ ap is_upkeep h.0))
      never _ high h = refl

  -- what holds of each event at its session's seat
  abbrev pub OccurrenceFits : Occurrence → Type 0
  OccurrenceFits o = FitsAt script o.session o.event

  -- The events of moments fit.
  moments_fit : (front : List Occurrence) (ms : List Moment) → AreMoments script front ms → AreReplied (shape_of script) front → AreReplied (shape_of script) (events_at ms)
      → All OccurrenceFits (events_at ms)
  moments_fit front [] are before replied = All-nil OccurrenceFits
  moments_fit front (m ∷ ms) are before replied = by m.event m.line are.0.event_is are.0.stands replied (moments_fit (with_event front m.event) ms are.1)
    where
      shape : Shape
      shape = shape_of script

      goes_on : (o : Occurrence) → GoesOn script front m.session o → FitsAt script m.session o.event
      goes_on o goes =
          let quiet = calls_go_on_quietly (shape_of script) (is_worker (who_at script m.session)) m.session goes.began goes.call goes.done o goes.next goes.rest goes.is_call goes.made in
          record { write = quiet_write script.tables o.event quiet; worker = λ high. quiet_no_commit o.event quiet }

      ends : (o : Occurrence) (line : Lined) → AreReplied (shape_of script) (o ∷ []) → Ends script front m.session (Some o) line → FitsAt script m.session o.event
      ends o line own is =
          let its = rest_replied (shape_of script) is.began is.done (subst (AreReplied (shape_of script)) is.behind (under_replied (shape_of script) m.session front before)) in
          let made = subst (AreReplied (shape_of script)) (sym is.made) (both_replied (shape_of script) is.done (o ∷ []) its own) in
          last_fits m.session (is_worker (who_at script m.session)) line.call.made o.event o.reply line.call.command line.call.told is.asked
          (last_events_are_told (shape_of script) (is_worker (who_at script m.session)) m.session is.began line.call is.done o is.is_call made is.made)

      one : (o : Occurrence) (rest : List Occurrence) → o.session ≡ m.session → FitsAt script m.session o.event → AreReplied (shape_of script) (o ∷ rest)
          → (AreReplied (shape_of script) (front ++ o ∷ []) → AreReplied (shape_of script) rest → All OccurrenceFits rest) → All OccurrenceFits (o ∷ rest)
      one o rest its fit told further = All-cons OccurrenceFits o rest (subst (λ (s : ℕ). FitsAt script s o.event) (sym its) fit)
          (further (both_replied (shape_of script) front (o ∷ []) before (told.0, tt)) told.1)

      by : (e : Option Occurrence) (l : Option Lined) → IfSome e (λ o. o.session ≡ m.session) → Stands script front m.session e l → AreReplied (shape_of script) (cons_option e (events_at ms))
          → (AreReplied (shape_of script) (with_event front e) → AreReplied (shape_of script) (events_at ms) → All OccurrenceFits (events_at ms))
          → All OccurrenceFits (cons_option e (events_at ms))
      by None l its stands told further = further before told
      by (Some o) None its stands told further = one o (events_at ms) its (goes_on o stands) told further
      by (Some o) (Some line) its stands told further = one o (events_at ms) its (ends o line (told.0, tt) stands) told further

  -- So do those of a run.
  pub run_fits : (log : List Logged) (text : List ℕ) → (ran : Ran script log text) → All OccurrenceFits (flat_map (λ (round : RoundRun). round.made) ran.rounds)
  run_fits log text ran =
      let moments = runs_have_moments script log text ran in
      let events : events_at (moments_of script ran.rounds) ≡ flat_map (λ (round : RoundRun). round.made) ran.rounds = moments.events ∙ ran.parted in
      subst (All OccurrenceFits) events
      (moments_fit [] (moments_of script ran.rounds) moments.calls tt
      (subst (AreReplied (shape_of script)) (sym moments.events) (logs_are_replied (shape_of script) (opening (shape_of script)) (as_log ran.trace))))
