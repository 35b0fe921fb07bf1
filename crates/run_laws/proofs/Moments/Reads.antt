-- What a session's transaction read is in each of its calls what the lines before it tell.
use Rattle.std.proofs.Common.{◌≡◌, ◌⊎◌, ℕ, zero, suc, ◌+◌, ◌<◌, ◌≤◌, Bool, true, false, cond, ◌==◌, ◌&&◌, List, [], ◌∷◌, ◌++◌, map, Option, None, Some, All, refl, sym, ap, ◌∙◌, subst, arith, append-nil}
use mathlib.Core.Logic.{inl, inr}
use Rattle.std.specs.Prelude.{IfSome, option_and_then}
use Rattle.std.specs.List.{cons_option, filter, filter_map, flat_map, range_with_len}
use Rattle.std.specs.Option.{option_map_or}
use Rattle.std.proofs.lemmas.Bool.Decides.{nat_tests}
use Rattle.std.proofs.lemmas.Bool.{and_parts}
use Rattle.std.proofs.lemmas.List.Elements.{All-nil, All-push, filter-append, filter_map-append}
use Rattle.std.proofs.lemmas.Grind.{flat_map-append}
use Rattle.std.proofs.lemmas.List.{map-append}
use Rattle.std.proofs.lemmas.List.Sums.{fold-append}
use Rattle.std.proofs.lemmas.Map.Views.{All-insert_key}
use Rattle.cell_model.specs.declared.table.TableDecl.{TableDecl}
use Rattle.event_spec.specs.Lawful.{Among}
use Rattle.isolation_spec.specs.Contents.{place_at, place_cmp}
use Rattle.isolation_spec.specs.declared.place.Place.{Place}
use Rattle.isolation_spec.specs.declared.read.KeyRange.{KeyRange}
use Rattle.isolation_spec.specs.Reads.{ReadSet, no_reads}
use Rattle.outcome_spec.specs.Entries.{Entry, is_same, thread}
use Rattle.outcome_spec.specs.Forms.{is_upkeep, is_worker}
use Rattle.outcome_spec.specs.Stale.{begins_checked, entered, reads_after, reads_behind}
use Rattle.timeline_laws.proofs.Order.{same-itself}
use Rattle.workload_spec.specs.declared.command.Command.{Command}
use Rattle.workload_spec.specs.declared.command.Command.TheVariants as command
use Rattle.workload_spec.specs.declared.reply.Said.{Said}
use Rattle.workload_spec.specs.declared.reply.Said.TheVariants as said
use Rattle.workload_spec.specs.declared.reply.Who.{Who}
use Rattle.workload_spec.specs.declared.script.Line.{Line}
use Rattle.workload_spec.specs.declared.script.Script.{Script}
use Rattle.workload_spec.specs.Valid.{is_command, is_key_number, is_table_place, is_valid}
use Rattle.run_spec.specs.Calls.{Call, Kept, reads_now}
use Rattle.run_spec.specs.Occurrences.{Logged, Occurrence}
use Rattle.run_spec.specs.Ran.{Agenda, AreRounds, Ran, RoundRun, Share, agenda_of, agendas_in, calls_of}
use Rattle.run_laws.proofs.Calls.Along.{and_second}
use Rattle.run_laws.proofs.Calls.Moments.{moments_are_the_round}
use Rattle.run_laws.proofs.Explained.Scripts.{asked_fits}
use Rattle.run_laws.proofs.Moments.Rounds.{runs_have_moments}
use Rattle.run_laws.proofs.Moments.Seats.{Aligned, Seat, aligned, calls_at, either, parted, session_at, worker_at}
use Rattle.run_laws.proofs.Moments.Threads.{not_same, number_is, once}
use Rattle.run_laws.specs.Calls.Moments.{Lined, Moment, lines_at, lines_of}
use Rattle.run_laws.specs.Moments.Laws.{AreMoments, IsAsked, IsPrinted, Stands, with_event}
use Rattle.run_laws.specs.Moments.Moments.{lined, moments_from, moments_of, pending_at, pending_of, printed_by, printed_in, all_printed, due_of, reply_of, round_moments, seats_of, shares_lined, who_at, with_reply}

-- What is true is not false.
true_false : true ≡ false → ⊥
true_false e = cc

-- ---- keys of 64 bits

-- the ends of a range are numbers of 64 bits
pub record HasEnds (range : KeyRange) : Type 0 where
  pub low : is_key_number range.low ≡ true
  pub high : is_key_number range.high ≡ true

-- the keys that were read, and the ends of the ranges, are numbers of 64 bits
pub record AreKeys (reads : ReadSet) : Type 0 where
  pub keys : All (λ (place : Place). is_key_number place.key ≡ true) reads.places
  pub ranges : All HasEnds reads.ranges

-- so it is of what was read, where that is kept
abbrev pub ReadsAreKeys : Option ReadSet → Type 0
ReadsAreKeys reads = IfSome reads AreKeys

-- A key of 64 bits that is got, a table that is read, or a range between such keys leaves the keys
-- that were read such keys.
entered_keys : (tables : List TableDecl) (asked : Command) (reads : Option ReadSet) → is_command tables asked ≡ true
    → ReadsAreKeys reads → ReadsAreKeys (entered reads asked)
entered_keys tables asked None fits keys = tt
entered_keys tables (command.Get table key) (Some set) fits keys = record {
  keys = All-insert_key place_cmp (place_at table key) (λ (place : Place). is_key_number place.key ≡ true) set.places keys.keys (and_second (is_table_place tables table) (is_key_number key) fits);
  ranges = keys.ranges;
}
entered_keys tables (command.Scan table) (Some set) fits keys = record { keys = keys.keys; ranges = keys.ranges }
entered_keys tables (command.Range table low high) (Some set) fits keys =
    let both = and_parts (is_table_place tables table && is_key_number low) (is_key_number high) fits in
    let first = and_parts (is_table_place tables table) (is_key_number low) both.0 in
    record {
      keys = keys.keys;
      ranges = All-push HasEnds set.ranges (record { table = table; low = low; high = high }) keys.ranges (record { low = first.1; high = both.1 });
    }
entered_keys tables (command.Total table column low high) (Some set) fits keys = record { keys = keys.keys; ranges = keys.ranges }
entered_keys tables (command.Export table) (Some set) fits keys = record { keys = keys.keys; ranges = keys.ranges }
entered_keys tables (command.Begin checked) (Some set) fits keys = keys
entered_keys tables (command.Insert table row) (Some set) fits keys = keys
entered_keys tables (command.Update table row) (Some set) fits keys = keys
entered_keys tables (command.Delete table key) (Some set) fits keys = keys
entered_keys tables command.Commit (Some set) fits keys = keys
entered_keys tables command.Abort (Some set) fits keys = keys
entered_keys tables command.Observe (Some set) fits keys = keys
entered_keys tables command.Prune (Some set) fits keys = keys
entered_keys tables (command.Compact table) (Some set) fits keys = keys
entered_keys tables (command.Seal table block) (Some set) fits keys = keys
entered_keys tables (command.Gather table block) (Some set) fits keys = keys

-- So does whatever is told of a command of 64-bit keys.
behind_keys : (tables : List TableDecl) (asked : Command) (told : Said) (reads : Option ReadSet) → (is_upkeep asked ≡ false → is_command tables asked ≡ true)
    → ReadsAreKeys reads → ReadsAreKeys (reads_behind reads asked told)
behind_keys tables asked told reads fits keys = by told
  where
    enters : ReadsAreKeys (entered reads asked)
    enters = go (is_upkeep asked) refl
      where
        kept : (asked : Command) → is_upkeep asked ≡ true → (reads : Option ReadSet) → entered reads asked ≡ reads
        kept command.Observe up None = refl
        kept command.Observe up (Some set) = refl
        kept command.Prune up None = refl
        kept command.Prune up (Some set) = refl
        kept (command.Compact table) up None = refl
        kept (command.Compact table) up (Some set) = refl
        kept (command.Seal table block) up None = refl
        kept (command.Seal table block) up (Some set) = refl
        kept (command.Gather table block) up None = refl
        kept (command.Gather table block) up (Some set) = refl
        kept (command.Begin checked) up reads = absurd (true_false (sym up))
        kept (command.Get table key) up reads = absurd (true_false (sym up))
        kept (command.Scan table) up reads = absurd (true_false (sym up))
        kept (command.Range table low high) up reads = absurd (true_false (sym up))
        kept (command.Total table column low high) up reads = absurd (true_false (sym up))
        kept (command.Insert table row) up reads = absurd (true_false (sym up))
        kept (command.Update table row) up reads = absurd (true_false (sym up))
        kept (command.Delete table key) up reads = absurd (true_false (sym up))
        kept command.Commit up reads = absurd (true_false (sym up))
        kept command.Abort up reads = absurd (true_false (sym up))
        kept (command.Export table) up reads = absurd (true_false (sym up))

        go : (b : Bool) → is_upkeep asked ≡ b → ReadsAreKeys (entered reads asked)
        go true up = subst ReadsAreKeys (sym (kept asked up reads)) keys
        go false up = entered_keys tables asked reads (fits up) keys

    begun : (checked : Bool) → ReadsAreKeys (cond checked (Some no_reads) None)
    begun true = record { keys = All-nil (λ (place : Place). is_key_number place.key ≡ true); ranges = All-nil HasEnds }
    begun false = tt

    by : (told : Said) → ReadsAreKeys (reads_behind reads asked told)
    by (said.At number) = begun (begins_checked asked)
    by (said.Committed number) = tt
    by said.Aborted = tt
    by (said.Found row) = enters
    by said.Absent = enters
    by (said.Scanned rows) = enters
    by (said.Totalled count sum) = enters
    by (said.Exported number rows batches frozen) = enters
    by _ = keys

-- ---- one line more

-- what a call's session had read before it is what the lines tell, keys of 64 bits
pub record Reads (script : Script) (lines : List Entry) (seat : ℕ) (call : Call) : Type 0 where
  pub told : call.reads ≡ reads_after (thread (who_at script seat) lines)
  pub keys : ReadsAreKeys call.reads

-- a session's line, if the call has one, enters what was read
own_more : (who : Who) (lines : List Entry) (call : Call) (printed : Option Entry) → is_worker who ≡ false → IsPrinted who call printed
    → reads_after (thread who (with_reply lines printed)) ≡ reads_now (reads_after (thread who lines)) call
own_more who lines call None session is = sym (ap (λ told. option_map_or (reads_behind (reads_after (thread who lines)) call.command) told (reads_after (thread who lines))) is)
own_more who lines call (Some entry) session is =
    ap reads_after (filter-append (λ (e : Entry). is_same e.reply.who who) lines (entry ∷ []) ∙ ap (λ es. thread who lines ++ es) mine)
    ∙ fold-append (λ reads (e : Entry). reads_behind reads e.command e.reply.said) None (thread who lines) (entry ∷ [])
    ∙ ap (λ asked. reads_behind (reads_after (thread who lines)) asked entry.reply.said) (is.2 ∙ ap (λ b. cond b command.Observe call.command) session)
    ∙ ap (λ told. option_map_or (reads_behind (reads_after (thread who lines)) call.command) told (reads_after (thread who lines))) (sym is.0)
  where
    mine : thread who (entry ∷ []) ≡ entry ∷ []
    mine = ap (λ b. cond b (entry ∷ []) []) (ap (λ w. is_same w who) is.1 ∙ same-itself who)

-- another's line leaves one's lines
other_more : (who other : Who) (lines : List Entry) (call : Call) (printed : Option Entry) → is_same other who ≡ false → IsPrinted other call printed
    → thread who (with_reply lines printed) ≡ thread who lines
other_more who other lines call None apart is = refl
other_more who other lines call (Some entry) apart is =
    filter-append (λ (e : Entry). is_same e.reply.who who) lines (entry ∷ [])
    ∙ ap (λ es. thread who lines ++ es) (ap (λ b. cond {A = List Entry} b (entry ∷ []) []) (ap (λ w. is_same w who) is.1 ∙ apart))
    ∙ append-nil (thread who lines)

-- the calls of one that end at these moments
abbrev pub calls_ended : ℕ → List Moment → List Call
calls_ended q moments = map (λ (line : Lined). line.call) (lines_at q moments)

-- with one moment in front, if a call ends there
abbrev with_call : Option Lined → List Call → List Call
with_call None calls = calls
with_call (Some line) calls = line.call ∷ calls

calls_split : (q : ℕ) (m : Moment) (ms : List Moment) → calls_ended q (m ∷ ms) ≡ cond (m.session == q) (with_call m.line (calls_ended q ms)) (calls_ended q ms)
calls_split q m ms = go (m.session == q)
  where
    at : (o : Option Lined) → map (λ (line : Lined). line.call) (cons_option o (lines_at q ms)) ≡ with_call o (calls_ended q ms)
    at None = refl
    at (Some line) = refl

    go : (b : Bool) → map (λ (line : Lined). line.call) (filter_map (λ (moment : Moment). moment.line) (cond b (m ∷ filter (λ (moment : Moment). moment.session == q) ms) (filter (λ (moment : Moment). moment.session == q) ms)))
        ≡ cond b (with_call m.line (calls_ended q ms)) (calls_ended q ms)
    go true = at m.line
    go false = refl

module _ (script : Script) (valid : is_valid script ≡ true) where
  -- What one has read by these lines, and the calls to come go on with that.
  abbrev Known : List Entry → ℕ → List Call → Type 0
  Known lines q calls = Kept (reads_after (thread (who_at script q) lines)) calls × ReadsAreKeys (reads_after (thread (who_at script q) lines))

  -- its own line
  own_on : (lines : List Entry) (q : ℕ) (line : Lined) (calls : List Call) → q ≤ script.sessions → IsPrinted (who_at script q) line.call line.printed → IsAsked script q line.call.command
      → Known lines q (line.call ∷ calls) → Reads script lines q line.call × Known (with_reply lines line.printed) q calls
  own_on lines q line calls low printed asked known = (
    record { told = known.0.0; keys = subst ReadsAreKeys (sym known.0.0) known.1 },
    (
      subst (λ reads. Kept reads calls) (sym more) known.0.1,
      subst ReadsAreKeys (sym more) (now line.call.told),
    ),
  )
    where
      more : reads_after (thread (who_at script q) (with_reply lines line.printed)) ≡ reads_now (reads_after (thread (who_at script q) lines)) line.call
      more = own_more (who_at script q) lines line.call line.printed (ap is_worker (session_at script q low)) printed

      now : (told : Option Said) → ReadsAreKeys (option_map_or (reads_behind (reads_after (thread (who_at script q) lines)) line.call.command) told (reads_after (thread (who_at script q) lines)))
      now None = known.1
      now (Some told) = behind_keys script.tables line.call.command told (reads_after (thread (who_at script q) lines)) (asked_fits script valid q line.call.command asked) known.1

  -- A moment leaves known what the sessions have read.
  moment_on : (front : List Occurrence) (lines : List Entry) (seat q : ℕ) (event : Option Occurrence) (o : Option Lined) (calls : List Call) → q ≤ script.sessions
      → Stands script front seat event o → Known lines q (cond (seat == q) (with_call o calls) calls)
      → Known (with_reply lines (option_and_then (λ (line : Lined). line.printed) o)) q calls
  moment_on front lines seat q event None calls low stands known = subst (Known lines q) (same (seat == q)) known
    where
      same : (b : Bool) → cond b calls calls ≡ calls
      same true = refl
      same false = refl
  moment_on front lines seat q event (Some line) calls low stands known = go (seat == q) refl
    where
      go : (b : Bool) → (seat == q) ≡ b → Known (with_reply lines line.printed) q calls
      go true e =
          let is : seat ≡ q = number_is seat q e in
          (own_on lines q line calls low (subst (λ n. IsPrinted (who_at script n) line.call line.printed) is stands.printed) (subst (λ n. IsAsked script n line.call.command) is stands.asked)
          (subst (λ b. Known lines q (cond b (line.call ∷ calls) calls)) e known)).1
      go false e =
          let same = other_more (who_at script q) (who_at script seat) lines line.call line.printed (not_same script seat q e) stands.printed in (
            subst (λ es. Kept (reads_after es) calls) (sym same) (subst (λ b. Known lines q (cond b (line.call ∷ calls) calls)) e known).0,
            subst (λ es. ReadsAreKeys (reads_after es)) (sym same) known.1,
          )

  -- The call that ends there, if one does, has what its session's lines tell.
  moment_here : (front : List Occurrence) (lines : List Entry) (seat : ℕ) (event : Option Occurrence) (o : Option Lined) (calls : List Call)
      → (seat ≤ script.sessions → Known lines seat (cond (seat == seat) (with_call o calls) calls)) → Stands script front seat event o
      → IfSome o (λ line. is_worker (who_at script seat) ≡ false → Reads script lines seat line.call)
  moment_here front lines seat event None calls known stands = tt
  moment_here front lines seat event (Some line) calls known stands = λ session. go session (either script seat)
    where
      go : is_worker (who_at script seat) ≡ false → (seat ≤ script.sessions) ⊎ (script.sessions < seat) → Reads script lines seat line.call
      go session (inr high) = absurd (true_false (sym (ap is_worker (worker_at script seat high)) ∙ session))
      go session (inl low) = (own_on lines seat line calls low stands.printed stands.asked
          (subst (λ b. Known lines seat (cond b (line.call ∷ calls) calls)) (let e : (seat == seat) ≡ true = grind (arith, nat_tests) in e) (known low))).0

-- each call of a session that ends at one of the moments has what the lines before it tell
abbrev pub ReadsAt : Script → List Entry → List Moment → Type 0
ReadsAt script lines [] = Unit {0}
ReadsAt script lines (m ∷ ms) =
    IfSome m.line (λ line. is_worker (who_at script m.session) ≡ false → Reads script lines m.session line.call)
    × ReadsAt script (with_reply lines (reply_of m)) ms

reads_at : (script : Script) (valid : is_valid script ≡ true) (front : List Occurrence) (lines : List Entry) (ms : List Moment) → AreMoments script front ms
    → ((q : ℕ) → 1 ≤ q → q ≤ script.sessions → Known script valid lines q (calls_ended q ms)) → ReadsAt script lines ms
reads_at script valid front lines [] are known = tt
reads_at script valid front lines (m ∷ ms) are known = (
  moment_here script valid front lines m.session m.event m.line (calls_ended m.session ms)
      (λ low. subst (Known script valid lines m.session) (calls_split m.session m ms) (known m.session are.0.low low)) are.0.stands,
  reads_at script valid (with_event front m.event) (with_reply lines (reply_of m)) ms are.1
      (λ q least low. moment_on script valid front lines m.session q m.event m.line (calls_ended q ms) low are.0.stands
      (subst (Known script valid lines q) (calls_split q m ms) (known q least low))),
)

-- ---- the calls of a run

-- the calls of one's lines are the calls
lined_calls : (tables : List TableDecl) (earlier : List Entry) (number : ℕ) (who : Who) (calls : List Call) → map (λ (line : Lined). line.call) (lined tables earlier number who calls) ≡ calls
lined_calls tables earlier number who [] = refl
lined_calls tables earlier number who (call ∷ calls) =
    ap (λ cs. call ∷ cs) (lined_calls tables (with_reply earlier (printed_by tables earlier (due_of number who call) call.told)) number who calls)

-- the lines of calls that are pending for some lines are these
pending_lines : (lines : List Lined) → lines_of (map pending_of lines) ≡ lines
pending_lines [] = refl
pending_lines (line ∷ lines) = ap (λ ls. line ∷ ls) (pending_lines lines)

-- one's calls of some shares
abbrev calls_in : Who → List Share → List Call
calls_in who shares = flat_map (λ (share : Share). share.calls) (filter (λ (share : Share). is_same share.who who) shares)

module _ (script : Script) (asked_lines : List Line) (number : ℕ) where
  -- none of shares at other seats
  shares_none : (a n : ℕ) (shares : List Share) (q : ℕ) → Aligned script asked_lines a n shares → q < a → calls_in (who_at script q) shares ≡ []
  shares_none a zero [] q al less = refl
  shares_none a zero (share ∷ shares) q al less = absurd al
  shares_none a (suc n) [] q al less = absurd al
  shares_none a (suc n) (share ∷ shares) q al less =
      ap (λ b. flat_map (λ (share : Share). share.calls) (cond b (share ∷ filter (λ (share : Share). is_same share.who (who_at script q)) shares) (filter (λ (share : Share). is_same share.who (who_at script q)) shares)))
      (ap (λ w. is_same w (who_at script q)) al.0 ∙ not_same script a q (let ne : (a == q) ≡ false = grind (arith, nat_tests, less) in ne))
      ∙ shares_none (a + 1) n shares q al.2 (omega (arith, less))

  -- those of the share at the seat
  shares_calls : (a n : ℕ) (earlier : List Entry) (shares : List Share) (q : ℕ) → Aligned script asked_lines a n shares
      → map (λ (line : Lined). line.call) (lines_of (pending_at (range_with_len a n) (shares_lined script.tables earlier number shares) q)) ≡ calls_in (who_at script q) shares
  shares_calls a zero earlier [] q al = refl
  shares_calls a zero earlier (share ∷ shares) q al = absurd al
  shares_calls a (suc n) earlier [] q al = absurd al
  shares_calls a (suc n) earlier (share ∷ shares) q al = go (a == q) refl (shares_calls (a + 1) n (earlier ++ printed_in (lined script.tables earlier number share.who share.calls)) shares q al.2)
    where
      lines : List Lined
      lines = lined script.tables earlier number share.who share.calls

      more : List (List Lined)
      more = shares_lined script.tables (earlier ++ printed_in (lined script.tables earlier number share.who share.calls)) number shares

      others : List Share
      others = filter (λ (share : Share). is_same share.who (who_at script q)) shares

      go : (b : Bool) → (a == q) ≡ b
          → map (λ (line : Lined). line.call) (lines_of (pending_at (range_with_len (a + 1) n) more q)) ≡ calls_in (who_at script q) shares
          → map (λ (line : Lined). line.call) (lines_of (cond (a == q) (map pending_of lines) (pending_at (range_with_len (a + 1) n) more q)))
          ≡ flat_map (λ (share : Share). share.calls) (cond (is_same share.who (who_at script q)) (share ∷ others) others)
      go true e rest =
          let same : a ≡ q = number_is a q e in
          ap (λ b. map (λ (line : Lined). line.call) (lines_of (cond b (map pending_of lines) (pending_at (range_with_len (a + 1) n) more q)))) e
          ∙ ap (map (λ (line : Lined). line.call)) (pending_lines lines)
          ∙ lined_calls script.tables earlier number share.who share.calls
          ∙ sym (append-nil share.calls)
          ∙ ap (λ cs. share.calls ++ cs) (sym (shares_none (a + 1) n shares q al.2 (omega (arith, same))))
          ∙ ap (λ b. flat_map (λ (share : Share). share.calls) (cond b (share ∷ others) others))
          (sym (ap (λ w. is_same w (who_at script q)) (al.0 ∙ ap (who_at script) same) ∙ same-itself (who_at script q)))
      go false e rest =
          ap (λ b. map (λ (line : Lined). line.call) (lines_of (cond b (map pending_of lines) (pending_at (range_with_len (a + 1) n) more q)))) e
          ∙ rest
          ∙ ap (λ b. flat_map (λ (share : Share). share.calls) (cond b (share ∷ others) others))
          (sym (ap (λ w. is_same w (who_at script q)) al.0 ∙ not_same script a q e))

-- the calls that end at two lists of moments
calls_append : (q : ℕ) (xs ys : List Moment) → calls_ended q (xs ++ ys) ≡ calls_ended q xs ++ calls_ended q ys
calls_append q xs ys =
    ap (λ ms. map (λ (line : Lined). line.call) (filter_map (λ (moment : Moment). moment.line) ms)) (filter-append (λ (moment : Moment). moment.session == q) xs ys)
    ∙ ap (map (λ (line : Lined). line.call))
    (filter_map-append (λ (moment : Moment). moment.line) (filter (λ (moment : Moment). moment.session == q) xs) (filter (λ (moment : Moment). moment.session == q) ys))
    ∙ map-append (λ (line : Lined). line.call) (lines_at q xs) (lines_at q ys)

-- one's calls of two lists of shares
in_append : (who : Who) (xs ys : List Share) → calls_in who (xs ++ ys) ≡ calls_in who xs ++ calls_in who ys
in_append who xs ys =
    ap (flat_map (λ (share : Share). share.calls)) (filter-append (λ (share : Share). is_same share.who who) xs ys)
    ∙ flat_map-append (λ (share : Share). share.calls) (filter (λ (share : Share). is_same share.who who) xs) (filter (λ (share : Share). is_same share.who who) ys)

-- the calls that end at the moments of rounds, one behind the other, are those of the rounds
rounds_calls : (script : Script) (front : List Occurrence) (earlier : List Entry) (number : ℕ) (rounds : List RoundRun) (asked : List (List Line)) (q : ℕ) → Seat script q
    → map (λ (round : RoundRun). map agenda_of round.shares) rounds ≡ map (agendas_in script) asked
    → ((lines : List Line) → Among lines asked → Among lines script.rounds)
    → AreRounds script front rounds → calls_ended q (moments_from script earlier number rounds) ≡ calls_of (who_at script q) rounds
rounds_calls script front earlier number [] asked q seat e within are = refl
rounds_calls script front earlier number (round ∷ rounds) [] q seat e within are = absurd (let never : ⊥ = cc e in never)
rounds_calls script front earlier number (round ∷ rounds) (lines ∷ asked) q seat e within are =
    let al = aligned script lines round.shares (heads (map agenda_of round.shares) (agendas_in script lines) (map (λ (round : RoundRun). map agenda_of round.shares) rounds) (map (agendas_in script) asked) e) in
    let printed : List Entry = all_printed (shares_lined script.tables earlier number round.shares) in
    let there = within lines (inl refl) in
    let here : List Moment = round_moments script earlier number round in
    let more : List Moment = moments_from script (earlier ++ printed) (number + 1) rounds in
    let low = seat.0 in let high = seat.1 in
    calls_append q here more
    ∙ ap (λ cs. cs ++ calls_ended q more)
    (ap (map (λ (line : Lined). line.call))
    ((moments_are_the_round (seats_of script) round.made (calls_at script lines there number front earlier round are.0 al) (parted script lines there number front earlier round are.0 al)).1 q
    (once 1 (script.sessions + script.workers) q (omega (arith, low)) (omega (arith, high))))
    ∙ shares_calls script lines number 1 (script.sessions + script.workers) earlier round.shares q al)
    ∙ ap (λ cs. calls_in (who_at script q) round.shares ++ cs)
    (rounds_calls script (front ++ round.made) (earlier ++ printed) (number + 1) rounds asked q seat
    (tails (map agenda_of round.shares) (agendas_in script lines) (map (λ (round : RoundRun). map agenda_of round.shares) rounds) (map (agendas_in script) asked) e)
    (λ other a. within other (inr a)) are.1)
    ∙ sym (in_append (who_at script q) round.shares (flat_map (λ (round : RoundRun). round.shares) rounds))
  where
    heads : (a b : List Agenda) (xs ys : List (List Agenda)) → a ∷ xs ≡ b ∷ ys → a ≡ b
    heads a b xs ys e = cc

    tails : (a b : List Agenda) (xs ys : List (List Agenda)) → a ∷ xs ≡ b ∷ ys → xs ≡ ys
    tails a b xs ys e = cc

-- in a run each call of a session has what the lines before it tell
pub runs_read : (script : Script) (log : List Logged) (text : List ℕ) → is_valid script ≡ true → (ran : Ran script log text) → ReadsAt script [] (moments_of script ran.rounds)
runs_read script log text valid ran = reads_at script valid [] [] (moments_of script ran.rounds) (runs_have_moments script log text ran).calls
    (λ q least low. (
      subst (Kept None) (sym (rounds_calls script [] [] 1 ran.rounds script.rounds q (least, omega (arith, low)) ran.asked (λ lines a. a) ran.done)) (ran.kept (who_at script q)),
      tt,
    ))
