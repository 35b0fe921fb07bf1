-- Each number that a run prints is one of the history behind its round.
use Rattle.std.proofs.Common.{◌≡◌, ◌⊎◌, inl, inr, ℕ, zero, suc, ◌≤◌, Bool, true, false, cond, ◌==◌, List, [], ◌∷◌, ◌++◌, length, take, drop, Option, None, Some, refl, sym, ap, ◌∙◌, subst, arith, append_assoc, length-append}
use Rattle.std.specs.Prelude.{All, option_and_then}
use Rattle.std.specs.List.{flat_map}
use Rattle.std.proofs.lemmas.Grind.{flat_map-append}
use Rattle.std.proofs.lemmas.List.{take-append-drop}
use Rattle.std.proofs.lemmas.List.Elements.{All-cons, All-filter, All-head, All-nil, All-tail}
use Rattle.event_spec.specs.declared.event.Event.TheVariants as event
use Rattle.event_spec.specs.declared.reply.Reply.TheVariants as reply
use Rattle.event_spec.specs.declared.reply.WriteFault.{WriteFault}
use Rattle.event_spec.specs.declared.reply.WriteFault.TheVariants as fault
use Rattle.event_spec.specs.Effects.{CoreEvent}
use Rattle.event_spec.specs.Parts.{Parts, Shape}
use Rattle.event_spec.specs.Replay.{after, opening}
use Rattle.event_spec.specs.Replies.{CoreReply}
use Rattle.isolation_spec.specs.Contents.{History}
use Rattle.isolation_spec.specs.Machine.{IsolationMachine, opening_from}
use Rattle.outcome_spec.specs.Entries.{commit_in}
use Rattle.outcome_spec.specs.Forms.{is_silent, is_worker}
use Rattle.workload_spec.specs.declared.command.Command.{Command}
use Rattle.workload_spec.specs.declared.reply.Said.{Said}
use Rattle.workload_spec.specs.declared.reply.Said.TheVariants as said
use Rattle.workload_spec.specs.declared.script.Script.{Script}
use Rattle.run_spec.specs.Calls.{AreCalls, Call, IsCall, line_to}
use Rattle.run_spec.specs.Commits.{commits_along, history_behind, write_sets}
use Rattle.run_spec.specs.Histories.{history_at}
use Rattle.run_spec.specs.Occurrences.{Logged, Occurrence, occurrence_of, occurrences_from, occurrences_in, under}
use Rattle.run_spec.specs.Ran.{AreRounds, IsDone, RoundRun, Share, session_of, shape_of}
use Rattle.run_spec.specs.Told.{told_by}
use Rattle.run_spec.specs.Traces.{as_log}
use Rattle.run_laws.proofs.Calls.Along.{and_first, and_second, named}
use Rattle.run_laws.proofs.Calls.Named.{run_lawful, run_named}
use Rattle.run_laws.proofs.Calls.Upkeep.{front_replied, logs_are_replied, rest_replied, shares_are_replied}
use Rattle.run_laws.proofs.Commits.Histories.{Agrees, agrees_first, agrees_next, machines_lead}
use Rattle.run_laws.proofs.Commits.Shares.{histories_go_on}
use Rattle.run_laws.proofs.Commits.Steps.{event_follows, number_told}
use Rattle.run_laws.proofs.Told.Tells.{last_events_are_told, refusals_are_plain}
use Rattle.run_laws.specs.Calls.Along.{are_named}
use Rattle.run_laws.specs.Calls.Asking.{is_of}
use Rattle.run_laws.specs.Calls.Upkeep.{AreAllReplied, AreReplied}
use Rattle.run_laws.specs.Commits.Laws.{LeadsTo}
use Rattle.run_laws.specs.Commits.Numbers.{AreWithin, IsWithin, NumbersAreWithin}
use Rattle.run_laws.specs.Told.Laws.{TellsAt, TellsMove, TellsQuietly, is_plain}
use Rattle.run_spec.specs.Commits.{writes_of}

-- True is not the same as false.
true_false : true ≡ false → ⊥
true_false e = cc

-- ---- along a log

-- the reply tells no number above this one
abbrev ShowsAtMost : ℕ → Occurrence → Type 0
ShowsAtMost most o = (n : ℕ) → number_told o.reply ≡ Some n → n ≤ most

-- The events of a log that goes on behind these tell no number above the history behind each.
abbrev EachShows : History → List Occurrence → List Occurrence → Type 0
EachShows first front [] = Unit {0}
EachShows first front (o ∷ rest) = ShowsAtMost (length (history_behind first (front ++ o ∷ []))) o × EachShows first (front ++ o ∷ []) rest

-- So it is along every log that the machine goes with.
each_shows : (first : History) (shape : Shape) (parts : Parts) (front : List Occurrence) (m : IsolationMachine) (log : List Logged) (last : IsolationMachine)
    → Agrees first front m → are_named log ≡ true → LeadsTo shape parts m log last → EachShows first front (occurrences_from shape parts log)
each_shows first shape parts front m [] last agrees are leads = tt
each_shows first shape parts front m (entry ∷ log) last agrees are leads =
    let o = occurrence_of shape parts entry in
    let follows = event_follows shape parts m leads.0 agrees.sane entry.session (writes_of (under entry.session front)).own (agrees.own entry.session) entry.made.event entry.made.refused
    (named entry.session entry.made.event (and_first (is_of entry.session entry.made.event) (are_named log) are)) leads.1 in
    let next = agrees_next first front m leads.0 agrees o follows in (
      λ n is. subst (λ (h : History). n ≤ length h) next.history (follows.shown n is),
      each_shows first shape (after shape parts entry.made) (front ++ o ∷ []) leads.0 log last next
          (and_second (is_of entry.session entry.made.event) (are_named log) are) leads.2,
    )

-- The history behind more events is not shorter.
not_shorter : (first : History) (front more : List Occurrence) → length (history_behind first front) ≤ length (history_behind first (front ++ more))
not_shorter first front more =
    let whole = ap length (histories_go_on first front more) ∙ length-append (history_behind first front) (write_sets (commits_along front more)) in
    omega (arith, whole)

-- What the first events tell is within the history behind all of them.
first_within : (first : History) (front xs ys : List Occurrence) → EachShows first front (xs ++ ys) → All (ShowsAtMost (length (history_behind first (front ++ xs)))) xs
first_within first front [] ys each = All-nil (ShowsAtMost (length (history_behind first (front ++ []))))
first_within first front (x ∷ xs) ys each =
    subst (λ (es : List Occurrence). All (ShowsAtMost (length (history_behind first es))) (x ∷ xs)) (append_assoc front (x ∷ []) xs)
    (All-cons (ShowsAtMost (length (history_behind first ((front ++ x ∷ []) ++ xs)))) x xs
    (λ n is. let low = each.0 n is in let long = not_shorter first (front ++ x ∷ []) xs in omega (arith, low, long))
    (first_within first (front ++ x ∷ []) xs ys each.1))

-- ---- a call

-- Lines that are one are one in what they hold.
same_line : (a b : Said) → Some a ≡ Some b → a ≡ b
same_line a b e = cc

-- A line that is not there is none.
no_line : (line : Said) → None ≡ Some line → ⊥
no_line line e = cc

-- What is told to a worker or to a session is told.
told_to_both : (worker : Bool) (told : Option Said) (line : Said) → line_to worker told ≡ Some line → told ≡ Some line
told_to_both false told line is = is
told_to_both true None line is = absurd (no_line line is)
told_to_both true (Some other) line is = go (is_silent other) is
  where
    go : (b : Bool) → cond b None (Some other) ≡ Some line → Some other ≡ Some line
    go true e = absurd (no_line line e)
    go false e = e

-- A line that tells a commit's number is that of a reply that does.
commit_reply : (table block : ℕ) (told : CoreReply) (n : ℕ) → told_by table block told ≡ Some (said.Committed (Some n)) → number_told told ≡ Some n
commit_reply table block told n is = by told (ap (λ (o : Option Said). option_and_then commit_in o) is)
  where
    refused : (why : WriteFault) → option_and_then commit_in (Some (Rattle.run_spec.specs.Told.fault_told table why)) ≡ Some n → None ≡ Some n
    refused (fault.ConflictSession session) e = e
    refused (fault.ConflictCommit number) e = e
    refused fault.Exists e = e
    refused fault.Missing e = e
    refused (fault.Freezing at stamp) e = e
    refused (fault.Full inserts) e = e

    found : (row : Option (List Rattle.cell_model.specs.declared.cell.Cell.Cell)) → option_and_then commit_in (Some (Rattle.run_spec.specs.Told.row_told row)) ≡ Some n → None ≡ Some n
    found None e = e
    found (Some row) e = e

    by : (r : CoreReply) → option_and_then commit_in (told_by table block r) ≡ Some n → number_told r ≡ Some n
    by (reply.Begun snapshot) e = e
    by (reply.Found row) e = found row e
    by (reply.Written slot) e = e
    by (reply.Refused why) e = refused why e
    by (reply.Rows rows) e = e
    by (reply.Shared rows) e = e
    by (reply.Committed number) e = e
    by (reply.Stale what number) e = e
    by reply.Aborted e = e
    by (reply.Oldest oldest) e = e
    by (reply.Turned turned) e = e
    by (reply.Dropped count) e = e
    by (reply.Looked look) e = e
    by (reply.Moved count) e = e
    by (reply.Sealed stamp) e = e
    by (reply.NotSealed because) e = e
    by (reply.Imaged rows) e = e
    by reply.NoSeal e = e
    by reply.Thawed e = e
    by reply.Memory e = e

-- A line that says nothing of commits tells no number.
plainly : (line : Said) (n : ℕ) → is_plain line ≡ true → line ≡ said.Committed (Some n) → ⊥
plainly line n plain is = true_false (sym plain ∙ ap is_plain is)

-- Nothing is not a number.
none_some : (n : ℕ) → None ≡ Some n → ⊥
none_some n e = cc

-- A call's number is that of its last event's reply.
last_number : (worker : Bool) (made : List Occurrence) (e : CoreEvent) (told : CoreReply) (asked : Command) (line : Option Said) (n : ℕ)
    → TellsAt worker made e told asked line → line ≡ Some (said.Committed (Some n)) → number_told told ≡ Some n
last_number worker made e told asked line n tells is = go e tells
  where
    by_reply : (table block : ℕ) → line ≡ line_to worker (told_by table block told) → number_told told ≡ Some n
    by_reply table block shown = commit_reply table block told n (told_to_both worker (told_by table block told) (said.Committed (Some n)) (sym shown ∙ is))

    quietly : TellsQuietly asked made line → number_told told ≡ Some n
    quietly (other, shown, inl plain) = absurd (plainly other n plain (same_line other (said.Committed (Some n)) (sym shown ∙ is)))
    quietly (other, shown, inr (inl moved)) =
        absurd (none_some n (ap commit_in (sym moved ∙ same_line other (said.Committed (Some n)) (sym shown ∙ is))))
    quietly (other, shown, inr (inr pruned)) =
        absurd (none_some n (ap commit_in (sym pruned.1 ∙ same_line other (said.Committed (Some n)) (sym shown ∙ is))))

    moving : TellsMove told line → number_told told ≡ Some n
    moving (inl memory) = absurd (none_some n (ap (λ (o : Option Said). option_and_then commit_in o) (sym memory.1 ∙ is)))
    moving (inr shown) = absurd (none_some n (ap (λ (o : Option Said). option_and_then commit_in o) (sym shown ∙ is)))

    go : (e : CoreEvent) → TellsAt worker made e told asked line → number_told told ≡ Some n
    go (event.Begin session) h = by_reply 0 0 h.1
    go (event.Get own table key) h = quietly h
    go (event.Insert own table row) h = by_reply table 0 h.1
    go (event.Update own table row) h = by_reply table 0 h.1
    go (event.Delete own table key) h = by_reply table 0 h.1
    go (event.Read own table block) h = quietly h
    go (event.Range own table low high) h = quietly h
    go (event.Commit own reads) h = by_reply 0 0 h.1
    go (event.Abort own) h = by_reply 0 0 h.1
    go event.Oldest h = quietly h
    go (event.Observe table block) h = quietly h
    go (event.Prune table block oldest) h = quietly h
    go (event.Look table block) h = quietly h
    go (event.Move table moves) h = moving h.2
    go (event.Seal table block) h = by_reply table block h.1
    go (event.Image table block image) h = by_reply table block h.1
    go (event.Thaw table block) h = quietly h

-- Events have a last one, or there are none.
last_of : (made : List Occurrence) → (made ≡ []) ⊎ ((done : List Occurrence) × (last : Occurrence) × (made ≡ done ++ last ∷ []))
last_of [] = inl refl
last_of (x ∷ xs) = go (last_of xs)
  where
    go : (xs ≡ []) ⊎ ((done : List Occurrence) × (last : Occurrence) × (xs ≡ done ++ last ∷ [])) → (x ∷ xs ≡ []) ⊎ ((done : List Occurrence) × (last : Occurrence) × (x ∷ xs ≡ done ++ last ∷ []))
    go (inl none) = inr ([], x, ap (λ (es : List Occurrence). x ∷ es) none)
    go (inr some) = inr (x ∷ some.0, some.1, ap (λ (es : List Occurrence). x ∷ es) some.2)

-- What all of two parts have, the second has.
pub all_behind : (P : Occurrence → Type 0) (xs ys : List Occurrence) → All P (xs ++ ys) → All P ys
all_behind P [] ys all = all
all_behind P (x ∷ xs) ys all = all_behind P xs ys (All-tail P x (xs ++ ys) all)

-- So has the first.
pub all_front : (P : Occurrence → Type 0) (xs ys : List Occurrence) → All P (xs ++ ys) → All P xs
all_front P [] ys all = All-nil P
all_front P (x ∷ xs) ys all = All-cons P x xs (All-head P x (xs ++ ys) all) (all_front P xs ys (All-tail P x (xs ++ ys) all))

module _ (shape : Shape) (worker : Bool) (session most : ℕ) where
  -- A call whose events tell no number above one tells none.
  call_within : (front : List Occurrence) (call : Call) → IsCall shape worker session front call → AreReplied shape call.made → All (ShowsAtMost most) call.made → IsWithin most call
  call_within front call is_call replied all n is = go (last_of call.made)
    where
      go : (call.made ≡ []) ⊎ ((done : List Occurrence) × (last : Occurrence) × (call.made ≡ done ++ last ∷ [])) → n ≤ most
      go (inl none) = absurd (by (refusals_are_plain shape worker session front call is_call none))
        where
          by : (line : Said) × (call.told ≡ Some line) × ((is_plain line ≡ true) ⊎ (line ≡ said.Moved 0)) → ⊥
          by (line, shown, inl plain) = plainly line n plain (same_line line (said.Committed (Some n)) (sym shown ∙ is))
          by (line, shown, inr moved) = none_some n (ap commit_in (sym moved ∙ same_line line (said.Committed (Some n)) (sym shown ∙ is)))
      go (inr some) =
          let tells = last_events_are_told shape worker session front call some.0 some.1 is_call replied some.2 in
          let its = All-head (ShowsAtMost most) some.1 [] (all_behind (ShowsAtMost most) some.0 (some.1 ∷ []) (subst (All (ShowsAtMost most)) some.2 all)) in
          its n (last_number worker call.made some.1.event some.1.reply call.command call.told n tells is)

  -- So do calls in a row.
  calls_within : (front : List Occurrence) (calls : List Call) → AreCalls shape worker session front calls → AreAllReplied shape calls
      → All (ShowsAtMost most) (flat_map (λ (call : Call). call.made) calls) → All (IsWithin most) calls
  calls_within front [] are replied all = All-nil (IsWithin most)
  calls_within front (call ∷ calls) are replied all = All-cons (IsWithin most) call calls
      (call_within front call are.0 replied.0 (all_front (ShowsAtMost most) call.made (flat_map (λ (call : Call). call.made) calls) all))
      (calls_within (front ++ call.made) calls are.1 replied.1 (all_behind (ShowsAtMost most) call.made (flat_map (λ (call : Call). call.made) calls) all))

-- ---- rounds

module _ (script : Script) (most : ℕ) where
  -- The shares of a round whose events tell no number above one.
  shares_within : (front made : List Occurrence) (shares : List Share) → All (IsDone script front made) shares → AreReplied (shape_of script) made
      → All (ShowsAtMost most) made → All (λ (share : Share). All (IsWithin most) share.calls) shares
  shares_within front made [] done replied all = All-nil (λ (share : Share). All (IsWithin most) share.calls)
  shares_within front made (share ∷ shares) done replied all =
      let its = All-head (IsDone script front made) share shares done in
      let q = session_of script share.who in
      All-cons (λ (share : Share). All (IsWithin most) share.calls) share shares
      (calls_within (shape_of script) (is_worker share.who) q most (under q front) share.calls its.calls
      (shares_are_replied script front made share replied its)
      (subst (All (ShowsAtMost most)) its.events (All-filter (λ (o : Occurrence). o.session == q) (ShowsAtMost most) made all)))
      (shares_within front made shares (All-tail (IsDone script front made) share shares done) replied all)

  -- the events of some rounds
  abbrev made_in : List RoundRun → List Occurrence
  made_in rounds = flat_map (λ (round : RoundRun). round.made) rounds

  -- The first rounds of those whose first events tell no number above one.
  rounds_within : (front : List Occurrence) (rounds : List RoundRun) (shown count : ℕ) → shown ≤ count → AreRounds script front rounds
      → AreReplied (shape_of script) (made_in rounds) → All (ShowsAtMost most) (made_in (take count rounds)) → All (AreWithin most) (take shown rounds)
  rounds_within front [] zero count low are replied all = All-nil (AreWithin most)
  rounds_within front [] (suc shown) count low are replied all = All-nil (AreWithin most)
  rounds_within front (round ∷ rounds) zero count low are replied all = All-nil (AreWithin most)
  rounds_within front (round ∷ rounds) (suc shown) zero low are replied all = absurd (let never : ⊥ = omega (arith, low) in never)
  rounds_within front (round ∷ rounds) (suc shown) (suc count) low are replied all = All-cons (AreWithin most) round (take shown rounds)
      (shares_within front round.made round.shares are.0.done (front_replied (shape_of script) round.made (made_in rounds) replied)
      (all_front (ShowsAtMost most) round.made (made_in (take count rounds)) all))
      (rounds_within (front ++ round.made) rounds shown count (omega (arith, low)) are.1 (rest_replied (shape_of script) round.made (made_in rounds) replied)
      (all_behind (ShowsAtMost most) round.made (made_in (take count rounds)) all))

-- Each number that is told in the first rounds of a run is within the history behind them.
pub numbers_are_within : NumbersAreWithin
numbers_are_within script log text shown count valid ran low =
    let shape = shape_of script in
    let most = length (history_at script ran.rounds count) in
    let led = machines_lead shape (as_log ran.trace) valid.shape (run_lawful script log text ran) in
    let each = each_shows script.begun shape (opening shape) [] (opening_from script.begun) (as_log ran.trace) led.0 (agrees_first script.begun) (run_named script log text ran) led.1 in
    let parted : occurrences_in shape (as_log ran.trace) ≡ made_in script most (take count ran.rounds) ++ made_in script most (drop count ran.rounds) =
    ran.parted ∙ ap (made_in script most) (sym (take-append-drop count ran.rounds))
    ∙ flat_map-append (λ (round : RoundRun). round.made) (take count ran.rounds) (drop count ran.rounds) in
    let within = first_within script.begun [] (made_in script most (take count ran.rounds)) (made_in script most (drop count ran.rounds)) (subst (EachShows script.begun []) parted each) in
    rounds_within script most [] ran.rounds shown count low ran.done
    (subst (AreReplied shape) ran.parted (logs_are_replied shape (opening shape) (as_log ran.trace))) within
