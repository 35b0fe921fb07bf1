-- What each event, with the line told at it, brings to the counts of prunings.
use Rattle.std.proofs.Common.{◌≡◌, ◌≢◌, ◌⊎◌, ℕ, ◌+◌, ◌*◌, ◌≤◌, Bool, true, false, cond, ◌==◌, List, [], ◌∷◌, ◌++◌, Option, None, Some, is_some, sum_by, refl, sym, ap, ◌∙◌, subst, arith}
use mathlib.Core.Logic.{inl, inr}
use Rattle.std.specs.Prelude.{Result, Ok, Err, option_and_then, sum}
use Rattle.std.specs.Option.{option_map_or}
use Rattle.std.proofs.lemmas.Bool.Decides.{nat_tests}
use Rattle.block_spec.specs.declared.phase.Phase.{Phase}
use Rattle.block_spec.specs.declared.phase.Phase.TheVariants.{Loose, Sealed, Imaged}
use Rattle.block_spec.specs.declared.phase.SealFault.{SealFault}
use Rattle.block_spec.specs.Bodies.{Body, seal_fault}
use Rattle.store_laws.specs.Room.{writes_told}
use Rattle.run_laws.specs.Counts.Versions.{drops_told, dropped_by, moves_told, stamped_by, written_by}
use Rattle.event_spec.specs.declared.event.Event.TheVariants as event
use Rattle.event_spec.specs.declared.own.OwnTransaction.{OwnTransaction}
use Rattle.event_spec.specs.declared.reply.Reply.TheVariants as reply
use Rattle.event_spec.specs.declared.reply.WriteFault.{WriteFault}
use Rattle.event_spec.specs.declared.reply.WriteFault.TheVariants as refusal
use Rattle.event_spec.specs.Effects.{CoreEvent, change_judged, insert_judged, stale_in}
use Rattle.event_spec.specs.Lawful.{session_of, takes_memory}
use Rattle.event_spec.specs.Parts.{Parts, Shape, body_at, desk_at, is_head}
use Rattle.event_spec.specs.Replies.{CoreReply, reply_to, reply_to_commit, reply_to_image, reply_to_seal, reply_to_write}
use Rattle.isolation_spec.specs.Contents.{key_of}
use Rattle.isolation_spec.specs.declared.read.Read.{Read}
use Rattle.isolation_spec.specs.Reads.{ReadSet}
use Rattle.outcome_spec.specs.Entries.{Entry, is_commit, is_end, is_same, shown_in}
use Rattle.outcome_spec.specs.Forms.{is_silent, is_upkeep, is_worker}
use Rattle.outcome_spec.specs.Runs.{accepted_write, write_of, writes_committed_in}
use Rattle.outcome_spec.specs.Upkeep.{moved_in, pruned_in}
use Rattle.timeline_laws.proofs.Order.{same-is, same-itself}
use Rattle.workload_spec.specs.declared.command.Command.{Command}
use Rattle.workload_spec.specs.declared.command.Command.TheVariants as command
use Rattle.workload_spec.specs.declared.reply.Said.{Said}
use Rattle.workload_spec.specs.declared.reply.Said.TheVariants as said
use Rattle.workload_spec.specs.declared.reply.Who.{Who}
use Rattle.workload_spec.specs.declared.script.Script.{Script}
use Rattle.run_spec.specs.Calls.{line_to}
use Rattle.run_spec.specs.Occurrences.{Occurrence, replies_in, under}
use Rattle.run_spec.specs.Opened.{own_after, own_behind}
use Rattle.run_spec.specs.Ran.{shape_of}
use Rattle.run_spec.specs.Told.{dropped_told, moved_told, stale_of, told_by}
use Rattle.run_laws.specs.Told.Laws.{TellsAt, TellsMove, TellsQuietly, is_plain, is_quiet}
use Rattle.run_laws.proofs.Told.Tells.{not_silent}
use Rattle.run_laws.specs.Moments.Laws.{command_told}
use Rattle.run_laws.specs.Moments.Moments.{who_at, with_reply}
use Rattle.run_laws.proofs.Moments.Seats.{same_seat}
use Rattle.run_laws.proofs.Moments.Standing.{other_last, own_last}
use Rattle.std.proofs.lemmas.List.Sums.{fold-append}
use Rattle.run_laws.proofs.Counts.Versions.{sum_least, versions_are_counted}
use Rattle.core_laws.proofs.Events.Lists.{below_member}
use Rattle.event_spec.specs.Lawful.{IsLawful}
use Rattle.event_spec.specs.Replay.{reply_after}
use Rattle.event_spec.specs.Sound.{Sound}
use Rattle.run_spec.specs.Calls.{Call}
use Rattle.run_spec.specs.Occurrences.{Logged}
use Rattle.run_laws.specs.Moments.Laws.{IsPrinted}
use Rattle.run_laws.specs.Moments.Moments.{seats_of}
use Rattle.run_laws.proofs.Explained.Dropping.{Brings, Kept, untold_at}
use Rattle.run_laws.proofs.Explained.Pruning.{all_blocks, dropped_at, goes_on, untold, untold_rises, way_of}
use Rattle.run_laws.proofs.Explained.Spans.{accepted_rises, begin_opens, commit_rises, committed_rises, open_spans, open_writes, stays_open, sum_more}

-- What is true is not false.
true_false : true ≡ false → ⊥
true_false e = cc

-- the reply counts as many dropped, and as many moved, in a call as in the core
same_drops : (r : CoreReply) → drops_told r ≡ dropped_told r
same_drops (reply.Dropped n) = refl
same_drops _ = refl

-- A reply counts as many rows moved in the core as in a call.
same_moves : (r : CoreReply) → moves_told r ≡ moved_told r
same_moves (reply.Moved n) = refl
same_moves _ = refl

-- An event drops as many entries in the core as in a pruning.
dropped_so : (e : CoreEvent) (r : CoreReply) → dropped_by e r ≡ dropped_at e r
dropped_so (event.Prune t b n) r = same_drops r
dropped_so (event.Begin session) r = refl
dropped_so (event.Get own table key) r = refl
dropped_so (event.Insert own table row) r = refl
dropped_so (event.Update own table row) r = refl
dropped_so (event.Delete own table key) r = refl
dropped_so (event.Read own table block) r = refl
dropped_so (event.Range own table low high) r = refl
dropped_so (event.Commit own reads) r = refl
dropped_so (event.Abort own) r = refl
dropped_so event.Oldest r = refl
dropped_so (event.Observe table block) r = refl
dropped_so (event.Look table block) r = refl
dropped_so (event.Move table moves) r = refl
dropped_so (event.Seal table block) r = refl
dropped_so (event.Image table block image) r = refl
dropped_so (event.Thaw table block) r = refl

-- ---- what a line counts

-- the count that is told, 0 where none is
abbrev pub count_in : (Said → Option ℕ) → Option Said → ℕ
count_in f told = option_map_or (λ (n : ℕ). n) (option_and_then f told) 0

-- what is told ends a transaction
abbrev pub ends_told : Option Said → Bool
ends_told told = option_map_or (λ (line : Said). is_end line) told false

-- A plain line is of no pruning and ends no transaction.
plain_none : (line : Said) → is_plain line ≡ true → (pruned_in line ≡ None) × (is_end line ≡ false)
plain_none (said.At number) e = absurd (true_false (sym e))
plain_none said.InTransaction e = (refl, refl)
plain_none said.NoTransaction e = (refl, refl)
plain_none (said.Found row) e = (refl, refl)
plain_none said.Absent e = (refl, refl)
plain_none (said.Scanned rows) e = (refl, refl)
plain_none (said.Totalled count sum) e = (refl, refl)
plain_none (said.Stale what number) e = (refl, refl)
plain_none said.Accepted e = absurd (true_false (sym e))
plain_none (said.ConflictSession session) e = (refl, refl)
plain_none (said.ConflictCommit number) e = (refl, refl)
plain_none said.Exists e = (refl, refl)
plain_none said.Missing e = (refl, refl)
plain_none (said.Freezing table block stamp) e = absurd (true_false (sym e))
plain_none said.Full e = absurd (true_false (sym e))
plain_none (said.Committed number) e = absurd (true_false (sym e))
plain_none said.Aborted e = absurd (true_false (sym e))
plain_none (said.Cooling count) e = (refl, refl)
plain_none (said.Pruned count) e = absurd (true_false (sym e))
plain_none (said.Moved count) e = absurd (true_false (sym e))
plain_none (said.Sealed table block stamp) e = absurd (true_false (sym e))
plain_none (said.NotSealed cause) e = absurd (true_false (sym e))
plain_none (said.Frozen table block rows) e = absurd (true_false (sym e))
plain_none said.NotFrozen e = absurd (true_false (sym e))
plain_none (said.Exported number rows batches frozen) e = (refl, refl)
plain_none (said.Dirty key) e = (refl, refl)
plain_none said.Memory e = (refl, refl)

-- a reply ends a transaction
ends_reply : CoreReply → Bool
ends_reply (reply.Committed number) = true
ends_reply reply.Aborted = true
ends_reply _ = false

-- A line that is of no pruning counts none dropped, told or silent.
no_prune_line : (worker : Bool) (line : Said) → pruned_in line ≡ None → count_in pruned_in (line_to worker (Some line)) ≡ 0
no_prune_line false line e = ap (λ o. option_map_or (λ (n : ℕ). n) o 0) e
no_prune_line true line e = go (is_silent line)
  where
    go : (b : Bool) → count_in pruned_in (cond b None (Some line)) ≡ 0
    go true = refl
    go false = ap (λ o. option_map_or (λ (n : ℕ). n) o 0) e

-- A line that ends no transaction ends none, told or silent.
no_end_line : (worker : Bool) (line : Said) → is_end line ≡ false → ends_told (line_to worker (Some line)) ≡ false
no_end_line false line e = e
no_end_line true line e = go (is_silent line)
  where
    go : (b : Bool) → ends_told (cond b None (Some line)) ≡ false
    go true = refl
    go false = e

-- Where there is no line, a worker is told none and neither is a session.
none_line : (worker : Bool) → line_to worker None ≡ None
none_line true = refl
none_line false = refl

record Tells (worker : Bool) (t b : ℕ) (r : CoreReply) : Type 0 where
  prunes : count_in pruned_in (line_to worker (told_by t b r)) ≡ 0
  ends : ends_reply r ≡ false → ends_told (line_to worker (told_by t b r)) ≡ false

-- A reply whose line is of no pruning counts none, and the line ends only what it does.
tells_line : (worker : Bool) (t b : ℕ) (r : CoreReply) (line : Said) → told_by t b r ≡ Some line → pruned_in line ≡ None → (ends_reply r ≡ false → is_end line ≡ false) → Tells worker t b r
tells_line worker t b r line is none ends = record {
  prunes = ap (λ o. count_in pruned_in (line_to worker o)) is ∙ no_prune_line worker line none;
  ends = λ e. ap (λ o. ends_told (line_to worker o)) is ∙ no_end_line worker line (ends e);
}

-- A reply without a line counts no pruning and ends nothing.
tells_none : (worker : Bool) (t b : ℕ) (r : CoreReply) → told_by t b r ≡ None → Tells worker t b r
tells_none worker t b r is = record {
  prunes = ap (λ o. count_in pruned_in (line_to worker o)) is ∙ ap (count_in pruned_in) (none_line worker);
  ends = λ e. ap (λ o. ends_told (line_to worker o)) is ∙ ap ends_told (none_line worker);
}

-- The line of one reply counts no pruning, and ends only what the reply does.
tells : (worker : Bool) (t b : ℕ) (r : CoreReply) → Tells worker t b r
unfolding ends_reply
tells worker t b (reply.Begun snapshot) = tells_line worker t b (reply.Begun snapshot) (said.At snapshot.number) refl refl (λ e. refl)
tells worker t b (reply.Found None) = tells_line worker t b (reply.Found None) said.Absent refl refl (λ e. refl)
tells worker t b (reply.Found (Some row)) = tells_line worker t b (reply.Found (Some row)) (said.Found row) refl refl (λ e. refl)
tells worker t b (reply.Written slot) = tells_line worker t b (reply.Written slot) said.Accepted refl refl (λ e. refl)
tells worker t b (reply.Refused (refusal.ConflictSession q)) = tells_line worker t b (reply.Refused (refusal.ConflictSession q)) (said.ConflictSession q) refl refl (λ e. refl)
tells worker t b (reply.Refused (refusal.ConflictCommit n)) = tells_line worker t b (reply.Refused (refusal.ConflictCommit n)) (said.ConflictCommit n) refl refl (λ e. refl)
tells worker t b (reply.Refused refusal.Exists) = tells_line worker t b (reply.Refused refusal.Exists) said.Exists refl refl (λ e. refl)
tells worker t b (reply.Refused refusal.Missing) = tells_line worker t b (reply.Refused refusal.Missing) said.Missing refl refl (λ e. refl)
tells worker t b (reply.Refused (refusal.Freezing c g)) = tells_line worker t b (reply.Refused (refusal.Freezing c g)) (said.Freezing t c g) refl refl (λ e. refl)
tells worker t b (reply.Refused (refusal.Full n)) = tells_line worker t b (reply.Refused (refusal.Full n)) said.Full refl refl (λ e. refl)
tells worker t b (reply.Rows rows) = tells_none worker t b (reply.Rows rows) refl
tells worker t b (reply.Shared rows) = tells_none worker t b (reply.Shared rows) refl
tells worker t b (reply.Stale what n) = tells_line worker t b (reply.Stale what n) (said.Stale (Rattle.run_spec.specs.Told.stale_of what) n) refl refl (λ e. refl)
tells worker t b (reply.Committed n) = tells_line worker t b (reply.Committed n) (said.Committed n) refl refl (λ e. absurd (true_false e))
tells worker t b reply.Aborted = tells_line worker t b reply.Aborted said.Aborted refl refl (λ e. absurd (true_false e))
tells worker t b (reply.Oldest oldest) = tells_none worker t b (reply.Oldest oldest) refl
tells worker t b (reply.Turned turned) = tells_none worker t b (reply.Turned turned) refl
tells worker t b (reply.Dropped count) = tells_none worker t b (reply.Dropped count) refl
tells worker t b (reply.Looked look) = tells_none worker t b (reply.Looked look) refl
tells worker t b (reply.Moved count) = tells_none worker t b (reply.Moved count) refl
tells worker t b (reply.Sealed stamp) = tells_line worker t b (reply.Sealed stamp) (said.Sealed t b stamp) refl refl (λ e. refl)
tells worker t b (reply.NotSealed because) = tells_line worker t b (reply.NotSealed because) (said.NotSealed (Rattle.run_spec.specs.Told.cause_told because)) refl refl (λ e. refl)
tells worker t b (reply.Imaged rows) = tells_line worker t b (reply.Imaged rows) (said.Frozen t b rows) refl refl (λ e. refl)
tells worker t b reply.NoSeal = tells_line worker t b reply.NoSeal said.NotFrozen refl refl (λ e. refl)
tells worker t b reply.Thawed = tells_none worker t b reply.Thawed refl
tells worker t b reply.Memory = tells_line worker t b reply.Memory said.Memory refl refl (λ e. refl)

-- What is told quietly ends no transaction.
quiet_ends : (asked : Command) (made : List Occurrence) (told : Option Said) → TellsQuietly asked made told → ends_told told ≡ false
quiet_ends asked made told (line, is, inl plain) = ap ends_told is ∙ (plain_none line plain).1
quiet_ends asked made told (line, is, inr (inl moved)) = ap ends_told is ∙ ap is_end moved
quiet_ends asked made told (line, is, inr (inr pruned)) = ap ends_told is ∙ ap is_end pruned.1

-- a write's reply ends nothing
write_ends : (refused : Bool) (r : Result ℕ WriteFault) → ends_reply (cond refused reply.Memory (reply_to_write r)) ≡ false
unfolding ends_reply
write_ends true r = refl
write_ends false (Ok p) = refl
write_ends false (Err f) = refl

-- A seal's reply ends no transaction.
seal_ends : (refused : Bool) (f : Option SealFault) (n : ℕ) → ends_reply (cond refused reply.Memory (reply_to_seal f n)) ≡ false
unfolding ends_reply
seal_ends true f n = refl
seal_ends false None n = refl
seal_ends false (Some f) n = refl

-- An image's reply ends no transaction.
image_ends : (refused : Bool) (p : Phase) (y : Body) → ends_reply (cond refused reply.Memory (reply_to_image p y)) ≡ false
unfolding ends_reply
image_ends true p y = refl
image_ends false Loose y = refl
image_ends false (Sealed g) y = refl
image_ends false (Imaged g) y = refl

-- ---- a moment

-- one line more, or none
pub sum_with : (f : Said → Option ℕ) (lines : List Entry) (printed : Option Entry) (told : Option Said) → ((printed ≡ None) × (told ≡ None)) ⊎ ((line : Entry) × (printed ≡ Some line) × (told ≡ Some line.reply.said))
    → sum (shown_in f (with_reply lines printed)) ≡ sum (shown_in f lines) + count_in f told
sum_with f lines printed told (inl none) =
    let a = ap (λ p. sum (shown_in f (with_reply lines p))) none.0 in let b = ap (count_in f) none.1 in omega (arith, a, b)
sum_with f lines printed told (inr some) =
    let a = ap (λ p. sum (shown_in f (with_reply lines p))) some.1 in let b = ap (count_in f) some.2 in
    let c = sum_more f lines some.0 in omega (arith, a, b, c)

record Quiet (sh : Shape) (parts : Parts) (e : CoreEvent) (r : CoreReply) : Type 0 where
  stamps : stamped_by sh parts e r ≡ 0
  writes : (q : ℕ) → written_by q e r ≡ 0
  own : (own : Option OwnTransaction) → own_behind own e r ≡ own

-- A quiet event stamps and writes nothing, and leaves what its session has open.
quiet_is : (sh : Shape) (parts : Parts) (e : CoreEvent) (r : CoreReply) → is_quiet e ≡ true → Quiet sh parts e r
quiet_is sh parts (event.Get own table key) r q = record { stamps = refl; writes = λ q. refl; own = λ o. refl }
quiet_is sh parts (event.Read own table block) r q = record { stamps = refl; writes = λ q. refl; own = λ o. refl }
quiet_is sh parts (event.Range own table low high) r q = record { stamps = refl; writes = λ q. refl; own = λ o. refl }
quiet_is sh parts event.Oldest r q = record { stamps = refl; writes = λ q. refl; own = λ o. refl }
quiet_is sh parts (event.Observe table block) r q = record { stamps = refl; writes = λ q. refl; own = λ o. refl }
quiet_is sh parts (event.Prune table block oldest) r q = record { stamps = refl; writes = λ q. refl; own = λ o. refl }
quiet_is sh parts (event.Look table block) r q = record { stamps = refl; writes = λ q. refl; own = λ o. refl }
quiet_is sh parts (event.Thaw table block) r q = record { stamps = refl; writes = λ q. refl; own = λ o. refl }
quiet_is sh parts (event.Begin session) r q = absurd (true_false (sym q))
quiet_is sh parts (event.Insert own table row) r q = absurd (true_false (sym q))
quiet_is sh parts (event.Update own table row) r q = absurd (true_false (sym q))
quiet_is sh parts (event.Delete own table key) r q = absurd (true_false (sym q))
quiet_is sh parts (event.Commit own reads) r q = absurd (true_false (sym q))
quiet_is sh parts (event.Abort own) r q = absurd (true_false (sym q))
quiet_is sh parts (event.Move table moves) r q = absurd (true_false (sym q))
quiet_is sh parts (event.Seal table block) r q = absurd (true_false (sym q))
quiet_is sh parts (event.Image table block image) r q = absurd (true_false (sym q))

-- What counts for one session counts nothing for another.
if_other : (s q n : ℕ) → s ≢ q → cond (s == q) n 0 ≡ 0
if_other s q n ne = go (s == q) refl
  where
    go : (b : Bool) → (s == q) ≡ b → cond (s == q) n 0 ≡ 0
    go true e = absurd (ne (grind (arith, nat_tests, e)))
    go false e = ap (λ b. cond b n 0) e

-- A choice between zero and zero is zero.
if_none : (b : Bool) → cond {A = ℕ} b 0 0 ≡ 0
if_none true = refl
if_none false = refl

-- A choice between one and zero is one at most.
if_most : (b : Bool) → cond {A = ℕ} b 1 0 ≤ 1
if_most true = omega arith
if_most false = omega arith

-- a write is of its session alone
other_writes : (e : CoreEvent) (r : CoreReply) (seat q : ℕ) → Rattle.std.specs.Prelude.IfSome (session_of e) (λ s. s ≡ seat) → seat ≢ q → written_by q e r ≡ 0
other_writes (event.Insert own table row) r seat q named ne = if_other own.session q (writes_told r) (λ e. ne (sym named ∙ e))
other_writes (event.Update own table row) r seat q named ne = if_other own.session q (writes_told r) (λ e. ne (sym named ∙ e))
other_writes (event.Delete own table key) r seat q named ne = if_other own.session q (writes_told r) (λ e. ne (sym named ∙ e))
other_writes (event.Get own table key) r seat q named ne = refl
other_writes (event.Read own table block) r seat q named ne = refl
other_writes (event.Range own table low high) r seat q named ne = refl
other_writes event.Oldest r seat q named ne = refl
other_writes (event.Observe table block) r seat q named ne = refl
other_writes (event.Prune table block oldest) r seat q named ne = refl
other_writes (event.Look table block) r seat q named ne = refl
other_writes (event.Thaw table block) r seat q named ne = refl
other_writes (event.Begin session) r seat q named ne = refl
other_writes (event.Commit own reads) r seat q named ne = refl
other_writes (event.Abort own) r seat q named ne = refl
other_writes (event.Move table moves) r seat q named ne = refl
other_writes (event.Seal table block) r seat q named ne = refl
other_writes (event.Image table block image) r seat q named ne = refl

module _ (script : Script) (parts : Parts) (front : List Occurrence) (lines : List Entry) (seat : ℕ) (e : CoreEvent) (r : CoreReply)
    (low : 1 ≤ seat) (kept : Kept script parts front lines) where
  -- What the event's own session has open goes on with the event.
  own_mine : own_after (under seat (front ++ record { session = seat; before = parts; event = e; reply = r } ∷ [])) ≡ own_behind (own_after (under seat front)) e r
  own_mine = ap own_after (own_last front (record { session = seat; before = parts; event = e; reply = r }))
      ∙ fold-append (λ own (o : Occurrence). own_behind own o.event o.reply) None (under seat front) (record { session = seat; before = parts; event = e; reply = r } ∷ [])

  -- What another session has open is as it was.
  own_other : (q : ℕ) → seat ≢ q → own_after (under q (front ++ record { session = seat; before = parts; event = e; reply = r } ∷ [])) ≡ own_after (under q front)
  own_other q ne = ap own_after (other_last q front (record { session = seat; before = parts; event = e; reply = r }) ne)

  -- These lines count the session's open writes with the event's, and an open span of it.
  abbrev Opens : List Entry → ℕ → Type 0
  Opens after_lines q = (open_writes (who_at script q) lines + written_by q e r ≤ open_writes (who_at script q) after_lines) × (1 ≤ open_spans (who_at script q) after_lines)

  -- of this one's own, and of others
  opened_by : (after_lines : List Entry) → (is_some (own_behind (own_after (under seat front)) e r) ≡ true → Opens after_lines seat)
      → ((q : ℕ) → 1 ≤ q → seat ≢ q → is_some (own_after (under q front)) ≡ true → Opens after_lines q)
      → (q : ℕ) → 1 ≤ q → is_some (own_after (under q (front ++ record { session = seat; before = parts; event = e; reply = r } ∷ []))) ≡ true → Opens after_lines q
  opened_by after_lines mine others q one some = go (seat == q) refl
    where
      go : (b : Bool) → (seat == q) ≡ b → Opens after_lines q
      go true is =
          let same : seat ≡ q = grind (arith, nat_tests, is) in
          subst (Opens after_lines) same
          (mine (sym (ap is_some own_mine) ∙ ap (λ q. is_some (own_after (under q (front ++ record { session = seat; before = parts; event = e; reply = r } ∷ [])))) same ∙ some))
      go false is =
          let ne : seat ≢ q = λ same. (let never : ⊥ = grind (arith, nat_tests, is, same) in never) in
          others q one ne (sym (ap is_some (own_other q ne)) ∙ some)

  -- of a call that goes on
  pub brings_on : is_quiet e ≡ true → Brings script parts front lines lines seat e r
  brings_on quiet =
      let is = quiet_is (shape_of script) parts e r quiet in
      record {
        counted =
            let s = is.stamps in let u = untold_rises (all_blocks (shape_of script)) (way_of (under seat front)) e r in let d = dropped_so e r in omega (arith, s, u, d);
        opened = opened_by lines
            (λ some. let w = is.writes seat in (omega (arith, w), kept.spans seat low (sym (ap is_some (is.own (own_after (under seat front)))) ∙ some)))
            (λ q one ne some. let w = is.writes q in (omega (arith, w), kept.spans q one some));
      }

  -- of a call that ends
  module _ (printed : Option Entry) (told : Option Said) (asked : Command) (made : List Occurrence)
      (is_shown : ((printed ≡ None) × (told ≡ None)) ⊎ ((line : Entry) × (printed ≡ Some line) × (told ≡ Some line.reply.said)))
      (whose : (line : Entry) → printed ≡ Some line → (line.reply.who ≡ who_at script seat) × (line.command ≡ command_told (who_at script seat) asked)) where
    rises : writes_committed_in lines ≤ writes_committed_in (with_reply lines printed)
    rises = go printed
      where
        go : (o : Option Entry) → writes_committed_in lines ≤ writes_committed_in (with_reply lines o)
        go None = omega arith
        go (Some line) = committed_rises lines line

    stays_with : (q : Who) → (ends_told told ≡ false) ⊎ ((line : Entry) → printed ≡ Some line → (who : Who) → is_same q who ≡ true → is_same line.reply.who who ≡ false)
        → (open_writes q lines ≤ open_writes q (with_reply lines printed)) × (open_spans q lines ≤ open_spans q (with_reply lines printed))
    stays_with q why = go is_shown why
      where
        at : (line : Entry) → printed ≡ Some line → (is_end line.reply.said ≡ false) ⊎ ((who : Who) → is_same q who ≡ true → is_same line.reply.who who ≡ false)
            → (open_writes q lines ≤ open_writes q (with_reply lines printed)) × (open_spans q lines ≤ open_spans q (with_reply lines printed))
        at line is why = let h = stays_open lines line q why in
            let same = ap (λ p. open_writes q (with_reply lines p)) is in let same' = ap (λ p. open_spans q (with_reply lines p)) is in
            let a = h.writes in let b = h.spans in (omega (arith, a, same), omega (arith, b, same'))

        go : ((printed ≡ None) × (told ≡ None)) ⊎ ((line : Entry) × (printed ≡ Some line) × (told ≡ Some line.reply.said))
            → (ends_told told ≡ false) ⊎ ((line : Entry) → printed ≡ Some line → (who : Who) → is_same q who ≡ true → is_same line.reply.who who ≡ false)
            → (open_writes q lines ≤ open_writes q (with_reply lines printed)) × (open_spans q lines ≤ open_spans q (with_reply lines printed))
        go (inl none) why =
            let same = ap (λ p. open_writes q (with_reply lines p)) none.0 in let same' = ap (λ p. open_spans q (with_reply lines p)) none.0 in (omega (arith, same), omega (arith, same'))
        go (inr some) (inl no_end) = at some.0 some.1 (inl (sym (ap ends_told some.2) ∙ no_end))
        go (inr some) (inr other) = at some.0 some.1 (inr (other some.0 some.1))

    others_stay : Rattle.std.specs.Prelude.IfSome (session_of e) (λ s. s ≡ seat) → (q : ℕ) → 1 ≤ q → seat ≢ q → is_some (own_after (under q front)) ≡ true → Opens (with_reply lines printed) q
    others_stay named q one ne some =
        let w = other_writes e r seat q named ne in
        let h = stays_with (who_at script q) (inr (λ line is who same. another line is who same (is_same line.reply.who who) refl)) in
        let a = h.0 in let b = h.1 in let s = kept.spans q one some in
        (omega (arith, w, a), omega (arith, b, s))
      where
        another : (line : Entry) → printed ≡ Some line → (who : Who) → is_same (who_at script q) who ≡ true → (b : Bool) → is_same line.reply.who who ≡ b → is_same line.reply.who who ≡ false
        another line is who same false e = e
        another line is who same true e =
            let same_who : line.reply.who ≡ who_at script q = same-is line.reply.who who e ∙ sym (same-is (who_at script q) who same) in
            absurd (ne (same_seat script seat q (ap (λ w. is_same w (who_at script q)) (sym (whose line is).0) ∙ ap (λ w. is_same w (who_at script q)) same_who ∙ same-itself (who_at script q))))

    -- where nothing is stamped and no pruning is told
    counted_plain : stamped_by (shape_of script) parts e r ≡ 0 → count_in pruned_in told ≡ 0
        → sum (shown_in pruned_in (with_reply lines printed)) + untold (all_blocks (shape_of script)) (goes_on (way_of (under seat front)) e r)
        + stamped_by (shape_of script) parts e r + writes_committed_in lines + 2 * sum (shown_in moved_in lines)
        ≤ sum (shown_in pruned_in lines) + untold_at script front seat + dropped_by e r + writes_committed_in (with_reply lines printed) + 2 * sum (shown_in moved_in (with_reply lines printed))
    counted_plain stamps none =
        let p = sum_with pruned_in lines printed told is_shown in let m = sum_with moved_in lines printed told is_shown in
        let u = untold_rises (all_blocks (shape_of script)) (way_of (under seat front)) e r in let d = dropped_so e r in let w = rises in
        omega (arith, p, m, u, d, w, stamps, none)

    mine_plain : written_by seat e r ≡ 0 → ends_told told ≡ false → is_some (own_after (under seat front)) ≡ true → Opens (with_reply lines printed) seat
    mine_plain none no_end some =
        let h = stays_with (who_at script seat) (inl no_end) in
        let a = h.0 in let b = h.1 in let s = kept.spans seat low some in (omega (arith, a, none), omega (arith, b, s))

    -- an event of a transaction or of upkeep, told by its reply
    module _ (t b : ℕ) (tells_so : told ≡ line_to (is_worker (who_at script seat)) (told_by t b r)) where
      no_prune : count_in pruned_in told ≡ 0
      no_prune = ap (count_in pruned_in) tells_so ∙ (tells (is_worker (who_at script seat)) t b r).prunes

      no_end : ends_reply r ≡ false → ends_told told ≡ false
      no_end e = ap ends_told tells_so ∙ (tells (is_worker (who_at script seat)) t b r).ends e

    -- a write that was granted
    granted : (s : ℕ) → told ≡ Some said.Accepted → is_some (write_of asked) ≡ true → is_worker (who_at script seat) ≡ false
        → is_some (own_after (under seat front)) ≡ true
        → (open_writes (who_at script seat) lines + cond (s == seat) 1 0 ≤ open_writes (who_at script seat) (with_reply lines printed)) × (1 ≤ open_spans (who_at script seat) (with_reply lines printed))
    granted s accepted writes session some = go is_shown
      where
        go : ((printed ≡ None) × (told ≡ None)) ⊎ ((line : Entry) × (printed ≡ Some line) × (told ≡ Some line.reply.said))
            → (open_writes (who_at script seat) lines + cond (s == seat) 1 0 ≤ open_writes (who_at script seat) (with_reply lines printed)) × (1 ≤ open_spans (who_at script seat) (with_reply lines printed))
        go (inl none) = let never : None ≡ Some said.Accepted = sym none.1 ∙ accepted in absurd (let no : ⊥ = cc in no)
        go (inr line) =
            let said_is : line.0.reply.said ≡ said.Accepted = (let both : Some line.0.reply.said ≡ Some said.Accepted = sym line.2 ∙ accepted in cc) in
            let command_is : line.0.command ≡ asked = (whose line.0 line.1).1 ∙ ap (λ b. cond b command.Observe asked) session in
            let accepts : is_some (accepted_write line.0) ≡ true =
            ap (λ s. is_some (cond (Rattle.outcome_spec.specs.Entries.is_accepted s) (write_of line.0.command) None)) said_is ∙ ap (λ c. is_some (write_of c)) command_is ∙ writes in
            let h = accepted_rises lines line.0 (who_at script seat) (whose line.0 line.1).0 (ap is_end said_is) accepts in
            let k = kept.spans seat low some in
            let m = if_most (s == seat) in
            let st = stays_with (who_at script seat) (inl (ap ends_told accepted)) in
            let sp = st.1 in
            let same = ap (λ p. open_writes (who_at script seat) (with_reply lines p)) line.1 in
            (omega (arith, h, k, m, same), omega (arith, k, sp))

    mine_write : (table s : ℕ) (refused : Bool) (w : Result ℕ WriteFault) → told ≡ line_to (is_worker (who_at script seat)) (told_by table 0 (cond refused reply.Memory (reply_to_write w)))
        → is_some (write_of asked) ≡ true → is_worker (who_at script seat) ≡ false → is_some (own_after (under seat front)) ≡ true
        → (open_writes (who_at script seat) lines + cond (s == seat) (writes_told (cond refused reply.Memory (reply_to_write w))) 0 ≤ open_writes (who_at script seat) (with_reply lines printed))
        × (1 ≤ open_spans (who_at script seat) (with_reply lines printed))
    mine_write table s refused w tells_so writes session some = go refused w tells_so
      where
        none_more : ends_told told ≡ false → (n : ℕ) → n ≡ 0
            → (open_writes (who_at script seat) lines + n ≤ open_writes (who_at script seat) (with_reply lines printed)) × (1 ≤ open_spans (who_at script seat) (with_reply lines printed))
        none_more no_end n z =
            let h = stays_with (who_at script seat) (inl no_end) in let a = h.0 in let b = h.1 in let k = kept.spans seat low some in (omega (arith, a, z), omega (arith, b, k))

        go : (refused : Bool) (w : Result ℕ WriteFault) → told ≡ line_to (is_worker (who_at script seat)) (told_by table 0 (cond refused reply.Memory (reply_to_write w)))
            → (open_writes (who_at script seat) lines + cond (s == seat) (writes_told (cond refused reply.Memory (reply_to_write w))) 0 ≤ open_writes (who_at script seat) (with_reply lines printed))
            × (1 ≤ open_spans (who_at script seat) (with_reply lines printed))
        go true w is = none_more (ap ends_told is ∙ (tells (is_worker (who_at script seat)) table 0 reply.Memory).ends (write_ends true w)) (cond (s == seat) 0 0) (if_none (s == seat))
        go false (Err f) is = none_more (ap ends_told is ∙ (tells (is_worker (who_at script seat)) table 0 (reply.Refused f)).ends (write_ends false (Err f))) (cond (s == seat) 0 0) (if_none (s == seat))
        go false (Ok p) is = granted s (is ∙ not_silent (is_worker (who_at script seat)) said.Accepted refl) writes session some

    -- a begin
    begun : (n : ℕ) → told ≡ Some (said.At n) → (open_writes (who_at script seat) lines + 0 ≤ open_writes (who_at script seat) (with_reply lines printed)) × (1 ≤ open_spans (who_at script seat) (with_reply lines printed))
    begun n at = go is_shown
      where
        go : ((printed ≡ None) × (told ≡ None)) ⊎ ((line : Entry) × (printed ≡ Some line) × (told ≡ Some line.reply.said))
            → (open_writes (who_at script seat) lines + 0 ≤ open_writes (who_at script seat) (with_reply lines printed)) × (1 ≤ open_spans (who_at script seat) (with_reply lines printed))
        go (inl none) = let never : None ≡ Some (said.At n) = sym none.1 ∙ at in absurd (let no : ⊥ = cc in no)
        go (inr line) =
            let said_is : line.0.reply.said ≡ said.At n = (let both : Some line.0.reply.said ≡ Some (said.At n) = sym line.2 ∙ at in cc) in
            let h = stays_with (who_at script seat) (inl (ap ends_told at)) in let a = h.0 in
            let o = begin_opens lines line.0 (who_at script seat) n (whose line.0 line.1).0 said_is in
            let same = ap (λ p. open_spans (who_at script seat) (with_reply lines p)) line.1 in
            (omega (arith, a), omega (arith, o, same))

    -- a commit
    committed : (n : Option ℕ) → told ≡ Some (said.Committed n) → writes_committed_in lines + open_writes (who_at script seat) lines ≤ writes_committed_in (with_reply lines printed)
    committed n told_is = go is_shown
      where
        go : ((printed ≡ None) × (told ≡ None)) ⊎ ((line : Entry) × (printed ≡ Some line) × (told ≡ Some line.reply.said))
            → writes_committed_in lines + open_writes (who_at script seat) lines ≤ writes_committed_in (with_reply lines printed)
        go (inl none) = let never : None ≡ Some (said.Committed n) = sym none.1 ∙ told_is in absurd (let no : ⊥ = cc in no)
        go (inr line) =
            let said_is : line.0.reply.said ≡ said.Committed n = (let both : Some line.0.reply.said ≡ Some (said.Committed n) = sym line.2 ∙ told_is in cc) in
            let h = commit_rises lines line.0 (who_at script seat) (whose line.0 line.1).0 (ap is_commit said_is) in
            let same = ap (λ p. writes_committed_in (with_reply lines p)) line.1 in
            omega (arith, h, same)

-- ---- by the event

module _ (script : Script) (parts : Parts) (front : List Occurrence) (lines : List Entry) (seat : ℕ) (low : 1 ≤ seat) (kept : Kept script parts front lines)
    (printed : Option Entry) (told : Option Said) (asked : Command) (made : List Occurrence)
    (is_shown : ((printed ≡ None) × (told ≡ None)) ⊎ ((line : Entry) × (printed ≡ Some line) × (told ≡ Some line.reply.said)))
    (whose : (line : Entry) → printed ≡ Some line → (line.reply.who ≡ who_at script seat) × (line.command ≡ command_told (who_at script seat) asked))
    (of_worker : is_worker (who_at script seat) ≡ true → is_upkeep asked ≡ true) where
  -- What a call that ends at this event tells brings to the counts what it has to.
  abbrev Says : CoreEvent → Bool → Type 0
  Says e refused = Rattle.std.specs.Prelude.IfSome (session_of e) (λ s. s ≡ seat) → (refused ≡ true → takes_memory e ≡ true)
      → TellsAt (is_worker (who_at script seat)) made e (cond refused reply.Memory (reply_to (shape_of script) parts e)) asked told
      → (asked ≡ command.Prune
      → untold (all_blocks (shape_of script)) (goes_on (way_of (under seat front)) e (cond refused reply.Memory (reply_to (shape_of script) parts e))) + sum_by dropped_told (replies_in made)
      ≤ untold_at script front seat + dropped_at e (cond refused reply.Memory (reply_to (shape_of script) parts e)))
      → Brings script parts front lines (with_reply lines printed) seat e (cond refused reply.Memory (reply_to (shape_of script) parts e))

  -- A command that is not upkeep is a session's.
  a_session : is_upkeep asked ≡ false → is_worker (who_at script seat) ≡ false
  a_session none = go (is_worker (who_at script seat)) of_worker
    where
      go : (b : Bool) → (b ≡ true → is_upkeep asked ≡ true) → b ≡ false
      go true up = absurd (true_false (sym (up refl) ∙ none))
      go false up = refl

  -- Where there is something after a change, there was before.
  still_some : {X : Type 0} (f : X → X) (o : Option X) → is_some (Rattle.std.specs.Prelude.option_map f o) ≡ true → is_some o ≡ true
  still_some f None e = e
  still_some f (Some x) e = refl

  -- A call that ends at a quiet event brings to the counts what it has to.
  quiet_ending : (e : CoreEvent) (refused : Bool) → is_quiet e ≡ true → Rattle.std.specs.Prelude.IfSome (session_of e) (λ s. s ≡ seat)
      → TellsQuietly asked made told
      → (asked ≡ command.Prune
      → untold (all_blocks (shape_of script)) (goes_on (way_of (under seat front)) e (cond refused reply.Memory (reply_to (shape_of script) parts e))) + sum_by dropped_told (replies_in made)
      ≤ untold_at script front seat + dropped_at e (cond refused reply.Memory (reply_to (shape_of script) parts e)))
      → Brings script parts front lines (with_reply lines printed) seat e (cond refused reply.Memory (reply_to (shape_of script) parts e))
  quiet_ending e refused quiet named h all_told = record {
    counted = counts h;
    opened = opened_by script parts front lines seat e (cond refused reply.Memory (reply_to (shape_of script) parts e)) low kept (with_reply lines printed)
        (λ some. mine_plain script parts front lines seat e (cond refused reply.Memory (reply_to (shape_of script) parts e)) low kept printed told asked made is_shown whose
        ((quiet_is (shape_of script) parts e (cond refused reply.Memory (reply_to (shape_of script) parts e)) quiet).writes seat) (quiet_ends asked made told h)
        (sym (ap is_some ((quiet_is (shape_of script) parts e (cond refused reply.Memory (reply_to (shape_of script) parts e)) quiet).own (own_after (under seat front)))) ∙ some))
        (others_stay script parts front lines seat e (cond refused reply.Memory (reply_to (shape_of script) parts e)) low kept printed told asked made is_shown whose named);
  }
    where
      counts : TellsQuietly asked made told
          → sum (shown_in pruned_in (with_reply lines printed)) + untold (all_blocks (shape_of script)) (goes_on (way_of (under seat front)) e (cond refused reply.Memory (reply_to (shape_of script) parts e)))
          + stamped_by (shape_of script) parts e (cond refused reply.Memory (reply_to (shape_of script) parts e)) + writes_committed_in lines + 2 * sum (shown_in moved_in lines)
          ≤ sum (shown_in pruned_in lines) + untold_at script front seat + dropped_by e (cond refused reply.Memory (reply_to (shape_of script) parts e)) + writes_committed_in (with_reply lines printed) + 2 * sum (shown_in moved_in (with_reply lines printed))
      counts (line, is, inl plain) = counted_plain script parts front lines seat e (cond refused reply.Memory (reply_to (shape_of script) parts e)) low kept printed told asked made is_shown whose
          (quiet_is (shape_of script) parts e (cond refused reply.Memory (reply_to (shape_of script) parts e)) quiet).stamps
          (ap (count_in pruned_in) is ∙ ap (λ o. option_map_or (λ (n : ℕ). n) o 0) (plain_none line plain).0)
      counts (line, is, inr (inl moved)) = counted_plain script parts front lines seat e (cond refused reply.Memory (reply_to (shape_of script) parts e)) low kept printed told asked made is_shown whose
          (quiet_is (shape_of script) parts e (cond refused reply.Memory (reply_to (shape_of script) parts e)) quiet).stamps
          (ap (count_in pruned_in) is ∙ ap (λ l. option_map_or (λ (n : ℕ). n) (pruned_in l) 0) moved)
      counts (line, is, inr (inr pruned)) =
          let u = all_told pruned.0 in
          let d = dropped_so e (cond refused reply.Memory (reply_to (shape_of script) parts e)) in
          let s = (quiet_is (shape_of script) parts e (cond refused reply.Memory (reply_to (shape_of script) parts e)) quiet).stamps in
          let p = sum_with pruned_in lines printed told is_shown in let m = sum_with moved_in lines printed told is_shown in
          let c : count_in pruned_in told ≡ sum_by dropped_told (replies_in made) = ap (count_in pruned_in) is ∙ ap (λ l. option_map_or (λ (n : ℕ). n) (pruned_in l) 0) pruned.1 in
          let w = rises script parts front lines seat e (cond refused reply.Memory (reply_to (shape_of script) parts e)) low kept printed told asked made is_shown whose in
          omega (arith, u, d, s, p, m, c, w)

  -- told by its reply, and nothing is stamped
  reply_ending : (e : CoreEvent) (refused : Bool) (t b : ℕ) → Rattle.std.specs.Prelude.IfSome (session_of e) (λ s. s ≡ seat)
      → told ≡ line_to (is_worker (who_at script seat)) (told_by t b (cond refused reply.Memory (reply_to (shape_of script) parts e)))
      → stamped_by (shape_of script) parts e (cond refused reply.Memory (reply_to (shape_of script) parts e)) ≡ 0
      → (is_some (own_behind (own_after (under seat front)) e (cond refused reply.Memory (reply_to (shape_of script) parts e))) ≡ true
      → (open_writes (who_at script seat) lines + written_by seat e (cond refused reply.Memory (reply_to (shape_of script) parts e)) ≤ open_writes (who_at script seat) (with_reply lines printed))
      × (1 ≤ open_spans (who_at script seat) (with_reply lines printed)))
      → Brings script parts front lines (with_reply lines printed) seat e (cond refused reply.Memory (reply_to (shape_of script) parts e))
  reply_ending e refused t b named tells_so stamps mine = record {
    counted = counted_plain script parts front lines seat e (cond refused reply.Memory (reply_to (shape_of script) parts e)) low kept printed told asked made is_shown whose stamps
        (no_prune script parts front lines seat e (cond refused reply.Memory (reply_to (shape_of script) parts e)) low kept printed told asked made is_shown whose t b tells_so);
    opened = opened_by script parts front lines seat e (cond refused reply.Memory (reply_to (shape_of script) parts e)) low kept (with_reply lines printed) mine
        (others_stay script parts front lines seat e (cond refused reply.Memory (reply_to (shape_of script) parts e)) low kept printed told asked made is_shown whose named);
  }

  -- An event that writes and ends nothing leaves its session's open writes in their span.
  same_mine : (e : CoreEvent) (refused : Bool) (t b : ℕ) → told ≡ line_to (is_worker (who_at script seat)) (told_by t b (cond refused reply.Memory (reply_to (shape_of script) parts e)))
      → ends_reply (cond refused reply.Memory (reply_to (shape_of script) parts e)) ≡ false → written_by seat e (cond refused reply.Memory (reply_to (shape_of script) parts e)) ≡ 0
      → is_some (own_after (under seat front)) ≡ true
      → (open_writes (who_at script seat) lines + written_by seat e (cond refused reply.Memory (reply_to (shape_of script) parts e)) ≤ open_writes (who_at script seat) (with_reply lines printed))
      × (1 ≤ open_spans (who_at script seat) (with_reply lines printed))
  same_mine e refused t b tells_so ends none some = mine_plain script parts front lines seat e (cond refused reply.Memory (reply_to (shape_of script) parts e)) low kept printed told asked made is_shown whose none
      (no_end script parts front lines seat e (cond refused reply.Memory (reply_to (shape_of script) parts e)) low kept printed told asked made is_shown whose t b tells_so ends) some

  -- A call that ends at a move brings to the counts what it has to.
  move_ending : (table : ℕ) (moves : List Rattle.event_spec.specs.declared.event.MovePair.MovePair) (refused : Bool)
      → TellsMove (cond refused reply.Memory (reply_to (shape_of script) parts (event.Move table moves))) told
      → Brings script parts front lines (with_reply lines printed) seat (event.Move table moves) (cond refused reply.Memory (reply_to (shape_of script) parts (event.Move table moves)))
  move_ending table moves refused h = go (cond refused reply.Memory (reply_to (shape_of script) parts (event.Move table moves))) h
    where
      go : (r : CoreReply) → TellsMove r told → Brings script parts front lines (with_reply lines printed) seat (event.Move table moves) r
      go r (inl memory) = record {
        counted = counted_plain script parts front lines seat (event.Move table moves) r low kept printed told asked made is_shown whose (ap (λ r. 2 * moves_told r) memory.0) (ap (count_in pruned_in) memory.1);
        opened = opened_by script parts front lines seat (event.Move table moves) r low kept (with_reply lines printed)
            (λ some. mine_plain script parts front lines seat (event.Move table moves) r low kept printed told asked made is_shown whose refl (ap ends_told memory.1) some)
            (others_stay script parts front lines seat (event.Move table moves) r low kept printed told asked made is_shown whose tt);
      }
      go r (inr moved) = record {
        counted =
            let p = sum_with pruned_in lines printed told is_shown in let m = sum_with moved_in lines printed told is_shown in
            let a : count_in pruned_in told ≡ 0 = ap (count_in pruned_in) moved in
            let c : count_in moved_in told ≡ moved_told r = ap (count_in moved_in) moved in
            let s = same_moves r in
            let w = rises script parts front lines seat (event.Move table moves) r low kept printed told asked made is_shown whose in
            omega (arith, p, m, a, c, s, w);
        opened = opened_by script parts front lines seat (event.Move table moves) r low kept (with_reply lines printed)
            (λ some. mine_plain script parts front lines seat (event.Move table moves) r low kept printed told asked made is_shown whose refl (ap ends_told moved) some)
            (others_stay script parts front lines seat (event.Move table moves) r low kept printed told asked made is_shown whose tt);
      }

  -- A call that ends at a commit, refused or not, brings to the counts what it has to.
  commit_ending : (own : OwnTransaction) (reads : Option ReadSet) → own.session ≡ seat → (stale : Option (Read × ℕ))
      → told ≡ line_to (is_worker (who_at script seat)) (told_by 0 0 (reply_to_commit (shape_of script) parts own stale))
      → Brings script parts front lines (with_reply lines printed) seat (event.Commit own reads) (reply_to_commit (shape_of script) parts own stale)
  commit_ending own reads named (Some stale) tells_so =
      let r : CoreReply = reply.Stale stale.0 stale.1 in
      let is : told ≡ Some (said.Stale (stale_of stale.0) stale.1) = tells_so ∙ not_silent (is_worker (who_at script seat)) (said.Stale (stale_of stale.0) stale.1) refl in
      record {
        counted = counted_plain script parts front lines seat (event.Commit own reads) r low kept printed told asked made is_shown whose refl (ap (count_in pruned_in) is);
        opened = opened_by script parts front lines seat (event.Commit own reads) r low kept (with_reply lines printed)
            (λ some. mine_plain script parts front lines seat (event.Commit own reads) r low kept printed told asked made is_shown whose refl (ap ends_told is) some)
            (others_stay script parts front lines seat (event.Commit own reads) r low kept printed told asked made is_shown whose named);
      }
  commit_ending own reads named None tells_so =
      let n : Option ℕ = cond (Rattle.event_spec.specs.Effects.is_some_write own.writes) (Some ((desk_at (shape_of script) parts).commits + 1)) None in
      let r : CoreReply = reply.Committed n in
      record {
        counted =
            let is : told ≡ Some (said.Committed n) = tells_so ∙ not_silent (is_worker (who_at script seat)) (said.Committed n) refl in
            let c = committed script parts front lines seat (event.Commit own reads) r low kept printed told asked made is_shown whose n is in
            let o = kept.owned seat low in
            let s = ap (Rattle.run_laws.specs.Counts.Versions.own_entries (shape_of script) parts) named in
            let p = sum_with pruned_in lines printed told is_shown in let m = sum_with moved_in lines printed told is_shown in
            let z : count_in pruned_in told ≡ 0 = ap (count_in pruned_in) is in
            omega (arith, c, o, s, p, m, z);
        opened = opened_by script parts front lines seat (event.Commit own reads) r low kept (with_reply lines printed)
            (λ some. absurd (true_false (sym some)))
            (others_stay script parts front lines seat (event.Commit own reads) r low kept printed told asked made is_shown whose named);
      }

  -- An event that a call ends with brings to the counts what its line tells.
  pub brings_end : (e : CoreEvent) (refused : Bool) → Says e refused
  brings_end (event.Begin session) true named memory h all_told = absurd (true_false (sym (memory refl)))
  brings_end (event.Begin session) false named memory h all_told = reply_ending (event.Begin session) false 0 0 named h.1 refl
      (λ some. begun script parts front lines seat (event.Begin session) (reply_to (shape_of script) parts (event.Begin session)) low kept printed told asked made is_shown whose (desk_at (shape_of script) parts).commits
      (h.1 ∙ not_silent (is_worker (who_at script seat)) (said.At (desk_at (shape_of script) parts).commits) refl))
  brings_end (event.Get own table key) refused named memory h all_told = quiet_ending (event.Get own table key) refused refl named h all_told
  brings_end (event.Insert own table row) refused named memory h all_told = reply_ending (event.Insert own table row) refused table 0 named h.1 refl
      (λ some. mine_write script parts front lines seat (event.Insert own table row) (cond refused reply.Memory (reply_to (shape_of script) parts (event.Insert own table row))) low kept printed told asked made is_shown whose
      table own.session refused (insert_judged (shape_of script) parts own table (key_of row)) h.1 (ap (λ c. is_some (write_of c)) h.0) (a_session (ap is_upkeep h.0)) (still_some _ (own_after (under seat front)) some))
  brings_end (event.Update own table row) refused named memory h all_told = reply_ending (event.Update own table row) refused table 0 named h.1 refl
      (λ some. mine_write script parts front lines seat (event.Update own table row) (cond refused reply.Memory (reply_to (shape_of script) parts (event.Update own table row))) low kept printed told asked made is_shown whose
      table own.session refused (change_judged (shape_of script) parts own table (key_of row)) h.1 (ap (λ c. is_some (write_of c)) h.0) (a_session (ap is_upkeep h.0)) (still_some _ (own_after (under seat front)) some))
  brings_end (event.Delete own table key) refused named memory h all_told = reply_ending (event.Delete own table key) refused table 0 named h.1 refl
      (λ some. mine_write script parts front lines seat (event.Delete own table key) (cond refused reply.Memory (reply_to (shape_of script) parts (event.Delete own table key))) low kept printed told asked made is_shown whose
      table own.session refused (change_judged (shape_of script) parts own table key) h.1 (ap (λ c. is_some (write_of c)) h.0) (a_session (ap is_upkeep h.0)) (still_some _ (own_after (under seat front)) some))
  brings_end (event.Read own table block) refused named memory h all_told = quiet_ending (event.Read own table block) refused refl named h all_told
  brings_end (event.Range own table low high) refused named memory h all_told = quiet_ending (event.Range own table low high) refused refl named h all_told
  brings_end (event.Commit own reads) true named memory h all_told = absurd (true_false (sym (memory refl)))
  brings_end (event.Commit own reads) false named memory h all_told = commit_ending own reads named (stale_in (shape_of script) parts own reads) h.1
  brings_end (event.Abort own) refused named memory h all_told = reply_ending (event.Abort own) refused 0 0 named h.1 refl (λ some. absurd (true_false (sym some)))
  brings_end event.Oldest refused named memory h all_told = quiet_ending event.Oldest refused refl named h all_told
  brings_end (event.Observe table block) refused named memory h all_told = quiet_ending (event.Observe table block) refused refl named h all_told
  brings_end (event.Prune table block oldest) refused named memory h all_told = quiet_ending (event.Prune table block oldest) refused refl named h all_told
  brings_end (event.Look table block) refused named memory h all_told = quiet_ending (event.Look table block) refused refl named h all_told
  brings_end (event.Move table moves) refused named memory h all_told = move_ending table moves refused h.2
  brings_end (event.Seal table block) refused named memory h all_told = reply_ending (event.Seal table block) refused table block named h.1 refl
      (same_mine (event.Seal table block) refused table block h.1 (seal_ends refused (seal_fault (is_head (shape_of script) parts table block) (body_at (shape_of script) parts table block)) (body_at (shape_of script) parts table block).last) refl)
  brings_end (event.Image table block image) refused named memory h all_told = reply_ending (event.Image table block image) refused table block named h.1 refl
      (same_mine (event.Image table block image) refused table block h.1 (image_ends refused (body_at (shape_of script) parts table block).phase (body_at (shape_of script) parts table block)) refl)
  brings_end (event.Thaw table block) refused named memory h all_told = quiet_ending (event.Thaw table block) refused refl named h all_told

-- a moment without an event
pub kept_alone : (script : Script) (parts : Parts) (front : List Occurrence) (lines : List Entry) (seat : ℕ) → 1 ≤ seat → Kept script parts front lines
    → (printed : Option Entry) (told : Option Said) (asked : Command)
    → (((printed ≡ None) × (told ≡ None)) ⊎ ((line : Entry) × (printed ≡ Some line) × (told ≡ Some line.reply.said)))
    → ((line : Entry) → printed ≡ Some line → (line.reply.who ≡ who_at script seat) × (line.command ≡ command_told (who_at script seat) asked))
    → (line : Said) → told ≡ Some line → (is_plain line ≡ true) ⊎ (line ≡ said.Moved 0)
    → Kept script parts front (with_reply lines printed)
kept_alone script parts front lines seat low kept printed told asked is_shown whose line is plain = record {
  stood =
      let k = kept.stood in
      let p = sum_with pruned_in lines printed told is_shown in let m = sum_with moved_in lines printed told is_shown in
      let w = rises script parts front lines seat event.Oldest reply.Memory low kept printed told asked [] is_shown whose in
      let z : count_in pruned_in told ≡ 0 = ap (count_in pruned_in) is ∙ none plain in
      omega (arith, k, p, m, w, z);
  owned = λ q one. let k = kept.owned q one in let h = (stays (who_at script q)).0 in omega (arith, k, h);
  spans = λ q one some. let k = kept.spans q one some in let h = (stays (who_at script q)).1 in omega (arith, k, h);
}
  where
    none : (is_plain line ≡ true) ⊎ (line ≡ said.Moved 0) → option_map_or (λ (n : ℕ). n) (pruned_in line) 0 ≡ 0
    none (inl e) = ap (λ o. option_map_or (λ (n : ℕ). n) o 0) (plain_none line e).0
    none (inr e) = ap (λ l. option_map_or (λ (n : ℕ). n) (pruned_in l) 0) e

    no_end_of : (is_plain line ≡ true) ⊎ (line ≡ said.Moved 0) → is_end line ≡ false
    no_end_of (inl e) = (plain_none line e).1
    no_end_of (inr e) = ap is_end e

    stays : (q : Who) → (open_writes q lines ≤ open_writes q (with_reply lines printed)) × (open_spans q lines ≤ open_spans q (with_reply lines printed))
    stays q = stays_with script parts front lines seat event.Oldest reply.Memory low kept printed told asked [] is_shown whose q (inl (ap ends_told is ∙ no_end_of plain))

-- the count of a pruning's line
pub prune_counts : (script : Script) (parts : Parts) (front : List Occurrence) (lines : List Entry) (entry : Logged) (count seat : ℕ)
    → 1 ≤ seat → seat ≤ script.sessions + script.workers → Sound (shape_of script) parts → IsLawful (shape_of script) entry.made.event parts → Kept script parts front lines
    → is_quiet entry.made.event ≡ true
    → untold (all_blocks (shape_of script)) (goes_on (way_of (under seat front)) entry.made.event (reply_after (shape_of script) parts entry.made)) + count
    ≤ untold_at script front seat + dropped_at entry.made.event (reply_after (shape_of script) parts entry.made)
    → count + sum (shown_in pruned_in lines) ≤ writes_committed_in lines + 2 * sum (shown_in moved_in lines)
prune_counts script parts front lines entry count seat low high ok lawful kept quiet all_told =
    let k = kept.stood in
    let v = (versions_are_counted (shape_of script) parts entry.made ok lawful).stamped in
    let s = (quiet_is (shape_of script) parts entry.made.event (reply_after (shape_of script) parts entry.made) quiet).stamps in
    let d = dropped_so entry.made.event (reply_after (shape_of script) parts entry.made) in
    let m = sum_least (untold_at script front) seat (seats_of script) (below_member 1 (script.sessions + script.workers) seat low (omega (arith, high))) in
    omega (arith, k, v, s, d, m, all_told)

-- what is printed is what the call told, and nothing where it told nothing
pub shown_as : (who : Who) (call : Call) (printed : Option Entry) → IsPrinted who call printed
    → ((printed ≡ None) × (call.told ≡ None)) ⊎ ((line : Entry) × (printed ≡ Some line) × (call.told ≡ Some line.reply.said))
shown_as who call None is = inl (refl, is)
shown_as who call (Some line) is = inr (line, refl, is.0)

-- a printed line is that of the call's session or worker, of its command
pub whose_is : (who : Who) (call : Call) (printed : Option Entry) → IsPrinted who call printed → (line : Entry) → printed ≡ Some line → (line.reply.who ≡ who) × (line.command ≡ command_told who call.command)
whose_is who call printed is line e = let all : IsPrinted who call (Some line) = subst (IsPrinted who call) e is in (all.1, all.2)
