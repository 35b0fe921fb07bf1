-- A run's text is explained.
use Rattle.std.proofs.Common.{◌≡◌, ◌⊎◌, ℕ, zero, suc, ◌+◌, ◌*◌, ◌<◌, ◌≤◌, ◌^◌, nat_le, Bool, true, false, cond, ◌&&◌, ℤ, List, [], ◌∷◌, ◌++◌, length, map, Option, None, Some, refl, sym, ap, ◌∙◌, subst, arith, length-append}
use mathlib.Core.Logic.{inl, inr}
use Rattle.std.specs.Prelude.{IfSome, Result, option_and_then}
use Rattle.std.specs.List.{cons_option, enumerate_from, flat_map, list_all, range_with_len}
use Rattle.std.proofs.lemmas.Bool.Decides.{nat_tests}
use Rattle.std.proofs.lemmas.List.{length-map}
use Rattle.std.proofs.lemmas.Option.{same_Some}
use Rattle.std.proofs.lemmas.List.FromFn.{length-range_with_len}
use Rattle.block_spec.specs.Bodies.{seal_fault}
use Rattle.block_spec.specs.declared.phase.Phase.{Phase}
use Rattle.block_spec.specs.declared.phase.Phase.TheVariants.{Loose, Sealed, Imaged}
use Rattle.block_spec.specs.declared.phase.SealFault.{SealFault}
use Rattle.core_laws.specs.Events.Laws.{IsStep, command_in}
use Rattle.event_spec.specs.Lawful.{Among, IsLawful, reads_handed}
use Rattle.event_spec.specs.declared.event.Event.TheVariants as event
use Rattle.event_spec.specs.declared.own.OwnTransaction.{OwnTransaction}
use Rattle.event_spec.specs.declared.reply.Reply.TheVariants as reply
use Rattle.event_spec.specs.Effects.{CoreEvent, change_judged, insert_judged, is_some_write, stale_in}
use Rattle.event_spec.specs.Parts.{Parts, Shape, below, blocks_of, body_at, desk_at, is_head}
use Rattle.event_spec.specs.Replay.{IsLawfulFrom, after, opening}
use Rattle.event_spec.specs.Replies.{reply_to, reply_to_commit, reply_to_image, reply_to_seal, reply_to_write}
use Rattle.isolation_spec.specs.Contents.{key_of}
use Rattle.isolation_spec.specs.Machine.{IsolationMachine}
use Rattle.isolation_spec.specs.Machine as machine
use Rattle.isolation_spec.specs.declared.read.Read.{Read}
use Rattle.outcome_spec.specs.Entries.{Entry}
use Rattle.outcome_spec.specs.Explained.{Explained}
use Rattle.outcome_spec.specs.Forms.{Due, dues_of, is_seal_or_gather, is_silent, is_upkeep, is_worker}
use Rattle.timeline_laws.proofs.Scripts.{run-explained}
use Rattle.timeline_laws.proofs.Tests.{and-false}
use Rattle.timeline_spec.specs.Forms.{AllMayStand, MayAnswer, MayStand}
use Rattle.workload_spec.specs.declared.command.Command.{Command}
use Rattle.workload_spec.specs.declared.command.Command.TheVariants as command
use Rattle.workload_spec.specs.declared.reply.Said.{Said}
use Rattle.workload_spec.specs.declared.reply.Said.TheVariants as said
use Rattle.workload_spec.specs.declared.reply.Who.{Who}
use Rattle.workload_spec.specs.declared.script.Script.{Script}
use Rattle.workload_spec.specs.Valid.{have_own_names, is_table, is_within, most_sessions, most_tables, most_turns, most_workers, has_version}
use Rattle.run_spec.specs.Asked.{at_all_blocks, at_blocks}
use Rattle.run_spec.specs.Calls.{Call, line_to}
use Rattle.run_spec.specs.Occurrences.{Logged, Occurrence, occurrence_of, occurrences_from}
use Rattle.run_spec.specs.Ran.{IsRunnable, Ran, RoundRun, Share, shape_of, told_in}
use Rattle.run_spec.specs.Told.{cause_told, in_key_order, rows_told, stale_of, told_by}
use Rattle.run_laws.proofs.Moments.Seats.{either, session_at}
use Rattle.run_laws.proofs.Moments.Reads.{Reads, ReadsAt, ReadsAreKeys, runs_read}
use Rattle.run_laws.proofs.Calls.Along.{and_first, and_second, named}
use Rattle.run_laws.proofs.Calls.Dues.{calls_answer}
use Rattle.run_laws.proofs.Calls.Named.{run_lawful, run_named}
use Rattle.run_spec.specs.Traces.{as_log}
use Rattle.run_laws.specs.Calls.Along.{are_named}
use Rattle.run_laws.specs.Calls.Asking.{is_of}
use Rattle.run_laws.specs.Calls.Dues.{dues_answered}
use Rattle.run_laws.specs.Calls.Moments.{Lined, Moment, events_at}
use Rattle.run_laws.proofs.Told.Tells.{last_hands, not_silent, refusals_are_plain}
use Rattle.run_laws.specs.Told.Laws.{TellsAt, TellsMove, TellsQuietly, is_plain}
use Rattle.run_laws.specs.Moments.Laws.{AreMoments, EachCall, EachEnds, EachOf, EachShare, Ends, GoesOn, IsAsked, Stands, with_event}
use Rattle.run_laws.specs.Moments.Moments.{due_of, moments_of, replies_at, who_at, with_reply}
use Rattle.run_laws.proofs.Moments.Rounds.{each_call, runs_have_moments}
use Rattle.run_laws.specs.Explained.Timelines.{PruningsFit, RunsAreExplained}
use Rattle.run_laws.proofs.Explained.Answering.{event_stands}
use Rattle.run_laws.proofs.Explained.Holding.{Holds, holds_first}
use Rattle.run_laws.proofs.Explained.Ranging.{range_few}
use Rattle.run_laws.proofs.Explained.Scripts.{few_tables, head, worker_upkeep}
use Rattle.run_laws.proofs.Explained.Shown.{write_line}
use Rattle.run_laws.proofs.Explained.Standing.{may_stand}
use Rattle.run_laws.proofs.Explained.Walk.{after_held, alone_ended, alone_held, ended, first_is, moved, no_event, onward, rest_is, runs_give_timelines, tells_at, told_something}

-- What is true is not false.
true_false : true ≡ false → ⊥
true_false e = cc

-- ---- silence

-- a worker's seal or gathering alone is silent, and what is told is not
pub record Loud (worker : Bool) (asked : Command) (told : Option Said) : Type 0 where
  pub silent : told ≡ None → (worker && is_seal_or_gather asked) ≡ true
  pub loud : (line : Said) → told ≡ Some line → (worker && is_silent line) ≡ false

-- A call that tells a line which is never silent is not silent.
loud_line : (worker : Bool) (asked : Command) (told : Option Said) (here : Said) → told ≡ Some here → is_silent here ≡ false → Loud worker asked told
loud_line worker asked told here is e = record {
  silent = λ none. absurd (told_something told here is none);
  loud = λ line tells. ap (λ b. worker && b) (ap is_silent (sym (same_Some here line (sym is ∙ tells))) ∙ e) ∙ and-false worker;
}

-- A plain line is not silent.
plain_loud : (line : Said) → is_plain line ≡ true → is_silent line ≡ false
plain_loud (said.NotSealed cause) e = absurd (true_false (sym e))
plain_loud said.NotFrozen e = absurd (true_false (sym e))
plain_loud _ e = refl

-- a plain line is loud, and so is one of a move of nothing
pub plain_or_moved : (worker : Bool) (asked : Command) (told : Option Said) (line : Said) → told ≡ Some line → (is_plain line ≡ true) ⊎ (line ≡ said.Moved 0) → Loud worker asked told
plain_or_moved worker asked told line is (inl plain) = loud_line worker asked told line is (plain_loud line plain)
plain_or_moved worker asked told line is (inr moved) = loud_line worker asked told line is (ap is_silent moved)

-- A call that is told quietly is not silent.
quiet_loud : (worker : Bool) (asked : Command) (made : List Occurrence) (told : Option Said) → TellsQuietly asked made told → Loud worker asked told
quiet_loud worker asked made told (line, is, inl plain) = loud_line worker asked told line is (plain_loud line plain)
quiet_loud worker asked made told (line, is, inr (inl moved)) = loud_line worker asked told line is (ap is_silent moved)
quiet_loud worker asked made told (line, is, inr (inr pruned)) = loud_line worker asked told line is (ap is_silent pruned.1)

-- a seal's or a gathering's line, whatever it says
may_hush : (worker : Bool) (asked : Command) (told : Option Said) (here : Said) → is_seal_or_gather asked ≡ true → told ≡ line_to worker (Some here) → Loud worker asked told
may_hush false asked told here seal is = record {
  silent = λ none. absurd (told_something told here is none);
  loud = λ line tells. refl;
}
may_hush true asked told here seal is = record {
  silent = λ none. seal;
  loud = λ line tells. go (is_silent here) refl line tells (sym is ∙ tells);
}
  where
    go : (b : Bool) → is_silent here ≡ b → (line : Said) → told ≡ Some line → cond (is_silent here) None (Some here) ≡ Some line → is_silent line ≡ false
    go true e line tells f = absurd (let never : None ≡ Some line = ap (λ b. cond b None (Some here)) (sym e) ∙ f in let none : ⊥ = cc in none)
    go false e line tells f = ap is_silent (sym (same_Some here line (ap (λ b. cond b None (Some here)) (sym e) ∙ f))) ∙ e

module _ (shape : Shape) (parts : Parts) (worker : Bool) (made : List Occurrence) (asked : Command) (told : Option Said) where
  -- A call that tells the lack of memory is not silent.
  memory_loud : told ≡ line_to worker (Some said.Memory) → Loud worker asked told
  memory_loud is = loud_line worker asked told said.Memory (is ∙ not_silent worker said.Memory refl) refl

  -- A write is not silent, whether it is granted or not.
  write_loud : (table : ℕ) (refused : Bool) (r : Result ℕ Rattle.event_spec.specs.declared.reply.WriteFault.WriteFault) → told ≡ line_to worker (told_by table 0 (cond refused reply.Memory (reply_to_write r))) → Loud worker asked told
  write_loud table true r is = memory_loud is
  write_loud table false r is = let w = write_line table r in loud_line worker asked told w.0 (is ∙ ap (line_to worker) w.1 ∙ not_silent worker w.0 w.2) w.2

  -- A seal is silent only where a worker's may be.
  seal_hush : (table block : ℕ) (refused : Bool) (o : Option SealFault) (last : ℕ) → is_seal_or_gather asked ≡ true → told ≡ line_to worker (told_by table block (cond refused reply.Memory (reply_to_seal o last))) → Loud worker asked told
  seal_hush table block true o last seal is = may_hush worker asked told said.Memory seal is
  seal_hush table block false None last seal is = may_hush worker asked told (said.Sealed table block (last + 1)) seal is
  seal_hush table block false (Some fault) last seal is = may_hush worker asked told (said.NotSealed (cause_told fault)) seal is

  -- A gathering is silent only where a worker's may be.
  image_hush : (table block : ℕ) (refused : Bool) (phase : Phase) (body : Rattle.block_spec.specs.Bodies.Body) → is_seal_or_gather asked ≡ true → told ≡ line_to worker (told_by table block (cond refused reply.Memory (reply_to_image phase body))) → Loud worker asked told
  image_hush table block true phase body seal is = may_hush worker asked told said.Memory seal is
  image_hush table block false Loose body seal is = may_hush worker asked told said.NotFrozen seal is
  image_hush table block false (Imaged g) body seal is = may_hush worker asked told said.NotFrozen seal is
  image_hush table block false (Sealed g) body seal is = may_hush worker asked told (said.Frozen table block (length (Rattle.block_spec.specs.Bodies.rows_of body))) seal is

  -- A commit is not silent, refused or not.
  commit_loud : (own : OwnTransaction) (stale : Option (Read × ℕ)) → told ≡ line_to worker (told_by 0 0 (reply_to_commit shape parts own stale)) → Loud worker asked told
  commit_loud own (Some stale) is = loud_line worker asked told (said.Stale (stale_of stale.0) stale.1) (is ∙ not_silent worker (said.Stale (stale_of stale.0) stale.1) refl) refl
  commit_loud own None is =
      let n : Option ℕ = cond (is_some_write own.writes) (Some ((desk_at shape parts).commits + 1)) None in
      loud_line worker asked told (said.Committed n) (is ∙ not_silent worker (said.Committed n) refl) refl

  -- so is what an event tells
  pub event_loud : (e : CoreEvent) (refused : Bool) → TellsAt worker made e (cond refused reply.Memory (reply_to shape parts e)) asked told → Loud worker asked told
  event_loud (event.Begin session) true h = memory_loud h.1
  event_loud (event.Begin session) false h = loud_line worker asked told (said.At (desk_at shape parts).commits) (h.1 ∙ not_silent worker (said.At (desk_at shape parts).commits) refl) refl
  event_loud (event.Get own table key) refused h = quiet_loud worker asked made told h
  event_loud (event.Insert own table row) refused h = write_loud table refused (insert_judged shape parts own table (key_of row)) h.1
  event_loud (event.Update own table row) refused h = write_loud table refused (change_judged shape parts own table (key_of row)) h.1
  event_loud (event.Delete own table key) refused h = write_loud table refused (change_judged shape parts own table key) h.1
  event_loud (event.Read own table block) refused h = quiet_loud worker asked made told h
  event_loud (event.Range own table low high) refused h = quiet_loud worker asked made told h
  event_loud (event.Commit own reads) true h = memory_loud h.1
  event_loud (event.Commit own reads) false h = commit_loud own (stale_in shape parts own reads) h.1
  event_loud (event.Abort own) true h = memory_loud h.1
  event_loud (event.Abort own) false h = loud_line worker asked told said.Aborted (h.1 ∙ not_silent worker said.Aborted refl) refl
  event_loud event.Oldest refused h = quiet_loud worker asked made told h
  event_loud (event.Observe table block) refused h = quiet_loud worker asked made told h
  event_loud (event.Prune table block oldest) refused h = quiet_loud worker asked made told h
  event_loud (event.Look table block) refused h = quiet_loud worker asked made told h
  event_loud (event.Move table moves) refused h = go h.2
    where
      go : TellsMove (cond refused reply.Memory (reply_to shape parts (event.Move table moves))) told → Loud worker asked told
      go (inl m) = loud_line worker asked told said.Memory m.1 refl
      go (inr e) = loud_line worker asked told (said.Moved (Rattle.run_spec.specs.Told.moved_told (cond refused reply.Memory (reply_to shape parts (event.Move table moves))))) e refl
  event_loud (event.Seal table block) refused h = seal_hush table block refused (seal_fault (is_head shape parts table block) (body_at shape parts table block)) (body_at shape parts table block).last (ap is_seal_or_gather h.0) h.1
  event_loud (event.Image table block image) refused h = image_hush table block refused (body_at shape parts table block).phase (body_at shape parts table block) (ap is_seal_or_gather h.0) h.1
  event_loud (event.Thaw table block) refused h = quiet_loud worker asked made told h

-- ---- what answers a due

-- In whatever round, what the call told answers its due.
abbrev Answered : Who → Call → Type 0
Answered who call = (number : ℕ) → MayAnswer (due_of number who call) call.told

-- where its pruning's count fits
abbrev AnswersIf : Who → Call → Type 0
AnswersIf who call = ((count : ℕ) → call.told ≡ Some (said.Pruned count) → count < 2 ^ 64) → Answered who call

-- A call that is silent only where it may be, and whose line may stand, answers its due.
answered : (who : Who) (call : Call) → Loud (is_worker who) call.command call.told → ((line : Said) → call.told ≡ Some line → MayStand call.command line) → Answered who call
answered who call loud may number = go call.told refl
  where
    go : (told : Option Said) → call.told ≡ told → MayAnswer (due_of number who call) told
    go None e = loud.silent e
    go (Some line) e = (may line e, loud.loud line e)

-- ---- few blocks

module _ (script : Script) (valid : IsRunnable script) where
  -- The sessions and workers of a valid script are fewer than 32 bits can count.
  few_seats : script.sessions + script.workers < 2 ^ 32
  few_seats =
      let h = head script valid.valid in
      let a = and_first (has_version script && is_within 1 most_tables (length script.tables) && list_all is_table script.tables && have_own_names script.tables && is_within 1 most_sessions script.sessions && nat_le script.workers most_workers) (nat_le script.turns most_turns) h in
      let workers = and_second (has_version script && is_within 1 most_tables (length script.tables) && list_all is_table script.tables && have_own_names script.tables && is_within 1 most_sessions script.sessions) (nat_le script.workers most_workers) a in
      let b = and_first (has_version script && is_within 1 most_tables (length script.tables) && list_all is_table script.tables && have_own_names script.tables && is_within 1 most_sessions script.sessions) (nat_le script.workers most_workers) a in
      let sessions = and_second (nat_le 1 script.sessions) (nat_le script.sessions 64) (and_second (has_version script && is_within 1 most_tables (length script.tables) && list_all is_table script.tables && have_own_names script.tables) (is_within 1 most_sessions script.sessions) b) in
      let w : script.workers ≤ 16 = grind (arith, nat_tests, workers) in
      let s : script.sessions ≤ 64 = grind (arith, nat_tests, sessions) in
      omega (arith, w, s)

  -- A table of a valid script has at most 1024 blocks.
  few_blocks : (t : ℕ) → blocks_of (shape_of script) t ≤ 1024
  few_blocks t = Rattle.run_laws.proofs.Explained.Scripts.blocks_few script valid.valid t

  -- All blocks of a valid script are fewer than 32 bits can count.
  all_few : length (at_all_blocks (shape_of script) event.Observe) < 2 ^ 32
  all_few =
      let most = go 0 (length script.tables) in
      let tables = few_tables script valid.valid in
      omega (arith, most, tables)
    where
      go : (a n : ℕ) → length (flat_map (λ table. at_blocks (shape_of script) table (event.Observe table)) (range_with_len a n)) ≤ 1024 * n
      go a zero = omega arith
      go a (suc n) =
          let rest = go (a + 1) n in
          let here = length-map {B = CoreEvent} (below (blocks_of (shape_of script) a)) (event.Observe a) in
          let long = Rattle.std.proofs.lemmas.List.FromFn.length-range_with_len 0 (blocks_of (shape_of script) a) in
          let few = few_blocks a in
          let all = length-append (at_blocks (shape_of script) a (event.Observe a)) (flat_map (λ table. at_blocks (shape_of script) table (event.Observe table)) (range_with_len (a + 1) n)) in
          omega (arith, rest, here, long, few, all)

-- ---- all moments

module _ (script : Script) (valid : IsRunnable script) where
  -- The blocks of a table are fewer than 32 bits can count.
  few32 : (t : ℕ) → blocks_of (shape_of script) t < 2 ^ 32
  few32 t = let few = few_blocks script valid t in omega (arith, few)

  -- A call that ends without an event answers its due, where its pruning's count fits.
  ends_alone : (parts : Parts) (front : List Occurrence) (at : IsolationMachine) (lines : List Entry) (seat : ℕ) (low : 1 ≤ seat) (line : Lined)
      → Holds script parts front at lines → Ends script front seat None line → AnswersIf (who_at script seat) line.call
  ends_alone parts front at lines seat low line held ends = λ fits. answered (who_at script seat) line.call
      (plain_or_moved (is_worker (who_at script seat)) line.call.command line.call.told plain.0 plain.1 plain.2)
      (λ said' tells. may_stand script valid seat parts front at at line.call (alone_ended script valid parts front at lines seat low line held ends)
      fits (all_few script valid) few32 said' tells (inl none))
    where
      none : line.call.made ≡ []
      none = ends.made ∙ ap (λ xs. xs ++ []) (ends.none refl)

      plain : (said' : Said) × (line.call.told ≡ Some said') × ((is_plain said' ≡ true) ⊎ (said' ≡ said.Moved 0))
      plain = refusals_are_plain (shape_of script) (is_worker (who_at script seat)) seat ends.began line.call ends.is_call none

  -- A commit hands in keys of 64 bits.
  handed_keys : (lines : List Entry) (seat : ℕ) (call : Call) (e : CoreEvent) → IsAsked script seat call.command → (is_worker (who_at script seat) ≡ false → Reads script lines seat call)
      → (reads_handed e ≡ None) ⊎ (reads_handed e ≡ call.reads) → call.command ≡ command.Commit → ReadsAreKeys (reads_handed e)
  handed_keys lines seat call e asked read (inl none) commits = subst ReadsAreKeys (sym none) tt
  handed_keys lines seat call e asked read (inr same) commits = subst ReadsAreKeys (sym same) (go (either script seat))
    where
      go : (seat ≤ script.sessions) ⊎ (script.sessions < seat) → ReadsAreKeys call.reads
      go (inl low) = (read (ap is_worker (session_at script seat low))).keys
      go (inr high) = absurd (true_false (sym (worker_upkeep script seat call.command high asked) ∙ ap is_upkeep commits))

  -- What a range tells has few rows.
  range_told_few : (parts : Parts) (front : List Occurrence) (at next : IsolationMachine) (lines : List Entry) → Holds script parts front at lines
      → (own : OwnTransaction) (table : ℕ) (low high : ℤ) (made : CoreEvent) (refused : Bool) → made ≡ event.Range own table low high → IsLawful (shape_of script) made parts
      → IsStep (command_in made) (reads_handed made) at (cond refused reply.Memory (reply_to (shape_of script) parts made)) next
      → length (in_key_order table (rows_told (cond refused reply.Memory (reply_to (shape_of script) parts made)))) < 2 ^ 64
  range_told_few parts front at next lines held own table low high made refused is lawful step = subst
      (λ made. length (in_key_order table (rows_told (cond refused reply.Memory (reply_to (shape_of script) parts made)))) < 2 ^ 64)
      (sym is)
      (range_few (shape_of script) parts own table low high at next valid.shape held.ok (subst (λ made. IsLawful (shape_of script) made parts) is lawful) held.follows (few32 table) refused
      (subst (λ made. IsStep (command_in made) (reads_handed made) at (cond refused reply.Memory (reply_to (shape_of script) parts made)) next) is step))

  -- Behind whatever holds in front, each call that ends at these moments answers its due.
  abbrev On : List Moment → Type 0
  On ms = (log : List Logged) (parts : Parts) (front : List Occurrence) (at : IsolationMachine) (lines : List Entry)
      → Holds script parts front at lines → IsLawfulFrom (shape_of script) parts (map (λ entry. entry.made) log) → are_named log ≡ true
      → AreMoments script front ms → ReadsAt script lines ms → events_at ms ≡ occurrences_from (shape_of script) parts log
      → EachEnds script AnswersIf ms

  -- With one moment in front of others, each call that ends still answers its due.
  one : (seat : ℕ) → 1 ≤ seat → seat ≤ script.sessions + script.workers → (event : Option Occurrence) (line : Option Lined) (ms : List Moment) → On ms
      → (log : List Logged) (parts : Parts) (front : List Occurrence) (at : IsolationMachine) (lines : List Entry)
      → Holds script parts front at lines → IsLawfulFrom (shape_of script) parts (map (λ entry. entry.made) log) → are_named log ≡ true
      → IfSome event (λ o. o.session ≡ seat) → Stands script front seat event line → AreMoments script (with_event front event) ms
      → IfSome line (λ line. is_worker (who_at script seat) ≡ false → Reads script lines seat line.call)
      → ReadsAt script (with_reply lines (option_and_then (λ (line : Lined). line.printed) line)) ms
      → cons_option event (events_at ms) ≡ occurrences_from (shape_of script) parts log
      → IfSome line (λ line. AnswersIf (who_at script seat) line.call) × EachEnds script AnswersIf ms
  one seat low high None None ms on log parts front at lines held lawful are its stands rest read reads events = absurd stands
  one seat low high None (Some line) ms on log parts front at lines held lawful are its stands rest read reads events = (
    ends_alone parts front at lines seat low line held stands,
    on log parts front at (with_reply lines line.printed) (alone_held script valid parts front at lines seat low line held stands) lawful are rest reads events,
  )
  one seat low high (Some o) line ms on [] parts front at lines held lawful are its stands rest read reads events = absurd (no_event script valid o (events_at ms) events)
  one seat low high (Some o) None ms on (entry ∷ log) parts front at lines held lawful are its stands rest read reads events =
      let same : o ≡ occurrence_of (shape_of script) parts entry = first_is script valid o (occurrence_of (shape_of script) parts entry) (events_at ms) (occurrences_from (shape_of script) (after (shape_of script) parts entry.made) log) events in
      let seat_is : entry.session ≡ seat = ap (λ (o : Occurrence). o.session) (sym same) ∙ its in
      let goes = subst (GoesOn script front seat) same stands in
      let here = named entry.session entry.made.event (and_first (is_of entry.session entry.made.event) (are_named log) are) in (
        tt,
        on log (after (shape_of script) parts entry.made) (front ++ occurrence_of (shape_of script) parts entry ∷ []) at lines
            (onward script valid parts front at lines seat low high entry seat_is held lawful.0 lawful.1 here goes)
            lawful.2 (and_second (is_of entry.session entry.made.event) (are_named log) are)
            (subst (λ o. AreMoments script (front ++ o ∷ []) ms) same rest) reads
            (rest_is script valid o (occurrence_of (shape_of script) parts entry) (events_at ms) (occurrences_from (shape_of script) (after (shape_of script) parts entry.made) log) events),
      )
  one seat low high (Some o) (Some line) ms on (entry ∷ log) parts front at lines held lawful are its stands rest read reads events =
      let same : o ≡ occurrence_of (shape_of script) parts entry = first_is script valid o (occurrence_of (shape_of script) parts entry) (events_at ms) (occurrences_from (shape_of script) (after (shape_of script) parts entry.made) log) events in
      let seat_is : entry.session ≡ seat = ap (λ (o : Occurrence). o.session) (sym same) ∙ its in
      let ends = subst (λ o. Ends script front seat (Some o) line) same stands in
      let here = named entry.session entry.made.event (and_first (is_of entry.session entry.made.event) (are_named log) are) in
      let next = moved script valid parts front at lines seat low high entry seat_is held lawful.0 lawful.1 here in
      let tells = tells_at script valid parts front at lines seat low high entry seat_is held lawful.0 lawful.1 here line ends in
      let is_ended = ended script valid parts front at lines seat low high entry seat_is held lawful.0 lawful.1 here line ends in (
        λ fits. answered (who_at script seat) line.call
            (event_loud (shape_of script) parts (is_worker (who_at script seat)) line.call.made line.call.command line.call.told entry.made.event entry.made.refused tells)
            (λ said' says. may_stand script valid seat (after (shape_of script) parts entry.made) (front ++ occurrence_of (shape_of script) parts entry ∷ []) at next.0 line.call is_ended
            fits (all_few script valid) few32 said' says
            (inr (record {
              done = ends.done;
              made = occurrence_of (shape_of script) parts entry;
              all = ends.made;
              may = λ loud. event_stands script (few_seats script valid) parts front at next.0 lines held (is_worker (who_at script seat)) valid.shape few32 entry.made.event entry.made.refused
                  line.call.made line.call.command line.call.told lawful.0 lawful.1 next.1 tells loud
                  (handed_keys lines seat line.call entry.made.event ends.asked read
                  (last_hands (shape_of script) (is_worker (who_at script seat)) seat ends.began line.call ends.done (occurrence_of (shape_of script) parts entry) ends.is_call ends.made))
                  said' says;
              few = λ own table low high is. range_told_few parts front at next.0 lines held own table low high entry.made.event entry.made.refused is lawful.0 next.1;
            }))),
        on log (after (shape_of script) parts entry.made) (front ++ occurrence_of (shape_of script) parts entry ∷ []) next.0 (with_reply lines line.printed)
            (after_held script valid parts front at lines seat low high entry seat_is held lawful.0 lawful.1 here line ends)
            lawful.2 (and_second (is_of entry.session entry.made.event) (are_named log) are)
            (subst (λ o. AreMoments script (front ++ o ∷ []) ms) same rest) reads
            (rest_is script valid o (occurrence_of (shape_of script) parts entry) (events_at ms) (occurrences_from (shape_of script) (after (shape_of script) parts entry.made) log) events),
      )

  -- At all moments of a run each call that ends answers its due.
  all_answer : (ms : List Moment) → On ms
  all_answer [] log parts front at lines held lawful are moments reads events = tt
  all_answer (m ∷ ms) log parts front at lines held lawful are moments reads events =
      one m.session moments.0.low moments.0.high m.event m.line ms (all_answer ms) log parts front at lines held lawful are moments.0.event_is moments.0.stands moments.1 reads.0 reads.1 events

-- ---- all dues

-- Two lists of dues that are each answered are answered together.
stand_append : (ds es : List Due) (ts us : List (Option Said)) → AllMayStand ds ts → AllMayStand es us → AllMayStand (ds ++ es) (ts ++ us)
stand_append [] es [] us a b = b
stand_append [] es (t ∷ ts) us a b = absurd a
stand_append (d ∷ ds) es [] us a b = absurd a
stand_append (d ∷ ds) es (t ∷ ts) us a b = (a.0, stand_append ds es ts us a.1 b)

-- A line among the first of two lists is among both together.
among_left : (line : Option Said) (xs ys : List (Option Said)) → Among line xs → Among line (xs ++ ys)
among_left line [] ys a = absurd a
among_left line (x ∷ xs) ys (inl e) = inl e
among_left line (x ∷ xs) ys (inr a) = inr (among_left line xs ys a)

-- A line among the second of two lists is among both together.
among_right : (line : Option Said) (xs ys : List (Option Said)) → Among line ys → Among line (xs ++ ys)
among_right line [] ys a = a
among_right line (x ∷ xs) ys a = inr (among_right line xs ys a)

-- The calls of one answer their dues, where the counts of prunings fit.
calls_stand : (number : ℕ) (who : Who) (calls : List Call) → EachOf AnswersIf who calls → PruningsFit (map (λ (call : Call). call.told) calls)
    → AllMayStand (map (due_of number who) calls) (map (λ (call : Call). call.told) calls)
calls_stand number who [] each fit = tt
calls_stand number who (call ∷ calls) each fit =
    (each.0 (λ count is. fit count (inl (sym is))) number, calls_stand number who calls each.1 (λ count a. fit count (inr a)))

-- The calls of a round answer their dues, where the counts of prunings fit.
shares_stand : (number : ℕ) (shares : List Share) → EachShare AnswersIf shares → PruningsFit (flat_map (λ (share : Share). map (λ (call : Call). call.told) share.calls) shares)
    → AllMayStand (flat_map (λ (share : Share). map (due_of number share.who) share.calls) shares) (flat_map (λ (share : Share). map (λ (call : Call). call.told) share.calls) shares)
shares_stand number [] each fit = tt
shares_stand number (share ∷ shares) each fit =
    stand_append (map (due_of number share.who) share.calls) (flat_map (λ (share : Share). map (due_of number share.who) share.calls) shares)
    (map (λ (call : Call). call.told) share.calls) (flat_map (λ (share : Share). map (λ (call : Call). call.told) share.calls) shares)
    (calls_stand number share.who share.calls each.0
    (λ count a. fit count (among_left (Some (said.Pruned count)) (map (λ (call : Call). call.told) share.calls) (flat_map (λ (share : Share). map (λ (call : Call). call.told) share.calls) shares) a)))
    (shares_stand number shares each.1
    (λ count a. fit count (among_right (Some (said.Pruned count)) (map (λ (call : Call). call.told) share.calls) (flat_map (λ (share : Share). map (λ (call : Call). call.told) share.calls) shares) a)))

-- The calls of all rounds answer their dues, where the counts of prunings fit.
rounds_stand : (number : ℕ) (rounds : List RoundRun) → EachCall AnswersIf rounds → PruningsFit (told_in rounds)
    → AllMayStand (flat_map (λ (entry : ℕ × RoundRun). dues_answered entry.0 entry.1) (enumerate_from number rounds)) (told_in rounds)
rounds_stand number [] each fit = tt
rounds_stand number (round ∷ rounds) each fit =
    stand_append (dues_answered number round) (flat_map (λ (entry : ℕ × RoundRun). dues_answered entry.0 entry.1) (enumerate_from (number + 1) rounds))
    (flat_map (λ (share : Share). map (λ (call : Call). call.told) share.calls) round.shares) (told_in rounds)
    (shares_stand number round.shares each.0
    (λ count a. fit count (among_left (Some (said.Pruned count)) (flat_map (λ (share : Share). map (λ (call : Call). call.told) share.calls) round.shares) (told_in rounds) a)))
    (rounds_stand (number + 1) rounds each.1
    (λ count a. fit count (among_right (Some (said.Pruned count)) (flat_map (λ (share : Share). map (λ (call : Call). call.told) share.calls) round.shares) (told_in rounds) a)))

-- What is told in a run may stand as what is due.
pub told_stands : (script : Script) (log : List Logged) (text : List ℕ) → IsRunnable script → (ran : Ran script log text) → PruningsFit (told_in ran.rounds)
    → AllMayStand (dues_of script) (told_in ran.rounds)
told_stands script log text valid ran fit =
    let moments = runs_have_moments script log text ran in
    let each = all_answer script valid (moments_of script ran.rounds) (as_log ran.trace) (opening (shape_of script)) [] (machine.opening_from script.begun) []
    (holds_first script valid.shape) (run_lawful script log text ran) (run_named script log text ran) moments.calls (runs_read script log text valid.valid ran) moments.events in
    subst (λ dues. AllMayStand dues (told_in ran.rounds)) (sym (calls_answer script ran.rounds ran.asked))
    (rounds_stand 1 ran.rounds (each_call script log text ran AnswersIf each) fit)

-- A run's text is explained, where the counts of its prunings have 64 bits.
pub runs_are_explained : RunsAreExplained
runs_are_explained script log text valid ran fit =
    subst (Explained script) (sym ran.printed)
    (run-explained script (told_in ran.rounds) (replies_at (moments_of script ran.rounds)) valid.valid valid.shape.commits (told_stands script log text valid ran fit)
    (runs_give_timelines script log text valid ran))
