-- What a call tells at its last event.
use Rattle.std.proofs.Common.{◌≡◌, ◌⊎◌, ℕ, ◌+◌, Bool, true, false, cond, not, ◌||◌, List, [], ◌∷◌, ◌++◌, Option, None, Some, refl, sym, ap, ◌∙◌, subst, arith, append_assoc}
use mathlib.Core.Logic.{inl, inr}
use Rattle.std.specs.Prelude.{is_none, option_and_then, option_map, option_to_list, sum_by}
use Rattle.std.specs.List.{flat_map, last_or, list_all}
use Rattle.std.proofs.lemmas.List.Sums.{sum_by-append, sum_by-cons}
use Rattle.block_spec.specs.Bodies.{is_imaged}
use Rattle.event_spec.specs.declared.event.Event.TheVariants as event
use Rattle.event_spec.specs.declared.event.MovePair.{MovePair}
use Rattle.event_spec.specs.declared.own.OwnTransaction.{OwnTransaction}
use Rattle.event_spec.specs.declared.reply.Reply.TheVariants as reply
use Rattle.event_spec.specs.Effects.{CoreEvent}
use Rattle.event_spec.specs.Lawful.{reads_handed}
use Rattle.event_spec.specs.Parts.{Parts, Shape, body_at}
use Rattle.event_spec.specs.Plans.{plan_of}
use Rattle.event_spec.specs.Replies.{CoreReply, reply_to}
use Rattle.isolation_spec.specs.Reads.{ReadSet}
use Rattle.isolation_spec.specs.Contents.{key_of}
use Rattle.outcome_spec.specs.Forms.{is_silent}
use Rattle.workload_spec.specs.declared.command.Command.{Command}
use Rattle.workload_spec.specs.declared.command.Command.TheVariants as command
use Rattle.workload_spec.specs.declared.reply.Said.{Said}
use Rattle.workload_spec.specs.declared.reply.Said.TheVariants as said
use Rattle.run_spec.specs.Asked.{events_of, looks_in}
use Rattle.run_spec.specs.Calls.{Call, IsCall, IsCallBy, IsPart, IsWhole, is_cut_short, is_final, is_memory, is_refused, line_to, may_lack_memory}
use Rattle.run_spec.specs.Occurrences.{Occurrence, events_in, replies_in}
use Rattle.run_spec.specs.Opened.{least_written, own_after}
use Rattle.run_spec.specs.Told.{dropped_told, last_told, line_of, moved_told, refusal_of, row_told, told_by}
use Rattle.run_laws.proofs.Calls.Along.{and_second}
use Rattle.run_laws.proofs.Calls.Upkeep.{rest_replied, front_replied}
use Rattle.run_laws.specs.Calls.Upkeep.{AreReplied, IsReplied}
use Rattle.run_laws.specs.Told.Laws.{CallsGoOnQuietly, LastEventsAreTold, RefusalsArePlain, TellsAt, TellsQuietly, is_plain, is_quiet}
use Rattle.run_laws.proofs.Told.Splits.{alone, are_quiet, heads, loud_of, move_of, none_behind, none_some, passes_at, placed, quiet_of, split_events, tails}

-- What is false is not true.
not_true : false ≡ true → ⊥
not_true e = cc

-- The events of more occurrences stand behind those of the first ones.
events_append : (xs ys : List Occurrence) → events_in (xs ++ ys) ≡ events_in xs ++ events_in ys
events_append [] ys = refl
events_append (x ∷ xs) ys = ap (λ es. x.event ∷ es) (events_append xs ys)

-- The replies of more occurrences stand behind those of the first ones.
replies_append : (xs ys : List Occurrence) → replies_in (xs ++ ys) ≡ replies_in xs ++ replies_in ys
replies_append [] ys = refl
replies_append (x ∷ xs) ys = ap (λ es. x.reply ∷ es) (replies_append xs ys)

-- the events of a call, with one of them
events_at : (call : Call) (done : List Occurrence) (made : Occurrence) (rest : List Occurrence) → call.made ≡ done ++ made ∷ rest
    → events_in call.made ≡ events_in done ++ made.event ∷ events_in rest
events_at call done made rest is = ap events_in is ∙ events_append done (made ∷ rest)

-- an event that another of its call follows is quiet
pub calls_go_on_quietly : CallsGoOnQuietly
calls_go_on_quietly shape worker session front call done made next rest is all = go (refusal_of call.command (own_after front)) is
  where
    own : Option OwnTransaction
    own = own_after front

    more : List CoreEvent
    more = next.event ∷ events_in rest

    at : (tail : List CoreEvent) → events_of shape (own_after front) call.reads session call.command call.made ≡ events_in done ++ made.event ∷ next.event ∷ tail → is_quiet made.event ≡ true
    at tail e = or (placed shape (own_after front) call.reads session call.command call.made (events_in done) made.event (next.event ∷ tail) e)
      where
        or : (is_quiet made.event ≡ true) ⊎ ((next.event ∷ tail ≡ []) × (loud_of shape (own_after front) call.reads session call.command call.made ≡ Some made.event)) → is_quiet made.event ≡ true
        or (inl q) = q
        or (inr l) = absurd (none_some next.event tail (sym l.0))

    go : (refusal : Option Said) → IsCallBy shape worker session (own_after front) refusal call → is_quiet made.event ≡ true
    go (Some refusal) h = absurd (none_behind done made (next ∷ rest) (sym h.0 ∙ all))
    go None (inl w) = at (events_in rest) (sym w.events ∙ events_at call done made (next ∷ rest) all)
    go None (inr p) = at (events_in rest ++ p.missed)
        (p.events ∙ ap (λ es. es ++ p.missed) (events_at call done made (next ∷ rest) all)
        ∙ append_assoc (events_in done) (made.event ∷ next.event ∷ events_in rest) p.missed)

-- ---- what is handed in

-- a quiet event hands in nothing
quiet_hands : (e : CoreEvent) → is_quiet e ≡ true → reads_handed e ≡ None
quiet_hands (event.Commit own reads) q = absurd (not_true q)
quiet_hands _ q = refl

-- an event behind the quiet ones hands in what its call has, or nothing
loud_hands : (shape : Shape) (own : Option OwnTransaction) (handed : Option ReadSet) (session : ℕ) (asked : Command) (made : List Occurrence)
    → (option_and_then reads_handed (loud_of shape own handed session asked made) ≡ None) ⊎ (option_and_then reads_handed (loud_of shape own handed session asked made) ≡ handed)
loud_hands shape own handed session (command.Begin checked) made = inl refl
loud_hands shape own handed session (command.Get table key) made = inl refl
loud_hands shape own handed session (command.Scan table) made = inl refl
loud_hands shape own handed session (command.Range table low high) made = inl refl
loud_hands shape own handed session (command.Total table column low high) made = inl refl
loud_hands shape None handed session (command.Insert table row) made = inl refl
loud_hands shape (Some t) handed session (command.Insert table row) made = inl refl
loud_hands shape None handed session (command.Update table row) made = inl refl
loud_hands shape (Some t) handed session (command.Update table row) made = inl refl
loud_hands shape None handed session (command.Delete table key) made = inl refl
loud_hands shape (Some t) handed session (command.Delete table key) made = inl refl
loud_hands shape None handed session command.Commit made = inl refl
loud_hands shape (Some t) handed session command.Commit made = inr refl
loud_hands shape None handed session command.Abort made = inl refl
loud_hands shape (Some t) handed session command.Abort made = inl refl
loud_hands shape own handed session command.Observe made = inl refl
loud_hands shape own handed session command.Prune made = inl refl
loud_hands shape own handed session (command.Compact table) made = go (plan_of (looks_in made))
  where
    go : (pairs : List MovePair) → (option_and_then reads_handed (move_of table pairs) ≡ None) ⊎ (option_and_then reads_handed (move_of table pairs) ≡ handed)
    go [] = inl refl
    go (pair ∷ pairs) = inl refl
loud_hands shape own handed session (command.Seal table block) made = inl refl
loud_hands shape own handed session (command.Gather table block) made = inl refl
loud_hands shape own handed session (command.Export table) made = inl refl

-- a call's last event hands in what its session had read, or nothing
pub last_hands : (shape : Shape) (worker : Bool) (session : ℕ) (front : List Occurrence) (call : Call) (done : List Occurrence) (made : Occurrence)
    → IsCall shape worker session front call → call.made ≡ done ++ made ∷ [] → (reads_handed made.event ≡ None) ⊎ (reads_handed made.event ≡ call.reads)
last_hands shape worker session front call done made is all = go (refusal_of call.command (own_after front)) is
  where
    at : (tail : List CoreEvent) → events_of shape (own_after front) call.reads session call.command call.made ≡ events_in done ++ made.event ∷ tail
        → (reads_handed made.event ≡ None) ⊎ (reads_handed made.event ≡ call.reads)
    at tail e = or (placed shape (own_after front) call.reads session call.command call.made (events_in done) made.event tail e)
      where
        loud : loud_of shape (own_after front) call.reads session call.command call.made ≡ Some made.event
            → (option_and_then reads_handed (loud_of shape (own_after front) call.reads session call.command call.made) ≡ None)
            ⊎ (option_and_then reads_handed (loud_of shape (own_after front) call.reads session call.command call.made) ≡ call.reads)
            → (reads_handed made.event ≡ None) ⊎ (reads_handed made.event ≡ call.reads)
        loud l (inl none) = inl (sym (ap (option_and_then reads_handed) l) ∙ none)
        loud l (inr same) = inr (sym (ap (option_and_then reads_handed) l) ∙ same)

        or : (is_quiet made.event ≡ true) ⊎ ((tail ≡ []) × (loud_of shape (own_after front) call.reads session call.command call.made ≡ Some made.event))
            → (reads_handed made.event ≡ None) ⊎ (reads_handed made.event ≡ call.reads)
        or (inl q) = inl (quiet_hands made.event q)
        or (inr l) = loud l.1 (loud_hands shape (own_after front) call.reads session call.command call.made)

    go : (refusal : Option Said) → IsCallBy shape worker session (own_after front) refusal call → (reads_handed made.event ≡ None) ⊎ (reads_handed made.event ≡ call.reads)
    go (Some refusal) h = absurd (none_behind done made [] (sym h.0 ∙ all))
    go None (inl w) = at [] (sym w.events ∙ events_at call done made [] all)
    go None (inr p) = at p.missed (p.events ∙ ap (λ es. es ++ p.missed) (events_at call done made [] all) ∙ append_assoc (events_in done) (made.event ∷ []) p.missed)

-- ---- lines

-- a line that is no silence is told to a worker too
pub not_silent : (worker : Bool) (line : Said) → is_silent line ≡ false → line_to worker (Some line) ≡ Some line
not_silent false line e = refl
not_silent true line e = ap (λ b. cond b None (Some line)) e

-- At a quiet event a call tells what it tells quietly.
quiet_tells : (worker : Bool) (made : List Occurrence) (e : CoreEvent) (told : CoreReply) (asked : Command) (line : Option Said)
    → is_quiet e ≡ true → TellsQuietly asked made line → TellsAt worker made e told asked line
quiet_tells worker made (event.Begin session) told asked line q h = absurd (not_true q)
quiet_tells worker made (event.Get own table key) told asked line q h = h
quiet_tells worker made (event.Insert own table row) told asked line q h = absurd (not_true q)
quiet_tells worker made (event.Update own table row) told asked line q h = absurd (not_true q)
quiet_tells worker made (event.Delete own table key) told asked line q h = absurd (not_true q)
quiet_tells worker made (event.Read own table block) told asked line q h = h
quiet_tells worker made (event.Range own table low high) told asked line q h = h
quiet_tells worker made (event.Commit own reads) told asked line q h = absurd (not_true q)
quiet_tells worker made (event.Abort own) told asked line q h = absurd (not_true q)
quiet_tells worker made event.Oldest told asked line q h = h
quiet_tells worker made (event.Observe table block) told asked line q h = h
quiet_tells worker made (event.Prune table block oldest) told asked line q h = h
quiet_tells worker made (event.Look table block) told asked line q h = h
quiet_tells worker made (event.Move table moves) told asked line q h = absurd (not_true q)
quiet_tells worker made (event.Seal table block) told asked line q h = absurd (not_true q)
quiet_tells worker made (event.Image table block image) told asked line q h = absurd (not_true q)
quiet_tells worker made (event.Thaw table block) told asked line q h = h

-- a quiet event moves nothing
unmoved : (shape : Shape) (parts : Parts) (e : CoreEvent) (refused : Bool) → is_quiet e ≡ true
    → moved_told (cond refused reply.Memory (reply_to shape parts e)) ≡ 0
unmoved shape parts e true q = refl
unmoved shape parts (event.Begin session) false q = refl
unmoved shape parts (event.Get own table key) false q = refl
unmoved shape parts (event.Insert own table row) false q = absurd (not_true q)
unmoved shape parts (event.Update own table row) false q = absurd (not_true q)
unmoved shape parts (event.Delete own table key) false q = absurd (not_true q)
unmoved shape parts (event.Read own table block) false q = go (is_imaged (body_at shape parts table block).phase)
  where
    go : (b : Bool) → moved_told (cond b (reply.Shared (Rattle.block_spec.specs.Bodies.rows_of (body_at shape parts table block))) (reply.Rows (Rattle.event_spec.specs.Replies.rows_read shape parts own table block))) ≡ 0
    go true = refl
    go false = refl
unmoved shape parts (event.Range own table low high) false q = refl
unmoved shape parts (event.Commit own reads) false q = absurd (not_true q)
unmoved shape parts (event.Abort own) false q = refl
unmoved shape parts event.Oldest false q = refl
unmoved shape parts (event.Observe table block) false q = refl
unmoved shape parts (event.Prune table block oldest) false q = refl
unmoved shape parts (event.Look table block) false q = refl
unmoved shape parts (event.Move table moves) false q = absurd (not_true q)
unmoved shape parts (event.Seal table block) false q = absurd (not_true q)
unmoved shape parts (event.Image table block image) false q = absurd (not_true q)
unmoved shape parts (event.Thaw table block) false q = refl

-- quiet events tell of no row that moved
pub sum_unmoved : (shape : Shape) (made : List Occurrence) → AreReplied shape made → list_all is_quiet (events_in made) ≡ true
    → sum_by moved_told (replies_in made) ≡ 0
sum_unmoved shape [] replied q = refl
sum_unmoved shape (x ∷ xs) replied q =
    let here : moved_told x.reply ≡ 0 = ap moved_told replied.0.1 ∙ unmoved shape x.before x.event replied.0.0 (Rattle.run_laws.proofs.Calls.Along.and_first (is_quiet x.event) (list_all is_quiet (events_in xs)) q) in
    let rest = sum_unmoved shape xs replied.1 (and_second (is_quiet x.event) (list_all is_quiet (events_in xs)) q) in
    let both = sum_by-cons moved_told x.reply (replies_in xs) in
    omega (arith, here, rest, both)

-- what a get tells
get_plain : (worker : Bool) (shape : Shape) (parts : Parts) (own : Rattle.event_spec.specs.declared.own.OwnKey.OwnKey) (table : ℕ) (key : Rattle.std.specs.Prelude.ℤ) (refused : Bool)
    → (line : Said) × (line_to worker (told_by table 0 (cond refused reply.Memory (reply_to shape parts (event.Get own table key)))) ≡ Some line) × (is_plain line ≡ true)
get_plain worker shape parts own table key true = (said.Memory, not_silent worker said.Memory refl, refl)
get_plain worker shape parts own table key false = go (Rattle.event_spec.specs.Effects.found shape parts own table key)
  where
    go : (o : Option Rattle.block_spec.specs.Slots.Row) → (line : Said) × (line_to worker (Some (row_told o)) ≡ Some line) × (is_plain line ≡ true)
    go None = (said.Absent, not_silent worker said.Absent refl, refl)
    go (Some row) = (said.Found row, not_silent worker (said.Found row) refl, refl)

-- Nothing that is told is not a line.
none_is : (line : Said) → None ≡ Some line → ⊥
none_is line e = cc

-- Two lines that are told alike are one.
same_line : (a b : Said) → Some a ≡ Some b → a ≡ b
same_line a b e = cc

-- A line that is told as a plain one is plain.
plain_as : (here line : Said) → is_plain here ≡ true → Some here ≡ Some line → is_plain line ≡ true
plain_as here line is e = ap is_plain (sym (same_line here line e)) ∙ is

-- The refusal of a command that needs a transaction is plain.
needs : (own : Option OwnTransaction) (line : Said) → cond (is_none own) (Some said.NoTransaction) None ≡ Some line → is_plain line ≡ true
needs None line e = plain_as said.NoTransaction line refl e
needs (Some t) line e = absurd (none_is line e)

-- The refusal of a begin in a transaction is plain.
begins : (own : Option OwnTransaction) (line : Said) → cond (is_none own) None (Some said.InTransaction) ≡ Some line → is_plain line ≡ true
begins None line e = absurd (none_is line e)
begins (Some t) line e = plain_as said.InTransaction line refl e

-- The refusal of an export for an own write is plain.
exports : (table : ℕ) (own : Option OwnTransaction) (line : Said) → Rattle.run_spec.specs.Told.unless_clean table own ≡ Some line → is_plain line ≡ true
exports table None line e = plain_as said.NoTransaction line refl e
exports table (Some t) line e = go (least_written table t) e
  where
    go : (o : Option Rattle.std.specs.Prelude.ℤ) → option_map said.Dirty o ≡ Some line → is_plain line ≡ true
    go None e = absurd (none_is line e)
    go (Some key) e = plain_as (said.Dirty key) line refl e

-- Each refusal of a command is a plain line.
refusal_plain : (asked : Command) (own : Option OwnTransaction) (line : Said) → refusal_of asked own ≡ Some line → is_plain line ≡ true
refusal_plain (command.Begin checked) own line e = begins own line e
refusal_plain (command.Get table key) own line e = needs own line e
refusal_plain (command.Scan table) own line e = needs own line e
refusal_plain (command.Range table low high) own line e = needs own line e
refusal_plain (command.Total table column low high) own line e = needs own line e
refusal_plain (command.Insert table row) own line e = needs own line e
refusal_plain (command.Update table row) own line e = needs own line e
refusal_plain (command.Delete table key) own line e = needs own line e
refusal_plain command.Commit own line e = needs own line e
refusal_plain command.Abort own line e = needs own line e
refusal_plain command.Observe own line e = absurd (none_is line e)
refusal_plain command.Prune own line e = absurd (none_is line e)
refusal_plain (command.Compact table) own line e = absurd (none_is line e)
refusal_plain (command.Seal table block) own line e = absurd (none_is line e)
refusal_plain (command.Gather table block) own line e = absurd (none_is line e)
refusal_plain (command.Export table) own line e = exports table own line e

-- A refusal that is there is not none.
no_refusal : (line : Said) → Some line ≡ None → ⊥
no_refusal line e = cc

-- No event is not an event that is there.
loud_none : (e : CoreEvent) → None ≡ Some e → ⊥
loud_none e h = cc

-- Two events that are found alike are one.
loud_same : (a b : CoreEvent) → Some a ≡ Some b → a ≡ b
loud_same a b e = cc

-- ---- the last event

module _ (shape : Shape) (worker : Bool) (session : ℕ) (call : Call) (done : List Occurrence) (made : Occurrence)
    (replied : AreReplied shape call.made) (all : call.made ≡ done ++ made ∷ []) where
  -- The last reply of the call is the last event's.
  last_reply : last_or None (replies_in call.made) ≡ Some made.reply
  last_reply = ap (last_or None) (ap replies_in all ∙ replies_append done (made ∷ [])) ∙ at None (replies_in done)
    where
      at : (o : Option CoreReply) (xs : List CoreReply) → last_or o (xs ++ made.reply ∷ []) ≡ Some made.reply
      at o [] = refl
      at o (y ∷ ys) = at (Some y) ys

  -- What the call's last reply says is what the last event's says.
  told_last : (table block : ℕ) → last_told table block (replies_in call.made) ≡ told_by table block made.reply
  told_last table block = ap (option_and_then (told_by table block)) last_reply

  -- The last event has the reply that is due to it.
  here : IsReplied shape made
  here = (rest_replied shape done (made ∷ []) (subst (AreReplied shape) all replied)).0

  -- The events before the last have the replies that are due to them.
  done_replied : AreReplied shape done
  done_replied = front_replied shape done (made ∷ []) (subst (AreReplied shape) all replied)

  -- by the event behind the quiet ones
  at_loud : (asked : Command) (own : Option OwnTransaction) (e : CoreEvent) → call.told ≡ line_to worker (line_of own asked (replies_in call.made))
      → loud_of shape own call.reads session asked call.made ≡ Some e
      → sum_by moved_told (replies_in call.made) ≡ moved_told made.reply
      → TellsAt worker call.made e made.reply asked call.told
  at_loud (command.Begin checked) own e line is sum = subst (λ e. TellsAt worker call.made e made.reply (command.Begin checked) call.told)
      (loud_same (event.Begin session) e is) ((checked, refl), line ∙ ap (line_to worker) (told_last 0 0))
  at_loud (command.Get table key) own e line is sum = absurd (loud_none e is)
  at_loud (command.Scan table) own e line is sum = absurd (loud_none e is)
  at_loud (command.Range table low high) own e line is sum = absurd (loud_none e is)
  at_loud (command.Total table column low high) own e line is sum = absurd (loud_none e is)
  at_loud (command.Insert table row) None e line is sum = absurd (loud_none e is)
  at_loud (command.Insert table row) (Some t) e line is sum = subst (λ e. TellsAt worker call.made e made.reply (command.Insert table row) call.told)
      (loud_same (event.Insert (Rattle.run_spec.specs.Opened.own_key table (key_of row) t) table row) e is) (refl, line ∙ ap (line_to worker) (told_last table 0))
  at_loud (command.Update table row) None e line is sum = absurd (loud_none e is)
  at_loud (command.Update table row) (Some t) e line is sum = subst (λ e. TellsAt worker call.made e made.reply (command.Update table row) call.told)
      (loud_same (event.Update (Rattle.run_spec.specs.Opened.own_key table (key_of row) t) table row) e is) (refl, line ∙ ap (line_to worker) (told_last table 0))
  at_loud (command.Delete table key) None e line is sum = absurd (loud_none e is)
  at_loud (command.Delete table key) (Some t) e line is sum = subst (λ e. TellsAt worker call.made e made.reply (command.Delete table key) call.told)
      (loud_same (event.Delete (Rattle.run_spec.specs.Opened.own_key table key t) table key) e is) (refl, line ∙ ap (line_to worker) (told_last table 0))
  at_loud command.Commit None e line is sum = absurd (loud_none e is)
  at_loud command.Commit (Some t) e line is sum = subst (λ e. TellsAt worker call.made e made.reply command.Commit call.told)
      (loud_same (event.Commit t call.reads) e is) (refl, line ∙ ap (line_to worker) (told_last 0 0))
  at_loud command.Abort None e line is sum = absurd (loud_none e is)
  at_loud command.Abort (Some t) e line is sum = subst (λ e. TellsAt worker call.made e made.reply command.Abort call.told)
      (loud_same (event.Abort t) e is) (refl, line ∙ ap (line_to worker) (told_last 0 0))
  at_loud command.Observe own e line is sum = absurd (loud_none e is)
  at_loud command.Prune own e line is sum = absurd (loud_none e is)
  at_loud (command.Compact table) own e line is sum = go (plan_of (looks_in call.made)) refl is
    where
      go : (pairs : List MovePair) → plan_of (looks_in call.made) ≡ pairs → move_of table pairs ≡ Some e
          → TellsAt worker call.made e made.reply (command.Compact table) call.told
      go [] plan is = absurd (loud_none e is)
      go (pair ∷ pairs) plan is = subst (λ e. TellsAt worker call.made e made.reply (command.Compact table) call.told)
          (loud_same (event.Move table (pair ∷ pairs)) e is) (
            refl,
            sym plan,
            inr (line ∙ not_silent worker (said.Moved (sum_by moved_told (replies_in call.made))) refl ∙ ap (λ n. Some (said.Moved n)) sum),
          )
  at_loud (command.Seal table block) own e line is sum = subst (λ e. TellsAt worker call.made e made.reply (command.Seal table block) call.told)
      (loud_same (event.Seal table block) e is) (refl, line ∙ ap (line_to worker) (told_last table block))
  at_loud (command.Gather table block) own e line is sum = subst (λ e. TellsAt worker call.made e made.reply (command.Gather table block) call.told)
      (loud_same (event.Image table block (Rattle.run_spec.specs.Asked.image_of shape table block call.made)) e is) (refl, line ∙ ap (line_to worker) (told_last table block))
  at_loud (command.Export table) own e line is sum = absurd (loud_none e is)

  -- A call that tells a plain line tells quietly.
  said_plain : (line : Said) → is_silent line ≡ false → is_plain line ≡ true → call.told ≡ line_to worker (Some line) → (asked : Command) → TellsQuietly asked call.made call.told
  said_plain line loud plain tells asked = (line, tells ∙ not_silent worker line loud, inl plain)

  -- where no event stands behind them
  at_quiet : (asked : Command) (own : Option OwnTransaction) → refusal_of asked own ≡ None
      → call.told ≡ line_to worker (line_of own asked (replies_in call.made))
      → events_in call.made ≡ quiet_of shape own asked call.made
      → loud_of shape own call.reads session asked call.made ≡ None
      → sum_by moved_told (replies_in call.made) ≡ 0
      → TellsQuietly asked call.made call.told
  at_quiet (command.Begin checked) own free line es is sum = absurd (no_loud (event.Begin session) is)
    where
      no_loud : (e : CoreEvent) → Some e ≡ None → ⊥
      no_loud e h = cc
  at_quiet (command.Get table key) None free line es is sum = absurd (no_refusal said.NoTransaction free)
  at_quiet (command.Get table key) (Some t) free line es is sum =
      let e : event.Get (Rattle.run_spec.specs.Opened.own_key table key t) table key ≡ made.event =
      (alone (event.Get (Rattle.run_spec.specs.Opened.own_key table key t) table key) (events_in done) made.event [] (sym es ∙ events_at call done made [] all)).0 in
      let got = get_plain worker shape made.before (Rattle.run_spec.specs.Opened.own_key table key t) table key here.0 in (
        got.0,
        line ∙ ap (line_to worker) (told_last table 0)
            ∙ ap (λ r. line_to worker (told_by table 0 r)) (here.1 ∙ ap (λ e. cond here.0 reply.Memory (reply_to shape made.before e)) (sym e)) ∙ got.1,
        inl got.2,
      )
  at_quiet (command.Scan table) own free line es is sum = said_plain (said.Scanned (Rattle.run_spec.specs.Told.in_key_order table (flat_map Rattle.run_spec.specs.Told.rows_told (replies_in call.made)))) refl refl line (command.Scan table)
  at_quiet (command.Range table low high) own free line es is sum =
      said_plain (said.Scanned (Rattle.run_spec.specs.Told.in_key_order table (flat_map Rattle.run_spec.specs.Told.rows_told (replies_in call.made)))) refl refl line (command.Range table low high)
  at_quiet (command.Total table column low high) own free line es is sum = said_plain
      (Rattle.run_spec.specs.Told.total_told
      (Rattle.isolation_spec.specs.Contents.numbers_between column low high (flat_map Rattle.run_spec.specs.Told.rows_told (replies_in call.made))))
      refl refl line (command.Total table column low high)
  at_quiet (command.Insert table row) None free line es is sum = absurd (no_refusal said.NoTransaction free)
  at_quiet (command.Insert table row) (Some t) free line es is sum = absurd (let never : ⊥ = cc is in never)
  at_quiet (command.Update table row) None free line es is sum = absurd (no_refusal said.NoTransaction free)
  at_quiet (command.Update table row) (Some t) free line es is sum = absurd (let never : ⊥ = cc is in never)
  at_quiet (command.Delete table key) None free line es is sum = absurd (no_refusal said.NoTransaction free)
  at_quiet (command.Delete table key) (Some t) free line es is sum = absurd (let never : ⊥ = cc is in never)
  at_quiet command.Commit None free line es is sum = absurd (no_refusal said.NoTransaction free)
  at_quiet command.Commit (Some t) free line es is sum = absurd (let never : ⊥ = cc is in never)
  at_quiet command.Abort None free line es is sum = absurd (no_refusal said.NoTransaction free)
  at_quiet command.Abort (Some t) free line es is sum = absurd (let never : ⊥ = cc is in never)
  at_quiet command.Observe own free line es is sum =
      said_plain (said.Cooling (Rattle.std.specs.Prelude.count_by Rattle.run_spec.specs.Told.is_turned (replies_in call.made))) refl refl line command.Observe
  at_quiet command.Prune own free line es is sum =
      (said.Pruned (sum_by dropped_told (replies_in call.made)), line ∙ not_silent worker (said.Pruned (sum_by dropped_told (replies_in call.made))) refl, inr (inr (refl, refl)))
  at_quiet (command.Compact table) own free line es is sum =
      (said.Moved (sum_by moved_told (replies_in call.made)), line ∙ not_silent worker (said.Moved (sum_by moved_told (replies_in call.made))) refl, inr (inl (ap said.Moved sum)))
  at_quiet (command.Seal table block) own free line es is sum = absurd (let never : ⊥ = cc is in never)
  at_quiet (command.Gather table block) own free line es is sum = absurd (let never : ⊥ = cc is in never)
  at_quiet (command.Export table) None free line es is sum = absurd (no_refusal said.NoTransaction free)
  at_quiet (command.Export table) (Some t) free line es is sum = said_plain (Rattle.run_spec.specs.Told.summary_of t (replies_in call.made)) refl refl line (command.Export table)

  -- A whole call tells its line at its last event.
  whole : (own : Option OwnTransaction) → refusal_of call.command own ≡ None → IsWhole shape worker session own call
      → TellsAt worker call.made made.event made.reply call.command call.told
  whole own free w = go (loud_of shape own call.reads session call.command call.made) refl
    where
      events : quiet_of shape own call.command call.made ++ option_to_list (loud_of shape own call.reads session call.command call.made) ≡ events_in done ++ made.event ∷ []
      events = sym (split_events shape own call.reads session call.command call.made) ∙ sym w.events ∙ events_at call done made [] all

      quiet : list_all is_quiet (quiet_of shape own call.command call.made) ≡ true
      quiet = are_quiet shape own call.command call.made

      init : (xs ys : List CoreEvent) (x y : CoreEvent) → xs ++ x ∷ [] ≡ ys ++ y ∷ [] → (xs ≡ ys) × (x ≡ y)
      init [] [] x y e = (refl, heads x y [] [] e)
      init [] (b ∷ ys) x y e = absurd (none_behind ys y [] (tails x b [] (ys ++ y ∷ []) e))
      init (a ∷ xs) [] x y e = absurd (none_behind xs x [] (sym (tails a y (xs ++ x ∷ []) [] e)))
      init (a ∷ xs) (b ∷ ys) x y e =
          let rest = init xs ys x y (tails a b (xs ++ x ∷ []) (ys ++ y ∷ []) e) in
          (ap (λ zs. a ∷ zs) rest.0 ∙ ap (λ z. z ∷ ys) (heads a b (xs ++ x ∷ []) (ys ++ y ∷ []) e), rest.1)

      go : (o : Option CoreEvent) → loud_of shape own call.reads session call.command call.made ≡ o → TellsAt worker call.made made.event made.reply call.command call.told
      go (Some e) is =
          let split = init (quiet_of shape own call.command call.made) (events_in done) e made.event
          (ap (λ o. quiet_of shape own call.command call.made ++ option_to_list o) (sym is) ∙ events) in
          let none = sum_unmoved shape done done_replied (ap (list_all is_quiet) (sym split.0) ∙ quiet) in
          let sum : sum_by moved_told (replies_in call.made) ≡ moved_told made.reply =
          (let one = ap (sum_by moved_told) (ap replies_in all ∙ replies_append done (made ∷ [])) in
          let two = sum_by-append moved_told (replies_in done) (made.reply ∷ []) in
          let three = sum_by-cons moved_told made.reply [] in omega (arith, one, two, three, none)) in
          at_loud call.command own made.event w.line (is ∙ ap Some split.1) sum
      go None is =
          let es : events_in call.made ≡ quiet_of shape own call.command call.made =
          w.events ∙ split_events shape own call.reads session call.command call.made
          ∙ ap (λ o. quiet_of shape own call.command call.made ++ option_to_list o) is
          ∙ Rattle.std.proofs.Common.append-nil (quiet_of shape own call.command call.made) in
          let none = sum_unmoved shape call.made replied (ap (list_all is_quiet) es ∙ quiet) in
          let q : is_quiet made.event ≡ true = passes_at is_quiet (events_in done) made.event [] (ap (list_all is_quiet) (sym (events_at call done made [] all) ∙ es) ∙ quiet) in
          quiet_tells worker call.made made.event made.reply call.command call.told q (at_quiet call.command own free w.line es is none)

  -- ---- a call cut short

  -- The last event of a call cut short was refused memory, or ends no call.
  cut_last : (xs : List Occurrence) → is_cut_short (xs ++ made ∷ []) ≡ true → (is_refused made || not (is_final made.event)) ≡ true
  cut_last [] e = e
  cut_last (x ∷ []) e = and_second (not (is_refused x || is_final x.event)) (is_cut_short (made ∷ [])) e
  cut_last (x ∷ y ∷ xs) e = cut_last (y ∷ xs) (and_second (not (is_refused x || is_final x.event)) (is_cut_short (y ∷ xs ++ made ∷ [])) e)

  -- A reply that is tested to be want of memory is that.
  memory_is : (told : CoreReply) → is_memory told ≡ true → told ≡ reply.Memory
  memory_is reply.Memory e = refl
  memory_is _ e = absurd (not_true e)

  -- Where the second part fails, a disjunction that holds does so by its first.
  or_final : (a b : Bool) → b ≡ true → (a || not b) ≡ true → a ≡ true
  or_final true b e h = refl
  or_final false true e h = absurd (not_true h)
  or_final false false e h = absurd (not_true e)

  -- Want of memory is told by the call as its last reply says it.
  of_memory : (table block : ℕ) → call.told ≡ Some said.Memory → made.reply ≡ reply.Memory → call.told ≡ line_to worker (told_by table block made.reply)
  of_memory table block tells is = tells ∙ sym (not_silent worker said.Memory refl) ∙ ap (λ r. line_to worker (told_by table block r)) (sym is)

  -- A call cut short tells want of memory at the event behind the quiet ones.
  at_cut : (asked : Command) (own : Option OwnTransaction) (e : CoreEvent) → may_lack_memory asked ≡ true → call.told ≡ Some said.Memory
      → (is_final e ≡ true → made.reply ≡ reply.Memory)
      → loud_of shape own call.reads session asked call.made ≡ Some e
      → TellsAt worker call.made e made.reply asked call.told
  at_cut (command.Begin checked) own e may line refused is = absurd (not_true may)
  at_cut (command.Get table key) own e may line refused is = absurd (loud_none e is)
  at_cut (command.Scan table) own e may line refused is = absurd (loud_none e is)
  at_cut (command.Range table low high) own e may line refused is = absurd (loud_none e is)
  at_cut (command.Total table column low high) own e may line refused is = absurd (loud_none e is)
  at_cut (command.Insert table row) None e may line refused is = absurd (loud_none e is)
  at_cut (command.Insert table row) (Some t) e may line refused is =
      let same = loud_same (event.Insert (Rattle.run_spec.specs.Opened.own_key table (key_of row) t) table row) e is in
      subst (λ e. TellsAt worker call.made e made.reply (command.Insert table row) call.told) same
      (refl, of_memory table 0 line (refused (ap is_final (sym same))))
  at_cut (command.Update table row) None e may line refused is = absurd (loud_none e is)
  at_cut (command.Update table row) (Some t) e may line refused is =
      let same = loud_same (event.Update (Rattle.run_spec.specs.Opened.own_key table (key_of row) t) table row) e is in
      subst (λ e. TellsAt worker call.made e made.reply (command.Update table row) call.told) same
      (refl, of_memory table 0 line (refused (ap is_final (sym same))))
  at_cut (command.Delete table key) None e may line refused is = absurd (loud_none e is)
  at_cut (command.Delete table key) (Some t) e may line refused is =
      let same = loud_same (event.Delete (Rattle.run_spec.specs.Opened.own_key table key t) table key) e is in
      subst (λ e. TellsAt worker call.made e made.reply (command.Delete table key) call.told) same
      (refl, of_memory table 0 line (refused (ap is_final (sym same))))
  at_cut command.Commit own e may line refused is = absurd (not_true may)
  at_cut command.Abort own e may line refused is = absurd (not_true may)
  at_cut command.Observe own e may line refused is = absurd (loud_none e is)
  at_cut command.Prune own e may line refused is = absurd (loud_none e is)
  at_cut (command.Compact table) own e may line refused is = go (plan_of (looks_in call.made)) refl is
    where
      go : (pairs : List MovePair) → plan_of (looks_in call.made) ≡ pairs → move_of table pairs ≡ Some e
          → TellsAt worker call.made e made.reply (command.Compact table) call.told
      go [] plan is = absurd (loud_none e is)
      go (pair ∷ pairs) plan is =
          let same = loud_same (event.Move table (pair ∷ pairs)) e is in
          subst (λ e. TellsAt worker call.made e made.reply (command.Compact table) call.told) same
          (refl, sym plan, inl (refused (ap is_final (sym same)), line))
  at_cut (command.Seal table block) own e may line refused is = absurd (not_true may)
  at_cut (command.Gather table block) own e may line refused is =
      let same = loud_same (event.Image table block (Rattle.run_spec.specs.Asked.image_of shape table block call.made)) e is in
      subst (λ e. TellsAt worker call.made e made.reply (command.Gather table block) call.told) same
      (refl, of_memory table block line (refused (ap is_final (sym same))))
  at_cut (command.Export table) own e may line refused is = absurd (loud_none e is)

  -- A call cut short tells its line at its last event.
  part : (own : Option OwnTransaction) → IsPart shape session own call → TellsAt worker call.made made.event made.reply call.command call.told
  part own p = go (placed shape own call.reads session call.command call.made (events_in done) made.event p.missed
      (p.events ∙ ap (λ es. es ++ p.missed) (events_at call done made [] all) ∙ append_assoc (events_in done) (made.event ∷ []) p.missed))
    where
      go : (is_quiet made.event ≡ true) ⊎ ((p.missed ≡ []) × (loud_of shape own call.reads session call.command call.made ≡ Some made.event))
          → TellsAt worker call.made made.event made.reply call.command call.told
      go (inl q) = quiet_tells worker call.made made.event made.reply call.command call.told q (said.Memory, p.line, inl refl)
      go (inr l) = at_cut call.command own made.event p.may p.line
          (λ final. memory_is made.reply (or_final (is_refused made) (is_final made.event) final (cut_last done (ap is_cut_short (sym all) ∙ p.cut)))) l.1

-- a call's line is told at its last event
pub last_events_are_told : LastEventsAreTold
last_events_are_told shape worker session front call done made is replied all = go (refusal_of call.command (own_after front)) refl is
  where
    go : (refusal : Option Said) → refusal_of call.command (own_after front) ≡ refusal → IsCallBy shape worker session (own_after front) refusal call
        → TellsAt worker call.made made.event made.reply call.command call.told
    go (Some refusal) e h = absurd (none_behind done made [] (sym h.0 ∙ all))
    go None e (inl w) = whole shape worker session call done made replied all (own_after front) e w
    go None e (inr p) = part shape worker session call done made replied all (own_after front) p

-- ---- no event

-- A line is told that is plain, or says that nothing moved.
abbrev Plainly : Option Said → Type 0
Plainly told = (line : Said) × (told ≡ Some line) × ((is_plain line ≡ true) ⊎ (line ≡ said.Moved 0))

-- An empty list of events has no first one.
no_event : (e : CoreEvent) (es : List CoreEvent) → [] ≡ e ∷ es → ⊥
no_event e es h = cc

-- A call without an event that is not refused tells plainly.
none_told : (shape : Shape) (worker : Bool) (handed : Option ReadSet) (session : ℕ) (asked : Command) (own : Option OwnTransaction) (told : Option Said)
    → refusal_of asked own ≡ None → [] ≡ events_of shape own handed session asked [] → told ≡ line_to worker (line_of own asked []) → Plainly told
none_told shape worker handed session (command.Begin checked) own told free es line = absurd (no_event (event.Begin session) [] es)
none_told shape worker handed session (command.Get table key) None told free es line = absurd (no_refusal said.NoTransaction free)
none_told shape worker handed session (command.Get table key) (Some t) told free es line = absurd (let never : ⊥ = cc es in never)
none_told shape worker handed session (command.Scan table) own told free es line =
    (said.Scanned (Rattle.run_spec.specs.Told.in_key_order table []), line ∙ not_silent worker (said.Scanned (Rattle.run_spec.specs.Told.in_key_order table [])) refl, inl refl)
none_told shape worker handed session (command.Range table low high) None told free es line = absurd (no_refusal said.NoTransaction free)
none_told shape worker handed session (command.Range table low high) (Some t) told free es line = absurd (let never : ⊥ = cc es in never)
none_told shape worker handed session (command.Total table column low high) own told free es line = (
  Rattle.run_spec.specs.Told.total_told (Rattle.isolation_spec.specs.Contents.numbers_between column low high []),
  line ∙ not_silent worker (Rattle.run_spec.specs.Told.total_told (Rattle.isolation_spec.specs.Contents.numbers_between column low high [])) refl,
  inl refl,
)
none_told shape worker handed session (command.Insert table row) None told free es line = absurd (no_refusal said.NoTransaction free)
none_told shape worker handed session (command.Insert table row) (Some t) told free es line = absurd (let never : ⊥ = cc es in never)
none_told shape worker handed session (command.Update table row) None told free es line = absurd (no_refusal said.NoTransaction free)
none_told shape worker handed session (command.Update table row) (Some t) told free es line = absurd (let never : ⊥ = cc es in never)
none_told shape worker handed session (command.Delete table key) None told free es line = absurd (no_refusal said.NoTransaction free)
none_told shape worker handed session (command.Delete table key) (Some t) told free es line = absurd (let never : ⊥ = cc es in never)
none_told shape worker handed session command.Commit None told free es line = absurd (no_refusal said.NoTransaction free)
none_told shape worker handed session command.Commit (Some t) told free es line = absurd (no_event (event.Commit t handed) [] es)
none_told shape worker handed session command.Abort None told free es line = absurd (no_refusal said.NoTransaction free)
none_told shape worker handed session command.Abort (Some t) told free es line = absurd (no_event (event.Abort t) [] es)
none_told shape worker handed session command.Observe own told free es line = (said.Cooling 0, line ∙ not_silent worker (said.Cooling 0) refl, inl refl)
none_told shape worker handed session command.Prune own told free es line = absurd (no_event event.Oldest [] es)
none_told shape worker handed session (command.Compact table) own told free es line = (said.Moved 0, line ∙ not_silent worker (said.Moved 0) refl, inr refl)
none_told shape worker handed session (command.Seal table block) own told free es line = absurd (no_event (event.Seal table block) [] es)
none_told shape worker handed session (command.Gather table block) own told free es line = absurd (let never : ⊥ = cc es in never)
none_told shape worker handed session (command.Export table) None told free es line = absurd (no_refusal said.NoTransaction free)
none_told shape worker handed session (command.Export table) (Some t) told free es line =
    (Rattle.run_spec.specs.Told.summary_of t [], line ∙ not_silent worker (Rattle.run_spec.specs.Told.summary_of t []) refl, inl refl)

-- a call without an event tells nothing that counts
pub refusals_are_plain : RefusalsArePlain
refusals_are_plain shape worker session front call is none = go (refusal_of call.command (own_after front)) refl is
  where
    go : (refusal : Option Said) → refusal_of call.command (own_after front) ≡ refusal → IsCallBy shape worker session (own_after front) refusal call → Plainly call.told
    go (Some refusal) e h = (refusal, h.1, inl (refusal_plain call.command (own_after front) refusal e))
    go None e (inl w) = none_told shape worker call.reads session call.command (own_after front) call.told e
        (sym (ap events_in none) ∙ w.events ∙ ap (events_of shape (own_after front) call.reads session call.command) none)
        (w.line ∙ ap (λ made. line_to worker (line_of (own_after front) call.command (replies_in made))) none)
    go None e (inr p) = (said.Memory, p.line, inl refl)
