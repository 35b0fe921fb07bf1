-- A session's line, command by command.
use Rattle.std.proofs.Common.{◌≡◌, ◌⊎◌, ℕ, ℤ, Bool, true, false, not, ◌&&◌, ◌||◌, List, [], ◌∷◌, ◌++◌, map, Option, None, Some, option_map, refl, sym, ap, ◌∙◌, subst, append-nil}
use mathlib.Core.Logic.{inl, inr}
use Rattle.std.specs.Prelude.{IfSome, IsSome, IsSomeAnd, option_and_then, option_to_list}
use Rattle.std.specs.List.{flat_map, last_or, list_all, list_any}
use Rattle.std.proofs.lemmas.List.Folds.{list_all-append}
use Rattle.core_laws.specs.Events.Laws.{IsStep, IsTold, command_in, outcome_of}
use Rattle.event_spec.specs.declared.event.Event.TheVariants as event
use Rattle.event_spec.specs.declared.own.OwnTransaction.{OwnTransaction}
use Rattle.block_spec.specs.Slots.{Row}
use Rattle.event_spec.specs.declared.reply.Reply.TheVariants as reply
use Rattle.event_spec.specs.declared.reply.WriteFault.TheVariants as refusal
use Rattle.event_spec.specs.Effects.{CoreEvent}
use Rattle.event_spec.specs.Lawful.{reads_handed}
use Rattle.event_spec.specs.Parts.{Shape}
use Rattle.event_spec.specs.Replies.{CoreReply}
use Rattle.isolation_laws.proofs.Checked.{commit-stands, stale-closed}
use Rattle.isolation_spec.specs.Checked.{step_with}
use Rattle.isolation_spec.specs.Contents.{contents_between, key_of}
use Rattle.isolation_spec.specs.declared.command.Act.{Act}
use Rattle.isolation_spec.specs.declared.command.Act.TheVariants as act
use Rattle.isolation_spec.specs.declared.command.Answer.{Answer}
use Rattle.isolation_spec.specs.declared.command.Answer.TheVariants as answer
use Rattle.isolation_spec.specs.declared.command.Command.{Command as Request}
use Rattle.isolation_spec.specs.Machine.{IsolationMachine, Transaction, seen_rows, step, step_of, transaction_of}
use Rattle.isolation_spec.specs.Reads.{ReadSet}
use Rattle.isolation_spec.specs.Store.{Allows, Outcome, Answered, Freezing, Full, Memory, IsChange, IsInsert, IsRead}
use Rattle.timeline_spec.specs.Timeline.{Answers, request_of, said_of}
use Rattle.workload_spec.specs.declared.command.Command.{Command}
use Rattle.workload_spec.specs.declared.command.Command.TheVariants as command
use Rattle.workload_spec.specs.declared.reply.Said.{Said}
use Rattle.workload_spec.specs.declared.reply.Said.TheVariants as said
use Rattle.workload_spec.specs.declared.reply.Who.TheVariants.{Session}
use Rattle.run_spec.specs.Asked.{events_of, imaged_block, parts_before, thaws}
use Rattle.run_spec.specs.Calls.{IsCallBy, IsPart, is_cut_short, is_final, is_memory, is_refused}
use Rattle.run_spec.specs.Occurrences.{Occurrence, events_in, replies_in}
use Rattle.run_spec.specs.Opened.{own_key}
use Rattle.run_spec.specs.Told.{in_key_order, last_told, refusal_of, rows_told, told_by}
use Rattle.run_laws.specs.Calls.Coming.{EndsAt, LinesComeAbout, is_single}
use Rattle.run_laws.specs.Calls.Open.{OpenAs}
use Rattle.run_laws.proofs.Calls.Lines.{lines_tell}

-- What a session asks of the machine by an act.
abbrev asked : ℕ → Act → Request
asked session what = record { session = session; act = what }

-- False is not the same as true.
not_true : false ≡ true → ⊥
not_true e = cc

-- An empty list does not begin with an event.
no_first : (e : CoreEvent) (es : List CoreEvent) → [] ≡ e ∷ es → ⊥
no_first e es h = cc

-- A list that begins with an event is not empty.
no_second : (e : CoreEvent) (es : List CoreEvent) → e ∷ es ≡ [] → ⊥
no_second e es h = cc

-- Lists of events that are one begin with the same event.
heads : (a b : CoreEvent) (xs ys : List CoreEvent) → a ∷ xs ≡ b ∷ ys → a ≡ b
heads a b xs ys e = cc

-- Lists of events that are one go on alike behind the first.
tails : (a b : CoreEvent) (xs ys : List CoreEvent) → a ∷ xs ≡ b ∷ ys → xs ≡ ys
tails a b xs ys e = cc

-- What two equal options hold is the same line.
same_line : (a b : Said) → Some a ≡ Some b → a ≡ b
same_line a b e = cc

-- a list with one element more is not empty, and of one element it is that
no_last : (es : List CoreEvent) (e : CoreEvent) → [] ≡ es ++ e ∷ [] → ⊥
no_last [] e h = no_first e [] h
no_last (x ∷ es) e h = no_first x (es ++ e ∷ []) h

-- A list of one event has that one as its last.
one_is : (x : CoreEvent) (es : List CoreEvent) (e : CoreEvent) → x ∷ [] ≡ es ++ e ∷ [] → x ≡ e
one_is x [] e h = heads x e [] [] h
one_is x (y ∷ es) e h = absurd (no_last es e (tails x y [] (es ++ e ∷ []) h))

-- The last of two events or more is the last of those behind the first.
rest_is : (x y : CoreEvent) (xs es : List CoreEvent) (e : CoreEvent) → x ∷ y ∷ xs ≡ es ++ e ∷ []
    → (fs : List CoreEvent) × (y ∷ xs ≡ fs ++ e ∷ [])
rest_is x y xs [] e h = absurd (no_second y xs (tails x e (y ∷ xs) [] h))
rest_is x y xs (z ∷ es) e h = (es, tails x z (y ∷ xs) (es ++ e ∷ []) h)

-- ---- the last event of a call

-- the last of some events, which is this one, and what the machine makes of it
pub record Last (m n : IsolationMachine) (made : List Occurrence) (e : CoreEvent) : Type 0 where
  pub last : Occurrence
  pub is : last.event ≡ e
  pub replied : last_or None (replies_in made) ≡ Some last.reply
  pub stepped : IsStep (command_in last.event) (reads_handed last.event) m last.reply n

-- The machine at the end of some events is the one at the last of them.
last_of : (m n : IsolationMachine) (made : List Occurrence) (es : List CoreEvent) (e : CoreEvent)
    → events_in made ≡ es ++ e ∷ [] → EndsAt made m n → Last m n made e
last_of m n [] es e h ends = absurd (no_last es e h)
last_of m n (x ∷ []) es e h ends = record { last = x; is = one_is x.event es e h; replied = refl; stepped = ends }
last_of m n (x ∷ y ∷ rest) es e h ends =
    let fewer = rest_is x.event y.event (events_in rest) es e h in
    let behind = last_of m n (y ∷ rest) fewer.0 e fewer.1 ends in
    record { last = behind.last; is = behind.is; replied = behind.replied; stepped = behind.stepped }

-- What an option is said to hold with a property is there, with the property.
some_and : {X : Type 0} (P : X → Type 0) (o : Option X) → IsSomeAnd o P → (x : X) × (o ≡ Some x) × P x
some_and P None h = absurd h
some_and P (Some x) h = (x, refl, h)

-- ---- events that leave the machine

-- it neither begins nor ends a transaction
abbrev pub is_calm : CoreEvent → Bool
is_calm (event.Begin session) = false
is_calm (event.Get own table key) = true
is_calm (event.Insert own table row) = true
is_calm (event.Update own table row) = true
is_calm (event.Delete own table key) = true
is_calm (event.Read own table block) = true
is_calm (event.Range own table low high) = true
is_calm (event.Commit own reads) = false
is_calm (event.Abort own) = false
is_calm event.Oldest = true
is_calm (event.Observe table block) = true
is_calm (event.Prune table block oldest) = true
is_calm (event.Look table block) = true
is_calm (event.Move table moves) = true
is_calm (event.Seal table block) = true
is_calm (event.Image table block image) = true
is_calm (event.Thaw table block) = true

-- A get, however it is answered, leaves the machine.
get_stays : (m n : IsolationMachine) (session table : ℕ) (key : ℤ) (outcome : Outcome)
    → Allows m None (asked session (act.Get table key)) outcome n → n ≡ m
get_stays m n session table key (Answered answered) h = go (transaction_of session m) h
  where
    go : (o : Option Transaction) → step_of m (asked session (act.Get table key)) o ≡ (answered, n) → n ≡ m
    go None e = ap (λ (p : Answer × IsolationMachine). p.1) (sym e)
    go (Some t) e = ap (λ (p : Answer × IsolationMachine). p.1) (sym e)
get_stays m n session table key Freezing h = h.2
get_stays m n session table key Full h = h.2
get_stays m n session table key Memory h = h.2

-- So does a range.
range_stays : (m n : IsolationMachine) (session table : ℕ) (low high : ℤ) (outcome : Outcome)
    → Allows m None (asked session (act.Range table low high)) outcome n → n ≡ m
range_stays m n session table low high (Answered answered) h = go (transaction_of session m) h
  where
    go : (o : Option Transaction) → step_of m (asked session (act.Range table low high)) o ≡ (answered, n) → n ≡ m
    go None e = ap (λ (p : Answer × IsolationMachine). p.1) (sym e)
    go (Some t) e = ap (λ (p : Answer × IsolationMachine). p.1) (sym e)
range_stays m n session table low high Freezing h = h.2
range_stays m n session table low high Full h = h.2
range_stays m n session table low high Memory h = h.2

-- A reply that is tested as want of memory is want of memory.
memory_is : (told : CoreReply) → is_memory told ≡ true → told ≡ reply.Memory
memory_is reply.Memory e = refl
memory_is _ e = absurd (not_true e)

-- A final event at which a call is cut short was refused memory.
was_refused : (refused : Bool) → (refused || not true) ≡ true → refused ≡ true
was_refused true e = refl
was_refused false e = absurd (not_true e)

-- a command that was refused memory leaves the machine
refused_stays : (m n : IsolationMachine) (request : Request) (told : CoreReply) → (is_memory told || not true) ≡ true
    → IsTold m None request told n → n ≡ m
refused_stays m n request told e h = (subst
    (λ (told : CoreReply). IsTold m None request told n)
    (memory_is told (was_refused (is_memory told) e))
    h).2

-- at an event that begins and ends nothing, and is refused memory or not final, the machine stays
pub event_stays : (m n : IsolationMachine) (e : CoreEvent) (told : CoreReply) → is_calm e ≡ true
    → (is_memory told || not (is_final e)) ≡ true → IsStep (command_in e) (reads_handed e) m told n → n ≡ m
event_stays m n (event.Begin session) told calm cut h = absurd (not_true calm)
event_stays m n (event.Get own table key) told calm cut h =
    let allowed = some_and
    (λ outcome. Allows m None (asked own.session (act.Get table key)) outcome n)
    (outcome_of (act.Get table key) told)
    h in
    get_stays m n own.session table key allowed.0 allowed.2
event_stays m n (event.Insert own table row) told calm cut h =
    refused_stays m n (asked own.session (act.Insert table row)) told cut h
event_stays m n (event.Update own table row) told calm cut h =
    refused_stays m n (asked own.session (act.Update table row)) told cut h
event_stays m n (event.Delete own table key) told calm cut h =
    refused_stays m n (asked own.session (act.Delete table key)) told cut h
event_stays m n (event.Read own table block) told calm cut h = h
event_stays m n (event.Range own table low high) told calm cut h =
    let allowed = some_and
    (λ outcome. Allows m None (asked own.session (act.Range table low high)) outcome n)
    (outcome_of (act.Range table low high) told)
    h in
    range_stays m n own.session table low high allowed.0 allowed.2
event_stays m n (event.Commit own reads) told calm cut h = absurd (not_true calm)
event_stays m n (event.Abort own) told calm cut h = absurd (not_true calm)
event_stays m n event.Oldest told calm cut h = h
event_stays m n (event.Observe table block) told calm cut h = h
event_stays m n (event.Prune table block oldest) told calm cut h = h
event_stays m n (event.Look table block) told calm cut h = h
event_stays m n (event.Move table moves) told calm cut h = h
event_stays m n (event.Seal table block) told calm cut h = h
event_stays m n (event.Image table block image) told calm cut h = h
event_stays m n (event.Thaw table block) told calm cut h = h

-- Of two that hold together the first does.
and_first : (a b : Bool) → (a && b) ≡ true → a ≡ true
and_first true b e = refl
and_first false b e = absurd (not_true e)

-- Of two that hold together the second does.
and_second : (a b : Bool) → (a && b) ≡ true → b ≡ true
and_second true b e = e
and_second false b e = absurd (not_true e)

-- so does a call that was cut short
cut_stays : (m n : IsolationMachine) (made : List Occurrence) → list_all is_calm (events_in made) ≡ true
    → is_cut_short made ≡ true → EndsAt made m n → n ≡ m
cut_stays m n [] calm cut ends = ends
cut_stays m n (x ∷ []) calm cut ends = event_stays m n x.event x.reply (and_first (is_calm x.event) true calm) cut ends
cut_stays m n (x ∷ y ∷ rest) calm cut ends = cut_stays
    m
    n
    (y ∷ rest)
    (and_second (is_calm x.event) (list_all is_calm (events_in (y ∷ rest))) calm)
    (and_second (not (is_refused x || is_final x.event)) (is_cut_short (y ∷ rest)) cut)
    ends

-- a thaw, if there is one, and a calm event behind it are calm
thaws_calm : (table : ℕ) (block : Option ℕ) (e : CoreEvent) → is_calm e ≡ true
    → list_all is_calm (map (event.Thaw table) (option_to_list block) ++ e ∷ []) ≡ true
thaws_calm table None e calm = ap (λ (b : Bool). b && true) calm
thaws_calm table (Some block) e calm = ap (λ (b : Bool). b && true) calm

-- The events of a front of calm ones are calm.
front_calm : (made : List Occurrence) (missed es : List CoreEvent) → list_all is_calm es ≡ true
    → es ≡ events_in made ++ missed → list_all is_calm (events_in made) ≡ true
front_calm made missed es calm e = and_first
    (list_all is_calm (events_in made))
    (list_all is_calm missed)
    (sym (list_all-append is_calm (events_in made) missed) ∙ ap (list_all is_calm) (sym e) ∙ calm)

-- ---- a line

-- Where a session has nothing open, neither has the machine for it.
none_open : (session : ℕ) (m : IsolationMachine) → OpenAs session None (transaction_of session m) → transaction_of session m ≡ None
none_open session m open' = go (transaction_of session m) open'.snapshot
  where
    go : (o : Option Transaction) → None ≡ option_map (λ (t : Transaction). t.snapshot) o → o ≡ None
    go None e = refl
    go (Some t) e = absurd (let never : ⊥ = cc e in never)

-- Where a session has a transaction open, the machine has one for it.
one_open : (session : ℕ) (m : IsolationMachine) (own : OwnTransaction) → OpenAs session (Some own) (transaction_of session m)
    → (t : Transaction) × (transaction_of session m ≡ Some t)
one_open session m own open' = go (transaction_of session m) open'.snapshot refl
  where
    go : (o : Option Transaction) → Some own.snapshot.number ≡ option_map (λ (t : Transaction). t.snapshot) o
        → transaction_of session m ≡ o → (t : Transaction) × (transaction_of session m ≡ Some t)
    go None e is = absurd (let never : ⊥ = cc e in never)
    go (Some t) e is = (t, is)

-- What is answered to a session without a transaction does not depend on what is handed in.
closed_stands : (m : IsolationMachine) (reads : Option ReadSet) (session : ℕ) (what : Act) → transaction_of session m ≡ None
    → step_with m reads (asked session what) ≡ step m (asked session what)
closed_stands m reads session (act.Begin checked) none = refl
closed_stands m reads session (act.Get table key) none = refl
closed_stands m reads session (act.Scan table) none = refl
closed_stands m reads session (act.Range table low high) none = refl
closed_stands m reads session (act.Total table column low high) none = refl
closed_stands m reads session (act.Insert table row) none = refl
closed_stands m reads session (act.Update table row) none = refl
closed_stands m reads session (act.Delete table key) none = refl
closed_stands m reads session act.Commit none = commit-stands m reads session (stale-closed m reads session none)
closed_stands m reads session act.Abort none = refl

-- Where the machine answers alike whichever of two read sets is handed in, a store may do so.
allows_as : (m n : IsolationMachine) (handed reads : Option ReadSet) (request : Request) (outcome : Outcome)
    → step_with m handed request ≡ step_with m reads request → Allows m handed request outcome n → Allows m reads request outcome n
allows_as m n handed reads request (Answered said) same h = sym same ∙ h
allows_as m n handed reads request Freezing same h = h
allows_as m n handed reads request Full same h = h
allows_as m n handed reads request Memory same h = h

-- Rows that are answered alike are the same.
pub same_rows : (xs ys : List Row) → answer.Rows xs ≡ answer.Rows ys → xs ≡ ys
same_rows xs ys e = cc

-- A range of an open transaction is answered with its rows, and the machine stays.
pub range_answered : (m n : IsolationMachine) (session table : ℕ) (low high : ℤ) (t : Transaction) → transaction_of session m ≡ Some t → (said : Answer)
    → step_with m None (asked session (act.Range table low high)) ≡ (said, n)
    → (answer.Rows (contents_between table low high (seen_rows m t)) ≡ said) × (n ≡ m)
range_answered m n session table low high t is said h =
    let both = ap (step_of m (asked session (act.Range table low high))) (sym is) ∙ h in
    (ap (λ (p : Answer × IsolationMachine). p.0) both, sym (ap (λ (p : Answer × IsolationMachine). p.1) both))

-- What a range was replied, in the order of the keys, are the rows that the machine answers, which
-- stays.
record Ranged (m n : IsolationMachine) (t : Transaction) (table : ℕ) (low high : ℤ) (told : CoreReply) : Type 0 where
  rows : in_key_order table (rows_told told) ≡ contents_between table low high (seen_rows m t)
  stays : n ≡ m

-- So it is where it was not refused memory.
range_told : (m n : IsolationMachine) (session table : ℕ) (low high : ℤ) (t : Transaction) → transaction_of session m ≡ Some t
    → (told : CoreReply) → is_memory told ≡ false → IsTold m None (asked session (act.Range table low high)) told n
    → Ranged m n t table low high told
range_told m n session table low high t is (reply.Begun snapshot) granted h =
    absurd (let never : ⊥ = cc ((range_answered m n session table low high t is (answer.At snapshot.number) h).0) in never)
range_told m n session table low high t is (reply.Found row) granted h =
    absurd (let never : ⊥ = cc ((range_answered m n session table low high t is (answer.Found row) h).0) in never)
range_told m n session table low high t is (reply.Written place) granted h =
    absurd (let never : ⊥ = cc ((range_answered m n session table low high t is answer.Accepted h).0) in never)
range_told m n session table low high t is (reply.Refused (refusal.ConflictSession other)) granted h =
    absurd (let never : ⊥ = cc ((range_answered m n session table low high t is (answer.ConflictSession other) h).0) in never)
range_told m n session table low high t is (reply.Refused (refusal.ConflictCommit number)) granted h =
    absurd (let never : ⊥ = cc ((range_answered m n session table low high t is (answer.ConflictCommit number) h).0) in never)
range_told m n session table low high t is (reply.Refused refusal.Exists) granted h =
    absurd (let never : ⊥ = cc ((range_answered m n session table low high t is answer.Exists h).0) in never)
range_told m n session table low high t is (reply.Refused refusal.Missing) granted h =
    absurd (let never : ⊥ = cc ((range_answered m n session table low high t is answer.Missing h).0) in never)
range_told m n session table low high t is (reply.Refused (refusal.Freezing block stamp)) granted h = absurd h.0
range_told m n session table low high t is (reply.Refused (refusal.Full inserts)) granted h = absurd h.0
range_told m n session table low high t is (reply.Rows rows) granted h =
    let answered = range_answered m n session table low high t is (answer.Rows (in_key_order table rows)) h in
    record { rows = sym (same_rows _ _ answered.0); stays = answered.1 }
range_told m n session table low high t is (reply.Shared rows) granted h = absurd h
range_told m n session table low high t is (reply.Committed number) granted h =
    absurd (let never : ⊥ = cc ((range_answered m n session table low high t is (answer.Committed number) h).0) in never)
range_told m n session table low high t is (reply.Stale what number) granted h =
    absurd (let never : ⊥ = cc ((range_answered m n session table low high t is (answer.Stale what number) h).0) in never)
range_told m n session table low high t is reply.Aborted granted h =
    absurd (let never : ⊥ = cc ((range_answered m n session table low high t is answer.Aborted h).0) in never)
range_told m n session table low high t is (reply.Oldest oldest) granted h = absurd h
range_told m n session table low high t is (reply.Turned turned) granted h = absurd h
range_told m n session table low high t is (reply.Dropped count) granted h = absurd h
range_told m n session table low high t is (reply.Looked look) granted h = absurd h
range_told m n session table low high t is (reply.Moved count) granted h = absurd h
range_told m n session table low high t is (reply.Sealed stamp) granted h = absurd h
range_told m n session table low high t is (reply.NotSealed because) granted h = absurd h
range_told m n session table low high t is (reply.Imaged rows) granted h = absurd h
range_told m n session table low high t is reply.NoSeal granted h = absurd h
range_told m n session table low high t is reply.Thawed granted h = absurd h
range_told m n session table low high t is reply.Memory granted h = absurd (not_true (sym granted))

-- An event alone that was not refused memory.
one_granted : (x : Occurrence) → list_any is_refused (x ∷ []) ≡ false → is_memory x.reply ≡ false
one_granted x e = go (is_memory x.reply) e
  where
    go : (b : Bool) → (b || false) ≡ false → b ≡ false
    go true e = absurd (not_true (sym e))
    go false e = refl

-- To the machine it is all one whether a transaction that begins is checked.
begins_alike : (m : IsolationMachine) (session : ℕ) (checked : Bool)
    → step m (asked session (act.Begin false)) ≡ step m (asked session (act.Begin checked))
begins_alike m session checked = go (transaction_of session m)
  where
    go : (o : Option Transaction) → step_of m (asked session (act.Begin false)) o ≡ step_of m (asked session (act.Begin checked)) o
    go None = refl
    go (Some t) = refl

-- A begin that is answered is answered so, checked or not.
begin_allowed : (m n : IsolationMachine) (reads : Option ReadSet) (session : ℕ) (checked : Bool) (outcome : Outcome)
    → Allows m reads (asked session (act.Begin false)) outcome n → Allows m reads (asked session (act.Begin checked)) outcome n
begin_allowed m n reads session checked (Answered said) h = sym (begins_alike m session checked) ∙ h
begin_allowed m n reads session checked Freezing h = absurd h.0
begin_allowed m n reads session checked Full h = absurd h.0
begin_allowed m n reads session checked Memory h = (h.0, h.1, h.2)

module _ (session : ℕ) (made : List Occurrence) (told : Option Said) (reads : Option ReadSet) (line : Said) (m n : IsolationMachine)
    (tells : told ≡ Some line) (ends : EndsAt made m n) where
  -- refused before an event
  refused : (what : Act) (answered : Answer) → (made ≡ []) × (told ≡ Some (said_of answered))
      → step_with m reads (asked session what) ≡ (answered, m) → Answers m reads (asked session what) line n
  refused what answered h is =
      let stays : n ≡ m = subst (λ (xs : List Occurrence). EndsAt xs m n) h.0 ends in record {
        outcome = Answered answered;
        tells = same_line line (said_of answered) (sym tells ∙ h.1);
        allows = subst (λ (x : IsolationMachine). step_with m reads (asked session what) ≡ (answered, x)) (sym stays) is;
      }

  -- carried out
  whole : (what : Act) (table : ℕ) (es : List CoreEvent) (e : CoreEvent) → command_in e ≡ Some (asked session what)
      → step_with m (reads_handed e) (asked session what) ≡ step_with m reads (asked session what)
      → events_in made ≡ es ++ e ∷ [] → told ≡ last_told table 0 (replies_in made) → Answers m reads (asked session what) line n
  whole what table es e asks alike events says =
      let at = last_of m n made es e events ends in
      let handed : IsStep (command_in e) (reads_handed e) m at.last.reply n =
      subst (λ (x : CoreEvent). IsStep (command_in x) (reads_handed x) m at.last.reply n) at.is at.stepped in
      let stepped : IsTold m (reads_handed e) (asked session what) at.last.reply n =
      subst (λ (o : Option Request). IsStep o (reads_handed e) m at.last.reply n) asks handed in
      let allowed = some_and (λ outcome. Allows m (reads_handed e) (asked session what) outcome n) (outcome_of what at.last.reply) stepped in
      record {
        outcome = allowed.0;
        tells = lines_tell what table 0 at.last.reply allowed.0 line allowed.1
            (sym (ap (option_and_then (told_by table 0)) at.replied) ∙ sym says ∙ tells);
        allows = allows_as m n (reads_handed e) reads (asked session what) allowed.0 alike allowed.2;
      }

  -- cut short
  part : (what : Act) (own : OwnTransaction) → OpenAs session (Some own) (transaction_of session m)
      → (IsRead what ⊎ IsChange what ⊎ IsInsert what) → told ≡ Some said.Memory → n ≡ m
      → Answers m reads (asked session what) line n
  part what own open' may says stays =
      let t = one_open session m own open' in record {
        outcome = Memory;
        tells = same_line line said.Memory (sym tells ∙ says);
        allows = (may, subst (λ (o : Option Transaction). IsSome o) (sym t.1) refl, stays);
      }

  -- a range that was carried out
  ranged : (table : ℕ) (low high : ℤ) (own : OwnTransaction) → OpenAs session (Some own) (transaction_of session m)
      → events_in made ≡ event.Range own table low high ∷ [] → list_any is_refused made ≡ false
      → told ≡ Some (said.Scanned (in_key_order table (flat_map rows_told (replies_in made))))
      → Answers m reads (asked session (act.Range table low high)) line n
  ranged table low high own open' events granted says = go made refl
    where
      e : CoreEvent
      e = event.Range own table low high

      go : (xs : List Occurrence) → made ≡ xs → Answers m reads (asked session (act.Range table low high)) line n
      go [] is = absurd (no_first e [] (sym (ap events_in is) ∙ events))
      go (x ∷ y ∷ rest) is = absurd (no_second y.event (events_in rest) (tails x.event e (y.event ∷ events_in rest) [] (sym (ap events_in is) ∙ events)))
      go (x ∷ []) is =
          let t = one_open session m own open' in
          let event_is : x.event ≡ e = heads x.event e [] [] (sym (ap events_in is) ∙ events) in
          let stepped : IsStep (command_in x.event) (reads_handed x.event) m x.reply n = subst (λ (xs : List Occurrence). EndsAt xs m n) is ends in
          let handed : IsTold m None (asked own.session (act.Range table low high)) x.reply n =
          subst (λ (f : CoreEvent). IsStep (command_in f) (reads_handed f) m x.reply n) event_is stepped in
          let asks : IsTold m None (asked session (act.Range table low high)) x.reply n =
          subst (λ q. IsTold m None (asked q (act.Range table low high)) x.reply n) open'.session_is handed in
          let answered = range_told m n session table low high t.0 t.1 x.reply (one_granted x (sym (ap (list_any is_refused) is) ∙ granted)) asks in
          record {
            outcome = Answered (answer.Rows (contents_between table low high (seen_rows m t.0)));
            tells = same_line line (said.Scanned (in_key_order table (flat_map rows_told (replies_in made)))) (sym tells ∙ says)
                ∙ ap (λ (xs : List Occurrence). said.Scanned (in_key_order table (flat_map rows_told (replies_in xs)))) is
                ∙ ap (λ (rows : List Row). said.Scanned (in_key_order table rows)) (append-nil (rows_told x.reply))
                ∙ ap said.Scanned answered.rows;
            allows = ap (step_of m (asked session (act.Range table low high))) t.1
                ∙ ap (λ after. (answer.Rows (contents_between table low high (seen_rows m t.0)), after)) (sym answered.stays);
          }

  -- Where nothing is open, the machine answers too that there is no transaction.
  without_one : (what : Act) → OpenAs session None (transaction_of session m)
      → (made ≡ []) × (told ≡ Some said.NoTransaction) → step_of m (asked session what) None ≡ (answer.NoTransaction, m)
      → Answers m reads (asked session what) line n
  without_one what open' h is = refused what answer.NoTransaction h
      (closed_stands m reads session what (none_open session m open') ∙ ap (λ o. step_of m (asked session what) o) (none_open session m open') ∙ is)

  -- The machine, which stays, answers a call that was cut short with its line.
  cut_at : (shape : Shape) (what : Act) (own : OwnTransaction) (command : Command) → OpenAs session (Some own) (transaction_of session m)
      → (IsRead what ⊎ IsChange what ⊎ IsInsert what)
      → list_all is_calm (events_of shape (Some own) reads session command made) ≡ true
      → IsPart shape session (Some own) (record { command = command; made = made; told = told; reads = reads })
      → Answers m reads (asked session what) line n
  cut_at shape what own command open' may calm p = part what own open' may p.line
      (cut_stays m n made (front_calm made p.missed (events_of shape (Some own) reads session command made) calm p.events) p.cut ends)

  -- An act asked by the transaction's session is asked by the session that has it.
  asks_as : (own : OwnTransaction) (what : Act) → own.session ≡ session → Some (asked own.session what) ≡ Some (asked session what)
  asks_as own what same = ap (λ q. Some (asked q what)) same

  -- The machine answers the command's request, if it has one, with the line.
  abbrev Takes : Command → Type 0
  Takes command = IfSome (request_of (Session session) command) (λ request. Answers m reads request line n)

  -- The machine answers each command of a single event with its line.
  line_taken : (shape : Shape) (command : Command) (own : Option OwnTransaction) → is_single command ≡ true
      → OpenAs session own (transaction_of session m)
      → IsCallBy shape false session own (refusal_of command own) (record { command = command; made = made; told = told; reads = reads })
      → Takes command
  line_taken shape (command.Begin checked) None single open' (inl w) =
      let plain = whole (act.Begin false) 0 [] (event.Begin session) refl refl w.events w.line in record {
        outcome = plain.outcome;
        tells = plain.tells;
        allows = begin_allowed m n reads session checked plain.outcome plain.allows;
      }
  line_taken shape (command.Begin checked) None single open' (inr p) = absurd (not_true p.may)
  line_taken shape (command.Begin checked) (Some own) single open' h = refused (act.Begin checked) answer.InTransaction h
      (ap (λ o. step_of m (asked session (act.Begin checked)) o) (one_open session m own open').1)
  line_taken shape (command.Get table key) None single open' h = without_one (act.Get table key) open' h refl
  line_taken shape (command.Get table key) (Some own) single open' (inl w) = whole
      (act.Get table key)
      table
      []
      (event.Get (own_key table key own) table key)
      (asks_as own (act.Get table key) open'.session_is)
      refl
      w.events
      w.line
  line_taken shape (command.Get table key) (Some own) single open' (inr p) =
      cut_at shape (act.Get table key) own (command.Get table key) open' (inl tt) refl p
  line_taken shape (command.Range table low high) None single open' h = without_one (act.Range table low high) open' h refl
  line_taken shape (command.Range table low high) (Some own) single open' (inl w) =
      ranged table low high own open' w.events w.granted w.line
  line_taken shape (command.Range table low high) (Some own) single open' (inr p) =
      cut_at shape (act.Range table low high) own (command.Range table low high) open' (inl tt) refl p
  line_taken shape (command.Insert table row) None single open' h = without_one (act.Insert table row) open' h refl
  line_taken shape (command.Insert table row) (Some own) single open' (inl w) = whole
      (act.Insert table row)
      table
      []
      (event.Insert (own_key table (key_of row) own) table row)
      (asks_as own (act.Insert table row) open'.session_is)
      refl
      w.events
      w.line
  line_taken shape (command.Insert table row) (Some own) single open' (inr p) =
      cut_at shape (act.Insert table row) own (command.Insert table row) open' (inr (inr tt)) refl p
  line_taken shape (command.Update table row) None single open' h = without_one (act.Update table row) open' h refl
  line_taken shape (command.Update table row) (Some own) single open' (inl w) = whole
      (act.Update table row)
      table
      (thaws shape table (key_of row) made)
      (event.Update (own_key table (key_of row) own) table row)
      (asks_as own (act.Update table row) open'.session_is)
      refl
      w.events
      w.line
  line_taken shape (command.Update table row) (Some own) single open' (inr p) = cut_at
      shape
      (act.Update table row)
      own
      (command.Update table row)
      open'
      (inr (inl tt))
      (thaws_calm
      table
      (option_and_then (imaged_block shape table (key_of row)) (parts_before made))
      (event.Update (own_key table (key_of row) own) table row)
      refl)
      p
  line_taken shape (command.Delete table key) None single open' h = without_one (act.Delete table key) open' h refl
  line_taken shape (command.Delete table key) (Some own) single open' (inl w) = whole
      (act.Delete table key)
      table
      (thaws shape table key made)
      (event.Delete (own_key table key own) table key)
      (asks_as own (act.Delete table key) open'.session_is)
      refl
      w.events
      w.line
  line_taken shape (command.Delete table key) (Some own) single open' (inr p) = cut_at
      shape
      (act.Delete table key)
      own
      (command.Delete table key)
      open'
      (inr (inl tt))
      (thaws_calm
      table
      (option_and_then (imaged_block shape table key) (parts_before made))
      (event.Delete (own_key table key own) table key)
      refl)
      p
  line_taken shape command.Commit None single open' h = without_one act.Commit open' h refl
  line_taken shape command.Commit (Some own) single open' (inl w) =
      whole act.Commit 0 [] (event.Commit own reads) (asks_as own act.Commit open'.session_is) refl w.events w.line
  line_taken shape command.Commit (Some own) single open' (inr p) = absurd (not_true p.may)
  line_taken shape command.Abort None single open' h = without_one act.Abort open' h refl
  line_taken shape command.Abort (Some own) single open' (inl w) =
      whole act.Abort 0 [] (event.Abort own) (asks_as own act.Abort open'.session_is) refl w.events w.line
  line_taken shape command.Abort (Some own) single open' (inr p) = absurd (not_true p.may)
  line_taken shape (command.Scan table) own single open' h = absurd (not_true single)
  line_taken shape (command.Total table column low high) own single open' h = absurd (not_true single)
  line_taken shape command.Observe own single open' h = absurd (not_true single)
  line_taken shape command.Prune own single open' h = absurd (not_true single)
  line_taken shape (command.Compact table) own single open' h = absurd (not_true single)
  line_taken shape (command.Seal table block) own single open' h = absurd (not_true single)
  line_taken shape (command.Gather table block) own single open' h = absurd (not_true single)
  line_taken shape (command.Export table) own single open' h = absurd (not_true single)

-- what a session is told the machine answers at the call's last event
pub lines_come_about : LinesComeAbout
lines_come_about shape session front call line machine next single is tells open' ends = line_taken
    session
    call.made
    call.told
    call.reads
    line
    machine
    next
    tells
    ends
    shape
    call.command
    (Rattle.run_spec.specs.Opened.own_after front)
    single
    open'
    is
