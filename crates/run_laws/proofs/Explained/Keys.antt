-- What a session wrote by its own events, the machine's transaction wrote.
use Rattle.std.proofs.Common.{◌≡◌, ◌≢◌, ◌⊎◌, ℕ, ℤ, Bool, true, false, cond, ◌||◌, not, ◌==◌, List, [], ◌∷◌, ◌++◌, length, Option, None, Some, Ordering, Less, Equal, Greater, All, option_map, refl, sym, ap, ◌∙◌, subst, arith}
use mathlib.Core.Logic.{inl, inr}
use Rattle.std.specs.Prelude.{IfSome, Result, Ok, Err, find}
use Rattle.std.specs.BTreeMap.{insert_entry}
use Rattle.std.specs.Map.{keys_of}
use Rattle.std.specs.Option.{option_or}
use Rattle.std.specs.Ordering.{match_ordering}
use Rattle.std.proofs.lemmas.Bool.Decides.{nat_tests}
use Rattle.std.proofs.lemmas.List.Elements.{All-head, All-nil, All-tail}
use Rattle.std.proofs.lemmas.Map.Views.{All-keys-insert_entry}
use Rattle.std.proofs.lemmas.Option.{none-some}
use Rattle.cell_model.specs.declared.cell.Cell.{Cell}
use Rattle.core_laws.proofs.Events.Plain.{plain}
use Rattle.core_laws.specs.Events.Laws.{IsStep, IsTold, command_in}
use Rattle.event_spec.specs.declared.event.Event.TheVariants as event
use Rattle.event_spec.specs.declared.own.OwnTransaction.{OwnTransaction}
use Rattle.event_spec.specs.declared.reply.Reply.TheVariants as reply
use Rattle.event_spec.specs.declared.reply.WriteFault.{WriteFault}
use Rattle.event_spec.specs.declared.reply.WriteFault.TheVariants as fault
use Rattle.event_spec.specs.Effects.{CoreEvent, change_judged, insert_judged, stale_in}
use Rattle.event_spec.specs.Lawful.{reads_handed, session_of}
use Rattle.event_spec.specs.Parts.{Parts, Shape}
use Rattle.event_spec.specs.Replay.{reply_after}
use Rattle.event_spec.specs.Replies.{CoreReply, reply_to, reply_to_commit, reply_to_write}
use Rattle.core_laws.proofs.Following.Machines.{found_session, of-append-new, of-append-other, of-with_own, of-with_own-other, of-without, of-without-own}
use Rattle.isolation_spec.specs.Contents.{History, PlaceMap, WriteSet, key_of, place_at, place_cmp, place_of}
use Rattle.isolation_spec.specs.declared.read.Read.{Read}
use Rattle.isolation_spec.specs.Reads.{ReadSet}
use Rattle.isolation_spec.specs.Machine.{IsolationMachine, Transaction, commit, entered, refusal_of_change, refusal_of_insert, step, step_of, transaction_of, with_own, without, write}
use Rattle.isolation_spec.specs.Machine as machine
use Rattle.isolation_spec.specs.declared.command.Act.{Act}
use Rattle.isolation_spec.specs.declared.command.Act.TheVariants as act
use Rattle.isolation_spec.specs.declared.command.Answer.{Answer}
use Rattle.isolation_spec.specs.declared.command.Answer.TheVariants as answer
use Rattle.isolation_spec.specs.declared.command.Command.{Command as Request}
use Rattle.isolation_spec.specs.declared.place.Place.{Place}
use Rattle.isolation_spec.specs.Contents.{least_key}
use Rattle.workload_spec.specs.Valid.{is_key_number}
use Rattle.run_spec.specs.Calls.{is_final, is_memory}
use Rattle.run_spec.specs.Occurrences.{Logged, Occurrence, occurrence_of, under}
use Rattle.run_spec.specs.Opened.{least_written, own_after, own_behind}
use Rattle.run_spec.specs.Opened as opened
use Rattle.run_laws.proofs.Calls.Commits.{committed_is, stale_stays}
use Rattle.run_laws.proofs.Calls.Coming.{event_stays, is_calm}
use Rattle.run_laws.proofs.Calls.Open.{others_more, own_more}
use Rattle.run_laws.specs.Calls.Open.{IsNamed}
use Rattle.run_laws.specs.Told.Laws.{is_quiet}

-- What is true is not false.
true_false : true ≡ false → ⊥
true_false e = cc

-- ---- quiet events

-- a quiet event leaves what a session has open
pub quiet_own : (own : Option OwnTransaction) (e : CoreEvent) (told : CoreReply) → is_quiet e ≡ true → own_behind own e told ≡ own
quiet_own own (event.Begin session) told q = absurd (true_false (sym q))
quiet_own own (event.Get handed table key) told q = refl
quiet_own own (event.Insert handed table row) told q = absurd (true_false (sym q))
quiet_own own (event.Update handed table row) told q = absurd (true_false (sym q))
quiet_own own (event.Delete handed table key) told q = absurd (true_false (sym q))
quiet_own own (event.Read handed table block) told q = refl
quiet_own own (event.Range handed table low high) told q = refl
quiet_own own (event.Commit handed reads) told q = absurd (true_false (sym q))
quiet_own own (event.Abort handed) told q = absurd (true_false (sym q))
quiet_own own event.Oldest told q = refl
quiet_own own (event.Observe table block) told q = refl
quiet_own own (event.Prune table block oldest) told q = refl
quiet_own own (event.Look table block) told q = refl
quiet_own own (event.Move table moves) told q = absurd (true_false (sym q))
quiet_own own (event.Seal table block) told q = absurd (true_false (sym q))
quiet_own own (event.Image table block image) told q = absurd (true_false (sym q))
quiet_own own (event.Thaw table block) told q = refl

-- A quiet event begins and ends no transaction, and is none that a call ends with.
quiet_calm : (e : CoreEvent) → is_quiet e ≡ true → (is_calm e ≡ true) × (is_final e ≡ false)
quiet_calm (event.Begin session) q = absurd (true_false (sym q))
quiet_calm (event.Get own table key) q = (refl, refl)
quiet_calm (event.Insert own table row) q = absurd (true_false (sym q))
quiet_calm (event.Update own table row) q = absurd (true_false (sym q))
quiet_calm (event.Delete own table key) q = absurd (true_false (sym q))
quiet_calm (event.Read own table block) q = (refl, refl)
quiet_calm (event.Range own table low high) q = (refl, refl)
quiet_calm (event.Commit own reads) q = absurd (true_false (sym q))
quiet_calm (event.Abort own) q = absurd (true_false (sym q))
quiet_calm event.Oldest q = (refl, refl)
quiet_calm (event.Observe table block) q = (refl, refl)
quiet_calm (event.Prune table block oldest) q = (refl, refl)
quiet_calm (event.Look table block) q = (refl, refl)
quiet_calm (event.Move table moves) q = absurd (true_false (sym q))
quiet_calm (event.Seal table block) q = absurd (true_false (sym q))
quiet_calm (event.Image table block image) q = absurd (true_false (sym q))
quiet_calm (event.Thaw table block) q = (refl, refl)

-- and it leaves the machine
pub quiet_stays : (at next : IsolationMachine) (e : CoreEvent) (told : CoreReply) → is_quiet e ≡ true → IsStep (command_in e) (reads_handed e) at told next → next ≡ at
quiet_stays at next e told q step = event_stays at next e told (quiet_calm e q).0 (ap (λ b. is_memory told || not b) (quiet_calm e q).1 ∙ last (is_memory told)) step
  where
    last : (b : Bool) → (b || true) ≡ true
    last true = refl
    last false = refl

-- ---- places of a map

-- A list without elements has no first one.
no_more : {X : Type 0} (x : X) (xs : List X) → [] ≡ x ∷ xs → ⊥
no_more x xs e = cc

-- Lists that are equal have the same first element.
first_of : {X : Type 0} (a b : X) (xs ys : List X) → a ∷ xs ≡ b ∷ ys → a ≡ b
first_of a b xs ys e = cc

-- Lists that are equal have the same elements behind the first.
rest_of : {X : Type 0} (a b : X) (xs ys : List X) → a ∷ xs ≡ b ∷ ys → xs ≡ ys
rest_of a b xs ys e = cc

-- two maps with the same places have the same ones with one more
same_keys : {X Y : Type 0} (xs : PlaceMap X) (ys : PlaceMap Y) (k : Place) (v : X) (w : Y) → keys_of xs ≡ keys_of ys
    → keys_of (insert_entry place_cmp xs k v) ≡ keys_of (insert_entry place_cmp ys k w)
same_keys [] [] k v w e = refl
same_keys [] (y ∷ ys) k v w e = absurd (no_more y.0 (keys_of ys) e)
same_keys (x ∷ xs) [] k v w e = absurd (no_more x.0 (keys_of xs) (sym e))
same_keys (x ∷ xs) (y ∷ ys) k v w e =
    go (place_cmp k x.0) (same_keys xs ys k v w (rest_of x.0 y.0 (keys_of xs) (keys_of ys) e))
    ∙ ap (λ p. keys_of (match_ordering (place_cmp k p) ((k, w) ∷ y ∷ ys) ((y.0, w) ∷ ys) (y ∷ insert_entry place_cmp ys k w))) head
  where
    head : x.0 ≡ y.0
    head = first_of x.0 y.0 (keys_of xs) (keys_of ys) e

    go : (r : Ordering) → keys_of (insert_entry place_cmp xs k v) ≡ keys_of (insert_entry place_cmp ys k w)
        → keys_of (match_ordering r ((k, v) ∷ x ∷ xs) ((x.0, v) ∷ xs) (x ∷ insert_entry place_cmp xs k v))
        ≡ keys_of (match_ordering r ((k, w) ∷ y ∷ ys) ((y.0, w) ∷ ys) (y ∷ insert_entry place_cmp ys k w))
    go Less rest = ap (λ ks. k ∷ ks) e
    go Equal rest = e
    go Greater rest = ap (λ ks. x.0 ∷ ks) rest ∙ ap (λ p. p ∷ keys_of (insert_entry place_cmp ys k w)) head

-- The key of the first of the places that is of the table.
abbrev least_in : ℕ → List Place → Option ℤ
least_in table places = option_map (λ (place : Place). place.key) (find (λ place. place.table == table) places)

-- The first entry of a table has the key of the first place of it.
least_is : {X : Type 0} (table : ℕ) (es : PlaceMap X)
    → option_map (λ (e : Place × X). e.0.key) (find (λ (e : Place × X). e.0.table == table) es) ≡ least_in table (keys_of es)
least_is table [] = refl
least_is {X} table (e ∷ es) = go (e.0.table == table) (least_is table es)
  where
    go : (b : Bool) → option_map (λ (e : Place × X). e.0.key) (find (λ (e : Place × X). e.0.table == table) es) ≡ least_in table (keys_of es)
        → option_map (λ (e : Place × X). e.0.key) (cond b (Some e) (find (λ (e : Place × X). e.0.table == table) es))
        ≡ option_map (λ (place : Place). place.key) (cond b (Some e.0) (find (λ place. place.table == table) (keys_of es)))
    go true rest = refl
    go false rest = rest

-- ---- one transaction

-- the places that a session wrote by its own events
abbrev pub places_own : Option OwnTransaction → Option (List Place)
places_own own = option_map (λ (t : OwnTransaction). keys_of t.writes) own

-- the places that the machine's transaction wrote
abbrev pub places_open : Option Transaction → Option (List Place)
places_open open' = option_map (λ (t : Transaction). keys_of t.own) open'

-- all keys that were written are numbers of 64 bits
abbrev pub KeysFit : Option OwnTransaction → Type 0
KeysFit own = IfSome own (λ t. All (λ (place : Place). is_key_number place.key ≡ true) (keys_of t.writes))

-- Both wrote the same places.
pub record SameKeys (own : Option OwnTransaction) (open' : Option Transaction) : Type 0 where
  pub places : places_own own ≡ places_open open'
  pub fit : KeysFit own

-- what two `Some` hold is the same
pub some_list : (a b : List Place) → Some a ≡ Some b → a ≡ b
some_list a b e = cc

-- so they have the same least key of a table
pub least_same : (table : ℕ) (own : OwnTransaction) (t : Transaction) → keys_of own.writes ≡ keys_of t.own → least_written table own ≡ least_key table t.own
least_same table own t e = least_is table own.writes ∙ ap (least_in table) e ∙ sym (least_is table t.own)

-- ---- a write of the machine

-- What a session asks of the machine.
abbrev asked : ℕ → Act → Request
asked q what = record { session = q; act = what }

-- The answer, if there is one, is not that a write was accepted.
abbrev NotAccepted : Option Answer → Type 0
NotAccepted o = IfSome o (λ said. said ≡ answer.Accepted → ⊥)

-- What refuses a write is not the answer that it was accepted.
refuses : (r : Option Transaction) (l : Option ℕ) (b : Bool) (other : Answer) → (other ≡ answer.Accepted → ⊥)
    → NotAccepted (option_or (option_or (option_map (λ (rival : Transaction). answer.ConflictSession rival.session) r) (option_map (λ (n : ℕ). answer.ConflictCommit n) l)) (cond b (Some other) None))
refuses (Some t) l b other ne = λ e. (let never : ⊥ = cc e in never)
refuses None (Some n) b other ne = λ e. (let never : ⊥ = cc e in never)
refuses None None true other ne = ne
refuses None None false other ne = tt

-- a write is accepted and entered, or leaves the machine
abbrev Goes : IsolationMachine → IsolationMachine → ℕ → Place → Option (List Cell) → Answer → Type 0
Goes m next q place value said =
    ((said ≡ answer.Accepted) × (t : Transaction) × (transaction_of q m ≡ Some t) × (next ≡ with_own t.session place value m))
    ⊎ ((said ≡ answer.Accepted → ⊥) × (next ≡ m))

-- An answer of the machine, with the machine behind it.
abbrev pair : Answer → IsolationMachine → Answer × IsolationMachine
pair said next = (said, next)

-- Steps that are equal have the same answer.
said_is : (a b : Answer × IsolationMachine) → a ≡ b → a.0 ≡ b.0
said_is a b e = ap (λ (p : Answer × IsolationMachine). p.0) e

-- Steps that are equal leave the same machine.
next_is : (a b : Answer × IsolationMachine) → a ≡ b → a.1 ≡ b.1
next_is a b e = ap (λ (p : Answer × IsolationMachine). p.1) e

module _ (m next : IsolationMachine) (q : ℕ) (place : Place) (value : Option (List Cell)) where
  -- A write of an open transaction is accepted and entered, or leaves the machine.
  goes_write : (t : Transaction) (refusal : Option Answer) (said : Answer) → transaction_of q m ≡ Some t → NotAccepted refusal
      → write m t place value refusal ≡ pair said next → Goes m next q place value said
  goes_write t (Some a) said is ne e = inr (λ s. ne (said_is (pair a m) (pair said next) e ∙ s), sym (next_is (pair a m) (pair said next) e))
  goes_write t None said is ne e = inl (
    sym (said_is (pair answer.Accepted (with_own t.session place value m)) (pair said next) e),
    t,
    is,
    sym (next_is (pair answer.Accepted (with_own t.session place value m)) (pair said next) e),
  )

  -- A write without a transaction leaves the machine.
  not_open : (said : Answer) → pair answer.NoTransaction m ≡ pair said next → Goes m next q place value said
  not_open said e = inr (λ s. not_so (said_is (pair answer.NoTransaction m) (pair said next) e ∙ s), sym (next_is (pair answer.NoTransaction m) (pair said next) e))
    where
      not_so : answer.NoTransaction ≡ answer.Accepted → ⊥
      not_so e = cc

-- Where an insert is accepted, the machine goes on with its row among the session's own; else it
-- stays.
insert_goes : (m next : IsolationMachine) (q table : ℕ) (row : List Cell) (said : Answer) → step m (asked q (act.Insert table row)) ≡ pair said next
    → Goes m next q (place_of table row) (Some row) said
insert_goes m next q table row said h = go (transaction_of q m) refl h
  where
    go : (o : Option Transaction) → transaction_of q m ≡ o → step_of m (asked q (act.Insert table row)) o ≡ pair said next → Goes m next q (place_of table row) (Some row) said
    go None is e = not_open m next q (place_of table row) (Some row) said e
    go (Some t) is e = goes_write m next q (place_of table row) (Some row) t (refusal_of_insert m t (place_of table row)) said is
        (refuses _ _ _ answer.Exists (λ x. (let never : ⊥ = cc x in never))) e

-- An update is accepted and entered, or leaves the machine.
update_goes : (m next : IsolationMachine) (q table : ℕ) (row : List Cell) (said : Answer) → step m (asked q (act.Update table row)) ≡ pair said next
    → Goes m next q (place_of table row) (Some row) said
update_goes m next q table row said h = go (transaction_of q m) refl h
  where
    go : (o : Option Transaction) → transaction_of q m ≡ o → step_of m (asked q (act.Update table row)) o ≡ pair said next → Goes m next q (place_of table row) (Some row) said
    go None is e = not_open m next q (place_of table row) (Some row) said e
    go (Some t) is e = goes_write m next q (place_of table row) (Some row) t (refusal_of_change m t (place_of table row)) said is
        (refuses _ _ _ answer.Missing (λ x. (let never : ⊥ = cc x in never))) e

-- A delete is accepted and entered, or leaves the machine.
delete_goes : (m next : IsolationMachine) (q table : ℕ) (key : ℤ) (said : Answer) → step m (asked q (act.Delete table key)) ≡ pair said next
    → Goes m next q (place_at table key) None said
delete_goes m next q table key said h = go (transaction_of q m) refl h
  where
    go : (o : Option Transaction) → transaction_of q m ≡ o → step_of m (asked q (act.Delete table key)) o ≡ pair said next → Goes m next q (place_at table key) None said
    go None is e = not_open m next q (place_at table key) None said e
    go (Some t) is e = goes_write m next q (place_at table key) None t (refusal_of_change m t (place_at table key)) said is
        (refuses _ _ _ answer.Missing (λ x. (let never : ⊥ = cc x in never))) e

-- as it was told
abbrev WriteGoes : IsolationMachine → IsolationMachine → ℕ → Place → Option (List Cell) → CoreReply → Type 0
WriteGoes m next q place value told =
    ((slot : ℕ) × (told ≡ reply.Written slot) × (t : Transaction) × (transaction_of q m ≡ Some t) × (next ≡ with_own t.session place value m))
    ⊎ (((own : OwnTransaction) → opened.with_own place told own ≡ own) × (next ≡ m))

module _ (m next : IsolationMachine) (q : ℕ) (place : Place) (value : Option (List Cell)) (what : Act)
    (goes : (said : Answer) → step m (asked q what) ≡ pair said next → Goes m next q place value said) where
  -- A write that the machine does not accept is entered on neither side.
  refused_goes : (said : Answer) (told : CoreReply) → (said ≡ answer.Accepted → ⊥) → ((own : OwnTransaction) → opened.with_own place told own ≡ own)
      → Goes m next q place value said → WriteGoes m next q place value told
  refused_goes said told ne same (inl g) = absurd (ne g.0)
  refused_goes said told ne same (inr g) = inr (same, g.1)

  -- A write that is granted a slot is entered in the machine.
  granted_goes : (slot : ℕ) → Goes m next q place value answer.Accepted → WriteGoes m next q place value (reply.Written slot)
  granted_goes slot (inl g) = inl (slot, refl, g.1, g.2, g.3)
  granted_goes slot (inr g) = absurd (g.0 refl)

  -- A write goes as it was told, granted, refused, or without memory.
  write_goes : (refused : Bool) (r : Result ℕ WriteFault) → IsTold m None (asked q what) (cond refused reply.Memory (reply_to_write r)) next
      → WriteGoes m next q place value (cond refused reply.Memory (reply_to_write r))
  write_goes true r h = inr (λ own. refl, h.2)
  write_goes false (Ok slot) h = granted_goes slot (goes answer.Accepted (sym (plain m (asked q what)) ∙ h))
  write_goes false (Err (fault.ConflictSession s)) h = refused_goes (answer.ConflictSession s) (reply.Refused (fault.ConflictSession s)) (λ e. (let never : ⊥ = cc e in never)) (λ own. refl) (goes (answer.ConflictSession s) (sym (plain m (asked q what)) ∙ h))
  write_goes false (Err (fault.ConflictCommit n)) h = refused_goes (answer.ConflictCommit n) (reply.Refused (fault.ConflictCommit n)) (λ e. (let never : ⊥ = cc e in never)) (λ own. refl) (goes (answer.ConflictCommit n) (sym (plain m (asked q what)) ∙ h))
  write_goes false (Err fault.Exists) h = refused_goes answer.Exists (reply.Refused fault.Exists) (λ e. (let never : ⊥ = cc e in never)) (λ own. refl) (goes answer.Exists (sym (plain m (asked q what)) ∙ h))
  write_goes false (Err fault.Missing) h = refused_goes answer.Missing (reply.Refused fault.Missing) (λ e. (let never : ⊥ = cc e in never)) (λ own. refl) (goes answer.Missing (sym (plain m (asked q what)) ∙ h))
  write_goes false (Err (fault.Freezing b g)) h = inr (λ own. refl, h.2)
  write_goes false (Err (fault.Full n)) h = inr (λ own. refl, h.2)

-- ---- an event

-- an event keeps it of its session, and leaves the others' transactions
abbrev Keeps : ℕ → CoreEvent → CoreReply → IsolationMachine → IsolationMachine → Type 0
Keeps q e told m next = (own : Option OwnTransaction) → places_own own ≡ places_open (transaction_of q m)
    → (places_own (own_behind own e told) ≡ places_open (transaction_of q next)) × ((r : ℕ) → r ≢ q → transaction_of r next ≡ transaction_of r m)

-- An event that leaves what is open and the machine keeps the places the same.
aside : (q : ℕ) (e : CoreEvent) (told : CoreReply) (m next : IsolationMachine) → ((own : Option OwnTransaction) → own_behind own e told ≡ own) → next ≡ m → Keeps q e told m next
aside q e told m next same stays own was =
    (ap places_own (same own) ∙ was ∙ ap (λ n. places_open (transaction_of q n)) (sym stays), λ r ne. ap (transaction_of r) stays)

-- A write that was granted keeps the places the same, with its own on both sides.
written_keeps : (q : ℕ) (e : CoreEvent) (told : CoreReply) (m next : IsolationMachine) (place : Place) (value : Option (List Cell)) (slot : ℕ) (t : Transaction)
    → ((own : Option OwnTransaction) → own_behind own e told ≡ option_map (opened.with_own place told) own)
    → told ≡ reply.Written slot → transaction_of q m ≡ Some t → next ≡ with_own t.session place value m → Keeps q e told m next
written_keeps q e told m next place value slot t behind is mine n own was = (go own was, others)
  where
    session : t.session ≡ q
    session = found_session q m.open_transactions t mine

    now : transaction_of q next ≡ Some (entered place value t)
    now = ap (transaction_of q) n ∙ ap (λ s. transaction_of q (with_own s place value m)) session ∙ of-with_own q place value m.open_transactions t mine

    others : (r : ℕ) → r ≢ q → transaction_of r next ≡ transaction_of r m
    others r ne = ap (transaction_of r) n ∙ of-with_own-other r t.session place value m.open_transactions (λ e. ne (e ∙ session))

    go : (own : Option OwnTransaction) → places_own own ≡ places_open (transaction_of q m) → places_own (own_behind own e told) ≡ places_open (transaction_of q next)
    go None was = absurd (none-some (keys_of t.own) (was ∙ ap places_open mine))
    go (Some o) was =
        ap places_own (behind (Some o))
        ∙ ap (λ r. Some (keys_of (opened.with_own place r o).writes)) is
        ∙ ap (λ ks. Some ks) (same_keys o.writes t.own place slot value (some_list (keys_of o.writes) (keys_of t.own) (was ∙ ap places_open mine)))
        ∙ ap places_open (sym now)

-- A write that goes as it was told keeps the places the same.
writes_keep : (q : ℕ) (e : CoreEvent) (told : CoreReply) (m next : IsolationMachine) (place : Place) (value : Option (List Cell))
    → ((own : Option OwnTransaction) → own_behind own e told ≡ option_map (opened.with_own place told) own)
    → WriteGoes m next q place value told → Keeps q e told m next
writes_keep q e told m next place value behind (inr h) = aside q e told m next (λ own. behind own ∙ same own) h.1
  where
    same : (own : Option OwnTransaction) → option_map (opened.with_own place told) own ≡ own
    same None = refl
    same (Some t) = ap Some (h.0 t)
writes_keep q e told m next place value behind (inl h) = written_keeps q e told m next place value h.0 h.2 behind h.1 h.3 h.4

-- what a session's step leaves open
record Leaves (q : ℕ) (m next : IsolationMachine) (left : Option Transaction) : Type 0 where
  own : transaction_of q next ≡ left
  others : (r : ℕ) → r ≢ q → transaction_of r next ≡ transaction_of r m

-- A begin leaves its session a new transaction, and the others theirs.
begin_leaves : (m next : IsolationMachine) (q number : ℕ) → step m (asked q (act.Begin false)) ≡ pair (answer.At number) next
    → Leaves q m next (Some (record { session = q; snapshot = length m.history; own = [] }))
begin_leaves m next q number h = go (transaction_of q m) refl h
  where
    new : Transaction
    new = record { session = q; snapshot = length m.history; own = [] }

    not_within : answer.InTransaction ≡ answer.At number → ⊥
    not_within e = cc

    go : (o : Option Transaction) → transaction_of q m ≡ o → step_of m (asked q (act.Begin false)) o ≡ pair (answer.At number) next
        → Leaves q m next (Some (record { session = q; snapshot = length m.history; own = [] }))
    go (Some t) is e = absurd (not_within (said_is (pair answer.InTransaction m) (pair (answer.At number) next) e))
    go None is e =
        let there : record m { open_transactions = m.open_transactions ++ new ∷ [] } ≡ next =
        next_is (pair (answer.At (length m.history)) (record m { open_transactions = m.open_transactions ++ new ∷ [] })) (pair (answer.At number) next) e in
        record {
          own = ap (transaction_of q) (sym there) ∙ of-append-new m.open_transactions new is;
          others = λ r ne. ap (transaction_of r) (sym there) ∙ of-append-other r m.open_transactions new (λ e. ne (sym e));
        }

-- A transaction that is taken out leaves its session none, and the others theirs.
without_leaves : (m next : IsolationMachine) (q : ℕ) (t : Transaction) → transaction_of q m ≡ Some t
    → next.open_transactions ≡ (without t.session m).open_transactions → Leaves q m next None
without_leaves m next q t is e =
    let same : t.session ≡ q = found_session q m.open_transactions t is in record {
      own = ap (λ ts. Rattle.core_laws.proofs.Following.Machines.of q ts) e ∙ ap (λ n. transaction_of q (without n m)) same ∙ of-without-own q m.open_transactions;
      others = λ r ne. ap (λ ts. Rattle.core_laws.proofs.Following.Machines.of r ts) e ∙ of-without r t.session m.open_transactions (λ e. ne (e ∙ same));
    }

-- A commit leaves its session no transaction, and the others theirs.
commit_leaves : (m next : IsolationMachine) (q : ℕ) (number : Option ℕ) → step m (asked q act.Commit) ≡ pair (answer.Committed number) next → Leaves q m next None
commit_leaves m next q number h = go (transaction_of q m) refl h
  where
    ended : (t : Transaction) (own : WriteSet) → commit m t own ≡ pair (answer.Committed number) next
        → next.open_transactions ≡ (without t.session m).open_transactions
    ended t [] e = ap (λ (p : Answer × IsolationMachine). p.1.open_transactions) (sym e)
    ended t (first ∷ rest) e = ap (λ (p : Answer × IsolationMachine). p.1.open_transactions) (sym e)

    not_committed : answer.NoTransaction ≡ answer.Committed number → ⊥
    not_committed e = cc

    go : (o : Option Transaction) → transaction_of q m ≡ o → step_of m (asked q act.Commit) o ≡ pair (answer.Committed number) next → Leaves q m next None
    go None is e = absurd (not_committed (said_is (pair answer.NoTransaction m) (pair (answer.Committed number) next) e))
    go (Some t) is e = without_leaves m next q t is (ended t t.own e)

-- An abort leaves its session no transaction, and the others theirs.
abort_leaves : (m next : IsolationMachine) (q : ℕ) → step m (asked q act.Abort) ≡ pair answer.Aborted next → Leaves q m next None
abort_leaves m next q h = go (transaction_of q m) refl h
  where
    not_aborted : answer.NoTransaction ≡ answer.Aborted → ⊥
    not_aborted e = cc

    go : (o : Option Transaction) → transaction_of q m ≡ o → step_of m (asked q act.Abort) o ≡ pair answer.Aborted next → Leaves q m next None
    go None is e = absurd (not_aborted (said_is (pair answer.NoTransaction m) (pair answer.Aborted next) e))
    go (Some t) is e = without_leaves m next q t is (ap (λ (p : Answer × IsolationMachine). p.1.open_transactions) (sym e))

-- A step that leaves open what the session's events do keeps the places the same.
leaves_keep : (q session : ℕ) (e : CoreEvent) (told : CoreReply) (m next : IsolationMachine) (left : Option Transaction) → session ≡ q
    → ((own : Option OwnTransaction) → places_own (own_behind own e told) ≡ places_open left) → Leaves session m next left → Keeps q e told m next
leaves_keep q session e told m next left same behind leaves own was = (
  behind own ∙ ap places_open (sym (ap (λ n. transaction_of n next) (sym same) ∙ leaves.own)),
  λ r ne. leaves.others r (λ e. ne (e ∙ same)),
)

module _ (shape : Shape) (parts : Parts) (q : ℕ) (m next : IsolationMachine) where
  -- What an event is told: its reply, or the lack of memory.
  abbrev told_to : CoreEvent → Bool → CoreReply
  told_to e refused = cond refused reply.Memory (reply_to shape parts e)

  -- A begin keeps the places the same on both sides.
  begin_keeps : (session : ℕ) (refused : Bool) → session ≡ q → IsStep (command_in (event.Begin session)) (reads_handed (event.Begin session)) m (told_to (event.Begin session) refused) next
      → Keeps q (event.Begin session) (told_to (event.Begin session) refused) m next
  begin_keeps session true same (inl h, some, rest) own was = absurd h
  begin_keeps session true same (inr (inl h), some, rest) own was = absurd h
  begin_keeps session true same (inr (inr h), some, rest) own was = absurd h
  begin_keeps session false same h own was =
      leaves_keep q session (event.Begin session) (told_to (event.Begin session) false) m next (Some (record { session = session; snapshot = length m.history; own = [] })) same
      (λ own. refl) (begin_leaves m next session _ h) own was

  -- A commit keeps the places the same on both sides.
  commit_keeps : (handed : OwnTransaction) (reads : Option ReadSet) (refused : Bool) → handed.session ≡ q → IsStep (command_in (event.Commit handed reads)) (reads_handed (event.Commit handed reads)) m (told_to (event.Commit handed reads) refused) next
      → Keeps q (event.Commit handed reads) (told_to (event.Commit handed reads) refused) m next
  commit_keeps handed reads true same (inl h, some, rest) own was = absurd h
  commit_keeps handed reads true same (inr (inl h), some, rest) own was = absurd h
  commit_keeps handed reads true same (inr (inr h), some, rest) own was = absurd h
  commit_keeps handed reads false same h own was = go (stale_in shape parts handed reads) h own was
    where
      go : (o : Option (Read × ℕ)) → IsTold m reads (asked handed.session act.Commit) (reply_to_commit shape parts handed o) next
          → Keeps q (event.Commit handed reads) (reply_to_commit shape parts handed o) m next
      go None h = leaves_keep q handed.session (event.Commit handed reads) (reply_to_commit shape parts handed None) m next None same (λ own. refl)
          (commit_leaves m next handed.session _ (committed_is m next reads handed.session _ h))
      go (Some stale) h = aside q (event.Commit handed reads) (reply_to_commit shape parts handed (Some stale)) m next (λ own. refl)
          (stale_stays m next reads handed.session stale.0 stale.1 h)

  -- An abort keeps the places the same on both sides.
  abort_keeps : (handed : OwnTransaction) (refused : Bool) → handed.session ≡ q → IsStep (command_in (event.Abort handed)) (reads_handed (event.Abort handed)) m (told_to (event.Abort handed) refused) next
      → Keeps q (event.Abort handed) (told_to (event.Abort handed) refused) m next
  abort_keeps handed true same (inl h, some, rest) own was = absurd h
  abort_keeps handed true same (inr (inl h), some, rest) own was = absurd h
  abort_keeps handed true same (inr (inr h), some, rest) own was = absurd h
  abort_keeps handed false same h own was =
      leaves_keep q handed.session (event.Abort handed) (told_to (event.Abort handed) false) m next None same (λ own. refl) (abort_leaves m next handed.session h) own was

  -- A quiet event keeps the places the same on both sides.
  quiet_keeps : (e : CoreEvent) (told : CoreReply) → is_quiet e ≡ true → IsStep (command_in e) (reads_handed e) m told next → Keeps q e told m next
  quiet_keeps e told quiet h = aside q e told m next (λ own. quiet_own own e told quiet) (quiet_stays m next e told quiet h)

  -- an event, whatever it is
  event_keeps : (e : CoreEvent) (refused : Bool) → IfSome (session_of e) (λ session. session ≡ q)
      → IsStep (command_in e) (reads_handed e) m (told_to e refused) next → Keeps q e (told_to e refused) m next
  event_keeps (event.Begin session) refused same h = begin_keeps session refused same h
  event_keeps (event.Get handed table key) refused same h = quiet_keeps (event.Get handed table key) (told_to (event.Get handed table key) refused) refl h
  event_keeps (event.Insert handed table row) refused same h =
      writes_keep q (event.Insert handed table row) (told_to (event.Insert handed table row) refused) m next (place_of table row) (Some row) (λ own. refl)
      (subst (λ s. WriteGoes m next s (place_of table row) (Some row) (told_to (event.Insert handed table row) refused)) same
      (write_goes m next handed.session (place_of table row) (Some row) (act.Insert table row) (insert_goes m next handed.session table row) refused (insert_judged shape parts handed table (key_of row)) h))
  event_keeps (event.Update handed table row) refused same h =
      writes_keep q (event.Update handed table row) (told_to (event.Update handed table row) refused) m next (place_of table row) (Some row) (λ own. refl)
      (subst (λ s. WriteGoes m next s (place_of table row) (Some row) (told_to (event.Update handed table row) refused)) same
      (write_goes m next handed.session (place_of table row) (Some row) (act.Update table row) (update_goes m next handed.session table row) refused (change_judged shape parts handed table (key_of row)) h))
  event_keeps (event.Delete handed table key) refused same h =
      writes_keep q (event.Delete handed table key) (told_to (event.Delete handed table key) refused) m next (place_at table key) None (λ own. refl)
      (subst (λ s. WriteGoes m next s (place_at table key) None (told_to (event.Delete handed table key) refused)) same
      (write_goes m next handed.session (place_at table key) None (act.Delete table key) (delete_goes m next handed.session table key) refused (change_judged shape parts handed table key) h))
  event_keeps (event.Read handed table block) refused same h = quiet_keeps (event.Read handed table block) (told_to (event.Read handed table block) refused) refl h
  event_keeps (event.Range handed table low high) refused same h = quiet_keeps (event.Range handed table low high) (told_to (event.Range handed table low high) refused) refl h
  event_keeps (event.Commit handed reads) refused same h = commit_keeps handed reads refused same h
  event_keeps (event.Abort handed) refused same h = abort_keeps handed refused same h
  event_keeps event.Oldest refused same h = quiet_keeps event.Oldest (told_to event.Oldest refused) refl h
  event_keeps (event.Observe table block) refused same h = quiet_keeps (event.Observe table block) (told_to (event.Observe table block) refused) refl h
  event_keeps (event.Prune table block oldest) refused same h = quiet_keeps (event.Prune table block oldest) (told_to (event.Prune table block oldest) refused) refl h
  event_keeps (event.Look table block) refused same h = quiet_keeps (event.Look table block) (told_to (event.Look table block) refused) refl h
  event_keeps (event.Move table moves) refused same h = aside q (event.Move table moves) (told_to (event.Move table moves) refused) m next (λ own. refl) h
  event_keeps (event.Seal table block) refused same h = aside q (event.Seal table block) (told_to (event.Seal table block) refused) m next (λ own. refl) h
  event_keeps (event.Image table block image) refused same h = aside q (event.Image table block image) (told_to (event.Image table block image) refused) m next (λ own. refl) h
  event_keeps (event.Thaw table block) refused same h = quiet_keeps (event.Thaw table block) (told_to (event.Thaw table block) refused) refl h

-- ---- keys of 64 bits

-- the key that the event writes, if it is a write, is a number of 64 bits
abbrev pub KeyFits : CoreEvent → Type 0
KeyFits (event.Begin session) = Unit {0}
KeyFits (event.Get own table key) = Unit {0}
KeyFits (event.Insert own table row) = is_key_number (key_of row) ≡ true
KeyFits (event.Update own table row) = is_key_number (key_of row) ≡ true
KeyFits (event.Delete own table key) = is_key_number key ≡ true
KeyFits (event.Read own table block) = Unit {0}
KeyFits (event.Range own table low high) = Unit {0}
KeyFits (event.Commit own reads) = Unit {0}
KeyFits (event.Abort own) = Unit {0}
KeyFits event.Oldest = Unit {0}
KeyFits (event.Observe table block) = Unit {0}
KeyFits (event.Prune table block oldest) = Unit {0}
KeyFits (event.Look table block) = Unit {0}
KeyFits (event.Move table moves) = Unit {0}
KeyFits (event.Seal table block) = Unit {0}
KeyFits (event.Image table block image) = Unit {0}
KeyFits (event.Thaw table block) = Unit {0}

-- a quiet event writes none
pub quiet_fits : (e : CoreEvent) → is_quiet e ≡ true → KeyFits e
quiet_fits (event.Insert own table row) q = absurd (true_false (sym q))
quiet_fits (event.Update own table row) q = absurd (true_false (sym q))
quiet_fits (event.Delete own table key) q = absurd (true_false (sym q))
quiet_fits (event.Begin session) q = tt
quiet_fits (event.Get own table key) q = tt
quiet_fits (event.Read own table block) q = tt
quiet_fits (event.Range own table low high) q = tt
quiet_fits (event.Commit own reads) q = tt
quiet_fits (event.Abort own) q = tt
quiet_fits event.Oldest q = tt
quiet_fits (event.Observe table block) q = tt
quiet_fits (event.Prune table block oldest) q = tt
quiet_fits (event.Look table block) q = tt
quiet_fits (event.Move table moves) q = tt
quiet_fits (event.Seal table block) q = tt
quiet_fits (event.Image table block image) q = tt
quiet_fits (event.Thaw table block) q = tt

-- A write of a key of 64 bits leaves the keys of a transaction such keys.
with_own_fits : (place : Place) (told : CoreReply) (t : OwnTransaction) → is_key_number place.key ≡ true → KeysFit (Some t) → KeysFit (Some (opened.with_own place told t))
with_own_fits place (reply.Written slot) t fits all = All-keys-insert_entry place_cmp place slot (λ (place : Place). is_key_number place.key ≡ true) t.writes all fits
with_own_fits place _ t fits all = all

-- A write of a key of 64 bits leaves the keys of what is open such keys.
writes_fit : (place : Place) (told : CoreReply) (own : Option OwnTransaction) → is_key_number place.key ≡ true → KeysFit own → KeysFit (option_map (opened.with_own place told) own)
writes_fit place told None fits all = tt
writes_fit place told (Some t) fits all = with_own_fits place told t fits all

-- A commit, refused or not, leaves the keys of what is open such keys.
commit_fits : (told : CoreReply) (own : Option OwnTransaction) → KeysFit own → KeysFit (opened.committed_by own told)
commit_fits (reply.Stale what number) own all = all
commit_fits _ own all = tt

-- An event of a key of 64 bits leaves the keys of what is open such keys.
event_fits : (shape : Shape) (parts : Parts) (e : CoreEvent) (refused : Bool) (own : Option OwnTransaction) → KeyFits e → KeysFit own
    → KeysFit (own_behind own e (cond refused reply.Memory (reply_to shape parts e)))
event_fits shape parts (event.Begin session) true own fits all = all
event_fits shape parts (event.Begin session) false own fits all = All-nil (λ (place : Place). is_key_number place.key ≡ true)
event_fits shape parts (event.Get handed table key) refused own fits all = all
event_fits shape parts (event.Insert handed table row) refused own fits all = writes_fit (place_of table row) (cond refused reply.Memory (reply_to shape parts (event.Insert handed table row))) own fits all
event_fits shape parts (event.Update handed table row) refused own fits all = writes_fit (place_of table row) (cond refused reply.Memory (reply_to shape parts (event.Update handed table row))) own fits all
event_fits shape parts (event.Delete handed table key) refused own fits all = writes_fit (place_at table key) (cond refused reply.Memory (reply_to shape parts (event.Delete handed table key))) own fits all
event_fits shape parts (event.Read handed table block) refused own fits all = all
event_fits shape parts (event.Range handed table low high) refused own fits all = all
event_fits shape parts (event.Commit handed reads) refused own fits all = commit_fits (cond refused reply.Memory (reply_to shape parts (event.Commit handed reads))) own all
event_fits shape parts (event.Abort handed) refused own fits all = tt
event_fits shape parts event.Oldest refused own fits all = all
event_fits shape parts (event.Observe table block) refused own fits all = all
event_fits shape parts (event.Prune table block oldest) refused own fits all = all
event_fits shape parts (event.Look table block) refused own fits all = all
event_fits shape parts (event.Move table moves) refused own fits all = all
event_fits shape parts (event.Seal table block) refused own fits all = all
event_fits shape parts (event.Image table block image) refused own fits all = all
event_fits shape parts (event.Thaw table block) refused own fits all = all

-- the least key that was written is one
pub least_fits : (table : ℕ) (own : OwnTransaction) (key : ℤ) → KeysFit (Some own) → least_written table own ≡ Some key → is_key_number key ≡ true
least_fits table own key fit is = go (keys_of own.writes) fit (sym (least_is table own.writes) ∙ is)
  where
    same : (a b : ℤ) → Some a ≡ Some b → a ≡ b
    same a b e = cc

    go : (places : List Place) → All (λ (place : Place). is_key_number place.key ≡ true) places → least_in table places ≡ Some key → is_key_number key ≡ true
    go [] all e = absurd (let never : ⊥ = cc e in never)
    go (p ∷ places) all e = at (p.table == table) e (go places (All-tail (λ (place : Place). is_key_number place.key ≡ true) p places all))
      where
        at : (b : Bool) → option_map (λ (place : Place). place.key) (cond b (Some p) (find (λ place. place.table == table) places)) ≡ Some key
            → (least_in table places ≡ Some key → is_key_number key ≡ true) → is_key_number key ≡ true
        at true e rest = ap is_key_number (sym (same p.key key e)) ∙ All-head (λ (place : Place). is_key_number place.key ≡ true) p places all
        at false e rest = rest e

-- ---- one event more

-- each session's own transaction and the machine's wrote the same places
abbrev pub KeysAgree : List Occurrence → IsolationMachine → Type 0
KeysAgree front at = (session : ℕ) → SameKeys (own_after (under session front)) (transaction_of session at)

-- at the start nothing is open, so nothing was written
pub no_keys : (first : History) → KeysAgree [] (machine.opening_from first)
no_keys first session = record { places = refl; fit = tt }

-- Two numbers are equal, or they are not.
same_or_not : (a b : ℕ) → (a ≡ b) ⊎ (a ≢ b)
same_or_not a b = go (a == b) refl
  where
    go : (t : Bool) → (a == b) ≡ t → (a ≡ b) ⊎ (a ≢ b)
    go true e = inl (grind (arith, nat_tests))
    go false e = inr (λ s. absurd (grind (arith, nat_tests)))

-- the two wrote the same places behind one event more
pub keys_go : (shape : Shape) (parts : Parts) (entry : Logged) (front : List Occurrence) (m next : IsolationMachine)
    → IsNamed entry → KeyFits entry.made.event → IsStep (command_in entry.made.event) (reads_handed entry.made.event) m (reply_after shape parts entry.made) next
    → KeysAgree front m → KeysAgree (front ++ occurrence_of shape parts entry ∷ []) next
keys_go shape parts entry front m next named fits h agrees r = of_any (same_or_not r entry.session)
  where
    kept : (places_own (own_behind (own_after (under entry.session front)) entry.made.event (reply_after shape parts entry.made)) ≡ places_open (transaction_of entry.session next))
        × ((r : ℕ) → r ≢ entry.session → transaction_of r next ≡ transaction_of r m)
    kept = event_keeps shape parts entry.session m next entry.made.event entry.made.refused named h (own_after (under entry.session front)) (agrees entry.session).places

    own : SameKeys (own_after (under entry.session (front ++ occurrence_of shape parts entry ∷ []))) (transaction_of entry.session next)
    own = subst (λ o. SameKeys o (transaction_of entry.session next)) (sym (own_more entry.session front (occurrence_of shape parts entry) refl))
        (record { places = kept.0; fit = event_fits shape parts entry.made.event entry.made.refused (own_after (under entry.session front)) fits (agrees entry.session).fit })

    of_any : (r ≡ entry.session) ⊎ (r ≢ entry.session) → SameKeys (own_after (under r (front ++ occurrence_of shape parts entry ∷ []))) (transaction_of r next)
    of_any (inl same) = subst (λ n. SameKeys (own_after (under n (front ++ occurrence_of shape parts entry ∷ []))) (transaction_of n next)) (sym same) own
    of_any (inr ne) =
        subst (λ o. SameKeys o (transaction_of r next)) (sym (others_more r front (occurrence_of shape parts entry) (λ e. ne (sym e))))
        (subst (λ o. SameKeys (own_after (under r front)) o) (sym (kept.1 r ne)) (agrees r))
