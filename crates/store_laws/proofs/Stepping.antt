-- Steps of the machine: what they leave of other sessions' transactions and of the commits, and what
-- each command makes of its own session's.
use Rattle.std.proofs.Common.{◌≡◌, ◌≢◌, ◌⊎◌, ℕ, ◌+◌, ◌≤◌, ℤ, Bool, true, false, cond, List, [], ◌∷◌, ◌++◌, Option, None, Some, is_none, is_some, length, option_map, refl, sym, ap, subst, ◌∙◌, append-nil, append_assoc, arith}
use mathlib.Core.Logic.{inl, inr}
use Rattle.std.specs.Prelude.{IsSomeAnd, option_and_then}
use Rattle.std.specs.BTreeMap.{insert_entry}
use Rattle.std.specs.Option.{option_map_or, option_or}
use Rattle.std.proofs.lemmas.List.{length_push, take-append-le}
use Rattle.block_spec.specs.Slots.{Row}
use Rattle.core_laws.proofs.Following.Machines.{found_session, of-append-new, of-append-other, of-with_own, of-with_own-other, of-without}
use Rattle.core_laws.specs.Events.Laws.{IsStep, IsTold, command_in, outcome_of}
use Rattle.event_spec.specs.declared.event.Event.TheVariants as event
use Rattle.event_spec.specs.declared.reply.Reply.TheVariants as reply
use Rattle.event_spec.specs.declared.reply.WriteFault.{WriteFault}
use Rattle.event_spec.specs.declared.reply.WriteFault.TheVariants as fault
use Rattle.event_spec.specs.Effects.{CoreEvent}
use Rattle.event_spec.specs.Lawful.{reads_handed, session_of}
use Rattle.event_spec.specs.Replies.{CoreReply}
use Rattle.isolation_spec.specs.Contents.{History, WriteSet, at_place, contents_between, laid_over, place_at, place_cmp, place_of, state_at}
use Rattle.isolation_spec.specs.declared.command.Act.{Act}
use Rattle.isolation_spec.specs.declared.command.Act.TheVariants as act
use Rattle.isolation_spec.specs.declared.command.Answer.{Answer}
use Rattle.isolation_spec.specs.declared.command.Answer.TheVariants as answer
use Rattle.isolation_spec.specs.declared.command.Command.{Command}
use Rattle.isolation_spec.specs.declared.place.Place.{Place}
use Rattle.isolation_spec.specs.declared.read.Read.{Read}
use Rattle.isolation_spec.specs.Checked.{stale_of, stale_read, step_with}
use Rattle.isolation_spec.specs.Reads.{ReadSet}
use Rattle.isolation_spec.specs.Machine.{IsolationMachine, Transaction, commit, conflict_of, later_writers, refusal_of_change, refusal_of_insert, rival_of, seen_rows, step, step_of, step_within, step_without, transaction_of, with_own, without, write}
use Rattle.isolation_spec.specs.Store.{Allows, Outcome}
use Rattle.isolation_spec.specs.Store as store
use Rattle.cell_model.specs.declared.cell.Cell.{Cell}
use Rattle.std.specs.List.{last_or}
use Rattle.run_spec.specs.Occurrences.{Occurrence}
use Rattle.store_laws.specs.Machines.{AddsCommit, HasMore, HasOpenIn, left_by, moved_on, rows_seen, stale_since}

-- ---- what a step leaves of others

-- The transaction of a session is as it was, and so are the commits, but that more may be behind.
pub record Leaves (q : ℕ) (before next : IsolationMachine) : Type 0 where
  pub same : transaction_of q next ≡ transaction_of q before
  pub more : HasMore before.history next.history

-- nothing was done
pub left_alone : (q : ℕ) (m : IsolationMachine) → Leaves q m m
left_alone q m = record { same = refl; more = ([], sym (append-nil m.history)) }

-- commits with more behind them, and more again
pub more_again : (first second third : History) → HasMore first second → HasMore second third → HasMore first third
more_again first second third a b = (a.0 ++ b.0, b.1 ∙ ap (λ (h : History). h ++ b.0) a.1 ∙ append_assoc first a.0 b.0)

-- one step behind another
pub left_on : (q : ℕ) (first second third : IsolationMachine) → Leaves q first second → Leaves q second third → Leaves q first third
left_on q first second third a b = record { same = b.same ∙ a.same; more = more_again first.history second.history third.history a.more b.more }

write_leaves : (q : ℕ) (m : IsolationMachine) (t : Transaction) (place : Place) (change : Option (List Cell)) (refusal : Option Answer) → q ≢ t.session → Leaves q m (write m t place change refusal).1
write_leaves q m t place change (Some said) ne = left_alone q m
write_leaves q m t place change None ne = record { same = of-with_own-other q t.session place change m.open_transactions ne; more = ([], sym (append-nil m.history)) }

commit_leaves : (q : ℕ) (m : IsolationMachine) (t : Transaction) (own : WriteSet) → q ≢ t.session → Leaves q m (commit m t own).1
commit_leaves q m t [] ne = record { same = of-without q t.session m.open_transactions ne; more = ([], sym (append-nil m.history)) }
commit_leaves q m t (first ∷ rest) ne = record { same = of-without q t.session m.open_transactions ne; more = (t.own ∷ [], refl) }

within_leaves : (q : ℕ) (m : IsolationMachine) (t : Transaction) (what : Act) → q ≢ t.session → Leaves q m (step_within m t what).1
within_leaves q m t (act.Begin checked) ne = left_alone q m
within_leaves q m t (act.Get table key) ne = left_alone q m
within_leaves q m t (act.Scan table) ne = left_alone q m
within_leaves q m t (act.Range table low high) ne = left_alone q m
within_leaves q m t (act.Total table column low high) ne = left_alone q m
within_leaves q m t (act.Insert table row) ne = write_leaves q m t (place_of table row) (Some row) (refusal_of_insert m t (place_of table row)) ne
within_leaves q m t (act.Update table row) ne = write_leaves q m t (place_of table row) (Some row) (refusal_of_change m t (place_of table row)) ne
within_leaves q m t (act.Delete table key) ne = write_leaves q m t (place_at table key) None (refusal_of_change m t (place_at table key)) ne
within_leaves q m t act.Commit ne = commit_leaves q m t t.own ne
within_leaves q m t act.Abort ne = record { same = of-without q t.session m.open_transactions ne; more = ([], sym (append-nil m.history)) }

without_leaves : (q : ℕ) (m : IsolationMachine) (r : ℕ) (what : Act) → r ≢ q → Leaves q m (step_without m r what).1
without_leaves q m r (act.Begin checked) ne = record {
  same = of-append-other q m.open_transactions (record { session = r; snapshot = length m.history; own = [] }) ne;
  more = ([], sym (append-nil m.history));
}
without_leaves q m r (act.Get table key) ne = left_alone q m
without_leaves q m r (act.Scan table) ne = left_alone q m
without_leaves q m r (act.Range table low high) ne = left_alone q m
without_leaves q m r (act.Total table column low high) ne = left_alone q m
without_leaves q m r (act.Insert table row) ne = left_alone q m
without_leaves q m r (act.Update table row) ne = left_alone q m
without_leaves q m r (act.Delete table key) ne = left_alone q m
without_leaves q m r act.Commit ne = left_alone q m
without_leaves q m r act.Abort ne = left_alone q m

step_leaves : (q : ℕ) (m : IsolationMachine) (command : Command) → command.session ≢ q → Leaves q m (step m command).1
step_leaves q m command ne = go (transaction_of command.session m) refl
  where
    go : (o : Option Transaction) → transaction_of command.session m ≡ o → Leaves q m (step_of m command o).1
    go None is = without_leaves q m command.session command.act ne
    go (Some t) is = within_leaves q m t command.act (λ e. ne (sym (found_session command.session m.open_transactions t is) ∙ sym e))

-- a commit that is refused leaves all, and what isn't is a step of the machine
abbrev step_unless : IsolationMachine → Command → Option (Read × ℕ) → Answer × IsolationMachine
step_unless m command (Some stale) = (answer.Stale stale.0 stale.1, m)
step_unless m command None = step m command

step_is : (m : IsolationMachine) (reads : Option ReadSet) (command : Command) → step_with m reads command ≡ step_unless m command (stale_of m reads command.session command.act)
step_is m reads command = go (stale_of m reads command.session command.act)
  where
    go : (o : Option (Read × ℕ)) → (elim o [ Some stale ↦ (answer.Stale stale.0 stale.1, m) | None ↦ step m command ]) ≡ step_unless m command o
    go (Some stale) = refl
    go None = refl

step_with_leaves : (q : ℕ) (m : IsolationMachine) (reads : Option ReadSet) (command : Command) → command.session ≢ q → Leaves q m (step_with m reads command).1
step_with_leaves q m reads command ne =
    subst (λ (p : Answer × IsolationMachine). Leaves q m p.1) (sym (step_is m reads command)) (go (stale_of m reads command.session command.act))
  where
    go : (o : Option (Read × ℕ)) → Leaves q m (step_unless m command o).1
    go (Some stale) = left_alone q m
    go None = step_leaves q m command ne

-- An event that is a command is one of its own session.
asked_by : (e : CoreEvent) → (option_map (λ (c : Command). c.session) (command_in e) ≡ session_of e) ⊎ (command_in e ≡ None)
asked_by (event.Begin session) = inl refl
asked_by (event.Get own table key) = inl refl
asked_by (event.Insert own table row) = inl refl
asked_by (event.Update own table row) = inl refl
asked_by (event.Delete own table key) = inl refl
asked_by (event.Read own table block) = inr refl
asked_by (event.Range own table low high) = inl refl
asked_by (event.Commit own reads) = inl refl
asked_by (event.Abort own) = inl refl
asked_by event.Oldest = inl refl
asked_by (event.Observe table block) = inl refl
asked_by (event.Prune table block oldest) = inl refl
asked_by (event.Look table block) = inl refl
asked_by (event.Move table moves) = inl refl
asked_by (event.Seal table block) = inl refl
asked_by (event.Image table block image) = inl refl
asked_by (event.Thaw table block) = inl refl

-- what the machine is behind an event, by its command and by its reply
abbrev moved_by : IsolationMachine → Option ReadSet → Option Command → CoreReply → IsolationMachine
moved_by m reads command told = option_map_or (λ c. option_map_or (left_by m reads c) (outcome_of c.act told) m) command m

-- an event that is no command leaves all
pub quiet_leaves : (q : ℕ) (m : IsolationMachine) (o : Occurrence) → command_in o.event ≡ None → Leaves q m (moved_on m o)
quiet_leaves q m o none' = subst (λ c. Leaves q m (moved_by m (reads_handed o.event) c o.reply)) (sym none') (left_alone q m)

-- an event of another session leaves a session's transaction
pub other_leaves : (q : ℕ) (m : IsolationMachine) (o : Occurrence) → session_of o.event ≢ Some q → Leaves q m (moved_on m o)
other_leaves q m o ne = go (asked_by o.event)
  where
    outcome : (c : Command) → c.session ≢ q → (r : Option Outcome) → Leaves q m (option_map_or (left_by m (reads_handed o.event) c) r m)
    outcome c apart None = left_alone q m
    outcome c apart (Some (store.Answered said)) = step_with_leaves q m (reads_handed o.event) c apart
    outcome c apart (Some store.Freezing) = left_alone q m
    outcome c apart (Some store.Full) = left_alone q m
    outcome c apart (Some store.Memory) = left_alone q m

    command : (c : Option Command) → option_map (λ (c : Command). c.session) c ≡ session_of o.event → Leaves q m (moved_by m (reads_handed o.event) c o.reply)
    command None is = left_alone q m
    command (Some c) is = outcome c (λ e. ne (sym is ∙ ap Some e)) (outcome_of c.act o.reply)

    go : (option_map (λ (c : Command). c.session) (command_in o.event) ≡ session_of o.event) ⊎ (command_in o.event ≡ None) → Leaves q m (moved_on m o)
    go (inl is) = command (command_in o.event) is
    go (inr none') = quiet_leaves q m o none'

-- commits never become fewer
pub commits_stay : (m : IsolationMachine) (o : Occurrence) → HasMore m.history (moved_on m o).history
commits_stay m o = command (command_in o.event)
  where
    none_more : HasMore m.history m.history
    none_more = ([], sym (append-nil m.history))

    committed : (t : Transaction) (own : WriteSet) → HasMore m.history (commit m t own).1.history
    committed t [] = none_more
    committed t (first ∷ rest) = (t.own ∷ [], refl)

    wrote : (t : Transaction) (place : Place) (change : Option (List Cell)) (refusal : Option Answer) → HasMore m.history (write m t place change refusal).1.history
    wrote t place change (Some said) = none_more
    wrote t place change None = none_more

    within : (t : Transaction) (what : Act) → HasMore m.history (step_within m t what).1.history
    within t (act.Begin checked) = none_more
    within t (act.Get table key) = none_more
    within t (act.Scan table) = none_more
    within t (act.Range table low high) = none_more
    within t (act.Total table column low high) = none_more
    within t (act.Insert table row) = wrote t (place_of table row) (Some row) (refusal_of_insert m t (place_of table row))
    within t (act.Update table row) = wrote t (place_of table row) (Some row) (refusal_of_change m t (place_of table row))
    within t (act.Delete table key) = wrote t (place_at table key) None (refusal_of_change m t (place_at table key))
    within t act.Commit = committed t t.own
    within t act.Abort = none_more

    alone : (r : ℕ) (what : Act) → HasMore m.history (step_without m r what).1.history
    alone r (act.Begin checked) = none_more
    alone r (act.Get table key) = none_more
    alone r (act.Scan table) = none_more
    alone r (act.Range table low high) = none_more
    alone r (act.Total table column low high) = none_more
    alone r (act.Insert table row) = none_more
    alone r (act.Update table row) = none_more
    alone r (act.Delete table key) = none_more
    alone r act.Commit = none_more
    alone r act.Abort = none_more

    stepped : (c : Command) (t : Option Transaction) → HasMore m.history (step_of m c t).1.history
    stepped c None = alone c.session c.act
    stepped c (Some t) = within t c.act

    answered_more : (c : Command) (s : Option (Read × ℕ)) → HasMore m.history (step_unless m c s).1.history
    answered_more c (Some stale) = none_more
    answered_more c None = stepped c (transaction_of c.session m)

    outcome : (c : Command) (r : Option Outcome) → HasMore m.history (option_map_or (left_by m (reads_handed o.event) c) r m).history
    outcome c None = none_more
    outcome c (Some (store.Answered said)) =
        subst (λ (p : Answer × IsolationMachine). HasMore m.history p.1.history) (sym (step_is m (reads_handed o.event) c))
        (answered_more c (stale_of m (reads_handed o.event) c.session c.act))
    outcome c (Some store.Freezing) = none_more
    outcome c (Some store.Full) = none_more
    outcome c (Some store.Memory) = none_more

    command : (c : Option Command) → HasMore m.history (moved_by m (reads_handed o.event) c o.reply).history
    command None = none_more
    command (Some c) = outcome c (outcome_of c.act o.reply)

-- what the machine may become behind an event is what it becomes
pub moved_is : (m next : IsolationMachine) (o : Occurrence) → IsStep (command_in o.event) (reads_handed o.event) m o.reply next → next ≡ moved_on m o
moved_is m next o h = command (command_in o.event) h
  where
    outcome : (c : Command) (r : Option Outcome) → IsSomeAnd r (λ outcome. Allows m (reads_handed o.event) c outcome next) → next ≡ option_map_or (left_by m (reads_handed o.event) c) r m
    outcome c None h = absurd h
    outcome c (Some (store.Answered said)) h = sym (ap (λ (p : Answer × IsolationMachine). p.1) h)
    outcome c (Some store.Freezing) h = h.2
    outcome c (Some store.Full) h = h.2
    outcome c (Some store.Memory) h = h.2

    command : (c : Option Command) → IsStep c (reads_handed o.event) m o.reply next → next ≡ moved_by m (reads_handed o.event) c o.reply
    command None h = h
    command (Some c) h = outcome c (outcome_of c.act o.reply) h

-- ---- what a session's own command makes

abbrev asked : ℕ → Act → Command
asked q what = record { session = q; act = what }

abbrev answered : Answer → IsolationMachine → Answer × IsolationMachine
answered said next = (said, next)

said_is : (a b : Answer) (m n : IsolationMachine) → answered a m ≡ answered b n → a ≡ b
said_is a b m n e = ap (λ (p : Answer × IsolationMachine). p.0) e

next_is : (a b : Answer) (m n : IsolationMachine) → answered a m ≡ answered b n → m ≡ n
next_is a b m n e = ap (λ (p : Answer × IsolationMachine). p.1) e

-- what stays open where a step leaves it
pub open_on : (q : ℕ) (m next : IsolationMachine) (commits : History) (own : WriteSet) → HasOpenIn q m commits own → Leaves q m next → HasOpenIn q next commits own
open_on q m next commits own has left = record {
  sees = more_again commits m.history next.history has.sees left.more;
  opened = left.same ∙ has.opened;
}

-- a begin opens a transaction that sees all commits
pub begun : (checked : Bool) (q number : ℕ) (m next : IsolationMachine) → step m (asked q (act.Begin checked)) ≡ (answer.At number, next)
    → HasOpenIn q next m.history [] × (number ≡ length m.history) × (next.history ≡ m.history)
begun checked q number m next h = go (transaction_of q m) refl h
  where
    same_number : (a b : ℕ) → answer.At a ≡ answer.At b → b ≡ a
    same_number a b e = cc

    never : answer.InTransaction ≡ answer.At number → ⊥
    never e = cc

    new : Transaction
    new = record { session = q; snapshot = length m.history; own = [] }

    later : IsolationMachine
    later = record m { open_transactions = m.open_transactions ++ new ∷ [] }

    go : (o : Option Transaction) → transaction_of q m ≡ o → step_of m (asked q (act.Begin checked)) o ≡ (answer.At number, next)
        → HasOpenIn q next m.history [] × (number ≡ length m.history) × (next.history ≡ m.history)
    go (Some t) is h = absurd (never (said_is answer.InTransaction (answer.At number) m next h))
    go None is h =
        let goes = next_is (answer.At (length m.history)) (answer.At number) later next h in (
          subst (λ x. HasOpenIn q x m.history []) goes (record { sees = ([], sym (append-nil m.history)); opened = of-append-new m.open_transactions new is }),
          same_number (length m.history) number (said_is (answer.At (length m.history)) (answer.At number) later next h),
          ap (λ (x : IsolationMachine). x.history) (sym goes),
        )

module _ (q : ℕ) (m next : IsolationMachine) (commits : History) (own : WriteSet) (has : HasOpenIn q m commits own) where
  abbrev opened : Transaction
  opened = record { session = q; snapshot = length commits; own = own }

  -- the rows that its transaction sees are those of its commits with its own writes
  pub rows_are : seen_rows m opened ≡ rows_seen commits own
  rows_are =
      ap (λ (h : History). laid_over (state_at h (length commits)) own) has.sees.1
      ∙ ap (λ (h : History). laid_over (Rattle.std.specs.Prelude.fold laid_over [] h) own) (take-append-le (length commits) commits has.sees.0 (omega arith))

  -- a step of the session is one within its transaction
  stepped : (what : Act) (said : Answer) → step m (asked q what) ≡ (said, next) → step_within m opened what ≡ (said, next)
  stepped what said h = subst (λ o. step_of m (asked q what) o ≡ (said, next)) has.opened h

  -- a get finds the row that the transaction sees, and leaves all
  pub found : (table : ℕ) (key : Rattle.std.proofs.Common.ℤ) (row : Option Row) → step m (asked q (act.Get table key)) ≡ (answer.Found row, next)
      → (row ≡ at_place (rows_seen commits own) (place_at table key)) × (m ≡ next)
  found table key row h =
      let e = stepped (act.Get table key) (answer.Found row) h in
      let seen = at_place (seen_rows m opened) (place_at table key) in (
        same_row row seen (said_is (answer.Found seen) (answer.Found row) m next e) ∙ ap (λ rows. at_place rows (place_at table key)) rows_are,
        next_is (answer.Found seen) (answer.Found row) m next e,
      )
    where
      same_row : (a b : Option Row) → answer.Found b ≡ answer.Found a → a ≡ b
      same_row a b e = cc

  -- a range has the rows that the transaction sees between its ends, and leaves all
  pub ranged : (table : ℕ) (low high : ℤ) (rows : List Row) → step m (asked q (act.Range table low high)) ≡ (answer.Rows rows, next)
      → (rows ≡ contents_between table low high (rows_seen commits own)) × (m ≡ next)
  ranged table low high rows h =
      let e = stepped (act.Range table low high) (answer.Rows rows) h in
      let seen = contents_between table low high (seen_rows m opened) in (
        same_rows rows seen (said_is (answer.Rows seen) (answer.Rows rows) m next e) ∙ ap (contents_between table low high) rows_are,
        next_is (answer.Rows seen) (answer.Rows rows) m next e,
      )
    where
      same_rows : (a b : List Row) → answer.Rows b ≡ answer.Rows a → a ≡ b
      same_rows a b e = cc

  -- ---- writes

  abbrev Refuses : Option Answer → Type 0
  Refuses refusal = refusal ≡ Some answer.Accepted → ⊥

  either_refuses : (a b : Option Answer) → Refuses a → Refuses b → Refuses (option_or a b)
  either_refuses None b x y e = y e
  either_refuses (Some said) b x y e = x e

  rival_refuses : (o : Option Transaction) → Refuses (option_map (λ (rival : Transaction). answer.ConflictSession rival.session) o)
  rival_refuses None e = cc
  rival_refuses (Some t) e = cc

  later_refuses : (o : Option ℕ) → Refuses (option_map (λ number. answer.ConflictCommit number) o)
  later_refuses None e = cc
  later_refuses (Some number) e = cc

  exists_refuses : (b : Bool) → Refuses (cond b (Some answer.Exists) None)
  exists_refuses true e = cc
  exists_refuses false e = cc

  missing_refuses : (b : Bool) → Refuses (cond b (Some answer.Missing) None)
  missing_refuses true e = cc
  missing_refuses false e = cc

  conflict_refuses : (place : Place) → Refuses (conflict_of m opened place)
  conflict_refuses place =
      either_refuses (option_map (λ (rival : Transaction). answer.ConflictSession rival.session) (rival_of m q place))
      (option_map (λ number. answer.ConflictCommit number) (last_or None (later_writers m.history (length commits) place)))
      (rival_refuses (rival_of m q place)) (later_refuses (last_or None (later_writers m.history (length commits) place)))

  insert_refuses : (place : Place) → Refuses (refusal_of_insert m opened place)
  insert_refuses place = either_refuses (conflict_of m opened place) (cond (is_some (at_place (seen_rows m opened) place)) (Some answer.Exists) None)
      (conflict_refuses place) (exists_refuses (is_some (at_place (seen_rows m opened) place)))

  change_refuses : (place : Place) → Refuses (refusal_of_change m opened place)
  change_refuses place = either_refuses (conflict_of m opened place) (cond (is_none (at_place (seen_rows m opened) place)) (Some answer.Missing) None)
      (conflict_refuses place) (missing_refuses (is_none (at_place (seen_rows m opened) place)))

  -- an accepted write is the transaction's own from then on
  accepted : (place : Place) (change : Option (List Cell)) (refusal : Option Answer) → Refuses refusal → write m opened place change refusal ≡ (answer.Accepted, next)
      → HasOpenIn q next commits (insert_entry place_cmp own place change)
  accepted place change (Some said) never h = absurd (never (ap Some (said_is said answer.Accepted m next h)))
  accepted place change None never h =
      subst (λ x. HasOpenIn q x commits (insert_entry place_cmp own place change)) (next_is answer.Accepted answer.Accepted (with_own q place change m) next h)
      (record { sees = has.sees; opened = of-with_own q place change m.open_transactions opened has.opened })

  -- one that is answered otherwise leaves the machine
  refused : (place : Place) (change : Option (List Cell)) (refusal : Option Answer) (said : Answer) → (said ≡ answer.Accepted → ⊥) → write m opened place change refusal ≡ (said, next) → m ≡ next
  refused place change (Some cause) said other h = next_is cause said m next h
  refused place change None said other h = absurd (other (sym (said_is answer.Accepted said (with_own q place change m) next h)))

  pub inserted : (table : ℕ) (row : Row) → step m (asked q (act.Insert table row)) ≡ (answer.Accepted, next)
      → HasOpenIn q next commits (insert_entry place_cmp own (place_of table row) (Some row))
  inserted table row h = accepted (place_of table row) (Some row) (refusal_of_insert m opened (place_of table row)) (insert_refuses (place_of table row)) (stepped (act.Insert table row) answer.Accepted h)

  pub updated : (table : ℕ) (row : Row) → step m (asked q (act.Update table row)) ≡ (answer.Accepted, next)
      → HasOpenIn q next commits (insert_entry place_cmp own (place_of table row) (Some row))
  updated table row h = accepted (place_of table row) (Some row) (refusal_of_change m opened (place_of table row)) (change_refuses (place_of table row)) (stepped (act.Update table row) answer.Accepted h)

  pub deleted : (table : ℕ) (key : Rattle.std.proofs.Common.ℤ) → step m (asked q (act.Delete table key)) ≡ (answer.Accepted, next)
      → HasOpenIn q next commits (insert_entry place_cmp own (place_at table key) None)
  deleted table key h = accepted (place_at table key) None (refusal_of_change m opened (place_at table key)) (change_refuses (place_at table key)) (stepped (act.Delete table key) answer.Accepted h)

  -- a write that the store refuses, or the machine, leaves the machine
  abbrev IsWrite : Act → Type 0
  IsWrite what = (place : Place) × (change : Option (List Cell)) × (refusal : Option Answer) × (step_within m opened what ≡ write m opened place change refusal)
      × (step_with m None (asked q what) ≡ step m (asked q what))

  fault_leaves : (what : Act) → IsWrite what → (why : WriteFault) → IsTold m None (asked q what) (reply.Refused why) next → m ≡ next
  fault_leaves what w (fault.ConflictSession session) h = refused w.0 w.1 w.2 (answer.ConflictSession session) (λ e. cc) (sym w.3 ∙ stepped what (answer.ConflictSession session) (sym w.4 ∙ h))
  fault_leaves what w (fault.ConflictCommit number) h = refused w.0 w.1 w.2 (answer.ConflictCommit number) (λ e. cc) (sym w.3 ∙ stepped what (answer.ConflictCommit number) (sym w.4 ∙ h))
  fault_leaves what w fault.Exists h = refused w.0 w.1 w.2 answer.Exists (λ e. cc) (sym w.3 ∙ stepped what answer.Exists (sym w.4 ∙ h))
  fault_leaves what w fault.Missing h = refused w.0 w.1 w.2 answer.Missing (λ e. cc) (sym w.3 ∙ stepped what answer.Missing (sym w.4 ∙ h))
  fault_leaves what w (fault.Freezing block stamp) h = sym h.2
  fault_leaves what w (fault.Full inserts) h = sym h.2

  pub insert_left : (table : ℕ) (row : Row) (why : WriteFault) → IsTold m None (asked q (act.Insert table row)) (reply.Refused why) next → m ≡ next
  insert_left table row = fault_leaves (act.Insert table row) (place_of table row, Some row, refusal_of_insert m opened (place_of table row), refl, refl)

  pub update_left : (table : ℕ) (row : Row) (why : WriteFault) → IsTold m None (asked q (act.Update table row)) (reply.Refused why) next → m ≡ next
  update_left table row = fault_leaves (act.Update table row) (place_of table row, Some row, refusal_of_change m opened (place_of table row), refl, refl)

  pub delete_left : (table : ℕ) (key : Rattle.std.proofs.Common.ℤ) (why : WriteFault) → IsTold m None (asked q (act.Delete table key)) (reply.Refused why) next → m ≡ next
  delete_left table key = fault_leaves (act.Delete table key) (place_at table key, None, refusal_of_change m opened (place_at table key), refl, refl)

  -- ---- ends

  -- why its commit is refused
  stale_is : (reads : Option ReadSet) → stale_of m reads q act.Commit ≡ stale_since m.history commits own reads
  stale_is reads = ap (λ (o : Option Transaction). option_and_then (λ t. stale_read m t t.own reads) o) has.opened ∙ go own
    where
      go : (w : WriteSet) → stale_read m opened w reads ≡ stale_since m.history commits w reads
      go [] = refl
      go (first ∷ rest) = refl

  -- a commit by what it hands in, as the machine answers it
  judged : (reads : Option ReadSet) (said : Answer) → step_with m reads (asked q act.Commit) ≡ (said, next)
      → step_unless m (asked q act.Commit) (stale_since m.history commits own reads) ≡ (said, next)
  judged reads said h = ap (step_unless m (asked q act.Commit)) (sym (stale_is reads)) ∙ sym (step_is m reads (asked q act.Commit)) ∙ h

  -- One that is refused leaves all, and is told why.
  pub stays_stale : (reads : Option ReadSet) (what : Read) (number : ℕ) → step_with m reads (asked q act.Commit) ≡ (answer.Stale what number, next)
      → (stale_since m.history commits own reads ≡ Some (what, number)) × (m ≡ next)
  stays_stale reads what number h = go (stale_since m.history commits own reads) refl (judged reads (answer.Stale what number) h)
    where
      same : (a : Read) (n : ℕ) → answer.Stale a n ≡ answer.Stale what number → (a ≡ what) × (n ≡ number)
      same a n e = (cc, cc)

      never : (w : WriteSet) → (commit m (record { session = q; snapshot = length commits; own = w }) w).0 ≡ answer.Stale what number → ⊥
      never [] e = cc
      never (first ∷ rest) e = cc

      go : (o : Option (Read × ℕ)) → stale_since m.history commits own reads ≡ o → step_unless m (asked q act.Commit) o ≡ (answer.Stale what number, next)
          → (stale_since m.history commits own reads ≡ Some (what, number)) × (m ≡ next)
      go (Some stale) is h =
          let e = same stale.0 stale.1 (said_is (answer.Stale stale.0 stale.1) (answer.Stale what number) m next h) in (
            is ∙ ap (λ (r : Read). Some (r, stale.1)) e.0 ∙ ap (λ n. Some (what, n)) e.1,
            next_is (answer.Stale stale.0 stale.1) (answer.Stale what number) m next h,
          )
      go None is h = absurd (never own (ap (λ (p : Answer × IsolationMachine). p.0) (stepped act.Commit (answer.Stale what number) h)))

  -- a commit that stands was not refused
  pub stands : (reads : Option ReadSet) (number : Option ℕ) → step_with m reads (asked q act.Commit) ≡ (answer.Committed number, next)
      → (stale_since m.history commits own reads ≡ None) × (step m (asked q act.Commit) ≡ (answer.Committed number, next))
  stands reads number h = go (stale_since m.history commits own reads) refl (judged reads (answer.Committed number) h)
    where
      never : (a : Read) (n : ℕ) → answer.Stale a n ≡ answer.Committed number → ⊥
      never a n e = cc

      go : (o : Option (Read × ℕ)) → stale_since m.history commits own reads ≡ o → step_unless m (asked q act.Commit) o ≡ (answer.Committed number, next)
          → (stale_since m.history commits own reads ≡ None) × (step m (asked q act.Commit) ≡ (answer.Committed number, next))
      go (Some stale) is h = absurd (never stale.0 stale.1 (said_is (answer.Stale stale.0 stale.1) (answer.Committed number) m next h))
      go None is h = (is, h)

  -- a commit adds what was written to the commits
  pub committed : (number : Option ℕ) → step m (asked q act.Commit) ≡ (answer.Committed number, next) → AddsCommit m.history next.history own number
  committed number h = go own (stepped act.Commit (answer.Committed number) h)
    where
      same_number : (a b : Option ℕ) → answer.Committed a ≡ answer.Committed b → b ≡ a
      same_number a b e = cc

      -- over what the transaction wrote
      go : (w : WriteSet) → commit m (record { session = q; snapshot = length commits; own = w }) w ≡ (answer.Committed number, next) → AddsCommit m.history next.history w number
      go [] h =
          let goes = next_is (answer.Committed None) (answer.Committed number) (without q m) next h in
          (ap (λ (x : IsolationMachine). x.history) (sym goes), same_number None number (said_is (answer.Committed None) (answer.Committed number) (without q m) next h))
      go (first ∷ rest) h =
          let later : IsolationMachine = record (without q m) { history = m.history ++ (first ∷ rest) ∷ [] } in
          let goes = next_is (answer.Committed (Some (length m.history + 1))) (answer.Committed number) later next h in
          let history : next.history ≡ m.history ++ (first ∷ rest) ∷ [] = ap (λ (x : IsolationMachine). x.history) (sym goes) in (
            history,
            same_number (Some (length m.history + 1)) number (said_is (answer.Committed (Some (length m.history + 1))) (answer.Committed number) later next h)
                ∙ ap Some (sym (ap (λ (h : History). length h) history ∙ length_push m.history (first ∷ rest))),
          )
