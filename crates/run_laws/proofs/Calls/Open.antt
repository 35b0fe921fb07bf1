-- The machine's open transactions, event by event.
use Rattle.std.proofs.Common.{◌≡◌, ◌≢◌, ◌⊎◌, ℕ, Bool, true, false, cond, ◌==◌, List, [], ◌∷◌, ◌++◌, Option, None, Some, length, option_map, refl, sym, ap, ◌∙◌, subst, arith, append-nil}
use mathlib.Core.Logic.{inl, inr}
use Rattle.std.specs.Prelude.{IfSome, IsSomeAnd}
use Rattle.std.proofs.lemmas.Bool.Decides.{nat_tests}
use Rattle.std.proofs.lemmas.List.Elements.{filter-append}
use Rattle.std.proofs.lemmas.List.Sums.{fold-append}
use Rattle.cell_model.specs.declared.cell.Cell.{Cell}
use Rattle.core_laws.proofs.Events.Plain.{plain}
use Rattle.core_laws.specs.Events.Laws.{IsStep, IsTold, command_in, outcome_of}
use Rattle.event_spec.specs.declared.event.Event.TheVariants as event
use Rattle.event_spec.specs.declared.own.OwnTransaction.{OwnTransaction}
use Rattle.event_spec.specs.declared.reply.Reply.TheVariants as reply
use Rattle.event_spec.specs.Effects.{CoreEvent, stale_in}
use Rattle.event_spec.specs.Lawful.{reads_handed, session_of}
use Rattle.event_spec.specs.Parts.{Parts, Shape}
use Rattle.event_spec.specs.Replay.{reply_after}
use Rattle.event_spec.specs.Replies.{CoreReply, reply_to, reply_to_commit}
use Rattle.core_laws.proofs.Following.Machines.{enters, found_session, of-append-new, of-append-other, of-map, of-without, of-without-own}
use Rattle.isolation_spec.specs.declared.command.Act.{Act}
use Rattle.isolation_spec.specs.declared.command.Act.TheVariants as act
use Rattle.isolation_spec.specs.declared.command.Answer.{Answer}
use Rattle.isolation_spec.specs.declared.command.Answer.TheVariants as answer
use Rattle.isolation_spec.specs.declared.command.Command.{Command}
use Rattle.isolation_spec.specs.declared.place.Place.{Place}
use Rattle.isolation_spec.specs.declared.read.Read.{Read}
use Rattle.isolation_spec.specs.Contents.{WriteSet, place_at, place_of}
use Rattle.isolation_spec.specs.Machine.{IsolationMachine, Transaction, commit, step, step_of, transaction_of, with_own, without, write}
use Rattle.isolation_spec.specs.Reads.{ReadSet}
use Rattle.isolation_spec.specs.Store.{Allows, Outcome, Answered, Freezing, Full, Memory}
use Rattle.run_spec.specs.Occurrences.{Occurrence, occurrence_of, under}
use Rattle.run_spec.specs.Opened.{own_after, own_behind}
use Rattle.run_spec.specs.Opened as opened
use Rattle.run_laws.proofs.Calls.Commits.{committed_is, stale_stays}
use Rattle.run_laws.specs.Calls.Open.{NothingIsOpen, OpenAs, OpensAsTheMachine}

-- the snapshot of a session's open transaction
abbrev snapshot_in : ℕ → IsolationMachine → Option ℕ
snapshot_in r m = option_map (λ (t : Transaction). t.snapshot) (transaction_of r m)

-- What a session asks of the machine by an act.
abbrev asked : ℕ → Act → Command
asked q what = record { session = q; act = what }

-- ---- acts that neither begin nor end a transaction

-- A write that is entered into a transaction leaves the transaction's snapshot.
enters_snapshot : (q : ℕ) (place : Place) (value : Option (List Cell)) (o : Option Transaction)
    → option_map (λ (t : Transaction). t.snapshot) (option_map (enters q place value) o)
    ≡ option_map (λ (t : Transaction). t.snapshot) o
enters_snapshot q place value None = refl
enters_snapshot q place value (Some t) = go (t.session == q)
  where
    go : (b : Bool)
        → Some (cond b (Rattle.isolation_spec.specs.Machine.entered place value t) t).snapshot ≡ Some t.snapshot
    go true = refl
    go false = refl

-- A write, refused or not, leaves the snapshots of all sessions.
write_keeps : (m : IsolationMachine) (t : Transaction) (place : Place) (value : Option (List Cell))
    (refusal : Option Answer) (r : ℕ) → snapshot_in r (write m t place value refusal).1 ≡ snapshot_in r m
write_keeps m t place value (Some refusal) r = refl
write_keeps m t place value None r =
    ap (option_map (λ (t : Transaction). t.snapshot)) (of-map r t.session place value m.open_transactions)
    ∙ enters_snapshot t.session place value (transaction_of r m)

-- The act neither begins nor ends a transaction.
abbrev is_plain : Act → Bool
is_plain (act.Begin checked) = false
is_plain (act.Get table key) = true
is_plain (act.Scan table) = true
is_plain (act.Range table low high) = true
is_plain (act.Total table column low high) = true
is_plain (act.Insert table row) = true
is_plain (act.Update table row) = true
is_plain (act.Delete table key) = true
is_plain act.Commit = false
is_plain act.Abort = false

-- False is not the same as true.
not_plain : false ≡ true → ⊥
not_plain e = cc

-- A step that neither begins nor ends a transaction leaves all snapshots.
plain_step : (m : IsolationMachine) (q : ℕ) (what : Act) (o : Option Transaction) (r : ℕ) → is_plain what ≡ true
    → snapshot_in r (step_of m (asked q what) o).1 ≡ snapshot_in r m
plain_step m q (act.Begin checked) o r plain = absurd (not_plain plain)
plain_step m q (act.Get table key) None r plain = refl
plain_step m q (act.Get table key) (Some t) r plain = refl
plain_step m q (act.Scan table) None r plain = refl
plain_step m q (act.Scan table) (Some t) r plain = refl
plain_step m q (act.Range table low high) None r plain = refl
plain_step m q (act.Range table low high) (Some t) r plain = refl
plain_step m q (act.Total table column low high) None r plain = refl
plain_step m q (act.Total table column low high) (Some t) r plain = refl
plain_step m q (act.Insert table row) None r plain = refl
plain_step m q (act.Insert table row) (Some t) r plain = write_keeps m t _ _ _ r
plain_step m q (act.Update table row) None r plain = refl
plain_step m q (act.Update table row) (Some t) r plain = write_keeps m t _ _ _ r
plain_step m q (act.Delete table key) None r plain = refl
plain_step m q (act.Delete table key) (Some t) r plain = write_keeps m t _ _ _ r
plain_step m q act.Commit o r plain = absurd (not_plain plain)
plain_step m q act.Abort o r plain = absurd (not_plain plain)

-- An outcome of an act that neither begins nor ends a transaction leaves all snapshots.
allows_plain : (m next : IsolationMachine) (q : ℕ) (what : Act) (outcome : Outcome) (r : ℕ) → is_plain what ≡ true
    → Allows m None (asked q what) outcome next → snapshot_in r next ≡ snapshot_in r m
allows_plain m next q what (Answered said) r is h =
    ap (λ (p : Answer × IsolationMachine). snapshot_in r p.1) (sym h ∙ plain m (asked q what))
    ∙ plain_step m q what (transaction_of q m) r is
allows_plain m next q what Freezing r plain h = ap (snapshot_in r) h.2
allows_plain m next q what Full r plain h = ap (snapshot_in r) h.2
allows_plain m next q what Memory r plain h = ap (snapshot_in r) h.2

-- An option that is said to hold something with a property gives one that has it.
some_and : {X : Type 0} (P : X → Type 0) (o : Option X) → IsSomeAnd o P → (x : X) × P x
some_and P None h = absurd h
some_and P (Some x) h = (x, h)

-- A reply to an act that neither begins nor ends a transaction leaves all snapshots.
told_plain : (m next : IsolationMachine) (q : ℕ) (what : Act) (told : CoreReply) (r : ℕ) → is_plain what ≡ true
    → IsTold m None (asked q what) told next → snapshot_in r next ≡ snapshot_in r m
told_plain m next q what told r plain h =
    let allowed = some_and (λ outcome. Allows m None (asked q what) outcome next) (outcome_of what told) h in
    allows_plain m next q what allowed.0 r plain allowed.1

-- ---- a begin, and an end

-- what a session's step leaves open: this of its own, and of others what was
pub record Leaves (q : ℕ) (m next : IsolationMachine) (snapshot : Option ℕ) : Type 0 where
  pub own : snapshot_in q next ≡ snapshot
  pub others : (r : ℕ) → r ≢ q → snapshot_in r next ≡ snapshot_in r m

-- An answer of the machine, with the machine behind it.
abbrev stepped : Answer → IsolationMachine → Answer × IsolationMachine
stepped said after = (said, after)

-- Steps that are the same have the same answer.
said_is : (a b : Answer) (m n : IsolationMachine) → stepped a m ≡ stepped b n → a ≡ b
said_is a b m n e = ap (λ (p : Answer × IsolationMachine). p.0) e

-- Steps that are the same have the same machine behind them.
next_is : (a b : Answer) (m n : IsolationMachine) → stepped a m ≡ stepped b n → m ≡ n
next_is a b m n e = ap (λ (p : Answer × IsolationMachine). p.1) e

-- Begins that are answered alike have the same number.
same_number_at : (a b : ℕ) → answer.At a ≡ answer.At b → a ≡ b
same_number_at a b e = cc

-- That a transaction is open is not the answer to a begin that opens one.
not_within : (number : ℕ) → answer.InTransaction ≡ answer.At number → ⊥
not_within number e = cc

-- A begin that is answered with a number leaves its session open with that snapshot.
begin_leaves : (m next : IsolationMachine) (q number : ℕ) → step m (asked q (act.Begin false)) ≡ (answer.At number, next)
    → Leaves q m next (Some number)
begin_leaves m next q number h = go (transaction_of q m) refl h
  where
    go : (o : Option Transaction) → transaction_of q m ≡ o → step_of m (asked q (act.Begin false)) o ≡ (answer.At number, next)
        → Leaves q m next (Some number)
    go (Some t) is e = absurd (not_within number (said_is answer.InTransaction (answer.At number) m next e))
    go None is e =
        let new : Transaction = record { session = q; snapshot = length m.history; own = [] } in
        let now : IsolationMachine = record m { open_transactions = m.open_transactions ++ new ∷ [] } in
        let there : now ≡ next = next_is (answer.At (length m.history)) (answer.At number) now next e in
        let counted : length m.history ≡ number =
        same_number_at (length m.history) number (said_is (answer.At (length m.history)) (answer.At number) now next e) in
        record {
          own = ap (snapshot_in q) (sym there)
              ∙ ap (option_map (λ (t : Transaction). t.snapshot)) (of-append-new m.open_transactions new is)
              ∙ ap (λ n. Some n) counted;
          others = λ r ne.
              ap (snapshot_in r) (sym there)
              ∙ ap (option_map (λ (t : Transaction). t.snapshot)) (of-append-other r m.open_transactions new (λ e. ne (sym e)));
        }

-- A machine that is without a session's transaction leaves it nothing, and the others theirs.
without_leaves : (m next : IsolationMachine) (q : ℕ) (t : Transaction) → transaction_of q m ≡ Some t
    → next.open_transactions ≡ (without t.session m).open_transactions → Leaves q m next None
without_leaves m next q t is e =
    let same : t.session ≡ q = found_session q m.open_transactions t is in record {
      own = ap (λ ts. option_map (λ (t : Transaction). t.snapshot) (Rattle.core_laws.proofs.Following.Machines.of q ts)) e
          ∙ ap (λ n. snapshot_in q (without n m)) same
          ∙ ap (option_map (λ (t : Transaction). t.snapshot)) (of-without-own q m.open_transactions);
      others = λ r ne.
          ap (λ ts. option_map (λ (t : Transaction). t.snapshot) (Rattle.core_laws.proofs.Following.Machines.of r ts)) e
          ∙ ap (option_map (λ (t : Transaction). t.snapshot)) (of-without r t.session m.open_transactions (λ e. ne (e ∙ same)));
    }

-- That there is no transaction is not the answer that it was committed.
not_committed : (number : Option ℕ) → answer.NoTransaction ≡ answer.Committed number → ⊥
not_committed number e = cc

-- That there is no transaction is not the answer that it was aborted.
not_aborted : answer.NoTransaction ≡ answer.Aborted → ⊥
not_aborted e = cc

-- A commit that is answered as one leaves its session nothing open, and the others theirs.
commit_leaves : (m next : IsolationMachine) (q : ℕ) (number : Option ℕ)
    → step m (asked q act.Commit) ≡ (answer.Committed number, next) → Leaves q m next None
commit_leaves m next q number h = go (transaction_of q m) refl h
  where
    ended : (t : Transaction) (own : WriteSet) → commit m t own ≡ (answer.Committed number, next)
        → next.open_transactions ≡ (without t.session m).open_transactions
    ended t [] e = ap (λ (p : Answer × IsolationMachine). p.1.open_transactions) (sym e)
    ended t (first ∷ rest) e = ap (λ (p : Answer × IsolationMachine). p.1.open_transactions) (sym e)

    go : (o : Option Transaction) → transaction_of q m ≡ o → step_of m (asked q act.Commit) o ≡ (answer.Committed number, next)
        → Leaves q m next None
    go None is e = absurd (not_committed number (said_is answer.NoTransaction (answer.Committed number) m next e))
    go (Some t) is e = without_leaves m next q t is (ended t t.own e)

-- An abort that is answered as one leaves its session nothing open, and the others theirs.
abort_leaves : (m next : IsolationMachine) (q : ℕ) → step m (asked q act.Abort) ≡ (answer.Aborted, next)
    → Leaves q m next None
abort_leaves m next q h = go (transaction_of q m) refl h
  where
    go : (o : Option Transaction) → transaction_of q m ≡ o → step_of m (asked q act.Abort) o ≡ (answer.Aborted, next)
        → Leaves q m next None
    go None is e = absurd (not_aborted (said_is answer.NoTransaction answer.Aborted m next e))
    go (Some t) is e = without_leaves m next q t is (ap (λ (p : Answer × IsolationMachine). p.1.open_transactions) (sym e))

-- ---- what a session has open by its own events

-- one event, to its own session and to the others
abbrev Keeps : ℕ → CoreEvent → CoreReply → IsolationMachine → IsolationMachine → Type 0
Keeps q e told m next = (own : Option OwnTransaction) → OpenAs q own (transaction_of q m)
    → OpenAs q (own_behind own e told) (transaction_of q next) × ((r : ℕ) → r ≢ q → snapshot_in r next ≡ snapshot_in r m)

-- An event that leaves what a session has open, and all snapshots, keeps that they agree.
still : (q : ℕ) (e : CoreEvent) (told : CoreReply) (m next : IsolationMachine)
    → ((own : Option OwnTransaction) → own_behind own e told ≡ own)
    → ((r : ℕ) → snapshot_in r next ≡ snapshot_in r m) → Keeps q e told m next
still q e told m next same keeps own was = (
  subst (λ (o : Option OwnTransaction). OpenAs q o (transaction_of q next)) (sym (same own))
      (record { snapshot = was.snapshot ∙ sym (keeps q); session_is = was.session_is }),
  λ r ne. keeps r,
)

-- An event that leaves what a session has open, and the machine, keeps that they agree.
aside : (q : ℕ) (e : CoreEvent) (told : CoreReply) (m next : IsolationMachine)
    → ((own : Option OwnTransaction) → own_behind own e told ≡ own) → next ≡ m → Keeps q e told m next
aside q e told m next same stays = still q e told m next same (λ r. ap (snapshot_in r) stays)

-- a write that was accepted or not leaves snapshot and session
pub with_own_is : (place : Place) (told : CoreReply) (t : OwnTransaction)
    → ((opened.with_own place told t).snapshot ≡ t.snapshot) × ((opened.with_own place told t).session ≡ t.session)
with_own_is place (reply.Written slot) t = (refl, refl)
with_own_is place _ t = (refl, refl)

-- An event that may enter a write, and leaves all snapshots, keeps that they agree.
writes_keep : (q : ℕ) (e : CoreEvent) (told : CoreReply) (place : Place) (m next : IsolationMachine)
    → ((own : Option OwnTransaction) → own_behind own e told ≡ option_map (opened.with_own place told) own)
    → ((r : ℕ) → snapshot_in r next ≡ snapshot_in r m) → Keeps q e told m next
writes_keep q e told place m next behind keeps own was = (
  subst (λ (o : Option OwnTransaction). OpenAs q o (transaction_of q next)) (sym (behind own)) (go own was),
  λ r ne. keeps r,
)
  where
    go : (own : Option OwnTransaction) → OpenAs q own (transaction_of q m)
        → OpenAs q (option_map (opened.with_own place told) own) (transaction_of q next)
    go None was = record { snapshot = was.snapshot ∙ sym (keeps q); session_is = tt }
    go (Some t) was = record {
      snapshot = ap (λ s. Some s.number) (with_own_is place told t).0 ∙ was.snapshot ∙ sym (keeps q);
      session_is = (with_own_is place told t).1 ∙ was.session_is;
    }

module _ (shape : Shape) (parts : Parts) (q : ℕ) (m next : IsolationMachine) where
  -- the reply to an event that may have been refused memory
  abbrev told_to : CoreEvent → Bool → CoreReply
  told_to e refused = cond refused reply.Memory (reply_to shape parts e)

  -- A begin of the session, refused or not, keeps that it agrees with the machine.
  begin_keeps : (session : ℕ) (refused : Bool) → session ≡ q
      → IsStep (command_in (event.Begin session)) (reads_handed (event.Begin session)) m (told_to (event.Begin session) refused) next
      → Keeps q (event.Begin session) (told_to (event.Begin session) refused) m next
  begin_keeps session true same (inl h, some, rest) own was = absurd h
  begin_keeps session true same (inr (inl h), some, rest) own was = absurd h
  begin_keeps session true same (inr (inr h), some, rest) own was = absurd h
  begin_keeps session false same h own was =
      let leaves = begin_leaves m next session _ h in (
        record {
          snapshot = sym (ap (λ n. snapshot_in n next) (sym same) ∙ leaves.own);
          session_is = same;
        },
        λ r ne. leaves.others r (λ e. ne (e ∙ same)),
      )

  -- An event that ends the session's transaction on both sides keeps that they agree.
  ends_keep : (session : ℕ) (e : CoreEvent) (told : CoreReply) → session ≡ q
      → ((own : Option OwnTransaction) → own_behind own e told ≡ None)
      → Leaves session m next None → Keeps q e told m next
  ends_keep session e told same behind leaves own was = (
    subst (λ (o : Option OwnTransaction). OpenAs q o (transaction_of q next)) (sym (behind own))
        (record { snapshot = sym (ap (λ n. snapshot_in n next) (sym same) ∙ leaves.own); session_is = tt }),
    λ r ne. leaves.others r (λ e. ne (e ∙ same)),
  )

  -- A commit of the session, refused or not, keeps that it agrees with the machine.
  commit_keeps : (handed : OwnTransaction) (reads : Option ReadSet) (refused : Bool) → handed.session ≡ q
      → IsStep (command_in (event.Commit handed reads)) (reads_handed (event.Commit handed reads)) m (told_to (event.Commit handed reads) refused) next
      → Keeps q (event.Commit handed reads) (told_to (event.Commit handed reads) refused) m next
  commit_keeps handed reads true same (inl h, some, rest) = absurd h
  commit_keeps handed reads true same (inr (inl h), some, rest) = absurd h
  commit_keeps handed reads true same (inr (inr h), some, rest) = absurd h
  commit_keeps handed reads false same h = go (stale_in shape parts handed reads) h
    where
      go : (o : Option (Read × ℕ)) → IsTold m reads (asked handed.session act.Commit) (reply_to_commit shape parts handed o) next
          → Keeps q (event.Commit handed reads) (reply_to_commit shape parts handed o) m next
      go None h = ends_keep handed.session (event.Commit handed reads) (reply_to_commit shape parts handed None) same (λ own. refl)
          (commit_leaves m next handed.session _ (committed_is m next reads handed.session _ h))
      go (Some stale) h = aside q (event.Commit handed reads) (reply_to_commit shape parts handed (Some stale)) m next (λ own. refl)
          (stale_stays m next reads handed.session stale.0 stale.1 h)

  -- An abort of the session, refused or not, keeps that it agrees with the machine.
  abort_keeps : (handed : OwnTransaction) (refused : Bool) → handed.session ≡ q
      → IsStep (command_in (event.Abort handed)) (reads_handed (event.Abort handed)) m (told_to (event.Abort handed) refused) next
      → Keeps q (event.Abort handed) (told_to (event.Abort handed) refused) m next
  abort_keeps handed true same (inl h, some, rest) = absurd h
  abort_keeps handed true same (inr (inl h), some, rest) = absurd h
  abort_keeps handed true same (inr (inr h), some, rest) = absurd h
  abort_keeps handed false same h = ends_keep handed.session (event.Abort handed)
      (told_to (event.Abort handed) false) same (λ own. refl) (abort_leaves m next handed.session h)

  -- an event, whatever it is
  event_keeps : (e : CoreEvent) (refused : Bool) → IfSome (session_of e) (λ session. session ≡ q)
      → IsStep (command_in e) (reads_handed e) m (told_to e refused) next → Keeps q e (told_to e refused) m next
  event_keeps (event.Begin session) refused same h = begin_keeps session refused same h
  event_keeps (event.Get handed table key) refused same h = still
      q
      (event.Get handed table key)
      (told_to (event.Get handed table key) refused)
      m
      next
      (λ own. refl)
      (λ r. told_plain m next handed.session (act.Get table key) (told_to (event.Get handed table key) refused) r refl h)
  event_keeps (event.Insert handed table row) refused same h = writes_keep
      q
      (event.Insert handed table row)
      (told_to (event.Insert handed table row) refused)
      (place_of table row)
      m
      next
      (λ own. refl)
      (λ r. told_plain m next handed.session (act.Insert table row) (told_to (event.Insert handed table row) refused) r refl h)
  event_keeps (event.Update handed table row) refused same h = writes_keep
      q
      (event.Update handed table row)
      (told_to (event.Update handed table row) refused)
      (place_of table row)
      m
      next
      (λ own. refl)
      (λ r. told_plain m next handed.session (act.Update table row) (told_to (event.Update handed table row) refused) r refl h)
  event_keeps (event.Delete handed table key) refused same h = writes_keep
      q
      (event.Delete handed table key)
      (told_to (event.Delete handed table key) refused)
      (place_at table key)
      m
      next
      (λ own. refl)
      (λ r. told_plain m next handed.session (act.Delete table key) (told_to (event.Delete handed table key) refused) r refl h)
  event_keeps (event.Read handed table block) refused same h =
      aside q (event.Read handed table block) (told_to (event.Read handed table block) refused) m next (λ own. refl) h
  event_keeps (event.Range handed table low high) refused same h = still
      q
      (event.Range handed table low high)
      (told_to (event.Range handed table low high) refused)
      m
      next
      (λ own. refl)
      (λ r. told_plain m next handed.session (act.Range table low high) (told_to (event.Range handed table low high) refused) r refl h)
  event_keeps (event.Commit handed reads) refused same h = commit_keeps handed reads refused same h
  event_keeps (event.Abort handed) refused same h = abort_keeps handed refused same h
  event_keeps event.Oldest refused same h =
      aside q event.Oldest (told_to event.Oldest refused) m next (λ own. refl) h
  event_keeps (event.Observe table block) refused same h =
      aside q (event.Observe table block) (told_to (event.Observe table block) refused) m next (λ own. refl) h
  event_keeps (event.Prune table block oldest) refused same h =
      aside q (event.Prune table block oldest) (told_to (event.Prune table block oldest) refused) m next (λ own. refl) h
  event_keeps (event.Look table block) refused same h =
      aside q (event.Look table block) (told_to (event.Look table block) refused) m next (λ own. refl) h
  event_keeps (event.Move table moves) refused same h =
      aside q (event.Move table moves) (told_to (event.Move table moves) refused) m next (λ own. refl) h
  event_keeps (event.Seal table block) refused same h =
      aside q (event.Seal table block) (told_to (event.Seal table block) refused) m next (λ own. refl) h
  event_keeps (event.Image table block image) refused same h =
      aside q (event.Image table block image) (told_to (event.Image table block image) refused) m next (λ own. refl) h
  event_keeps (event.Thaw table block) refused same h =
      aside q (event.Thaw table block) (told_to (event.Thaw table block) refused) m next (λ own. refl) h

-- ---- one event more

-- Two numbers are the same or not.
same_or_not : (a b : ℕ) → (a ≡ b) ⊎ (a ≢ b)
same_or_not a b = go (a == b) refl
  where
    go : (t : Bool) → (a == b) ≡ t → (a ≡ b) ⊎ (a ≢ b)
    go true e = inl (grind (arith, nat_tests))
    go false e = inr (λ s. absurd (grind (arith, nat_tests)))

-- a session's event more changes what it has open by its reply
pub own_more : (q : ℕ) (front : List Occurrence) (last : Occurrence) → last.session ≡ q
    → own_after (under q (front ++ last ∷ [])) ≡ own_behind (own_after (under q front)) last.event last.reply
own_more q front last same =
    ap own_after (filter-append (λ (o : Occurrence). o.session == q) front (last ∷ [])
    ∙ ap (λ (b : Bool). under q front ++ cond b (last ∷ []) []) here)
    ∙ fold-append (λ own (o : Occurrence). own_behind own o.event o.reply) None (under q front) (last ∷ [])
  where
    here : (last.session == q) ≡ true
    here = grind (arith, nat_tests, same)

-- an event more leaves what others have open
pub others_more : (q : ℕ) (front : List Occurrence) (last : Occurrence) → last.session ≢ q
    → own_after (under q (front ++ last ∷ [])) ≡ own_after (under q front)
others_more q front last apart =
    ap own_after (filter-append (λ (o : Occurrence). o.session == q) front (last ∷ [])
    ∙ ap (λ (b : Bool). under q front ++ cond b (last ∷ []) []) (go (last.session == q) refl)
    ∙ append-nil (under q front))
  where
    go : (b : Bool) → (last.session == q) ≡ b → b ≡ false
    go true e = absurd (apart (grind (arith, nat_tests)))
    go false e = refl

-- before the first event nothing is open
pub nothing_is_open : NothingIsOpen
nothing_is_open first session = record { snapshot = refl; session_is = tt }

-- an event that the machine goes with leaves open in it what the sessions have
pub opens_as : OpensAsTheMachine
opens_as shape parts entry front m next named h agrees =
    let last : Occurrence = occurrence_of shape parts entry in
    let kept = event_keeps shape parts entry.session m next entry.made.event entry.made.refused named h
    (own_after (under entry.session front)) (agrees entry.session) in
    λ r. of_any last kept r (same_or_not r entry.session)
  where
    of_any : (last : Occurrence)
        → OpenAs entry.session (own_behind (own_after (under entry.session front)) entry.made.event (reply_after shape parts entry.made)) (transaction_of entry.session next)
        × ((r : ℕ) → r ≢ entry.session → snapshot_in r next ≡ snapshot_in r m)
        → (r : ℕ) → (r ≡ entry.session) ⊎ (r ≢ entry.session)
        → OpenAs r (own_after (under r (front ++ occurrence_of shape parts entry ∷ []))) (transaction_of r next)
    of_any last kept r (inl same) = subst
        (λ n. OpenAs n (own_after (under n (front ++ occurrence_of shape parts entry ∷ []))) (transaction_of n next))
        (sym same)
        (subst (λ (o : Option OwnTransaction). OpenAs entry.session o (transaction_of entry.session next))
        (sym (own_more entry.session front (occurrence_of shape parts entry) refl)) kept.0)
    of_any last kept r (inr ne) = subst
        (λ (o : Option OwnTransaction). OpenAs r o (transaction_of r next))
        (sym (others_more r front (occurrence_of shape parts entry) (λ e. ne (sym e))))
        (record { snapshot = (agrees r).snapshot ∙ sym (kept.1 r ne); session_is = (agrees r).session_is })
