-- How the parts go on belonging together, and what is read in them.
use Rattle.std.proofs.Common.{◌≡◌, ℕ, ◌+◌, ◌-◌, ◌<◌, ◌≤◌, nat_le, zero, suc, Bool, true, false, cond, not, eqb, ◌⊎◌, inl, inr, List, [], ◌∷◌, ◌++◌, length, map, take, get_or, Option, None, Some, refl, sym, ap, ◌∙◌, subst, arith}
use Rattle.std.specs.Prelude.{◌==◌, option_map, position, remove, unwrap_or, if◌then◌else◌, Result, Ok, Err, IfOk}
use Rattle.std.proofs.Math.ListN.{set}
use Rattle.std.specs.List.{filter, last_or, slice_get}
use Rattle.std.specs.Option.{option_map_or}
use Rattle.std.specs.BTreeMap.{BTreeMap}
use Rattle.std.proofs.lemmas.List.{get_or-take}
use Rattle.std.proofs.lemmas.Option.{slice_get-get_or, slice_get_past}
use Rattle.cell_model.specs.declared.cell.Cell.{Cell}
use Rattle.isolation_spec.specs.Contents.{is_place, at_place, History, WriteSet, state_at}
use Rattle.isolation_spec.specs.declared.place.Place.{Place}
use Rattle.isolation_spec.specs.Machine.{IsolationMachine, Transaction, entered, with_own, without, transaction_of, writes_place, seen_rows, step, step_of, step_within}
use Rattle.isolation_spec.specs.declared.command.Act.{Act}
use Rattle.isolation_spec.specs.declared.command.Answer.{Answer}
use Rattle.timeline_laws.proofs.Machine.{apart-push, apart-map, apart-without, begun}
use Rattle.isolation_laws.proofs.Later.{last_writer}
use Rattle.timeline_laws.proofs.Writers.{last-some, writes-more}
use Rattle.si_machine.specs.declared.writers.Writers.{Writers}
use Rattle.si_machine.specs.declared.ledger.Ledger.{Ledger}
use Rattle.si_machine.specs.declared.ledger.OpenTransaction.{OpenTransaction}
use Rattle.si_machine.specs.Kept.{Answers, Rises, AllRise, AreOpen, Belongs, has_place, is_key, machine_in, open_at, numbers_at, numbers_from, transaction_in}
use Rattle.si_machine.proofs.Parts.{found-at, find-map, get-map, length-kept}
use Rattle.si_machine.proofs.Transactions.{map-remove, removed, set-changed}
use Rattle.si_machine.proofs.Rising.{same-place, rises-insert, rises-fold, rise-take, at-laid}
use Rattle.si_machine.proofs.Latest.{left_by, at-fold, last-numbers, numbers-up-to}

-- ---- the open transactions

-- the own places of the open transaction at an index rise, and each is one that was written
pub open-at : (writers : Writers) (ts : List Transaction) (i : ℕ) (d : Transaction) → i < length ts → AreOpen writers ts
    → Rises (get_or ts i d).own × ((place : Place) → writes_place place (get_or ts i d).own ≡ true → has_place writers place ≡ true)
open-at writers [] i d within h = absurd (omega (arith, within))
open-at writers (t ∷ ts) zero d within h = (h.0, h.1)
open-at writers (t ∷ ts) (suc i) d within h = open-at writers ts i d (omega (arith, within)) h.2

-- With a transaction more that wrote nothing, the open ones are as they should be.
open-push : (writers : Writers) (ts : List Transaction) (session snapshot : ℕ) → AreOpen writers ts → AreOpen writers (ts ++ record { session = session; snapshot = snapshot; own = [] } ∷ [])
open-push writers [] session snapshot h = (tt, (λ place h. let never : ⊥ = cc in absurd never), tt)
open-push writers (t ∷ ts) session snapshot h = (h.0, h.1, open-push writers ts session snapshot h.2)

-- With one that is as it should be, kept or not, the open transactions are so.
open-kept : (writers : Writers) (t : Transaction) (ts : List Transaction) (b : Bool) → Rises t.own → ((place : Place) → writes_place place t.own ≡ true → has_place writers place ≡ true)
    → AreOpen writers ts → AreOpen writers (cond b (t ∷ ts) ts)
open-kept writers t ts true rises there h = (rises, there, h)
open-kept writers t ts false rises there h = h

-- Of open transactions those that are kept are as they should be.
open-filter : (writers : Writers) (p : Transaction → Bool) (ts : List Transaction) → AreOpen writers ts → AreOpen writers (filter p ts)
open-filter writers p [] h = tt
open-filter writers p (t ∷ ts) h = open-kept writers t (filter p ts) (p t) h.0 h.1 (open-filter writers p ts h.2)

module _ (before now : Writers) (stays : (place : Place) → has_place before place ≡ true → has_place now place ≡ true) where
  -- Open transactions are as they should be where all written places are still there.
  open-stays : (ts : List Transaction) → AreOpen before ts → AreOpen now ts
  open-stays [] h = tt
  open-stays (t ∷ ts) h = (h.0, (λ place w. stays place (h.1 place w)), open-stays ts h.2)

  module _ (session : ℕ) (place : Place) (change : Option (List Cell)) (there : has_place now place ≡ true) where
    has-entered : (own : WriteSet) → ((q : Place) → writes_place q own ≡ true → has_place before q ≡ true) → (q : Place) (b : Bool) → is_place q place ≡ b
        → cond b true (writes_place q own) ≡ true → has_place now q ≡ true
    has-entered own h q true is w = ap (has_place now) (same-place q place is) ∙ there
    has-entered own h q false is w = stays q (h q w)

    entered-one : (t : Transaction) (ts : List Transaction) (b : Bool) → Rises t.own → ((q : Place) → writes_place q t.own ≡ true → has_place before q ≡ true)
        → AreOpen now ts → AreOpen now (cond b (entered place change t) t ∷ ts)
    entered-one t ts true rises h rest =
        (rises-insert place change t.own rises, (λ q w. has-entered t.own h q (is_place q place) refl (sym (writes-more t.own place change q) ∙ w)), rest)
    entered-one t ts false rises h rest = (rises, (λ q w. stays q (h q w)), rest)

    open-entered : (ts : List Transaction) → AreOpen before ts → AreOpen now (map (λ t. if t.session == session then entered place change t else t) ts)
    open-entered [] h = tt
    open-entered (t ∷ ts) h =
        entered-one t (map (λ t. if t.session == session then entered place change t else t) ts) (eqb t.session session) h.0 h.1 (open-entered ts h.2)

-- ---- the steps

-- the parts belong together still when a session without a transaction begins one
pub belongs-begun : (session : ℕ) (machine : IsolationMachine) (writers : Writers) → transaction_of session machine ≡ None → Belongs machine writers → Belongs (begun session machine) writers
belongs-begun session machine writers none h = record {
  numbers = h.numbers;
  keys = h.keys;
  apart = apart-push machine.open_transactions (record { session = session; snapshot = length machine.history; own = [] }) h.apart none;
  rise = h.rise;
  opened = open-push writers machine.open_transactions session (length machine.history) h.opened;
}

-- the parts belong together still when a session's transaction ends
pub belongs-without : (session : ℕ) (machine : IsolationMachine) (writers : Writers) → Belongs machine writers → Belongs (without session machine) writers
belongs-without session machine writers h = record {
  numbers = h.numbers;
  keys = h.keys;
  apart = apart-without session machine.open_transactions h.apart;
  rise = h.rise;
  opened = open-filter writers (λ t. not (eqb t.session session)) machine.open_transactions h.opened;
}

-- A place that was added for a key, or was there, has a key.
key-of : (before : Writers) (place q : Place) → is_key place ≡ true → ((q : Place) → has_place before q ≡ true → is_key q ≡ true) → (q ≡ place) ⊎ (has_place before q ≡ true) → is_key q ≡ true
key-of before place q key keys (inl is) = ap is_key is ∙ key
key-of before place q key keys (inr had) = keys q had

-- A write that is entered or not leaves whose the transaction is.
session-kept : (session : ℕ) (place : Place) (change : Option (List Cell)) (t : Transaction) (b : Bool) → (cond b (entered place change t) t).session ≡ t.session
session-kept session place change t true = refl
session-kept session place change t false = refl

module _ (machine : IsolationMachine) (before now : Writers) (h : Belongs machine before)
    (numbers : (place : Place) → numbers_at now place ≡ numbers_at before place)
    (stays : (place : Place) → has_place before place ≡ true → has_place now place ≡ true) where
  -- places that are added have no numbers
  pub belongs-added : (place : Place) → is_key place ≡ true → ((other : Place) → has_place now other ≡ true → (other ≡ place) ⊎ (has_place before other ≡ true)) → Belongs machine now
  belongs-added place key only = record {
    numbers = λ q. numbers q ∙ h.numbers q;
    keys = λ q has. key-of before place q key h.keys (only q has);
    apart = h.apart;
    rise = h.rise;
    opened = open-stays before now stays machine.open_transactions h.opened;
  }

  -- the parts belong together still when a write is entered at a place that is there for it
  pub belongs-entered : (session : ℕ) (place : Place) (change : Option (List Cell)) → is_key place ≡ true
      → ((other : Place) → has_place now other ≡ true → (other ≡ place) ⊎ (has_place before other ≡ true)) → has_place now place ≡ true
      → Belongs (with_own session place change machine) now
  belongs-entered session place change key only there = record {
    numbers = λ q. numbers q ∙ h.numbers q;
    keys = λ q has. key-of before place q key h.keys (only q has);
    apart = apart-map (λ t. if t.session == session then entered place change t else t) (λ t. session-kept session place change t (eqb t.session session)) machine.open_transactions h.apart;
    rise = h.rise;
    opened = open-entered before now stays session place change there machine.open_transactions h.opened;
  }

  -- room that is made changes nothing
  pub belongs-same : ((place : Place) → has_place now place ≡ has_place before place) → Belongs machine now
  belongs-same same = record {
    numbers = λ q. numbers q ∙ h.numbers q;
    keys = λ q has. h.keys q (sym (same q) ∙ has);
    apart = h.apart;
    rise = h.rise;
    opened = open-stays before now stays machine.open_transactions h.opened;
  }

-- A number put in front of two lists in a row, or not, is put in front of the first.
one-longer : (at : ℕ) (later more : List ℕ) (b : Bool) → (if b then at ∷ (later ++ more) else later ++ more) ≡ (if b then at ∷ later else later) ++ more
one-longer at later more true = refl
one-longer at later more false = refl

-- the numbers with one more commit
numbers-more : (q : Place) (at : ℕ) (history : History) (own : WriteSet)
    → numbers_from q at (history ++ own ∷ []) ≡ numbers_from q at history ++ (if writes_place q own then (at + length history) ∷ [] else [])
numbers-more q at [] own = let same : at + 0 ≡ at = omega arith in rw same refl
numbers-more q at (writes ∷ later) own =
    let same : (at + 1) + length later ≡ at + suc (length later) = omega arith in
    ap (λ (ns : List ℕ). if writes_place q writes then at ∷ ns else ns)
    (numbers-more q (at + 1) later own ∙ ap (λ (n : ℕ). numbers_from q (at + 1) later ++ (if writes_place q own then n ∷ [] else [])) same)
    ∙ one-longer at (numbers_from q (at + 1) later) (if writes_place q own then (at + suc (length later)) ∷ [] else []) (writes_place q writes)

-- With a commit more whose places rise, the places of all commits do.
rise-push : (history : History) (own : WriteSet) → AllRise history → Rises own → AllRise (history ++ own ∷ [])
rise-push [] own h rises = (rises, tt)
rise-push (writes ∷ history) own h rises = (h.0, rise-push history own h.1 rises)

-- the parts belong together still when a commit's number is put behind those of its places
pub belongs-committed : (machine : IsolationMachine) (own : WriteSet) (number : ℕ) (before now : Writers) → Belongs machine before → Rises own → number ≡ length machine.history + 1
    → ((place : Place) → numbers_at now place ≡ numbers_at before place ++ (if writes_place place own then number ∷ [] else []))
    → ((place : Place) → has_place now place ≡ has_place before place)
    → Belongs (record machine { history = machine.history ++ own ∷ [] }) now
belongs-committed machine own number before now h rises is numbers same = record {
  numbers = λ q.
      let e : number ≡ 1 + length machine.history = omega (arith, is) in
      numbers q
      ∙ ap (λ (n : ℕ). numbers_at before q ++ (if writes_place q own then n ∷ [] else [])) e
      ∙ ap (λ (ns : List ℕ). ns ++ (if writes_place q own then (1 + length machine.history) ∷ [] else [])) (h.numbers q)
      ∙ sym (numbers-more q 1 machine.history own);
  keys = λ q has. h.keys q (sym (same q) ∙ has);
  apart = h.apart;
  rise = rise-push machine.history own h.rise rises;
  opened = open-stays before now (λ place had. same place ∙ had) machine.open_transactions h.opened;
}

-- ---- what is read

-- the number of the newest commit of a place, up to a snapshot
pub newest-is : (machine : IsolationMachine) (writers : Writers) (place : Place) (n : ℕ) → Belongs machine writers
    → last_or None (filter (λ number. nat_le number n) (numbers_at writers place)) ≡ last_writer place 1 (take n machine.history)
newest-is machine writers place n h =
    ap (λ (ns : List ℕ). last_or None (filter (λ number. nat_le number n) ns)) (h.numbers place)
    ∙ ap (last_or None) (numbers-up-to n place 1 n machine.history (omega arith))
    ∙ last-numbers place 1 (take n machine.history)

-- what a state has at a place is what the last commit in it that wrote the place left there
pub state-is : (place : Place) (n : ℕ) (history : History) → AllRise history → at_place (state_at history n) place ≡ left_by place 1 (take n history) None (last_writer place 1 (take n history))
state-is place n history h = at-fold place 1 (take n history) [] tt (rise-take n history h)

-- An index within the first so many is below that number.
length-front : (n : ℕ) (history : History) (i : ℕ) → i < length (take n history) → i < n
length-front zero history i h = absurd (omega (arith, h))
length-front (suc n) [] i h = absurd (omega (arith, h))
length-front (suc n) (w ∷ history) zero h = omega arith
length-front (suc n) (w ∷ history) (suc i) h = let e : i < n = length-front n history i (omega (arith, h)) in omega (arith, e)

-- where a commit wrote the place, the state has what the newest one left there
pub state-found : (place : Place) (n number : ℕ) (history : History) → AllRise history → last_writer place 1 (take n history) ≡ Some number
    → at_place (state_at history n) place ≡ unwrap_or (at_place (get_or history (number - 1) []) place) None
state-found place n number history h is =
    let found = last-some (writes_place place) refl 1 (take n history) number is in
    let within : number - 1 < n = let w = length-front n history found.index found.inside in omega (arith, w, found.number_is) in
    state-is place n history h
    ∙ ap (left_by place 1 (take n history) None) is
    ∙ ap (λ (w : WriteSet). unwrap_or (at_place w place) None) (get_or-take n history (number - 1) [] within)

-- where no commit wrote the place, the state has nothing there
pub state-missed : (place : Place) (n : ℕ) (history : History) → AllRise history → last_writer place 1 (take n history) ≡ None → at_place (state_at history n) place ≡ None
state-missed place n history h is = state-is place n history h ∙ ap (left_by place 1 (take n history) None) is

-- What a transaction sees at a place: what it left there, or else what the commits did.
pub seen-is : (machine : IsolationMachine) (t : Transaction) (place : Place) → Rises t.own
    → at_place (seen_rows machine t) place ≡ unwrap_or (at_place t.own place) (at_place (state_at machine.history t.snapshot) place)
seen-is machine t place rises = at-laid (state_at machine.history t.snapshot) t.own place (rises-fold [] (take t.snapshot machine.history) tt) rises

-- what is found at an index among images is the image of what is found there
pub got-map : {X Y : Type 0} (f : X → Y) (xs : List X) (i : ℕ) (d : Y) → get_or (map f xs) i d ≡ option_map_or f (slice_get xs i) d
got-map f [] i d = refl
got-map f (x ∷ xs) zero d = refl
got-map f (x ∷ xs) (suc i) d = got-map f xs i d

-- the own of a transaction that is kept
pub kept-at : (ledger : Ledger) (i : ℕ) (d : OpenTransaction) → i < length ledger.transactions.items → Belongs (machine_in ledger) ledger.writers
    → Rises (get_or ledger.transactions.items i d).own.entries × ((place : Place) → writes_place place (get_or ledger.transactions.items i d).own.entries ≡ true → has_place ledger.writers place ≡ true)
kept-at ledger i d within h =
    let inside : i < length (map transaction_in ledger.transactions.items) = omega (arith, length-kept transaction_in ledger.transactions.items, within) in
    subst (λ (t : Transaction). Rises t.own × ((place : Place) → writes_place place t.own ≡ true → has_place ledger.writers place ≡ true))
    (get-map transaction_in ledger.transactions.items i d)
    (open-at ledger.writers (map transaction_in ledger.transactions.items) i (transaction_in d) inside h.opened)

-- what a commit that is kept left at the place
pub state-kept : (ledger : Ledger) (place : Place) (n number : ℕ) → Belongs (machine_in ledger) ledger.writers → last_writer place 1 (take n (machine_in ledger).history) ≡ Some number
    → at_place (state_at (machine_in ledger).history n) place ≡ unwrap_or (at_place (option_map_or (λ writes. writes.entries) (slice_get ledger.commits.items (number - 1)) []) place) None
state-kept ledger place n number h is =
    state-found place n number (machine_in ledger).history h.rise is
    ∙ ap (λ (w : WriteSet). unwrap_or (at_place w place) None) (got-map (λ writes. writes.entries) ledger.commits.items (number - 1) [])

-- where the newest commit of the place is not among those that are kept, there is no row
pub state-past : (ledger : Ledger) (place : Place) (n number : ℕ) → Belongs (machine_in ledger) ledger.writers → last_writer place 1 (take n (machine_in ledger).history) ≡ Some number
    → length ledger.commits.items ≤ number - 1 → at_place (state_at (machine_in ledger).history n) place ≡ None
state-past ledger place n number h is past =
    state-kept ledger place n number h is
    ∙ ap (λ o. unwrap_or (at_place (option_map_or (λ writes. writes.entries) o []) place) None) (slice_get_past ledger.commits.items (number - 1) past)

-- where the newest commit of the place is kept, the state has what it left there
pub state-read : (ledger : Ledger) (place : Place) (n number : ℕ) (none : BTreeMap Place (Option (List Cell))) → Belongs (machine_in ledger) ledger.writers
    → last_writer place 1 (take n (machine_in ledger).history) ≡ Some number → number - 1 < length ledger.commits.items
    → at_place (state_at (machine_in ledger).history n) place ≡ unwrap_or (at_place (get_or ledger.commits.items (number - 1) none).entries place) None
state-read ledger place n number none h is within =
    state-kept ledger place n number h is
    ∙ ap (λ o. unwrap_or (at_place (option_map_or (λ writes. writes.entries) o []) place) None) (slice_get-get_or ledger.commits.items (number - 1) none within)

-- ---- what becomes of the transactions that are kept

-- the machine with a transaction more
abbrev pub machine_with : IsolationMachine → ℕ → ℕ → WriteSet → IsolationMachine
machine_with machine session snapshot own = record machine {
  open_transactions = machine.open_transactions ++ record { session = session; snapshot = snapshot; own = own } ∷ [];
}

-- An index within the kept transactions is within those of the machine.
within-kept : (ledger : Ledger) (i : ℕ) → i < length ledger.transactions.items → i < length (map transaction_in ledger.transactions.items)
within-kept ledger i within = omega (arith, length-kept transaction_in ledger.transactions.items, within)

-- a write entered at an index among the kept transactions is entered for its session
pub own-entered : (ledger : Ledger) (i : ℕ) (d : OpenTransaction) (place : Place) (change : Option (List Cell)) → Belongs (machine_in ledger) ledger.writers → i < length ledger.transactions.items
    → set (map transaction_in ledger.transactions.items) i (entered place change (transaction_in (get_or ledger.transactions.items i d)))
    ≡ (with_own (get_or ledger.transactions.items i d).session place change (machine_in ledger)).open_transactions
own-entered ledger i d place change h within =
    let ts = map transaction_in ledger.transactions.items in
    let its = get-map transaction_in ledger.transactions.items i d in
    ap (λ (t : Transaction). set ts i (entered place change t)) (sym its)
    ∙ set-changed (entered place change) ts i (transaction_in d) h.apart (within-kept ledger i within)
    ∙ ap (λ (t : Transaction). map (λ u. if u.session == t.session then entered place change u else u) ts) its

-- without the kept transaction at an index the machine is without its session's
pub own-ended : (ledger : Ledger) (i : ℕ) (d : OpenTransaction) → Belongs (machine_in ledger) ledger.writers → i < length ledger.transactions.items
    → map transaction_in (remove ledger.transactions.items i) ≡ (without (get_or ledger.transactions.items i d).session (machine_in ledger)).open_transactions
own-ended ledger i d h within =
    let ts = map transaction_in ledger.transactions.items in
    map-remove transaction_in ledger.transactions.items i
    ∙ removed ts i (transaction_in d) h.apart (within-kept ledger i within)
    ∙ ap (λ (t : Transaction). filter (λ u. not (u.session == t.session)) ts) (get-map transaction_in ledger.transactions.items i d)

-- the step of the session whose transaction stands at an index
pub step-within : {E : Type 0} (before now : Ledger) (session : ℕ) (asked : Act) (at : ℕ) (result : Result Answer E)
    → position (λ (t : OpenTransaction). t.session == session) before.transactions.items ≡ Some at
    → Answers (λ machine t. step_within machine t asked) before at result now
    → IfOk result (λ said. step (machine_in before) (record { session = session; act = asked }) ≡ (said, machine_in now))
step-within before now session asked at (Ok said) is h =
    let found = found-at (λ (t : OpenTransaction). t.session == session) before.transactions.items at is in
    let its : transaction_of session (machine_in before) ≡ Some (open_at before at found.element) =
    find-map transaction_in (λ (t : Transaction). t.session == session) before.transactions.items ∙ ap (option_map transaction_in) found.found
    ∙ ap (λ (t : OpenTransaction). Some (transaction_in t)) (sym (found.there found.element)) in
    ap (step_of (machine_in before) (record { session = session; act = asked })) its ∙ h found.element
step-within before now session asked at (Err refused) is h = tt
