-- The numbers that commits and snapshots show, and the write sets that stand under them.
use Rattle.std.proofs.Common.{◌≡◌, ◌⊎◌, inl, inr, ℕ, ◌+◌, ◌*◌, ◌<◌, ◌≤◌, Bool, true, false, cond, ◌&&◌, eqb, nat_lt, nat_le, List, [], ◌∷◌, ◌++◌, length, Option, None, Some, refl, sym, ap, ◌∙◌, subst, arith}
use Rattle.std.specs.Prelude.{is_some, option_and_then}
use Rattle.std.specs.List.{count_by, find, list_all, list_any}
use Rattle.std.specs.Option.{option_map_or}
use Rattle.std.proofs.lemmas.Bool.{and_parts, eqb-true, ltb-true, leb-true}
use Rattle.std.proofs.lemmas.List.FromFn.{length-map-range_with_len}
use Rattle.isolation_spec.specs.Contents.{WriteSet}
use Rattle.workload_spec.specs.declared.reply.Who.TheVariants.{Session}
use Rattle.workload_spec.specs.declared.reply.Said.{Said}
use Rattle.workload_spec.specs.declared.reply.Said.TheVariants as said
use Rattle.outcome_spec.specs.Entries.{Entry, after, before, commit_in, is_before, shown_in}
use Rattle.outcome_spec.specs.Runs.{Run, Span, run_of, accepted_write, commit_count, commit_line, commits_as, committed_writes, transaction_with, transactions_of, writes_in}
use Rattle.outcome_spec.specs.Numbers.{commit_holds, has_written, number_shown, snapshot_holds}
use Rattle.order_laws.specs.Places.{Rises, is_ahead}
use Rattle.order_laws.proofs.Pieces.{count-cons}
use Rattle.bench_laws.proofs.Every.{Every, Has, all-has, every-has, find-has, has-cases, has-filter, has-left, has-right}
use Rattle.bench_laws.proofs.Replies.{IsInsertReply, IsUpdateReply, IsCountReply, IsSealReply, IsGatherReply, IsScanReply, IsExportReply}
use Rattle.bench_laws.proofs.Parts.{Part, Writing, Keeping, Freezing, Wrote, Good, GoodWrote, From, InTurn, Under, begin, insert, update, commit, replies_to, entries_in, last_commit, last_entries, wrotes}
use Rattle.bench_laws.proofs.Order.{ahead-not, ahead-own, has-shown}
use Rattle.bench_laws.proofs.Places.{about, Before, every-wrote, has-reply, in-turn-front, in-turn-rest, wrotes-append}
use Rattle.bench_laws.proofs.Told.{Told, sound-at, tables}
use Rattle.bench_laws.proofs.Freezing.{stands}
use Rattle.bench_laws.proofs.Spans.{belongs, belongs-last}
use Rattle.bench_laws.proofs.Writes.{last-unwritten}

-- ---- replies that commit nothing

-- what an insert is told shows no commit
pub insert-commits-none : (told : Said) → IsInsertReply told → commit_in told ≡ None
insert-commits-none said.Accepted h = refl
insert-commits-none said.Exists h = refl
insert-commits-none said.Full h = refl
insert-commits-none said.Memory h = refl
insert-commits-none (said.ConflictSession session) h = refl
insert-commits-none (said.ConflictCommit number) h = refl
insert-commits-none _ h = absurd h

-- nor does what an update is told
pub update-commits-none : (told : Said) → IsUpdateReply 0 told → commit_in told ≡ None
update-commits-none said.Accepted h = refl
update-commits-none said.Missing h = refl
update-commits-none said.Memory h = refl
update-commits-none (said.Freezing of at stamp) h = refl
update-commits-none (said.ConflictSession session) h = refl
update-commits-none (said.ConflictCommit number) h = refl
update-commits-none _ h = absurd h

-- nor what pruning, observing and compacting are
pub count-commits-none : (told : Said) → IsCountReply told → commit_in told ≡ None
count-commits-none (said.Cooling n) h = refl
count-commits-none (said.Pruned n) h = refl
count-commits-none (said.Moved n) h = refl
count-commits-none said.Memory h = refl
count-commits-none _ h = absurd h

-- nor what sealing is
pub seal-commits-none : (block : ℕ) (told : Said) → IsSealReply 0 block told → commit_in told ≡ None
seal-commits-none block (said.Sealed of at stamp) h = refl
seal-commits-none block (said.NotSealed cause) h = refl
seal-commits-none block _ h = absurd h

-- nor what gathering is
pub gather-commits-none : (block : ℕ) (told : Said) → IsGatherReply 0 block told → commit_in told ≡ None
gather-commits-none block (said.Frozen of at rows) h = refl
gather-commits-none block said.NotFrozen h = refl
gather-commits-none block said.Memory h = refl
gather-commits-none block _ h = absurd h

-- nor what a scan is
pub scan-commits-none : (told : Said) → IsScanReply told → commit_in told ≡ None
scan-commits-none (said.Scanned rows) h = refl
scan-commits-none said.Memory h = refl
scan-commits-none _ h = absurd h

-- nor what an export is
pub export-commits-none : (told : Said) → IsExportReply told → commit_in told ≡ None
export-commits-none (said.Exported number rows batches frozen) h = refl
export-commits-none (said.Dirty key) h = refl
export-commits-none said.Memory h = refl
export-commits-none _ h = absurd h

-- A reply that shows no commit does not commit as a number.
not-committed : (k : ℕ) (told : Said) → commit_in told ≡ None → option_map_or (λ shown. eqb shown k) (commit_in told) false ≡ true → ⊥
not-committed k told none h =
    let e : false ≡ true = sym (ap (λ (o : Option ℕ). option_map_or (λ shown. eqb shown k) o false) none) ∙ h in
    let never : ⊥ = cc in never

-- An optional number that is tested to be this one is this one.
number-is : (k : ℕ) (number : Option ℕ) → option_map_or (λ shown. eqb shown k) number false ≡ true → number ≡ Some k
number-is k None h = absurd (let never : ⊥ = cc in never)
number-is k (Some n) h = ap Some (eqb-true n k h)

-- a reply of the parts that commits is a transaction's
pub record Committing (k : ℕ) (transactions : List Wrote) (x : Entry) : Type 0 where
  pub by : Wrote
  pub among : Has by transactions
  pub number : by.number ≡ Some k
  pub is : x ≡ commit by

-- A commit by one of some transactions is one of them with a transaction in front too.
later-one : (k : ℕ) (w : Wrote) (transactions : List Wrote) (x : Entry) → Committing k transactions x → Committing k (w ∷ transactions) x
later-one k w transactions x h = record { by = h.by; among = inr h.among; number = h.number; is = h.is }

-- A reply of a transaction that commits as a number is that transaction's commit.
own-commit : (seed k : ℕ) (w : Wrote) (transactions : List Wrote) → GoodWrote seed w → (x : Entry) → Has x (replies_to w) → commits_as k x ≡ true → Committing k (w ∷ transactions) x
own-commit seed k w transactions good x (inl same) h = absurd (not-committed k (said.At w.snapshot) refl (subst (λ (e : Entry). commits_as k e ≡ true) (sym same) h))
own-commit seed k w transactions good x (inr (inl same)) h = absurd (not-committed k w.insert_said (insert-commits-none w.insert_said good.insert_fits) (subst (λ (e : Entry). commits_as k e ≡ true) (sym same) h))
own-commit seed k w transactions good x (inr (inr (inl same))) h = absurd (not-committed k w.update_said (update-commits-none w.update_said good.update_fits) (subst (λ (e : Entry). commits_as k e ≡ true) (sym same) h))
own-commit seed k w transactions good x (inr (inr (inr (inl same)))) h = record { by = w; among = inl refl; number = number-is k w.number (subst (λ (e : Entry). commits_as k e ≡ true) (sym same) h); is = sym same }
own-commit seed k w transactions good x (inr (inr (inr (inr never)))) h = absurd never

-- A reply of the parts that commits as a number is a transaction's among them.
parts-commit : (seed k : ℕ) (parts : List Part) → Every (Good seed) parts → (x : Entry) → Has x (entries_in parts) → commits_as k x ≡ true → Committing k (wrotes parts) x
parts-commit seed k [] good x has h = absurd has
parts-commit seed k (Writing w ∷ parts) good x has h = elim (has-cases x (replies_to w) (entries_in parts) has) [
  | inl own ↦ own-commit seed k w (wrotes parts) good.0 x own h
  | inr rest ↦ later-one k w (wrotes parts) x (parts-commit seed k parts good.1 x rest h)
]
parts-commit seed k (Keeping f ∷ parts) good x (inl same) h = absurd (not-committed k f.told (count-commits-none f.told good.0.1) (subst (λ (e : Entry). commits_as k e ≡ true) (sym same) h))
parts-commit seed k (Keeping f ∷ parts) good x (inr rest) h = parts-commit seed k parts good.1 x rest h
parts-commit seed k (Freezing f ∷ parts) good x (inl same) h = absurd (not-committed k f.seal_said (seal-commits-none f.block f.seal_said good.0.0) (subst (λ (e : Entry). commits_as k e ≡ true) (sym same) h))
parts-commit seed k (Freezing f ∷ parts) good x (inr (inl same)) h = absurd (not-committed k f.gather_said (gather-commits-none f.block f.gather_said good.0.1) (subst (λ (e : Entry). commits_as k e ≡ true) (sym same) h))
parts-commit seed k (Freezing f ∷ parts) good x (inr (inr rest)) h = parts-commit seed k parts good.1 x rest h

-- ---- one of a kind

-- Where an element passes a test, at least one is counted.
some-counted : {X : Type 0} (p : X → Bool) (xs : List X) (x : X) → Has x xs → p x ≡ true → 1 ≤ count_by p xs
some-counted p [] x has h = absurd has
some-counted p (y ∷ xs) x (inl same) h =
    let c = count-cons p y xs in
    let one : ◌≡◌ {A = ℕ} (cond (p y) 1 0) 1 = ap (λ (b : Bool). cond {A = ℕ} b 1 0) (ap p same ∙ h) in
    omega (arith, c, one)
some-counted p (y ∷ xs) x (inr rest) h = let c = count-cons p y xs in let more = some-counted p xs x rest h in omega (arith, c, more)

-- where just one element passes a test, two that pass it are one
pub only-one : {X : Type 0} (p : X → Bool) (xs : List X) (x y : X) → count_by p xs ≡ 1 → Has x xs → Has y xs → p x ≡ true → p y ≡ true → x ≡ y
only-one p [] x y one has there h k = absurd has
only-one p (z ∷ xs) x y one (inl same) (inl other) h k = sym same ∙ other
only-one p (z ∷ xs) x y one (inl same) (inr there) h k =
    let c = count-cons p z xs in
    let first : ◌≡◌ {A = ℕ} (cond (p z) 1 0) 1 = ap (λ (b : Bool). cond {A = ℕ} b 1 0) (ap p same ∙ h) in
    let more = some-counted p xs y there k in
    absurd (omega (arith, c, first, more, one))
only-one p (z ∷ xs) x y one (inr has) (inl other) h k =
    let c = count-cons p z xs in
    let first : ◌≡◌ {A = ℕ} (cond (p z) 1 0) 1 = ap (λ (b : Bool). cond {A = ℕ} b 1 0) (ap p other ∙ k) in
    let more = some-counted p xs x has h in
    absurd (omega (arith, c, first, more, one))
only-one p (z ∷ xs) x y one (inr has) (inr there) h k =
    let c = count-cons p z xs in
    let more = some-counted p xs x has h in
    only-one p xs x y (omega (arith, c, more, one)) has there h k

-- Where a search finds nothing, no element of the list passes the test.
find-none : {X : Type 0} (p : X → Bool) (xs : List X) (x : X) → find p xs ≡ None → Has x xs → p x ≡ true → ⊥
find-none p [] x none has h = has
find-none p (y ∷ xs) x none has h = by (p y) refl none has (find-none p xs x)
  where
    by : (b : Bool) → p y ≡ b → cond b (Some y) (find p xs) ≡ None → (y ≡ x) ⊎ Has x xs → (find p xs ≡ None → Has x xs → p x ≡ true → ⊥) → ⊥
    by true is nothing found rest = let never : ⊥ = cc in never
    by false is nothing (inl same) rest = let e : false ≡ true = sym is ∙ ap p same ∙ h in let never : ⊥ = cc in never
    by false is nothing (inr there) rest = rest nothing there h

-- The four parts of a conjunction that is true.
four : (a b c d : Bool) → (a && b && c && d) ≡ true → (a ≡ true) × (b ≡ true) × (c ≡ true) × (d ≡ true)
four true true true true h = (refl, refl, refl, refl)
four false b c d h = absurd (let never : ⊥ = cc in never)
four true false c d h = absurd (let never : ⊥ = cc in never)
four true true false d h = absurd (let never : ⊥ = cc in never)
four true true true false h = absurd (let never : ⊥ = cc in never)

-- ---- the order of the transactions

-- the replies of one stand in order
pub record Own (w : Wrote) : Type 0 where
  pub begin_insert : is_before (begin w) (insert w) ≡ true
  pub begin_update : is_before (begin w) (update w) ≡ true
  pub begin_commit : is_before (begin w) (commit w) ≡ true
  pub insert_update : is_before (insert w) (update w) ≡ true
  pub insert_commit : is_before (insert w) (commit w) ≡ true
  pub update_commit : is_before (update w) (commit w) ≡ true
  pub update_insert : is_before (update w) (insert w) ≡ false
  pub commit_insert : is_before (commit w) (insert w) ≡ false
  pub commit_update : is_before (commit w) (update w) ≡ false

-- Where all replies stand in order, those behind the front do.
rises-rest : (front rest : List Entry) → Rises (front ++ rest) → Rises rest
rises-rest [] rest h = h
rises-rest (x ∷ front) rest h = rises-rest front rest h.1

module _ (seed size : ℕ) (replies : List Entry) (told : Told seed size replies) where
  -- the run that the replies tell
  abbrev pub run : Run
  run = run_of tables replies

  -- the transactions of the write rounds
  abbrev pub transactions : List Wrote
  transactions = wrotes told.parts

  -- each transaction writes its turn's rows, and is told what it may be
  pub good-of : (w : Wrote) → Has w transactions → GoodWrote seed w
  good-of w among = every-has (GoodWrote seed) transactions w (every-wrote (GoodWrote seed) (Good seed) (λ v h. h) told.parts told.good) among

  -- the replies to a transaction are among all of them
  pub among-replies : (w : Wrote) → Has w transactions → (e : Entry) → Has e (replies_to w) → Has e replies
  among-replies w among e has = subst (Has e) (sym told.whole) (has-left e (entries_in told.parts) (last_entries told.last) (has-reply w e told.parts among has))

  -- the replies of the last round are among all of them
  pub among-last : (e : Entry) → Has e (last_entries told.last) → Has e replies
  among-last e has = subst (Has e) (sym told.whole) (has-right e (entries_in told.parts) (last_entries told.last) has)

  -- each transaction is in a round before the last one
  pub under-last : (w : Wrote) → Has w transactions → w.round < told.last.round
  under-last w among = every-has (λ v. v.round < told.last.round) transactions w (every-wrote (λ v. v.round < told.last.round) (Under told.last.round) (λ v h. h) told.parts told.under) among

  -- a transaction's begin, insert, update and commit stand in this order
  pub own-order : (w : Wrote) → Has w transactions → Own w
  own-order w among =
      let its = about w told.parts among in
      let rises = rises-rest (entries_in its.front) (replies_to w ++ (entries_in its.rest ++ last_entries told.last)) (subst Rises (stands seed size replies told w its) told.rises) in
      let b = three-ahead (is_ahead (begin w) (insert w)) (is_ahead (begin w) (update w)) (is_ahead (begin w) (commit w)) (list_all (is_ahead (begin w)) (entries_in its.rest ++ last_entries told.last)) rises.0 in
      let i = two-ahead (is_ahead (insert w) (update w)) (is_ahead (insert w) (commit w)) (list_all (is_ahead (insert w)) (entries_in its.rest ++ last_entries told.last)) rises.1.0 in
      let u = and_parts (is_ahead (update w) (commit w)) (list_all (is_ahead (update w)) (entries_in its.rest ++ last_entries told.last)) rises.1.1.0 in
      record {
        begin_insert = ahead-own (begin w) (insert w) b.0 refl;
        begin_update = ahead-own (begin w) (update w) b.1 refl;
        begin_commit = ahead-own (begin w) (commit w) b.2 refl;
        insert_update = ahead-own (insert w) (update w) i.0 refl;
        insert_commit = ahead-own (insert w) (commit w) i.1 refl;
        update_commit = ahead-own (update w) (commit w) u.0 refl;
        update_insert = ahead-not (insert w) (update w) i.0;
        commit_insert = ahead-not (insert w) (commit w) i.1;
        commit_update = ahead-not (update w) (commit w) u.0;
      }
    where
      two-ahead : (a b c : Bool) → (a && (b && c)) ≡ true → (a ≡ true) × (b ≡ true)
      two-ahead true true c h = (refl, refl)
      two-ahead false b c h = absurd (let never : ⊥ = cc in never)
      two-ahead true false c h = absurd (let never : ⊥ = cc in never)

      three-ahead : (a b c d : Bool) → (a && (b && (c && d))) ≡ true → (a ≡ true) × (b ≡ true) × (c ≡ true)
      three-ahead true true true d h = (refl, refl, refl)
      three-ahead false b c d h = absurd (let never : ⊥ = cc in never)
      three-ahead true false c d h = absurd (let never : ⊥ = cc in never)
      three-ahead true true false d h = absurd (let never : ⊥ = cc in never)

  -- of two transactions one is the other, or before it, or behind it
  pub order : (v w : Wrote) → Has v transactions → Has w transactions → (v ≡ w) ⊎ (Before w (Writing v) ⊎ Before v (Writing w))
  order v w there among =
      let its = about w told.parts among in
      let turn : InTurn (its.front ++ Writing w ∷ its.rest) = subst InTurn its.whole told.in_turn in
      let at : Has v (wrotes its.front ++ w ∷ wrotes its.rest) = subst (Has v) (ap wrotes its.whole ∙ wrotes-append its.front (Writing w ∷ its.rest)) there in
      elim (has-cases v (wrotes its.front) (w ∷ wrotes its.rest) at) [
        | inl front ↦ inr (inl (every-has (λ x. Before w (Writing x)) (wrotes its.front) v (every-wrote (λ x. Before w (Writing x)) (Before w) (λ x h. h) its.front (in-turn-front its.front w its.rest turn (good-of w among).session_high)) front))
        | inr (inl same) ↦ inl (sym same)
        | inr (inr rest) ↦ inr (inr (behind (every-has (λ x. From (w.round + 1) (4 * w.round + w.session + 1) (4 * w.turn + w.session + 1) (Writing x)) (wrotes its.rest) v
            (every-wrote (λ x. From (w.round + 1) (4 * w.round + w.session + 1) (4 * w.turn + w.session + 1) (Writing x)) (From (w.round + 1) (4 * w.round + w.session + 1) (4 * w.turn + w.session + 1)) (λ x h. h) its.rest (in-turn-rest its.front w its.rest turn)) rest)))
      ]
    where
      behind : From (w.round + 1) (4 * w.round + w.session + 1) (4 * w.turn + w.session + 1) (Writing v) → Before v (Writing w)
      behind h = (let e = h.0 in omega (arith, e), let e = h.1 in omega (arith, e))

  -- ---- snapshots

  -- all commits are those that show a number
  all-numbered : length run.history ≡ commit_count replies
  all-numbered = length-map-range_with_len (committed_writes replies (transactions_of replies)) 1 (commit_count replies)

  pub record SnapshotFacts (e : Entry) (number : ℕ) : Type 0 where
    pub low : number ≤ commit_count replies
    pub earlier : (x : Entry) (k : ℕ) → Has x replies → is_before x e ≡ true → number_shown x.reply.said ≡ Some k → k ≤ number
    pub later : (x : Entry) (k : ℕ) → Has x replies → is_before e x ≡ true → commit_in x.reply.said ≡ Some k → number < k

  -- a snapshot is at least the numbers that are shown before it, and below those of later commits
  pub snapshot-facts : (e : Entry) (number : ℕ) → e.reply.said ≡ said.At number → Has e replies → SnapshotFacts e number
  snapshot-facts e number is has =
      let sound = sound-at seed size replies told e has in
      let holds : snapshot_holds run e (said.At number) ≡ true = subst (λ (s : Said). snapshot_holds run e s ≡ true) is sound.snapshots in
      let parts = four (nat_le number (length run.history)) (nat_le 0 number) (list_all (λ earlier. nat_le earlier number) (shown_in number_shown (before replies e)))
      (list_all (λ later. nat_lt number later) (shown_in commit_in (after replies e))) holds in
      record {
        low = subst (λ (most : ℕ). number ≤ most) all-numbered (leb-true number (length run.history) parts.0);
        earlier = λ x k there is_before_it shows. leb-true k number (all-has (λ earlier. nat_le earlier number) (shown_in number_shown (before replies e)) k parts.2 (has-shown number_shown (before replies e) x k (has-filter (λ other. is_before other e) replies x there is_before_it) shows));
        later = λ x k there is_behind_it shows. ltb-true number k (all-has (λ later. nat_lt number later) (shown_in commit_in (after replies e)) k parts.3 (has-shown commit_in (after replies e) x k (has-filter (λ other. is_before e other) replies x there is_behind_it) shows));
      }

  -- so is that of each transaction
  pub snapshot-of : (w : Wrote) → Has w transactions → SnapshotFacts (begin w) w.snapshot
  snapshot-of w among = snapshot-facts (begin w) w.snapshot refl (among-replies w among (begin w) (inl refl))

  -- ---- commits

  -- Where no reply is of an accepted write, none is found among them.
  none-written : (e : Entry) (xs : List Entry) → ((x : Entry) → Has x xs → accepted_write x ≡ None) → list_any (λ other. is_some (accepted_write other)) xs ≡ false
  none-written e [] none = refl
  none-written e (x ∷ xs) none = rw (none x (inl refl)) (none-written e xs (λ y has. none y (inr has)))

  -- the last transaction, which writes nothing, shows no number
  pub last-unnumbered : told.last.number ≡ None
  last-unnumbered = by told.last.number refl
    where
      by : (number : Option ℕ) → told.last.number ≡ number → number ≡ None
      by None is = refl
      by (Some k) is =
          let e = last_commit told.last in
          let has : Has e (last_entries told.last) = inr (inr (inr (inl refl))) in
          let sound = sound-at seed size replies told e (among-last e has) in
          let holds : commit_holds run e (said.Committed (Some k)) ≡ true = subst (λ (o : Option ℕ). commit_holds run e (said.Committed o) ≡ true) is sound.commits in
          let wrote : has_written run e ≡ true = (and_parts (has_written run e) (Rattle.outcome_spec.specs.Numbers.is_commit_number run e k) holds).0 in
          let none : has_written run e ≡ false =
          ap (λ (o : Option Span). option_map_or (λ t. list_any (λ other. is_some (accepted_write other)) t.replies) o false) (belongs-last seed size replies told e has refl refl)
          ∙ none-written e (last_entries told.last) (last-unwritten told.last told.scan_fits told.export_fits) in
          let never : true ≡ false = sym wrote ∙ none in
          absurd (let impossible : ⊥ = cc in impossible)

  -- No reply of the last round commits as a number.
  last-commit : (k : ℕ) (x : Entry) → Has x (last_entries told.last) → commits_as k x ≡ true → ⊥
  last-commit k x (inl same) h = not-committed k (said.At told.last.snapshot) refl (subst (λ (e : Entry). commits_as k e ≡ true) (sym same) h)
  last-commit k x (inr (inl same)) h = not-committed k told.last.scan_said (scan-commits-none told.last.scan_said told.scan_fits) (subst (λ (e : Entry). commits_as k e ≡ true) (sym same) h)
  last-commit k x (inr (inr (inl same))) h = not-committed k told.last.export_said (export-commits-none told.last.export_said told.export_fits) (subst (λ (e : Entry). commits_as k e ≡ true) (sym same) h)
  last-commit k x (inr (inr (inr (inl same)))) h = not-committed k (said.Committed told.last.number) last-unnumbered (subst (λ (e : Entry). commits_as k e ≡ true) (sym same) h)
  last-commit k x (inr (inr (inr (inr never)))) h = never

  -- a reply that commits as a number is that of a transaction
  pub committing : (k : ℕ) (x : Entry) → Has x replies → commits_as k x ≡ true → Committing k transactions x
  committing k x has h = elim (has-cases x (entries_in told.parts) (last_entries told.last) (subst (Has x) told.whole has)) [
    | inl front ↦ parts-commit seed k told.parts told.good x front h
    | inr rest ↦ absurd (last-commit k x rest h)
  ]

  pub record CommitFacts (w : Wrote) (k : ℕ) : Type 0 where
    pub least : 1 ≤ k
    pub low : k ≤ commit_count replies
    pub only : count_by (commits_as k) replies ≡ 1
    pub earlier : (x : Entry) (j : ℕ) → Has x replies → is_before x (commit w) ≡ true → commit_in x.reply.said ≡ Some j → j < k

  -- a number is the commit's alone, from 1 to their count, and above those that are shown before it
  pub commit-facts : (w : Wrote) → Has w transactions → (k : ℕ) → w.number ≡ Some k → CommitFacts w k
  commit-facts w among k is =
      let e = commit w in
      let sound = sound-at seed size replies told e (among-replies w among e (inr (inr (inr (inl refl))))) in
      let holds : commit_holds run e (said.Committed (Some k)) ≡ true = subst (λ (o : Option ℕ). commit_holds run e (said.Committed o) ≡ true) is sound.commits in
      let numbered = (and_parts (has_written run e) (Rattle.outcome_spec.specs.Numbers.is_commit_number run e k) holds).1 in
      let parts = four (nat_le 1 k) (nat_le k (length run.history)) (eqb (count_by (commits_as k) replies) 1) (list_all (λ earlier. nat_lt earlier k) (shown_in commit_in (before replies e))) numbered in
      record {
        least = leb-true 1 k parts.0;
        low = subst (λ (most : ℕ). k ≤ most) all-numbered (leb-true k (length run.history) parts.1);
        only = eqb-true (count_by (commits_as k) replies) 1 parts.2;
        earlier = λ x j there is_before_it shows. ltb-true j k (all-has (λ earlier. nat_lt earlier k) (shown_in commit_in (before replies e)) j parts.3 (has-shown commit_in (before replies e) x j (has-filter (λ other. is_before other e) replies x there is_before_it) shows));
      }

  -- two of one round and session are one
  pub same-one : (v w : Wrote) → Has v transactions → Has w transactions → commit v ≡ commit w → v ≡ w
  same-one v w there among same = elim (order v w there among) [
    | inl e ↦ e
    | inr (inl before) ↦ absurd (apart v w before.0 same)
    | inr (inr behind) ↦ absurd (apart w v behind.0 (sym same))
  ]
    where
      apart : (a b : Wrote) → 4 * a.round + a.session < 4 * b.round + b.session → commit a ≡ commit b → ⊥
      apart a b less e =
          let round : a.round ≡ b.round = ap (λ (x : Entry). x.reply.round) e in
          let who : Session a.session ≡ Session b.session = ap (λ (x : Entry). x.reply.who) e in
          let session : a.session ≡ b.session = cc in
          omega (arith, less, round, session)

  -- two transactions that show the same number are one
  pub same-number : (v w : Wrote) (k : ℕ) → Has v transactions → Has w transactions → v.number ≡ Some k → w.number ≡ Some k → v ≡ w
  same-number v w k there among h j =
      same-one v w there among
      (only-one (commits_as k) replies (commit v) (commit w) (commit-facts w among k j).only (among-replies v there (commit v) (inr (inr (inr (inl refl))))) (among-replies w among (commit w) (inr (inr (inr (inl refl)))))
      (shows v h) (shows w j))
    where
      shows : (x : Wrote) → x.number ≡ Some k → commits_as k (commit x) ≡ true
      shows x e = ap (λ (o : Option ℕ). option_map_or (λ shown. eqb shown k) o false) e ∙ Rattle.std.proofs.lemmas.Bool.eq-eqb k k refl

  -- ---- the write set of a number

  -- the write set of the commit with a number
  abbrev pub set_of : ℕ → WriteSet
  set_of k = committed_writes replies (transactions_of replies) k

  -- it is that of the transaction that shows the number, or empty where none does
  pub record SetOf (k : ℕ) : Type 0 where
    pub by : Wrote
    pub among : Has by transactions
    pub number : by.number ≡ Some k
    pub set_is : set_of k ≡ writes_in (replies_to by)

  -- By the line that commits as a number, its write set is empty or a transaction's.
  set-by : (k : ℕ) (line : Option Entry) → commit_line replies k ≡ line → ((set_of k ≡ []) × (line ≡ None)) ⊎ SetOf k
  set-by k None is = inl (ap (λ (o : Option Entry). option_map_or (λ t. writes_in t.replies) (option_and_then (transaction_with (transactions_of replies)) o) []) is, refl)
  set-by k (Some line) is =
      let found = find-has (commits_as k) replies line is in
      let c = committing k line found.0 found.1 in
      inr (record {
        by = c.by;
        among = c.among;
        number = c.number;
        set_is = ap (λ (o : Option Entry). option_map_or (λ t. writes_in t.replies) (option_and_then (transaction_with (transactions_of replies)) o) []) (is ∙ ap Some c.is)
            ∙ ap (λ (o : Option Span). option_map_or (λ t. writes_in t.replies) o []) (belongs seed size replies told c.by c.among (commit c.by) (inr (inr (inr (inl refl)))) refl refl);
      })

  -- it is empty where no line commits as the number, and else a transaction's
  pub set-cases : (k : ℕ) → ((set_of k ≡ []) × (commit_line replies k ≡ None)) ⊎ SetOf k
  set-cases k = elim (set-by k (commit_line replies k) refl) [ inl none ↦ inl none | inr its ↦ inr its ]

  -- the write set of a transaction's number is its own
  pub set-is : (w : Wrote) → Has w transactions → (k : ℕ) → w.number ≡ Some k → set_of k ≡ writes_in (replies_to w)
  set-is w among k is = elim (set-cases k) [
    | inl none ↦ absurd (find-none (commits_as k) replies (commit w) none.1 (among-replies w among (commit w) (inr (inr (inr (inl refl)))))
        (ap (λ (o : Option ℕ). option_map_or (λ shown. eqb shown k) o false) is ∙ Rattle.std.proofs.lemmas.Bool.eq-eqb k k refl))
    | inr its ↦ its.set_is ∙ ap (λ (v : Wrote). writes_in (replies_to v)) (same-number its.by w k its.among among its.number is)
  ]

  -- the number of the line that commits as it
  pub line-is : (k : ℕ) (line : Entry) → commit_line replies k ≡ Some line → Committing k transactions line
  line-is k line is = let found = find-has (commits_as k) replies line is in committing k line found.0 found.1
