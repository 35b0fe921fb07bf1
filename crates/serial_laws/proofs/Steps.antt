-- The machine with one open transaction: what it answers at a read and at a write that snapshot
-- isolation accepts, how it begins, and how it ends.
use Rattle.std.proofs.Common.{◌≡◌, ℕ, zero, suc, ◌+◌, ◌≤◌, Bool, true, false, ◌&&◌, eqb, nat_lt, List, [], ◌∷◌, ◌++◌, take, length, fold, Option, None, Some, is_some, is_none, option_map, refl, sym, ap, subst, ◌∙◌, arith, ℤ}
use Rattle.std.specs.Prelude.{if◌then◌else◌}
use Rattle.std.specs.BTreeMap.{insert_entry}
use Rattle.std.specs.Cmp.Lexicographic.{pointwise}
use Rattle.std.specs.List.{cons_option, filter, range_with_len}
use Rattle.std.specs.Option.{option_map_or}
use Rattle.std.specs.Ordering.{int_eq}
use Rattle.std.proofs.lemmas.Bool.{and_parts, eq-eqb, eqb-true}
use Rattle.std.proofs.lemmas.Bool.Decides.{Decides-int_eq, nat_tests}
use Rattle.std.proofs.lemmas.Slice.Eq.{bytes_eq-Decides}
use Rattle.cell_model.specs.declared.cell.Cell.{Cell}
use Rattle.cell_model.specs.declared.cell.Cell.TheVariants.{Null, Num, Truth, Text, Blob}
use Rattle.isolation_spec.specs.Contents.{at_place, place_at, place_of, place_cmp, contents_of, contents_between, numbers_between, sum_of, State, WriteSet, History, laid_over, state_at}
use Rattle.isolation_spec.specs.Machine.{IsolationMachine, Transaction, transaction_of, seen_rows, writes_place, write_set_at, later_writers, conflict_of, step, step_within, told_total, refusal_of_insert, refusal_of_change, write}
use Rattle.isolation_spec.specs.Machine as machine
use Rattle.isolation_spec.specs.declared.place.Place.{Place}
use Rattle.isolation_spec.specs.declared.command.Act.{Act}
use Rattle.isolation_spec.specs.declared.command.Act.TheVariants as act
use Rattle.isolation_spec.specs.declared.command.Answer.{Answer}
use Rattle.isolation_spec.specs.declared.command.Answer.TheVariants as answer
use Rattle.workload_spec.specs.declared.command.Command.{Command}
use Rattle.workload_spec.specs.declared.command.Command.TheVariants as command
use Rattle.workload_spec.specs.declared.reply.Said.{Said}
use Rattle.workload_spec.specs.declared.reply.Said.TheVariants as said
use Rattle.outcome_spec.specs.Answers.{read_holds, is_acceptable, is_cell, is_row, is_total_of}
use Rattle.outcome_spec.specs.Entries.{is_accepted}
use Rattle.outcome_spec.specs.Runs.{write_of}
use Rattle.serial_laws.specs.Alone.{Step, Runs, alone, step_alone, step_of}

-- ---- rows that are tested to be one

-- Cells that are tested to be one are one.
cell-same : (a b : Cell) → is_cell a b ≡ true → a ≡ b
cell-same Null Null h = refl
cell-same (Num a) (Num b) h = ap (λ n. Num n) ((Decides-int_eq a b).0 h)
cell-same (Truth true) (Truth true) h = refl
cell-same (Truth false) (Truth false) h = refl
cell-same (Text a) (Text b) h = ap (λ n. Text n) ((bytes_eq-Decides a b).0 h)
cell-same (Blob a) (Blob b) h = ap (λ n. Blob n) ((bytes_eq-Decides a b).0 h)
cell-same a b h = absurd (let never : ⊥ = cc in never)

-- Lists whose elements are tested to be one, pair by pair, are one.
pointwise-same : {X : Type 0} (E : X → X → Bool) → ((a b : X) → E a b ≡ true → a ≡ b) → (xs ys : List X) → pointwise E xs ys ≡ true → xs ≡ ys
pointwise-same E same [] [] h = refl
pointwise-same E same [] (y ∷ ys) h = absurd (let never : ⊥ = cc in never)
pointwise-same E same (x ∷ xs) [] h = absurd (let never : ⊥ = cc in never)
pointwise-same E same (x ∷ xs) (y ∷ ys) h =
    let parts = and_parts (E x y) (pointwise E xs ys) h in
    ap (λ z. z ∷ xs) (same x y parts.0) ∙ ap (λ zs. y ∷ zs) (pointwise-same E same xs ys parts.1)

-- So are rows.
row-same : (a b : List Cell) → is_row a b ≡ true → a ≡ b
row-same a b h = pointwise-same is_cell cell-same a b h

-- And lists of rows.
rows-same : (a b : List (List Cell)) → pointwise is_row a b ≡ true → a ≡ b
rows-same a b h = pointwise-same is_row row-same a b h

-- A row that is tested to be the one found is found.
found-same : (row : List Cell) (found : Option (List Cell)) → option_map_or (is_row row) found false ≡ true → found ≡ Some row
found-same row None h = absurd (let never : ⊥ = cc in never)
found-same row (Some its) h = ap (λ r. Some r) (sym (row-same row its h))

-- What is tested to be none is none.
none-same : {X : Type 0} (found : Option X) → is_none found ≡ true → found ≡ None
none-same None h = refl
none-same (Some x) h = absurd (let never : ⊥ = cc in never)

-- What is tested to be a total is told as one.
total-same : (count : ℕ) (sum : ℤ) (numbers : List ℤ) → is_total_of count sum numbers ≡ true → told_total numbers ≡ answer.Totalled count sum
total-same count sum numbers h =
    let parts = and_parts (eqb count (length numbers)) (int_eq sum (sum_of numbers)) h in
    let many = eqb-true count (length numbers) parts.0 in
    let all = (Decides-int_eq sum (sum_of numbers)).0 parts.1 in
    ap (λ (n : ℕ). answer.Totalled n (sum_of numbers)) (sym many) ∙ ap (λ (s : ℤ). answer.Totalled count s) (sym all)

-- ---- lists

-- All of a list is taken.
pub take-all : {X : Type 0} (xs : List X) → take (length xs) xs ≡ xs
take-all [] = refl
take-all (x ∷ xs) = ap (λ ys. x ∷ ys) (take-all xs)

-- No number up to another is above it.
none-later : (f : ℕ → Bool) (m at len : ℕ) → at + len ≤ m + 1 → filter (λ k. nat_lt m k && f k) (range_with_len at len) ≡ []
none-later f m at zero h = refl
none-later f m at (suc len) h =
    let low : nat_lt m at ≡ false = grind (arith, nat_tests, h) in
    rw low (none-later f m (at + 1) len (omega (arith, h)))

-- Runs of the machine append.
pub runs-append : (from : IsolationMachine) (xs ys : List Step) (between to : IsolationMachine) → Runs from xs between → Runs between ys to → Runs from (xs ++ ys) to
runs-append from [] ys between to h k = subst (λ m. Runs m ys to) (sym h) k
runs-append from (x ∷ xs) ys between to h k = (h.0, runs-append (step from x.0).1 xs ys between to h.1 k)

-- ---- one open transaction

module _ (history : History) (number session : ℕ) where
  -- the commits in front
  abbrev front : History
  front = take number history

  -- the transaction with these writes of its own, which sees all of them
  abbrev its : WriteSet → Transaction
  its own = record { session = session; snapshot = length front; own = own }

  -- the machine in which no other is open
  abbrev pub amid : WriteSet → IsolationMachine
  amid own = record { history = front; open_transactions = its own ∷ [] }

  -- what is seen behind the commits and its own writes
  abbrev pub seen : WriteSet → State
  seen own = laid_over (state_at history number) own

  -- Its session is its session.
  self : eqb session session ≡ true
  self = eq-eqb session session refl

  -- The session's transaction is this one.
  its-own : (own : WriteSet) → transaction_of session (amid own) ≡ Some (its own)
  its-own own = rw self refl

  -- So it sees.
  seen-is : (own : WriteSet) → seen_rows (amid own) (its own) ≡ seen own
  seen-is own = ap (λ (h : History). laid_over (fold laid_over [] h) own) (take-all front)

  -- A step is that of its transaction.
  stepped : (own : WriteSet) (asks : Act) → step (amid own) (record { session = session; act = asks }) ≡ step_within (amid own) (its own) asks
  stepped own asks = ap (machine.step_of (amid own) (record { session = session; act = asks })) (its-own own)

  -- Where its step is this one, the machine runs on from there.
  on : (own : WriteSet) (asks : Act) (says : Answer) (next : IsolationMachine) (more : List Step) (to : IsolationMachine)
      → step_within (amid own) (its own) asks ≡ (says, next) → Runs next more to → Runs (amid own) (step_of session (asks, says) ∷ more) to
  on own asks says next more to is rest =
      let whole = stepped own asks ∙ is in
      (ap (λ (s : Answer × IsolationMachine). s.0) whole, subst (λ (m : IsolationMachine). Runs m more to) (sym (ap (λ (s : Answer × IsolationMachine). s.1) whole)) rest)

  -- No write of it has a conflict.
  no-conflict : (own : WriteSet) (place : Place) → conflict_of (amid own) (its own) place ≡ None
  no-conflict own place =
      let none : later_writers front (length front) place ≡ [] = none-later (λ k. writes_place place (write_set_at front k)) (length front) 1 (length front) (omega arith) in
      rw (self, none) refl

  -- A write that is not refused enters its own.
  written : (own : WriteSet) (place : Place) (change : Option (List Cell)) (refusal : Option Answer) → refusal ≡ None
      → write (amid own) (its own) place change refusal ≡ (answer.Accepted, amid (insert_entry place_cmp own place change))
  written own place change refusal is = rw (is, self) refl

  -- An insert is not refused where there is no row.
  inserts : (own : WriteSet) (place : Place) → is_none (at_place (seen own) place) ≡ true → refusal_of_insert (amid own) (its own) place ≡ None
  inserts own place h =
      let none : at_place (seen_rows (amid own) (its own)) place ≡ None = ap (λ (s : State). at_place s place) (seen-is own) ∙ none-same (at_place (seen own) place) h in
      rw (no-conflict own place, none) refl

  -- An update or a delete is not refused where there is one.
  changes : (own : WriteSet) (place : Place) → is_some (at_place (seen own) place) ≡ true → refusal_of_change (amid own) (its own) place ≡ None
  changes own place h =
      let some : is_some (at_place (seen_rows (amid own) (its own)) place) ≡ true = ap (λ (s : State). is_some (at_place s place)) (seen-is own) ∙ h in
      rw (no-conflict own place) (by (at_place (seen_rows (amid own) (its own)) place) some)
    where
      by : (found : Option (List Cell)) → is_some found ≡ true → (if is_none found then Some answer.Missing else None) ≡ None
      by (Some row) e = refl
      by None e = absurd (let never : ⊥ = cc in never)

  -- its own behind a reply
  abbrev pub own_behind : WriteSet → Command → Said → WriteSet
  own_behind own asks told = option_map_or (λ (w : Place × Option (List Cell)). insert_entry place_cmp own w.0 w.1) (if is_accepted told then write_of asks else None) own

  -- A command that writes nothing leaves its own.
  still : (own : WriteSet) (b : Bool) → own ≡ option_map_or (λ (w : Place × Option (List Cell)). insert_entry place_cmp own w.0 w.1) (if b then None else None) own
  still own true = refl
  still own false = refl

  -- the steps of a reply in front of more
  abbrev pub steps_in_front : Command → Said → List Step → List Step
  steps_in_front asks told more = cons_option (option_map (step_of session) (step_alone asks told)) more

  -- The machine answers a reply as it says, where it shows what is seen.
  pub one-step : (own : WriteSet) (asks : Command) (told : Said) → read_holds (seen own) asks told ≡ true → (told ≡ said.Accepted → is_acceptable (seen own) asks ≡ true)
      → (more : List Step) (to : IsolationMachine) → Runs (amid (own_behind own asks told)) more to → Runs (amid own) (steps_in_front asks told more) to
  one-step own (command.Get table key) (said.Found row) read accepts more to rest =
      on own (act.Get table key) (answer.Found (Some row)) (amid own) more to
      (ap (λ (f : Option (List Cell)). (answer.Found f, amid own)) (ap (λ (s : State). at_place s (place_at table key)) (seen-is own) ∙ found-same row (at_place (seen own) (place_at table key)) read)) rest
  one-step own (command.Get table key) said.Absent read accepts more to rest =
      on own (act.Get table key) (answer.Found None) (amid own) more to
      (ap (λ (f : Option (List Cell)). (answer.Found f, amid own)) (ap (λ (s : State). at_place s (place_at table key)) (seen-is own) ∙ none-same (at_place (seen own) (place_at table key)) read)) rest
  one-step own (command.Get table key) _ read accepts more to rest = rest
  one-step own (command.Scan table) (said.Scanned rows) read accepts more to rest =
      on own (act.Scan table) (answer.Rows rows) (amid own) more to
      (ap (λ (f : List (List Cell)). (answer.Rows f, amid own)) (ap (contents_of table) (seen-is own) ∙ sym (rows-same rows (contents_of table (seen own)) read))) rest
  one-step own (command.Scan table) _ read accepts more to rest = rest
  one-step own (command.Range table low high) (said.Scanned rows) read accepts more to rest =
      on own (act.Range table low high) (answer.Rows rows) (amid own) more to
      (ap (λ (f : List (List Cell)). (answer.Rows f, amid own)) (ap (contents_between table low high) (seen-is own) ∙ sym (rows-same rows (contents_between table low high (seen own)) read))) rest
  one-step own (command.Range table low high) _ read accepts more to rest = rest
  one-step own (command.Total table column low high) (said.Totalled count sum) read accepts more to rest =
      on own (act.Total table column low high) (answer.Totalled count sum) (amid own) more to
      (ap (λ (f : Answer). (f, amid own))
      (ap (λ (s : State). told_total (numbers_between column low high (contents_of table s))) (seen-is own) ∙ total-same count sum (numbers_between column low high (contents_of table (seen own))) read)) rest
  one-step own (command.Total table column low high) _ read accepts more to rest = rest
  one-step own (command.Insert table row) said.Accepted read accepts more to rest =
      on own (act.Insert table row) answer.Accepted (amid (insert_entry place_cmp own (place_of table row) (Some row))) more to
      (written own (place_of table row) (Some row) (refusal_of_insert (amid own) (its own) (place_of table row)) (inserts own (place_of table row) (accepts refl))) rest
  one-step own (command.Insert table row) _ read accepts more to rest = rest
  one-step own (command.Update table row) said.Accepted read accepts more to rest =
      on own (act.Update table row) answer.Accepted (amid (insert_entry place_cmp own (place_of table row) (Some row))) more to
      (written own (place_of table row) (Some row) (refusal_of_change (amid own) (its own) (place_of table row)) (changes own (place_of table row) (accepts refl))) rest
  one-step own (command.Update table row) _ read accepts more to rest = rest
  one-step own (command.Delete table key) said.Accepted read accepts more to rest =
      on own (act.Delete table key) answer.Accepted (amid (insert_entry place_cmp own (place_at table key) None)) more to
      (written own (place_at table key) None (refusal_of_change (amid own) (its own) (place_at table key)) (changes own (place_at table key) (accepts refl))) rest
  one-step own (command.Delete table key) _ read accepts more to rest = rest
  one-step own (command.Begin checked) told read accepts more to rest = subst (λ (o : WriteSet). Runs (amid o) more to) (sym (still own (is_accepted told))) rest
  one-step own command.Commit told read accepts more to rest = subst (λ (o : WriteSet). Runs (amid o) more to) (sym (still own (is_accepted told))) rest
  one-step own command.Abort told read accepts more to rest = subst (λ (o : WriteSet). Runs (amid o) more to) (sym (still own (is_accepted told))) rest
  one-step own command.Observe told read accepts more to rest = subst (λ (o : WriteSet). Runs (amid o) more to) (sym (still own (is_accepted told))) rest
  one-step own command.Prune told read accepts more to rest = subst (λ (o : WriteSet). Runs (amid o) more to) (sym (still own (is_accepted told))) rest
  one-step own (command.Compact table) told read accepts more to rest = subst (λ (o : WriteSet). Runs (amid o) more to) (sym (still own (is_accepted told))) rest
  one-step own (command.Seal table block) told read accepts more to rest = subst (λ (o : WriteSet). Runs (amid o) more to) (sym (still own (is_accepted told))) rest
  one-step own (command.Gather table block) told read accepts more to rest = subst (λ (o : WriteSet). Runs (amid o) more to) (sym (still own (is_accepted told))) rest
  one-step own (command.Export table) told read accepts more to rest = subst (λ (o : WriteSet). Runs (amid o) more to) (sym (still own (is_accepted told))) rest

  -- ---- its begin and its end

  -- It begins behind the commits.
  pub begins : (checked : Bool) → length front ≡ number → (more : List Step) (to : IsolationMachine) → Runs (amid []) more to
      → Runs (alone history number) (step_of session (act.Begin checked, answer.At number) ∷ more) to
  begins checked many more to rest = (ap (λ (n : ℕ). answer.At n) many, rest)

  -- An abort leaves the commits.
  pub aborts : (own : WriteSet) → Runs (amid own) (step_of session (act.Abort, answer.Aborted) ∷ []) (alone history number)
  aborts own = on own act.Abort answer.Aborted (alone history number) [] (alone history number) (rw self refl) refl

  -- So does a commit that wrote nothing.
  pub idles : Runs (amid []) (step_of session (act.Commit, answer.Committed None) ∷ []) (alone history number)
  idles = on [] act.Commit (answer.Committed None) (alone history number) [] (alone history number) (rw self refl) refl

  -- One that wrote leaves one commit more.
  pub commits : (own : WriteSet) (w : Place × Option (List Cell)) (ws : WriteSet) → own ≡ w ∷ ws → (next : ℕ) → length front + 1 ≡ next → take next history ≡ front ++ own ∷ []
      → Runs (amid own) (step_of session (act.Commit, answer.Committed (Some next)) ∷ []) (alone history next)
  commits own w ws is next many taken =
      on own act.Commit (answer.Committed (Some next)) (alone history next) [] (alone history next)
      (subst (λ (o : WriteSet). machine.commit (amid o) (its o) o ≡ (answer.Committed (Some (length front + 1)), record { history = front ++ o ∷ []; open_transactions = [] })) (sym is) (rw self refl)
      ∙ ap (λ (n : ℕ). (answer.Committed (Some n), record { history = front ++ own ∷ []; open_transactions = [] })) many
      ∙ ap (λ (h : History). (answer.Committed (Some next), record { history = h; open_transactions = [] })) (sym taken))
      refl
