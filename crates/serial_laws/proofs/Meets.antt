-- What a read shows of two states that agree where it looks, and where two states of a history agree.
use Rattle.std.proofs.Common.{◌≡◌, ℕ, zero, suc, ◌+◌, ◌<◌, ◌≤◌, Bool, true, false, cond, ◌&&◌, ◌||◌, ◌==◌, nat_le, nat_lt, int_le, List, [], ◌∷◌, Option, Some, is_some, is_none, get_or, length, All, refl, sym, ap, subst, ◌∙◌, arith, option_map}
use Rattle.std.specs.List.{filter, list_all, list_any, range_with_len}
use Rattle.std.specs.Option.{option_map_or}
use Rattle.std.specs.Cmp.Lexicographic.{pointwise}
use Rattle.std.proofs.lemmas.Bool.Decides.{nat_tests}
use Rattle.std.proofs.lemmas.Bool.{and_parts}
use Rattle.cell_model.specs.declared.cell.Cell.{Cell}
use Rattle.isolation_spec.specs.Contents.{at_place, is_place, place_at, place_of, contents_of, contents_between, numbers_between, State, WriteSet, History, laid_over, state_at}
use Rattle.isolation_spec.specs.Machine.{writes_place, later_commits, write_set_at}
use Rattle.isolation_spec.specs.Reads.{meets}
use Rattle.isolation_spec.specs.declared.place.Place.{Place}
use Rattle.isolation_spec.specs.declared.read.Read.{Read}
use Rattle.isolation_spec.specs.declared.read.Read.TheVariants as read
use Rattle.workload_spec.specs.declared.command.Command.{Command}
use Rattle.workload_spec.specs.declared.command.Command.TheVariants as command
use Rattle.workload_spec.specs.declared.reply.Said.{Said}
use Rattle.workload_spec.specs.declared.reply.Said.TheVariants as said
use Rattle.outcome_spec.specs.Answers.{read_holds, is_acceptable, is_row, is_total_of}
use Rattle.outcome_spec.specs.Runs.{write_of}
use Rattle.outcome_spec.specs.Stale.{read_told}
use Rattle.isolation_spec.specs.Order.{InOrder}
use Rattle.isolation_laws.proofs.Overlays.{at-laid_over, over}
use Rattle.isolation_laws.proofs.Maps.{one_place, same_chosen}
use Rattle.isolation_laws.proofs.States.{state-order, state-stays, any}

-- the two states agree in what was read
abbrev pub SameFor : Read → State → State → Type 0
SameFor (read.Key table key) now then = at_place now (place_at table key) ≡ at_place then (place_at table key)
SameFor (read.Table table) now then = contents_of table now ≡ contents_of table then
SameFor (read.Range table low high) now then = contents_between table low high now ≡ contents_between table low high then

-- a read shows the same of both
pub read-moves : (now then : State) (asked : Command) (told : Said) → ((what : Read) → read_told asked told ≡ Some what → SameFor what now then)
    → read_holds now asked told ≡ read_holds then asked told
read-moves now then (command.Begin checked) (said.Found row) same = refl
read-moves now then (command.Get table key) (said.Found row) same = ap (λ (found : Option (List Cell)). option_map_or (is_row row) found false) (same (read.Key table key) refl)
read-moves now then (command.Scan table) (said.Found row) same = refl
read-moves now then (command.Range table low high) (said.Found row) same = refl
read-moves now then (command.Total table column low high) (said.Found row) same = refl
read-moves now then (command.Insert table row') (said.Found row) same = refl
read-moves now then (command.Update table row') (said.Found row) same = refl
read-moves now then (command.Delete table key) (said.Found row) same = refl
read-moves now then command.Commit (said.Found row) same = refl
read-moves now then command.Abort (said.Found row) same = refl
read-moves now then command.Observe (said.Found row) same = refl
read-moves now then command.Prune (said.Found row) same = refl
read-moves now then (command.Compact table) (said.Found row) same = refl
read-moves now then (command.Seal table block) (said.Found row) same = refl
read-moves now then (command.Gather table block) (said.Found row) same = refl
read-moves now then (command.Export table) (said.Found row) same = refl
read-moves now then (command.Begin checked) said.Absent same = refl
read-moves now then (command.Get table key) said.Absent same = ap is_none (same (read.Key table key) refl)
read-moves now then (command.Scan table) said.Absent same = refl
read-moves now then (command.Range table low high) said.Absent same = refl
read-moves now then (command.Total table column low high) said.Absent same = refl
read-moves now then (command.Insert table row') said.Absent same = refl
read-moves now then (command.Update table row') said.Absent same = refl
read-moves now then (command.Delete table key) said.Absent same = refl
read-moves now then command.Commit said.Absent same = refl
read-moves now then command.Abort said.Absent same = refl
read-moves now then command.Observe said.Absent same = refl
read-moves now then command.Prune said.Absent same = refl
read-moves now then (command.Compact table) said.Absent same = refl
read-moves now then (command.Seal table block) said.Absent same = refl
read-moves now then (command.Gather table block) said.Absent same = refl
read-moves now then (command.Export table) said.Absent same = refl
read-moves now then (command.Begin checked) (said.Scanned rows) same = refl
read-moves now then (command.Get table key) (said.Scanned rows) same = refl
read-moves now then (command.Scan table) (said.Scanned rows) same = ap (pointwise is_row rows) (same (read.Table table) refl)
read-moves now then (command.Range table low high) (said.Scanned rows) same = ap (pointwise is_row rows) (same (read.Range table low high) refl)
read-moves now then (command.Total table column low high) (said.Scanned rows) same = refl
read-moves now then (command.Insert table row') (said.Scanned rows) same = refl
read-moves now then (command.Update table row') (said.Scanned rows) same = refl
read-moves now then (command.Delete table key) (said.Scanned rows) same = refl
read-moves now then command.Commit (said.Scanned rows) same = refl
read-moves now then command.Abort (said.Scanned rows) same = refl
read-moves now then command.Observe (said.Scanned rows) same = refl
read-moves now then command.Prune (said.Scanned rows) same = refl
read-moves now then (command.Compact table) (said.Scanned rows) same = refl
read-moves now then (command.Seal table block) (said.Scanned rows) same = refl
read-moves now then (command.Gather table block) (said.Scanned rows) same = refl
read-moves now then (command.Export table) (said.Scanned rows) same = refl
read-moves now then (command.Begin checked) (said.Totalled count sum) same = refl
read-moves now then (command.Get table key) (said.Totalled count sum) same = refl
read-moves now then (command.Scan table) (said.Totalled count sum) same = refl
read-moves now then (command.Range table low high) (said.Totalled count sum) same = refl
read-moves now then (command.Total table column low high) (said.Totalled count sum) same = ap (λ (rows : List (List Cell)). is_total_of count sum (numbers_between column low high rows)) (same (read.Table table) refl)
read-moves now then (command.Insert table row') (said.Totalled count sum) same = refl
read-moves now then (command.Update table row') (said.Totalled count sum) same = refl
read-moves now then (command.Delete table key) (said.Totalled count sum) same = refl
read-moves now then command.Commit (said.Totalled count sum) same = refl
read-moves now then command.Abort (said.Totalled count sum) same = refl
read-moves now then command.Observe (said.Totalled count sum) same = refl
read-moves now then command.Prune (said.Totalled count sum) same = refl
read-moves now then (command.Compact table) (said.Totalled count sum) same = refl
read-moves now then (command.Seal table block) (said.Totalled count sum) same = refl
read-moves now then (command.Gather table block) (said.Totalled count sum) same = refl
read-moves now then (command.Export table) (said.Totalled count sum) same = refl
read-moves now then asked (said.At number) same = refl
read-moves now then asked said.InTransaction same = refl
read-moves now then asked said.NoTransaction same = refl
read-moves now then asked said.Accepted same = refl
read-moves now then asked (said.ConflictSession session) same = refl
read-moves now then asked (said.ConflictCommit number) same = refl
read-moves now then asked said.Exists same = refl
read-moves now then asked said.Missing same = refl
read-moves now then asked said.Full same = refl
read-moves now then asked (said.Freezing table block stamp) same = refl
read-moves now then asked (said.Committed number) same = refl
read-moves now then asked (said.Stale read number) same = refl
read-moves now then asked said.Aborted same = refl
read-moves now then asked (said.Cooling count) same = refl
read-moves now then asked (said.Pruned count) same = refl
read-moves now then asked (said.Moved count) same = refl
read-moves now then asked (said.Sealed table block stamp) same = refl
read-moves now then asked (said.NotSealed cause) same = refl
read-moves now then asked (said.Frozen table block rows) same = refl
read-moves now then asked said.NotFrozen same = refl
read-moves now then asked (said.Exported number rows batches frozen) same = refl
read-moves now then asked (said.Dirty key) same = refl
read-moves now then asked said.Memory same = refl

-- a write is accepted by both
pub accept-moves : (now then : State) (asked : Command) → ((place : Place) → option_map (λ (w : Place × Option (List Cell)). w.0) (write_of asked) ≡ Some place → at_place now place ≡ at_place then place)
    → is_acceptable now asked ≡ is_acceptable then asked
accept-moves now then (command.Begin checked) same = refl
accept-moves now then (command.Get table key) same = refl
accept-moves now then (command.Scan table) same = refl
accept-moves now then (command.Range table low high) same = refl
accept-moves now then (command.Total table column low high) same = refl
accept-moves now then (command.Insert table row') same = ap is_none (same (place_of table row') refl)
accept-moves now then (command.Update table row') same = ap is_some (same (place_of table row') refl)
accept-moves now then (command.Delete table key) same = ap is_some (same (place_at table key) refl)
accept-moves now then command.Commit same = refl
accept-moves now then command.Abort same = refl
accept-moves now then command.Observe same = refl
accept-moves now then command.Prune same = refl
accept-moves now then (command.Compact table) same = refl
accept-moves now then (command.Seal table block) same = refl
accept-moves now then (command.Gather table block) same = refl
accept-moves now then (command.Export table) same = refl

-- ---- what was not met

-- True is not the same as false.
true_false : true ≡ false → ⊥
true_false e = cc

-- of two parts that fail together each fails
neither : (a b : Bool) → (a || b) ≡ false → (a ≡ false) × (b ≡ false)
neither true b e = cc
neither false b e = (refl, e)

-- A write set that has no place that passes a test has none of those that pass it.
unmet-by : (test : Place → Bool) (ws : WriteSet) → list_any (λ (w : Place × Option (List Cell)). test w.0) ws ≡ false → (p : Place) → test p ≡ true → writes_place p ws ≡ false
unmet-by test [] none p passes = refl
unmet-by test (e ∷ es) none p passes = go (is_place p e.0) refl (neither (test e.0) (list_any (λ (w : Place × Option (List Cell)). test w.0) es) none) (λ rest. unmet-by test es rest p passes)
  where
    go : (b : Bool) → is_place p e.0 ≡ b → (test e.0 ≡ false) × (list_any (λ (w : Place × Option (List Cell)). test w.0) es ≡ false) → (list_any (λ (w : Place × Option (List Cell)). test w.0) es ≡ false → writes_place p es ≡ false) → is_some (cond (is_place p e.0) (Some e.1) (at_place es p)) ≡ false
    go true is parts further = absurd (true_false (sym passes ∙ ap test (one_place p e.0 is) ∙ parts.0))
    go false is parts further = ap (λ b. is_some (cond b (Some e.1) (at_place es p))) is ∙ further parts.1

-- what all chosen numbers of a range pass, each of them does that is chosen
chosen-pass : (p q : ℕ → Bool) (at len k : ℕ) → at ≤ k → k < at + len → list_all p (filter q (range_with_len at len)) ≡ true → q k ≡ true → p k ≡ true
chosen-pass p q at zero k low high all is = absurd (omega (arith, low, high))
chosen-pass p q at (suc len) k low high all is = go (at == k) refl (λ above a. chosen-pass p q (at + 1) len k above (omega (arith, high)) a is)
  where
    here : (b : Bool) → q at ≡ b → list_all p (cond b (at ∷ filter q (range_with_len (at + 1) len)) (filter q (range_with_len (at + 1) len))) ≡ true → at ≡ k → p k ≡ true
    here true e a same = subst (λ (x : ℕ). p x ≡ true) same (and_parts (p at) (list_all p (filter q (range_with_len (at + 1) len))) a).0
    here false e a same = absurd (true_false (sym is ∙ ap q (sym same) ∙ e))

    rest : (b : Bool) → list_all p (cond b (at ∷ filter q (range_with_len (at + 1) len)) (filter q (range_with_len (at + 1) len))) ≡ true → list_all p (filter q (range_with_len (at + 1) len)) ≡ true
    rest true a = (and_parts (p at) (list_all p (filter q (range_with_len (at + 1) len))) a).1
    rest false a = a

    go : (b : Bool) → (at == k) ≡ b → (at + 1 ≤ k → list_all p (filter q (range_with_len (at + 1) len)) ≡ true → p k ≡ true) → p k ≡ true
    go true e further = here (q at) refl all (grind (arith, nat_tests, e))
    go false e further = further (grind (arith, nat_tests, low, e)) (rest (q at) all)

-- behind the last write set there is none
get_or-behind : (history : History) (m : ℕ) → length history ≤ m → get_or history m [] ≡ []
get_or-behind [] m le = refl
get_or-behind (w ∷ ws) zero le = absurd (omega (arith, le))
get_or-behind (w ∷ ws) (suc m) le = get_or-behind ws m (omega (arith, le))

-- Where no later commit below a number passes a test, none between does.
pub untouched : (history : History) (test : WriteSet → Bool) (n d number : ℕ) → test [] ≡ false → n + d + 1 ≡ number
    → list_all (nat_le number) (later_commits history n test) ≡ true → (i : ℕ) → i < d → test (get_or history (n + i) []) ≡ false
untouched history test n d number empty is all i less = go (test (get_or history (n + i) [])) refl
  where
    inside : (b : Bool) → nat_lt (n + i) (length history) ≡ b → test (get_or history (n + i) []) ≡ true → ⊥
    inside true within has =
        let k = n + i + 1 in
        let low : nat_lt n k ≡ true = grind (arith, nat_tests) in
        let set : write_set_at history k ≡ get_or history (n + i) [] = ap (λ (m : ℕ). get_or history m []) (omega arith) in
        let later : (nat_lt n k && test (write_set_at history k)) ≡ true = ap (λ b. b && test (write_set_at history k)) low ∙ ap test set ∙ has in
        let fits : n + i < length history = grind (arith, nat_tests, within) in
        let passes : nat_le number k ≡ true = chosen-pass (nat_le number) (λ m. nat_lt n m && test (write_set_at history m)) 1 (length history) k (omega arith) (omega (arith, fits)) all later in
        let le : number ≤ k = grind (arith, nat_tests, passes) in
        omega (arith, le, is, less)
    inside false within has =
        let beyond : length history ≤ n + i = grind (arith, nat_tests, within) in
        true_false (sym has ∙ ap test (get_or-behind history (n + i) beyond) ∙ empty)

    go : (b : Bool) → test (get_or history (n + i) []) ≡ b → test (get_or history (n + i) []) ≡ false
    go true has = absurd (inside (nat_lt (n + i) (length history)) refl has)
    go false has = has

-- nothing was written into a read by nothing
pub meets-none : (what : Read) → meets what [] ≡ false
meets-none (read.Key table key) = refl
meets-none (read.Table table) = refl
meets-none (read.Range table low high) = refl

module _ (history : History) (all : All InOrder history) (own : WriteSet) (ordered : InOrder own) (n d : ℕ) where
  -- what is seen from the later number, and from the earlier
  abbrev pub now : State
  now = laid_over (state_at history (n + d)) own

  abbrev pub then : State
  then = laid_over (state_at history n) own

  -- both are in order
  now-order : InOrder now
  now-order = (at-laid_over (state_at history (n + d)) own any (state-order history (n + d) all) ordered).1

  then-order : InOrder then
  then-order = (at-laid_over (state_at history n) own any (state-order history n all) ordered).1

  -- a place that no commit between wrote is seen alike
  pub place-seen : (place : Place) → ((i : ℕ) → i < d → writes_place place (get_or history (n + i) []) ≡ false) → at_place now place ≡ at_place then place
  place-seen place none =
      (at-laid_over (state_at history (n + d)) own place (state-order history (n + d) all) ordered).0
      ∙ ap (over (at_place own place)) (state-stays history place n d all none)
      ∙ sym (at-laid_over (state_at history n) own place (state-order history n all) ordered).0

  -- what no commit between wrote into is seen alike
  pub read-seen : (what : Read) → ((i : ℕ) → i < d → meets what (get_or history (n + i) []) ≡ false) → SameFor what now then
  read-seen (read.Key table key) none = place-seen (place_at table key) none
  read-seen (read.Table table) none =
      same_chosen (λ p. p.table == table) now then now-order then-order
      (λ p passes. place-seen p (λ i less. unmet-by (λ p. p.table == table) (get_or history (n + i) []) (none i less) p passes))
  read-seen (read.Range table low high) none =
      same_chosen (λ p. p.table == table && (int_le low p.key && int_le p.key high)) now then now-order then-order
      (λ p passes. place-seen p (λ i less. unmet-by (λ p. p.table == table && (int_le low p.key && int_le p.key high)) (get_or history (n + i) []) (none i less) p passes))
