-- The state that the last round sees is the rows that the writes leave: at each place stands what
-- the last transaction left there that touches it, and those that touch it are of one session,
-- which commits in turn.
use Rattle.std.proofs.Common.{◌≡◌, ◌⊎◌, inl, inr, ℕ, ◌+◌, ◌-◌, ◌*◌, ◌<◌, ◌≤◌, zero, suc, Bool, true, false, cond, ◌||◌, List, [], ◌∷◌, ◌++◌, fold, Option, None, Some, Ordering, Less, Equal, Greater, refl, sym, ap, ◌∙◌, subst, arith}
use Rattle.std.specs.BTreeMap.{insert_entry}
use Rattle.std.specs.Cmp.{eq_by_cmp_equiv}
use Rattle.std.specs.Ordering.{match_ordering}
use Rattle.std.proofs.lemmas.Bool.{or_cases, both_ways}
use Rattle.std.proofs.lemmas.List.Folds.{fold-map}
use Rattle.std.proofs.lemmas.List.Sums.{fold-append}
use Rattle.cell_model.specs.declared.cell.Cell.{Cell}
use Rattle.isolation_spec.specs.Contents.{State, WriteSet, at_place, is_place, laid_over, place_cmp, place_of}
use Rattle.isolation_spec.specs.declared.place.Place.{Place}
use Rattle.isolation_laws.proofs.Rows.{place_cmp-total}
use Rattle.outcome_spec.specs.Entries.{Entry, is_accepted}
use Rattle.outcome_spec.specs.Runs.{commit_line, writes_in}
use Rattle.outcome_spec.specs.Conflicts.{has_write}
use Rattle.bench_spec.specs.Generated.{generated}
use Rattle.bench_laws.specs.Left.{left_by}
use Rattle.bench_laws.proofs.Every.{Every, Has, every-has, has-cases, has-here}
use Rattle.bench_laws.proofs.Parts.{Part, Writing, Keeping, Freezing, Wrote, From, InTurn, commit, last_begin, next_row, replies_to, turn_of, wrotes}
use Rattle.bench_laws.proofs.Order.{before-round}
use Rattle.bench_laws.proofs.Places.{Before, every-wrote}
use Rattle.bench_laws.proofs.Told.{Told}
use Rattle.bench_laws.proofs.Writes.{Touches, behind_two, put, touches, unwritten}
use Rattle.bench_laws.proofs.Commits.{CommitFacts, SetOf, among-last, among-replies, commit-facts, good-of, set-cases, set_of, snapshot-facts, under-last, transactions}
use Rattle.bench_laws.proofs.Conflicts.{one-owner}
use Rattle.bench_laws.proofs.States.{behind, state, still}
use Rattle.bench_laws.proofs.Accepted.{insert-accepted, numbered, update-accepted}
use Rattle.bench_laws.proofs.Maps.{Rising, equal-rows, rising-insert}
use Rattle.bench_laws.proofs.Left.{behind_turn, filled, left-turns}

-- what a transaction leaves
abbrev behind_one : State → Wrote → State
behind_one rows w = insert_entry place_cmp (insert_entry place_cmp rows (place_of 0 w.row) w.row) (place_of 0 w.change) w.change

-- it writes the place
abbrev touches_it : Place → Wrote → Bool
touches_it place w = is_place (place_of 0 w.row) place || (is_place (place_of 0 w.change) place || false)

-- What a transaction leaves at a place, from what stood there before.
abbrev formula : Wrote → Place → Option (List Cell) → Option (List Cell)
formula w place before = behind_two true (place_of 0 w.row) w.row true (place_of 0 w.change) w.change place before

-- What stands at a place behind one transaction is what it leaves there.
at-one : (rows : State) (w : Wrote) (place : Place) → at_place (behind_one rows w) place ≡ formula w place (at_place rows place)
at-one rows w place =
    put (insert_entry place_cmp rows (place_of 0 w.row) w.row) (place_of 0 w.change) w.change place
    ∙ ap (cond (is_place place (place_of 0 w.change)) (Some w.change)) (put rows (place_of 0 w.row) w.row place)

-- A transaction that does not touch a place leaves what stood there.
passes-by : (w : Wrote) (place : Place) (before : Option (List Cell)) → touches_it place w ≡ false → formula w place before ≡ before
passes-by w place before h = unwritten true true (place_of 0 w.row) (place_of 0 w.change) place w.row w.change before h

-- where it touches the place, nothing is left of what stood there
touched-by : (p q place : Place) (r s : List Cell) (before other : Option (List Cell)) → (is_place p place ≡ true) ⊎ (is_place q place ≡ true)
    → behind_two true p r true q s place before ≡ behind_two true p r true q s place other
touched-by p q place r s before other (inl h) =
    let e : is_place place p ≡ true = (eq_by_cmp_equiv place_cmp-total).symm place p ∙ h in
    rw e refl
touched-by p q place r s before other (inr h) =
    let e : is_place place q ≡ true = (eq_by_cmp_equiv place_cmp-total).symm place q ∙ h in
    rw e refl

-- Where a disjunction with false is true, its first part is.
or-none : (b : Bool) → (b || false) ≡ true → b ≡ true
or-none true h = refl
or-none false h = h

-- What a transaction leaves at a place that it touches does not depend on what stood there.
touched : (w : Wrote) (place : Place) (before other : Option (List Cell)) → touches_it place w ≡ true → formula w place before ≡ formula w place other
touched w place before other h =
    touched-by (place_of 0 w.row) (place_of 0 w.change) place w.row w.change before other
    (either (or_cases (is_place (place_of 0 w.row) place) (is_place (place_of 0 w.change) place || false) h))
  where
    either : (is_place (place_of 0 w.row) place ≡ true) ⊎ ((is_place (place_of 0 w.change) place || false) ≡ true) → (is_place (place_of 0 w.row) place ≡ true) ⊎ (is_place (place_of 0 w.change) place ≡ true)
    either (inl a) = inl a
    either (inr b) = inr (or-none (is_place (place_of 0 w.change) place) b)

-- Transactions that do not touch a place leave what stands there, one after another.
fold-passes : (place : Place) (later : List Wrote) (rows : State) → Every (λ w. touches_it place w ≡ false) later → at_place (fold behind_one rows later) place ≡ at_place rows place
fold-passes place [] rows h = refl
fold-passes place (w ∷ later) rows h = fold-passes place later (behind_one rows w) h.1 ∙ at-one rows w place ∙ passes-by w place (at_place rows place) h.0

-- ---- the last of those that pass a test

record LastSuch (p : Wrote → Bool) (all : List Wrote) : Type 0 where
  front : List Wrote
  such : Wrote
  rest : List Wrote
  whole : all ≡ front ++ such ∷ rest
  holds : p such ≡ true
  none : Every (λ w. p w ≡ false) rest

-- No transaction passes a test, or there is a last one that does.
last-such : (p : Wrote → Bool) (all : List Wrote) → Every (λ w. p w ≡ false) all ⊎ LastSuch p all
last-such p [] = inl tt
last-such p (w ∷ all) = by (last-such p all) (p w) refl
  where
    by : Every (λ w. p w ≡ false) all ⊎ LastSuch p all → (b : Bool) → p w ≡ b → Every (λ w. p w ≡ false) (w ∷ all) ⊎ LastSuch p (w ∷ all)
    by (inr there) b is = inr (record { front = w ∷ there.front; such = there.such; rest = there.rest; whole = ap (λ xs. w ∷ xs) there.whole; holds = there.holds; none = there.none })
    by (inl none) true is = inr (record { front = []; such = w; rest = all; whole = refl; holds = is; none = none })
    by (inl none) false is = inl (is, none)

-- the transactions stand in their order
abbrev Climb : List Wrote → Type 0
Climb [] = Unit {0}
Climb (w ∷ all) = Every (λ v. Before v (Writing w)) all × Climb all

-- The transactions of parts that are in turn stand in their order.
climbs : (parts : List Part) → InTurn parts → Climb (wrotes parts)
climbs [] h = tt
climbs (Writing w ∷ parts) h = (
  every-wrote (λ v. Before v (Writing w)) (From (w.round + 1) (4 * w.round + w.session + 1) (4 * w.turn + w.session + 1))
      (λ v f. (let e = f.0 in omega (arith, e), let e = f.1 in omega (arith, e))) parts h.0,
  climbs parts h.1,
)
climbs (Keeping k ∷ parts) h = climbs parts h.1
climbs (Freezing f ∷ parts) h = climbs parts h.1

-- Each transaction in front of another stands before it.
front-before : (front : List Wrote) (w : Wrote) (rest : List Wrote) (v : Wrote) → Climb (front ++ w ∷ rest) → Has v front → Before w (Writing v)
front-before [] w rest v h has = absurd has
front-before (x ∷ front) w rest v h (inl same) = subst (λ y. Before w (Writing y)) same (every-has (λ y. Before y (Writing x)) (front ++ w ∷ rest) w h.0 (has-here front w rest))
front-before (x ∷ front) w rest v h (inr there) = front-before front w rest v h.1 there

-- Two steps that do the same at each element of a list leave the same rows.
fold-same : {X : Type 0} (f g : State → X → State) (xs : List X) (rows : State) → ((s : State) (x : X) → Has x xs → f s x ≡ g s x) → fold f rows xs ≡ fold g rows xs
fold-same f g [] rows same = refl
fold-same f g (x ∷ xs) rows same = ap (λ (s : State). fold f s xs) (same rows x (inl refl)) ∙ fold-same f g xs (g rows x) (λ s y has. same s y (inr has))

-- Rows that rise still rise when two writes are laid over them.
rising-laid : (rows : State) (p q : Place) (r s : List Cell) (answer : Ordering) → Rising rows
    → Rising (laid_over rows (match_ordering answer ((q, Some s) ∷ (p, Some r) ∷ []) ((p, Some s) ∷ []) ((p, Some r) ∷ (q, Some s) ∷ [])))
rising-laid rows p q r s Less h = rising-insert p r (insert_entry place_cmp rows q s) (rising-insert q s rows h)
rising-laid rows p q r s Equal h = rising-insert p s rows h
rising-laid rows p q r s Greater h = rising-insert q s (insert_entry place_cmp rows p r) (rising-insert p r rows h)

module _ (seed size : ℕ) (small : 4 * size ≤ 32768) (replies : List Entry) (told : Told seed size replies) where
  -- The transactions of the write rounds.
  abbrev all : List Wrote
  all = transactions seed size replies told

  -- The state behind so many commits.
  abbrev seen : ℕ → State
  seen n = state seed size replies told n

  -- A transaction writes a place just where it touches it.
  has-write : (w : Wrote) → Has w all → (place : Place) → has_write place (replies_to w) ≡ touches_it place w
  has-write w among place = rw (insert-accepted seed size small replies told w among, update-accepted seed size small replies told w among) refl

  -- each number is at most the last snapshot
  pub number-low : (w : Wrote) → Has w all → (k : ℕ) → w.number ≡ Some k → k ≤ told.last.snapshot
  number-low w among k is =
      (snapshot-facts seed size replies told (last_begin told.last) told.last.snapshot refl (among-last seed size replies told (last_begin told.last) (inl refl))).earlier
      (commit w) k (among-replies seed size replies told w among (commit w) (inr (inr (inr (inl refl)))))
      (before-round (commit w) (last_begin told.last) (under-last seed size replies told w among)) is

  -- ---- the rows that the writes leave

  -- The workload's writes leave what its transactions leave, one after another.
  left-ones : left_by (generated seed size) ≡ fold behind_one [] all
  left-ones =
      left-turns seed size
      ∙ ap (fold (behind_turn seed) []) (sym told.asked_are)
      ∙ fold-map (behind_turn seed) turn_of [] all
      ∙ fold-same (λ s w. behind_turn seed s (turn_of w)) behind_one all []
      (λ s w has. let good = good-of seed size replies told w has in
      ap (λ (row : List Cell). insert_entry place_cmp (insert_entry place_cmp s (place_of 0 row) row) (place_of 0 (next_row seed w.turn w.session)) (next_row seed w.turn w.session)) (sym good.row_is)
      ∙ ap (λ (row : List Cell). insert_entry place_cmp (insert_entry place_cmp s (place_of 0 w.row) w.row) (place_of 0 row) row) (sym good.change_is))

  -- ---- at each place

  -- Where no commit from one number to another touches a place, it stays as it was.
  state-passes : (place : Place) (m n : ℕ) → m ≤ n → ((v : Wrote) (k : ℕ) → Has v all → v.number ≡ Some k → m < k → k ≤ n → touches_it place v ≡ true → ⊥) → at_place (seen n) place ≡ at_place (seen m) place
  state-passes place m n low none =
      let e : m + (n - m) ≡ n = omega (arith, low) in
      ap (λ x. at_place (seen x) place) (sym e)
      ∙ still seed size replies told place m (n - m) (λ v k has is above under h. none v k has is above (omega (arith, under, e)) (sym (has-write v has place) ∙ h))

  -- Behind a transaction's commit a place has what the transaction leaves of the state before.
  state-behind : (w : Wrote) → Has w all → (k : ℕ) → w.number ≡ Some k → 1 ≤ k → (place : Place) → at_place (seen k) place ≡ formula w place (at_place (seen (k - 1)) place)
  state-behind w among zero is low place = absurd (omega (arith, low))
  state-behind w among (suc k) is low place =
      let e : suc k - 1 ≡ k = omega arith in
      behind seed size replies told w among k is place
      ∙ ap (λ (b : Bool). behind_two b (place_of 0 w.row) w.row (is_accepted w.update_said) (place_of 0 w.change) w.change place (at_place (seen k) place)) (ap is_accepted (insert-accepted seed size small replies told w among))
      ∙ ap (λ (b : Bool). behind_two true (place_of 0 w.row) w.row b (place_of 0 w.change) w.change place (at_place (seen k) place)) (ap is_accepted (update-accepted seed size small replies told w among))
      ∙ ap (λ n. formula w place (at_place (seen n) place)) (sym e)

  -- At each place the last round sees what the transactions leave in their order.
  same-at : (place : Place) → at_place (seen told.last.snapshot) place ≡ at_place (fold behind_one [] all) place
  same-at place = by (last-such (touches_it place) all)
    where
      by : Every (λ w. touches_it place w ≡ false) all ⊎ LastSuch (touches_it place) all → at_place (seen told.last.snapshot) place ≡ at_place (fold behind_one [] all) place
      by (inl none) =
          state-passes place 0 told.last.snapshot (omega arith) (λ v k has is above under h. both_ways (touches_it place v) (every-has (λ w. touches_it place w ≡ false) all v none has) h)
          ∙ sym (fold-passes place all [] none)
      by (inr l) =
          let w = l.such in
          let among : Has w all = subst (Has w) (sym l.whole) (has-here l.front w l.rest) in
          let n = numbered seed size small replies told w among in
          let k = n.0 in
          let facts = commit-facts seed size replies told w among k n.1 in
          let good = good-of seed size replies told w among in
          let own = touches seed w good place (has-write w among place ∙ l.holds) in
          let climb : Climb (l.front ++ w ∷ l.rest) = subst Climb l.whole (climbs told.parts told.in_turn) in
          let earlier = at_place (seen (k - 1)) place in
          let before = at_place (fold behind_one [] l.front) place in
          state-passes place k told.last.snapshot (number-low w among k n.1) (λ v j has is above under h. later k n.1 facts own among climb v j has is above h)
          ∙ state-behind w among k n.1 facts.least place
          ∙ touched w place earlier before l.holds
          ∙ sym (at-one (fold behind_one [] l.front) w place)
          ∙ sym (fold-passes place l.rest (behind_one (fold behind_one [] l.front) w) l.none)
          ∙ ap (λ (rows : State). at_place rows place) (sym (fold-append behind_one [] l.front (w ∷ l.rest)) ∙ ap (fold behind_one []) (sym l.whole))
        where
          later : (k : ℕ) → l.such.number ≡ Some k → CommitFacts seed size replies told l.such k → Touches l.such place → Has l.such all → Climb (l.front ++ l.such ∷ l.rest)
              → (v : Wrote) (j : ℕ) → Has v all → v.number ≡ Some j → k < j → touches_it place v ≡ true → ⊥
          later k is_k facts own among climb v j has is above h = elim (has-cases v l.front (l.such ∷ l.rest) (subst (Has v) l.whole has)) [
            | inl front ↦
                let t = touches seed v (good-of seed size replies told v has) place (has-write v has place ∙ h) in
                let session = (one-owner seed size replies told v l.such has among place own.turn own.is t).1 in
                let less = (front-before l.front l.such l.rest v climb front).0 in
                let low = facts.earlier (commit v) j (among-replies seed size replies told v has (commit v) (inr (inr (inr (inl refl))))) (before-round (commit v) (commit l.such) (omega (arith, less, session))) is in
                omega (arith, low, above)
            | inr (inl same) ↦ (let e : Some k ≡ Some j = sym is_k ∙ ap (λ (x : Wrote). x.number) same ∙ is in let f : k ≡ j = cc in omega (arith, f, above))
            | inr (inr rest) ↦ both_ways (touches_it place v) (every-has (λ x. touches_it place x ≡ false) l.rest v l.none rest) h
          ]

  -- ---- so the two are the same rows

  -- Rows that rise still rise when a transaction's writes are laid over them.
  rising-set : (rows : State) (w : Wrote) → Has w all → Rising rows → Rising (laid_over rows (writes_in (replies_to w)))
  rising-set rows w among h =
      rw (insert-accepted seed size small replies told w among, update-accepted seed size small replies told w among)
      (rising-laid rows (place_of 0 w.row) (place_of 0 w.change) w.row w.change (place_cmp (place_of 0 w.change) (place_of 0 w.row)) h)

  -- The rows of each state stand in the order of their places.
  rising-state : (n : ℕ) → Rising (seen n)
  rising-state zero = tt
  rising-state (suc n) = by (set-cases seed size replies told (suc n)) (rising-state n)
    where
      by : ((set_of seed size replies told (suc n) ≡ []) × (commit_line replies (suc n) ≡ None)) ⊎ SetOf seed size replies told (suc n) → Rising (seen n) → Rising (seen (suc n))
      by (inl empty) h = subst (λ (own : WriteSet). Rising (laid_over (seen n) own)) (sym empty.0) h
      by (inr its) h = subst (λ (own : WriteSet). Rising (laid_over (seen n) own)) (sym its.set_is) (rising-set (seen n) its.by its.among h)

  -- What the last round sees is what the writes leave.
  pub state-left : seen told.last.snapshot ≡ left_by (generated seed size)
  state-left =
      equal-rows (seen told.last.snapshot) (left_by (generated seed size)) (rising-state told.last.snapshot) (filled seed size).rising
      (λ place. same-at place ∙ ap (λ (rows : State). at_place rows place) (sym left-ones))
