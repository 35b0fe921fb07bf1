-- No write is told of a conflict: no other session writes its keys, and what its own session
-- committed is in its snapshot.
use Rattle.std.proofs.Common.{◌≡◌, ◌⊎◌, inl, inr, ℕ, ◌+◌, ◌-◌, ◌*◌, ◌<◌, ◌≤◌, zero, suc, Bool, true, false, cond, ◌&&◌, ◌||◌, not, eqb, nat_lt, nat_le, List, [], ◌∷◌, ◌++◌, map, length, Option, None, Some, refl, sym, ap, ◌∙◌, subst, arith}
use Rattle.std.specs.List.{filter, list_all, list_any, range_with_len}
use Rattle.std.specs.Option.{option_map_or}
use Rattle.std.proofs.lemmas.Bool.{and_parts, eq-eqb, eqb-true, ltb-true, not-true}
use Rattle.std.proofs.lemmas.List.FromFn.{get_or-map-range_with_len, length-map-range_with_len}
use Rattle.isolation_spec.specs.Contents.{place_of}
use Rattle.isolation_spec.specs.Machine.{later_writers, write_set_at, writes_place}
use Rattle.isolation_spec.specs.declared.place.Place.{Place}
use Rattle.timeline_laws.proofs.Chosen.{has-writes}
use Rattle.workload_spec.specs.declared.reply.Who.TheVariants.{Session}
use Rattle.workload_spec.specs.declared.reply.Said.{Said}
use Rattle.workload_spec.specs.declared.reply.Said.TheVariants as said
use Rattle.outcome_spec.specs.Entries.{Entry, is_before, is_not_after, is_same, not_after}
use Rattle.outcome_spec.specs.Runs.{Run, Span, commit_count, commit_line, ending_of, write_of}
use Rattle.outcome_spec.specs.Conflicts.{conflict_holds, has_write, is_committed_before, is_committed_not_after, names_commit, names_session, passes_no_session}
use Rattle.bench_laws.proofs.Every.{Has, any-found, has-cases, has-mapped}
use Rattle.bench_laws.proofs.Parts.{Wrote, begin, insert, update, commit, replies_to}
use Rattle.bench_laws.proofs.Order.{before-round}
use Rattle.bench_laws.proofs.Told.{Told, sound-at}
use Rattle.bench_laws.proofs.Spans.{span_of, last_span, belongs, transactions-are}
use Rattle.bench_laws.proofs.Writes.{Touches, at_key, first-place, last-touches-none, next-place, picked, same-key, some-touch, touches}
use Rattle.bench_laws.proofs.Commits.{SetOf, among-replies, good-of, line-is, order, own-order, run, same-number, set-cases, set_of, snapshot-of, transactions}

-- One element more: what a filter keeps is in the list, and passes.
filtered-step : {X : Type 0} (p : X → Bool) (x y : X) (xs : List X) (b : Bool) → p y ≡ b → Has x (cond b (y ∷ filter p xs) (filter p xs)) → (Has x (filter p xs) → Has x xs × (p x ≡ true)) → ((y ≡ x) ⊎ Has x xs) × (p x ≡ true)
filtered-step p x y xs true is (inl same) rest = (inl same, ap p (sym same) ∙ is)
filtered-step p x y xs true is (inr there) rest = let r = rest there in (inr r.0, r.1)
filtered-step p x y xs false is there rest = let r = rest there in (inr r.0, r.1)

-- what a filter keeps is in the list, and passes
pub filtered : {X : Type 0} (p : X → Bool) (x : X) (xs : List X) → Has x (filter p xs) → Has x xs × (p x ≡ true)
filtered p x [] h = absurd h
filtered p x (y ∷ xs) h = filtered-step p x y xs (p y) refl h (filtered p x xs)

-- a number of a range is within its bounds
pub range-bounds : (j a n : ℕ) → Has j (range_with_len a n) → (a ≤ j) × (j < a + n)
range-bounds j a zero h = absurd h
range-bounds j a (suc n) (inl same) = (omega (arith, same), omega (arith, same))
range-bounds j a (suc n) (inr rest) = let r = range-bounds j (a + 1) n rest in let low = r.0 in let high = r.1 in (omega (arith, low), omega (arith, high))

-- a key tells whose it is: equal keys are of one session and one turn
pub one-session : (x y a b : ℕ) → 1 ≤ a → a ≤ 4 → 1 ≤ b → b ≤ 4 → 4 * x + a ≡ 4 * y + b → (x ≡ y) × (a ≡ b)
one-session x y a b al ah bl bh h = (omega (arith, al, ah, bl, bh, h), omega (arith, al, ah, bl, bh, h))

-- The two in the middle of four that are all true.
three-of-four : (a b c d : Bool) → (a && b && c && d) ≡ true → (b ≡ true) × (c ≡ true)
three-of-four true true true true h = (refl, refl)
three-of-four false b c d h = absurd (let never : ⊥ = cc in never)
three-of-four true false c d h = absurd (let never : ⊥ = cc in never)
three-of-four true true false d h = absurd (let never : ⊥ = cc in never)
three-of-four true true true false h = absurd (let never : ⊥ = cc in never)

-- The first two of three that are all true.
two-of-three : (a b c : Bool) → (a && b && c) ≡ true → (a ≡ true) × (b ≡ true)
two-of-three true true c h = (refl, refl)
two-of-three false b c h = absurd (let never : ⊥ = cc in never)
two-of-three true false c h = absurd (let never : ⊥ = cc in never)

module _ (seed size : ℕ) (replies : List Entry) (told : Told seed size replies) where
  -- The run that the replies tell.
  abbrev the_run : Run
  the_run = run seed size replies told

  -- The transactions of the write rounds.
  abbrev all : List Wrote
  all = transactions seed size replies told

  -- two transactions that touch one place are of one session, and at one turn's key
  pub one-owner : (v w : Wrote) → Has v all → Has w all → (place : Place) (x : ℕ) → place ≡ at_key (4 * x + w.session) → (t : Touches v place) → (t.turn ≡ x) × (v.session ≡ w.session)
  one-owner v w there among place x is t =
      let a = good-of seed size replies told v there in
      let b = good-of seed size replies told w among in
      one-session t.turn x v.session w.session a.session_low a.session_high b.session_low b.session_high (same-key (4 * t.turn + v.session) (4 * x + w.session) (sym t.is ∙ is))

  -- ---- no other session

  -- A transaction that writes a key of a session, not after a reply, is that session's.
  rival-touches : (w : Wrote) → Has w all → (place : Place) (x : ℕ) → place ≡ at_key (4 * x + w.session) → (e : Entry) (rival : Span) → Has rival (map span_of all ++ last_span told.last ∷ [])
      → has_write place (not_after rival.replies e) ≡ true → is_same rival.who (Session w.session) ≡ true
  rival-touches w among place x is e rival has wrote = elim (has-cases rival (map span_of all) (last_span told.last ∷ []) has) [
    | inl one ↦
        let found = has-mapped span_of rival all one in
        let v = found.0 in
        let t = some-touch seed v (good-of seed size replies told v found.2) place (λ other. is_not_after other e) (subst (λ (s : Span). has_write place (not_after s.replies e) ≡ true) (sym found.1) wrote) in
        let own = one-owner v w found.2 among place x is t in
        subst (λ (s : Span). is_same s.who (Session w.session) ≡ true) found.1 (eq-eqb v.session w.session own.1)
    | inr (inl same) ↦ absurd (last-touches-none told.last told.scan_fits told.export_fits place (λ other. is_not_after other e) (subst (λ (s : Span). has_write place (not_after s.replies e) ≡ true) (sym same) wrote))
    | inr (inr never) ↦ absurd never
  ]

  -- no other session can be named as one that writes a key of this one
  pub no-session : (w : Wrote) → Has w all → (place : Place) (x : ℕ) → place ≡ at_key (4 * x + w.session) → (e : Entry) (session : ℕ) → names_session the_run (span_of w) place e session ≡ true → ⊥
  no-session w among place x is e session h =
      let found = any-found (λ (rival : Span). is_same rival.who (Session session) && not (is_same rival.who (Session w.session)) && has_write place (not_after rival.replies e)
      && option_map_or (λ ending. not (is_before ending e)) (ending_of rival) true) the_run.transactions h in
      let rival = found.0 in
      let parts = three-of-four (is_same rival.who (Session session)) (not (is_same rival.who (Session w.session))) (has_write place (not_after rival.replies e))
      (option_map_or (λ ending. not (is_before ending e)) (ending_of rival) true) found.2 in
      let same = rival-touches w among place x is e rival (subst (Has rival) (transactions-are seed size replies told) found.1) parts.1 in
      let other = not-true (is_same rival.who (Session w.session)) parts.0 in
      let never : true ≡ false = sym same ∙ other in
      let impossible : ⊥ = cc in impossible

  -- ---- no later commit

  -- a number that a later writer of the place has is a transaction's that touches it
  later-owner : (place : Place) (snapshot number : ℕ) → list_any (λ later. eqb later number) (later_writers the_run.history snapshot place) ≡ true
      → (snapshot < number) × (writes_place place (set_of seed size replies told number) ≡ true)
  later-owner place snapshot number h =
      let found = any-found (λ later. eqb later number) (later_writers the_run.history snapshot place) h in
      let j = found.0 in
      let same : j ≡ number = eqb-true j number found.2 in
      let kept = filtered (λ n. nat_lt snapshot n && writes_place place (write_set_at the_run.history n)) j (range_with_len 1 (length the_run.history)) found.1 in
      let bounds = range-bounds j 1 (length the_run.history) kept.0 in
      let parts = and_parts (nat_lt snapshot j) (writes_place place (write_set_at the_run.history j)) kept.1 in
      let many : length the_run.history ≡ commit_count replies = length-map-range_with_len (set_of seed size replies told) 1 (commit_count replies) in
      let low = bounds.0 in
      let high = bounds.1 in
      let at : write_set_at the_run.history j ≡ set_of seed size replies told j =
      get_or-map-range_with_len (set_of seed size replies told) 1 (commit_count replies) (j - 1) j [] (omega (arith, low, high, many)) (omega (arith, low)) in (
        subst (λ n. snapshot < n) same (ltb-true snapshot j parts.0),
        subst (λ n. writes_place place (set_of seed size replies told n) ≡ true) same (sym (ap (writes_place place) at) ∙ parts.1),
      )

  -- A write set with a place is that of a transaction that touches the place.
  set-touches : (place : Place) (number : ℕ) → writes_place place (set_of seed size replies told number) ≡ true → (its : SetOf seed size replies told number) × Touches its.by place
  set-touches place number h = elim (set-cases seed size replies told number) [
    | inl none ↦ absurd (let e : false ≡ true = sym (ap (writes_place place) none.0) ∙ h in let never : ⊥ = cc in never)
    | inr its ↦ (its, touches seed its.by (good-of seed size replies told its.by its.among) place (sym (has-writes place (replies_to its.by)) ∙ sym (ap (writes_place place) its.set_is) ∙ h))
  ]

  -- Where a number's commit is not after a reply, the reply is not before that commit.
  not-after-commit : (e : Entry) (number : ℕ) (line : Option Entry) → commit_line replies number ≡ line → option_map_or (λ (x : Entry). is_not_after x e) line false ≡ true
      → (c : Entry) × (commit_line replies number ≡ Some c) × (is_before e c ≡ false)
  not-after-commit e number None is h = absurd (let never : ⊥ = cc in never)
  not-after-commit e number (Some c) is h = (c, is, not-true (is_before e c) h)

  -- before its commit no commit behind its snapshot can be named that writes a key of its session
  pub no-commit : (w : Wrote) → Has w all → (place : Place) (x : ℕ) → place ≡ at_key (4 * x + w.session) → (e : Entry) → e.reply.round ≡ w.round → is_before e (commit w) ≡ true
      → (number : ℕ) → names_commit the_run (span_of w) place e number ≡ true → ⊥
  no-commit w among place x is e round before number h =
      let parts = two-of-three (list_any (λ later. eqb later number) (later_writers the_run.history w.snapshot place)) (is_committed_not_after the_run e number)
      (list_all (λ later. nat_le later number || not (is_committed_before the_run e later)) (later_writers the_run.history w.snapshot place)) h in
      let owner = later-owner place w.snapshot number parts.0 in
      let its = set-touches place number owner.1 in
      let v = its.0.by in
      let own = one-owner v w its.0.among among place x is its.1 in
      let line = not-after-commit e number (commit_line replies number) refl parts.1 in
      let c = line-is seed size replies told number line.0 line.1 in
      let same : c.by ≡ v = same-number seed size replies told c.by v number c.among its.0.among c.number its.0.number in
      let after : is_before e (commit v) ≡ false = sym (ap (is_before e) (c.is ∙ ap commit same)) ∙ line.2 in
      let session = own.1 in
      let later = owner.0 in
      elim (order seed size replies told v w its.0.among among) [
        | inl e_is ↦ (let never : true ≡ false = sym before ∙ sym (ap (λ (y : Wrote). is_before e (commit y)) e_is) ∙ after in let impossible : ⊥ = cc in impossible)
        | inr (inl front) ↦
            let less = front.0 in
            let low = (snapshot-of seed size replies told w among).earlier (commit v) number (among-replies seed size replies told v its.0.among (commit v) (inr (inr (inr (inl refl)))))
            (before-round (commit v) (begin w) (omega (arith, less, session))) its.0.number in
            omega (arith, low, later)
        | inr (inr behind) ↦
            let less = behind.0 in
            let front : is_before e (commit v) ≡ true = before-round e (commit v) (omega (arith, less, session, round)) in
            (let never : true ≡ false = sym front ∙ after in let impossible : ⊥ = cc in impossible)
      ]

  -- ---- of an insert and of an update

  -- no insert is told of a conflict with a session or a commit
  pub insert-clear : (w : Wrote) → Has w all → ((session : ℕ) → w.insert_said ≡ said.ConflictSession session → ⊥) × ((number : ℕ) → w.insert_said ≡ said.ConflictCommit number → ⊥)
  insert-clear w among =
      let good = good-of seed size replies told w among in
      let sound = sound-at seed size replies told (insert w) (among-replies seed size replies told w among (insert w) (inr (inl refl))) in
      let holds : conflict_holds the_run (span_of w) (place_of 0 w.row) (insert w) w.insert_said ≡ true =
      sym (ap (λ (o : Option Span). option_map_or (λ t. option_map_or (λ write. conflict_holds the_run t write.0 (insert w) w.insert_said) (write_of (insert w).command) true) o true)
      (belongs seed size replies told w among (insert w) (inr (inl refl)) refl refl)) ∙ sound.conflicts in (
        λ session is. no-session w among (place_of 0 w.row) (w.turn - 1) (first-place seed w good) (insert w) session (subst (λ (s : Said). conflict_holds the_run (span_of w) (place_of 0 w.row) (insert w) s ≡ true) is holds),
        λ number is.
            no-commit w among (place_of 0 w.row) (w.turn - 1) (first-place seed w good) (insert w) refl (own-order seed size replies told w among).insert_commit number
            (and_parts (names_commit the_run (span_of w) (place_of 0 w.row) (insert w) number) (passes_no_session the_run (span_of w) (place_of 0 w.row) (insert w))
            (subst (λ (s : Said). conflict_holds the_run (span_of w) (place_of 0 w.row) (insert w) s ≡ true) is holds)).0,
      )

  -- no update is told of a conflict with a session or a commit
  pub update-clear : (w : Wrote) → Has w all → ((session : ℕ) → w.update_said ≡ said.ConflictSession session → ⊥) × ((number : ℕ) → w.update_said ≡ said.ConflictCommit number → ⊥)
  update-clear w among =
      let good = good-of seed size replies told w among in
      let sound = sound-at seed size replies told (update w) (among-replies seed size replies told w among (update w) (inr (inr (inl refl)))) in
      let holds : conflict_holds the_run (span_of w) (place_of 0 w.change) (update w) w.update_said ≡ true =
      sym (ap (λ (o : Option Span). option_map_or (λ t. option_map_or (λ write. conflict_holds the_run t write.0 (update w) w.update_said) (write_of (update w).command) true) o true)
      (belongs seed size replies told w among (update w) (inr (inr (inl refl))) refl refl)) ∙ sound.conflicts in (
        λ session is. no-session w among (place_of 0 w.change) (picked seed w) (next-place seed w good) (update w) session (subst (λ (s : Said). conflict_holds the_run (span_of w) (place_of 0 w.change) (update w) s ≡ true) is holds),
        λ number is.
            no-commit w among (place_of 0 w.change) (picked seed w) (next-place seed w good) (update w) refl (own-order seed size replies told w among).update_commit number
            (and_parts (names_commit the_run (span_of w) (place_of 0 w.change) (update w) number) (passes_no_session the_run (span_of w) (place_of 0 w.change) (update w))
            (subst (λ (s : Said). conflict_holds the_run (span_of w) (place_of 0 w.change) (update w) s ≡ true) is holds)).0,
      )
