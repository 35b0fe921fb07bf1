-- Each write is accepted, and each transaction of a write round commits with a number.
use Rattle.std.proofs.Common.{◌≡◌, ◌⊎◌, inl, inr, ℕ, ◌+◌, ◌-◌, ◌*◌, ◌<◌, ◌≤◌, zero, suc, Bool, true, false, cond, not, List, [], ◌∷◌, Option, None, Some, refl, sym, ap, ◌∙◌, subst, arith}
use Rattle.std.specs.Prelude.{is_none, is_some}
use Rattle.std.specs.BTreeMap.{insert_entry}
use Rattle.std.specs.List.{list_any}
use Rattle.std.specs.Option.{option_map_or}
use Rattle.std.proofs.lemmas.Bool.{cases_eq}
use Rattle.cell_model.specs.declared.cell.Cell.{Cell}
use Rattle.isolation_spec.specs.Contents.{State, at_place, is_place, laid_over, place_cmp, place_of, state_at}
use Rattle.isolation_spec.specs.declared.place.Place.{Place}
use Rattle.isolation_laws.proofs.Entries.{lookup-insert_entry}
use Rattle.isolation_laws.proofs.Rows.{place_cmp-total}
use Rattle.workload_spec.specs.declared.reply.Said.{Said}
use Rattle.workload_spec.specs.declared.reply.Said.TheVariants as said
use Rattle.outcome_spec.specs.Entries.{Entry, before, is_accepted, is_before}
use Rattle.outcome_spec.specs.Runs.{Run, Span, accepted_write, seen_at, writes_in}
use Rattle.outcome_spec.specs.Answers.{is_acceptable, write_holds}
use Rattle.outcome_spec.specs.Conflicts.{has_write}
use Rattle.outcome_spec.specs.Numbers.{commit_holds, has_written}
use Rattle.bench_spec.specs.Counted.{is_refused}
use Rattle.timeline_laws.proofs.Order.{before-itself}
use Rattle.bench_laws.proofs.Every.{Has, every-has, has-map, has-mapped}
use Rattle.bench_laws.proofs.Replies.{IsInsertReply, IsUpdateReply}
use Rattle.bench_laws.proofs.Parts.{Wrote, begin, insert, update, commit, replies_to, turn_of, turns}
use Rattle.bench_laws.proofs.Order.{before-round}
use Rattle.bench_laws.proofs.Places.{about}
use Rattle.bench_laws.proofs.Told.{Told, sound-at}
use Rattle.bench_laws.proofs.Freezing.{not-freezing}
use Rattle.bench_laws.proofs.Full.{not-full}
use Rattle.bench_laws.proofs.Spans.{span_of, belongs}
use Rattle.bench_laws.proofs.Writes.{at_key, first-place, first_key, next-place, next_key, picked, picked-low, place-itself, touches}
use Rattle.bench_laws.proofs.Commits.{among-replies, good-of, order, own-order, run, snapshot-of, transactions}
use Rattle.bench_laws.proofs.Conflicts.{insert-clear, one-owner, update-clear}
use Rattle.bench_laws.proofs.States.{present, state, state-is, still}

-- ---- whose turns there are

-- each session from 1 to 4 has its turn in each of the write rounds
pub turns-have : (turn count t s : ℕ) → turn ≤ t → t < turn + count → 1 ≤ s → s ≤ 4 → Has (t, s) (turns turn count)
turns-have turn zero t s low high a b = absurd (omega (arith, low, high))
turns-have turn (suc count) t s low high a b = by (cases_eq t turn) (λ other. turns-have (turn + 1) count t s (omega (arith, low, other)) (omega (arith, high)) a b)
  where
    pair : (x y : ℕ) → x ≡ turn → y ≡ s → t ≡ turn → ◌≡◌ {A = ℕ × ℕ} (turn, y) (t, s)
    pair x y e f g = ap (λ n. (turn, n)) f ∙ ap (λ n. (n, s)) (sym g)

    by : (t ≡ turn) ⊎ (t ≡ turn → ⊥) → ((t ≡ turn → ⊥) → Has (t, s) (turns (turn + 1) count)) → Has (t, s) (turns turn (suc count))
    by (inl e) rest = at (cases_eq s 1) (cases_eq s 2) (cases_eq s 3)
      where
        at : (s ≡ 1) ⊎ (s ≡ 1 → ⊥) → (s ≡ 2) ⊎ (s ≡ 2 → ⊥) → (s ≡ 3) ⊎ (s ≡ 3 → ⊥) → Has (t, s) (turns turn (suc count))
        at (inl one) y z = inl (pair turn 1 refl (sym one) e)
        at (inr x) (inl two) z = inr (inl (pair turn 2 refl (sym two) e))
        at (inr x) (inr y) (inl three) = inr (inr (inl (pair turn 3 refl (sym three) e)))
        at (inr x) (inr y) (inr z) = inr (inr (inr (inl (pair turn 4 refl (four s a b x y z) e))))
          where
            four : (n : ℕ) → 1 ≤ n → n ≤ 4 → (n ≡ 1 → ⊥) → (n ≡ 2 → ⊥) → (n ≡ 3 → ⊥) → 4 ≡ n
            four n l h x y z = omega (arith, l, h, x, y, z)
    by (inr other) rest = inr (inr (inr (inr (rest other))))

-- no turn is of a write round past the last
pub turns-low : (turn count t s : ℕ) → Has (t, s) (turns turn count) → t < turn + count
turns-low turn zero t s h = absurd h
turns-low turn (suc count) t s (inl same) = let e : turn ≡ t = ap (λ (p : ℕ × ℕ). p.0) same in omega (arith, e)
turns-low turn (suc count) t s (inr (inl same)) = let e : turn ≡ t = ap (λ (p : ℕ × ℕ). p.0) same in omega (arith, e)
turns-low turn (suc count) t s (inr (inr (inl same))) = let e : turn ≡ t = ap (λ (p : ℕ × ℕ). p.0) same in omega (arith, e)
turns-low turn (suc count) t s (inr (inr (inr (inl same)))) = let e : turn ≡ t = ap (λ (p : ℕ × ℕ). p.0) same in omega (arith, e)
turns-low turn (suc count) t s (inr (inr (inr (inr rest)))) = let e = turns-low (turn + 1) count t s rest in omega (arith, e)

-- ---- what an acceptable write may be told

-- An acceptable insert that is told of no refusal, full table or conflict is accepted.
insert-told : (told : Said) → IsInsertReply told → is_refused told ≡ false → (told ≡ said.Full → ⊥) → ((session : ℕ) → told ≡ said.ConflictSession session → ⊥) → ((number : ℕ) → told ≡ said.ConflictCommit number → ⊥)
    → write_holds true told ≡ true → told ≡ said.Accepted
insert-told said.Accepted fits granted full session number h = refl
insert-told said.Exists fits granted full session number h = absurd (let never : ⊥ = cc in never)
insert-told said.Full fits granted full session number h = absurd (full refl)
insert-told said.Memory fits granted full session number h = absurd (let never : ⊥ = cc in never)
insert-told (said.ConflictSession s) fits granted full session number h = absurd (session s refl)
insert-told (said.ConflictCommit n) fits granted full session number h = absurd (number n refl)
insert-told _ fits granted full session number h = absurd fits

-- An acceptable update that is told of no refusal, freezing or conflict is accepted.
update-told : (told : Said) → IsUpdateReply 0 told → is_refused told ≡ false → ((table block stamp : ℕ) → told ≡ said.Freezing table block stamp → ⊥) → ((session : ℕ) → told ≡ said.ConflictSession session → ⊥)
    → ((number : ℕ) → told ≡ said.ConflictCommit number → ⊥) → write_holds true told ≡ true → told ≡ said.Accepted
update-told said.Accepted fits granted freezing session number h = refl
update-told said.Missing fits granted freezing session number h = absurd (let never : ⊥ = cc in never)
update-told said.Memory fits granted freezing session number h = absurd (let never : ⊥ = cc in never)
update-told (said.Freezing t b g) fits granted freezing session number h = absurd (freezing t b g refl)
update-told (said.ConflictSession s) fits granted freezing session number h = absurd (session s refl)
update-told (said.ConflictCommit n) fits granted freezing session number h = absurd (number n refl)
update-told _ fits granted freezing session number h = absurd fits

module _ (seed size : ℕ) (small : 4 * size ≤ 32768) (replies : List Entry) (told : Told seed size replies) where
  -- The run that the replies tell.
  abbrev the_run : Run
  the_run = run seed size replies told

  -- The transactions of the write rounds.
  abbrev all : List Wrote
  all = transactions seed size replies told

  -- The state behind so many commits.
  abbrev behind : ℕ → State
  behind n = state seed size replies told n

  -- No reply was refused memory.
  granted : (e : Entry) → Has e replies → is_refused e.reply.said ≡ false
  granted e has = every-has (λ x. is_refused x.reply.said ≡ false) replies e told.unrefused has

  -- ---- an insert

  -- Of a transaction's replies only its begin stands before its insert.
  before-insert : (w : Wrote) → Has w all → before (replies_to w) (insert w) ≡ begin w ∷ []
  before-insert w among =
      let own = own-order seed size replies told w among in
      rw (own.begin_insert, before-itself (insert w), own.update_insert, own.commit_insert) refl

  -- none of the commits in the snapshot touches the key
  fresh : (w : Wrote) → Has w all → (v : Wrote) (k : ℕ) → Has v all → v.number ≡ Some k → k ≤ w.snapshot → has_write (place_of 0 w.row) (replies_to v) ≡ true → ⊥
  fresh w among v k there is low h =
      let good = good-of seed size replies told w among in
      let t = touches seed v (good-of seed size replies told v there) (place_of 0 w.row) h in
      let own = one-owner seed size replies told v w there among (place_of 0 w.row) (w.turn - 1) (first-place seed w good) t in
      let turn = own.0 in
      let session = own.1 in
      let low_turn = t.low in
      let facts = snapshot-of seed size replies told w among in
      let has = among-replies seed size replies told v there (commit v) (inr (inr (inr (inl refl)))) in
      elim (order seed size replies told v w there among) [
        | inl same ↦
            let less = facts.later (commit v) k has (subst (λ (x : Wrote). is_before (begin w) (commit x) ≡ true) (sym same) (own-order seed size replies told w among).begin_commit) is in
            omega (arith, less, low)
        | inr (inl front) ↦ let less = front.1 in omega (arith, less, turn, session, low_turn)
        | inr (inr back) ↦
            let after = back.0 in
            let less = facts.later (commit v) k has (before-round (begin w) (commit v) (omega (arith, after, session))) is in
            omega (arith, less, low)
      ]

  -- The snapshot of a transaction has no row at the key that it inserts.
  absent : (w : Wrote) → Has w all → at_place (behind w.snapshot) (place_of 0 w.row) ≡ None
  absent w among =
      let e : 0 + w.snapshot ≡ w.snapshot = omega arith in
      ap (λ n. at_place (behind n) (place_of 0 w.row)) (sym e)
      ∙ still seed size replies told (place_of 0 w.row) 0 w.snapshot (λ v k has is low high. fresh w among v k has is (omega (arith, high)))

  -- A transaction sees no row at the key that it inserts.
  seen-insert : (w : Wrote) → Has w all → at_place (seen_at the_run (span_of w) (insert w)) (place_of 0 w.row) ≡ None
  seen-insert w among =
      ap (λ es. at_place (laid_over (state_at the_run.history w.snapshot) (writes_in es)) (place_of 0 w.row)) (before-insert w among)
      ∙ ap (λ (s : State). at_place s (place_of 0 w.row)) (state-is seed size replies told w.snapshot (snapshot-of seed size replies told w among).low)
      ∙ absent w among

  -- Each insert is accepted.
  pub insert-accepted : (w : Wrote) → Has w all → w.insert_said ≡ said.Accepted
  insert-accepted w among =
      let good = good-of seed size replies told w among in
      let e = insert w in
      let has = among-replies seed size replies told w among e (inr (inl refl)) in
      let sound = sound-at seed size replies told e has in
      let holds : write_holds (is_none (at_place (seen_at the_run (span_of w) e) (place_of 0 w.row))) w.insert_said ≡ true =
      sym (ap (λ (o : Option Span). option_map_or (λ t. write_holds (is_acceptable (seen_at the_run t e) e.command) w.insert_said) o true) (belongs seed size replies told w among e (inr (inl refl)) refl refl)) ∙ sound.writes in
      let clear = insert-clear seed size replies told w among in
      insert-told w.insert_said good.insert_fits (granted e has) (not-full seed size replies told small w among) clear.0 clear.1
      (sym (ap (λ (o : Option (List Cell)). write_holds (is_none o) w.insert_said) (seen-insert w among)) ∙ holds)

  -- ---- a commit

  -- Each transaction has a reply of an accepted write.
  wrote-one : (w : Wrote) → Has w all → list_any (λ other. is_some (accepted_write other)) (replies_to w) ≡ true
  wrote-one w among = rw (insert-accepted w among) refl

  -- Each commits with a number.
  pub numbered : (w : Wrote) → Has w all → (k : ℕ) × (w.number ≡ Some k)
  numbered w among = by w.number refl
    where
      by : (number : Option ℕ) → w.number ≡ number → (k : ℕ) × (number ≡ Some k)
      by (Some k) is = (k, refl)
      by None is =
          let e = commit w in
          let here : Has e (replies_to w) = inr (inr (inr (inl refl))) in
          let sound = sound-at seed size replies told e (among-replies seed size replies told w among e here) in
          let holds : commit_holds the_run e (said.Committed None) ≡ true = subst (λ (o : Option ℕ). commit_holds the_run e (said.Committed o) ≡ true) is sound.commits in
          let wrote : has_written the_run e ≡ true =
          ap (λ (o : Option Span). option_map_or (λ t. list_any (λ other. is_some (accepted_write other)) t.replies) o false) (belongs seed size replies told w among e here refl refl) ∙ wrote-one w among in
          let never : false ≡ true = sym (ap not wrote) ∙ holds in
          absurd (let impossible : ⊥ = cc in impossible)

  -- ---- an update

  -- Of a transaction's replies its begin and its insert stand before its update.
  before-update : (w : Wrote) → Has w all → before (replies_to w) (update w) ≡ begin w ∷ insert w ∷ []
  before-update w among =
      let own = own-order seed size replies told w among in
      rw (own.begin_update, own.insert_update, before-itself (update w), own.commit_update) refl

  -- the transaction that inserted the key in an earlier turn
  inserter : (w : Wrote) → Has w all → picked seed w + 1 < w.turn → (v : Wrote) × Has v all × (v.turn ≡ picked seed w + 1) × (v.session ≡ w.session)
  inserter w among less =
      let good = good-of seed size replies told w among in
      let far = turns-low 1 size w.turn w.session (subst (Has (w.turn, w.session)) told.asked_are (has-map turn_of w all among)) in
      let there = turns-have 1 size (picked seed w + 1) w.session (omega arith) (omega (arith, far, less)) good.session_low good.session_high in
      let found = has-mapped turn_of (picked seed w + 1, w.session) all (subst (Has (picked seed w + 1, w.session)) (sym told.asked_are) there) in
      (found.0, found.2, ap (λ (p : ℕ × ℕ). p.0) found.1, ap (λ (p : ℕ × ℕ). p.1) found.1)

  -- the key's row stands in the snapshot where an earlier turn inserted it
  stood : (w : Wrote) → Has w all → picked seed w + 1 < w.turn → is_some (at_place (behind w.snapshot) (place_of 0 w.change)) ≡ true
  stood w among less =
      let good = good-of seed size replies told w among in
      let i = inserter w among less in
      let v = i.0 in
      let turn = i.2 in
      let session = i.3 in
      let n = numbered v i.1 in
      let front : v.round < w.round = elim (order seed size replies told v w i.1 among) [
        | inl same ↦ absurd (let e : v.turn ≡ w.turn = ap (λ (x : Wrote). x.turn) same in omega (arith, e, turn, less))
        | inr (inl before_it) ↦ let e = before_it.0 in omega (arith, e, session)
        | inr (inr behind_it) ↦ absurd (let e = behind_it.1 in omega (arith, e, session, turn, less))
      ] in
      let low = (snapshot-of seed size replies told w among).earlier (commit v) n.0 (among-replies seed size replies told v i.1 (commit v) (inr (inr (inr (inl refl))))) (before-round (commit v) (begin w) front) n.1 in
      let key : first_key v ≡ next_key seed w = omega (arith, turn, session) in
      let place : place_of 0 v.row ≡ place_of 0 w.change = first-place seed v (good-of seed size replies told v i.1) ∙ ap at_key key ∙ sym (next-place seed w good) in
      subst (λ (p : Place). is_some (at_place (behind w.snapshot) p) ≡ true) place
      (present seed size replies told v i.1 n.0 w.snapshot n.1 low (ap is_accepted (insert-accepted v i.1)))

  -- The key that is updated is the transaction's own, or its row stands in the snapshot.
  own-or-stood : (w : Wrote) → Has w all → is_some (cond (is_place (place_of 0 w.change) (place_of 0 w.row)) (Some w.row) (at_place (behind w.snapshot) (place_of 0 w.change))) ≡ true
  own-or-stood w among = by (cases_eq (picked seed w + 1) w.turn)
    where
      either : (b : Bool) (row : List Cell) (o : Option (List Cell)) → is_some o ≡ true → is_some (cond b (Some row) o) ≡ true
      either true row o h = refl
      either false row o h = h

      by : (picked seed w + 1 ≡ w.turn) ⊎ (picked seed w + 1 ≡ w.turn → ⊥)
          → is_some (cond (is_place (place_of 0 w.change) (place_of 0 w.row)) (Some w.row) (at_place (behind w.snapshot) (place_of 0 w.change))) ≡ true
      by (inl same) =
          let good = good-of seed size replies told w among in
          let key : next_key seed w ≡ first_key w = omega (arith, same) in
          let place : place_of 0 w.change ≡ place_of 0 w.row = next-place seed w good ∙ ap at_key key ∙ sym (first-place seed w good) in
          let is : is_place (place_of 0 w.change) (place_of 0 w.row) ≡ true = ap (is_place (place_of 0 w.change)) (sym place) ∙ place-itself (place_of 0 w.change) in
          ap (λ (b : Bool). is_some (cond b (Some w.row) (at_place (behind w.snapshot) (place_of 0 w.change)))) is
      by (inr other) =
          let low = picked-low seed w (good-of seed size replies told w among) in
          either (is_place (place_of 0 w.change) (place_of 0 w.row)) w.row (at_place (behind w.snapshot) (place_of 0 w.change)) (stood w among (omega (arith, low, other)))

  -- Laid over rows, what a transaction wrote before its update is the row that it inserted.
  own-writes : (w : Wrote) → Has w all → (rows : State) → laid_over rows (writes_in (begin w ∷ insert w ∷ [])) ≡ insert_entry place_cmp rows (place_of 0 w.row) w.row
  own-writes w among rows = rw (insert-accepted w among) refl

  -- A transaction sees a row at the key that it updates.
  seen-update : (w : Wrote) → Has w all → is_some (at_place (seen_at the_run (span_of w) (update w)) (place_of 0 w.change)) ≡ true
  seen-update w among =
      ap (λ es. is_some (at_place (laid_over (state_at the_run.history w.snapshot) (writes_in es)) (place_of 0 w.change))) (before-update w among)
      ∙ ap (λ (s : State). is_some (at_place s (place_of 0 w.change))) (own-writes w among (state_at the_run.history w.snapshot))
      ∙ ap (λ (s : State). is_some (at_place (insert_entry place_cmp s (place_of 0 w.row) w.row) (place_of 0 w.change))) (state-is seed size replies told w.snapshot (snapshot-of seed size replies told w among).low)
      ∙ ap is_some (lookup-insert_entry place_cmp-total (behind w.snapshot) (place_of 0 w.row) w.row (place_of 0 w.change))
      ∙ own-or-stood w among

  -- Each update is accepted.
  pub update-accepted : (w : Wrote) → Has w all → w.update_said ≡ said.Accepted
  update-accepted w among =
      let good = good-of seed size replies told w among in
      let e = update w in
      let has = among-replies seed size replies told w among e (inr (inr (inl refl))) in
      let sound = sound-at seed size replies told e has in
      let holds : write_holds (is_some (at_place (seen_at the_run (span_of w) e) (place_of 0 w.change))) w.update_said ≡ true =
      sym (ap (λ (o : Option Span). option_map_or (λ t. write_holds (is_acceptable (seen_at the_run t e) e.command) w.update_said) o true) (belongs seed size replies told w among e (inr (inr (inl refl))) refl refl)) ∙ sound.writes in
      let clear = update-clear seed size replies told w among in
      update-told w.update_said good.update_fits (granted e has) (not-freezing seed size replies told w (about w told.parts among)) clear.0 clear.1
      (sym (ap (λ (b : Bool). write_holds b w.update_said) (seen-update w among)) ∙ holds)
