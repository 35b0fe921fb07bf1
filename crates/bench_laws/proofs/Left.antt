-- The rows that the writes of a generated workload leave: one of each key, the keys going up by
-- one.
use Rattle.std.proofs.Common.{◌≡◌, ◌⊎◌, inl, inr, ℕ, ◌+◌, ◌-◌, ◌*◌, ◌/◌, ◌%◌, ◌<◌, ◌≤◌, zero, suc, Bool, true, false, cond, eqb, List, [], ◌∷◌, ◌++◌, length, fold, Option, None, Some, refl, sym, ap, ◌∙◌, subst, arith}
use Rattle.std.specs.Prelude.{flat_map, if◌then◌else◌, is_some, ◌==◌}
use Rattle.std.specs.BTreeMap.{insert_entry}
use Rattle.std.specs.List.{range_with_len}
use Rattle.std.proofs.lemmas.Bool.{cases_eq, eq-eqb, ne_eqb}
use Rattle.cell_model.specs.declared.cell.Cell.{Cell}
use Rattle.isolation_spec.specs.Contents.{State, at_place, contents_of, place_cmp, place_of}
use Rattle.workload_spec.specs.declared.script.Line.{Line}
use Rattle.bench_spec.specs.Generated.{bench_table, draw_in, freezing, generated, last_round, rounds_at, upkeep_round, write_round, writers}
use Rattle.bench_laws.specs.Left.{carried_out, left_by, round_carried_out}
use Rattle.bench_laws.proofs.Parts.{first_row, next_row, turns}
use Rattle.bench_laws.proofs.Writes.{at_key, first-place-of, next-place-of, put}
use Rattle.bench_laws.proofs.Maps.{OfOne, Rising, key-place, length-contents, length-insert, one-insert, rising-insert}

-- what a session's turn leaves
abbrev pub behind_turn : ℕ → State → ℕ × ℕ → State
behind_turn seed rows turn = insert_entry place_cmp
    (insert_entry place_cmp rows (place_of 0 (first_row seed turn.0 turn.1)) (first_row seed turn.0 turn.1))
    (place_of 0 (next_row seed turn.0 turn.1)) (next_row seed turn.0 turn.1)

module _ (seed : ℕ) where
  -- A write round leaves what the turns of its four sessions leave.
  write-left : (turn : ℕ) (rows : State) → round_carried_out rows (write_round seed turn) ≡ fold (behind_turn seed) rows ((turn, 1) ∷ (turn, 2) ∷ (turn, 3) ∷ (turn, 4) ∷ [])
  unfolding first_row next_row
  write-left turn rows = refl

  -- Sealing and gathering blocks leaves the rows as they are.
  freezes-left : (blocks : List ℕ) (rows : State) → fold carried_out rows (flat_map freezing blocks) ≡ rows
  freezes-left [] rows = refl
  freezes-left (block ∷ blocks) rows = freezes-left blocks rows

  -- A round of upkeep leaves the rows as they are.
  upkeep-left : (turn : ℕ) (rows : State) → round_carried_out rows (upkeep_round turn) ≡ rows
  upkeep-left turn rows = freezes-left (range_with_len 0 (writers * turn / bench_table.slots + 1)) rows

  -- Rounds with the last round behind them.
  abbrev ends : List (List Line) → List (List Line)
  ends rounds = rounds ++ last_round ∷ []

  -- A round of upkeep in front of others, or none, changes nothing of what they leave.
  upkeep-passed : (upkeep : Bool) (turn : ℕ) (rounds : List (List Line)) (rows : State)
      → fold round_carried_out rows (ends ((if upkeep then upkeep_round turn ∷ [] else []) ++ rounds)) ≡ fold round_carried_out rows (ends rounds)
  upkeep-passed true turn rounds rows = ap (λ (r : State). fold round_carried_out r (ends rounds)) (upkeep-left turn rows)
  upkeep-passed false turn rounds rows = refl

  -- From a turn on the rounds leave what the sessions' turns leave.
  left-from : (count turn : ℕ) (rows : State) → fold round_carried_out rows (ends (flat_map (rounds_at seed) (range_with_len turn count))) ≡ fold (behind_turn seed) rows (turns turn count)
  left-from zero turn rows = refl
  left-from (suc count) turn rows =
      let later = flat_map (rounds_at seed) (range_with_len (turn + 1) count) in
      let now = fold (behind_turn seed) rows ((turn, 1) ∷ (turn, 2) ∷ (turn, 3) ∷ (turn, 4) ∷ []) in
      ap (λ (r : State). fold round_carried_out r (ends ((if turn % 16 == 0 then upkeep_round turn ∷ [] else []) ++ later))) (write-left turn rows)
      ∙ upkeep-passed (turn % 16 == 0) turn later now
      ∙ left-from count (turn + 1) now

  -- The writes go by the turns of the sessions.
  pub left-turns : (size : ℕ) → left_by (generated seed size) ≡ fold (behind_turn seed) [] (turns 1 size)
  left-turns size = left-from size 1 []

-- ---- one row of each key

-- there is a row of each key up to this one, and no other
pub record Filled (most : ℕ) (rows : State) : Type 0 where
  pub rising : Rising rows
  pub one : OfOne rows
  pub present : (key : ℕ) → 1 ≤ key → key ≤ most → is_some (at_place rows (at_key key)) ≡ true
  pub absent : (key : ℕ) → most < key → at_place rows (at_key key) ≡ None
  pub many : length rows ≡ most

-- Where there are no rows, there is one of each key up to zero.
filled-none : Filled 0 []
filled-none = record { rising = tt; one = tt; present = λ key low high. absurd (omega (arith, low, high)); absent = λ key far. refl; many = refl }

-- the row of a key, or what stood there
at-key : (rows : State) (own : ℕ) (row : List Cell) (key : ℕ) → at_place (insert_entry place_cmp rows (at_key own) row) (at_key key) ≡ cond (eqb key own) (Some row) (at_place rows (at_key key))
at-key rows own row key = put rows (at_key own) row (at_key key) ∙ ap (λ (b : Bool). cond b (Some row) (at_place rows (at_key key))) (key-place key own)

-- A row that is put over what stands somewhere, or is not, leaves something there.
either : (b : Bool) (row : List Cell) (o : Option (List Cell)) → is_some o ≡ true → is_some (cond b (Some row) o) ≡ true
either true row o h = refl
either false row o h = h

-- With a row at the next key there is one of each key up to it.
filled-first : (most : ℕ) (rows : State) (row : List Cell) → Filled most rows → Filled (most + 1) (insert_entry place_cmp rows (at_key (most + 1)) row)
filled-first most rows row h = record {
  rising = rising-insert (at_key (most + 1)) row rows h.rising;
  one = one-insert (at_key (most + 1)) row rows refl h.one;
  present = λ key low high. ap is_some (at-key rows (most + 1) row key) ∙ stands key low high (cases_eq key (most + 1));
  absent = λ key far.
      at-key rows (most + 1) row key ∙ ap (λ (b : Bool). cond b (Some row) (at_place rows (at_key key))) (ne_eqb key (most + 1) (λ e. omega (arith, e, far))) ∙ h.absent key (omega (arith, far));
  many = (let e = length-insert (at_key (most + 1)) row rows h.rising false (ap is_some (h.absent (most + 1) (omega arith))) in let m = h.many in omega (arith, e, m));
}
  where
    stands : (key : ℕ) → 1 ≤ key → key ≤ most + 1 → (key ≡ most + 1) ⊎ (key ≡ most + 1 → ⊥) → is_some (cond (eqb key (most + 1)) (Some row) (at_place rows (at_key key))) ≡ true
    stands key low high (inl e) = ap (λ (b : Bool). is_some (cond b (Some row) (at_place rows (at_key key)))) (eq-eqb key (most + 1) e)
    stands key low high (inr other) = either (eqb key (most + 1)) row (at_place rows (at_key key)) (h.present key low (omega (arith, high, other)))

-- A row put at a key that has one leaves a row of each key as before.
filled-again : (most key : ℕ) (rows : State) (row : List Cell) → 1 ≤ key → key ≤ most → Filled most rows → Filled most (insert_entry place_cmp rows (at_key key) row)
filled-again most key rows row low high h = record {
  rising = rising-insert (at_key key) row rows h.rising;
  one = one-insert (at_key key) row rows refl h.one;
  present = λ other a b. ap is_some (at-key rows key row other) ∙ either (eqb other key) row (at_place rows (at_key other)) (h.present other a b);
  absent = λ other far.
      at-key rows key row other ∙ ap (λ (b : Bool). cond b (Some row) (at_place rows (at_key other))) (ne_eqb other key (λ e. omega (arith, e, far, high))) ∙ h.absent other far;
  many = (let e = length-insert (at_key key) row rows h.rising true (h.present key low high) in let m = h.many in omega (arith, e, m));
}

module _ (seed : ℕ) where
  -- A session's turn leaves a row of one key more.
  filled-turn : (turn session most : ℕ) (rows : State) → 1 ≤ turn → 1 ≤ session → most + 1 ≡ 4 * (turn - 1) + session → Filled most rows → Filled (most + 1) (behind_turn seed rows (turn, session))
  filled-turn turn session most rows low start is h =
      let first : place_of 0 (first_row seed turn session) ≡ at_key (most + 1) = first-place-of seed turn session ∙ ap at_key (sym is) in
      let next = next-place-of seed turn session in
      let under : draw_in seed turn session 3 % turn < turn = below (draw_in seed turn session 3) turn low in
      subst (λ p. Filled (most + 1) (insert_entry place_cmp (insert_entry place_cmp rows p (first_row seed turn session)) (place_of 0 (next_row seed turn session)) (next_row seed turn session))) (sym first)
      (subst (λ p. Filled (most + 1) (insert_entry place_cmp (insert_entry place_cmp rows (at_key (most + 1)) (first_row seed turn session)) p (next_row seed turn session))) (sym next)
      (filled-again (most + 1) (4 * (draw_in seed turn session 3 % turn) + session) (insert_entry place_cmp rows (at_key (most + 1)) (first_row seed turn session)) (next_row seed turn session)
      (omega (arith, start)) (omega (arith, is, under)) (filled-first most rows (first_row seed turn session) h)))
    where
      below : (x n : ℕ) → 1 ≤ n → x % n < n
      below x n h = omega (arith, h)

  -- Each round of turns leaves rows of four keys more.
  filled-turns : (count turn most : ℕ) (rows : State) → 1 ≤ turn → most ≡ 4 * (turn - 1) → Filled most rows → Filled (most + 4 * count) (fold (behind_turn seed) rows (turns turn count))
  filled-turns zero turn most rows low is h = let e : most + 4 * zero ≡ most = omega arith in subst (λ n. Filled n rows) (sym e) h
  filled-turns (suc count) turn most rows low is h =
      let a = filled-turn turn 1 most rows low (omega arith) (omega (arith, is)) h in
      let b = filled-turn turn 2 (most + 1) (behind_turn seed rows (turn, 1)) low (omega arith) (omega (arith, is)) a in
      let c = filled-turn turn 3 (most + 1 + 1) (behind_turn seed (behind_turn seed rows (turn, 1)) (turn, 2)) low (omega arith) (omega (arith, is)) b in
      let d = filled-turn turn 4 (most + 1 + 1 + 1) (behind_turn seed (behind_turn seed (behind_turn seed rows (turn, 1)) (turn, 2)) (turn, 3)) low (omega arith) (omega (arith, is)) c in
      let e : most + 1 + 1 + 1 + 1 + 4 * count ≡ most + 4 * suc count = omega arith in
      subst (λ n. Filled n (fold (behind_turn seed) rows (turns turn (suc count)))) e
      (filled-turns count (turn + 1) (most + 1 + 1 + 1 + 1) (behind_turn seed (behind_turn seed (behind_turn seed (behind_turn seed rows (turn, 1)) (turn, 2)) (turn, 3)) (turn, 4)) (omega arith) (omega (arith, is, low)) d)

  -- There are four rows for each round of writes.
  pub filled : (size : ℕ) → Filled (4 * size) (left_by (generated seed size))
  filled size =
      let e : 0 + 4 * size ≡ 4 * size = omega arith in
      subst (Filled (4 * size)) (sym (left-turns seed size)) (subst (λ n. Filled n (fold (behind_turn seed) [] (turns 1 size))) e (filled-turns size 1 0 [] (omega arith) (omega arith) filled-none))

  -- the writes leave as many rows as there are transactions
  pub rows-many : (size : ℕ) → length (contents_of 0 (left_by (generated seed size))) ≡ 4 * size
  rows-many size = let f = filled size in length-contents (left_by (generated seed size)) f.one ∙ f.many
