-- No insert is told that the table is full: without that one there are fewer of them than it has
-- slots.
use Rattle.std.proofs.Common.{◌≡◌, inl, inr, ℕ, ◌+◌, ◌*◌, ◌≤◌, zero, suc, Bool, true, false, cond, nat_le, List, [], ◌∷◌, length, refl, sym, ap, ◌∙◌, subst, arith}
use Rattle.std.specs.List.{count_by, filter}
use Rattle.std.proofs.lemmas.Bool.{leb-true}
use Rattle.std.proofs.lemmas.List.{length-map}
use Rattle.workload_spec.specs.declared.command.Command.{Command}
use Rattle.workload_spec.specs.declared.command.Command.TheVariants as command
use Rattle.workload_spec.specs.declared.reply.Said.{Said}
use Rattle.workload_spec.specs.declared.reply.Said.TheVariants as said
use Rattle.outcome_spec.specs.Entries.{Entry, not_after, is_not_after}
use Rattle.outcome_spec.specs.Runs.{run_of}
use Rattle.outcome_spec.specs.Upkeep.{capacity_at, full_reply_holds, inserts_in, is_accepted_insert}
use Rattle.order_laws.proofs.Pieces.{count-append, count-cons}
use Rattle.bench_laws.proofs.Every.{Every, Has, has-left}
use Rattle.bench_laws.proofs.Parts.{Part, Writing, Keeping, Freezing, Wrote, Good, IsKept, begin, insert, update, commit, kept_entry, seal_entry, gather_entry, entries_in, last_entries, wrotes, turn_of, turns}
use Rattle.bench_laws.proofs.Places.{has-reply}
use Rattle.bench_laws.proofs.Told.{Told, sound-at, tables}

-- The reply is that of an accepted insert into the table.
abbrev inserts : Entry → Bool
inserts e = is_accepted_insert 0 e.command e.reply.said

-- One test counts one at most.
at-most-one : (b : Bool) → cond b 1 0 ≤ 1
at-most-one true = omega arith
at-most-one false = omega arith

-- Pruning, observing and compacting are no accepted inserts.
kept-inserts-none : (asked : Command) (told : Said) → IsKept asked → is_accepted_insert 0 asked told ≡ false
kept-inserts-none command.Observe told h = refl
kept-inserts-none command.Prune told h = refl
kept-inserts-none (command.Compact table) told h = refl
kept-inserts-none _ told h = absurd h

-- no more inserts than transactions
inserts-low : (seed : ℕ) (parts : List Part) → Every (Good seed) parts → inserts_in 0 (entries_in parts) ≤ length (wrotes parts)
inserts-low seed [] good = omega arith
inserts-low seed (Writing w ∷ parts) good =
    let rest = inserts-low seed parts good.1 in
    let b = count-cons inserts (begin w) (insert w ∷ update w ∷ commit w ∷ entries_in parts) in
    let i = count-cons inserts (insert w) (update w ∷ commit w ∷ entries_in parts) in
    let u = count-cons inserts (update w) (commit w ∷ entries_in parts) in
    let c = count-cons inserts (commit w) (entries_in parts) in
    let one = at-most-one (inserts (insert w)) in
    omega (arith, rest, b, i, u, c, one)
inserts-low seed (Keeping k ∷ parts) good =
    let rest = inserts-low seed parts good.1 in
    let none : ◌≡◌ {A = ℕ} (cond (inserts (kept_entry k)) 1 0) 0 = ap (λ (b : Bool). cond {A = ℕ} b 1 0) (kept-inserts-none k.asked k.told good.0.0) in
    let c = count-cons inserts (kept_entry k) (entries_in parts) in
    omega (arith, rest, none, c)
inserts-low seed (Freezing f ∷ parts) good =
    let rest = inserts-low seed parts good.1 in
    let a = count-cons inserts (seal_entry f) (gather_entry f ∷ entries_in parts) in
    let b = count-cons inserts (gather_entry f) (entries_in parts) in
    omega (arith, rest, a, b)

-- fewer, where one of them is not accepted
inserts-less : (seed : ℕ) (parts : List Part) → Every (Good seed) parts → (w : Wrote) → Has w (wrotes parts) → inserts (insert w) ≡ false → inserts_in 0 (entries_in parts) + 1 ≤ length (wrotes parts)
inserts-less seed [] good w among none = absurd among
inserts-less seed (Writing v ∷ parts) good w (inl same) none =
    let rest = inserts-low seed parts good.1 in
    let b = count-cons inserts (begin v) (insert v ∷ update v ∷ commit v ∷ entries_in parts) in
    let i = count-cons inserts (insert v) (update v ∷ commit v ∷ entries_in parts) in
    let u = count-cons inserts (update v) (commit v ∷ entries_in parts) in
    let c = count-cons inserts (commit v) (entries_in parts) in
    let zero : ◌≡◌ {A = ℕ} (cond (inserts (insert v)) 1 0) 0 = ap (λ (x : Bool). cond {A = ℕ} x 1 0) (ap (λ x. inserts (insert x)) same ∙ none) in
    omega (arith, rest, b, i, u, c, zero)
inserts-less seed (Writing v ∷ parts) good w (inr there) none =
    let rest = inserts-less seed parts good.1 w there none in
    let b = count-cons inserts (begin v) (insert v ∷ update v ∷ commit v ∷ entries_in parts) in
    let i = count-cons inserts (insert v) (update v ∷ commit v ∷ entries_in parts) in
    let u = count-cons inserts (update v) (commit v ∷ entries_in parts) in
    let c = count-cons inserts (commit v) (entries_in parts) in
    let one = at-most-one (inserts (insert v)) in
    omega (arith, rest, b, i, u, c, one)
inserts-less seed (Keeping k ∷ parts) good w among none =
    let rest = inserts-less seed parts good.1 w among none in
    let zero : ◌≡◌ {A = ℕ} (cond (inserts (kept_entry k)) 1 0) 0 = ap (λ (b : Bool). cond {A = ℕ} b 1 0) (kept-inserts-none k.asked k.told good.0.0) in
    let c = count-cons inserts (kept_entry k) (entries_in parts) in
    omega (arith, rest, zero, c)
inserts-less seed (Freezing f ∷ parts) good w among none =
    let rest = inserts-less seed parts good.1 w among none in
    let a = count-cons inserts (seal_entry f) (gather_entry f ∷ entries_in parts) in
    let b = count-cons inserts (gather_entry f) (entries_in parts) in
    omega (arith, rest, a, b)

-- Among those that a filter keeps no more pass a test than among all.
filtered : {X : Type 0} (p q : X → Bool) (xs : List X) → count_by p (filter q xs) ≤ count_by p xs
filtered p q [] = omega arith
filtered p q (x ∷ xs) = by (q x) (filtered p q xs)
  where
    by : (b : Bool) → count_by p (filter q xs) ≤ count_by p xs → count_by p (cond b (x ∷ filter q xs) (filter q xs)) ≤ count_by p (x ∷ xs)
    by true h = let a = count-cons p x (filter q xs) in let b = count-cons p x xs in omega (arith, a, b, h)
    by false h = let b = count-cons p x xs in omega (arith, b, h)

-- There are four turns for each round of writes.
length-turns : (turn count : ℕ) → length (turns turn count) ≡ 4 * count
length-turns turn zero = omega arith
length-turns turn (suc count) = let h = length-turns (turn + 1) count in omega (arith, h)

module _ (seed size : ℕ) (replies : List Entry) (told : Told seed size replies) where
  -- how many transactions there are
  pub many : length (wrotes told.parts) ≡ 4 * size
  many = sym (length-map (wrotes told.parts) turn_of) ∙ ap length told.asked_are ∙ length-turns 1 size

  -- With one insert not accepted there are fewer accepted ones than four times the size.
  all-inserts : (w : Wrote) → Has w (wrotes told.parts) → inserts (insert w) ≡ false → inserts_in 0 replies + 1 ≤ 4 * size
  all-inserts w among none =
      let low = inserts-less seed told.parts told.good w among none in
      let split : inserts_in 0 replies ≡ inserts_in 0 (entries_in told.parts) + inserts_in 0 (last_entries told.last) = ap (inserts_in 0) told.whole ∙ count-append inserts (entries_in told.parts) (last_entries told.last) in
      let zero : inserts_in 0 (last_entries told.last) ≡ 0 = refl in
      let length_is = many in
      omega (arith, low, split, zero, length_is)

  -- where the table has a slot for each transaction, no insert is told that it is full
  pub not-full : 4 * size ≤ 32768 → (w : Wrote) → Has w (wrotes told.parts) → w.insert_said ≡ said.Full → ⊥
  not-full small w among is =
      let run = run_of tables replies in
      let has : Has (insert w) replies = subst (Has (insert w)) (sym told.whole) (has-left (insert w) (entries_in told.parts) (last_entries told.last) (has-reply w (insert w) told.parts among (inr (inl refl)))) in
      let sound = sound-at seed size replies told (insert w) has in
      let holds : nat_le (capacity_at tables 0) (0 + inserts_in 0 (not_after replies (insert w))) ≡ true = subst (λ (s : Said). full_reply_holds run (insert w) s ≡ true) is sound.full in
      let low : 32768 ≤ 0 + inserts_in 0 (not_after replies (insert w)) = leb-true 32768 (0 + inserts_in 0 (not_after replies (insert w))) holds in
      let part = filtered inserts (λ other. is_not_after other (insert w)) replies in
      let all = all-inserts w among (ap (λ (s : Said). is_accepted_insert 0 (insert w).command s) is) in
      omega (arith, low, part, all, small)
