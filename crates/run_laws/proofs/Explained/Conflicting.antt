-- What a call tells may stand where it is due: the kinds of lines of a command, and their widths.
use Rattle.std.proofs.Common.{◌≡◌, ◌⊎◌, ℕ, zero, suc, ◌+◌, ◌-◌, ◌<◌, ◌≤◌, ℤ, Bool, true, false, cond, ◌&&◌, ◌==◌, List, [], ◌∷◌, length, find, get_or, Option, None, Some, option_map, is_some, is_none, unwrap_or, refl, sym, ap, ◌∙◌, subst, arith}
use mathlib.Core.Logic.{inl, inr}
use Rattle.std.specs.List.{last_or, range_with_len}
use Rattle.std.specs.Option.{option_or}
use Rattle.std.proofs.lemmas.Bool.Decides.{nat_tests}
use Rattle.std.proofs.lemmas.Option.{same_Some}
use Rattle.core_laws.proofs.Events.Lists.{member_below}
use Rattle.core_laws.proofs.Events.Apart.{kept_among}
use Rattle.core_laws.specs.Events.Named.{FollowsMachine}
use Rattle.event_spec.specs.Lawful.{Among}
use Rattle.event_spec.specs.Parts.{Parts, desk_at}
use Rattle.core_laws.specs.Following.Laws.{command_of}
use Rattle.isolation_spec.specs.Contents.{place_at, place_of}
use Rattle.isolation_spec.specs.declared.place.Place.{Place}
use Rattle.isolation_spec.specs.Machine.{IsolationMachine, Transaction, conflict_of, later_writers, rival_of, step, step_of, transaction_of, write, writes_place, write_set_at}
use Rattle.isolation_spec.specs.declared.command.Act.{Act}
use Rattle.isolation_spec.specs.declared.command.Act.TheVariants as act
use Rattle.isolation_spec.specs.declared.command.Answer.{Answer}
use Rattle.isolation_spec.specs.declared.command.Answer.TheVariants as answer
use Rattle.txn_desk.specs.declared.Snapshot.{Snapshot}
use Rattle.txn_desk.specs.Oldest.{snapshot_of}
use Rattle.workload_spec.specs.declared.script.Script.{Script}
use Rattle.run_spec.specs.Ran.{shape_of}

-- ---- conflicts of the machine

-- Where one that is found passes another test, that test finds one too.
found_too : (p q : Transaction → Bool) (xs : List Transaction) (t : Transaction) → find p xs ≡ Some t → q t ≡ true → is_some (find q xs) ≡ true
found_too p q [] t e is = absurd (let never : ⊥ = cc e in never)
found_too p q (x ∷ xs) t e is = go (p x) refl e (found_too p q xs t)
  where
    hit : (b : Bool) → is_some (find q xs) ≡ true → is_some (cond b (Some x) (find q xs)) ≡ true
    hit true f = refl
    hit false f = f

    go : (b : Bool) → p x ≡ b → cond (p x) (Some x) (find p xs) ≡ Some t → (find p xs ≡ Some t → q t ≡ true → is_some (find q xs) ≡ true) → is_some (cond (q x) (Some x) (find q xs)) ≡ true
    go true f e rest =
        let same : x ≡ t = same_Some x t (ap (λ b. cond b (Some x) (find p xs)) (sym f) ∙ e) in
        ap (λ b. is_some (cond b (Some x) (find q xs))) (ap q same ∙ is)
    go false f e rest = hit (q x) (rest (ap (λ b. cond b (Some x) (find p xs)) (sym f) ∙ e) is)

-- a refusal that names a session names a rival's
names_session : (rival : Option Transaction) (last : Option ℕ) (b : Bool) (other : Answer) (r : ℕ) → (other ≡ answer.ConflictSession r → ⊥)
    → unwrap_or (option_or (option_or (option_map (λ (t : Transaction). answer.ConflictSession t.session) rival) (option_map answer.ConflictCommit last)) (cond b (Some other) None)) answer.Accepted ≡ answer.ConflictSession r
    → (t : Transaction) × (rival ≡ Some t) × (t.session ≡ r)
names_session (Some t) last b other r other_way e = (t, refl, cc)
names_session None (Some n) b other r other_way e = absurd (let never : ⊥ = cc e in never)
names_session None None true other r other_way e = absurd (other_way e)
names_session None None false other r other_way e = absurd (let never : ⊥ = cc e in never)

-- A refusal that names a commit names the last that there is.
names_commit : (rival : Option Transaction) (last : Option ℕ) (b : Bool) (other : Answer) (n : ℕ) → (other ≡ answer.ConflictCommit n → ⊥)
    → unwrap_or (option_or (option_or (option_map (λ (t : Transaction). answer.ConflictSession t.session) rival) (option_map answer.ConflictCommit last)) (cond b (Some other) None)) answer.Accepted ≡ answer.ConflictCommit n
    → last ≡ Some n
names_commit (Some t) last b other n other_way e = absurd (let never : ⊥ = cc e in never)
names_commit None (Some k) b other n other_way e = cc
names_commit None None true other n other_way e = absurd (other_way e)
names_commit None None false other n other_way e = absurd (let never : ⊥ = cc e in never)

-- A number is tested to be itself.
num_refl : (a : ℕ) → (a == a) ≡ true
num_refl a = grind (arith, nat_tests)

-- the last of some numbers is among them, or is what stands without any
pub last_is : (o : Option ℕ) (xs : List ℕ) (n : ℕ) → last_or o xs ≡ Some n → Among n xs ⊎ (o ≡ Some n)
last_is o [] n e = inr e
last_is o (x ∷ xs) n e = go (last_is (Some x) xs n e)
  where
    go : Among n xs ⊎ (Some x ≡ Some n) → Among n (x ∷ xs) ⊎ (o ≡ Some n)
    go (inl a) = inl (inr a)
    go (inr e) = inl (inl (sym (same_Some x n e)))

module _ (script : Script) (parts : Parts) (at : IsolationMachine) (follows : FollowsMachine (shape_of script) parts at)
    (passes : length (desk_at (shape_of script) parts).open_snapshots ≡ script.sessions + script.workers) where
  -- an open transaction is of one of the script's
  open_small : (r : ℕ) → is_some (transaction_of r at) ≡ true → r ≤ script.sessions + script.workers
  open_small zero is = omega arith
  open_small (suc n) is = go (snapshot_of (desk_at (shape_of script) parts) (suc n)) refl
    where
      none_true : is_some (transaction_of (suc n) at) ≡ true → transaction_of (suc n) at ≡ None → ⊥
      none_true a b = let never : false ≡ true = sym (ap is_some b) ∙ a in let no : ⊥ = cc in no

      past : (xs : List (Option Snapshot)) (i : ℕ) (x : Snapshot) → get_or xs i None ≡ Some x → i < length xs
      past [] i x e = absurd (let never : ⊥ = cc e in never)
      past (y ∷ xs) zero x e = omega arith
      past (y ∷ xs) (suc i) x e = let h = past xs i x e in omega (arith, h)

      go : (o : Option Snapshot) → snapshot_of (desk_at (shape_of script) parts) (suc n) ≡ o → suc n ≤ script.sessions + script.workers
      go None e = absurd (none_true is (follows.follows.desked.idle (suc n) (omega arith) e))
      go (Some x) e = let h = past (desk_at (shape_of script) parts).open_snapshots (suc n - 1) x e in omega (arith, h, passes)

  -- The session that a conflict names is no higher than the script's sessions and workers.
  session_small : (t : Transaction) (place : Place) (b : Bool) (other : Answer) (r : ℕ) → (other ≡ answer.ConflictSession r → ⊥)
      → unwrap_or (option_or (conflict_of at t place) (cond b (Some other) None)) answer.Accepted ≡ answer.ConflictSession r → r ≤ script.sessions + script.workers
  session_small t place b other r other_way e =
      let named = names_session (rival_of at t.session place) (last_or None (later_writers at.history t.snapshot place)) b other r other_way e in
      open_small r (subst (λ q. is_some (transaction_of q at) ≡ true) named.2
      (found_too (λ u. Rattle.std.specs.Prelude.not (u.session == t.session) && writes_place place u.own) (λ u. u.session == named.0.session) at.open_transactions named.0 named.1 (num_refl named.0.session)))

  -- The commit that a conflict names is no higher than the count of commits.
  commit_small : (t : Transaction) (place : Place) (b : Bool) (other : Answer) (n : ℕ) → (other ≡ answer.ConflictCommit n → ⊥)
      → unwrap_or (option_or (conflict_of at t place) (cond b (Some other) None)) answer.Accepted ≡ answer.ConflictCommit n → n ≤ (desk_at (shape_of script) parts).commits
  commit_small t place b other n other_way e =
      let last = names_commit (rival_of at t.session place) (last_or None (later_writers at.history t.snapshot place)) b other n other_way e in
      let counted = follows.follows.desked.counted in
      go (last_is None (later_writers at.history t.snapshot place) n last) counted
    where
      go : Among n (later_writers at.history t.snapshot place) ⊎ (None ≡ Some n) → length at.history ≡ (desk_at (shape_of script) parts).commits → n ≤ (desk_at (shape_of script) parts).commits
      go (inr e) c = absurd (let never : ⊥ = cc e in never)
      go (inl a) c =
          let kept = kept_among (λ number. Rattle.std.proofs.Common.nat_lt t.snapshot number && writes_place place (write_set_at at.history number)) (range_with_len 1 (length at.history)) n a in
          let less = member_below 1 (length at.history) n kept.0 in omega (arith, less, c)

  -- what a write's conflict names
  abbrev pub Small : ℕ → Act → Type 0
  Small q what =
      ((r : ℕ) (next : IsolationMachine) → step at (command_of q what) ≡ (answer.ConflictSession r, next) → r ≤ script.sessions + script.workers)
      × ((n : ℕ) (next : IsolationMachine) → step at (command_of q what) ≡ (answer.ConflictCommit n, next) → n ≤ (desk_at (shape_of script) parts).commits)

  -- The answer of a step that is known is the answer that is known.
  first : (a : Answer × IsolationMachine) (b : Answer) (m : IsolationMachine) → a ≡ (b, m) → a.0 ≡ b
  first a b m e = ap (λ (p : Answer × IsolationMachine). p.0) e

  -- an insert's conflict names one of the script's, or a commit that there was
  pub insert_small : (q table : ℕ) (row : Rattle.block_spec.specs.Slots.Row) → Small q (act.Insert table row)
  insert_small q table row = (
    λ r next e. one (transaction_of q at) r (first (step_of at (command_of q (act.Insert table row)) (transaction_of q at)) (answer.ConflictSession r) next e),
    λ n next e. two (transaction_of q at) n (first (step_of at (command_of q (act.Insert table row)) (transaction_of q at)) (answer.ConflictCommit n) next e),
  )
    where
      one : (o : Option Transaction) (r : ℕ) → (step_of at (command_of q (act.Insert table row)) o).0 ≡ answer.ConflictSession r → r ≤ script.sessions + script.workers
      one None r e = absurd (let never : ⊥ = cc e in never)
      one (Some t) r e = session_small t (place_of table row) (is_some (Rattle.isolation_spec.specs.Contents.at_place (Rattle.isolation_spec.specs.Machine.seen_rows at t) (place_of table row))) answer.Exists r (λ x. let never : ⊥ = cc x in never) e

      two : (o : Option Transaction) (n : ℕ) → (step_of at (command_of q (act.Insert table row)) o).0 ≡ answer.ConflictCommit n → n ≤ (desk_at (shape_of script) parts).commits
      two None n e = absurd (let never : ⊥ = cc e in never)
      two (Some t) n e = commit_small t (place_of table row) (is_some (Rattle.isolation_spec.specs.Contents.at_place (Rattle.isolation_spec.specs.Machine.seen_rows at t) (place_of table row))) answer.Exists n (λ x. let never : ⊥ = cc x in never) e

  -- and so does an update's
  pub update_small : (q table : ℕ) (row : Rattle.block_spec.specs.Slots.Row) → Small q (act.Update table row)
  update_small q table row = (
    λ r next e. one (transaction_of q at) r (first (step_of at (command_of q (act.Update table row)) (transaction_of q at)) (answer.ConflictSession r) next e),
    λ n next e. two (transaction_of q at) n (first (step_of at (command_of q (act.Update table row)) (transaction_of q at)) (answer.ConflictCommit n) next e),
  )
    where
      one : (o : Option Transaction) (r : ℕ) → (step_of at (command_of q (act.Update table row)) o).0 ≡ answer.ConflictSession r → r ≤ script.sessions + script.workers
      one None r e = absurd (let never : ⊥ = cc e in never)
      one (Some t) r e = session_small t (place_of table row) (is_none (Rattle.isolation_spec.specs.Contents.at_place (Rattle.isolation_spec.specs.Machine.seen_rows at t) (place_of table row))) answer.Missing r (λ x. let never : ⊥ = cc x in never) e

      two : (o : Option Transaction) (n : ℕ) → (step_of at (command_of q (act.Update table row)) o).0 ≡ answer.ConflictCommit n → n ≤ (desk_at (shape_of script) parts).commits
      two None n e = absurd (let never : ⊥ = cc e in never)
      two (Some t) n e = commit_small t (place_of table row) (is_none (Rattle.isolation_spec.specs.Contents.at_place (Rattle.isolation_spec.specs.Machine.seen_rows at t) (place_of table row))) answer.Missing n (λ x. let never : ⊥ = cc x in never) e

  -- and a delete's
  pub delete_small : (q table : ℕ) (key : ℤ) → Small q (act.Delete table key)
  delete_small q table key = (
    λ r next e. one (transaction_of q at) r (first (step_of at (command_of q (act.Delete table key)) (transaction_of q at)) (answer.ConflictSession r) next e),
    λ n next e. two (transaction_of q at) n (first (step_of at (command_of q (act.Delete table key)) (transaction_of q at)) (answer.ConflictCommit n) next e),
  )
    where
      one : (o : Option Transaction) (r : ℕ) → (step_of at (command_of q (act.Delete table key)) o).0 ≡ answer.ConflictSession r → r ≤ script.sessions + script.workers
      one None r e = absurd (let never : ⊥ = cc e in never)
      one (Some t) r e = session_small t (place_at table key) (is_none (Rattle.isolation_spec.specs.Contents.at_place (Rattle.isolation_spec.specs.Machine.seen_rows at t) (place_at table key))) answer.Missing r (λ x. let never : ⊥ = cc x in never) e

      two : (o : Option Transaction) (n : ℕ) → (step_of at (command_of q (act.Delete table key)) o).0 ≡ answer.ConflictCommit n → n ≤ (desk_at (shape_of script) parts).commits
      two None n e = absurd (let never : ⊥ = cc e in never)
      two (Some t) n e = commit_small t (place_at table key) (is_none (Rattle.isolation_spec.specs.Contents.at_place (Rattle.isolation_spec.specs.Machine.seen_rows at t) (place_at table key))) answer.Missing n (λ x. let never : ⊥ = cc x in never) e
