-- What each of a run's sessions and workers keeps of its reads, round behind round.
use Rattle.std.proofs.Common.{◌≡◌, ◌⊎◌, ℕ, zero, suc, ◌+◌, ◌-◌, ◌<◌, ◌≤◌, ◌==◌, nat_lt, Bool, true, false, cond, List, [], ◌∷◌, ◌++◌, map, length, get_or, None, refl, sym, ap, subst, ◌∙◌, append-nil, arith, true≢false}
use mathlib.Core.Logic.{inl, inr}
use Rattle.std.specs.Prelude.{filter}
use Rattle.std.specs.List.{flat_map, range_with_len}
use Rattle.std.proofs.lemmas.Bool.Decides.{nat_tests}
use Rattle.std.proofs.lemmas.Grind.{flat_map-append}
use Rattle.outcome_spec.specs.Entries.{is_same}
use Rattle.run_spec.specs.Calls.{Call, Kept}
use Rattle.run_spec.specs.Ran.{RoundRun, Share, calls_of}
use Rattle.shared_store.specs.Store.{StoreView, reads_of}
use Rattle.shared_store.specs.declared.session.Session.{Session}
use Rattle.workload_spec.specs.declared.reply.Who.{Who}
use Rattle.workload_spec.specs.declared.reply.Who.TheVariants.{Session as TheSession, Worker as TheWorker}
use Rattle.workload_spec.specs.declared.script.Script.{Script}
use Rattle.store_rounds.specs.Crews.{crew_of, crew_shares, shares_of}
use Rattle.store_rounds.specs.Rounds.{RowRan}
use Rattle.store_rounds.specs.Worked.{KeptAlong, share_of}
use Rattle.store_rounds.proofs.Keeps.{along_as, along_keeps, along_on}

-- ---- one's calls among those of a round

-- one's calls in some shares
abbrev calls_by : Who → List Share → List Call
calls_by who shares = flat_map (λ share. share.calls) (filter (λ share. is_same share.who who) shares)

-- those in shares behind others
filter_on : (who : Who) (xs ys : List Share) → filter (λ share. is_same share.who who) (xs ++ ys) ≡ filter (λ share. is_same share.who who) xs ++ filter (λ share. is_same share.who who) ys
filter_on who [] ys = refl
filter_on who (x ∷ xs) ys = go (is_same x.who who) (filter_on who xs ys)
  where
    go : (b : Bool) → filter (λ share. is_same share.who who) (xs ++ ys) ≡ filter (λ share. is_same share.who who) xs ++ filter (λ share. is_same share.who who) ys
        → cond b (x ∷ filter (λ share. is_same share.who who) (xs ++ ys)) (filter (λ share. is_same share.who who) (xs ++ ys))
        ≡ cond b (x ∷ filter (λ share. is_same share.who who) xs) (filter (λ share. is_same share.who who) xs) ++ filter (λ share. is_same share.who who) ys
    go true rest = ap (λ (shares : List Share). x ∷ shares) rest
    go false rest = rest

by_on : (who : Who) (xs ys : List Share) → calls_by who (xs ++ ys) ≡ calls_by who xs ++ calls_by who ys
by_on who xs ys =
    ap (flat_map (λ (share : Share). share.calls)) (filter_on who xs ys)
    ∙ flat_map-append (λ (share : Share). share.calls) (filter (λ share. is_same share.who who) xs) (filter (λ share. is_same share.who who) ys)

-- those of one more round
rounds_on : (who : Who) (rounds : List RoundRun) (round : RoundRun) → calls_of who (rounds ++ round ∷ []) ≡ calls_of who rounds ++ calls_by who round.shares
rounds_on who rounds round =
    ap (calls_by who) (flat_map-append (λ (r : RoundRun). r.shares) rounds (round ∷ []) ∙ ap (λ (shares : List Share). flat_map (λ (r : RoundRun). r.shares) rounds ++ shares) (append-nil round.shares))
    ∙ by_on who (flat_map (λ (r : RoundRun). r.shares) rounds) round.shares

-- shares that are numbered, of which one is asked for by its number
module _ (who : ℕ → Who) (asked : Who) (calls : ℕ → List Call) where
  -- the shares of so many from a number on
  abbrev numbered : ℕ → ℕ → List Share
  numbered a n = map (λ n. share_of (who n) (calls n)) (range_with_len a n)

  -- none is this one
  none_by : ((n : ℕ) → is_same (who n) asked ≡ false) → (a n : ℕ) → calls_by asked (numbered a n) ≡ []
  none_by other a zero = refl
  none_by other a (suc n) = go (is_same (who a) asked) (other a) (none_by other (a + 1) n)
    where
      go : (b : Bool) → b ≡ false → calls_by asked (numbered (a + 1) n) ≡ []
          → flat_map (λ share. share.calls) (cond b (share_of (who a) (calls a) ∷ filter (λ share. is_same share.who asked) (numbered (a + 1) n)) (filter (λ share. is_same share.who asked) (numbered (a + 1) n))) ≡ []
      go true is rest = absurd (true≢false is)
      go false is rest = rest

  module _ (m : ℕ) (same : (n : ℕ) → is_same (who n) asked ≡ (n == m)) where
    head : (a n : ℕ) (b : Bool) → (a == m) ≡ b
        → calls_by asked (numbered a (suc n)) ≡ cond b (calls a ++ calls_by asked (numbered (a + 1) n)) (calls_by asked (numbered (a + 1) n))
    head a n b is = go b (is_same (who a) asked) (same a ∙ is)
      where
        go : (b c : Bool) → c ≡ b
            → flat_map (λ share. share.calls) (cond c (share_of (who a) (calls a) ∷ filter (λ share. is_same share.who asked) (numbered (a + 1) n)) (filter (λ share. is_same share.who asked) (numbered (a + 1) n)))
            ≡ cond b (calls a ++ calls_by asked (numbered (a + 1) n)) (calls_by asked (numbered (a + 1) n))
        go true true e = refl
        go false false e = refl
        go true false e = absurd (true≢false (sym e))
        go false true e = absurd (true≢false e)

    -- it is not among them
    out_by : (a n : ℕ) → (m < a) ⊎ (a + n ≤ m) → calls_by asked (numbered a n) ≡ []
    out_by a zero out = refl
    out_by a (suc n) out = head a n false (other out) ∙ out_by (a + 1) n (further out)
      where
        other : (m < a) ⊎ (a + suc n ≤ m) → (a == m) ≡ false
        other (inl low) = grind (arith, nat_tests, low)
        other (inr high) = grind (arith, nat_tests, high)

        further : (m < a) ⊎ (a + suc n ≤ m) → (m < a + 1) ⊎ ((a + 1) + n ≤ m)
        further (inl low) = inl (omega (arith, low))
        further (inr high) = inr (omega (arith, high))

    -- it is among them
    in_by : (a n : ℕ) → a ≤ m → m < a + n → calls_by asked (numbered a n) ≡ calls m
    in_by a zero low high = absurd (omega (arith, low, high))
    in_by a (suc n) low high = go (a == m) refl (λ apart. in_by (a + 1) n (omega (arith, apart)) (omega (arith, high)))
      where
        go : (b : Bool) → (a == m) ≡ b → (a < m → calls_by asked (numbered (a + 1) n) ≡ calls m) → calls_by asked (numbered a (suc n)) ≡ calls m
        go true is further =
            let here : a ≡ m = grind (arith, nat_tests, is) in
            head a n true is ∙ ap (λ (cs : List Call). calls a ++ cs) (out_by (a + 1) n (inl (omega (arith, here)))) ∙ append-nil (calls a) ∙ ap calls here
        go false is further =
            let apart : a < m = grind (arith, nat_tests, is, low) in
            head a n false is ∙ further apart

-- ---- a crew's

module _ (script : Script) (calls : Who → List Call) where
  abbrev sessions : List Share
  sessions = shares_of TheSession script.sessions (λ n. calls (TheSession n))

  abbrev workers : List Share
  workers = shares_of TheWorker script.workers (λ n. calls (TheWorker n))

  -- the calls of a session that is one of them, and of one that is not
  pub session_by : (k : ℕ) → k < script.sessions → calls_by (TheSession (k + 1)) (crew_shares (crew_of script) calls) ≡ calls (TheSession (k + 1))
  session_by k within =
      by_on (TheSession (k + 1)) sessions workers
      ∙ ap (λ (cs : List Call). cs ++ calls_by (TheSession (k + 1)) workers)
      (in_by (λ n. TheSession n) (TheSession (k + 1)) (λ n. calls (TheSession n)) (k + 1) (λ n. refl) 1 script.sessions (omega arith) (omega (arith, within)))
      ∙ ap (λ (cs : List Call). calls (TheSession (k + 1)) ++ cs) (none_by (λ n. TheWorker n) (TheSession (k + 1)) (λ n. calls (TheWorker n)) (λ n. refl) 1 script.workers)
      ∙ append-nil (calls (TheSession (k + 1)))

  pub no_session_by : (m : ℕ) → (m < 1) ⊎ (1 + script.sessions ≤ m) → calls_by (TheSession m) (crew_shares (crew_of script) calls) ≡ []
  no_session_by m out =
      by_on (TheSession m) sessions workers
      ∙ ap (λ (cs : List Call). cs ++ calls_by (TheSession m) workers) (out_by (λ n. TheSession n) (TheSession m) (λ n. calls (TheSession n)) m (λ n. refl) 1 script.sessions out)
      ∙ none_by (λ n. TheWorker n) (TheSession m) (λ n. calls (TheWorker n)) (λ n. refl) 1 script.workers

  -- so of a worker
  pub worker_by : (k : ℕ) → k < script.workers → calls_by (TheWorker (k + 1)) (crew_shares (crew_of script) calls) ≡ calls (TheWorker (k + 1))
  worker_by k within =
      by_on (TheWorker (k + 1)) sessions workers
      ∙ ap (λ (cs : List Call). cs ++ calls_by (TheWorker (k + 1)) workers) (none_by (λ n. TheSession n) (TheWorker (k + 1)) (λ n. calls (TheSession n)) (λ n. refl) 1 script.sessions)
      ∙ in_by (λ n. TheWorker n) (TheWorker (k + 1)) (λ n. calls (TheWorker n)) (k + 1) (λ n. refl) 1 script.workers (omega arith) (omega (arith, within))

  pub no_worker_by : (m : ℕ) → (m < 1) ⊎ (1 + script.workers ≤ m) → calls_by (TheWorker m) (crew_shares (crew_of script) calls) ≡ []
  no_worker_by m out =
      by_on (TheWorker m) sessions workers
      ∙ ap (λ (cs : List Call). cs ++ calls_by (TheWorker m) workers) (none_by (λ n. TheSession n) (TheWorker m) (λ n. calls (TheSession n)) (λ n. refl) 1 script.sessions)
      ∙ out_by (λ n. TheWorker n) (TheWorker m) (λ n. calls (TheWorker n)) m (λ n. refl) 1 script.workers out

-- ---- a run's

-- What each of a row has read is what its calls of the rounds so far keep. Nobody else called.
pub record KeptBy (script : Script) (row : List Session) (rounds : List RoundRun) : Type 0 where
  pub sessions : (k : ℕ) (d : Session) → k < script.sessions → KeptAlong None (calls_of (TheSession (k + 1)) rounds) (reads_of (get_or row k d))
  pub workers : (k : ℕ) (d : Session) → k < script.workers → KeptAlong None (calls_of (TheWorker (k + 1)) rounds) (reads_of (get_or row (script.sessions + k) d))
  pub no_session : (m : ℕ) → (m < 1) ⊎ (1 + script.sessions ≤ m) → calls_of (TheSession m) rounds ≡ []
  pub no_worker : (m : ℕ) → (m < 1) ⊎ (1 + script.workers ≤ m) → calls_of (TheWorker m) rounds ≡ []

-- before the first round
pub kept_begins : (script : Script) (row : List Session) → length row ≡ script.sessions + script.workers
    → ((k : ℕ) (d : Session) → k < length row → reads_of (get_or row k d) ≡ None) → KeptBy script row []
kept_begins script row size none = record {
  sessions = λ k d within. none k d (omega (arith, size, within));
  workers = λ k d within. none (script.sessions + k) d (omega (arith, size, within));
  no_session = λ m out. refl;
  no_worker = λ m out. refl;
}

-- one round more
pub kept_further : (script : Script) (store : StoreView) (old new : List Session) (calls : Who → List Call) (rounds : List RoundRun) (round : RoundRun)
    → RowRan store (crew_of script) old new calls → round.shares ≡ crew_shares (crew_of script) calls → KeptBy script old rounds → KeptBy script new (rounds ++ round ∷ [])
kept_further script store old new calls rounds round ran shares kept = record {
  sessions = λ k d within.
      let did = ran.sessions k d within in
      let more = subst (λ (cs : List Call). KeptAlong (reads_of (get_or old k d)) cs (reads_of (get_or new k d)))
      (sym (ap (calls_by (TheSession (k + 1))) shares ∙ session_by script calls k within))
      (along_as (reads_of (get_or old k d)) (calls (TheSession (k + 1))) (reads_of did.ended) (reads_of (get_or new k d)) did.met_in.looks_on.kept did.worked.kept) in
      subst (λ (cs : List Call). KeptAlong None cs (reads_of (get_or new k d))) (sym (rounds_on (TheSession (k + 1)) rounds round))
      (along_on None (calls_of (TheSession (k + 1)) rounds) (reads_of (get_or old k d)) (calls_by (TheSession (k + 1)) round.shares) (reads_of (get_or new k d)) (kept.sessions k d within) more);
  workers = λ k d within.
      let did = ran.workers k d within in
      let was = reads_of (get_or old (script.sessions + k) d) in
      let now = reads_of (get_or new (script.sessions + k) d) in
      let more = subst (λ (cs : List Call). KeptAlong was cs now)
      (sym (ap (calls_by (TheWorker (k + 1))) shares ∙ worker_by script calls k within))
      (along_as was (calls (TheWorker (k + 1))) (reads_of did.ended) now did.met_in.looks_on.kept did.worked.kept) in
      subst (λ (cs : List Call). KeptAlong None cs now) (sym (rounds_on (TheWorker (k + 1)) rounds round))
      (along_on None (calls_of (TheWorker (k + 1)) rounds) was (calls_by (TheWorker (k + 1)) round.shares) now (kept.workers k d within) more);
  no_session = λ m out.
      rounds_on (TheSession m) rounds round
      ∙ ap (λ (cs : List Call). cs ++ calls_by (TheSession m) round.shares) (kept.no_session m out)
      ∙ ap (calls_by (TheSession m)) shares ∙ no_session_by script calls m out;
  no_worker = λ m out.
      rounds_on (TheWorker m) rounds round
      ∙ ap (λ (cs : List Call). cs ++ calls_by (TheWorker m) round.shares) (kept.no_worker m out)
      ∙ ap (calls_by (TheWorker m)) shares ∙ no_worker_by script calls m out;
}

-- the calls of each keep what it read
pub kept_by : (script : Script) (row : List Session) (rounds : List RoundRun) (d : Session) → KeptBy script row rounds → (who : Who) → Kept None (calls_of who rounds)
kept_by script row rounds d kept (TheSession m) = go (nat_lt m 1) refl (nat_lt m (1 + script.sessions)) refl
  where
    go : (low : Bool) → nat_lt m 1 ≡ low → (high : Bool) → nat_lt m (1 + script.sessions) ≡ high → Kept None (calls_of (TheSession m) rounds)
    go true low high h = subst (Kept None) (sym (kept.no_session m (inl (grind (arith, nat_tests, low))))) tt
    go false low false h = subst (Kept None) (sym (kept.no_session m (inr (grind (arith, nat_tests, h))))) tt
    go false low true h =
        let some : 1 ≤ m = grind (arith, nat_tests, low) in
        let within : m < 1 + script.sessions = grind (arith, nat_tests, h) in
        subst (λ n. Kept None (calls_of (TheSession n) rounds)) (let e : (m - 1) + 1 ≡ m = omega (arith, some) in e)
        (along_keeps None (calls_of (TheSession (m - 1 + 1)) rounds) (reads_of (get_or row (m - 1) d)) (kept.sessions (m - 1) d (omega (arith, some, within))))
kept_by script row rounds d kept (TheWorker m) = go (nat_lt m 1) refl (nat_lt m (1 + script.workers)) refl
  where
    go : (low : Bool) → nat_lt m 1 ≡ low → (high : Bool) → nat_lt m (1 + script.workers) ≡ high → Kept None (calls_of (TheWorker m) rounds)
    go true low high h = subst (Kept None) (sym (kept.no_worker m (inl (grind (arith, nat_tests, low))))) tt
    go false low false h = subst (Kept None) (sym (kept.no_worker m (inr (grind (arith, nat_tests, h))))) tt
    go false low true h =
        let some : 1 ≤ m = grind (arith, nat_tests, low) in
        let within : m < 1 + script.workers = grind (arith, nat_tests, h) in
        subst (λ n. Kept None (calls_of (TheWorker n) rounds)) (let e : (m - 1) + 1 ≡ m = omega (arith, some) in e)
        (along_keeps None (calls_of (TheWorker (m - 1 + 1)) rounds) (reads_of (get_or row (script.sessions + (m - 1)) d)) (kept.workers (m - 1) d (omega (arith, some, within))))
