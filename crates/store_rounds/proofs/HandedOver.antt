-- Sessions whose commits were taken: what they are still, and what they keep from then on.
use Rattle.std.proofs.Common.{◌≡◌, ℕ, zero, suc, ◌+◌, ◌<◌, List, [], ◌∷◌, ◌++◌, map, length, get_or, drop, Option, Some, option_map, refl, sym, ap, ◌∙◌, subst, arith}
use Rattle.run_spec.specs.Commits.{SessionWrites}
use Rattle.run_spec.specs.declared.commit.Commit.{Commit}
use Rattle.run_spec.specs.Occurrences.{Logged}
use Rattle.run_laws.specs.Rounds.Working.{StandsBehind}
use Rattle.shared_store.specs.Commits.{without_commits}
use Rattle.shared_store.specs.Store.{KeepsCommits, StoreView, events_made, handed_over, own_writes, reads_of, seen, shape_in}
use Rattle.shared_store.specs.declared.session.Session.{Session}
use Rattle.store_rounds.specs.Grouped.{HandedOver, MayHandOver, MayHaveHandedOver}
use Rattle.store_rounds.specs.Runs.{Standing}
use Rattle.store_rounds.specs.Sessions.{IsFreeSession}

-- ---- what they are still

-- A session of the store is one still, whatever it keeps of its commits.
kept_apart : (store : StoreView) (s : Session) (kept : Option SessionWrites) → IsFreeSession store s → IsFreeSession store (record s { kept = kept })
kept_apart store s kept free = record {
  stands = record {
    stands = free.stands.stands;
    own = free.stands.own;
    lawful = free.stands.lawful;
    named = free.stands.named;
    fits = free.stands.fits;
  };
  free = free.free;
}

-- So it is where its commits may have been taken.
session_stays : (store : StoreView) (old new : Session) → MayHandOver old new → IsFreeSession store old → IsFreeSession store new
session_stays store old new may free = subst (IsFreeSession store) (sym may.1) (kept_apart store old may.0 free)

-- A row of which commits may have been taken stands as it stood.
pub standing_stays : (store : StoreView) (finished : List Logged) (old new : List Session) → MayHaveHandedOver old new → Standing store finished old → Standing store finished new
standing_stays store finished old new may stands = record {
  sessions = λ k d within.
      let inside : k < length old = omega (arith, within, may.size) in
      session_stays store (get_or old k d) (get_or new k d) (may.each k d inside) (stands.sessions k d inside);
  numbers = λ k d within.
      let inside : k < length old = omega (arith, within, may.size) in
      ap (λ (s : Session). s.session) (may.each k d inside).1 ∙ stands.numbers k d inside;
  behind = λ k d within.
      let inside : k < length old = omega (arith, within, may.size) in
      subst (StandsBehind (shape_in store) finished (k + 1)) (sym (ap seen (may.each k d inside).1)) (stands.behind k d inside);
}

-- Each of it has read and made what it had.
pub reads_stay : (old new : List Session) → MayHaveHandedOver old new → (k : ℕ) (d : Session) → k < length old → reads_of (get_or new k d) ≡ reads_of (get_or old k d)
reads_stay old new may k d within = ap reads_of (may.each k d within).1

pub events_stay : (old new : List Session) → MayHaveHandedOver old new → (k : ℕ) (d : Session) → k < length old → events_made (get_or new k d) ≡ events_made (get_or old k d)
events_stay old new may k d within = ap events_made (may.each k d within).1

-- A row stays as it was where nothing was taken.
pub none_taken : (row : List Session) → MayHaveHandedOver row row
none_taken row = record { size = refl; each = λ k d within. ((get_or row k d).kept, refl) }

-- ---- rows from which commits were taken

-- Who handed its commits over may have.
pub handed : (s new : Session) → new ≡ handed_over s → MayHandOver s new
handed s new is = (option_map without_commits s.kept, is)

-- The commits of the first of a row may have been taken, and then those of the others.
pub taken_on : (one now : Session) (others later : List Session) → MayHandOver one now → MayHaveHandedOver others later → MayHaveHandedOver (one ∷ others) (now ∷ later)
taken_on one now others later first rest = record {
  size = ap suc rest.size;
  each = each;
}
  where
    each : (k : ℕ) (d : Session) → k < length (one ∷ others) → MayHandOver (get_or (one ∷ others) k d) (get_or (now ∷ later) k d)
    each zero d within = first
    each (suc k) d within = rest.each k d (omega (arith, within))

-- The first part of a row may have handed its commits over, and the other is as it was.
pub taken_in_front : (front now back : List Session) → MayHaveHandedOver front now → MayHaveHandedOver (front ++ back) (now ++ back)
taken_in_front [] [] back may = none_taken back
taken_in_front [] (n ∷ now) back may = let size = may.size in absurd (omega (arith, size))
taken_in_front (o ∷ front) [] back may = let size = may.size in absurd (omega (arith, size))
taken_in_front (o ∷ front) (n ∷ now) back may =
    taken_on o n (front ++ back) (now ++ back) (may.each 0 o (omega arith))
    (taken_in_front front now back (record {
      size = let size = may.size in omega (arith, size);
      each = λ k d within. may.each (suc k) d (omega (arith, within));
    }))

-- At each place of a row from which all was taken stands who handed over.
pub all_taken : (row : List Session) → MayHaveHandedOver row (map handed_over row)
all_taken [] = none_taken []
all_taken (s ∷ row) = taken_on s (handed_over s) row (map handed_over row) (option_map without_commits s.kept, refl) (all_taken row)

-- So it is in the first part of a row.
pub front_taken : (n : ℕ) (front back : List Session) → n ≡ length front → HandedOver n (front ++ back) (map handed_over front ++ back)
front_taken n front back size = record { each = λ k d within. at' front k d (omega (arith, within, size)) }
  where
    at' : (front : List Session) (k : ℕ) (d : Session) → k < length front → get_or (map handed_over front ++ back) k d ≡ handed_over (get_or (front ++ back) k d)
    at' [] k d within = absurd (omega (arith, within))
    at' (s ∷ front) zero d within = refl
    at' (s ∷ front) (suc k) d within = at' front k d (omega (arith, within))

-- ---- what they keep from then on

-- All of a list but as many as it has are none.
none_behind : (xs : List Commit) → drop (length xs) xs ≡ []
none_behind [] = refl
none_behind (x ∷ xs) = none_behind xs

-- A session that handed its commits over keeps those that it will make.
pub keeps_next : (store : StoreView) (taken : ℕ) (s : Session) → KeepsCommits store taken s
    → KeepsCommits store (length (own_writes store s).commits) (handed_over s)
keeps_next store taken s keeps =
    let writes : SessionWrites = own_writes store s in
    record {
      within = omega arith;
      kept = ap (option_map without_commits) keeps.kept
          ∙ ap (λ (commits : List Commit). Some (record writes { commits = commits })) (sym (none_behind writes.commits));
    }
