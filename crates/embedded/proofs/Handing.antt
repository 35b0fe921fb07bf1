-- What was handed over, of what each call told.
use Rattle.std.proofs.Common.{◌≡◌, ℕ, ℤ, ◌+◌, [], ◌∷◌, ◌++◌, Option, Some, fold, length, length-append, append_assoc, refl, sym, ap, subst, ◌∙◌, arith, true≢false}
use Rattle.std.specs.Prelude.{Result, Ok, Err, IsOk, IsSome, false, is_some}
use Rattle.std.specs.BTreeMap.{insert_entry}
use Rattle.std.proofs.lemmas.List.Elements.{All-nil}
use Rattle.block_spec.specs.Slots.{Row}
use Rattle.isolation_spec.specs.Contents.{History, State, WriteSet, at_place, key_of, laid_over, place_at, place_cmp, place_of, state_at}
use Rattle.isolation_spec.specs.Machine.{writes_place}
use Rattle.isolation_spec.specs.declared.place.Place.{Place}
use Rattle.run_spec.specs.Handed.{GoesOn}
use Rattle.store_laws.proofs.Machines.{commits_go_on}
use Rattle.store_laws.specs.Machines.{HasMore, rows_seen}
use Rattle.shared_store.specs.Open.{Adds, Begins, Commits, FindsRow, IsAtRest, IsOpen, Opens, commits_seen}
use Rattle.shared_store.specs.Store.{StoreView, seen, shape_in}
use Rattle.shared_store.specs.declared.session.Session.{Session}
use Rattle.embedded.specs.Commits.{IsUnwritten, commits_around}
use Rattle.embedded.specs.Handing.{HandsOver}
use Rattle.embedded.specs.declared.Handed.{Handed}
use Rattle.embedded.proofs.Rows.{behind, laid, row_behind}

more_again : (a b c : History) → HasMore a b → HasMore b c → HasMore a c
more_again a b c ab bc =
    (ab.0 ++ bc.0, bc.1 ∙ ap (λ (h : History). h ++ bc.0) ab.1 ∙ append_assoc a ab.0 bc.0)

module _ {E : Type 0} (store : StoreView) where
  -- a session with nothing open is not refused
  pub begins : (old new : Session) (told : Result ℕ E) → IsAtRest old → Begins store old new told → IsOk told
  begins old new (Ok number) rests begun = refl
  begins old new (Err busy) rests begun = absurd (true≢false (sym begun.busy ∙ ap is_some rests))

  pub opens : (old new : Session) (told : Result ℕ E) (number : ℕ) → told ≡ Ok number → Begins store old new told → Opens store old new number
  opens old new told number is = subst (Begins store old new) is

-- the write set of the row alone
abbrev pub alone : Place → Row → WriteSet
alone place row = (place, Some row) ∷ []

-- what an insert of the row leaves open, and what a get of its key finds
abbrev pub Inserts : StoreView → Session → Session → ℕ → Row → Type 0
Inserts store old new table row = (commits : History) (own : WriteSet) → IsOpen store old commits own
    → IsOpen store new commits (insert_entry place_cmp own (place_of table row) (Some row))

-- what a get tells is the row at the place
pub found_there : {E : Type 0} (store : StoreView) (old new : Session) (table : ℕ) (key : ℤ) (row : Row) (found : Option Row) → key_of row ≡ key
    → FindsRow {E = E} store old new table key (Ok found) → (commits : History) (own : WriteSet) → IsOpen store old commits own
    → IsOpen store new commits own × (found ≡ at_place (rows_seen commits own) (place_of table row))
found_there store old new table key row found is finds commits own open' =
    let f = finds commits own open' in
    (f.is_open, f.row ∙ ap (λ (k : ℤ). at_place (rows_seen commits own) (place_at table k)) (sym is))

module _ (store : StoreView) (place : Place) (row : Row) where
  -- where the transaction wrote the row, its commit has a number
  pub numbered : (old new : Session) (commits : History) (told : Option ℕ) → IsOpen store old commits (alone place row) → Commits store old new (Ok told) → IsSome told
  numbered old new commits told open' done = ap is_some ((done commits (alone place row) open').adds.1)

  -- the transaction reads the row
  pub own_read : (commits : History) (found : Option Row) → found ≡ at_place (rows_seen commits (alone place row)) place → found ≡ Some row
  own_read commits found is = is ∙ laid (state_at commits (length commits)) place row

  -- where no later commit is seen, the other reads the row
  pub only_commit : (one two reader : Session) (handed : Handed) → HandsOver store one two reader place row handed → handed.sees ≡ handed.committed → handed.other ≡ Some row
  only_commit one two reader handed over same = over.unwritten (none over.later (let many = over.sees in omega (arith, many, same)))
    where
      none : (later : History) → length later ≡ 0 → IsUnwritten place later
      none [] empty = All-nil (λ w. writes_place place w ≡ false)
      none (w ∷ ws) empty = absurd (omega (arith, empty))

  -- The other's transaction sees the row's commit, and reads what it and those behind it left.
  pub handed_over : (one a b old two c d : Session) (commits : History) (own other : Option Row) (committed sees : ℕ)
      → HasMore (commits_seen store one) (commits_seen store a) → own ≡ Some row
      → Adds store a b commits (alone place row) (Some committed)
      → HasMore (commits_seen store b) (commits_seen store two) → HasMore (commits_seen store old) (commits_seen store two) → Opens store two c sees
      → IsOpen store d (commits_seen store c) [] → other ≡ at_place (rows_seen (commits_seen store c) []) place
      → HandsOver store one old d place row (record { own = own; committed = committed; sees = sees; other = other })
  handed_over one a b old two c d commits own other committed sees on read adds met kept begun stays reads = record {
    before = adds.before;
    later = more.0;
    own = read;
    behind = more_again (commits_seen store one) (commits_seen store a) adds.before on adds.goes_on;
    committed = number;
    is_open = subst (λ (h : History). IsOpen store d h []) all stays;
    keeps = subst (HasMore (commits_seen store old)) all (more_again (commits_seen store old) (commits_seen store two) (commits_seen store c) kept begun.goes_on);
    sees = many;
    other = reads ∙ ap (λ n. at_place (state_at (commits_seen store c) n) place) (sym begun.counts)
        ∙ ap (λ (h : History). at_place (state_at h sees) place) all;
    unwritten = λ none. reads ∙ ap (λ (rows : State). at_place rows place) (behind (commits_seen store c))
        ∙ ap (λ (h : History). at_place (fold laid_over [] h) place) all ∙ row_behind adds.before more.0 place row none;
  }
    where
      more : HasMore (commits_seen store b) (commits_seen store c)
      more = more_again (commits_seen store b) (commits_seen store two) (commits_seen store c) met begun.goes_on

      all : commits_seen store c ≡ commits_around adds.before place row more.0
      all = more.1 ∙ ap (λ (h : History). h ++ more.0) adds.adds.0 ∙ append_assoc adds.before (alone place row ∷ []) more.0

      number : committed ≡ length adds.before + 1
      number =
          let told : Some committed ≡ Some (length (commits_seen store b)) = adds.adds.1 in
          let same : committed ≡ length (commits_seen store b) = cc in
          let long : length (commits_seen store b) ≡ length (adds.before ++ alone place row ∷ []) = ap (λ (h : History). length h) adds.adds.0 in
          let pushed = length-append adds.before (alone place row ∷ []) in
          omega (arith, same, long, pushed)

      many : sees ≡ committed + length more.0
      many =
          let long : length (commits_seen store c) ≡ length (commits_around adds.before place row more.0) = ap (λ (h : History). length h) all in
          let pushed = length-append adds.before (alone place row ∷ more.0) in
          let counts = begun.counts in
          omega (arith, number, long, pushed, counts)

-- All of it, of what each call told.
pub hands : {E : Type 0} (store : StoreView) (one a b c d old two e f : Session) (table : ℕ) (key : ℤ) (row : Row) (own other : Option Row) (first committed sees : ℕ)
    → key_of row ≡ key → Opens store one a first → Inserts store a b table row → FindsRow {E = E} store b c table key (Ok own)
    → Commits store c d (Ok (Some committed)) → HasMore (commits_seen store d) (commits_seen store two) → GoesOn (seen old) (seen two)
    → Opens store two e sees → FindsRow {E = E} store e f table key (Ok other)
    → HandsOver store one old f (place_of table row) row (record { own = own; committed = committed; sees = sees; other = other })
hands store one a b c d old two e f table key row own other first committed sees is begun inserts finds done met seen_on begun_too finds_too =
    let put = inserts (commits_seen store a) [] begun.is_open in
    let found = found_there store b c table key row own is finds (commits_seen store a) (alone (place_of table row) row) put in
    let other_found = found_there store e f table key row other is finds_too (commits_seen store e) [] begun_too.is_open in
    handed_over store (place_of table row) row one c d old two e f (commits_seen store a) own other committed sees
    (more_again (commits_seen store one) (commits_seen store a) (commits_seen store c) begun.goes_on found.0.has.sees)
    (own_read store (place_of table row) row (commits_seen store a) own found.1)
    (done (commits_seen store a) (alone (place_of table row) row) found.0)
    met (commits_go_on (shape_in store) (seen old) (seen two) seen_on) begun_too other_found.0 other_found.1
