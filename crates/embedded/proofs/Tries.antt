-- What came of a row that was inserted where a watched place had none, of what each call told.
use Rattle.std.proofs.Common.{◌≡◌, ◌↔◌, ℕ, ℤ, ◌+◌, Bool, true, false, cond, ◌||◌, List, [], ◌∷◌, ◌++◌, Option, None, Some, All, drop, fold, length, length-append, append-nil, refl, sym, ap, subst, ◌∙◌, arith, true≢false}
use Rattle.std.specs.Prelude.{IfOk, IsErr, IsSome, Result, Ok, Err, is_some, option_map}
use Rattle.std.specs.List.{last_or, list_any}
use Rattle.std.specs.Option.{option_or}
use Rattle.std.proofs.lemmas.List.Elements.{All-cons, All-nil}
use Rattle.std.proofs.lemmas.List.Sums.{fold-append}
use Rattle.block_spec.specs.Slots.{Row}
use Rattle.isolation_laws.proofs.Later.{last-commit, last_passing}
use Rattle.isolation_spec.specs.Contents.{History, WriteSet, at_place, laid_over, place_at, place_of, state_at}
use Rattle.isolation_spec.specs.Machine.{later_commits, writes_place}
use Rattle.isolation_spec.specs.Reads.{ReadSet, no_reads, with_read}
use Rattle.isolation_spec.specs.declared.place.Place.{Place}
use Rattle.isolation_spec.specs.declared.read.Read.{Read}
use Rattle.isolation_spec.specs.declared.read.Read.TheVariants as read
use Rattle.run_spec.specs.Calls.{reads_behind}
use Rattle.event_spec.specs.declared.reply.WriteFault.{WriteFault}
use Rattle.event_spec.specs.declared.reply.WriteFault.TheVariants as write_fault
use Rattle.run_spec.specs.Told.{fault_told, row_told}
use Rattle.run_spec.specs.Traces.{log_in}
use Rattle.store_laws.proofs.Machines.{commits_go_on}
use Rattle.store_laws.proofs.Stepping.{more_again}
use Rattle.store_laws.specs.Machines.{HasMore, stale_since}
use Rattle.workload_spec.specs.declared.command.Command.{Command}
use Rattle.workload_spec.specs.declared.command.Command.TheVariants as command
use Rattle.workload_spec.specs.declared.reply.Said.{Said}
use Rattle.shared_store.specs.Open.{Adds, Commits, FindsRow, IsOpen, commits_seen}
use Rattle.shared_store.specs.Store.{Answers, HasRoomFor, StoreView, reads_of, seen, shape_in}
use Rattle.shared_store.specs.declared.faults.Stale.{Stale}
use Rattle.shared_store.specs.declared.faults.StoreFault.{StoreFault}
use Rattle.shared_store.specs.declared.faults.StoreFault.TheVariants as fault
use Rattle.shared_store.specs.Told.{begun_told, committed_told, found_told, store_fault_told, written_told}
use Rattle.shared_store.specs.declared.session.Session.{Session}
use Rattle.embedded.specs.Checking.{CommitsNothing, IsFound, IsInserted, IsInsertedOrUnwritten, IsOvertaken, IsTried, MakesCalls, is_commit}
use Rattle.embedded.specs.Commits.{IsUnwritten}
use Rattle.embedded.specs.declared.checking.Tried.{Tried}
use Rattle.embedded.specs.declared.checking.Tried.TheVariants as tried
use Rattle.embedded.specs.declared.NotHanded.{NotHanded}
use Rattle.embedded.specs.declared.NotHanded.TheVariants as not_handed
use Rattle.embedded.proofs.Rows.{behind, stays}

-- ---- the read of one key

-- what was read
abbrev pub key_read : Place → Option ReadSet
key_read watched = Some (with_read (read.Key watched.table watched.key) no_reads)

-- none of these passes a test that has no last one
none_passing : (test : WriteSet → Bool) (at : ℕ) (later : History) → last_passing test at later ≡ None → All (λ w. test w ≡ false) later
none_passing test at [] is = All-nil (λ w. test w ≡ false)
none_passing test at (w ∷ later) is = go (last_passing test (at + 1) later) (none_passing test (at + 1) later) (test w) refl is
  where
    go : (o : Option ℕ) → (o ≡ None → All (λ w. test w ≡ false) later) → (b : Bool) → test w ≡ b → option_or o (cond b (Some at) None) ≡ None → All (λ w. test w ≡ false) (w ∷ later)
    go None rest false here none = All-cons (λ w. test w ≡ false) w later here (rest refl)
    go None rest true here none = cc
    go (Some number) rest b here none = cc

-- one of these passes a test that has a last one
some_passing : (test : WriteSet → Bool) (at : ℕ) (later : History) (number : ℕ) → last_passing test at later ≡ Some number → list_any test later ≡ true
some_passing test at [] number is = cc
some_passing test at (w ∷ later) number is = go (test w) (last_passing test (at + 1) later) (some_passing test (at + 1) later) is
  where
    go : (b : Bool) (o : Option ℕ) → ((last : ℕ) → o ≡ Some last → list_any test later ≡ true) → option_or o (cond b (Some at) None) ≡ Some number → (b || list_any test later) ≡ true
    go true o rest some = refl
    go false None rest some = cc
    go false (Some last) rest some = rest last refl

-- of one read the last commit that met it, and the read with it
abbrev pub stale_key : Read → Option ℕ → Option (Read × ℕ)
stale_key what last = option_or (option_map (λ (number : ℕ). (what, number)) last) None

module _ (commits later : History) (watched : Place) where
  -- the last commit that met the key is the last of the later ones
  last_met : last_or None (later_commits (commits ++ later) (length commits) (writes_place watched)) ≡ last_passing (writes_place watched) (length commits + 1) later
  last_met = last-commit (commits ++ later) (length commits) (writes_place watched) ∙ ap (last_passing (writes_place watched) (length commits + 1)) (behind_front commits)
    where
      behind_front : (front : History) → drop (length front) (front ++ later) ≡ later
      behind_front [] = refl
      behind_front (w ∷ front) = behind_front front

  -- the reads stand where no later commit wrote the key
  unwritten : (first : Place × Option Row) (rest : WriteSet) → stale_since (commits ++ later) commits (first ∷ rest) (key_read watched) ≡ None → IsUnwritten watched later
  unwritten first rest is = none_passing (writes_place watched) (length commits + 1) later (sym last_met ∙ go (last_or None (later_commits (commits ++ later) (length commits) (writes_place watched))) is)
    where
      go : (o : Option ℕ) → stale_key (read.Key watched.table watched.key) o ≡ None → o ≡ None
      go None none = refl
      go (Some number) none = cc

  -- where they do not, one of them wrote it
  written : (first : Place × Option Row) (rest : WriteSet) (what : Read) (number : ℕ) → stale_since (commits ++ later) commits (first ∷ rest) (key_read watched) ≡ Some (what, number) → list_any (writes_place watched) later ≡ true
  written first rest what number is = go (last_or None (later_commits (commits ++ later) (length commits) (writes_place watched))) last_met is
    where
      go : (o : Option ℕ) → o ≡ last_passing (writes_place watched) (length commits + 1) later → stale_key (read.Key watched.table watched.key) o ≡ Some (what, number) → list_any (writes_place watched) later ≡ true
      go None last some = cc
      go (Some found) last some = some_passing (writes_place watched) (length commits + 1) later found (sym last)

  -- a place that they did not write is what it was
  same_behind : IsUnwritten watched later → at_place (state_at (commits ++ later) (length (commits ++ later))) watched ≡ at_place (state_at commits (length commits)) watched
  same_behind none =
      ap (λ rows. at_place rows watched) (behind (commits ++ later) ∙ fold-append laid_over [] commits later)
      ∙ stays (fold laid_over [] commits) later watched none
      ∙ ap (λ rows. at_place rows watched) (sym (behind commits))

-- ---- the commit

-- a commit of the row has a number
pub is_numbered : (store : StoreView) (one old new : Session) (place : Place) (row : Row) → IsOpen store old (commits_seen store one) ((place, Some row) ∷ []) → (told : Option ℕ) → Commits store old new (Ok told) → IsSome told
is_numbered store one old new place row is_open told done = ap (λ (o : Option ℕ). is_some o) (done (commits_seen store one) ((place, Some row) ∷ []) is_open).adds.1

module _ (store : StoreView) (one old new : Session) (watched place : Place) (row : Row) (lacks : at_place (state_at (commits_seen store one) (length (commits_seen store one))) watched ≡ None)
    (is_open : IsOpen store old (commits_seen store one) ((place, Some row) ∷ [])) (is_read : reads_of old ≡ key_read watched) where
  pub inserted : (number : ℕ) → Commits store old new (Ok (Some number)) → IsInserted store one new watched place row number
  inserted number done = record {
    before = adds.before;
    behind = between;
    stands = ([], adds.adds.0 ∙ sym (append-nil (adds.before ++ ((place, Some row) ∷ []) ∷ [])));
    number =
        let told : Some number ≡ Some (length (commits_seen store new)) = adds.adds.1 in
        let same : number ≡ length (commits_seen store new) = cc in
        let long : length (commits_seen store new) ≡ length (adds.before ++ ((place, Some row) ∷ []) ∷ []) = ap (λ (h : History). length h) adds.adds.0 in
        let pushed = length-append adds.before (((place, Some row) ∷ []) ∷ []) in
        omega (arith, same, long, pushed);
    lacks = ap (λ (h : History). at_place (state_at h (length h)) watched) between.1
        ∙ same_behind (commits_seen store one) between.0 watched (unwritten (commits_seen store one) between.0 watched (place, Some row) []
        (subst (λ (h : History). stale_since h (commits_seen store one) ((place, Some row) ∷ []) (key_read watched) ≡ None) between.1
        (subst (λ (r : Option ReadSet). stale_since adds.before (commits_seen store one) ((place, Some row) ∷ []) r ≡ None) is_read adds.stands)))
        ∙ lacks;
  }
    where
      adds : Adds store old new (commits_seen store one) ((place, Some row) ∷ []) (Some number)
      adds = done (commits_seen store one) ((place, Some row) ∷ []) is_open

      between : HasMore (commits_seen store one) adds.before
      between = more_again (commits_seen store one) (commits_seen store old) adds.before is_open.has.sees adds.goes_on

  pub overtaken : (stale : Stale) → Commits store old new (Err stale) → IsOvertaken store one new watched
  overtaken stale refused = record {
    commits = commits_seen store one;
    later = later.0;
    behind = ([], sym (append-nil (commits_seen store one)));
    stands = ([], later.1 ∙ sym (append-nil (commits_seen store one ++ later.0)));
    lacks = lacks;
    wrote = written (commits_seen store one) later.0 watched (place, Some row) [] stale.read stale.number
        (subst (λ (h : History). stale_since h (commits_seen store one) ((place, Some row) ∷ []) (key_read watched) ≡ Some (stale.read, stale.number)) later.1
        (subst (λ (r : Option ReadSet). stale_since (commits_seen store new) (commits_seen store one) ((place, Some row) ∷ []) r ≡ Some (stale.read, stale.number)) is_read
        (refused.wrote (commits_seen store one) ((place, Some row) ∷ []) is_open)));
  }
    where
      later : HasMore (commits_seen store one) (commits_seen store new)
      later = (refused.is_open (commits_seen store one) ((place, Some row) ∷ []) is_open).has.sees

-- ---- the get

-- A get of a fresh transaction finds what the commits left that it sees.
pub gets : {E : Type 0} (store : StoreView) (old new : Session) (commits : History) (table : ℕ) (key watched : ℤ) (found : Option Row) → key ≡ watched → FindsRow {E = E} store old new table key (Ok found)
    → IsOpen store old commits [] → IsOpen store new commits [] × (found ≡ at_place (state_at commits (length commits)) (place_at table watched))
gets {E} store old new commits table key watched found is finds open' =
    let f = finds commits [] open' in
    (f.is_open, f.row ∙ ap (λ (k : ℤ). at_place (state_at commits (length commits)) (place_at table k)) is)

-- none of its answers is a row
pub nothing : (found : Option Row) → ((row : Row) → found ≡ Some row → ⊥) → found ≡ None
nothing None none = refl
nothing (Some row) none = absurd (none row refl)

-- where it reads the key alone
pub reads_key : (old new : Session) (table : ℕ) (key watched : ℤ) (found : Option Row) → key ≡ watched → reads_of old ≡ Some no_reads
    → reads_of new ≡ reads_behind (reads_of old) (command.Get table key) (row_told found) → reads_of new ≡ key_read (place_at table watched)
reads_key old new table key watched found is none keeps = keeps ∙ ap (λ (r : Option ReadSet). reads_behind r (command.Get table key) (row_told found)) none ∙ go found ∙ ap (λ (k : ℤ). key_read (place_at table k)) is
  where
    go : (found : Option Row) → reads_behind (Some no_reads) (command.Get table key) (row_told found) ≡ key_read (place_at table key)
    go None = refl
    go (Some row) = refl

-- a row that it finds
pub found : (store : StoreView) (one new : Session) (watched : Place) (row : Row) → IsOpen store new (commits_seen store one) [] → at_place (state_at (commits_seen store one) (length (commits_seen store one))) watched ≡ Some row → IsFound store one new watched row
found store one new watched row is_open has = record {
  commits = commits_seen store one;
  behind = ([], sym (append-nil (commits_seen store one)));
  stands = is_open.has.sees;
  has = has;
}

-- ---- from call to call

-- The answer means the same to one who had seen less before, and to one who has seen more behind.
pub tried_on : (store : StoreView) (a b c d : Session) (watched place : Place) (row : Row) (answer : Tried) → HasMore (commits_seen store a) (commits_seen store b) → HasMore (commits_seen store c) (commits_seen store d)
    → IsTried store b c watched place row answer → IsTried store a d watched place row answer
tried_on store a b c d watched place row (tried.Inserted number) front back is = record {
  before = is.before;
  behind = more_again (commits_seen store a) (commits_seen store b) is.before front is.behind;
  stands = more_again (is.before ++ ((place, Some row) ∷ []) ∷ []) (commits_seen store c) (commits_seen store d) is.stands back;
  number = is.number;
  lacks = is.lacks;
}
tried_on store a b c d watched place row (tried.Found found) front back is = record {
  commits = is.commits;
  behind = more_again (commits_seen store a) (commits_seen store b) is.commits front is.behind;
  stands = more_again is.commits (commits_seen store c) (commits_seen store d) is.stands back;
  has = is.has;
}
tried_on store a b c d watched place row tried.Overtaken front back is = record {
  commits = is.commits;
  later = is.later;
  behind = more_again (commits_seen store a) (commits_seen store b) is.commits front is.behind;
  stands = more_again (is.commits ++ is.later) (commits_seen store c) (commits_seen store d) is.stands back;
  lacks = is.lacks;
  wrote = is.wrote;
}

-- so seen behind an answer are all commits that were seen before
pub seen_behind : (store : StoreView) (a b : Session) (watched place : Place) (row : Row) (answer : Tried) → IsTried store a b watched place row answer → HasMore (commits_seen store a) (commits_seen store b)
seen_behind store a b watched place row (tried.Inserted number) is =
    more_again (commits_seen store a) is.before (commits_seen store b) is.behind
    (more_again is.before (is.before ++ ((place, Some row) ∷ []) ∷ []) (commits_seen store b) (((place, Some row) ∷ []) ∷ [], refl) is.stands)
seen_behind store a b watched place row (tried.Found found) is = more_again (commits_seen store a) is.commits (commits_seen store b) is.behind is.stands
seen_behind store a b watched place row tried.Overtaken is =
    more_again (commits_seen store a) is.commits (commits_seen store b) is.behind
    (more_again is.commits (is.commits ++ is.later) (commits_seen store b) (is.later, refl) is.stands)

-- what was seen is seen
pub no_more : (commits : History) → HasMore commits commits
no_more commits = ([], sym (append-nil commits))

-- behind a call its session has seen more
pub went : (store : StoreView) (old new : Session) (told : Command) (said : Said) → Answers store old new told said → HasMore (commits_seen store old) (commits_seen store new)
went store old new told said is = commits_go_on (shape_in store) (seen old) (seen new) (log_in is.called.stretch.trace, is.called.stretch.goes_on)

-- what an answer of several calls means, in the words of a row that is that one
pub if_tried : (store : StoreView) (a b c d : Session) (table : ℕ) (key watched : ℤ) (copy row : Row) (result : Result Tried NotHanded) → key ≡ watched → copy ≡ row
    → HasMore (commits_seen store a) (commits_seen store b) → HasMore (commits_seen store c) (commits_seen store d)
    → IfOk result (IsTried store b c (place_at table key) (place_of table copy) copy) → IfOk result (IsTried store a d (place_at table watched) (place_of table row) row)
if_tried store a b c d table key watched copy row result is same front back told =
    subst (λ (k : ℤ). IfOk result (IsTried store a d (place_at table k) (place_of table row) row)) is
    (subst (λ (r : Row). IfOk result (IsTried store a d (place_at table key) (place_of table r) r)) same (go result told))
  where
    go : (result : Result Tried NotHanded) → IfOk result (IsTried store b c (place_at table key) (place_of table copy) copy) → IfOk result (IsTried store a d (place_at table key) (place_of table copy) copy)
    go (Ok answer) told = tried_on store a b c d (place_at table key) (place_of table copy) copy answer front back told
    go (Err why) told = tt

-- where there is room, an answer that is not `NoRoom` tells the truth
pub told_room : (session : Session) (many : ℕ) → HasRoomFor many session → (answer : Tried) → (Ok answer ≡ Err not_handed.NoRoom) ↔ ¬ HasRoomFor many session
told_room session many has answer = ((λ same. cc), (λ none. absurd (none has)))

-- ---- what was not written

-- a call that is told of no commit
pub one_call : (store : StoreView) (old new : Session) (asked : Command) (told : Said) → Answers store old new asked told → is_commit told ≡ false → CommitsNothing store old new
one_call store old new asked told is none = record {
  calls = (asked, told) ∷ [];
  makes = (new, is, refl);
  none = ap (λ (b : Bool). b || false) none;
}

-- no call
pub no_call : (store : StoreView) (s : Session) → CommitsNothing store s s
no_call store s = record { calls = []; makes = refl; none = refl }

-- calls behind calls
pub more_calls : (store : StoreView) (a b c : Session) → CommitsNothing store a b → CommitsNothing store b c → CommitsNothing store a c
more_calls store a b c first then = record {
  calls = first.calls ++ then.calls;
  makes = made a first.calls first.makes;
  none = untold first.calls first.none;
}
  where
    made : (a : Session) (calls : List (Command × Said)) → MakesCalls store a calls b → MakesCalls store a (calls ++ then.calls) c
    made a [] is = subst (λ (s : Session). MakesCalls store s then.calls c) is then.makes
    made a (call ∷ calls) is = (is.0, is.1, made is.0 calls is.2)

    untold : (calls : List (Command × Said)) → list_any (λ call. is_commit call.1) calls ≡ false → list_any (λ call. is_commit call.1) (calls ++ then.calls) ≡ false
    untold [] none = then.none
    untold (call ∷ calls) none = go (is_commit call.1) none (untold calls)
      where
        go : (b : Bool) → (b || list_any (λ call. is_commit call.1) calls) ≡ false
            → (list_any (λ call. is_commit call.1) calls ≡ false → list_any (λ call. is_commit call.1) (calls ++ then.calls) ≡ false)
            → (b || list_any (λ call. is_commit call.1) (calls ++ then.calls)) ≡ false
        go true none rest = absurd (true≢false none)
        go false none rest = rest none

-- neither a get nor an insert tells of a commit
pub found_none : {E : Type 0} (found : Result (Option Row) E) → is_commit (found_told found) ≡ false
found_none (Ok None) = refl
found_none (Ok (Some row)) = refl
found_none (Err memory) = refl

pub written_none : {X : Type 0} (table : ℕ) (written : Result X StoreFault) → is_commit (written_told table written) ≡ false
written_none table (Ok done) = refl
written_none table (Err refused) = refused_none refused
  where
    refused_none : (refused : StoreFault) → is_commit (store_fault_told table refused) ≡ false
    refused_none (fault.Write why) = go why
      where
        go : (why : WriteFault) → is_commit (fault_told table why) ≡ false
        go (write_fault.ConflictSession session) = refl
        go (write_fault.ConflictCommit number) = refl
        go write_fault.Exists = refl
        go write_fault.Missing = refl
        go (write_fault.Freezing block stamp) = refl
        go (write_fault.Full inserts) = refl
    refused_none fault.Memory = refl

pub begun_none : {E : Type 0} (begun : Result ℕ E) → is_commit (begun_told begun) ≡ false
begun_none (Ok number) = refl
begun_none (Err busy) = refl

-- a refused commit does not tell of one
pub stale_none : (done : Result (Option ℕ) Stale) (stale : Stale) → done ≡ Err stale → is_commit (committed_told done) ≡ false
stale_none (Ok number) stale is = cc
stale_none (Err told) stale is = refl

-- The same of an answer, to one before it and to one behind it.
pub unwritten_on : (store : StoreView) (a b c d : Session) (result : Result Tried NotHanded) → CommitsNothing store a b → CommitsNothing store c d → IsInsertedOrUnwritten store b c result → IsInsertedOrUnwritten store a d result
unwritten_on store a b c d (Ok (tried.Inserted number)) first then is = tt
unwritten_on store a b c d (Ok (tried.Found found)) first then is = more_calls store a c d (more_calls store a b c first is) then
unwritten_on store a b c d (Ok tried.Overtaken) first then is = more_calls store a c d (more_calls store a b c first is) then
unwritten_on store a b c d (Err why) first then is = more_calls store a c d (more_calls store a b c first is) then

-- an error behind calls that committed nothing
pub error_unwritten : (store : StoreView) (old new : Session) (result : Result Tried NotHanded) → IsErr result → CommitsNothing store old new → IsInsertedOrUnwritten store old new result
error_unwritten store old new (Ok answer) is none = cc
error_unwritten store old new (Err why) is none = none
