-- What is found of changed rows, of what each call told.
use Rattle.std.proofs.Common.{List, ◌≡◌, ◌≢◌, ℕ, ℤ, ◌+◌, Ordering, Less, Equal, Greater, Bool, true, false, cond, [], ◌∷◌, ◌++◌, Option, None, Some, fold, int_eq, length, length-append, append-nil, refl, sym, ap, subst, ◌∙◌, arith}
use Rattle.std.specs.Prelude.{All, Ok, IsSome, is_some}
use Rattle.std.specs.BTreeMap.{insert_entry}
use Rattle.std.proofs.lemmas.Bool.Decides.{Decides-int_eq}
use Rattle.std.proofs.lemmas.List.Sums.{fold-append}
use Rattle.std.specs.Ordering.{match_ordering}
use Rattle.block_spec.specs.Slots.{Row}
use Rattle.isolation_laws.proofs.States.{state-order}
use Rattle.isolation_laws.proofs.Overlays.{at-insert, at-laid_over, order-insert, over}
use Rattle.isolation_spec.specs.Order.{InOrder}
use Rattle.isolation_laws.proofs.Rows.{is_place-of}
use Rattle.isolation_spec.specs.Contents.{History, State, WriteSet, at_place, contents_of, is_place, key_of, laid_over, place_at, place_cmp, place_of, state_at}
use Rattle.isolation_spec.specs.declared.place.Place.{Place}
use Rattle.run_spec.specs.Handed.{GoesOn}
use Rattle.store_laws.proofs.Machines.{commits_go_on, logs_follow}
use Rattle.store_laws.proofs.Stepping.{more_again}
use Rattle.store_laws.specs.Machines.{AddsCommit, HasMore, rows_seen}
use Rattle.shared_store.specs.Open.{Adds, Commits, FindsAll, FindsRows, IsOpen, Opens, commits_seen}
use Rattle.shared_store.specs.Store.{IsSession, StoreView, seen, shape_in}
use Rattle.shared_store.specs.declared.session.Session.{Session}
use Rattle.shared_store.proofs.Open.{measures_of}
use Rattle.embedded.specs.Changing.{AreChanged, FindsChanges}
use Rattle.embedded.proofs.Rows.{behind}

-- what the transaction wrote: two rows, a changed one in the place of the first, and none in the
-- place of the second
abbrev pub inserted : Place → Place → Row → Row → WriteSet
inserted kept dropped first second = insert_entry place_cmp (insert_entry place_cmp [] kept (Some first)) dropped (Some second)

abbrev pub wrote : Place → Place → Row → Row → Row → WriteSet
wrote kept dropped first second row = insert_entry place_cmp (insert_entry place_cmp (inserted kept dropped first second) kept (Some row)) dropped None

-- the commits of a session's history stand in order
in_order : (store : StoreView) (s : Session) → IsSession store s → All InOrder (commits_seen store s)
in_order store s is = (logs_follow (shape_in store) (seen s) (measures_of store s is) is.lawful).follows.desked.history_order

-- places of one table and different keys are apart
pub apart : (table : ℕ) (key : ℤ) (row : Row) → key_of row ≢ key → is_place (place_at table key) (place_of table row) ≡ false
apart table key row other = go (int_eq (key_of row) key) refl
  where
    go : (b : Bool) → int_eq (key_of row) key ≡ b → is_place (place_at table key) (place_of table row) ≡ false
    go true is = absurd (other ((Decides-int_eq (key_of row) key).0 is))
    go false is = is_place-of table key row ∙ is

-- a place is itself
itself : (table : ℕ) (row : Row) → is_place (place_of table row) (place_of table row) ≡ true
itself table row = is_place-of table (key_of row) row ∙ (Decides-int_eq (key_of row) (key_of row)).1 refl

module _ (kept dropped : Place) (first second row : Row) where
  abbrev left : WriteSet
  left = wrote kept dropped first second row

  own_order : InOrder left
  own_order = order-insert (insert_entry place_cmp (inserted kept dropped first second) kept (Some row)) dropped None
      (order-insert (inserted kept dropped first second) kept (Some row)
      (order-insert (insert_entry place_cmp [] kept (Some first)) dropped (Some second) (order-insert [] kept (Some first) tt)))

  -- what the transaction wrote at a place
  own_at : (q : Place) (b c : Bool) → is_place q kept ≡ b → is_place q dropped ≡ c → at_place left q ≡ cond c (Some None) (cond b (Some (Some row)) None)
  own_at q b c is_kept is_dropped =
      at-insert (insert_entry place_cmp (inserted kept dropped first second) kept (Some row)) dropped None q
      ∙ ap (λ x. cond x (Some None) (at_place (insert_entry place_cmp (inserted kept dropped first second) kept (Some row)) q)) is_dropped
      ∙ ap (cond c (Some None)) (at-insert (inserted kept dropped first second) kept (Some row) q
      ∙ ap (λ x. cond x (Some (Some row)) (at_place (inserted kept dropped first second) q)) is_kept
      ∙ ap (cond b (Some (Some row))) (at-insert (insert_entry place_cmp [] kept (Some first)) dropped (Some second) q
      ∙ ap (λ x. cond x (Some (Some second)) (at_place (insert_entry place_cmp [] kept (Some first)) q)) is_dropped
      ∙ ap (cond c (Some (Some second))) (at-insert [] kept (Some first) q ∙ ap (λ x. cond x (Some (Some first)) None) is_kept)))
      ∙ go b c
    where
      go : (b c : Bool) → cond c (Some None) (cond b (Some (Some row)) (cond c (Some (Some second)) (cond b (Some (Some first)) None))) ≡ cond c (Some None) (cond b (Some (Some row)) None)
      go true true = refl
      go true false = refl
      go false true = refl
      go false false = refl

  -- laid over rows in order, it changes them
  are_changed : (rows : State) → InOrder rows → is_place kept kept ≡ true → is_place dropped dropped ≡ true → is_place kept dropped ≡ false → AreChanged rows (laid_over rows left) kept dropped row
  are_changed rows order here there other = record {
    has = (at-laid_over rows left kept order own_order).0 ∙ ap (λ w. over w (at_place rows kept)) (own_at kept true false here other);
    lacks = (at-laid_over rows left dropped order own_order).0 ∙ ap (λ w. over w (at_place rows dropped)) (at_dropped (is_place dropped kept) refl);
    others = λ place no not'. (at-laid_over rows left place order own_order).0 ∙ ap (λ w. over w (at_place rows place)) (own_at place false false no not');
  }
    where
      at_dropped : (b : Bool) → is_place dropped kept ≡ b → at_place left dropped ≡ Some None
      at_dropped b is = own_at dropped b true is there

-- ---- what was written is something

-- a map with an entry more begins with one
begins_with : (es : WriteSet) (k : Place) (v : Option Row) → (first : Place × Option Row) × (rest : WriteSet) × (insert_entry place_cmp es k v ≡ first ∷ rest)
begins_with [] k v = ((k, v), [], refl)
begins_with (e ∷ es) k v = go (place_cmp k e.0)
  where
    go : (r : Ordering) → (first : Place × Option Row) × (rest : WriteSet) × (match_ordering r ((k, v) ∷ e ∷ es) ((e.0, v) ∷ es) (e ∷ insert_entry place_cmp es k v) ≡ first ∷ rest)
    go Less = ((k, v), e ∷ es, refl)
    go Equal = ((e.0, v), es, refl)
    go Greater = (e, insert_entry place_cmp es k v, refl)

-- so its commit stands behind those before it, with a number
stands_behind : (before later : History) (es : WriteSet) (k : Place) (v : Option Row) (told : Option ℕ) → AddsCommit before later (insert_entry place_cmp es k v) told
    → (later ≡ before ++ insert_entry place_cmp es k v ∷ []) × (told ≡ Some (length later))
stands_behind before later es k v told adds =
    let b = begins_with es k v in
    let done = subst (λ (w : WriteSet). AddsCommit before later w told) b.2 adds in
    (done.0 ∙ ap (λ (w : WriteSet). before ++ w ∷ []) (sym b.2), done.1)

-- a commit of such writes has a number
pub is_numbered : (store : StoreView) (old new : Session) (commits : History) (es : WriteSet) (k : Place) (v : Option Row) (told : Option ℕ)
    → IsOpen store old commits (insert_entry place_cmp es k v) → Commits store old new (Ok told) → IsSome told
is_numbered store old new commits es k v told open' done =
    let adds = done commits (insert_entry place_cmp es k v) open' in
    ap is_some (stands_behind adds.before (commits_seen store new) es k v told adds.adds).1

-- ---- all of it

-- what an accepted write leaves open
abbrev pub Puts : StoreView → Session → Session → Place → Option Row → Type 0
Puts store old new place change = (commits : History) (own : WriteSet) → IsOpen store old commits own → IsOpen store new commits (insert_entry place_cmp own place change)

-- what the four writes leave open
pub all_put : (store : StoreView) (a b d e f : Session) (table : ℕ) (key : ℤ) (first second row : Row) (commits : History) → key_of row ≡ key_of first → key_of second ≡ key → IsOpen store a commits []
    → Puts store a b (place_of table first) (Some first) → Puts store b d (place_of table second) (Some second)
    → Puts store d e (place_of table row) (Some row) → Puts store e f (place_at table key) None
    → IsOpen store f commits (wrote (place_of table first) (place_of table second) first second row)
all_put store a b d e f table key first second row commits same is_key begun put then change delete =
    let kept = place_of table first in
    let dropped = place_of table second in
    subst (λ (k : ℤ). IsOpen store f commits (insert_entry place_cmp (insert_entry place_cmp (inserted kept dropped first second) kept (Some row)) (place_at table k) None)) (sym is_key)
    (subst (λ (k : ℤ). IsOpen store f commits (insert_entry place_cmp (insert_entry place_cmp (inserted kept dropped first second) (place_at table k) (Some row)) (place_at table key) None)) same
    (delete commits (insert_entry place_cmp (inserted kept dropped first second) (place_of table row) (Some row))
    (change commits (inserted kept dropped first second)
    (then commits (insert_entry place_cmp [] kept (Some first)) (put commits [] begun)))))

-- commits with one behind them, of which no more than one more are seen
nothing_between : (commits x y : History) (w : WriteSet) → length (((commits ++ x) ++ w ∷ []) ++ y) ≡ length commits + 1 → ((commits ++ x) ++ w ∷ []) ++ y ≡ commits ++ w ∷ []
nothing_between commits x y w is =
    let a = length-append ((commits ++ x) ++ w ∷ []) y in
    let b = length-append (commits ++ x) (w ∷ []) in
    let d = length-append commits x in
    let none_x : length x ≡ 0 = omega (arith, a, b, d, is) in
    let none_y : length y ≡ 0 = omega (arith, a, b, d, is) in
    ap (λ (h : History). ((commits ++ h) ++ w ∷ []) ++ y) (empty x none_x)
    ∙ ap (λ (h : History). ((commits ++ []) ++ w ∷ []) ++ h) (empty y none_y)
    ∙ append-nil ((commits ++ []) ++ w ∷ [])
    ∙ ap (λ (h : History). h ++ w ∷ []) (append-nil commits)
  where
    empty : (h : History) → length h ≡ 0 → h ≡ []
    empty [] is = refl
    empty (v ∷ h) is = absurd (omega (arith, is))

-- What each call told of it.
pub finds_changes : {E : Type 0} (store : StoreView) (one a f g old two r s : Session) (table : ℕ) (key : ℤ) (first second row : Row) (own other : List Row) (began committed sees : ℕ)
    → IsSession store a → key_of row ≡ key_of first → key_of second ≡ key → key_of first ≢ key
    → Opens store one a began
    → FindsAll {E = E} store f (commits_seen store a) (wrote (place_of table first) (place_of table second) first second row) table (Ok own)
    → Commits store f g (Ok (Some committed))
    → HasMore (commits_seen store g) (commits_seen store two) → GoesOn (seen old) (seen two)
    → Opens store two r sees
    → FindsRows {E = E} store r s table (Ok other)
    → FindsChanges store one old s table (place_of table first) (place_of table second) row (record { began = began; own = own; committed = committed; sees = sees; other = other })
finds_changes {E = E} store one a f g old two r s table key first second row own other began committed sees is same is_key apart' begun found done met seen_on begun_too finds_too = record {
  before = commits;
  rows = rows_seen commits w;
  behind = begun.goes_on;
  began = begun.counts;
  are_changed = are_changed kept dropped first second row (state_at commits (length commits)) (state-order commits (length commits) (in_order store a is))
      (itself table first) (itself table second)
      (apart table (key_of first) second (λ e. apart' (sym e ∙ is_key)));
  own = found.rows;
  seen = behind_all;
  is_open = other_found.is_open;
  keeps_one = more_again commits (commits_seen store f) behind_all found.is_open.has.sees (more_again (commits_seen store f) adds.before behind_all adds.goes_on
      (more_again adds.before (commits_seen store g) behind_all (w ∷ [], there.0) more));
  keeps_two = more_again (commits_seen store old) (commits_seen store two) behind_all (commits_go_on (shape_in store) (seen old) (seen two) seen_on) begun_too.goes_on;
  sees = begun_too.counts;
  other = other_found.rows ∙ ap (λ n. contents_of table (state_at behind_all n)) (sym begun_too.counts);
  same = λ few.
      let counts = begun.counts in
      let counts_too = begun_too.counts in
      let long = ap (λ (h : History). length h) all in
      let only = all ∙ nothing_between commits between.0 more.0 w (omega (arith, few, counts, counts_too, long)) in
      other_found.rows
      ∙ ap (contents_of table) (behind behind_all ∙ ap (fold laid_over []) only ∙ fold-append laid_over [] commits (w ∷ [])
      ∙ ap (λ (rows : State). laid_over rows w) (sym (behind commits)))
      ∙ sym found.rows;
}
  where
    kept : Place
    kept = place_of table first

    dropped : Place
    dropped = place_of table second

    commits : History
    commits = commits_seen store a

    behind_all : History
    behind_all = commits_seen store r

    w : WriteSet
    w = wrote kept dropped first second row

    adds : Adds store f g commits w (Some committed)
    adds = done commits w found.is_open

    there : (commits_seen store g ≡ adds.before ++ w ∷ []) × (Some committed ≡ Some (length (commits_seen store g)))
    there = stands_behind adds.before (commits_seen store g) (insert_entry place_cmp (inserted kept dropped first second) kept (Some row)) dropped None (Some committed) adds.adds

    -- all that were seen by then, and behind the commit
    between : HasMore commits adds.before
    between = more_again commits (commits_seen store f) adds.before found.is_open.has.sees adds.goes_on

    more : HasMore (commits_seen store g) behind_all
    more = more_again (commits_seen store g) (commits_seen store two) behind_all met begun_too.goes_on

    all : behind_all ≡ ((commits ++ between.0) ++ w ∷ []) ++ more.0
    all = more.1 ∙ ap (λ (h : History). h ++ more.0) (there.0 ∙ ap (λ (h : History). h ++ w ∷ []) between.1)

    other_found : FindsAll {E = E} store s behind_all [] table (Ok other)
    other_found = finds_too behind_all [] begun_too.is_open
