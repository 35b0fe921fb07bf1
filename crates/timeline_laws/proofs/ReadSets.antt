-- What a session's replies tell of its reads: the read set of its open transaction has just those
-- that the replies of this transaction tell.
use Rattle.std.proofs.Common.{◌≡◌, ℕ, ℤ, Bool, true, false, cond, ◌&&◌, ◌||◌, eqb, List, [], ◌∷◌, ◌++◌, map, Option, None, Some, Ordering, Less, Equal, Greater, All, refl, sym, ap, ◌∙◌, subst}
use Rattle.std.specs.Prelude.{is_some}
use Rattle.std.specs.Option.{option_map_or}
use Rattle.std.specs.Ordering.{is_eq, nat_cmp, int_eq, match_ordering}
use Rattle.std.specs.List.{list_any, list_all, cons_option}
use Rattle.std.specs.BTreeSet.{insert_key}
use Rattle.std.specs.FinMap.{nat_cmp-IsAntisymmetric}
use Rattle.std.specs.Cmp.{int_eq_equiv}
use Rattle.std.proofs.lemmas.Bool.{and_parts, and_from, eqb-true, or_left, or_right}
use Rattle.std.proofs.lemmas.Bool.Decides.{Decides-int_eq}
use Rattle.std.proofs.lemmas.List.Folds.{list_any-append}
use Rattle.std.proofs.lemmas.List.Elements.{All-head, All-tail, filter_map-append}
use Rattle.std.proofs.lemmas.List.Sums.{fold_push}
use Rattle.isolation_spec.specs.Contents.{place_cmp}
use Rattle.isolation_spec.specs.Reads.{ReadSet, no_reads, with_read, reads_in}
use Rattle.isolation_spec.specs.declared.place.Place.{Place}
use Rattle.isolation_spec.specs.declared.read.KeyRange.{KeyRange}
use Rattle.isolation_spec.specs.declared.read.Read.{Read}
use Rattle.isolation_spec.specs.declared.read.Read.TheVariants as read
use Rattle.isolation_laws.proofs.Maps.{one_place}
use Rattle.workload_spec.specs.declared.command.Command.{Command}
use Rattle.workload_spec.specs.declared.reply.Said.{Said}
use Rattle.workload_spec.specs.declared.reply.Said.TheVariants as said
use Rattle.outcome_spec.specs.Entries.{Entry, snapshot_in, is_end}
use Rattle.outcome_spec.specs.Stale.{is_read, read_asked, read_told, reads_told, shows_read, begins_checked, entered, reads_behind, reads_after}
use Rattle.timeline_laws.proofs.Machine.{eqb-itself}
use Rattle.timeline_laws.proofs.Tests.{or-false, and-true}

-- ---- reads that are one

-- a read is itself
pub read-itself : (what : Read) → is_read what what ≡ true
read-itself (read.Key table key) = and_from (eqb table table) (int_eq key key) (eqb-itself table) (int_eq_equiv.refl key)
read-itself (read.Table table) = eqb-itself table
read-itself (read.Range table low high) =
    and_from (eqb table table && int_eq low low) (int_eq high high) (and_from (eqb table table) (int_eq low low) (eqb-itself table) (int_eq_equiv.refl low)) (int_eq_equiv.refl high)

-- reads that test as one are one
pub one_read : (a b : Read) → is_read a b ≡ true → a ≡ b
one_read (read.Key a k) (read.Key b l) is =
    let parts = and_parts (eqb a b) (int_eq k l) is in
    ap (λ (table : ℕ). read.Key table k) (eqb-true a b parts.0) ∙ ap (read.Key b) ((Decides-int_eq k l).0 parts.1)
one_read (read.Key a k) (read.Table b) is = absurd (let never : ⊥ = cc in never)
one_read (read.Key a k) (read.Range b m n) is = absurd (let never : ⊥ = cc in never)
one_read (read.Table a) (read.Key b l) is = absurd (let never : ⊥ = cc in never)
one_read (read.Table a) (read.Table b) is = ap read.Table (eqb-true a b is)
one_read (read.Table a) (read.Range b m n) is = absurd (let never : ⊥ = cc in never)
one_read (read.Range a k l) (read.Key b m) is = absurd (let never : ⊥ = cc in never)
one_read (read.Range a k l) (read.Table b) is = absurd (let never : ⊥ = cc in never)
one_read (read.Range a k l) (read.Range b m n) is =
    let parts = and_parts (eqb a b && int_eq k m) (int_eq l n) is in
    let first = and_parts (eqb a b) (int_eq k m) parts.0 in
    ap (λ (table : ℕ). read.Range table k l) (eqb-true a b first.0)
    ∙ ap (λ (low : ℤ). read.Range b low l) ((Decides-int_eq k m).0 first.1)
    ∙ ap (read.Range b m) ((Decides-int_eq l n).0 parts.1)

-- what holds of each of some reads holds of one that is among them
pub among-holds : (P : Read → Type 0) (reads : List Read) (what : Read) → All P reads → list_any (is_read what) reads ≡ true → P what
among-holds P [] what all is = absurd (let never : ⊥ = cc in never)
among-holds P (first ∷ reads) what all is = go (is_read what first) refl (among-holds P reads what (All-tail P first reads all))
  where
    go : (b : Bool) → is_read what first ≡ b → (list_any (is_read what) reads ≡ true → P what) → P what
    go true same later = subst P (sym (one_read what first same)) (All-head P first reads all)
    go false same later = later (sym (ap (λ (b : Bool). b || list_any (is_read what) reads) same) ∙ is)

-- what is tested of each of some reads is so of others that are among them
pub told-pass : (test : Read → Bool) (reads told : List Read) → All (λ what. test what ≡ true) reads
    → ((what : Read) → list_any (is_read what) told ≡ true → list_any (is_read what) reads ≡ true) → list_all test told ≡ true
told-pass test reads [] all among = refl
told-pass test reads (what ∷ told) all among =
    and_from (test what) (list_all test told)
    (among-holds (λ what. test what ≡ true) reads what all (among what (or_left (is_read what what) (list_any (is_read what) told) (read-itself what))))
    (told-pass test reads told all (λ other is. among other (or_right (is_read other what) (list_any (is_read other) told) is)))

-- ---- one more read of a read set

-- a test of what is mapped
any-map : {X Y : Type 0} (test : Y → Bool) (f : X → Y) (xs : List X) → list_any test (map f xs) ≡ list_any (λ x. test (f x)) xs
any-map test f [] = refl
any-map test f (x ∷ xs) = ap (λ (b : Bool). test (f x) || b) (any-map test f xs)

-- A test that passes twice passes once.
or-twice : (a b : Bool) → (a || b) ≡ (a || (a || b))
or-twice true b = refl
or-twice false b = refl

-- Two tests in a row may be turned.
or-turned : (a b c : Bool) → (a || (b || c)) ≡ (b || (a || c))
or-turned true true c = refl
or-turned true false c = refl
or-turned false b c = refl

-- among keys in order and one more, one passes where the new one does or one of those before; equal
-- keys pass alike
any-insert : {K : Type 0} (cmp : K → K → Ordering) (test : K → Bool) → ((k x : K) → cmp k x ≡ Equal → test x ≡ test k) → (ks : List K) (k : K)
    → list_any test (insert_key cmp ks k) ≡ (test k || list_any test ks)
any-insert cmp test alike [] k = refl
any-insert cmp test alike (x ∷ xs) k = go (cmp k x) refl (any-insert cmp test alike xs k)
  where
    go : (r : Ordering) → cmp k x ≡ r → list_any test (insert_key cmp xs k) ≡ (test k || list_any test xs)
        → list_any test (match_ordering r (k ∷ x ∷ xs) (x ∷ xs) (x ∷ insert_key cmp xs k)) ≡ (test k || (test x || list_any test xs))
    go Less is rest = refl
    go Equal is rest =
        ap (λ (b : Bool). b || list_any test xs) (alike k x is) ∙ or-twice (test k) (list_any test xs) ∙ ap (λ (b : Bool). test k || (b || list_any test xs)) (sym (alike k x is))
    go Greater is rest = ap (λ (b : Bool). test x || b) rest ∙ or-turned (test x) (test k) (list_any test xs)

-- The first of three parts of a disjunction has one more.
first-more : (p a b : Bool) → ((p || a) || b) ≡ (p || (a || b))
first-more true a b = refl
first-more false a b = refl

-- The second has.
second-more : (p a b c : Bool) → (a || ((p || b) || c)) ≡ (p || (a || (b || c)))
second-more true true b c = refl
second-more true false b c = refl
second-more false a b c = refl

-- The last has.
last-more : (p a b c : Bool) → (a || (b || (c || (p || false)))) ≡ (p || (a || (b || c)))
last-more true true b c = refl
last-more true false true c = refl
last-more true false false true = refl
last-more true false false false = refl
last-more false a b c = ap (λ (d : Bool). a || (b || d)) (or-false c)

module _ (what : Read) where
  -- whether the read is one of keys, of tables, of ranges
  abbrev of_key : Place → Bool
  of_key place = is_read what (read.Key place.table place.key)

  abbrev of_table : ℕ → Bool
  of_table table = is_read what (read.Table table)

  abbrev of_range : KeyRange → Bool
  of_range range = is_read what (read.Range range.table range.low range.high)

  -- A read set has the read where one of its three parts does.
  any-reads : (set : ReadSet) → list_any (is_read what) (reads_in set) ≡ (list_any of_key set.places || (list_any of_table set.tables || list_any of_range set.ranges))
  any-reads set =
      let keys = map (λ (place : Place). read.Key place.table place.key) set.places in
      let tables = map read.Table set.tables in
      let ranges = map (λ (range : KeyRange). read.Range range.table range.low range.high) set.ranges in
      list_any-append (is_read what) (keys ++ tables) ranges
      ∙ ap (λ (b : Bool). b || list_any (is_read what) ranges) (list_any-append (is_read what) keys tables)
      ∙ first-more (list_any (is_read what) keys) (list_any (is_read what) tables) (list_any (is_read what) ranges)
      ∙ ap (λ (b : Bool). b || (list_any (is_read what) tables || list_any (is_read what) ranges)) (any-map (is_read what) (λ (place : Place). read.Key place.table place.key) set.places)
      ∙ ap (λ (b : Bool). list_any of_key set.places || (b || list_any (is_read what) ranges)) (any-map (is_read what) read.Table set.tables)
      ∙ ap (λ (b : Bool). list_any of_key set.places || (list_any of_table set.tables || b)) (any-map (is_read what) (λ (range : KeyRange). read.Range range.table range.low range.high) set.ranges)

  -- Places that compare as one are read alike.
  key-alike : (k x : Place) → place_cmp k x ≡ Equal → of_key x ≡ of_key k
  key-alike k x is = ap of_key (sym (one_place k x (ap is_eq is)))

  -- So are tables.
  table-alike : (k x : ℕ) → nat_cmp k x ≡ Equal → of_table x ≡ of_table k
  table-alike k x is = ap of_table (sym (nat_cmp-IsAntisymmetric k x is))

  -- A read set with one more read has the read where it had, or where that is it.
  pub any-more : (asked : Read) (set : ReadSet) → list_any (is_read what) (reads_in (with_read asked set)) ≡ (is_read what asked || list_any (is_read what) (reads_in set))
  any-more (read.Key table key) set =
      let place : Place = record { table = table; key = key } in
      any-reads (with_read (read.Key table key) set)
      ∙ ap (λ (b : Bool). b || (list_any of_table set.tables || list_any of_range set.ranges)) (any-insert place_cmp of_key key-alike set.places place)
      ∙ first-more (of_key place) (list_any of_key set.places) (list_any of_table set.tables || list_any of_range set.ranges)
      ∙ ap (λ (b : Bool). of_key place || b) (sym (any-reads set))
  any-more (read.Table table) set =
      any-reads (with_read (read.Table table) set)
      ∙ ap (λ (b : Bool). list_any of_key set.places || (b || list_any of_range set.ranges)) (any-insert nat_cmp of_table table-alike set.tables table)
      ∙ second-more (of_table table) (list_any of_key set.places) (list_any of_table set.tables) (list_any of_range set.ranges)
      ∙ ap (λ (b : Bool). of_table table || b) (sym (any-reads set))
  any-more (read.Range table low high) set =
      let range : KeyRange = record { table = table; low = low; high = high } in
      any-reads (with_read (read.Range table low high) set)
      ∙ ap (λ (b : Bool). list_any of_key set.places || (list_any of_table set.tables || b)) (list_any-append of_range set.ranges (range ∷ []))
      ∙ last-more (of_range range) (list_any of_key set.places) (list_any of_table set.tables) (list_any of_range set.ranges)
      ∙ ap (λ (b : Bool). of_range range || b) (sym (any-reads set))

-- ---- along the replies of a transaction

-- the reply opens a checked transaction
abbrev pub opens_checked : Entry → Bool
opens_checked entry = begins_checked entry.command && is_some (snapshot_in entry.reply.said)

-- the reads of a transaction with these replies: none where it is plain, else just those told
abbrev pub ReadsAre : Option ReadSet → List Entry → Type 0
ReadsAre None replies = list_any opens_checked replies ≡ false
ReadsAre (Some set) replies =
    (list_any opens_checked replies ≡ true) × ((what : Read) → list_any (is_read what) (reads_in set) ≡ list_any (is_read what) (reads_told replies))

-- a reply that neither opens nor ends enters what it tells
behind-within : (reads : Option ReadSet) (asked : Command) (told : Said) → snapshot_in told ≡ None → is_end told ≡ false
    → reads_behind reads asked told ≡ cond (shows_read told) (entered reads asked) reads
behind-within reads asked (said.At number) h k = absurd (let never : ⊥ = cc in never)
behind-within reads asked (said.Committed number) h k = absurd (let never : ⊥ = cc in never)
behind-within reads asked said.Aborted h k = absurd (let never : ⊥ = cc in never)
behind-within reads asked _ h k = refl

-- one more reply of the session's
pub reads-push : (past : List Entry) (entry : Entry) → reads_after (past ++ entry ∷ []) ≡ reads_behind (reads_after past) entry.command entry.reply.said
reads-push past entry = fold_push (λ (reads : Option ReadSet) (e : Entry). reads_behind reads e.command e.reply.said) None past entry

-- A reply that shows no snapshot opens nothing checked.
opens-nothing : (asked : Command) (told : Said) → snapshot_in told ≡ None → (begins_checked asked && is_some (snapshot_in told)) ≡ false
opens-nothing asked told none = ap (λ (o : Option ℕ). begins_checked asked && is_some o) none ∙ go (begins_checked asked)
  where
    go : (b : Bool) → (b && false) ≡ false
    go true = refl
    go false = refl

-- What is told by one more reply, if anything is, is among what is told by all.
told-push : (what : Read) (replies : List Entry) (entry : Entry)
    → list_any (is_read what) (reads_told (replies ++ entry ∷ [])) ≡ (list_any (is_read what) (reads_told replies) || option_map_or (is_read what) (read_told entry.command entry.reply.said) false)
told-push what replies entry =
    ap (list_any (is_read what)) (filter_map-append (λ (e : Entry). read_told e.command e.reply.said) replies (entry ∷ []))
    ∙ list_any-append (is_read what) (reads_told replies) (cons_option (read_told entry.command entry.reply.said) [])
    ∙ ap (λ (b : Bool). list_any (is_read what) (reads_told replies) || b) (one (read_told entry.command entry.reply.said))
  where
    one : (o : Option Read) → list_any (is_read what) (cons_option o []) ≡ option_map_or (is_read what) o false
    one None = refl
    one (Some r) = or-false (is_read what r)

-- Two tests may change places.
or-swap : (a b : Bool) → (a || b) ≡ (b || a)
or-swap true true = refl
or-swap true false = refl
or-swap false true = refl
or-swap false false = refl

-- The reads of a set with what is told, or nothing, are those that it had and this.
any-told : (what : Read) (set : ReadSet) (asked : Option Read)
    → list_any (is_read what) (reads_in (option_map_or (λ r. with_read r set) asked set)) ≡ (list_any (is_read what) (reads_in set) || option_map_or (is_read what) asked false)
any-told what set None = sym (or-false (list_any (is_read what) (reads_in set)))
any-told what set (Some r) = any-more what r set ∙ or-swap (is_read what r) (list_any (is_read what) (reads_in set))

-- One more reply that neither opens nor ends leaves the reads those that are told.
pub reads-go_on : (reads : Option ReadSet) (replies : List Entry) (entry : Entry) → snapshot_in entry.reply.said ≡ None → is_end entry.reply.said ≡ false
    → ReadsAre reads replies → ReadsAre (reads_behind reads entry.command entry.reply.said) (replies ++ entry ∷ [])
reads-go_on reads replies entry none on h =
    subst (λ (r : Option ReadSet). ReadsAre r (replies ++ entry ∷ [])) (sym (behind-within reads entry.command entry.reply.said none on)) (by (shows_read entry.reply.said) reads refl h)
  where
    more : list_any opens_checked (replies ++ entry ∷ []) ≡ list_any opens_checked replies
    more =
        list_any-append opens_checked replies (entry ∷ [])
        ∙ ap (λ (b : Bool). list_any opens_checked replies || (b || false)) (opens-nothing entry.command entry.reply.said none)
        ∙ or-false (list_any opens_checked replies)

    by : (b : Bool) (r : Option ReadSet) → shows_read entry.reply.said ≡ b → ReadsAre r replies → ReadsAre (cond b (entered r entry.command) r) (replies ++ entry ∷ [])
    by true None shows before = more ∙ before
    by false None shows before = more ∙ before
    by true (Some set) shows before = (
      more ∙ before.0,
      λ what. any-told what set (read_asked entry.command)
          ∙ ap (λ (b : Bool). b || option_map_or (is_read what) (read_asked entry.command) false) (before.1 what)
          ∙ sym (told-push what replies entry ∙ ap (λ (b : Bool). list_any (is_read what) (reads_told replies) || option_map_or (is_read what) (cond b (read_asked entry.command) None) false) shows),
    )
    by false (Some set) shows before = (
      more ∙ before.0,
      λ what. before.1 what
          ∙ sym (told-push what replies entry ∙ ap (λ (b : Bool). list_any (is_read what) (reads_told replies) || option_map_or (is_read what) (cond b (read_asked entry.command) None) false) shows
          ∙ or-false (list_any (is_read what) (reads_told replies))),
    )

-- A begin opens a transaction that read nothing, checked or not.
pub reads-begin : (reads : Option ReadSet) (entry : Entry) (count : ℕ) → entry.reply.said ≡ said.At count → ReadsAre (reads_behind reads entry.command entry.reply.said) (entry ∷ [])
reads-begin reads entry count is =
    subst (λ (r : Option ReadSet). ReadsAre r (entry ∷ [])) (sym (ap (reads_behind reads entry.command) is)) (by (begins_checked entry.command) refl)
  where
    opens : list_any opens_checked (entry ∷ []) ≡ begins_checked entry.command
    opens = or-false (opens_checked entry) ∙ ap (λ (told : Said). begins_checked entry.command && is_some (snapshot_in told)) is ∙ and-true (begins_checked entry.command)

    by : (b : Bool) → begins_checked entry.command ≡ b → ReadsAre (cond b (Some no_reads) None) (entry ∷ [])
    by true checked = (opens ∙ checked, λ what. sym (ap (λ (told : Said). list_any (is_read what) (cons_option (read_told entry.command told) [])) is))
    by false checked = opens ∙ checked
