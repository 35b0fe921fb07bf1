-- An export comes about at its last read: what it told is of its snapshot.
use Rattle.std.proofs.Common.{◌≡◌, ◌⊎◌, ℕ, ℤ, suc, ◌+◌, ◌*◌, ◌<◌, ◌≤◌, ◌^◌, nat_lt, Bool, true, false, cond, ◌==◌, List, [], ◌∷◌, ◌++◌, length, map, Option, None, Some, Ordering, Less, Equal, Greater, option_map, is_some, refl, sym, ap, ◌∙◌, subst, arith, length-append}
use mathlib.Core.Logic.{inl, inr}
use Rattle.std.specs.Prelude.{count_by, find, slice_get}
use Rattle.std.specs.BTreeMap.{insert_entry}
use Rattle.std.specs.Cmp.{nat_cmp_is}
use Rattle.std.specs.List.{cons_option, flat_map, list_any, range_with_len}
use Rattle.std.specs.Map.{keys_of, remove_entry}
use Rattle.std.specs.Ordering.{int_cmp, is_eq, match_ordering, nat_cmp, ordering_then}
use Rattle.std.proofs.lemmas.Bool.Decides.{nat_tests}
use Rattle.std.proofs.lemmas.List.{length-map}
use Rattle.std.proofs.lemmas.List.Sums.{sum_by-cons}
use Rattle.std.proofs.lemmas.List.FromFn.{length-range_with_len}
use Rattle.std.proofs.lemmas.Option.{same_Some}
use Rattle.block_spec.specs.Slots.{Row}
use Rattle.cell_model.specs.declared.cell.Cell.{Cell}
use Rattle.core_laws.proofs.Events.Lists.{map_member, member_map}
use Rattle.core_laws.proofs.Events.Owners.{all_open}
use Rattle.event_spec.specs.declared.event.Event.TheVariants as event
use Rattle.event_spec.specs.declared.own.OwnTransaction.{OwnTransaction}
use Rattle.event_spec.specs.Effects.{CoreEvent}
use Rattle.event_spec.specs.Lawful.{Among}
use Rattle.event_spec.specs.Parts.{Parts, below, blocks_of, slots_of}
use Rattle.event_spec.specs.Replies.{CoreReply}
use Rattle.isolation_spec.specs.Contents.{State, WriteSet, contents_of, is_place, laid_over, place_cmp, state_at, with_write}
use Rattle.isolation_spec.specs.Machine.{IsolationMachine, Transaction, seen_rows, transaction_of}
use Rattle.isolation_spec.specs.declared.place.Place.{Place}
use Rattle.outcome_spec.specs.Entries.{Entry}
use Rattle.outcome_spec.specs.Forms.{is_upkeep, is_worker}
use Rattle.outcome_spec.specs.Upkeep.{freezes_in, rows_in}
use Rattle.isolation_spec.specs.Contents.{least_key}
use Rattle.timeline_spec.specs.Timeline.{Exports, ExportsBy, ExportsWithin}
use Rattle.workload_spec.specs.declared.command.Command.TheVariants as command
use Rattle.workload_spec.specs.declared.reply.Said.{Said}
use Rattle.workload_spec.specs.declared.reply.Said.TheVariants as said
use Rattle.workload_spec.specs.declared.script.Script.{Script}
use Rattle.workload_spec.specs.Valid.{is_command}
use Rattle.run_spec.specs.Asked.{at_blocks, events_of}
use Rattle.run_spec.specs.Calls.{Call, IsCall, IsCallBy, is_refused}
use Rattle.run_spec.specs.Occurrences.{Occurrence, events_in, replies_in}
use Rattle.run_spec.specs.Opened.{least_written, own_after}
use Rattle.run_spec.specs.Ran.{IsRunnable, shape_of}
use Rattle.run_spec.specs.Told.{is_shared, is_some_row, line_of, refusal_of, rows_told, summary_of}
use Rattle.run_laws.specs.Calls.Coming.{is_single}
use Rattle.run_laws.specs.Calls.Open.{OpenAs}
use Rattle.run_laws.proofs.Told.Splits.{heads, none_some, tails}
use Rattle.run_laws.proofs.Moments.Seats.{either, session_at}
use Rattle.run_laws.proofs.Explained.Counting.{blocks_same, slots_same}
use Rattle.run_laws.proofs.Explained.Keys.{least_same, some_list}
use Rattle.run_laws.proofs.Explained.Scripts.{session_asked, worker_upkeep}
use Rattle.run_laws.proofs.Explained.Shown.{shown}
use Rattle.run_laws.proofs.Explained.Taking.{Ended, Scanned, has_table, none_open, one_open, owns_it, scanned, stand, stays}

-- What is true is not false.
true_false : true ≡ false → ⊥
true_false e = cc

-- What is told as one of two lines and as the other is one line.
same_line : (a b : Said) → Some a ≡ Some b → a ≡ b
same_line a b e = cc

-- ---- writes of other tables

-- Numbers of tables that compare as equal are equal.
other_table : (a b : ℕ) → nat_cmp a b ≡ Equal → a ≡ b
other_table a b e = go (nat_lt a b) (nat_lt b a) refl refl
  where
    go : (x y : Bool) → nat_lt a b ≡ x → nat_lt b a ≡ y → a ≡ b
    go true y f g = absurd (let never : Less ≡ Equal = nat_cmp_is a b Less (grind (arith, nat_tests, f)) ∙ e in let no : ⊥ = cc in no)
    go false true f g = absurd (let never : Greater ≡ Equal = nat_cmp_is a b Greater (grind (arith, nat_tests, g)) ∙ e in let no : ⊥ = cc in no)
    go false false f g = grind (arith, nat_tests, f, g)

-- Where one ordering and then another is equal, the first is.
first_equal : (r s : Ordering) → ordering_then r s ≡ Equal → r ≡ Equal
first_equal Less s e = absurd (let never : ⊥ = cc e in never)
first_equal Equal s e = refl
first_equal Greater s e = absurd (let never : ⊥ = cc e in never)

-- An ordering that is tested to be equal is equal.
equal_is : (r : Ordering) → is_eq r ≡ true → r ≡ Equal
equal_is Less e = absurd (true_false (sym e))
equal_is Equal e = refl
equal_is Greater e = absurd (true_false (sym e))

-- Places that compare as equal are of the same table.
same_table : (a b : Place) → place_cmp a b ≡ Equal → a.table ≡ b.table
same_table a b e = other_table a.table b.table (first_equal (nat_cmp a.table b.table) (int_cmp a.key b.key) e)

module _ (table : ℕ) where
  -- A row at a place of another table is not of this one's contents.
  skipped : (place : Place) (row : List Cell) (rows : State) → (place.table == table) ≡ false → contents_of table ((place, row) ∷ rows) ≡ contents_of table rows
  skipped place row rows other = ap (λ b. cons_option (cond b (Some row) None) (contents_of table rows)) other

  -- A row put into another table leaves this table's contents.
  insert_skips : (rows : State) (place : Place) (row : List Cell) → (place.table == table) ≡ false → contents_of table (insert_entry place_cmp rows place row) ≡ contents_of table rows
  insert_skips [] place row other = skipped place row [] other
  insert_skips (e ∷ rows) place row other = go (place_cmp place e.0) refl (insert_skips rows place row other)
    where
      go : (r : Ordering) → place_cmp place e.0 ≡ r → contents_of table (insert_entry place_cmp rows place row) ≡ contents_of table rows
          → contents_of table (match_ordering r ((place, row) ∷ e ∷ rows) ((e.0, row) ∷ rows) (e ∷ insert_entry place_cmp rows place row)) ≡ contents_of table (e ∷ rows)
      go Less is rest = skipped place row (e ∷ rows) other
      go Equal is rest =
          let there : (e.0.table == table) ≡ false = ap (λ t. t == table) (sym (same_table place e.0 is)) ∙ other in
          skipped e.0 row rows there ∙ sym (skipped e.0 e.1 rows there)
      go Greater is rest = ap (λ rs. cons_option (cond (e.0.table == table) (Some e.1) None) rs) rest

  -- To remove a place of another table leaves this one's contents.
  remove_skips : (rows : State) (place : Place) → (place.table == table) ≡ false → contents_of table (remove_entry (is_place place) rows) ≡ contents_of table rows
  remove_skips [] place other = refl
  remove_skips (e ∷ rows) place other = go (is_place place e.0) refl (remove_skips rows place other)
    where
      go : (b : Bool) → is_place place e.0 ≡ b → contents_of table (remove_entry (is_place place) rows) ≡ contents_of table rows
          → contents_of table (cond b rows (e ∷ remove_entry (is_place place) rows)) ≡ contents_of table (e ∷ rows)
      go true is rest = sym (skipped e.0 e.1 rows (ap (λ t. t == table) (sym (same_table place e.0 (equal_is (place_cmp place e.0) is))) ∙ other))
      go false is rest = ap (λ rs. cons_option (cond (e.0.table == table) (Some e.1) None) rs) rest

  -- A write at a place of another table leaves this one's contents.
  write_skips : (rows : State) (place : Place) (value : Option (List Cell)) → (place.table == table) ≡ false → contents_of table (with_write rows place value) ≡ contents_of table rows
  write_skips rows place (Some row) other = insert_skips rows place row other
  write_skips rows place None other = remove_skips rows place other

  -- a write set without a key of the table leaves what it has
  contents_same : (writes : WriteSet) (rows : State) → least_key table writes ≡ None → contents_of table (laid_over rows writes) ≡ contents_of table rows
  contents_same [] rows none = refl
  contents_same (w ∷ writes) rows none = go (w.0.table == table) refl none (contents_same writes (with_write rows w.0 w.1))
    where
      go : (b : Bool) → (w.0.table == table) ≡ b
          → option_map (λ (write : Place × Option (List Cell)). write.0.key) (cond b (Some w) (find (λ (write : Place × Option (List Cell)). write.0.table == table) writes)) ≡ None
          → (least_key table writes ≡ None → contents_of table (laid_over (with_write rows w.0 w.1) writes) ≡ contents_of table (with_write rows w.0 w.1))
          → contents_of table (laid_over (with_write rows w.0 w.1) writes) ≡ contents_of table rows
      go true is none rest = absurd (let never : ⊥ = cc none in never)
      go false is none rest = rest none ∙ write_skips rows w.0 w.1 is

-- ---- counts of replies

-- With one element more, one more passes a test where this one does.
count_more : {X : Type 0} (p : X → Bool) (x : X) (xs : List X) → count_by p (x ∷ xs) ≡ cond {A = ℕ} (p x) 1 0 + count_by p xs
count_more p x xs = sum_by-cons (λ y. cond {A = ℕ} (p y) 1 0) x xs

-- no more of a list pass a test than there are
pub count_few : {X : Type 0} (p : X → Bool) (xs : List X) → count_by p xs ≤ length xs
count_few p [] = omega arith
count_few p (x ∷ xs) = let one = count_more p x xs in let rest = count_few p xs in let few = most (p x) in omega (arith, one, rest, few)
  where
    most : (b : Bool) → cond {A = ℕ} b 1 0 ≤ 1
    most true = omega arith
    most false = omega arith

-- the reply tells a row at least
abbrev pub has_rows : CoreReply → Bool
has_rows told = is_some_row (rows_told told)

-- Rows that are some are one at least.
one_row : (rows : List Row) → cond {A = ℕ} (is_some_row rows) 1 0 ≤ length rows
one_row [] = omega arith
one_row (row ∷ rows) = omega arith

-- each block with a row has one
rows_least : (ys : List CoreReply) → count_by has_rows ys ≤ length (flat_map rows_told ys)
rows_least [] = omega arith
rows_least (y ∷ ys) =
    let one = count_more has_rows y ys in
    let rest = rows_least ys in
    let here = one_row (rows_told y) in
    let all : length (rows_told y ++ flat_map rows_told ys) ≡ length (rows_told y) + length (flat_map rows_told ys) = length-append (rows_told y) (flat_map rows_told ys) in
    omega (arith, one, rest, here, all)

-- Rows that are at most so many are at most so many where some are, and none else.
rows_by : (rows : List Row) (w : ℕ) → length rows ≤ w → length rows ≤ cond {A = ℕ} (is_some_row rows) 1 0 * w
rows_by [] w few = omega arith
rows_by (row ∷ rows) w few = let m : 1 * w ≡ w = grind arith in omega (arith, few, m)

-- and no more than its slots
pub rows_most : (ys : List CoreReply) (w : ℕ) → ((y : CoreReply) → Among y ys → length (rows_told y) ≤ w) → length (flat_map rows_told ys) ≤ count_by has_rows ys * w
rows_most [] w each = omega arith
rows_most (y ∷ ys) w each =
    let one = count_more has_rows y ys in
    let rest = rows_most ys w (λ z a. each z (inr a)) in
    let here = rows_by (rows_told y) w (each y (inl refl)) in
    let all : length (rows_told y ++ flat_map rows_told ys) ≡ length (rows_told y) + length (flat_map rows_told ys) = length-append (rows_told y) (flat_map rows_told ys) in
    let m : count_by has_rows (y ∷ ys) * w ≡ cond {A = ℕ} (has_rows y) 1 0 * w + count_by has_rows ys * w =
    ap (λ n. n * w) one ∙ spread (cond {A = ℕ} (has_rows y) 1 0) (count_by has_rows ys) in
    omega (arith, rest, here, all, m)
  where
    spread : (a b : ℕ) → (a + b) * w ≡ a * w + b * w
    spread a b = grind arith

-- an image has rows
images_few : (ys : List CoreReply) → ((y : CoreReply) → Among y ys → is_shared y ≡ true → is_some_row (rows_told y) ≡ true) → count_by is_shared ys ≤ count_by has_rows ys
images_few [] each = omega arith
images_few (y ∷ ys) each =
    let one = count_more has_rows y ys in
    let other = count_more is_shared y ys in
    let rest = images_few ys (λ z a. each z (inr a)) in
    let here = go (is_shared y) (has_rows y) (each y (inl refl)) in
    omega (arith, one, other, rest, here)
  where
    go : (a b : Bool) → (a ≡ true → b ≡ true) → cond {A = ℕ} a 1 0 ≤ cond {A = ℕ} b 1 0
    go false true h = omega arith
    go false false h = omega arith
    go true true h = omega arith
    go true false h = absurd (true_false (sym (h refl)))

-- each image is of a block that was frozen in front
frozen_few : (own : OwnTransaction) (table : ℕ) (lines : List Entry) (made : List Occurrence) (blocks : List ℕ)
    → events_in made ≡ map (event.Read own table) blocks
    → ((o : Occurrence) (b : ℕ) → Among o made → o.event ≡ event.Read own table b → is_shared o.reply ≡ true → 1 ≤ freezes_in table b lines)
    → count_by is_shared (replies_in made) ≤ count_by (λ block. nat_lt 0 (freezes_in table block lines)) blocks
frozen_few own table lines [] [] e each = omega arith
frozen_few own table lines [] (b ∷ blocks) e each = absurd (none_some (event.Read own table b) (map (event.Read own table) blocks) e)
frozen_few own table lines (x ∷ made) [] e each = absurd (none_some x.event (events_in made) (sym e))
frozen_few own table lines (x ∷ made) (b ∷ blocks) e each =
    let one = count_more is_shared x.reply (replies_in made) in
    let other = count_more (λ block. nat_lt 0 (freezes_in table block lines)) b blocks in
    let rest = frozen_few own table lines made blocks (tails x.event (event.Read own table b) (events_in made) (map (event.Read own table) blocks) e) (λ o c a. each o c (inr a)) in
    let here = go (is_shared x.reply) refl (each x b (inl refl) (heads x.event (event.Read own table b) (events_in made) (map (event.Read own table) blocks) e)) in
    omega (arith, one, other, rest, here)
  where
    go : (a : Bool) → is_shared x.reply ≡ a → (is_shared x.reply ≡ true → 1 ≤ freezes_in table b lines) → cond {A = ℕ} a 1 0 ≤ cond {A = ℕ} (nat_lt 0 (freezes_in table b lines)) 1 0
    go false is h = omega arith
    go true is h =
        let low = h is in
        let less : nat_lt 0 (freezes_in table b lines) ≡ true = grind (arith, nat_tests, low) in
        let one : cond {A = ℕ} (nat_lt 0 (freezes_in table b lines)) 1 0 ≡ 1 = ap (λ x. cond {A = ℕ} x 1 0) less in
        omega (arith, one)

-- each event has a reply
pub replies_long : (made : List Occurrence) → length (replies_in made) ≡ length (events_in made)
replies_long [] = refl
replies_long (x ∷ made) = ap suc (replies_long made)

-- ---- an export that ended

module _ (script : Script) (valid : IsRunnable script) (seat : ℕ) (parts : Parts) (front : List Occurrence) (at next : IsolationMachine) (call : Call)
    (ended : Ended script seat parts front at next call) (table : ℕ) (is : call.command ≡ command.Export table) where
  -- an export is asked of a session, not of a worker
  pub export_low : seat ≤ script.sessions
  export_low = go (either script seat)
    where
      go : (seat ≤ script.sessions) ⊎ (script.sessions < seat) → seat ≤ script.sessions
      go (inl low) = low
      go (inr high) = let never : false ≡ true = ap is_upkeep (sym is) ∙ worker_upkeep script seat call.command high ended.asked in absurd (let no : ⊥ = cc in no)

  -- The table that is exported is one of the script's.
  has : is_some (slice_get script.tables table) ≡ true
  has = ap (is_command script.tables) (sym is) ∙ session_asked script valid.valid seat call.command export_low ended.asked

  -- one that was made as a whole
  module _ (own : OwnTransaction) (mine : own_after ended.began ≡ Some own) (events : events_in call.made ≡ at_blocks (shape_of script) table (event.Read own table))
      (granted : list_any is_refused call.made ≡ false) where
    reads : Scanned script valid seat parts front at next call ended own table
    reads = scanned script valid seat parts front at next call ended own table mine (ap is_single is) has events granted

    -- the occurrence of a reply, and its block
    read_of : (y : CoreReply) → Among y (replies_in call.made) → (o : Occurrence) × (b : ℕ) × Among o call.made × (y ≡ o.reply) × (o.event ≡ event.Read own table b)
    read_of y a =
        let o = map_member (λ (o : Occurrence). o.reply) call.made y a in
        let b = map_member (event.Read own table) (below (blocks_of (shape_of script) table)) o.0.event
        (subst (Among o.0.event) events (member_map (λ (o : Occurrence). o.event) call.made o.0 o.1)) in
        (o.0, b.0, o.1, o.2, b.2)

    -- each read of a block tells no more rows than it has slots
    pub read_few : (y : CoreReply) → Among y (replies_in call.made) → length (rows_told y) ≤ slots_of (shape_of script) table
    read_few y a =
        let r = read_of y a in
        let few = (stand script valid seat parts front at next call ended own table (below (blocks_of (shape_of script) table)) events r.0 r.2 own table r.1 r.4).few in
        let same = ap (λ r. length (rows_told r)) r.3 in
        omega (arith, few, same)

    read_some : (y : CoreReply) → Among y (replies_in call.made) → is_shared y ≡ true → is_some_row (rows_told y) ≡ true
    read_some y a shared =
        let r = read_of y a in
        ap (λ r. is_some_row (rows_told r)) r.3
        ∙ (stand script valid seat parts front at next call ended own table (below (blocks_of (shape_of script) table)) events r.0 r.2 own table r.1 r.4).some (ap is_shared (sym r.3) ∙ shared)

    -- the export read each block of the table once
    pub read_long : length (replies_in call.made) ≡ blocks_of (shape_of script) table
    read_long =
        replies_long call.made ∙ ap (λ (es : List CoreEvent). length es) events
        ∙ length-map (below (blocks_of (shape_of script) table)) (event.Read own table) ∙ length-range_with_len 0 (blocks_of (shape_of script) table)

    -- its snapshot is one of a commit that there was
    pub number_low : own.snapshot.number < 2 ^ 64
    number_low =
        let low = valid.shape.blocks table (has_table script.tables table has) in
        let open' = all_open (shape_of script) parts ended.ok own (owns_it script valid seat parts front at next call ended own table (omega (arith, low)) events) in
        let bound = (ended.follows.follows.desked.bounds own.session own.snapshot open'.counted open'.is_open).1 in
        let c = ended.narrow.commits in let n = ended.narrow.stamps in
        omega (arith, bound, c, n)

    exports : (lines : List Entry) (t : Transaction) → transaction_of seat at ≡ Some t → least_written table own ≡ None
        → ((o : Occurrence) (b : ℕ) → Among o call.made → o.event ≡ event.Read own table b → is_shared o.reply ≡ true → 1 ≤ freezes_in table b lines)
        → Exports script.tables lines at t table own.snapshot.number (length (flat_map rows_told (replies_in call.made))) (count_by has_rows (replies_in call.made)) (count_by is_shared (replies_in call.made))
    exports lines t open' clean frozen =
        let keeps : next ≡ at = stays script valid seat parts front at next call ended (ap is_single is) in
        let same : reads.t ≡ t = same_Some reads.t t (sym reads.is ∙ ap (transaction_of seat) keeps ∙ open') in
        let keys : keys_of own.writes ≡ keys_of t.own = some_list (keys_of own.writes) (keys_of t.own)
        (ap (λ o. option_map (λ (t : OwnTransaction). keys_of t.writes) o) (sym mine) ∙ ended.keys.places ∙ ap (λ o. option_map (λ (t : Transaction). keys_of t.own) o) open') in
        let none : least_key table t.own ≡ None = sym (least_same table own t keys) ∙ clean in
        let all = rows_most (replies_in call.made) (slots_of (shape_of script) table) read_few in
        let blocks = blocks_same (shape_of script) table in
        let few = count_few has_rows (replies_in call.made) in
        let long = read_long in
        record {
          clean = none;
          snapshot = same_Some own.snapshot.number t.snapshot
              (ap (λ o. option_map (λ (t : OwnTransaction). t.snapshot.number) o) (sym mine) ∙ ended.open'.snapshot ∙ ap (λ o. option_map (λ (t : Transaction). t.snapshot) o) open');
          rows_are = reads.count
              ∙ ap (λ m. length (contents_of table (seen_rows m reads.t))) keeps
              ∙ ap (λ t. length (contents_of table (seen_rows at t))) same
              ∙ ap (λ (rows : List Row). length rows) (contents_same table t.own (state_at at.history t.snapshot) none);
          some_rows = rows_least (replies_in call.made);
          full_blocks = subst (λ n. length (flat_map rows_told (replies_in call.made)) ≤ count_by has_rows (replies_in call.made) * n)
              (sym (slots_same (shape_of script) table)) all;
          blocks = omega (arith, few, long, blocks);
          images = images_few (replies_in call.made) read_some;
          were_frozen = subst (λ n. count_by is_shared (replies_in call.made) ≤ count_by (λ block. nat_lt 0 (freezes_in table block lines)) (range_with_len 0 n))
              (sym (blocks_same (shape_of script) table))
              (frozen_few own table lines call.made (below (blocks_of (shape_of script) table)) events frozen);
        }

  -- what it told
  pub exports_by : (lines : List Entry) (line : Said) → call.told ≡ Some line
      → ((o : Occurrence) → Among o call.made → (own : OwnTransaction) (t b : ℕ) → o.event ≡ event.Read own t b → is_shared o.reply ≡ true → 1 ≤ freezes_in t b lines + shown (rows_in t b) call.told)
      → ExportsBy script.tables lines at (transaction_of seat at) table line
  exports_by lines line tells frozen = go (own_after ended.began) refl
      (subst (λ w. IsCall (shape_of script) w seat ended.began call) (ap is_worker (session_at script seat export_low)) ended.is_call)
    where
      within : (own : OwnTransaction) → own_after ended.began ≡ Some own → (t : Transaction) → transaction_of seat at ≡ Some t
          → (r : Option ℤ) → least_written table own ≡ r → IsCallBy (shape_of script) false seat (own_after ended.began) (option_map said.Dirty r) call
          → ExportsWithin script.tables lines at t table line
      within own mine t open' (Some key) least h =
          subst (ExportsWithin script.tables lines at t table) (same_line (said.Dirty key) line (sym h.1 ∙ tells))
          (sym (least_same table own t (some_list (keys_of own.writes) (keys_of t.own)
          (ap (λ o. option_map (λ (t : OwnTransaction). keys_of t.writes) o) (sym mine) ∙ ended.keys.places ∙ ap (λ o. option_map (λ (t : Transaction). keys_of t.own) o) open'))) ∙ least)
      within own mine t open' None least (inr p) = subst (ExportsWithin script.tables lines at t table) (same_line said.Memory line (sym p.line ∙ tells)) tt
      within own mine t open' None least (inl w) =
          let events : events_in call.made ≡ at_blocks (shape_of script) table (event.Read own table) =
          w.events ∙ ap (λ c. events_of (shape_of script) (own_after ended.began) call.reads seat c call.made) is ∙ ap (λ o. events_of (shape_of script) o call.reads seat (command.Export table) call.made) mine in
          let told : call.told ≡ Some (summary_of own (replies_in call.made)) =
          w.line ∙ ap (λ c. line_of (own_after ended.began) c (replies_in call.made)) is ∙ ap (λ o. line_of o (command.Export table) (replies_in call.made)) mine in
          subst (ExportsWithin script.tables lines at t table) (same_line (summary_of own (replies_in call.made)) line (sym told ∙ tells))
          (exports own mine events w.granted lines t open' least
          (λ o b a read shared.
          let low = frozen o a own table b read shared in
          let none : shown (rows_in table b) call.told ≡ 0 = ap (shown (rows_in table b)) told in
          omega (arith, low, none)))

      go : (o : Option OwnTransaction) → own_after ended.began ≡ o → IsCallBy (shape_of script) false seat (own_after ended.began) (refusal_of call.command (own_after ended.began)) call
          → ExportsBy script.tables lines at (transaction_of seat at) table line
      go None mine h =
          let r : (call.made ≡ []) × (call.told ≡ Some said.NoTransaction) =
          subst (λ r. IsCallBy (shape_of script) false seat (own_after ended.began) r call) (ap (λ c. refusal_of c (own_after ended.began)) is ∙ ap (refusal_of (command.Export table)) mine) h in
          subst (λ o. ExportsBy script.tables lines at o table line) (sym (none_open seat at (subst (λ o. OpenAs seat o (transaction_of seat at)) mine ended.open')))
          (same_line line said.NoTransaction (sym tells ∙ r.1))
      go (Some own) mine h =
          let t = one_open seat at own (subst (λ o. OpenAs seat o (transaction_of seat at)) mine ended.open') in
          subst (λ o. ExportsBy script.tables lines at o table line) (sym t.1)
          (within own mine t.0 t.1 (least_written table own) refl
          (subst (λ r. IsCallBy (shape_of script) false seat (own_after ended.began) r call) (ap (λ c. refusal_of c (own_after ended.began)) is ∙ ap (refusal_of (command.Export table)) mine) h))
