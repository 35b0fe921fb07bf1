-- Checked transactions are serial.
use Rattle.std.proofs.Common.{◌≡◌, ℕ, ◌+◌, ◌-◌, ◌<◌, Bool, true, false, ◌&&◌, ◌||◌, not, nat_le, List, [], ◌∷◌, ◌++◌, Option, None, Some, get_or, map, fold, All, refl, sym, ap, ◌∙◌, arith, option_map, inl, inr}
use Rattle.std.specs.BTreeMap.{insert_entry}
use Rattle.std.specs.Prelude.{option_and_then}
use Rattle.std.specs.List.{cons_option, filter_map, list_all}
use Rattle.std.specs.Option.{option_map_or}
use Rattle.std.proofs.lemmas.Bool.{and_parts}
use Rattle.std.proofs.lemmas.List.Elements.{All-append, All-nil, All-cons}
use Rattle.cell_model.specs.declared.cell.Cell.{Cell}
use Rattle.isolation_spec.specs.Contents.{place_cmp, at_place, WriteSet}
use Rattle.isolation_spec.specs.declared.place.Place.{Place}
use Rattle.isolation_spec.specs.declared.read.Read.{Read}
use Rattle.isolation_spec.specs.Machine.{writes_place, later_writers}
use Rattle.isolation_spec.specs.Reads.{meets}
use Rattle.workload_spec.specs.declared.reply.Said.TheVariants as said
use Rattle.workload_spec.specs.declared.reply.Said.{Said}
use Rattle.outcome_spec.specs.Answers.{read_holds, reads_hold, write_holds, writes_hold, is_acceptable}
use Rattle.outcome_spec.specs.Conflicts.{conflict_holds, conflicts_hold, is_clear, is_first_updater}
use Rattle.outcome_spec.specs.Entries.{Entry, before, commit_in}
use Rattle.outcome_spec.specs.Explained.{is_sound}
use Rattle.outcome_spec.specs.Numbers.{commit_numbers_hold, snapshot_numbers_hold}
use Rattle.outcome_spec.specs.Runs.{Run, Span, transaction_of, transaction_with, writes_in, write_of, accepted_write, committed_writes, commit_line}
use Rattle.outcome_spec.specs.Stale.{is_checked, read_told, reads_stand, meeting, stale_holds, reads_last}
use Rattle.outcome_spec.specs.Upkeep.{freezing_holds, full_holds, exports_hold, upkeep_holds}
use Rattle.isolation_spec.specs.Order.{InOrder}
use Rattle.serial_laws.specs.Serial.{Among, seen_from, IsOf, CommitsAs, IsServed}
use Rattle.isolation_laws.proofs.Overlays.{order-insert}
use Rattle.serial_laws.proofs.Meets.{read-moves, accept-moves, untouched, meets-none, read-seen, place-seen, now, then}

-- what all pass, each does
all-among : {X : Type 0} (p : X → Bool) (x : X) (xs : List X) → Among x xs → list_all p xs ≡ true → p x ≡ true
all-among p x [] in' all = elim in' [ ]
all-among p x (y ∷ ys) (inl is) all = ap p is ∙ (and_parts (p y) (list_all p ys) all).0
all-among p x (y ∷ ys) (inr in') all = all-among p x ys in' (and_parts (p y) (list_all p ys) all).1

-- what all that are told pass, each does
told-among : {X Y : Type 0} (f : X → Option Y) (p : Y → Bool) (x : X) (y : Y) (xs : List X) → Among x xs → f x ≡ Some y → list_all p (filter_map f xs) ≡ true → p y ≡ true
told-among {X} {Y} f p x y [] in' e all = elim in' [ ]
told-among {X} {Y} f p x y (z ∷ zs) (inl is) e all = go (f z) refl all
  where
    go : (o : Option Y) → f z ≡ o → list_all p (filter_map f (z ∷ zs)) ≡ true → p y ≡ true
    go None none a = let never : None ≡ Some y = sym none ∙ ap f (sym is) ∙ e in cc
    go (Some w) some a =
        let same : Some w ≡ Some y = sym some ∙ ap f (sym is) ∙ e in
        let here : w ≡ y = cc in
        let parts : (p w && list_all p (filter_map f zs)) ≡ true = sym (ap (λ (o : Option Y). list_all p (cons_option o (filter_map f zs))) some) ∙ a in
        ap p (sym here) ∙ (and_parts (p w) (list_all p (filter_map f zs)) parts).0
told-among {X} {Y} f p x y (z ∷ zs) (inr in') e all = told-among f p x y zs in' e (go (f z) refl all)
  where
    go : (o : Option Y) → f z ≡ o → list_all p (filter_map f (z ∷ zs)) ≡ true → list_all p (filter_map f zs) ≡ true
    go None none a = sym (ap (λ (o : Option Y). list_all p (cons_option o (filter_map f zs))) none) ∙ a
    go (Some w) some a =
        let parts : (p w && list_all p (filter_map f zs)) ≡ true = sym (ap (λ (o : Option Y). list_all p (cons_option o (filter_map f zs))) some) ∙ a in
        (and_parts (p w) (list_all p (filter_map f zs)) parts).1

-- ---- write sets in order

-- writes entered one after another stand in order
entered-order : (own : WriteSet) (ws : List (Place × Option (List Cell))) → InOrder own
    → InOrder (fold (λ writes (write : Place × Option (List Cell)). insert_entry place_cmp writes write.0 write.1) own ws)
entered-order own [] order = order
entered-order own (w ∷ ws) order = entered-order (insert_entry place_cmp own w.0 w.1) ws (order-insert own w.0 w.1 order)

-- what replies wrote is in order
pub writes-order : (entries : List Entry) → InOrder (writes_in entries)
writes-order entries = entered-order [] (filter_map accepted_write entries) tt

-- the write set of a number is in order
committed-order : (entries : List Entry) (spans : List Span) (number : ℕ) → InOrder (committed_writes entries spans number)
committed-order entries spans number = go (option_and_then (transaction_with spans) (commit_line entries number))
  where
    go : (found : Option Span) → InOrder (option_map_or (λ (t : Span). writes_in t.replies) found [])
    go None = tt
    go (Some t) = writes-order t.replies

-- so is each of a history
history-order : (entries : List Entry) (spans : List Span) (numbers : List ℕ) → All InOrder (map (committed_writes entries spans) numbers)
history-order entries spans [] = All-nil InOrder
history-order entries spans (n ∷ ns) = All-cons InOrder (committed_writes entries spans n) (map (committed_writes entries spans) ns) (committed-order entries spans n) (history-order entries spans ns)

-- So are those of an output over a store that began with write sets in order.
pub shown-order : (run : Run) → All InOrder run.first → (numbers : List ℕ) → All InOrder (run.first ++ map (committed_writes run.entries run.transactions) numbers)
shown-order run first numbers = All-append InOrder run.first (map (committed_writes run.entries run.transactions) numbers) first (history-order run.entries run.transactions numbers)

-- ---- the law

-- what is true of ten parts is true of some of them
third : (a b c d e f g h i j : Bool) → (a && b && c && d && e && f && g && h && i && j) ≡ true → (c ≡ true) × (d ≡ true) × (e ≡ true) × (j ≡ true)
third true true true true true true true true true true all = (refl, refl, refl, refl)
third true true true true true true true true true false all = cc
third true true true true true true true true false j all = cc
third true true true true true true true false i j all = cc
third true true true true true true false h i j all = cc
third true true true true true false g h i j all = cc
third true true true true false f g h i j all = cc
third true true true false e f g h i j all = cc
third true true false d e f g h i j all = cc
third true false c d e f g h i j all = cc
third false b c d e f g h i j all = cc

-- where one of two holds and the first doesn't, the second does
other : (a b : Bool) → a ≡ true → (not a || b) ≡ true → b ≡ true
other true b is h = h
other false b is h = cc

module _ (run : Run) (t : Span) (number : ℕ) (ordered : All InOrder run.history) (all : list_all (is_sound run) run.entries ≡ true)
    (checked : is_checked t ≡ true) (commit : CommitsAs run t number) (entry : Entry) (of : IsOf run t entry) where
  -- what is sound of a reply
  sound : (e : Entry) → Among e run.entries → (reads_hold run e ≡ true) × (writes_hold run e ≡ true) × (conflicts_hold run e ≡ true) × (reads_last run e ≡ true)
  sound e in' = third (commit_numbers_hold run e) (snapshot_numbers_hold run e) (reads_hold run e) (writes_hold run e) (conflicts_hold run e)
      (freezing_holds run e) (full_holds run e) (exports_hold run e) (upkeep_holds run e) (reads_last run e) (all-among (is_sound run) e run.entries in' all)

  -- how many commits lie between the snapshot and the commit
  abbrev d : ℕ
  d = number - 1 - t.snapshot

  -- the number in front of the commit's
  front : t.snapshot + d ≡ number - 1
  front = omega (arith, commit.above)

  last : t.snapshot + d + 1 ≡ number
  last = omega (arith, commit.above)

  -- its own writes before the reply
  abbrev own : WriteSet
  own = writes_in (before t.replies entry)

  -- no commit between wrote into a read of the transaction
  reads : reads_stand run t number ≡ true
  reads =
      let shown : option_map_or (λ (u : Span). stale_holds run u commit.ending commit.ending.reply.said) (transaction_of run commit.ending) true ≡ true = (sound commit.ending commit.is_of.printed).3 in
      let its : option_map_or (λ (u : Span). stale_holds run u commit.ending commit.ending.reply.said) (Some t) true ≡ true =
      sym (ap (λ (o : Option Span). option_map_or (λ (u : Span). stale_holds run u commit.ending commit.ending.reply.said) o true) commit.is_of.belongs) ∙ shown in
      let said' : stale_holds run t commit.ending (said.Committed (Some number)) ≡ true =
      sym (ap (stale_holds run t commit.ending) commit.said) ∙ its in
      other (is_checked t) (reads_stand run t number) checked said'

  -- nor wrote into one that the reply tells
  unmet : (what : Read) → read_told entry.command entry.reply.said ≡ Some what → (i : ℕ) → i < d → meets what (get_or run.history (t.snapshot + i) []) ≡ false
  unmet what told = untouched run.history (meets what) t.snapshot d number (meets-none what) last
      (told-among (λ (e : Entry). read_told e.command e.reply.said) (λ what. list_all (nat_le number) (meeting run t what)) entry what t.replies of.of told reads)

  -- the read shows the same from there
  read : read_holds (seen_from run t (number - 1) entry) entry.command entry.reply.said ≡ true
  read =
      let shown : option_map_or (λ (u : Span). read_holds (seen_from run u u.snapshot entry) entry.command entry.reply.said) (transaction_of run entry) true ≡ true = (sound entry of.printed).0 in
      let its : read_holds (seen_from run t t.snapshot entry) entry.command entry.reply.said ≡ true =
      sym (ap (λ (o : Option Span). option_map_or (λ (u : Span). read_holds (seen_from run u u.snapshot entry) entry.command entry.reply.said) o true) of.belongs) ∙ shown in
      ap (λ (m : ℕ). read_holds (seen_from run t m entry) entry.command entry.reply.said) (sym front)
      ∙ read-moves (now run.history ordered own (writes-order (before t.replies entry)) t.snapshot d) (then run.history ordered own (writes-order (before t.replies entry)) t.snapshot d)
      entry.command entry.reply.said (λ what told. read-seen run.history ordered own (writes-order (before t.replies entry)) t.snapshot d what (unmet what told))
      ∙ its

  -- an accepted write's place was written by no commit between
  alone : entry.reply.said ≡ said.Accepted → (write : Place × Option (List Cell)) → write_of entry.command ≡ Some write
      → (i : ℕ) → i < d → writes_place write.0 (get_or run.history (t.snapshot + i) []) ≡ false
  alone is write wrote =
      let shown = (sound entry of.printed).2 in
      let its : option_map_or (λ (u : Span). option_map_or (λ (w : Place × Option (List Cell)). conflict_holds run u w.0 entry entry.reply.said) (write_of entry.command) true) (Some t) true ≡ true =
      sym (ap (λ (o : Option Span). option_map_or (λ (u : Span). option_map_or (λ (w : Place × Option (List Cell)). conflict_holds run u w.0 entry entry.reply.said) (write_of entry.command) true) o true) of.belongs) ∙ shown in
      let here : conflict_holds run t write.0 entry said.Accepted ≡ true =
      sym (ap (λ (o : Option (Place × Option (List Cell))). option_map_or (λ (w : Place × Option (List Cell)). conflict_holds run t w.0 entry entry.reply.said) o true) wrote
      ∙ ap (conflict_holds run t write.0 entry) is) ∙ its in
      let first : is_first_updater run t write.0 ≡ true = (and_parts (is_clear run t write.0 entry) (is_first_updater run t write.0) here).1 in
      let line : option_map_or (λ (n : ℕ). list_all (nat_le n) (later_writers run.history t.snapshot write.0)) (option_and_then (λ (e : Entry). commit_in e.reply.said) (Some commit.ending)) true ≡ true =
      sym (ap (λ (o : Option Entry). option_map_or (λ (n : ℕ). list_all (nat_le n) (later_writers run.history t.snapshot write.0)) (option_and_then (λ (e : Entry). commit_in e.reply.said) o) true) commit.ends) ∙ first in
      let low : list_all (nat_le number) (later_writers run.history t.snapshot write.0) ≡ true =
      sym (ap (λ (told : Said). option_map_or (λ (n : ℕ). list_all (nat_le n) (later_writers run.history t.snapshot write.0)) (commit_in told) true) commit.said) ∙ line in
      untouched run.history (writes_place write.0) t.snapshot d number refl last low

  -- the write is accepted from there
  write : entry.reply.said ≡ said.Accepted → is_acceptable (seen_from run t (number - 1) entry) entry.command ≡ true
  write is =
      let shown : option_map_or (λ (u : Span). write_holds (is_acceptable (seen_from run u u.snapshot entry) entry.command) entry.reply.said) (transaction_of run entry) true ≡ true = (sound entry of.printed).1 in
      let its : write_holds (is_acceptable (seen_from run t t.snapshot entry) entry.command) entry.reply.said ≡ true =
      sym (ap (λ (o : Option Span). option_map_or (λ (u : Span). write_holds (is_acceptable (seen_from run u u.snapshot entry) entry.command) entry.reply.said) o true) of.belongs) ∙ shown in
      ap (λ (m : ℕ). is_acceptable (seen_from run t m entry) entry.command) (sym front)
      ∙ accept-moves (now run.history ordered own (writes-order (before t.replies entry)) t.snapshot d) (then run.history ordered own (writes-order (before t.replies entry)) t.snapshot d)
      entry.command (λ place wrote. by (write_of entry.command) refl place wrote)
      ∙ sym (ap (write_holds (is_acceptable (seen_from run t t.snapshot entry) entry.command)) is) ∙ its
    where
      by : (o : Option (Place × Option (List Cell))) → write_of entry.command ≡ o → (place : Place) → option_map (λ (w : Place × Option (List Cell)). w.0) (write_of entry.command) ≡ Some place
          → at_place (now run.history ordered own (writes-order (before t.replies entry)) t.snapshot d) place ≡ at_place (then run.history ordered own (writes-order (before t.replies entry)) t.snapshot d) place
      by None e place wrote = absurd (let never : None ≡ Some place = sym (ap (option_map (λ (w : Place × Option (List Cell)). w.0)) e) ∙ wrote in let no : ⊥ = cc in no)
      by (Some w) e place wrote =
          let some : Some w.0 ≡ Some place = sym (ap (option_map (λ (w : Place × Option (List Cell)). w.0)) e) ∙ wrote in
          let same : w.0 ≡ place = cc in
          place-seen run.history ordered own (writes-order (before t.replies entry)) t.snapshot d place (λ i less. ap (λ (p : Place). writes_place p (get_or run.history (t.snapshot + i) [])) (sym same) ∙ alone is w e i less)

  pub served : IsServed run t (number - 1) entry
  served = record { read = read; write = write }
