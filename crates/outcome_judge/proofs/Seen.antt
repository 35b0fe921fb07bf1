-- What is kept of the transactions of an output, with a reply more.
use Rattle.std.proofs.Common.{◌≡◌, ℕ, ◌+◌, ◌<◌, ◌≤◌, nat_le, suc, Bool, true, false, List, [], ◌∷◌, ◌++◌, length, take, Option, None, Some, refl, sym, ap, ◌∙◌, subst, arith, append-nil}
use Rattle.std.specs.List.{list_all, slice_get}
use Rattle.std.specs.Option.{option_map_or}
use Rattle.std.specs.Prelude.{◌==◌, option_map, option_and_then, unwrap_or, is_some, if◌then◌else◌}
use Rattle.std.proofs.lemmas.Bool.Decides.{nat_tests}
use Rattle.std.proofs.lemmas.List.{length-take-le}
use Rattle.std.proofs.lemmas.List.Folds.{list_all-append}
use Rattle.std.proofs.lemmas.List.{length-map}
use Rattle.cell_model.specs.declared.cell.Cell.{Cell}
use Rattle.isolation_spec.specs.Contents.{State, at_place, state_at}
use Rattle.isolation_spec.specs.declared.place.Place.{Place}
use Rattle.mark_index.specs.Lists.{marks_at}
use Rattle.si_machine.specs.Kept.{Rises}
use Rattle.si_machine.proofs.Rising.{rises-fold}
use Rattle.outcome_spec.specs.Entries.{Entry}
use Rattle.outcome_spec.specs.Runs.{accepted_write, commit_count}
use Rattle.output_read.specs.Kept.{entries_of, entry_of}
use Rattle.output_read.specs.declared.kept.KeptReply.{KeptReply}
use Rattle.outcome_counts.proofs.Starts.{At, at-place}
use Rattle.outcome_counts.specs.Openings.{AreOpenings, opening_of, openings_in}
use Rattle.outcome_judge.specs.Spots.{spot_at}
use Rattle.outcome_judge.specs.Timed.{TimedWrite, after_writes, left_at, rows_in, timed_one, up_to}
use Rattle.outcome_judge.specs.HistoryKept.{IsNoted, count_up_to, shelf_cmp, shelf_of, spot_cmp, place_in, row_up_to, with_one, write_noted}
use Rattle.outcome_judge.specs.Own.{is_opened, own_one, own_writes, written_by}
use Rattle.outcome_judge.specs.Commits.{AreCommits, commits_from}
use Rattle.outcome_judge.specs.Seen.{AreOwn, IsOutput, base_at, history_of, seen_up_to, snapshot_at}
use Rattle.outcome_judge.specs.declared.changes.Change.{Change}
use Rattle.outcome_judge.specs.declared.keys.RowKey.{RowKey}
use Rattle.outcome_judge.specs.declared.writes.Writes.{Writes}
use Rattle.outcome_judge.proofs.Keyed.{AreKeyed, keyed-after, keyed-commits, keyed-own, keyed-up-to}
use Rattle.outcome_judge.proofs.Laid.{at-after, rises-after}
use Rattle.outcome_judge.proofs.Noted.{kept-next}
use Rattle.outcome_judge.proofs.Own.{own-next}
use Rattle.outcome_judge.proofs.CommitsMade.{row-of}
use Rattle.outcome_judge.proofs.History.{state-is}
use Rattle.outcome_judge.proofs.Spanned.{own-early}
use Rattle.outcome_judge.proofs.WritesHeld.{none-of}

-- the row of a key after so many commits
pub row-committed : (openings : List (Option ℕ)) (entries : List Entry) → IsOutput openings entries → (writes : Writes) → AreCommits openings entries (commit_count entries) writes → (number : ℕ) (of : RowKey)
    → unwrap_or (row_up_to number (marks_at spot_cmp writes.left (spot_at 0 of))) None ≡ at_place (state_at (history_of entries) number) (place_in of)
row-committed openings entries output writes commits number of =
    row-of (commits_from openings entries 1 (commit_count entries)) writes commits (spot_at 0 of) refl number
    ∙ ap (λ (os : List (Option ℕ)). at_place (after_writes [] (up_to number (commits_from os entries 1 (commit_count entries)))) (place_in of)) output.each
    ∙ ap (λ (s : State). at_place s (place_in of)) (sym (state-is entries output.rises output.outside (subst (AreOpenings entries) output.each output.own) number))

-- the places of the rows at a snapshot rise
pub base-rises : (entries : List Entry) (owner : ℕ) → Rises (base_at entries owner)
base-rises entries owner = rises-fold [] (take (snapshot_at entries owner) (history_of entries)) tt

-- the row of a key that a transaction sees
pub row-seen : (openings : List (Option ℕ)) (entries : List Entry) (taken : ℕ) (writes : Writes) → AreOwn openings entries taken writes → (owner at : ℕ) (of : RowKey)
    → at_place (seen_up_to openings entries taken owner at) (place_in of)
    ≡ unwrap_or (row_up_to at (marks_at spot_cmp writes.left (spot_at owner of))) (at_place (base_at entries owner) (place_in of))
row-seen openings entries taken writes own owner at of =
    at-after (base_at entries owner) (up_to at (own_writes owner 0 (take taken openings) (take taken entries))) (place_in of) (base-rises entries owner)
    ∙ ap (λ (o : Option (Option (List Cell))). unwrap_or o (at_place (base_at entries owner) (place_in of)))
    (ap (λ (ws : List TimedWrite). left_at (place_in of) (up_to at ws)) (sym (own.own owner)) ∙ sym (own.kept.left owner (place_in of) at))

-- the rows that a transaction sees stand in order, each at the place of its key
pub seen-rises : (openings : List (Option ℕ)) (entries : List Entry) (taken owner at : ℕ) → Rises (seen_up_to openings entries taken owner at)
seen-rises openings entries taken owner at = rises-after (base_at entries owner) (up_to at (own_writes owner 0 (take taken openings) (take taken entries))) (base-rises entries owner)

-- the rows that a transaction sees stand at the places of their keys
pub seen-keyed : (openings : List (Option ℕ)) (entries : List Entry) → IsOutput openings entries → (taken owner at : ℕ) → AreKeyed (seen_up_to openings entries taken owner at)
seen-keyed openings entries output taken owner at =
    let number = snapshot_at entries owner in
    let base : AreKeyed (base_at entries owner) =
    subst AreKeyed (sym (state-is entries output.rises output.outside (subst (AreOpenings entries) output.each output.own) number))
    (keyed-after [] (up_to number (commits_from (openings_in entries) entries 1 (commit_count entries)))
    (keyed-up-to number (commits_from (openings_in entries) entries 1 (commit_count entries)) (keyed-commits (openings_in entries) entries 1 (commit_count entries))) tt) in
    keyed-after (base_at entries owner) (up_to at (own_writes owner 0 (take taken openings) (take taken entries)))
    (keyed-up-to at (own_writes owner 0 (take taken openings) (take taken entries)) (keyed-own owner 0 (take taken openings) (take taken entries))) base

-- how many rows a table has after so many commits, and how many of them a transaction sees
pub rows-committed : (openings : List (Option ℕ)) (entries : List Entry) → IsOutput openings entries → (writes : Writes) → AreCommits openings entries (commit_count entries) writes → (number table : ℕ)
    → rows_in table (state_at (history_of entries) number) + count_up_to number (marks_at shelf_cmp writes.lost (shelf_of 0 table)) ≡ count_up_to number (marks_at shelf_cmp writes.gained (shelf_of 0 table))
rows-committed openings entries output writes commits number table =
    let rows = commits.kept.rows 0 table number in
    let same : rows_in table (state_at (history_of entries) number) ≡ rows_in table (after_writes [] (up_to number (commits.written 0))) =
    ap (rows_in table) (state-is entries output.rises output.outside (subst (AreOpenings entries) output.each output.own) number)
    ∙ ap (λ (os : List (Option ℕ)). rows_in table (after_writes [] (up_to number (commits_from os entries 1 (commit_count entries))))) (sym output.each)
    ∙ ap (λ (ws : List TimedWrite). rows_in table (after_writes [] (up_to number ws))) (sym commits.own) in
    let none : rows_in table [] ≡ 0 = refl in
    omega (arith, rows, same, none)

-- how many rows of a table a transaction sees, by the counts of those it gained and lost
pub rows-own : (openings : List (Option ℕ)) (entries : List Entry) (taken : ℕ) (writes : Writes) → AreOwn openings entries taken writes → (owner table at : ℕ)
    → rows_in table (seen_up_to openings entries taken owner at) + count_up_to at (marks_at shelf_cmp writes.lost (shelf_of owner table))
    ≡ rows_in table (base_at entries owner) + count_up_to at (marks_at shelf_cmp writes.gained (shelf_of owner table))
rows-own openings entries taken writes own owner table at =
    ap (λ (ws : List TimedWrite). rows_in table (after_writes (base_at entries owner) (up_to at ws)) + count_up_to at (marks_at shelf_cmp writes.lost (shelf_of owner table))) (sym (own.own owner))
    ∙ own.kept.rows owner table at

-- what the list of openings has at a place is the opening there
pub opening-cut : (openings : List (Option ℕ)) (place : ℕ) (item : Option ℕ) → slice_get openings place ≡ Some item → item ≡ opening_of openings place
opening-cut openings place item found = sym (ap (option_and_then (λ (o : Option ℕ). o)) found)

-- Where what is told makes no change, nothing is accepted.
none-accepted : (time : ℕ) (told : Option (Place × Option (List Cell))) → option_map written_by None ≡ option_map (timed_one time) told → told ≡ None
none-accepted time None h = refl
none-accepted time (Some told) h = absurd (let never : ⊥ = cc in never)

-- the change of a write that is accepted is that one write
pub some-change : (time : ℕ) (change : Change) (told : Option (Place × Option (List Cell))) → option_map written_by (Some change) ≡ option_map (timed_one time) told
    → option_map_or (λ its. timed_one time its ∷ []) told [] ≡ written_by change ∷ []
some-change time change None h = absurd (let never : ⊥ = cc in never)
some-change time change (Some told) h = ap (λ (o : Option TimedWrite). unwrap_or o (written_by change) ∷ []) (sym h)

-- The own writes of replies up to a bound are all made up to it.
own-times : (bound owner place : ℕ) (openings : List (Option ℕ)) (entries : List Entry) → place + length entries ≤ bound → list_all (λ w. nat_le w.time bound) (own_writes owner place openings entries) ≡ true
own-times bound owner place [] entries h = refl
own-times bound owner place (o ∷ openings) [] h = refl
own-times bound owner place (o ∷ openings) (e ∷ entries) h =
    list_all-append (λ w. nat_le w.time bound) (own_one owner place o e) (own_writes owner (place + 1) openings entries)
    ∙ rw (one (is_opened owner o) (accepted_write e), own-times bound owner (place + 1) openings entries (omega (arith, h))) refl
  where
    early : nat_le (place + 1) bound ≡ true
    early = grind (arith, nat_tests, h)

    one : (b : Bool) (change : Option (Place × Option (List Cell))) → list_all (λ w. nat_le w.time bound) (if b then option_map_or (λ change. timed_one (place + 1) change ∷ []) change [] else []) ≡ true
    one true (Some change) = rw early refl
    one true None = refl
    one false change = refl

module _ (openings : List (Option ℕ)) (entries front : List Entry) (entry : Entry) (rest : List Entry) (ofront : List (Option ℕ)) (opening : Option ℕ) (orest : List (Option ℕ)) (n : ℕ)
    (whole : entries ≡ front ++ entry ∷ rest) (far : length front ≡ n) (owhole : openings ≡ ofront ++ opening ∷ orest) (ofar : length ofront ≡ n) where
  -- With a reply more, an owner's writes are those it had and what the reply adds.
  next : (owner : ℕ) → own_writes owner 0 (take (n + 1) openings) (take (n + 1) entries) ≡ own_writes owner 0 (take n openings) (take n entries) ++ own_one owner n opening entry
  next owner = own-next owner entries front entry rest openings ofront opening orest n whole far owhole ofar

  -- What is kept is that of one reply more where this adds no write to any transaction.
  none-with : (writes : Writes) → ((owner : ℕ) → own_one owner n opening entry ≡ []) → AreOwn openings entries n writes → AreOwn openings entries (n + 1) writes
  none-with writes none own = record {
    written = own.written;
    kept = own.kept;
    own = λ owner. own.own owner ∙ sym (next owner ∙ ap (λ (ws : List TimedWrite). own_writes owner 0 (take n openings) (take n entries) ++ ws) (none owner) ∙ append-nil (own_writes owner 0 (take n openings) (take n entries)));
  }

  -- a reply that accepts nothing
  pub own-same : option_map written_by None ≡ option_map (timed_one (n + 1)) (accepted_write entry) → (writes : Writes) → AreOwn openings entries n writes → AreOwn openings entries (n + 1) writes
  own-same told writes own = none-with writes (λ owner.
      ap (λ (o : Option (Place × Option (List Cell))). if is_opened owner opening then option_map_or (λ change. timed_one (n + 1) change ∷ []) o [] else []) (none-accepted (n + 1) (accepted_write entry) told)
      ∙ none-of (is_opened owner opening) [] refl) own

  -- a reply of no transaction
  pub own-outside : opening ≡ None → (writes : Writes) → AreOwn openings entries n writes → AreOwn openings entries (n + 1) writes
  own-outside closed writes own = none-with writes (λ owner. ap (λ (o : Option ℕ). own_one owner n o entry) closed) own

  -- what is kept of the transactions' writes, with an accepted write of a reply more
  pub own-noted : (owner : ℕ) → opening ≡ Some owner → (change : Change) → option_map written_by (Some change) ≡ option_map (timed_one (n + 1)) (accepted_write entry) → (before now : Writes) (had : Bool)
      → AreOwn openings entries n before → had ≡ is_some (at_place (seen_up_to openings entries n owner n) (place_in change.of))
      → IsNoted (spot_at owner change.of) change.left had before now → AreOwn openings entries (n + 1) now
  own-noted owner opened change told before now had own has noted =
      let short : length (take n entries) ≡ n = length-take-le n entries (let l = ap length whole in let m = length-of front entry rest in omega (arith, l, m, far)) in
      let time : change.left.time ≡ n + 1 = time-of (accepted_write entry) told in
      let all : up_to n (own_writes owner 0 (take n openings) (take n entries)) ≡ own_writes owner 0 (take n openings) (take n entries) = own-early n owner 0 (take n openings) (take n entries) (omega (arith, short)) in
      let found : had ≡ is_some (at_place (after_writes (base_at entries owner) (own.written owner)) (place_in change.of)) =
      has ∙ ap (λ (ws : List TimedWrite). is_some (at_place (after_writes (base_at entries owner) ws) (place_in change.of))) (all ∙ sym (own.own owner)) in
      let latest : list_all (λ write. nat_le write.time change.left.time) (own.written owner) ≡ true =
      ap (list_all (λ write. nat_le write.time change.left.time)) (own.own owner) ∙ own-times change.left.time owner 0 (take n openings) (take n entries) (omega (arith, short, time)) in
      record {
        written = with_one owner (write_noted (spot_at owner change.of) change.left) own.written;
        kept = kept-next (base_at entries) own.written before now (spot_at owner change.of) change.left had own.kept noted latest (base-rises entries owner) found;
        own = λ other. by other (owner == other) refl;
      }
    where
      length-of : (front : List Entry) (entry : Entry) (rest : List Entry) → length (front ++ entry ∷ rest) ≡ length front + suc (length rest)
      length-of [] entry rest = omega arith
      length-of (x ∷ front) entry rest = let l = length-of front entry rest in omega (arith, l)

      time-of : (o : Option (Place × Option (List Cell))) → option_map written_by (Some change) ≡ option_map (timed_one (n + 1)) o → change.left.time ≡ n + 1
      time-of None h = absurd (let never : ⊥ = cc in never)
      time-of (Some o) h = ap (λ (w : Option TimedWrite). (unwrap_or w (written_by change)).time) h

      by : (other : ℕ) (b : Bool) → (owner == other) ≡ b
          → (if owner == other then own.written other ++ written_by change ∷ [] else own.written other) ≡ own_writes other 0 (take (n + 1) openings) (take (n + 1) entries)
      by other b is =
          ap (λ (b : Bool). if b then own.written other ++ written_by change ∷ [] else own.written other) is
          ∙ branch b
          ∙ ap (λ (b : Bool). own_writes other 0 (take n openings) (take n entries) ++ (if b then option_map_or (λ its. timed_one (n + 1) its ∷ []) (accepted_write entry) [] else [])) (sym is)
          ∙ ap (λ (o : Option ℕ). own_writes other 0 (take n openings) (take n entries) ++ own_one other n o entry) (sym opened)
          ∙ sym (next other)
        where
          branch : (b : Bool) → (if b then own.written other ++ written_by change ∷ [] else own.written other)
              ≡ own_writes other 0 (take n openings) (take n entries) ++ (if b then option_map_or (λ its. timed_one (n + 1) its ∷ []) (accepted_write entry) [] else [])
          branch true = ap (λ (ws : List TimedWrite). ws ++ written_by change ∷ []) (own.own other)
              ∙ ap (λ (ws : List TimedWrite). own_writes other 0 (take n openings) (take n entries) ++ ws) (sym (some-change (n + 1) change (accepted_write entry) told))
          branch false = own.own other ∙ sym (append-nil (own_writes other 0 (take n openings) (take n entries)))

-- and with a reply that is in no transaction
pub own-unopened : (openings : List (Option ℕ)) (replies : List KeptReply) (ofront : List (Option ℕ)) (opening : Option ℕ) (orest : List (Option ℕ)) (n : ℕ) → n < length replies
    → openings ≡ ofront ++ opening ∷ orest → length ofront ≡ n → opening ≡ None → (writes : Writes) → AreOwn openings (entries_of replies) n writes → AreOwn openings (entries_of replies) (n + 1) writes
own-unopened openings replies ofront opening orest n inside owhole ofar closed writes own = by (entries_of replies) (at-place (entries_of replies) n (let l = length-map replies entry_of in omega (arith, inside, l))) own
  where
    by : (entries : List Entry) → At entries n → AreOwn openings entries n writes → AreOwn openings entries (n + 1) writes
    by entries at own = own-outside openings entries at.front at.item at.rest ofront opening orest n at.whole at.far owhole ofar closed writes own
