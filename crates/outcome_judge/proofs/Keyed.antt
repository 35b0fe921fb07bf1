-- Each row stands at the place of its key.
use Rattle.std.proofs.Common.{◌≡◌, ℕ, ◌+◌, Bool, true, false, cond, List, [], ◌∷◌, ◌++◌, Option, None, Some, refl, ap, subst, zero, suc}
use Rattle.std.specs.BTreeMap.{insert_entry}
use Rattle.std.specs.Map.{remove_entry}
use Rattle.std.specs.Option.{option_map_or}
use Rattle.std.specs.Ordering.{is_eq, match_ordering}
use Rattle.std.specs.declared.cmp.Ordering.{Ordering}
use Rattle.std.specs.declared.cmp.Ordering.TheVariants.{Less, Equal, Greater}
use Rattle.std.specs.Prelude.{nat_le, if◌then◌else◌}
use Rattle.cell_model.specs.declared.cell.Cell.{Cell}
use Rattle.isolation_spec.specs.Contents.{State, is_place, place_cmp, place_of, with_write}
use Rattle.isolation_spec.specs.declared.place.Place.{Place}
use Rattle.si_machine.proofs.Rising.{same-place}
use Rattle.workload_spec.specs.declared.command.Command.{Command}
use Rattle.workload_spec.specs.declared.command.Command.TheVariants as command
use Rattle.outcome_spec.specs.Entries.{Entry, is_accepted}
use Rattle.outcome_spec.specs.Runs.{accepted_write, commits_as, write_of}
use Rattle.outcome_counts.specs.Openings.{opening_of}
use Rattle.outcome_judge.specs.Timed.{TimedWrite, after_writes, timed, timed_one, up_to}
use Rattle.outcome_judge.specs.Own.{changes_of, is_opened, own_one, own_writes}
use Rattle.outcome_judge.specs.Commits.{commit_writes, commits_from, first_of, made_of}

-- a row that is left stands at the place of its key
abbrev pub IsKeyed : Place → Option (List Cell) → Type 0
IsKeyed place None = Unit {0}
IsKeyed place (Some row) = place ≡ place_of place.table row

-- each row stands at the place of its key
abbrev pub AreKeyed : State → Type 0
AreKeyed [] = Unit {0}
AreKeyed (entry ∷ rows) = (entry.0 ≡ place_of entry.0.table entry.1) × AreKeyed rows

-- each write leaves a row, if any, at the place of its key
abbrev pub EachKeyed : List TimedWrite → Type 0
EachKeyed [] = Unit {0}
EachKeyed (write ∷ writes) = IsKeyed write.place write.row × EachKeyed writes

-- ---- states

-- An insertion of a row at the place of its key leaves each row at its own.
keyed-insert : (rows : State) (place : Place) (row : List Cell) → place ≡ place_of place.table row → AreKeyed rows → AreKeyed (insert_entry place_cmp rows place row)
keyed-insert [] place row h k = (h, tt)
keyed-insert (entry ∷ rows) place row h k = by (keyed-insert rows place row h k.1) (place_cmp place entry.0) refl
  where
    by : AreKeyed (insert_entry place_cmp rows place row) → (o : Ordering) → place_cmp place entry.0 ≡ o
        → AreKeyed (match_ordering o ((place, row) ∷ entry ∷ rows) ((entry.0, row) ∷ rows) (entry ∷ insert_entry place_cmp rows place row))
    by rest Less is = (h, k)
    by rest Equal is = (subst (λ (p : Place). p ≡ place_of p.table row) (same-place place entry.0 (ap is_eq is)) h, k.1)
    by rest Greater is = (k.0, rest)

-- A removal leaves each row at the place of its key.
keyed-remove : (rows : State) (test : Place → Bool) → AreKeyed rows → AreKeyed (remove_entry test rows)
keyed-remove [] test k = tt
keyed-remove (entry ∷ rows) test k = by (test entry.0) (keyed-remove rows test k.1)
  where
    by : (b : Bool) → AreKeyed (remove_entry test rows) → AreKeyed (cond b rows (entry ∷ remove_entry test rows))
    by true rest = k.1
    by false rest = (k.0, rest)

-- A write that leaves its row at the place of its key leaves each row at its own.
keyed-write : (rows : State) (place : Place) (change : Option (List Cell)) → IsKeyed place change → AreKeyed rows → AreKeyed (with_write rows place change)
keyed-write rows place None h k = keyed-remove rows (is_place place) k
keyed-write rows place (Some row) h k = keyed-insert rows place row h k

-- rows after such writes stand at the places of their keys
pub keyed-after : (rows : State) (writes : List TimedWrite) → EachKeyed writes → AreKeyed rows → AreKeyed (after_writes rows writes)
keyed-after rows [] h k = k
keyed-after rows (write ∷ writes) h k = keyed-after (with_write rows write.place write.row) writes h.1 (keyed-write rows write.place write.row h.0 k)

-- ---- writes

-- Writes that leave rows at the places of their keys are so with more of them behind.
keyed-append : (a b : List TimedWrite) → EachKeyed a → EachKeyed b → EachKeyed (a ++ b)
keyed-append [] b h k = k
keyed-append (write ∷ a) b h k = (h.0, keyed-append a b h.1 k)

-- of such writes those up to a time are such
pub keyed-up-to : (bound : ℕ) (writes : List TimedWrite) → EachKeyed writes → EachKeyed (up_to bound writes)
keyed-up-to bound [] h = tt
keyed-up-to bound (write ∷ writes) h = by (nat_le write.time bound) (keyed-up-to bound writes h.1)
  where
    by : (b : Bool) → EachKeyed (up_to bound writes) → EachKeyed (cond b (write ∷ up_to bound writes) (up_to bound writes))
    by true rest = (h.0, rest)
    by false rest = rest

-- Writes that leave rows at the places of their keys are so when made at another time.
keyed-timed : (time : ℕ) (writes : List TimedWrite) → EachKeyed writes → EachKeyed (timed time (changes_of writes))
keyed-timed time [] h = tt
keyed-timed time (write ∷ writes) h = (h.0, keyed-timed time writes h.1)

-- A change, if there is one, leaves its row at the place of its key.
abbrev IsKeyedChange : Option (Place × Option (List Cell)) → Type 0
IsKeyedChange None = Unit {0}
IsKeyedChange (Some change) = IsKeyed change.0 change.1

-- What a command writes leaves its row at the place of its key.
keyed-command : (asked : Command) → IsKeyedChange (write_of asked)
keyed-command (command.Insert table row) = refl
keyed-command (command.Update table row) = refl
keyed-command (command.Delete table key) = tt
keyed-command (command.Begin checked) = tt
keyed-command (command.Range table low high) = tt
keyed-command (command.Total table column low high) = tt
keyed-command (command.Get table key) = tt
keyed-command (command.Scan table) = tt
keyed-command command.Commit = tt
keyed-command command.Abort = tt
keyed-command command.Observe = tt
keyed-command command.Prune = tt
keyed-command (command.Compact table) = tt
keyed-command (command.Seal table block) = tt
keyed-command (command.Gather table block) = tt
keyed-command (command.Export table) = tt

-- A change that is accepted or not leaves its row at the place of its key, if it does anyway.
keyed-accepted : (b : Bool) (change : Option (Place × Option (List Cell))) → IsKeyedChange change → IsKeyedChange (if b then change else None)
keyed-accepted true change h = h
keyed-accepted false change h = tt

-- The one write of a change, where it is made, leaves its row at the place of its key.
keyed-one : (b : Bool) (time : ℕ) (change : Option (Place × Option (List Cell))) → IsKeyedChange change → EachKeyed (if b then option_map_or (λ its. timed_one time its ∷ []) change [] else [])
keyed-one true time None h = tt
keyed-one true time (Some change) h = (h, tt)
keyed-one false time change h = tt

-- a transaction's own writes are such
pub keyed-own : (owner place : ℕ) (openings : List (Option ℕ)) (entries : List Entry) → EachKeyed (own_writes owner place openings entries)
keyed-own owner place [] entries = tt
keyed-own owner place (opening ∷ openings) [] = tt
keyed-own owner place (opening ∷ openings) (entry ∷ entries) =
    keyed-append (own_one owner place opening entry) (own_writes owner (place + 1) openings entries)
    (keyed-one (is_opened owner opening) (place + 1) (accepted_write entry) (keyed-accepted (is_accepted entry.reply.said) (write_of entry.command) (keyed-command entry.command)))
    (keyed-own owner (place + 1) openings entries)

module _ (openings : List (Option ℕ)) (entries : List Entry) where
  -- What a transaction made, if there is one, leaves rows at the places of their keys.
  keyed-made : (number place : ℕ) (opening : Option ℕ) → EachKeyed (option_map_or (made_of openings entries number place) opening [])
  keyed-made number place None = tt
  keyed-made number place (Some owner) = keyed-timed number (up_to place (own_writes owner 0 openings entries)) (keyed-up-to place (own_writes owner 0 openings entries) (keyed-own owner 0 openings entries))

  -- What the line of a commit made, if there is one, leaves rows at the places of their keys.
  keyed-line : (number : ℕ) (first : Option ℕ) → EachKeyed (option_map_or (λ place. option_map_or (made_of openings entries number place) (opening_of openings place) []) first [])
  keyed-line number None = tt
  keyed-line number (Some place) = keyed-made number place (opening_of openings place)

  -- and so are those of commits
  pub keyed-commits : (number count : ℕ) → EachKeyed (commits_from openings entries number count)
  keyed-commits number zero = tt
  keyed-commits number (suc count) =
      keyed-append (commit_writes openings entries number) (commits_from openings entries (number + 1) count)
      (keyed-line number (first_of (commits_as number) entries)) (keyed-commits (number + 1) count)
