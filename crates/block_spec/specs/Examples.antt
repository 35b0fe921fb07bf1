-- Worked examples of slots and bodies, as facts.
use Rattle.std.specs.Prelude.{◌≡◌, ℕ, zero, suc, ◌-◌, ◌^◌, true, false, List, [], ◌∷◌, None, Some}
use Rattle.std.specs.Prelude.{map, pos, codes}
use Rattle.cell_model.specs.declared.cell.Cell.TheVariants.{Null, Num, Text}
use Rattle.cell_model.specs.Examples.{narrow}
use Rattle.undo_chain.specs.declared.undo.Undo.{Undo}
use Rattle.block_spec.specs.declared.change.Before.{Before}
use Rattle.block_spec.specs.declared.change.Before.TheVariants as before
use Rattle.block_spec.specs.declared.change.Change.TheVariants as change
use Rattle.block_spec.specs.declared.phase.Phase.TheVariants.{Loose, Sealed, Imaged}
use Rattle.block_spec.specs.declared.phase.SealFault.TheVariants as fault
use Rattle.block_spec.specs.Slots.{Row, Slot, bare, seen, written, committed, rolled_back, pruned}
use Rattle.block_spec.specs.Slots.{moved_out, moved_in, taken_back}
use Rattle.block_spec.specs.Bodies.{Body, untouched, slot_in, with_slot, committed_in}
use Rattle.block_spec.specs.Bodies.{rolled_back_in, pruned_in, dropped_from, taken_back_in, turns}
use Rattle.block_spec.specs.Bodies.{observed, seal_fault, sealed, imaged, thawed, is_empty}
use Rattle.block_spec.specs.Bodies.{is_quiet, is_dense}
use Rattle.block_spec.specs.Looks.{looked}

-- the row of a key and a text
abbrev pub row_of : ℕ → List ℕ → Row
row_of key text = Num (pos key) ∷ Text text ∷ []

-- a slot with a row and no entry
abbrev pub settled : Row → Slot
settled row = record { row = Some row; entries = [] }

-- session 1 puts 5 "a", changes its text to "b", and takes the row away
abbrev pub put : Slot
put = written 1 (change.Put (row_of 5 (codes "a"))) bare

abbrev pub changed : Slot
changed = written 1 (change.Patch (record { column = 1; cell = Text (codes "b") } ∷ [])) put

abbrev pub gone : Slot
gone = written 1 change.Gone changed

-- A session sees its own writes, and another does not.
abbrev pub OwnWritesAreSeen : Type 0
OwnWritesAreSeen =
    (map (λ slot. seen slot 0 1) (put ∷ changed ∷ gone ∷ [])
    ≡ Some (row_of 5 (codes "a")) ∷ Some (row_of 5 (codes "b")) ∷ None ∷ [])
    × (map (λ slot. seen slot 0 2) (put ∷ changed ∷ gone ∷ []) ≡ None ∷ None ∷ None ∷ [])

-- Each write keeps what undoes it: no row, the column that changed, the whole row.
abbrev pub WritesKeepWhatUndoesThem : Type 0
WritesKeepWhatUndoesThem = map (λ (undo : Undo Before). undo.before) gone.entries
    ≡ before.Whole (row_of 5 (codes "b"))
    ∷ before.Part (record { column = 1; cell = Text (codes "a") } ∷ [])
    ∷ before.Empty
    ∷ []

-- A roll-back lays back newest first, and leaves nothing.
abbrev pub RollBackLeavesNothing : Type 0
RollBackLeavesNothing = (rolled_back 1 gone ≡ bare) × (rolled_back 2 changed ≡ changed)

-- the text was changed by a commit with stamp 4, and a session changes it again
abbrev pub twice_changed : Slot
twice_changed =
    written 2 (change.Patch (record { column = 1; cell = Null } ∷ []))
    (committed 1 4 3 (written 1 (change.Patch (record { column = 1; cell = Text (codes "b") } ∷ []))
    (settled (row_of 5 (codes "a")))))

-- A commit shows from its stamp on; a roll-back of another session leaves it; a pruning drops it
-- from its stamp on.
abbrev pub CommitsShowFromTheirStamp : Type 0
CommitsShowFromTheirStamp =
    (map (λ stamp. seen twice_changed stamp 9) (3 ∷ 4 ∷ [])
    ≡ Some (row_of 5 (codes "a")) ∷ Some (row_of 5 (codes "b")) ∷ [])
    × (seen (rolled_back 2 twice_changed) 3 9 ≡ Some (row_of 5 (codes "a")))
    × ((rolled_back 2 twice_changed).row ≡ Some (row_of 5 (codes "b")))
    × (pruned 3 twice_changed ≡ twice_changed)
    × (pruned 4 (rolled_back 2 twice_changed) ≡ settled (row_of 5 (codes "b")))

-- A move with stamp 7 is seen at one of its two places by each snapshot, and its halves can be
-- taken back.
abbrev pub MovesShowOnce : Type 0
MovesShowOnce =
    let row = row_of 5 (codes "a") in
    (map (λ stamp. seen (moved_out 7 row (settled row)) stamp 1) (6 ∷ 7 ∷ [])
    ≡ Some row ∷ None ∷ [])
    × (map (λ stamp. seen (moved_in 7 row bare) stamp 1) (6 ∷ 7 ∷ []) ≡ None ∷ Some row ∷ [])
    × (taken_back (moved_out 7 row (settled row)) ≡ settled row)
    × (taken_back (moved_in 7 row bare) ≡ bare)

-- a body of a key and a text with four slots
abbrev pub body : Body
body = untouched narrow 4

-- with the rows of the keys 1 and 2 in its first slots, without an entry
abbrev pub two_rows : Body
two_rows = record body {
  slots = settled (row_of 1 (codes "a")) ∷ settled (row_of 2 (codes "b"))
      ∷ bare ∷ bare ∷ [];
}

-- the same with a gap before the second row
abbrev pub gap : Body
gap = record body {
  slots = settled (row_of 1 (codes "a")) ∷ bare ∷ settled (row_of 2 (codes "b"))
      ∷ bare ∷ [];
}

-- observed so many times, and not the head
abbrev pub rounds : ℕ → Body → Body
rounds zero block = block
rounds (suc n) block = observed false (rounds n block)

-- A body turns cooling in its second round, once; the head and a body without a row do not.
abbrev pub TheSecondRoundCools : Type 0
TheSecondRoundCools =
    (map (λ n. turns false (rounds n two_rows)) (0 ∷ 1 ∷ 2 ∷ []) ≡ false ∷ true ∷ false ∷ [])
    × (map (λ n. (rounds n two_rows).cooling) (1 ∷ 2 ∷ 3 ∷ []) ≡ false ∷ true ∷ true ∷ [])
    × (map (λ n. (rounds n two_rows).rounds) (1 ∷ 2 ∷ 3 ∷ []) ≡ 1 ∷ 2 ∷ 2 ∷ [])
    × (turns true (rounds 1 two_rows) ≡ false)
    × (turns false (rounds 1 body) ≡ false)

-- A write modifies a body: it is hot, and its rounds begin anew.
abbrev pub WritesModify : Type 0
WritesModify =
    let after = with_slot 2 (written 1 (change.Put (row_of 3 (codes "c")))) (rounds 2 two_rows) in
    (after.cooling ≡ false) × (after.rounds ≡ 0)
    × ((slot_in after 2).row ≡ Some (row_of 3 (codes "c")))
    × (slot_in after 1 ≡ slot_in two_rows 1)
    × (committed_in 2 1 1 (rounds 2 two_rows) ≡ rounds 2 two_rows)
    × (rolled_back_in 1 after ≡ record two_rows { cooling = false; rounds = 0 })
    × (rolled_back_in 2 after ≡ after)

-- A half of a move is taken back, and the body is cooling again.
abbrev pub MovesAreTakenBack : Type 0
MovesAreTakenBack =
    taken_back_in 1 (with_slot 1 (moved_out 7 (row_of 2 (codes "b"))) (rounds 2 two_rows))
    ≡ rounds 2 two_rows

-- the second row was put by a commit with stamp 6
abbrev pub versioned : Body
versioned = record (rounds 2 two_rows) {
  slots = settled (row_of 1 (codes "a")) ∷ committed 1 6 5
      (written 1 (change.Put (row_of 2 (codes "b"))) bare) ∷ bare ∷ bare ∷ [];
}

-- A pruning drops the entries up to its stamp, and counts them.
abbrev pub PruningCounts : Type 0
PruningCounts =
    (map (λ oldest. dropped_from oldest versioned) (5 ∷ 6 ∷ []) ≡ 0 ∷ 1 ∷ [])
    × (pruned_in 5 versioned ≡ versioned)
    × (pruned_in 6 versioned ≡ rounds 2 two_rows)

-- Each reason against a seal, in turn, and none.
abbrev pub SealsAreJudged : Type 0
SealsAreJudged =
    (map (seal_fault false)
    (sealed (rounds 2 two_rows)
    ∷ rounds 2 body
    ∷ rounds 2 gap
    ∷ versioned
    ∷ rounds 1 two_rows
    ∷ record (rounds 2 two_rows) { last = 2 ^ 30 - 1 }
    ∷ record (rounds 2 two_rows) { last = 2 ^ 30 - 2 }
    ∷ rounds 2 two_rows
    ∷ [])
    ≡ Some fault.Phase ∷ Some fault.Empty ∷ Some fault.Gaps ∷ Some fault.Versions ∷ Some fault.Hot
    ∷ Some fault.Last ∷ None ∷ None ∷ [])
    × (map (seal_fault true) (sealed (rounds 2 two_rows) ∷ rounds 2 body ∷ rounds 2 two_rows ∷ [])
    ≡ Some fault.Phase ∷ Some fault.Head ∷ Some fault.Head ∷ [])

-- A freeze has the next stamp; a thaw makes the body loose and hot, with the same slots and rounds.
abbrev pub FreezesHaveStamps : Type 0
FreezesHaveStamps =
    let frozen = imaged (sealed (rounds 2 two_rows)) in
    ((sealed (rounds 2 two_rows)).phase ≡ Sealed 1) × (frozen.phase ≡ Imaged 1) × (frozen.last ≡ 1)
    × (thawed frozen ≡ record two_rows { rounds = 2; last = 1 })
    × ((sealed (rounds 2 (thawed frozen))).phase ≡ Sealed 2)

-- Which bodies are empty, quiet and dense.
abbrev pub BodiesAreTold : Type 0
BodiesAreTold =
    (map is_empty (body ∷ two_rows ∷ record body { slots = rolled_back 1 gone ∷ [] } ∷ record body
    { slots = gone ∷ [] } ∷ [])
    ≡ true ∷ false ∷ true ∷ false ∷ [])
    × (map is_quiet (body ∷ two_rows ∷ versioned ∷ []) ≡ true ∷ true ∷ false ∷ [])
    × (map is_dense (body ∷ two_rows ∷ gap ∷ versioned ∷ []) ≡ false ∷ true ∷ false ∷ true ∷ [])

-- A look gives the rows without an entry, with their keys, and the gaps.
abbrev pub LooksFindRowsAndGaps : Type 0
LooksFindRowsAndGaps =
    (looked versioned ≡ record {
      rows = record { slot = 0; key = pos 1 } ∷ [];
      gaps = 2 ∷ 3 ∷ [];
      phase = Loose;
      cooling = true;
    })
    × ((looked gap).rows ≡ record { slot = 0; key = pos 1 } ∷ record { slot = 2; key = pos 2 } ∷ [])
    × ((looked gap).gaps ≡ 1 ∷ 3 ∷ [])
