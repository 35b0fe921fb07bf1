-- What a moment's line says of blocks and counts is what the lines in front say.
use Rattle.std.proofs.Common.{◌≡◌, ◌⊎◌, ℕ, zero, suc, ◌+◌, ◌*◌, ◌≤◌, ℤ, Bool, true, false, cond, ◌&&◌, List, [], ◌∷◌, length, map, filter, reverse, take, nat_lt, Option, None, Some, refl, sym, ap, ◌∙◌, subst, arith}
use mathlib.Core.Logic.{inl, inr}
use Rattle.std.specs.Prelude.{Result, Ok, Err, option_map, slice_get, sum, sum_by, unwrap_or}
use Rattle.std.specs.List.{flat_map, prefix_len, zip}
use Rattle.std.proofs.lemmas.List.{length-map}
use Rattle.block_spec.specs.declared.look.MovableRow.{MovableRow}
use Rattle.cold_plan.specs.Plan.{moves_of}
use Rattle.std.specs.Option.{option_map_or}
use Rattle.std.proofs.lemmas.Option.{same_Some}
use Rattle.block_spec.specs.Bodies.{is_sealed, seal_fault}
use Rattle.block_spec.specs.declared.phase.Phase.{Phase}
use Rattle.block_spec.specs.declared.phase.Phase.TheVariants.{Loose, Sealed, Imaged}
use Rattle.block_spec.specs.declared.phase.SealFault.{SealFault}
use Rattle.block_spec.specs.Slots.{Row}
use Rattle.cell_model.specs.declared.table.TableDecl.{TableDecl}
use Rattle.run_laws.specs.Counts.Stamps.{sealed_now}
use Rattle.store_laws.proofs.Room.{full_is_full}
use Rattle.run_laws.proofs.Counts.Stamps.{images_are_told, seals_are_told}
use Rattle.core_laws.specs.Events.Laws.{IsStep, command_in}
use Rattle.event_spec.specs.declared.event.Event.TheVariants as event
use Rattle.event_spec.specs.declared.event.MovePair.{MovePair}
use Rattle.event_spec.specs.declared.own.OwnKey.{OwnKey}
use Rattle.event_spec.specs.declared.own.OwnTransaction.{OwnTransaction}
use Rattle.event_spec.specs.declared.reply.Reply.TheVariants as reply
use Rattle.event_spec.specs.declared.reply.WriteFault.{WriteFault}
use Rattle.event_spec.specs.declared.reply.WriteFault.TheVariants as refusal
use Rattle.event_spec.specs.Effects.{CoreEvent, change_judged, held_pairs, holds, insert_judged, stale_in}
use Rattle.event_spec.specs.Lawful.{HasBlock, IsLawful, reads_handed}
use Rattle.event_spec.specs.Parts.{Parts, Shape, blocks_of, body_at, is_head, slots_of}
use Rattle.event_spec.specs.Plans.{BlockLook, gap_places, is_in_group, pair_of, pairs_of, plan_of, row_places}
use Rattle.event_spec.specs.Replies.{reply_to, reply_to_commit, reply_to_image, reply_to_seal, reply_to_write}
use Rattle.event_spec.specs.Sound.{IsShape}
use Rattle.isolation_spec.specs.Contents.{History, key_of, rows_left}
use Rattle.isolation_spec.specs.Machine.{IsolationMachine}
use Rattle.isolation_spec.specs.declared.read.Read.{Read}
use Rattle.outcome_spec.specs.Entries.{Entry, shown_in}
use Rattle.outcome_spec.specs.Runs.{writes_committed_in}
use Rattle.outcome_spec.specs.Forms.{is_worker}
use Rattle.outcome_spec.specs.Tables.{blocks_at, slots_at}
use Rattle.outcome_spec.specs.Upkeep.{capacity_at, freezes_in, inserts_in, moved_in, pruned_in, seals_in}
use Rattle.timeline_spec.specs.Timeline.{CountsFrom, FindsFull, FindsUnsealed}
use Rattle.workload_spec.specs.declared.command.Command.{Command}
use Rattle.workload_spec.specs.declared.command.Command.TheVariants as command
use Rattle.workload_spec.specs.declared.reply.Said.{Said}
use Rattle.workload_spec.specs.declared.reply.Said.TheVariants as said
use Rattle.workload_spec.specs.declared.reply.Who.{Who}
use Rattle.workload_spec.specs.declared.script.Script.{Script}
use Rattle.core_laws.proofs.Logs.Refusals.{freezes_exactly, full_exactly}
use Rattle.core_laws.specs.Logs.Laws.{IsSealedIn}
use Rattle.run_spec.specs.Asked.{looks_in}
use Rattle.run_spec.specs.Calls.{line_to}
use Rattle.run_spec.specs.Occurrences.{Occurrence, replies_in}
use Rattle.run_spec.specs.Ran.{shape_of}
use Rattle.run_spec.specs.Told.{cause_told, dropped_told, stale_of, told_by}
use Rattle.core_laws.proofs.Sound.Written.{filled_there}
use Rattle.run_laws.specs.Told.Laws.{TellsAt, TellsMove, TellsQuietly, is_plain}
use Rattle.run_laws.proofs.Told.Tells.{not_silent}
use Rattle.run_laws.specs.Moments.Laws.{command_told}
use Rattle.run_laws.proofs.Explained.Holding.{Holds, Stamped}
use Rattle.run_laws.proofs.Explained.Shown.{silent_or}

-- What is true is not false.
true_false : true ≡ false → ⊥
true_false e = cc

-- What is told as one of two lines and as the other is one line.
same_line : (a b : Said) → Some a ≡ Some b → a ≡ b
same_line a b e = cc

-- ---- lines that say nothing of counts

-- a line that says nothing of blocks or counts fits any lines in front
pub plain_counts : (first : History) (tables : List TableDecl) (lines : List Entry) (asked : Command) (line : Said) → is_plain line ≡ true → CountsFrom first tables lines asked line
plain_counts first tables lines asked (said.Freezing table block stamp) e = absurd (true_false (sym e))
plain_counts first tables lines asked (said.Sealed table block stamp) e = absurd (true_false (sym e))
plain_counts first tables lines asked (said.Frozen table block rows) e = absurd (true_false (sym e))
plain_counts first tables lines asked said.NotFrozen e = absurd (true_false (sym e))
plain_counts first tables lines asked (said.Moved count) e = absurd (true_false (sym e))
plain_counts first tables lines asked (said.Pruned count) e = absurd (true_false (sym e))
plain_counts first tables lines asked said.Full e = absurd (true_false (sym e))
plain_counts first tables lines asked _ e = tt

-- ---- a compaction moves 64 rows at most

-- a filter keeps no more than there are
pub kept_few : {X : Type 0} (p : X → Bool) (xs : List X) → length (filter p xs) ≤ length xs
kept_few p [] = omega arith
kept_few p (x ∷ xs) = go (p x) (kept_few p xs)
  where
    go : (b : Bool) → length (filter p xs) ≤ length xs → length (cond b (x ∷ filter p xs) (filter p xs)) ≤ length (x ∷ xs)
    go true h = omega (arith, h)
    go false h = omega (arith, h)

-- The front of a list has no more elements than the list.
fewer_taken : {X : Type 0} (n : ℕ) (xs : List X) → length (take n xs) ≤ length xs
fewer_taken zero xs = omega arith
fewer_taken (suc n) [] = omega arith
fewer_taken (suc n) (x ∷ xs) = let h = fewer_taken n xs in omega (arith, h)

-- So many first elements are no more than that.
taken_few : {X : Type 0} (n : ℕ) (xs : List X) → length (take n xs) ≤ n
taken_few zero xs = omega arith
taken_few (suc n) [] = omega arith
taken_few (suc n) (x ∷ xs) = let h = taken_few n xs in omega (arith, h)

-- There are no more pairs than elements of the second list.
zip_few : {X Y : Type 0} (xs : List X) (ys : List Y) → length (zip xs ys) ≤ length ys
zip_few [] ys = omega arith
zip_few (x ∷ xs) [] = omega arith
zip_few (x ∷ xs) (y ∷ ys) = let h = zip_few xs ys in omega (arith, h)

-- a compaction's plan has at most 64 moves
pub plan_few : (looks : List BlockLook) → length (plan_of looks) ≤ 64
plan_few looks = go (reverse (flat_map row_places (filter is_in_group looks))) (flat_map gap_places (filter is_in_group looks))
  where
    go : (rows : List (ℕ × MovableRow)) (gaps : List ℕ) → length (pairs_of rows gaps) ≤ 64
    go rows gaps =
        let places : List ℕ = map (λ (row : ℕ × MovableRow). row.0) rows in
        let most : List (ℕ × ℕ) = take 64 (zip places gaps) in
        let a = length-map (zip rows (moves_of places gaps)) pair_of in
        let b = zip_few rows (moves_of places gaps) in
        let c : length (moves_of places gaps) ≤ length most = fewer_taken (prefix_len (λ (pair : ℕ × ℕ). nat_lt pair.1 pair.0) most) most in
        let d : length most ≤ 64 = taken_few 64 (zip places gaps) in
        omega (arith, a, b, c, d)

-- ---- the current row

-- where a row is current there is a row
pub current_row : (slot : ℕ → Rattle.block_spec.specs.Slots.Slot) (places : List ℕ) (place : ℕ) → Rattle.event_spec.specs.Judged.current_place slot places ≡ Some place → Rattle.std.specs.Prelude.is_some (slot place).row ≡ true
current_row slot [] place e = absurd (let never : ⊥ = cc e in never)
current_row slot (p ∷ places) place e = go (Rattle.std.specs.Prelude.is_some (slot p).row) refl e (current_row slot places place)
  where
    go : (b : Bool) → Rattle.std.specs.Prelude.is_some (slot p).row ≡ b
        → Rattle.std.specs.Option.option_or (cond (Rattle.std.specs.Prelude.is_some (slot p).row) (Some p) None) (Rattle.event_spec.specs.Judged.current_place slot places) ≡ Some place
        → (Rattle.event_spec.specs.Judged.current_place slot places ≡ Some place → Rattle.std.specs.Prelude.is_some (slot place).row ≡ true)
        → Rattle.std.specs.Prelude.is_some (slot place).row ≡ true
    go true is e rest =
        let here : p ≡ place = same_Some p place (ap (λ b. Rattle.std.specs.Option.option_or (cond b (Some p) None) (Rattle.event_spec.specs.Judged.current_place slot places)) (sym is) ∙ e) in
        ap (λ x. Rattle.std.specs.Prelude.is_some (slot x).row) (sym here) ∙ is
    go false is e rest = rest (ap (λ b. Rattle.std.specs.Option.option_or (cond b (Some p) None) (Rattle.event_spec.specs.Judged.current_place slot places)) (sym is) ∙ e)

-- a slot with a row is not bare
pub row_filled : (slot : Rattle.block_spec.specs.Slots.Slot) → Rattle.std.specs.Prelude.is_some slot.row ≡ true → Rattle.block_spec.specs.Slots.is_bare slot ≡ false
row_filled slot e = go slot.row e
  where
    go : (o : Option Row) → Rattle.std.specs.Prelude.is_some o ≡ true → (Rattle.std.specs.Prelude.is_none o && Rattle.block_spec.specs.Slots.has_none slot.entries) ≡ false
    go None e = absurd (true_false (sym e))
    go (Some row) e = refl

-- ---- tables

-- a table has as many blocks by the lines as by the shape
pub blocks_same : (shape : Shape) (t : ℕ) → blocks_at shape.tables t ≡ blocks_of shape t
blocks_same shape t = go (slice_get shape.tables t)
  where
    go : (o : Option TableDecl) → option_map_or (λ decl. decl.blocks) o 0 ≡ unwrap_or (option_map (λ (decl : TableDecl). decl.blocks) o) 0
    go None = refl
    go (Some decl) = refl

-- and as many slots
pub slots_same : (shape : Shape) (t : ℕ) → slots_at shape.tables t ≡ slots_of shape t
slots_same shape t = go (slice_get shape.tables t)
  where
    go : (o : Option TableDecl) → option_map_or (λ decl. decl.slots) o 0 ≡ unwrap_or (option_map (λ (decl : TableDecl). decl.slots) o) 0
    go None = refl
    go (Some decl) = refl

-- ---- a line at an event

module _ (script : Script) (parts : Parts) (front : List Occurrence) (at next : IsolationMachine) (lines : List Entry) (is_shape : IsShape (shape_of script))
    (held : Holds script parts front at lines) (who : Who) where
  -- What the line that is told says of blocks and counts is what those in front say.
  abbrev Says : Command → Option Said → Type 0
  Says asked told = (line : Said) → told ≡ Some line → CountsFrom script.begun script.tables lines (command_told who asked) line

  -- A plain line that is told says nothing of blocks and counts.
  says_plain : (asked : Command) (told : Option Said) (here : Said) → told ≡ Some here → is_plain here ≡ true → Says asked told
  says_plain asked told here is plain line tells =
      subst (CountsFrom script.begun script.tables lines (command_told who asked)) (same_line here line (sym is ∙ tells)) (plain_counts script.begun script.tables lines (command_told who asked) here plain)

  -- Where this line is told and fits those in front, what is told does.
  says : (asked : Command) (told : Option Said) (here : Said) → told ≡ Some here → CountsFrom script.begun script.tables lines (command_told who asked) here → Says asked told
  says asked told here is counts line tells = subst (CountsFrom script.begun script.tables lines (command_told who asked)) (same_line here line (sym is ∙ tells)) counts

  -- Where nothing is told, nothing is said of blocks and counts.
  says_none : (asked : Command) (told : Option Said) → told ≡ None → Says asked told
  says_none asked told is line tells = absurd (let never : None ≡ Some line = sym is ∙ tells in let no : ⊥ = cc in no)

  -- a pruning's count is no more than what the lines in front allow
  abbrev PruneCounts : Command → List Occurrence → Type 0
  PruneCounts asked made = asked ≡ command.Prune
      → sum_by dropped_told (replies_in made) + sum (shown_in pruned_in lines) ≤ writes_committed_in lines + 2 * sum (shown_in moved_in lines)

  -- A line that is told quietly fits those in front where a pruning's count does.
  quiet_says : (asked : Command) (made : List Occurrence) (told : Option Said) → PruneCounts asked made → TellsQuietly asked made told → Says asked told
  quiet_says asked made told counts (line, is, inl plain) = says_plain asked told line is plain
  quiet_says asked made told counts (line, is, inr (inl moved)) = says asked told line is (subst (CountsFrom script.begun script.tables lines (command_told who asked)) (sym moved) (let few : 0 ≤ 64 = omega arith in few))
  quiet_says asked made told counts (line, is, inr (inr pruned)) =
      says asked told line is (subst (CountsFrom script.begun script.tables lines (command_told who asked)) (sym pruned.1) (counts pruned.0))

  -- an insert finds no room
  full_says : (own : OwnKey) (table : ℕ) (row : Row) (n : ℕ) → IsLawful (shape_of script) (event.Insert own table row) parts
      → reply_to (shape_of script) parts (event.Insert own table row) ≡ reply.Refused (refusal.Full n)
      → CountsFrom script.begun script.tables lines (command_told who (command.Insert table row)) said.Full
  full_says own table row n lawful is = go (is_worker who)
    where
      go : (b : Bool) → FindsFull script.begun script.tables lines (cond b command.Observe (command.Insert table row))
      go true = tt
      go false =
          let found = (full_exactly (shape_of script) parts own table row at n is_shape held.ok lawful held.follows).0 is in
          let full = full_is_full (shape_of script) parts own table found.1 in
          let room = held.room table lawful.1.0 in
          let u = room.used_up in let i = room.inserts in
          let size : capacity_at script.tables table ≡ blocks_of (shape_of script) table * slots_of (shape_of script) table =
          ap (λ n. n * slots_at script.tables table) (blocks_same (shape_of script) table)
          ∙ ap (λ n. blocks_of (shape_of script) table * n) (slots_same (shape_of script) table) in
          let least : capacity_at script.tables table ≤ length (rows_left script.begun table) + inserts_in table lines = omega (arith, full, u, i, size) in
          least

  -- a change finds its row's block sealed
  freezing_says : (table : ℕ) (key : ℤ) (asked : Command) (block stamp : ℕ) → IsSealedIn (shape_of script) parts table key block stamp
      → CountsFrom script.begun script.tables lines (command_told who asked) (said.Freezing table block stamp)
  freezing_says table key asked block stamp found =
      let place = found.place in
      let row = current_row (Rattle.event_spec.specs.Parts.slot_at (shape_of script) parts table) (Rattle.event_spec.specs.Parts.places_at (shape_of script) parts table key) found.place found.current in
      let has : HasBlock (shape_of script) table block =
      subst (HasBlock (shape_of script) table) (sym found.block_is)
      (filled_there (shape_of script) parts held.ok table found.place (row_filled (Rattle.event_spec.specs.Parts.slot_at (shape_of script) parts table found.place) row)).0 in
      let stamped = held.stamped table block has in
      let last = (held.ok.bodies table block has).sealed stamp found.sealed in
      let now : sealed_now (body_at (shape_of script) parts table block) ≡ 1 = ap (λ p. cond {A = ℕ} (is_sealed p) 1 0) found.sealed in
      let l = stamped.last in let p = stamped.phase in
      (omega (arith, l, last), omega (arith, l, last, p, now))

  -- A write's line fits those in front where a full table and a freezing block do.
  write_says : (table : ℕ) (asked : Command) (told : Option Said) (worker refused : Bool) (r : Result ℕ WriteFault)
      → told ≡ line_to worker (told_by table 0 (cond refused reply.Memory (reply_to_write r)))
      → ((n : ℕ) → r ≡ Err (refusal.Full n) → refused ≡ false → CountsFrom script.begun script.tables lines (command_told who asked) said.Full)
      → ((b g : ℕ) → r ≡ Err (refusal.Freezing b g) → refused ≡ false → CountsFrom script.begun script.tables lines (command_told who asked) (said.Freezing table b g))
      → Says asked told
  write_says table asked told worker true r tells full freezing = says_plain asked told said.Memory (tells ∙ not_silent worker said.Memory refl) refl
  write_says table asked told worker false (Ok p) tells full freezing = says asked told said.Accepted (tells ∙ not_silent worker said.Accepted refl) tt
  write_says table asked told worker false (Err (refusal.ConflictSession q)) tells full freezing = says asked told (said.ConflictSession q) (tells ∙ not_silent worker (said.ConflictSession q) refl) tt
  write_says table asked told worker false (Err (refusal.ConflictCommit n)) tells full freezing = says asked told (said.ConflictCommit n) (tells ∙ not_silent worker (said.ConflictCommit n) refl) tt
  write_says table asked told worker false (Err refusal.Exists) tells full freezing = says asked told said.Exists (tells ∙ not_silent worker said.Exists refl) tt
  write_says table asked told worker false (Err refusal.Missing) tells full freezing = says asked told said.Missing (tells ∙ not_silent worker said.Missing refl) tt
  write_says table asked told worker false (Err (refusal.Freezing b g)) tells full freezing =
      says asked told (said.Freezing table b g) (tells ∙ not_silent worker (said.Freezing table b g) refl) (freezing b g refl refl)
  write_says table asked told worker false (Err (refusal.Full n)) tells full freezing =
      says asked told said.Full (tells ∙ not_silent worker said.Full refl) (full n refl refl)

  -- A seal's line fits those in front.
  seal_says : (table block : ℕ) (asked : Command) (told : Option Said) (worker refused : Bool) → HasBlock (shape_of script) table block
      → told ≡ line_to worker (told_by table block (cond refused reply.Memory (reply_to (shape_of script) parts (event.Seal table block)))) → Says asked told
  seal_says table block asked told worker true has tells = says_plain asked told said.Memory (tells ∙ not_silent worker said.Memory refl) refl
  seal_says table block asked told worker false has tells = go (seal_fault (is_head (shape_of script) parts table block) (body_at (shape_of script) parts table block)) refl
    where
      last : ℕ
      last = (body_at (shape_of script) parts table block).last

      go : (o : Option SealFault) → seal_fault (is_head (shape_of script) parts table block) (body_at (shape_of script) parts table block) ≡ o → Says asked told
      go None e =
          let granted : reply_to (shape_of script) parts (event.Seal table block) ≡ reply.Sealed ((body_at (shape_of script) parts table block).last + 1) =
          ap (λ o. reply_to_seal o (body_at (shape_of script) parts table block).last) e in
          let now = seals_are_told (shape_of script) parts table block ((body_at (shape_of script) parts table block).last + 1) granted in
          let stamped = held.stamped table block has in
          let l = stamped.last in let p = stamped.phase in let zero_now = now.1 in
          says asked told (said.Sealed table block ((body_at (shape_of script) parts table block).last + 1))
          (tells ∙ ap (λ r. line_to worker (told_by table block r)) granted ∙ not_silent worker (said.Sealed table block ((body_at (shape_of script) parts table block).last + 1)) refl)
          (omega (arith, p, zero_now), omega (arith, l))
      go (Some fault) e =
          let line : told ≡ line_to worker (Some (said.NotSealed (cause_told fault))) =
          tells ∙ ap (λ o. line_to worker (told_by table block (reply_to_seal o (body_at (shape_of script) parts table block).last))) e in
          or (silent_or worker (said.NotSealed (cause_told fault)) told line)
        where
          or : (told ≡ None) ⊎ (told ≡ Some (said.NotSealed (cause_told fault))) → Says asked told
          or (inl none) = says_none asked told none
          or (inr is) = says asked told (said.NotSealed (cause_told fault)) is tt

  -- An image's line fits those in front.
  image_says : (table block : ℕ) (image : Option (List Row)) (told : Option Said) (refused : Bool) → HasBlock (shape_of script) table block
      → told ≡ line_to (is_worker who) (told_by table block (cond refused reply.Memory (reply_to (shape_of script) parts (event.Image table block image)))) → Says (command.Gather table block) told
  image_says table block image told true has tells = says_plain (command.Gather table block) told said.Memory (tells ∙ not_silent (is_worker who) said.Memory refl) refl
  image_says table block image told false has tells = go (body_at (shape_of script) parts table block).phase refl
    where
      stamped : Stamped (shape_of script) parts lines table block
      stamped = held.stamped table block has

      unsealed : reply_to_image (body_at (shape_of script) parts table block).phase (body_at (shape_of script) parts table block) ≡ reply.NoSeal → Says (command.Gather table block) told
      unsealed is = or (silent_or (is_worker who) said.NotFrozen told (tells ∙ ap (λ r. line_to (is_worker who) (told_by table block r)) is))
        where
          or : (told ≡ None) ⊎ (told ≡ Some said.NotFrozen) → Says (command.Gather table block) told
          or (inl none) = says_none (command.Gather table block) told none
          or (inr told_is) = says (command.Gather table block) told said.NotFrozen told_is (finds (is_worker who))
            where
              finds : (b : Bool) → FindsUnsealed lines (cond b command.Observe (command.Gather table block))
              finds true = tt
              finds false =
                  let none = (images_are_told (shape_of script) parts table block image held.ok has).none is in
                  let p = (held.stamped table block has).phase in
                  let same : seals_in table block lines ≡ freezes_in table block lines = omega (arith, p, none) in
                  same

      go : (phase : Phase) → (body_at (shape_of script) parts table block).phase ≡ phase → Says (command.Gather table block) told
      go Loose e = unsealed (ap (λ p. reply_to_image p (body_at (shape_of script) parts table block)) e)
      go (Imaged g) e = unsealed (ap (λ p. reply_to_image p (body_at (shape_of script) parts table block)) e)
      go (Sealed g) e =
          let rows : ℕ = length (Rattle.block_spec.specs.Bodies.rows_of (body_at (shape_of script) parts table block)) in
          let granted : reply_to (shape_of script) parts (event.Image table block image) ≡ reply.Imaged rows = ap (λ p. reply_to_image p (body_at (shape_of script) parts table block)) e in
          let is = (images_are_told (shape_of script) parts table block image held.ok has).granted rows granted in
          let p = (held.stamped table block has).phase in
          let one = is.0 in let few = is.2 in
          let size = slots_same (shape_of script) table in
          says (command.Gather table block) told (said.Frozen table block rows)
          (tells ∙ ap (λ r. line_to (is_worker who) (told_by table block r)) granted ∙ not_silent (is_worker who) (said.Frozen table block rows) refl)
          (omega (arith, p, one), is.1, omega (arith, few, size))

  -- A move's line fits those in front, as it moves at most 64 rows.
  move_says : (table : ℕ) (pairs : List MovePair) (made : List Occurrence) (asked : Command) (told : Option Said) (refused : Bool) → pairs ≡ plan_of (looks_in made)
      → TellsMove (cond refused reply.Memory (reply_to (shape_of script) parts (event.Move table pairs))) told → Says asked told
  move_says table pairs made asked told refused plan (inl h) = says_plain asked told said.Memory h.1 refl
  move_says table pairs made asked told true plan (inr is) = says asked told (said.Moved 0) is (let few : 0 ≤ 64 = omega arith in few)
  move_says table pairs made asked told false plan (inr is) =
      let a = kept_few (holds (shape_of script) parts table) pairs in
      let b = plan_few (looks_in made) in
      let c = ap (λ (ps : List MovePair). length ps) plan in
      says asked told (said.Moved (length (held_pairs (shape_of script) parts table pairs))) is
      (let few : length (held_pairs (shape_of script) parts table pairs) ≤ 64 = omega (arith, a, b, c) in few)

  -- What is told at a commit, refused or not.
  commit_says : (own : OwnTransaction) (asked : Command) (told : Option Said) (stale : Option (Read × ℕ)) → told ≡ line_to (is_worker who) (told_by 0 0 (reply_to_commit (shape_of script) parts own stale)) → Says asked told
  commit_says own asked told (Some stale) is = says_plain asked told (said.Stale (stale_of stale.0) stale.1) (is ∙ not_silent (is_worker who) (said.Stale (stale_of stale.0) stale.1) refl) refl
  commit_says own asked told None is =
      let n : Option ℕ = cond (Rattle.event_spec.specs.Effects.is_some_write own.writes) (Some ((Rattle.event_spec.specs.Parts.desk_at (shape_of script) parts).commits + 1)) None in
      says asked told (said.Committed n) (is ∙ not_silent (is_worker who) (said.Committed n) refl) tt

  -- What is told at an event.
  pub event_says : (e : CoreEvent) (refused : Bool) (made : List Occurrence) (asked : Command) (told : Option Said)
      → IsLawful (shape_of script) e parts
      → IsStep (command_in e) (reads_handed e) at (cond refused reply.Memory (reply_to (shape_of script) parts e)) next
      → PruneCounts asked made
      → TellsAt (is_worker who) made e (cond refused reply.Memory (reply_to (shape_of script) parts e)) asked told
      → Says asked told
  event_says (event.Begin session) true made asked told lawful step counts h = says_plain asked told said.Memory (h.1 ∙ not_silent (is_worker who) said.Memory refl) refl
  event_says (event.Begin session) false made asked told lawful step counts h =
      says asked told (said.At (Rattle.event_spec.specs.Parts.desk_at (shape_of script) parts).commits) (h.1 ∙ not_silent (is_worker who) (said.At (Rattle.event_spec.specs.Parts.desk_at (shape_of script) parts).commits) refl) tt
  event_says (event.Get own table key) refused made asked told lawful step counts h = quiet_says asked made told counts h
  event_says (event.Insert own table row) refused made asked told lawful step counts h =
      write_says table asked told (is_worker who) refused (insert_judged (shape_of script) parts own table (key_of row)) h.1
      (λ n is granted. subst (λ c. CountsFrom script.begun script.tables lines (command_told who c) said.Full) (sym h.0) (full_says own table row n lawful (ap reply_to_write is)))
      (λ b g is granted. absurd (never_freezing b g is granted))
    where
      never_freezing : (b g : ℕ) → insert_judged (shape_of script) parts own table (key_of row) ≡ Err (refusal.Freezing b g) → refused ≡ false → ⊥
      never_freezing b g is granted =
          (subst (λ r. IsStep (command_in (event.Insert own table row)) (reads_handed (event.Insert own table row)) at (reply_to_write r) next) is
          (subst (λ x. IsStep (command_in (event.Insert own table row)) (reads_handed (event.Insert own table row)) at (cond x reply.Memory (reply_to (shape_of script) parts (event.Insert own table row))) next) granted step)).0
  event_says (event.Update own table row) refused made asked told lawful step counts h =
      write_says table asked told (is_worker who) refused (change_judged (shape_of script) parts own table (key_of row)) h.1
      (λ n is granted. absurd (never_full n is granted))
      (λ b g is granted. freezing_says table (key_of row) asked b g
      (((freezes_exactly (shape_of script) parts own table at b g is_shape held.ok held.follows).0 row lawful).0 (ap reply_to_write is)).1)
    where
      never_full : (n : ℕ) → change_judged (shape_of script) parts own table (key_of row) ≡ Err (refusal.Full n) → refused ≡ false → ⊥
      never_full n is granted =
          (subst (λ r. IsStep (command_in (event.Update own table row)) (reads_handed (event.Update own table row)) at (reply_to_write r) next) is
          (subst (λ x. IsStep (command_in (event.Update own table row)) (reads_handed (event.Update own table row)) at (cond x reply.Memory (reply_to (shape_of script) parts (event.Update own table row))) next) granted step)).0
  event_says (event.Delete own table key) refused made asked told lawful step counts h =
      write_says table asked told (is_worker who) refused (change_judged (shape_of script) parts own table key) h.1
      (λ n is granted. absurd (never_full n is granted))
      (λ b g is granted. freezing_says table key asked b g
      (((freezes_exactly (shape_of script) parts own table at b g is_shape held.ok held.follows).1 key lawful).0 (ap reply_to_write is)).1)
    where
      never_full : (n : ℕ) → change_judged (shape_of script) parts own table key ≡ Err (refusal.Full n) → refused ≡ false → ⊥
      never_full n is granted =
          (subst (λ r. IsStep (command_in (event.Delete own table key)) (reads_handed (event.Delete own table key)) at (reply_to_write r) next) is
          (subst (λ x. IsStep (command_in (event.Delete own table key)) (reads_handed (event.Delete own table key)) at (cond x reply.Memory (reply_to (shape_of script) parts (event.Delete own table key))) next) granted step)).0
  event_says (event.Read own table block) refused made asked told lawful step counts h = quiet_says asked made told counts h
  event_says (event.Range own table low high) refused made asked told lawful step counts h = quiet_says asked made told counts h
  event_says (event.Commit own reads) true made asked told lawful step counts h = says_plain asked told said.Memory (h.1 ∙ not_silent (is_worker who) said.Memory refl) refl
  event_says (event.Commit own reads) false made asked told lawful step counts h = commit_says own asked told (stale_in (shape_of script) parts own reads) h.1
  event_says (event.Abort own) true made asked told lawful step counts h = says_plain asked told said.Memory (h.1 ∙ not_silent (is_worker who) said.Memory refl) refl
  event_says (event.Abort own) false made asked told lawful step counts h = says asked told said.Aborted (h.1 ∙ not_silent (is_worker who) said.Aborted refl) tt
  event_says event.Oldest refused made asked told lawful step counts h = quiet_says asked made told counts h
  event_says (event.Observe table block) refused made asked told lawful step counts h = quiet_says asked made told counts h
  event_says (event.Prune table block oldest) refused made asked told lawful step counts h = quiet_says asked made told counts h
  event_says (event.Look table block) refused made asked told lawful step counts h = quiet_says asked made told counts h
  event_says (event.Move table moves) refused made asked told lawful step counts h = move_says table moves made asked told refused h.1 h.2
  event_says (event.Seal table block) refused made asked told lawful step counts h = seal_says table block asked told (is_worker who) refused lawful.1 h.1
  event_says (event.Image table block image) refused made asked told lawful step counts h =
      subst (λ c. Says c told) (sym h.0) (image_says table block image told refused lawful.1.0 h.1)
  event_says (event.Thaw table block) refused made asked told lawful step counts h = quiet_says asked made told counts h
