-- What a call tells may stand where it is due.
use Rattle.std.proofs.Common.{◌≡◌, ◌⊎◌, ℕ, ◌+◌, ◌<◌, ◌^◌, ℤ, Bool, true, false, cond, List, length, Option, None, Some, option_map, is_some, is_none, refl, sym, ap, ◌∙◌, subst, arith}
use mathlib.Core.Logic.{inl, inr}
use Rattle.std.specs.Prelude.{IfSome, Result, Ok, Err, option_and_then}
use Rattle.std.specs.Option.{option_or}
use Rattle.block_layout.specs.Place.{block_of}
use Rattle.undo_chain.specs.declared.chain.Newer.{Newer}
use Rattle.undo_chain.specs.declared.chain.Newer.TheVariants as newer
use Rattle.block_spec.specs.Bodies.{seal_fault}
use Rattle.block_spec.specs.declared.phase.Phase.{Phase}
use Rattle.block_spec.specs.declared.phase.Phase.TheVariants.{Loose, Sealed, Imaged}
use Rattle.block_spec.specs.declared.phase.SealFault.{SealFault}
use Rattle.block_spec.specs.Slots.{Row}
use Rattle.core_laws.proofs.Events.Plain.{plain}
use Rattle.core_laws.specs.Events.Laws.{IsStep, command_in}
use Rattle.event_spec.specs.declared.event.Event.TheVariants as event
use Rattle.event_spec.specs.declared.own.OwnKey.{OwnKey}
use Rattle.event_spec.specs.declared.own.OwnTransaction.{OwnTransaction}
use Rattle.event_spec.specs.declared.reply.Reply.TheVariants as reply
use Rattle.event_spec.specs.declared.reply.WriteFault.{WriteFault}
use Rattle.event_spec.specs.declared.reply.WriteFault.TheVariants as refusal
use Rattle.event_spec.specs.Effects.{CoreEvent, change_judged, found, held_pairs, holds, insert_judged, is_some_write, stale_in}
use Rattle.event_spec.specs.Judged.{current_place, fault_of, freezing_of, judged, newer_by, next_place}
use Rattle.event_spec.specs.Lawful.{HasBlock, IsLawful, reads_handed, takes_memory}
use Rattle.event_spec.specs.Parts.{Parts, Shape, blocks_of, body_at, desk_at, head_at, is_head, places_at, slot_at, slots_of}
use Rattle.event_spec.specs.Plans.{plan_of}
use Rattle.event_spec.specs.Replies.{reply_to, reply_to_commit, reply_to_image, reply_to_seal, reply_to_write}
use Rattle.event_spec.specs.Sound.{IsShape}
use Rattle.isolation_spec.specs.Contents.{key_of}
use Rattle.isolation_spec.specs.declared.read.Read.{Read}
use Rattle.isolation_spec.specs.Machine.{IsolationMachine}
use Rattle.outcome_spec.specs.Entries.{Entry}
use Rattle.isolation_spec.specs.Reads.{ReadSet}
use Rattle.timeline_spec.specs.Forms.{IsReplyWithout, MayStand}
use Rattle.workload_spec.specs.declared.command.Command.{Command}
use Rattle.workload_spec.specs.declared.command.Command.TheVariants as command
use Rattle.workload_spec.specs.declared.reply.Said.{Said}
use Rattle.workload_spec.specs.declared.reply.Said.TheVariants as said
use Rattle.workload_spec.specs.declared.script.Script.{Script}
use Rattle.run_spec.specs.Asked.{looks_in}
use Rattle.run_spec.specs.Calls.{line_to, may_lack_memory}
use Rattle.run_spec.specs.Occurrences.{Occurrence}
use Rattle.run_spec.specs.Opened.{least_written}
use Rattle.run_spec.specs.Ran.{shape_of}
use Rattle.run_spec.specs.Told.{cause_told, refusal_of, stale_of, told_by}
use Rattle.run_laws.proofs.Moments.Reads.{ReadsAreKeys}
use Rattle.run_laws.proofs.Explained.Staling.{stale_names}
use Rattle.run_laws.specs.Told.Laws.{TellsAt, TellsMove, is_quiet}
use Rattle.run_laws.proofs.Told.Tells.{not_silent}
use Rattle.run_laws.proofs.Explained.Conflicting.{Small, delete_small, insert_small, update_small}
use Rattle.core_laws.proofs.Logs.Refusals.{freezes_exactly}
use Rattle.core_laws.specs.Logs.Laws.{IsSealedIn}
use Rattle.core_laws.proofs.Sound.Written.{filled_there}
use Rattle.run_laws.proofs.Counts.Stamps.{images_are_told}
use Rattle.event_spec.specs.declared.event.MovePair.{MovePair}
use Rattle.core_laws.specs.Following.Laws.{command_of}
use Rattle.isolation_spec.specs.declared.command.Act.{Act}
use Rattle.isolation_spec.specs.declared.command.Act.TheVariants as act
use Rattle.timeline_spec.specs.Forms.{IsChangeReply}
use Rattle.run_laws.proofs.Explained.Counting.{current_row, kept_few, plan_few, row_filled}
use Rattle.run_laws.proofs.Explained.Holding.{Holds}
use Rattle.run_laws.proofs.Explained.Keys.{KeysFit, least_fits}
use Rattle.run_laws.proofs.Explained.Shown.{silent_or}

-- What is true is not false.
true_false : true ≡ false → ⊥
true_false e = cc

-- Where nothing is told, no line is.
none_is : (line : Said) → None ≡ Some line → ⊥
none_is line e = cc

-- What is told as one of two lines and as the other is one line.
same_line : (a b : Said) → Some a ≡ Some b → a ≡ b
same_line a b e = cc

-- ---- refusals, and want of memory

-- That there is no transaction may stand where a command needs one.
needs_stands : (asked : Command) (own : Option OwnTransaction) (line : Said) → IsReplyWithout asked said.NoTransaction → cond (is_none own) (Some said.NoTransaction) None ≡ Some line → MayStand asked line
needs_stands asked None line is e = inr (subst (IsReplyWithout asked) (same_line said.NoTransaction line e) is)
needs_stands asked (Some t) line is e = absurd (none_is line e)

-- a refusal may stand where its command is due
pub refusal_stands : (asked : Command) (own : Option OwnTransaction) (line : Said) → KeysFit own → refusal_of asked own ≡ Some line → MayStand asked line
refusal_stands (command.Begin checked) None line fit e = absurd (none_is line e)
refusal_stands (command.Begin checked) (Some t) line fit e = inl (sym (same_line said.InTransaction line e))
refusal_stands (command.Get table key) own line fit e = needs_stands (command.Get table key) own line refl e
refusal_stands (command.Scan table) own line fit e = needs_stands (command.Scan table) own line refl e
refusal_stands (command.Range table low high) own line fit e = needs_stands (command.Range table low high) own line refl e
refusal_stands (command.Total table column low high) own line fit e = needs_stands (command.Total table column low high) own line refl e
refusal_stands (command.Insert table row) own line fit e = needs_stands (command.Insert table row) own line refl e
refusal_stands (command.Update table row) own line fit e = needs_stands (command.Update table row) own line refl e
refusal_stands (command.Delete table key) own line fit e = needs_stands (command.Delete table key) own line refl e
refusal_stands command.Commit own line fit e = needs_stands command.Commit own line refl e
refusal_stands command.Abort own line fit e = needs_stands command.Abort own line refl e
refusal_stands command.Observe own line fit e = absurd (none_is line e)
refusal_stands command.Prune own line fit e = absurd (none_is line e)
refusal_stands (command.Compact table) own line fit e = absurd (none_is line e)
refusal_stands (command.Seal table block) own line fit e = absurd (none_is line e)
refusal_stands (command.Gather table block) own line fit e = absurd (none_is line e)
refusal_stands (command.Export table) None line fit e = inr (sym (same_line said.NoTransaction line e))
refusal_stands (command.Export table) (Some t) line fit e = go (least_written table t) refl e
  where
    go : (o : Option ℤ) → least_written table t ≡ o → option_map said.Dirty o ≡ Some line → MayStand (command.Export table) line
    go None is e = absurd (none_is line e)
    go (Some key) is e = subst (MayStand (command.Export table)) (same_line (said.Dirty key) line e) (inl (least_fits table t key fit is))

-- so may the lack of memory, where the command may lack it
pub memory_stands : (asked : Command) → may_lack_memory asked ≡ true → MayStand asked said.Memory
memory_stands (command.Begin checked) e = absurd (true_false (sym e))
memory_stands (command.Get table key) e = inl tt
memory_stands (command.Scan table) e = inl tt
memory_stands (command.Range table low high) e = inl tt
memory_stands (command.Total table column low high) e = inl tt
memory_stands (command.Insert table row) e = inl tt
memory_stands (command.Update table row) e = inl tt
memory_stands (command.Delete table key) e = inl tt
memory_stands command.Commit e = absurd (true_false (sym e))
memory_stands command.Abort e = absurd (true_false (sym e))
memory_stands command.Observe e = absurd (true_false (sym e))
memory_stands command.Prune e = absurd (true_false (sym e))
memory_stands (command.Compact table) e = inl tt
memory_stands (command.Seal table block) e = absurd (true_false (sym e))
memory_stands (command.Gather table block) e = inl tt
memory_stands (command.Export table) e = inl tt

-- ---- at an event that is not quiet

-- An insert is refused for its conflict, for a row that stands there, or for a full table.
insert_fault : (conflict : Option WriteFault) (b : Bool) (place : Option ℕ) (n : ℕ) (fault : WriteFault) → judged (option_or conflict (cond b (Some refusal.Exists) None)) place (refusal.Full n) ≡ Err fault
    → (conflict ≡ Some fault) ⊎ ((fault ≡ refusal.Exists) ⊎ (fault ≡ refusal.Full n))
insert_fault (Some x) b place n fault e = inl (cc)
insert_fault None true place n fault e = inr (inl (cc))
insert_fault None false None n fault e = inr (inr (cc))
insert_fault None false (Some p) n fault e = absurd (let never : ⊥ = cc e in never)

-- What refuses a change is a conflict, a missing row, or the freezing of its block.
change_fault : (conflict : Option WriteFault) (b : Bool) (frozen : Option WriteFault) (place : Option ℕ) (fault : WriteFault) → judged (option_or conflict (cond b (Some refusal.Missing) frozen)) place refusal.Missing ≡ Err fault
    → (conflict ≡ Some fault) ⊎ ((fault ≡ refusal.Missing) ⊎ (frozen ≡ Some fault))
change_fault (Some x) b frozen place fault e = inl (cc)
change_fault None true frozen place fault e = inr (inl (cc))
change_fault None false None None fault e = inr (inl (cc))
change_fault None false None (Some p) fault e = absurd (let never : ⊥ = cc e in never)
change_fault None false (Some x) place fault e = inr (inr (cc))

-- what a conflict may be
abbrev IsConflict : WriteFault → Type 0
IsConflict (refusal.ConflictSession q) = Unit {0}
IsConflict (refusal.ConflictCommit n) = Unit {0}
IsConflict _ = ⊥

-- The fault of what newer is met is a conflict.
conflict_is : (met : Newer) (fault : WriteFault) → fault_of met ≡ Some fault → IsConflict fault
conflict_is newer.Nothing fault e = absurd (let never : ⊥ = cc e in never)
conflict_is (newer.Session w) fault e = subst (λ (o : Option WriteFault). IfSome o IsConflict) e tt
conflict_is (newer.Number n) fault e = subst (λ (o : Option WriteFault). IfSome o IsConflict) e tt

-- a fault of an insert, and of a change
abbrev IsInsertFault : WriteFault → Type 0
IsInsertFault (refusal.ConflictSession q) = Unit {0}
IsInsertFault (refusal.ConflictCommit n) = Unit {0}
IsInsertFault refusal.Exists = Unit {0}
IsInsertFault (refusal.Full n) = Unit {0}
IsInsertFault refusal.Missing = ⊥
IsInsertFault (refusal.Freezing b g) = ⊥

-- An update or a delete may have this fault.
abbrev IsChangeFault : WriteFault → Type 0
IsChangeFault (refusal.ConflictSession q) = Unit {0}
IsChangeFault (refusal.ConflictCommit n) = Unit {0}
IsChangeFault refusal.Exists = ⊥
IsChangeFault (refusal.Full n) = ⊥
IsChangeFault refusal.Missing = Unit {0}
IsChangeFault (refusal.Freezing b g) = Unit {0}

-- A conflict is a fault that an insert may have.
conflict_insert : (fault : WriteFault) → IsConflict fault → IsInsertFault fault
conflict_insert (refusal.ConflictSession q) is = tt
conflict_insert (refusal.ConflictCommit n) is = tt
conflict_insert refusal.Exists is = absurd is
conflict_insert (refusal.Full n) is = absurd is
conflict_insert refusal.Missing is = absurd is
conflict_insert (refusal.Freezing b g) is = absurd is

-- A conflict is a fault that an update or a delete may have.
conflict_change : (fault : WriteFault) → IsConflict fault → IsChangeFault fault
conflict_change (refusal.ConflictSession q) is = tt
conflict_change (refusal.ConflictCommit n) is = tt
conflict_change refusal.Exists is = absurd is
conflict_change (refusal.Full n) is = absurd is
conflict_change refusal.Missing is = absurd is
conflict_change (refusal.Freezing b g) is = absurd is

-- The freezing of a block is a fault that an update or a delete may have.
frozen_change : (block : ℕ) (phase : Phase) (fault : WriteFault) → freezing_of block phase ≡ Some fault → IsChangeFault fault
frozen_change block Loose fault e = absurd (let never : ⊥ = cc e in never)
frozen_change block (Imaged g) fault e = absurd (let never : ⊥ = cc e in never)
frozen_change block (Sealed g) fault e = subst (λ (o : Option WriteFault). IfSome o IsChangeFault) e tt

module _ (sh : Shape) (s : Parts) (own : OwnKey) (t : ℕ) where
  -- The fault of a refused insert is one that an insert may meet.
  insert_kind : (key : ℤ) (fault : WriteFault) → insert_judged sh s own t key ≡ Err fault → IsInsertFault fault
  insert_kind key fault e = go (insert_fault (fault_of (newer_by (slot_at sh s t) (places_at sh s t key) own)) (is_some (found sh s own t key))
      (option_or own.written (next_place (head_at sh s t) (slots_of sh t))) (head_at sh s t).inserts fault e)
    where
      go : (fault_of (newer_by (slot_at sh s t) (places_at sh s t key) own) ≡ Some fault) ⊎ ((fault ≡ refusal.Exists) ⊎ (fault ≡ refusal.Full (head_at sh s t).inserts)) → IsInsertFault fault
      go (inl c) = conflict_insert fault (conflict_is (newer_by (slot_at sh s t) (places_at sh s t key) own) fault c)
      go (inr (inl e)) = subst IsInsertFault (sym e) tt
      go (inr (inr e)) = subst IsInsertFault (sym e) tt

  -- What an update or a delete is refused for is a fault that it may have.
  change_kind : (key : ℤ) (fault : WriteFault) → change_judged sh s own t key ≡ Err fault → IsChangeFault fault
  change_kind key fault e = go (change_fault (fault_of (newer_by (slot_at sh s t) (places_at sh s t key) own)) (is_none (found sh s own t key))
      (option_and_then (λ place. freezing_of (block_of place) (body_at sh s t (block_of place)).phase) (current_place (slot_at sh s t) (places_at sh s t key)))
      (current_place (slot_at sh s t) (places_at sh s t key)) fault e)
    where
      at : (o : Option ℕ) → option_and_then (λ place. freezing_of (block_of place) (body_at sh s t (block_of place)).phase) o ≡ Some fault → IsChangeFault fault
      at None e = absurd (let never : ⊥ = cc e in never)
      at (Some place) e = frozen_change (block_of place) (body_at sh s t (block_of place)).phase fault e

      go : (fault_of (newer_by (slot_at sh s t) (places_at sh s t key) own) ≡ Some fault) ⊎ ((fault ≡ refusal.Missing)
          ⊎ (option_and_then (λ place. freezing_of (block_of place) (body_at sh s t (block_of place)).phase) (current_place (slot_at sh s t) (places_at sh s t key)) ≡ Some fault)) → IsChangeFault fault
      go (inl c) = conflict_change fault (conflict_is (newer_by (slot_at sh s t) (places_at sh s t key) own) fault c)
      go (inr (inl e)) = subst IsChangeFault (sym e) tt
      go (inr (inr e)) = at (current_place (slot_at sh s t) (places_at sh s t key)) e

-- ---- a line at an event

module _ (script : Script) (few_seats : script.sessions + script.workers < 2 ^ 32) (parts : Parts) (front : List Occurrence) (at next : IsolationMachine) (lines : List Entry)
    (held : Holds script parts front at lines) (worker : Bool) where
  -- The line that is told, if one is, may stand where the command is due.
  abbrev Stands : Command → Option Said → Type 0
  Stands asked told = (line : Said) → told ≡ Some line → MayStand asked line

  -- Where this line is told and may stand, what is told may.
  stands : (asked : Command) (told : Option Said) (here : Said) → told ≡ Some here → MayStand asked here → Stands asked told
  stands asked told here is may line tells = subst (MayStand asked) (same_line here line (sym is ∙ tells)) may

  -- Where nothing is told, no line has to stand.
  stands_none : (asked : Command) (told : Option Said) → told ≡ None → Stands asked told
  stands_none asked told is line tells = absurd (none_is line (sym is ∙ tells))

  -- The count of commits is a number of 64 bits.
  commits_few : (desk_at (shape_of script) parts).commits < 2 ^ 64
  commits_few = let c = held.narrow.commits in let n = held.narrow.stamps in omega (arith, c, n)

  -- What an insert tells may stand where it is due.
  insert_stands : (own : OwnKey) (table : ℕ) (row : Row) (told : Option Said) (refused : Bool) (r : Result ℕ WriteFault) → insert_judged (shape_of script) parts own table (key_of row) ≡ r
      → told ≡ line_to worker (told_by table 0 (cond refused reply.Memory (reply_to_write r)))
      → IsStep (command_in (event.Insert own table row)) (reads_handed (event.Insert own table row)) at (cond refused reply.Memory (reply_to_write r)) next
      → Stands (command.Insert table row) told
  insert_stands own table row told true r is tells step = stands (command.Insert table row) told said.Memory (tells ∙ not_silent worker said.Memory refl) (inl tt)
  insert_stands own table row told false (Ok p) is tells step = stands (command.Insert table row) told said.Accepted (tells ∙ not_silent worker said.Accepted refl) (inl tt)
  insert_stands own table row told false (Err (refusal.ConflictSession q)) is tells step =
      let small = (insert_small script parts at held.follows held.ok.sessions own.session table row).0 q next step in
      stands (command.Insert table row) told (said.ConflictSession q) (tells ∙ not_silent worker (said.ConflictSession q) refl) (inl (let w : q < 2 ^ 32 = omega (arith, small, few_seats) in w))
  insert_stands own table row told false (Err (refusal.ConflictCommit n)) is tells step =
      let small = (insert_small script parts at held.follows held.ok.sessions own.session table row).1 n next step in
      let c = commits_few in
      stands (command.Insert table row) told (said.ConflictCommit n) (tells ∙ not_silent worker (said.ConflictCommit n) refl) (inl (let w : n < 2 ^ 64 = omega (arith, small, c) in w))
  insert_stands own table row told false (Err refusal.Exists) is tells step = stands (command.Insert table row) told said.Exists (tells ∙ not_silent worker said.Exists refl) (inl tt)
  insert_stands own table row told false (Err (refusal.Full n)) is tells step = stands (command.Insert table row) told said.Full (tells ∙ not_silent worker said.Full refl) (inl tt)
  insert_stands own table row told false (Err refusal.Missing) is tells step = absurd (insert_kind (shape_of script) parts own table (key_of row) refusal.Missing is)
  insert_stands own table row told false (Err (refusal.Freezing b g)) is tells step = absurd (insert_kind (shape_of script) parts own table (key_of row) (refusal.Freezing b g) is)

  -- an update or a delete
  change_stands : (asked : Command) (own : OwnKey) (table : ℕ) (key : ℤ) (what : Act) (told : Option Said) (refused : Bool) (r : Result ℕ WriteFault)
      → ((line : Said) → IsChangeReply table line → MayStand asked line)
      → change_judged (shape_of script) parts own table key ≡ r
      → told ≡ line_to worker (told_by table 0 (cond refused reply.Memory (reply_to_write r)))
      → Small script parts at held.follows held.ok.sessions own.session what
      → IsStep (Some (command_of own.session what)) None at (cond refused reply.Memory (reply_to_write r)) next
      → ((b g : ℕ) → change_judged (shape_of script) parts own table key ≡ Err (refusal.Freezing b g) → (b < 2 ^ 32) × (g < 2 ^ 32))
      → Stands asked told
  change_stands asked own table key what told true r may is tells small step freezing = stands asked told said.Memory (tells ∙ not_silent worker said.Memory refl) (may said.Memory tt)
  change_stands asked own table key what told false (Ok p) may is tells small step freezing = stands asked told said.Accepted (tells ∙ not_silent worker said.Accepted refl) (may said.Accepted tt)
  change_stands asked own table key what told false (Err (refusal.ConflictSession q)) may is tells small step freezing =
      let s = small.0 q next (sym (plain at (command_of own.session what)) ∙ step) in
      stands asked told (said.ConflictSession q) (tells ∙ not_silent worker (said.ConflictSession q) refl) (may (said.ConflictSession q) (let w : q < 2 ^ 32 = omega (arith, s, few_seats) in w))
  change_stands asked own table key what told false (Err (refusal.ConflictCommit n)) may is tells small step freezing =
      let s = small.1 n next (sym (plain at (command_of own.session what)) ∙ step) in
      let c = commits_few in
      stands asked told (said.ConflictCommit n) (tells ∙ not_silent worker (said.ConflictCommit n) refl) (may (said.ConflictCommit n) (let w : n < 2 ^ 64 = omega (arith, s, c) in w))
  change_stands asked own table key what told false (Err refusal.Missing) may is tells small step freezing = stands asked told said.Missing (tells ∙ not_silent worker said.Missing refl) (may said.Missing tt)
  change_stands asked own table key what told false (Err (refusal.Freezing b g)) may is tells small step freezing =
      let f = freezing b g is in
      stands asked told (said.Freezing table b g) (tells ∙ not_silent worker (said.Freezing table b g) refl) (may (said.Freezing table b g) (refl, f.0, f.1))
  change_stands asked own table key what told false (Err refusal.Exists) may is tells small step freezing = absurd (change_kind (shape_of script) parts own table key refusal.Exists is)
  change_stands asked own table key what told false (Err (refusal.Full n)) may is tells small step freezing = absurd (change_kind (shape_of script) parts own table key (refusal.Full n) is)

  -- What a seal tells may stand where the seal is due.
  seal_stands : (table block : ℕ) (told : Option Said) (refused : Bool) → HasBlock (shape_of script) table block → (refused ≡ true → ⊥)
      → told ≡ line_to worker (told_by table block (cond refused reply.Memory (reply_to (shape_of script) parts (event.Seal table block)))) → Stands (command.Seal table block) told
  seal_stands table block told true has granted tells = absurd (granted refl)
  seal_stands table block told false has granted tells = go (seal_fault (is_head (shape_of script) parts table block) (body_at (shape_of script) parts table block)) refl
    where
      go : (o : Option SealFault) → seal_fault (is_head (shape_of script) parts table block) (body_at (shape_of script) parts table block) ≡ o → Stands (command.Seal table block) told
      go None e =
          let small = (held.ok.bodies table block has).last in
          let stamp : ℕ = (body_at (shape_of script) parts table block).last + 1 in
          stands (command.Seal table block) told (said.Sealed table block stamp)
          (tells ∙ ap (λ o. line_to worker (told_by table block (reply_to_seal o (body_at (shape_of script) parts table block).last))) e ∙ not_silent worker (said.Sealed table block stamp) refl)
          (inl (refl, refl, let w : stamp < 2 ^ 32 = omega (arith, small) in w))
      go (Some fault) e = or (silent_or worker (said.NotSealed (cause_told fault)) told
          (tells ∙ ap (λ o. line_to worker (told_by table block (reply_to_seal o (body_at (shape_of script) parts table block).last))) e))
        where
          or : (told ≡ None) ⊎ (told ≡ Some (said.NotSealed (cause_told fault))) → Stands (command.Seal table block) told
          or (inl none) = stands_none (command.Seal table block) told none
          or (inr is) = stands (command.Seal table block) told (said.NotSealed (cause_told fault)) is (inl tt)

  -- What an image tells may stand where the gathering is due.
  image_stands : (is_shape : IsShape (shape_of script)) (table block : ℕ) (image : Option (List Row)) (told : Option Said) (refused : Bool) → HasBlock (shape_of script) table block
      → told ≡ line_to worker (told_by table block (cond refused reply.Memory (reply_to (shape_of script) parts (event.Image table block image)))) → Stands (command.Gather table block) told
  image_stands is_shape table block image told true has tells = stands (command.Gather table block) told said.Memory (tells ∙ not_silent worker said.Memory refl) (inl tt)
  image_stands is_shape table block image told false has tells = go (body_at (shape_of script) parts table block).phase refl
    where
      none : reply_to_image (body_at (shape_of script) parts table block).phase (body_at (shape_of script) parts table block) ≡ reply.NoSeal → Stands (command.Gather table block) told
      none is = or (silent_or worker said.NotFrozen told (tells ∙ ap (λ r. line_to worker (told_by table block r)) is))
        where
          or : (told ≡ None) ⊎ (told ≡ Some said.NotFrozen) → Stands (command.Gather table block) told
          or (inl none) = stands_none (command.Gather table block) told none
          or (inr is) = stands (command.Gather table block) told said.NotFrozen is (inl tt)

      go : (phase : Phase) → (body_at (shape_of script) parts table block).phase ≡ phase → Stands (command.Gather table block) told
      go Loose e = none (ap (λ p. reply_to_image p (body_at (shape_of script) parts table block)) e)
      go (Imaged g) e = none (ap (λ p. reply_to_image p (body_at (shape_of script) parts table block)) e)
      go (Sealed g) e =
          let rows : ℕ = length (Rattle.block_spec.specs.Bodies.rows_of (body_at (shape_of script) parts table block)) in
          let granted : reply_to (shape_of script) parts (event.Image table block image) ≡ reply.Imaged rows = ap (λ p. reply_to_image p (body_at (shape_of script) parts table block)) e in
          let few = ((images_are_told (shape_of script) parts table block image held.ok has).granted rows granted).2 in
          let most = (is_shape.slots table has.0).1 in
          stands (command.Gather table block) told (said.Frozen table block rows)
          (tells ∙ ap (λ r. line_to worker (told_by table block r)) granted ∙ not_silent worker (said.Frozen table block rows) refl)
          (inl (refl, refl, let w : rows < 2 ^ 32 = omega (arith, few, most) in w))

  -- What a move tells may stand where the compaction is due.
  move_stands : (table : ℕ) (pairs : List MovePair) (made : List Occurrence) (told : Option Said) (refused : Bool) → pairs ≡ plan_of (looks_in made)
      → TellsMove (cond refused reply.Memory (reply_to (shape_of script) parts (event.Move table pairs))) told → Stands (command.Compact table) told
  move_stands table pairs made told refused plan (inl h) = stands (command.Compact table) told said.Memory h.1 (inl tt)
  move_stands table pairs made told true plan (inr is) = stands (command.Compact table) told (said.Moved 0) is (inl (let w : 0 < 2 ^ 64 = omega arith in w))
  move_stands table pairs made told false plan (inr is) =
      let a = kept_few (holds (shape_of script) parts table) pairs in
      let b = plan_few (looks_in made) in
      let c = ap (λ (ps : List MovePair). length ps) plan in
      stands (command.Compact table) told (said.Moved (length (held_pairs (shape_of script) parts table pairs))) is
      (inl (let w : length (held_pairs (shape_of script) parts table pairs) < 2 ^ 64 = omega (arith, a, b, c) in w))

  -- The block and the stamp with which a key's row lies sealed are numbers of 32 bits.
  sealed_small : ((t : ℕ) → blocks_of (shape_of script) t < 2 ^ 32) → (table : ℕ) (key : ℤ) (b g : ℕ) → IsSealedIn (shape_of script) parts table key b g → (b < 2 ^ 32) × (g < 2 ^ 32)
  sealed_small few table key b g is =
      let row = current_row (slot_at (shape_of script) parts table) (places_at (shape_of script) parts table key) is.place is.current in
      let has : HasBlock (shape_of script) table b =
      subst (HasBlock (shape_of script) table) (sym is.block_is)
      (filled_there (shape_of script) parts held.ok table is.place (row_filled (slot_at (shape_of script) parts table is.place) row)).0 in
      let last = (held.ok.bodies table b has).sealed g is.sealed in
      let small = (held.ok.bodies table b has).last in
      let inside = has.1 in let most = few table in
      (omega (arith, inside, most), omega (arith, last, small))

  -- What a commit tells, refused or not, may stand where it is due.
  commit_stands : (own : OwnTransaction) (reads : Option ReadSet) (told : Option Said) (stale : Option (Read × ℕ)) → IsLawful (shape_of script) (event.Commit own reads) parts → ReadsAreKeys reads
      → told ≡ line_to worker (told_by 0 0 (reply_to_commit (shape_of script) parts own stale))
      → IsStep (command_in (event.Commit own reads)) reads at (reply_to_commit (shape_of script) parts own stale) next
      → Stands command.Commit told
  commit_stands own reads told (Some stale) lawful keys tells step =
      let names = stale_names at next reads own.session stale.0 stale.1 keys step in
      let small = names.small in
      let counted = held.follows.follows.desked.counted in
      let c = commits_few in
      stands command.Commit told (said.Stale (stale_of stale.0) stale.1) (tells ∙ not_silent worker (said.Stale (stale_of stale.0) stale.1) refl)
      (inl (names.keys, let w : stale.1 < 2 ^ 64 = omega (arith, small, counted, c) in w))
  commit_stands own reads told None lawful keys tells step = go (is_some_write own.writes) refl
    where
      go : (b : Bool) → is_some_write own.writes ≡ b → Stands command.Commit told
      go true e =
          let c = held.narrow.commits in
          let stamp : (desk_at (shape_of script) parts).newest + 1 < 2 ^ 63 = lawful.1.0 in
          let number : ℕ = (desk_at (shape_of script) parts).commits + 1 in
          stands command.Commit told (said.Committed (Some number))
          (tells ∙ ap (λ b. line_to worker (Some (said.Committed (cond b (Some number) None)))) e ∙ not_silent worker (said.Committed (Some number)) refl)
          (inl (let w : number < 2 ^ 64 = omega (arith, c, stamp) in w))
      go false e = stands command.Commit told (said.Committed None)
          (tells ∙ ap (λ b. line_to worker (Some (said.Committed (cond b (Some ((desk_at (shape_of script) parts).commits + 1)) None)))) e ∙ not_silent worker (said.Committed None) refl)
          (inl tt)

  -- What is told at an event that is not quiet.
  pub event_stands : (is_shape : IsShape (shape_of script)) (few_blocks : (t : ℕ) → blocks_of (shape_of script) t < 2 ^ 32) (e : CoreEvent) (refused : Bool) (made : List Occurrence) (asked : Command) (told : Option Said)
      → IsLawful (shape_of script) e parts → (refused ≡ true → takes_memory e ≡ true)
      → IsStep (command_in e) (reads_handed e) at (cond refused reply.Memory (reply_to (shape_of script) parts e)) next
      → TellsAt worker made e (cond refused reply.Memory (reply_to (shape_of script) parts e)) asked told
      → is_quiet e ≡ false
      → (asked ≡ command.Commit → ReadsAreKeys (reads_handed e))
      → Stands asked told
  event_stands is_shape few (event.Begin session) true made asked told lawful memory step h q keys = absurd (true_false (sym (memory refl)))
  event_stands is_shape few (event.Begin session) false made asked told lawful memory step h q keys =
      let c = commits_few in
      stands asked told (said.At (desk_at (shape_of script) parts).commits) (h.1 ∙ not_silent worker (said.At (desk_at (shape_of script) parts).commits) refl)
      (subst (λ a. MayStand a (said.At (desk_at (shape_of script) parts).commits)) (sym h.0.1) (inr (let w : (desk_at (shape_of script) parts).commits < 2 ^ 64 = omega (arith, c) in w)))
  event_stands is_shape few (event.Get own table key) refused made asked told lawful memory step h q keys = absurd (true_false q)
  event_stands is_shape few (event.Insert own table row) refused made asked told lawful memory step h q keys =
      subst (λ a. Stands a told) (sym h.0) (insert_stands own table row told refused (insert_judged (shape_of script) parts own table (key_of row)) refl h.1 step)
  event_stands is_shape few (event.Update own table row) refused made asked told lawful memory step h q keys =
      subst (λ a. Stands a told) (sym h.0) (change_stands (command.Update table row) own table (key_of row) (act.Update table row) told refused (change_judged (shape_of script) parts own table (key_of row))
      (λ line may. inl may) refl h.1 (update_small script parts at held.follows held.ok.sessions own.session table row) step
      (λ b g is. sealed_small few table (key_of row) b g (((freezes_exactly (shape_of script) parts own table at b g is_shape held.ok held.follows).0 row lawful).0 (ap reply_to_write is)).1))
  event_stands is_shape few (event.Delete own table key) refused made asked told lawful memory step h q keys =
      subst (λ a. Stands a told) (sym h.0) (change_stands (command.Delete table key) own table key (act.Delete table key) told refused (change_judged (shape_of script) parts own table key)
      (λ line may. inl may) refl h.1 (delete_small script parts at held.follows held.ok.sessions own.session table key) step
      (λ b g is. sealed_small few table key b g (((freezes_exactly (shape_of script) parts own table at b g is_shape held.ok held.follows).1 key lawful).0 (ap reply_to_write is)).1))
  event_stands is_shape few (event.Read own table block) refused made asked told lawful memory step h q keys = absurd (true_false q)
  event_stands is_shape few (event.Range own table low high) refused made asked told lawful memory step h q keys = absurd (true_false q)
  event_stands is_shape few (event.Commit own reads) true made asked told lawful memory step h q keys = absurd (true_false (sym (memory refl)))
  event_stands is_shape few (event.Commit own reads) false made asked told lawful memory step h q keys =
      subst (λ a. Stands a told) (sym h.0) (commit_stands own reads told (stale_in (shape_of script) parts own reads) lawful (keys h.0) h.1 step)
  event_stands is_shape few (event.Abort own) true made asked told lawful memory step h q keys = absurd (true_false (sym (memory refl)))
  event_stands is_shape few (event.Abort own) false made asked told lawful memory step h q keys = stands asked told said.Aborted (h.1 ∙ not_silent worker said.Aborted refl) (subst (λ a. MayStand a said.Aborted) (sym h.0) (inl refl))
  event_stands is_shape few event.Oldest refused made asked told lawful memory step h q keys = absurd (true_false q)
  event_stands is_shape few (event.Observe table block) refused made asked told lawful memory step h q keys = absurd (true_false q)
  event_stands is_shape few (event.Prune table block oldest) refused made asked told lawful memory step h q keys = absurd (true_false q)
  event_stands is_shape few (event.Look table block) refused made asked told lawful memory step h q keys = absurd (true_false q)
  event_stands is_shape few (event.Move table moves) refused made asked told lawful memory step h q keys = subst (λ a. Stands a told) (sym h.0) (move_stands table moves made told refused h.1 h.2)
  event_stands is_shape few (event.Seal table block) refused made asked told lawful memory step h q keys =
      subst (λ a. Stands a told) (sym h.0) (seal_stands table block told refused lawful.1 (λ r. true_false (sym (memory r))) h.1)
  event_stands is_shape few (event.Image table block image) refused made asked told lawful memory step h q keys =
      subst (λ a. Stands a told) (sym h.0) (image_stands is_shape table block image told refused lawful.1.0 h.1)
  event_stands is_shape few (event.Thaw table block) refused made asked told lawful memory step h q keys = absurd (true_false q)
