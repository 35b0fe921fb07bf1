-- An update and a delete on the parts.
use Rattle.std.specs.Prelude.{Result, Ok, Err, option_and_then, length}
use Rattle.std.specs.List.{flat_map}
use Rattle.undo_chain.specs.Conflict.{other_writer, numbers_above, largest}
use Rattle.core_laws.proofs.Events.Slots.{write_here, write_else, body_of}
use Rattle.core_laws.proofs.Events.Still.{all_stay}
use Rattle.core_laws.proofs.Events.Plain.{plain}
use Rattle.core_laws.specs.Events.Laws.{IsTold, Serves, outcome_of_fault}
use Rattle.event_spec.specs.declared.reply.WriteFault.{WriteFault}
use Rattle.event_spec.specs.declared.reply.WriteFault.TheVariants.{ConflictSession, ConflictCommit, Missing, Freezing}
use Rattle.block_spec.specs.Slots.{written, writer_of, Row, row_after, image_before, laid_back, patched, columns_before}
use Rattle.event_spec.specs.Effects.{CoreEvent, change_judged, effect, changes_of, found, after_change, after_write}
use Rattle.event_spec.specs.Judged.{first_at, judged, newer_by, current_place, fault_of, differences, freezing_of}
use Rattle.event_spec.specs.declared.own.OwnKey.{OwnKey}
use Rattle.event_spec.specs.Replies.{reply_to, reply_to_write}
use Rattle.core_laws.proofs.Following.Stepping.{answers}
use Rattle.core_laws.specs.Following.Laws.{answer_of, command_of}
use Rattle.core_laws.specs.Following.Owned.{HasOpen, OwnSlot}
use Rattle.undo_chain.specs.declared.chain.Newer.{Newer}
use Rattle.event_spec.specs.Parts.{Parts, Shape, BodyOf, ShardOf, names, part_named, Changes, each_changed, slot_at, places_at, desk_at, body_at, shard_of}
use Rattle.core_laws.specs.Events.Named.{FollowsMachine}
use Rattle.std.proofs.Common.{◌≡◌, ℕ, ◌<◌, ℤ, cond, [], Option, None, Some, unwrap_or, is_some, is_none, length, refl, sym, ap, ◌∙◌, subst}
use mathlib.Core.Logic.{inl}
use Rattle.std.specs.Option.{option_or}
use Rattle.std.proofs.lemmas.Bool.{or_left, or_right}
use Rattle.block_layout.specs.Place.{block_of, slot_of}
use Rattle.isolation_spec.specs.Contents.{at_place, place_at, key_of}
use Rattle.isolation_spec.specs.Machine.{IsolationMachine, Transaction, step, step_of, step_within, write, with_own, seen_rows, conflict_of, refusal_of_change}
use Rattle.isolation_spec.specs.Store.{Allows, IsChange}
use Rattle.isolation_spec.specs.declared.command.Command.{Command}
use Rattle.isolation_spec.specs.declared.command.Act.{Act}
use Rattle.isolation_spec.specs.declared.command.Answer.{Answer}
use Rattle.block_spec.specs.declared.change.Change.{Change}
use Rattle.block_spec.specs.declared.change.Change.TheVariants.{Gone}
use Rattle.core_laws.proofs.Slots.Keys.{HasKey}
use Rattle.block_spec.specs.Bodies.{Body}
use Rattle.block_spec.specs.declared.phase.Phase.{Phase}
use Rattle.block_spec.specs.declared.phase.Phase.TheVariants.{Loose, Sealed, Imaged}
use Rattle.event_spec.specs.Lawful.{Among}
use Rattle.event_spec.specs.Follows.{StandsBefore}
use Rattle.core_laws.proofs.Following.Finds.{found_is}
use Rattle.core_laws.proofs.Following.Accepts.{no_rival, current_is, alone_with}
use Rattle.core_laws.proofs.Following.Writes.{write_keeps}
use Rattle.core_laws.proofs.Events.States.{kinds_after, shards_after, desk_after, desk_at_after, places_stay, carried}
use Rattle.core_laws.proofs.Slots.Patches.{patched_new, patched_old}
use Rattle.event_spec.specs.declared.event.Event.TheVariants as event
use Rattle.block_spec.specs.declared.change.Change.TheVariants as change
use Rattle.core_laws.proofs.Following.Sessions as sessions
use Rattle.undo_chain.specs.declared.chain.Newer.TheVariants as newer
use Rattle.event_spec.specs.declared.part.Part.TheVariants as part
use Rattle.isolation_spec.specs.declared.command.Act.TheVariants as act
use Rattle.isolation_spec.specs.declared.command.Answer.TheVariants as answer

module _ (sh : Shape) (s : Parts) (me : OwnKey) (t : ℕ) (key : ℤ)
    (has_open : HasOpen (desk_at sh s) me.session me.snapshot)
    (slots : OwnSlot (slot_at sh s) (places_at sh s) me.session t key me.written)
    (m : IsolationMachine) (f : FollowsMachine sh s m)
    -- a command that changes the key's row, and its event
    (a : Act) (is_change : IsChange a) (e : CoreEvent) (value : Option Row) (choice : Row → Change)
    (steps : (u : Transaction) → step_within m u a ≡ write m u (place_at t key) value (refusal_of_change m u (place_at t key)))
    (changes : changes_of sh s e ≡ after_change sh s me t choice (change_judged sh s me t key))
    (replies : reply_to sh s e ≡ reply_to_write (change_judged sh s me t key))
    -- what it makes of the row that is found
    (undone : (row : Row) → found sh s me t key ≡ Some row → laid_back (row_after (Some row) (choice row)) (image_before (Some row) (choice row)) ≡ Some row)
    (leaves : (row : Row) → found sh s me t key ≡ Some row → HasKey key (row_after (Some row) (choice row)))
    (gives : (row : Row) → found sh s me t key ≡ Some row → row_after (Some row) (choice row) ≡ value) where
  -- The machine's transaction of the session.
  abbrev the : Transaction
  the = sessions.tr (slot_at sh s) (places_at sh s) (desk_at sh s) m f.follows me.session me.snapshot has_open

  -- The command of the change, as the machine is given it.
  abbrev command : Command
  command = record { session = me.session; act = a }

  -- The machine may answer what the event replies, and the parts then follow it.
  abbrev Goal : Type 0
  Goal = (m' : IsolationMachine) × IsTold m None command (reply_to sh s e) m' × FollowsMachine sh (effect sh s e) m'

  -- The machine's step is a write at the key's place, unless it refuses.
  step_is : step m command ≡ write m the (place_at t key) value (refusal_of_change m the (place_at t key))
  step_is = ap (step_of m command) (sessions.mine (slot_at sh s) (places_at sh s) (desk_at sh s) m f.follows me.session me.snapshot has_open) ∙ steps the

  -- The row that is found is the one that the transaction sees.
  found_here : found sh s me t key ≡ at_place (seen_rows m the) (place_at t key)
  found_here = found_is (slot_at sh s) (places_at sh s) (desk_at sh s) m f.follows me.session me.snapshot has_open t key me.written slots

  -- What is newer at the key than the session's snapshot, if anything.
  abbrev met : Newer
  met = newer_by (slot_at sh s t) (places_at sh s t key) me

  -- What newer is met is the machine's conflict.
  conflict_here : answer_of met ≡ conflict_of m the (place_at t key)
  conflict_here = answers (first_at (λ p. other_writer (slot_at sh s t p).entries me.session) (places_at sh s t key)) (largest (flat_map (λ p. numbers_above (slot_at sh s t p).entries me.snapshot.stamp) (places_at sh s t key)))
      ∙ sessions.conflict_is (slot_at sh s) (places_at sh s) (desk_at sh s) m f.follows me.session me.snapshot has_open t key

  -- A change that is refused as the machine allows leaves the parts, and they follow it.
  refused : (fault : WriteFault) → change_judged sh s me t key ≡ Err fault → Allows m None command (outcome_of_fault fault) m → Goal
  refused fault is allowed = (
    m,
    subst (λ o. IsTold m None command o m) (sym (replies ∙ ap reply_to_write is)) allowed,
    subst (λ s'. FollowsMachine sh s' m) (sym (ap (λ c. each_changed c (names sh) s) (changes ∙ ap (after_change sh s me t choice) is) ∙ all_stay (names sh) s)) f,
  )

  -- Where the machine has a refusal it answers it and stays as it is.
  machine_refuses : (said : Answer) → refusal_of_change m the (place_at t key) ≡ Some said → step m command ≡ (said, m)
  machine_refuses said is = step_is ∙ ap (λ o. (unwrap_or o answer.Accepted, cond (is_some o) m (with_own the.session (place_at t key) value m))) is

  -- Where the machine has no refusal it accepts the change as one of the session's own.
  machine_accepts : refusal_of_change m the (place_at t key) ≡ None → step m command ≡ (answer.Accepted, with_own me.session (place_at t key) value m)
  machine_accepts is =
      step_is ∙ ap (λ o. (unwrap_or o answer.Accepted, cond (is_some o) m (with_own the.session (place_at t key) value m))) is
      ∙ ap (λ x. (answer.Accepted, with_own x (place_at t key) value m)) (sessions.of_session (slot_at sh s) (places_at sh s) (desk_at sh s) m f.follows me.session me.snapshot has_open)

  -- The machine refuses what newer is met, and else a row that is missing.
  refusal_by : (n : Newer) → met ≡ n → refusal_of_change m the (place_at t key) ≡ option_or (answer_of n) (cond (is_none (found sh s me t key)) (Some answer.Missing) None)
  refusal_by n is =
      ap (λ o. option_or o (cond (is_none (at_place (seen_rows m the) (place_at t key))) (Some answer.Missing) None)) (sym conflict_here ∙ ap answer_of is)
      ∙ ap (λ o. option_or (answer_of n) (cond (is_none o) (Some answer.Missing) None)) (sym found_here)

  module _ (clear : conflict_of m the (place_at t key) ≡ None) (row : Row) (has : found sh s me t key ≡ Some row) (open' : refusal_of_change m the (place_at t key) ≡ None) where
    at : (p : ℕ) × (current_place (slot_at sh s t) (places_at sh s t key) ≡ Some p) × Among p (places_at sh s t key) × ((slot_at sh s t p).row ≡ Some row)
    at = current_is (slot_at sh s) (places_at sh s) (desk_at sh s) m f.follows me.session me.snapshot has_open t key me.written slots clear row has

    abbrev p : ℕ
    p = at.0

    abbrev d : Changes
    d = after_write sh s t me.session p (choice row)

    same_changes : change_judged sh s me t key ≡ Ok p → changes_of sh s e ≡ d
    same_changes fine =
        changes ∙ ap (after_change sh s me t choice) fine
        ∙ ap (λ r. after_write sh s t me.session p (choice (unwrap_or r []))) at.3

    body : (body : Body) × (part_named (names sh) s (BodyOf t (block_of p)) ≡ Some (part.Body body)) × (slot_of p < length body.slots)
    body = body_of sh s f.kinds t p (f.follows.index.filled t p key at.2)

    row_is : row_after (slot_at sh s t p).row (choice row) ≡ value
    row_is = ap (λ r. row_after r (choice row)) at.3 ∙ gives row has

    abbrev parts : Parts
    parts = each_changed d (names sh) s

    places : (u : ℕ) (k : ℤ) → places_at sh parts u k ≡ places_at sh s u k
    places u k = places_stay sh s d (λ t i x. refl) u k (f.kinds (ShardOf u (shard_of k)))

    followed : FollowsMachine sh parts (with_own me.session (place_at t key) value m)
    followed = subst (λ v. FollowsMachine sh parts (with_own me.session (place_at t key) v m)) row_is (record {
      kinds = kinds_after sh s d f.kinds;
      desk = (f.desk.0, desk_after sh s d f.desk.0 f.desk.1);
      shards = shards_after sh s d f.shards;
      follows = carried (with_own me.session (place_at t key) (row_after (slot_at sh s t p).row (choice row)) m) (λ u r. refl) (λ u k. refl) (desk_at_after sh s d f.desk.0 f.desk.1)
          (write_keeps (slot_at sh s) (places_at sh s) (desk_at sh s) m f.follows me.session has_open.counted the (sessions.mine (slot_at sh s) (places_at sh s) (desk_at sh s) m f.follows me.session me.snapshot has_open)
          t p key (choice row)
          (subst (λ r. laid_back (row_after r (choice row)) (image_before r (choice row)) ≡ r) (sym at.3) (undone row has))
          (subst (λ r. HasKey key (row_after r (choice row))) (sym at.3) (leaves row has))
          (or_right (is_some (row_after (slot_at sh s t p).row (choice row))) (is_some (slot_at sh s t p).row) (ap is_some at.3))
          (f.follows.index.keyed t p key at.2)
          (λ k x. f.follows.index.one_key t p k key x at.2)
          (λ w is. no_rival (slot_at sh s) (places_at sh s) (desk_at sh s) m f.follows me.session me.snapshot has_open t key me.written slots clear p w at.2 is)
          (alone_with (slot_at sh s) (places_at sh s) (desk_at sh s) m f.follows me.session me.snapshot has_open t key me.written slots clear p row at.2 at.3)
          (λ x. or_left (is_some (slot_at sh s t p).row) (is_some (writer_of (slot_at sh s t p).entries)) (ap is_some at.3))
          (slot_at sh parts) (places_at sh parts)
          (write_here sh s d (written me.session (choice row)) t p body.0 f.kinds body.1 body.2 (λ u b x. refl))
          (write_else sh s d (written me.session (choice row)) t p body.0 f.kinds body.1 body.2 (λ u b x. refl))
          (subst (Among p) (sym (places t key)) at.2)
          (λ u r k x. subst (Among r) (sym (places u k)) x)
          (λ u r k x. inl (subst (Among r) (places u k) x))
          (λ u r r' k x. inl (subst (StandsBefore r r') (places u k) x)));
    })

    accepted : change_judged sh s me t key ≡ Ok p → Goal
    accepted fine = (
      with_own me.session (place_at t key) value m,
      subst (λ o. IsTold m None command o (with_own me.session (place_at t key) value m))
          (sym (replies ∙ ap reply_to_write fine)) (plain m command ∙ machine_accepts open'),
      subst (λ c. FollowsMachine sh (each_changed c (names sh) s) (with_own me.session (place_at t key) value m)) (sym (same_changes fine)) followed,
    )

  -- ---- the cases

  -- The phase of a block of the table.
  abbrev phase : ℕ → Phase
  phase block = (body_at sh s t block).phase

  -- What the change is told, by what is met, the row that is found and its place.
  abbrev told : Newer → Option Row → Option ℕ → Result ℕ WriteFault
  told n row' place = judged
      (option_or (fault_of n) (cond (is_none row') (Some Missing) (option_and_then (λ p. freezing_of (block_of p) (phase (block_of p))) place)))
      place Missing

  -- What a change at a place is told by its block's phase.
  abbrev at_phase : ℕ → Phase → Result ℕ WriteFault
  at_phase p ph = judged (freezing_of (block_of p) ph) (Some p) Missing

  -- Where nothing newer is met and a row is found, the change is as the machine's.
  found_one : (row : Row) (nn : met ≡ newer.Nothing) (fr : found sh s me t key ≡ Some row) → Goal
  found_one row nn fr = go (phase (block_of here.0)) refl
    where
      clear : conflict_of m the (place_at t key) ≡ None
      clear = sym conflict_here ∙ ap answer_of nn

      open' : refusal_of_change m the (place_at t key) ≡ None
      open' = refusal_by newer.Nothing nn ∙ ap (λ o. cond (is_none o) (Some answer.Missing) None) fr

      here : (p : ℕ) × (current_place (slot_at sh s t) (places_at sh s t key) ≡ Some p) × Among p (places_at sh s t key) × ((slot_at sh s t p).row ≡ Some row)
      here = at clear row fr open'

      judged_is : (ph : Phase) → phase (block_of here.0) ≡ ph → change_judged sh s me t key ≡ at_phase here.0 ph
      judged_is ph is =
          ap (λ x. told x (found sh s me t key) (current_place (slot_at sh s t) (places_at sh s t key))) nn
          ∙ ap (λ o. told newer.Nothing o (current_place (slot_at sh s t) (places_at sh s t key))) fr
          ∙ ap (told newer.Nothing (Some row)) here.1 ∙ ap (at_phase here.0) is

      go : (ph : Phase) → phase (block_of here.0) ≡ ph → Goal
      go Loose is = accepted clear row fr open' (judged_is Loose is)
      go (Imaged g) is = accepted clear row fr open' (judged_is (Imaged g) is)
      go (Sealed g) is =
          refused (Freezing (block_of here.0) g) (judged_is (Sealed g) is)
          (is_change, ap (λ (x : Answer × IsolationMachine). x.0) (machine_accepts open'), refl)

  -- Whatever is met and found, the change is as the machine's.
  cases : (n : Newer) (row' : Option Row) → met ≡ n → found sh s me t key ≡ row' → Goal
  cases (newer.Session w) row' nn fr =
      refused (ConflictSession w) (ap (λ x. told x (found sh s me t key) (current_place (slot_at sh s t) (places_at sh s t key))) nn)
      (plain m command ∙ machine_refuses (answer.ConflictSession w) (refusal_by (newer.Session w) nn))
  cases (newer.Number k) row' nn fr =
      refused (ConflictCommit k) (ap (λ x. told x (found sh s me t key) (current_place (slot_at sh s t) (places_at sh s t key))) nn)
      (plain m command ∙ machine_refuses (answer.ConflictCommit k) (refusal_by (newer.Number k) nn))
  cases newer.Nothing None nn fr =
      refused Missing
      (ap (λ x. told x (found sh s me t key) (current_place (slot_at sh s t) (places_at sh s t key))) nn
      ∙ ap (λ o. told newer.Nothing o (current_place (slot_at sh s t) (places_at sh s t key))) fr)
      (plain m command ∙ machine_refuses answer.Missing (refusal_by newer.Nothing nn ∙ ap (λ o. cond (is_none o) (Some answer.Missing) None) fr))
  cases newer.Nothing (Some row) nn fr = found_one row nn fr

  -- A change of a key's row is answered as the machine may, and the parts follow.
  pub change_served : Goal
  change_served = cases met (found sh s me t key) refl refl

-- A delete is answered as the machine may, and the parts follow.
pub delete_serves : (sh : Shape) (s : Parts) (own : OwnKey) (t : ℕ) (key : ℤ) → HasOpen (desk_at sh s) own.session own.snapshot
    → OwnSlot (slot_at sh s) (places_at sh s) own.session t key own.written
    → Serves sh s (event.Delete own t key) (command_of own.session (act.Delete t key))
delete_serves sh s own t key has_open slots m f = change_served sh s own t key has_open slots m f
    (act.Delete t key) tt (event.Delete own t key) None (λ old. Gone) (λ u. refl) refl refl (λ row has. refl) (λ row has. tt) (λ row has. refl)

-- the new row has as many cells as the one that is found
pub update_serves : (sh : Shape) (s : Parts) (own : OwnKey) (t : ℕ) (row : Row) → HasOpen (desk_at sh s) own.session own.snapshot
    → OwnSlot (slot_at sh s) (places_at sh s) own.session t (key_of row) own.written
    → ((old : Row) → found sh s own t (key_of row) ≡ Some old → length old ≡ length row)
    → Serves sh s (event.Update own t row) (command_of own.session (act.Update t row))
update_serves sh s own t row has_open slots same m f = change_served sh s own t (key_of row) has_open slots m f
    (act.Update t row) tt (event.Update own t row) (Some row) (λ old. change.Patch (differences 0 old row)) (λ u. refl) refl refl
    (λ old has. ap Some (ap (λ r. patched r (columns_before old (differences 0 old row))) (patched_new old row (same old has)) ∙ patched_old old row (same old has)))
    (λ old has. ap key_of (patched_new old row (same old has)))
    (λ old has. ap Some (patched_new old row (same old has)))
