-- An insert on the parts.
use Rattle.std.specs.Prelude.{Result, Ok, Err}
use Rattle.core_laws.proofs.Events.Slots.{write_here, write_else, body_of}
use Rattle.core_laws.proofs.Events.Still.{all_stay}
use Rattle.core_laws.specs.Events.Laws.{IsTold, outcome_of_fault}
use Rattle.core_laws.specs.Events.Named.{NextIsFree, FollowsMachine}
use Rattle.event_spec.specs.declared.reply.WriteFault.{WriteFault}
use Rattle.event_spec.specs.declared.reply.WriteFault.TheVariants.{ConflictSession, ConflictCommit, Exists, Full}
use Rattle.event_spec.specs.Effects.{CoreEvent, insert_judged, effect, changes_of, found, after_insert}
use Rattle.std.specs.List.{flat_map}
use Rattle.undo_chain.specs.Conflict.{other_writer, numbers_above, largest}
use Rattle.event_spec.specs.Judged.{first_at, found_at, judged, newer_by, fault_of, next_place}
use Rattle.event_spec.specs.declared.own.OwnKey.{OwnKey}
use Rattle.event_spec.specs.Replies.{reply_to, reply_to_write}
use Rattle.core_laws.proofs.Following.Stepping.{answers}
use Rattle.core_laws.specs.Following.Laws.{answer_of}
use Rattle.core_laws.specs.Following.Owned.{HasOpen, OwnSlot}
use Rattle.undo_chain.specs.declared.chain.Newer.{Newer}
use Rattle.event_spec.specs.Parts.{Parts, Shape, BodyOf, names, part_named, Changes, each_changed, head_at, slots_of, slot_at, places_at, desk_at}
use Rattle.std.proofs.Common.{◌≡◌, ◌⊎◌, ℕ, ◌<◌, ℤ, true, false, cond, Option, None, Some, unwrap_or, is_some, length, refl, sym, ap, ◌∙◌, subst}
use mathlib.Core.Logic.{inl, inr}
use Rattle.std.specs.Option.{option_or}
use Rattle.std.proofs.lemmas.Option.{same_Some}
use Rattle.block_layout.specs.Place.{block_of, slot_of}
use Rattle.isolation_spec.specs.Contents.{at_place, place_of, key_of}
use Rattle.isolation_spec.specs.Machine.{IsolationMachine, Transaction, step, step_of, write, with_own, seen_rows, conflict_of, refusal_of_insert}
use Rattle.isolation_spec.specs.Store.{Allows}
use Rattle.isolation_spec.specs.declared.command.Command.{Command}
use Rattle.isolation_spec.specs.declared.command.Answer.{Answer}
use Rattle.block_spec.specs.Slots.{Slot, Row, bare, written, writer_of, image_before, laid_back}
use Rattle.block_spec.specs.declared.change.Change.TheVariants.{Put}
use Rattle.event_spec.specs.SlotSound.{Keyed}
use Rattle.block_spec.specs.Bodies.{Body}
use Rattle.event_spec.specs.Lawful.{Among}
use Rattle.event_spec.specs.Follows.{is_current}
use Rattle.core_laws.proofs.Slots.Views.{seen_writer}
use Rattle.core_laws.proofs.Slots.Kept.{bare_is, writer_current}
use Rattle.core_laws.proofs.Following.Desks.{none_not}
use Rattle.core_laws.proofs.Following.Sessions.{option_cases}
use Rattle.core_laws.proofs.Following.Finds.{found_is}
use Rattle.core_laws.proofs.Following.Accepts.{none_current}
use Rattle.core_laws.proofs.Following.Writes.{write_keeps}
use Rattle.core_laws.proofs.Events.States.{kinds_after, shards_after, desk_after, desk_at_after, carried}
use Rattle.core_laws.proofs.Events.Added.{place_added}
use Rattle.core_laws.specs.Following.Steps.{IsAdded}
use Rattle.event_spec.specs.declared.event.Event.TheVariants as event
use Rattle.core_laws.proofs.Following.Sessions as sessions
use Rattle.undo_chain.specs.declared.chain.Newer.TheVariants as newer
use Rattle.event_spec.specs.declared.part.Part.TheVariants as part
use Rattle.isolation_spec.specs.declared.command.Act.TheVariants as act
use Rattle.isolation_spec.specs.declared.command.Answer.TheVariants as answer

-- ---- insert

module _ (sh : Shape) (s : Parts) (me : OwnKey) (t : ℕ) (row : Row) (inside : t < length sh.tables) (next : NextIsFree sh s t)
    (has : HasOpen (desk_at sh s) me.session me.snapshot)
    (slots : OwnSlot (slot_at sh s) (places_at sh s) me.session t (key_of row) me.written)
    (m : IsolationMachine) (f : FollowsMachine sh s m) where
  -- The key of the row that is inserted.
  abbrev key : ℤ
  key = key_of row

  -- The event of the insert.
  abbrev e : CoreEvent
  e = event.Insert me t row

  -- The machine's transaction of the session.
  abbrev the : Transaction
  the = sessions.tr (slot_at sh s) (places_at sh s) (desk_at sh s) m f.follows me.session me.snapshot has

  -- The command of the insert, as the machine is given it.
  abbrev command : Command
  command = record { session = me.session; act = act.Insert t row }

  -- The machine's step is a write at the row's place, unless it refuses.
  step_is : step m command ≡ write m the (place_of t row) (Some row) (refusal_of_insert m the (place_of t row))
  step_is = ap (step_of m command) (sessions.mine (slot_at sh s) (places_at sh s) (desk_at sh s) m f.follows me.session me.snapshot has)

  -- The row that is found is the one that the transaction sees.
  found_here : found sh s me t key ≡ at_place (seen_rows m the) (place_of t row)
  found_here = found_is (slot_at sh s) (places_at sh s) (desk_at sh s) m f.follows me.session me.snapshot has t key me.written slots

  -- What is newer at the key than the session's snapshot, if anything.
  abbrev met : Newer
  met = newer_by (slot_at sh s t) (places_at sh s t key) me

  -- What newer is met is the machine's conflict.
  conflict_here : answer_of met ≡ conflict_of m the (place_of t row)
  conflict_here = answers (first_at (λ p. other_writer (slot_at sh s t p).entries me.session) (places_at sh s t key)) (largest (flat_map (λ p. numbers_above (slot_at sh s t p).entries me.snapshot.stamp) (places_at sh s t key)))
      ∙ sessions.conflict_is (slot_at sh s) (places_at sh s) (desk_at sh s) m f.follows me.session me.snapshot has t key

  -- The machine may answer what the event replies, and the parts then follow it.
  abbrev Goal : Type 0
  Goal = (m' : IsolationMachine) × IsTold m None command (reply_to sh s e) m' × FollowsMachine sh (effect sh s e) m'

  -- a fault changes nothing and is the reply
  refused : (fault : WriteFault) → insert_judged sh s me t key ≡ Err fault → Allows m None command (outcome_of_fault fault) m → Goal
  refused fault is allowed = (
    m,
    subst (λ o. IsTold m None command (reply_to_write o) m) (sym is) allowed,
    subst (λ s'. FollowsMachine sh s' m) (sym (ap (λ o. each_changed (after_insert sh s me t row o) (names sh) s) is ∙ all_stay (names sh) s)) f,
  )

  -- Where the machine has a refusal it answers it and stays as it is.
  machine_refuses : (said : Answer) → refusal_of_insert m the (place_of t row) ≡ Some said → step m command ≡ (said, m)
  machine_refuses said is = step_is ∙ ap (λ o. (unwrap_or o answer.Accepted, cond (is_some o) m (with_own the.session (place_of t row) (Some row) m))) is

  -- Where the machine has no refusal it accepts the row as one of the session's own.
  machine_accepts : refusal_of_insert m the (place_of t row) ≡ None → step m command ≡ (answer.Accepted, with_own me.session (place_of t row) (Some row) m)
  machine_accepts is =
      step_is ∙ ap (λ o. (unwrap_or o answer.Accepted, cond (is_some o) m (with_own the.session (place_of t row) (Some row) m))) is
      ∙ ap (λ x. (answer.Accepted, with_own x (place_of t row) (Some row) m)) (sessions.of_session (slot_at sh s) (places_at sh s) (desk_at sh s) m f.follows me.session me.snapshot has)

  -- ---- an accepted insert at a place

  module _ (clear : conflict_of m the (place_of t row) ≡ None) (missing : found sh s me t key ≡ None) (p : ℕ) (goes : option_or me.written (next_place (head_at sh s t) (slots_of sh t)) ≡ Some p) (fine : insert_judged sh s me t key ≡ Ok p) where
    abbrev c : Changes
    c = changes_of sh s e

    abbrev d : Changes
    d = after_insert sh s me t row (Ok p)

    same_changes : c ≡ d
    same_changes = ap (after_insert sh s me t row) fine

    -- the place is that of its own write, or the next slot
    where_is : ((me.written ≡ Some p)) ⊎ ((me.written ≡ None) × (next_place (head_at sh s t) (slots_of sh t) ≡ Some p))
    where_is = go (option_cases (me.written))
      where
        go : (me.written ≡ None) ⊎ ((x : ℕ) × (me.written ≡ Some x)) → ((me.written ≡ Some p)) ⊎ ((me.written ≡ None) × (next_place (head_at sh s t) (slots_of sh t) ≡ Some p))
        go (inl none) = inr (none, sym (ap (λ o. option_or o (next_place (head_at sh s t) (slots_of sh t))) none) ∙ goes)
        go (inr own) = inl (own.1 ∙ sym (ap (λ o. option_or o (next_place (head_at sh s t) (slots_of sh t))) own.1) ∙ goes)

    abbrev Fit : Type 0
    Fit = (body : Body) × (part_named (names sh) s (BodyOf t (block_of p)) ≡ Some (part.Body body)) × (slot_of p < length body.slots)
        × ((slot_at sh s t p).row ≡ None) × Keyed key (slot_at sh s t p).row (slot_at sh s t p).entries
        × ((k : ℤ) → Among p (places_at sh s t k) → k ≡ key)
        × ((w : ℕ) → writer_of (slot_at sh s t p).entries ≡ Some w → w ≡ me.session)
        × ((p' : ℕ) → Among p' (places_at sh s t key) → is_current (slot_at sh s t p') ≡ true → p' ≡ p)
        × (Among p (places_at sh s t key) → is_current (slot_at sh s t p) ≡ true)

    fit : Fit
    fit = go where_is
      where
        go : ((me.written ≡ Some p)) ⊎ ((me.written ≡ None) × (next_place (head_at sh s t) (slots_of sh t) ≡ Some p)) → Fit
        go (inl own) =
            let here = slots.there p own in
            let b = body_of sh s f.kinds t p (f.follows.index.filled t p key here.0) in (
              b.0,
              b.1,
              b.2,
              sym (seen_writer (slot_at sh s t p).row (slot_at sh s t p).entries me.snapshot.stamp me.session (f.follows.slots t p).lawful here.1)
                  ∙ sym (ap (found_at (slot_at sh s t) (places_at sh s t key) me) own) ∙ missing,
              f.follows.index.keyed t p key here.0,
              (λ k a. f.follows.index.one_key t p k key a here.0),
              (λ w is. same_Some w me.session (sym is ∙ here.1)),
              (λ p' a is. f.follows.current t key p' p a here.0 is (writer_current (slot_at sh s t p) me.session here.1)),
              (λ a. writer_current (slot_at sh s t p) me.session here.1),
            )
        go (inr fresh) =
            let b = next p fresh.1 in
            let is : slot_at sh s t p ≡ bare = bare_is (slot_at sh s t p) b.3 in (
              b.0,
              b.1,
              b.2,
              ap (λ (x : Slot). x.row) is,
              subst (λ (x : Slot). Keyed key x.row x.entries) (sym is) tt,
              (λ k a. absurd (true_false (sym b.3 ∙ f.follows.index.filled t p k a))),
              (λ w x. absurd (none_not (writer_of (slot_at sh s t p).entries) w (ap (λ (y : Slot). writer_of y.entries) is) x)),
              (λ p' a x. absurd (none_current (slot_at sh s) (places_at sh s) (desk_at sh s) m f.follows me.session me.snapshot has t key me.written slots clear fresh.0 missing p' a x)),
              (λ a. absurd (true_false (sym b.3 ∙ f.follows.index.filled t p key a))),
            )
          where
            true_false : true ≡ false → ⊥
            true_false x = cc

    abbrev parts : Parts
    parts = each_changed d (names sh) s

    more : IsAdded (places_at sh s) (places_at sh parts) t p key
    more = place_added sh s f.kinds f.shards d t key p inside (λ u i x. refl)

    followed : FollowsMachine sh parts (with_own me.session (place_of t row) (Some row) m)
    followed = record {
      kinds = kinds_after sh s d f.kinds;
      desk = (f.desk.0, desk_after sh s d f.desk.0 f.desk.1);
      shards = shards_after sh s d f.shards;
      follows = carried (with_own me.session (place_of t row) (Some row) m) (λ u r. refl) (λ u k. refl) (desk_at_after sh s d f.desk.0 f.desk.1)
          (write_keeps (slot_at sh s) (places_at sh s) (desk_at sh s) m f.follows me.session has.counted the (sessions.mine (slot_at sh s) (places_at sh s) (desk_at sh s) m f.follows me.session me.snapshot has)
          t p key (Put row)
          (ap (λ r. laid_back (Some row) (image_before r (Put row))) fit.3 ∙ sym fit.3) refl refl fit.4 fit.5 fit.6 fit.7 fit.8
          (slot_at sh parts) (places_at sh parts)
          (write_here sh s d (written me.session (Put row)) t p fit.0 f.kinds fit.1 fit.2 (λ u b x. refl))
          (write_else sh s d (written me.session (Put row)) t p fit.0 f.kinds fit.1 fit.2 (λ u b x. refl))
          more.added more.kept more.more more.behind);
    }

    refusal_none : refusal_of_insert m the (place_of t row) ≡ None
    refusal_none =
        ap (λ o. option_or o (cond (is_some (at_place (seen_rows m the) (place_of t row))) (Some answer.Exists) None)) clear
        ∙ ap (λ o. cond (is_some o) (Some answer.Exists) None) (sym found_here ∙ missing)

    -- an insert that the core and the machine accept
    pub accepted : Goal
    accepted = (
      with_own me.session (place_of t row) (Some row) m,
      subst (λ o. IsTold m None command o (with_own me.session (place_of t row) (Some row) m))
          (sym (ap reply_to_write fine))
          (machine_accepts refusal_none),
      subst (λ c. FollowsMachine sh (each_changed c (names sh) s) (with_own me.session (place_of t row) (Some row) m)) (sym same_changes) followed,
    )

  -- ---- the cases

  -- What the insert is told, by what is met, the row that is found and the place.
  abbrev told : Newer → Option Row → Option ℕ → Result ℕ WriteFault
  told n row' place = judged (option_or (fault_of n) (cond (is_some row') (Some Exists) None)) place (Full (head_at sh s t).inserts)

  -- The place to which the row goes: where it was written, or the table's next.
  abbrev goes : Option ℕ
  goes = option_or me.written (next_place (head_at sh s t) (slots_of sh t))

  -- what the machine refuses where this is met
  refusal_by : (n : Newer) → met ≡ n → refusal_of_insert m the (place_of t row) ≡ option_or (answer_of n) (cond (is_some (found sh s me t key)) (Some answer.Exists) None)
  refusal_by n is =
      ap (λ o. option_or o (cond (is_some (at_place (seen_rows m the) (place_of t row))) (Some answer.Exists) None)) (sym conflict_here ∙ ap answer_of is)
      ∙ ap (λ o. option_or (answer_of n) (cond (is_some o) (Some answer.Exists) None)) (sym found_here)

  -- Whatever is met and found, and wherever the row goes, the insert is as the machine's.
  cases : (n : Newer) (row' : Option Row) (place : Option ℕ) → met ≡ n → found sh s me t key ≡ row' → goes ≡ place → Goal
  cases (newer.Session w) row' place nn fr gp =
      refused (ConflictSession w) (ap (λ x. told x (found sh s me t key) goes) nn) (machine_refuses (answer.ConflictSession w) (refusal_by (newer.Session w) nn))
  cases (newer.Number k) row' place nn fr gp =
      refused (ConflictCommit k) (ap (λ x. told x (found sh s me t key) goes) nn) (machine_refuses (answer.ConflictCommit k) (refusal_by (newer.Number k) nn))
  cases newer.Nothing (Some x) place nn fr gp =
      refused Exists (ap (λ x. told x (found sh s me t key) goes) nn ∙ ap (λ o. told newer.Nothing o goes) fr)
      (machine_refuses answer.Exists (refusal_by newer.Nothing nn ∙ ap (λ o. cond (is_some o) (Some answer.Exists) None) fr))
  cases newer.Nothing None None nn fr gp =
      refused (Full (head_at sh s t).inserts)
      (ap (λ x. told x (found sh s me t key) goes) nn ∙ ap (λ o. told newer.Nothing o goes) fr ∙ ap (told newer.Nothing None) gp) (
        tt,
        ap (λ (x : Answer × IsolationMachine). x.0) (machine_accepts (refusal_by newer.Nothing nn ∙ ap (λ o. cond (is_some o) (Some answer.Exists) None) fr)),
        refl,
      )
  cases newer.Nothing None (Some p) nn fr gp =
      accepted (sym conflict_here ∙ ap answer_of nn) fr p gp
      (ap (λ x. told x (found sh s me t key) goes) nn ∙ ap (λ o. told newer.Nothing o goes) fr ∙ ap (told newer.Nothing None) gp)

  -- An insert is answered as the machine may, and the parts follow.
  pub insert_served : Goal
  insert_served = cases met (found sh s me t key) goes refl refl refl
