-- What holds at each moment of a run, between its parts, its events and the lines in front.
use Rattle.std.proofs.Common.{◌≡◌, ◌⊎◌, ℕ, ◌+◌, ◌≤◌, Bool, true, false, cond, List, [], ◌∷◌, ◌++◌, Option, None, Some, refl, sym, ap, ◌∙◌, subst, arith, append_assoc, length}
use mathlib.Core.Logic.{inl, inr}
use Rattle.block_spec.specs.Bodies.{is_imaged, is_loose, is_sealed}
use Rattle.block_spec.specs.declared.phase.Phase.{Phase}
use Rattle.block_spec.specs.declared.phase.Phase.TheVariants.{Loose, Sealed, Imaged}
use Rattle.store_laws.specs.Room.{inserted_by, used}
use Rattle.run_laws.specs.Counts.Stamps.{imaged_by, sealed_by, sealed_now}
use Rattle.run_laws.specs.Counts.Numbers.{IsNarrow}
use Rattle.run_laws.proofs.Counts.Numbering.{numbers_are_narrow, opens_narrow}
use Rattle.store_laws.proofs.Room.{opens_with_rows, room_is_counted}
use Rattle.run_laws.proofs.Counts.Stamps.{opens_loose, stamps_are_counted}
use Rattle.core_laws.proofs.Events.Lists.{split}
use Rattle.core_laws.specs.Events.Laws.{IsStep, command_in}
use Rattle.core_laws.specs.Events.Named.{FollowsMachine}
use Rattle.event_spec.specs.declared.event.Event.TheVariants as event
use Rattle.event_spec.specs.declared.own.OwnTransaction.{OwnTransaction}
use Rattle.event_spec.specs.declared.reply.Reply.TheVariants as reply
use Rattle.event_spec.specs.Lawful.{Among, HasBlock, HasTable, IsLawful, reads_handed}
use Rattle.event_spec.specs.Parts.{Parts, Shape, body_at, desk_at, head_at}
use Rattle.event_spec.specs.Replay.{Made, after, opening, reply_after, rows_first}
use Rattle.event_spec.specs.Replies.{reply_to}
use Rattle.event_spec.specs.Sound.{IsShape, Sound}
use Rattle.isolation_spec.specs.Machine.{IsolationMachine}
use Rattle.isolation_spec.specs.Machine as machine
use Rattle.outcome_spec.specs.Entries.{Entry}
use Rattle.outcome_spec.specs.Forms.{is_worker}
use Rattle.outcome_spec.specs.Upkeep.{freezes_in, inserts_in, rows_in, seals_in, stamp_in}
use Rattle.workload_spec.specs.declared.command.Command.{Command}
use Rattle.workload_spec.specs.declared.reply.Said.{Said}
use Rattle.workload_spec.specs.declared.reply.Who.{Who}
use Rattle.workload_spec.specs.declared.script.Script.{Script}
use Rattle.core_laws.proofs.Logs.Logs.{made_keeps}
use Rattle.core_laws.proofs.Logs.Opening.{opening_follows, sound}
use Rattle.run_spec.specs.Calls.{Call}
use Rattle.run_spec.specs.Occurrences.{Logged, Occurrence, occurrence_of, under}
use Rattle.run_spec.specs.Ran.{shape_of}
use Rattle.run_spec.specs.Told.{is_shared}
use Rattle.run_laws.proofs.Calls.Open.{nothing_is_open, opens_as}
use Rattle.run_laws.proofs.Calls.Upkeep.{rest_replied, under_replied}
use Rattle.run_laws.specs.Calls.Moments.{Lined}
use Rattle.run_laws.specs.Calls.Open.{AgreesWith, IsNamed}
use Rattle.run_laws.specs.Calls.Upkeep.{AreReplied}
use Rattle.run_laws.specs.Moments.Laws.{Ends, IsPrinted}
use Rattle.run_laws.specs.Moments.Moments.{who_at, with_reply}
use Rattle.run_laws.proofs.Told.Tells.{last_events_are_told}
use Rattle.run_laws.specs.Told.Laws.{TellsAt}
use Rattle.run_laws.specs.Explained.Reads.{ReadsStandIn}
use Rattle.run_laws.proofs.Explained.Dropping.{Brings, Kept, kept_first, next_kept}
use Rattle.run_laws.proofs.Explained.Keys.{KeyFits, KeysAgree, keys_go, no_keys}
use Rattle.run_laws.proofs.Explained.Rereading.{reads_stand}
use Rattle.run_laws.proofs.Explained.Shown.{Adds, accepted, event_adds, insert_adds, inserts_more, shown, shown_more}

-- a block's stamp is the count of its lines `sealed`, of which it is sealed at the last
pub record Stamped (shape : Shape) (parts : Parts) (lines : List Entry) (t b : ℕ) : Type 0 where
  pub last : (body_at shape parts t b).last ≡ seals_in t b lines
  pub phase : seals_in t b lines ≡ freezes_in t b lines + sealed_now (body_at shape parts t b)
  pub some : is_loose (body_at shape parts t b).phase ≡ false → 1 ≤ (body_at shape parts t b).last

-- a table's slots in use are no more than its first rows and its lines of accepted inserts
pub record HasRoom (shape : Shape) (parts : Parts) (lines : List Entry) (t : ℕ) : Type 0 where
  pub used_up : used shape parts t ≤ (head_at shape parts t).inserts
  pub inserts : (head_at shape parts t).inserts ≤ length (rows_first shape t) + inserts_in t lines

-- a block that was read as an image was frozen by a line in front
abbrev pub WasFrozen : List Entry → Occurrence → Type 0
WasFrozen lines made = (own : OwnTransaction) (t b : ℕ) → made.event ≡ event.Read own t b → is_shared made.reply ≡ true → 1 ≤ freezes_in t b lines

pub record Holds (script : Script) (parts : Parts) (front : List Occurrence) (at : IsolationMachine) (lines : List Entry) : Type 0 where
  pub ok : Sound (shape_of script) parts
  pub follows : FollowsMachine (shape_of script) parts at
  pub agrees : AgreesWith front at
  pub replied : AreReplied (shape_of script) front
  pub reads : ReadsStandIn (shape_of script) parts front
  pub stamped : (t b : ℕ) → HasBlock (shape_of script) t b → Stamped (shape_of script) parts lines t b
  pub frozen : (made : Occurrence) → Among made front → WasFrozen lines made
  pub room : (t : ℕ) → HasTable (shape_of script) t → HasRoom (shape_of script) parts lines t
  pub narrow : IsNarrow (desk_at (shape_of script) parts)
  pub keys : KeysAgree front at
  pub kept : Kept script parts front lines

-- what holds at each moment holds before the first
pub holds_first : (script : Script) → IsShape (shape_of script) → Holds script (opening (shape_of script)) [] (machine.opening_from script.begun) []
holds_first script is_shape = record {
  ok = sound (shape_of script) is_shape;
  follows = opening_follows (shape_of script) is_shape;
  agrees = nothing_is_open script.begun;
  replied = tt;
  reads = λ session began done is reads made among. absurd (none began done is made among);
  stamped = λ t b has. let o = opens_loose (shape_of script) t b is_shape has in record {
    last = o.0;
    phase = let now = o.1 in omega (arith, now);
    some = λ e. let never : true ≡ false = sym o.2 ∙ e in absurd (let no : ⊥ = cc in no);
  };
  frozen = λ made among. absurd among;
  room = λ t has. let o = opens_with_rows (shape_of script) t is_shape has in let a = o.0 in let b = o.1 in record { used_up = omega (arith, a, b); inserts = omega (arith, b) };
  narrow = opens_narrow (shape_of script) is_shape;
  keys = no_keys script.begun;
  kept = kept_first script (machine.opening_from script.begun) is_shape (sound (shape_of script) is_shape) (opening_follows (shape_of script) is_shape)
      (nothing_is_open script.begun);
}
  where
    none : (began done : List Occurrence) → [] ≡ began ++ done → (made : Occurrence) → Among made done → ⊥
    none [] [] e made among = among
    none [] (x ∷ xs) e made among = absurd (let never : ⊥ = cc e in never)
    none (x ∷ xs) done e made among = absurd (let never : ⊥ = cc e in never)

-- ---- what a moment's line says, by its event

-- what a line at a moment with this event adds
pub record AddsAt (shape : Shape) (parts : Parts) (made : Made) (told : Option Said) (asked : Command) : Type 0 where
  pub adds : (t b : ℕ) → Adds t b told (sealed_by t b made.event (reply_after shape parts made)) (imaged_by t b made.event (reply_after shape parts made))
  pub inserts : (t : ℕ) → inserted_by t made.event (reply_after shape parts made) ≤ accepted t asked told

module _ (script : Script) (parts : Parts) (front : List Occurrence) (lines : List Entry) (seat : ℕ) where
  -- The shape of the script's core.
  abbrev shape : Shape
  shape = shape_of script

  -- each event of a call that ends here has its reply
  pub ends_replied : (entry : Logged) (line : Lined) → entry.session ≡ seat → AreReplied (shape_of script) front
      → Ends script front seat (Some (occurrence_of (shape_of script) parts entry)) line → AreReplied (shape_of script) line.call.made
  ends_replied entry line same replied ends =
      subst (AreReplied (shape_of script)) (sym ends.made)
      (rest_replied (shape_of script) ends.began (ends.done ++ occurrence_of (shape_of script) parts entry ∷ [])
      (subst (AreReplied (shape_of script)) (ap (λ xs. xs ++ occurrence_of (shape_of script) parts entry ∷ []) ends.behind ∙ append_assoc ends.began ends.done (occurrence_of (shape_of script) parts entry ∷ [])) all))
    where
      all : AreReplied (shape_of script) (under seat front ++ occurrence_of (shape_of script) parts entry ∷ [])
      all = append (under seat front) (under_replied (shape_of script) seat front replied)
        where
          append : (xs : List Occurrence) → AreReplied (shape_of script) xs → AreReplied (shape_of script) (xs ++ occurrence_of (shape_of script) parts entry ∷ [])
          append [] r = ((entry.made.refused, refl), tt)
          append (x ∷ xs) r = (r.0, append xs r.1)

  -- the call's line tells what its last event is replied
  pub ends_tells : (entry : Logged) (line : Lined) → entry.session ≡ seat → AreReplied (shape_of script) front
      → Ends script front seat (Some (occurrence_of (shape_of script) parts entry)) line
      → TellsAt (is_worker (who_at script seat)) line.call.made entry.made.event (reply_after (shape_of script) parts entry.made) line.call.command line.call.told
  ends_tells entry line same replied ends =
      last_events_are_told (shape_of script) (is_worker (who_at script seat)) seat ends.began line.call ends.done (occurrence_of (shape_of script) parts entry) ends.is_call
      (ends_replied entry line same replied ends) ends.made

  -- and adds to the counts what this event does
  pub ends_adds : (entry : Logged) (line : Lined) → entry.session ≡ seat → AreReplied (shape_of script) front
      → Ends script front seat (Some (occurrence_of (shape_of script) parts entry)) line
      → AddsAt (shape_of script) parts entry.made line.call.told line.call.command
  ends_adds entry line same replied ends =
      let is = ends_tells entry line same replied ends in
      record {
        adds = λ t b. event_adds (shape_of script) parts t b (is_worker (who_at script seat)) line.call.command line.call.made line.call.told entry.made.event entry.made.refused is;
        inserts = λ t. insert_adds (shape_of script) parts t 0 (is_worker (who_at script seat)) line.call.command line.call.made line.call.told entry.made.event entry.made.refused is;
      }

-- ---- lines in front

-- with the moment's line there are as many seals of a block more as it tells
pub seals_with : (t b : ℕ) (lines : List Entry) (who : Who) (call : Call) (printed : Option Entry) → IsPrinted who call printed
    → seals_in t b (with_reply lines printed) ≡ seals_in t b lines + shown (stamp_in t b) call.told
seals_with t b lines who call None is = let none = ap (shown (stamp_in t b)) is in omega (arith, none)
seals_with t b lines who call (Some entry) is = shown_more (stamp_in t b) lines entry ∙ ap (λ o. seals_in t b lines + shown (stamp_in t b) o) (sym is.0)

-- and as many images of a block
pub freezes_with : (t b : ℕ) (lines : List Entry) (who : Who) (call : Call) (printed : Option Entry) → IsPrinted who call printed
    → freezes_in t b (with_reply lines printed) ≡ freezes_in t b lines + shown (rows_in t b) call.told
freezes_with t b lines who call None is = let none = ap (shown (rows_in t b)) is in omega (arith, none)
freezes_with t b lines who call (Some entry) is = shown_more (rows_in t b) lines entry ∙ ap (λ o. freezes_in t b lines + shown (rows_in t b) o) (sym is.0)

-- and at least as many accepted inserts as its call had
pub inserts_with : (t : ℕ) (lines : List Entry) (who : Who) (call : Call) (printed : Option Entry) → IsPrinted who call printed
    → (is_worker who ≡ true → accepted t call.command call.told ≡ 0)
    → inserts_in t lines + accepted t call.command call.told ≤ inserts_in t (with_reply lines printed)
inserts_with t lines who call None is of_worker = let none : accepted t call.command call.told ≡ 0 = ap (accepted t call.command) is in omega (arith, none)
inserts_with t lines who call (Some entry) is of_worker = go (is_worker who) refl
  where
    more : inserts_in t (lines ++ entry ∷ []) ≡ inserts_in t lines + cond (Rattle.outcome_spec.specs.Upkeep.is_accepted_insert t entry.command entry.reply.said) 1 0
    more = inserts_more t lines entry

    go : (b : Bool) → is_worker who ≡ b → inserts_in t lines + accepted t call.command call.told ≤ inserts_in t (lines ++ entry ∷ [])
    go true e = let none = of_worker e in omega (arith, none, more)
    go false e =
        let same : accepted t call.command call.told ≡ cond {A = ℕ} (Rattle.outcome_spec.specs.Upkeep.is_accepted_insert t entry.command entry.reply.said) 1 0 =
        ap (accepted t call.command) is.0 ∙ ap (λ c. cond {A = ℕ} (Rattle.outcome_spec.specs.Upkeep.is_accepted_insert t c entry.reply.said) 1 0)
        (sym (is.2 ∙ ap (λ b. cond b Rattle.workload_spec.specs.declared.command.Command.TheVariants.Observe call.command) e)) in
        omega (arith, same, more)

-- ---- the next moment

-- counts behind a moment at which an event was made
pub record Counted (script : Script) (parts : Parts) (made : Made) (lines after_lines : List Entry) : Type 0 where
  pub seals : (t b : ℕ) → seals_in t b after_lines ≡ seals_in t b lines + sealed_by t b made.event (reply_after (shape_of script) parts made)
  pub freezes : (t b : ℕ) → freezes_in t b after_lines ≡ freezes_in t b lines + imaged_by t b made.event (reply_after (shape_of script) parts made)
  pub inserts : (t : ℕ) → inserts_in t lines + inserted_by t made.event (reply_after (shape_of script) parts made) ≤ inserts_in t after_lines

-- A phase that is imaged is neither loose nor sealed.
imaged_loose : (phase : Phase) → is_imaged phase ≡ true → (is_loose phase ≡ false) × (is_sealed phase ≡ false)
imaged_loose Loose e = absurd (let never : ⊥ = cc e in never)
imaged_loose (Sealed g) e = absurd (let never : ⊥ = cc e in never)
imaged_loose (Imaged g) e = (refl, refl)

-- what holds at each moment holds behind the next, with its event and its line
pub next_holds : (script : Script) (parts : Parts) (front : List Occurrence) (at next : IsolationMachine) (lines after_lines : List Entry) (entry : Logged)
    → IsShape (shape_of script) → IsLawful (shape_of script) entry.made.event parts → IsNamed entry → KeyFits entry.made.event
    → IsStep (command_in entry.made.event) (reads_handed entry.made.event) at (reply_after (shape_of script) parts entry.made) next
    → FollowsMachine (shape_of script) (after (shape_of script) parts entry.made) next
    → Counted script parts entry.made lines after_lines
    → 1 ≤ entry.session → entry.session ≤ script.sessions + script.workers
    → Brings script parts front lines after_lines entry.session entry.made.event (reply_after (shape_of script) parts entry.made)
    → Holds script parts front at lines
    → Holds script (after (shape_of script) parts entry.made) (front ++ occurrence_of (shape_of script) parts entry ∷ []) next after_lines
next_holds script parts front at next lines after_lines entry is_shape lawful named fits step follows counted low high brings holds = record {
  ok = made_keeps (shape_of script) parts entry.made is_shape holds.ok lawful;
  follows = follows;
  agrees = opens_as (shape_of script) parts entry front at next named step holds.agrees;
  replied = append front holds.replied;
  reads = reads_stand (shape_of script) parts front entry is_shape holds.ok lawful named holds.reads;
  stamped = λ t b has.
      let old = holds.stamped t b has in
      let c = stamps_are_counted (shape_of script) parts entry.made t b is_shape holds.ok lawful has in
      let l = old.last in let p = old.phase in let cl = c.last in let cp = c.phase in
      let s = counted.seals t b in let f = counted.freezes t b in
      record {
        last = omega (arith, l, cl, s);
        phase = omega (arith, p, cp, s, f);
        some = λ e. some_last t b has (c.frozen e);
      };
  frozen = λ made among. frozen_now made (split front (occurrence_of (shape_of script) parts entry ∷ []) made among);
  room = λ t has.
      let old = holds.room t has in
      let c = room_is_counted (shape_of script) parts entry.made t is_shape holds.ok lawful has in
      let u = old.used_up in let i = old.inserts in let cr = c.room in let ci = c.inserts in let m = counted.inserts t in
      record { used_up = omega (arith, u, cr); inserts = omega (arith, i, ci, m) };
  narrow = numbers_are_narrow (shape_of script) parts entry.made holds.ok lawful holds.narrow;
  keys = keys_go (shape_of script) parts entry front at next named fits step holds.keys;
  kept = next_kept script parts front lines after_lines entry low high next is_shape holds.ok lawful (made_keeps (shape_of script) parts entry.made is_shape holds.ok lawful) follows
      (opens_as (shape_of script) parts entry front at next named step holds.agrees) brings holds.kept;
}
  where
    append : (xs : List Occurrence) → AreReplied (shape_of script) xs → AreReplied (shape_of script) (xs ++ occurrence_of (shape_of script) parts entry ∷ [])
    append [] r = ((entry.made.refused, refl), tt)
    append (x ∷ xs) r = (r.0, append xs r.1)

    some_last : (t b : ℕ) (has : HasBlock (shape_of script) t b)
        → (is_loose (body_at (shape_of script) parts t b).phase ≡ false) ⊎ (1 ≤ (body_at (shape_of script) (after (shape_of script) parts entry.made) t b).last)
        → 1 ≤ (body_at (shape_of script) (after (shape_of script) parts entry.made) t b).last
    some_last t b has (inr low) = low
    some_last t b has (inl e) =
        let old = (holds.stamped t b has).some e in
        let c = (stamps_are_counted (shape_of script) parts entry.made t b is_shape holds.ok lawful has).last in
        omega (arith, old, c)

    -- an image that is read now
    image_read : (own : OwnTransaction) (t b : ℕ) (refused : Bool) → HasBlock (shape_of script) t b
        → is_shared (cond refused reply.Memory (reply_to (shape_of script) parts (event.Read own t b))) ≡ true → is_imaged (body_at (shape_of script) parts t b).phase ≡ true
    image_read own t b true has e = absurd (let never : ⊥ = cc e in never)
    image_read own t b false has e = go (is_imaged (body_at (shape_of script) parts t b).phase) refl e
      where
        go : (x : Bool) → is_imaged (body_at (shape_of script) parts t b).phase ≡ x
            → is_shared (cond (is_imaged (body_at (shape_of script) parts t b).phase) (reply.Shared (Rattle.block_spec.specs.Bodies.rows_of (body_at (shape_of script) parts t b))) (reply.Rows (Rattle.event_spec.specs.Replies.rows_read (shape_of script) parts own t b))) ≡ true
            → is_imaged (body_at (shape_of script) parts t b).phase ≡ true
        go true i e = i
        go false i e =
            let never : false ≡ true = sym (ap (λ x. is_shared (cond x (reply.Shared (Rattle.block_spec.specs.Bodies.rows_of (body_at (shape_of script) parts t b))) (reply.Rows (Rattle.event_spec.specs.Replies.rows_read (shape_of script) parts own t b)))) i) ∙ e in
            absurd (let no : ⊥ = cc in no)

    frozen_now : (made : Occurrence) → Among made front ⊎ Among made (occurrence_of (shape_of script) parts entry ∷ []) → WasFrozen after_lines made
    frozen_now made (inl old) own t b is shared = let low = holds.frozen made old own t b is shared in let f = counted.freezes t b in omega (arith, low, f)
    frozen_now made (inr (inr none)) own t b is shared = absurd none
    frozen_now made (inr (inl e)) own t b is shared =
        let read : entry.made.event ≡ event.Read own t b = ap (λ (o : Occurrence). o.event) (sym e) ∙ is in
        let has : HasBlock (shape_of script) t b = (subst (λ x. IsLawful (shape_of script) x parts) read lawful).1 in
        let told : is_shared (cond entry.made.refused reply.Memory (reply_to (shape_of script) parts (event.Read own t b))) ≡ true =
        ap (λ x. is_shared (cond entry.made.refused reply.Memory (reply_to (shape_of script) parts x))) (sym read) ∙ ap (λ (o : Occurrence). is_shared o.reply) (sym e) ∙ shared in
        let imaged = imaged_loose (body_at (shape_of script) parts t b).phase (image_read own t b entry.made.refused has told) in
        let old = holds.stamped t b has in
        let low = old.some imaged.0 in let l = old.last in let p = old.phase in
        let none : sealed_now (body_at (shape_of script) parts t b) ≡ 0 = ap (λ x. cond {A = ℕ} x 1 0) imaged.1 in
        let f = counted.freezes t b in
        omega (arith, low, l, p, none, f)

-- a moment without an event
pub same_holds : (script : Script) (parts : Parts) (front : List Occurrence) (at : IsolationMachine) (lines after_lines : List Entry)
    → ((t b : ℕ) → seals_in t b after_lines ≡ seals_in t b lines) → ((t b : ℕ) → freezes_in t b after_lines ≡ freezes_in t b lines)
    → ((t : ℕ) → inserts_in t lines ≤ inserts_in t after_lines) → Kept script parts front after_lines
    → Holds script parts front at lines → Holds script parts front at after_lines
same_holds script parts front at lines after_lines seals freezes inserts kept holds = record {
  ok = holds.ok;
  follows = holds.follows;
  agrees = holds.agrees;
  replied = holds.replied;
  reads = holds.reads;
  stamped = λ t b has.
      let old = holds.stamped t b has in let l = old.last in let p = old.phase in let s = seals t b in let f = freezes t b in
      record { last = omega (arith, l, s); phase = omega (arith, p, s, f); some = old.some };
  frozen = λ made among own t b is shared. let low = holds.frozen made among own t b is shared in let f = freezes t b in omega (arith, low, f);
  room = λ t has. let old = holds.room t has in let u = old.used_up in let i = old.inserts in let m = inserts t in record { used_up = u; inserts = omega (arith, i, m) };
  narrow = holds.narrow;
  keys = holds.keys;
  kept = kept;
}
