-- Where the core refuses a write that the machine accepts.
use Rattle.std.proofs.Common.{◌≡◌, ◌≢◌, ◌⊎◌, ℕ, ◌<◌, ◌≤◌, ℤ, Bool, true, false, cond, not, ◌&&◌, ◌==◌, nat_lt, List, [], ◌∷◌, Option, None, Some, is_none, is_some, refl, sym, ap, ◌∙◌, subst, arith}
use mathlib.Core.Logic.{inl, inr}
use Rattle.std.specs.Prelude.{Result, Ok, Err, option_and_then}
use Rattle.std.specs.Option.{option_or}
use Rattle.std.proofs.lemmas.Bool.Decides.{nat_tests}
use Rattle.std.proofs.lemmas.Bool.{and_parts}
use Rattle.std.proofs.lemmas.Option.{same_Some}
use Rattle.block_layout.specs.Place.{block_of, place_of}
use Rattle.block_spec.specs.Bodies.{is_empty}
use Rattle.block_spec.specs.declared.phase.Phase.{Phase}
use Rattle.block_spec.specs.declared.phase.Phase.TheVariants.{Loose, Sealed, Imaged}
use Rattle.block_spec.specs.Slots.{Row}
use Rattle.core_laws.proofs.Events.Aborted.{filter_among}
use Rattle.core_laws.proofs.Events.Lists.{below_member, member_below}
use Rattle.core_laws.proofs.Events.Steps.{steps}
use Rattle.core_laws.proofs.Events.Plain.{plain}
use Rattle.core_laws.specs.Events.Laws.{IsTold}
use Rattle.core_laws.specs.Events.Named.{FollowsMachine}
use Rattle.event_spec.specs.declared.event.Event.TheVariants as event
use Rattle.event_spec.specs.declared.own.OwnKey.{OwnKey}
use Rattle.event_spec.specs.declared.reply.Reply.TheVariants as reply
use Rattle.event_spec.specs.declared.reply.WriteFault.{WriteFault}
use Rattle.event_spec.specs.declared.reply.WriteFault.TheVariants.{ConflictSession, ConflictCommit, Exists, Missing, Freezing, Full}
use Rattle.event_spec.specs.Effects.{effect, change_judged, found, insert_judged}
use Rattle.event_spec.specs.Judged.{current_place, fault_of, first_of_blocks, freezing_of, judged, newer_by, next_place}
use Rattle.event_spec.specs.Lawful.{Among, HasBlock, IsLawful}
use Rattle.event_spec.specs.Parts.{Parts, Shape, below, blocks_of, body_at, head_at, places_at, slot_at, slots_of}
use Rattle.event_spec.specs.Replies.{reply_to_write}
use Rattle.event_spec.specs.Sound.{IsShape, Sound}
use Rattle.core_laws.specs.Following.Laws.{command_of}
use Rattle.isolation_spec.specs.Contents.{key_of}
use Rattle.isolation_spec.specs.declared.command.Act.{Act}
use Rattle.isolation_spec.specs.declared.command.Act.TheVariants as act
use Rattle.isolation_spec.specs.declared.command.Answer.{Answer}
use Rattle.isolation_spec.specs.declared.command.Answer.TheVariants as answer
use Rattle.isolation_spec.specs.declared.command.Command.{Command}
use Rattle.isolation_spec.specs.Machine.{IsolationMachine, step}
use Rattle.isolation_spec.specs.Store.{IsAccepted, IsInsert}
use Rattle.core_laws.specs.Logs.Laws.{FreezesExactly, FullExactly, HasNoRoom, IsSealedIn}
use Rattle.core_laws.proofs.Following.Desks.{same_number}
use Rattle.core_laws.proofs.Events.Heads.{filter_first}
use Rattle.core_laws.proofs.Sound.Written.{judged_ok}
use Rattle.undo_chain.specs.declared.chain.Newer.{Newer}
use Rattle.undo_chain.specs.declared.chain.Newer.TheVariants as newer

-- False is not the same as true.
false_true : false ≡ true → ⊥
false_true e = cc

-- an answer that is not the machine's `Accepted`
not_accepted : (m next : IsolationMachine) (command : Command) (said : Answer) → step m command ≡ (said, next) → IsAccepted m command → said ≡ answer.Accepted
not_accepted m next command said is accepted = sym (ap (λ (x : Answer × IsolationMachine). x.0) is) ∙ accepted

-- An answer that is refused for two faults is refused for one.
err_is : (r : Result ℕ WriteFault) (a b : WriteFault) → r ≡ Err a → r ≡ Err b → a ≡ b
err_is r a b x y = cc

-- A write whose reply is a refusal for a fault has that fault.
refused_is : (r : Result ℕ WriteFault) (fault : WriteFault) → reply_to_write r ≡ reply.Refused fault → r ≡ Err fault
refused_is (Ok p) fault is = cc
refused_is (Err x) fault is = ap Err (cc)

-- ---- inserts

-- why a write is refused: it has a fault, or no place
judged_err : (fault : Option WriteFault) (place : Option ℕ) (otherwise told : WriteFault) → judged fault place otherwise ≡ Err told
    → (fault ≡ Some told) ⊎ ((fault ≡ None) × (place ≡ None) × (otherwise ≡ told))
judged_err (Some x) place otherwise told is = inl (ap Some (err_is (judged (Some x) place otherwise) x told refl is))
judged_err None None otherwise told is = inr (refl, refl, err_is (judged None None otherwise) otherwise told refl is)
judged_err None (Some p) otherwise told is = cc

-- No conflict and no row that exists is a fault of being full.
no_full : (n : Newer) (exists : Bool) (inserts : ℕ) → option_or (fault_of n) (cond exists (Some Exists) None) ≡ Some (Full inserts) → ⊥
no_full (newer.Session w) exists inserts is = cc
no_full (newer.Number k) exists inserts is = cc
no_full newer.Nothing true inserts is = cc
no_full newer.Nothing false inserts is = cc

-- Where neither of two options would do, neither has anything.
both_none : (a b : Option ℕ) → option_or a b ≡ None → (a ≡ None) × (b ≡ None)
both_none None b n = (refl, n)
both_none (Some x) b n = cc

module _ (sh : Shape) (s : Parts) (own : OwnKey) (t : ℕ) (row : Row) (m : IsolationMachine)
    (shape : IsShape sh) (ok : Sound sh s) (lawful : IsLawful sh (event.Insert own t row) s) (f : FollowsMachine sh s m) where
  -- The command to insert the row, as the machine is asked it.
  abbrev command : Command
  command = command_of own.session (act.Insert t row)

  -- The machine goes with the reply to the insert, and the core behind it follows.
  told : (next : IsolationMachine) × IsTold m None command (reply_to_write (insert_judged sh s own t (key_of row))) next × FollowsMachine sh (effect sh s (event.Insert own t row)) next
  told = steps sh s (event.Insert own t row) shape ok lawful m f

  -- The place where the row would go: its own written one or the head's next.
  abbrev goes : Option ℕ
  goes = option_or own.written (next_place (head_at sh s t) (slots_of sh t))

  -- The fault of the insert: a conflict, or that the row exists.
  abbrev fault : Option WriteFault
  fault = option_or (fault_of (newer_by (slot_at sh s t) (places_at sh s t (key_of row)) own)) (cond (is_some (found sh s own t (key_of row))) (Some Exists) None)

  -- no next place is no room
  no_next : next_place (head_at sh s t) (slots_of sh t) ≡ None → (slots_of sh t ≤ (head_at sh s t).taken) × ((head_at sh s t).empty ≡ [])
  no_next is = go (nat_lt (head_at sh s t).taken (slots_of sh t)) refl is
    where
      none_empty : (blocks : List ℕ) → first_of_blocks blocks ≡ None → blocks ≡ []
      none_empty [] e = refl
      none_empty (b ∷ blocks) e = cc

      go : (y : Bool) → nat_lt (head_at sh s t).taken (slots_of sh t) ≡ y
          → cond (nat_lt (head_at sh s t).taken (slots_of sh t)) (Some (place_of (head_at sh s t).block (head_at sh s t).taken)) (first_of_blocks (head_at sh s t).empty) ≡ None
          → (slots_of sh t ≤ (head_at sh s t).taken) × ((head_at sh s t).empty ≡ [])
      go true y e =
          let never : Some (place_of (head_at sh s t).block (head_at sh s t).taken) ≡ None =
          sym (ap (λ y. cond y (Some (place_of (head_at sh s t).block (head_at sh s t).taken)) (first_of_blocks (head_at sh s t).empty)) y) ∙ e in absurd (some_none (place_of (head_at sh s t).block (head_at sh s t).taken) never)
        where
          some_none : (p : ℕ) → Some p ≡ None → ⊥
          some_none p n = cc
      go false y e =
          (grind (arith, nat_tests), none_empty (head_at sh s t).empty (sym (ap (λ y. cond y (Some (place_of (head_at sh s t).block (head_at sh s t).taken)) (first_of_blocks (head_at sh s t).empty)) y) ∙ e))

  -- Where the row has no place to go, the head has no room for it.
  room : goes ≡ None → HasNoRoom sh s own t
  room is =
      let none = both_none own.written (next_place (head_at sh s t) (slots_of sh t)) is in
      let next = no_next none.1 in
      record {
        written = none.0;
        spent = next.0;
        others = λ b has e. others b has e next.1 (same_number b (head_at sh s t).block);
      }
    where
      others : (b : ℕ) → HasBlock sh t b → is_empty (body_at sh s t b) ≡ true → (head_at sh s t).empty ≡ [] → (b ≡ (head_at sh s t).block) ⊎ (b ≢ (head_at sh s t).block) → b ≡ (head_at sh s t).block
      others b has e none (inl same) = same
      others b has e none (inr ne) =
          absurd (subst (Among b) (sym (ok.heads t has.0).empty ∙ none)
          (filter_among (λ x. is_empty (body_at sh s t x) && not (x == (head_at sh s t).block)) b (below (blocks_of sh t))
          (below_member 0 (blocks_of sh t) b (omega arith) (let less = has.1 in omega (arith, less)))
          (ap (λ y. y && not (b == (head_at sh s t).block)) e ∙ ap not (apart b (head_at sh s t).block ne))))
        where
          apart : (x y : ℕ) → x ≢ y → (x == y) ≡ false
          apart x y ne = grind (arith, nat_tests)

  -- an insert that is refused as full is one that the machine accepts and that finds no room
  pub full_from : (inserts : ℕ) → reply_to_write (insert_judged sh s own t (key_of row)) ≡ reply.Refused (Full inserts)
      → IsAccepted m command × HasNoRoom sh s own t × (inserts ≡ (head_at sh s t).inserts)
  full_from inserts is =
      let x = subst (λ r. IsTold m None command r told.0) is told.1 in
      let y = why (judged_err fault goes (Full (head_at sh s t).inserts) (Full inserts) (refused_is (insert_judged sh s own t (key_of row)) (Full inserts) is)) in
      (x.1, room y.0, sym y.1)
    where
      same : (a b : ℕ) → Full a ≡ Full b → a ≡ b
      same a b e = cc

      why : (fault ≡ Some (Full inserts)) ⊎ ((fault ≡ None) × (goes ≡ None) × (Full (head_at sh s t).inserts ≡ Full inserts)) → (goes ≡ None) × ((head_at sh s t).inserts ≡ inserts)
      why (inl e) = absurd (no_full (newer_by (slot_at sh s t) (places_at sh s t (key_of row)) own) (is_some (found sh s own t (key_of row))) inserts e)
      why (inr e) = (e.1, same (head_at sh s t).inserts inserts e.2)

  -- and such an insert is refused as full
  pub full_back : (inserts : ℕ) → IsAccepted m command × HasNoRoom sh s own t × (inserts ≡ (head_at sh s t).inserts)
      → reply_to_write (insert_judged sh s own t (key_of row)) ≡ reply.Refused (Full inserts)
  full_back inserts given = go (insert_judged sh s own t (key_of row)) refl
    where
      no_place : goes ≡ None
      no_place = ap (λ w. option_or w (next_place (head_at sh s t) (slots_of sh t))) given.1.written ∙ next
        where
          nothing_else : (blocks : List ℕ) → (head_at sh s t).empty ≡ blocks → first_of_blocks blocks ≡ None
          nothing_else [] e = refl
          nothing_else (b ∷ blocks) e =
              let r = filter_first (λ x. is_empty (body_at sh s t x) && not (x == (head_at sh s t).block)) (below (blocks_of sh t)) b blocks (sym (ok.heads t lawful.1.0).empty ∙ e) in
              let lt : b < blocks_of sh t = let x = member_below 0 (blocks_of sh t) b r.0 in omega (arith, x) in
              let two = and_parts (is_empty (body_at sh s t b)) (not (b == (head_at sh s t).block)) r.1 in
              absurd (false_true (sym (ap not (eq_true b (head_at sh s t).block (given.1.others b (lawful.1.0, lt) two.0))) ∙ two.1))
            where
              eq_true : (x y : ℕ) → x ≡ y → (x == y) ≡ true
              eq_true x y e = grind (arith, nat_tests)

          next : next_place (head_at sh s t) (slots_of sh t) ≡ None
          next =
              let spent = given.1.spent in
              let full : nat_lt (head_at sh s t).taken (slots_of sh t) ≡ false = grind (arith, nat_tests, spent) in
              ap (λ y. cond y (Some (place_of (head_at sh s t).block (head_at sh s t).taken)) (first_of_blocks (head_at sh s t).empty)) full
              ∙ nothing_else (head_at sh s t).empty refl

      by_fault : (x : WriteFault) → insert_judged sh s own t (key_of row) ≡ Err x → reply_to_write (Err x) ≡ reply.Refused (Full inserts)
      by_fault (ConflictSession w) is =
          let y = subst (λ r. IsTold m None command (reply_to_write r) told.0) is told.1 in
          let never : answer.ConflictSession w ≡ answer.Accepted = not_accepted m told.0 command (answer.ConflictSession w) y given.0 in cc
      by_fault (ConflictCommit k) is =
          let y = subst (λ r. IsTold m None command (reply_to_write r) told.0) is told.1 in
          let never : answer.ConflictCommit k ≡ answer.Accepted = not_accepted m told.0 command (answer.ConflictCommit k) y given.0 in cc
      by_fault Exists is =
          let y = subst (λ r. IsTold m None command (reply_to_write r) told.0) is told.1 in
          let never : answer.Exists ≡ answer.Accepted = not_accepted m told.0 command answer.Exists y given.0 in cc
      by_fault Missing is =
          let y = subst (λ r. IsTold m None command (reply_to_write r) told.0) is told.1 in
          let never : answer.Missing ≡ answer.Accepted = not_accepted m told.0 command answer.Missing y given.0 in cc
      by_fault (Freezing b g) is = let y = subst (λ r. IsTold m None command (reply_to_write r) told.0) is told.1 in absurd y.0
      by_fault (Full i) is = ap (λ n. reply.Refused (Full n)) ((full_from i (ap reply_to_write is)).2 ∙ sym given.2)

      go : (r : Result ℕ WriteFault) → insert_judged sh s own t (key_of row) ≡ r → reply_to_write (insert_judged sh s own t (key_of row)) ≡ reply.Refused (Full inserts)
      go (Ok p) is = let never : None ≡ Some p = sym no_place ∙ (judged_ok fault goes (Full (head_at sh s t).inserts) p is).1 in absurd (none_not p never)
        where
          none_not : (p : ℕ) → None ≡ Some p → ⊥
          none_not p n = cc
      go (Err x) is = ap reply_to_write is ∙ by_fault x is

-- An insert that the machine accepts is refused exactly where there is no room.
pub full_exactly : FullExactly
full_exactly sh s own t row m inserts shape ok lawful f = (full_from sh s own t row m shape ok lawful f inserts, full_back sh s own t row m shape ok lawful f inserts)

-- ---- updates and deletes

-- A freezing among a change's faults is neither a conflict nor a missing row.
no_freezing : (n : Newer) (missing : Bool) (x : Option WriteFault) (b g : ℕ) → option_or (fault_of n) (cond missing (Some Missing) x) ≡ Some (Freezing b g) → x ≡ Some (Freezing b g)
no_freezing (newer.Session w) missing x b g is = cc
no_freezing (newer.Number k) missing x b g is = cc
no_freezing newer.Nothing true x b g is = cc
no_freezing newer.Nothing false x b g is = is

-- A fault of freezing names the block and the stamp of its seal.
frozen_by : (block : ℕ) (phase : Phase) (b g : ℕ) → freezing_of block phase ≡ Some (Freezing b g) → (b ≡ block) × (phase ≡ Sealed g)
frozen_by block Loose b g is = cc
frozen_by block (Imaged x) b g is = cc
frozen_by block (Sealed x) b g is = (sym (blocks block x b g is), ap Sealed (stamps block x b g is))
  where
    blocks : (a x b g : ℕ) → Some (Freezing a x) ≡ Some (Freezing b g) → a ≡ b
    blocks a x b g e = cc

    stamps : (a x b g : ℕ) → Some (Freezing a x) ≡ Some (Freezing b g) → x ≡ g
    stamps a x b g e = cc

module _ (sh : Shape) (s : Parts) (own : OwnKey) (t : ℕ) (key : ℤ) (m : IsolationMachine)
    -- the command that changes the key's row, and what it is answered
    (what : Act) (no_insert : IsInsert what → ⊥)
    (next : IsolationMachine) (told : IsTold m None (command_of own.session what) (reply_to_write (change_judged sh s own t key)) next) where
  -- The command to change the row, as the machine is asked it.
  abbrev change_command : Command
  change_command = command_of own.session what

  -- The current place of the key.
  abbrev here : Option ℕ
  here = current_place (slot_at sh s t) (places_at sh s t key)

  -- The fault of freezing, where the block of the key's row is sealed.
  abbrev frozen : Option WriteFault
  frozen = option_and_then (λ place. freezing_of (block_of place) (body_at sh s t (block_of place)).phase) here

  -- The fault of the change: a conflict, a row that is missing, or freezing.
  abbrev change_fault : Option WriteFault
  change_fault = option_or (fault_of (newer_by (slot_at sh s t) (places_at sh s t key) own)) (cond (is_none (found sh s own t key)) (Some Missing) frozen)

  -- a change that is refused as freezing is one that the machine accepts, of a sealed block's row
  pub freezes_from : (b g : ℕ) → reply_to_write (change_judged sh s own t key) ≡ reply.Refused (Freezing b g)
      → IsAccepted m change_command × IsSealedIn sh s t key b g
  freezes_from b g is =
      let x = subst (λ r. IsTold m None change_command r next) is told in (
        x.1,
        sealed here refl (no_freezing (newer_by (slot_at sh s t) (places_at sh s t key) own) (is_none (found sh s own t key)) frozen b g
            (why (judged_err change_fault here Missing (Freezing b g) (refused_is (change_judged sh s own t key) (Freezing b g) is)))),
      )
    where
      why : (change_fault ≡ Some (Freezing b g)) ⊎ ((change_fault ≡ None) × (here ≡ None) × (Missing ≡ Freezing b g)) → change_fault ≡ Some (Freezing b g)
      why (inl e) = e
      why (inr e) = let never = e.2 in cc

      sealed : (o : Option ℕ) → here ≡ o → option_and_then (λ place. freezing_of (block_of place) (body_at sh s t (block_of place)).phase) here ≡ Some (Freezing b g) → IsSealedIn sh s t key b g
      sealed None e x =
          let never : None ≡ Some (Freezing b g) = sym (ap (option_and_then (λ place. freezing_of (block_of place) (body_at sh s t (block_of place)).phase)) e) ∙ x in absurd (no_fault (Freezing b g) never)
        where
          no_fault : (x : WriteFault) → None ≡ Some x → ⊥
          no_fault x n = cc
      sealed (Some p) e x =
          let by = frozen_by (block_of p) (body_at sh s t (block_of p)).phase b g (sym (ap (option_and_then (λ place. freezing_of (block_of place) (body_at sh s t (block_of place)).phase)) e) ∙ x) in
          record { place = p; current = e; block_is = by.0; sealed = ap (λ b. (body_at sh s t b).phase) by.0 ∙ by.1 }

  -- and such a change is refused as freezing
  pub freezes_back : (b g : ℕ) → IsAccepted m change_command × IsSealedIn sh s t key b g → reply_to_write (change_judged sh s own t key) ≡ reply.Refused (Freezing b g)
  freezes_back b g given = go (change_judged sh s own t key) refl
    where
      frozen_is : frozen ≡ Some (Freezing b g)
      frozen_is =
          ap (option_and_then (λ place. freezing_of (block_of place) (body_at sh s t (block_of place)).phase)) given.1.current
          ∙ ap (λ x. freezing_of x (body_at sh s t x).phase) (sym given.1.block_is) ∙ ap (freezing_of b) given.1.sealed

      by_fault : (x : WriteFault) → change_judged sh s own t key ≡ Err x → reply_to_write (Err x) ≡ reply.Refused (Freezing b g)
      by_fault (ConflictSession w) is =
          let y = sym (plain m change_command) ∙ subst (λ r. IsTold m None change_command (reply_to_write r) next) is told in
          let never : answer.ConflictSession w ≡ answer.Accepted = not_accepted m next change_command (answer.ConflictSession w) y given.0 in cc
      by_fault (ConflictCommit k) is =
          let y = sym (plain m change_command) ∙ subst (λ r. IsTold m None change_command (reply_to_write r) next) is told in
          let never : answer.ConflictCommit k ≡ answer.Accepted = not_accepted m next change_command (answer.ConflictCommit k) y given.0 in cc
      by_fault Exists is =
          let y = sym (plain m change_command) ∙ subst (λ r. IsTold m None change_command (reply_to_write r) next) is told in
          let never : answer.Exists ≡ answer.Accepted = not_accepted m next change_command answer.Exists y given.0 in cc
      by_fault Missing is =
          let y = sym (plain m change_command) ∙ subst (λ r. IsTold m None change_command (reply_to_write r) next) is told in
          let never : answer.Missing ≡ answer.Accepted = not_accepted m next change_command answer.Missing y given.0 in cc
      by_fault (Full i) is = let y = subst (λ r. IsTold m None change_command (reply_to_write r) next) is told in absurd (no_insert y.0)
      by_fault (Freezing b' g') is =
          let from = freezes_from b' g' (ap reply_to_write is) in
          let place : from.1.place ≡ given.1.place = same_Some from.1.place given.1.place (sym from.1.current ∙ given.1.current) in
          let block : b' ≡ b = from.1.block_is ∙ ap block_of place ∙ sym given.1.block_is in
          let stamp : g' ≡ g = sealed_same g' g (sym from.1.sealed ∙ ap (λ b. (body_at sh s t b).phase) block ∙ given.1.sealed) in
          ap (λ b. reply.Refused (Freezing b g')) block ∙ ap (λ g. reply.Refused (Freezing b g)) stamp
        where
          sealed_same : (x y : ℕ) → Sealed x ≡ Sealed y → x ≡ y
          sealed_same x y e = cc

      some_fault : (n : Newer) (missing : Bool) → option_or (fault_of n) (cond missing (Some Missing) (Some (Freezing b g))) ≡ None → ⊥
      some_fault (newer.Session w) missing e = cc
      some_fault (newer.Number k) missing e = cc
      some_fault newer.Nothing true e = cc
      some_fault newer.Nothing false e = cc

      go : (r : Result ℕ WriteFault) → change_judged sh s own t key ≡ r → reply_to_write (change_judged sh s own t key) ≡ reply.Refused (Freezing b g)
      go (Ok p) is =
          let fine = (judged_ok change_fault here Missing p is).0 in
          absurd (some_fault (newer_by (slot_at sh s t) (places_at sh s t key) own) (is_none (found sh s own t key))
          (sym (ap (λ x. option_or (fault_of (newer_by (slot_at sh s t) (places_at sh s t key) own)) (cond (is_none (found sh s own t key)) (Some Missing) x)) frozen_is) ∙ fine))
      go (Err x) is = ap reply_to_write is ∙ by_fault x is

-- A change that the machine accepts is refused exactly where its row's block is sealed.
pub freezes_exactly : FreezesExactly
freezes_exactly sh s own t m b g shape ok f = (
  λ row lawful.
      let told = steps sh s (event.Update own t row) shape ok lawful m f in
      (freezes_from sh s own t (key_of row) m (act.Update t row) (λ x. x) told.0 told.1 b g, freezes_back sh s own t (key_of row) m (act.Update t row) (λ x. x) told.0 told.1 b g),
  λ key lawful.
      let told = steps sh s (event.Delete own t key) shape ok lawful m f in
      (freezes_from sh s own t key m (act.Delete t key) (λ x. x) told.0 told.1 b g, freezes_back sh s own t key m (act.Delete t key) (λ x. x) told.0 told.1 b g),
)
