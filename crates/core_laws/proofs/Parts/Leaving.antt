-- An event leaves the transactions of all sessions but its own.
use Rattle.std.proofs.Common.{◌≡◌, ◌≢◌, ◌⊎◌, ℕ, zero, suc, ◌+◌, ◌<◌, ◌≤◌, ℤ, Bool, true, false, cond, ◌&&◌, ◌==◌, List, [], ◌∷◌, ◌++◌, Option, None, Some, option_map, is_none, is_some, length, unwrap_or, refl, sym, ap, ◌∙◌, subst, arith}
use mathlib.Core.Logic.{inl, inr}
use Rattle.std.specs.Prelude.{Result, Ok, Err, option_and_then}
use Rattle.std.specs.List.{flat_map, filter_map, cons_option}
use Rattle.std.specs.Option.{option_or}
use Rattle.std.proofs.lemmas.Bool.Decides.{nat_tests}
use Rattle.block_layout.specs.Place.{block_of, slot_of, place_of}
use Rattle.block_spec.specs.Bodies.{Body, committed_in, imaged, is_writer, observed, pruned_in, seal_fault, sealed, slot_in, thawed, with_slot}
use Rattle.block_spec.specs.declared.change.Change.{Change}
use Rattle.block_spec.specs.declared.change.Change.TheVariants as change
use Rattle.block_spec.specs.Slots.{Row, Slot, committed, pruned, rolled_back, writer_of, written}
use Rattle.core_laws.proofs.Events.Aborted.{rolled_slot}
use Rattle.core_laws.proofs.Events.Heads.{next_is_there}
use Rattle.core_laws.proofs.Events.Naming.{follows_machine}
use Rattle.core_laws.proofs.Events.Owners.{key_slot, open_with, slot_key_is, transaction_is}
use Rattle.core_laws.proofs.Events.Slots.{body_of, write_else, write_here}
use Rattle.core_laws.proofs.Events.States.{body_cases, desk_at_after, slot_map}
use Rattle.core_laws.proofs.Events.Still.{all_stay}
use Rattle.core_laws.specs.Events.Named.{FollowsMachine}
use Rattle.event_spec.specs.declared.event.Event.TheVariants as event
use Rattle.event_spec.specs.declared.event.MovePair.{MovePair}
use Rattle.event_spec.specs.declared.own.OwnKey.{OwnKey}
use Rattle.event_spec.specs.declared.own.OwnTransaction.{OwnTransaction}
use Rattle.event_spec.specs.declared.part.Part.TheVariants as part
use Rattle.event_spec.specs.declared.reply.WriteFault.{WriteFault}
use Rattle.event_spec.specs.declared.reply.WriteFault.TheVariants.{Exists, Full, Missing}
use Rattle.event_spec.specs.Effects.{CoreEvent, after_change, after_commit, after_insert, after_judged, after_move, at_both, change_judged, changes_of, effect, found, held_pairs, insert_judged, is_some_write, numbered, stale_in}
use Rattle.event_spec.specs.Judged.{current_place, differences, fault_of, first_at, freezing_of, newer_by, next_place}
use Rattle.event_spec.specs.Lawful.{Among, IsLawful, IsThawed, session_of, slot_key, transaction, write_of, write_on, writes_of}
use Rattle.event_spec.specs.Parts.{Changes, Parts, Shape, BodyOf, names, nothing, each_changed, below, blocks_of, body_at, body_from, desk_at, head_at, is_head, part_named, places_at, slot_at, slots_of}
use Rattle.event_spec.specs.Sound.{IsShape, Sound}
use Rattle.isolation_spec.specs.declared.read.Read.{Read}
use Rattle.core_laws.proofs.Following.Desks.{closed_other, none_not, opened_other, same_number}
use Rattle.core_laws.proofs.Following.Firsts.{other_is}
use Rattle.core_laws.proofs.Following.Writes.{apart as places_apart}
use Rattle.isolation_spec.specs.Contents.{PlaceMap, key_of}
use Rattle.core_laws.proofs.Parts.MoveLeaves.{move_writes}
use Rattle.core_laws.specs.Parts.Laws.{Leaves}
use Rattle.core_laws.proofs.Slots.Endings.{committed_other, committed_writer, rolled_back_other}
use Rattle.core_laws.proofs.Slots.Kept.{bare_is, rolled_writer, same_option, writer_filled}
use Rattle.core_laws.proofs.Slots.Prunings.{pruned_keyed, pruned_writer}
use Rattle.core_laws.proofs.Sound.Written.{change_goes, judged_ok}
use Rattle.txn_desk.specs.Desk.{DeskState}
use Rattle.txn_desk.specs.Oldest.{snapshot_of}
use Rattle.undo_chain.specs.Conflict.{conflict_by, largest, numbers_above, other_writer}
use Rattle.undo_chain.specs.Lawful.{IsLawful as IsLawfulChain}

-- ---- the write on one slot

-- A slot of which a session is not the writer has no write of it.
no_write : (q t p : ℕ) (slot : Slot) → is_writer q (writer_of slot.entries) ≡ false → write_on q t p slot ≡ None
no_write q t p slot is = ap (λ b. cond b (option_map (write_of t p) (slot_key slot.row slot.entries)) None) is

-- A session is not the writer of a slot that another one writes.
not_writer : (q r : ℕ) (o : Option ℕ) → o ≡ Some r → q ≢ r → is_writer q o ≡ false
not_writer q r o is ne = ap (is_writer q) is ∙ go q r ne
  where
    go : (q r : ℕ) → q ≢ r → (r == q) ≡ false
    go q r ne = grind (arith, nat_tests)

-- A session is not the writer of a slot that nobody but another one may write.
not_free : (q r : ℕ) (o : Option ℕ) → q ≢ r → ((w : ℕ) → o ≡ Some w → w ≡ r) → is_writer q o ≡ false
not_free q r None ne free = refl
not_free q r (Some w) ne free = not_writer q r (Some w) (ap Some (free w refl)) ne

-- another's write of a slot that is free for it
write_leaves : (q t p r : ℕ) (new : Change) (slot : Slot) → q ≢ r → ((w : ℕ) → writer_of slot.entries ≡ Some w → w ≡ r)
    → write_on q t p (written r new slot) ≡ write_on q t p slot
write_leaves q t p r new slot ne free =
    no_write q t p (written r new slot) (not_writer q r (Some r) refl ne)
    ∙ sym (no_write q t p slot (not_free q r (writer_of slot.entries) ne free))

-- another's commit
commit_leaves : (q t p r stamp number : ℕ) (slot : Slot) → q ≢ r → IsLawfulChain slot.entries
    → write_on q t p (committed r stamp number slot) ≡ write_on q t p slot
commit_leaves q t p r stamp number slot ne lawful = go (same_option (writer_of slot.entries) r)
  where
    go : (writer_of slot.entries ≡ Some r) ⊎ (writer_of slot.entries ≢ Some r) → write_on q t p (committed r stamp number slot) ≡ write_on q t p slot
    go (inl w) =
        no_write q t p (committed r stamp number slot) (ap (is_writer q) (committed_writer r stamp number slot lawful w))
        ∙ sym (no_write q t p slot (not_writer q r (writer_of slot.entries) w ne))
    go (inr n) = ap (write_on q t p) (committed_other r stamp number slot lawful n)

-- another's roll-back
roll_back_leaves : (q t p r : ℕ) (slot : Slot) → q ≢ r → IsLawfulChain slot.entries
    → write_on q t p (rolled_back r slot) ≡ write_on q t p slot
roll_back_leaves q t p r slot ne lawful = go (same_option (writer_of slot.entries) r)
  where
    go : (writer_of slot.entries ≡ Some r) ⊎ (writer_of slot.entries ≢ Some r) → write_on q t p (rolled_back r slot) ≡ write_on q t p slot
    go (inl w) =
        no_write q t p (rolled_back r slot) (ap (is_writer q) (rolled_writer r slot.entries lawful w))
        ∙ sym (no_write q t p slot (not_writer q r (writer_of slot.entries) w ne))
    go (inr n) = ap (write_on q t p) (rolled_back_other r slot lawful n)

-- ---- the writes of a session

-- Lists made of the elements by two maps that agree are the same when joined.
flat_same : {X Y : Type 0} (f g : X → List Y) (xs : List X) → ((x : X) → f x ≡ g x) → flat_map f xs ≡ flat_map g xs
flat_same f g [] same = refl
flat_same f g (x ∷ xs) same = ap (λ y. y ++ flat_map f xs) (same x) ∙ ap (λ y. g x ++ y) (flat_same f g xs same)

-- Of the elements two maps that agree keep the same.
kept_same : {X Y : Type 0} (f g : X → Option Y) (xs : List X) → ((x : X) → f x ≡ g x) → filter_map f xs ≡ filter_map g xs
kept_same f g [] same = refl
kept_same f g (x ∷ xs) same = ap (λ y. cons_option y (filter_map f xs)) (same x) ∙ ap (cons_option (g x)) (kept_same f g xs same)

-- where each slot has the session's write as before, so has the whole
writes_same : (sh : Shape) (s u : Parts) (q : ℕ) → ((t p : ℕ) → write_on q t p (slot_at sh u t p) ≡ write_on q t p (slot_at sh s t p)) → writes_of sh u q ≡ writes_of sh s q
writes_same sh s u q same =
    flat_same (λ t. flat_map (λ b. filter_map (λ j. write_on q t (place_of b j) (slot_at sh u t (place_of b j))) (below (slots_of sh t))) (below (blocks_of sh t)))
    (λ t. flat_map (λ b. filter_map (λ j. write_on q t (place_of b j) (slot_at sh s t (place_of b j))) (below (slots_of sh t))) (below (blocks_of sh t)))
    (below (length sh.tables))
    (λ t. flat_same (λ b. filter_map (λ j. write_on q t (place_of b j) (slot_at sh u t (place_of b j))) (below (slots_of sh t))) (λ b. filter_map (λ j. write_on q t (place_of b j) (slot_at sh s t (place_of b j))) (below (slots_of sh t)))
    (below (blocks_of sh t))
    (λ b. kept_same (λ j. write_on q t (place_of b j) (slot_at sh u t (place_of b j))) (λ j. write_on q t (place_of b j) (slot_at sh s t (place_of b j))) (below (slots_of sh t)) (λ j. same t (place_of b j))))

-- ---- what an accepted write met

-- Where the first answer over some places is none, each place answers with none.
first_at_none : {X : Type 0} (answer : ℕ → Option X) (places : List ℕ) (p : ℕ) → first_at answer places ≡ None → Among p places → answer p ≡ None
first_at_none answer [] p is a = absurd a
first_at_none {X} answer (x ∷ places) p is a = go (answer x) refl is a (first_at_none answer places p)
  where
    go : (o : Option X) → answer x ≡ o → option_or o (first_at answer places) ≡ None → Among p (x ∷ places) → (first_at answer places ≡ None → Among p places → answer p ≡ None) → answer p ≡ None
    go (Some y) here is a rest = cc
    go None here is (inl e) rest = ap answer e ∙ here
    go None here is (inr b) rest = rest is b

-- Where no conflict is found, there is none with a session.
no_session : (a b : Option ℕ) → fault_of (conflict_by a b) ≡ None → a ≡ None
no_session None b is = refl
no_session (Some w) b is = cc

-- Where one of two options would do and there is none, the first is none.
left_none : {X : Type 0} (a b : Option X) → option_or a b ≡ None → a ≡ None
left_none None b is = refl
left_none (Some x) b is = cc

module _ (sh : Shape) (s : Parts) (ok : Sound sh s) where
  -- where no other session's entry was met at a key, none stands at a candidate
  met_none : (own : OwnKey) (t : ℕ) (key : ℤ) (p : ℕ) → fault_of (newer_by (slot_at sh s t) (places_at sh s t key) own) ≡ None → Among p (places_at sh s t key)
      → (w : ℕ) → writer_of (slot_at sh s t p).entries ≡ Some w → w ≡ own.session
  met_none own t key p clear a w is = go (same_number w own.session)
    where
      none : other_writer (slot_at sh s t p).entries own.session ≡ None
      none = first_at_none (λ place. other_writer (slot_at sh s t place).entries own.session) (places_at sh s t key) p
          (no_session (first_at (λ place. other_writer (slot_at sh s t place).entries own.session) (places_at sh s t key))
          (largest (flat_map (λ place. numbers_above (slot_at sh s t place).entries own.snapshot.stamp) (places_at sh s t key))) clear) a

      go : (w ≡ own.session) ⊎ (w ≢ own.session) → w ≡ own.session
      go (inl e) = e
      go (inr ne) = absurd (none_not (other_writer (slot_at sh s t p).entries own.session) w none
          (other_is (slot_at sh s t p).entries w own.session (ok.follows.1.slots t p).lawful is ne))

-- The current place of a key is one of its candidates.
current_among : (slot : ℕ → Slot) (places : List ℕ) (p : ℕ) → current_place slot places ≡ Some p → Among p places
current_among slot [] p is = cc
current_among slot (x ∷ places) p is = go (slot x).row refl is (current_among slot places p)
  where
    some_is : (a b : ℕ) → Some a ≡ Some b → a ≡ b
    some_is a b e = cc

    go : (o : Option Row) → (slot x).row ≡ o → option_or (cond (is_some (slot x).row) (Some x) None) (current_place slot places) ≡ Some p → (current_place slot places ≡ Some p → Among p places) → Among p (x ∷ places)
    go None here is rest = inr (rest (sym (ap (λ (o : Option Row). option_or (cond (is_some o) (Some x) None) (current_place slot places)) here) ∙ is))
    go (Some row) here is rest = inl (sym (some_is x p (sym (ap (λ (o : Option Row). option_or (cond (is_some o) (Some x) None) (current_place slot places)) here) ∙ is)))

-- ---- the events

module _ (sh : Shape) (s : Parts) (shape : IsShape sh) (ok : Sound sh s) (q : ℕ) where
  -- The core in front of the event follows its machine.
  abbrev f : FollowsMachine sh s ok.follows.0
  f = follows_machine sh s ok

  -- Parts that are the same have the same write of the session on each slot.
  still : (after : Parts) → after ≡ s → (t p : ℕ) → write_on q t p (slot_at sh after t p) ≡ write_on q t p (slot_at sh s t p)
  still after same t p = ap (λ parts. write_on q t p (slot_at sh parts t p)) same

  -- Where nothing changes, each slot has the session's write as before.
  same_parts : (t p : ℕ) → write_on q t p (slot_at sh (each_changed nothing (names sh) s) t p) ≡ write_on q t p (slot_at sh s t p)
  same_parts = still (each_changed nothing (names sh) s) (all_stay (names sh) s)

  -- what a body's change does to its slots
  by_body : (c : Changes) (t p : ℕ) → write_on q t p (slot_in (c.body t (block_of p) (body_at sh s t (block_of p))) (slot_of p)) ≡ write_on q t p (slot_at sh s t p)
      → write_on q t p (slot_at sh (each_changed c (names sh) s) t p) ≡ write_on q t p (slot_at sh s t p)
  by_body c t p same = go (body_cases sh s c t (block_of p) (f.kinds (BodyOf t (block_of p))))
    where
      go : ((body_at sh (each_changed c (names sh) s) t (block_of p) ≡ c.body t (block_of p) (body_at sh s t (block_of p))) ⊎ ((body_at sh (each_changed c (names sh) s) t (block_of p) ≡ body_from None) × (body_at sh s t (block_of p) ≡ body_from None)))
          → write_on q t p (slot_at sh (each_changed c (names sh) s) t p) ≡ write_on q t p (slot_at sh s t p)
      go (inl e) = ap (λ x. write_on q t p (slot_in x (slot_of p))) e ∙ same
      go (inr e) = ap (λ x. write_on q t p (slot_in x (slot_of p))) e.0 ∙ ap (λ x. write_on q t p (slot_in x (slot_of p))) (sym e.1)

  -- one body changes
  at_one : (t b : ℕ) (g : Body → Body) (u x : ℕ) (y : Body) (j r : ℕ) → write_on q u r (slot_in (g y) j) ≡ write_on q u r (slot_in y j)
      → write_on q u r (slot_in (at_both t b g u x y) j) ≡ write_on q u r (slot_in y j)
  at_one t b g u x y j r same = go ((u == t) && (x == b))
    where
      go : (e : Bool) → write_on q u r (slot_in (cond e (g y) y) j) ≡ write_on q u r (slot_in y j)
      go true = same
      go false = refl

  -- A write of another session at one place leaves the session's write on each slot.
  written_writes : (c : Changes) (t p r : ℕ) (new : Change) (body : Body) → part_named (names sh) s (BodyOf t (block_of p)) ≡ Some (part.Body body) → slot_of p < length body.slots
      → ((u b : ℕ) (x : Body) → c.body u b x ≡ at_both t (block_of p) (with_slot (slot_of p) (written r new)) u b x)
      → q ≢ r → ((w : ℕ) → writer_of (slot_at sh s t p).entries ≡ Some w → w ≡ r)
      → (u x : ℕ) → write_on q u x (slot_at sh (each_changed c (names sh) s) u x) ≡ write_on q u x (slot_at sh s u x)
  written_writes c t p r new body there inside bodies ne free u x = go (places_apart u t x p)
    where
      go : ((u ≡ t) × (x ≡ p)) ⊎ ((u ≡ t) → (x ≡ p) → ⊥) → write_on q u x (slot_at sh (each_changed c (names sh) s) u x) ≡ write_on q u x (slot_at sh s u x)
      go (inl e) =
          ap (λ u'. write_on q u x (slot_at sh (each_changed c (names sh) s) u' x)) e.0 ∙ ap (λ x'. write_on q u x (slot_at sh (each_changed c (names sh) s) t x')) e.1
          ∙ ap (λ (y : Slot). write_on q u x y) (write_here sh s c (written r new) t p body f.kinds there inside bodies)
          ∙ write_leaves q u x r new (slot_at sh s t p) ne free
          ∙ ap (λ x'. write_on q u x (slot_at sh s t x')) (sym e.1) ∙ ap (λ u'. write_on q u x (slot_at sh s u' x)) (sym e.0)
      go (inr n) = ap (λ (y : Slot). write_on q u x y) (write_else sh s c (written r new) t p body f.kinds there inside bodies u x n)

  -- Another session's insert leaves what this session wrote at each place.
  insert_writes : (own : OwnKey) (t : ℕ) (row : Row) → IsLawful sh (event.Insert own t row) s → q ≢ own.session
      → (u x : ℕ) → write_on q u x (slot_at sh (effect sh s (event.Insert own t row)) u x) ≡ write_on q u x (slot_at sh s u x)
  insert_writes own t row lawful ne u x = go (insert_judged sh s own t (key_of row)) refl
    where
      Here : ℕ → Type 0
      Here p = (body : Body) × (part_named (names sh) s (BodyOf t (block_of p)) ≡ Some (part.Body body)) × (slot_of p < length body.slots)
          × ((w : ℕ) → writer_of (slot_at sh s t p).entries ≡ Some w → w ≡ own.session)

      there : (p : ℕ) (w : Option ℕ) → own.written ≡ w → option_or own.written (next_place (head_at sh s t) (slots_of sh t)) ≡ Some p
          → (body : Body) × (part_named (names sh) s (BodyOf t (block_of p)) ≡ Some (part.Body body)) × (slot_of p < length body.slots)
          × ((w : ℕ) → writer_of (slot_at sh s t p).entries ≡ Some w → w ≡ own.session)
      there p (Some y) e goes =
          let mine : own.written ≡ Some p = e ∙ sym (ap (λ w. option_or w (next_place (head_at sh s t) (slots_of sh t))) e) ∙ goes in
          let w = ((key_slot sh s ok own t (key_of row) lawful.0).there p mine).1 in
          let b = body_of sh s f.kinds t p (writer_filled (slot_at sh s t p) own.session w) in
          (b.0, b.1, b.2, λ v is. let same : Some v ≡ Some own.session = sym is ∙ w in cc)
      there p None e goes =
          let next = next_is_there sh s t shape ok lawful.1.0 p (sym (ap (λ w. option_or w (next_place (head_at sh s t) (slots_of sh t))) e) ∙ goes) in
          (next.0, next.1, next.2, λ v is. absurd (none_not (writer_of (slot_at sh s t p).entries) v (ap (λ (y : Slot). writer_of y.entries) (bare_is (slot_at sh s t p) next.3)) is))

      go : (r : Result ℕ WriteFault) → insert_judged sh s own t (key_of row) ≡ r
          → write_on q u x (slot_at sh (each_changed (after_insert sh s own t row (insert_judged sh s own t (key_of row))) (names sh) s) u x) ≡ write_on q u x (slot_at sh s u x)
      go (Err fault) is = subst (λ r. write_on q u x (slot_at sh (each_changed (after_insert sh s own t row r) (names sh) s) u x) ≡ write_on q u x (slot_at sh s u x)) (sym is)
          (same_parts u x)
      go (Ok p) is =
          let place = (judged_ok
          (option_or (fault_of (newer_by (slot_at sh s t) (places_at sh s t (key_of row)) own)) (cond (is_some (found sh s own t (key_of row))) (Some Exists) None))
          (option_or own.written (next_place (head_at sh s t) (slots_of sh t))) (Full (head_at sh s t).inserts) p is).1 in
          let here = there p own.written refl place in
          subst (λ r. write_on q u x (slot_at sh (each_changed (after_insert sh s own t row r) (names sh) s) u x) ≡ write_on q u x (slot_at sh s u x)) (sym is)
          (written_writes (after_insert sh s own t row (Ok p)) t p own.session (change.Put row) here.0 here.1 here.2 (λ u b x. refl) ne here.3 u x)

  -- Another's update or delete leaves the session's write on each slot.
  change_writes : (own : OwnKey) (t : ℕ) (key : ℤ) (choice : Row → Change) → IsThawed sh t key s → q ≢ own.session
      → (u x : ℕ) → write_on q u x (slot_at sh (each_changed (after_change sh s own t choice (change_judged sh s own t key)) (names sh) s) u x) ≡ write_on q u x (slot_at sh s u x)
  change_writes own t key choice thawed ne u x = go (change_judged sh s own t key) refl
    where
      met : (p : ℕ) → change_judged sh s own t key ≡ Ok p → (fault_of (newer_by (slot_at sh s t) (places_at sh s t key) own) ≡ None) × (current_place (slot_at sh s t) (places_at sh s t key) ≡ Some p)
      met p is =
          let both = judged_ok
          (option_or (fault_of (newer_by (slot_at sh s t) (places_at sh s t key) own)) (cond (is_none (found sh s own t key)) (Some Missing)
          (option_and_then (λ place. freezing_of (block_of place) (body_at sh s t (block_of place)).phase) (current_place (slot_at sh s t) (places_at sh s t key)))))
          (current_place (slot_at sh s t) (places_at sh s t key)) Missing p is in (
            left_none (fault_of (newer_by (slot_at sh s t) (places_at sh s t key) own)) (cond (is_none (found sh s own t key)) (Some Missing)
                (option_and_then (λ place. freezing_of (block_of place) (body_at sh s t (block_of place)).phase) (current_place (slot_at sh s t) (places_at sh s t key)))) both.0,
            both.1,
          )

      go : (r : Result ℕ WriteFault) → change_judged sh s own t key ≡ r
          → write_on q u x (slot_at sh (each_changed (after_change sh s own t choice (change_judged sh s own t key)) (names sh) s) u x) ≡ write_on q u x (slot_at sh s u x)
      go (Err fault) is = subst (λ r. write_on q u x (slot_at sh (each_changed (after_change sh s own t choice r) (names sh) s) u x) ≡ write_on q u x (slot_at sh s u x)) (sym is)
          (same_parts u x)
      go (Ok p) is =
          let spot = change_goes sh s ok own t key p thawed is in
          let here = body_of sh s f.kinds t p spot.filled in
          let clear = met p is in
          subst (λ r. write_on q u x (slot_at sh (each_changed (after_change sh s own t choice r) (names sh) s) u x) ≡ write_on q u x (slot_at sh s u x)) (sym is)
          (written_writes (after_change sh s own t choice (Ok p)) t p own.session (choice (unwrap_or (slot_at sh s t p).row [])) here.0 here.1 here.2 (λ u b x. refl) ne
          (met_none sh s ok own t key p clear.0 (current_among (slot_at sh s t) (places_at sh s t key) p clear.1)) u x)

  -- Another's commit leaves the session's write on each slot.
  commit_writes : (own : OwnTransaction) → q ≢ own.session → (t p : ℕ) → write_on q t p (slot_at sh (each_changed (after_commit sh s own) (names sh) s) t p) ≡ write_on q t p (slot_at sh s t p)
  commit_writes own ne t p = by_body (after_commit sh s own) t p (at (is_some_write own.writes))
    where
      at : (y : Bool)
          → write_on q t p (slot_in ((cond y (committed_in own.session ((desk_at sh s).newest + 1) ((desk_at sh s).commits + 1)) (λ (body : Body). body)) (body_at sh s t (block_of p))) (slot_of p))
          ≡ write_on q t p (slot_at sh s t p)
      at true =
          ap (λ (x : Slot). write_on q t p x) (slot_map (committed own.session ((desk_at sh s).newest + 1) ((desk_at sh s).commits + 1)) refl (body_at sh s t (block_of p)).slots (slot_of p))
          ∙ commit_leaves q t p own.session ((desk_at sh s).newest + 1) ((desk_at sh s).commits + 1) (slot_at sh s t p) ne (ok.follows.1.slots t p).lawful
      at false = refl

  -- Another's abort leaves the session's write on each slot.
  abort_writes : (own : OwnTransaction) → q ≢ own.session → (t p : ℕ) → write_on q t p (slot_at sh (effect sh s (event.Abort own)) t p) ≡ write_on q t p (slot_at sh s t p)
  abort_writes own ne t p = by_body (changes_of sh s (event.Abort own)) t p
      (ap (λ (x : Slot). write_on q t p x) (rolled_slot own.session (desk_at sh s).newest (desk_at sh s).commits (body_at sh s t (block_of p)) (slot_of p) (ok.follows.1.slots t p))
      ∙ roll_back_leaves q t p own.session (slot_at sh s t p) ne (ok.follows.1.slots t p).lawful)

  -- a pruning leaves a slot's writer, and with it the key
  pruned_write : (oldest t p : ℕ) → write_on q t p (pruned oldest (slot_at sh s t p)) ≡ write_on q t p (slot_at sh s t p)
  pruned_write oldest t p = go (writer_of (slot_at sh s t p).entries) refl
    where
      writer : writer_of (pruned oldest (slot_at sh s t p)).entries ≡ writer_of (slot_at sh s t p).entries
      writer = pruned_writer oldest (slot_at sh s t p).entries (ok.follows.1.slots t p).lawful

      go : (o : Option ℕ) → writer_of (slot_at sh s t p).entries ≡ o → write_on q t p (pruned oldest (slot_at sh s t p)) ≡ write_on q t p (slot_at sh s t p)
      go None is =
          no_write q t p (pruned oldest (slot_at sh s t p)) (ap (is_writer q) (writer ∙ is))
          ∙ sym (no_write q t p (slot_at sh s t p) (ap (is_writer q) is))
      go (Some w) is =
          let filled = writer_filled (slot_at sh s t p) w is in
          let listed = ok.follows.1.index.listed t p filled in
          let keyed = ok.follows.1.index.keyed t p listed.0 listed.1 in
          let before : slot_key (slot_at sh s t p).row (slot_at sh s t p).entries ≡ Some listed.0 = slot_key_is listed.0 (slot_at sh s t p) keyed filled in
          let after : slot_key (pruned oldest (slot_at sh s t p)).row (pruned oldest (slot_at sh s t p)).entries ≡ Some listed.0 =
          slot_key_is listed.0 (pruned oldest (slot_at sh s t p))
          (pruned_keyed listed.0 oldest (slot_at sh s t p).row (slot_at sh s t p).entries (ok.follows.1.slots t p).lawful keyed)
          (writer_filled (pruned oldest (slot_at sh s t p)) w (writer ∙ is)) in
          ap (λ o. cond (is_writer q o) (option_map (write_of t p) (slot_key (pruned oldest (slot_at sh s t p)).row (pruned oldest (slot_at sh s t p)).entries)) None) writer
          ∙ ap (λ k. cond (is_writer q (writer_of (slot_at sh s t p).entries)) (option_map (write_of t p) k) None) (after ∙ sym before)

  -- A pruning leaves the session's write on each slot.
  prune_writes : (t b oldest : ℕ) → (u p : ℕ) → write_on q u p (slot_at sh (effect sh s (event.Prune t b oldest)) u p) ≡ write_on q u p (slot_at sh s u p)
  prune_writes t b oldest u p = by_body (changes_of sh s (event.Prune t b oldest)) u p
      (at_one t b (pruned_in oldest) u (block_of p) (body_at sh s u (block_of p)) (slot_of p) p
      (ap (λ (x : Slot). write_on q u p x) (slot_map (pruned oldest) refl (body_at sh s u (block_of p)).slots (slot_of p))
      ∙ pruned_write oldest u p))

  -- A change of a body that leaves its slots leaves the session's write on each.
  phase_writes : (t b : ℕ) (g : Body → Body) → ((x : Body) (j : ℕ) → slot_in (g x) j ≡ slot_in x j)
      → (u p : ℕ) → write_on q u p (slot_at sh (each_changed (record nothing { body = at_both t b g }) (names sh) s) u p) ≡ write_on q u p (slot_at sh s u p)
  phase_writes t b g same u p = by_body (record nothing { body = at_both t b g }) u p
      (at_one t b g u (block_of p) (body_at sh s u (block_of p)) (slot_of p) p (ap (λ (y : Slot). write_on q u p y) (same (body_at sh s u (block_of p)) (slot_of p))))

  -- A seal leaves the session's write on each slot.
  seal_writes : (t b : ℕ) → (u p : ℕ) → write_on q u p (slot_at sh (effect sh s (event.Seal t b)) u p) ≡ write_on q u p (slot_at sh s u p)
  seal_writes t b u p = go (is_none (seal_fault (is_head sh s t b) (body_at sh s t b)))
    where
      go : (y : Bool) → write_on q u p (slot_at sh (each_changed (cond y (record nothing { body = at_both t b sealed }) nothing) (names sh) s) u p) ≡ write_on q u p (slot_at sh s u p)
      go true = phase_writes t b sealed (λ x j. refl) u p
      go false = same_parts u p

  -- sessions whose names differ differ
  other : (r : ℕ) → (Some r ≢ Some q) → q ≢ r
  other r ne e = ne (ap Some (sym e))

  -- A lawful event of none or of another session leaves the session's write on each slot.
  event_writes : (e : CoreEvent) → IsLawful sh e s → session_of e ≢ Some q → (t p : ℕ) → write_on q t p (slot_at sh (effect sh s e) t p) ≡ write_on q t p (slot_at sh s t p)
  event_writes (event.Begin r) lawful ne = λ t p. by_body (changes_of sh s (event.Begin r)) t p refl
  event_writes (event.Get own t key) lawful ne = same_parts
  event_writes (event.Insert own t row) lawful ne = insert_writes own t row lawful (other own.session ne)
  event_writes (event.Update own t row) lawful ne = change_writes own t (key_of row) (λ old. change.Patch (differences 0 old row)) lawful.1.2 (other own.session ne)
  event_writes (event.Delete own t key) lawful ne = change_writes own t key (λ old. change.Gone) lawful.1.1 (other own.session ne)
  event_writes (event.Read own t b) lawful ne = same_parts
  event_writes (event.Range own t low high) lawful ne = same_parts
  event_writes (event.Commit own reads) lawful ne = judged (stale_in sh s own reads)
    where
      judged : (found : Option (Read × ℕ)) (t p : ℕ) → write_on q t p (slot_at sh (each_changed (after_judged sh s own found) (names sh) s) t p) ≡ write_on q t p (slot_at sh s t p)
      judged None = commit_writes own (other own.session ne)
      judged (Some stale) = same_parts
  event_writes (event.Abort own) lawful ne = abort_writes own (other own.session ne)
  event_writes event.Oldest lawful ne = same_parts
  event_writes (event.Observe t b) lawful ne = phase_writes t b (observed (is_head sh s t b)) (λ x j. refl)
  event_writes (event.Prune t b oldest) lawful ne = prune_writes t b oldest
  event_writes (event.Look t b) lawful ne = same_parts
  event_writes (event.Move t moves) lawful ne = move_writes sh s ok q t moves lawful
  event_writes (event.Seal t b) lawful ne = seal_writes t b
  event_writes (event.Image t b image) lawful ne = phase_writes t b imaged (λ x j. refl)
  event_writes (event.Thaw t b) lawful ne = phase_writes t b thawed (λ x j. refl)

  -- ---- the snapshot

  -- An insert, made or refused, leaves the session's snapshot.
  insert_snapshot : (own : OwnKey) (t : ℕ) (row : Row) (r : Result ℕ WriteFault) → snapshot_of ((after_insert sh s own t row r).desk (desk_at sh s)) q ≡ snapshot_of (desk_at sh s) q
  insert_snapshot own t row (Err fault) = refl
  insert_snapshot own t row (Ok p) = refl

  -- An update or a delete, made or refused, leaves the session's snapshot.
  change_snapshot : (own : OwnKey) (t : ℕ) (choice : Row → Change) (r : Result ℕ WriteFault) → snapshot_of ((after_change sh s own t choice r).desk (desk_at sh s)) q ≡ snapshot_of (desk_at sh s) q
  change_snapshot own t choice (Err fault) = refl
  change_snapshot own t choice (Ok p) = refl

  -- A move leaves the session's snapshot.
  move_snapshot : (t : ℕ) (pairs : List MovePair) → snapshot_of ((after_move sh s t pairs).desk (desk_at sh s)) q ≡ snapshot_of (desk_at sh s) q
  move_snapshot t [] = refl
  move_snapshot t (first ∷ rest) = refl

  -- A seal, be it made or not, leaves the session's snapshot.
  seal_snapshot : (y : Bool) (t b : ℕ) → snapshot_of ((cond y (record nothing { body = at_both t b sealed }) nothing).desk (desk_at sh s)) q ≡ snapshot_of (desk_at sh s) q
  seal_snapshot true t b = refl
  seal_snapshot false t b = refl

  -- A commit's number, be it taken or not, leaves the session's snapshot.
  commit_snapshot : (writes : PlaceMap ℕ) (wrote : Bool) → snapshot_of (cond wrote (numbered writes (desk_at sh s)) (desk_at sh s)) q ≡ snapshot_of (desk_at sh s) q
  commit_snapshot writes true = refl
  commit_snapshot writes false = refl

  -- A lawful event of none or of another session leaves the session's snapshot.
  event_snapshot : (e : CoreEvent) → 1 ≤ q → IsLawful sh e s → session_of e ≢ Some q → snapshot_of ((changes_of sh s e).desk (desk_at sh s)) q ≡ snapshot_of (desk_at sh s) q
  event_snapshot (event.Begin r) some lawful ne = opened_other r q (desk_at sh s) lawful.0.0.0 some (other r ne)
  event_snapshot (event.Get own t key) some lawful ne = refl
  event_snapshot (event.Insert own t row) some lawful ne = insert_snapshot own t row (insert_judged sh s own t (key_of row))
  event_snapshot (event.Update own t row) some lawful ne = change_snapshot own t (λ old. change.Patch (differences 0 old row)) (change_judged sh s own t (key_of row))
  event_snapshot (event.Delete own t key) some lawful ne = change_snapshot own t (λ old. change.Gone) (change_judged sh s own t key)
  event_snapshot (event.Read own t b) some lawful ne = refl
  event_snapshot (event.Range own t low high) some lawful ne = refl
  event_snapshot (event.Commit own reads) some lawful ne = judged (stale_in sh s own reads)
    where
      judged : (found : Option (Read × ℕ)) → snapshot_of ((after_judged sh s own found).desk (desk_at sh s)) q ≡ snapshot_of (desk_at sh s) q
      judged None =
          closed_other own.session q (cond (is_some_write own.writes) (numbered own.writes (desk_at sh s)) (desk_at sh s)) lawful.0.0.0 some (other own.session ne)
          ∙ commit_snapshot own.writes (is_some_write own.writes)
      judged (Some stale) = refl
  event_snapshot (event.Abort own) some lawful ne = closed_other own.session q (desk_at sh s) lawful.0.0.0 some (other own.session ne)
  event_snapshot event.Oldest some lawful ne = refl
  event_snapshot (event.Observe t b) some lawful ne = refl
  event_snapshot (event.Prune t b oldest) some lawful ne = refl
  event_snapshot (event.Look t b) some lawful ne = refl
  event_snapshot (event.Move t moves) some lawful ne = move_snapshot t (held_pairs sh s t moves)
  event_snapshot (event.Seal t b) some lawful ne = seal_snapshot (is_none (seal_fault (is_head sh s t b) (body_at sh s t b))) t b
  event_snapshot (event.Image t b image) some lawful ne = refl
  event_snapshot (event.Thaw t b) some lawful ne = refl

  -- an event leaves another session's transaction, whichever it is
  pub event_leaves : (e : CoreEvent) → 1 ≤ q → IsLawful sh e s → session_of e ≢ Some q → transaction sh (effect sh s e) q ≡ transaction sh s q
  event_leaves e some lawful ne =
      transaction_is sh (effect sh s e) q some
      ∙ ap (λ writes. option_map (open_with writes) (snapshot_of (desk_at sh (effect sh s e)) q)) (writes_same sh s (effect sh s e) q (event_writes e lawful ne))
      ∙ ap (option_map (open_with (writes_of sh s q)))
      (ap (λ (desk : DeskState). snapshot_of desk q) (desk_at_after sh s (changes_of sh s e) f.desk.0 f.desk.1) ∙ event_snapshot e some lawful ne)
      ∙ sym (transaction_is sh s q some)

-- A lawful event leaves the transaction of every session but its own.
pub leaves : Leaves
leaves sh e s zero shape ok lawful ne = refl
leaves sh e s (suc n) shape ok lawful ne = event_leaves sh s shape ok (suc n) e (omega arith) lawful ne
