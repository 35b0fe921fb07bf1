-- A roll-back and a pruning: blocks that become empty are the head's again.
use Rattle.std.proofs.Common.{◌≡◌, ◌⊎◌, ℕ, ◌<◌, ◌≤◌, ◌^◌, Bool, true, false, cond, not, ◌&&◌, ◌||◌, List, [], ◌∷◌, map, length, get_or, refl, sym, ap, ◌∙◌, subst, arith}
use mathlib.Core.Logic.{inl, inr}
use Rattle.std.specs.Prelude.{filter}
use Rattle.std.specs.List.{list_all, list_any}
use Rattle.std.proofs.lemmas.List.Elements.{All-map, All-nil}
use Rattle.std.proofs.lemmas.Bool.{cases_Bool}
use Rattle.block_layout.specs.Place.{place_of, block_of}
use Rattle.block_spec.specs.Bodies.{Body, is_empty, is_loose, is_writer, is_written_by, modified, pruned_in, rolled_back_in, slot_in}
use Rattle.block_spec.specs.declared.change.Before.{Before}
use Rattle.block_spec.specs.Slots.{Slot, bare, has_none, is_bare, pruned, rolled_back, writer_of}
use Rattle.core_laws.proofs.Events.Aborted.{rolled_slot}
use Rattle.core_laws.proofs.Events.Heads.{all_bare, block_is, slot_is}
use Rattle.core_laws.proofs.Events.States.{slot_map}
use Rattle.event_spec.specs.Effects.{with_empty}
use Rattle.event_spec.specs.Lawful.{HasTable, HasBlock}
use Rattle.event_spec.specs.Parts.{Parts, Shape, Changes, head_at, body_at, desk_at, blocks_of, slots_of}
use Rattle.event_spec.specs.Replay.{columns_in}
use Rattle.event_spec.specs.SlotSound.{IsOfSession, IsSoundSlot}
use Rattle.event_spec.specs.Sound.{BodyHolds, HeadHolds, IsShape, Sound}
use Rattle.core_laws.proofs.Slots.Kept.{bare_is}
use Rattle.core_laws.proofs.Sound.Bodies.{true_false}
use Rattle.core_laws.proofs.Sound.Calm.{all_index, index_all}
use Rattle.core_laws.proofs.Sound.Fits.{pruned_fit, rolled_fit}
use Rattle.core_laws.proofs.Sound.Held.{SlotFits, map_holds, modified_holds}
use Rattle.core_laws.proofs.Sound.Kept.{HeadAfter}
use Rattle.core_laws.specs.Sound.Shaped.{Shaped}
use Rattle.undo_chain.proofs.Order.{IsLawful-nil}
use Rattle.undo_chain.specs.declared.undo.Undo.{Undo}
use Rattle.undo_chain.specs.Entry.{is_stamped_by}
use Rattle.undo_chain.specs.Lawful.{IsLawful, IsStampedUpTo}

-- the head where blocks may have become empty
pub emptied_head : (sh : Shape) (s : Parts) (ok : Shaped sh s) (c : Changes) (t : ℕ) → HasTable sh t
    → ((j : ℕ) → is_bare (slot_in (body_at sh s t (head_at sh s t).block) j) ≡ true → is_bare (slot_in (c.body t (head_at sh s t).block (body_at sh s t (head_at sh s t).block)) j) ≡ true)
    → is_loose (c.body t (head_at sh s t).block (body_at sh s t (head_at sh s t).block)).phase ≡ true
    → HeadAfter sh s ok c t (with_empty (blocks_of sh t) (λ b. is_empty (c.body t b (body_at sh s t b))) (head_at sh s t))
emptied_head sh s ok c t has bares loose = record {
  block = old.block;
  taken = few (is_empty now);
  unused = unused (is_empty now) refl;
  loose = loose;
  anew = λ e. ap (λ b. cond b 0 (head_at sh s t).taken) e;
  empty = refl;
}
  where
    old : HeadHolds sh s t
    old = ok.heads t has

    now : Body
    now = c.body t (head_at sh s t).block (body_at sh s t (head_at sh s t).block)

    few : (b : Bool) → cond b 0 (head_at sh s t).taken ≤ slots_of sh t
    few true = omega arith
    few false = (ok.heads t has).taken

    unused : (b : Bool) → is_empty (c.body t (head_at sh s t).block (body_at sh s t (head_at sh s t).block)) ≡ b → (j : ℕ)
        → cond (is_empty (c.body t (head_at sh s t).block (body_at sh s t (head_at sh s t).block))) 0 (head_at sh s t).taken ≤ j
        → is_bare (slot_in (c.body t (head_at sh s t).block (body_at sh s t (head_at sh s t).block)) j) ≡ true
    unused true is j le = all_bare (c.body t (head_at sh s t).block (body_at sh s t (head_at sh s t).block)).slots j is
    unused false is j le = bares j ((ok.heads t has).unused j (subst (λ b. cond b 0 (head_at sh s t).taken ≤ j) is le))

-- ---- lawful slots of a sound state

-- the slots of a sound state's blocks are sound
pub slots_lawful : (sh : Shape) (s : Parts) → IsShape sh → (ok : Sound sh s) → (t b : ℕ) → HasBlock sh t b → (j : ℕ) → j < length (body_at sh s t b).slots
    → IsSoundSlot (desk_at sh s).newest (desk_at sh s).commits (slot_in (body_at sh s t b) j)
slots_lawful sh s shape ok t b has j less =
    let w = (shape.slots t has.0).1 in let size = (ok.bodies t b has).slots in
    let small : j < 2 ^ 20 = omega (arith, w, size, less) in
    let here = ok.follows.1.slots t (place_of b j) in
    subst (λ x. IsSoundSlot (desk_at sh s).newest (desk_at sh s).commits (slot_in (body_at sh s t x) j)) (block_is b j small)
    (subst (λ i. IsSoundSlot (desk_at sh s).newest (desk_at sh s).commits (slot_in (body_at sh s t (block_of (place_of b j))) i)) (slot_is b j small) here)

-- A bare slot is sound at any stamp and number.
sound_bare : (newest commits : ℕ) → IsSoundSlot newest commits bare
sound_bare newest commits = record {
  lawful = IsLawful-nil;
  stamps = All-nil (IsStampedUpTo {D = Before} newest);
  numbers = All-nil (λ (undo : Undo Before). undo.number ≤ commits);
  sessions = All-nil IsOfSession;
}

-- ---- a roll-back of a body

-- a roll-back leaves a bare slot bare
pub rolled_bare : (q : ℕ) (body : Body) (j : ℕ) → is_bare (slot_in body j) ≡ true → is_bare (slot_in (rolled_back_in q body) j) ≡ true
rolled_bare q body j is =
    let none : slot_in body j ≡ bare = bare_is (slot_in body j) is in
    ap is_bare (rolled_slot q 0 0 body j (subst (IsSoundSlot 0 0) (sym none) (sound_bare 0 0))) ∙ ap (λ x. is_bare (rolled_back q x)) none

-- in slots without entries nobody is a writer
pub unwritten : (q : ℕ) (slots : List Slot) → list_all (λ slot. has_none slot.entries) slots ≡ true → list_any (λ slot. is_writer q (writer_of slot.entries)) slots ≡ false
unwritten q [] is = refl
unwritten q (x ∷ slots) is = go x.entries refl is (unwritten q slots)
  where
    go : (es : List (Undo Before)) → x.entries ≡ es → (has_none x.entries && list_all (λ slot. has_none slot.entries) slots) ≡ true
        → (list_all (λ slot. has_none slot.entries) slots ≡ true → list_any (λ slot. is_writer q (writer_of slot.entries)) slots ≡ false)
        → (is_writer q (writer_of x.entries) || list_any (λ slot. is_writer q (writer_of slot.entries)) slots) ≡ false
    go [] e is rest =
        ap (λ es. is_writer q (writer_of es) || list_any (λ slot. is_writer q (writer_of slot.entries)) slots) e
        ∙ rest (sym (ap (λ es. has_none es && list_all (λ slot. has_none slot.entries) slots) e) ∙ is)
    go (y ∷ ys) e is rest = absurd (true_false (sym (sym (ap (λ es. has_none es && list_all (λ slot. has_none slot.entries) slots) e) ∙ is)))

-- a roll-back leaves a body's phase
pub rolled_phase : (q : ℕ) (body : Body) → (rolled_back_in q body).phase ≡ body.phase
rolled_phase q body = go (is_written_by q body)
  where
    go : (b : Bool) → (cond b (record (modified body) { slots = map (rolled_back q) body.slots }) body).phase ≡ body.phase
    go true = refl
    go false = refl

-- a roll-back makes no body cooling
pub rolled_cooling : (q : ℕ) (body : Body) → (rolled_back_in q body).cooling ≡ true → body.cooling ≡ true
rolled_cooling q body = go (is_written_by q body)
  where
    go : (b : Bool) → (cond b (record (modified body) { slots = map (rolled_back q) body.slots }) body).cooling ≡ true → body.cooling ≡ true
    go true is = absurd (true_false (sym is))
    go false is = is

-- a roll-back keeps what holds of a body
pub rolled_holds : (sh : Shape) (t : ℕ) (q : ℕ) (body : Body) → BodyHolds sh t body → ((j : ℕ) → j < length body.slots → IsLawful (slot_in body j).entries)
    → BodyHolds sh t (rolled_back_in q body)
rolled_holds sh t q body old lawful = go (is_written_by q body) refl
  where
    go : (b : Bool) → is_written_by q body ≡ b → BodyHolds sh t (cond (is_written_by q body) (record (modified body) { slots = map (rolled_back q) body.slots }) body)
    go false is = subst (λ b. BodyHolds sh t (cond b (record (modified body) { slots = map (rolled_back q) body.slots }) body)) (sym is) old
    go true is =
        subst (λ b. BodyHolds sh t (cond b (record (modified body) { slots = map (rolled_back q) body.slots }) body)) (sym is)
        (modified_holds sh t body old (rolled_back q) (loose (cases_Bool (is_loose body.phase)))
        (All-map (SlotFits sh t) (rolled_back q) body.slots (all_index (λ slot. SlotFits sh t (rolled_back q slot)) body.slots bare (λ j less.
        rolled_fit (columns_in sh t) q (get_or body.slots j bare).row (get_or body.slots j bare).entries (lawful j less) (index_all (SlotFits sh t) body.slots bare j tt old.versions)))))
      where
        loose : (is_loose body.phase ≡ true) ⊎ (is_loose body.phase ≡ false) → is_loose body.phase ≡ true
        loose (inl l) = l
        loose (inr l) = absurd (true_false (sym is ∙ unwritten q body.slots (old.quiet l)))

-- ---- a pruning of a body

-- A pruning of no entries leaves none.
no_entry : (oldest : ℕ) (es : List (Undo Before)) → has_none es ≡ true → has_none (filter (λ undo. not (is_stamped_by undo oldest)) es) ≡ true
no_entry oldest [] is = refl
no_entry oldest (e ∷ es) is = cc

-- a pruning leaves a bare slot bare
pub pruned_bare : (oldest : ℕ) (body : Body) (j : ℕ) → is_bare (slot_in body j) ≡ true → is_bare (slot_in (pruned_in oldest body) j) ≡ true
pruned_bare oldest body j is = ap is_bare (slot_map (pruned oldest) refl body.slots j) ∙ ap (λ x. is_bare (pruned oldest x)) (bare_is (slot_in body j) is)

-- a pruning keeps what holds of a body
pub pruned_holds : (sh : Shape) (t : ℕ) (oldest : ℕ) (body : Body) → BodyHolds sh t body → ((j : ℕ) → j < length body.slots → IsLawful (slot_in body j).entries)
    → BodyHolds sh t (pruned_in oldest body)
pruned_holds sh t oldest body old lawful =
    map_holds sh t body old (pruned oldest) (λ slot. refl) (λ slot is. no_entry oldest slot.entries is)
    (All-map (SlotFits sh t) (pruned oldest) body.slots (all_index (λ slot. SlotFits sh t (pruned oldest slot)) body.slots bare (λ j less.
    pruned_fit (columns_in sh t) oldest (get_or body.slots j bare).row (get_or body.slots j bare).entries (lawful j less) (index_all (SlotFits sh t) body.slots bare j tt old.versions))))
