-- A session's write and the halves of a move as changes of a slot, and a change that is taken back.
use Rattle.std.proofs.Common.{◌≡◌, ◌∙◌, ℕ, ◌<◌, ◌≤◌, Bool, true, false, not, ◌&&◌, cond, List, [], ◌∷◌, Option, None, Some, option_map, length, get_or, refl, sym, ap, subst, ⊎_elim}
use Rattle.std.specs.Prelude.{◌↔◌, IsTrue, IsSome, slice_set, filter, is_none, is_some}
use Rattle.std.proofs.lemmas.Bool.{cases_lt}
use Rattle.std.proofs.lemmas.List.{get_or-set_same, get_or_past, set-set, set-get_or}
use Rattle.isolation_spec.specs.Contents.{key_of}
use Rattle.block_spec.specs.declared.change.Before.{Before}
use Rattle.block_spec.specs.declared.change.Change.TheVariants as change
use Rattle.block_spec.specs.Slots.{Row, Slot, bare, is_bare, has_none, image_before, laid_back, taken_back}
use Rattle.block_spec.specs.Bodies.{Body as BodyValue, slot_in, with_slot}
use Rattle.undo_chain.specs.declared.undo.Undo.{Undo}
use Rattle.undo_chain.specs.Entry.{is_stamped_by}
use Rattle.undo_chain.specs.Lawful.{IsLawful}
use Rattle.undo_chain.proofs.Order.{all_stamped}
use Rattle.block_body.specs.declared.origin.Origin.{Origin}
use Rattle.block_body.specs.Changes.{changed, key_left}
use Rattle.block_body.specs.Slots.{slot_of}
use Rattle.block_body.proofs.After.{all_dropped}

-- a bare slot has no row
pub bare_row : (s : Slot) → is_bare s ≡ true → s.row ≡ None
bare_row s is = go s.row (has_none s.entries) is
  where
    go : (o : Option Row) (b : Bool) → (is_none o && b) ≡ true → o ≡ None
    go None b is = refl
    go (Some r) b is = cc

-- and no entry
pub bare_entries : (s : Slot) → is_bare s ≡ true → has_none s.entries ≡ true
bare_entries s is = go (is_none s.row) (has_none s.entries) is
  where
    go : (a b : Bool) → (a && b) ≡ true → b ≡ true
    go true b is = is
    go false b is = cc

-- a slot with a row is one of the body's
pub some_within : (slots : List Slot) (j : ℕ) → is_some (get_or slots j bare).row ≡ true → j < length slots
some_within slots j some = ⊎_elim (λ lt. lt) past (cases_lt j (length slots))
  where
    past : length slots ≤ j → j < length slots
    past le = let never : false ≡ true = ap (λ (s : Slot). is_some s.row) (sym (get_or_past slots j bare le)) ∙ some in cc

-- a row that was taken away is laid back
gone_back : (row : Option Row) → is_some row ≡ true → laid_back None (image_before row change.Gone) ≡ row
gone_back None some = cc
gone_back (Some row) some = refl

module _ (old one : BodyValue) (slot : ℕ) (by : Origin) (some : is_some (slot_in old slot).row ≡ true) (one_is : one ≡ with_slot slot (changed by change.Gone) old) where
  -- The slot is as it was with its row taken away.
  slot_now : slot_in one slot ≡ changed by change.Gone (slot_in old slot)
  slot_now =
      ap (λ (b : BodyValue). slot_in b slot) one_is
      ∙ get_or-set_same old.slots slot (changed by change.Gone (slot_in old slot)) bare (some_within old.slots slot some)

  -- it has an entry
  pub entry_there : has_none (slot_in one slot).entries ≡ false
  entry_there = ap (λ (s : Slot). has_none s.entries) slot_now

  -- and taken back it has the row that it had
  pub row_kept : (taken_back (slot_in one slot)).row ≡ (slot_in old slot).row
  row_kept = ap (λ (s : Slot). (taken_back s).row) slot_now ∙ gone_back (slot_in old slot).row some

  -- the change is taken back, and the body is as it was
  pub undone_gone : (two : BodyValue) → two ≡ with_slot slot taken_back one → (cooling : Bool) (rounds : ℕ) → cooling ≡ old.cooling → rounds ≡ old.rounds →
      record two { cooling = cooling; rounds = rounds } ≡ old
  undone_gone two two_is cooling rounds cooling_is rounds_is =
      let x : Slot = changed by change.Gone (slot_in old slot) in
      ap (λ (b : BodyValue). record b { cooling = cooling; rounds = rounds }) two_is
      ∙ ap (λ (s : Slot). record one { slots = slice_set one.slots slot (taken_back s); cooling = cooling; rounds = rounds }) slot_now
      ∙ ap (λ (b : BodyValue). record b { slots = slice_set b.slots slot (taken_back (changed by change.Gone (slot_in old slot))); cooling = cooling; rounds = rounds }) one_is
      ∙ ap (λ (l : List Slot). record old { slots = l; cooling = cooling; rounds = rounds })
      (set-set old.slots slot (changed by change.Gone (slot_in old slot)) (taken_back (changed by change.Gone (slot_in old slot)))
      ∙ ap (λ (r : Option Row). slice_set old.slots slot (slot_of r (slot_in old slot).entries)) (gone_back (slot_in old slot).row some)
      ∙ set-get_or old.slots slot bare)
      ∙ ap (λ b. record old { cooling = b; rounds = rounds }) cooling_is
      ∙ ap (λ n. record old { rounds = n }) rounds_is

-- ---- what the newest change took away

-- a slot without a row and an entry has no row taken back either
pub taken_none : (s : Slot) → s.row ≡ None → s.entries ≡ [] → None ≡ (taken_back s).row
taken_none s row none =
    let same : s ≡ bare = ap (λ (r : Option Row). slot_of r s.entries) row ∙ ap (slot_of None) none in
    sym (ap (λ (x : Slot). (taken_back x).row) same)

-- a slot without a row has, taken back, what its newest before-image lays back
pub taken_top : (s : Slot) (e : Undo Before) (rest : List (Undo Before)) → s.row ≡ None → s.entries ≡ e ∷ rest → (taken_back s).row ≡ laid_back None e.before
taken_top s e rest row is =
    let same : s ≡ slot_of None (e ∷ rest) = ap (λ (r : Option Row). slot_of r s.entries) row ∙ ap (slot_of None) is in
    ap (λ (x : Slot). (taken_back x).row) same

-- ---- the key that a pruning leaves

-- where it is told that there is no row, there is none
pub no_row_there : (o : Option Row) (has : Bool) → IsTrue has ↔ IsSome o → has ≡ false → o ≡ None
no_row_there None has tells lacks = refl
no_row_there (Some row) has tells lacks = let never : has ≡ true = tells.1 refl in cc

module _ (oldest : ℕ) (s : Slot) where
  -- a slot with a row leaves no key
  pub left_row : is_some s.row ≡ true → None ≡ key_left oldest s
  left_row some = go s.row (is_bare s) some
    where
      either : (b : Bool) → (b && false) ≡ false
      either true = refl
      either false = refl

      go : (row : Option Row) (b : Bool) → is_some row ≡ true →
          None ≡ cond (not b && (is_none row && has_none (filter (λ undo. not (is_stamped_by undo oldest)) s.entries))) (option_map key_of (taken_back s).row) None
      go None b some = cc
      go (Some r) b some = sym (ap (λ b. cond b (option_map key_of (taken_back s).row) None) (either (not b)))

  -- nor does a bare one
  pub left_bare : s.row ≡ None → s.entries ≡ [] → None ≡ key_left oldest s
  left_bare row none =
      let same : s ≡ bare = ap (λ (r : Option Row). slot_of r s.entries) row ∙ ap (slot_of None) none in
      subst (λ (x : Slot). None ≡ key_left oldest x) (sym same) refl

  module _ (e : Undo Before) (rest : List (Undo Before)) (row : s.row ≡ None) (is : s.entries ≡ e ∷ rest) where
    same : s ≡ slot_of None (e ∷ rest)
    same = ap (λ (r : Option Row). slot_of r s.entries) row ∙ ap (slot_of None) is

    -- nor one whose newest entry a pruning keeps
    pub left_newer : is_stamped_by e oldest ≡ false → None ≡ key_left oldest s
    left_newer newer =
        subst (λ (x : Slot). None ≡ key_left oldest x) (sym same)
        (sym (ap (λ b. cond (has_none (cond (not b) (e ∷ filter (λ (undo : Undo Before). not (is_stamped_by undo oldest)) rest) (filter (λ (undo : Undo Before). not (is_stamped_by undo oldest)) rest)))
        (option_map key_of (laid_back None e.before)) None) newer))

    -- One whose newest entry is pruned leaves the key of the row that this took away.
    pub left_key : IsLawful s.entries → is_stamped_by e oldest ≡ true → option_map key_of (taken_back s).row ≡ key_left oldest s
    left_key lawful stamped =
        subst (λ (x : Slot). option_map key_of (taken_back x).row ≡ key_left oldest x) (sym same)
        (sym (ap (λ (l : List (Undo Before)). cond (has_none l) (option_map key_of (laid_back None e.before)) None)
        (all_dropped oldest (e ∷ rest) (all_stamped oldest e rest (subst IsLawful is lawful) stamped))))
