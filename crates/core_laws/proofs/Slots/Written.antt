-- A write keeps a slot sound.
use Rattle.std.proofs.Common.{[], ◌≡◌, ℕ, ◌≤◌, false, cond, List, ◌∷◌, Option, None, Some, is_none, refl, sym, ap, arith, subst}
use Rattle.std.specs.Prelude.{IfNone}
use Rattle.std.proofs.lemmas.List.Elements.{All-nil, All-cons}
use Rattle.undo_chain.specs.declared.undo.Undo.{Undo}
use Rattle.undo_chain.specs.Entry.{is_move}
use Rattle.undo_chain.specs.Lawful.{IsLawful, MayStandAbove, IsStampedUpTo}
use Rattle.undo_chain.proofs.Order.{IsLawful-cons, IsLawful-next}
use Rattle.block_spec.specs.Slots.{Slot, writer_of, written, image_before, kind_of}
use Rattle.block_spec.specs.declared.change.Before.{Before}
use Rattle.block_spec.specs.declared.change.Change.{Change}
use Rattle.block_spec.specs.declared.change.Change.TheVariants.{Put, Gone}
use Rattle.event_spec.specs.SlotSound.{IsSoundSlot, IsOfSession}
use Rattle.block_spec.specs.declared.change.Change.TheVariants as change

-- the entry of a write
abbrev entry : ℕ → Change → Slot → Undo Before
entry q change slot = record { session = q; stamp = None; number = 0; kind = kind_of change; before = image_before slot.row change }

-- The kind of a write is none of a move.
write_kind : (change : Change) → is_move (kind_of change) ≡ false
write_kind (Put row) = refl
write_kind (change.Patch patch) = refl
write_kind Gone = refl

-- a session may write where no other session's entry stands
pub lawful_written : (q : ℕ) (change : Change) (slot : Slot) → IsLawful slot.entries → ((w : ℕ) → writer_of slot.entries ≡ Some w → w ≡ q) → IsLawful (written q change slot).entries
lawful_written q change slot lawful mine = go slot.entries lawful mine
  where
    go : (es : List (Undo Before)) → IsLawful es → ((w : ℕ) → writer_of es ≡ Some w → w ≡ q) → IsLawful (entry q change slot ∷ es)
    go [] l own = IsLawful-cons (entry q change slot) [] (write_kind change) (All-nil (MayStandAbove (entry q change slot))) l
    go (e ∷ es) l own = IsLawful-next (entry q change slot) e es (write_kind change) (above e.stamp refl) l
      where
        above : (stamp : Option ℕ) → e.stamp ≡ stamp → IfNone e.stamp (q ≡ e.session)
        above None is = subst (λ (s : Option ℕ). IfNone s (q ≡ e.session)) (sym is) (sym (own e.session (ap (λ o. cond (is_none o) (Some e.session) None) is)))
        above (Some x) is = subst (λ (s : Option ℕ). IfNone s (q ≡ e.session)) (sym is) tt

-- A write keeps a slot sound where no other session is the writer.
pub sound_written : (q newest commits : ℕ) (change : Change) (slot : Slot) → 1 ≤ q → ((w : ℕ) → writer_of slot.entries ≡ Some w → w ≡ q) → IsSoundSlot newest commits slot → IsSoundSlot newest commits (written q change slot)
sound_written q newest commits change slot pass mine ok = record {
  lawful = lawful_written q change slot ok.lawful mine;
  stamps = All-cons (IsStampedUpTo newest) (entry q change slot) slot.entries tt ok.stamps;
  numbers = All-cons (λ undo. undo.number ≤ commits) (entry q change slot) slot.entries (omega arith) ok.numbers;
  sessions = All-cons IsOfSession (entry q change slot) slot.entries pass ok.sessions;
}

-- places are one where tables and keys are
