-- The two halves of a move.
use Rattle.std.proofs.Common.{[], ◌≡◌, ℕ, ◌<◌, ◌≤◌, true, false, fold, ◌∷◌, Option, None, Some, sym, ap, arith, subst}
use Rattle.std.proofs.lemmas.Bool.Decides.{nat_tests}
use Rattle.std.proofs.lemmas.List.Elements.{All-nil, All-cons, All-weaker}
use Rattle.std.specs.Prelude.{IfSome, IfNone}
use Rattle.undo_chain.specs.declared.undo.Undo.{Undo}
use Rattle.undo_chain.specs.Entry.{is_at_most, is_move}
use Rattle.undo_chain.specs.Lawful.{IsLawful, MayStandAbove, IsStampedUpTo}
use Rattle.undo_chain.proofs.Order.{IsLawful-nil, IsLawful-cons}
use Rattle.undo_chain.proofs.Views.{images_passed, images_at_view}
use Rattle.block_spec.specs.Slots.{Slot, Row, moved_out, moved_in, seen, bare, laid_back}
use Rattle.block_spec.specs.declared.change.Before.{Before}
use Rattle.block_spec.specs.declared.change.Before.TheVariants.{Whole, Empty}
use Rattle.core_laws.specs.Slots.Laws.{plain}
use Rattle.event_spec.specs.SlotSound.{IsSoundSlot, IsOfSession}
use Rattle.undo_chain.specs.declared.undo.UndoKind.TheVariants as kind

-- A stamp above a snapshot's is not seen by the snapshot.
not_yet : (S s : ℕ) → s < S → is_at_most (Some S) s ≡ false
not_yet S s lt = grind (arith, nat_tests)

-- the entry that a row leaves where it moves out
abbrev pub out_entry : ℕ → Row → Undo Before
out_entry S row = record { session = 0; stamp = Some S; number = 0; kind = kind.MoveOut; before = Whole row }

-- and the one that it gets where it moves in
abbrev pub in_entry : ℕ → Undo Before
in_entry S = record { session = 0; stamp = Some S; number = 0; kind = kind.MoveIn; before = Empty }

-- Before the move's stamp each half shows what the slot showed before it.
pub out_view : (S s q : ℕ) (row : Row) → s < S → seen (moved_out S row (plain row)) s q ≡ Some row
out_view S s q row lt = ap (λ images. fold laid_back None images) (images_passed (out_entry S row) [] s q (not_yet S s lt))

-- before the move's stamp no row is seen where it moves in
pub in_view : (S s q : ℕ) (row : Row) → s < S → seen (moved_in S row bare) s q ≡ None
in_view S s q row lt = ap (λ images. fold laid_back (Some row) images) (images_passed (in_entry S) [] s q (not_yet S s lt))

-- From it on, what is there now.
at_stamp : (S s : ℕ) → S ≤ s → is_at_most (Some S) s ≡ true
at_stamp S s le = grind (arith, nat_tests)

-- from the stamp on none is seen where it moved out
pub out_gone : (S s q : ℕ) (row : Row) → S ≤ s → seen (moved_out S row (plain row)) s q ≡ None
out_gone S s q row le = ap (λ images. fold laid_back None images) (images_at_view (out_entry S row) [] s q (at_stamp S s le))

-- but the row is, where it moved in
pub in_there : (S s q : ℕ) (row : Row) → S ≤ s → seen (moved_in S row bare) s q ≡ Some row
in_there S s q row le = ap (λ images. fold laid_back (Some row) images) (images_at_view (in_entry S) [] s q (at_stamp S s le))

-- A single entry that has a stamp is a lawful chain.
one_entry : (e : Undo Before) (stamp : ℕ) → e.stamp ≡ Some stamp → IsLawful (e ∷ [])
one_entry e stamp is = IsLawful-cons e [] (subst (λ (o : Option ℕ). IfNone o (is_move e.kind ≡ false)) (sym is) tt) (All-nil (MayStandAbove e)) IsLawful-nil

-- a slot with one entry, which has the newest stamp and no number, is sound
pub sound_one : (S commits : ℕ) (row : Option Row) (e : Undo Before) → e.stamp ≡ Some S → e.number ≡ 0 → IsSoundSlot S commits (record { row = row; entries = e ∷ [] })
sound_one S commits row e is n = record {
  lawful = one_entry e S is;
  stamps = All-cons (IsStampedUpTo S) e [] (subst (λ (o : Option ℕ). IfSome o (λ x. x ≤ S)) (sym is) (omega arith)) (All-nil (IsStampedUpTo S));
  numbers = All-cons (λ undo. undo.number ≤ commits) e [] (omega (arith, n)) (All-nil (λ (undo : Undo Before). undo.number ≤ commits));
  sessions = All-cons IsOfSession e [] (subst (λ (o : Option ℕ). IfNone o (1 ≤ e.session)) (sym is) tt) (All-nil IsOfSession);
}

-- a slot stays sound where stamps go on
pub sound_later : (newest S commits : ℕ) (slot : Slot) → newest ≤ S → IsSoundSlot newest commits slot → IsSoundSlot S commits slot
sound_later newest S commits slot le ok = record {
  lawful = ok.lawful;
  stamps = All-weaker (IsStampedUpTo newest) (IsStampedUpTo S) (λ u. more u.stamp) slot.entries ok.stamps;
  numbers = ok.numbers;
  sessions = ok.sessions;
}
  where
    more : (a : Option ℕ) → IfSome a (λ x. x ≤ newest) → IfSome a (λ x. x ≤ S)
    more None u = tt
    more (Some x) u = omega arith
