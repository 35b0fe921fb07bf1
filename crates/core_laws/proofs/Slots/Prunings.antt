-- What a pruning does to a slot.
use Rattle.std.proofs.Common.{[], ◌≡◌, ℕ, ◌≤◌, ℤ, Bool, true, false, cond, not, ◌&&◌, List, ◌∷◌, Option, None, Some, is_some, is_none, refl, sym, ap, ◌∙◌, arith, subst, All}
use Rattle.std.specs.Prelude.{filter}
use Rattle.std.proofs.lemmas.Bool.Decides.{nat_tests}
use Rattle.std.proofs.lemmas.List.Elements.{All-head, All-tail, All-filter}
use Rattle.undo_chain.specs.declared.undo.Undo.{Undo}
use Rattle.undo_chain.specs.Entry.{is_stamped_by, is_commit_above, is_at_most, is_move}
use Rattle.undo_chain.specs.Conflict.{numbers_above}
use Rattle.undo_chain.specs.Lawful.{IsLawful, MayStandAbove, IsStampedUpTo}
use Rattle.undo_chain.proofs.Order.{IsLawful-tail, IsLawful-filter, IsLawful-above, all_stamped}
use Rattle.block_spec.specs.Slots.{Slot, Row, writer_of, pruned, laid_back}
use Rattle.block_spec.specs.declared.change.Before.{Before}
use Rattle.event_spec.specs.SlotSound.{Keyed, IsSoundSlot, IsOfSession}
use Rattle.core_laws.proofs.Slots.Kept.{numbers_step}

-- the entries that a pruning leaves
abbrev pub rest : ℕ → List (Undo Before) → List (Undo Before)
rest o es = filter (λ undo. not (is_stamped_by undo o)) es

-- one entry more is dropped or kept
pub rest_step : (o : ℕ) (e : Undo Before) (es : List (Undo Before)) (b : Bool) → is_stamped_by e o ≡ b → rest o (e ∷ es) ≡ cond b (rest o es) (e ∷ rest o es)
rest_step o e es true is = ap (λ b. cond (not b) (e ∷ rest o es) (rest o es)) is
rest_step o e es false is = ap (λ b. cond (not b) (e ∷ rest o es) (rest o es)) is

-- where each may be pruned none is left
pub rest_none : (o : ℕ) (es : List (Undo Before)) → All (λ undo. is_stamped_by undo o ≡ true) es → rest o es ≡ []
rest_none o [] all = refl
rest_none o (e ∷ es) all =
    rest_step o e es true (All-head (λ undo. is_stamped_by undo o ≡ true) e es all) ∙ rest_none o es (All-tail (λ undo. is_stamped_by undo o ≡ true) e es all)

-- the writer stays
pub pruned_writer : (o : ℕ) (es : List (Undo Before)) → IsLawful es → writer_of (rest o es) ≡ writer_of es
pruned_writer o [] lawful = refl
pruned_writer o (e ∷ es) lawful = go (is_stamped_by e o) refl (pruned_writer o es (IsLawful-tail e es lawful))
  where
    stamped : (stamp : Option ℕ) → is_at_most stamp o ≡ true → is_none stamp ≡ false
    stamped None is = cc
    stamped (Some x) is = refl

    top : (es' : List (Undo Before)) → IsLawful (e ∷ es') → is_none e.stamp ≡ false → writer_of es' ≡ None
    top [] l is = refl
    top (f ∷ fs) l is = ap (λ b. cond b (Some f.session) None) (at e.stamp f.stamp is (IsLawful-above e f fs l))
      where
        at : (a b : Option ℕ) → is_none a ≡ false → MayStandAbove (record e { stamp = a }) (record f { stamp = b }) → is_none b ≡ false
        at None b n above = cc
        at (Some x) None n above = absurd above
        at (Some x) (Some y) n above = refl

    go : (b : Bool) → is_stamped_by e o ≡ b → writer_of (rest o es) ≡ writer_of es → writer_of (rest o (e ∷ es)) ≡ writer_of (e ∷ es)
    go true is before =
        ap writer_of (rest_step o e es true is) ∙ before ∙ top es lawful (stamped e.stamp is)
        ∙ ap (λ b. cond b (Some e.session) None) (sym (stamped e.stamp is))
    go false is before = ap writer_of (rest_step o e es false is)

-- numbers above a stamp that is not older stay
pub numbers_pruned : (o s : ℕ) (es : List (Undo Before)) → o ≤ s → numbers_above (rest o es) s ≡ numbers_above es s
numbers_pruned o s [] le = refl
numbers_pruned o s (e ∷ es) le = go (is_stamped_by e o) refl (numbers_pruned o s es le)
  where
    old : (stamp : Option ℕ) (move : Bool) → is_at_most stamp o ≡ true → (is_some stamp && not (is_at_most stamp s) && not move) ≡ false
    old None move is = cc
    old (Some x) true is = grind (arith, nat_tests)
    old (Some x) false is = grind (arith, nat_tests)

    go : (b : Bool) → is_stamped_by e o ≡ b → numbers_above (rest o es) s ≡ numbers_above es s → numbers_above (rest o (e ∷ es)) s ≡ numbers_above (e ∷ es) s
    go true is before = ap (λ xs. numbers_above xs s) (rest_step o e es true is) ∙ before ∙ sym (numbers_step e es s false (old e.stamp (is_move e.kind) is))
    go false is before =
        ap (λ xs. numbers_above xs s) (rest_step o e es false is)
        ∙ numbers_step e (rest o es) s (is_commit_above e s) refl
        ∙ ap (λ ns. cond (is_commit_above e s) (e.number ∷ ns) ns) before
        ∙ sym (numbers_step e es s (is_commit_above e s) refl)

-- a pruning keeps a slot's key
pub pruned_keyed : (key : ℤ) (o : ℕ) (row : Option Row) (es : List (Undo Before)) → IsLawful es → Keyed key row es → Keyed key row (rest o es)
pruned_keyed key o row [] lawful keyed = keyed
pruned_keyed key o row (e ∷ es) lawful keyed = go (is_stamped_by e o) refl (pruned_keyed key o (laid_back row e.before) es (IsLawful-tail e es lawful) keyed.2)
  where
    go : (b : Bool) → is_stamped_by e o ≡ b → Keyed key (laid_back row e.before) (rest o es) → Keyed key row (rest o (e ∷ es))
    go true is before = subst (λ xs. Keyed key row xs) (sym (rest_none o (e ∷ es) (all_stamped o e es lawful is))) keyed.0
    go false is before = subst (λ xs. Keyed key row xs) (sym (rest_step o e es false is)) (keyed.0, keyed.1, before)

-- and keeps it sound
pub sound_pruned : (o newest commits : ℕ) (slot : Slot) → IsSoundSlot newest commits slot → IsSoundSlot newest commits (pruned o slot)
sound_pruned o newest commits slot ok = record {
  lawful = IsLawful-filter (λ undo. not (is_stamped_by undo o)) slot.entries ok.lawful;
  stamps = All-filter (λ undo. not (is_stamped_by undo o)) (IsStampedUpTo newest) slot.entries ok.stamps;
  numbers = All-filter (λ undo. not (is_stamped_by undo o)) (λ undo. undo.number ≤ commits) slot.entries ok.numbers;
  sessions = All-filter (λ undo. not (is_stamped_by undo o)) IsOfSession slot.entries ok.sessions;
}
