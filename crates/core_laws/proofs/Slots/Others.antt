-- What a session sees of a slot is changed by its own writes alone.
use Rattle.std.proofs.Common.{[], ◌≡◌, ◌≢◌, ℕ, Bool, true, false, not, ◌&&◌, ◌||◌, ◌==◌, List, ◌∷◌, map, Option, None, fold, refl, sym, ap, ◌∙◌, arith}
use Rattle.std.proofs.lemmas.Bool.Decides.{nat_tests}
use Rattle.undo_chain.specs.declared.undo.Undo.{Undo}
use Rattle.undo_chain.specs.Entry.{is_move, is_own}
use Rattle.undo_chain.specs.Lawful.{IsLawful}
use Rattle.undo_chain.specs.Stamped.{stamped}
use Rattle.undo_chain.proofs.Order.{IsLawful-tail, all_not_own}
use Rattle.undo_chain.proofs.Pairs.{own_out_of_view}
use Rattle.undo_chain.proofs.Rows.{visible_row-same, visible_row-change}
use Rattle.undo_chain.proofs.Views.{images_passed, images_after_commit, images_after_prune}
use Rattle.block_spec.specs.Slots.{Row, laid_back, seen, rolled_back, row_after, image_before, kind_of}
use Rattle.block_spec.specs.declared.change.Before.{Before}
use Rattle.core_laws.specs.Slots.Laws.{OthersWrite, OthersCommit, OthersRollBack, Pruning, Moves}
use Rattle.core_laws.proofs.Slots.Endings.{rest_of, row_of, rest_own, row_own, rolled_none}
use Rattle.core_laws.proofs.Slots.Prunings.{rest}
use Rattle.core_laws.proofs.Slots.Halves.{out_view, in_view, out_gone, in_there}

-- A write by another session changes nothing that a session sees.
pub others_write : OthersWrite
others_write slot q me s change ne undone =
    let e : Undo Before = record { session = q; stamp = None; number = 0; kind = kind_of change; before = image_before slot.row change } in
    visible_row-change laid_back slot.row (row_after slot.row change) (image_before slot.row change) (e ∷ slot.entries) slot.entries s me
    (images_passed e slot.entries s me (go (is_move (kind_of change)) ne))
    undone
  where
    go : (move : Bool) → me ≢ q → ((true && not move && (q == me)) || false) ≡ false
    go true n = refl
    go false n = grind (arith, nat_tests)

-- Neither does its commit, at a later stamp.
pub others_commit : OthersCommit
others_commit slot q me s stamp number ne below =
    visible_row-same laid_back slot.row (map (stamped q stamp number) slot.entries) slot.entries s me (images_after_commit q stamp number slot.entries s me ne below)

-- The roll-back of another session changes nothing that a session sees of a slot.
rolled : (q me s : ℕ) (row : Option Row) (es : List (Undo Before)) → me ≢ q → IsLawful es
    → seen (rolled_back q (record { row = row; entries = es })) s me ≡ seen (record { row = row; entries = es }) s me
rolled q me s row [] ne lawful = refl
rolled q me s row (e ∷ es) ne lawful = go (is_own e q) refl (rolled q me s (laid_back row e.before) es ne (IsLawful-tail e es lawful))
  where
    go : (b : Bool) → is_own e q ≡ b
        → seen (record { row = row_of q (laid_back row e.before) es; entries = rest_of q es }) s me ≡ seen (record { row = laid_back row e.before; entries = es }) s me
        → seen (record { row = row_of q row (e ∷ es); entries = rest_of q (e ∷ es) }) s me ≡ seen (record { row = row; entries = e ∷ es }) s me
    go true own before =
        ap (λ es'. seen (record { row = row_of q row (e ∷ es); entries = es' }) s me) (rest_own q e es own)
        ∙ ap (λ row'. seen (record { row = row'; entries = rest_of q es }) s me) (row_own q row e es own)
        ∙ before
        ∙ ap (λ images. fold laid_back row images) (sym (images_passed e es s me (own_out_of_view e.stamp (is_move e.kind) e.session q s me ne own)))
    go false own before =
        let both = rolled_none q row (e ∷ es) (all_not_own q e es lawful own) in
        ap (λ es'. seen (record { row = row_of q row (e ∷ es); entries = es' }) s me) both.0 ∙ ap (λ row'. seen (record { row = row'; entries = e ∷ es }) s me) both.1

-- Nor its roll-back.
pub others_roll_back : OthersRollBack
others_roll_back slot q me s ne lawful = rolled q me s slot.row slot.entries ne lawful

-- Nor a pruning up to a snapshot.
pub a_pruning : Pruning
a_pruning slot oldest me s le lawful = visible_row-same laid_back slot.row (rest oldest slot.entries) slot.entries s me (images_after_prune oldest slot.entries s me lawful le)

-- A row that moves is seen at one of its two slots, at any snapshot.
pub a_move : Moves
a_move row moved stamp reader = record {
  source_before = out_view moved stamp reader row;
  target_before = in_view moved stamp reader row;
  source_after = out_gone moved stamp reader row;
  target_after = in_there moved stamp reader row;
}
