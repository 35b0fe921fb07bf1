use Rattle.std.proofs.Common.{◌≡◌, ◌||◌, None, length, get_or}
use Rattle.std.specs.Prelude.{not, filter, fold, slice_set}
use Rattle.std.specs.List.{list_any}
use Rattle.block_spec.specs.Slots.{laid_back}
use Rattle.undo_chain.specs.Entry.{is_own}
use Rattle.undo_chain.specs.Lawful.{IsLawful}
use Rattle.block_body.specs.Chains.{IsKept}
use Rattle.block_body.proofs.Popped.{own_images}
use Rattle.block_body.proofs.chains.lay_own_back.Given as goal

abbrev pub invariant-loop-before : goal.invariant-loop-before
invariant-loop-before l = record {
  lawful : IsLawful l.chain.entries;
  own : l.rows.image ≡ None;
  columns : l.rows.columns ≡ l.initial.rows.columns;
  room : l.rows.room ≡ l.initial.rows.room;
  kept : IsKept l.rows l.slot (get_or l.rows.rows l.slot None) l.chain.entries;
  rest : filter (λ undo. not (is_own undo l.session)) l.chain.entries ≡ filter (λ undo. not (is_own undo l.session)) l.initial.chain.entries;
  laid : slice_set l.rows.rows l.slot (fold laid_back (get_or l.rows.rows l.slot None) (own_images l.session l.chain.entries))
      ≡ slice_set l.initial.rows.rows l.slot (fold laid_back (get_or l.initial.rows.rows l.slot None) (own_images l.session l.initial.chain.entries));
  any : (l.any || list_any (λ undo. is_own undo l.session) l.chain.entries) ≡ list_any (λ undo. is_own undo l.session) l.initial.chain.entries;
}

abbrev pub decreases-loop-before : goal.decreases-loop-before
decreases-loop-before l = length l.chain.entries
