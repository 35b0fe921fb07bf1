use Rattle.std.proofs.Common.{◌≡◌, ◌∙◌, ◌||◌, List, Bool, true, false, get_or, None, rules, refl, sym, ap}
use Rattle.std.specs.Prelude.{fold, slice_set}
use Rattle.std.specs.List.{list_any}
use Rattle.std.proofs.lemmas.List.{set-get_or}
use Rattle.block_spec.specs.declared.change.Before.{Before}
use Rattle.block_spec.specs.Slots.{laid_back}
use Rattle.undo_chain.specs.Entry.{is_own}
use Rattle.block_body.proofs.Popped.{popped, popped_kept, popped_some, popped_fits, popped_wants, popped_is_kept, popped_laid, kept_all, none_own_images}
use Rattle.block_body.proofs.chains.lay_own_back.Goals as goal

true_either : (a b : Bool) → true ≡ b → true ≡ (a || b)
true_either true b is = refl
true_either false b is = is

pub restore-requires-clause-fits : goal.restore-requires-clause-fits
restore-requires-clause-fits c =
    let p = popped c.args.session c.loop-before.chain.entries c.pop_own.new.self.entries c.in-Some.before c.loop-before.invariant.lawful (sym c.in-Some.ensures.own) c.in-Some.ensures.before c.in-Some.ensures.rest in
    popped_fits c.args.session c.loop-before.chain.entries c.pop_own.new.self.entries c.in-Some.before p c.loop-before.rows c.args.slot (get_or c.loop-before.rows.rows c.args.slot None) c.loop-before.invariant.kept

pub restore-requires-clause-row : goal.restore-requires-clause-row
restore-requires-clause-row c =
    let p = popped c.args.session c.loop-before.chain.entries c.pop_own.new.self.entries c.in-Some.before c.loop-before.invariant.lawful (sym c.in-Some.ensures.own) c.in-Some.ensures.before c.in-Some.ensures.rest in
    (popped_wants c.args.session c.loop-before.chain.entries c.pop_own.new.self.entries c.in-Some.before p (get_or c.loop-before.rows.rows c.args.slot None) c.loop-before.invariant.kept.lays).0

pub loop-before-preserved : goal.loop-before-preserved
loop-before-preserved c =
    let p = popped c.args.session c.loop-before.chain.entries c.pop_own.new.self.entries c.in-Some.before c.loop-before.invariant.lawful (sym c.in-Some.ensures.own) c.in-Some.ensures.before c.in-Some.ensures.rest in
    record {
      lawful = c.pop_own.ensures.lawful;
      own = c.restore.ensures.own;
      columns = c.restore.ensures.columns ∙ c.loop-before.invariant.columns;
      room = c.restore.ensures.room ∙ c.loop-before.invariant.room;
      kept = popped_is_kept c.args.session c.loop-before.chain.entries c.pop_own.new.self.entries c.in-Some.before p c.loop-before.rows c.restore.new.self c.args.slot
          c.loop-before.invariant.kept c.restore.ensures.columns c.restore.ensures.room c.restore.ensures.rows;
      rest = sym (popped_kept c.args.session c.loop-before.chain.entries c.pop_own.new.self.entries c.in-Some.before p) ∙ c.loop-before.invariant.rest;
      laid = popped_laid c.args.session c.loop-before.chain.entries c.pop_own.new.self.entries c.in-Some.before p c.loop-before.rows c.restore.new.self c.args.slot
          (c.loop-before.invariant.kept.within (popped_some c.args.session c.loop-before.chain.entries c.pop_own.new.self.entries c.in-Some.before p))
          c.restore.ensures.rows ∙ c.loop-before.invariant.laid;
      any = true_either c.loop-before.any _ c.in-Some.ensures.own ∙ c.loop-before.invariant.any;
    }

pub returns-clause-chain : goal.returns-clause-chain
returns-clause-chain c =
    let none : list_any (λ undo. is_own undo c.args.session) c.loop-before.chain.entries ≡ false = search rules in
    c.in_default.ensures.none ∙ sym (kept_all c.args.session c.loop-before.chain.entries none) ∙ c.loop-before.invariant.rest

pub returns-clause-rows : goal.returns-clause-rows
returns-clause-rows c =
    let none : list_any (λ undo. is_own undo c.args.session) c.loop-before.chain.entries ≡ false = search rules in
    sym (set-get_or c.loop-before.rows.rows c.args.slot None)
    ∙ ap (λ (l : List Before). slice_set c.loop-before.rows.rows c.args.slot (fold laid_back (get_or c.loop-before.rows.rows c.args.slot None) l)) (sym (none_own_images c.args.session c.loop-before.chain.entries none))
    ∙ c.loop-before.invariant.laid
