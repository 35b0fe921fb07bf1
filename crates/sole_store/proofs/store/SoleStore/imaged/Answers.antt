use Rattle.std.proofs.Common.{◌≡◌, ◌∙◌, ℤ, rules, to_z, of_z, w64, sym, ap, subst}
use Rattle.std.proofs.Math.Facts.{to_z-of_z}
use Rattle.engine_core.proofs.Asked.{has_key_parts}
use Rattle.engine_core.proofs.Wholes.{agrees}
use Rattle.engine_core.specs.Asks.{imaged_block}
use Rattle.engine_core.specs.Core.{parts_in}
use Rattle.event_spec.specs.Lawful.{HasTable, IsThawed}
use Rattle.sole_store.specs.Sole.{SoleState}
use Rattle.sole_store.proofs.Blocks.{of_core}
use Rattle.sole_store.proofs.store.SoleStore.imaged.Goals as goal

pub imaged-requires-clause-core : goal.imaged-requires-clause-core
imaged-requires-clause-core c = of_core c.self.inside.shape c.self.inside.hand c.self.invariant.whole

pub imaged-requires-clause-parts : goal.imaged-requires-clause-parts
imaged-requires-clause-parts c =
    has_key_parts c.self.inside.shape c.self.inside.hand c.args.table (to_z w64 (of_z w64 c.args.key)) c.self.invariant.whole
    (subst (λ (v : SoleState). HasTable v.shape c.args.table) (sym c.self.view_is) c.requires)

pub returns-clause-block : goal.returns-clause-block
returns-clause-block c =
    let key : to_z w64 (of_z w64 c.args.key) ≡ c.args.key = to_z-of_z {w = w64} (search rules) in
    c.imaged.ensures.block (parts_in c.self.inside.hand) (agrees c.self.inside.shape c.self.inside.hand c.self.invariant.whole)
    ∙ ap (imaged_block c.self.inside.shape (parts_in c.self.inside.hand) c.args.table) key
    ∙ ap (λ (v : SoleState). imaged_block v.shape v.parts c.args.table c.args.key) c.self.view_is

pub returns-clause-thawed : goal.returns-clause-thawed
returns-clause-thawed c = λ none.
    let key : to_z w64 (of_z w64 c.args.key) ≡ c.args.key = to_z-of_z {w = w64} (search rules) in
    subst (λ (v : SoleState). IsThawed v.shape c.args.table c.args.key v.parts) c.self.view_is
    (subst (λ (k : ℤ). IsThawed c.self.inside.shape c.args.table k (parts_in c.self.inside.hand)) key
    (c.imaged.ensures.thawed none (parts_in c.self.inside.hand) (agrees c.self.inside.shape c.self.inside.hand c.self.invariant.whole)))
