use Rattle.std.proofs.Common.{◌∙◌, ◌≡◌, ◌≤◌, ◌<◌, ◌/◌, ap, sym, refl, get_or, length, arith, ⊎_elim}
use Rattle.std.proofs.lemmas.Bool.{cases_lt}
use Rattle.std.proofs.lemmas.List.{get_or_read_under}
use Rattle.block_body.specs.Chains.{ChainsValue, chain_at}
use Rattle.block_body.proofs.Tables.{at_none, group_none, in_used, is_there, past_none}
use Rattle.block_body.proofs.chain_table.ChainTable.next.Goals as goal

pub loop-slot-preserved-then-index-eq0 : goal.loop-slot-preserved-then-index-eq0
loop-slot-preserved-then-index-eq0 c =
    let i = c.self.inside in
    let slot = c.loop-slot.slot in
    let lt : slot < length i.places.items = omega arith in
    let none : get_or i.used.items (slot / 64) 0 ≡ 0 =
    sym (get_or_read_under i.used.items (slot / 64) (length i.used.items) c.index.result.now 0 c.index.ensures (in_used i.places.items i.used.items i.slots.items i.held.items c.self.invariant slot lt) refl) ∙ c.if-index-eq0.true in
    record {
      above = omega arith;
      least = λ other from less.
          ⊎_elim (λ below. c.loop-slot.invariant.least other from below) (λ le. group_none i.places.items i.used.items i.slots.items i.held.items c.self.invariant slot other none le less) (cases_lt other slot);
    }

pub loop-slot-preserved : goal.loop-slot-preserved
loop-slot-preserved c =
    let i = c.self.inside in
    let slot = c.loop-slot.slot in
    let lt : slot < length i.places.items = omega arith in
    let none : get_or i.places.items slot 0 ≡ 0 =
    sym (get_or_read_under i.places.items slot (length i.places.items) c.index-else-index-eq0.result.now 0 c.index-else-index-eq0.ensures lt refl) ∙ c.if-index-eq0-2.true in
    record {
      above = omega arith;
      least = λ other from less.
          ⊎_elim (λ below. c.loop-slot.invariant.least other from below)
          (λ le. let same : other ≡ slot = omega (arith, le, less) in at_none i.places.items i.used.items i.slots.items i.held.items c.self.invariant other (ap (λ k. get_or i.places.items k 0) same ∙ none)) (cases_lt other slot);
    }

pub returns-else-index-eq0-2-clause-some : goal.returns-else-index-eq0-2-clause-some
returns-else-index-eq0-2-clause-some c =
    let i = c.self.inside in
    let slot = c.loop-slot.slot in
    let lt : slot < length i.places.items = omega arith in
    let is : c.index-else-index-eq0.result.now ≡ get_or i.places.items slot 0 =
    get_or_read_under i.places.items slot (length i.places.items) c.index-else-index-eq0.result.now 0 c.index-else-index-eq0.ensures lt refl in
    rw (← c.self.view_is) (is_there i.places.items i.used.items i.slots.items i.held.items c.self.invariant slot c.index-else-index-eq0.result.now is c.if-index-eq0-2.false)

pub returns-clause-none : goal.returns-clause-none
returns-clause-none c =
    let i = c.self.inside in
    let end : length i.places.items ≤ c.loop-slot.slot = omega arith in
    λ other from.
    ap (λ (v : ChainsValue). chain_at v.entries other) (sym c.self.view_is)
    ∙ ⊎_elim (λ below. c.loop-slot.invariant.least other from below) (λ le. past_none i.places.items i.used.items i.slots.items i.held.items c.self.invariant other (omega (arith, le, end))) (cases_lt other c.loop-slot.slot)
