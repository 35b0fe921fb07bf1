use Rattle.std.proofs.Common.{◌∙◌, ◌≡◌, ◌≢◌, ◌<◌, ◌-◌, ap, sym, subst, IsSome, get_or, length, arith}
use Rattle.block_body.specs.Chains.{ChainsValue, chain_at}
use Rattle.block_body.specs.Tables.{paired}
use Rattle.block_body.proofs.Pruned.{above_zero}
use Rattle.block_body.proofs.Tables.{has_place, place_lt, set_here, set_other, kept_some}
use Rattle.block_body.proofs.chain_table.ChainTable.put.Goals as goal

pub overflow_sub-place : goal.overflow_sub-place
overflow_sub-place c =
    let i = c.self.inside in
    let is : c.place_of-place.result ≡ get_or i.places.items c.args.slot 0 = c.place_of-place.ensures ∙ ap (λ l. get_or l c.args.slot 0) c.as_slice.ensures.value in
    let there : IsSome (chain_at (paired i.slots.items i.held.items) c.args.slot) = subst (λ (v : ChainsValue). IsSome (chain_at v.entries c.args.slot)) (sym c.self.view_is) c.requires in
    let some : get_or i.places.items c.args.slot 0 ≢ 0 = has_place i.places.items i.used.items i.slots.items i.held.items c.self.invariant c.args.slot there in
    omega arith

pub index_mut-requires : goal.index_mut-requires
index_mut-requires c =
    let i = c.self.inside in
    let is : c.place_of-place.result ≡ get_or i.places.items c.args.slot 0 = c.place_of-place.ensures ∙ ap (λ l. get_or l c.args.slot 0) c.as_slice.ensures.value in
    let there : IsSome (chain_at (paired i.slots.items i.held.items) c.args.slot) = subst (λ (v : ChainsValue). IsSome (chain_at v.entries c.args.slot)) (sym c.self.view_is) c.requires in
    let some : c.place_of-place.result ≢ 0 = λ zero. has_place i.places.items i.used.items i.slots.items i.held.items c.self.invariant c.args.slot there (sym is ∙ zero) in
    let lt : c.place_of-place.result - 1 < length i.held.items = place_lt i.places.items i.used.items i.slots.items i.held.items c.self.invariant c.args.slot c.place_of-place.result is some in
    omega arith

pub returns-else-is_empty-clause-here : goal.returns-else-is_empty-clause-here
returns-else-is_empty-clause-here c =
    let i = c.self.inside in
    let is : c.place_of-place.result ≡ get_or i.places.items c.args.slot 0 = c.place_of-place.ensures ∙ ap (λ l. get_or l c.args.slot 0) c.as_slice.ensures.value in
    let there : IsSome (chain_at (paired i.slots.items i.held.items) c.args.slot) = subst (λ (v : ChainsValue). IsSome (chain_at v.entries c.args.slot)) (sym c.self.view_is) c.requires in
    let some : c.place_of-place.result ≢ 0 = λ zero. has_place i.places.items i.used.items i.slots.items i.held.items c.self.invariant c.args.slot there (sym is ∙ zero) in
    set_here i.places.items i.used.items i.slots.items i.held.items c.self.invariant c.args.slot c.place_of-place.result is some c.args.chain
    ∙ sym (kept_some c.args.chain (above_zero c.entries.result.now c.args.chain.entries c.entries.ensures (sym c.if-is_empty.ensures)))

pub returns-else-is_empty-clause-others : goal.returns-else-is_empty-clause-others
returns-else-is_empty-clause-others c =
    let i = c.self.inside in
    let is : c.place_of-place.result ≡ get_or i.places.items c.args.slot 0 = c.place_of-place.ensures ∙ ap (λ l. get_or l c.args.slot 0) c.as_slice.ensures.value in
    let there : IsSome (chain_at (paired i.slots.items i.held.items) c.args.slot) = subst (λ (v : ChainsValue). IsSome (chain_at v.entries c.args.slot)) (sym c.self.view_is) c.requires in
    let some : c.place_of-place.result ≢ 0 = λ zero. has_place i.places.items i.used.items i.slots.items i.held.items c.self.invariant c.args.slot there (sym is ∙ zero) in
    λ other apart.
    set_other i.places.items i.used.items i.slots.items i.held.items c.self.invariant c.args.slot c.place_of-place.result is some c.args.chain other apart
    ∙ ap (λ (v : ChainsValue). chain_at v.entries other) c.self.view_is
