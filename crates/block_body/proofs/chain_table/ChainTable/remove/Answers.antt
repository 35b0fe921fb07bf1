use Rattle.std.proofs.Common.{◌∙◌, ◌≡◌, ◌≢◌, ◌≤◌, ◌<◌, ◌+◌, ◌-◌, ◌/◌, IsSome, ap, sym, subst, refl, get_or, length, arith}
use Rattle.std.proofs.lemmas.List.{get_or_read_under}
use Rattle.block_body.specs.Chains.{ChainsValue, chain_at}
use Rattle.block_body.specs.Tables.{paired}
use Rattle.block_body.proofs.Tables.{gone, gone_at, gone_others, has_place, in_places, in_used, last_lt, place_lt, slot_lt, used_some}
use Rattle.block_body.proofs.chain_table.ChainTable.remove.Goals as goal

pub index_mut-requires : goal.index_mut-requires
index_mut-requires c =
    let i = c.self.inside in
    let slot = c.args.slot in
    let p = c.place_of-place.result in
    let is : p ≡ get_or i.places.items slot 0 = c.place_of-place.ensures ∙ ap (λ l. get_or l slot 0) c.as_slice.ensures.value in
    let there : IsSome (chain_at (paired i.slots.items i.held.items) slot) = subst (λ (v : ChainsValue). IsSome (chain_at v.entries slot)) (sym c.self.view_is) c.requires in
    let some : p ≢ 0 = λ zero. has_place i.places.items i.used.items i.slots.items i.held.items c.self.invariant slot there (sym is ∙ zero) in
    let within : p - 1 < length i.held.items = place_lt i.places.items i.used.items i.slots.items i.held.items c.self.invariant slot p is some in
    let long : length i.held.items ≡ length i.slots.items = c.self.invariant.long in
    let end : c.len.result ≡ length i.slots.items = omega arith in
    let last : c.index-last.result.now ≡ get_or i.slots.items (length i.slots.items - 1) 0 =
    get_or_read_under i.slots.items (length i.slots.items - 1) (length i.slots.items) c.index-last.result.now 0 (c.index-last.ensures ∙ ap (λ n. get_or i.slots.items (n - 1) c.index-last.result.now) end) (omega arith) refl in
    let place : get_or i.places.items c.index-last.result.now 0 ≡ length i.slots.items = last_lt i.places.items i.used.items i.slots.items i.held.items c.self.invariant c.index-last.result.now (omega arith) last in
    let lt : c.index-last.result.now < length i.places.items = in_places i.places.items i.used.items i.slots.items i.held.items c.self.invariant c.index-last.result.now (λ zero. absurd (omega (arith, zero, place, within, long))) in
    omega arith

pub index_mut-requires-2 : goal.index_mut-requires-2
index_mut-requires-2 c =
    let i = c.self.inside in
    let slot = c.args.slot in
    let p = c.place_of-place.result in
    let is : p ≡ get_or i.places.items slot 0 = c.place_of-place.ensures ∙ ap (λ l. get_or l slot 0) c.as_slice.ensures.value in
    let there : IsSome (chain_at (paired i.slots.items i.held.items) slot) = subst (λ (v : ChainsValue). IsSome (chain_at v.entries slot)) (sym c.self.view_is) c.requires in
    let some : p ≢ 0 = λ zero. has_place i.places.items i.used.items i.slots.items i.held.items c.self.invariant slot there (sym is ∙ zero) in
    let listed : slot < length i.places.items = slot_lt i.places.items i.used.items i.slots.items i.held.items c.self.invariant slot p is some in
    let grouped : slot / 64 < length i.used.items = in_used i.places.items i.used.items i.slots.items i.held.items c.self.invariant slot listed in
    omega arith

pub index_mut-requires-3 : goal.index_mut-requires-3
index_mut-requires-3 c =
    let i = c.self.inside in
    let slot = c.args.slot in
    let p = c.place_of-place.result in
    let is : p ≡ get_or i.places.items slot 0 = c.place_of-place.ensures ∙ ap (λ l. get_or l slot 0) c.as_slice.ensures.value in
    let there : IsSome (chain_at (paired i.slots.items i.held.items) slot) = subst (λ (v : ChainsValue). IsSome (chain_at v.entries slot)) (sym c.self.view_is) c.requires in
    let some : p ≢ 0 = λ zero. has_place i.places.items i.used.items i.slots.items i.held.items c.self.invariant slot there (sym is ∙ zero) in
    let listed : slot < length i.places.items = slot_lt i.places.items i.used.items i.slots.items i.held.items c.self.invariant slot p is some in
    let grouped : slot / 64 < length i.used.items = in_used i.places.items i.used.items i.slots.items i.held.items c.self.invariant slot listed in
    omega arith

pub overflow_sub-index_mut : goal.overflow_sub-index_mut
overflow_sub-index_mut c =
    let i = c.self.inside in
    let slot = c.args.slot in
    let p = c.place_of-place.result in
    let is : p ≡ get_or i.places.items slot 0 = c.place_of-place.ensures ∙ ap (λ l. get_or l slot 0) c.as_slice.ensures.value in
    let there : IsSome (chain_at (paired i.slots.items i.held.items) slot) = subst (λ (v : ChainsValue). IsSome (chain_at v.entries slot)) (sym c.self.view_is) c.requires in
    let some : p ≢ 0 = λ zero. has_place i.places.items i.used.items i.slots.items i.held.items c.self.invariant slot there (sym is ∙ zero) in
    let listed : slot < length i.places.items = slot_lt i.places.items i.used.items i.slots.items i.held.items c.self.invariant slot p is some in
    let grouped : slot / 64 < length i.used.items = in_used i.places.items i.used.items i.slots.items i.held.items c.self.invariant slot listed in
    let read : c.index_mut-3.result.now ≡ get_or i.used.items (slot / 64) 0 =
    get_or_read_under i.used.items (slot / 64) (length i.used.items) c.index_mut-3.result.now 0 c.index_mut-3.ensures.value grouped refl in
    let one : 1 ≤ get_or i.used.items (slot / 64) 0 = used_some i.places.items i.used.items i.slots.items i.held.items c.self.invariant slot p is some in
    omega arith

pub overflow_sub-place : goal.overflow_sub-place
overflow_sub-place c =
    let i = c.self.inside in
    let slot = c.args.slot in
    let p = c.place_of-place.result in
    let is : p ≡ get_or i.places.items slot 0 = c.place_of-place.ensures ∙ ap (λ l. get_or l slot 0) c.as_slice.ensures.value in
    let there : IsSome (chain_at (paired i.slots.items i.held.items) slot) = subst (λ (v : ChainsValue). IsSome (chain_at v.entries slot)) (sym c.self.view_is) c.requires in
    let some : p ≢ 0 = λ zero. has_place i.places.items i.used.items i.slots.items i.held.items c.self.invariant slot there (sym is ∙ zero) in
    omega arith

pub swap_remove-requires : goal.swap_remove-requires
swap_remove-requires c =
    let i = c.self.inside in
    let slot = c.args.slot in
    let p = c.place_of-place.result in
    let is : p ≡ get_or i.places.items slot 0 = c.place_of-place.ensures ∙ ap (λ l. get_or l slot 0) c.as_slice.ensures.value in
    let there : IsSome (chain_at (paired i.slots.items i.held.items) slot) = subst (λ (v : ChainsValue). IsSome (chain_at v.entries slot)) (sym c.self.view_is) c.requires in
    let some : p ≢ 0 = λ zero. has_place i.places.items i.used.items i.slots.items i.held.items c.self.invariant slot there (sym is ∙ zero) in
    let within : p - 1 < length i.held.items = place_lt i.places.items i.used.items i.slots.items i.held.items c.self.invariant slot p is some in
    let long : length i.held.items ≡ length i.slots.items = c.self.invariant.long in
    omega arith

pub overflow_sub-place-2 : goal.overflow_sub-place-2
overflow_sub-place-2 c =
    let i = c.self.inside in
    let slot = c.args.slot in
    let p = c.place_of-place.result in
    let is : p ≡ get_or i.places.items slot 0 = c.place_of-place.ensures ∙ ap (λ l. get_or l slot 0) c.as_slice.ensures.value in
    let there : IsSome (chain_at (paired i.slots.items i.held.items) slot) = subst (λ (v : ChainsValue). IsSome (chain_at v.entries slot)) (sym c.self.view_is) c.requires in
    let some : p ≢ 0 = λ zero. has_place i.places.items i.used.items i.slots.items i.held.items c.self.invariant slot there (sym is ∙ zero) in
    omega arith

pub swap_remove-requires-2 : goal.swap_remove-requires-2
swap_remove-requires-2 c =
    let i = c.self.inside in
    let slot = c.args.slot in
    let p = c.place_of-place.result in
    let is : p ≡ get_or i.places.items slot 0 = c.place_of-place.ensures ∙ ap (λ l. get_or l slot 0) c.as_slice.ensures.value in
    let there : IsSome (chain_at (paired i.slots.items i.held.items) slot) = subst (λ (v : ChainsValue). IsSome (chain_at v.entries slot)) (sym c.self.view_is) c.requires in
    let some : p ≢ 0 = λ zero. has_place i.places.items i.used.items i.slots.items i.held.items c.self.invariant slot there (sym is ∙ zero) in
    let within : p - 1 < length i.held.items = place_lt i.places.items i.used.items i.slots.items i.held.items c.self.invariant slot p is some in
    let long : length i.held.items ≡ length i.slots.items = c.self.invariant.long in
    omega arith

pub invariant_of-self : goal.invariant_of-self
invariant_of-self c =
    let i = c.self.inside in
    let slot = c.args.slot in
    let p = c.place_of-place.result in
    let is : p ≡ get_or i.places.items slot 0 = c.place_of-place.ensures ∙ ap (λ l. get_or l slot 0) c.as_slice.ensures.value in
    let there : IsSome (chain_at (paired i.slots.items i.held.items) slot) = subst (λ (v : ChainsValue). IsSome (chain_at v.entries slot)) (sym c.self.view_is) c.requires in
    let some : p ≢ 0 = λ zero. has_place i.places.items i.used.items i.slots.items i.held.items c.self.invariant slot there (sym is ∙ zero) in
    let within : p - 1 < length i.held.items = place_lt i.places.items i.used.items i.slots.items i.held.items c.self.invariant slot p is some in
    let long : length i.held.items ≡ length i.slots.items = c.self.invariant.long in
    let end : c.len.result ≡ length i.slots.items = omega arith in
    let last : c.index-last.result.now ≡ get_or i.slots.items (length i.slots.items - 1) 0 =
    get_or_read_under i.slots.items (length i.slots.items - 1) (length i.slots.items) c.index-last.result.now 0 (c.index-last.ensures ∙ ap (λ n. get_or i.slots.items (n - 1) c.index-last.result.now) end) (omega arith) refl in
    let listed : slot < length i.places.items = slot_lt i.places.items i.used.items i.slots.items i.held.items c.self.invariant slot p is some in
    let grouped : slot / 64 < length i.used.items = in_used i.places.items i.used.items i.slots.items i.held.items c.self.invariant slot listed in
    let read : c.index_mut-3.result.now ≡ get_or i.used.items (slot / 64) 0 =
    get_or_read_under i.used.items (slot / 64) (length i.used.items) c.index_mut-3.result.now 0 c.index_mut-3.ensures.value grouped refl in
    let slots_are : c.self.inside.slots.len ≡ length i.slots.items = omega arith in
    let held_are : c.self.inside.held.len ≡ length i.slots.items = omega arith in
    let ss_long : length c.swap_remove.new.self.items + 1 ≡ length i.slots.items = omega arith in
    let hs_long : length c.swap_remove-2.new.self.items + 1 ≡ length i.held.items = omega arith in
    gone i.places.items i.used.items i.slots.items c.swap_remove.new.self.items i.held.items c.swap_remove-2.new.self.items c.self.invariant slot p c.index-last.result.now (c.index_mut-3.result.now - 1)
    is some last (ap (λ n. n - 1) read) ss_long hs_long
    (λ d less. c.swap_remove.ensures.by_index.0 d (omega (arith, less, slots_are)) ∙ ap (λ n. get_or i.slots.items (n - 1) d) slots_are)
    (λ k d other less. c.swap_remove.ensures.by_index.1 k d other (omega (arith, less, slots_are)))
    (λ d less. c.swap_remove-2.ensures.by_index.0 d (omega (arith, less, held_are)) ∙ ap (λ n. get_or i.held.items (n - 1) d) held_are)
    (λ k d other less. c.swap_remove-2.ensures.by_index.1 k d other (omega (arith, less, held_are)))

pub returns-clause-here : goal.returns-clause-here
returns-clause-here c =
    let i = c.self.inside in
    let slot = c.args.slot in
    let p = c.place_of-place.result in
    let is : p ≡ get_or i.places.items slot 0 = c.place_of-place.ensures ∙ ap (λ l. get_or l slot 0) c.as_slice.ensures.value in
    let there : IsSome (chain_at (paired i.slots.items i.held.items) slot) = subst (λ (v : ChainsValue). IsSome (chain_at v.entries slot)) (sym c.self.view_is) c.requires in
    let some : p ≢ 0 = λ zero. has_place i.places.items i.used.items i.slots.items i.held.items c.self.invariant slot there (sym is ∙ zero) in
    let within : p - 1 < length i.held.items = place_lt i.places.items i.used.items i.slots.items i.held.items c.self.invariant slot p is some in
    let long : length i.held.items ≡ length i.slots.items = c.self.invariant.long in
    let end : c.len.result ≡ length i.slots.items = omega arith in
    let last : c.index-last.result.now ≡ get_or i.slots.items (length i.slots.items - 1) 0 =
    get_or_read_under i.slots.items (length i.slots.items - 1) (length i.slots.items) c.index-last.result.now 0 (c.index-last.ensures ∙ ap (λ n. get_or i.slots.items (n - 1) c.index-last.result.now) end) (omega arith) refl in
    let listed : slot < length i.places.items = slot_lt i.places.items i.used.items i.slots.items i.held.items c.self.invariant slot p is some in
    let grouped : slot / 64 < length i.used.items = in_used i.places.items i.used.items i.slots.items i.held.items c.self.invariant slot listed in
    let read : c.index_mut-3.result.now ≡ get_or i.used.items (slot / 64) 0 =
    get_or_read_under i.used.items (slot / 64) (length i.used.items) c.index_mut-3.result.now 0 c.index_mut-3.ensures.value grouped refl in
    let slots_are : c.self.inside.slots.len ≡ length i.slots.items = omega arith in
    let held_are : c.self.inside.held.len ≡ length i.slots.items = omega arith in
    let ss_long : length c.swap_remove.new.self.items + 1 ≡ length i.slots.items = omega arith in
    let hs_long : length c.swap_remove-2.new.self.items + 1 ≡ length i.held.items = omega arith in
    gone_at i.places.items i.used.items i.slots.items c.swap_remove.new.self.items i.held.items c.swap_remove-2.new.self.items c.self.invariant slot p c.index-last.result.now (c.index_mut-3.result.now - 1)
    is some last (ap (λ n. n - 1) read) ss_long hs_long
    (λ d less. c.swap_remove.ensures.by_index.0 d (omega (arith, less, slots_are)) ∙ ap (λ n. get_or i.slots.items (n - 1) d) slots_are)
    (λ k d other less. c.swap_remove.ensures.by_index.1 k d other (omega (arith, less, slots_are)))
    (λ d less. c.swap_remove-2.ensures.by_index.0 d (omega (arith, less, held_are)) ∙ ap (λ n. get_or i.held.items (n - 1) d) held_are)
    (λ k d other less. c.swap_remove-2.ensures.by_index.1 k d other (omega (arith, less, held_are)))

pub returns-clause-others : goal.returns-clause-others
returns-clause-others c =
    let i = c.self.inside in
    let slot = c.args.slot in
    let p = c.place_of-place.result in
    let is : p ≡ get_or i.places.items slot 0 = c.place_of-place.ensures ∙ ap (λ l. get_or l slot 0) c.as_slice.ensures.value in
    let there : IsSome (chain_at (paired i.slots.items i.held.items) slot) = subst (λ (v : ChainsValue). IsSome (chain_at v.entries slot)) (sym c.self.view_is) c.requires in
    let some : p ≢ 0 = λ zero. has_place i.places.items i.used.items i.slots.items i.held.items c.self.invariant slot there (sym is ∙ zero) in
    let within : p - 1 < length i.held.items = place_lt i.places.items i.used.items i.slots.items i.held.items c.self.invariant slot p is some in
    let long : length i.held.items ≡ length i.slots.items = c.self.invariant.long in
    let end : c.len.result ≡ length i.slots.items = omega arith in
    let last : c.index-last.result.now ≡ get_or i.slots.items (length i.slots.items - 1) 0 =
    get_or_read_under i.slots.items (length i.slots.items - 1) (length i.slots.items) c.index-last.result.now 0 (c.index-last.ensures ∙ ap (λ n. get_or i.slots.items (n - 1) c.index-last.result.now) end) (omega arith) refl in
    let listed : slot < length i.places.items = slot_lt i.places.items i.used.items i.slots.items i.held.items c.self.invariant slot p is some in
    let grouped : slot / 64 < length i.used.items = in_used i.places.items i.used.items i.slots.items i.held.items c.self.invariant slot listed in
    let read : c.index_mut-3.result.now ≡ get_or i.used.items (slot / 64) 0 =
    get_or_read_under i.used.items (slot / 64) (length i.used.items) c.index_mut-3.result.now 0 c.index_mut-3.ensures.value grouped refl in
    let slots_are : c.self.inside.slots.len ≡ length i.slots.items = omega arith in
    let held_are : c.self.inside.held.len ≡ length i.slots.items = omega arith in
    let ss_long : length c.swap_remove.new.self.items + 1 ≡ length i.slots.items = omega arith in
    let hs_long : length c.swap_remove-2.new.self.items + 1 ≡ length i.held.items = omega arith in
    λ q apart.
    gone_others i.places.items i.used.items i.slots.items c.swap_remove.new.self.items i.held.items c.swap_remove-2.new.self.items c.self.invariant slot p c.index-last.result.now (c.index_mut-3.result.now - 1)
    is some last (ap (λ n. n - 1) read) ss_long hs_long
    (λ d less. c.swap_remove.ensures.by_index.0 d (omega (arith, less, slots_are)) ∙ ap (λ n. get_or i.slots.items (n - 1) d) slots_are)
    (λ k d other less. c.swap_remove.ensures.by_index.1 k d other (omega (arith, less, slots_are)))
    (λ d less. c.swap_remove-2.ensures.by_index.0 d (omega (arith, less, held_are)) ∙ ap (λ n. get_or i.held.items (n - 1) d) held_are)
    (λ k d other less. c.swap_remove-2.ensures.by_index.1 k d other (omega (arith, less, held_are))) q apart
    ∙ ap (λ (v : ChainsValue). chain_at v.entries q) c.self.view_is
