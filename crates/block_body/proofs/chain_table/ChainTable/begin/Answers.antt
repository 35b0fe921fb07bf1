use Rattle.std.proofs.Common.{◌∙◌, ◌≡◌, ◌≤◌, ◌<◌, ◌+◌, ◌/◌, ◌++◌, ◌∷◌, [], None, ap, sym, subst, refl, get_or, set, length, is_some, arith}
use Rattle.std.proofs.lemmas.List.{get_or_read_under}
use Rattle.block_body.specs.Chains.{ChainsValue, chain_at}
use Rattle.block_body.specs.Tables.{IsTable, paired}
use Rattle.block_body.proofs.Tables.{begun, begun_at, begun_others, grown, in_used, no_place, used_few}
use Rattle.block_body.proofs.chain_table.ChainTable.begin.Goals as goal

pub invariant_of-self-in_err-make_room : goal.invariant_of-self-in_err-make_room
invariant_of-self-in_err-make_room c =
    let i = c.self.inside in
    let slot = c.args.slot in
    let room = c.make_room.ensures in
    let t = grown i.places.items i.used.items i.slots.items c.make_room.new.places.items c.make_room.new.used.items (length i.held.items) c.self.invariant room.few room.grouped room.places room.used in
    subst (λ ss. IsTable c.make_room.new.places.items c.make_room.new.used.items ss (length c.reserve-2.new.self.items)) (sym c.reserve.ensures.items)
    (subst (λ n. IsTable c.make_room.new.places.items c.make_room.new.used.items i.slots.items n) (sym (ap length c.reserve-2.ensures.items)) t)

pub overflow_add-index_mut : goal.overflow_add-index_mut
overflow_add-index_mut c =
    let i = c.self.inside in
    let slot = c.args.slot in
    let room = c.make_room.ensures in
    let t = grown i.places.items i.used.items i.slots.items c.make_room.new.places.items c.make_room.new.used.items (length i.held.items) c.self.invariant room.few room.grouped room.places room.used in
    let lt : slot < length c.make_room.new.places.items = c.in_ok-make_room.ensures.room in
    let free : chain_at (paired i.slots.items i.held.items) slot ≡ None = ap (λ (v : ChainsValue). chain_at v.entries slot) c.self.view_is ∙ c.requires in
    let none : get_or c.make_room.new.places.items slot 0 ≡ 0 = room.places slot ∙ no_place i.places.items i.used.items i.slots.items i.held.items c.self.invariant slot free in
    let in_group : slot / 64 < length c.make_room.new.used.items = in_used c.make_room.new.places.items c.make_room.new.used.items i.slots.items i.held.items t slot lt in
    let read : c.index_mut-2.result.now ≡ get_or c.make_room.new.used.items (slot / 64) 0 =
    get_or_read_under c.make_room.new.used.items (slot / 64) (length c.make_room.new.used.items) c.index_mut-2.result.now 0 c.index_mut-2.ensures.value in_group refl in
    let few : get_or c.make_room.new.used.items (slot / 64) 0 ≤ 64 = used_few c.make_room.new.places.items c.make_room.new.used.items i.slots.items i.held.items t (slot / 64) in
    omega arith

pub invariant_of-self-2 : goal.invariant_of-self-2
invariant_of-self-2 c =
    let i = c.self.inside in
    let slot = c.args.slot in
    let room = c.make_room.ensures in
    let t = grown i.places.items i.used.items i.slots.items c.make_room.new.places.items c.make_room.new.used.items (length i.held.items) c.self.invariant room.few room.grouped room.places room.used in
    let lt : slot < length c.make_room.new.places.items = c.in_ok-make_room.ensures.room in
    let free : chain_at (paired i.slots.items i.held.items) slot ≡ None = ap (λ (v : ChainsValue). chain_at v.entries slot) c.self.view_is ∙ c.requires in
    let none : get_or c.make_room.new.places.items slot 0 ≡ 0 = room.places slot ∙ no_place i.places.items i.used.items i.slots.items i.held.items c.self.invariant slot free in
    let in_group : slot / 64 < length c.make_room.new.used.items = in_used c.make_room.new.places.items c.make_room.new.used.items i.slots.items i.held.items t slot lt in
    let read : c.index_mut-2.result.now ≡ get_or c.make_room.new.used.items (slot / 64) 0 =
    get_or_read_under c.make_room.new.used.items (slot / 64) (length c.make_room.new.used.items) c.index_mut-2.result.now 0 c.index_mut-2.ensures.value in_group refl in
    let place : c.len-2.result ≡ length i.slots.items + 1 = omega arith in
    let slots : c.push_reserved.new.self.items ≡ i.slots.items ++ slot ∷ [] = c.push_reserved.ensures.items ∙ ap (λ l. l ++ slot ∷ []) c.reserve.ensures.items in
    let held : c.push_reserved-2.new.self.items ≡ i.held.items ++ c.new-empty.result ∷ [] = c.push_reserved-2.ensures.items ∙ ap (λ l. l ++ c.new-empty.result ∷ []) c.reserve-2.ensures.items in
    subst (λ ss. IsTable (set c.make_room.new.places.items slot c.len-2.result) (set c.make_room.new.used.items (slot / 64) (c.index_mut-2.result.now + 1)) ss (length c.push_reserved-2.new.self.items)) (sym slots)
    (subst (λ n. IsTable (set c.make_room.new.places.items slot c.len-2.result) (set c.make_room.new.used.items (slot / 64) (c.index_mut-2.result.now + 1)) (i.slots.items ++ slot ∷ []) n) (sym (ap length held))
    (begun c.make_room.new.places.items c.make_room.new.used.items i.slots.items i.held.items t slot lt none c.new-empty.result c.len-2.result (c.index_mut-2.result.now + 1) place (ap (λ n. n + 1) read)))

pub returns-clause-place : goal.returns-clause-place
returns-clause-place c =
    let i = c.self.inside in
    let slot = c.args.slot in
    let room = c.make_room.ensures in
    let t = grown i.places.items i.used.items i.slots.items c.make_room.new.places.items c.make_room.new.used.items (length i.held.items) c.self.invariant room.few room.grouped room.places room.used in
    let lt : slot < length c.make_room.new.places.items = c.in_ok-make_room.ensures.room in
    let free : chain_at (paired i.slots.items i.held.items) slot ≡ None = ap (λ (v : ChainsValue). chain_at v.entries slot) c.self.view_is ∙ c.requires in
    let none : get_or c.make_room.new.places.items slot 0 ≡ 0 = room.places slot ∙ no_place i.places.items i.used.items i.slots.items i.held.items c.self.invariant slot free in
    let in_group : slot / 64 < length c.make_room.new.used.items = in_used c.make_room.new.places.items c.make_room.new.used.items i.slots.items i.held.items t slot lt in
    let read : c.index_mut-2.result.now ≡ get_or c.make_room.new.used.items (slot / 64) 0 =
    get_or_read_under c.make_room.new.used.items (slot / 64) (length c.make_room.new.used.items) c.index_mut-2.result.now 0 c.index_mut-2.ensures.value in_group refl in
    let place : c.len-2.result ≡ length i.slots.items + 1 = omega arith in
    let slots : c.push_reserved.new.self.items ≡ i.slots.items ++ slot ∷ [] = c.push_reserved.ensures.items ∙ ap (λ l. l ++ slot ∷ []) c.reserve.ensures.items in
    let held : c.push_reserved-2.new.self.items ≡ i.held.items ++ c.new-empty.result ∷ [] = c.push_reserved-2.ensures.items ∙ ap (λ l. l ++ c.new-empty.result ∷ []) c.reserve-2.ensures.items in
    ap is_some (ap (λ ss. chain_at (paired ss c.push_reserved-2.new.self.items) slot) slots ∙ ap (λ hs. chain_at (paired (i.slots.items ++ slot ∷ []) hs) slot) held
    ∙ begun_at c.make_room.new.places.items c.make_room.new.used.items i.slots.items i.held.items t slot lt none c.new-empty.result c.len-2.result (c.index_mut-2.result.now + 1) place (ap (λ n. n + 1) read))

pub returns-clause-others : goal.returns-clause-others
returns-clause-others c =
    let i = c.self.inside in
    let slot = c.args.slot in
    let room = c.make_room.ensures in
    let t = grown i.places.items i.used.items i.slots.items c.make_room.new.places.items c.make_room.new.used.items (length i.held.items) c.self.invariant room.few room.grouped room.places room.used in
    let lt : slot < length c.make_room.new.places.items = c.in_ok-make_room.ensures.room in
    let free : chain_at (paired i.slots.items i.held.items) slot ≡ None = ap (λ (v : ChainsValue). chain_at v.entries slot) c.self.view_is ∙ c.requires in
    let none : get_or c.make_room.new.places.items slot 0 ≡ 0 = room.places slot ∙ no_place i.places.items i.used.items i.slots.items i.held.items c.self.invariant slot free in
    let in_group : slot / 64 < length c.make_room.new.used.items = in_used c.make_room.new.places.items c.make_room.new.used.items i.slots.items i.held.items t slot lt in
    let read : c.index_mut-2.result.now ≡ get_or c.make_room.new.used.items (slot / 64) 0 =
    get_or_read_under c.make_room.new.used.items (slot / 64) (length c.make_room.new.used.items) c.index_mut-2.result.now 0 c.index_mut-2.ensures.value in_group refl in
    let place : c.len-2.result ≡ length i.slots.items + 1 = omega arith in
    let slots : c.push_reserved.new.self.items ≡ i.slots.items ++ slot ∷ [] = c.push_reserved.ensures.items ∙ ap (λ l. l ++ slot ∷ []) c.reserve.ensures.items in
    let held : c.push_reserved-2.new.self.items ≡ i.held.items ++ c.new-empty.result ∷ [] = c.push_reserved-2.ensures.items ∙ ap (λ l. l ++ c.new-empty.result ∷ []) c.reserve-2.ensures.items in
    λ other apart.
    ap (λ ss. chain_at (paired ss c.push_reserved-2.new.self.items) other) slots ∙ ap (λ hs. chain_at (paired (i.slots.items ++ slot ∷ []) hs) other) held
    ∙ begun_others c.make_room.new.places.items c.make_room.new.used.items i.slots.items i.held.items t slot lt none c.new-empty.result c.len-2.result (c.index_mut-2.result.now + 1) place (ap (λ n. n + 1) read) other apart
    ∙ ap (λ (v : ChainsValue). chain_at v.entries other) c.self.view_is
