use Rattle.std.proofs.Common.{◌∙◌, ◌≡◌, ◌<◌, ◌-◌, ap, sym, Some, get_or, length, is_some, arith}
use Rattle.block_body.proofs.Tables.{at_none, place_lt, place_has, set_here, set_other}
use Rattle.block_body.proofs.chain_table.ChainTable.take.Goals as goal

pub returns-then-place-eq0-clause-chain : goal.returns-then-place-eq0-clause-chain
returns-then-place-eq0-clause-chain c =
    let i = c.self.inside in
    let is : c.place_of-place.result ≡ get_or i.places.items c.args.slot 0 = c.place_of-place.ensures ∙ ap (λ l. get_or l c.args.slot 0) c.as_slice.ensures.value in
    rw (← c.self.view_is) (sym (at_none i.places.items i.used.items i.slots.items i.held.items c.self.invariant c.args.slot (sym is ∙ c.if-place-eq0.true)))

pub index_mut-requires : goal.index_mut-requires
index_mut-requires c =
    let i = c.self.inside in
    let is : c.place_of-place.result ≡ get_or i.places.items c.args.slot 0 = c.place_of-place.ensures ∙ ap (λ l. get_or l c.args.slot 0) c.as_slice.ensures.value in
    let lt : c.place_of-place.result - 1 < length i.held.items = place_lt i.places.items i.used.items i.slots.items i.held.items c.self.invariant c.args.slot c.place_of-place.result is c.if-place-eq0.false in
    omega arith

pub returns-clause-chain : goal.returns-clause-chain
returns-clause-chain c =
    let i = c.self.inside in
    let is : c.place_of-place.result ≡ get_or i.places.items c.args.slot 0 = c.place_of-place.ensures ∙ ap (λ l. get_or l c.args.slot 0) c.as_slice.ensures.value in
    rw (← c.self.view_is) (
    ap (λ x. Some x) (c.replace.ensures.value ∙ c.index_mut.ensures.value)
    ∙ sym (place_has i.places.items i.used.items i.slots.items i.held.items c.self.invariant c.args.slot c.place_of-place.result is c.if-place-eq0.false c.index_mut.result.now))

pub returns-clause-place : goal.returns-clause-place
returns-clause-place c =
    let i = c.self.inside in
    let is : c.place_of-place.result ≡ get_or i.places.items c.args.slot 0 = c.place_of-place.ensures ∙ ap (λ l. get_or l c.args.slot 0) c.as_slice.ensures.value in
    rw (← c.self.view_is) (
    ap is_some (set_here i.places.items i.used.items i.slots.items i.held.items c.self.invariant c.args.slot c.place_of-place.result is c.if-place-eq0.false c.replace.new.dest)
    ∙ sym (ap is_some (place_has i.places.items i.used.items i.slots.items i.held.items c.self.invariant c.args.slot c.place_of-place.result is c.if-place-eq0.false c.index_mut.result.now)))

pub returns-clause-others : goal.returns-clause-others
returns-clause-others c =
    let i = c.self.inside in
    let is : c.place_of-place.result ≡ get_or i.places.items c.args.slot 0 = c.place_of-place.ensures ∙ ap (λ l. get_or l c.args.slot 0) c.as_slice.ensures.value in
    rw (← c.self.view_is) (set_other i.places.items i.used.items i.slots.items i.held.items c.self.invariant c.args.slot c.place_of-place.result is c.if-place-eq0.false c.replace.new.dest)
