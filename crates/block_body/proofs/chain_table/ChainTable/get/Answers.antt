use Rattle.std.proofs.Common.{◌∙◌, ◌≡◌, ◌<◌, ◌-◌, length, arith, ap, sym, Some, get_or}
use Rattle.block_body.proofs.Tables.{at_none, place_lt, place_has}
use Rattle.block_body.proofs.chain_table.ChainTable.get.Goals as goal

pub returns-then-place-eq0 : goal.returns-then-place-eq0
returns-then-place-eq0 c =
    let i = c.self.inside in
    let is : c.place_of-place.result ≡ get_or i.places.items c.args.slot 0 = c.place_of-place.ensures ∙ ap (λ l. get_or l c.args.slot 0) c.as_slice.ensures.value in
    rw (← c.self.view_is) (sym (at_none i.places.items i.used.items i.slots.items i.held.items c.self.invariant c.args.slot (sym is ∙ c.if-place-eq0.true)))

pub index-requires : goal.index-requires
index-requires c =
    let i = c.self.inside in
    let is : c.place_of-place.result ≡ get_or i.places.items c.args.slot 0 = c.place_of-place.ensures ∙ ap (λ l. get_or l c.args.slot 0) c.as_slice.ensures.value in
    let lt : c.place_of-place.result - 1 < length i.held.items = place_lt i.places.items i.used.items i.slots.items i.held.items c.self.invariant c.args.slot c.place_of-place.result is c.if-place-eq0.false in
    omega arith

pub returns : goal.returns
returns c =
    let i = c.self.inside in
    let is : c.place_of-place.result ≡ get_or i.places.items c.args.slot 0 = c.place_of-place.ensures ∙ ap (λ l. get_or l c.args.slot 0) c.as_slice.ensures.value in
    rw (← c.self.view_is) (
    ap (λ x. Some x) c.index.ensures
    ∙ sym (place_has i.places.items i.used.items i.slots.items i.held.items c.self.invariant c.args.slot c.place_of-place.result is c.if-place-eq0.false c.index.result.now))
