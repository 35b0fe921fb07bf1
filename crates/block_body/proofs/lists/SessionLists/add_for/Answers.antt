use Rattle.std.proofs.Common.{◌≡◌, ◌∙◌, true, Some, position, get_or, slice_set, ap, sym}
use Rattle.std.proofs.lemmas.Result.{on_ok_weaker}
use Rattle.block_body.specs.Bodies.{SessionSlots, SlotLists, is_of, slots_of}
use Rattle.block_body.specs.Chains.{is_listed}
use Rattle.block_body.proofs.SessionLists.{own, set_listed, set_more}
use Rattle.block_body.proofs.lists.SessionLists.add_for.Goals as goal

pub returns-in-Some-clause-added : goal.returns-in-Some-clause-added
returns-in-Some-clause-added c =
    let at = c.in-Some.place in
    let x = c.push.new.self in
    let stands : position (is_of c.args.session) c.args.self.now ≡ Some at = sym c.in-Some.ensures.place in
    let there : c.index_mut.result.now ≡ get_or c.args.self.now at c.index_mut.result.now =
    c.index_mut.ensures.value ∙ ap (λ (l : SlotLists). get_or l at c.index_mut.result.now) c.self.view_is in
    let of : x.session ≡ c.args.session = c.push.ensures.session ∙ ap (λ (l : SessionSlots). l.session) there ∙ own c.args.session c.args.self.now at stands c.index_mut.result.now in
    on_ok_weaker c.push.result
    (λ (is : is_listed x.slots c.args.slot ≡ true).
    ap (λ (l : SlotLists). is_listed (slots_of (slice_set l at x) c.args.session) c.args.slot) c.self.view_is
    ∙ set_listed c.args.session c.args.self.now at stands x of c.args.slot is)
    c.push.ensures.added

pub returns-in-Some-clause-more : goal.returns-in-Some-clause-more
returns-in-Some-clause-more c = λ other number listed.
    let at = c.in-Some.place in
    let x = c.push.new.self in
    let stands : position (is_of c.args.session) c.args.self.now ≡ Some at = sym c.in-Some.ensures.place in
    let there : c.index_mut.result.now ≡ get_or c.args.self.now at c.index_mut.result.now =
    c.index_mut.ensures.value ∙ ap (λ (l : SlotLists). get_or l at c.index_mut.result.now) c.self.view_is in
    let of : x.session ≡ c.args.session = c.push.ensures.session ∙ ap (λ (l : SessionSlots). l.session) there ∙ own c.args.session c.args.self.now at stands c.index_mut.result.now in
    ap (λ (l : SlotLists). is_listed (slots_of (slice_set l at x) other) number) c.self.view_is
    ∙ set_more c.args.session c.args.self.now at stands x of c.index_mut.result.now
    (λ n is. c.push.ensures.more n (ap (λ (l : SessionSlots). is_listed l.slots n) there ∙ is))
    other number listed
