use Rattle.std.proofs.Common.{◌≡◌, Bool, true, false, refl, sym, ap, ◌∙◌, arith}
use Rattle.engine_core.proofs.Asked.{thawed_where}
use Rattle.event_spec.specs.declared.reply.Reply.TheVariants as reply
use Rattle.event_spec.specs.Replies.{CoreReply}
use Rattle.run_spec.specs.Calls.{is_memory}
use Rattle.store_laws.specs.Own.{parts_after}
use Rattle.shared_store.specs.Making.{IsFew, parts_seen}
use Rattle.shared_store.specs.Store.{shape_in}
use Rattle.shared_store.proofs.Changed.{agrees_here, covered_still, made_alone, made_both, made_none, may_thaw, may_write, row_here, thawed_now}
use Rattle.shared_store.proofs.Made.{memory_is}
use Rattle.shared_store.proofs.store.Store.change_held.Goals as goal

not_memory : (told : CoreReply) → (told ≡ reply.Memory → ⊥) → is_memory told ≡ false
not_memory told never = go (is_memory told) refl
  where
    go : (r : Bool) → is_memory told ≡ r → r ≡ false
    go true is = absurd (never (memory_is told is))
    go false is = refl

pub imaged_at-requires-clause-parts : goal.imaged_at-requires-clause-parts
imaged_at-requires-clause-parts g c =
    let r = c.requires in
    let t = c.args.pass.now in
    row_here c.args.self.now r.session t.seat t.hands r.own c.args.place c.args.event r.within r.change r.covers

pub make_on-requires : goal.make_on-requires
make_on-requires g c =
    let st = c.args.self.now in
    let r = c.requires in
    let t = c.args.pass.now in
    let agrees = agrees_here st r.session t.seat t.hands r.own c.args.place c.args.event r.within r.change r.covers in
    let now = parts_seen (shape_in st) t.seat.me.0 in
    let few : IsFew t.seat.me.0 = let f = r.few in omega (arith, f) in
    may_write st r.session t.seat t.hands r.own c.args.place c.args.event r.within r.change r.covers
    (thawed_where (shape_in st) now c.args.place.table c.args.place.key (sym (c.imaged_at.ensures now agrees) ∙ c.in_default.is)) few

pub returns-in_default : goal.returns-in_default
returns-in_default g c session own within change covers =
    let st = c.args.self.now in
    let t = c.args.pass.now in
    let u = c.make_on.new.pass in
    let m = c.make_on.ensures 0 session own within change.mine in
    made_alone st session own c.args.place c.args.event change t.seat u.seat t.hands u.hands c.make_on.result m
    (sym (c.imaged_at.ensures (parts_after (shape_in st) m.makes.before) m.agrees) ∙ c.in_default.is)

pub thaw_held-requires : goal.thaw_held-requires
thaw_held-requires g c =
    let st = c.args.self.now in
    let r = c.requires in
    let t = c.args.pass.now in
    let agrees = agrees_here st r.session t.seat t.hands r.own c.args.place c.args.event r.within r.change r.covers in
    let now = parts_seen (shape_in st) t.seat.me.0 in
    let few : IsFew t.seat.me.0 = let f = r.few in omega (arith, f) in
    may_thaw st r.session t.seat t.hands r.own c.args.place c.args.event r.within r.change r.covers c.in-Some.block (sym (c.imaged_at.ensures now agrees) ∙ c.in-Some.is) few

pub returns-in-Memory : goal.returns-in-Memory
returns-in-Memory g c session own within change covers =
    let st = c.args.self.now in
    let t = c.args.pass.now in
    let u = c.thaw_held.new.pass in
    let n = c.thaw_held.ensures session own within in
    made_none st session own c.args.place c.args.event change t.seat u.seat t.hands u.hands c.in-Some.block c.thaw_held.result n
    (sym (c.imaged_at.ensures (parts_after (shape_in st) n.makes.before) n.agrees) ∙ c.in-Some.is)
    (ap is_memory c.in-Memory.is)

pub make_on-requires-2 : goal.make_on-requires-2
make_on-requires-2 g c =
    let st = c.args.self.now in
    let r = c.requires in
    let t = c.args.pass.now in
    let u = c.thaw_held.new.pass in
    let n = c.thaw_held.ensures r.session r.own r.within in
    let granted = not_memory c.thaw_held.result c.in_default-thaw_held.not-Memory in
    let is = sym (c.imaged_at.ensures (parts_after (shape_in st) n.makes.before) n.agrees) ∙ c.in-Some.is in
    let few : IsFew u.seat.me.0 = let f = r.few in let more = n.count in omega (arith, f, more) in
    may_write st r.session u.seat u.hands r.own c.args.place c.args.event n.within r.change
    (covered_still st r.session t.seat u.seat t.hands u.hands r.own c.args.place c.args.event r.within r.change r.covers c.in-Some.block c.thaw_held.result n granted is)
    (thawed_now st r.session t.seat u.seat t.hands u.hands r.own c.args.place c.args.event r.within r.change r.covers c.in-Some.block c.thaw_held.result n granted is)
    few

pub returns : goal.returns
returns g c session own within change covers =
    let st = c.args.self.now in
    let t = c.args.pass.now in
    let u = c.thaw_held.new.pass in
    let w = c.make_on-2.new.pass in
    let n = c.thaw_held.ensures session own within in
    let granted = not_memory c.thaw_held.result c.in_default-thaw_held.not-Memory in
    let is = sym (c.imaged_at.ensures (parts_after (shape_in st) n.makes.before) n.agrees) ∙ c.in-Some.is in
    made_both st session own c.args.place c.args.event change t.seat u.seat t.hands u.hands c.in-Some.block c.thaw_held.result n is granted
    w.seat w.hands c.make_on-2.result (c.make_on-2.ensures 0 session own n.within change.mine)
