use Rattle.std.proofs.Common.{ℕ, refl, sym, ap, ◌∙◌, arith}
use mathlib.Core.Logic.{inr}
use Rattle.event_spec.specs.declared.reply.Reply.TheVariants as reply
use Rattle.event_spec.specs.Effects.{CoreEvent}
use Rattle.event_spec.specs.Replies.{CoreReply}
use Rattle.shared_store.specs.Keeping.{beside_prune}
use Rattle.shared_store.specs.Pruning.{pruning}
use Rattle.shared_store.specs.Store.{own_of, shape_in}
use Rattle.shared_store.specs.declared.session.Session.{Session}
use Rattle.shared_store.proofs.Calls.{told_always}
use Rattle.shared_store.proofs.Kept.{prune_on_block}
use Rattle.shared_store.proofs.Rested.{alone_kept, kept_by, kept_on}
use Rattle.shared_store.proofs.store.Store.prune_block.Goals as goal

abbrev dropped : ℕ → CoreReply
dropped count = reply.Dropped count

pub make_keeping-requires : goal.make_keeping-requires
make_keeping-requires g c =
    let st = c.args.self.now in
    let s = c.args.session.now in
    let r = c.requires in
    let room = r.room in
    let e : CoreEvent = pruning c.args.oldest c.args.table c.args.block in
    record {
      session = s.session;
      own = own_of s;
      within = r.keeping.within;
      common = beside_prune c.args.table;
      has = r.block;
      on = prune_on_block (shape_in st) c.args.table c.args.block c.args.oldest;
      keeps = r.keeping.keeps;
      mine = inr refl;
      thawless = refl;
      stands = r.oldest;
      fits = λ parts holds stamp. r.block;
      few = omega (arith, room);
    }

pub unreachable-requires : goal.unreachable-requires
unreachable-requires g c =
    let st = c.args.self.now in
    let s = c.args.session.now in
    let e : CoreEvent = pruning c.args.oldest c.args.table c.args.block in
    let new = c.make_keeping.new.pass in
    let m = kept_by st (beside_prune c.args.table) c.args.table c.args.block s new.seat new.hands e e c.make_keeping.result c.requires.keeping
    (prune_on_block (shape_in st) c.args.table c.args.block c.args.oldest) refl refl c.make_keeping.ensures in
    c.in_default.not-Dropped _ (told_always st s.session s.pass.seat _ _ (own_of s) e c.make_keeping.result m.makes refl)

pub returns-clause-keeping : goal.returns-clause-keeping
returns-clause-keeping g c =
    let st = c.args.self.now in
    let s = c.args.session.now in
    let e : CoreEvent = pruning c.args.oldest c.args.table c.args.block in
    let new : Session = record { pass = c.make_keeping.new.pass; session = s.session; snapshot = s.snapshot; writes = s.writes; reads = s.reads; kept = s.kept } in
    let m = kept_by st (beside_prune c.args.table) c.args.table c.args.block s new.pass.seat new.pass.hands e e c.make_keeping.result c.requires.keeping
    (prune_on_block (shape_in st) c.args.table c.args.block c.args.oldest) refl refl c.make_keeping.ensures in
    kept_on st (beside_prune c.args.table) c.args.block s new e c.make_keeping.result m refl refl c.requires.keeping.fits refl

pub returns-clause-prunes : goal.returns-clause-prunes
returns-clause-prunes g c =
    let st = c.args.self.now in
    let s = c.args.session.now in
    let e : CoreEvent = pruning c.args.oldest c.args.table c.args.block in
    let new : Session = record { pass = c.make_keeping.new.pass; session = s.session; snapshot = s.snapshot; writes = s.writes; reads = s.reads; kept = s.kept } in
    let m = kept_by st (beside_prune c.args.table) c.args.table c.args.block s new.pass.seat new.pass.hands e e c.make_keeping.result c.requires.keeping
    (prune_on_block (shape_in st) c.args.table c.args.block c.args.oldest) refl refl c.make_keeping.ensures in
    alone_kept st (beside_prune c.args.table) s new e c.make_keeping.result (reply.Dropped c.get.result) m (c.in-Dropped.is ∙ ap dropped (sym c.get.ensures.number)) refl refl (refl, c.requires.keeping.fits) refl
