use Rattle.std.proofs.Common.{arith, refl, sym, subst}
use mathlib.Core.Logic.{inr}
use Rattle.block_spec.specs.Bodies.{seal_fault}
use Rattle.event_spec.specs.declared.event.Event.TheVariants as event
use Rattle.event_spec.specs.Effects.{CoreEvent}
use Rattle.event_spec.specs.Parts.{body_at, is_head}
use Rattle.event_spec.specs.Replies.{CoreReply}
use Rattle.run_spec.specs.Handed.{own_in}
use Rattle.run_spec.specs.Opened.{own_after}
use Rattle.run_spec.specs.Told.{cause_told}
use Rattle.store_laws.specs.Laws.{IsOfSession, TellsLine}
use Rattle.store_laws.specs.Own.{parts_after}
use Rattle.workload_spec.specs.declared.command.Command.TheVariants as command
use Rattle.workload_spec.specs.declared.reply.Said.TheVariants as said
use Rattle.shared_store.specs.Making.{Makes, MayMake}
use Rattle.shared_store.specs.Store.{own_of, reads_of, seen, shape_in}
use Rattle.shared_store.specs.declared.session.Session.{Session}
use Rattle.shared_store.specs.Store.{wrote_of}
use Rattle.shared_store.proofs.Noted.{still}
use Rattle.shared_store.proofs.Calls.{may_make, one_event, told_always}
use Rattle.shared_store.proofs.Freezes.{block_there, seals_tell}
use Rattle.shared_store.proofs.Stays.{call_leaves, seal_asks}
use Rattle.shared_store.proofs.store.Store.seal.Goals as goal

pub make-requires : goal.make-requires
make-requires g c =
    let st = c.args.self.now in
    let s = c.args.session.now in
    let e : CoreEvent = event.Seal c.args.table c.args.block in
    subst (MayMake st s.pass.seat s.pass.hands) (sym c.new-event.ensures)
    (may_make st s e c.requires.session c.requires.room (inr refl) refl tt (λ parts holds stamp. block_there (shape_in st) c.args.table c.args.block c.requires.block))

pub unreachable-requires : goal.unreachable-requires
unreachable-requires g c =
    let st = c.args.self.now in
    let s = c.args.session.now in
    let e : CoreEvent = event.Seal c.args.table c.args.block in
    let mine : IsOfSession s.session e = inr refl in
    let m = subst (λ (e : CoreEvent). Makes st s.session s.pass.seat c.make.new.pass.seat c.make.new.pass.hands (own_of s) e c.make.result) c.new-event.ensures
    (c.make.ensures s.session (own_of s) c.requires.session.stands (subst (IsOfSession s.session) (sym c.new-event.ensures) mine)) in
    let told = told_always st s.session s.pass.seat c.make.new.pass.seat c.make.new.pass.hands (own_of s) e c.make.result m refl in
    let parts = parts_after (shape_in st) m.makes.before in
    seals_tell (seal_fault (is_head (shape_in st) parts c.args.table c.args.block) (body_at (shape_in st) parts c.args.table c.args.block))
    (body_at (shape_in st) parts c.args.table c.args.block).last c.make.result told c.in_default.not-Sealed c.in_default.not-NotSealed

pub returns-in-Sealed : goal.returns-in-Sealed
returns-in-Sealed g c =
    let st = c.args.self.now in
    let s = c.args.session.now in
    let e : CoreEvent = event.Seal c.args.table c.args.block in
    let mine : IsOfSession s.session e = inr refl in
    let asked = command.Seal c.args.table c.args.block in
    let line = said.Sealed c.args.table c.args.block c.in-Sealed.stamp in
    let m = subst (λ (e : CoreEvent). Makes st s.session s.pass.seat c.make.new.pass.seat c.make.new.pass.hands (own_of s) e c.make.result) c.new-event.ensures
    (c.make.ensures s.session (own_of s) c.requires.session.stands (subst (IsOfSession s.session) (sym c.new-event.ensures) mine)) in
    let new : Session = record { pass = c.make.new.pass; session = s.session; snapshot = s.snapshot; writes = s.writes; reads = s.reads; kept = s.kept } in
    let both = one_event st s new asked e c.make.result line c.requires.session refl m refl refl refl (still e refl s.session c.make.result (wrote_of s)) c.requires.session.fits refl (λ made. refl)
    (subst (λ (r : CoreReply). TellsLine (own_of s) asked r line) (sym c.in-Sealed.is) refl) in
    let count = m.count in
    record {
      session = both.0;
      same = refl;
      answers = both.1;
      leaves = call_leaves st s new asked line c.requires.session both.0 refl both.1
          (λ made. seal_asks (shape_in st) (own_after (own_in (shape_in st) s.session (seen s))) (reads_of s) s.session made c.args.table c.args.block);
      few = omega (arith, count);
    }

pub returns-in-NotSealed : goal.returns-in-NotSealed
returns-in-NotSealed g c =
    let st = c.args.self.now in
    let s = c.args.session.now in
    let e : CoreEvent = event.Seal c.args.table c.args.block in
    let mine : IsOfSession s.session e = inr refl in
    let asked = command.Seal c.args.table c.args.block in
    let line = said.NotSealed (cause_told c.in-NotSealed.fault) in
    let m = subst (λ (e : CoreEvent). Makes st s.session s.pass.seat c.make.new.pass.seat c.make.new.pass.hands (own_of s) e c.make.result) c.new-event.ensures
    (c.make.ensures s.session (own_of s) c.requires.session.stands (subst (IsOfSession s.session) (sym c.new-event.ensures) mine)) in
    let new : Session = record { pass = c.make.new.pass; session = s.session; snapshot = s.snapshot; writes = s.writes; reads = s.reads; kept = s.kept } in
    let both = one_event st s new asked e c.make.result line c.requires.session refl m refl refl refl (still e refl s.session c.make.result (wrote_of s)) c.requires.session.fits refl (λ made. refl)
    (subst (λ (r : CoreReply). TellsLine (own_of s) asked r line) (sym c.in-NotSealed.is) refl) in
    let count = m.count in
    record {
      session = both.0;
      same = refl;
      answers = both.1;
      leaves = call_leaves st s new asked line c.requires.session both.0 refl both.1
          (λ made. seal_asks (shape_in st) (own_after (own_in (shape_in st) s.session (seen s))) (reads_of s) s.session made c.args.table c.args.block);
      few = omega (arith, count);
    }
