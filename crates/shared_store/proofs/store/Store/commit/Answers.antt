use Rattle.std.proofs.Common.{◌≡◌, arith, Option, None, Some, refl, sym, ap, subst, ◌∙◌}
use mathlib.Core.Logic.{inl}
use Rattle.event_spec.specs.declared.event.Event.TheVariants as event
use Rattle.event_spec.specs.declared.own.OwnTransaction.{OwnTransaction}
use Rattle.event_spec.specs.Effects.{CoreEvent, stale_in}
use Rattle.event_spec.specs.Replies.{CoreReply}
use Rattle.run_spec.specs.Asked.{events_of}
use Rattle.run_spec.specs.Told.{refusal_of, stale_of}
use Rattle.store_laws.specs.Laws.{IsOfSession, TellsLine}
use Rattle.store_laws.specs.Own.{MakesOne, parts_after}
use Rattle.workload_spec.specs.declared.command.Command.TheVariants as command
use Rattle.workload_spec.specs.declared.reply.Said.TheVariants as said
use Rattle.shared_store.specs.Making.{Makes, MayMake}
use Rattle.shared_store.specs.Reads.{ReadsFit}
use Rattle.shared_store.specs.Store.{own_of, reads_of, seen, shape_in}
use Rattle.shared_store.specs.declared.session.Session.{Session}
use Rattle.shared_store.specs.Store.{wrote_of}
use Rattle.shared_store.proofs.Noted.{wrote_commit, wrote_stale}
use Rattle.shared_store.proofs.Calls.{may_make, one_event, own_stands, told_always}
use Rattle.shared_store.proofs.Open.{commits_own, commits_stale}
use Rattle.shared_store.proofs.ReadSets.{commit_tells, plain_stands}
use Rattle.shared_store.proofs.store.Store.commit.Given.{Over}
use Rattle.shared_store.proofs.store.Store.commit.Goals.{After-ending-event, After-make_at_desk}
use Rattle.shared_store.proofs.store.Store.commit.Goals as goal

-- The event hands in all that the session wrote and read.
is_commit : (g : Over) (c : After-ending-event g) → c.ending-event.result ≡ event.Commit c.own_all-own.result (reads_of c.args.session.now)
is_commit g c = c.ending-event.ensures ∙ ap (event.Commit c.own_all-own.result) c.share-reads.ensures

mine : (g : Over) (c : After-ending-event g) → IsOfSession c.args.session.now.session (event.Commit c.own_all-own.result (reads_of c.args.session.now))
mine g c = inl (ap Some (own_stands c.args.self.now c.args.session.now c.own_all-own.result c.requires.session c.own_all-own.ensures).0)

-- The session made it.
makes : (g : Over) (c : After-make_at_desk g) → c.ending-event.result ≡ event.Commit c.own_all-own.result (reads_of c.args.session.now)
    → IsOfSession c.args.session.now.session (event.Commit c.own_all-own.result (reads_of c.args.session.now))
    → Makes c.args.self.now c.args.session.now.session c.args.session.now.pass.seat c.make_at_desk.new.pass.seat c.make_at_desk.new.pass.hands (own_of c.args.session.now)
    (event.Commit c.own_all-own.result (reads_of c.args.session.now)) c.make_at_desk.result
makes g c is own =
    let s = c.args.session.now in
    subst (λ (e : CoreEvent). Makes c.args.self.now s.session s.pass.seat c.make_at_desk.new.pass.seat c.make_at_desk.new.pass.hands (own_of s) e c.make_at_desk.result) is
    (c.make_at_desk.ensures s.session (own_of s) c.requires.session.stands (subst (IsOfSession s.session) (sym is) own))

pub make_at_desk-requires-clause-may : goal.make_at_desk-requires-clause-may
make_at_desk-requires-clause-may g c =
    let st = c.args.self.now in
    let s = c.args.session.now in
    let t = c.own_all-own.result in
    let at' = (goal.at.make_at_desk-requires-clause-may g c).After-ending-event in
    subst (MayMake st s.pass.seat s.pass.hands) (sym (is_commit g at'))
    (may_make st s (event.Commit t (reads_of s)) c.requires.session c.requires.room (mine g at') refl
    (own_stands st s t c.requires.session c.own_all-own.ensures).1 (λ parts holds stamp. (stamp, c.requires.session.fits)))

pub unreachable-requires : goal.unreachable-requires
unreachable-requires g c =
    let st = c.args.self.now in
    let s = c.args.session.now in
    let t = c.own_all-own.result in
    let at' = (goal.at.unreachable-requires g c).After-ending-event in
    let m = makes g (goal.at.unreachable-requires g c).After-make_at_desk (is_commit g at') (mine g at') in
    let parts = parts_after (shape_in st) m.makes.before in
    commit_tells (shape_in st) parts t (stale_in (shape_in st) parts t (reads_of s)) c.make_at_desk.result
    (told_always st s.session s.pass.seat c.make_at_desk.new.pass.seat c.make_at_desk.new.pass.hands (own_of s) (event.Commit t (reads_of s)) c.make_at_desk.result m refl)
    (λ number is. c.in_default.not-Committed number is) (λ what number is. c.in_default.not-Stale what number is)

pub returns-in-Committed : goal.returns-in-Committed
returns-in-Committed g c =
    let st = c.args.self.now in
    let s = c.args.session.now in
    let t = c.own_all-own.result in
    let at' = (goal.at.returns-in-Committed g c).After-ending-event in
    let m = makes g (goal.at.returns-in-Committed g c).After-make_at_desk (is_commit g at') (mine g at') in
    let new : Session = record { pass = c.make_at_desk.new.pass; session = s.session; snapshot = None; writes = s.writes; reads = c.forget.new.self; kept = c.commit.new.self } in
    let both = one_event st s new command.Commit (event.Commit t (reads_of s)) c.make_at_desk.result (said.Committed c.in-Committed.number) c.requires.session refl m refl
    (ap (Rattle.run_spec.specs.Opened.committed_by (own_of s)) (sym c.in-Committed.is)) c.forget.ensures (wrote_commit t (reads_of s) c.in-Committed.number c.make_at_desk.result c.in-Committed.is s.session c.commit.new.self (wrote_of s) c.commit.ensures) (subst (ReadsFit (shape_in st)) (sym c.forget.ensures) tt)
    (ap (refusal_of command.Commit) c.own_all-own.ensures) (λ made. ap (λ (o : Option OwnTransaction). events_of (shape_in st) o (reads_of s) s.session command.Commit made) c.own_all-own.ensures)
    (subst (λ (r : CoreReply). TellsLine (own_of s) command.Commit r (said.Committed c.in-Committed.number)) (sym c.in-Committed.is) refl) in
    let count = m.count in
    record {
      session = both.0;
      same = refl;
      answers = both.1;
      rests = refl;
      commits = commits_own st s new t c.requires.session both.0 refl (own_stands st s t c.requires.session c.own_all-own.ensures).0 c.in-Committed.number
          (subst (λ (r : CoreReply). MakesOne (shape_in st) s.session (seen s) (seen new) (event.Commit t (reads_of s)) r) c.in-Committed.is m.makes);
      plain = λ plain. refl;
      few = omega (arith, count);
    }

pub returns-in-Stale : goal.returns-in-Stale
returns-in-Stale g c =
    let st = c.args.self.now in
    let s = c.args.session.now in
    let t = c.own_all-own.result in
    let at' = (goal.at.returns-in-Stale g c).After-ending-event in
    let m = makes g (goal.at.returns-in-Stale g c).After-make_at_desk (is_commit g at') (mine g at') in
    let new : Session = record { pass = c.make_at_desk.new.pass; session = s.session; snapshot = s.snapshot; writes = s.writes; reads = s.reads; kept = s.kept } in
    let both = one_event st s new command.Commit (event.Commit t (reads_of s)) c.make_at_desk.result (said.Stale (stale_of c.in-Stale.read) c.in-Stale.number) c.requires.session refl m refl
    (ap (Rattle.run_spec.specs.Opened.committed_by (own_of s)) (sym c.in-Stale.is)) refl (wrote_stale t (reads_of s) c.in-Stale.read c.in-Stale.number c.make_at_desk.result c.in-Stale.is s.session (wrote_of s)) c.requires.session.fits
    (ap (refusal_of command.Commit) c.own_all-own.ensures) (λ made. ap (λ (o : Option OwnTransaction). events_of (shape_in st) o (reads_of s) s.session command.Commit made) c.own_all-own.ensures)
    (subst (λ (r : CoreReply). TellsLine (own_of s) command.Commit r (said.Stale (stale_of c.in-Stale.read) c.in-Stale.number)) (sym c.in-Stale.is) refl) in
    let count = m.count in
    record {
      session = both.0;
      same = refl;
      answers = both.1;
      rests = tt;
      commits = commits_stale st s new t c.requires.session both.0 refl (own_stands st s t c.requires.session c.own_all-own.ensures).0 (record { read = c.in-Stale.read; number = c.in-Stale.number })
          (subst (λ (r : CoreReply). MakesOne (shape_in st) s.session (seen s) (seen new) (event.Commit t (reads_of s)) r) c.in-Stale.is m.makes) refl refl;
      plain = λ plain. absurd (plain_stands (shape_in st) (parts_after (shape_in st) m.makes.before) t (reads_of s) c.in-Stale.read c.in-Stale.number plain
          (sym c.in-Stale.is ∙ told_always st s.session s.pass.seat c.make_at_desk.new.pass.seat c.make_at_desk.new.pass.hands (own_of s) (event.Commit t (reads_of s)) c.make_at_desk.result m refl));
      few = omega (arith, count);
    }
