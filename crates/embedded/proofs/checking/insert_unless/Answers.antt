use Rattle.std.proofs.Common.{Ok, refl, subst, ◌+◌, ◌*◌, arith}
use Rattle.std.specs.Int.{w64}
use Rattle.std.proofs.lemmas.Int.{to_z-of_z}
use Rattle.isolation_spec.specs.Contents.{place_at, place_of}
use Rattle.store_laws.proofs.Stepping.{more_again}
use Rattle.shared_store.specs.Open.{commits_seen}
use Rattle.embedded.specs.Checking.{IsInsertedOrUnwritten}
use Rattle.embedded.specs.declared.checking.Tried.{Tried}
use Rattle.embedded.proofs.Tries.{error_unwritten, if_tried, more_calls, no_call, no_more, seen_behind, told_room, unwritten_on}
use Rattle.embedded.proofs.checking.insert_unless.Goals as goal

pub returns-in_default : goal.returns-in_default
returns-in_default g c =
    let st = c.args.store.now in
    let room = c.has_room.ensures.0 c.if-not-has_room.false in
    let from = c.from.ensures in
    record {
      session = c.try_once.ensures.session;
      few = omega (arith, c.loop.invariant.made, c.try_once.ensures.few, c.loop-test.true);
      rests = c.try_once.ensures.rests;
      tried = if_tried st c.args.session.now c.loop.session c.try_once.new.session c.try_once.new.session c.args.table _ c.args.watched _ c.args.row.now (Ok c.in_ok-ended.ended)
          (to_z-of_z w64 c.args.watched c.ranges.watched) refl c.loop.invariant.seen (no_more (commits_seen st c.try_once.new.session)) c.in_ok-ended.ensures.tried;
      unwritten = unwritten_on st c.args.session.now c.loop.session c.try_once.new.session c.try_once.new.session (Ok c.in_ok-ended.ended) c.loop.invariant.unwritten (no_call st c.try_once.new.session) c.in_ok-ended.ensures.unwritten;
      no_room = told_room c.args.session.now (5 * (c.args.retries + 1)) (omega (arith, room, from)) c.in_ok-ended.ended;
      unmoved = λ same. cc;
    }

pub loop-init : goal.loop-init
loop-init g c =
    let st = c.args.store.now in
    record {
      session = c.requires.session;
      rests = c.requires.rests;
      seen = no_more (commits_seen st c.args.session.now);
      unwritten = no_call st c.args.session.now;
      made = omega (arith);
    }

pub loop-preserved : goal.loop-preserved
loop-preserved g c =
    let st = c.args.store.now in
    record {
      session = c.try_once.ensures.session;
      rests = c.try_once.ensures.rests;
      seen = more_again (commits_seen st c.args.session.now) (commits_seen st c.loop.session) (commits_seen st c.try_once.new.session) c.loop.invariant.seen
          (seen_behind st c.loop.session c.try_once.new.session (place_at c.args.table _) (place_of c.args.table c.args.row.now) c.args.row.now c.in_ok-ended.ended c.in_ok-ended.ensures.tried);
      unwritten = more_calls st c.args.session.now c.loop.session c.try_once.new.session c.loop.invariant.unwritten (subst (λ (answer : Tried). IsInsertedOrUnwritten st c.loop.session c.try_once.new.session (Ok answer)) c.in-Overtaken.is c.in_ok-ended.ensures.unwritten);
      made = omega (arith, c.loop.invariant.made, c.try_once.ensures.few);
    }

pub returns-clause-tried : goal.returns-clause-tried
returns-clause-tried g c =
    let st = c.args.store.now in
    if_tried st c.args.session.now c.loop.session c.try_once-2.new.session c.try_once-2.new.session c.args.table _ c.args.watched _ c.args.row.now c.try_once-2.result
    (to_z-of_z w64 c.args.watched c.ranges.watched) refl c.loop.invariant.seen (no_more (commits_seen st c.try_once-2.new.session)) c.try_once-2.ensures.tried

pub returns-clause-unwritten : goal.returns-clause-unwritten
returns-clause-unwritten g c =
    let st = c.args.store.now in
    unwritten_on st c.args.session.now c.loop.session c.try_once-2.new.session c.try_once-2.new.session c.try_once-2.result c.loop.invariant.unwritten (no_call st c.try_once-2.new.session) c.try_once-2.ensures.unwritten

pub returns-in_err-ended-clause-unwritten : goal.returns-in_err-ended-clause-unwritten
returns-in_err-ended-clause-unwritten g c =
    let st = c.args.store.now in
    error_unwritten st c.args.session.now c.try_once.new.session c.from_residual.result c.from_residual.ensures.0
    (more_calls st c.args.session.now c.loop.session c.try_once.new.session c.loop.invariant.unwritten c.in_err-ended.ensures.unwritten)
