use Rattle.std.proofs.Common.{◌≡◌, ◌+◌, sym, subst, arith}
use Rattle.store_rounds.specs.Duties.{AreWithWorkers}
use Rattle.store_rounds.proofs.Duties.{no_workers, worker_more}
use Rattle.store_rounds.proofs.duty.add_workers.Goals as goal

pub loop-at-init : goal.loop-at-init
loop-at-init c = record { duties = no_workers c.args.crew c.args.number c.args.duties.now.items; high = omega arith }

pub loop-at-preserved : goal.loop-at-preserved
loop-at-preserved c = record {
  duties = subst (AreWithWorkers c.args.crew c.args.number (c.loop-at.«at» + 1) c.args.duties.now.items) (sym c.in_ok-push.ensures.items)
      (worker_more c.args.crew c.args.number c.loop-at.«at» c.args.duties.now.items c.loop-at.duties.items c.new.result c.loop-at.invariant.duties c.new.ensures);
  high = omega (arith, c.loop-at-test.true);
}

pub returns : goal.returns
returns c =
    subst (λ n. AreWithWorkers c.args.crew c.args.number n c.args.duties.now.items c.loop-at.duties.items)
    (let e : c.loop-at.«at» ≡ c.args.crew.workers = omega (arith, c.loop-at.invariant.high, c.loop-at-test.false) in e) c.loop-at.invariant.duties
