use Rattle.std.proofs.Common.{Option, arith, refl, sym, subst}
use Rattle.event_spec.specs.Parts.{body_at}
use Rattle.event_spec.specs.Replies.{CoreReply}
use Rattle.run_spec.specs.Handed.{own_in}
use Rattle.run_spec.specs.Opened.{own_after}
use Rattle.store_laws.specs.Laws.{TellsLine}
use Rattle.store_laws.specs.Own.{parts_after}
use Rattle.workload_spec.specs.declared.command.Command.TheVariants.{Gather}
use Rattle.workload_spec.specs.declared.reply.Said.TheVariants as said
use Rattle.shared_store.specs.Freezing.{Imaged, imaging}
use Rattle.shared_store.specs.Store.{own_of, reads_of, seen, shape_in}
use Rattle.shared_store.specs.declared.session.Session.{Session}
use Rattle.shared_store.proofs.Calls.{told_or_memory}
use Rattle.shared_store.proofs.Imagings.{gathered_none, gathered_whole, images_tell, none_is}
use Rattle.shared_store.proofs.Stays.{call_few, call_leaves, gather_asks}
use Rattle.shared_store.proofs.store.Store.gather.Goals as goal

pub unreachable-requires : goal.unreachable-requires
unreachable-requires g c =
    let st = c.args.self.now in
    let s = c.args.session.now in
    let new : Session = record { pass = c.image.new.pass; session = s.session; snapshot = s.snapshot; writes = s.writes; reads = s.reads; kept = s.kept } in
    let all = subst (λ (o : Option CoreReply). Imaged st s.session s.pass.seat new.pass.seat new.pass.hands (own_of s) c.args.table c.args.block o) c.in-Some.is (c.image.ensures s.session (own_of s) c.requires.session.stands) in
    let told = told_or_memory st s.session s.pass.seat new.pass.seat new.pass.hands (own_of s) (imaging c.args.table c.args.block all.image) c.in-Some.told all.makes in
    let body = body_at (shape_in st) (parts_after (shape_in st) all.makes.makes.before) c.args.table c.args.block in
    images_tell body.phase body c.in-Some.told told c.in_default-told.not-Imaged c.in_default-told.not-NoSeal c.in_default-told.not-Memory

pub returns-in_default : goal.returns-in_default
returns-in_default g c =
    let st = c.args.self.now in
    let s = c.args.session.now in
    let new : Session = record { pass = c.image.new.pass; session = s.session; snapshot = s.snapshot; writes = s.writes; reads = s.reads; kept = s.kept } in
    let none = none_is c.image.result c.in_default.not-Some in
    let all = subst (λ (o : Option CoreReply). Imaged st s.session s.pass.seat new.pass.seat new.pass.hands (own_of s) c.args.table c.args.block o) none (c.image.ensures s.session (own_of s) c.requires.session.stands) in
    let line = said.Memory in
    let both = gathered_none st s new c.args.table c.args.block c.requires.session all refl refl (refl, c.requires.session.fits) in
    record {
      session = both.0;
      same = refl;
      answers = both.1;
      leaves = call_leaves st s new (Gather c.args.table c.args.block) line c.requires.session both.0 refl both.1
          (λ made. gather_asks (shape_in st) (own_after (own_in (shape_in st) s.session (seen s))) (reads_of s) s.session made c.args.table c.args.block);
      few = call_few st s new (Gather c.args.table c.args.block) line 1 both.1 (λ made. omega arith);
    }

pub returns-in-Imaged : goal.returns-in-Imaged
returns-in-Imaged g c =
    let st = c.args.self.now in
    let s = c.args.session.now in
    let new : Session = record { pass = c.image.new.pass; session = s.session; snapshot = s.snapshot; writes = s.writes; reads = s.reads; kept = s.kept } in
    let all = subst (λ (o : Option CoreReply). Imaged st s.session s.pass.seat new.pass.seat new.pass.hands (own_of s) c.args.table c.args.block o) c.in-Some.is (c.image.ensures s.session (own_of s) c.requires.session.stands) in
    let line = said.Frozen c.args.table c.args.block c.in-Imaged.rows in
    let both = gathered_whole st s new c.args.table c.args.block c.in-Some.told line c.requires.session all refl refl (refl, c.requires.session.fits) (λ reads. refl)
    (subst (λ (r : CoreReply). TellsLine (own_of s) (Gather c.args.table c.args.block) r line) (sym c.in-Imaged.is) refl) in
    record {
      session = both.0;
      same = refl;
      answers = both.1;
      leaves = call_leaves st s new (Gather c.args.table c.args.block) line c.requires.session both.0 refl both.1
          (λ made. gather_asks (shape_in st) (own_after (own_in (shape_in st) s.session (seen s))) (reads_of s) s.session made c.args.table c.args.block);
      few = call_few st s new (Gather c.args.table c.args.block) line 1 both.1 (λ made. omega arith);
    }

pub returns-in-NoSeal : goal.returns-in-NoSeal
returns-in-NoSeal g c =
    let st = c.args.self.now in
    let s = c.args.session.now in
    let new : Session = record { pass = c.image.new.pass; session = s.session; snapshot = s.snapshot; writes = s.writes; reads = s.reads; kept = s.kept } in
    let all = subst (λ (o : Option CoreReply). Imaged st s.session s.pass.seat new.pass.seat new.pass.hands (own_of s) c.args.table c.args.block o) c.in-Some.is (c.image.ensures s.session (own_of s) c.requires.session.stands) in
    let line = said.NotFrozen in
    let both = gathered_whole st s new c.args.table c.args.block c.in-Some.told line c.requires.session all refl refl (refl, c.requires.session.fits) (λ reads. refl)
    (subst (λ (r : CoreReply). TellsLine (own_of s) (Gather c.args.table c.args.block) r line) (sym c.in-NoSeal.is) refl) in
    record {
      session = both.0;
      same = refl;
      answers = both.1;
      leaves = call_leaves st s new (Gather c.args.table c.args.block) line c.requires.session both.0 refl both.1
          (λ made. gather_asks (shape_in st) (own_after (own_in (shape_in st) s.session (seen s))) (reads_of s) s.session made c.args.table c.args.block);
      few = call_few st s new (Gather c.args.table c.args.block) line 1 both.1 (λ made. omega arith);
    }

pub returns-in-Memory : goal.returns-in-Memory
returns-in-Memory g c =
    let st = c.args.self.now in
    let s = c.args.session.now in
    let new : Session = record { pass = c.image.new.pass; session = s.session; snapshot = s.snapshot; writes = s.writes; reads = s.reads; kept = s.kept } in
    let all = subst (λ (o : Option CoreReply). Imaged st s.session s.pass.seat new.pass.seat new.pass.hands (own_of s) c.args.table c.args.block o) c.in-Some.is (c.image.ensures s.session (own_of s) c.requires.session.stands) in
    let line = said.Memory in
    let both = gathered_whole st s new c.args.table c.args.block c.in-Some.told line c.requires.session all refl refl (refl, c.requires.session.fits) (λ reads. refl)
    (subst (λ (r : CoreReply). TellsLine (own_of s) (Gather c.args.table c.args.block) r line) (sym c.in-Memory.is) (refl, refl)) in
    record {
      session = both.0;
      same = refl;
      answers = both.1;
      leaves = call_leaves st s new (Gather c.args.table c.args.block) line c.requires.session both.0 refl both.1
          (λ made. gather_asks (shape_in st) (own_after (own_in (shape_in st) s.session (seen s))) (reads_of s) s.session made c.args.table c.args.block);
      few = call_few st s new (Gather c.args.table c.args.block) line 1 both.1 (λ made. omega arith);
    }
