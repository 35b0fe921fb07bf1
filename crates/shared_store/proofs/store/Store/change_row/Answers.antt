use Rattle.std.proofs.Common.{◌≡◌, ℕ, Option, Result, arith, refl, sym, subst, ◌∙◌}
use Rattle.isolation_spec.specs.Contents.{PlaceMap}
use Rattle.workload_spec.specs.declared.reply.Said.TheVariants as said
use Rattle.shared_store.specs.Changing.{Changes}
use Rattle.shared_store.specs.Open.{StaysOpen}
use Rattle.shared_store.specs.Store.{Answers, IsSession, MakesAtMost, own_of, shape_in}
use Rattle.shared_store.specs.Told.{written_told}
use Rattle.shared_store.specs.declared.session.Session.{Session}
use Rattle.shared_store.proofs.Along.{change_answered}
use Rattle.std.specs.Prelude.{IfOk}
use Rattle.std.specs.declared.alloc.AllocError.{AllocError}
use Rattle.block_spec.specs.Slots.{Row}
use Rattle.run_spec.specs.Commits.{SessionWrites}
use Rattle.shared_store.specs.Commits.{MayLeaveRow, written_behind}
use Rattle.shared_store.specs.Store.{wrote_of}
use Rattle.shared_store.proofs.Noted.{wrote_change}
use Rattle.shared_store.proofs.Calls.{unmade}
use Rattle.shared_store.proofs.Changed.{change_few, changed_call, changed_session}
use Rattle.shared_store.proofs.Wrote.{settled_own}
use Rattle.shared_store.proofs.store.Store.change_row.Given.{Over}
use Rattle.shared_store.proofs.store.Store.change_row.Goals.{In-Err, In-Ok}
use Rattle.shared_store.proofs.ReadSets.{write_reads}
use Rattle.shared_store.proofs.store.Store.change_row.Goals as goal

-- The session made the change.
changes : (g : Over) (c : In-Ok g)
    → Changes c.args.self.now c.args.session.now.session c.args.session.now.pass.seat c.keep_change.new.pass.seat c.keep_change.new.pass.hands (own_of c.args.session.now)
    c.args.place c.args.event c.in-Ok.told
changes g c = let s = c.args.session.now in c.in-Ok.ensures.made s.session (own_of s) c.requires.session.stands c.requires.change

-- The change is kept where it was accepted.
wrote_changed : (g : Over) (c : In-Ok g) → c.keep_change.new.kept ≡ written_behind (changes g c).change.made (wrote_of c.args.session.now)
wrote_changed g c =
    let s = c.args.session.now in
    let kept = c.in-Ok.ensures.keeps in
    let m = changes g c in
    kept.kept
    ∙ sym (wrote_change (shape_in c.args.self.now) c.args.place kept.change c.args.event m.change.made c.in-Ok.told (wrote_of s) m.change.has_made
    (subst (λ (change : Result (Option Row) AllocError). IfOk change (MayLeaveRow (wrote_of s) c.args.place c.args.event)) kept.copied c.requires.leaves))

-- Without memory the session is as it was.
is_same : (g : Over) (c : In-Err g)
    → ◌≡◌ {A = Session} (record { pass = c.keep_change.new.pass; session = c.args.session.now.session; snapshot = c.args.session.now.snapshot; writes = c.keep_change.new.writes; reads = c.args.session.now.reads; kept = c.keep_change.new.kept }) c.args.session.now
is_same g c =
    let s = c.args.session.now in
    subst (λ p. ◌≡◌ {A = Session} (record { pass = p; session = s.session; snapshot = s.snapshot; writes = c.keep_change.new.writes; reads = s.reads; kept = c.keep_change.new.kept }) s) (sym c.in-Err.ensures.none)
    (subst (λ (w : PlaceMap ℕ). ◌≡◌ {A = Session} (record { pass = s.pass; session = s.session; snapshot = s.snapshot; writes = w; reads = s.reads; kept = c.keep_change.new.kept }) s) (sym c.in-Err.ensures.kept)
    (subst (λ (k : Option SessionWrites). ◌≡◌ {A = Session} (record { pass = s.pass; session = s.session; snapshot = s.snapshot; writes = s.writes; reads = s.reads; kept = k }) s) (sym c.in-Err.ensures.left) refl))

pub answer_of-requires : goal.answer_of-requires
answer_of-requires g c = (changes g (goal.at.answer_of-requires g c).In-Ok).change.replies

pub returns-in-Ok-clause-session : goal.returns-in-Ok-clause-session
returns-in-Ok-clause-session g c =
    let s = c.args.session.now in
    let told = c.in-Ok.told in
    let new : Session = record { pass = c.keep_change.new.pass; session = s.session; snapshot = s.snapshot; writes = c.keep_change.new.writes; reads = s.reads; kept = c.keep_change.new.kept } in
    changed_session c.args.self.now s new c.args.place c.args.event told (changes g (goal.at.returns-in-Ok-clause-session g c).In-Ok) refl
    (settled_own s.session s.writes c.keep_change.new.writes c.args.place told s.snapshot c.in-Ok.ensures.writes ∙ sym (c.requires.change.behind told)) c.requires.session.fits

pub returns-in-Ok-clause-answers : goal.returns-in-Ok-clause-answers
returns-in-Ok-clause-answers g c asked by =
    let s = c.args.session.now in
    let new : Session = record { pass = c.keep_change.new.pass; session = s.session; snapshot = s.snapshot; writes = c.keep_change.new.writes; reads = s.reads; kept = c.keep_change.new.kept } in
    changed_call c.args.self.now s new c.args.place c.args.event c.in-Ok.told asked (written_told c.args.place.table c.answer_of.result) c.requires.session
    (changes g (goal.at.returns-in-Ok-clause-answers g c).In-Ok) by (c.answer_of.ensures.tells c.args.place.table)
    (sym (write_reads s.reads asked c.args.place.table c.answer_of.result)) (wrote_changed g (goal.at.returns-in-Ok-clause-answers g c).In-Ok)

pub returns-in-Err-clause-session : goal.returns-in-Err-clause-session
returns-in-Err-clause-session g c = subst (IsSession c.args.self.now) (sym (is_same g (goal.at.returns-in-Err-clause-session g c).In-Err)) c.requires.session

pub returns-in-Err-clause-answers : goal.returns-in-Err-clause-answers
returns-in-Err-clause-answers g c asked by =
    let st = c.args.self.now in
    let s = c.args.session.now in
    subst (λ (later : Session). Answers st s later asked said.Memory) (sym (is_same g (goal.at.returns-in-Err-clause-answers g c).In-Err))
    (unmade st s s.writes asked c.requires.session by.granted by.may)

pub returns-in-Ok-clause-writes : goal.returns-in-Ok-clause-writes
returns-in-Ok-clause-writes g c change is =
    let s = c.args.session.now in
    let new : Session = record { pass = c.keep_change.new.pass; session = s.session; snapshot = s.snapshot; writes = c.keep_change.new.writes; reads = s.reads; kept = c.keep_change.new.kept } in
    change_answered c.args.self.now s new c.args.place change c.in-Ok.told c.answer_of.result refl (λ busy. busy) c.answer_of.ensures.accepted
    ((changes g (goal.at.returns-in-Ok-clause-writes g c).In-Ok).change.writes change is)

pub returns-in-Ok-clause-few : goal.returns-in-Ok-clause-few
returns-in-Ok-clause-few g c =
    let m = changes g (goal.at.returns-in-Ok-clause-few g c).In-Ok in
    let count = m.change.count in
    let few = change_few (shape_in c.args.self.now) c.args.place c.args.event m.change.made c.in-Ok.told m.change.has_made in
    omega (arith, count, few)

pub returns-in-Err-clause-writes : goal.returns-in-Err-clause-writes
returns-in-Err-clause-writes g c change is =
    subst (StaysOpen c.args.self.now c.args.session.now) (sym (is_same g (goal.at.returns-in-Err-clause-writes g c).In-Err)) (λ commits own held. held)

pub returns-in-Err-clause-few : goal.returns-in-Err-clause-few
returns-in-Err-clause-few g c =
    subst (MakesAtMost 2 c.args.session.now) (sym (is_same g (goal.at.returns-in-Err-clause-few g c).In-Err)) (omega arith)
