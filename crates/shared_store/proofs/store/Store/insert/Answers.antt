use Rattle.std.proofs.Common.{arith, ◌≡◌, ◌∷◌, [], ℕ, Result, Option, Some, option_map, refl, sym, ap, subst, ◌∙◌}
use mathlib.Core.Logic.{inl}
use Rattle.block_spec.specs.Slots.{Row}
use Rattle.event_spec.specs.declared.event.Event.TheVariants as event
use Rattle.event_spec.specs.declared.own.OwnTransaction.{OwnTransaction}
use Rattle.event_spec.specs.Effects.{CoreEvent, insert_judged}
use Rattle.isolation_spec.specs.Contents.{PlaceMap, key_of, place_of}
use Rattle.isolation_spec.specs.declared.place.Place.{Place}
use Rattle.run_spec.specs.Asked.{events_of}
use Rattle.run_spec.specs.Opened.{own_key}
use Rattle.run_spec.specs.Told.{refusal_of}
use Rattle.store_laws.specs.Laws.{IsOfSession}
use Rattle.store_laws.specs.Own.{parts_after}
use Rattle.workload_spec.specs.declared.command.Command.TheVariants as command
use Rattle.workload_spec.specs.declared.reply.Said.TheVariants as said
use Rattle.shared_store.specs.Making.{Makes, MayMake}
use Rattle.shared_store.specs.Open.{StaysOpen}
use Rattle.shared_store.specs.Store.{Answers, IsSession, MakesAtMost, own_of, shape_in}
use Rattle.shared_store.specs.Told.{written_told}
use Rattle.shared_store.specs.Writing.{IsWriteReply, fault_answered, settled}
use Rattle.shared_store.specs.declared.session.Session.{Session}
use Rattle.std.specs.Prelude.{IfOk}
use Rattle.std.specs.declared.alloc.AllocError.{AllocError}
use Rattle.event_spec.specs.Parts.{Parts}
use Rattle.outcome_spec.specs.Entries.{is_accepted}
use Rattle.run_spec.specs.Commits.{SessionWrites, says}
use Rattle.store_laws.specs.Own.{occurrence_at}
use Rattle.shared_store.specs.KeptCommits.{with_change}
use Rattle.shared_store.specs.Commits.{MayLeaveRow, written_behind}
use Rattle.shared_store.specs.Store.{wrote_of}
use Rattle.shared_store.proofs.Noted.{leaves_copy, wrote_one}
use Rattle.shared_store.proofs.Calls.{key_handed, key_stands, may_make, one_event, own_open, own_stands, told_or_memory, unmade, written_there}
use Rattle.shared_store.proofs.Wrote.{fits_there, settled_own, tells_write, writes_reply}
use Rattle.shared_store.proofs.Full.{found_full}
use Rattle.shared_store.proofs.Open.{busy_of, inserts_row, shut_of}
use Rattle.shared_store.proofs.store.Store.insert.Given.{Over}
use Rattle.shared_store.proofs.store.Store.insert.Goals.{After-answer_of, After-new-event, In-Err, In-Ok}
use Rattle.shared_store.proofs.ReadSets.{write_reads}
use Rattle.shared_store.proofs.store.Store.insert.Goals as goal

-- The insert of a row by one who has this open.
abbrev inserting : OwnTransaction → ℕ → Row → CoreEvent
inserting own table row = event.Insert (own_key table (key_of row) own) table row

-- What the event is handed is of the session's open transaction.
is_handed : (g : Over) (c : After-new-event g) → c.own_key-own.result ≡ own_key c.args.table (key_of c.args.row) (own_open c.args.session.now c.requires.busy).0
is_handed g c =
    let s = c.args.session.now in
    let o = own_open s c.requires.busy in
    key_handed c.args.table (key_of c.args.row) (own_of s) o.0 c.own_key-own.result o.1
    (subst (λ (place : Place). option_map (own_key place.table place.key) (own_of s) ≡ Some c.own_key-own.result) c.place_in-place.ensures.place c.own_key-own.ensures)

-- The event is that insert.
is_insert : (g : Over) (c : After-new-event g) → c.new-event.result ≡ inserting (own_open c.args.session.now c.requires.busy).0 c.args.table c.args.row
is_insert g c = c.new-event.ensures ∙ ap (λ x. event.Insert x c.args.table c.args.row) (is_handed g c)

-- It is one of the session.
mine : (g : Over) (c : After-new-event g) → IsOfSession c.args.session.now.session (inserting (own_open c.args.session.now c.requires.busy).0 c.args.table c.args.row)
mine g c =
    let o = own_open c.args.session.now c.requires.busy in
    inl (ap Some (own_stands c.args.self.now c.args.session.now o.0 c.requires.session o.1).0)

-- The session made it.
makes : (g : Over) (c : In-Ok g) → c.new-event.result ≡ inserting (own_open c.args.session.now c.requires.busy).0 c.args.table c.args.row
    → IsOfSession c.args.session.now.session (inserting (own_open c.args.session.now c.requires.busy).0 c.args.table c.args.row)
    → Makes c.args.self.now c.args.session.now.session c.args.session.now.pass.seat c.keep_write.new.pass.seat c.keep_write.new.pass.hands (own_of c.args.session.now)
    (inserting (own_open c.args.session.now c.requires.busy).0 c.args.table c.args.row) c.in-Ok.told
makes g c same own =
    let s = c.args.session.now in
    subst (λ (e : CoreEvent). Makes c.args.self.now s.session s.pass.seat c.keep_write.new.pass.seat c.keep_write.new.pass.hands (own_of s) e c.in-Ok.told) same
    (c.in-Ok.ensures.made s.session (own_of s) c.requires.session.stands (subst (IsOfSession s.session) (sym same) own))

-- It replied as a write does.
replies : (g : Over) (c : In-Ok g)
    → Makes c.args.self.now c.args.session.now.session c.args.session.now.pass.seat c.keep_write.new.pass.seat c.keep_write.new.pass.hands (own_of c.args.session.now)
    (inserting (own_open c.args.session.now c.requires.busy).0 c.args.table c.args.row) c.in-Ok.told
    → IsWriteReply c.in-Ok.told
replies g c m =
    let st = c.args.self.now in
    let s = c.args.session.now in
    let o = own_open s c.requires.busy in
    writes_reply c.in-Ok.told
    (insert_judged (shape_in st) (parts_after (shape_in st) m.makes.before) (own_key c.args.table (key_of c.args.row) o.0) c.args.table (key_of c.args.row))
    (told_or_memory st s.session s.pass.seat c.keep_write.new.pass.seat c.keep_write.new.pass.hands (own_of s) (inserting o.0 c.args.table c.args.row) c.in-Ok.told m)

-- The row is kept where the insert was accepted.
wrote_insert : (g : Over) (c : After-answer_of g) (parts : Parts)
    → c.keep_write.new.kept ≡ written_behind
    (occurrence_at c.args.session.now.session parts (inserting (own_open c.args.session.now c.requires.busy).0 c.args.table c.args.row) c.in-Ok.told ∷ []) (wrote_of c.args.session.now)
wrote_insert g c parts =
    let s = c.args.session.now in
    let o = own_open s c.requires.busy in
    let kept = c.in-Ok.ensures.keeps in
    let leaves = subst (λ (copy : Result (Option Row) AllocError). IfOk copy (MayLeaveRow (wrote_of s) (place_of c.args.table c.args.row) (inserting o.0 c.args.table c.args.row))) kept.copied
    (leaves_copy c.copy-copy.result (wrote_of s) (place_of c.args.table c.args.row) c.args.row (inserting o.0 c.args.table c.args.row) c.copy-copy.ensures (record { own = λ own told. refl; none = λ own told. refl })) in
    kept.kept
    ∙ ap (λ p. option_map (with_change p kept.change (says is_accepted c.in-Ok.told)) (wrote_of s)) c.place_in-place.ensures.place
    ∙ sym (wrote_one (place_of c.args.table c.args.row) kept.change (inserting o.0 c.args.table c.args.row) c.in-Ok.told s.session parts (wrote_of s) leaves)

-- The session behind it, and the answer.
answered : (g : Over) (c : After-answer_of g)
    → Makes c.args.self.now c.args.session.now.session c.args.session.now.pass.seat c.keep_write.new.pass.seat c.keep_write.new.pass.hands (own_of c.args.session.now)
    (inserting (own_open c.args.session.now c.requires.busy).0 c.args.table c.args.row) c.in-Ok.told
    → IsSession c.args.self.now (record { pass = c.keep_write.new.pass; session = c.args.session.now.session; snapshot = c.args.session.now.snapshot; writes = c.keep_write.new.writes; reads = c.args.session.now.reads; kept = c.keep_write.new.kept })
    × Answers c.args.self.now c.args.session.now
    (record { pass = c.keep_write.new.pass; session = c.args.session.now.session; snapshot = c.args.session.now.snapshot; writes = c.keep_write.new.writes; reads = c.args.session.now.reads; kept = c.keep_write.new.kept })
    (command.Insert c.args.table c.args.row) (written_told c.args.table c.answer_of.result)
answered g c m =
    let st = c.args.self.now in
    let s = c.args.session.now in
    let o = own_open s c.requires.busy in
    let asked = command.Insert c.args.table c.args.row in
    let told = c.in-Ok.told in
    let line = written_told c.args.table c.answer_of.result in
    let new : Session = record { pass = c.keep_write.new.pass; session = s.session; snapshot = s.snapshot; writes = c.keep_write.new.writes; reads = s.reads; kept = c.keep_write.new.kept } in
    let wrote : c.keep_write.new.writes ≡ settled s.writes (place_of c.args.table c.args.row) told = c.in-Ok.ensures.writes ∙ ap (λ p. settled s.writes p told) c.place_in-place.ensures.place in
    one_event st s new asked (inserting o.0 c.args.table c.args.row) told line c.requires.session refl m refl
    (settled_own s.session s.writes c.keep_write.new.writes (place_of c.args.table c.args.row) told s.snapshot wrote)
    (sym (write_reads s.reads asked c.args.table c.answer_of.result)) (wrote_insert g c) c.requires.session.fits
    (ap (refusal_of asked) o.1) (λ made. ap (λ (x : Option OwnTransaction). events_of (shape_in st) x s.reads s.session asked made) o.1)
    (tells_write (own_of s) asked c.args.table told line refl refl (c.answer_of.ensures.tells c.args.table))

-- Without memory the session is as it was.
is_same : (g : Over) (c : In-Err g)
    → ◌≡◌ {A = Session} (record { pass = c.keep_write.new.pass; session = c.args.session.now.session; snapshot = c.args.session.now.snapshot; writes = c.keep_write.new.writes; reads = c.args.session.now.reads; kept = c.keep_write.new.kept }) c.args.session.now
is_same g c =
    let s = c.args.session.now in
    subst (λ p. ◌≡◌ {A = Session} (record { pass = p; session = s.session; snapshot = s.snapshot; writes = c.keep_write.new.writes; reads = s.reads; kept = c.keep_write.new.kept }) s) (sym c.in-Err.ensures.none)
    (subst (λ (w : PlaceMap ℕ). ◌≡◌ {A = Session} (record { pass = s.pass; session = s.session; snapshot = s.snapshot; writes = w; reads = s.reads; kept = c.keep_write.new.kept }) s) (sym c.in-Err.ensures.kept)
    (subst (λ (k : Option SessionWrites). ◌≡◌ {A = Session} (record { pass = s.pass; session = s.session; snapshot = s.snapshot; writes = s.writes; reads = s.reads; kept = k }) s) (sym c.in-Err.ensures.left) refl))

pub keep_write-requires-clause-may : goal.keep_write-requires-clause-may
keep_write-requires-clause-may g c =
    let st = c.args.self.now in
    let s = c.args.session.now in
    let o = own_open s c.requires.busy in
    let at' = (goal.at.keep_write-requires-clause-may g c).After-new-event in
    subst (MayMake st s.pass.seat s.pass.hands) (sym (is_insert g at'))
    (may_make st s (inserting o.0 c.args.table c.args.row) c.requires.session c.requires.room (mine g at') refl
    (key_stands st s o.0 c.args.table (key_of c.args.row) c.requires.session o.1)
    (λ parts holds stamp. fits_there (shape_in st) c.args.table c.args.row c.requires.fits))

pub keep_write-requires-clause-had : goal.keep_write-requires-clause-had
keep_write-requires-clause-had g c =
    let s = c.args.session.now in
    let o = own_open s c.requires.busy in
    let at' = (goal.at.keep_write-requires-clause-had g c).After-new-event in
    written_there s o.0 c.args.table (key_of c.args.row) c.place_in-place.result c.own_key-own.result c.is_some-had.result o.1 (is_handed g at') c.is_some-had.ensures c.place_in-place.ensures.place

pub answer_of-requires : goal.answer_of-requires
answer_of-requires g c =
    let at' = (goal.at.answer_of-requires g c).After-new-event in
    let done = (goal.at.answer_of-requires g c).In-Ok in
    replies g done (makes g done (is_insert g at') (mine g at'))

pub returns-in-Ok-clause-session : goal.returns-in-Ok-clause-session
returns-in-Ok-clause-session g c =
    let at' = (goal.at.returns-in-Ok-clause-session g c).After-new-event in
    let done = (goal.at.returns-in-Ok-clause-session g c).In-Ok in
    (answered g (goal.at.returns-in-Ok-clause-session g c).After-answer_of (makes g done (is_insert g at') (mine g at'))).0

pub returns-in-Ok-clause-answers : goal.returns-in-Ok-clause-answers
returns-in-Ok-clause-answers g c =
    let at' = (goal.at.returns-in-Ok-clause-answers g c).After-new-event in
    let done = (goal.at.returns-in-Ok-clause-answers g c).In-Ok in
    (answered g (goal.at.returns-in-Ok-clause-answers g c).After-answer_of (makes g done (is_insert g at') (mine g at'))).1

pub returns-in-Ok-clause-writes : goal.returns-in-Ok-clause-writes
returns-in-Ok-clause-writes g c =
    let st = c.args.self.now in
    let s = c.args.session.now in
    let o = own_open s c.requires.busy in
    let at' = (goal.at.returns-in-Ok-clause-writes g c).After-new-event in
    let done = (goal.at.returns-in-Ok-clause-writes g c).In-Ok in
    let m = makes g done (is_insert g at') (mine g at') in
    let new : Session = record { pass = c.keep_write.new.pass; session = s.session; snapshot = s.snapshot; writes = c.keep_write.new.writes; reads = s.reads; kept = c.keep_write.new.kept } in
    inserts_row st s new (own_key c.args.table (key_of c.args.row) o.0) c.args.table c.args.row c.in-Ok.told c.answer_of.result c.requires.session
    (answered g (goal.at.returns-in-Ok-clause-writes g c).After-answer_of m).0 refl
    (own_stands st s o.0 c.requires.session o.1).0 m.makes (busy_of new (shut_of s c.requires.busy)) (replies g done m) c.answer_of.ensures.accepted

pub returns-in-Ok-clause-few : goal.returns-in-Ok-clause-few
returns-in-Ok-clause-few g c =
    let at' = (goal.at.returns-in-Ok-clause-few g c).After-new-event in
    let count = (makes g (goal.at.returns-in-Ok-clause-few g c).In-Ok (is_insert g at') (mine g at')).count in
    omega (arith, count)

pub returns-in-Ok-clause-full : goal.returns-in-Ok-clause-full
returns-in-Ok-clause-full g c inserts is =
    let st = c.args.self.now in
    let s = c.args.session.now in
    let o = own_open s c.requires.busy in
    let at' = (goal.at.returns-in-Ok-clause-full g c).After-new-event in
    let m = makes g (goal.at.returns-in-Ok-clause-full g c).In-Ok (is_insert g at') (mine g at') in
    let new : Session = record { pass = c.keep_write.new.pass; session = s.session; snapshot = s.snapshot; writes = c.keep_write.new.writes; reads = s.reads; kept = c.keep_write.new.kept } in
    found_full st s new (own_key c.args.table (key_of c.args.row) o.0) c.args.table c.args.row c.in-Ok.told inserts c.place_in-place.ensures.measures
    (answered g (goal.at.returns-in-Ok-clause-full g c).After-answer_of m).0 m (sym c.answer_of.ensures.fault ∙ ap fault_answered is)

pub returns-in-Err-clause-session : goal.returns-in-Err-clause-session
returns-in-Err-clause-session g c = subst (IsSession c.args.self.now) (sym (is_same g (goal.at.returns-in-Err-clause-session g c).In-Err)) c.requires.session

pub returns-in-Err-clause-answers : goal.returns-in-Err-clause-answers
returns-in-Err-clause-answers g c =
    let st = c.args.self.now in
    let s = c.args.session.now in
    let o = own_open s c.requires.busy in
    let asked = command.Insert c.args.table c.args.row in
    subst (λ (later : Session). Answers st s later asked said.Memory) (sym (is_same g (goal.at.returns-in-Err-clause-answers g c).In-Err))
    (unmade st s s.writes asked c.requires.session (ap (refusal_of asked) o.1) refl)

pub returns-in-Err-clause-writes : goal.returns-in-Err-clause-writes
returns-in-Err-clause-writes g c =
    let st = c.args.self.now in
    let s = c.args.session.now in
    subst (λ (later : Session). StaysOpen st s later) (sym (is_same g (goal.at.returns-in-Err-clause-writes g c).In-Err)) (λ commits own open'. open')

pub returns-in-Err-clause-few : goal.returns-in-Err-clause-few
returns-in-Err-clause-few g c =
    let s = c.args.session.now in
    subst (λ (later : Session). MakesAtMost 1 s later) (sym (is_same g (goal.at.returns-in-Err-clause-few g c).In-Err)) (omega arith)
