use Rattle.std.proofs.Common.{arith, ◌≡◌, ℕ, ℤ, Option, None, Some, option_map, true, ⊎_elim, refl, sym, ap, subst, ◌∙◌}
use mathlib.Core.Logic.{inl, inr}
use Rattle.std.specs.Prelude.{Result, Ok, Err, is_some}
use Rattle.std.specs.Int.{w64}
use Rattle.std.proofs.lemmas.Int.{to_z-of_z}
use Rattle.event_spec.specs.declared.event.Event.TheVariants as event
use Rattle.event_spec.specs.declared.own.OwnTransaction.{OwnTransaction}
use Rattle.event_spec.specs.Effects.{CoreEvent}
use Rattle.event_spec.specs.Replies.{CoreReply}
use Rattle.isolation_spec.specs.Contents.{place_at}
use Rattle.event_spec.specs.Lawful.{HasTable}
use Rattle.block_spec.specs.Slots.{Row}
use Rattle.run_spec.specs.Asked.{events_of}
use Rattle.run_spec.specs.Calls.{reads_behind}
use Rattle.run_spec.specs.Opened.{own_key}
use Rattle.run_spec.specs.Told.{refusal_of, row_told}
use Rattle.store_laws.specs.Laws.{IsOfSession, TellsLine}
use Rattle.store_laws.specs.Own.{MakesOne}
use Rattle.workload_spec.specs.declared.command.Command.TheVariants as command
use Rattle.workload_spec.specs.declared.reply.Said.TheVariants as said
use Rattle.shared_store.specs.Making.{Makes, MayMake}
use Rattle.shared_store.specs.Open.{FindsRow, IsOpen}
use Rattle.shared_store.specs.Reads.{ReadSet, ReadsFit, read_by}
use Rattle.shared_store.specs.Told.{found_replied, found_told}
use Rattle.shared_store.specs.Store.{Answers, IsSession, MakesAtMost, StoreView, own_of, reads_of, seen, shape_in}
use Rattle.shared_store.specs.declared.session.Session.{Session}
use Rattle.shared_store.specs.Store.{wrote_of}
use Rattle.shared_store.proofs.Noted.{still}
use Rattle.shared_store.proofs.Calls.{key_handed, key_stands, may_make, one_event, own_open, own_stands, told_or_memory, unmade}
use Rattle.shared_store.proofs.Open.{finds_nothing, finds_row}
use Rattle.shared_store.proofs.ReadSets.{got_fits}
use Rattle.shared_store.proofs.store.Store.get.Given.{Over}
use Rattle.shared_store.proofs.store.Store.get.Goals.{After-new-event, After-row_of, In-Err, In-Ok}
use Rattle.shared_store.proofs.store.Store.get.Goals as goal

-- The get of a row by one who has this open.
abbrev getting : OwnTransaction → ℕ → ℤ → CoreEvent
getting own table key = event.Get (own_key table key own) table key

-- what was found is told by its line
tells_found : {E : Type 0} (own : Option OwnTransaction) (table : ℕ) (key : ℤ) (told : CoreReply) (result : Result (Option Row) E) → told ≡ found_replied result
    → TellsLine own (command.Get table key) told (found_told result)
tells_found own table key told (Ok row) is = subst (λ (r : CoreReply). TellsLine own (command.Get table key) r (row_told row)) (sym is) refl
tells_found own table key told (Err memory) is = subst (λ (r : CoreReply). TellsLine own (command.Get table key) r said.Memory) (sym is) (refl, refl)

-- and what was read
tells_read : {E : Type 0} (reads : Option ReadSet) (table : ℕ) (key : ℤ) (result : Result (Option Row) E)
    → read_by (place_at table key) (found_replied result) reads ≡ reads_behind reads (command.Get table key) (found_told result)
tells_read reads table key (Ok (Some row)) = refl
tells_read reads table key (Ok None) = refl
tells_read reads table key (Err memory) = refl

-- The session behind it, and the answer.
answered : {E : Type 0} (st : StoreView) (s new : Session) (t : OwnTransaction) (table : ℕ) (key : ℤ) (told : CoreReply) (result : Result (Option Row) E)
    → IsSession st s → own_of s ≡ Some t → HasTable (shape_in st) table
    → Makes st s.session s.pass.seat new.pass.seat new.pass.hands (own_of s) (getting t table key) told
    → new.session ≡ s.session → own_of new ≡ own_of s
    → reads_of new ≡ read_by (place_at table key) told (reads_of s)
    → wrote_of new ≡ wrote_of s
    → told ≡ found_replied result
    → IsSession st new × Answers st s new (command.Get table key) (found_told result)
answered st s new t table key told result is opened has m same kept read wrote found =
    one_event st s new (command.Get table key) (getting t table key) told (found_told result) is refl m same kept
    (read ∙ ap (λ r. read_by (place_at table key) r (reads_of s)) found ∙ tells_read (reads_of s) table key result)
    (λ parts. wrote ∙ still (getting t table key) refl s.session told (wrote_of s) parts)
    (subst (ReadsFit (shape_in st)) (sym read) (got_fits (shape_in st) (place_at table key) told (reads_of s) has is.fits))
    (ap (refusal_of (command.Get table key)) opened)
    (λ made. ap (λ (x : Option OwnTransaction). events_of (shape_in st) x (reads_of s) s.session (command.Get table key) made) opened)
    (tells_found (own_of s) table key told result found)

-- What was found is the row that the transaction sees.
finds : {E : Type 0} (st : StoreView) (s new : Session) (t : OwnTransaction) (table : ℕ) (key : ℤ) (told : CoreReply) (result : Result (Option Row) E)
    → IsSession st s → IsSession st new → new.session ≡ s.session → t.session ≡ s.session
    → MakesOne (shape_in st) s.session (seen s) (seen new) (getting t table key) told
    → is_some (own_of new) ≡ true → told ≡ found_replied result → FindsRow st s new table key result
finds st s new t table key told (Ok row) is later same mine m busy found =
    finds_row st s new (own_key table key t) table key row is later same mine
    (subst (λ (r : CoreReply). MakesOne (shape_in st) s.session (seen s) (seen new) (getting t table key) r) found m) busy
finds st s new t table key told (Err memory) is later same mine m busy found =
    finds_nothing st s new (own_key table key t) table key memory is later same
    (subst (λ (r : CoreReply). MakesOne (shape_in st) s.session (seen s) (seen new) (getting t table key) r) found m) busy

-- without an event what is open stays so
finds_stays : {E : Type 0} (st : StoreView) (s later : Session) (table : ℕ) (key : ℤ) (memory : E) → later ≡ s → FindsRow st s later table key (Err memory)
finds_stays st s later table key memory same commits own open' = record { is_open = subst (λ (x : Session). IsOpen st x commits own) (sym same) open'; row = tt }

-- The event is that get, and one of the session.
is_getting : (g : Over) (c : After-new-event g) → c.new-event.result ≡ getting (own_open c.args.session.now c.requires.busy).0 c.args.table c.args.key
is_getting g c =
    let s = c.args.session.now in
    let o = own_open s c.requires.busy in
    let given = subst (λ (key : ℤ). option_map (own_key c.args.table key) (own_of s) ≡ Some c.own_key-own.result) (to_z-of_z w64 c.args.key c.ranges.key) c.own_key-own.ensures in
    let handed = key_handed c.args.table c.args.key (own_of s) o.0 c.own_key-own.result o.1 given in
    subst (λ (key : ℤ). c.new-event.result ≡ event.Get c.own_key-own.result c.args.table key) (to_z-of_z w64 c.args.key c.ranges.key) c.new-event.ensures
    ∙ ap (λ x. event.Get x c.args.table c.args.key) handed

mine : (g : Over) (c : After-new-event g) → IsOfSession c.args.session.now.session (getting (own_open c.args.session.now c.requires.busy).0 c.args.table c.args.key)
mine g c =
    let o = own_open c.args.session.now c.requires.busy in
    inl (ap Some (own_stands c.args.self.now c.args.session.now o.0 c.requires.session o.1).0)

-- The session made it.
makes : (g : Over) (c : In-Ok g) → c.new-event.result ≡ getting (own_open c.args.session.now c.requires.busy).0 c.args.table c.args.key
    → IsOfSession c.args.session.now.session (getting (own_open c.args.session.now c.requires.busy).0 c.args.table c.args.key)
    → Makes c.args.self.now c.args.session.now.session c.args.session.now.pass.seat c.make_get.new.pass.seat c.make_get.new.pass.hands (own_of c.args.session.now)
    (getting (own_open c.args.session.now c.requires.busy).0 c.args.table c.args.key) c.in-Ok.told
makes g c is own =
    let s = c.args.session.now in
    subst (λ (e : CoreEvent). Makes c.args.self.now s.session s.pass.seat c.make_get.new.pass.seat c.make_get.new.pass.hands (own_of s) e c.in-Ok.told) is
    (c.in-Ok.ensures.made s.session (own_of s) c.requires.session.stands (subst (IsOfSession s.session) (sym is) own))

-- Without memory the session is as it was.
is_same : (g : Over) (c : In-Err g) → ◌≡◌ {A = Session} (record { pass = c.make_get.new.pass; session = c.args.session.now.session; snapshot = c.args.session.now.snapshot; writes = c.args.session.now.writes; reads = c.make_get.new.reads; kept = c.args.session.now.kept }) c.args.session.now
is_same g c =
    let s = c.args.session.now in
    subst (λ p. ◌≡◌ {A = Session} (record { pass = p; session = s.session; snapshot = s.snapshot; writes = s.writes; reads = c.make_get.new.reads; kept = s.kept }) s) (sym c.in-Err.ensures.none)
    (subst (λ (r : Option ReadSet). ◌≡◌ {A = Session} (record { pass = s.pass; session = s.session; snapshot = s.snapshot; writes = s.writes; reads = r; kept = s.kept }) s) (sym c.in-Err.ensures.kept) refl)

pub make_get-requires : goal.make_get-requires
make_get-requires g c =
    let st = c.args.self.now in
    let s = c.args.session.now in
    let o = own_open s c.requires.busy in
    let at' = (goal.at.make_get-requires g c).After-new-event in
    subst (MayMake st s.pass.seat s.pass.hands) (sym (is_getting g at'))
    (may_make st s (getting o.0 c.args.table c.args.key) c.requires.session c.requires.room (mine g at') refl
    (key_stands st s o.0 c.args.table c.args.key c.requires.session o.1) (λ parts holds stamp. c.requires.table))

pub row_of-requires : goal.row_of-requires
row_of-requires g c =
    let st = c.args.self.now in
    let s = c.args.session.now in
    let o = own_open s c.requires.busy in
    let at' = (goal.at.row_of-requires g c).After-new-event in
    let m = makes g (goal.at.row_of-requires g c).In-Ok (is_getting g at') (mine g at') in
    ⊎_elim inl (λ r. inr (_, r))
    (told_or_memory st s.session s.pass.seat c.make_get.new.pass.seat c.make_get.new.pass.hands (own_of s) (getting o.0 c.args.table c.args.key) c.in-Ok.told m)

-- The session and the answer where the event was made.
both : (g : Over) (c : After-row_of g)
    → Makes c.args.self.now c.args.session.now.session c.args.session.now.pass.seat c.make_get.new.pass.seat c.make_get.new.pass.hands (own_of c.args.session.now)
    (getting (own_open c.args.session.now c.requires.busy).0 c.args.table c.args.key) c.in-Ok.told
    → IsSession c.args.self.now (record { pass = c.make_get.new.pass; session = c.args.session.now.session; snapshot = c.args.session.now.snapshot; writes = c.args.session.now.writes; reads = c.make_get.new.reads; kept = c.args.session.now.kept })
    × Answers c.args.self.now c.args.session.now (record { pass = c.make_get.new.pass; session = c.args.session.now.session; snapshot = c.args.session.now.snapshot; writes = c.args.session.now.writes; reads = c.make_get.new.reads; kept = c.args.session.now.kept })
    (command.Get c.args.table c.args.key) (found_told c.row_of.result)
both g c m =
    let s = c.args.session.now in
    let o = own_open s c.requires.busy in
    answered c.args.self.now s (record { pass = c.make_get.new.pass; session = s.session; snapshot = s.snapshot; writes = s.writes; reads = c.make_get.new.reads; kept = s.kept }) o.0 c.args.table c.args.key c.in-Ok.told c.row_of.result c.requires.session o.1 c.requires.table m refl refl
    (subst (λ (key : ℤ). c.make_get.new.reads ≡ read_by (place_at c.args.table key) c.in-Ok.told s.reads) (to_z-of_z w64 c.args.key c.ranges.key) c.in-Ok.ensures.reads)
    refl c.row_of.ensures

pub returns-in-Ok-clause-session : goal.returns-in-Ok-clause-session
returns-in-Ok-clause-session g c =
    let at' = goal.at.returns-in-Ok-clause-session g c in
    (both g at'.After-row_of (makes g at'.In-Ok (is_getting g at'.After-new-event) (mine g at'.After-new-event))).0

pub returns-in-Ok-clause-answers : goal.returns-in-Ok-clause-answers
returns-in-Ok-clause-answers g c =
    let at' = goal.at.returns-in-Ok-clause-answers g c in
    (both g at'.After-row_of (makes g at'.In-Ok (is_getting g at'.After-new-event) (mine g at'.After-new-event))).1

pub returns-in-Ok-clause-finds : goal.returns-in-Ok-clause-finds
returns-in-Ok-clause-finds g c =
    let st = c.args.self.now in
    let s = c.args.session.now in
    let o = own_open s c.requires.busy in
    let at' = goal.at.returns-in-Ok-clause-finds g c in
    let m = makes g at'.In-Ok (is_getting g at'.After-new-event) (mine g at'.After-new-event) in
    finds st s (record { pass = c.make_get.new.pass; session = s.session; snapshot = s.snapshot; writes = s.writes; reads = c.make_get.new.reads; kept = s.kept }) o.0 c.args.table c.args.key c.in-Ok.told c.row_of.result c.requires.session
    (both g at'.After-row_of m).0 refl (own_stands st s o.0 c.requires.session o.1).0 m.makes c.requires.busy c.row_of.ensures

pub returns-in-Ok-clause-few : goal.returns-in-Ok-clause-few
returns-in-Ok-clause-few g c =
    let at' = goal.at.returns-in-Ok-clause-few g c in
    let count = (makes g at'.In-Ok (is_getting g at'.After-new-event) (mine g at'.After-new-event)).count in
    omega (arith, count)

pub returns-in-Err-clause-session : goal.returns-in-Err-clause-session
returns-in-Err-clause-session g c = subst (IsSession c.args.self.now) (sym (is_same g (goal.at.returns-in-Err-clause-session g c).In-Err)) c.requires.session

pub returns-in-Err-clause-answers : goal.returns-in-Err-clause-answers
returns-in-Err-clause-answers g c =
    let st = c.args.self.now in
    let s = c.args.session.now in
    let o = own_open s c.requires.busy in
    let asked = command.Get c.args.table c.args.key in
    subst (λ (later : Session). Answers st s later asked said.Memory) (sym (is_same g (goal.at.returns-in-Err-clause-answers g c).In-Err))
    (unmade st s s.writes asked c.requires.session (ap (refusal_of asked) o.1) refl)

pub returns-in-Err-clause-finds : goal.returns-in-Err-clause-finds
returns-in-Err-clause-finds g c =
    let st = c.args.self.now in
    let s = c.args.session.now in
    finds_stays st s _ c.args.table c.args.key _ (is_same g (goal.at.returns-in-Err-clause-finds g c).In-Err)

pub returns-in-Err-clause-few : goal.returns-in-Err-clause-few
returns-in-Err-clause-few g c =
    let s = c.args.session.now in
    subst (λ (later : Session). MakesAtMost 1 s later) (sym (is_same g (goal.at.returns-in-Err-clause-few g c).In-Err)) (omega arith)
