-- The steps of the checked machine, by what the program keeps.
use Rattle.std.proofs.Common.{◌≡◌, ◌⊎◌, inl, inr, ℕ, ◌<◌, zero, suc, Bool, true, false, cond, eqb, not, List, [], ◌∷◌, ◌++◌, map, length, get_or, Option, None, Some, refl, sym, ap, ◌∙◌, subst, arith}
use Rattle.std.specs.Prelude.{is_some, option_map, filter, position, unwrap_or, Result, Ok, Err, IfOk, OnErr}
use Rattle.std.specs.List.{last_or}
use Rattle.std.specs.Option.{option_or, option_map_or}
use Rattle.std.proofs.Math.ListN.{set}
use Rattle.std.proofs.lemmas.List.Folds.{find-append}
use Rattle.isolation_spec.specs.Checked.{CheckedMachine, Reading, begins_checked, dropped, entered, read_asked, readings_behind, reads_of, stale_of, step_with, with_readings}
use Rattle.isolation_spec.specs.Checked as checked
use Rattle.isolation_spec.specs.Contents.{WriteSet, place_at, place_of}
use Rattle.isolation_spec.specs.Machine.{IsolationMachine, Transaction, commit, rival_of, later_writers, step, step_of, transaction_of}
use Rattle.isolation_spec.specs.Reads.{ReadSet, no_reads, with_read}
use Rattle.isolation_spec.specs.declared.command.Act.{Act}
use Rattle.isolation_spec.specs.declared.command.Act.TheVariants as act
use Rattle.isolation_spec.specs.declared.command.Answer.{Answer}
use Rattle.isolation_spec.specs.declared.command.Answer.TheVariants as answer
use Rattle.isolation_spec.specs.declared.read.Read.{Read}
use Rattle.isolation_laws.proofs.Checked.{commit-refused}
use Rattle.timeline_laws.proofs.Machine.{at-begun, eqb-itself, eqb-turned}
use Rattle.std.proofs.lemmas.Bool.{eqb-true}
use Rattle.timeline_laws.proofs.Steps.{asks}
use Rattle.timeline_laws.proofs.Machine.{find-test}
use Rattle.si_machine.specs.declared.reads.Reading.{Reading as KeptReading}
use Rattle.si_machine.specs.Readings.{AreApart, AreRead, IsPlain, at_reading, reading_in}
use Rattle.si_machine.proofs.Parts.{find-map, found-at, get-map, length-kept, missed-at, set-map, set-same}
use Rattle.si_machine.proofs.Opened.{ends, read-leaves, stays-open}

-- ---- readings of sessions

-- Where nothing is found with one in front, that one is not it, nor any behind.
missed : (b : Bool) (r : Reading) (later : Option Reading) → cond b (Some r) later ≡ None → (b ≡ false) × (later ≡ None)
missed true r later h = absurd (let never : ⊥ = cc in never)
missed false r later h = (refl, h)

-- a change of the reading of a session that has none changes none
pub change-none : (session : ℕ) (f : Reading → Reading) (rs : List Reading) → at_reading session rs ≡ None → map (λ r. cond (eqb r.session session) (f r) r) rs ≡ rs
change-none session f [] none = refl
change-none session f (r ∷ rs) none =
    let parts = missed (eqb r.session session) r (at_reading session rs) none in
    rw (parts.0, change-none session f rs parts.1) refl

-- without the reading of a session that has none all are left
pub keep-none : (session : ℕ) (rs : List Reading) → at_reading session rs ≡ None → filter (λ r. not (eqb r.session session)) rs ≡ rs
keep-none session [] none = refl
keep-none session (r ∷ rs) none =
    let parts = missed (eqb r.session session) r (at_reading session rs) none in
    rw (parts.0) (ap (λ (us : List Reading). r ∷ us) (keep-none session rs parts.1))

-- None of the readings is of a session that has none.
other-at : (session : ℕ) (rs : List Reading) (i : ℕ) (d : Reading) → at_reading session rs ≡ None → i < length rs → eqb (get_or rs i d).session session ≡ false
other-at session [] i d none within = absurd (omega (arith, within))
other-at session (r ∷ rs) zero d none within = (missed (eqb r.session session) r (at_reading session rs) none).0
other-at session (r ∷ rs) (suc i) d none within = other-at session rs i d (missed (eqb r.session session) r (at_reading session rs) none).1 (omega (arith, within))

-- a change of the reading at an index is that of its session's
pub change-at : (f : Reading → Reading) (rs : List Reading) (i : ℕ) (d : Reading) → AreApart rs → i < length rs
    → set rs i (f (get_or rs i d)) ≡ map (λ r. cond (eqb r.session (get_or rs i d).session) (f r) r) rs
change-at f [] i d apart within = absurd (omega (arith, within))
change-at f (r ∷ rs) zero d apart within = rw (eqb-itself r.session, change-none r.session f rs apart.0) refl
change-at f (r ∷ rs) (suc i) d apart within =
    let inside : i < length rs = omega (arith, within) in
    let other : eqb r.session (get_or rs i d).session ≡ false = eqb-turned r.session (get_or rs i d).session ∙ other-at r.session rs i d apart.0 inside in
    ap (λ (us : List Reading). r ∷ us) (change-at f rs i d apart.1 inside)
    ∙ ap (λ (b : Bool). cond b (f r) r ∷ map (λ u. cond (eqb u.session (get_or rs i d).session) (f u) u) rs) (sym other)

-- The reading with one read more.
abbrev pub with_one : Read → Reading → Reading
with_one what r = record r { reads = with_read what r.reads }

-- The readings with one read more of a session.
abbrev pub with_more : ℕ → Read → List Reading → List Reading
with_more session what rs = map (λ r. cond (eqb r.session session) (with_one what r) r) rs

-- A choice of a reading or one with a read more, and what is found of it.
chosen-more : (a b : Bool) (r : Reading) (what : Read) (later : Option Reading) (others : Option Reading) → is_some others ≡ is_some later
    → is_some (cond b (Some (cond a (with_one what r) r)) others) ≡ is_some (cond b (Some r) later)
chosen-more a true r what later others same = refl
chosen-more a false r what later others same = same

-- The session of a reading with a read more.
session-more : (a : Bool) (r : Reading) (what : Read) → (cond a (with_one what r) r).session ≡ r.session
session-more true r what = refl
session-more false r what = refl

-- One read more leaves who has a reading.
found-more : (session other : ℕ) (what : Read) (rs : List Reading) → is_some (at_reading other (with_more session what rs)) ≡ is_some (at_reading other rs)
found-more session other what [] = refl
found-more session other what (r ∷ rs) =
    ap (λ (s : ℕ). is_some (cond (eqb s other) (Some (cond (eqb r.session session) (with_one what r) r)) (at_reading other (with_more session what rs)))) (session-more (eqb r.session session) r what)
    ∙ chosen-more (eqb r.session session) (eqb r.session other) r what (at_reading other rs) (at_reading other (with_more session what rs)) (found-more session other what rs)

-- Nothing is what is not there.
none-there : (o : Option Reading) → is_some o ≡ false → o ≡ None
none-there None h = refl
none-there (Some r) h = absurd (let never : ⊥ = cc in never)

-- Readings with a read more are of different sessions still.
apart-more : (session : ℕ) (what : Read) (rs : List Reading) → AreApart rs → AreApart (with_more session what rs)
apart-more session what [] h = tt
apart-more session what (r ∷ rs) h = (
  none-there (at_reading (cond (eqb r.session session) (with_one what r) r).session (with_more session what rs))
      (ap (λ (s : ℕ). is_some (at_reading s (with_more session what rs))) (session-more (eqb r.session session) r what) ∙ found-more session r.session what rs ∙ ap is_some h.0),
  apart-more session what rs h.1,
)

-- What is found of what is kept is found of all.
kept-found : (gone other : ℕ) (rs : List Reading) → is_some (at_reading other (dropped gone rs)) ≡ true → (is_some (at_reading other rs) ≡ true) × (eqb other gone ≡ false)
kept-found gone other [] h = absurd (let never : ⊥ = cc in never)
kept-found gone other (r ∷ rs) h = by (eqb r.session gone) (eqb r.session other) refl refl h (kept-found gone other rs)
  where
    by : (g o : Bool) → eqb r.session gone ≡ g → eqb r.session other ≡ o → is_some (at_reading other (cond (not g) (r ∷ dropped gone rs) (dropped gone rs))) ≡ true
        → (is_some (at_reading other (dropped gone rs)) ≡ true → (is_some (at_reading other rs) ≡ true) × (eqb other gone ≡ false))
        → (is_some (cond o (Some r) (at_reading other rs)) ≡ true) × (eqb other gone ≡ false)
    by true true is_g is_o k later = (refl, (later k).1)
    by true false is_g is_o k later = later k
    by false true is_g is_o k later = (refl, ap (λ (s : ℕ). eqb s gone) (sym (eqb-true r.session other is_o)) ∙ is_g)
    by false false is_g is_o k later = later (sym (ap (λ (b : Bool). is_some (cond b (Some r) (at_reading other (dropped gone rs)))) is_o) ∙ k)

-- Readings without a session's are of different sessions still.
apart-dropped : (gone : ℕ) (rs : List Reading) → AreApart rs → AreApart (dropped gone rs)
apart-dropped gone [] h = tt
apart-dropped gone (r ∷ rs) h = by (not (eqb r.session gone)) (apart-dropped gone rs h.1)
  where
    absent : (b : Bool) → is_some (at_reading r.session (dropped gone rs)) ≡ b → at_reading r.session (dropped gone rs) ≡ None
    absent true is = absurd (let e : true ≡ false = sym (kept-found gone r.session rs is).0 ∙ ap is_some h.0 in let never : ⊥ = cc in never)
    absent false is = none-there (at_reading r.session (dropped gone rs)) is

    by : (b : Bool) → AreApart (dropped gone rs) → AreApart (cond b (r ∷ dropped gone rs) (dropped gone rs))
    by true rest = (absent (is_some (at_reading r.session (dropped gone rs))) refl, rest)
    by false rest = rest

-- One reading more of a session without one.
apart-push : (rs : List Reading) (new : Reading) → AreApart rs → at_reading new.session rs ≡ None → AreApart (rs ++ new ∷ [])
apart-push [] new h none = (refl, tt)
apart-push (r ∷ rs) new h none =
    let parts = missed (eqb r.session new.session) r (at_reading new.session rs) none in
    let other : eqb new.session r.session ≡ false = eqb-turned new.session r.session ∙ parts.0 in
    (find-append (λ u. eqb u.session r.session) rs (new ∷ []) ∙ (rw (h.0, other) refl), apart-push rs new h.1 parts.1)

-- ---- what goes on belonging together

module _ (machine after : IsolationMachine) (rs : List Reading) (session : ℕ) (asked : Act) (said : Answer) (made : step machine (asks session asked) ≡ (said, after)) (h : AreRead machine rs) where
  -- Behind the step the machine is what it leaves.
  after-is : (step machine (asks session asked)).1 ≡ after
  after-is = ap (λ (p : Answer × IsolationMachine). p.1) made

  -- What is open of a reading's session is open behind the step, unless that ends it.
  still : (other : ℕ) → is_some (at_reading other rs) ≡ true → (ends asked ≡ false) ⊎ (eqb other session ≡ false) → is_some (transaction_of other after) ≡ true
  still other there kind = ap (λ (m : IsolationMachine). is_some (transaction_of other m)) (sym after-is) ∙ stays-open machine session other (h.opened other there) asked kind

  -- behind a step that ends nothing the readings are as they should be
  pub read-same : ends asked ≡ false → AreRead after rs
  read-same on = record { apart = h.apart; opened = λ other there. still other there (inl on) }

  -- also with one read more
  pub read-more : (what : Read) → ends asked ≡ false → AreRead after (with_more session what rs)
  read-more what on = record { apart = apart-more session what rs h.apart; opened = λ other there. still other (sym (found-more session other what rs) ∙ there) (inl on) }

  -- and behind an end without the session's
  pub read-dropped : AreRead after (dropped session rs)
  read-dropped = record {
    apart = apart-dropped session rs h.apart;
    opened = λ other there. let found = kept-found session other rs there in still other found.0 (inr found.1);
  }

-- ---- the steps

-- Of acts only a commit is refused for a read.
unstale : (machine : IsolationMachine) (reads : Option ReadSet) (session : ℕ) (asked : Act) → (asked ≡ act.Commit → ⊥) → stale_of machine reads session asked ≡ None
unstale machine reads session act.Commit other = absurd (other refl)
unstale machine reads session (act.Begin checked) other = refl
unstale machine reads session (act.Get table key) other = refl
unstale machine reads session (act.Scan table) other = refl
unstale machine reads session (act.Range table low high) other = refl
unstale machine reads session (act.Total table column low high) other = refl
unstale machine reads session (act.Insert table row) other = refl
unstale machine reads session (act.Update table row) other = refl
unstale machine reads session (act.Delete table key) other = refl
unstale machine reads session act.Abort other = refl

-- the answer and the machine behind it where an act is refused so, or not
abbrev by_stale : IsolationMachine → ℕ → Act → Option (Read × ℕ) → Answer × IsolationMachine
by_stale machine session asked stale = elim stale [ Some found ↦ (answer.Stale found.0 found.1, machine) | None ↦ step machine (asks session asked) ]

module _ (machine after : IsolationMachine) (rs : List Reading) (session : ℕ) (asked : Act) (said : Answer) (made : step machine (asks session asked) ≡ (said, after)) where
  -- The machine with what was read.
  abbrev pub before : CheckedMachine
  before = record { machine = machine; readings = rs }

  -- What the session read.
  abbrev its_reads : Option ReadSet
  its_reads = reads_of session before

  -- an act that is not refused is answered by the plain machine
  pub step-told : stale_of machine its_reads session asked ≡ None → checked.step before (asks session asked) ≡ (said, record { machine = after; readings = readings_behind session asked said rs })
  step-told none = ap (with_readings before (asks session asked)) (ap (by_stale machine session asked) none ∙ made)

  -- What is said is what the machine says.
  said-is : said ≡ (step machine (asks session asked)).0
  said-is = sym (ap (λ (p : Answer × IsolationMachine). p.0) made)

  -- Where what the machine says leaves these readings, they are what is left.
  by-said : (left : List Reading) → (asked ≡ act.Commit → ⊥) → readings_behind session asked (step machine (asks session asked)).0 rs ≡ left → checked.step before (asks session asked) ≡ (said, record { machine = after; readings = left })
  by-said left other is =
      step-told (unstale machine its_reads session asked other)
      ∙ ap (λ (left : List Reading). (said, record { machine = after; readings = left })) (ap (λ (a : Answer). readings_behind session asked a rs) said-is ∙ is)

-- A write leaves the readings, however it is answered.
write-behind : (session : ℕ) (asked : Act) (rs : List Reading) (rival : Option Transaction) (last : Option ℕ) (test : Bool) (own : Answer) → readings_behind session asked own rs ≡ rs
    → readings_behind session asked
    (unwrap_or (option_or (option_or (option_map (λ (r : Transaction). answer.ConflictSession r.session) rival) (option_map (λ (n : ℕ). answer.ConflictCommit n) last)) (cond test (Some own) None)) answer.Accepted) rs
    ≡ rs
write-behind session asked rs (Some r) last test own is = refl
write-behind session asked rs None (Some k) test own is = refl
write-behind session asked rs None None true own is = is
write-behind session asked rs None None false own is = refl

-- What opens no checked transaction, reads nothing and ends none leaves the readings.
plain-behind : (machine : IsolationMachine) (rs : List Reading) (session : ℕ) (asked : Act) (found : Option Transaction) → IsPlain asked
    → readings_behind session asked (step_of machine (asks session asked) found).0 rs ≡ rs
plain-behind machine rs session (act.Begin checked) None plain = ap (λ (b : Bool). cond b (rs ++ record { session = session; reads = no_reads } ∷ []) rs) plain
plain-behind machine rs session (act.Begin checked) (Some t) plain = refl
plain-behind machine rs session (act.Insert table row) None plain = refl
plain-behind machine rs session (act.Insert table row) (Some t) plain = write-behind session (act.Insert table row) rs (rival_of machine t.session (place_of table row)) (last_or None (later_writers machine.history t.snapshot (place_of table row))) _ answer.Exists refl
plain-behind machine rs session (act.Update table row) None plain = refl
plain-behind machine rs session (act.Update table row) (Some t) plain = write-behind session (act.Update table row) rs (rival_of machine t.session (place_of table row)) (last_or None (later_writers machine.history t.snapshot (place_of table row))) _ answer.Missing refl
plain-behind machine rs session (act.Delete table key) None plain = refl
plain-behind machine rs session (act.Delete table key) (Some t) plain = write-behind session (act.Delete table key) rs (rival_of machine t.session (place_at table key)) (last_or None (later_writers machine.history t.snapshot (place_at table key))) _ answer.Missing refl
plain-behind machine rs session _ found plain = absurd plain

-- Such an act is no commit, and ends nothing.
plain-other : (asked : Act) → IsPlain asked → asked ≡ act.Commit → ⊥
plain-other act.Commit plain is = plain
plain-other _ plain is = (let never : ⊥ = cc in never)

-- what opens no checked transaction, reads nothing and ends none ends none
pub plain-on : (asked : Act) → IsPlain asked → ends asked ≡ false
plain-on act.Commit plain = absurd plain
plain-on act.Abort plain = absurd plain
plain-on _ plain = refl

-- Without a transaction a session has no reading.
unread : (machine : IsolationMachine) (rs : List Reading) (session : ℕ) → AreRead machine rs → transaction_of session machine ≡ None → at_reading session rs ≡ None
unread machine rs session h none = by (is_some (at_reading session rs)) refl
  where
    by : (b : Bool) → is_some (at_reading session rs) ≡ b → at_reading session rs ≡ None
    by true is = absurd (let e : false ≡ true = sym (ap is_some none) ∙ h.opened session is in let never : ⊥ = cc in never)
    by false is = none-there (at_reading session rs) is

-- A read enters what the session has read, where it has a reading.
read-behind : (machine : IsolationMachine) (rs : List Reading) (session : ℕ) (asked : Act) (what : Read) (found : Option Transaction) → AreRead machine rs → transaction_of session machine ≡ found
    → read_asked asked ≡ Some what → readings_behind session asked (step_of machine (asks session asked) found).0 rs ≡ with_more session what rs
read-behind machine rs session asked what found h at is = by asked found at is
  where
    told : (asked : Act) → read_asked asked ≡ Some what → entered session asked rs ≡ with_more session what rs
    told asked e = ap (λ (o : Option Read). option_map_or (λ (w : Read). with_more session w rs) o rs) e

    by : (asked : Act) (found : Option Transaction) → transaction_of session machine ≡ found → read_asked asked ≡ Some what → readings_behind session asked (step_of machine (asks session asked) found).0 rs ≡ with_more session what rs
    by (act.Get table key) None none e = sym (change-none session (with_one what) rs (unread machine rs session h none))
    by (act.Get table key) (Some t) some e = told (act.Get table key) e
    by (act.Scan table) None none e = sym (change-none session (with_one what) rs (unread machine rs session h none))
    by (act.Scan table) (Some t) some e = told (act.Scan table) e
    by (act.Range table low high) None none e = sym (change-none session (with_one what) rs (unread machine rs session h none))
    by (act.Range table low high) (Some t) some e = told (act.Range table low high) e
    by (act.Total table column low high) None none e = sym (change-none session (with_one what) rs (unread machine rs session h none))
    by (act.Total table column low high) (Some t) some e = told (act.Total table column low high) e
    by _ found f e = absurd (let never : ⊥ = cc in never)

-- A read is no commit, and ends nothing.
read-other : (asked : Act) (what : Read) → read_asked asked ≡ Some what → asked ≡ act.Commit → ⊥
read-other act.Commit what is same = (let never : ⊥ = cc in never)
read-other _ what is same = (let never : ⊥ = cc in never)

-- a read ends nothing
pub read-on : (asked : Act) (what : Read) → read_asked asked ≡ Some what → ends asked ≡ false
read-on act.Commit what is = absurd (let never : ⊥ = cc in never)
read-on act.Abort what is = absurd (let never : ⊥ = cc in never)
read-on _ what is = refl

-- A commit that stands and an abort drop the session's reading, if it has one.
end-behind : (machine : IsolationMachine) (rs : List Reading) (session : ℕ) (asked : Act) (found : Option Transaction) → AreRead machine rs → transaction_of session machine ≡ found → ends asked ≡ true
    → readings_behind session asked (step_of machine (asks session asked) found).0 rs ≡ dropped session rs
end-behind machine rs session asked found h at is = by asked found at is
  where
    committed : (t : Transaction) (own : WriteSet) → readings_behind session act.Commit (commit machine t own).0 rs ≡ dropped session rs
    committed t [] = refl
    committed t (first ∷ rest) = refl

    by : (asked : Act) (found : Option Transaction) → transaction_of session machine ≡ found → ends asked ≡ true → readings_behind session asked (step_of machine (asks session asked) found).0 rs ≡ dropped session rs
    by act.Commit None none e = sym (keep-none session rs (unread machine rs session h none))
    by act.Commit (Some t) some e = committed t t.own
    by act.Abort None none e = sym (keep-none session rs (unread machine rs session h none))
    by act.Abort (Some t) some e = refl
    by _ found f e = absurd (let never : ⊥ = cc in never)

-- A begin that shows a snapshot is of a session without a transaction.
begun-none : (machine : IsolationMachine) (session n : ℕ) (found : Option Transaction) → (step_of machine (asks session (act.Begin true)) found).0 ≡ answer.At n → found ≡ None
begun-none machine session n None is = refl
begun-none machine session n (Some t) is = absurd (let never : ⊥ = cc in never)

-- A begin that shows none leaves the readings.
begun-some : (machine : IsolationMachine) (rs : List Reading) (session : ℕ) (found : Option Transaction) → ((n : ℕ) → (step_of machine (asks session (act.Begin true)) found).0 ≡ answer.At n → ⊥)
    → readings_behind session (act.Begin true) (step_of machine (asks session (act.Begin true)) found).0 rs ≡ rs
begun-some machine rs session None other = absurd (other _ refl)
begun-some machine rs session (Some t) other = refl

module _ (machine after : IsolationMachine) (rs : List Reading) (session : ℕ) (said : Answer) where
  -- a plain act
  pub plain-step : (asked : Act) → step machine (asks session asked) ≡ (said, after) → IsPlain asked
      → checked.step (record { machine = machine; readings = rs }) (asks session asked) ≡ (said, record { machine = after; readings = rs })
  plain-step asked made plain = by-said machine after rs session asked said made rs (plain-other asked plain) (plain-behind machine rs session asked (transaction_of session machine) plain)

  -- a read
  pub read-step : (asked : Act) (what : Read) → step machine (asks session asked) ≡ (said, after) → AreRead machine rs → read_asked asked ≡ Some what
      → checked.step (record { machine = machine; readings = rs }) (asks session asked) ≡ (said, record { machine = after; readings = with_more session what rs })
  read-step asked what made h is =
      by-said machine after rs session asked said made (with_more session what rs) (read-other asked what is) (read-behind machine rs session asked what (transaction_of session machine) h refl is)

  -- an abort
  pub abort-step : step machine (asks session act.Abort) ≡ (said, after) → AreRead machine rs
      → checked.step (record { machine = machine; readings = rs }) (asks session act.Abort) ≡ (said, record { machine = after; readings = dropped session rs })
  abort-step made h =
      by-said machine after rs session act.Abort said made (dropped session rs) (λ same. let never : ⊥ = cc in never) (end-behind machine rs session act.Abort (transaction_of session machine) h refl refl)

  -- a commit that stands
  pub commit-step : step machine (asks session act.Commit) ≡ (said, after) → AreRead machine rs → stale_of machine (reads_of session (record { machine = machine; readings = rs })) session act.Commit ≡ None
      → checked.step (record { machine = machine; readings = rs }) (asks session act.Commit) ≡ (said, record { machine = after; readings = dropped session rs })
  commit-step made h none =
      step-told machine after rs session act.Commit said made none
      ∙ ap (λ (left : List Reading). (said, record { machine = after; readings = left }))
      (ap (λ (a : Answer). readings_behind session act.Commit a rs) (said-is machine after rs session act.Commit said made) ∙ end-behind machine rs session act.Commit (transaction_of session machine) h refl refl)

  -- one that is refused
  pub refused-step : (stale : Read × ℕ) → stale_of machine (reads_of session (record { machine = machine; readings = rs })) session act.Commit ≡ Some stale
      → checked.step (record { machine = machine; readings = rs }) (asks session act.Commit) ≡ (answer.Stale stale.0 stale.1, record { machine = machine; readings = rs })
  refused-step stale is = ap (with_readings (record { machine = machine; readings = rs }) (asks session act.Commit)) (commit-refused machine (reads_of session (record { machine = machine; readings = rs })) session stale is)

  -- a checked begin
  pub begin-step : (n : ℕ) → step machine (asks session (act.Begin true)) ≡ (said, after) → said ≡ answer.At n
      → checked.step (record { machine = machine; readings = rs }) (asks session (act.Begin true)) ≡ (said, record { machine = after; readings = rs ++ record { session = session; reads = no_reads } ∷ [] })
  begin-step n made is =
      by-said machine after rs session (act.Begin true) said made (rs ++ record { session = session; reads = no_reads } ∷ []) (λ same. let never : ⊥ = cc in never)
      (ap (λ (a : Answer). readings_behind session (act.Begin true) a rs) (sym (said-is machine after rs session (act.Begin true) said made) ∙ is))

  -- one in a transaction
  pub begin-within : step machine (asks session (act.Begin true)) ≡ (said, after) → ((n : ℕ) → said ≡ answer.At n → ⊥)
      → checked.step (record { machine = machine; readings = rs }) (asks session (act.Begin true)) ≡ (said, record { machine = after; readings = rs })
  begin-within made other =
      by-said machine after rs session (act.Begin true) said made rs (λ same. let never : ⊥ = cc in never)
      (begun-some machine rs session (transaction_of session machine) (λ n e. other n (said-is machine after rs session (act.Begin true) said made ∙ e)))

  -- behind a checked begin the readings are as they should be
  pub read-begun : (n : ℕ) → step machine (asks session (act.Begin true)) ≡ (said, after) → said ≡ answer.At n → AreRead machine rs → AreRead after (rs ++ record { session = session; reads = no_reads } ∷ [])
  read-begun n made is h =
      let told : (step machine (asks session (act.Begin true))).0 ≡ answer.At n = sym (said-is machine after rs session (act.Begin true) said made) ∙ is in
      let none : transaction_of session machine ≡ None = begun-none machine session n (transaction_of session machine) told in
      record {
        apart = apart-push rs (record { session = session; reads = no_reads }) h.apart (unread machine rs session h none);
        opened = λ other there. by-other other none (is_some (at_reading other rs)) refl there;
      }
    where
      new : Reading
      new = record { session = session; reads = no_reads }

      opened_one : Transaction
      opened_one = record { session = session; snapshot = length machine.history; own = [] }

      later-found : (other : ℕ) → at_reading other rs ≡ None → is_some (at_reading other (rs ++ new ∷ [])) ≡ true → eqb session other ≡ true
      later-found other none there =
          chosen (eqb session other) (sym (ap is_some (find-append (λ u. eqb u.session other) rs (new ∷ []) ∙ ap (λ (o : Option Reading). option_or o (cond (eqb session other) (Some new) None)) none)) ∙ there)
        where
          chosen : (b : Bool) → is_some (cond b (Some new) None) ≡ true → b ≡ true
          chosen true k = refl
          chosen false k = absurd (let never : ⊥ = cc in never)

      by-other : (other : ℕ) → transaction_of session machine ≡ None → (b : Bool) → is_some (at_reading other rs) ≡ b → is_some (at_reading other (rs ++ new ∷ [])) ≡ true → is_some (transaction_of other after) ≡ true
      by-other other none true is_b there = still machine after rs session (act.Begin true) said made h other is_b (inl refl)
      by-other other none false is_b there =
          let same : session ≡ other = eqb-true session other (later-found other (none-there (at_reading other rs) is_b) there) in
          subst (λ (s : ℕ). is_some (transaction_of s after) ≡ true) same
          (ap (λ (m : IsolationMachine). is_some (transaction_of session m)) (sym (after-is machine after rs session (act.Begin true) said made h))
          ∙ ap (λ (found : Option Transaction). is_some (transaction_of session (step_of machine (asks session (act.Begin true)) found).1)) none
          ∙ ap is_some (at-begun session session machine)
          ∙ ap (λ (found : Option Transaction). is_some (option_or found (cond (eqb session session) (Some opened_one) None))) none
          ∙ ap (λ (b : Bool). is_some (cond b (Some opened_one) None)) (eqb-itself session))

-- ---- what is kept

-- readings that are kept without a session's
pub map-dropped : (session : ℕ) (items : List KeptReading) → map reading_in (filter (λ (r : KeptReading). not (eqb r.session session)) items) ≡ dropped session (map reading_in items)
map-dropped session [] = refl
map-dropped session (r ∷ items) = by (not (eqb r.session session)) (map-dropped session items)
  where
    others : List KeptReading
    others = filter (λ (u : KeptReading). not (eqb u.session session)) items

    by : (b : Bool) → map reading_in (filter (λ (u : KeptReading). not (eqb u.session session)) items) ≡ dropped session (map reading_in items)
        → map reading_in (cond b (r ∷ filter (λ (u : KeptReading). not (eqb u.session session)) items) (filter (λ (u : KeptReading). not (eqb u.session session)) items))
        ≡ cond b (reading_in r ∷ dropped session (map reading_in items)) (dropped session (map reading_in items))
    by true rest = ap (λ (rs : List Reading). reading_in r ∷ rs) rest
    by false rest = rest

-- a reading that is kept with a read more
pub set-read : (items : List KeptReading) (at : ℕ) (d : KeptReading) (session : ℕ) (what : Read) (reads : ReadSet) → AreApart (map reading_in items) → at < length items
    → (get_or items at d).session ≡ session → reads ≡ with_read what (get_or items at d).reads
    → map reading_in (set items at (record { session = (get_or items at d).session; reads = reads })) ≡ with_more session what (map reading_in items)
set-read items at d session what reads apart inside its is =
    let within : at < length (map reading_in items) = omega (arith, inside, length-kept reading_in items) in
    let there : get_or (map reading_in items) at (reading_in d) ≡ reading_in (get_or items at d) = get-map reading_in items at d in
    set-map reading_in items at (record { session = (get_or items at d).session; reads = reads })
    ∙ ap (λ (more : ReadSet). set (map reading_in items) at (record { session = (get_or items at d).session; reads = more })) is
    ∙ ap (λ (r : Reading). set (map reading_in items) at (with_one what r)) (sym there)
    ∙ change-at (with_one what) (map reading_in items) at (reading_in d) apart within
    ∙ ap (λ (s : ℕ). with_more s what (map reading_in items)) (ap (λ (r : Reading). r.session) there ∙ its)

-- one with the reads that it has
pub set-unread : (items : List KeptReading) (at : ℕ) (d : KeptReading) (reads : ReadSet) → reads ≡ (get_or items at d).reads
    → map reading_in (set items at (record { session = (get_or items at d).session; reads = reads })) ≡ map reading_in items
set-unread items at d reads is =
    ap (λ (same : ReadSet). map reading_in (set items at (record { session = (get_or items at d).session; reads = same }))) is ∙ ap (map reading_in) (set-same items at d)

-- where no reading of a session is kept it has none
pub missed-kept : (session : ℕ) (items : List KeptReading) → position (λ (r : KeptReading). eqb r.session session) items ≡ None → at_reading session (map reading_in items) ≡ None
missed-kept session items none =
    find-map reading_in (λ (r : Reading). eqb r.session session) items ∙ ap (option_map reading_in) (missed-at (λ (r : KeptReading). eqb r.session session) items none)

-- where one is kept its session has it
pub found-kept : (session : ℕ) (items : List KeptReading) (at : ℕ) (d : KeptReading) → position (λ (r : KeptReading). eqb r.session session) items ≡ Some at
    → (at_reading session (map reading_in items) ≡ Some (reading_in (get_or items at d))) × ((get_or items at d).session ≡ session) × (at < length items)
found-kept session items at d is =
    let found = found-at (λ (r : KeptReading). eqb r.session session) items at is in (
      find-map reading_in (λ (r : Reading). eqb r.session session) items ∙ ap (option_map reading_in) found.found ∙ ap (λ (r : KeptReading). Some (reading_in r)) (sym (found.there d)),
      ap (λ (r : KeptReading). r.session) (found.there d) ∙ eqb-true found.element.session session (find-test (λ (r : KeptReading). eqb r.session session) items found.element found.found),
      found.inside,
    )

-- behind a step that ends nothing, answered or not
pub read-result : {E : Type 0} (machine after : IsolationMachine) (rs : List Reading) (session : ℕ) (asked : Act) (r : Result Answer E) → IfOk r (λ said. step machine (asks session asked) ≡ (said, after))
    → OnErr r (after ≡ machine) → ends asked ≡ false → AreRead machine rs → AreRead after rs
read-result machine after rs session asked (Ok said) made same on h = read-same machine after rs session asked said made h on
read-result machine after rs session asked (Err e) made same on h = subst (λ (m : IsolationMachine). AreRead m rs) (sym same) h

-- the kept readings with one more read of a session's
pub kept-more : (items : List KeptReading) (at : ℕ) (reading : KeptReading) (session : ℕ) (what : Read) (reads : ReadSet) → AreApart (map reading_in items)
    → position (λ (r : KeptReading). eqb r.session session) items ≡ Some at → reading ≡ get_or items at reading → reads ≡ with_read what reading.reads
    → map reading_in (set items at (record { session = reading.session; reads = reads })) ≡ with_more session what (map reading_in items)
kept-more items at reading session what reads apart is same more =
    let found = found-kept session items at reading is in
    ap (λ (r : KeptReading). map reading_in (set items at (record { session = r.session; reads = reads }))) same
    ∙ set-read items at reading session what reads apart found.2 found.1 (more ∙ ap (λ (r : KeptReading). with_read what r.reads) same)

-- the kept readings with the reads that one has
pub kept-same : (items : List KeptReading) (at : ℕ) (reading : KeptReading) (reads : ReadSet) → reading ≡ get_or items at reading → reads ≡ reading.reads
    → map reading_in (set items at (record { session = reading.session; reads = reads })) ≡ map reading_in items
kept-same items at reading reads same is =
    ap (λ (r : KeptReading). map reading_in (set items at (record { session = r.session; reads = reads }))) same
    ∙ set-unread items at reading reads (is ∙ ap (λ (r : KeptReading). r.reads) same)

-- behind a read that is answered the machine is as it was
pub read-after : (machine after : IsolationMachine) (session : ℕ) (asked : Act) (what : Read) (said : Answer) → step machine (asks session asked) ≡ (said, after) → read_asked asked ≡ Some what → after ≡ machine
read-after machine after session asked what said made is = sym (ap (λ (p : Answer × IsolationMachine). p.1) made) ∙ read-leaves machine session asked what is
