-- Begin, get, commit and abort on the parts.
use Rattle.std.specs.Prelude.{IfSome}
use Rattle.std.proofs.Common.{◌≡◌, ◌≢◌, ℕ, ◌+◌, ℤ, Bool, true, false, cond, [], ◌∷◌, ◌++◌, Option, None, Some, option_and_then, length, refl, sym, ap, ◌∙◌}
use Rattle.block_layout.specs.Place.{block_of, slot_of}
use Rattle.block_spec.specs.Bodies.{slot_in, committed_in}
use Rattle.block_spec.specs.Slots.{committed, is_bare, writer_of}
use Rattle.core_laws.proofs.Events.States.{kinds_after, shards_after, desk_after, desk_at_after, slot_after, places_stay, carried, slot_map}
use Rattle.core_laws.proofs.Events.Judging.{is_some_own, same_stale, same_tables, same_wrote}
use Rattle.core_laws.proofs.Events.Still.{stays, desk_follows}
use Rattle.core_laws.specs.Events.Laws.{IsTold, Serves}
use Rattle.core_laws.specs.Events.Named.{FollowsMachine}
use Rattle.event_spec.specs.declared.event.Event.TheVariants as event
use Rattle.event_spec.specs.declared.own.OwnKey.{OwnKey}
use Rattle.event_spec.specs.declared.own.OwnTransaction.{OwnTransaction}
use Rattle.event_spec.specs.Effects.{CoreEvent, after_commit, after_judged, effect, opened, closed, numbered, is_some_write, stale_in}
use Rattle.event_spec.specs.Lawful.{HasReads}
use Rattle.event_spec.specs.Parts.{Changes, Parts, Shape, ShardOf, BodyOf, each_changed, names, slot_at, places_at, desk_at, body_at, shard_of}
use Rattle.event_spec.specs.Replies.{reply_to, reply_to_commit}
use Rattle.event_spec.specs.Sound.{IsShape}
use Rattle.core_laws.proofs.Following.Desks.{none_not}
use Rattle.core_laws.proofs.Following.Sessions as sessions
use Rattle.core_laws.proofs.Following.Aborts.{abort_keeps}
use Rattle.core_laws.proofs.Following.Commits.{commit_keeps}
use Rattle.core_laws.proofs.Following.Commits as commits
use Rattle.core_laws.proofs.Following.Stepping.{begin_follows, has_pass, judges}
use Rattle.core_laws.proofs.Slots.Endings.{rolled_back_other}
use Rattle.core_laws.specs.Following.Laws.{command_of, machine_after}
use Rattle.core_laws.specs.Following.Owned.{HasOpen, OwnSlot}
use Rattle.isolation_spec.specs.Contents.{at_place, place_at, PlaceMap, WriteSet}
use Rattle.isolation_spec.specs.declared.command.Act.TheVariants as act
use Rattle.isolation_spec.specs.declared.command.Answer.TheVariants as answer
use Rattle.isolation_spec.specs.declared.command.Answer.{Answer}
use Rattle.isolation_spec.specs.declared.read.Read.{Read}
use Rattle.isolation_spec.specs.Checked.{stale_of, stale_read}
use Rattle.isolation_spec.specs.Reads.{ReadSet}
use Rattle.isolation_spec.specs.Machine.{IsolationMachine, Transaction, transaction_of, step, step_of, commit, without}
use Rattle.txn_desk.specs.Oldest.{HasPass, snapshot_of}

-- ---- begin

-- A begin is answered as the machine may, and the parts follow.
pub begin_serves : (sh : Shape) (s : Parts) (q : ℕ) → HasPass (desk_at sh s) q → snapshot_of (desk_at sh s) q ≡ None
    → Serves sh s (event.Begin q) (command_of q (act.Begin false))
begin_serves sh s q pass idle m f = (
  machine_after m q (act.Begin false),
  begins ∙ ap (λ n. (answer.At n, machine_after m q (act.Begin false))) f.follows.desked.counted,
  desk_follows sh s m (machine_after m q (act.Begin false)) (opened q) f
      (begin_follows (slot_at sh s) (places_at sh s) (desk_at sh s) m q f.follows pass idle),
)
  where
    none : transaction_of q m ≡ None
    none = f.follows.desked.idle q pass.0 idle

    begins : step m (command_of q (act.Begin false)) ≡ (answer.At (length m.history), machine_after m q (act.Begin false))
    begins = go (transaction_of q m) none
      where
        go : (o : Option Transaction) → o ≡ None → step_of m (command_of q (act.Begin false)) o ≡ (answer.At (length m.history), (step_of m (command_of q (act.Begin false)) o).1)
        go None is = refl
        go (Some x) is = cc

-- ---- get

-- A get is answered as the machine may, and the parts follow.
pub get_serves : (sh : Shape) (s : Parts) (own : OwnKey) (t : ℕ) (key : ℤ) → HasOpen (desk_at sh s) own.session own.snapshot
    → OwnSlot (slot_at sh s) (places_at sh s) own.session t key own.written
    → Serves sh s (event.Get own t key) (command_of own.session (act.Get t key))
get_serves sh s own t key has slots m f =
    let told = judges (slot_at sh s) (places_at sh s) (desk_at sh s) m own.session own.snapshot t key own.written f.follows has slots in (
      m,
      ap (step_of m (command_of own.session (act.Get t key))) told.is_open ∙ ap (λ row. (answer.Found row, m)) (sym told.found),
      stays sh s m f,
    )

-- ---- commit

-- The core and the machine test alike whether anything was written.
same_some : (own : PlaceMap ℕ) → is_some_own own ≡ is_some_write own
same_some [] = refl
same_some (e ∷ own) = refl

-- Where not something was written, nothing was.
none_first : {X : Type 0} (own : PlaceMap X) → is_some_own own ≡ false → own ≡ []
none_first [] is = refl
none_first (e ∷ own) is = cc

module _ (sh : Shape) (s : Parts) (me : OwnTransaction) (has : HasOpen (desk_at sh s) me.session me.snapshot)
    (slots : (t : ℕ) (key : ℤ) → OwnSlot (slot_at sh s) (places_at sh s) me.session t key (at_place me.writes (place_at t key))) (m : IsolationMachine) (f : FollowsMachine sh s m)
    (reads : Option ReadSet) (shape : IsShape sh) (lawful : IfSome reads (HasReads sh)) where
  -- The session whose transaction is committed.
  abbrev q : ℕ
  q = me.session

  -- The machine's transaction of the session.
  abbrev the : Transaction
  the = sessions.tr (slot_at sh s) (places_at sh s) (desk_at sh s) m f.follows me.session me.snapshot has

  -- The machine has the session's transaction open.
  is_mine : transaction_of q m ≡ Some the
  is_mine = sessions.mine (slot_at sh s) (places_at sh s) (desk_at sh s) m f.follows me.session me.snapshot has

  -- the machine's step
  step_is : step m (command_of q act.Commit) ≡ commit m the the.own
  step_is = ap (step_of m (command_of q act.Commit)) is_mine

  -- The transaction is that of the session.
  session_is : the.session ≡ q
  session_is = sessions.of_session (slot_at sh s) (places_at sh s) (desk_at sh s) m f.follows me.session me.snapshot has

  -- The machine's commit of writes takes the next number and adds them to its history.
  some_step : (own : WriteSet) → is_some_own own ≡ true → commit m the own ≡ (answer.Committed (Some (length m.history + 1)), record (without the.session m) { history = m.history ++ the.own ∷ [] })
  some_step [] is = cc
  some_step (e ∷ own) is = refl

  -- The machine's commit without writes takes no number and leaves its history.
  none_step : (own : WriteSet) → is_some_own own ≡ false → commit m the own ≡ (answer.Committed None, without the.session m)
  none_step [] is = refl
  none_step (e ∷ own) is = cc

  -- The event of the commit, what it makes of the parts where it is not refused, and the parts then.
  abbrev c : CoreEvent
  c = event.Commit me reads

  abbrev d : Changes
  d = after_commit sh s me

  abbrev after : Parts
  after = each_changed d (names sh) s

  -- The session has its pass at the desk.
  pass : HasPass (desk_at sh s) me.session
  pass = has_pass (desk_at sh s) me.session me.snapshot has

  -- A commit with writes commits each slot, and one without leaves it.
  slot_when : (b : Bool) → is_some_write me.writes ≡ b → (t p : ℕ) → slot_at sh after t p
      ≡ cond b (committed q ((desk_at sh s).newest + 1) ((desk_at sh s).commits + 1) (slot_at sh s t p)) (slot_at sh s t p)
  slot_when true is t p =
      slot_after sh s d (committed q ((desk_at sh s).newest + 1) ((desk_at sh s).commits + 1)) refl t p (f.kinds (BodyOf t (block_of p)))
      (ap (λ (b : Bool). slot_in ((cond b (committed_in q ((desk_at sh s).newest + 1) ((desk_at sh s).commits + 1)) (λ body. body)) (body_at sh s t (block_of p))) (slot_of p)) is
      ∙ slot_map (committed q ((desk_at sh s).newest + 1) ((desk_at sh s).commits + 1)) refl (body_at sh s t (block_of p)).slots (slot_of p))
  slot_when false is t p =
      slot_after sh s d (λ x. x) refl t p (f.kinds (BodyOf t (block_of p)))
      (ap (λ (b : Bool). slot_in ((cond b (committed_in q ((desk_at sh s).newest + 1) ((desk_at sh s).commits + 1)) (λ body. body)) (body_at sh s t (block_of p))) (slot_of p)) is)

  -- A commit closes its session, and with writes takes the next stamp and number.
  desk_when : (b : Bool) → is_some_write me.writes ≡ b → desk_at sh after ≡ closed q (cond b (numbered me.writes (desk_at sh s)) (desk_at sh s))
  desk_when b is = desk_at_after sh s d f.desk.0 f.desk.1 ∙ ap (λ b. closed q (cond b (numbered me.writes (desk_at sh s)) (desk_at sh s))) is

  -- A commit leaves the candidates of each key.
  places_same : (t : ℕ) (key : ℤ) → places_at sh after t key ≡ places_at sh s t key
  places_same t key = places_stay sh s d (λ t i places. refl) t key (f.kinds (ShardOf t (shard_of key)))

  -- where it wrote nothing, no entry is its own
  no_entry : is_some_write me.writes ≡ false → (t p : ℕ) → writer_of (slot_at sh s t p).entries ≢ Some q
  no_entry is t p w =
      let old = f.follows.own.writers t p q w in
      none_not (at_place me.writes (place_at t old.2)) p (ap (λ (own : PlaceMap ℕ). at_place own (place_at t old.2)) (none_first me.writes (same_some me.writes ∙ is))) ((slots t old.2).all p old.3 w)

  -- A commit that is not refused is as the machine's step without reads, with writes or without.
  stands : (b : Bool) → is_some_write me.writes ≡ b
      → (m' : IsolationMachine) × (step m (command_of q act.Commit) ≡ (answer.Committed (cond (is_some_write me.writes) (Some ((desk_at sh s).commits + 1)) None), m')) × FollowsMachine sh after m'
  stands true is = (
    after_step,
    step_is ∙ some_step the.own (same_wrote sh s me has slots m f ∙ is)
        ∙ ap (λ x. (answer.Committed (Some (length m.history + 1)), record (without x m) { history = m.history ++ the.own ∷ [] })) session_is
        ∙ ap (λ n. (answer.Committed (Some (n + 1)), record (without q m) { history = m.history ++ the.own ∷ [] })) f.follows.desked.counted
        ∙ ap (λ b. (answer.Committed (cond b (Some ((desk_at sh s).commits + 1)) None), record (without q m) { history = m.history ++ the.own ∷ [] })) (sym is),
    record {
      kinds = kinds_after sh s d f.kinds;
      desk = (closed q (cond (is_some_write me.writes) (numbered me.writes f.desk.0) f.desk.0), desk_after sh s d f.desk.0 f.desk.1);
      shards = shards_after sh s d f.shards;
      follows = carried after_step
          (slot_when true is) places_same (desk_when true is)
          (commit_keeps (slot_at sh s) (places_at sh s) (desk_at sh s) m f.follows q pass the is_mine me.writes (same_tables sh s me has slots m f));
    },
  )
    where
      after_step : IsolationMachine
      after_step = commits.after_commit (slot_at sh s) (places_at sh s) (desk_at sh s) m f.follows q pass the is_mine me.writes (same_tables sh s me has slots m f)
  stands false is = (
    without q m,
    step_is ∙ none_step the.own (same_wrote sh s me has slots m f ∙ is)
        ∙ ap (λ x. (answer.Committed None, without x m)) session_is
        ∙ ap (λ b. (answer.Committed (cond b (Some ((desk_at sh s).commits + 1)) None), without q m)) (sym is),
    record {
      kinds = kinds_after sh s d f.kinds;
      desk = (closed q (cond (is_some_write me.writes) (numbered me.writes f.desk.0) f.desk.0), desk_after sh s d f.desk.0 f.desk.1);
      shards = shards_after sh s d f.shards;
      follows = carried (without q m)
          (λ t p. slot_when false is t p ∙ sym (rolled_back_other q (slot_at sh s t p) (f.follows.slots t p).lawful (no_entry is t p))) places_same (desk_when false is)
          (abort_keeps (slot_at sh s) (places_at sh s) (places_at sh s) (desk_at sh s) m f.follows q pass
          (λ t p key a. (a, ap is_bare (rolled_back_other q (slot_at sh s t p) (f.follows.slots t p).lawful (no_entry is t p)) ∙ f.follows.index.filled t p key a))
          (λ t p key a x. a)
          (λ t a b key x. x));
    },
  )

  -- Why the machine refuses the commit is why the core does.
  stale_is : stale_of m reads q act.Commit ≡ stale_in sh s me reads
  stale_is = ap (option_and_then (λ t. stale_read m t t.own reads)) is_mine ∙ sym (same_stale sh s me has slots m f reads shape lawful)

  -- what the machine does with a commit that is refused so, or not
  abbrev stepped : Option (Read × ℕ) → Answer × IsolationMachine
  stepped found = elim found [
    | Some stale ↦ (answer.Stale stale.0 stale.1, m)
    | None ↦ step m (command_of q act.Commit)
  ]

  -- The commit is answered and follows by what is found of its reads.
  served : (found : Option (Read × ℕ)) → stale_in sh s me reads ≡ found
      → (m' : IsolationMachine) × IsTold m reads (command_of q act.Commit) (reply_to_commit sh s me found) m' × FollowsMachine sh (each_changed (after_judged sh s me found) (names sh) s) m'
  served None is =
      let fine = stands (is_some_write me.writes) refl in
      (fine.0, ap stepped (stale_is ∙ is) ∙ fine.1, fine.2)
  served (Some stale) is = (m, ap stepped (stale_is ∙ is), stays sh s m f)

  -- A commit is answered as the machine may, and the parts follow.
  pub commit_served : (m' : IsolationMachine) × IsTold m reads (command_of q act.Commit) (reply_to sh s c) m' × FollowsMachine sh (effect sh s c) m'
  commit_served = served (stale_in sh s me reads) refl
