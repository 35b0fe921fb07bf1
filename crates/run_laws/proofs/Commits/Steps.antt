-- What one event is to the writes and commits of its session, and to the machine.
use Rattle.std.proofs.Common.{◌≡◌, ◌≢◌, ◌⊎◌, inl, inr, ℕ, ◌+◌, ◌≤◌, Bool, true, false, cond, eqb, ◌==◌, List, [], ◌∷◌, ◌++◌, map, length, Option, None, Some, Result, Ok, Err, option_map, refl, sym, ap, ◌∙◌, subst, arith, append-nil}
use Rattle.std.specs.Prelude.{IfSome, ℤ}
use Rattle.std.specs.BTreeMap.{insert_entry}
use Rattle.std.specs.List.{range_with_len}
use Rattle.std.specs.Option.{option_map_or, option_or}
use Rattle.std.proofs.lemmas.Bool.Decides.{nat_tests}
use Rattle.std.proofs.lemmas.List.{length_push}
use Rattle.block_spec.specs.declared.phase.Phase.{Phase}
use Rattle.block_spec.specs.declared.phase.Phase.TheVariants.{Imaged, Loose, Sealed}
use Rattle.block_spec.specs.declared.phase.SealFault.{SealFault}
use Rattle.block_spec.specs.Bodies.{Body, is_imaged, rows_of, seal_fault}
use Rattle.cell_model.specs.declared.cell.Cell.{Cell}
use Rattle.core_laws.proofs.Events.Plain.{plain}
use Rattle.core_laws.specs.Events.Laws.{IsStep, IsTold, command_in, outcome_of_fault}
use Rattle.event_spec.specs.declared.event.Event.TheVariants as event
use Rattle.event_spec.specs.declared.own.OwnKey.{OwnKey}
use Rattle.event_spec.specs.declared.own.OwnTransaction.{OwnTransaction}
use Rattle.event_spec.specs.declared.reply.Reply.TheVariants as reply
use Rattle.event_spec.specs.declared.reply.WriteFault.{WriteFault}
use Rattle.event_spec.specs.declared.reply.WriteFault.TheVariants as fault
use Rattle.event_spec.specs.Effects.{CoreEvent, change_judged, insert_judged, range_found, stale_in}
use Rattle.event_spec.specs.Lawful.{reads_handed, session_of}
use Rattle.event_spec.specs.Parts.{Parts, Shape, body_at, is_head}
use Rattle.event_spec.specs.Replies.{CoreReply, in_key_order, reply_to, reply_to_commit, reply_to_image, reply_to_seal, reply_to_write, rows_read}
use Rattle.isolation_spec.specs.Contents.{WriteSet, key_of, place_at, place_cmp, place_of}
use Rattle.isolation_spec.specs.declared.command.Act.{Act}
use Rattle.isolation_spec.specs.declared.command.Act.TheVariants as act
use Rattle.isolation_spec.specs.declared.command.Answer.TheVariants as answer
use Rattle.isolation_spec.specs.declared.command.Command.{Command as Request}
use Rattle.isolation_spec.specs.declared.place.Place.{Place}
use Rattle.isolation_spec.specs.declared.read.Read.{Read}
use Rattle.isolation_spec.specs.Machine.{IsolationMachine, Transaction, transaction_of, with_own, without}
use Rattle.isolation_spec.specs.Reads.{ReadSet}
use Rattle.isolation_spec.specs.Store.{Allows, Outcome, Answered}
use Rattle.outcome_spec.specs.Entries.{commit_in, is_accepted, is_commit, is_end, snapshot_in}
use Rattle.outcome_spec.specs.Runs.{write_of}
use Rattle.timeline_laws.proofs.Agrees.{others-open}
use Rattle.timeline_laws.proofs.Machine.{Free, Sane, at-begun, at-ended, at-written, begun, committed, entering, eqb-itself, free-none, its-session, sane-begin, sane-commit, sane-end, sane-write}
use Rattle.timeline_laws.proofs.Steps.{Change, commits, ends, opens, quiet, takes-change, writes}
use Rattle.timeline_spec.specs.Timeline.{TakesAs, Tells, request_of}
use Rattle.workload_spec.specs.declared.command.Command.{Command}
use Rattle.workload_spec.specs.declared.command.Command.TheVariants as command
use Rattle.workload_spec.specs.declared.reply.Said.{Said}
use Rattle.workload_spec.specs.declared.reply.Said.TheVariants as said
use Rattle.workload_spec.specs.declared.reply.Who.TheVariants.{Session}
use Rattle.run_spec.specs.declared.commit.Commit.{Commit}
use Rattle.run_spec.specs.Commits.{commit_by, entered, own_written, write_sets}
use Rattle.run_laws.proofs.Calls.Commits.{committed_is, stale_stays}

-- what a session wrote is what its transaction of the machine wrote, and nothing where it has none
abbrev pub OwnIs : WriteSet → Option Transaction → Type 0
OwnIs own None = own ≡ []
OwnIs own (Some t) = t.own ≡ own

-- the number that a reply to a commit tells
abbrev pub number_told : CoreReply → Option ℕ
number_told (reply.Committed number) = number
number_told _ = None

-- what a session asks by an act
abbrev asks : ℕ → Act → Request
asks q what = record { session = q; act = what }

-- True is not the same as false.
true_false : true ≡ false → ⊥
true_false e = cc

-- Nothing is not something.
none_some : {X : Type 0} (x : X) → None ≡ Some x → ⊥
none_some x e = cc

module _ (m next : IsolationMachine) (sane : Sane m) (q : ℕ) where
  -- What one event is to the machine, and to its session's writes and commits, which were these.
  pub record Follows (own : WriteSet) (e : CoreEvent) (told : CoreReply) : Type 0 where
    pub sane_next : Sane next
    pub own_is : OwnIs (own_written own e told) (transaction_of q next)
    pub others : (r : ℕ) → r ≢ q → transaction_of r next ≡ transaction_of r m
    pub history : next.history ≡ m.history ++ write_sets (commit_by own e told)
    pub numbers : map (λ (c : Commit). c.number) (commit_by own e told) ≡ range_with_len (length m.history + 1) (length (commit_by own e told))
    pub shown : (n : ℕ) → number_told told ≡ Some n → n ≤ length next.history

  -- ---- changes of the machine

  -- An outcome of an act makes the change that a line which tells it says.
  change_by : (what : Act) (asked : Command) (outcome : Outcome) (line : Said) → request_of (Session q) asked ≡ Some (asks q what)
      → Tells outcome line → Allows m None (asks q what) outcome next → Change (Session q) asked line m next
  change_by what asked outcome line requested tells allows = takes-change [] [] m sane 0 0 0 (Session q) asked line next
      (subst (TakesAs [] [] m (record { number = 0; command = asked; reply = record { round = 0; who = Session q; index = 0; said = line } }) next) (sym requested)
      (record { outcome = outcome; tells = tells; allows = allows }))

  -- A line that neither accepts, ends nor opens leaves the machine.
  stays_by : (asked : Command) (line : Said) → is_accepted line ≡ false → is_end line ≡ false → snapshot_in line ≡ None
      → Change (Session q) asked line m next → next ≡ m
  stays_by asked line a e s (quiet c) = c.same
  stays_by asked line a e s (opens c) = absurd (none_some (length m.history) (sym s ∙ ap snapshot_in c.said_is))
  stays_by asked line a e s (writes c) = absurd (true_false (sym (ap is_accepted c.said_is) ∙ a))
  stays_by asked line a e s (ends c) = absurd (by c.said_is)
    where
      by : (line ≡ said.Aborted) ⊎ ((line ≡ said.Committed None) × (c.t.own ≡ [])) → ⊥
      by (inl is) = true_false (sym (ap is_end is) ∙ e)
      by (inr is) = true_false (sym (ap is_end is.0) ∙ e)
  stays_by asked line a e s (commits c) = absurd (true_false (sym (ap is_end c.said_is) ∙ e))

  -- the machine behind a change is sane
  change_sane : (asked : Command) (line : Said) → Change (Session q) asked line m next → Sane next
  change_sane asked line (quiet c) = subst Sane (sym c.same) sane
  change_sane asked line (opens c) = subst Sane (sym c.is) (sane-begin c.session m sane c.none)
  change_sane asked line (writes c) = subst Sane (sym c.is)
      (sane-write c.session c.place c.change m c.t sane c.at
      (subst (λ (s : ℕ). Free s c.place m.open_transactions) (its-session c.session m.open_transactions c.t c.at) (free-none c.t.session c.place m.open_transactions c.clear.rival)) c.clear.last)
  change_sane asked line (ends c) = subst Sane (sym c.is) (sane-end c.session m sane)
  change_sane asked line (commits c) = subst Sane (sym c.is) (sane-commit c.session m c.t sane c.at)

  -- A change leaves what others have open.
  change_others : (asked : Command) (line : Said) → Change (Session q) asked line m next → (r : ℕ) → r ≢ q → transaction_of r next ≡ transaction_of r m
  change_others asked line change r apart =
      others-open (Session q) (Session r) asked line m next (by (q == r) refl) change
    where
      by : (b : Bool) → (q == r) ≡ b → b ≡ false
      by false e = refl
      by true e = absurd (apart (let same : r ≡ q = grind (arith, nat_tests, e) in same))

  -- ---- events that leave the machine

  -- An event that leaves the machine, what was written and what was committed follows it.
  pub stays : (own : WriteSet) (e : CoreEvent) (told : CoreReply) → OwnIs own (transaction_of q m) → next ≡ m
      → own_written own e told ≡ own → commit_by own e told ≡ [] → number_told told ≡ None → Follows own e told
  stays own e told was same keeps none untold = record {
    sane_next = subst Sane (sym same) sane;
    own_is = subst (λ (w : WriteSet). OwnIs w (transaction_of q next)) (sym keeps) (subst (λ (n : IsolationMachine). OwnIs own (transaction_of q n)) (sym same) was);
    others = λ r apart. ap (transaction_of r) same;
    history = ap (λ (n : IsolationMachine). n.history) same ∙ sym (append-nil m.history)
        ∙ ap (λ (cs : List Commit). m.history ++ write_sets cs) (sym none);
    numbers = subst (λ (cs : List Commit). map (λ (c : Commit). c.number) cs ≡ range_with_len (length m.history + 1) (length cs)) (sym none) refl;
    shown = λ n is. absurd (none_some n (sym untold ∙ is));
  }

  -- ---- writes

  module _ (own : WriteSet) (e : CoreEvent) (what : Act) (asked : Command) (place : Place) (value : Option (List Cell)) (was : OwnIs own (transaction_of q m))
      (requested : request_of (Session q) asked ≡ Some (asks q what)) (wrote : write_of asked ≡ Some (place, value))
      (enters : (told : CoreReply) → own_written own e told ≡ entered place value told own) (never : (told : CoreReply) → commit_by own e told ≡ []) where
    -- A refused write follows.
    refused_by : (why : WriteFault) → Allows m None (asks q what) (outcome_of_fault why) next → next ≡ m
    refused_by (fault.ConflictSession session) h =
        stays_by asked (said.ConflictSession session) refl refl refl (change_by what asked (Answered (answer.ConflictSession session)) (said.ConflictSession session) requested refl h)
    refused_by (fault.ConflictCommit number) h =
        stays_by asked (said.ConflictCommit number) refl refl refl (change_by what asked (Answered (answer.ConflictCommit number)) (said.ConflictCommit number) requested refl h)
    refused_by fault.Exists h = stays_by asked said.Exists refl refl refl (change_by what asked (Answered answer.Exists) said.Exists requested refl h)
    refused_by fault.Missing h = stays_by asked said.Missing refl refl refl (change_by what asked (Answered answer.Missing) said.Missing requested refl h)
    refused_by (fault.Freezing block stamp) h = h.2
    refused_by (fault.Full inserts) h = h.2

    -- Such a reply enters nothing.
    unentered : (why : WriteFault) → entered place value (reply.Refused why) own ≡ own
    unentered (fault.ConflictSession session) = refl
    unentered (fault.ConflictCommit number) = refl
    unentered fault.Exists = refl
    unentered fault.Missing = refl
    unentered (fault.Freezing block stamp) = refl
    unentered (fault.Full inserts) = refl

    -- An accepted write is entered into the transaction.
    accepts_by : (slot : ℕ) → Change (Session q) asked said.Accepted m next → Follows own e (reply.Written slot)
    accepts_by slot (quiet c) = absurd (none_some (place, value) (sym c.writes ∙ wrote))
    accepts_by slot (opens c) = absurd (none_some (length m.history) (ap snapshot_in c.said_is))
    accepts_by slot (ends c) = absurd (by c.said_is)
      where
        by : (said.Accepted ≡ said.Aborted) ⊎ ((said.Accepted ≡ said.Committed None) × (c.t.own ≡ [])) → ⊥
        by (inl is) = true_false (sym (ap is_end is))
        by (inr is) = true_false (sym (ap is_end is.0))
    accepts_by slot (commits c) = absurd (true_false (sym (ap is_end c.said_is)))
    accepts_by slot (writes c) = record {
      sane_next = change_sane asked said.Accepted (writes c);
      own_is = subst (λ (w : WriteSet). OwnIs w (transaction_of q next)) (sym (enters (reply.Written slot))) now;
      others = change_others asked said.Accepted (writes c);
      history = ap (λ (n : IsolationMachine). n.history) c.is ∙ sym (append-nil m.history) ∙ ap (λ (cs : List Commit). m.history ++ write_sets cs) (sym (never (reply.Written slot)));
      numbers = subst (λ (cs : List Commit). map (λ (k : Commit). k.number) cs ≡ range_with_len (length m.history + 1) (length cs)) (sym (never (reply.Written slot))) refl;
      shown = λ n is. absurd (none_some n is);
    }
      where
        same : c.session ≡ q
        same = let both : Session q ≡ Session c.session = c.who_is in cc

        at : transaction_of q m ≡ Some c.t
        at = ap (λ (s : ℕ). transaction_of s m) (sym same) ∙ c.at

        its_place : c.place ≡ place
        its_place = ap (λ (w : Option (Place × Option (List Cell))). option_map_or (λ pair. pair.0) w place) (sym c.write ∙ wrote)

        its_value : c.change ≡ value
        its_value = ap (λ (w : Option (Place × Option (List Cell))). option_map_or (λ pair. pair.1) w value) (sym c.write ∙ wrote)

        behind : transaction_of q next ≡ Some (record c.t { own = insert_entry place_cmp c.t.own c.place c.change })
        behind =
            ap (transaction_of q) (c.is ∙ ap (λ (s : ℕ). with_own s c.place c.change m) same) ∙ at-written q c.place c.change q m
            ∙ ap (option_map (entering q c.place c.change)) at
            ∙ ap (λ (b : Bool). Some (cond b (record c.t { own = insert_entry place_cmp c.t.own c.place c.change }) c.t))
            (ap (λ (s : ℕ). eqb s q) (its-session q m.open_transactions c.t at) ∙ eqb-itself q)

        now : OwnIs (insert_entry place_cmp own place value) (transaction_of q next)
        now = subst (OwnIs (insert_entry place_cmp own place value)) (sym behind)
            (ap (λ (p : Place). insert_entry place_cmp c.t.own p c.change) its_place
            ∙ ap (insert_entry place_cmp c.t.own place) its_value
            ∙ ap (λ (w : WriteSet). insert_entry place_cmp w place value) (subst (OwnIs own) at was))

    -- A write, refused memory or not, follows.
    pub write_follows : (refused : Bool) (judged : Result ℕ WriteFault) → IsTold m None (asks q what) (cond refused reply.Memory (reply_to_write judged)) next
        → Follows own e (cond refused reply.Memory (reply_to_write judged))
    write_follows true judged h = stays own e reply.Memory was h.2 (enters reply.Memory) (never reply.Memory) refl
    write_follows false (Ok slot) h = accepts_by slot (change_by what asked (Answered answer.Accepted) said.Accepted requested refl h)
    write_follows false (Err why) h = stays own e (reply.Refused why) was (refused_by why h) (enters (reply.Refused why) ∙ unentered why) (never (reply.Refused why)) refl

  -- ---- a begin, an abort and a commit

  -- A begin opens a transaction that wrote nothing.
  pub begin_follows : (own : WriteSet) (session number stamp : ℕ) → OwnIs own (transaction_of q m) → Change (Session q) (command.Begin false) (said.At number) m next
      → Follows own (event.Begin session) (reply.Begun (record { stamp = stamp; number = number }))
  begin_follows own session number stamp was (quiet c) = absurd (none_some number (sym c.opens))
  begin_follows own session number stamp was (writes c) = absurd (none_some number (sym (ap snapshot_in c.said_is)))
  begin_follows own session number stamp was (commits c) = absurd (none_some number (sym (ap snapshot_in c.said_is)))
  begin_follows own session number stamp was (ends c) = absurd (by c.said_is)
    where
      by : (said.At number ≡ said.Aborted) ⊎ ((said.At number ≡ said.Committed None) × (c.t.own ≡ [])) → ⊥
      by (inl is) = none_some number (sym (ap snapshot_in is))
      by (inr is) = none_some number (sym (ap snapshot_in is.0))
  begin_follows own session number stamp was (opens c) = record {
    sane_next = change_sane (command.Begin false) (said.At number) (opens c);
    own_is = subst (OwnIs own) (sym behind) (sym none);
    others = change_others (command.Begin false) (said.At number) (opens c);
    history = ap (λ (n : IsolationMachine). n.history) c.is ∙ sym (append-nil m.history);
    numbers = refl;
    shown = λ n is. absurd (none_some n is);
  }
    where
      same : c.session ≡ q
      same = let both : Session q ≡ Session c.session = c.who_is in cc

      at : transaction_of q m ≡ None
      at = ap (λ (s : ℕ). transaction_of s m) (sym same) ∙ c.none

      none : own ≡ []
      none = subst (OwnIs own) at was

      behind : transaction_of q next ≡ Some (record { session = q; snapshot = length m.history; own = [] })
      behind =
          ap (transaction_of q) (c.is ∙ ap (λ (s : ℕ). begun s m) same) ∙ at-begun q q m
          ∙ ap (λ (o : Option Transaction). option_or o (cond (eqb q q) (Some (record { session = q; snapshot = length m.history; own = [] })) None)) at
          ∙ ap (λ (b : Bool). cond b (Some (record { session = q; snapshot = length m.history; own = [] })) None) (eqb-itself q)

  -- Behind an end the session has none open.
  none_behind : transaction_of q (without q m) ≡ None
  none_behind = at-ended q q m ∙ ap (λ (b : Bool). cond b None (transaction_of q m)) (eqb-itself q)

  -- An abort leaves nothing.
  pub abort_follows : (own : WriteSet) (handed : OwnTransaction) → Change (Session q) command.Abort said.Aborted m next → Follows own (event.Abort handed) reply.Aborted
  abort_follows own handed (quiet c) = absurd (true_false c.on)
  abort_follows own handed (opens c) = absurd (none_some (length m.history) (ap snapshot_in c.said_is))
  abort_follows own handed (writes c) = absurd (true_false (ap is_end c.said_is))
  abort_follows own handed (commits c) = absurd (none_some (length m.history + 1) (ap commit_in c.said_is))
  abort_follows own handed (ends c) = record {
    sane_next = change_sane command.Abort said.Aborted (ends c);
    own_is = subst (OwnIs []) (sym (ap (transaction_of q) (c.is ∙ ap (λ (s : ℕ). without s m) same) ∙ none_behind)) refl;
    others = change_others command.Abort said.Aborted (ends c);
    history = ap (λ (n : IsolationMachine). n.history) c.is ∙ sym (append-nil m.history);
    numbers = refl;
    shown = λ n is. absurd (none_some n is);
  }
    where
      same : c.session ≡ q
      same = let both : Session q ≡ Session c.session = c.who_is in cc

  -- A commit appends what was written, if something was.
  pub commit_follows : (own : WriteSet) (handed : OwnTransaction) (reads : Option ReadSet) (number : Option ℕ) → OwnIs own (transaction_of q m)
      → Change (Session q) command.Commit (said.Committed number) m next → Follows own (event.Commit handed reads) (reply.Committed number)
  commit_follows own handed reads number was (quiet c) = absurd (true_false c.on)
  commit_follows own handed reads number was (opens c) = absurd (none_some (length m.history) (ap snapshot_in c.said_is))
  commit_follows own handed reads number was (writes c) = absurd (true_false (ap is_end c.said_is))
  commit_follows own handed reads number was (ends c) = by c.said_is
    where
      same : c.session ≡ q
      same = let both : Session q ≡ Session c.session = c.who_is in cc

      at : transaction_of q m ≡ Some c.t
      at = ap (λ (s : ℕ). transaction_of s m) (sym same) ∙ c.at

      nothing : own ≡ [] → number ≡ None → Follows own (event.Commit handed reads) (reply.Committed number)
      nothing none untold = subst (λ (w : WriteSet). Follows w (event.Commit handed reads) (reply.Committed number)) (sym none) (record {
        sane_next = change_sane command.Commit (said.Committed number) (ends c);
        own_is = subst (OwnIs []) (sym (ap (transaction_of q) (c.is ∙ ap (λ (s : ℕ). without s m) same) ∙ none_behind)) refl;
        others = change_others command.Commit (said.Committed number) (ends c);
        history = ap (λ (n : IsolationMachine). n.history) c.is ∙ sym (append-nil m.history);
        numbers = refl;
        shown = λ n is. absurd (none_some n (sym untold ∙ is));
      })

      by : (said.Committed number ≡ said.Aborted) ⊎ ((said.Committed number ≡ said.Committed None) × (c.t.own ≡ [])) → Follows own (event.Commit handed reads) (reply.Committed number)
      by (inl is) = absurd (true_false (ap is_commit is))
      by (inr is) = nothing (sym (subst (OwnIs own) at was) ∙ is.1) (ap commit_in is.0)
  commit_follows own handed reads number was (commits c) =
      subst (λ (o : Option ℕ). Follows own (event.Commit handed reads) (reply.Committed o)) (sym told)
      (subst (λ (w : WriteSet). Follows w (event.Commit handed reads) (reply.Committed (Some (length m.history + 1)))) (sym whole) numbered)
    where
      same : c.session ≡ q
      same = let both : Session q ≡ Session c.session = c.who_is in cc

      at : transaction_of q m ≡ Some c.t
      at = ap (λ (s : ℕ). transaction_of s m) (sym same) ∙ c.at

      told : number ≡ Some (length m.history + 1)
      told = ap commit_in c.said_is

      whole : own ≡ c.wrote.0 ∷ c.wrote.1
      whole = sym (subst (OwnIs own) at was) ∙ c.wrote.2

      numbered : Follows (c.wrote.0 ∷ c.wrote.1) (event.Commit handed reads) (reply.Committed (Some (length m.history + 1)))
      numbered = record {
        sane_next = change_sane command.Commit (said.Committed number) (commits c);
        own_is = subst (OwnIs []) (sym (ap (transaction_of q) (c.is ∙ ap (λ (s : ℕ). committed s c.t.own m) same) ∙ none_behind)) refl;
        others = change_others command.Commit (said.Committed number) (commits c);
        history = ap (λ (n : IsolationMachine). n.history) c.is ∙ ap (λ (w : WriteSet). m.history ++ w ∷ []) c.wrote.2;
        numbers = refl;
        shown = λ n is.
            let same : length m.history + 1 ≡ n = let both : Some (length m.history + 1) ≡ Some n = is in cc in
            let long = ap (λ (k : IsolationMachine). length k.history) c.is ∙ length_push m.history c.t.own in
            omega (arith, same, long);
      }

-- ---- every event

module _ (shape : Shape) (parts : Parts) (m next : IsolationMachine) (sane : Sane m) (q : ℕ) (own : WriteSet) (was : OwnIs own (transaction_of q m)) where
  -- the reply to an event, which may have been refused memory
  abbrev told_to : CoreEvent → Bool → CoreReply
  told_to e refused = cond refused reply.Memory (reply_to shape parts e)

  -- A reply that tells no number tells none where memory was refused.
  untold_by : (refused : Bool) (told : CoreReply) → number_told told ≡ None → number_told (cond refused reply.Memory told) ≡ None
  untold_by true told is = refl
  untold_by false told is = is

  -- Reads, seals and images are told none.
  read_untold : (handed : OwnTransaction) (table block : ℕ) → number_told (reply_to shape parts (event.Read handed table block)) ≡ None
  read_untold handed table block = go (is_imaged (body_at shape parts table block).phase)
    where
      go : (b : Bool) → number_told (cond b (reply.Shared (rows_of (body_at shape parts table block))) (reply.Rows (rows_read shape parts handed table block))) ≡ None
      go true = refl
      go false = refl

  seal_untold : (why : Option SealFault) (last : ℕ) → number_told (reply_to_seal why last) ≡ None
  seal_untold None last = refl
  seal_untold (Some why) last = refl

  image_untold : (phase : Phase) (body : Body) → number_told (reply_to_image phase body) ≡ None
  image_untold Loose body = refl
  image_untold (Sealed stamp) body = refl
  image_untold (Imaged stamp) body = refl

  -- A step of a session's command, whose session is this one.
  of_session : (session : ℕ) (what : Act) (reads : Option ReadSet) (told : CoreReply) → session ≡ q → IsTold m reads (asks session what) told next → IsTold m reads (asks q what) told next
  of_session session what reads told same h = subst (λ (s : ℕ). IsTold m reads (asks s what) told next) same h

  -- A get leaves the machine.
  get_stays : (table : ℕ) (key : ℤ) (found : Option (List Cell)) → Allows m None (asks q (act.Get table key)) (Answered (answer.Found found)) next → next ≡ m
  get_stays table key None h =
      stays_by m next sane q (command.Get table key) said.Absent refl refl refl (change_by m next sane q (act.Get table key) (command.Get table key) (Answered (answer.Found None)) said.Absent refl refl h)
  get_stays table key (Some row) h =
      stays_by m next sane q (command.Get table key) (said.Found row) refl refl refl (change_by m next sane q (act.Get table key) (command.Get table key) (Answered (answer.Found (Some row))) (said.Found row) refl refl h)

  get_follows : (handed : OwnKey) (table : ℕ) (key : ℤ) (refused : Bool) → IsTold m None (asks q (act.Get table key)) (told_to (event.Get handed table key) refused) next
      → Follows m next sane q own (event.Get handed table key) (told_to (event.Get handed table key) refused)
  get_follows handed table key true h = stays m next sane q own (event.Get handed table key) reply.Memory was h.2 refl refl refl
  get_follows handed table key false h = stays m next sane q own (event.Get handed table key) (reply_to shape parts (event.Get handed table key)) was (get_stays table key _ h) refl refl refl

  range_follows : (handed : OwnTransaction) (table : ℕ) (low high : ℤ) (refused : Bool) → IsTold m None (asks q (act.Range table low high)) (told_to (event.Range handed table low high) refused) next
      → Follows m next sane q own (event.Range handed table low high) (told_to (event.Range handed table low high) refused)
  range_follows handed table low high true h = stays m next sane q own (event.Range handed table low high) reply.Memory was h.2 refl refl refl
  range_follows handed table low high false h = stays m next sane q own (event.Range handed table low high) (reply_to shape parts (event.Range handed table low high)) was
      (stays_by m next sane q (command.Range table low high) (said.Scanned rows) refl refl refl
      (change_by m next sane q (act.Range table low high) (command.Range table low high) (Answered (answer.Rows rows)) (said.Scanned rows) refl refl h)) refl refl refl
    where
      rows : List (List Cell)
      rows = in_key_order table (range_found shape parts handed table low high)

  begin_by : (session : ℕ) (refused : Bool) → session ≡ q → IsTold m None (asks session (act.Begin false)) (told_to (event.Begin session) refused) next
      → Follows m next sane q own (event.Begin session) (told_to (event.Begin session) refused)
  begin_by session true same (inl h, some, rest) = absurd h
  begin_by session true same (inr (inl h), some, rest) = absurd h
  begin_by session true same (inr (inr h), some, rest) = absurd h
  begin_by session false same h = begin_follows m next sane q own session _ _ was
      (change_by m next sane q (act.Begin false) (command.Begin false) (Answered (answer.At _)) (said.At _) refl refl (of_session session (act.Begin false) None (told_to (event.Begin session) false) same h))

  abort_by : (handed : OwnTransaction) (refused : Bool) → handed.session ≡ q → IsTold m None (asks handed.session act.Abort) (told_to (event.Abort handed) refused) next
      → Follows m next sane q own (event.Abort handed) (told_to (event.Abort handed) refused)
  abort_by handed true same (inl h, some, rest) = absurd h
  abort_by handed true same (inr (inl h), some, rest) = absurd h
  abort_by handed true same (inr (inr h), some, rest) = absurd h
  abort_by handed false same h = abort_follows m next sane q own handed
      (change_by m next sane q act.Abort command.Abort (Answered answer.Aborted) said.Aborted refl refl (of_session handed.session act.Abort None reply.Aborted same h))

  commit_by_told : (handed : OwnTransaction) (reads : Option ReadSet) (refused : Bool) → handed.session ≡ q → IsTold m reads (asks handed.session act.Commit) (told_to (event.Commit handed reads) refused) next
      → Follows m next sane q own (event.Commit handed reads) (told_to (event.Commit handed reads) refused)
  commit_by_told handed reads true same (inl h, some, rest) = absurd h
  commit_by_told handed reads true same (inr (inl h), some, rest) = absurd h
  commit_by_told handed reads true same (inr (inr h), some, rest) = absurd h
  commit_by_told handed reads false same h = go (stale_in shape parts handed reads) (of_session handed.session act.Commit reads _ same h)
    where
      untold : (w : WriteSet) (what : Read) (number : ℕ) → commit_by w (event.Commit handed reads) (reply.Stale what number) ≡ []
      untold [] what number = refl
      untold (first ∷ rest) what number = refl

      go : (o : Option (Read × ℕ)) → IsTold m reads (asks q act.Commit) (reply_to_commit shape parts handed o) next
          → Follows m next sane q own (event.Commit handed reads) (reply_to_commit shape parts handed o)
      go None h = commit_follows m next sane q own handed reads _ was
          (change_by m next sane q act.Commit command.Commit (Answered (answer.Committed _)) (said.Committed _) refl refl
          (plain m (asks q act.Commit) ∙ committed_is m next reads q _ h))
      go (Some stale) h = stays m next sane q own (event.Commit handed reads) (reply.Stale stale.0 stale.1) was (stale_stays m next reads q stale.0 stale.1 h) refl (untold own stale.0 stale.1) refl

  -- An event that stands under its session follows.
  pub event_follows : (e : CoreEvent) (refused : Bool) → IfSome (session_of e) (λ session. session ≡ q)
      → IsStep (command_in e) (reads_handed e) m (told_to e refused) next → Follows m next sane q own e (told_to e refused)
  event_follows (event.Begin session) refused same h = begin_by session refused same h
  event_follows (event.Get handed table key) refused same h = get_follows handed table key refused (of_session handed.session (act.Get table key) None _ same h)
  event_follows (event.Insert handed table row) refused same h =
      write_follows m next sane q own (event.Insert handed table row) (act.Insert table row) (command.Insert table row) (place_of table row) (Some row) was refl refl (λ told. refl) (λ told. refl)
      refused (insert_judged shape parts handed table (key_of row)) (of_session handed.session (act.Insert table row) None _ same h)
  event_follows (event.Update handed table row) refused same h =
      write_follows m next sane q own (event.Update handed table row) (act.Update table row) (command.Update table row) (place_of table row) (Some row) was refl refl (λ told. refl) (λ told. refl)
      refused (change_judged shape parts handed table (key_of row)) (of_session handed.session (act.Update table row) None _ same h)
  event_follows (event.Delete handed table key) refused same h =
      write_follows m next sane q own (event.Delete handed table key) (act.Delete table key) (command.Delete table key) (place_at table key) None was refl refl (λ told. refl) (λ told. refl)
      refused (change_judged shape parts handed table key) (of_session handed.session (act.Delete table key) None _ same h)
  event_follows (event.Read handed table block) refused same h = stays m next sane q own (event.Read handed table block) (told_to (event.Read handed table block) refused) was h refl refl (untold_by refused (reply_to shape parts (event.Read handed table block)) (read_untold handed table block))
  event_follows (event.Range handed table low high) refused same h = range_follows handed table low high refused (of_session handed.session (act.Range table low high) None _ same h)
  event_follows (event.Commit handed reads) refused same h = commit_by_told handed reads refused same h
  event_follows (event.Abort handed) refused same h = abort_by handed refused same h
  event_follows event.Oldest refused same h = stays m next sane q own event.Oldest (told_to event.Oldest refused) was h refl refl (untold_by refused (reply_to shape parts event.Oldest) refl)
  event_follows (event.Observe table block) refused same h = stays m next sane q own (event.Observe table block) (told_to (event.Observe table block) refused) was h refl refl (untold_by refused (reply_to shape parts (event.Observe table block)) refl)
  event_follows (event.Prune table block oldest) refused same h = stays m next sane q own (event.Prune table block oldest) (told_to (event.Prune table block oldest) refused) was h refl refl (untold_by refused (reply_to shape parts (event.Prune table block oldest)) refl)
  event_follows (event.Look table block) refused same h = stays m next sane q own (event.Look table block) (told_to (event.Look table block) refused) was h refl refl (untold_by refused (reply_to shape parts (event.Look table block)) refl)
  event_follows (event.Move table moves) refused same h = stays m next sane q own (event.Move table moves) (told_to (event.Move table moves) refused) was h refl refl (untold_by refused (reply_to shape parts (event.Move table moves)) refl)
  event_follows (event.Seal table block) refused same h = stays m next sane q own (event.Seal table block) (told_to (event.Seal table block) refused) was h refl refl (untold_by refused (reply_to shape parts (event.Seal table block)) (seal_untold (seal_fault (is_head shape parts table block) (body_at shape parts table block)) (body_at shape parts table block).last))
  event_follows (event.Image table block image) refused same h = stays m next sane q own (event.Image table block image) (told_to (event.Image table block image) refused) was h refl refl (untold_by refused (reply_to shape parts (event.Image table block image)) (image_untold (body_at shape parts table block).phase (body_at shape parts table block)))
  event_follows (event.Thaw table block) refused same h = stays m next sane q own (event.Thaw table block) (told_to (event.Thaw table block) refused) was h refl refl (untold_by refused (reply_to shape parts (event.Thaw table block)) refl)
