-- A range that a session's pass made: what it told, and the call that it is.
use Rattle.std.proofs.Common.{◌≡◌, ◌⊎◌, ℕ, ℤ, ◌+◌, ◌≤◌, Bool, true, false, List, [], ◌∷◌, ◌++◌, Option, None, Some, Result, Ok, Err, is_some, refl, sym, ap, subst, ◌∙◌, append-nil, arith}
use mathlib.Core.Logic.{inl, inr}
use Rattle.std.specs.Prelude.{All, IfOk, IsErr}
use Rattle.block_spec.specs.Slots.{Row}
use Rattle.cell_model.specs.Rows.{Fits}
use Rattle.core_laws.specs.Frames.Shards.{CoreHolds}
use Rattle.engine_core.specs.Costs.{cost_of}
use Rattle.event_spec.specs.declared.event.Event.TheVariants as event
use Rattle.event_spec.specs.declared.own.OwnTransaction.{OwnTransaction}
use Rattle.event_spec.specs.declared.reply.Reply.TheVariants as reply
use Rattle.event_spec.specs.Effects.{CoreEvent, range_found}
use Rattle.event_spec.specs.Lawful.{HasTable, IsLawful}
use Rattle.event_spec.specs.Parts.{Parts, Shape}
use Rattle.event_spec.specs.Replay.{IsLawfulLog, columns_in, opening}
use Rattle.event_spec.specs.Replies.{CoreReply}
use Rattle.isolation_spec.specs.Reads.{ReadSet}
use Rattle.isolation_spec.specs.declared.read.KeyRange.{KeyRange}
use Rattle.run_spec.specs.Asked.{events_of}
use Rattle.run_spec.specs.Calls.{IsPart, reads_behind}
use Rattle.run_spec.specs.Occurrences.{Logged, Occurrence}
use Rattle.run_spec.specs.Told.{in_key_order, refusal_of}
use Rattle.store_laws.proofs.Entries.{lawful_same}
use Rattle.store_laws.proofs.Machines.{lawful_behind, lawful_front}
use Rattle.store_laws.proofs.Ranges.{ranges_tell_each_once}
use Rattle.store_laws.proofs.Stamps.{holds_after}
use Rattle.store_laws.specs.Laws.{TellsLine}
use Rattle.store_laws.specs.Logs.{made_in}
use Rattle.store_laws.specs.Own.{MakesOne, entry_of, occurrence_at, parts_after}
use Rattle.store_laws.specs.Scans.{HaveOwnKeys}
use Rattle.workload_spec.specs.declared.command.Command.TheVariants as command
use Rattle.workload_spec.specs.declared.reply.Said.TheVariants as said
use Rattle.shared_store.specs.Making.{Makes, ReadsFew}
use Rattle.shared_store.specs.Open.{FindsBetween}
use Rattle.shared_store.specs.Ranging.{MakesRange, MayFindRange, ReadsRange, range_read}
use Rattle.shared_store.specs.Reads.{ReadsFit}
use Rattle.shared_store.specs.Store.{Answers, HandsView, IsAt, IsSession, MakesAtMost, SeatView, StoreView, own_of, reads_of, seen, shape_in, wrote_of}
use Rattle.shared_store.specs.Commits.{written_behind}
use Rattle.shared_store.proofs.Noted.{noted, one_none, unwritten}
use Rattle.shared_store.specs.Told.{scanned_told}
use Rattle.shared_store.specs.declared.session.Session.{Session}
use Rattle.shared_store.proofs.BlockReads.{range_fits}
use Rattle.shared_store.proofs.Calls.{one_event, one_event_at, told_or_memory, unmade}
use Rattle.shared_store.proofs.Claims.{keeps_same}
use Rattle.shared_store.proofs.Made.{fronts}
use Rattle.shared_store.proofs.Open.{finds_no_range, finds_range, finds_unranged}
use Rattle.shared_store.proofs.ReadSets.{ranged_fits}
use Rattle.shared_store.proofs.Scanned.{went_call, went_more, went_nowhere, went_swept}
use Rattle.shared_store.proofs.Sessions.{session_is}

-- the range of one who has this open
abbrev pub ranging : OwnTransaction → ℕ → ℤ → ℤ → CoreEvent
ranging own t low high = event.Range own t low high

-- ---- what it told

module _ (store : StoreView) (session : ℕ) (s u : SeatView) (hands : HandsView) (opened : Option OwnTransaction)
    (own : OwnTransaction) (t : ℕ) (low high : ℤ) (told : CoreReply) (m : Makes store session s u hands opened (ranging own t low high) told) where
  abbrev sh : Shape
  sh = shape_in store

  abbrev before : Parts
  before = parts_after sh m.makes.before

  lawful : IsLawfulLog sh (made_in (m.makes.before ++ entry_of session (ranging own t low high) told ∷ []))
  lawful = subst (λ l. IsLawfulLog sh (made_in l)) m.makes.log (lawful_same sh u.me.0.log m.stands.within.pass.of.1.lawful)

  front : IsLawfulLog sh (made_in m.makes.before)
  front = lawful_front sh m.makes.before (entry_of session (ranging own t low high) told ∷ []) (opening sh) lawful

  holds : CoreHolds sh before
  holds = holds_after sh m.makes.before m.stands.within.pass.of.1.sound.measures front

  at_event : IsLawful sh (ranging own t low high) before
  at_event = (lawful_behind sh m.makes.before (entry_of session (ranging own t low high) told ∷ []) (opening sh) lawful).0

  -- the rows that were found, or that there was no memory
  pub range_told : (told ≡ reply.Memory) ⊎ (told ≡ reply.Rows (range_found sh before own t low high))
  range_told = told_or_memory store session s u hands opened (ranging own t low high) told m

  found_is : (listed : List Row) → told ≡ reply.Rows listed → listed ≡ range_found sh before own t low high
  found_is listed is = go range_told
    where
      same : (xs ys : List Row) → ◌≡◌ {A = CoreReply} (reply.Rows xs) (reply.Rows ys) → xs ≡ ys
      same xs ys e = cc

      never : ◌≡◌ {A = CoreReply} (reply.Rows listed) reply.Memory → ⊥
      never e = cc

      go : (told ≡ reply.Memory) ⊎ (told ≡ reply.Rows (range_found sh before own t low high)) → listed ≡ range_found sh before own t low high
      go (inl memory) = absurd (never (sym is ∙ memory))
      go (inr rows) = same listed (range_found sh before own t low high) (sym is ∙ rows)

  -- They fit the table.
  pub listed_fit : (listed : List Row) → told ≡ reply.Rows listed → All (Fits (columns_in sh t)) listed
  listed_fit listed is = subst (All (Fits (columns_in sh t))) (sym (found_is listed is)) (range_fits sh before holds.sound t own low high)

  -- No two of them have one key.
  pub listed_once : (listed : List Row) → told ≡ reply.Rows listed → HaveOwnKeys t listed
  listed_once listed is = subst (HaveOwnKeys t) (sym (found_is listed is)) (ranges_tell_each_once sh m.makes.before own t low high holds.measures front at_event.0)

  -- No more rows were looked at than the event may at the parts before it.
  pub few_at : (spent steps : ℕ) → ReadsFew sh u.me.0 (ranging own t low high) told spent steps → steps ≤ spent + cost_of sh (ranging own t low high) before
  few_at spent steps few = subst (λ (l : List Logged). steps ≤ spent + cost_of sh (ranging own t low high) (parts_after sh l))
      (fronts few.before m.makes.before few.last (entry_of session (ranging own t low high) told) (sym few.log ∙ m.makes.log)) few.few

-- of an answer without rows nothing is said
pub if_err : {T E : Type 0} (P : T → Type 0) (r : Result T E) → IsErr r → IfOk r P
if_err P (Ok rows) err = absurd (let never : ⊥ = cc in never)
if_err P (Err memory) err = tt

-- rows that are in key order where no two have one key
pub laid : {E : Type 0} (found : Result (List Row) E) (t : ℕ) (listed : List Row) (told : CoreReply) → told ≡ reply.Rows listed → HaveOwnKeys t listed
    → IfOk found (λ ordered. (table : ℕ) → HaveOwnKeys table listed → ordered ≡ in_key_order table listed)
    → IfOk found (λ rows. (listed : List Row) × (told ≡ reply.Rows listed) × (rows ≡ in_key_order t listed))
laid (Ok rows) t listed told is once ordered = (listed, is, ordered t once)
laid (Err memory) t listed told is once ordered = tt

-- ---- the call

-- the line of the rows in key order
line_is : (own : Option OwnTransaction) (t : ℕ) (low high : ℤ) (told : CoreReply) (listed rows : List Row) → told ≡ reply.Rows listed → rows ≡ in_key_order t listed
    → TellsLine own (command.Range t low high) told (said.Scanned rows)
line_is own t low high told listed rows is ordered =
    subst (λ (r : CoreReply). TellsLine own (command.Range t low high) r (said.Scanned rows)) (sym is)
    (ap (λ rs. Some (said.Scanned (in_key_order t rs))) (append-nil listed) ∙ ap (λ rs. Some (said.Scanned rs)) (sym ordered))

-- what the line tells that was read
reads_told : {E : Type 0} (reads : Option ReadSet) (range : KeyRange) (found : Result (List Row) E)
    → range_read range found reads ≡ reads_behind reads (command.Range range.table range.low range.high) (scanned_told found)
reads_told reads range (Ok rows) = refl
reads_told reads range (Err memory) = refl

-- A session behind its range's event.
module _ (store : StoreView) (s new : Session) (own : OwnTransaction) (range : KeyRange) (told : CoreReply)
    (is : IsSession store s) (some' : own_of s ≡ Some own) (has : HasTable (shape_in store) range.table)
    (m : Makes store s.session s.pass.seat new.pass.seat new.pass.hands (own_of s) (ranging own range.table range.low range.high) told)
    (same : new.session ≡ s.session) (kept : own_of new ≡ own_of s) (wrote : wrote_of new ≡ wrote_of s) where
  abbrev e : CoreEvent
  e = ranging own range.table range.low range.high

  abbrev asked : command.the_data
  asked = command.Range range.table range.low range.high

  abbrev last : Occurrence
  last = occurrence_at s.session (parts_after (shape_in store) m.makes.before) e told

  asks : (made : List Occurrence) → events_of (shape_in store) (own_of s) (reads_of s) s.session asked made ≡ e ∷ []
  asks made = ap (λ (o : Option OwnTransaction). events_of (shape_in store) o (reads_of s) s.session asked made) some'

  granted : refusal_of asked (own_of s) ≡ None
  granted = ap (refusal_of asked) some'

  still_wrote : (parts : Parts) → wrote_of new ≡ written_behind (occurrence_at s.session parts e told ∷ []) (wrote_of s)
  still_wrote parts = wrote ∙ sym (unwritten (occurrence_at s.session parts e told ∷ []) (one_none (occurrence_at s.session parts e told) refl) (wrote_of s))

  -- it is one
  pub behind : ReadsFit (shape_in store) (reads_of new) → IsSession store new
  behind fits = session_is store new (subst (λ q. IsAt store q new.pass.seat new.pass.hands (own_of new)) (sym same)
      (subst (IsAt store s.session new.pass.seat new.pass.hands) (sym kept) m.stands)) fits

  -- it answered the rows
  module _ (listed rows : List Row) (listing : told ≡ reply.Rows listed) (ordered : rows ≡ in_key_order range.table listed)
      (read : reads_of new ≡ reads_behind (reads_of s) asked (said.Scanned rows)) (fits : ReadsFit (shape_in store) (reads_of new)) where
    pub answers_rows : Answers store s new asked (said.Scanned rows)
    answers_rows = (one_event store s new asked e told (said.Scanned rows) is refl m same kept read still_wrote fits granted asks
        (line_is (own_of s) range.table range.low range.high told listed rows listing ordered)).1

    pub reads_rows : (spent steps : ℕ) → ReadsFew (shape_in store) new.pass.seat.me.0 e told spent steps → ReadsRange store s new range.table range.low range.high (said.Scanned rows) spent steps
    unfolding answers_rows one_event one_event_at
    reads_rows spent steps few = record {
      answers = answers_rows;
      few = let cost = few_at store s.session s.pass.seat new.pass.seat new.pass.hands (own_of s) own range.table range.low range.high told m spent steps few in omega (arith, cost);
    }

  -- there was no memory for the event
  module _ (memory : told ≡ reply.Memory) (read : reads_of new ≡ reads_of s) (fits : ReadsFit (shape_in store) (reads_of new)) where
    pub answers_memory : Answers store s new asked said.Memory
    answers_memory = (one_event store s new asked e told said.Memory is refl m same kept read still_wrote fits granted asks
        (subst (λ (r : CoreReply). TellsLine (own_of s) asked r said.Memory) (sym memory) (refl, refl))).1

    pub reads_memory : (spent steps : ℕ) → ReadsFew (shape_in store) new.pass.seat.me.0 e told spent steps → ReadsRange store s new range.table range.low range.high said.Memory spent steps
    unfolding answers_memory one_event one_event_at
    reads_memory spent steps few = record {
      answers = answers_memory;
      few = let cost = few_at store s.session s.pass.seat new.pass.seat new.pass.hands (own_of s) own range.table range.low range.high told m spent steps few in omega (arith, cost);
    }

  -- or there was none for the rows that it found
  module _ (listed : List Row) (listing : told ≡ reply.Rows listed) (read : reads_of new ≡ reads_of s) (fits : ReadsFit (shape_in store) (reads_of new)) where
    part : IsPart (shape_in store) s.session (own_of s) (record { command = asked; made = last ∷ []; told = Some said.Memory; reads = reads_of s })
    part = record {
      may = refl;
      missed = [];
      events = asks (last ∷ []);
      cut = either (Rattle.run_spec.specs.Calls.is_refused last);
      line = refl;
    }
      where
        either : (b : Bool) → (Rattle.std.proofs.Common.◌||◌ b true) ≡ true
        either true = refl
        either false = refl

    pub answers_unlaid : Answers store s new asked said.Memory
    answers_unlaid = went_call store s new asked (e ∷ []) (last ∷ []) said.Memory is
        (went_more store s s new e told (e ∷ []) [] (went_nowhere store s (e ∷ []) is) (behind fits) same kept (noted s new read wrote) m.makes m.count m.took (inl refl) refl refl (keeps_same m.reads))
        (asks (last ∷ [])) granted refl (inr part)

    pub reads_unlaid : (spent steps : ℕ) → ReadsFew (shape_in store) new.pass.seat.me.0 e told spent steps → ReadsRange store s new range.table range.low range.high said.Memory spent steps
    unfolding answers_unlaid went_call went_swept
    reads_unlaid spent steps few = record {
      answers = answers_unlaid;
      few = let cost = few_at store s.session s.pass.seat new.pass.seat new.pass.hands (own_of s) own range.table range.low range.high told m spent steps few in omega (arith, cost);
    }

-- ---- all of it

-- What a range's call hands up.
pub record RangesBy {E : Type 0} (store : StoreView) (s new : Session) (range : KeyRange) (spent steps : ℕ) (found : Result (List Row) E) : Type 0 where
  pub session : IsSession store new
  pub same : new.session ≡ s.session
  pub answers : Answers store s new (command.Range range.table range.low range.high) (scanned_told found)
  pub finds : FindsBetween store s new range.table range.low range.high found
  pub few : MakesAtMost 1 s new
  pub looked : ReadsRange store s new range.table range.low range.high (scanned_told found) spent steps

module _ {E : Type 0} (store : StoreView) (s new : Session) (own : OwnTransaction) (range : KeyRange) (spent steps : ℕ)
    (is : IsSession store s) (some' : own_of s ≡ Some own) (mine : own.session ≡ s.session) (has : HasTable (shape_in store) range.table)
    (same : new.session ≡ s.session) (kept : own_of new ≡ own_of s) (wrote : wrote_of new ≡ wrote_of s) (busy : is_some (own_of new) ≡ true) where
  -- Its event was made.
  ranges_made : (found : Result (List Row) E) → MakesRange store s.pass.seat s.pass.hands new.pass.seat new.pass.hands range.table (ranging own range.table range.low range.high) spent steps found
      → reads_of new ≡ range_read range found (reads_of s) → RangesBy store s new range spent steps found
  ranges_made found made read = go found made.rows read (reads_told (reads_of s) range found)
      (subst (ReadsFit (shape_in store)) (sym read) (ranged_fits (shape_in store) range found (reads_of s) has is.fits))
    where
      m : Makes store s.session s.pass.seat new.pass.seat new.pass.hands (own_of s) (ranging own range.table range.low range.high) made.told
      m = made.made s.session (own_of s) is.stands (inl (ap Some mine))

      few : MakesAtMost 1 s new
      few = let count = m.count in omega (arith, count)

      Listing : Type 0
      Listing = (made.told ≡ reply.Memory) ⊎ (made.told ≡ reply.Rows (range_found (shape_in store) (parts_after (shape_in store) m.makes.before) own range.table range.low range.high))

      memory : (err : E) → Listing → reads_of new ≡ reads_of s → ReadsFit (shape_in store) (reads_of new) → RangesBy store s new range spent steps (Err err)
      memory err (inl none') read fits = record {
        session = behind store s new own range made.told is some' has m same kept wrote fits;
        same = same;
        answers = answers_memory store s new own range made.told is some' has m same kept wrote none' read fits;
        finds = finds_no_range store s new own range.table range.low range.high err is (behind store s new own range made.told is some' has m same kept wrote fits) same
            (subst (λ (r : CoreReply). MakesOne (shape_in store) s.session (seen s) (seen new) (ranging own range.table range.low range.high) r) none' m.makes) busy;
        few = few;
        looked = reads_memory store s new own range made.told is some' has m same kept wrote none' read fits spent steps made.few;
      }
      memory err (inr listing) read fits = record {
        session = behind store s new own range made.told is some' has m same kept wrote fits;
        same = same;
        answers = answers_unlaid store s new own range made.told is some' has m same kept wrote _ listing read fits;
        finds = finds_unranged store s new own range.table range.low range.high _ err is (behind store s new own range made.told is some' has m same kept wrote fits) same mine
            (subst (λ (r : CoreReply). MakesOne (shape_in store) s.session (seen s) (seen new) (ranging own range.table range.low range.high) r) listing m.makes) busy;
        few = few;
        looked = reads_unlaid store s new own range made.told is some' has m same kept wrote _ listing read fits spent steps made.few;
      }

      go : (found : Result (List Row) E) → IfOk found (λ rows. (listed : List Row) × (made.told ≡ reply.Rows listed) × (rows ≡ in_key_order range.table listed))
          → reads_of new ≡ range_read range found (reads_of s)
          → range_read range found (reads_of s) ≡ reads_behind (reads_of s) (command.Range range.table range.low range.high) (scanned_told found)
          → ReadsFit (shape_in store) (reads_of new) → RangesBy store s new range spent steps found
      go (Ok rows) listing read tells fits = record {
        session = behind store s new own range made.told is some' has m same kept wrote fits;
        same = same;
        answers = answers_rows store s new own range made.told is some' has m same kept wrote listing.0 rows listing.1 listing.2 (read ∙ tells) fits;
        finds = finds_range store s new own range.table range.low range.high listing.0 rows is (behind store s new own range made.told is some' has m same kept wrote fits) same mine
            (subst (λ (r : CoreReply). MakesOne (shape_in store) s.session (seen s) (seen new) (ranging own range.table range.low range.high) r) listing.1 m.makes) busy listing.2;
        few = few;
        looked = reads_rows store s new own range made.told is some' has m same kept wrote listing.0 rows listing.1 listing.2 (read ∙ tells) fits spent steps made.few;
      }
      go (Err err) listing read tells fits = memory err (range_told store s.session s.pass.seat new.pass.seat new.pass.hands (own_of s) own range.table range.low range.high made.told m) read fits

  -- Or there was no memory to keep that it was read.
  ranges_unmade : (found : Result (List Row) E) → IsErr found → new ≡ s → steps ≡ spent → RangesBy store s new range spent steps found
  unfolding unmade
  ranges_unmade (Ok rows) err still none' = absurd (never err)
    where
      never : false ≡ true → ⊥
      never e = cc
  ranges_unmade (Err err) none' still taken = subst (λ (x : Session). RangesBy store s x range spent steps (Err err)) (sym still) (record {
    session = is;
    same = refl;
    answers = unmade store s s.writes (command.Range range.table range.low range.high) is granted refl;
    finds = λ commits writes o. record { is_open = o; rows = tt };
    few = omega arith;
    looked = unmade_steps granted;
  })
    where
      granted : refusal_of (command.Range range.table range.low range.high) (own_of s) ≡ None
      granted = ap (refusal_of (command.Range range.table range.low range.high)) some'

      unmade_steps : refusal_of (command.Range range.table range.low range.high) (own_of s) ≡ None → ReadsRange store s s range.table range.low range.high said.Memory spent steps
      unmade_steps granted = record {
        answers = unmade store s s.writes (command.Range range.table range.low range.high) is granted refl;
        few = omega (arith, taken);
      }

  -- Whichever it was, the call hands up what it should.
  pub ranges : (found : Result (List Row) E) → MayFindRange store s.pass.seat s.pass.hands new.pass.seat new.pass.hands range.table (ranging own range.table range.low range.high) spent steps (new.pass ≡ s.pass) found
      → reads_of new ≡ range_read range found (reads_of s) → (new.pass ≡ s.pass → reads_of new ≡ reads_of s → new ≡ s) → RangesBy store s new range spent steps found
  ranges found (inl made) read still = ranges_made found made read
  ranges found (inr unmade) read still = ranges_unmade found unmade.0 (still unmade.1 (read ∙ unread found unmade.0)) unmade.2
    where
      unread : (found : Result (List Row) E) → IsErr found → range_read range found (reads_of s) ≡ reads_of s
      unread (Ok rows) err = absurd (let never : ⊥ = cc in never)
      unread (Err err) none' = refl
