-- What a reply in a transaction sees is what the machine's transaction sees: reads, and writes by
-- the rows.
use Rattle.std.proofs.Common.{◌≡◌, ℕ, ◌≤◌, Bool, true, false, cond, ◌&&◌, not, eqb, List, [], ◌∷◌, ◌++◌, length, take, Option, None, Some, refl, sym, ap, ◌∙◌, subst, append-nil, inl, inr, ℤ}
use Rattle.std.specs.Prelude.{is_none, fold, bytes_eq}
use Rattle.std.specs.Option.{option_map_or}
use Rattle.std.specs.Ordering.{int_eq}
use Rattle.std.specs.Cmp.{int_eq_equiv}
use Rattle.std.specs.Cmp.Lexicographic.{pointwise}
use Rattle.std.specs.List.{filter}
use Rattle.std.proofs.lemmas.Slice.Eq.{bytes_eq-Decides}
use Rattle.std.proofs.lemmas.List.{take-append-le}
use Rattle.std.proofs.lemmas.List.Elements.{filter-append}
use Rattle.std.proofs.lemmas.Bool.{and_from}
use Rattle.cell_model.specs.declared.cell.Cell.{Cell}
use Rattle.cell_model.specs.declared.cell.Cell.TheVariants.{Null, Num, Truth, Text, Blob}
use Rattle.cell_model.specs.declared.table.TableDecl.{TableDecl}
use Rattle.isolation_spec.specs.Contents.{State, WriteSet, History, laid_over, state_at, at_place, place_at, contents_of, contents_between, numbers_between, sum_of}
use Rattle.isolation_spec.specs.Checked.{step_with, stale_of}
use Rattle.isolation_spec.specs.Reads.{ReadSet}
use Rattle.isolation_spec.specs.declared.read.Read.{Read}
use Rattle.isolation_spec.specs.declared.place.Place.{Place}
use Rattle.isolation_spec.specs.declared.command.Act.{Act}
use Rattle.isolation_spec.specs.declared.command.Act.TheVariants as act
use Rattle.isolation_spec.specs.declared.command.Answer.{Answer}
use Rattle.isolation_spec.specs.declared.command.Answer.TheVariants as answer
use Rattle.isolation_spec.specs.Store.{Outcome, Answered, Freezing, Full, Memory, Allows}
use Rattle.isolation_spec.specs.Machine.{IsolationMachine, seen_rows, step_of, commit, told_total, Transaction, transaction_of}
use Rattle.isolation_laws.proofs.Checked.{commit-stands, commit-refused}
use Rattle.workload_spec.specs.declared.command.Command.{Command}
use Rattle.workload_spec.specs.declared.command.Command.TheVariants as command
use Rattle.workload_spec.specs.declared.reply.Who.{Who}
use Rattle.workload_spec.specs.declared.reply.Who.TheVariants.{Session, Worker}
use Rattle.workload_spec.specs.declared.reply.Said.{Said}
use Rattle.workload_spec.specs.declared.reply.Said.TheVariants as said
use Rattle.outcome_spec.specs.Entries.{Entry, is_same, is_before, before, snapshot_in, is_end}
use Rattle.outcome_spec.specs.Runs.{Span, Run, up_to_end, writes_in, seen_at}
use Rattle.outcome_spec.specs.Runs.{transaction_of as belongs_to}
use Rattle.outcome_spec.specs.Answers.{is_cell, is_row, is_total_of, read_holds, reads_hold, is_acceptable, write_holds, writes_hold, got_place, rows_asked, numbers_asked}
use Rattle.outcome_spec.specs.Stale.{reads_after}
use Rattle.timeline_spec.specs.Timeline.{open_of, Each, Follows, InOrder, TimelineFrom, said_of, Tells, request_of, TakesAs, Aside, ExportsBy, is_of_upkeep}
use Rattle.outcome_spec.specs.Entries.{thread}
use Rattle.timeline_laws.proofs.Order.{Each-second, Each-weaker, Each-filter, before-itself, order-front, order-rest, same-is, same-itself}
use Rattle.timeline_laws.proofs.Spans.{span}
use Rattle.timeline_laws.proofs.Unique.{Only}
use Rattle.timeline_laws.proofs.Belongs.{found-open, found-none, its-order, Each-up_to_end}
use Rattle.timeline_laws.proofs.Machine.{Sane, eqb-itself}
use Rattle.timeline_laws.proofs.Steps.{Change, quiet, opens, writes, ends, commits, Verdict, accepted, rival, later, refused, limited, memory, takes-verdict, asks}
use Rattle.timeline_laws.proofs.Walk.{Within, Stands, ended-unopened}
use Rattle.timeline_laws.proofs.Cuts.{Cut}
use Rattle.timeline_laws.proofs.Histories.{run, last, at-cut, history-shown}
use Rattle.timeline_laws.proofs.Chosen.{filter-each}

-- ---- rows and cells are themselves

-- Any bytes are equal to themselves.
bytes-itself : (bytes : List ℕ) → bytes_eq bytes bytes ≡ true
bytes-itself bytes = (bytes_eq-Decides bytes bytes).1 refl

-- Each cell is the same as itself.
cell-itself : (cell : Cell) → is_cell cell cell ≡ true
cell-itself Null = refl
cell-itself (Num n) = int_eq_equiv.refl n
cell-itself (Truth true) = refl
cell-itself (Truth false) = refl
cell-itself (Text bytes) = bytes-itself bytes
cell-itself (Blob bytes) = bytes-itself bytes

-- a row is the same as itself
pub row-itself : (row : List Cell) → is_row row row ≡ true
row-itself [] = refl
row-itself (cell ∷ row) = and_from (is_cell cell cell) (is_row row row) (cell-itself cell) (row-itself row)

-- so are the rows of a list
pub rows-themselves : (rows : List (List Cell)) → pointwise is_row rows rows ≡ true
rows-themselves [] = refl
rows-themselves (row ∷ rows) = and_from (is_row row row) (pointwise is_row rows rows) (row-itself row) (rows-themselves rows)

-- ---- what is before a reply in its transaction

-- A test that each reply fails keeps none.
filter-none : (p : Entry → Bool) (entries : List Entry) → Each (λ entry. p entry ≡ false) entries → filter p entries ≡ []
filter-none p [] h = refl
filter-none p (entry ∷ entries) h = rw h.0 (filter-none p entries h.1)

-- One's own replies in front of a reply that follows them are before it.
front-before : (entry : Entry) (front : List Entry) → Each (λ other. is_same other.reply.who entry.reply.who ≡ true) front → Each (λ earlier. Follows earlier entry) front
    → Each (λ other. is_before other entry ≡ true) front
front-before entry [] of h = tt
front-before entry (other ∷ front) of h =
    let same : is_same entry.reply.who other.reply.who ≡ true = subst (λ (w : Who). is_same entry.reply.who w ≡ true) (sym (same-is other.reply.who entry.reply.who of.0)) (same-itself entry.reply.who) in
    (h.0.in_turn same, front-before entry front of.1 h.1)

-- The snapshot of what one has open is not above the commits.
bound-of : (machine : IsolationMachine) → Sane machine → (who : Who) (o : Transaction) → open_of who machine ≡ Some o → o.snapshot ≤ length machine.history
bound-of machine sane (Session session) o at = sane.bound session o at
bound-of machine sane (Worker worker) o at = absurd (let never : ⊥ = cc in never)

-- One more reply, kept if it is one's own, leaves all kept ones one's own.
own-kept : (who : Who) (kept : Bool) (entry : Entry) (entries : List Entry) → is_same entry.reply.who who ≡ kept → Each (λ other. is_same other.reply.who who ≡ true) entries
    → Each (λ other. is_same other.reply.who who ≡ true) (cond kept (entry ∷ entries) entries)
own-kept who true entry entries is h = (is, h)
own-kept who false entry entries is h = h

-- Each reply of one's thread is one's own.
own-of : (who : Who) (entries : List Entry) → Each (λ entry. is_same entry.reply.who who ≡ true) (thread who entries)
own-of who [] = tt
own-of who (entry ∷ entries) = own-kept who (is_same entry.reply.who who) entry (thread who entries) refl (own-of who entries)

module _ (start : History) (tables : List TableDecl) (printed timeline : List Entry) (t : TimelineFrom start tables printed timeline) (entry : Entry) (only : Only printed entry)
    (cut : Cut start tables timeline (last start tables printed timeline t) entry) where
  -- the run that the reply stands in
  abbrev pub here : Run
  here = run start tables printed timeline t

  -- whom the reply answers
  abbrev pub its : Who
  its = entry.reply.who

  -- the replies to its own session or worker behind it
  abbrev pub behind_it : List Entry
  behind_it = thread its cut.rest

  -- the timeline is in order where it is cut at the reply
  pub cut-order : InOrder (cut.front ++ entry ∷ cut.rest)
  cut-order = its-order printed timeline cut.front entry cut.rest (at-cut start tables printed timeline t entry only cut)

  -- the reply may come about behind each in front
  pub front-follows : Each (λ earlier. Follows earlier entry) cut.front
  front-follows = order-front cut.front entry cut.rest cut-order

  -- each behind may come about behind the reply
  pub rest-follows : Each (Follows entry) cut.rest
  rest-follows = order-rest cut.front entry cut.rest cut-order

  -- the replies of a transaction in front are before the reply
  replies-before : (o : Transaction) (within : Within its (thread its cut.front) o) → Each (λ other. is_before other entry ≡ true) within.replies
  replies-before o within =
      Each-second (λ other. is_before other entry ≡ true) within.ahead within.replies
      (subst (Each (λ other. is_before other entry ≡ true)) within.split
      (front-before entry (thread its cut.front) (own-of its cut.front) (Each-filter (λ earlier. Follows earlier entry) (λ other. is_same other.reply.who its) cut.front front-follows)))

  -- Of the replies behind up to the first end, none is before the reply.
  behind-not : Each (λ other. is_before other entry ≡ false) (up_to_end behind_it)
  behind-not =
      Each-up_to_end (λ other. is_before other entry ≡ false) behind_it
      (Each-filter (λ other. is_before other entry ≡ false) (λ other. is_same other.reply.who its) cut.rest
      (Each-weaker (Follows entry) (λ other. is_before other entry ≡ false) (λ other follows. follows.not_before) cut.rest rest-follows))

  -- From the reply on, whether it is an end or not, none is before it.
  none-or : (b : Bool) → filter (λ other. is_before other entry) (cond b (entry ∷ []) (entry ∷ up_to_end behind_it)) ≡ []
  none-or true = rw (before-itself entry) refl
  none-or false = rw (before-itself entry) (filter-none (λ other. is_before other entry) (up_to_end behind_it) behind-not)

  -- of its transaction's replies those before the reply are those in front of it
  pub before-is : (o : Transaction) (within : Within its (thread its cut.front) o) → before (within.replies ++ up_to_end (entry ∷ behind_it)) entry ≡ within.replies
  before-is o within =
      filter-append (λ other. is_before other entry) within.replies (up_to_end (entry ∷ behind_it))
      ∙ (rw (filter-each (λ other. is_before other entry) within.replies (replies-before o within), none-or (is_end entry.reply.said)) (append-nil within.replies))

  -- the transaction that the reply belongs to
  abbrev pub belongs : (o : Transaction) → Within its (thread its cut.front) o → Span
  belongs o within = span its o.snapshot (within.replies ++ up_to_end (entry ∷ behind_it))

  -- what its session has open is that transaction, among its replies in front
  pub within-open : (o : Transaction) → open_of its cut.machine ≡ Some o → Within its (thread its cut.front) o
  within-open o at = subst (Stands its (thread its cut.front)) at (cut.shown.stands its)

  -- The reply belongs to the transaction that its session has open.
  pub belongs-is : (o : Transaction) (within : Within its (thread its cut.front) o) → belongs_to here entry ≡ Some (belongs o within)
  belongs-is o within = found-open printed timeline cut.front entry cut.rest (at-cut start tables printed timeline t entry only cut) o.snapshot within.replies within.spanned

  -- a reply that opens none belongs to none where its session has none open
  pub belongs-none : open_of its cut.machine ≡ None → snapshot_in entry.reply.said ≡ None → belongs_to here entry ≡ None
  belongs-none at none =
      found-none printed timeline cut.front entry cut.rest (at-cut start tables printed timeline t entry only cut) (subst (Stands its (thread its cut.front)) at (cut.shown.stands its)) none

  -- the state at a snapshot that the machine had
  pub state-is : (n : ℕ) → n ≤ length cut.machine.history → state_at here.history n ≡ state_at cut.machine.history n
  state-is n low =
      ap (λ (h : History). fold laid_over [] (take n h)) (history-shown start tables printed timeline t ∙ cut.grows.is)
      ∙ ap (fold laid_over []) (take-append-le n cut.machine.history cut.grows.more low)

  -- the snapshot of what its session has open is not above the commits
  pub bound-is : (o : Transaction) → open_of its cut.machine ≡ Some o → o.snapshot ≤ length cut.machine.history
  bound-is o at = bound-of cut.machine cut.shown.sane its o at

  -- nor is it below those that the store began with
  pub began-is : (o : Transaction) → open_of its cut.machine ≡ Some o → length start ≤ o.snapshot
  began-is o at = started-of its at
    where
      started-of : (who : Who) → open_of who cut.machine ≡ Some o → length start ≤ o.snapshot
      started-of (Session session) is = cut.shown.started session o is
      started-of (Worker worker) is = absurd (let never : ⊥ = cc in never)

  -- What the transaction sees.
  pub seen-is : (o : Transaction) (at : open_of its cut.machine ≡ Some o) (within : Within its (thread its cut.front) o) → seen_at here (belongs o within) entry ≡ seen_rows cut.machine o
  seen-is o at within =
      ap (λ (s : State). laid_over s (writes_in (before (belongs o within).replies entry))) (state-is o.snapshot (bound-is o at))
      ∙ ap (λ (es : List Entry). laid_over (state_at cut.machine.history o.snapshot) (writes_in es)) (before-is o within)
      ∙ ap (laid_over (state_at cut.machine.history o.snapshot)) within.writes_are

-- ---- reads

-- a get is answered by what is seen at its key
got-holds : (seen : State) (table : ℕ) (key : ℤ) (found : Option (List Cell)) → at_place seen (place_at table key) ≡ found → read_holds seen (command.Get table key) (said_of (answer.Found found)) ≡ true
got-holds seen table key None is = ap is_none is
got-holds seen table key (Some row) is = ap (λ (o : Option (List Cell)). option_map_or (is_row row) o false) is ∙ row-itself row

-- Where the machine's answer to a read holds, and each refusal, so does each outcome.
outcome-read : (machine : IsolationMachine) (reads : Option ReadSet) (session : ℕ) (asked : Command) (act : Act) (seen : State) (own : Answer) (told : Said) (after : IsolationMachine)
    → (step_with machine reads (asks session act)).0 ≡ own → read_holds seen asked (said_of own) ≡ true → read_holds seen asked said.Memory ≡ true
    → (outcome : Outcome) → Tells outcome told → Allows machine reads (asks session act) outcome after
    → ((table : ℕ) (block : ℕ) (stamp : ℕ) → read_holds seen asked (said.Freezing table block stamp) ≡ true) → read_holds seen asked said.Full ≡ true → read_holds seen asked told ≡ true
outcome-read machine reads session asked act seen own told after is holds held (Answered a) tells allows f g =
    let e : a ≡ own = sym (ap (λ (p : Answer × IsolationMachine). p.0) allows) ∙ is in
    ap (read_holds seen asked) (tells ∙ ap said_of e) ∙ holds
outcome-read machine reads session asked act seen own told after is holds held Freezing tells allows f g = ap (read_holds seen asked) tells.3 ∙ f tells.0 tells.1 tells.2
outcome-read machine reads session asked act seen own told after is holds held Full tells allows f g = ap (read_holds seen asked) tells ∙ g
outcome-read machine reads session asked act seen own told after is holds held Memory tells allows f g = ap (read_holds seen asked) tells ∙ held

-- a total is answered by how many numbers are seen, and their sum
told-holds : (count : ℕ) (sum : ℤ) → (eqb count count && int_eq sum sum) ≡ true
told-holds count sum = and_from (eqb count count) (int_eq sum sum) (eqb-itself count) (int_eq_equiv.refl sum)

-- a command that asks for no place, no rows and no numbers shows none that are seen
other-read : (seen : State) (asked : Command) (told : Said) → got_place asked ≡ None → rows_asked seen asked ≡ None → numbers_asked seen asked ≡ None → read_holds seen asked told ≡ true
other-read seen asked (said.Found row) got rows numbers = ap (λ (f : Option Place). option_map_or (λ place. option_map_or (is_row row) (at_place seen place) false) f true) got
other-read seen asked said.Absent got rows numbers = ap (λ (f : Option Place). option_map_or (λ place. is_none (at_place seen place)) f true) got
other-read seen asked (said.Scanned told) got rows numbers = ap (λ (f : Option (List (List Cell))). option_map_or (λ seen_rows. pointwise is_row told seen_rows) f true) rows
other-read seen asked (said.Totalled count sum) got rows numbers = ap (λ (f : Option (List ℤ)). option_map_or (is_total_of count sum) f true) numbers
other-read seen asked _ got rows numbers = refl

-- A reply in a transaction shows what its transaction sees.
takes-read : (tables : List TableDecl) (front : List Entry) (machine : IsolationMachine) (entry : Entry) (after : IsolationMachine) (who : Who) (asked : Command) (o : Transaction)
    → entry.command ≡ asked → open_of who machine ≡ Some o → TakesAs tables front machine entry after (request_of who asked) → read_holds (seen_rows machine o) asked entry.reply.said ≡ true
takes-read tables front machine entry after (Worker worker) asked o is at h = absurd (let never : ⊥ = cc in never)
takes-read tables front machine entry after (Session session) (command.Get table key) o is at h =
    outcome-read machine (reads_after (thread entry.reply.who front)) session (command.Get table key) (act.Get table key) (seen_rows machine o) (answer.Found (at_place (seen_rows machine o) (place_at table key))) entry.reply.said after
    (ap (λ (f : Option Transaction). (step_of machine (asks session (act.Get table key)) f).0) at)
    (got-holds (seen_rows machine o) table key (at_place (seen_rows machine o) (place_at table key)) refl) refl h.outcome h.tells h.allows (λ t b s. refl) refl
takes-read tables front machine entry after (Session session) (command.Scan table) o is at h =
    outcome-read machine (reads_after (thread entry.reply.who front)) session (command.Scan table) (act.Scan table) (seen_rows machine o) (answer.Rows (contents_of table (seen_rows machine o))) entry.reply.said after
    (ap (λ (f : Option Transaction). (step_of machine (asks session (act.Scan table)) f).0) at)
    (rows-themselves (contents_of table (seen_rows machine o))) refl h.outcome h.tells h.allows (λ t b s. refl) refl
takes-read tables front machine entry after (Session session) (command.Range table low high) o is at h =
    let rows = contents_between table low high (seen_rows machine o) in
    outcome-read machine (reads_after (thread entry.reply.who front)) session (command.Range table low high) (act.Range table low high) (seen_rows machine o) (answer.Rows rows) entry.reply.said after
    (ap (λ (f : Option Transaction). (step_of machine (asks session (act.Range table low high)) f).0) at)
    (rows-themselves rows) refl h.outcome h.tells h.allows (λ t b s. refl) refl
takes-read tables front machine entry after (Session session) (command.Total table column low high) o is at h =
    let numbers = numbers_between column low high (contents_of table (seen_rows machine o)) in
    outcome-read machine (reads_after (thread entry.reply.who front)) session (command.Total table column low high) (act.Total table column low high) (seen_rows machine o) (told_total numbers) entry.reply.said after
    (ap (λ (f : Option Transaction). (step_of machine (asks session (act.Total table column low high)) f).0) at)
    (told-holds (length numbers) (sum_of numbers)) refl h.outcome h.tells h.allows (λ t b s. refl) refl
takes-read tables front machine entry after (Session session) asked o is at h = other-read (seen_rows machine o) asked entry.reply.said refl refl refl

-- ---- writes by the rows

-- the reply refuses a write by the rows
abbrev refuses : Said → Bool
refuses said.Exists = true
refuses said.Missing = true
refuses _ = false

-- A reply that refuses no write holds where the write is acceptable.
unrefused : (told : Said) → refuses told ≡ false → write_holds true told ≡ true
unrefused said.Exists h = absurd (let never : ⊥ = cc in never)
unrefused said.Missing h = absurd (let never : ⊥ = cc in never)
unrefused _ h = refl

-- What a verdict on a write tells of the rows holds.
verdict-write : (machine : IsolationMachine) (o : Transaction) (place : Place) (acceptable : Bool) (told : Said) → Verdict machine o place acceptable told → write_holds acceptable told ≡ true
verdict-write machine o place acceptable told (accepted clear can is) = ap (write_holds acceptable) is ∙ can
verdict-write machine o place acceptable told (rival r found is) = ap (write_holds acceptable) is
verdict-write machine o place acceptable told (later k none found is) = ap (write_holds acceptable) is
verdict-write machine o place acceptable told (refused clear can (inl is)) = ap (write_holds acceptable) is ∙ ap not can
verdict-write machine o place acceptable told (refused clear can (inr is)) = ap (write_holds acceptable) is ∙ ap not can
verdict-write machine o place acceptable told (limited clear can (inl is)) = ap (write_holds acceptable) is ∙ can
verdict-write machine o place acceptable told (limited clear can (inr is)) = ap (write_holds acceptable) is.3 ∙ can
verdict-write machine o place acceptable told (memory is) = ap (write_holds acceptable) is

-- Where the machine's answer refuses no write by the rows, no outcome does.
outcome-unrefused : (machine : IsolationMachine) (reads : Option ReadSet) (session : ℕ) (act : Act) (own : Answer) (told : Said) (after : IsolationMachine)
    → (step_with machine reads (asks session act)).0 ≡ own → refuses (said_of own) ≡ false → (outcome : Outcome) → Tells outcome told → Allows machine reads (asks session act) outcome after
    → refuses told ≡ false
outcome-unrefused machine reads session act own told after is free (Answered a) tells allows =
    let e : a ≡ own = sym (ap (λ (p : Answer × IsolationMachine). p.0) allows) ∙ is in ap refuses (tells ∙ ap said_of e) ∙ free
outcome-unrefused machine reads session act own told after is free Freezing tells allows = ap refuses tells.3
outcome-unrefused machine reads session act own told after is free Full tells allows = ap refuses tells
outcome-unrefused machine reads session act own told after is free Memory tells allows = ap refuses tells

-- The answer to a get refuses no write by the rows.
got-unrefused : (o : Option (List Cell)) → refuses (said_of (answer.Found o)) ≡ false
got-unrefused None = refl
got-unrefused (Some row) = refl

-- The answer to a commit refuses no write by the rows.
commit-unrefused : (machine : IsolationMachine) (o : Transaction) (own : WriteSet) → refuses (said_of (commit machine o own).0) ≡ false
commit-unrefused machine o [] = refl
commit-unrefused machine o (first ∷ rest) = refl

-- Nor does the answer to a commit that hands in reads, stale or not.
handed-unrefused : (machine : IsolationMachine) (reads : Option ReadSet) (session : ℕ) (o : Transaction) (stale : Option (Read × ℕ)) → transaction_of session machine ≡ Some o
    → stale_of machine reads session act.Commit ≡ stale → refuses (said_of (step_with machine reads (asks session act.Commit)).0) ≡ false
handed-unrefused machine reads session o None at is =
    ap (λ (p : Answer × IsolationMachine). refuses (said_of p.0)) (commit-stands machine reads session is)
    ∙ ap (λ (f : Option Transaction). refuses (said_of (step_of machine (asks session act.Commit) f).0)) at
    ∙ commit-unrefused machine o o.own
handed-unrefused machine reads session o (Some stale) at is = ap (λ (p : Answer × IsolationMachine). refuses (said_of p.0)) (commit-refused machine reads session stale is)

-- What upkeep tells refuses no write by the rows.
upkeep-unrefused : (told : Said) → is_of_upkeep told ≡ true → refuses told ≡ false
upkeep-unrefused said.Exists h = absurd (let never : ⊥ = cc in never)
upkeep-unrefused said.Missing h = absurd (let never : ⊥ = cc in never)
upkeep-unrefused _ h = refl

-- What an export tells refuses no write by the rows.
export-unrefused : (tables : List TableDecl) (front : List Entry) (machine : IsolationMachine) (found : Option Transaction) (table : ℕ) (told : Said) → ExportsBy tables front machine found table told → refuses told ≡ false
export-unrefused tables front machine None table told h = ap refuses h
export-unrefused tables front machine (Some o) table said.Exists h = absurd h
export-unrefused tables front machine (Some o) table said.Missing h = absurd h
export-unrefused tables front machine (Some o) table _ h = refl

-- A reply in a transaction tells of a write what the rows seen say.
takes-write : (tables : List TableDecl) (front : List Entry) (machine : IsolationMachine) (entry : Entry) (after : IsolationMachine) (who : Who) (asked : Command) (o : Transaction)
    → entry.command ≡ asked → open_of who machine ≡ Some o → TakesAs tables front machine entry after (request_of who asked) → write_holds (is_acceptable (seen_rows machine o) asked) entry.reply.said ≡ true
takes-write tables front machine entry after (Worker worker) asked o is at h = absurd (let never : ⊥ = cc in never)
takes-write tables front machine entry after (Session session) (command.Begin checked) o is at h =
    unrefused entry.reply.said (outcome-unrefused machine (reads_after (thread entry.reply.who front)) session (act.Begin checked) answer.InTransaction entry.reply.said after (ap (λ (f : Option Transaction). (step_of machine (asks session (act.Begin checked)) f).0) at) refl h.outcome h.tells h.allows)
takes-write tables front machine entry after (Session session) (command.Get table key) o is at h =
    unrefused entry.reply.said (outcome-unrefused machine (reads_after (thread entry.reply.who front)) session (act.Get table key) (answer.Found (at_place (seen_rows machine o) (place_at table key))) entry.reply.said after
    (ap (λ (f : Option Transaction). (step_of machine (asks session (act.Get table key)) f).0) at) (got-unrefused (at_place (seen_rows machine o) (place_at table key))) h.outcome h.tells h.allows)
takes-write tables front machine entry after (Session session) (command.Scan table) o is at h =
    unrefused entry.reply.said (outcome-unrefused machine (reads_after (thread entry.reply.who front)) session (act.Scan table) (answer.Rows (contents_of table (seen_rows machine o))) entry.reply.said after
    (ap (λ (f : Option Transaction). (step_of machine (asks session (act.Scan table)) f).0) at) refl h.outcome h.tells h.allows)
takes-write tables front machine entry after (Session session) (command.Range table low high) o is at h =
    unrefused entry.reply.said (outcome-unrefused machine (reads_after (thread entry.reply.who front)) session (act.Range table low high) (answer.Rows (contents_between table low high (seen_rows machine o))) entry.reply.said after
    (ap (λ (f : Option Transaction). (step_of machine (asks session (act.Range table low high)) f).0) at) refl h.outcome h.tells h.allows)
takes-write tables front machine entry after (Session session) (command.Total table column low high) o is at h =
    unrefused entry.reply.said (outcome-unrefused machine (reads_after (thread entry.reply.who front)) session (act.Total table column low high) (told_total (numbers_between column low high (contents_of table (seen_rows machine o)))) entry.reply.said after
    (ap (λ (f : Option Transaction). (step_of machine (asks session (act.Total table column low high)) f).0) at) refl h.outcome h.tells h.allows)
takes-write tables front machine entry after (Session session) (command.Insert table row) o is at h =
    verdict-write machine o _ (is_acceptable (seen_rows machine o) (command.Insert table row)) entry.reply.said
    (takes-verdict tables front machine session o (command.Insert table row) entry.reply.said after entry _ _ is refl at refl h)
takes-write tables front machine entry after (Session session) (command.Update table row) o is at h =
    verdict-write machine o _ (is_acceptable (seen_rows machine o) (command.Update table row)) entry.reply.said
    (takes-verdict tables front machine session o (command.Update table row) entry.reply.said after entry _ _ is refl at refl h)
takes-write tables front machine entry after (Session session) (command.Delete table key) o is at h =
    verdict-write machine o _ (is_acceptable (seen_rows machine o) (command.Delete table key)) entry.reply.said
    (takes-verdict tables front machine session o (command.Delete table key) entry.reply.said after entry _ _ is refl at refl h)
takes-write tables front machine entry after (Session session) command.Commit o is at h =
    unrefused entry.reply.said (outcome-unrefused machine (reads_after (thread entry.reply.who front)) session act.Commit
    (step_with machine (reads_after (thread entry.reply.who front)) (asks session act.Commit)).0 entry.reply.said after refl
    (handed-unrefused machine (reads_after (thread entry.reply.who front)) session o (stale_of machine (reads_after (thread entry.reply.who front)) session act.Commit) at refl) h.outcome h.tells h.allows)
takes-write tables front machine entry after (Session session) command.Abort o is at h =
    unrefused entry.reply.said (outcome-unrefused machine (reads_after (thread entry.reply.who front)) session act.Abort answer.Aborted entry.reply.said after (ap (λ (f : Option Transaction). (step_of machine (asks session act.Abort) f).0) at) refl h.outcome h.tells h.allows)
takes-write tables front machine entry after (Session session) (command.Export table) o is at h =
    let aside : Aside tables front machine entry.reply.who (command.Export table) entry.reply.said = subst (λ (c : Command). Aside tables front machine entry.reply.who c entry.reply.said) is h.0 in
    unrefused entry.reply.said (export-unrefused tables front machine (open_of entry.reply.who machine) table entry.reply.said aside)
takes-write tables front machine entry after (Session session) asked o is at h =
    let aside : Aside tables front machine entry.reply.who asked entry.reply.said = subst (λ (c : Command). Aside tables front machine entry.reply.who c entry.reply.said) is h.0 in
    unrefused entry.reply.said (upkeep-unrefused entry.reply.said aside.1)

-- a reply that shows a snapshot reads nothing
begun-read : (seen : State) (asked : Command) (number : ℕ) → read_holds seen asked (said.At number) ≡ true
begun-read seen asked number = refl

-- a test of the transaction that a reply belongs to, if it belongs to one
pub at-some : (test : Span → Bool) (found : Option Span) (u : Span) → found ≡ Some u → test u ≡ true → option_map_or test found true ≡ true
at-some test found u is h = ap (λ (o : Option Span). option_map_or test o true) is ∙ h

-- a test of what is not there holds
pub at-none : (test : Span → Bool) (found : Option Span) → found ≡ None → option_map_or test found true ≡ true
at-none test found is = ap (λ (o : Option Span). option_map_or test o true) is

-- a test that always holds does so of what is there or not
pub at-any : (test : Span → Bool) (found : Option Span) → ((u : Span) → test u ≡ true) → option_map_or test found true ≡ true
at-any test None h = refl
at-any test (Some u) h = h u

module _ (start : History) (tables : List TableDecl) (printed timeline : List Entry) (t : TimelineFrom start tables printed timeline) (entry : Entry) (only : Only printed entry)
    (cut : Cut start tables timeline (last start tables printed timeline t) entry) where
  -- The run that is read from the printed replies.
  abbrev run_here : Run
  run_here = run start tables printed timeline t

  -- A condition on the transaction of a reply: it holds where a transaction is open in front, and
  -- where the reply opens one.
  pub by-transaction : (test : Span → Bool)
      → ((o : Transaction) (at : open_of entry.reply.who cut.machine ≡ Some o) (within : Within entry.reply.who (thread entry.reply.who cut.front) o) → test (belongs start tables printed timeline t entry only cut o within) ≡ true)
      → ((u : Span) (checked : Bool) → entry.command ≡ command.Begin checked → entry.reply.said ≡ said.At (length cut.machine.history) → test u ≡ true)
      → (found : Option Transaction) → open_of entry.reply.who cut.machine ≡ found → Change entry.reply.who entry.command entry.reply.said cut.machine cut.after
      → option_map_or test (belongs_to run_here entry) true ≡ true
  by-transaction test inside begins (Some o) at change =
      let within = within-open start tables printed timeline t entry only cut o at in
      at-some test (belongs_to run_here entry) (belongs start tables printed timeline t entry only cut o within) (belongs-is start tables printed timeline t entry only cut o within) (inside o at within)
  by-transaction test inside begins None at (quiet q) = at-none test (belongs_to run_here entry) (belongs-none start tables printed timeline t entry only cut at q.opens)
  by-transaction test inside begins None at (opens o) = at-any test (belongs_to run_here entry) (λ u. begins u o.checked o.asked_is o.said_is)
  by-transaction test inside begins None at (writes w) = at-none test (belongs_to run_here entry) (belongs-none start tables printed timeline t entry only cut at (ap snapshot_in w.said_is))
  by-transaction test inside begins None at (ends e) = at-none test (belongs_to run_here entry) (belongs-none start tables printed timeline t entry only cut at (ended-unopened entry.reply.said e.t.own e.said_is))
  by-transaction test inside begins None at (commits c) = at-none test (belongs_to run_here entry) (belongs-none start tables printed timeline t entry only cut at (ap snapshot_in c.said_is))

  -- Reads.
  pub reads : reads_hold run_here entry ≡ true
  reads =
      by-transaction (λ u. read_holds (seen_at run_here u entry) entry.command entry.reply.said)
      (λ o at within. ap (λ (s : State). read_holds s entry.command entry.reply.said) (seen-is start tables printed timeline t entry only cut o at within)
      ∙ takes-read tables cut.front cut.machine entry cut.after entry.reply.who entry.command o refl at cut.takes)
      (λ u checked is_asked is. ap (read_holds (seen_at run_here u entry) entry.command) is ∙ begun-read (seen_at run_here u entry) entry.command (length cut.machine.history))
      (open_of entry.reply.who cut.machine) refl cut.change

  -- Writes.
  pub writes-by-rows : writes_hold run_here entry ≡ true
  writes-by-rows =
      by-transaction (λ u. write_holds (is_acceptable (seen_at run_here u entry) entry.command) entry.reply.said)
      (λ o at within. ap (λ (s : State). write_holds (is_acceptable s entry.command) entry.reply.said) (seen-is start tables printed timeline t entry only cut o at within)
      ∙ takes-write tables cut.front cut.machine entry cut.after entry.reply.who entry.command o refl at cut.takes)
      (λ u checked is_asked is. ap (write_holds (is_acceptable (seen_at run_here u entry) entry.command)) is)
      (open_of entry.reply.who cut.machine) refl cut.change
