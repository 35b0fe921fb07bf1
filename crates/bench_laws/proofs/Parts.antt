-- The replies of a generated workload in parts: the transactions of write rounds, the lines of
-- upkeep, and the last round.
use Rattle.std.proofs.Common.{◌≡◌, ℕ, ◌+◌, ◌*◌, ◌<◌, ◌≤◌, zero, suc, false, List, [], ◌∷◌, ◌++◌, map, Option, ap, ◌∙◌, arith, append_assoc}
use Rattle.cell_model.specs.declared.cell.Cell.{Cell}
use Rattle.workload_spec.specs.declared.command.Command.{Command}
use Rattle.workload_spec.specs.declared.command.Command.TheVariants as command
use Rattle.workload_spec.specs.declared.reply.Who.TheVariants.{Session}
use Rattle.workload_spec.specs.declared.reply.Said.{Said}
use Rattle.workload_spec.specs.declared.reply.Said.TheVariants as said
use Rattle.outcome_spec.specs.Entries.{Entry}
use Rattle.bench_spec.specs.Generated.{row_of, key_of, updated_key, draw_in}
use Rattle.bench_laws.proofs.Every.{Every, every-weaker}
use Rattle.bench_laws.proofs.Replies.{IsInsertReply, IsUpdateReply, IsCountReply, IsSealReply, IsGatherReply, IsScanReply, IsExportReply}

-- a reply to a session
abbrev pub entry : ℕ → ℕ → ℕ → ℕ → Command → Said → Entry
entry number round session index asked told = record {
  number = number;
  command = asked;
  reply = record { round = round; who = Session session; index = index; said = told };
}

-- the row that a session inserts in its turn, and the one that it leaves where it updates
unfoldable pub first_row : ℕ → ℕ → ℕ → List Cell
first_row seed turn session = row_of (key_of turn session) (draw_in seed turn session 1) (draw_in seed turn session 2)

unfoldable pub next_row : ℕ → ℕ → ℕ → List Cell
next_row seed turn session = row_of (updated_key turn session (draw_in seed turn session 3)) (draw_in seed turn session 4) (draw_in seed turn session 5)

-- A transaction of a write round: the round in the output, the session and which of the write
-- rounds it is, the rows, and what it is told. A commit shows a number or none.
pub record Wrote : Type 0 where
  pub round : ℕ
  pub session : ℕ
  pub turn : ℕ
  pub row : List Cell
  pub change : List Cell
  pub snapshot : ℕ
  pub insert_said : Said
  pub update_said : Said
  pub number : Option ℕ
  pub begin_line : ℕ
  pub begin_index : ℕ
  pub insert_line : ℕ
  pub insert_index : ℕ
  pub update_line : ℕ
  pub update_index : ℕ
  pub commit_line : ℕ
  pub commit_index : ℕ

-- the reply to a transaction's begin
abbrev pub begin : Wrote → Entry
begin w = entry w.begin_line w.round w.session w.begin_index (command.Begin false) (said.At w.snapshot)

-- the reply to its insert
abbrev pub insert : Wrote → Entry
insert w = entry w.insert_line w.round w.session w.insert_index (command.Insert 0 w.row) w.insert_said

-- the reply to its update
abbrev pub update : Wrote → Entry
update w = entry w.update_line w.round w.session w.update_index (command.Update 0 w.change) w.update_said

-- the reply to its commit
abbrev pub commit : Wrote → Entry
commit w = entry w.commit_line w.round w.session w.commit_index command.Commit (said.Committed w.number)

-- the four replies to a transaction
abbrev pub replies_to : Wrote → List Entry
replies_to w = begin w ∷ insert w ∷ update w ∷ commit w ∷ []

-- a line of pruning, observing or compacting, which session 1 does
pub record Kept : Type 0 where
  pub round : ℕ
  pub line : ℕ
  pub index : ℕ
  pub asked : Command
  pub told : Said

-- the reply to such a line
abbrev pub kept_entry : Kept → Entry
kept_entry k = entry k.line k.round 1 k.index k.asked k.told

-- the sealing and the gathering of a block
pub record Froze : Type 0 where
  pub round : ℕ
  pub block : ℕ
  pub seal_line : ℕ
  pub seal_index : ℕ
  pub seal_said : Said
  pub gather_line : ℕ
  pub gather_index : ℕ
  pub gather_said : Said

-- the reply to the sealing
abbrev pub seal_entry : Froze → Entry
seal_entry f = entry f.seal_line f.round 1 f.seal_index (command.Seal 0 f.block) f.seal_said

-- the reply to the gathering
abbrev pub gather_entry : Froze → Entry
gather_entry f = entry f.gather_line f.round 1 f.gather_index (command.Gather 0 f.block) f.gather_said

pub data Part : Type 0 where
  Writing : Wrote → Part
  Keeping : Kept → Part
  Freezing : Froze → Part

-- the replies of a part
abbrev pub entries_of : Part → List Entry
entries_of (Writing w) = replies_to w
entries_of (Keeping k) = kept_entry k ∷ []
entries_of (Freezing f) = seal_entry f ∷ gather_entry f ∷ []

-- the replies of the parts, one part behind the other
abbrev pub entries_in : List Part → List Entry
entries_in [] = []
entries_in (part ∷ parts) = entries_of part ++ entries_in parts

-- the transactions among the parts
abbrev pub wrotes : List Part → List Wrote
wrotes [] = []
wrotes (Writing w ∷ parts) = w ∷ wrotes parts
wrotes (Keeping k ∷ parts) = wrotes parts
wrotes (Freezing f ∷ parts) = wrotes parts

-- The last round: what its transaction shows.
pub record Last : Type 0 where
  pub round : ℕ
  pub snapshot : ℕ
  pub scan_said : Said
  pub export_said : Said
  pub number : Option ℕ
  pub begin_line : ℕ
  pub begin_index : ℕ
  pub scan_line : ℕ
  pub scan_index : ℕ
  pub export_line : ℕ
  pub export_index : ℕ
  pub commit_line : ℕ
  pub commit_index : ℕ

-- the reply to the last round's begin
abbrev pub last_begin : Last → Entry
last_begin l = entry l.begin_line l.round 1 l.begin_index (command.Begin false) (said.At l.snapshot)

-- the reply to its scan
abbrev pub last_scan : Last → Entry
last_scan l = entry l.scan_line l.round 1 l.scan_index (command.Scan 0) l.scan_said

-- the reply to its export
abbrev pub last_export : Last → Entry
last_export l = entry l.export_line l.round 1 l.export_index (command.Export 0) l.export_said

-- the reply to its commit
abbrev pub last_commit : Last → Entry
last_commit l = entry l.commit_line l.round 1 l.commit_index command.Commit (said.Committed l.number)

-- the four replies of the last round
abbrev pub last_entries : Last → List Entry
last_entries l = last_begin l ∷ last_scan l ∷ last_export l ∷ last_commit l ∷ []

-- ---- what holds of each part

pub record GoodWrote (seed : ℕ) (w : Wrote) : Type 0 where
  pub insert_fits : IsInsertReply w.insert_said
  pub update_fits : IsUpdateReply 0 w.update_said
  pub session_low : 1 ≤ w.session
  pub session_high : w.session ≤ 4
  pub turn_low : 1 ≤ w.turn
  pub row_is : w.row ≡ first_row seed w.turn w.session
  pub change_is : w.change ≡ next_row seed w.turn w.session

-- the command is one of pruning, observing or compacting
abbrev pub IsKept : Command → Type 0
IsKept command.Observe = Unit {0}
IsKept command.Prune = Unit {0}
IsKept (command.Compact table) = Unit {0}
IsKept _ = ⊥

-- the part is told what it may be, and a transaction is one of its session and turn
abbrev pub Good : ℕ → Part → Type 0
Good seed (Writing w) = GoodWrote seed w
Good seed (Keeping k) = IsKept k.asked × IsCountReply k.told
Good seed (Freezing f) = IsSealReply 0 f.block f.seal_said × IsGatherReply 0 f.block f.gather_said

-- upkeep of this round or a later one, or a transaction at these places or behind them: by rounds
-- and sessions, and by turns and sessions
abbrev pub From : ℕ → ℕ → ℕ → Part → Type 0
From round place turn (Writing w) = (place ≤ 4 * w.round + w.session) × (turn ≤ 4 * w.turn + w.session)
From round place turn (Keeping k) = round ≤ k.round
From round place turn (Freezing f) = round ≤ f.round

-- upkeep has rounds of its own, and the transactions go by their rounds and sessions
abbrev pub InTurn : List Part → Type 0
InTurn [] = Unit {0}
InTurn (Writing w ∷ parts) = Every (From (w.round + 1) (4 * w.round + w.session + 1) (4 * w.turn + w.session + 1)) parts × InTurn parts
InTurn (Keeping k ∷ parts) = Every (From k.round (4 * (k.round + 1) + 1) 0) parts × InTurn parts
InTurn (Freezing f ∷ parts) = Every (From f.round (4 * (f.round + 1) + 1) 0) parts × InTurn parts

-- the part is of a round before this one
abbrev pub Under : ℕ → Part → Type 0
Under round (Writing w) = w.round < round
Under round (Keeping k) = k.round < round
Under round (Freezing f) = f.round < round

-- whose turns the transactions are
abbrev pub turns : ℕ → ℕ → List (ℕ × ℕ)
turns turn zero = []
turns turn (suc count) = (turn, 1) ∷ (turn, 2) ∷ (turn, 3) ∷ (turn, 4) ∷ turns (turn + 1) count

-- the turn and the session of a transaction
abbrev pub turn_of : Wrote → ℕ × ℕ
turn_of w = (w.turn, w.session)

-- What is read behind some replies: parts from a round and from places on, and the last round,
-- which is this one or a later one.
pub record Rest (seed round place turn least : ℕ) (earlier entries : List Entry) (asked : List (ℕ × ℕ)) : Type 0 where
  pub parts : List Part
  pub last : Last
  pub whole : entries ≡ earlier ++ (entries_in parts ++ last_entries last)
  pub good : Every (Good seed) parts
  pub in_turn : InTurn parts
  pub from : Every (From round place turn) parts
  pub under : Every (Under last.round) parts
  pub asked_are : map turn_of (wrotes parts) ≡ asked
  pub last_low : least ≤ last.round
  pub scan_fits : IsScanReply last.scan_said
  pub export_fits : IsExportReply last.export_said

-- what comes from some places on comes from earlier places on
pub from-weaker : (a o t b p u : ℕ) → b ≤ a → p ≤ o → u ≤ t → (part : Part) → From a o t part → From b p u part
from-weaker a o t b p u h k m (Writing w) f = (let e : o ≤ 4 * w.round + w.session = f.0 in omega (arith, e), let e : t ≤ 4 * w.turn + w.session = f.1 in omega (arith, e))
from-weaker a o t b p u h k m (Keeping x) f = let e : a ≤ x.round = f in omega (arith, e)
from-weaker a o t b p u h k m (Freezing x) f = let e : a ≤ x.round = f in omega (arith, e)

-- and so does all that is read
pub rest-weaker : {seed a o t l : ℕ} {earlier entries : List Entry} {asked : List (ℕ × ℕ)} (b p u m : ℕ) → b ≤ a → p ≤ o → u ≤ t → m ≤ l
    → Rest seed a o t l earlier entries asked → Rest seed b p u m earlier entries asked
rest-weaker {seed} {a} {o} {t} {l} {earlier} {entries} {asked} b p u m h k j i r = record {
  parts = r.parts;
  last = r.last;
  whole = r.whole;
  good = r.good;
  in_turn = r.in_turn;
  from = every-weaker (From a o t) (From b p u) (from-weaker a o t b p u h k j) r.parts r.from;
  under = r.under;
  asked_are = r.asked_are;
  last_low = let e = r.last_low in omega (arith, e);
  scan_fits = r.scan_fits;
  export_fits = r.export_fits;
}

-- Three lists of replies joined from the left are joined from the right.
behind : (earlier own rest : List Entry) → (earlier ++ own) ++ rest ≡ earlier ++ (own ++ rest)
behind earlier own rest = append_assoc earlier own rest

-- a transaction before what is read behind it
pub rest-writes : (seed l : ℕ) (earlier entries : List Entry) (asked : List (ℕ × ℕ)) (w : Wrote) → GoodWrote seed w → w.round + 1 ≤ l
    → Rest seed (w.round + 1) (4 * w.round + w.session + 1) (4 * w.turn + w.session + 1) l (earlier ++ replies_to w) entries asked
    → Rest seed (w.round + 1) (4 * w.round + w.session) (4 * w.turn + w.session) l earlier entries (turn_of w ∷ asked)
rest-writes seed l earlier entries asked w good low r = record {
  parts = Writing w ∷ r.parts;
  last = r.last;
  whole = r.whole ∙ behind earlier (replies_to w) (entries_in r.parts ++ last_entries r.last);
  good = (good, r.good);
  in_turn = (r.from, r.in_turn);
  from = (
    (omega arith, omega arith),
    every-weaker (From (w.round + 1) (4 * w.round + w.session + 1) (4 * w.turn + w.session + 1)) (From (w.round + 1) (4 * w.round + w.session) (4 * w.turn + w.session))
        (from-weaker (w.round + 1) (4 * w.round + w.session + 1) (4 * w.turn + w.session + 1) (w.round + 1) (4 * w.round + w.session) (4 * w.turn + w.session) (omega arith) (omega arith) (omega arith)) r.parts r.from,
  );
  under = (let e = r.last_low in omega (arith, e), r.under);
  asked_are = ap (λ xs. turn_of w ∷ xs) r.asked_are;
  last_low = r.last_low;
  scan_fits = r.scan_fits;
  export_fits = r.export_fits;
}

-- a line of pruning, observing or compacting before it
pub rest-keeps : (seed t l : ℕ) (earlier entries : List Entry) (asked : List (ℕ × ℕ)) (k : Kept) → IsKept k.asked → IsCountReply k.told → k.round + 1 ≤ l
    → Rest seed k.round (4 * (k.round + 1) + 1) t l (earlier ++ kept_entry k ∷ []) entries asked
    → Rest seed k.round (4 * (k.round + 1) + 1) t l earlier entries asked
rest-keeps seed t l earlier entries asked k kept fits low r = record {
  parts = Keeping k ∷ r.parts;
  last = r.last;
  whole = r.whole ∙ behind earlier (kept_entry k ∷ []) (entries_in r.parts ++ last_entries r.last);
  good = ((kept, fits), r.good);
  in_turn = (
    every-weaker (From k.round (4 * (k.round + 1) + 1) t) (From k.round (4 * (k.round + 1) + 1) 0)
        (from-weaker k.round (4 * (k.round + 1) + 1) t k.round (4 * (k.round + 1) + 1) 0 (omega arith) (omega arith) (omega arith)) r.parts r.from,
    r.in_turn,
  );
  from = (let e : k.round ≤ k.round = omega arith in e, r.from);
  under = (let e = r.last_low in omega (arith, e), r.under);
  asked_are = r.asked_are;
  last_low = r.last_low;
  scan_fits = r.scan_fits;
  export_fits = r.export_fits;
}

-- the sealing and the gathering of a block before it
pub rest-freezes : (seed t l : ℕ) (earlier entries : List Entry) (asked : List (ℕ × ℕ)) (f : Froze) → IsSealReply 0 f.block f.seal_said → IsGatherReply 0 f.block f.gather_said → f.round + 1 ≤ l
    → Rest seed f.round (4 * (f.round + 1) + 1) t l (earlier ++ seal_entry f ∷ gather_entry f ∷ []) entries asked
    → Rest seed f.round (4 * (f.round + 1) + 1) t l earlier entries asked
rest-freezes seed t l earlier entries asked f seals gathers low r = record {
  parts = Freezing f ∷ r.parts;
  last = r.last;
  whole = r.whole ∙ behind earlier (seal_entry f ∷ gather_entry f ∷ []) (entries_in r.parts ++ last_entries r.last);
  good = ((seals, gathers), r.good);
  in_turn = (
    every-weaker (From f.round (4 * (f.round + 1) + 1) t) (From f.round (4 * (f.round + 1) + 1) 0)
        (from-weaker f.round (4 * (f.round + 1) + 1) t f.round (4 * (f.round + 1) + 1) 0 (omega arith) (omega arith) (omega arith)) r.parts r.from,
    r.in_turn,
  );
  from = (let e : f.round ≤ f.round = omega arith in e, r.from);
  under = (let e = r.last_low in omega (arith, e), r.under);
  asked_are = r.asked_are;
  last_low = r.last_low;
  scan_fits = r.scan_fits;
  export_fits = r.export_fits;
}
