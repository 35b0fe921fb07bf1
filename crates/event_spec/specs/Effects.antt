-- What each event makes of the parts.
use Rattle.std.specs.Prelude.{ℕ, ◌+◌, ◌-◌, ℤ, Bool, true, false, not, ◌&&◌, ◌==◌, List, [], ◌∷◌}
use Rattle.std.specs.Prelude.{◌++◌, Option, None, Some, is_some, is_none, unwrap_or, nat_lt, filter}
use Rattle.std.specs.Prelude.{fold, slice_set, Result, Ok, Err, if◌then◌else◌}
use Rattle.std.specs.List.{flat_map, filter_map, list_any}
use Rattle.std.specs.Ordering.{int_eq}
use Rattle.std.specs.FinMap as finite
use Rattle.block_layout.specs.Place.{block_of, slot_of}
use Rattle.block_spec.specs.declared.change.Change.{Change}
use Rattle.block_spec.specs.declared.change.Change.TheVariants as change
use Rattle.block_spec.specs.Slots.{Row, is_bare, has_none, written, moved_out, moved_in}
use Rattle.block_spec.specs.Bodies.{Body, is_loose, slot_in, has_row, is_empty, with_slot}
use Rattle.block_spec.specs.Bodies.{committed_in, rolled_back_in, pruned_in, observed, seal_fault}
use Rattle.block_spec.specs.Bodies.{sealed, imaged, thawed}
use Rattle.event_spec.specs.declared.event.Event.{Event}
use Rattle.event_spec.specs.declared.event.Event.TheVariants as event
use Rattle.event_spec.specs.declared.event.MovePair.{MovePair}
use Rattle.event_spec.specs.declared.own.OwnKey.{OwnKey}
use Rattle.event_spec.specs.declared.own.OwnTransaction.{OwnTransaction}
use Rattle.event_spec.specs.declared.part.Head.{Head}
use Rattle.event_spec.specs.declared.reply.WriteFault.{WriteFault}
use Rattle.event_spec.specs.Parts.{Parts, Shape, Changes, nothing, names, each_changed, head_at}
use Rattle.event_spec.specs.Parts.{body_at, desk_at, slot_at, places_at, part_at, shard_from}
use Rattle.event_spec.specs.Parts.{ShardOf, is_head, shard_of, below}
use Rattle.event_spec.specs.Parts.{blocks_of, slots_of}
use Rattle.event_spec.specs.Judged.{own_key, found_by, judged_insert, judged_change, differences}
use Rattle.event_spec.specs.Newest.{keys_within, stale_by}
use Rattle.isolation_spec.specs.Contents.{PlaceMap, key_of}
use Rattle.isolation_spec.specs.Reads.{ReadSet}
use Rattle.isolation_spec.specs.declared.read.Read.{Read}
use Rattle.key_index.specs.Candidates.{Places, candidates_of, with_candidates}
use Rattle.txn_desk.specs.Desk.{DeskState, marked, wrote_table}

-- The core's events: an image goes by the rows whose buffers it has.
abbrev pub CoreEvent : Type 0
CoreEvent = Event (List Row)

-- at one table, and at one shard or block of a table
abbrev pub at_table : {X : Type 0} → ℕ → (X → X) → ℕ → X → X
at_table table change other x = if other == table then change x else x

abbrev pub at_both : {X : Type 0} → ℕ → ℕ → (X → X) → ℕ → ℕ → X → X
at_both table number change other another x = if (other == table) && (another == number)
    then change x else x

-- ---- changes of one part

-- A candidate is added to a key where it is none yet.
abbrev pub with_place : ℤ → ℕ → Places → Places
with_place key place places =
    if list_any (λ other. other == place) (candidates_of places key) then places
    else with_candidates places key (candidates_of places key ++ place ∷ [])

-- Each key keeps those of its candidates that pass a test; a key without candidates has no entry.
abbrev pub kept_places : (ℕ → Bool) → Places → Places
kept_places keep places =
    fold
    (λ now entry. with_candidates now entry.0 (filter keep (candidates_of places entry.0)))
    places
    (finite.entries places)

-- The least empty block becomes the head, and its first slot is taken.
abbrev pub moved_on : List ℕ → Head → Head
moved_on [] head = head
moved_on (block ∷ blocks) head = record {
  block = block;
  taken = 1;
  inserts = head.inserts + 1;
  empty = blocks;
}

-- The head after an insert took the next slot.
abbrev pub taken_by : ℕ → Head → Head
taken_by slots head =
    if nat_lt head.taken slots then record head {
      taken = head.taken + 1;
      inserts = head.inserts + 1;
    }
    else moved_on head.empty head

-- The head where blocks may have become empty: all slots of an empty block are unused again.
abbrev pub with_empty : ℕ → (ℕ → Bool) → Head → Head
with_empty blocks empty head = record head {
  taken = if empty head.block then 0 else head.taken;
  empty = filter (λ block. empty block && not (block == head.block)) (below blocks);
}

-- A session is open with the newest stamp and the number of commits.
abbrev pub opened : ℕ → DeskState → DeskState
opened session desk = record desk {
  open_snapshots =
      slice_set desk.open_snapshots (session - 1)
      (Some (record { stamp = desk.newest; number = desk.commits }));
}

abbrev pub closed : ℕ → DeskState → DeskState
closed session desk = record desk
    { open_snapshots = slice_set desk.open_snapshots (session - 1) None }

-- the table is one of those written
abbrev pub writes_table : PlaceMap ℕ → ℕ → Bool
writes_table writes table = list_any (λ write. write.0.table == table) writes

-- A commit of some writes takes the next stamp and the next number, and is the last that wrote
-- their tables; a move takes the next stamp.
abbrev pub numbered : PlaceMap ℕ → DeskState → DeskState
numbered writes desk = record desk {
  newest = desk.newest + 1;
  commits = desk.commits + 1;
  wrote = marked (desk.commits + 1) (writes_table writes) desk.wrote;
}

abbrev pub ticked : DeskState → DeskState
ticked desk = record desk { newest = desk.newest + 1 }

abbrev pub is_some_write : PlaceMap ℕ → Bool
is_some_write [] = false
is_some_write (first ∷ rest) = true

abbrev pub has_key : ℤ → Option Row → Bool
has_key key None = false
has_key key (Some row) = int_eq (key_of row) key

module _ (shape : Shape) (parts : Parts) where
  -- ---- what events on a key find

  abbrev pub found : OwnKey → ℕ → ℤ → Option Row
  found own table key = found_by (slot_at shape parts table) (places_at shape parts table key) own

  abbrev pub insert_judged : OwnKey → ℕ → ℤ → Result ℕ WriteFault
  insert_judged own table key = judged_insert
      (slot_at shape parts table)
      (places_at shape parts table key)
      (head_at shape parts table)
      (slots_of shape table)
      own

  abbrev pub change_judged : OwnKey → ℕ → ℤ → Result ℕ WriteFault
  change_judged own table key = judged_change
      (slot_at shape parts table)
      (places_at shape parts table key)
      (λ block. (body_at shape parts table block).phase)
      own

  -- ---- what a range and a commit find

  -- the keys of a table between two, both counted, shard by shard
  abbrev pub range_keys : ℕ → ℤ → ℤ → List ℤ
  range_keys table low high = flat_map
      (λ shard. keys_within low high (shard_from (part_at shape parts (ShardOf table shard))))
      (below 8)

  -- the rows that a session finds of them, in this order
  abbrev pub range_found : OwnTransaction → ℕ → ℤ → ℤ → List Row
  range_found own table low high = filter_map
      (λ key. found (own_key table key own) table key)
      (range_keys table low high)

  -- Why a commit is refused: of the transaction's reads the first that a later commit wrote into.
  abbrev pub stale_in : OwnTransaction → Option ReadSet → Option (Read × ℕ)
  stale_in own reads = stale_by
      (slot_at shape parts)
      (places_at shape parts)
      range_keys
      (wrote_table (desk_at shape parts))
      own.snapshot
      own.writes
      reads

  -- ---- moves

  -- A block may give and take rows: it is loose, cooling and not the head, and it has a row.
  abbrev pub may_move : ℕ → ℕ → Bool
  may_move table block =
      is_loose (body_at shape parts table block).phase && (body_at shape parts table block).cooling
      && not (is_head shape parts table block) && has_row (body_at shape parts table block)

  -- A pair holds where both blocks may, the source has the key's row and no entry, and the target
  -- has neither.
  abbrev pub holds : ℕ → MovePair → Bool
  holds table pair =
      may_move table (block_of pair.source) && may_move table (block_of pair.target)
      && has_key pair.key (slot_at shape parts table pair.source).row
      && has_none (slot_at shape parts table pair.source).entries
      && is_bare (slot_at shape parts table pair.target)

  -- All pairs are judged by the state before the event.
  abbrev pub held_pairs : ℕ → List MovePair → List MovePair
  held_pairs table pairs = filter (holds table) pairs

  abbrev pub moved_row : ℕ → MovePair → Row
  moved_row table pair = unwrap_or (slot_at shape parts table pair.source).row []

  -- a body after its halves of one pair: the row leaves the source, and comes to the target
  abbrev pub left_by : ℕ → ℕ → ℕ → MovePair → Body → Body
  left_by table stamp block pair body =
      if block_of pair.source == block
      then with_slot (slot_of pair.source) (moved_out stamp (moved_row table pair)) body
      else body

  abbrev pub come_to_by : ℕ → ℕ → ℕ → MovePair → Body → Body
  come_to_by table stamp block pair body =
      if block_of pair.target == block
      then with_slot (slot_of pair.target) (moved_in stamp (moved_row table pair)) body
      else body

  abbrev pub half_moved : ℕ → ℕ → ℕ → Body → MovePair → Body
  half_moved table stamp block body pair = come_to_by table stamp block pair
      (left_by table stamp block pair body)

  abbrev pub places_moved : ℕ → Places → MovePair → Places
  places_moved shard places pair = if shard_of pair.key == shard
      then with_place pair.key pair.target places else places

  -- ---- the changes of each event

  -- A write changes its slot.
  abbrev pub after_write : ℕ → ℕ → ℕ → Change → Changes
  after_write table session place new = record nothing {
    body = at_both table (block_of place) (with_slot (slot_of place) (written session new));
  }

  -- An insert puts the row, adds the candidate where it is none yet, and takes the next slot where
  -- the transaction did not write the key.
  abbrev pub after_insert : OwnKey → ℕ → Row → Result ℕ WriteFault → Changes
  after_insert own table row (Err fault) = nothing
  after_insert own table row (Ok place)
      = record (after_write table own.session place (change.Put row)) {
        head = at_table table (if is_some own.written then (λ head. head)
            else taken_by (slots_of shape table));
        shard = at_both table (shard_of (key_of row)) (with_place (key_of row) place);
      }

  -- An update or a delete changes the current row.
  abbrev pub after_change : OwnKey → ℕ → (Row → Change) → Result ℕ WriteFault → Changes
  after_change own table new (Err fault) = nothing
  after_change own table new (Ok place) =
      after_write table own.session place (new (unwrap_or (slot_at shape parts table place).row []))

  -- A commit closes its session; with writes it gives all its entries the next stamp and number.
  abbrev pub after_commit : OwnTransaction → Changes
  after_commit own = record nothing {
    body = λ table block.
        if is_some_write own.writes
        then committed_in own.session ((desk_at shape parts).newest + 1)
        ((desk_at shape parts).commits + 1)
        else (λ body. body);
    desk = λ desk. closed own.session
        (if is_some_write own.writes then numbered own.writes desk else desk);
  }

  -- A commit that is refused changes nothing.
  abbrev pub after_judged : OwnTransaction → Option (Read × ℕ) → Changes
  after_judged own (Some stale) = nothing
  after_judged own None = after_commit own

  -- A roll-back or a pruning: blocks that it leaves empty are the head's again, and slots that it
  -- leaves bare leave the index.
  abbrev pub with_fewer : (ℕ → ℕ → Body → Body) → Changes
  with_fewer change = record nothing {
    head = λ table. with_empty (blocks_of shape table)
        (λ block. is_empty (change table block (body_at shape parts table block)));
    shard = λ table shard. kept_places (λ place.
        not (is_bare (slot_in (change table (block_of place)
        (body_at shape parts table (block_of place))) (slot_of place))));
    body = change;
  }

  -- the changes of one table's head and shards alone
  abbrev pub of_table : ℕ → Changes → Changes
  of_table table changes = record changes {
    head = λ other head. if other == table then changes.head other head else head;
    shard = λ other shard places. if other == table then changes.shard other shard places
        else places;
  }

  -- An abort lays back what its session wrote, and closes it.
  abbrev pub after_abort : OwnTransaction → Changes
  after_abort own = record (with_fewer (λ table block. rolled_back_in own.session))
      { desk = closed own.session }

  -- A move gives the pairs that hold one stamp; where none holds, it takes none.
  abbrev pub after_move : ℕ → List MovePair → Changes
  after_move table [] = nothing
  after_move table (first ∷ rest) = record nothing {
    shard = λ other shard places. if other == table
        then fold (places_moved shard) places (first ∷ rest) else places;
    body = λ other block body.
        if other == table
        then fold (half_moved table ((desk_at shape parts).newest + 1) block) body (first ∷ rest)
        else body;
    desk = ticked;
  }

  -- A seal changes the phase where nothing is against it.
  abbrev pub after_seal : ℕ → ℕ → Changes
  after_seal table block =
      if is_none (seal_fault (is_head shape parts table block) (body_at shape parts table block))
      then record nothing { body = at_both table block sealed }
      else nothing

  abbrev pub changes_of : CoreEvent → Changes
  changes_of (event.Begin session) = record nothing { desk = opened session }
  changes_of (event.Get own table key) = nothing
  changes_of (event.Insert own table row) = after_insert own table row
      (insert_judged own table (key_of row))
  changes_of (event.Update own table row) =
      after_change own table (λ old. change.Patch (differences 0 old row))
      (change_judged own table (key_of row))
  changes_of (event.Delete own table key) = after_change own table (λ old. change.Gone)
      (change_judged own table key)
  changes_of (event.Read own table block) = nothing
  changes_of (event.Range own table low high) = nothing
  changes_of (event.Commit own reads) = after_judged own (stale_in own reads)
  changes_of (event.Abort own) = after_abort own
  changes_of event.Oldest = nothing
  changes_of (event.Observe table block) =
      record nothing { body = at_both table block (observed (is_head shape parts table block)) }
  changes_of (event.Prune table block oldest) = of_table table
      (with_fewer (at_both table block (pruned_in oldest)))
  changes_of (event.Look table block) = nothing
  changes_of (event.Move table moves) = after_move table (held_pairs table moves)
  changes_of (event.Seal table block) = after_seal table block
  changes_of (event.Image table block image) = record nothing { body = at_both table block imaged }
  changes_of (event.Thaw table block) = record nothing { body = at_both table block thawed }

  -- The parts after an event.
  abbrev pub effect : CoreEvent → Parts
  effect event = each_changed (changes_of event) (names shape) parts
