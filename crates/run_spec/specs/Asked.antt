-- The events that a command makes, in order. One table lists them for all commands.
use Rattle.std.specs.Prelude.{ℕ, ℤ, List, [], ◌∷◌, ◌++◌, map, Option, None, Some, option_and_then}
use Rattle.std.specs.Prelude.{option_to_list, if◌then◌else◌}
use Rattle.std.specs.List.{filter_map, flat_map}
use Rattle.std.specs.Option.{option_map_or}
use Rattle.block_layout.specs.Place.{block_of}
use Rattle.block_spec.specs.Bodies.{Body, is_imaged, is_sealed, rows_of}
use Rattle.block_spec.specs.Slots.{Row}
use Rattle.event_spec.specs.declared.event.Event.TheVariants as event
use Rattle.event_spec.specs.declared.event.MovePair.{MovePair}
use Rattle.event_spec.specs.declared.own.OwnTransaction.{OwnTransaction}
use Rattle.event_spec.specs.declared.reply.Reply.TheVariants as reply
use Rattle.event_spec.specs.Effects.{CoreEvent}
use Rattle.event_spec.specs.Judged.{current_place}
use Rattle.event_spec.specs.Parts.{Parts, Shape, below, blocks_of, body_at, places_at, slot_at}
use Rattle.event_spec.specs.Parts.{tables_of}
use Rattle.event_spec.specs.Plans.{BlockLook, plan_of}
use Rattle.event_spec.specs.Replies.{CoreReply}
use Rattle.isolation_spec.specs.Contents.{key_of}
use Rattle.isolation_spec.specs.Reads.{ReadSet}
use Rattle.workload_spec.specs.declared.command.Command.{Command}
use Rattle.workload_spec.specs.declared.command.Command.TheVariants as command
use Rattle.run_spec.specs.Occurrences.{Occurrence, replies_in}
use Rattle.run_spec.specs.Opened.{own_key}

-- ---- blocks

-- an event for each block of a table, ascending
abbrev pub at_blocks : Shape → ℕ → (ℕ → CoreEvent) → List CoreEvent
at_blocks shape table event = map event (below (blocks_of shape table))

-- an event for each block of each table, table by table
abbrev pub at_all_blocks : Shape → (ℕ → ℕ → CoreEvent) → List CoreEvent
at_all_blocks shape event =
    flat_map (λ table. at_blocks shape table (event table)) (tables_of shape)

-- ---- what earlier events of a call tell of later ones

-- the parts before the first event of a call
abbrev pub parts_before : List Occurrence → Option Parts
parts_before [] = None
parts_before (first ∷ rest) = Some first.before

-- The imaged block in which the key's current row lies, if it lies in one.
abbrev pub imaged_block : Shape → ℕ → ℤ → Parts → Option ℕ
imaged_block shape table key parts = option_and_then
    (λ place.
    if is_imaged (body_at shape parts table (block_of place)).phase
    then Some (block_of place)
    else None)
    (current_place (slot_at shape parts table) (places_at shape parts table key))

-- A change thaws the block of its row first, where that is imaged before the call.
abbrev pub thaws : Shape → ℕ → ℤ → List Occurrence → List CoreEvent
thaws shape table key made = map
    (event.Thaw table)
    (option_to_list (option_and_then (imaged_block shape table key) (parts_before made)))

-- the rows of a sealed body, from which its image is made
abbrev pub rows_sealed : Body → Option (List Row)
rows_sealed body = if is_sealed body.phase then Some (rows_of body) else None

-- A gathering hands in the image of the block's rows, where the block is sealed before the call.
abbrev pub image_of : Shape → ℕ → ℕ → List Occurrence → Option (List Row)
image_of shape table block made =
    option_and_then (λ parts. rows_sealed (body_at shape parts table block)) (parts_before made)

-- the stamp that an `oldest` replied
abbrev pub oldest_told : CoreReply → Option ℕ
oldest_told (reply.Oldest oldest) = Some oldest
oldest_told _ = None

-- A pruning prunes each block by the stamp that its `oldest` replied.
abbrev pub prunes : Shape → List Occurrence → List CoreEvent
prunes shape made = flat_map
    (λ oldest. at_all_blocks shape (λ table block. event.Prune table block oldest))
    (filter_map oldest_told (replies_in made))

-- a block that was looked at, with what was seen of it
abbrev pub look_told : CoreEvent → CoreReply → Option BlockLook
look_told (event.Look table block) (reply.Looked look) =
    Some (record { block = block; look = look })
look_told _ _ = None

abbrev pub looks_in : List Occurrence → List BlockLook
looks_in made = filter_map (λ occurrence. look_told occurrence.event occurrence.reply) made

-- A compaction makes one move of all pairs that its looks give, and none where they give none.
abbrev pub moves : ℕ → List MovePair → List CoreEvent
moves table [] = []
moves table (pair ∷ pairs) = event.Move table (pair ∷ pairs) ∷ []

-- ---- the table

-- what a command makes by its session's open transaction
abbrev pub by_own : Option OwnTransaction → (OwnTransaction → List CoreEvent) → List CoreEvent
by_own own events = option_map_or events own []

-- All events of a session's command, in order. `own` is what the session has open, `reads` what
-- that read where it is checked, and `made` are the events that were made: the parts before the
-- first of them, an `oldest` and looks decide on later ones. A commit hands in the reads. A total
-- reads each block, as a scan does.
abbrev pub events_of
    : Shape → Option OwnTransaction → Option ReadSet → ℕ → Command → List Occurrence
    → List CoreEvent
events_of shape own reads session (command.Begin checked) made = event.Begin session ∷ []
events_of shape own reads session (command.Get table key) made =
    by_own own (λ t. event.Get (own_key table key t) table key ∷ [])
events_of shape own reads session (command.Scan table) made =
    by_own own (λ t. at_blocks shape table (event.Read t table))
events_of shape own reads session (command.Range table low high) made =
    by_own own (λ t. event.Range t table low high ∷ [])
events_of shape own reads session (command.Total table column low high) made =
    by_own own (λ t. at_blocks shape table (event.Read t table))
events_of shape own reads session (command.Insert table row) made =
    by_own own (λ t. event.Insert (own_key table (key_of row) t) table row ∷ [])
events_of shape own reads session (command.Update table row) made =
    by_own own (λ t.
    thaws shape table (key_of row) made
    ++ event.Update (own_key table (key_of row) t) table row ∷ [])
events_of shape own reads session (command.Delete table key) made =
    by_own own (λ t.
    thaws shape table key made ++ event.Delete (own_key table key t) table key ∷ [])
events_of shape own reads session command.Commit made = by_own own (λ t. event.Commit t reads ∷ [])
events_of shape own reads session command.Abort made = by_own own (λ t. event.Abort t ∷ [])
events_of shape own reads session command.Observe made = at_all_blocks shape event.Observe
events_of shape own reads session command.Prune made = event.Oldest ∷ prunes shape made
events_of shape own reads session (command.Compact table) made =
    at_blocks shape table (event.Look table) ++ moves table (plan_of (looks_in made))
events_of shape own reads session (command.Seal table block) made = event.Seal table block ∷ []
events_of shape own reads session (command.Gather table block) made =
    event.Image table block (image_of shape table block made) ∷ []
events_of shape own reads session (command.Export table) made =
    by_own own (λ t. at_blocks shape table (event.Read t table))
