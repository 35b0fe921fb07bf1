-- What an event leaves of a store, at the replies that tell it apart.
use Rattle.std.specs.Prelude.{◌≡◌, ℕ, pos, [], ◌∷◌, None, Some, refl}
use Rattle.block_spec.specs.Slots.{Row}
use Rattle.event_spec.specs.declared.event.Event.TheVariants as event
use Rattle.event_spec.specs.declared.own.OwnKey.{OwnKey}
use Rattle.event_spec.specs.declared.own.OwnTransaction.{OwnTransaction}
use Rattle.event_spec.specs.declared.reply.Reply.TheVariants as reply
use Rattle.event_spec.specs.Effects.{effect}
use Rattle.event_spec.specs.Parts.{Parts, Shape}
use Rattle.isolation_spec.specs.Contents.{place_at}
use Rattle.sole_store.specs.Sole.{SoleState, behind}
use Rattle.sole_store.specs.Writing.{settled}
use Rattle.txn_desk.specs.declared.Snapshot.{Snapshot}

-- a store of these parts, in which nothing is open
abbrev idle : Shape → Parts → SoleState
idle shape parts = record { shape = shape; parts = parts; own = None }

-- a begin leaves the transaction of its snapshot open
a_begin_opens : (shape : Shape) (parts : Parts) (snapshot : Snapshot)
    → (behind (idle shape parts) (event.Begin 1) (reply.Begun snapshot)).own
    ≡ Some (record { session = 1; snapshot = snapshot; writes = [] })
a_begin_opens shape parts snapshot = refl

-- the parts behind an event are those that it leaves
an_event_leaves_its_parts : (shape : Shape) (parts : Parts) (snapshot : Snapshot)
    → (behind (idle shape parts) (event.Begin 1) (reply.Begun snapshot)).parts
    ≡ effect shape parts (event.Begin 1)
an_event_leaves_its_parts shape parts snapshot = refl

-- without memory the store stays
memory_leaves_all : (store : SoleState) (own : OwnKey) (table : ℕ) (row : Row)
    → (behind store (event.Insert own table row) reply.Memory).parts ≡ store.parts
memory_leaves_all store own table row = refl

-- a commit that stands leaves nothing open
a_commit_closes : (store : SoleState) (own : OwnTransaction)
    → (behind store (event.Commit own None) (reply.Committed (Some 1))).own ≡ None
a_commit_closes store own = refl

-- a row gets its slot behind a write that was accepted, and loses its room behind another
a_slot_is_kept : settled [] (place_at 0 (pos 7)) (reply.Written 3) ≡ (place_at 0 (pos 7), 3) ∷ []
a_slot_is_kept = refl

a_refused_write_keeps_nothing : settled [] (place_at 0 (pos 7)) reply.Memory ≡ []
a_refused_write_keeps_nothing = refl
