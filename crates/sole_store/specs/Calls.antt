-- What the calls of a store of one owner do and answer.
use Rattle.std.specs.Prelude.{◌≡◌, ℕ, true, None, is_some, Result, Ok, Err}
use Rattle.event_spec.specs.declared.event.Event.TheVariants as event
use Rattle.event_spec.specs.declared.reply.Reply.TheVariants as reply
use Rattle.event_spec.specs.Effects.{CoreEvent}
use Rattle.sole_store.specs.Sole.{Makes, SoleState}
use Rattle.sole_store.specs.declared.faults.BeginFault.{BeginFault}
use Rattle.sole_store.specs.declared.faults.BeginFault.TheVariants as begin
use Rattle.sole_store.specs.declared.faults.WriteRefused.{WriteRefused}
use Rattle.sole_store.specs.declared.faults.WriteRefused.TheVariants as write

-- A begin tells how many transactions that wrote had committed before. It is refused where one is
-- open, and where there is no memory for what the transaction is to write.
abbrev pub Begins : SoleState → SoleState → Result ℕ BeginFault → Type 0
Begins old new (Ok number) = (stamp : ℕ)
    × Makes old new (event.Begin 1) (reply.Begun (record { stamp = stamp; number = number }))
Begins old new (Err begin.Open) = (new ≡ old) × (is_some old.own ≡ true)
Begins old new (Err begin.Memory) = (new ≡ old) × (old.own ≡ None)

-- A write is accepted on some slot, or refused by what stands in the table. Without memory nothing
-- is written.
abbrev pub Writes : SoleState → SoleState → CoreEvent → Result (Unit {0}) WriteRefused → Type 0
Writes old new asked (Ok done) = (slot : ℕ) × Makes old new asked (reply.Written slot)
Writes old new asked (Err (write.Fault fault)) = Makes old new asked (reply.Refused fault)
Writes old new asked (Err write.Memory) = new ≡ old
