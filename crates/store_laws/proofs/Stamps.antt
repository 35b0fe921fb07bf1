-- How many stamps a log takes.
use Rattle.std.proofs.Common.{◌≡◌, ℕ, ◌+◌, ◌≤◌, Bool, true, false, cond, List, [], ◌∷◌, is_none, length, refl, sym, ap, subst, arith, Option, None, Some}
use Rattle.std.specs.Prelude.{Result, Ok, Err, fold}
use Rattle.std.proofs.lemmas.List.{length-map}
use Rattle.block_spec.specs.Bodies.{seal_fault, sealed}
use Rattle.block_spec.specs.declared.change.Change.{Change}
use Rattle.block_spec.specs.declared.change.Change.TheVariants as change
use Rattle.block_spec.specs.Slots.{Row}
use Rattle.core_laws.proofs.Events.Naming.{desk_there}
use Rattle.core_laws.proofs.Events.States.{desk_at_after}
use Rattle.event_spec.specs.declared.event.Event.TheVariants as event
use Rattle.event_spec.specs.declared.event.MovePair.{MovePair}
use Rattle.event_spec.specs.declared.own.OwnKey.{OwnKey}
use Rattle.event_spec.specs.declared.reply.WriteFault.{WriteFault}
use Rattle.event_spec.specs.Effects.{CoreEvent, after_change, after_insert, after_judged, after_move, at_both, change_judged, changes_of, closed, effect, held_pairs, insert_judged, is_some_write, numbered, stale_in}
use Rattle.event_spec.specs.Judged.{differences}
use Rattle.event_spec.specs.Parts.{Parts, Shape, nothing, body_at, desk_at, is_head}
use Rattle.event_spec.specs.Replay.{IsLawfulFrom, IsLawfulLog, Made, after, opening}
use Rattle.event_spec.specs.Sound.{IsShape}
use Rattle.core_laws.proofs.Frames.Reached.{core_kept, core_opens}
use Rattle.core_laws.specs.Frames.Shards.{CoreHolds}
use Rattle.isolation_spec.specs.Contents.{key_of, PlaceMap}
use Rattle.core_laws.proofs.Logs.Opening.{desk}
use Rattle.run_spec.specs.Occurrences.{Logged}
use Rattle.store_laws.specs.Laws.{StampsAreFew}
use Rattle.store_laws.specs.Logs.{made_in}
use Rattle.store_laws.specs.Own.{parts_after}
use Rattle.txn_desk.specs.Desk.{DeskState}
use Rattle.event_spec.specs.declared.own.OwnTransaction.{OwnTransaction}
use Rattle.isolation_spec.specs.declared.read.Read.{Read}

-- the newest stamp is at most one above another's
abbrev IsOneMore : DeskState → DeskState → Type 0
IsOneMore before after' = after'.newest ≤ before.newest + 1

-- A desk that stays as it is takes one stamp at most.
same_more : (x y : DeskState) → y ≡ x → IsOneMore x y
same_more x y same = subst (IsOneMore x) (sym same) (omega arith)

module _ (sh : Shape) (s : Parts) where
  -- An insert leaves the desk, and so takes no stamp.
  insert_desk : (own : OwnKey) (u : ℕ) (row : Row) (r : Result ℕ WriteFault) (x : DeskState) → (after_insert sh s own u row r).desk x ≡ x
  insert_desk own u row (Err fault) x = refl
  insert_desk own u row (Ok p) x = refl

  -- An update or a delete leaves the desk as it is.
  change_desk : (own : OwnKey) (u : ℕ) (choice : Row → Change) (r : Result ℕ WriteFault) (x : DeskState) → (after_change sh s own u choice r).desk x ≡ x
  change_desk own u choice (Err fault) x = refl
  change_desk own u choice (Ok p) x = refl

  -- A seal leaves the desk as it is.
  seal_desk : (u c : ℕ) (x : DeskState) → (changes_of sh s (event.Seal u c)).desk x ≡ x
  seal_desk u c x = go (is_none (seal_fault (is_head sh s u c) (body_at sh s u c)))
    where
      go : (e : Bool) → (cond e (record nothing { body = at_both u c sealed }) nothing).desk x ≡ x
      go true = refl
      go false = refl

  -- A move takes one stamp at most.
  move_more : (u : ℕ) (pairs : List MovePair) (x : DeskState) → IsOneMore x ((after_move sh s u pairs).desk x)
  move_more u [] x = omega arith
  move_more u (first ∷ rest) x = omega arith

  -- A commit, of writes or of none, takes one stamp at most.
  commit_more : (wrote : Bool) (writes : PlaceMap ℕ) (q : ℕ) (x : DeskState) → IsOneMore x (closed q (cond wrote (numbered writes x) x))
  commit_more true writes q x = omega arith
  commit_more false writes q x = omega arith

  -- One that is refused takes none.
  judged_more : (own : OwnTransaction) (stale : Option (Read × ℕ)) (x : DeskState) → IsOneMore x ((after_judged sh s own stale).desk x)
  judged_more own (Some stale) x = omega arith
  judged_more own None x = commit_more (is_some_write own.writes) own.writes own.session x

  -- Any event takes one stamp at most.
  event_more : (e : CoreEvent) → IsOneMore (desk_at sh s) ((changes_of sh s e).desk (desk_at sh s))
  event_more (event.Begin q) = omega arith
  event_more (event.Get own u key) = omega arith
  event_more (event.Insert own u row) = same_more _ _ (insert_desk own u row (insert_judged sh s own u (key_of row)) (desk_at sh s))
  event_more (event.Update own u row) = same_more _ _ (change_desk own u (λ old. change.Patch (differences 0 old row)) (change_judged sh s own u (key_of row)) (desk_at sh s))
  event_more (event.Delete own u key) = same_more _ _ (change_desk own u (λ old. change.Gone) (change_judged sh s own u key) (desk_at sh s))
  event_more (event.Read own u c) = omega arith
  event_more (event.Range own u low high) = omega arith
  event_more (event.Commit own reads) = judged_more own (stale_in sh s own reads) (desk_at sh s)
  event_more (event.Abort own) = omega arith
  event_more event.Oldest = omega arith
  event_more (event.Observe u c) = omega arith
  event_more (event.Prune u c oldest) = omega arith
  event_more (event.Look u c) = omega arith
  event_more (event.Move u moves) = move_more u (held_pairs sh s u moves) (desk_at sh s)
  event_more (event.Seal u c) = same_more _ _ (seal_desk u c (desk_at sh s))
  event_more (event.Image u c image) = omega arith
  event_more (event.Thaw u c) = omega arith

  -- An event that was made, or was refused memory, takes one stamp at most.
  made_more : (made : Made) → CoreHolds sh s → IsOneMore (desk_at sh s) (desk_at sh (after sh s made))
  made_more made holds = go made.refused
    where
      now : desk_at sh (effect sh s made.event) ≡ (changes_of sh s made.event).desk (desk_at sh s)
      now = desk_at_after sh s (changes_of sh s made.event) (desk_there sh s holds.sound.kinds).0 (desk_there sh s holds.sound.kinds).1

      go : (refused : Bool) → IsOneMore (desk_at sh s) (desk_at sh (cond refused s (effect sh s made.event)))
      go true = omega arith
      go false = subst (IsOneMore (desk_at sh s)) (sym now) (event_more made.event)

-- A lawful log leaves a core that holds, where the core before it does.
holds_from : (sh : Shape) (s : Parts) (log : List Made) → CoreHolds sh s → IsLawfulFrom sh s log → CoreHolds sh (fold (after sh) s log)
holds_from sh s [] holds lawful = holds
holds_from sh s (made ∷ log) holds lawful = holds_from sh (after sh s made) log (kept made.refused) lawful.2
  where
    kept : (refused : Bool) → CoreHolds sh (cond refused s (effect sh s made.event))
    kept true = holds
    kept false = core_kept sh made.event s holds lawful.0

pub holds_after : (sh : Shape) (log : List Logged) → IsShape sh → IsLawfulLog sh (made_in log) → CoreHolds sh (parts_after sh log)
holds_after sh log shape lawful = holds_from sh (opening sh) (made_in log) (core_opens sh shape) lawful

-- From sound parts on, a lawful log takes at most as many stamps as it has events.
stamps_from : (sh : Shape) (s : Parts) (log : List Made) → CoreHolds sh s → IsLawfulFrom sh s log
    → (desk_at sh (fold (after sh) s log)).newest ≤ (desk_at sh s).newest + length log
stamps_from sh s [] holds lawful = omega arith
stamps_from sh s (made ∷ log) holds lawful =
    let one = made_more sh s made holds in
    let rest = stamps_from sh (after sh s made) log (kept made.refused) lawful.2 in
    omega (arith, one, rest)
  where
    kept : (refused : Bool) → CoreHolds sh (cond refused s (effect sh s made.event))
    kept true = holds
    kept false = core_kept sh made.event s holds lawful.0

-- the newest stamp is at most the number of events
pub stamps_are_few : StampsAreFew
stamps_are_few sh log shape lawful =
    let first : (desk_at sh (opening sh)).newest ≡ 0 = ap (λ (d : DeskState). d.newest) (desk sh shape) in
    let rest = stamps_from sh (opening sh) (made_in log) (core_opens sh shape) lawful in
    let long : length (made_in log) ≡ length log = length-map log (λ (entry : Logged). entry.made) in
    omega (arith, first, rest, long)
