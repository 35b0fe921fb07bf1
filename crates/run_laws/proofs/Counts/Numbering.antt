-- What each event makes of the newest stamp and the count of commits.
use Rattle.std.proofs.Common.{◌≡◌, ℕ, ◌+◌, ◌<◌, ◌^◌, Bool, true, false, cond, List, [], ◌∷◌, Option, None, Some, is_none, refl, sym, subst, arith}
use Rattle.std.specs.Prelude.{Result, Ok, Err}
use Rattle.block_spec.specs.Bodies.{seal_fault, sealed}
use Rattle.block_spec.specs.declared.change.Change.{Change}
use Rattle.block_spec.specs.declared.change.Change.TheVariants as change
use Rattle.block_spec.specs.Slots.{Row}
use Rattle.core_laws.proofs.Events.Naming.{desk_there}
use Rattle.core_laws.proofs.Events.States.{desk_at_after}
use Rattle.event_spec.specs.declared.event.Event.TheVariants as event
use Rattle.event_spec.specs.declared.event.MovePair.{MovePair}
use Rattle.event_spec.specs.declared.own.OwnKey.{OwnKey}
use Rattle.event_spec.specs.declared.reply.WriteFault.{WriteFault}
use Rattle.event_spec.specs.declared.own.OwnTransaction.{OwnTransaction}
use Rattle.event_spec.specs.Effects.{CoreEvent, after_change, after_insert, after_judged, after_move, at_both, change_judged, changes_of, closed, effect, held_pairs, insert_judged, is_some_write, numbered, stale_in}
use Rattle.event_spec.specs.Judged.{differences}
use Rattle.event_spec.specs.Lawful.{IsLawful}
use Rattle.event_spec.specs.Parts.{Parts, Shape, nothing, body_at, desk_at, is_head}
use Rattle.isolation_spec.specs.declared.read.Read.{Read}
use Rattle.isolation_spec.specs.Contents.{PlaceMap, key_of}
use Rattle.core_laws.proofs.Logs.Opening.{desk}
use Rattle.txn_desk.specs.Desk.{DeskState}
use Rattle.run_laws.specs.Counts.Numbers.{IsNarrow, NumbersAreNarrow, OpensNarrow}

module _ (sh : Shape) (s : Parts) where
  -- An insert leaves the desk, whether it is granted or not.
  insert_desk : (own : OwnKey) (u : ℕ) (row : Row) (r : Result ℕ WriteFault) (x : DeskState) → (after_insert sh s own u row r).desk x ≡ x
  insert_desk own u row (Err fault) x = refl
  insert_desk own u row (Ok p) x = refl

  -- An update or a delete leaves the desk.
  change_desk : (own : OwnKey) (u : ℕ) (choice : Row → Change) (r : Result ℕ WriteFault) (x : DeskState) → (after_change sh s own u choice r).desk x ≡ x
  change_desk own u choice (Err fault) x = refl
  change_desk own u choice (Ok p) x = refl

  -- A seal leaves the desk, whether it is granted or not.
  seal_desk : (u c : ℕ) (x : DeskState) → (changes_of sh s (event.Seal u c)).desk x ≡ x
  seal_desk u c x = go (is_none (seal_fault (is_head sh s u c) (body_at sh s u c)))
    where
      go : (e : Bool) → (cond e (record nothing { body = at_both u c sealed }) nothing).desk x ≡ x
      go true = refl
      go false = refl

  -- Where there is room for one more stamp, a move leaves the newest below its bound, and the
  -- commits no more than the stamps.
  move_narrow : (u : ℕ) (pairs : List MovePair) (x : DeskState) → x.newest + 1 < 2 ^ 63 → IsNarrow x → IsNarrow ((after_move sh s u pairs).desk x)
  move_narrow u [] x low is = is
  move_narrow u (first ∷ rest) x low is = let c = is.commits in record { commits = omega (arith, c); stamps = low }

  -- Where there is room for one more stamp, a commit leaves the newest below its bound, and the
  -- commits no more than the stamps.
  commit_narrow : (wrote : Bool) (writes : PlaceMap ℕ) (q : ℕ) (x : DeskState) → x.newest + 1 < 2 ^ 63 → IsNarrow x → IsNarrow (closed q (cond wrote (numbered writes x) x))
  commit_narrow true writes q x low is = let c = is.commits in record { commits = omega (arith, c); stamps = low }
  commit_narrow false writes q x low is = record { commits = is.commits; stamps = is.stamps }

  -- So does one that may be refused, which then leaves it.
  judged_narrow : (own : OwnTransaction) (stale : Option (Read × ℕ)) (x : DeskState) → x.newest + 1 < 2 ^ 63 → IsNarrow x → IsNarrow ((after_judged sh s own stale).desk x)
  judged_narrow own (Some stale) x low is = is
  judged_narrow own None x low is = commit_narrow (is_some_write own.writes) own.writes own.session x low is

  -- What each lawful event makes of the desk leaves the stamps and commits narrow.
  event_narrow : (e : CoreEvent) → IsLawful sh e s → IsNarrow (desk_at sh s) → IsNarrow ((changes_of sh s e).desk (desk_at sh s))
  event_narrow (event.Begin q) lawful is = record { commits = is.commits; stamps = is.stamps }
  event_narrow (event.Get own u key) lawful is = is
  event_narrow (event.Insert own u row) lawful is = subst IsNarrow (sym (insert_desk own u row (insert_judged sh s own u (key_of row)) (desk_at sh s))) is
  event_narrow (event.Update own u row) lawful is = subst IsNarrow (sym (change_desk own u (λ old. change.Patch (differences 0 old row)) (change_judged sh s own u (key_of row)) (desk_at sh s))) is
  event_narrow (event.Delete own u key) lawful is = subst IsNarrow (sym (change_desk own u (λ old. change.Gone) (change_judged sh s own u key) (desk_at sh s))) is
  event_narrow (event.Read own u c) lawful is = is
  event_narrow (event.Range own u low high) lawful is = is
  event_narrow (event.Commit own reads) lawful is = judged_narrow own (stale_in sh s own reads) (desk_at sh s) lawful.1.0 is
  event_narrow (event.Abort own) lawful is = record { commits = is.commits; stamps = is.stamps }
  event_narrow event.Oldest lawful is = is
  event_narrow (event.Observe u c) lawful is = is
  event_narrow (event.Prune u c oldest) lawful is = is
  event_narrow (event.Look u c) lawful is = is
  event_narrow (event.Move u moves) lawful is = move_narrow u (held_pairs sh s u moves) (desk_at sh s) lawful.1.3 is
  event_narrow (event.Seal u c) lawful is = subst IsNarrow (sym (seal_desk u c (desk_at sh s))) is
  event_narrow (event.Image u c image) lawful is = is
  event_narrow (event.Thaw u c) lawful is = is

-- each event leaves the stamps below 2 ^ 63, and the commits no more than they are
pub numbers_are_narrow : NumbersAreNarrow
numbers_are_narrow sh s made ok lawful is = go made.refused
  where
    now : desk_at sh (effect sh s made.event) ≡ (changes_of sh s made.event).desk (desk_at sh s)
    now = desk_at_after sh s (changes_of sh s made.event) (desk_there sh s ok.kinds).0 (desk_there sh s ok.kinds).1

    go : (refused : Bool) → IsNarrow (desk_at sh (cond refused s (effect sh s made.event)))
    go true = is
    go false = subst IsNarrow (sym now) (event_narrow sh s made.event lawful is)

-- in the opening core there is no stamp, and the commits are at most 2 ^ 63
pub opens_narrow : OpensNarrow
opens_narrow sh shape = let few = shape.few in subst IsNarrow (sym (desk sh shape)) (record { commits = omega (arith, few); stamps = omega arith })
