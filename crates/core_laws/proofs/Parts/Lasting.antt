-- Stamps that no live snapshot is below.
use Rattle.std.proofs.Common.{◌≡◌, ℕ, ◌+◌, ◌-◌, ◌≤◌, Bool, true, false, cond, List, [], ◌∷◌, Option, None, Some, option_map, get_or, refl, sym, ap, ◌∙◌, subst, arith}
use Rattle.std.specs.Prelude.{All, IfSome, Result, Ok, Err, is_none}
use Rattle.block_spec.specs.Bodies.{sealed, seal_fault}
use Rattle.block_spec.specs.declared.change.Change.{Change}
use Rattle.block_spec.specs.declared.change.Change.TheVariants as change
use Rattle.block_spec.specs.Slots.{Row}
use Rattle.event_spec.specs.declared.own.OwnKey.{OwnKey}
use Rattle.event_spec.specs.Judged.{differences}
use Rattle.core_laws.proofs.Events.Naming.{follows_machine}
use Rattle.core_laws.proofs.Events.Owners.{open_with, transaction_is}
use Rattle.core_laws.proofs.Events.States.{desk_at_after}
use Rattle.core_laws.proofs.Events.Still.{all_stay}
use Rattle.event_spec.specs.declared.event.Event.TheVariants as event
use Rattle.event_spec.specs.declared.event.MovePair.{MovePair}
use Rattle.event_spec.specs.declared.reply.WriteFault.{WriteFault}
use Rattle.event_spec.specs.Effects.{CoreEvent, at_both, after_change, after_insert, after_judged, after_move, change_judged, changes_of, closed, effect, held_pairs, insert_judged, is_some_write, numbered, opened, stale_in}
use Rattle.event_spec.specs.Lawful.{IsLawful, IsOldest, transaction, writes_of}
use Rattle.event_spec.specs.Parts.{Parts, Shape, nothing, names, desk_at, body_at, is_head}
use Rattle.event_spec.specs.Sound.{Sound}
use Rattle.isolation_spec.specs.declared.read.Read.{Read}
use Rattle.core_laws.proofs.Following.Desks.{none_not}
use Rattle.isolation_spec.specs.Contents.{PlaceMap, key_of}
use Rattle.core_laws.specs.Parts.Laws.{Learns, Outlives}
use Rattle.core_laws.proofs.Sound.Calm.{all_index}
use Rattle.txn_desk.proofs.LeastStart.{least_at_begin, least_at_end, least_at_tick}
use Rattle.txn_desk.specs.declared.Snapshot.{Snapshot}
use Rattle.txn_desk.specs.Oldest.{oldest_of, snapshot_of}

module _ (sh : Shape) (s : Parts) (ok : Sound sh s) where
  -- No open snapshot has a stamp above the desk's newest.
  begun : All (λ (o : Option Snapshot). IfSome o (λ snapshot. snapshot.stamp ≤ (desk_at sh s).newest)) (desk_at sh s).open_snapshots
  begun = all_index (λ o. IfSome o (λ snapshot. snapshot.stamp ≤ (desk_at sh s).newest)) (desk_at sh s).open_snapshots None
      (λ i less. at i (get_or (desk_at sh s).open_snapshots i None) refl)
    where
      at : (i : ℕ) (o : Option Snapshot) → get_or (desk_at sh s).open_snapshots i None ≡ o
          → IfSome (get_or (desk_at sh s).open_snapshots i None) (λ snapshot. snapshot.stamp ≤ (desk_at sh s).newest)
      at i None is = subst (λ o. IfSome o (λ (snapshot : Snapshot). snapshot.stamp ≤ (desk_at sh s).newest)) (sym is) tt
      at i (Some snapshot) is =
          let here : (i + 1) - 1 ≡ i = omega arith in
          subst (λ o. IfSome o (λ (snapshot : Snapshot). snapshot.stamp ≤ (desk_at sh s).newest)) (sym is)
          (ok.follows.1.desked.bounds (i + 1) snapshot (omega arith) (ap (λ j. get_or (desk_at sh s).open_snapshots j None) here ∙ is)).0

  -- A lawful begin makes the oldest stamp no older.
  begin_up : (q : ℕ) → IsLawful sh (event.Begin q) s → oldest_of (desk_at sh s) ≤ oldest_of (opened q (desk_at sh s))
  begin_up q lawful =
      let same = least_at_begin (desk_at sh s).newest (desk_at sh s).open_snapshots (q - 1) (record { stamp = (desk_at sh s).newest; number = (desk_at sh s).commits }) begun refl
      (idle (snapshot_of (desk_at sh s) q) refl) in omega (arith, same)
    where
      idle : (o : Option Snapshot) → snapshot_of (desk_at sh s) q ≡ o → snapshot_of (desk_at sh s) q ≡ None
      idle None is = is
      idle (Some snapshot) is =
          absurd (none_not (transaction sh s q) (open_with (writes_of sh s q) snapshot) lawful.0.1
          (transaction_is sh s q lawful.0.0.0 ∙ ap (option_map (open_with (writes_of sh s q))) is))

  -- The end of a session, with a number taken or not, makes the oldest stamp no older.
  commit_up : (writes : PlaceMap ℕ) (wrote : Bool) (q : ℕ) → oldest_of (desk_at sh s) ≤ oldest_of (closed q (cond wrote (numbered writes (desk_at sh s)) (desk_at sh s)))
  commit_up writes true q = least_at_end (desk_at sh s).newest ((desk_at sh s).newest + 1) (desk_at sh s).open_snapshots (q - 1) begun (omega arith)
  commit_up writes false q = least_at_end (desk_at sh s).newest (desk_at sh s).newest (desk_at sh s).open_snapshots (q - 1) begun (omega arith)

  -- An insert makes the oldest stamp no older.
  insert_up : (own : OwnKey) (t : ℕ) (row : Row) (r : Result ℕ WriteFault) → oldest_of (desk_at sh s) ≤ oldest_of ((after_insert sh s own t row r).desk (desk_at sh s))
  insert_up own t row (Err fault) = omega arith
  insert_up own t row (Ok p) = omega arith

  -- An update or a delete makes the oldest stamp no older.
  change_up : (own : OwnKey) (t : ℕ) (choice : Row → Change) (r : Result ℕ WriteFault) → oldest_of (desk_at sh s) ≤ oldest_of ((after_change sh s own t choice r).desk (desk_at sh s))
  change_up own t choice (Err fault) = omega arith
  change_up own t choice (Ok p) = omega arith

  -- A move makes the oldest stamp no older.
  move_up : (t : ℕ) (pairs : List MovePair) → oldest_of (desk_at sh s) ≤ oldest_of ((after_move sh s t pairs).desk (desk_at sh s))
  move_up t [] = omega arith
  move_up t (first ∷ rest) = least_at_tick (desk_at sh s).newest ((desk_at sh s).newest + 1) (desk_at sh s).open_snapshots begun (omega arith)

  -- A seal, be it made or not, makes the oldest stamp no older.
  seal_up : (y : Bool) (t b : ℕ) → oldest_of (desk_at sh s) ≤ oldest_of ((cond y (record nothing { body = at_both t b sealed }) nothing).desk (desk_at sh s))
  seal_up true t b = omega arith
  seal_up false t b = omega arith

  -- no event makes the oldest stamp older
  event_up : (e : CoreEvent) → IsLawful sh e s → oldest_of (desk_at sh s) ≤ oldest_of ((changes_of sh s e).desk (desk_at sh s))
  event_up (event.Begin q) lawful = begin_up q lawful
  event_up (event.Get own t key) lawful = omega arith
  event_up (event.Insert own t row) lawful = insert_up own t row (insert_judged sh s own t (key_of row))
  event_up (event.Update own t row) lawful = change_up own t (λ old. change.Patch (differences 0 old row)) (change_judged sh s own t (key_of row))
  event_up (event.Delete own t key) lawful = change_up own t (λ old. change.Gone) (change_judged sh s own t key)
  event_up (event.Read own t b) lawful = omega arith
  event_up (event.Range own t low high) lawful = omega arith
  event_up (event.Commit own reads) lawful = judged (stale_in sh s own reads)
    where
      judged : (found : Option (Read × ℕ)) → oldest_of (desk_at sh s) ≤ oldest_of ((after_judged sh s own found).desk (desk_at sh s))
      judged None = commit_up own.writes (is_some_write own.writes) own.session
      judged (Some stale) = omega arith
  event_up (event.Abort own) lawful = commit_up own.writes false own.session
  event_up event.Oldest lawful = omega arith
  event_up (event.Observe t b) lawful = omega arith
  event_up (event.Prune t b oldest) lawful = omega arith
  event_up (event.Look t b) lawful = omega arith
  event_up (event.Move t moves) lawful = move_up t (held_pairs sh s t moves)
  event_up (event.Seal t b) lawful = seal_up (is_none (seal_fault (is_head sh s t b) (body_at sh s t b))) t b
  event_up (event.Image t b image) lawful = omega arith
  event_up (event.Thaw t b) lawful = omega arith

  -- The desk behind an event is what the event makes of the desk.
  desk_now : (e : CoreEvent) → desk_at sh (effect sh s e) ≡ (changes_of sh s e).desk (desk_at sh s)
  desk_now e = let f = follows_machine sh s ok in desk_at_after sh s (changes_of sh s e) f.desk.0 f.desk.1

  -- a stamp that no live snapshot is below stays one after an event, whichever it is
  pub event_outlives : (e : CoreEvent) (oldest : ℕ) → IsLawful sh e s → IsOldest sh oldest s → IsOldest sh oldest (effect sh s e)
  event_outlives e oldest lawful low =
      let up = event_up e lawful in
      let is : oldest_of (desk_at sh (effect sh s e)) ≡ oldest_of ((changes_of sh s e).desk (desk_at sh s)) = ap oldest_of (desk_now e) in
      omega (arith, low, up, is)

-- A stamp that no live snapshot is below stays one after each lawful event.
pub outlives : Outlives
outlives sh e oldest s ok lawful low = event_outlives sh s ok e oldest lawful low

-- The reply to an `oldest` is one.
pub learns : Learns
learns sh (event.Begin q) oldest s teaches = absurd teaches
learns sh (event.Get own t key) oldest s teaches = absurd teaches
learns sh (event.Insert own t row) oldest s teaches = absurd teaches
learns sh (event.Update own t row) oldest s teaches = absurd teaches
learns sh (event.Delete own t key) oldest s teaches = absurd teaches
learns sh (event.Read own t b) oldest s teaches = absurd teaches
learns sh (event.Range own t low high) oldest s teaches = absurd teaches
learns sh (event.Commit own reads) oldest s teaches = absurd teaches
learns sh (event.Abort own) oldest s teaches = absurd teaches
learns sh event.Oldest oldest s teaches =
    let is : oldest_of (desk_at sh (effect sh s event.Oldest)) ≡ oldest_of (desk_at sh s) = ap (λ parts. oldest_of (desk_at sh parts)) (all_stay (names sh) s) in
    omega (arith, teaches, is)
learns sh (event.Observe t b) oldest s teaches = absurd teaches
learns sh (event.Prune t b stamp) oldest s teaches = absurd teaches
learns sh (event.Look t b) oldest s teaches = absurd teaches
learns sh (event.Move t moves) oldest s teaches = absurd teaches
learns sh (event.Seal t b) oldest s teaches = absurd teaches
learns sh (event.Image t b image) oldest s teaches = absurd teaches
learns sh (event.Thaw t b) oldest s teaches = absurd teaches
