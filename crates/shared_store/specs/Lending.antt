-- Lends: the image of a block, read in place for as long as the session's claim on the block
-- stands.
use Rattle.std.specs.Prelude.{◌≡◌, ℕ, ◌+◌, ◌*◌, ◌^◌, ◌<◌, Bool, true, false, List, [], ◌∷◌, ◌++◌}
use Rattle.std.specs.Prelude.{Option, None, Some}
use Rattle.std.specs.Prelude.{Result, Ok, Err, slice_get}
use Rattle.block_spec.specs.Bodies.{is_imaged, rows_of}
use Rattle.block_spec.specs.declared.phase.Phase.TheVariants.{Imaged}
use Rattle.block_spec.specs.Slots.{Row}
use Rattle.core_laws.specs.Words.Words.{word_of}
use Rattle.event_spec.specs.declared.own.OwnTransaction.{OwnTransaction}
use Rattle.event_spec.specs.declared.part.Part.TheVariants.{Body}
use Rattle.event_spec.specs.Effects.{CoreEvent}
use Rattle.event_spec.specs.Lawful.{HasBlock}
use Rattle.event_spec.specs.Parts.{BodyOf, Parts, Shape, body_at, names}
use Rattle.event_spec.specs.Replies.{rows_read}
use Rattle.event_spec.specs.declared.event.Event.TheVariants as event
use Rattle.event_spec.specs.Touched.{touching}
use Rattle.hall_rule.specs.Hands.{Covers, Holds}
use Rattle.hall_rule.specs.Heads.{IsFrozen, head_in, head_of}
use Rattle.hall_rule.specs.declared.view.View.{View}
use Rattle.hall_steps.specs.Hall.{SameClaim, first_of}
use Rattle.run_spec.specs.Handed.{GoesOn, own_in}
use Rattle.store_laws.specs.Logs.{log_of}
use Rattle.store_laws.specs.Own.{parts_after}
use Rattle.shared_store.specs.Open.{StaysOpen}
use Rattle.shared_store.specs.Store.{HandsView, IsFree, IsSession, IsWithin, SeatView, StoreView}
use Rattle.shared_store.specs.Store.{events_made, own_of, notes_of, seen, shape_in, taken_by, view_of}
use Rattle.shared_store.specs.declared.lending.LendFault.{LendFault}
use Rattle.shared_store.specs.declared.lending.LendFault.TheVariants as fault
use Rattle.shared_store.specs.declared.session.Session.{Session}

-- What contracts see of a lend: the part that the block's body is, and the rows of the image.
pub record LendView : Type 0 where
  pub part : ℕ
  pub rows : List Row

-- ---- what has been lent

-- The pass has lent nothing.
abbrev pub LendsNothing : View CoreEvent → Type 0
LendsNothing view = view.claim ≡ 0

module _ (shape : Shape) (view : View CoreEvent) (own : Option OwnTransaction) where
  -- the parts that the log leaves which the pass has seen
  abbrev pub parts_of : Parts
  parts_of = parts_after shape (log_of view.log)

  -- whether a block is imaged there
  abbrev pub ImagedIs : ℕ → ℕ → Bool → Type 0
  ImagedIs table block answer = is_imaged (body_at shape parts_of table block).phase ≡ answer

  -- There a block is imaged with this stamp, and has these rows. Where a transaction is open, it
  -- sees just these rows in the block.
  pub record HasImage (table block stamp : ℕ) (lent : List Row) : Type 0 where
    pub imaged : (body_at shape parts_of table block).phase ≡ Imaged stamp
    pub rows : rows_of (body_at shape parts_of table block) ≡ lent
    pub sees : (opened : OwnTransaction) → own ≡ Some opened
        → rows_read shape parts_of opened table block ≡ lent

  -- The pass has lent a block that is imaged with a stamp: it has the claim on the block, whose
  -- word was frozen with that stamp, and the rows of the lend are the block's.
  pub record HasLent (lend : LendView) (table block stamp : ℕ) : Type 0 where
    pub has : HasBlock shape table block
    pub part : slice_get (names shape) lend.part ≡ Some (BodyOf table block)
    pub claim : view.claim ≡ lend.part + 1
    pub claimed : view.claimed ≡ 3 * 2 ^ 30 + stamp
    pub image : HasImage table block stamp lend.rows

  -- What a lend answers: the block is lent where it is imaged there, but for want of memory; else
  -- it is not, and the word that was found is not frozen: it has the state and the stamp that the
  -- word of the block's body has there.
  abbrev pub LendAnswers : ℕ → ℕ → Result LendView LendFault → Type 0
  LendAnswers table block (Ok lend) = (stamp : ℕ) × HasLent lend table block stamp
  LendAnswers table block (Err (fault.NotLent word)) =
      LendsNothing view × ImagedIs table block false × ¬ IsFrozen (head_in word)
      × (head_in word ≡ head_of (word_of (Body (body_at shape parts_of table block))))
  LendAnswers table block (Err fault.Memory) = LendsNothing view × ImagedIs table block true

-- ---- a pass that holds the block's body

-- It has lent nothing, and may lend the block.
pub record MayLendHeld
    (store : StoreView) (seat : SeatView) (hands : HandsView) (table block body : ℕ)
    : Type 0 where
  pub session : ℕ
  pub own : Option OwnTransaction
  pub within : IsWithin store session seat hands own
  pub free : LendsNothing seat.me.0
  pub has : HasBlock (shape_in store) table block
  pub number : slice_get (names (shape_in store)) body ≡ Some (BodyOf table block)
  pub holds : Holds (first_of hands) body
  pub covers : Covers (touching (shape_in store) (event.Image table block None)) (first_of hands)

-- It lent the block or not, has seen no more of the log, and holds what it held.
pub record LendsHeld
    (store : StoreView) (session : ℕ) (old new : SeatView) (hands later : HandsView)
    (own : Option OwnTransaction) (table block : ℕ) (result : Result LendView LendFault)
    : Type 0 where
  pub within : IsWithin store session new later own
  pub log : new.me.0.log ≡ old.me.0.log
  pub mine : new.me.0.mine ≡ old.me.0.mine
  pub taken : new.me.0.taken ≡ old.me.0.taken
  pub hand : first_of later ≡ first_of hands
  pub unlent : (word : ℕ) → result ≡ Err (fault.NotLent word) → SameClaim old.me.0 new.me.0
  pub answers : LendAnswers (shape_in store) new.me.0 own table block result

abbrev pub LendsAnyHeld
    : StoreView → SeatView → HandsView → SeatView → HandsView → ℕ → ℕ → Result LendView LendFault
    → Type 0
LendsAnyHeld store old hands new later table block result = (session : ℕ)
    (own : Option OwnTransaction)
    → IsWithin store session old hands own
    → LendsHeld store session old new hands later own table block result

-- ---- a session

-- The session has lent one block or another.
pub record IsLendOf (store : StoreView) (s : Session) (lend : LendView) : Type 0 where
  pub table : ℕ
  pub block : ℕ
  pub stamp : ℕ
  pub lent : HasLent (shape_in store) (view_of s) (own_of s) lend table block stamp

-- The session is one of the store, as before, and may have seen more of the log. It made no event,
-- took the block's body and no other part, and has open what it had.
pub record LooksAt (store : StoreView) (old new : Session) (table block : ℕ) : Type 0 where
  pub session : IsSession store new
  pub same : new.session ≡ old.session
  pub opened : own_of new ≡ own_of old
  pub kept : notes_of new ≡ notes_of old
  pub sees : GoesOn (seen old) (seen new)
  pub own : own_in (shape_in store) old.session (seen new)
      ≡ own_in (shape_in store) old.session (seen old)
  pub made : events_made new ≡ events_made old
  pub body : ℕ
  pub is_body : slice_get (names (shape_in store)) body ≡ Some (BodyOf table block)
  pub took : taken_by new ≡ taken_by old ++ body ∷ []
  pub is_open : StaysOpen store old new

-- The session lent a block, or was answered why not.
pub record Lends
    (store : StoreView) (old new : Session) (table block : ℕ) (result : Result LendView LendFault)
    : Type 0 where
  pub looks : LooksAt store old new table block
  pub answers : LendAnswers (shape_in store) (view_of new) (own_of new) table block result

-- The pass has looked at the log since.
abbrev pub LooksAnew : View CoreEvent → View CoreEvent → Type 0
LooksAnew old new = old.looks < new.looks

-- A lend was given back: the session has lent nothing any more. It made no event and took no part,
-- and has open what it had. It has looked at the log: what it has seen by then has all that stood
-- there when the call was made. In this log the block is imaged with the same stamp, and its rows
-- are still those that were lent.
pub record EndsLend (store : StoreView) (old new : Session) (lend : LendView) : Type 0 where
  pub session : IsSession store new
  pub same : new.session ≡ old.session
  pub opened : own_of new ≡ own_of old
  pub kept : notes_of new ≡ notes_of old
  pub sees : GoesOn (seen old) (seen new)
  pub own : own_in (shape_in store) old.session (seen new)
      ≡ own_in (shape_in store) old.session (seen old)
  pub made : events_made new ≡ events_made old
  pub taken : taken_by new ≡ taken_by old
  pub is_open : StaysOpen store old new
  pub looked : LooksAnew (view_of old) (view_of new)
  pub free : IsFree new
  pub stayed : (table block stamp : ℕ)
      → HasLent (shape_in store) (view_of old) (own_of old) lend table block stamp
      → HasImage (shape_in store) (view_of new) (own_of new) table block stamp lend.rows
