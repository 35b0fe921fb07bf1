-- What a commit makes of a hand, write by write.
use Rattle.std.specs.Prelude.{◌≡◌, ℕ, ◌+◌, Option, None, if◌then◌else◌}
use Rattle.block_spec.specs.Bodies.{committed_in}
use Rattle.core_parts.specs.Hands.{Held, MayRun, after}
use Rattle.core_sweeps.specs.SweepSteps.{is_rolled}
use Rattle.event_spec.specs.declared.event.Event.TheVariants as event
use Rattle.event_spec.specs.declared.own.OwnTransaction.{OwnTransaction}
use Rattle.event_spec.specs.Effects.{closed, numbered, stale_in}
use Rattle.event_spec.specs.Parts.{Changes, Parts, Shape, desk_at, nothing}
use Rattle.isolation_spec.specs.Contents.{PlaceMap}
use Rattle.isolation_spec.specs.Reads.{ReadSet}

-- A commit may run on a hand, and none of the transaction's reads is stale.
pub record MayCommit (shape : Shape) (own : OwnTransaction) (reads : Option ReadSet) (hand : Held)
    : Type 0 where
  pub may : MayRun shape (event.Commit own reads) hand
  pub fresh : stale_in shape may.parts own reads ≡ None

-- A commit after some of the writes: the desk took its stamp and number, and their bodies are
-- stamped.
abbrev pub stamped_so_far : Shape → Parts → OwnTransaction → PlaceMap ℕ → Changes
stamped_so_far shape parts own writes = record nothing {
  body = λ table block body.
      if is_rolled writes table block
      then committed_in own.session ((desk_at shape parts).newest + 1)
      ((desk_at shape parts).commits + 1) body
      else body;
  desk = λ desk. closed own.session (numbered own.writes desk);
}

-- The hand after some of a transaction's writes were stamped.
pub record IsStamped (shape : Shape) (own : OwnTransaction) (reads : Option ReadSet)
    (stamp number : ℕ) (old new : Held) (writes : PlaceMap ℕ) : Type 0 where
  pub may : MayCommit shape own reads old
  pub taken : stamp ≡ (desk_at shape may.may.parts).newest + 1
  pub counted : number ≡ (desk_at shape may.may.parts).commits + 1
  pub made : new ≡ after shape (stamped_so_far shape may.may.parts own writes) old
