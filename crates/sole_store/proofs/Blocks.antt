-- The parts that a store reads where they lie.
use Rattle.std.proofs.Common.{◌≡◌, ℕ, cond, IfOk, Result, Ok, Err, List, Option, None, Some, sym, ap, ◌∙◌}
use Rattle.block_spec.specs.Bodies.{Body, is_imaged, is_sealed, rows_of}
use Rattle.block_spec.specs.Slots.{Row}
use Rattle.block_spec.specs.declared.phase.Phase.{Phase}
use Rattle.block_spec.specs.declared.phase.Phase.TheVariants.{Loose, Sealed, Imaged}
use Rattle.core_laws.proofs.Events.Naming.{desk_named}
use Rattle.core_laws.specs.Frames.Shards.{CoreHolds}
use Rattle.core_parts.proofs.Telling.{body_is, desk_is}
use Rattle.core_parts.specs.Hands.{Has, Held, in_hand}
use Rattle.engine_core.proofs.Wholes.{agrees, has_each}
use Rattle.engine_core.specs.Asks.{IsOfCore}
use Rattle.engine_core.specs.Core.{IsWhole, parts_in}
use Rattle.event_spec.specs.declared.part.Part.TheVariants as part
use Rattle.event_spec.specs.Lawful.{IsImageOf}
use Rattle.event_spec.specs.Parts.{BodyOf, Parts, Shape, TheDesk, body_at, desk_at}
use Rattle.hall_rule.specs.Hands.{Agrees}
use Rattle.run_spec.specs.Asked.{rows_sealed}
use Rattle.txn_desk.specs.Desk.{DeskState}

module _ (sh : Shape) (hand : Held) (whole : IsWhole sh hand) where
  -- the parts are those of a core
  pub of_core : IsOfCore sh hand
  of_core = record { parts = parts_in hand; holds = whole.holds; agrees = agrees sh hand whole }

  -- the desk lies in the hand
  pub has_desk : Has sh hand TheDesk
  has_desk = has_each sh hand whole TheDesk (desk_named sh)

  -- and is the core's
  pub desk_there : (x : DeskState) → in_hand sh hand TheDesk ≡ Some (part.Desk x) → desk_at sh (parts_in hand) ≡ x
  desk_there x is = desk_is sh hand (parts_in hand) (agrees sh hand whole) x is

  -- so is the body of a block
  pub body_there : (t b : ℕ) (x : Body) → in_hand sh hand (BodyOf t b) ≡ Some (part.Body x) → body_at sh (parts_in hand) t b ≡ x
  body_there t b x is = body_is sh hand (parts_in hand) (agrees sh hand whole) t b x is

-- The sealed rows of a body in a phase.
rows_at : (x : Body) (phase : Phase) → x.phase ≡ phase → rows_sealed x ≡ cond (is_sealed phase) (Some (rows_of x)) None
rows_at x phase at = ap (λ (p : Phase). cond {A = Option (List Row)} (is_sealed p) (Some (rows_of x)) None) at

-- an image of a body is that of its sealed rows
pub image_is : (image : Option (List Row)) (x : Body) (phase : Phase) → x.phase ≡ phase → IsImageOf image x phase → image ≡ rows_sealed x
image_is image x Loose at is = is ∙ sym (rows_at x Loose at)
image_is image x (Sealed stamp) at is = is ∙ sym (rows_at x (Sealed stamp) at)
image_is image x (Imaged stamp) at is = is ∙ sym (rows_at x (Imaged stamp) at)

-- what is lent of a block, of the core whose parts all lie in the hand
pub lent_of : {E : Type 0} (sh : Shape) (hand : Held) → IsWhole sh hand → (t b : ℕ) (r : Result (Option (List Row)) E)
    → IfOk r (λ lent. (s : Parts) → CoreHolds sh s → Agrees hand s → lent ≡ cond (is_imaged (body_at sh s t b).phase) (Some (rows_of (body_at sh s t b))) None)
    → IfOk r (λ lent. lent ≡ cond (is_imaged (body_at sh (parts_in hand) t b).phase) (Some (rows_of (body_at sh (parts_in hand) t b))) None)
lent_of sh hand whole t b (Ok lent) is = is (parts_in hand) whole.holds (agrees sh hand whole)
lent_of sh hand whole t b (Err x) is = tt
