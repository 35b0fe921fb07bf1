-- A key's event on a hand: it is refused, or changes one slot.
use Rattle.std.proofs.Common.{◌≡◌, ℕ, List, Option, None, Some, map, get_or, Ok, Err, sym, ap, ◌∙◌}
use Rattle.std.specs.Prelude.{Result}
use Rattle.core_parts.proofs.Changing.{after_nothing}
use Rattle.core_parts.proofs.Telling.{from_one}
use Rattle.core_parts.specs.Hands.{Held, Makes, MayRun, after, in_hand}
use Rattle.event_spec.specs.declared.reply.WriteFault.{WriteFault}
use Rattle.event_spec.specs.Effects.{CoreEvent, changes_of}
use Rattle.block_layout.specs.Place.{block_of, slot_of}
use Rattle.block_spec.specs.Bodies.{Body}
use Rattle.block_spec.specs.Slots.{Row, Slot}
use Rattle.event_spec.specs.declared.part.Part.TheVariants as part
use Rattle.event_spec.specs.Parts.{BodyOf, Changes, Parts, Shape, nothing, slot_at}
use Rattle.hall_rule.specs.Hands.{Agrees}
use Rattle.core_events.proofs.Places.{row_at, slot_told}
use Rattle.event_spec.specs.Replies.{reply_to, reply_to_write}

module _ (sh : Shape) (e : CoreEvent) (hand : Held) (m : MayRun sh e hand) where
  -- where what is judged is a fault, nothing changes
  pub refused : (judged : Result ℕ WriteFault) (fault : WriteFault) (makes : Result ℕ WriteFault → Changes) → judged ≡ Err fault
      → changes_of sh m.parts e ≡ makes judged → makes (Err fault) ≡ nothing → reply_to sh m.parts e ≡ reply_to_write judged → Makes sh e hand hand (reply_to_write (Err fault))
  refused judged fault makes is all none said = from_one sh e hand hand (reply_to_write (Err fault)) m
      (sym (after_nothing sh hand) ∙ ap (λ c. after sh c hand) (sym none ∙ ap makes (sym is) ∙ sym all)) (sym (said ∙ ap reply_to_write is))

  -- where it is a place, the changes are those at the place
  pub written_once : (judged : Result ℕ WriteFault) (place : ℕ) (makes : Result ℕ WriteFault → Changes) (new : Held) → judged ≡ Ok place
      → changes_of sh m.parts e ≡ makes judged → new ≡ after sh (makes (Ok place)) hand → reply_to sh m.parts e ≡ reply_to_write judged → Makes sh e hand new (reply_to_write (Ok place))
  written_once judged place makes new is all made said = from_one sh e hand new (reply_to_write (Ok place)) m
      (made ∙ ap (λ c. after sh c hand) (ap makes (sym is) ∙ sym all)) (sym (said ∙ ap reply_to_write is))

-- the row of a place, as its columns have it
pub row_told : (sh : Shape) (hand : Held) (s : Parts) (t p b j : ℕ) (x : Body) (rows : List (Option Row)) (o : Option Row) → Agrees hand s → b ≡ block_of p → j ≡ slot_of p → in_hand sh hand (BodyOf t b) ≡ Some (part.Body x)
    → rows ≡ map (λ slot. slot.row) x.slots → o ≡ get_or rows j None → (slot_at sh s t p).row ≡ o
row_told sh hand s t p b j x rows o agrees block slot is all here =
    ap (λ (y : Slot). y.row) (slot_told sh hand s t p b j x agrees block slot is) ∙ sym (row_at x.slots j) ∙ ap (λ rs. get_or rs j None) (sym all) ∙ sym here
