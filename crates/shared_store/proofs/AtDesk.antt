-- Events at the desk, which goes back before the other parts.
use Rattle.std.proofs.Common.{◌≡◌, ℕ, List, Option, Some, length, ap, ◌∙◌, arith}
use Rattle.std.specs.Prelude.{slice_get}
use Rattle.core_parts.proofs.Placing.{number_less}
use Rattle.event_spec.specs.declared.own.OwnTransaction.{OwnTransaction}
use Rattle.event_spec.specs.Effects.{CoreEvent}
use Rattle.event_spec.specs.Parts.{CorePart, Shape, TheDesk, held_named, names}
use Rattle.event_spec.specs.Touched.{passes_test, touched, touching}
use Rattle.hall_rule.specs.Hands.{Covers, Holds, SameRoom}
use Rattle.shared_store.specs.Keeping.{GivesPart}
use Rattle.shared_store.specs.Making.{Gives, IsAtDesk}
use Rattle.shared_store.specs.Store.{HandsView, SeatView, StoreView}
use Rattle.shared_store.proofs.Claims.{same_on}

-- behind an event at the desk the desk is in the hand
pub desk_held : (sh : Shape) (e : CoreEvent) (desk : ℕ) → slice_get (names sh) desk ≡ Some TheDesk → IsAtDesk sh e
    → (hand later : List (Option CorePart)) → length hand ≡ length (names sh) → Covers (touching sh e) hand → SameRoom hand later → Holds later desk
desk_held sh e desk at there hand later room covers same =
    same.held desk (covers desk (let less = number_less sh TheDesk desk at in omega (arith, less, room))
    (ap (passes_test (touched sh (held_named (names sh) hand) e)) at ∙ there (held_named (names sh) hand)))

-- a pass that gave one part back, and then all others, gave back all
pub gave_rest : (store : StoreView) (session : ℕ) (u v w : SeatView) (mid later : HandsView) (own : Option OwnTransaction)
    → GivesPart store session u v mid own → Gives store session v w later own → Gives store session u w later own
gave_rest store session u v w mid later own part rest = record {
  stands = rest.stands;
  log = rest.log ∙ part.log;
  mine = rest.mine ∙ part.mine;
  taken = rest.taken ∙ part.taken;
  reads = same_on part.reads rest.reads;
}
