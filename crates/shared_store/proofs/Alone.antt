-- Events that touch the body of a block alone: a pass that holds no part takes it and gives it
-- back.
use Rattle.std.proofs.Common.{◌≡◌, ℕ, false, List, Option, None, Some, set, refl, sym, ap, subst, ◌∙◌, true≢false}
use Rattle.std.specs.Prelude.{slice_get}
use Rattle.std.proofs.lemmas.Option.{slice_get_within}
use Rattle.block_spec.specs.Slots.{Row}
use Rattle.event_spec.specs.declared.event.Event.TheVariants as event
use Rattle.event_spec.specs.declared.own.OwnTransaction.{OwnTransaction}
use Rattle.event_spec.specs.Parts.{CorePart, Shape}
use Rattle.event_spec.specs.Replies.{CoreReply}
use Rattle.hall_rule.proofs.Lists.{by_cases, get_set_else, get_set_here}
use Rattle.hall_rule.specs.Hands.{Holds, SameRoom}
use Rattle.hall_steps.proofs.Knowing.{same_holds}
use Rattle.hall_steps.specs.Hall.{first_of}
use Rattle.shared_store.specs.Alone.{HoldsAlone, IsOnBody}
use Rattle.shared_store.specs.Compacting.{looking}
use Rattle.shared_store.specs.Freezing.{ImagedHeld, imaging}
use Rattle.shared_store.specs.Keeping.{GivesPart, Keeps}
use Rattle.shared_store.specs.Making.{Gives}
use Rattle.shared_store.specs.Store.{HandsView, SeatView, StoreView}
use Rattle.shared_store.proofs.Kept.{part_is_none}

-- ---- which events these are

-- a look at a block touches its body alone
pub look_on_body : (sh : Shape) (t b : ℕ) → IsOnBody sh t b (looking t b)
look_on_body sh t b = record { touches = λ held name. refl; low = λ name is. absurd (true≢false (sym is)) }

-- and so does the laying of an image
pub image_on_body : (sh : Shape) (t b : ℕ) (image : Option (List Row)) → IsOnBody sh t b (imaging t b image)
image_on_body sh t b image = record { touches = λ held name. refl; low = λ name is. absurd (true≢false (sym is)) }

-- and so does a thaw
pub thaw_on_body : (sh : Shape) (t b : ℕ) → IsOnBody sh t b (event.Thaw t b)
thaw_on_body sh t b = record { touches = λ held name. refl; low = λ name is. absurd (true≢false (sym is)) }

-- ---- a part comes to an empty hand, and goes

-- an empty hand keeps no part beside the body, as such an event asks
pub keeps_none : (sh : Shape) (hand : List (Option CorePart)) → ((k : ℕ) → ¬ Holds hand k) → Keeps sh (λ name. false) hand
keeps_none sh hand empty = record {
  all = λ k name at is. absurd (true≢false (sym is));
  only = λ k held. absurd (empty k held);
}

module _ (hand later : List (Option CorePart)) (part : ℕ) where
  -- a part that an empty hand took is alone in it
  pub alone_taken : (p : CorePart) → ((k : ℕ) → ¬ Holds hand k) → later ≡ set hand part (Some p) → Holds later part → HoldsAlone later part
  alone_taken p empty is holds = record {
    holds = holds;
    only = λ k held. by_cases k part (k ≡ part) (λ same. same)
        (λ ne. absurd (empty k (held.0, sym (get_set_else hand part k (Some p) ne) ∙ ap (λ (h : List (Option CorePart)). slice_get h k) (sym is) ∙ held.1)));
  }

  -- it is so behind an event, which leaves the same parts in the hand
  pub alone_still : HoldsAlone hand part → SameRoom hand later → HoldsAlone later part
  alone_still alone same = record { holds = same.held part alone.holds; only = λ k held. alone.only k (same_holds hand later same k held) }

  -- a hand that it left is empty
  pub none_left : HoldsAlone hand part → later ≡ set hand part None → (k : ℕ) → ¬ Holds later k
  none_left alone is k held = by_cases k part ⊥ (λ same. gone (subst (Holds later) same held))
      (λ ne. ne (alone.only k (held.0, sym (get_set_else hand part k None ne) ∙ ap (λ (h : List (Option CorePart)). slice_get h k) (sym is) ∙ held.1)))
    where
      gone : ¬ Holds later part
      gone there = part_is_none there.0
          (sym (get_set_here hand part None (slice_get_within hand part (Some alone.holds.0) alone.holds.1)) ∙ ap (λ (h : List (Option CorePart)). slice_get h part) (sym is) ∙ there.1)

-- ---- a pass

-- a pass that gave back the one part that it held holds none
pub gave_alone : (store : StoreView) (session : ℕ) (u w : SeatView) (hands later : HandsView) (own : Option OwnTransaction) (part : ℕ)
    → HoldsAlone (first_of hands) part → GivesPart store session u w later own → first_of later ≡ set (first_of hands) part None → Gives store session u w later own
gave_alone store session u w hands later own part alone gives is = record {
  stands = record { within = gives.within; empty = none_left (first_of hands) (first_of later) part alone is };
  log = gives.log;
  mine = gives.mine;
  taken = gives.taken;
  reads = gives.reads;
}

-- behind the imaging of a block the pass holds the body alone, as before
pub imaged_alone : (store : StoreView) (session : ℕ) (t u : SeatView) (hands later : HandsView) (own : Option OwnTransaction) (table block : ℕ) (o : Option CoreReply) (part : ℕ)
    → ImagedHeld store session t u hands later own table block o → HoldsAlone (first_of hands) part → HoldsAlone (first_of later) part
imaged_alone store session t u hands later own table block (Some told) part held alone = alone_still (first_of hands) (first_of later) part alone held.makes.room
imaged_alone store session t u hands later own table block None part held alone = subst (λ (hs : HandsView). HoldsAlone (first_of hs) part) (sym held.same_hands) alone
