-- A part that is taken out, changed and laid back.
use Rattle.std.proofs.Common.{◌≡◌, ℕ, None, Some, Result, Ok, Err, length, ap, ◌∙◌}
use Rattle.std.specs.Prelude.{OnOk, OnErr}
use Rattle.block_spec.specs.Bodies.{Body}
use Rattle.core_parts.proofs.Changing.{body_only, head_only, laid_back_changed, put_back, shard_only}
use Rattle.core_parts.proofs.Placing.{length-laid}
use Rattle.core_parts.specs.Hands.{Held, after, in_hand, laid}
use Rattle.event_spec.specs.declared.part.Head.{Head}
use Rattle.event_spec.specs.declared.part.Part.TheVariants as part
use Rattle.event_spec.specs.Parts.{HeadOf, Name, ShardOf, BodyOf, Shape, names}
use Rattle.key_index.specs.Candidates.{Places}
use Rattle.core_events.specs.Writes.{of_body, of_head, of_shard}

-- a hand has a place for each part still when one was taken out
pub still_room : (sh : Shape) (hand taken : Held) (w : Name) → length hand ≡ length (names sh) → taken ≡ laid sh w None hand → length taken ≡ length (names sh)
still_room sh hand taken w room out = ap length out ∙ length-laid (names sh) hand w None ∙ room

module _ (sh : Shape) (hand taken new : Held) where
  -- a body that was taken out, changed where that went well and laid back is changed in the hand
  pub body_done : {A E : Type 0} (r : Result A E) (t b : ℕ) (x y z : Body) (g : Body → Body) → in_hand sh hand (BodyOf t b) ≡ Some (part.Body x) → taken ≡ laid sh (BodyOf t b) None hand
      → new ≡ laid sh (BodyOf t b) (Some (part.Body y)) taken → z ≡ x → OnOk r (y ≡ g z) → OnOk r (new ≡ after sh (of_body t b g) hand)
  body_done (Ok a) t b x y z g is out back same done =
      laid_back_changed sh (of_body t b g) hand taken new (BodyOf t b) (part.Body x) (part.Body (g x)) (body_only t b g x) is out
      (back ∙ ap (λ v. laid sh (BodyOf t b) (Some (part.Body v)) taken) (done ∙ ap g same))
  body_done (Err e) t b x y z g is out back same done = tt

  -- a body that was taken out and laid back as it was leaves the hand as it was
  pub body_kept : {A E : Type 0} (r : Result A E) (t b : ℕ) (x y z : Body) → in_hand sh hand (BodyOf t b) ≡ Some (part.Body x) → taken ≡ laid sh (BodyOf t b) None hand
      → new ≡ laid sh (BodyOf t b) (Some (part.Body y)) taken → z ≡ x → OnErr r (y ≡ z) → OnErr r (new ≡ hand)
  body_kept (Ok a) t b x y z is out back same kept = tt
  body_kept (Err e) t b x y z is out back same kept =
      put_back sh hand taken new (BodyOf t b) (part.Body x) is out (back ∙ ap (λ v. laid sh (BodyOf t b) (Some (part.Body v)) taken) (kept ∙ same))

  -- a shard that was taken out, changed and laid back is changed in the hand
  pub shard_made : (t i : ℕ) (x y z : Places) (g : Places → Places) → in_hand sh hand (ShardOf t i) ≡ Some (part.Shard x) → taken ≡ laid sh (ShardOf t i) None hand
      → new ≡ laid sh (ShardOf t i) (Some (part.Shard y)) taken → z ≡ x → y ≡ g z → new ≡ after sh (of_shard t i g) hand
  shard_made t i x y z g is out back same done =
      laid_back_changed sh (of_shard t i g) hand taken new (ShardOf t i) (part.Shard x) (part.Shard (g x)) (shard_only t i g x) is out
      (back ∙ ap (λ v. laid sh (ShardOf t i) (Some (part.Shard v)) taken) (done ∙ ap g same))

  -- a shard that was taken out, changed where that went well and laid back is changed in the hand
  pub shard_done : {A E : Type 0} (r : Result A E) (t i : ℕ) (x y z : Places) (g : Places → Places) → in_hand sh hand (ShardOf t i) ≡ Some (part.Shard x) → taken ≡ laid sh (ShardOf t i) None hand
      → new ≡ laid sh (ShardOf t i) (Some (part.Shard y)) taken → z ≡ x → OnOk r (y ≡ g z) → OnOk r (new ≡ after sh (of_shard t i g) hand)
  shard_done (Ok a) t i x y z g is out back same done = shard_made t i x y z g is out back same done
  shard_done (Err e) t i x y z g is out back same done = tt

  -- a shard that was taken out and laid back as it was leaves the hand as it was
  pub shard_kept : {A E : Type 0} (r : Result A E) (t i : ℕ) (x y z : Places) → in_hand sh hand (ShardOf t i) ≡ Some (part.Shard x) → taken ≡ laid sh (ShardOf t i) None hand
      → new ≡ laid sh (ShardOf t i) (Some (part.Shard y)) taken → z ≡ x → OnErr r (y ≡ z) → OnErr r (new ≡ hand)
  shard_kept (Ok a) t i x y z is out back same kept = tt
  shard_kept (Err e) t i x y z is out back same kept =
      put_back sh hand taken new (ShardOf t i) (part.Shard x) is out (back ∙ ap (λ v. laid sh (ShardOf t i) (Some (part.Shard v)) taken) (kept ∙ same))

  -- a head that was taken out, changed and laid back is changed in the hand
  pub head_made : (t : ℕ) (x y z : Head) (g : Head → Head) → in_hand sh hand (HeadOf t) ≡ Some (part.Head x) → taken ≡ laid sh (HeadOf t) None hand
      → new ≡ laid sh (HeadOf t) (Some (part.Head y)) taken → z ≡ x → y ≡ g z → new ≡ after sh (of_head t g) hand
  head_made t x y z g is out back same done =
      laid_back_changed sh (of_head t g) hand taken new (HeadOf t) (part.Head x) (part.Head (g x)) (head_only t g x) is out
      (back ∙ ap (λ v. laid sh (HeadOf t) (Some (part.Head v)) taken) (done ∙ ap g same))
