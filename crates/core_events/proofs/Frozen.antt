-- What the form of a block's rows makes of a hand.
use Rattle.std.proofs.Common.{◌≡◌, ◌∙◌, ℕ, ◌≤◌, ◌^◌, ◌&&◌, Bool, true, false, List, Option, None, Some, Result, Ok, Err, map, length, refl, sym, ap, subst, arith}
use Rattle.std.specs.Prelude.{OnErr, count_by, is_some}
use Rattle.block_columns.specs.Images.{FormValue, IsWhole}
use Rattle.block_spec.specs.Bodies.{Body, imaged, imaged_phase, is_front, is_loose, is_sealed, rows_of}
use Rattle.block_spec.specs.declared.phase.Phase.{Phase}
use Rattle.block_spec.specs.declared.phase.Phase.TheVariants.{Imaged, Loose, Sealed}
use Rattle.block_spec.specs.Slots.{Row, Slot}
use Rattle.cell_model.specs.declared.column.Column.{Column}
use Rattle.core_events.specs.Freezes.{reply_of}
use Rattle.core_parts.proofs.Front.{rows_counted}
use Rattle.core_parts.proofs.Changing.{body_change, body_only, laid_back_changed, put_back}
use Rattle.core_parts.proofs.Placing.{length-laid}
use Rattle.core_parts.proofs.Telling.{a_body, body_is, from_one, has_body, room}
use Rattle.core_parts.specs.Hands.{Has, Held, Makes, MayRun, after, in_hand, laid}
use Rattle.event_spec.specs.declared.event.Event.TheVariants as event
use Rattle.event_spec.specs.declared.part.Part.TheVariants as part
use Rattle.event_spec.specs.declared.reply.Reply.TheVariants as reply
use Rattle.event_spec.specs.Lawful.{IsImageOf}
use Rattle.event_spec.specs.Parts.{BodyOf, Shape, body_at, names}
use Rattle.event_spec.specs.Replies.{reply_to_image}
use Rattle.event_spec.specs.Sound.{BodyHolds}
use Rattle.core_laws.proofs.Frames.Looks.{name_self}

-- what holds anyway holds where a result failed
pub on_err : {A E : Type 0} (r : Result A E) (P : Type 0) → P → OnErr r P
on_err (Ok a) P is = tt
on_err (Err e) P is = is

-- what makes one image whole makes the same one whole
pub whole_same : (one other : List Column) (slots more : List (Option Row)) (n m : ℕ) (form made : FormValue) → one ≡ other → slots ≡ more → n ≡ m → form ≡ made
    → IsWhole (record { columns = one; slots = slots; rows = n; form = form }) → IsWhole (record { columns = other; slots = more; rows = m; form = made })
whole_same one other slots more n m form made columns rows count same whole =
    subst (λ (f : FormValue). IsWhole (record { columns = other; slots = more; rows = m; form = f })) same
    (subst (λ (k : ℕ). IsWhole (record { columns = other; slots = more; rows = k; form = form })) count
    (subst (λ (l : List (Option Row)). IsWhole (record { columns = other; slots = l; rows = n; form = form })) rows
    (subst (λ (cs : List Column). IsWhole (record { columns = cs; slots = slots; rows = n; form = form })) columns whole)))

-- a body for which a form is handed in is sealed, and one for which none is is not
sealed_with : (x : Body) (phase : Phase) (rows : List Row) → IsImageOf (Some rows) x phase → (is_sealed phase ≡ true) × (rows ≡ rows_of x)
sealed_with x Loose rows is = cc
sealed_with x (Sealed stamp) rows is = let same : rows ≡ rows_of x = cc in (refl, same)
sealed_with x (Imaged stamp) rows is = cc

-- A body for which no form is handed in is not sealed.
not_sealed : (x : Body) (phase : Phase) → IsImageOf None x phase → is_sealed phase ≡ false
not_sealed x Loose is = refl
not_sealed x (Sealed stamp) is = cc
not_sealed x (Imaged stamp) is = refl

-- A phase that is sealed is not loose.
not_loose : (phase : Phase) → is_sealed phase ≡ true → is_loose phase ≡ false
not_loose Loose is = cc
not_loose (Sealed stamp) is = refl
not_loose (Imaged stamp) is = cc

-- an image changes no other body
stays : (x : Body) → is_sealed x.phase ≡ false → imaged x ≡ x
stays x is = ap (λ phase. record x { phase = phase }) (same x.phase is)
  where
    same : (phase : Phase) → is_sealed phase ≡ false → imaged_phase phase ≡ phase
    same Loose is = refl
    same (Sealed stamp) is = cc
    same (Imaged stamp) is = refl

-- Where a conjunction is true, its second part is.
second : (a b : Bool) → (a && b) ≡ true → b ≡ true
second true b both = both
second false b both = cc

module _ (sh : Shape) (t b : ℕ) (image : Option (List Row)) (hand : Held) (m : MayRun sh (event.Image t b image) hand) where
  -- the hand has the block's body
  pub has_the_body : Has sh hand (BodyOf t b)
  has_the_body = has_body sh (event.Image t b image) hand m t b m.lawful.1.0 (name_self (BodyOf t b))

  -- without it the hand still has a place for each part
  pub room_taken : (taken : Held) → taken ≡ laid sh (BodyOf t b) None hand → length taken ≡ length (names sh)
  room_taken taken out = ap length out ∙ length-laid (names sh) hand (BodyOf t b) None ∙ room sh (event.Image t b image) hand m

  -- where none are handed in
  pub none_in : image ≡ None → Makes sh (event.Image t b image) hand hand reply.NoSeal
  none_in none = from_one sh (event.Image t b image) hand hand reply.NoSeal m unchanged
      (no_seal (body_at sh m.parts t b).phase (subst (λ i. IsImageOf i (body_at sh m.parts t b) (body_at sh m.parts t b).phase) none m.lawful.1.1))
    where
      no_seal : (phase : Phase) → IsImageOf None (body_at sh m.parts t b) phase → reply_of None ≡ reply_to_image phase (body_at sh m.parts t b)
      no_seal Loose is = refl
      no_seal (Sealed stamp) is = cc
      no_seal (Imaged stamp) is = refl

      unchanged : hand ≡ after sh (body_change t b imaged) hand
      unchanged =
          let x = a_body sh hand t b has_the_body in
          let here = body_is sh hand m.parts m.agrees t b x.0 x.1 in
          let taken = laid sh (BodyOf t b) None hand in
          let new = laid sh (BodyOf t b) (Some (part.Body x.0)) taken in
          sym (put_back sh hand taken new (BodyOf t b) (part.Body x.0) x.1 refl refl)
          ∙ laid_back_changed sh (body_change t b imaged) hand taken new (BodyOf t b) (part.Body x.0) (part.Body (imaged x.0)) (body_only t b imaged x.0) x.1 refl
          (ap (λ z. laid sh (BodyOf t b) (Some (part.Body z)) taken)
          (sym (stays x.0 (subst (λ (y : Body). is_sealed y.phase ≡ false) here (not_sealed (body_at sh m.parts t b) (body_at sh m.parts t b).phase
          (subst (λ i. IsImageOf i (body_at sh m.parts t b) (body_at sh m.parts t b).phase) none m.lawful.1.1))))))

  module _ (rows : List Row) (some : image ≡ Some rows) (x : Body) (is : in_hand sh hand (BodyOf t b) ≡ Some (part.Body x)) where
    here : body_at sh m.parts t b ≡ x
    here = body_is sh hand m.parts m.agrees t b x is

    holds : BodyHolds sh t x
    holds = subst (BodyHolds sh t) here (m.holds.sound.bodies t b m.lawful.1.0)

    with_rows : (is_sealed x.phase ≡ true) × (rows ≡ rows_of x)
    with_rows = sealed_with x x.phase rows (subst (λ (y : Body). IsImageOf (Some rows) y y.phase) here (subst (λ i. IsImageOf i (body_at sh m.parts t b) (body_at sh m.parts t b).phase) some m.lawful.1.1))

    -- where rows are handed in the body is sealed
    pub sealed_here : is_sealed x.phase ≡ true
    sealed_here = with_rows.0

    -- and these are its rows
    pub rows_here : rows ≡ rows_of x
    rows_here = with_rows.1

    -- it has few slots
    pub slots_few : length x.slots ≤ 2 ^ 15
    slots_few = let few = (m.holds.measures.slots t m.lawful.1.0.0).1 in let same = holds.slots in omega (arith, few, same)

    -- its rows are in front
    pub front_here : is_front x.slots ≡ true
    front_here = second _ (is_front x.slots) (holds.dense (not_loose x.phase sealed_here))

    -- the body is laid back frozen, or as it was
    module _ (taken new : Held) (y : Body) (out : taken ≡ laid sh (BodyOf t b) None hand) (back : new ≡ laid sh (BodyOf t b) (Some (part.Body y)) taken) where
      -- The body is laid back imaged, and the reply counts its rows.
      pub frozen_back : (count : ℕ) → y ≡ imaged x → count ≡ count_by is_some (map (λ (slot : Slot). slot.row) x.slots) → Makes sh (event.Image t b image) hand new (reply.Imaged count)
      frozen_back count same counted = from_one sh (event.Image t b image) hand new (reply.Imaged count) m
          (laid_back_changed sh (body_change t b imaged) hand taken new (BodyOf t b) (part.Body x) (part.Body (imaged x)) (body_only t b imaged x) is out (back ∙ ap (λ z. laid sh (BodyOf t b) (Some (part.Body z)) taken) same))
          (ap reply.Imaged (counted ∙ sym (rows_counted x.slots)) ∙ replied x.phase sealed_here ∙ ap (λ (z : Body). reply_to_image z.phase z) (sym here))
        where
          replied : (phase : Phase) → is_sealed phase ≡ true → reply_of (Some (length (rows_of x))) ≡ reply_to_image phase x
          replied Loose is = cc
          replied (Sealed stamp) is = refl
          replied (Imaged stamp) is = cc

      -- a body that is laid back as it was leaves the hand as it was
      pub same_back : y ≡ x → new ≡ hand
      same_back same = put_back sh hand taken new (BodyOf t b) (part.Body x) is out (back ∙ ap (λ z. laid sh (BodyOf t b) (Some (part.Body z)) taken) same)
