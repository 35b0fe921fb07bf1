-- The shared image of a body in a hand.
use Rattle.std.proofs.Common.{◌≡◌, ◌∙◌, ℕ, Bool, true, false, cond, List, Option, None, Some, map, sym, ap, subst}
use Rattle.block_body.specs.Frozen.{IsImageOf}
use Rattle.block_columns.specs.Images.{ImageValue, IsWhole, rows_of}
use Rattle.block_spec.specs.Bodies.{Body, is_front, is_imaged}
use Rattle.block_spec.specs.Bodies as bodies
use Rattle.block_spec.specs.Slots.{Row, Slot}
use Rattle.core_parts.proofs.Front.{image_rows, image_whole}
use Rattle.core_parts.proofs.Telling.{body_is, body_there}
use Rattle.core_parts.specs.Hands.{Has, Held, in_hand}
use Rattle.core_events.proofs.Bodies.{in_front}
use Rattle.event_spec.specs.declared.part.Part.TheVariants as part
use Rattle.event_spec.specs.Parts.{BodyOf, Parts, Shape, body_at}
use Rattle.event_spec.specs.Sound.{BodyHolds}
use Rattle.core_laws.specs.Frames.Shards.{CoreHolds}
use Rattle.hall_rule.specs.Hands.{Agrees}

module _ (sh : Shape) (t b : ℕ) (hand : Held) (has : Has sh hand (BodyOf t b)) (x : Body) (is : in_hand sh hand (BodyOf t b) ≡ Some (part.Body x)) where
  module _ (s : Parts) (holds : CoreHolds sh s) (agrees : Agrees hand s) where
    front : is_imaged x.phase ≡ true → is_front x.slots ≡ true
    front imaged = in_front sh t x (subst (BodyHolds sh t) (body_is sh hand s agrees t b x is) (holds.sound.bodies t b (body_there sh hand t b has))) imaged

    -- the image of an imaged body is whole
    pub whole : (image : ImageValue) → is_imaged x.phase ≡ true → IsImageOf x.columns (map (λ (slot : Slot). slot.row) x.slots) image → IsWhole image
    whole image imaged of = image_whole x.columns x.slots (front imaged) image of

    -- the rows of the image are what is shared of the block
    pub shares : (image : ImageValue) (all : List Row) → is_imaged x.phase ≡ true → IsImageOf x.columns (map (λ (slot : Slot). slot.row) x.slots) image → all ≡ rows_of image
        → Some all ≡ cond (is_imaged (body_at sh s t b).phase) (Some (bodies.rows_of (body_at sh s t b))) None
    shares image all imaged of told =
        ap (λ (rows : List Row). Some rows) (told ∙ image_rows x.columns x.slots (front imaged) image of ∙ ap bodies.rows_of (sym (body_is sh hand s agrees t b x is)))
        ∙ ap (λ (i : Bool). cond i (some_rows (bodies.rows_of (body_at sh s t b))) None) (sym (ap (λ (y : Body). is_imaged y.phase) (body_is sh hand s agrees t b x is) ∙ imaged))
      where
        some_rows : List Row → Option (List Row)
        some_rows rows = Some rows

    -- a body that is not imaged shares none
    pub shares_none : is_imaged x.phase ≡ false → None ≡ cond (is_imaged (body_at sh s t b).phase) (Some (bodies.rows_of (body_at sh s t b))) None
    shares_none loose = ap (λ (i : Bool). cond i (some_rows (bodies.rows_of (body_at sh s t b))) None) (sym (ap (λ (y : Body). is_imaged y.phase) (body_is sh hand s agrees t b x is) ∙ loose))
      where
        some_rows : List Row → Option (List Row)
        some_rows rows = Some rows
