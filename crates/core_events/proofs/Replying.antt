-- What a read replies, by the body in the hand.
use Rattle.std.proofs.Common.{◌≡◌, ◌∙◌, ℕ, ◌+◌, ◌≤◌, ◌^◌, Bool, true, false, cond, List, Some, map, length, refl, sym, ap, subst, arith}
use Rattle.std.specs.Prelude.{IfSome}
use Rattle.block_body.specs.Frozen.{IsImageOf}
use Rattle.block_body.specs.Keys.{HasKey}
use Rattle.block_columns.specs.Images.{ImageValue, IsWhole, rows_of}
use Rattle.block_spec.specs.Bodies.{Body, is_imaged, slot_in}
use Rattle.block_spec.specs.Bodies as bodies
use Rattle.block_spec.specs.Slots.{Row, Slot, seen}
use Rattle.cell_model.specs.declared.column.Column.{Column}
use Rattle.cell_model.specs.Schemas.{IsSchema, begins_with_key}
use Rattle.core_parts.proofs.Front.{image_rows, image_whole}
use Rattle.core_parts.proofs.Telling.{body_is, has_body, only_told}
use Rattle.core_parts.specs.Hands.{Has, Held, Makes, MayRun, in_hand}
use Rattle.core_events.proofs.Bodies.{in_front, keys_seen}
use Rattle.core_events.proofs.Rows.{rows_are}
use Rattle.core_events.specs.Reads.{rows_in}
use Rattle.event_spec.specs.declared.event.Event.TheVariants as event
use Rattle.event_spec.specs.declared.own.OwnTransaction.{OwnTransaction}
use Rattle.event_spec.specs.declared.part.Part.TheVariants as part
use Rattle.event_spec.specs.declared.reply.Reply.TheVariants as reply
use Rattle.event_spec.specs.Parts.{BodyOf, Parts, Shape, body_at, slots_of}
use Rattle.event_spec.specs.Replay.{columns_in}
use Rattle.event_spec.specs.Replies.{CoreReply, rows_read}
use Rattle.event_spec.specs.Sound.{BodyHolds}
use Rattle.core_laws.proofs.Frames.Looks.{name_self}
use Rattle.hall_rule.specs.Hands.{Agrees}

module _ (sh : Shape) (own : OwnTransaction) (t b : ℕ) (hand : Held) (m : MayRun sh (event.Read own t b) hand) where
  -- the block's body is in the hand
  pub has_the_body : Has sh hand (BodyOf t b)
  has_the_body = has_body sh (event.Read own t b) hand m t b m.lawful.1 (name_self (BodyOf t b))

  module _ (x : Body) (is : in_hand sh hand (BodyOf t b) ≡ Some (part.Body x)) where
    here : body_at sh m.parts t b ≡ x
    here = body_is sh hand m.parts m.agrees t b x is

    holds : BodyHolds sh t x
    holds = subst (BodyHolds sh t) here (m.holds.sound.bodies t b m.lawful.1)

    -- the body has at most 2^15 slots
    pub slots_few : length x.slots ≤ 2 ^ 15
    slots_few = let few = (m.holds.measures.slots t m.lawful.1.0).1 in let same = holds.slots in omega (arith, few, same)

    -- each row that the reader sees in it has a key
    pub keys_are : (columns : List Column) → columns ≡ columns_in sh t → IsSchema columns → (j : ℕ) → IfSome (seen (slot_in x j) own.snapshot.stamp own.session) HasKey
    keys_are columns same schema = keys_seen sh t x holds (subst (λ (cs : List Column). begins_with_key cs ≡ true) same schema.key) own.snapshot.stamp own.session

    -- the image of an imaged body is whole
    pub shared_whole : (image : ImageValue) → is_imaged x.phase ≡ true → IsImageOf x.columns (map (λ (slot : Slot). slot.row) x.slots) image → IsWhole image
    shared_whole image imaged of = image_whole x.columns x.slots (in_front sh t x holds imaged) image of

    -- a read of an imaged body replies the rows of its image
    pub replies_shared : (image : ImageValue) (all : List Row) → is_imaged x.phase ≡ true → IsImageOf x.columns (map (λ (slot : Slot). slot.row) x.slots) image → all ≡ rows_of image
        → Makes sh (event.Read own t b) hand hand (reply.Shared all)
    replies_shared image all imaged of told = only_told sh (event.Read own t b) hand (reply.Shared all) m refl
        (ap reply.Shared (told ∙ image_rows x.columns x.slots (in_front sh t x holds imaged) image of ∙ ap bodies.rows_of (sym here))
        ∙ ap (λ (i : Bool). cond i (shared_reply (bodies.rows_of (body_at sh m.parts t b))) (reply.Rows (rows_read sh m.parts own t b))) (sym (ap (λ (y : Body). is_imaged y.phase) here ∙ imaged)))
      where
        shared_reply : List Row → CoreReply
        shared_reply rows = reply.Shared rows

    -- a read of any other replies the rows that the reader sees in it
    pub replies_rows : (rows : List Row) → is_imaged x.phase ≡ false → rows ≡ rows_in own t b x → Makes sh (event.Read own t b) hand hand (reply.Rows rows)
    replies_rows rows loose told = only_told sh (event.Read own t b) hand (reply.Rows rows) m refl
        (ap reply.Rows (told ∙ rows_are sh m.parts own t b x here slots_few)
        ∙ ap (λ (i : Bool). cond i (shared_reply (bodies.rows_of (body_at sh m.parts t b))) (reply.Rows (rows_read sh m.parts own t b))) (sym (ap (λ (y : Body). is_imaged y.phase) here ∙ loose)))
      where
        shared_reply : List Row → CoreReply
        shared_reply rows = reply.Shared rows

    -- no row of an imaged body is read, and one for each slot of another
    pub none_read : (s : Parts) (old new : ℕ) → Agrees hand s → new ≡ old → new ≤ old + cond (is_imaged (body_at sh s t b).phase) 0 (slots_of sh t)
    none_read s old new agrees same = let least : old ≤ old + cond (is_imaged (body_at sh s t b).phase) 0 (slots_of sh t) = omega arith in omega (arith, least, same)

    -- a read of a body that is not imaged reads no more rows than the block has slots
    pub each_read : (s : Parts) (old new : ℕ) → Agrees hand s → is_imaged x.phase ≡ false → new ≤ old + length x.slots → new ≤ old + cond (is_imaged (body_at sh s t b).phase) 0 (slots_of sh t)
    each_read s old new agrees loose few =
        let so = body_is sh hand s agrees t b x is in
        subst (λ (i : Bool). new ≤ old + cond i 0 (slots_of sh t)) (sym (ap (λ (y : Body). is_imaged y.phase) so ∙ loose))
        (let same = holds.slots in omega (arith, few, same))
