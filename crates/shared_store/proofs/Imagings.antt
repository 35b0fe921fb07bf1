-- The image of a block, made of the parts that a pass holds and laid into the block.
use Rattle.std.proofs.Common.{◌≡◌, ◌⊎◌, ℕ, true, cond, List, [], ◌∷◌, Option, None, Some, length, map, refl, sym, ap, subst, ◌∙◌, arith}
use mathlib.Core.Logic.{inl, inr}
use Rattle.block_spec.specs.declared.phase.Phase.{Phase}
use Rattle.block_spec.specs.declared.phase.Phase.TheVariants.{Loose, Sealed, Imaged}
use Rattle.block_spec.specs.Bodies.{Body, is_sealed, rows_of}
use Rattle.block_spec.specs.Slots.{Row}
use Rattle.core_parts.specs.Hands.{Has}
use Rattle.engine_core.specs.Asks.{IsOfCore}
use Rattle.core_laws.proofs.Events.Naming.{at_name, body_named}
use Rattle.event_spec.specs.declared.own.OwnTransaction.{OwnTransaction}
use Rattle.event_spec.specs.declared.reply.Reply.TheVariants as reply
use Rattle.event_spec.specs.Effects.{CoreEvent}
use Rattle.event_spec.specs.Lawful.{HasBlock, IsImageOf}
use Rattle.event_spec.specs.Parts.{BodyOf, CorePart, Parts, Shape, body_at}
use Rattle.event_spec.specs.Replies.{CoreReply, reply_to_image}
use Rattle.event_spec.specs.Sound.{IsOfKind}
use Rattle.event_spec.specs.Touched.{touching}
use Rattle.core_laws.proofs.Frames.Looks.{look, name_self}
use Rattle.core_laws.specs.Frames.Shards.{CoreHolds}
use Rattle.hall_rule.specs.Hands.{Agrees, Covers}
use Rattle.hall_steps.specs.Hall.{SameClaim, first_of}
use Rattle.shared_store.proofs.Claims.{keeps_same, same_on}
use Rattle.store_laws.proofs.Stretches.{nothing_is_a_stretch}
use Rattle.run_spec.specs.Asked.{rows_sealed}
use Rattle.shared_store.specs.Freezing.{Imaged as ImagedAny, ImagedHeld, Images, ImagesHeld, IsImageThere, MakesNone, MayImageHeld, imaging}
use Rattle.shared_store.specs.Making.{Gives, Makes, MayMakeHeld, Takes, parts_seen}
use Rattle.shared_store.specs.Store.{Answers, HandsView, IsAt, IsSession, IsTouched, IsWithin, SeatView, StoreView, TookPartsOf, own_of, seen, shape_in, KeepsNotes, Notes, reads_of, wrote_of}
use Rattle.shared_store.proofs.Noted.{one_none, unwritten}
use Rattle.shared_store.proofs.Hands.{agrees_with}
use Rattle.shared_store.proofs.Made.{fronts, made_whole, one_hand}
use Rattle.run_spec.specs.Handed.{GoesOn, own_in}
use Rattle.shared_store.proofs.Calls.{one_event_at, unmade_call}
use Rattle.shared_store.proofs.Sessions.{session_is}
use Rattle.shared_store.specs.declared.session.Session.{Session}
use Rattle.store_laws.specs.Laws.{TellsLine}
use Rattle.workload_spec.specs.declared.command.Command.TheVariants.{Gather}
use Rattle.workload_spec.specs.declared.reply.Said.{Said}
use Rattle.workload_spec.specs.declared.reply.Said.TheVariants as said
use Rattle.store_laws.specs.Logs.{log_of}
use Rattle.store_laws.specs.Own.{entry_of, occurrence_at, parts_after}
use Rattle.hall_rule.specs.declared.view.Entry.{Entry}
use Rattle.isolation_spec.specs.Reads.{ReadSet}
use Rattle.run_spec.specs.Calls.{reads_behind}

-- the image that fits a body is that of its rows, where it is sealed
pub image_is : (image : Option (List Row)) (body : Body) (phase : Phase) → body.phase ≡ phase → IsImageOf image body phase → image ≡ rows_sealed body
image_is image body Loose at is = is ∙ sym (ap (λ p. cond (is_sealed p) (Some (rows_of body)) None) at)
image_is image body (Sealed stamp) at is = is ∙ sym (ap (λ p. cond (is_sealed p) (Some (rows_of body)) None) at)
image_is image body (Imaged stamp) at is = is ∙ sym (ap (λ p. cond (is_sealed p) (Some (rows_of body)) None) at)

-- the block's body is in the hand
pub body_here : (sh : Shape) (hand : List (Option CorePart)) (s : Parts) (t b : ℕ) → Covers (touching sh (imaging t b None)) hand → Agrees hand s → CoreHolds sh s → HasBlock sh t b
    → Has sh hand (BodyOf t b)
body_here sh hand s t b covers agrees holds has =
    subst (IsOfKind (BodyOf t b)) (sym (look sh (imaging t b None) hand s (BodyOf t b) covers agrees (name_self (BodyOf t b))))
    (at_name sh s holds.sound.kinds (BodyOf t b) (body_named sh t b has))

module _ (store : StoreView) (t : SeatView) (hands : HandsView) (table block : ℕ) (may : MayImageHeld store t hands table block) where
  -- The parts that the pass's log leaves.
  abbrev now : Parts
  now = parts_seen (shape_in store) t.me.0

  -- the parts in the hand are those that the pass's log leaves
  pub agrees_now : Agrees (first_of hands) now
  agrees_now = agrees_with store t hands may.within.pass (one_hand store may.session t hands may.own may.within)

  -- the parts in the hand are those of a core that holds
  pub core_here : IsOfCore (shape_in store) (first_of hands)
  core_here = record { parts = now; holds = may.within.pass.of.1.sound; agrees = agrees_now }

  -- the block's body is in the hand
  pub has_body : Has (shape_in store) (first_of hands) (BodyOf table block)
  has_body = body_here (shape_in store) (first_of hands) now table block may.covers agrees_now may.within.pass.of.1.sound may.has

  -- an image that fits the block's body may be laid into it
  pub may_image : (image : Option (List Row))
      → ((s : Parts) → CoreHolds (shape_in store) s → Agrees (first_of hands) s → IsImageOf image (body_at (shape_in store) s table block) (body_at (shape_in store) s table block).phase)
      → MayMakeHeld store t hands (imaging table block image)
  may_image image fits = record {
    session = may.session;
    own = may.own;
    within = may.within;
    mine = inr refl;
    covers = may.covers;
    stands = tt;
    fits = (may.has, fits now may.within.pass.of.1.sound agrees_now);
    few = may.few;
  }

-- the event takes the same parts, whatever image it lays
pub takes_image : (store : StoreView) (session : ℕ) (s t : SeatView) (hands : HandsView) (own : Option OwnTransaction) (table block : ℕ) (image : Option (List Row))
    → Takes store session s t hands own (imaging table block None) → Takes store session s t hands own (imaging table block image)
takes_image store session s t hands own table block image takes = record {
  within = takes.within;
  sees = takes.sees;
  mine = takes.mine;
  covers = takes.covers;
  took = record {
    parts = takes.took.parts;
    took = takes.took.took;
    touched = λ k is. again k (takes.took.touched k is);
  };
  stands = takes.stands;
  lasting = takes.lasting;
}
  where
    touches : (x : CoreEvent) (k : ℕ) (parts : Parts) → (x ≡ imaging table block None) ⊎ ⊥ → touching (shape_in store) x (map Some parts) k ≡ true
        → touching (shape_in store) (imaging table block image) (map Some parts) k ≡ true
    touches x k parts (inl same) is = subst (λ e. touching (shape_in store) e (map Some parts) k ≡ true) same is
    touches x k parts (inr none) is = absurd none

    again : (k : ℕ) → IsTouched (shape_in store) (imaging table block None ∷ []) (log_of s.me.0.log) (log_of t.me.0.log) k
        → IsTouched (shape_in store) (imaging table block image ∷ []) (log_of s.me.0.log) (log_of t.me.0.log) k
    again k x = record {
      event = imaging table block image;
      is_one = inl refl;
      log = x.log;
      saw = x.saw;
      left = x.left;
      touches = touches x.event k (parts_after (shape_in store) x.log) x.is_one x.touches;
    }

-- an imaging is whole once its parts were taken, it was made on them, and they were given back
pub imaged_whole : (store : StoreView) (session : ℕ) (s t u w : SeatView) (hands later ended : HandsView) (own : Option OwnTransaction) (table block : ℕ) (told : CoreReply)
    → Takes store session s t hands own (imaging table block None) → ImagesHeld store session t u hands later own table block told → Gives store session u w ended own
    → Images store session s w ended own table block told
imaged_whole store session s t u w hands later ended own table block told takes held gives = record {
  image = held.image;
  makes = whole;
  there = subst (λ before. IsImageThere (shape_in store) (parts_after (shape_in store) before) table block held.image) (sym same) held.there;
}
  where
    e : CoreEvent
    e = imaging table block held.image

    whole : Makes store session s w ended own e told
    whole = made_whole store session s t u w hands later ended own e told (takes_image store session s t hands own table block held.image takes) held.makes gives

    same : whole.makes.before ≡ held.makes.makes.before
    same = fronts whole.makes.before held.makes.makes.before (entry_of session e told) (entry_of session e told)
        (sym whole.makes.log ∙ ap log_of gives.log ∙ held.makes.makes.log)

-- whether the image was laid or memory lacked for it, the pass is still its session's
pub held_within : (store : StoreView) (session : ℕ) (t u : SeatView) (hands later : HandsView) (own : Option OwnTransaction) (table block : ℕ) (o : Option CoreReply)
    → ImagedHeld store session t u hands later own table block o → IsWithin store session t hands own → IsWithin store session u later own
held_within store session t u hands later own table block (Some told) held within = held.makes.within
held_within store session t u hands later own table block None held within =
    subst (λ hs. IsWithin store session u hs own) (sym held.same_hands) (subst (λ seat. IsWithin store session seat hands own) (sym held.same_seat) within)

-- an imaging, or one for which memory lacked, is whole with its parts taken and given back
pub imaged_all : (store : StoreView) (session : ℕ) (s t u w : SeatView) (hands later ended : HandsView) (own : Option OwnTransaction) (table block : ℕ) (o : Option CoreReply)
    → Takes store session s t hands own (imaging table block None) → ImagedHeld store session t u hands later own table block o → Gives store session u w ended own
    → ImagedAny store session s w ended own table block o
imaged_all store session s t u w hands later ended own table block (Some told) takes held gives =
    imaged_whole store session s t u w hands later ended own table block told takes held gives
imaged_all store session s t u w hands later ended own table block None takes held gives =
    let log : w.me.0.log ≡ t.me.0.log = gives.log ∙ ap (λ (x : SeatView). x.me.0.log) held.same_seat in
    record {
      stands = gives.stands;
      sees = record {
        goes_on = subst (λ (l : List (Entry CoreEvent)). GoesOn (log_of s.me.0.log) (log_of l)) (sym log) takes.sees.goes_on;
        same = subst (λ (l : List (Entry CoreEvent)). own_in (shape_in store) session (log_of l) ≡ own_in (shape_in store) session (log_of s.me.0.log)) (sym log) takes.sees.same;
        knows = gives.stands.within.knows;
        reads = same_on takes.sees.reads (subst (λ (x : SeatView). SameClaim x.me.0 w.me.0) held.same_seat gives.reads);
      };
      mine = gives.mine ∙ ap (λ (x : SeatView). x.me.0.mine) held.same_seat ∙ takes.mine;
      took = subst (λ later. TookPartsOf (shape_in store) (imaging table block None ∷ []) (log_of s.me.0.log) (log_of w.me.0.log) s.me.0.taken later)
          (sym (gives.taken ∙ ap (λ (x : SeatView). x.me.0.taken) held.same_seat))
          (subst (λ (l : List (Entry CoreEvent)). TookPartsOf (shape_in store) (imaging table block None ∷ []) (log_of s.me.0.log) (log_of l) s.me.0.taken t.me.0.taken) (sym log) takes.took);
    }

-- ---- a gathering

-- a gathering of one event answers with the line that the event tells
pub gathered_whole : (store : StoreView) (s new : Session) (table block : ℕ) (told : CoreReply) (line : Said) → IsSession store s
    → Images store s.session s.pass.seat new.pass.seat new.pass.hands (own_of s) table block told → new.session ≡ s.session → own_of new ≡ own_of s → KeepsNotes store s new
    → ((reads : Option ReadSet) → reads_behind reads (Gather table block) line ≡ reads)
    → TellsLine (own_of s) (Gather table block) told line → IsSession store new × Answers store s new (Gather table block) line
gathered_whole store s new table block told line is images same opened kept unread tells =
    one_event_at store s new (Gather table block) (imaging table block images.image) told line is refl images.makes same opened (ap (λ (notes : Notes). notes.reads) kept.0 ∙ sym (unread (reads_of s)))
    (ap (λ (notes : Notes). notes.wrote) kept.0 ∙ sym (unwritten (occurrence_at s.session (parts_after (shape_in store) images.makes.makes.before) (imaging table block images.image) told ∷ []) (λ w. one_none (occurrence_at s.session (parts_after (shape_in store) images.makes.makes.before) (imaging table block images.image) told) refl w) (wrote_of s))) kept.1 refl
    (ap (λ image. imaging table block image ∷ []) (sym images.there)) tells

-- a gathering that made no event for want of memory answers so
pub gathered_none : (store : StoreView) (s new : Session) (table block : ℕ) → IsSession store s
    → MakesNone store s.session s.pass.seat new.pass.seat new.pass.hands (own_of s) table block → new.session ≡ s.session → own_of new ≡ own_of s → KeepsNotes store s new
    → IsSession store new × Answers store s new (Gather table block) said.Memory
gathered_none store s new table block is none same opened kept = (
  session_is store new (subst (λ q. IsAt store q new.pass.seat new.pass.hands (own_of new)) (sym same)
      (subst (IsAt store s.session new.pass.seat new.pass.hands) (sym opened) none.stands)) kept.1,
  record {
    made = [];
    keeps = ap (λ (notes : Notes). notes.reads) kept.0;
    wrote = ap (λ (notes : Notes). notes.wrote) kept.0 ∙ sym (unwritten [] (λ w. refl) (wrote_of s));
    called = record {
      stretch = nothing_is_a_stretch (shape_in store) s.session (seen s) (seen new) none.sees.goes_on none.sees.same;
      is_call = (unmade_call (shape_in store) s.session (seen s) (own_of s) is.own (reads_of s) (Gather table block) refl refl).is_call;
    };
    count = let m = ap (λ (es : List (Entry CoreEvent)). length es) none.mine in omega (arith, m);
    ends = tt;
    reads = keeps_same none.sees.reads;
    took = none.took;
  },
)

-- its event tells that it was laid, that there was no seal, or that memory was wanting
pub images_tell : (phase : Phase) (body : Body) (told : CoreReply) → (told ≡ reply.Memory) ⊎ (told ≡ reply_to_image phase body)
    → ((rows : ℕ) → told ≡ reply.Imaged rows → ⊥) → (told ≡ reply.NoSeal → ⊥) → (told ≡ reply.Memory → ⊥) → ⊥
images_tell phase body told (inl is) imaged none memory = memory is
images_tell Loose body told (inr is) imaged none memory = none is
images_tell (Sealed stamp) body told (inr is) imaged none memory = imaged (length (rows_of body)) is
images_tell (Imaged stamp) body told (inr is) imaged none memory = none is

-- what is no value is none
pub none_is : (o : Option CoreReply) → ((told : CoreReply) → o ≡ Some told → ⊥) → o ≡ None
none_is None not = refl
none_is (Some told) not = absurd (not told refl)
