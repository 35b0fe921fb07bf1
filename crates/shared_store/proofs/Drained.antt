-- A pass that drained a block that it holds, and is about to thaw it.
use Rattle.std.proofs.Common.{◌≡◌, ℕ, suc, ◌+◌, List, [], ◌∷◌, ◌++◌, Option, Some, false, true, ap, refl, sym, subst, ◌∙◌, length, arith}
use mathlib.Core.Logic.{inr}
use Rattle.std.specs.Prelude.{slice_get}
use Rattle.block_spec.specs.Bodies.{is_imaged}
use Rattle.core_laws.proofs.Words.Keeping.{thaws_its_body, words_tell_images}
use Rattle.core_laws.specs.Words.Words.{word_of}
use Rattle.core_parts.proofs.Placing.{number_less}
use Rattle.event_spec.specs.declared.event.Event.TheVariants as event
use Rattle.event_spec.specs.declared.own.OwnTransaction.{OwnTransaction}
use Rattle.event_spec.specs.Effects.{CoreEvent}
use Rattle.event_spec.specs.Lawful.{IsOldest}
use Rattle.event_spec.specs.Parts.{BodyOf, CorePart, body_at, names}
use Rattle.event_spec.specs.Replies.{CoreReply}
use Rattle.hall_rule.specs.EventLog.{replay}
use Rattle.hall_rule.specs.Heads.{IsFrozen, head_of}
use Rattle.hall_rule.specs.declared.view.Entry.{Entry}
use Rattle.hall_rule.specs.declared.view.View.{View}
use Rattle.hall_steps.specs.Hall.{IsPassAt, first_of, thawed_by}
use Rattle.run_spec.specs.Handed.{GoesOn, own_in}
use Rattle.store_laws.specs.Logs.{log_of, store_meaning}
use Rattle.store_laws.specs.Own.{occurrence_at, parts_after}
use Rattle.shared_store.specs.Making.{MakesHeld, MayMakeHeld, MayThawHeld, parts_seen}
use Rattle.shared_store.specs.Store.{HandsView, IsWithin, IsWithinAt, SeatView, StoreView, shape_in}
use Rattle.shared_store.proofs.Alone.{thaw_on_body}
use Rattle.shared_store.proofs.Kept.{body_touched, hand_room}
use Rattle.shared_store.proofs.Made.{knows_same}
use Rattle.shared_store.proofs.Claims.{same_on}

module _ (store : StoreView) (session : ℕ) (t u : SeatView) (hands : HandsView) (own : Option OwnTransaction) (thawing : ℕ)
    (view : u.me.0 ≡ record t.me.0 { worn = u.me.0.worn; drained = thawing })
  where
    log : u.me.0.log ≡ t.me.0.log
    log = ap (λ (v : View CoreEvent). v.log) view

    -- it knows what it knew
    pub drained_within : IsWithin store session t hands own → IsPassAt (store_meaning (shape_in store)) thawing store.id u hands
        → IsWithinAt thawing store session u hands own
    drained_within within there = record {
      pass = there;
      knows = knows_same (shape_in store) session t.me.0 u.me.0 own log (ap (λ (v : View CoreEvent). v.sessions) view) (ap (λ (v : View CoreEvent). v.sole) view) within.knows;
    }

    -- what it makes then it makes as who it was before
    pub drained_made : (w : SeatView) (later : HandsView) (e : CoreEvent) (told : CoreReply)
        → MakesHeld store session u w hands later own e told → MakesHeld store session t w hands later own e told
    drained_made w later e told made = record {
      within = made.within;
      makes = record {
        before = made.makes.before;
        goes_on = subst (λ (l : List (Entry CoreEvent)). GoesOn (log_of l) made.makes.before) log made.makes.goes_on;
        log = made.makes.log;
        reply = made.makes.reply;
        own = made.makes.own
            ∙ ap (λ (l : List (Entry CoreEvent)). own_in (shape_in store) session (log_of l) ++ occurrence_at session (parts_after (shape_in store) made.makes.before) e told ∷ []) log;
      };
      refuses = made.refuses;
      count = made.count ∙ ap (λ (v : View CoreEvent). length v.mine + 1) view;
      taken = made.taken ∙ ap (λ (v : View CoreEvent). v.taken) view;
      room = made.room;
      reads = same_on (ap (λ (v : View CoreEvent). v.claim) view, ap (λ (v : View CoreEvent). v.claimed) view) made.reads;
      agrees = made.agrees;
      lasting = λ stamp known. made.lasting stamp (subst (λ (l : List (Entry CoreEvent)). IsOldest (shape_in store) stamp (replay (store_meaning (shape_in store)) l)) (sym log) known);
    }

-- ---- the block before it

-- the body of an imaged block that a pass holds is in the hand, and its word is frozen
pub frozen_here : (store : StoreView) (seat : SeatView) (hands : HandsView) (table block body : ℕ) (may : MayThawHeld store seat hands table block)
    → slice_get (names (shape_in store)) body ≡ Some (BodyOf table block)
    → (p : CorePart) × (slice_get (first_of hands) body ≡ Some (Some p)) × IsFrozen (head_of (word_of p))
frozen_here store seat hands table block body may number =
    let room = hand_room store may.session seat hands may.own may.within in
    let less = number_less (shape_in store) (BodyOf table block) body number in
    let touched = body_touched (shape_in store) (λ name. false) table block body (event.Thaw table block) number (thaw_on_body (shape_in store) table block) (first_of hands) in
    let held = may.covers body (let l = less in let r = room in omega (arith, l, r)) touched in
    let tells = words_tell_images (shape_in store) (parts_seen (shape_in store) seat.me.0) table block body held.0 may.within.pass.of.1.sound.sound number
    (may.within.pass.of.1.agrees body held.0 held.1) in
    (held.0, held.1, tells.frozen.0 may.imaged)

-- and then the block may be thawed
pub may_thaw_drained : (store : StoreView) (t u : SeatView) (hands : HandsView) (table block body : ℕ) (may : MayThawHeld store t hands table block)
    → slice_get (names (shape_in store)) body ≡ Some (BodyOf table block)
    → u.me.0 ≡ record t.me.0 { worn = u.me.0.worn; drained = body + 1 }
    → IsPassAt (store_meaning (shape_in store)) (body + 1) store.id u hands
    → MayMakeHeld store u hands (event.Thaw table block)
may_thaw_drained store t u hands table block body may number view there =
    let log : u.me.0.log ≡ t.me.0.log = ap (λ (v : View CoreEvent). v.log) view in
    record {
      session = may.session;
      own = may.own;
      within = subst (λ (o : Option ℕ). IsWithinAt (thawed_by o) store may.session u hands may.own) (sym (thaws_its_body (shape_in store) table block body number))
          (let next : body + 1 ≡ suc body = omega arith in
          subst (λ n. IsWithinAt n store may.session u hands may.own) next (drained_within store may.session t u hands may.own (body + 1) view may.within there));
      mine = inr refl;
      covers = may.covers;
      stands = tt;
      fits = (may.has, subst (λ (l : List (Entry CoreEvent)). is_imaged (body_at (shape_in store) (replay (store_meaning (shape_in store)) l) table block).phase ≡ true) (sym log) may.imaged);
      few = let f = may.few in let m : length u.me.0.mine ≡ length t.me.0.mine = ap (λ (v : View CoreEvent). length v.mine) view in omega (arith, f, m);
    }
