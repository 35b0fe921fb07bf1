-- A lend that was given back: the block is imaged as before, and its rows are those that were lent.
use Rattle.std.proofs.Common.{◌≡◌, ℕ, suc, ◌+◌, List, Option, length, sym, ap, subst, ◌∙◌, arith}
use Rattle.block_spec.specs.Bodies.{rows_of}
use Rattle.block_spec.specs.declared.phase.Phase.TheVariants.{Imaged}
use Rattle.core_parts.proofs.Placing.{number_less}
use Rattle.event_spec.specs.declared.own.OwnTransaction.{OwnTransaction}
use Rattle.event_spec.specs.Effects.{CoreEvent}
use Rattle.event_spec.specs.Parts.{BodyOf, body_at}
use Rattle.hall_rule.specs.Hands.{Holds}
use Rattle.hall_rule.specs.Views.{left}
use Rattle.hall_rule.specs.declared.view.Entry.{Entry}
use Rattle.hall_rule.specs.declared.view.View.{View}
use Rattle.hall_steps.specs.Hall.{IsPass, Looks, SameClaim, first_of}
use Rattle.hall_steps.proofs.Walking.{sees_on, sees_same}
use Rattle.run_spec.specs.Handed.{GoesOn, own_in}
use Rattle.run_spec.specs.Occurrences.{Logged}
use Rattle.store_laws.proofs.Knowing.{looks_go_on}
use Rattle.store_laws.specs.Laws.{SeesOn}
use Rattle.store_laws.specs.Logs.{log_of, made_in, store_meaning}
use Rattle.store_laws.specs.Own.{parts_after}
use Rattle.event_spec.specs.Replay.{IsLawfulLog}
use Rattle.shared_store.specs.Lending.{EndsLend, HasImage, HasLent, LendView}
use Rattle.shared_store.specs.Store.{HandsView, IsAt, IsSession, IsWithin, SeatView, StoreView, own_of, seen, shape_in, view_of, Notes, notes_of}
use Rattle.shared_store.specs.declared.session.Session.{Session}
use Rattle.shared_store.proofs.Lent.{claim_tells, image_there, left_holds, left_within, rows_stay}
use Rattle.shared_store.proofs.Open.{sees_on as stays_on}
use Rattle.shared_store.proofs.Sessions.{session_is}
use Rattle.shared_store.specs.Reads.{ReadsFit}

module _ (store : StoreView) (old new : Session) (lend : LendView) (t : SeatView) (hands : HandsView) (is : IsSession store old)
    (there : IsPass (store_meaning (shape_in store)) store.id t hands) (looks : Looks (store_meaning (shape_in store)) old.pass.seat t) (held : hands ≡ old.pass.hands)
    (gone : IsPass (store_meaning (shape_in store)) store.id new.pass.seat new.pass.hands) (view : new.pass.seat.me.0 ≡ left t.me.0) (kept : new.pass.hands ≡ hands)
    (same : new.session ≡ old.session) (opened : own_of new ≡ own_of old) (kept_notes : notes_of new ≡ notes_of old) (took : t.me.0.taken ≡ old.pass.seat.me.0.taken) (anew : t.me.0.looks ≡ old.pass.seat.me.0.looks + 1)
  where
    -- The look shows what was made since.
    on : SeesOn (shape_in store) old.session old.pass.seat.me.0 t.me.0 (own_of old)
    on = looks_go_on (shape_in store) old.session t.id old.pass.seat.me t.me (first_of old.pass.hands) (first_of hands) (own_of old)
        (subst (λ i. Rattle.hall_steps.specs.Hall.Knows (store_meaning (shape_in store)) i old.pass.seat.me (first_of old.pass.hands)) (sym looks.0.1) is.stands.within.pass.of.1)
        there.of.1
        (sees_on (store_meaning (shape_in store)) old.pass.seat.id old.pass.seat.me.0 old.pass.seat.me.0 t.me.0 (sees_same (store_meaning (shape_in store)) old.pass.seat.me.0) looks.1)
        is.stands.within.knows

    within : IsWithin store old.session t hands (own_of old)
    within = record { pass = there; knows = on.knows }

    behind : IsWithin store old.session new.pass.seat new.pass.hands (own_of old)
    behind = left_within store old.session t new.pass.seat hands new.pass.hands (own_of old) within gone view

    session : IsSession store new
    session = session_is store new (subst (λ q. IsAt store q new.pass.seat new.pass.hands (own_of new)) (sym same)
        (subst (IsAt store old.session new.pass.seat new.pass.hands) (sym opened) (record {
          within = behind;
          empty = subst (λ (hs : HandsView). (k : ℕ) → ¬ Holds (first_of hs) k) (sym (kept ∙ held)) is.stands.empty;
        }))) (subst (λ (notes : Notes). ReadsFit (shape_in store) notes.reads) (sym kept_notes) is.fits)

    log : new.pass.seat.me.0.log ≡ t.me.0.log
    log = ap (λ (v : View CoreEvent). v.log) view

    goes : GoesOn (seen old) (seen new)
    goes = subst (λ (l : List (Entry CoreEvent)). GoesOn (seen old) (log_of l)) (sym log) on.goes_on

    own : own_in (shape_in store) old.session (seen new) ≡ own_in (shape_in store) old.session (seen old)
    own = ap (λ (l : List (Entry CoreEvent)). own_in (shape_in store) old.session (log_of l)) log ∙ on.same

    -- the block is still imaged, with the rows that were lent
    stayed : (table block stamp : ℕ) → HasLent (shape_in store) (view_of old) (own_of old) lend table block stamp
        → HasImage (shape_in store) (view_of new) (own_of new) table block stamp lend.rows
    stayed table block stamp lent =
        let sh = shape_in store in
        let before = left_holds store old.session old.pass.seat old.pass.hands (own_of old) is.stands.within in
        let last = (before.sound.bodies table block lent.has).last in
        let newest = (before.sound.bodies table block lent.has).imaged stamp lent.image.imaged in
        let claim = lent.claim in
        let claimed = lent.claimed in
        let reads = on.reads in
        let imaged = claim_tells store old.session t hands (own_of old) within table block lend.part lent.part stamp
        (omega (arith, last, newest)) (number_less sh (BodyOf table block) lend.part lent.part)
        (reads.0 ∙ claim ∙ (let s : lend.part + 1 ≡ suc lend.part = omega arith in s)) (reads.1 ∙ claimed) in
        let there' : (body_at sh (parts_after sh (seen new)) table block).phase ≡ Imaged stamp =
        ap (λ (l : List (Entry CoreEvent)). (body_at sh (parts_after sh (log_of l)) table block).phase) log ∙ imaged in
        let image = image_there store old.session new.pass.seat new.pass.hands (own_of old) behind table block stamp lent.has there' in
        let rows = ap (λ (l : List Logged). rows_of (body_at sh (parts_after sh l) table block)) goes.1
        ∙ rows_stay sh (seen old) goes.0 table block stamp before.measures (subst (λ (l : List Logged). IsLawfulLog sh (made_in l)) goes.1 session.lawful) lent.has lent.image.imaged
        (subst (λ (l : List Logged). (body_at sh (parts_after sh l) table block).phase ≡ Imaged stamp) goes.1 there')
        ∙ lent.image.rows in
        subst (λ (o : Option OwnTransaction). HasImage sh (view_of new) o table block stamp lend.rows) (sym opened)
        (record { imaged = there'; rows = rows; sees = λ o e. image.sees o e ∙ rows })

    pub lend_ended : EndsLend store old new lend
    lend_ended = record {
      session = session;
      same = same;
      opened = opened;
      kept = kept_notes;
      sees = goes;
      own = own;
      made = ap (λ (es : List (Entry CoreEvent)). length es) (ap (λ (v : View CoreEvent). v.mine) view ∙ looks.1.mine);
      taken = ap (λ (v : View CoreEvent). v.taken) view ∙ took;
      is_open = stays_on store old new session same opened goes own;
      looked = let l = ap (λ (v : View CoreEvent). v.looks) view in omega (arith, l, anew);
      free = ap (λ (v : View CoreEvent). v.claim) view;
      stayed = stayed;
    }
