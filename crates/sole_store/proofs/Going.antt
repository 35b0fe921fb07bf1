-- A store of one owner goes on as one.
use Rattle.std.proofs.Common.{◌≡◌, ℕ, Bool, true, false, Option, None, Some, refl, sym, ap, ◌∙◌, subst}
use mathlib.Core.Logic.{inl, inr}
use Rattle.core_laws.specs.Frames.Shards.{CoreHolds}
use Rattle.engine_core.specs.Core.{IsWhole, is_memory, parts_in}
use Rattle.core_parts.specs.Hands.{Held}
use Rattle.event_spec.specs.declared.own.OwnTransaction.{OwnTransaction}
use Rattle.event_spec.specs.Effects.{CoreEvent, effect}
use Rattle.event_spec.specs.Lawful.{IsLawful, takes_memory}
use Rattle.event_spec.specs.Parts.{Parts, Shape}
use Rattle.event_spec.specs.Replay.{after, reply_after}
use Rattle.event_spec.specs.Replies.{CoreReply, reply_to}
use Rattle.run_spec.specs.Opened.{own_behind}
use Rattle.sole_store.specs.Sole.{IsOwners, IsSole, Makes, SoleState, made_by, store_of}
use Rattle.store_laws.proofs.Going.{goes, stays}
use Rattle.store_laws.proofs.Making.{refused_keeps, unnamed_keeps}
use Rattle.store_laws.specs.OwnLaws.{HasOpened}

module _ (sh : Shape) (s : Parts) (e : CoreEvent) (own : Option OwnTransaction) (told : CoreReply) (holds : CoreHolds sh s) (lawful : IsLawful sh e s)
    (opened : HasOpened sh s 1 own) (memory : is_memory told ≡ true → takes_memory e ≡ true)
  where
    some_none : (q : ℕ) → None ≡ Some q → ⊥
    some_none q h = cc

    -- An event that was granted leaves open what it tells.
    granted : IsOwners e → told ≡ reply_to sh s e → HasOpened sh (effect sh s e) 1 (own_behind own e told)
    granted (inl mine) is = subst (λ (t : CoreReply). HasOpened sh (effect sh s e) 1 (own_behind own e t)) (sym is) (goes sh s e 1 own holds lawful mine opened)
    granted (inr none') is = subst (HasOpened sh (effect sh s e) 1) (sym (unnamed_keeps own e told none'))
        (stays sh s e 1 own holds lawful (λ mine. some_none 1 (sym none' ∙ mine)) opened)

    -- one that was made, or refused memory, leaves open what it tells
    pub opened_by : IsOwners e → told ≡ reply_after sh s (made_by e told) → HasOpened sh (after sh s (made_by e told)) 1 (own_behind own e told)
    opened_by mine is = go (is_memory told) refl is
      where
        go : (r : Bool) → is_memory told ≡ r → told ≡ reply_after sh s (record { event = e; refused = r }) → HasOpened sh (after sh s (record { event = e; refused = r })) 1 (own_behind own e told)
        go true refused at = subst (HasOpened sh s 1) (sym (ap (own_behind own e) at ∙ refused_keeps own e (memory refused))) opened
        go false made at = granted mine at

-- the store is one owner's still
pub goes_on : (sh : Shape) (hand new : Held) (e : CoreEvent) (own later : Option OwnTransaction) (told : CoreReply) → IsSole sh hand own → IsLawful sh e (parts_in hand) → IsOwners e
    → IsWhole sh new → parts_in new ≡ after sh (parts_in hand) (made_by e told) → told ≡ reply_after sh (parts_in hand) (made_by e told) → (is_memory told ≡ true → takes_memory e ≡ true)
    → later ≡ own_behind own e told → IsSole sh new later
goes_on sh hand new e own later told sole lawful mine whole parts is memory left = record {
  whole = whole;
  opened = subst (HasOpened sh (parts_in new) 1) (sym left)
      (subst (λ (s : Parts). HasOpened sh s 1 (own_behind own e told)) (sym parts)
      (opened_by sh (parts_in hand) e own told sole.whole.holds lawful sole.opened memory mine is));
  sessions = sole.sessions;
}

-- A store by its fields.
abbrev state : Shape → Parts → Option OwnTransaction → SoleState
state sh s own = record { shape = sh; parts = s; own = own }

-- and it made the event
pub makes_it : (sh : Shape) (hand new : Held) (e : CoreEvent) (own later : Option OwnTransaction) (told : CoreReply)
    → parts_in new ≡ after sh (parts_in hand) (made_by e told) → told ≡ reply_after sh (parts_in hand) (made_by e told) → (is_memory told ≡ true → takes_memory e ≡ true)
    → later ≡ own_behind own e told → Makes (store_of sh hand own) (store_of sh new later) e told
makes_it sh hand new e own later told parts is memory left = record {
  told_is = is;
  behind_is = ap (λ (s : Parts). state sh s later) parts ∙ ap (λ (o : Option OwnTransaction). state sh (after sh (parts_in hand) (made_by e told)) o) left;
  memory = memory;
}
