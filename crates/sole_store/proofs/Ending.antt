-- A store opens, and its transactions begin and end.
use Rattle.std.proofs.Common.{◌≡◌, ℕ, ◌≤◌, [], ◌∷◌, Option, None, Some, refl, sym, ap, ◌∙◌, subst, arith, true, false}
use Rattle.std.specs.Prelude.{option_and_then}
use Rattle.core_laws.specs.Frames.Shards.{CoreHolds}
use Rattle.core_parts.specs.Hands.{Held}
use Rattle.engine_core.specs.Core.{IsOpening, IsWhole, is_memory, parts_in}
use Rattle.engine_core.proofs.Wholes.{in_all}
use Rattle.engine_core.specs.Laws.{holds_opening, rests_opening}
use Rattle.event_spec.specs.declared.event.Event.TheVariants as event
use Rattle.event_spec.specs.declared.own.OwnTransaction.{OwnTransaction}
use Rattle.event_spec.specs.declared.reply.Reply.TheVariants as reply
use Rattle.event_spec.specs.Effects.{CoreEvent, range_keys}
use Rattle.event_spec.specs.Lawful.{HasStamp, IsLawful, takes_memory, transaction}
use Rattle.event_spec.specs.Newest.{judged_reads, newest_of}
use Rattle.event_spec.specs.Parts.{Parts, Shape, desk_at, places_at, slot_at}
use Rattle.event_spec.specs.Replay.{after, opening, reply_after}
use Rattle.event_spec.specs.Replies.{CoreReply, reply_to, reply_to_commit}
use Rattle.hall_rule.specs.Hands.{all_in}
use Rattle.isolation_spec.specs.Contents.{PlaceMap}
use Rattle.isolation_spec.specs.Reads.{first_stale, reads_in}
use Rattle.txn_desk.specs.Desk.{wrote_table}
use Rattle.run_spec.specs.Opened.{own_behind}
use Rattle.sole_store.specs.Sole.{IsOwners, IsSole, Makes, made_by, store_of}
use Rattle.sole_store.proofs.Going.{goes_on, makes_it}
use Rattle.sole_store.proofs.Told.{always_in, owns_all, told_as}
use Rattle.store_laws.specs.OwnLaws.{HasOpened}

-- a store whose core was just made is one owner's, who has nothing open
pub sole_first : (sh got : Shape) (s : Parts) (hand : Held) → IsOpening sh s → sh.passes ≡ 1 → got ≡ sh → hand ≡ all_in s → IsSole got hand None
sole_first sh got s hand first one same all = subst (λ (x : Shape). IsSole x hand None) (sym same) (subst (λ (h : Held). IsSole sh h None) (sym all) (record {
  whole = record {
    all = ap all_in (sym (in_all s));
    holds = subst (CoreHolds sh) (sym (in_all s)) (holds_opening sh s first);
  };
  opened = subst (λ (x : Parts). transaction sh x 1 ≡ None) (sym (in_all s)) (rests_opening sh s 1 first);
  sessions = one;
}))

-- and its parts are the opening ones
pub parts_first : (sh got : Shape) (s : Parts) (hand : Held) → IsOpening sh s → got ≡ sh → hand ≡ all_in s → parts_in hand ≡ opening got
parts_first sh got s hand first same all = ap parts_in all ∙ in_all s ∙ first.parts_are ∙ ap opening (sym same)

-- an owner who has nothing open may begin
pub may_begin : (sh : Shape) (hand : Held) (o : Option OwnTransaction) → IsSole sh hand o → o ≡ None → IsLawful sh (event.Begin 1) (parts_in hand)
may_begin sh hand o sole is = (((omega arith, subst (λ (n : ℕ). 1 ≤ n) (sym sole.sessions) (omega arith)), subst (HasOpened sh (parts_in hand) 1) is sole.opened), tt)

-- one who has something open may commit it while a stamp is left
pub may_commit : (sh : Shape) (hand : Held) (o : Option OwnTransaction) (own : OwnTransaction) → IsSole sh hand o → o ≡ Some own → HasStamp sh (parts_in hand)
    → IsLawful sh (event.Commit own None) (parts_in hand)
may_commit sh hand o own sole is stamp = ((owns_all sh hand o own sole is).1, (stamp, tt))

-- and may abort it
pub may_abort : (sh : Shape) (hand : Held) (o : Option OwnTransaction) (own : OwnTransaction) → IsSole sh hand o → o ≡ Some own → IsLawful sh (event.Abort own) (parts_in hand)
may_abort sh hand o own sole is = ((owns_all sh hand o own sole is).1, tt)

-- a commit that hands in no reads replies its number
pub commit_tells : (sh : Shape) (s : Parts) (own : OwnTransaction) (told : CoreReply) → told ≡ reply_to sh s (event.Commit own None)
    → ((number : Option ℕ) → told ≡ reply.Committed number → ⊥) → ⊥
commit_tells sh s own told is not = not _ (is ∙ ap (reply_to_commit sh s own) (unread own.writes))
  where
    unread : (writes : PlaceMap ℕ) → option_and_then
        (λ set. first_stale (newest_of (slot_at sh s) (places_at sh s) (range_keys sh s) (wrote_table (desk_at sh s)) own.snapshot) (reads_in set))
        (judged_reads writes None) ≡ None
    unread [] = refl
    unread (first ∷ rest) = refl

module _ (sh : Shape) (hand new : Held) (o : Option OwnTransaction) (e : CoreEvent) (told : CoreReply) (sole : IsSole sh hand o) (whole : IsWhole sh new)
    (parts : parts_in new ≡ after sh (parts_in hand) (made_by e told)) (told_is : told ≡ reply_after sh (parts_in hand) (made_by e told))
    (memory : is_memory told ≡ true → takes_memory e ≡ true)
  where
    -- an event of the owner's that takes no memory is told what the core replies
    pub replied : (f : CoreEvent) → e ≡ f → takes_memory f ≡ false → told ≡ reply_to sh (parts_in hand) f
    replied f is never = always_in sh (parts_in hand) e told told_is memory (ap takes_memory is ∙ never) ∙ ap (reply_to sh (parts_in hand)) is

    -- the store goes on behind an event of the owner's, with what that leaves open
    pub ended : (f : CoreEvent) (line : CoreReply) (later : Option OwnTransaction) → e ≡ f → told ≡ line → IsLawful sh f (parts_in hand) → IsOwners f → later ≡ own_behind o f line
        → IsSole sh new later × Makes (store_of sh hand o) (store_of sh new later) f line
    ended f line later is at lawful mine left =
        let left_is : later ≡ own_behind o e told = left ∙ sym (ap (λ (x : CoreEvent). own_behind o x line) is) ∙ sym (ap (own_behind o e) at) in (
          goes_on sh hand new e o later told sole (subst (λ (x : CoreEvent). IsLawful sh x (parts_in hand)) (sym is) lawful) (subst IsOwners (sym is) mine) whole parts told_is memory left_is,
          told_as (store_of sh hand o) (store_of sh new later) e told (makes_it sh hand new e o later told parts told_is memory left_is) f line is at,
        )
