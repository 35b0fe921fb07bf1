-- What an event makes of a hand that has every part.
use Rattle.std.proofs.Common.{◌≡◌, ℕ, suc, ◌<◌, Bool, true, false, MatchBool, [], ◌∷◌, Option, Some, length, refl, sym, ap, ◌∙◌, subst, arith}
use Rattle.core_laws.proofs.Frames.Reached.{core_kept}
use Rattle.core_laws.specs.Frames.Shards.{CoreHolds}
use Rattle.core_parts.specs.Hands.{Held}
use Rattle.engine_core.proofs.Wholes.{holds_each, in_all}
use Rattle.engine_core.specs.Core.{IsWhole, is_memory, parts_in}
use Rattle.event_spec.specs.Effects.{CoreEvent, effect}
use Rattle.event_spec.specs.Lawful.{IsLawful}
use Rattle.event_spec.specs.Parts.{CorePart, Parts, Shape}
use Rattle.event_spec.specs.Replay.{after, reply_after}
use Rattle.event_spec.specs.Replies.{CoreReply, reply_to}
use Rattle.event_spec.specs.declared.reply.Reply.TheVariants as reply
use Rattle.hall_rule.specs.Hands.{Agrees, Holds, SameRoom, all_in}

-- A hand that agrees with a state and holds each place has all of it.
all_of : (hand : Held) (s : Parts) → Agrees hand s → ((k : ℕ) → k < length hand → Holds hand k) → hand ≡ all_in s
all_of [] [] same each = refl
all_of [] (p ∷ s) same each = let l : 0 ≡ suc (length s) = same.0 in absurd (omega (arith, l))
all_of (o ∷ hand) [] same each = let l : suc (length hand) ≡ 0 = same.0 in absurd (omega (arith, l))
all_of (o ∷ hand) (p ∷ s) same each =
    let first = each 0 (omega arith) in
    let rest = all_of hand s (let l : suc (length hand) ≡ suc (length s) = same.0 in omega (arith, l), λ k q. same.1 (suc k) q) (λ k less. each (suc k) (omega (arith, less))) in
    head first.0 first.1 (same.1 0 first.0 first.1) rest
  where
    head : (q : CorePart) → Some o ≡ Some (Some q) → Some p ≡ Some q → hand ≡ all_in s → o ∷ hand ≡ Some p ∷ all_in s
    head q a b rest =
        let one : o ≡ Some q = cc in
        let two : q ≡ p = cc in
        ap (λ (x : Option CorePart). x ∷ hand) (one ∙ ap (λ (x : CorePart). Some x) two) ∙ ap (λ (x : Held). Some p ∷ x) rest

-- A reply that is tested to refuse memory is that one.
pub memory_is : (said : CoreReply) → is_memory said ≡ true → said ≡ reply.Memory
memory_is reply.Memory e = refl
memory_is (reply.Begun snapshot) e = cc
memory_is (reply.Found row) e = cc
memory_is (reply.Written place) e = cc
memory_is (reply.Refused fault) e = cc
memory_is (reply.Rows rows) e = cc
memory_is (reply.Shared rows) e = cc
memory_is (reply.Committed number) e = cc
memory_is (reply.Stale what number) e = cc
memory_is reply.Aborted e = cc
memory_is (reply.Oldest stamp) e = cc
memory_is (reply.Turned turned) e = cc
memory_is (reply.Dropped count) e = cc
memory_is (reply.Looked look) e = cc
memory_is (reply.Moved count) e = cc
memory_is (reply.Sealed stamp) e = cc
memory_is (reply.NotSealed fault) e = cc
memory_is (reply.Imaged rows) e = cc
memory_is reply.NoSeal e = cc
memory_is reply.Thawed e = cc

module _ (sh : Shape) (hand new : Held) (e : CoreEvent) (said : CoreReply) (whole : IsWhole sh hand) (lawful : IsLawful sh e (parts_in hand)) (room : SameRoom hand new) where
  -- Each place of the hand is held behind the event too.
  each_held : (k : ℕ) → k < length new → Holds new k
  each_held k less = room.held k (holds_each sh hand whole k (let l = room.places in omega (arith, l, less)))

  -- What an event makes of the hand: it is as it was, or has the effect.
  abbrev Meets : Bool → Type 0
  Meets refused = MatchBool refused (new ≡ hand) (Agrees new (effect sh (parts_in hand) e) × (said ≡ reply_to sh (parts_in hand) e))

  -- the hand is whole still
  pub whole_by : (refused : Bool) → Meets refused → IsWhole sh new
  whole_by true same = subst (IsWhole sh) (sym same) whole
  whole_by false made =
      let is = all_of new (effect sh (parts_in hand) e) made.0 each_held in
      subst (IsWhole sh) (sym is) (record {
        all = ap all_in (sym (in_all (effect sh (parts_in hand) e)));
        holds = subst (CoreHolds sh) (sym (in_all (effect sh (parts_in hand) e))) (core_kept sh e (parts_in hand) whole.holds lawful);
      })

  -- its parts are those behind the event
  pub parts_by : (refused : Bool) → Meets refused → parts_in new ≡ after sh (parts_in hand) (record { event = e; refused = refused })
  parts_by true same = ap parts_in same
  parts_by false made = ap parts_in (all_of new (effect sh (parts_in hand) e) made.0 each_held) ∙ in_all (effect sh (parts_in hand) e)

  -- and the reply is the event's
  pub told_by : (refused : Bool) → is_memory said ≡ refused → Meets refused → said ≡ reply_after sh (parts_in hand) (record { event = e; refused = refused })
  told_by true is same = memory_is said is
  told_by false is made = made.1
