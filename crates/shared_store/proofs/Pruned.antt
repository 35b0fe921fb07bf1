-- A pruning: the stamp that its `oldest` replies lasts, and prunes by it are made one after
-- another.
use Rattle.std.proofs.Common.{◌≡◌, ℕ, ◌+◌, false, List, [], ◌∷◌, ◌++◌, Some, map, refl, sym, ap, subst, ◌∙◌, append-nil, arith}
use mathlib.Core.Logic.{inl, inr}
use Rattle.std.specs.Prelude.{filter_map, flat_map, fold, sum_by}
use Rattle.std.proofs.lemmas.List.{map-append}
use Rattle.std.proofs.lemmas.List.Elements.{filter_map-append}
use Rattle.std.proofs.lemmas.List.Sums.{fold-append, sum_by-append}
use Rattle.event_spec.specs.declared.event.Event.TheVariants as event
use Rattle.event_spec.specs.declared.reply.Reply.TheVariants as reply
use Rattle.event_spec.specs.Effects.{CoreEvent}
use Rattle.event_spec.specs.Lawful.{HasBlock, IsOldest}
use Rattle.event_spec.specs.Parts.{Parts, Shape, below, desk_at}
use Rattle.event_spec.specs.Replay.{after, opening}
use Rattle.event_spec.specs.Replies.{CoreReply}
use Rattle.core_laws.proofs.Parts.Lasting.{learns}
use Rattle.run_spec.specs.Asked.{at_all_blocks, oldest_told, prunes}
use Rattle.run_spec.specs.Occurrences.{Logged, Occurrence, replies_in}
use Rattle.run_spec.specs.Told.{dropped_told}
use Rattle.store_laws.proofs.Entries.{replay_same}
use Rattle.store_laws.specs.Logs.{made_in}
use Rattle.store_laws.specs.Own.{entry_of, occurrence_at, parts_after}
use Rattle.txn_desk.specs.Oldest.{oldest_of}
use Rattle.workload_spec.specs.declared.command.Command.TheVariants.{Prune}
use Rattle.workload_spec.specs.declared.reply.Said.TheVariants as said
use Rattle.shared_store.specs.Making.{parts_seen}
use Rattle.shared_store.specs.Pruning.{AsksOldest, HaveDropped, KnowsOldest, Prunes, PrunesBlock, PrunesMore, asked_by, pruning}
use Rattle.shared_store.specs.Store.{Answers, IsSession, StoreView, shape_in, own_of}
use Rattle.shared_store.specs.declared.session.Session.{Session}
use Rattle.shared_store.proofs.Calls.{told_always}
use Rattle.shared_store.proofs.Scanned.{plain_granted, went_call}
use Rattle.shared_store.proofs.Swept.{block_among, sweeps_block, sweeps_nothing, sweeps_on}

-- ---- the stamp

-- the parts behind one entry more
pub parts_added : (sh : Shape) (log : List Logged) (entry : Logged) → parts_after sh (log ++ entry ∷ []) ≡ after sh (parts_after sh log) entry.made
parts_added sh log entry =
    ap (fold (after sh) (opening sh)) (map-append (λ (e : Logged). e.made) log (entry ∷ []))
    ∙ fold-append (after sh) (opening sh) (made_in log) (entry.made ∷ [])

-- The reply that the oldest stamp is this.
abbrev oldest_reply : ℕ → CoreReply
oldest_reply stamp = reply.Oldest stamp

-- Replies of an oldest stamp that are one have the same stamp.
same_stamp : (m n : ℕ) → oldest_reply m ≡ oldest_reply n → m ≡ n
same_stamp m n e = cc

-- an `oldest` teaches the stamp that it replies
pub oldest_known : (store : StoreView) (old new : Session) (oldest : ℕ) → AsksOldest store old new oldest → KnowsOldest store new oldest
oldest_known store old new oldest asks = subst (IsOldest (shape_in store) oldest) (sym state) (learns (shape_in store) event.Oldest oldest parts stamp)
  where
    before : List Logged
    before = asks.makes.makes.before

    parts : Parts
    parts = parts_after (shape_in store) before

    stamp : oldest ≡ oldest_of (desk_at (shape_in store) parts)
    stamp = same_stamp oldest (oldest_of (desk_at (shape_in store) parts))
        (told_always store old.session old.pass.seat new.pass.seat new.pass.hands (own_of old) event.Oldest (reply.Oldest oldest) asks.makes refl)

    state : parts_seen (shape_in store) new.pass.seat.me.0 ≡ after (shape_in store) parts (record { event = event.Oldest; refused = false })
    state = replay_same (shape_in store) new.pass.seat.me.0.log
        ∙ ap (parts_after (shape_in store)) asks.makes.makes.log
        ∙ parts_added (shape_in store) before (entry_of old.session event.Oldest (reply.Oldest oldest))

-- ---- the events

module _ (store : StoreView) (oldest : ℕ) where
  -- The events of a pruning by the stamp.
  abbrev asked : List CoreEvent
  asked = asked_by (shape_in store) oldest

  -- what is known when the stamp was told
  pub prunes_begin : (old new : Session) → IsSession store old → AsksOldest store old new oldest → Prunes store oldest old new (event.Oldest ∷ []) 0
  prunes_begin old new is asks =
      sweeps_on store asked (λ made. made ≡ []) (HaveDropped oldest 0) old old new [] event.Oldest (reply.Oldest oldest)
      (sweeps_nothing store asked (λ made. made ≡ []) old is refl) asks (inl refl) refl refl refl refl
      (λ parts made none'. subst (λ (xs : List Occurrence). HaveDropped oldest 0 (xs ++ occurrence_at old.session parts event.Oldest (reply.Oldest oldest) ∷ [])) (sym none')
      (record { stamps = refl; counted = refl }))

  -- One prune more adds what it dropped to what was dropped before.
  dropped_more : (t b more session sum : ℕ) (parts : Parts) (made : List Occurrence) → HaveDropped oldest sum made
      → HaveDropped oldest (sum + more) (made ++ occurrence_at session parts (pruning oldest t b) (reply.Dropped more) ∷ [])
  dropped_more t b more session sum parts made known = record {
    stamps = ap (filter_map oldest_told) replies ∙ filter_map-append oldest_told (replies_in made) one ∙ append-nil (filter_map oldest_told (replies_in made)) ∙ known.stamps;
    counted =
        let a = ap (sum_by dropped_told) replies in
        let d : sum_by dropped_told (replies_in made ++ one) ≡ sum_by dropped_told (replies_in made) + (0 + more) = sum_by-append dropped_told (replies_in made) one in
        let k = known.counted in
        omega (arith, k, a, d);
  }
    where
      one : List CoreReply
      one = reply.Dropped more ∷ []

      replies : replies_in (made ++ occurrence_at session parts (pruning oldest t b) (reply.Dropped more) ∷ []) ≡ replies_in made ++ one
      replies = map-append (λ (x : Occurrence). x.reply) made (occurrence_at session parts (pruning oldest t b) (reply.Dropped more) ∷ [])

  -- one block more
  pub prunes_on : (old mid new : Session) (t b count more : ℕ) → PrunesMore store oldest old mid (map (pruning oldest t) (below b)) count
      → PrunesBlock store oldest mid new t b more → HasBlock (shape_in store) t b
      → PrunesMore store oldest old new (map (pruning oldest t) (below (b + 1))) (count + more)
  prunes_on old mid new t b count more so m has =
      sweeps_block store asked (HaveDropped oldest) (pruning oldest) old mid new t b count more (reply.Dropped more) so m
      (inr (block_among (shape_in store) (pruning oldest) t b has)) refl refl refl refl (dropped_more t b more)

  -- all of them
  pub prunes_whole : (old new : Session) (count : ℕ) → IsSession store old → Prunes store oldest old new asked count → Answers store old new Prune (said.Pruned count)
  prunes_whole old new count is p = went_call store old new Prune asked p.made (said.Pruned count) is p.went asks refl refl (inl (record {
    events = p.events_are ∙ sym asks;
    granted = plain_granted p.made p.plain;
    line = ap (λ n. Some (said.Pruned n)) p.told.counted;
  }))
    where
      asks : event.Oldest ∷ prunes (shape_in store) p.made ≡ asked
      asks = ap (λ stamps. event.Oldest ∷ flat_map (λ stamp. at_all_blocks (shape_in store) (λ table block. event.Prune table block stamp)) stamps) p.told.stamps
          ∙ ap (λ (es : List CoreEvent). event.Oldest ∷ es) (append-nil (at_all_blocks (shape_in store) (pruning oldest)))
