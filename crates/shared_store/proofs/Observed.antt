-- Observes of blocks one after another.
use Rattle.std.proofs.Common.{◌≡◌, ℕ, ◌+◌, ◌≤◌, Bool, true, false, cond, List, [], ◌∷◌, ◌++◌, Some, map, refl, ap, arith}
use mathlib.Core.Logic.{inl}
use mir.Val.{bool_byte}
use Rattle.std.specs.Prelude.{count_by}
use Rattle.std.proofs.lemmas.List.{map-append}
use Rattle.std.proofs.lemmas.List.Sums.{sum_by-append}
use Rattle.event_spec.specs.Lawful.{HasBlock}
use Rattle.event_spec.specs.declared.reply.Reply.TheVariants as reply
use Rattle.event_spec.specs.Parts.{Parts, below}
use Rattle.event_spec.specs.Replies.{CoreReply}
use Rattle.run_spec.specs.Asked.{at_all_blocks}
use Rattle.run_spec.specs.Occurrences.{Occurrence, replies_in}
use Rattle.run_spec.specs.Told.{is_turned}
use Rattle.store_laws.specs.Own.{occurrence_at}
use Rattle.workload_spec.specs.declared.command.Command.TheVariants.{Observe}
use Rattle.workload_spec.specs.declared.reply.Said.TheVariants as said
use Rattle.shared_store.specs.Observing.{HaveTurned, Observes, ObservesBlock, ObservesMore, observing}
use Rattle.shared_store.specs.Store.{Answers, IsSession, StoreView, shape_in}
use Rattle.shared_store.specs.declared.session.Session.{Session}
use Rattle.shared_store.proofs.Scanned.{plain_granted, went_call}
use Rattle.shared_store.proofs.Swept.{block_among, sweeps_block}

-- One observe more adds to the count of blocks that turned cooling whether its block did.
turned_more : (t b more : ℕ) (turned : Bool) → more ≡ cond turned 1 0
    → (session sum : ℕ) (parts : Parts) (made : List Occurrence) → HaveTurned sum made
    → HaveTurned (sum + more) (made ++ occurrence_at session parts (observing t b) (reply.Turned turned) ∷ [])
turned_more t b more turned is session sum parts made known =
    let one : List CoreReply = reply.Turned turned ∷ [] in
    let a : count_by is_turned (replies_in (made ++ occurrence_at session parts (observing t b) (reply.Turned turned) ∷ [])) ≡ count_by is_turned (replies_in made ++ one) =
    ap (count_by is_turned) (map-append (λ (x : Occurrence). x.reply) made (occurrence_at session parts (observing t b) (reply.Turned turned) ∷ [])) in
    let d : count_by is_turned (replies_in made ++ one) ≡ count_by is_turned (replies_in made) + (0 + cond turned 1 0) = sum_by-append (λ r. cond (is_turned r) 1 0) (replies_in made) one in
    omega (arith, known, is, a, d)

module _ (store : StoreView) where
  -- one block more
  pub observes_on : (old mid new : Session) (t b count more : ℕ) (turned : Bool) → ObservesMore store old mid (map (observing t) (below b)) count
      → ObservesBlock store mid new t b turned → HasBlock (shape_in store) t b → more ≡ cond turned 1 0
      → ObservesMore store old new (map (observing t) (below (b + 1))) (count + more)
  observes_on old mid new t b count more turned so m has is =
      sweeps_block store (at_all_blocks (shape_in store) observing) HaveTurned observing old mid new t b count more (reply.Turned turned) so m
      (block_among (shape_in store) observing t b has) refl refl refl refl (turned_more t b more turned is)

  -- a session that observed all blocks answers with how many turned cooling
  pub observes_whole : (old new : Session) (count : ℕ) → IsSession store old → Observes store old new (at_all_blocks (shape_in store) observing) count
      → Answers store old new Observe (said.Cooling count)
  observes_whole old new count is o = went_call store old new Observe (at_all_blocks (shape_in store) observing) o.made (said.Cooling count) is o.went refl refl refl (inl (record {
    events = o.events_are;
    granted = plain_granted o.made o.plain;
    line = ap (λ n. Some (said.Cooling n)) o.told;
  }))

-- a block turns cooling once at most by an observe
pub turned_few : (turned : Bool) → cond turned 1 0 ≤ 1
turned_few true = omega arith
turned_few false = omega arith

-- a truth value as a number
pub byte_is : (turned : Bool) → bool_byte turned ≡ cond turned 1 0
byte_is true = refl
byte_is false = refl
