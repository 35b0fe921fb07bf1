-- A pruning of a block without entries, which changes nothing and drops nothing.
use Rattle.std.proofs.Common.{◌≡◌, ℕ, Bool, true, false, cond, not, ◌&&◌, ◌==◌, List, [], ◌∷◌, Some, filter, map, sum_by, refl, sym, ap, ◌∙◌, subst, arith}
use Rattle.std.proofs.lemmas.List.Sums.{sum_by-cons}
use Rattle.std.specs.List.{count_by, list_all}
use Rattle.std.proofs.lemmas.Bool.{and_parts}
use Rattle.block_spec.specs.Bodies.{Body, dropped_from, is_empty, is_quiet, pruned_in}
use Rattle.block_spec.specs.declared.change.Before.{Before}
use Rattle.block_spec.specs.Slots.{Slot, has_none, pruned}
use Rattle.core_parts.proofs.Telling.{body_is, from_one}
use Rattle.core_parts.specs.Hands.{Held, Makes, MayRun, in_hand}
use Rattle.core_sweeps.proofs.Dropping.{first_dropped, last_pruned}
use Rattle.core_sweeps.proofs.Handing.{first_same}
use Rattle.core_sweeps.proofs.Prunes.{part_there}
use Rattle.core_laws.proofs.Events.ByKind.{rests_at}
use Rattle.core_laws.proofs.Events.Slots.{num}
use Rattle.event_spec.specs.declared.event.Event.TheVariants as event
use Rattle.event_spec.specs.declared.part.Head.{Head}
use Rattle.event_spec.specs.declared.part.Part.TheVariants as part
use Rattle.event_spec.specs.declared.reply.Reply.TheVariants as reply
use Rattle.event_spec.specs.Effects.{at_both, changes_of, with_empty}
use Rattle.event_spec.specs.Lawful.{HasBlock}
use Rattle.event_spec.specs.Parts.{CorePart, Parts, Shape, Name, HeadOf, ShardOf, BodyOf, blocks_of, body_at, body_from, changed, head_at, head_from, names, part_at}
use Rattle.core_laws.proofs.Frames.Makes.{head_is_there}
use Rattle.core_laws.specs.Frames.Shards.{CoreHolds}
use Rattle.key_index.specs.Candidates.{Places}
use Rattle.core_parts.proofs.Heads.{knowing_rests}
use Rattle.core_laws.proofs.Sound.Bodies.{quiet_none}
use Rattle.undo_chain.specs.declared.undo.Undo.{Undo}
use Rattle.undo_chain.specs.Entry.{is_stamped_by}

-- ---- a body without entries

-- a slot without entries stays what it is
slot_rests : (oldest : ℕ) (slot : Slot) → has_none slot.entries ≡ true → pruned oldest slot ≡ slot
slot_rests oldest slot none = ap (λ es. record slot { entries = es }) (go slot.entries none)
  where
    go : (es : List (Undo Before)) → has_none es ≡ true → filter (λ undo. not (is_stamped_by undo oldest)) es ≡ es
    go [] n = refl
    go (e ∷ es) n = cc

-- so does a body: what becomes of the parts of a core is told by it
body_rests : (oldest : ℕ) (body : Body) → is_quiet body ≡ true → pruned_in oldest body ≡ body
body_rests oldest body quiet = ap (λ slots. record body { slots = slots }) (go body.slots quiet)
  where
    go : (slots : List Slot) → list_all (λ slot. has_none slot.entries) slots ≡ true → map (pruned oldest) slots ≡ slots
    go [] q = refl
    go (x ∷ slots) q =
        let both = and_parts (has_none x.entries) (list_all (λ slot. has_none slot.entries) slots) q in
        ap (λ y. y ∷ map (pruned oldest) slots) (slot_rests oldest x both.0) ∙ ap (λ ys. x ∷ ys) (go slots both.1)

-- no entry of it is dropped, which the reply tells
none_dropped : (oldest : ℕ) (body : Body) → is_quiet body ≡ true → dropped_from oldest body ≡ 0
none_dropped oldest body quiet = go body.slots quiet
  where
    none : (es : List (Undo Before)) → has_none es ≡ true → count_by (λ undo. is_stamped_by undo oldest) es ≡ 0
    none [] n = refl
    none (e ∷ es) n = cc

    go : (slots : List Slot) → list_all (λ slot. has_none slot.entries) slots ≡ true → sum_by (λ slot. count_by (λ undo. is_stamped_by undo oldest) slot.entries) slots ≡ 0
    go [] q = refl
    go (x ∷ slots) q =
        let both = and_parts (has_none x.entries) (list_all (λ slot. has_none slot.entries) slots) q in
        let sum = sum_by-cons (λ (slot : Slot). count_by (λ undo. is_stamped_by undo oldest) slot.entries) x slots in
        let here = none x.entries both.0 in
        let rest = go slots both.1 in
        omega (arith, sum, here, rest)

-- ---- a core

-- a change that is made in one case alone, and changes nothing there: a head of another table stays
-- anyway
either_rests : {X : Type 0} (c : Bool) (y x : X) → y ≡ x → cond c y x ≡ x
either_rests true y x same = same
either_rests false y x same = refl

module _ (sh : Shape) (s : Parts) (holds : CoreHolds sh s) (t b oldest : ℕ) (has : HasBlock sh t b) (quiet : is_quiet (body_at sh s t b) ≡ true) where
  -- each body of the core is after the pruning what it was
  bodies_rest : (u d : ℕ) → at_both t b (pruned_in oldest) u d (body_at sh s u d) ≡ body_at sh s u d
  bodies_rest u d = go ((u == t) && (d == b)) refl
    where
      go : (here : Bool) → ((u == t) && (d == b)) ≡ here → at_both t b (pruned_in oldest) u d (body_at sh s u d) ≡ body_at sh s u d
      go true e =
          let both = and_parts (u == t) (d == b) e in
          ap (λ c. cond c (pruned_in oldest (body_at sh s u d)) (body_at sh s u d)) e
          ∙ body_rests oldest (body_at sh s u d) (ap (λ v. is_quiet (body_at sh s v d)) (num u t both.0) ∙ ap (λ c. is_quiet (body_at sh s t c)) (num d b both.1) ∙ quiet)
      go false e = ap (λ c. cond c (pruned_in oldest (body_at sh s u d)) (body_at sh s u d)) e

  -- so each head, which knows of the empty blocks already
  heads_rest : (u : ℕ) (x : Head) → part_at sh s (HeadOf u) ≡ Some (part.Head x)
      → with_empty (blocks_of sh u) (λ d. is_empty (at_both t b (pruned_in oldest) u d (body_at sh s u d))) x ≡ x
  heads_rest u x is =
      let head = holds.sound.heads u (head_is_there sh s u (part.Head x) is) in
      subst (λ (x : Head). with_empty (blocks_of sh u) (λ d. is_empty (at_both t b (pruned_in oldest) u d (body_at sh s u d))) x ≡ x) (ap head_from is)
      (knowing_rests (blocks_of sh u) (λ d. is_empty (body_at sh s u d)) (λ d. is_empty (at_both t b (pruned_in oldest) u d (body_at sh s u d))) (head_at sh s u)
      (record { others = head.empty; own = head.anew }) head.block.1 (λ d less. ap is_empty (bodies_rest u d)))

  -- each part of the core is after the event what it was
  parts_rest : (n : Name) (x : CorePart) → part_at sh s n ≡ Some x → changed (changes_of sh s (event.Prune t b oldest)) n x ≡ x
  parts_rest = rests_at (λ n x. part_at sh s n ≡ Some x) (changes_of sh s (event.Prune t b oldest)) (record {
    head = λ u x is. either_rests (u == t) (with_empty (blocks_of sh u) (λ d. is_empty (at_both t b (pruned_in oldest) u d (body_at sh s u d))) x) x (heads_rest u x is);
    shard = λ u i x is. the_shard u i x
        (sym (last_pruned sh s holds.measures holds.sound holds.shards t b oldest has 0 (λ j from. quiet_none (body_at sh s t b).slots j quiet) (ShardOf u i) (part.Shard x) is)
        ∙ first_dropped sh s holds.measures holds.sound holds.shards t b oldest has (ShardOf u i) (part.Shard x) is);
    body = λ u d x is. subst (λ (x : Body). at_both t b (pruned_in oldest) u d x ≡ x) (ap body_from is) (bodies_rest u d);
    desk = λ x is. refl;
  })
    where
      the_shard : (u i : ℕ) (x : Places) → changed (changes_of sh s (event.Prune t b oldest)) (ShardOf u i) (part.Shard x) ≡ part.Shard x → (changes_of sh s (event.Prune t b oldest)).shard u i x ≡ x
      the_shard u i x e = cc

-- ---- a hand

-- A hand stays what it is, and no version is dropped: what the early return of a pruning has to
-- show.
pub quiet_prune : (sh : Shape) (t b oldest : ℕ) (hand : Held) (body : Body) (count : ℕ) → MayRun sh (event.Prune t b oldest) hand → in_hand sh hand (BodyOf t b) ≡ Some (part.Body body) → is_quiet body ≡ true
    → count ≡ 0 → Makes sh (event.Prune t b oldest) hand hand (reply.Dropped count)
quiet_prune sh t b oldest hand body count m is quiet none = from_one sh (event.Prune t b oldest) hand hand (reply.Dropped count) m
    (sym (first_same (changes_of sh m.parts (event.Prune t b oldest)) (names sh) hand (λ k n x named at. parts_rest sh m.parts m.holds t b oldest m.lawful.1 here n x (part_there sh t b oldest hand m k n x named at))))
    (ap reply.Dropped (none ∙ sym (none_dropped oldest (body_at sh m.parts t b) here)))
  where
    here : is_quiet (body_at sh m.parts t b) ≡ true
    here = ap is_quiet (body_is sh hand m.parts m.agrees t b body is) ∙ quiet
