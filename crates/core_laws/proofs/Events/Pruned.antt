-- Prune on the parts.
use Rattle.event_spec.specs.Effects.{CoreEvent, effect, changes_of, kept_places, at_both}
use Rattle.event_spec.specs.Parts.{body_from, CorePart, Parts, Shape, ShardOf, BodyOf, names, part_named, Changes, changed, slot_at, places_at, desk_at, body_at, shard_from, shard_of}
use Rattle.core_laws.specs.Events.Named.{KindIf, FollowsMachine}
use Rattle.std.proofs.Common.{◌≡◌, ◌⊎◌, ℕ, ◌≤◌, ℤ, Bool, true, false, cond, not, ◌&&◌, ◌==◌, [], Option, None, Some, option_map, unwrap_or, refl, sym, ap, ◌∙◌, arith, subst}
use mathlib.Core.Logic.{inl, inr}
use Rattle.std.specs.Prelude.{filter}
use Rattle.std.specs.Ordering.{int_cmp}
use Rattle.std.proofs.lemmas.Bool.Decides.{nat_tests}
use Rattle.block_layout.specs.Place.{block_of, slot_of}
use Rattle.isolation_spec.specs.Machine.{IsolationMachine}
use Rattle.key_index.specs.Candidates.{candidates_of}
use Rattle.block_spec.specs.Slots.{bare, is_bare, pruned}
use Rattle.block_spec.specs.Bodies.{Body, slot_in, pruned_in}
use Rattle.event_spec.specs.Lawful.{Among}
use Rattle.event_spec.specs.Follows.{IsLive, StandsBefore}
use Rattle.core_laws.proofs.Slots.Ages.{before_filter}
use Rattle.core_laws.proofs.Following.Prunes.{prune_keeps}
use Rattle.core_laws.proofs.Events.States.{named_changed, kinds_after, shards_after, desk_after, desk_at_after, body_cases, carried, slot_map}
use Rattle.core_laws.proofs.Events.Aborted.{kept_is, among_filter, filter_among}
use Rattle.event_spec.specs.declared.event.Event.TheVariants as event
use Rattle.event_spec.specs.declared.part.Part.TheVariants as part
use Rattle.std.specs.FinMap as finite
use Rattle.std.proofs.lemmas.Bool.{not-true}

module _ (sh : Shape) (s : Parts) (t b oldest : ℕ) (m : IsolationMachine) (live : (stamp number : ℕ) → IsLive (desk_at sh s) stamp number → oldest ≤ stamp) (f : FollowsMachine sh s m) where
  -- The event of the pruning.
  abbrev e : CoreEvent
  e = event.Prune t b oldest

  -- The changes that the pruning makes.
  abbrev c : Changes
  c = changes_of sh s e

  -- The parts after the pruning event.
  abbrev after : Parts
  after = effect sh s e

  -- a body after it: pruned, or as it was
  in_body : (u x : ℕ) (body : Body) (j : ℕ) → (slot_in (at_both t b (pruned_in oldest) u x body) j ≡ pruned oldest (slot_in body j)) ⊎ (slot_in (at_both t b (pruned_in oldest) u x body) j ≡ slot_in body j)
  in_body u x body j = go ((u == t) && (x == b)) refl
    where
      go : (y : Bool) → ((u == t) && (x == b)) ≡ y → (slot_in (at_both t b (pruned_in oldest) u x body) j ≡ pruned oldest (slot_in body j)) ⊎ (slot_in (at_both t b (pruned_in oldest) u x body) j ≡ slot_in body j)
      go true is = inl (ap (λ y. slot_in (cond y (pruned_in oldest body) body) j) is ∙ slot_map (pruned oldest) refl body.slots j)
      go false is = inr (ap (λ y. slot_in (cond y (pruned_in oldest body) body) j) is)

  -- Each slot is pruned or as it was.
  each : (u p : ℕ) → (slot_at sh after u p ≡ pruned oldest (slot_at sh s u p)) ⊎ (slot_at sh after u p ≡ slot_at sh s u p)
  each u p = go (body_cases sh s c u (block_of p) (f.kinds (BodyOf u (block_of p)))) (in_body u (block_of p) (body_at sh s u (block_of p)) (slot_of p))
    where
      go : ((body_at sh after u (block_of p) ≡ c.body u (block_of p) (body_at sh s u (block_of p))) ⊎ ((body_at sh after u (block_of p) ≡ body_from None) × (body_at sh s u (block_of p) ≡ body_from None)))
          → (slot_in (at_both t b (pruned_in oldest) u (block_of p) (body_at sh s u (block_of p))) (slot_of p) ≡ pruned oldest (slot_in (body_at sh s u (block_of p)) (slot_of p)))
          ⊎ (slot_in (at_both t b (pruned_in oldest) u (block_of p) (body_at sh s u (block_of p))) (slot_of p) ≡ slot_in (body_at sh s u (block_of p)) (slot_of p))
          → (slot_at sh after u p ≡ pruned oldest (slot_at sh s u p)) ⊎ (slot_at sh after u p ≡ slot_at sh s u p)
      go (inl is) (inl x) = inl (ap (λ y. slot_in y (slot_of p)) is ∙ x)
      go (inl is) (inr x) = inr (ap (λ y. slot_in y (slot_of p)) is ∙ x)
      go (inr none) x = inr (ap (λ y. slot_in y (slot_of p)) none.0 ∙ ap (λ y. slot_in y (slot_of p)) (sym none.1))

  -- a slot of the table as the sweep of its index sees it
  swept : (p : ℕ) → slot_at sh after t p ≡ slot_in (at_both t b (pruned_in oldest) t (block_of p) (body_at sh s t (block_of p))) (slot_of p)
  swept p = go (body_cases sh s c t (block_of p) (f.kinds (BodyOf t (block_of p))))
    where
      none_in : (j : ℕ) → slot_in (at_both t b (pruned_in oldest) t (block_of p) (body_from None)) j ≡ bare
      none_in j = at ((t == t) && (block_of p == b))
        where
          at : (y : Bool) → slot_in (cond y (pruned_in oldest (body_from None)) (body_from None)) j ≡ bare
          at true = refl
          at false = refl

      go : ((body_at sh after t (block_of p) ≡ c.body t (block_of p) (body_at sh s t (block_of p))) ⊎ ((body_at sh after t (block_of p) ≡ body_from None) × (body_at sh s t (block_of p) ≡ body_from None)))
          → slot_at sh after t p ≡ slot_in (at_both t b (pruned_in oldest) t (block_of p) (body_at sh s t (block_of p))) (slot_of p)
      go (inl is) = ap (λ y. slot_in y (slot_of p)) is
      go (inr none) = ap (λ y. slot_in y (slot_of p)) none.0 ∙ sym (ap (λ y. slot_in (at_both t b (pruned_in oldest) t (block_of p) y) (slot_of p)) none.1 ∙ none_in (slot_of p))

  -- A place is kept where the pruning does not leave its slot bare.
  abbrev keep : ℕ → ℕ → Bool
  keep u place = not (is_bare (slot_in (at_both t b (pruned_in oldest) u (block_of place) (body_at sh s u (block_of place))) (slot_of place)))

  -- candidates after it: swept in the table, else as they were
  places : (u : ℕ) (key : ℤ) → (((u == t) ≡ true) × (places_at sh after u key ≡ filter (keep u) (places_at sh s u key))) ⊎ (((u == t) ≡ false) × (places_at sh after u key ≡ places_at sh s u key))
  places u key = go (u == t) refl (part_named (names sh) s (ShardOf u (shard_of key))) refl (f.kinds (ShardOf u (shard_of key)))
    where
      none_at : candidates_of (shard_from None) key ≡ []
      none_at = ap (λ o. unwrap_or o []) (finite.get-empty int_cmp key)

      at_none : part_named (names sh) s (ShardOf u (shard_of key)) ≡ None → places_at sh after u key ≡ []
      at_none is = ap (λ o. candidates_of (shard_from o) key) (named_changed c (names sh) s (ShardOf u (shard_of key)) ∙ ap (option_map (changed c (ShardOf u (shard_of key)))) is) ∙ none_at

      go : (y : Bool) → (u == t) ≡ y → (o : Option CorePart) → part_named (names sh) s (ShardOf u (shard_of key)) ≡ o → KindIf (ShardOf u (shard_of key)) o
          → (((u == t) ≡ true) × (places_at sh after u key ≡ filter (keep u) (places_at sh s u key))) ⊎ (((u == t) ≡ false) × (places_at sh after u key ≡ places_at sh s u key))
      go true y None is k = inl (y, at_none is ∙ ap (filter (keep u)) (sym none_at ∙ ap (λ o. candidates_of (shard_from o) key) (sym is)))
      go false y None is k = inr (y, at_none is ∙ sym none_at ∙ ap (λ o. candidates_of (shard_from o) key) (sym is))
      go y' y (Some (part.Head x)) is k = absurd k
      go true y (Some (part.Shard x)) is k = inl (
        y,
        ap (λ o. candidates_of (shard_from o) key) (named_changed c (names sh) s (ShardOf u (shard_of key)) ∙ ap (option_map (changed c (ShardOf u (shard_of key)))) is)
            ∙ ap (λ y. candidates_of (cond y (kept_places (keep u) x) x) key) y
            ∙ kept_is (keep u) x key ∙ ap (λ o. filter (keep u) (candidates_of (shard_from o) key)) (sym is),
      )
      go false y (Some (part.Shard x)) is k = inr (
        y,
        ap (λ o. candidates_of (shard_from o) key) (named_changed c (names sh) s (ShardOf u (shard_of key)) ∙ ap (option_map (changed c (ShardOf u (shard_of key)))) is)
            ∙ ap (λ y. candidates_of (cond y (kept_places (keep u) x) x) key) y
            ∙ ap (λ o. candidates_of (shard_from o) key) (sym is),
      )
      go y' y (Some (part.Body x)) is k = absurd k
      go y' y (Some (part.Desk x)) is k = absurd k

  -- Numbers that are tested to be equal are.
  num : (x y : ℕ) → (x == y) ≡ true → x ≡ y
  num x y e = grind (arith, nat_tests)

  -- A slot of the table is bare after the pruning where the pruned body has it bare.
  seen_swept : (u p : ℕ) → (u == t) ≡ true → is_bare (slot_at sh after u p) ≡ is_bare (slot_in (at_both t b (pruned_in oldest) u (block_of p) (body_at sh s u (block_of p))) (slot_of p))
  seen_swept u p e =
      let same : u ≡ t = num u t e in
      subst (λ u. is_bare (slot_at sh after u p) ≡ is_bare (slot_in (at_both t b (pruned_in oldest) u (block_of p) (body_at sh s u (block_of p))) (slot_of p))) (sym same) (ap is_bare (swept p))

  -- another table's slot is as it was
  other_slot : (u p : ℕ) → (u == t) ≡ false → slot_at sh after u p ≡ slot_at sh s u p
  other_slot u p e = go (body_cases sh s c u (block_of p) (f.kinds (BodyOf u (block_of p))))
    where
      go : ((body_at sh after u (block_of p) ≡ c.body u (block_of p) (body_at sh s u (block_of p))) ⊎ ((body_at sh after u (block_of p) ≡ body_from None) × (body_at sh s u (block_of p) ≡ body_from None)))
          → slot_at sh after u p ≡ slot_at sh s u p
      go (inl is) = ap (λ y. slot_in y (slot_of p)) is ∙ ap (λ y. slot_in (cond (y && (block_of p == b)) (pruned_in oldest (body_at sh s u (block_of p))) (body_at sh s u (block_of p))) (slot_of p)) e
      go (inr none) = ap (λ y. slot_in y (slot_of p)) none.0 ∙ ap (λ y. slot_in y (slot_of p)) (sym none.1)

  -- A candidate after the pruning was one before, and its slot is not bare.
  kept : (u p : ℕ) (key : ℤ) → Among p (places_at sh after u key) → Among p (places_at sh s u key) × (is_bare (slot_at sh after u p) ≡ false)
  kept u p key a = go (places u key)
    where
      go : (((u == t) ≡ true) × (places_at sh after u key ≡ filter (keep u) (places_at sh s u key))) ⊎ (((u == t) ≡ false) × (places_at sh after u key ≡ places_at sh s u key))
          → Among p (places_at sh s u key) × (is_bare (slot_at sh after u p) ≡ false)
      go (inl x) =
          let r = among_filter (keep u) p (places_at sh s u key) (subst (Among p) x.1 a) in
          (r.0, seen_swept u p x.0 ∙ not-true (is_bare (slot_in (at_both t b (pruned_in oldest) u (block_of p) (body_at sh s u (block_of p))) (slot_of p))) r.1)
      go (inr x) =
          let old = subst (Among p) x.1 a in (old, ap is_bare (other_slot u p x.0) ∙ f.follows.index.filled u p key old)

  -- A candidate whose slot is not bare after the pruning is one still.
  stays : (u p : ℕ) (key : ℤ) → Among p (places_at sh s u key) → is_bare (slot_at sh after u p) ≡ false → Among p (places_at sh after u key)
  stays u p key a is = go (places u key)
    where
      go : (((u == t) ≡ true) × (places_at sh after u key ≡ filter (keep u) (places_at sh s u key))) ⊎ (((u == t) ≡ false) × (places_at sh after u key ≡ places_at sh s u key)) → Among p (places_at sh after u key)
      go (inl x) = subst (Among p) (sym x.1) (filter_among (keep u) p (places_at sh s u key) a (ap not (sym (seen_swept u p x.0) ∙ is)))
      go (inr x) = subst (Among p) (sym x.1) a

  -- The candidates after the pruning stand as they did before it.
  order : (u a b : ℕ) (key : ℤ) → StandsBefore a b (places_at sh after u key) → StandsBefore a b (places_at sh s u key)
  order u a b key x = go (places u key)
    where
      go : (((u == t) ≡ true) × (places_at sh after u key ≡ filter (keep u) (places_at sh s u key))) ⊎ (((u == t) ≡ false) × (places_at sh after u key ≡ places_at sh s u key))
          → StandsBefore a b (places_at sh s u key)
      go (inl y) = before_filter (keep u) a b (places_at sh s u key) (subst (StandsBefore a b) y.1 x)
      go (inr y) = subst (StandsBefore a b) y.1 x

  -- After a pruning the parts still follow the machine.
  pub prune_followed : FollowsMachine sh after m
  prune_followed = record {
    kinds = kinds_after sh s c f.kinds;
    desk = (f.desk.0, desk_after sh s c f.desk.0 f.desk.1);
    shards = shards_after sh s c f.shards;
    follows = carried m (λ u p. refl) (λ u key. refl) (desk_at_after sh s c f.desk.0 f.desk.1)
        (prune_keeps (slot_at sh s) (places_at sh s) (places_at sh after) (desk_at sh s) m f.follows oldest live (slot_at sh after) each kept stays order);
  }
