-- A pruning that goes from slot to slot with entries: what it made of the shards so far, and that
-- it is the event's at the end.
use Rattle.std.proofs.Common.{◌≡◌, ◌≢◌, ◌⊎◌, ℕ, ◌+◌, ◌<◌, ◌≤◌, ◌^◌, ℤ, Bool, true, false, cond, not, ◌&&◌, ◌==◌, nat_lt, List, [], ◌∷◌, Option, None, Some, is_some, option_map, map, refl, sym, ap, ◌∙◌, subst, arith}
use mathlib.Core.Logic.{inl, inr}
use Rattle.std.specs.List.{list_all}
use Rattle.std.proofs.lemmas.Bool.Decides.{nat_tests}
use Rattle.std.proofs.lemmas.Bool.{and_from, and_right}
use Rattle.block_body.specs.Changes.{IsNextVersioned, key_left}
use Rattle.block_layout.specs.Place.{block_of, place_of, slot_of}
use Rattle.block_spec.specs.Bodies.{Body, is_empty, pruned_in, slot_in}
use Rattle.block_spec.specs.declared.change.Before.{Before}
use Rattle.block_spec.specs.Slots.{Row, Slot, has_none, is_bare, laid_back, pruned, taken_back}
use Rattle.core_sweeps.proofs.Rolling.{differs, learns, shard_owns}
use Rattle.core_sweeps.specs.SweepSteps.{dropped_at, dropped_to, keep_to, pruned_by, with_gain}
use Rattle.core_laws.proofs.Events.ByKind.{rests_at, twice_at}
use Rattle.core_laws.proofs.Events.Naming.{follows_machine}
use Rattle.core_laws.proofs.Events.Places.{same_place}
use Rattle.core_laws.proofs.Events.Slots.{num, num_refl}
use Rattle.core_laws.proofs.Events.States.{slot_map}
use Rattle.core_laws.specs.Events.Named.{FollowsMachine}
use Rattle.event_spec.specs.declared.event.Event.TheVariants as event
use Rattle.event_spec.specs.declared.part.Head.{Head}
use Rattle.event_spec.specs.declared.part.Part.TheVariants as part
use Rattle.event_spec.specs.Effects.{changes_of, kept_places, with_empty}
use Rattle.event_spec.specs.Lawful.{Among, HasBlock, HasTable}
use Rattle.event_spec.specs.Parts.{CorePart, Parts, Shape, Name, HeadOf, ShardOf, blocks_of, body_at, changed, head_at, head_from, part_at, places_at, shard_from, shard_of}
use Rattle.event_spec.specs.SlotSound.{Keyed}
use Rattle.event_spec.specs.Sound.{IsShape, Sound}
use Rattle.core_laws.proofs.Frames.Looks.{true_false}
use Rattle.core_laws.proofs.Frames.Makes.{head_is_there}
use Rattle.core_laws.specs.Frames.Shards.{ShardsHold}
use Rattle.isolation_spec.specs.Contents.{key_of}
use Rattle.key_index.specs.Candidates.{Places, candidates_of}
use Rattle.core_parts.proofs.Heads.{knowing_rests}
use Rattle.core_parts.proofs.Shards.{drops_go_on, sweep_rests, sweeps_agree}
use Rattle.core_parts.specs.Shards.{without_place}
use Rattle.core_laws.proofs.Slots.Endings.{keyed_row}
use Rattle.undo_chain.specs.declared.undo.Undo.{Undo}

-- ---- a slot that is left bare

-- a slot with a row or entry that a pruning leaves bare tells the key of its versions
pub left_key : (oldest : ℕ) (key : ℤ) (slot : Slot) → Keyed key slot.row slot.entries → is_bare slot ≡ false → is_bare (pruned oldest slot) ≡ true → key_left oldest slot ≡ Some key
left_key oldest key slot keyed filled left =
    ap (λ b. cond (not b && is_bare (pruned oldest slot)) (option_map key_of (taken_back slot).row) None) filled
    ∙ ap (λ b. cond b (option_map key_of (taken_back slot).row) None) left
    ∙ go slot.row slot.entries keyed filled left
  where
    at : (row : Option Row) (es : List (Undo Before)) → is_some row ≡ true → Keyed key row es → option_map key_of row ≡ Some key
    at None es some k = absurd (true_false (sym some))
    at (Some row) es some k = ap Some (keyed_row key (Some row) es k)

    go : (row : Option Row) (es : List (Undo Before)) → Keyed key row es → is_bare (record { row = row; entries = es }) ≡ false → is_bare (pruned oldest (record { row = row; entries = es })) ≡ true
        → option_map key_of (taken_back (record { row = row; entries = es })).row ≡ Some key
    go (Some row) es k f l = absurd (true_false (sym l))
    go None [] k f l = absurd (true_false f)
    go None (e ∷ es) k f l = at (laid_back None e.before) es k.1 k.2

-- a slot with a row stays one
row_stays : (oldest : ℕ) (slot : Slot) → has_none slot.entries ≡ true → is_bare slot ≡ false → is_bare (pruned oldest slot) ≡ false
row_stays oldest slot none filled = go slot.row slot.entries none filled
  where
    go : (row : Option Row) (es : List (Undo Before)) → has_none es ≡ true → is_bare (record { row = row; entries = es }) ≡ false → is_bare (pruned oldest (record { row = row; entries = es })) ≡ false
    go (Some row) es n f = refl
    go None [] n f = absurd (true_false f)
    go None (e ∷ es) n f = absurd (true_false (sym n))

-- an empty body stays empty
pub pruned_empty : (oldest : ℕ) (body : Body) → is_empty body ≡ true → is_empty (pruned_in oldest body) ≡ true
pruned_empty oldest body is = all body.slots is
  where
    none : (row : Option Row) (es : List (Undo Before)) → is_bare (record { row = row; entries = es }) ≡ true → is_bare (pruned oldest (record { row = row; entries = es })) ≡ true
    none (Some row) es e = absurd (true_false (sym e))
    none None [] e = refl
    none None (x ∷ es) e = absurd (true_false (sym e))

    both : (a b : Bool) → (a && b) ≡ true → (a ≡ true) × (b ≡ true)
    both true b e = (refl, e)
    both false b e = absurd (true_false (sym e))

    all : (xs : List Slot) → list_all is_bare xs ≡ true → list_all is_bare (map (pruned oldest) xs) ≡ true
    all [] e = refl
    all (x ∷ xs) e =
        let two = both (is_bare x) (list_all is_bare xs) e in
        and_from (is_bare (pruned oldest x)) (list_all is_bare (map (pruned oldest) xs)) (none x.row x.entries two.0) (all xs two.1)

module _ (sh : Shape) (s : Parts) (shape : IsShape sh) (ok : Sound sh s) (shards : ShardsHold sh s) (t b oldest : ℕ) (has : HasBlock sh t b) where
  -- How the core before the pruning follows a machine.
  abbrev f : FollowsMachine sh s ok.follows.0
  f = follows_machine sh s ok

  -- A candidate of a key in a shard is one of the key in the core.
  among : (u i : ℕ) (x : Places) → part_at sh s (ShardOf u i) ≡ Some (part.Shard x) → (k : ℤ) (r : ℕ) → Among r (candidates_of x k) → Among r (places_at sh s u k)
  among u i x is k r a =
      subst (Among r) (ap (λ o. candidates_of (shard_from o) k) (sym is) ∙ ap (λ i. candidates_of (shard_from (part_at sh s (ShardOf u i))) k) (sym (shard_owns i x k r (shards u i x is) a))) a

  -- a candidate's slot, where it lies in the block
  filled : (k : ℤ) (r : ℕ) → Among r (places_at sh s t k) → block_of r ≡ b → is_bare (slot_in (body_at sh s t b) (slot_of r)) ≡ false
  filled k r a here = sym (ap (λ b. is_bare (slot_in (body_at sh s t b) (slot_of r))) here) ∙ f.follows.index.filled t r k a

  -- A slot of the pruned body is the slot after its pruning.
  pruned_at : (j : ℕ) → slot_in (pruned_in oldest (body_at sh s t b)) j ≡ pruned oldest (slot_in (body_at sh s t b) j)
  pruned_at j = slot_map (pruned oldest) refl (body_at sh s t b).slots j

  -- a candidate in a slot without entries is kept
  stays : (k : ℤ) (r : ℕ) → Among r (places_at sh s t k) → block_of r ≡ b → has_none (slot_in (body_at sh s t b) (slot_of r)).entries ≡ true
      → is_bare (slot_in (pruned_in oldest (body_at sh s t b)) (slot_of r)) ≡ false
  stays k r a here none = ap is_bare (pruned_at (slot_of r)) ∙ row_stays oldest (slot_in (body_at sh s t b) (slot_of r)) none (filled k r a here)

  -- A number below another is tested to be.
  lt_true : (x y : ℕ) → x < y → nat_lt x y ≡ true
  lt_true x y less = grind (arith, nat_tests)

  -- A number not below another is tested not to be.
  lt_false : (x y : ℕ) → y ≤ x → nat_lt x y ≡ false
  lt_false x y le = grind (arith, nat_tests)

  -- One number is below another, or not below it.
  order : (x y : ℕ) → (x < y) ⊎ (y ≤ x)
  order x y = go (nat_lt x y) refl
    where
      go : (c : Bool) → nat_lt x y ≡ c → (x < y) ⊎ (y ≤ x)
      go true e = inl (grind (arith, nat_tests))
      go false e = inr (grind (arith, nat_tests))

  -- what is asked of a place in the block
  here_is : (from p : ℕ) → block_of p ≡ b → keep_to b oldest (body_at sh s t b) from p ≡ not (nat_lt (slot_of p) from && is_bare (slot_in (pruned_in oldest (body_at sh s t b)) (slot_of p)))
  here_is from p here = ap (λ c. not (c && nat_lt (slot_of p) from && is_bare (slot_in (pruned_in oldest (body_at sh s t b)) (slot_of p)))) (ap (λ x. x == b) here ∙ num_refl b)

  -- A place of the block below the slot is kept unless the pruning leaves it bare.
  below_is : (from p : ℕ) → block_of p ≡ b → slot_of p < from → keep_to b oldest (body_at sh s t b) from p ≡ not (is_bare (slot_in (pruned_in oldest (body_at sh s t b)) (slot_of p)))
  below_is from p here less = here_is from p here ∙ ap (λ c. not (c && is_bare (slot_in (pruned_in oldest (body_at sh s t b)) (slot_of p)))) (lt_true (slot_of p) from less)

  -- A place at the slot or above it is kept.
  above_is : (from p : ℕ) → from ≤ slot_of p → keep_to b oldest (body_at sh s t b) from p ≡ true
  above_is from p le =
      ap (λ c. not ((block_of p == b) && c && is_bare (slot_in (pruned_in oldest (body_at sh s t b)) (slot_of p)))) (lt_false (slot_of p) from le)
      ∙ go (block_of p == b)
    where
      go : (c : Bool) → not ((c && false) && is_bare (slot_in (pruned_in oldest (body_at sh s t b)) (slot_of p))) ≡ true
      go true = refl
      go false = refl

  -- A place of another block is kept.
  else_is : (from p : ℕ) → block_of p ≢ b → keep_to b oldest (body_at sh s t b) from p ≡ true
  else_is from p ne = ap (λ c. not (c && nat_lt (slot_of p) from && is_bare (slot_in (pruned_in oldest (body_at sh s t b)) (slot_of p)))) (differs (block_of p) b ne)

  -- A place is of the block, or of another.
  block_cases : (p : ℕ) → (block_of p ≡ b) ⊎ (block_of p ≢ b)
  block_cases p = go (block_of p == b) refl
    where
      go : (c : Bool) → (block_of p == b) ≡ c → (block_of p ≡ b) ⊎ (block_of p ≢ b)
      go true e = inl (num (block_of p) b e)
      go false e = inr (λ same. true_false (sym (ap (λ y. y == b) same ∙ num_refl b) ∙ e))

  -- ---- at first

  -- before the first slot nothing is dropped
  pub first_dropped : (n : Name) (x : CorePart) → part_at sh s n ≡ Some x → changed (dropped_to sh s t b oldest 0) n x ≡ x
  first_dropped = rests_at (λ n x. part_at sh s n ≡ Some x) (dropped_to sh s t b oldest 0) (record {
    head = λ u x is. refl;
    shard = λ u i x is. go (u == t) x (sweep_rests i x (keep_to b oldest (body_at sh s t b) 0) (shards u i x is) (λ k p a. above_is 0 p (omega arith)));
    body = λ u d x is. refl;
    desk = λ x is. refl;
  })
    where
      go : (c : Bool) (x : Places) → kept_places (keep_to b oldest (body_at sh s t b) 0) x ≡ x → cond c (kept_places (keep_to b oldest (body_at sh s t b) 0) x) x ≡ x
      go true x e = e
      go false x e = refl

  -- ---- one slot more

  module _ (from j : ℕ) (next : IsNextVersioned (body_at sh s t b) from (Some j)) where
    -- a candidate elsewhere is kept as it was
    same_test : (k : ℤ) (r : ℕ) → Among r (places_at sh s t k) → ((block_of r ≡ b) → (slot_of r ≡ j) → ⊥) → keep_to b oldest (body_at sh s t b) (j + 1) r ≡ keep_to b oldest (body_at sh s t b) from r
    same_test k r a ne = go (block_cases r)
      where
        go : (block_of r ≡ b) ⊎ (block_of r ≢ b) → keep_to b oldest (body_at sh s t b) (j + 1) r ≡ keep_to b oldest (body_at sh s t b) from r
        go (inr other) = else_is (j + 1) r other ∙ sym (else_is from r other)
        go (inl here) = by (order (slot_of r) from) (order (slot_of r) (j + 1))
          where
            by : ((slot_of r < from) ⊎ (from ≤ slot_of r)) → ((slot_of r < j + 1) ⊎ (j + 1 ≤ slot_of r)) → keep_to b oldest (body_at sh s t b) (j + 1) r ≡ keep_to b oldest (body_at sh s t b) from r
            by (inl less) (inl more) = below_is (j + 1) r here more ∙ sym (below_is from r here less)
            by (inl less) (inr more) = let le = next.0 in absurd (omega (arith, less, more, le))
            by (inr le) (inr more) = above_is (j + 1) r more ∙ sym (above_is from r le)
            by (inr le) (inl more) =
                let apart : slot_of r ≢ j = ne here in
                below_is (j + 1) r here more
                ∙ ap not (stays k r a here (next.3 (slot_of r) le (omega (arith, more, apart))))
                ∙ sym (above_is from r le)

    inside : j < 2 ^ 20
    inside = let w = (shape.slots t has.0).1 in let size = (ok.bodies t b has).slots in let less = next.1 in omega (arith, w, size, less)

    block_here : block_of (place_of b j) ≡ b
    block_here = let small = inside in omega (arith, small)

    slot_here : slot_of (place_of b j) ≡ j
    slot_here = let small = inside in omega (arith, small)

    not_there : (r : ℕ) → r ≢ place_of b j → (block_of r ≡ b) → (slot_of r ≡ j) → ⊥
    not_there r ne e e' = ne (same_place r (place_of b j) (e ∙ sym block_here) (e' ∙ sym slot_here))

    keyed_here : (k : ℤ) → Among (place_of b j) (places_at sh s t k) → Keyed k (slot_in (body_at sh s t b) j).row (slot_in (body_at sh s t b) j).entries
    keyed_here k a = subst (λ (x : Slot). Keyed k x.row x.entries)
        (ap (λ d. slot_in (body_at sh s t d) (slot_of (place_of b j))) block_here ∙ ap (slot_in (body_at sh s t b)) slot_here)
        (f.follows.index.keyed t (place_of b j) k a)

    filled_here : (k : ℤ) → Among (place_of b j) (places_at sh s t k) → is_bare (slot_in (body_at sh s t b) j) ≡ false
    filled_here k a = sym (ap (λ j. is_bare (slot_in (body_at sh s t b) j)) slot_here) ∙ filled k (place_of b j) a block_here

    below_here : keep_to b oldest (body_at sh s t b) (j + 1) (place_of b j) ≡ not (is_bare (slot_in (pruned_in oldest (body_at sh s t b)) j))
    below_here =
        let here = slot_here in
        below_is (j + 1) (place_of b j) block_here (omega (arith, here)) ∙ ap (λ j. not (is_bare (slot_in (pruned_in oldest (body_at sh s t b)) j))) slot_here

    above_here : keep_to b oldest (body_at sh s t b) from (place_of b j) ≡ true
    above_here = let here = slot_here in let le = next.0 in above_is from (place_of b j) (omega (arith, here, le))

    place_cases : (r : ℕ) → (r ≡ place_of b j) ⊎ (r ≢ place_of b j)
    place_cases r = go (r == place_of b j) refl
      where
        go : (c : Bool) → (r == place_of b j) ≡ c → (r ≡ place_of b j) ⊎ (r ≢ place_of b j)
        go true e = inl (num r (place_of b j) e)
        go false e = inr (λ same. true_false (sym (ap (λ y. y == place_of b j) same ∙ num_refl (place_of b j)) ∙ e))

    -- the slot is not left bare, or its key is told
    kept_here : key_left oldest (slot_in (body_at sh s t b) j) ≡ None → (k : ℤ) → Among (place_of b j) (places_at sh s t k) → keep_to b oldest (body_at sh s t b) (j + 1) (place_of b j) ≡ keep_to b oldest (body_at sh s t b) from (place_of b j)
    kept_here none k a = below_here ∙ go (is_bare (slot_in (pruned_in oldest (body_at sh s t b)) j)) refl ∙ sym above_here
      where
        no_key : None ≡ Some k → ⊥
        no_key e = cc

        go : (c : Bool) → is_bare (slot_in (pruned_in oldest (body_at sh s t b)) j) ≡ c → not (is_bare (slot_in (pruned_in oldest (body_at sh s t b)) j)) ≡ true
        go true e = absurd (no_key (sym none ∙ left_key oldest k (slot_in (body_at sh s t b) j) (keyed_here k a) (filled_here k a) (sym (ap is_bare (pruned_at j)) ∙ e)))
        go false e = ap not e

    key_here : (key : ℤ) → key_left oldest (slot_in (body_at sh s t b) j) ≡ Some key → (k : ℤ) → Among (place_of b j) (places_at sh s t k) → (k ≡ key) × (is_bare (slot_in (pruned_in oldest (body_at sh s t b)) j) ≡ true)
    key_here key some k a = go (is_bare (slot_in (pruned_in oldest (body_at sh s t b)) j)) refl
      where
        one : Some k ≡ Some key → k ≡ key
        one e = cc

        no_key : None ≡ Some key → ⊥
        no_key e = cc

        skip : (c d : Bool) (o : Option ℤ) → d ≡ false → cond (c && d) o None ≡ None
        skip true d o e = ap (λ d. cond d o None) e
        skip false d o e = refl

        go : (c : Bool) → is_bare (slot_in (pruned_in oldest (body_at sh s t b)) j) ≡ c → (k ≡ key) × (is_bare (slot_in (pruned_in oldest (body_at sh s t b)) j) ≡ true)
        go true e = (one (sym (left_key oldest k (slot_in (body_at sh s t b) j) (keyed_here k a) (filled_here k a) (sym (ap is_bare (pruned_at j)) ∙ e)) ∙ some), e)
        go false e = absurd (no_key (sym (skip (not (is_bare (slot_in (body_at sh s t b) j))) (is_bare (pruned oldest (slot_in (body_at sh s t b) j))) (option_map key_of (taken_back (slot_in (body_at sh s t b) j)).row) (sym (ap is_bare (pruned_at j)) ∙ e)) ∙ some))

    shard_more : (o : Option ℤ) → key_left oldest (slot_in (body_at sh s t b) j) ≡ o → (u i : ℕ) (x : Places) → part_at sh s (ShardOf u i) ≡ Some (part.Shard x)
        → (dropped_at t b j o).shard u i ((dropped_to sh s t b oldest from).shard u i x) ≡ (dropped_to sh s t b oldest (j + 1)).shard u i x
    shard_more None is u i x at = go (u == t) refl
      where
        test : u ≡ t → (k : ℤ) (r : ℕ) → Among r (candidates_of x k) → keep_to b oldest (body_at sh s t b) (j + 1) r ≡ keep_to b oldest (body_at sh s t b) from r
        test same k r a = by (place_cases r)
          where
            mine : Among r (places_at sh s t k)
            mine = subst (λ u. Among r (places_at sh s u k)) same (among u i x at k r a)

            by : (r ≡ place_of b j) ⊎ (r ≢ place_of b j) → keep_to b oldest (body_at sh s t b) (j + 1) r ≡ keep_to b oldest (body_at sh s t b) from r
            by (inl e) = subst (λ r. keep_to b oldest (body_at sh s t b) (j + 1) r ≡ keep_to b oldest (body_at sh s t b) from r) (sym e) (kept_here is k (subst (λ r. Among r (places_at sh s t k)) e mine))
            by (inr ne) = same_test k r mine (not_there r ne)

        go : (c : Bool) → (u == t) ≡ c → cond (u == t) (kept_places (keep_to b oldest (body_at sh s t b) from) x) x ≡ cond (u == t) (kept_places (keep_to b oldest (body_at sh s t b) (j + 1)) x) x
        go true e = ap (λ y. cond (u == t) y x) (sym (sweeps_agree i x (keep_to b oldest (body_at sh s t b) from) (keep_to b oldest (body_at sh s t b) (j + 1)) (shards u i x at) (test (num u t e))))
        go false e = ap (λ c. cond c (kept_places (keep_to b oldest (body_at sh s t b) from) x) x) e ∙ sym (ap (λ c. cond c (kept_places (keep_to b oldest (body_at sh s t b) (j + 1)) x) x) e)
    shard_more (Some key) is u i x at = go (u == t) (i == shard_of key) refl refl
      where
        mine : u ≡ t → (k : ℤ) (r : ℕ) → Among r (candidates_of x k) → Among r (places_at sh s t k)
        mine same k r a = subst (λ u. Among r (places_at sh s u k)) same (among u i x at k r a)

        and_all : (b : Bool) → (b && true) ≡ b
        and_all true = refl
        and_all false = refl

        no_more : (b : Bool) → (b && false) ≡ false
        no_more true = refl
        no_more false = refl

        here : u ≡ t → (r : ℕ) → Among r (candidates_of x key) → keep_to b oldest (body_at sh s t b) (j + 1) r ≡ (keep_to b oldest (body_at sh s t b) from r && not (r == place_of b j))
        here same r a = by (place_cases r)
          where
            by : (r ≡ place_of b j) ⊎ (r ≢ place_of b j) → keep_to b oldest (body_at sh s t b) (j + 1) r ≡ (keep_to b oldest (body_at sh s t b) from r && not (r == place_of b j))
            by (inl e) =
                ap (keep_to b oldest (body_at sh s t b) (j + 1)) e ∙ below_here
                ∙ ap not (key_here key is key (subst (λ r. Among r (places_at sh s t key)) e (mine same key r a))).1
                ∙ sym (ap (λ c. keep_to b oldest (body_at sh s t b) from r && not c) (ap (λ y. y == place_of b j) e ∙ num_refl (place_of b j)) ∙ no_more (keep_to b oldest (body_at sh s t b) from r))
            by (inr ne) =
                same_test key r (mine same key r a) (not_there r ne)
                ∙ sym (ap (λ c. keep_to b oldest (body_at sh s t b) from r && not c) (differs r (place_of b j) ne) ∙ and_all (keep_to b oldest (body_at sh s t b) from r))

        others : u ≡ t → (k : ℤ) (r : ℕ) → k ≢ key → Among r (candidates_of x k) → keep_to b oldest (body_at sh s t b) (j + 1) r ≡ keep_to b oldest (body_at sh s t b) from r
        others same k r ne a = same_test k r (mine same k r a) (not_there r (λ e. ne (key_here key is k (subst (λ r. Among r (places_at sh s t k)) e (mine same k r a))).0))

        both : (c d : Bool) → c ≡ true → d ≡ false → (c && d) ≡ false
        both true d e e' = e'
        both false d e e' = refl

        go : (c d : Bool) → (u == t) ≡ c → (i == shard_of key) ≡ d
            → cond ((u == t) && (i == shard_of key)) (without_place key (place_of b j) (cond (u == t) (kept_places (keep_to b oldest (body_at sh s t b) from) x) x)) (cond (u == t) (kept_places (keep_to b oldest (body_at sh s t b) from) x) x)
            ≡ cond (u == t) (kept_places (keep_to b oldest (body_at sh s t b) (j + 1)) x) x
        go true true e e' =
            let same = num u t e in
            ap (λ c. cond c (without_place key (place_of b j) (cond (u == t) (kept_places (keep_to b oldest (body_at sh s t b) from) x) x)) (cond (u == t) (kept_places (keep_to b oldest (body_at sh s t b) from) x) x)) (and_from (u == t) (i == shard_of key) e e')
            ∙ ap (λ c. without_place key (place_of b j) (cond c (kept_places (keep_to b oldest (body_at sh s t b) from) x) x)) e
            ∙ drops_go_on i x (keep_to b oldest (body_at sh s t b) from) (keep_to b oldest (body_at sh s t b) (j + 1)) key (place_of b j) (shards u i x at) (sym (num i (shard_of key) e')) (here same) (others same)
            ∙ sym (ap (λ c. cond c (kept_places (keep_to b oldest (body_at sh s t b) (j + 1)) x) x) e)
        go true false e e' =
            let same = num u t e in
            ap (λ c. cond c (without_place key (place_of b j) (cond (u == t) (kept_places (keep_to b oldest (body_at sh s t b) from) x) x)) (cond (u == t) (kept_places (keep_to b oldest (body_at sh s t b) from) x) x)) (both (u == t) (i == shard_of key) e e')
            ∙ ap (λ c. cond c (kept_places (keep_to b oldest (body_at sh s t b) from) x) x) e
            ∙ sym (sweeps_agree i x (keep_to b oldest (body_at sh s t b) from) (keep_to b oldest (body_at sh s t b) (j + 1)) (shards u i x at)
            (λ k r a. others same k r (λ same_key. true_false (sym (ap (λ y. i == y) (sym (ap shard_of same_key) ∙ shard_owns i x k r (shards u i x at) a) ∙ num_refl i) ∙ e')) a))
            ∙ sym (ap (λ c. cond c (kept_places (keep_to b oldest (body_at sh s t b) (j + 1)) x) x) e)
        go false d e e' =
            ap (λ c. cond (c && (i == shard_of key)) (without_place key (place_of b j) (cond (u == t) (kept_places (keep_to b oldest (body_at sh s t b) from) x) x)) (cond (u == t) (kept_places (keep_to b oldest (body_at sh s t b) from) x) x)) e
            ∙ ap (λ c. cond c (kept_places (keep_to b oldest (body_at sh s t b) from) x) x) e
            ∙ sym (ap (λ c. cond c (kept_places (keep_to b oldest (body_at sh s t b) (j + 1)) x) x) e)

    -- with the next slot with entries, its candidate is dropped where it will be bare
    pub one_slot_more : (o : Option ℤ) → key_left oldest (slot_in (body_at sh s t b) j) ≡ o → (n : Name) (x : CorePart) → part_at sh s n ≡ Some x
        → changed (dropped_at t b j o) n (changed (dropped_to sh s t b oldest from) n x) ≡ changed (dropped_to sh s t b oldest (j + 1)) n x
    one_slot_more None is = twice_at (λ n x. part_at sh s n ≡ Some x) (dropped_to sh s t b oldest from) (dropped_at t b j None) (dropped_to sh s t b oldest (j + 1))
        (record { head = λ u x at. refl; shard = shard_more None is; body = λ u d x at. refl; desk = λ x at. refl })
    one_slot_more (Some key) is = twice_at (λ n x. part_at sh s n ≡ Some x) (dropped_to sh s t b oldest from) (dropped_at t b j (Some key)) (dropped_to sh s t b oldest (j + 1))
        (record { head = λ u x at. refl; shard = shard_more (Some key) is; body = λ u d x at. refl; desk = λ x at. refl })

  -- ---- at the end

  -- The head that is told what the pruning leaves is the event's.
  last_head : (u : ℕ) (x : Head) → part_at sh s (HeadOf u) ≡ Some (part.Head x)
      → cond (u == t) (with_gain (is_empty (pruned_in oldest (body_at sh s t b))) b x) x ≡ (changes_of sh s (event.Prune t b oldest)).head u x
  last_head u x is = go (u == t) refl
    where
      own : HasTable sh u
      own = head_is_there sh s u (part.Head x) is

      inside : x.block < blocks_of sh u
      inside = subst (λ (x : Head). x.block < blocks_of sh u) (ap head_from is) (ok.heads u own).block.1

      before : with_empty (blocks_of sh u) (λ d. is_empty (body_at sh s u d)) x ≡ x
      before = subst (λ (x : Head). with_empty (blocks_of sh u) (λ d. is_empty (body_at sh s u d)) x ≡ x) (ap head_from is)
          (knowing_rests (blocks_of sh u) (λ d. is_empty (body_at sh s u d)) (λ d. is_empty (body_at sh s u d)) (head_at sh s u)
          (record { others = (ok.heads u own).empty; own = (ok.heads u own).anew }) (ok.heads u own).block.1 (λ other less. refl))

      go : (c : Bool) → (u == t) ≡ c
          → cond (u == t) (with_gain (is_empty (pruned_in oldest (body_at sh s t b))) b x) x
          ≡ cond (u == t) (with_empty (blocks_of sh u) (λ d. is_empty (cond ((u == t) && (d == b)) (pruned_in oldest (body_at sh s u d)) (body_at sh s u d))) x) x
      go true e =
          let same = num u t e in
          ap (λ y. cond (u == t) y x)
          (ap (λ y. with_gain (is_empty (pruned_in oldest (body_at sh s t b))) b y) (sym before)
          ∙ learns (blocks_of sh u) b (λ d. is_empty (body_at sh s u d)) (λ d. is_empty (cond ((u == t) && (d == b)) (pruned_in oldest (body_at sh s u d)) (body_at sh s u d))) x
          (is_empty (pruned_in oldest (body_at sh s t b))) inside (subst (λ u. b < blocks_of sh u) (sym same) has.1)
          (λ d ne. ap (λ c. is_empty (cond c (pruned_in oldest (body_at sh s u d)) (body_at sh s u d))) (and_right (u == t) (d == b) (differs d b ne)))
          (ap (λ c. is_empty (cond c (pruned_in oldest (body_at sh s u b)) (body_at sh s u b))) (and_from (u == t) (b == b) e (num_refl b)) ∙ ap (λ u. is_empty (pruned_in oldest (body_at sh s u b))) same)
          (λ em. subst (λ u. is_empty (pruned_in oldest (body_at sh s u b)) ≡ true) same (pruned_empty oldest (body_at sh s u b) em)))
      go false e =
          ap (λ c. cond c (with_gain (is_empty (pruned_in oldest (body_at sh s t b))) b x) x) e
          ∙ sym (ap (λ c. cond c (with_empty (blocks_of sh u) (λ d. is_empty (cond ((u == t) && (d == b)) (pruned_in oldest (body_at sh s u d)) (body_at sh s u d))) x) x) e)

  -- With no slot with entries left, each shard is the event's.
  last_shard : (from : ℕ) → IsNextVersioned (body_at sh s t b) from None → (u i : ℕ) (x : Places) → part_at sh s (ShardOf u i) ≡ Some (part.Shard x)
      → (dropped_to sh s t b oldest from).shard u i x ≡ (changes_of sh s (event.Prune t b oldest)).shard u i x
  last_shard from none u i x is = go (u == t) refl
    where
      at : u ≡ t → (u == t) ≡ true → (k : ℤ) (r : ℕ) → Among r (candidates_of x k)
          → not (is_bare (slot_in (cond ((u == t) && (block_of r == b)) (pruned_in oldest (body_at sh s u (block_of r))) (body_at sh s u (block_of r))) (slot_of r))) ≡ keep_to b oldest (body_at sh s t b) from r
      at same e k r a = by (block_cases r)
        where
          mine : Among r (places_at sh s u k)
          mine = among u i x is k r a

          there : Among r (places_at sh s t k)
          there = subst (λ u. Among r (places_at sh s u k)) same mine

          by : (block_of r ≡ b) ⊎ (block_of r ≢ b)
              → not (is_bare (slot_in (cond ((u == t) && (block_of r == b)) (pruned_in oldest (body_at sh s u (block_of r))) (body_at sh s u (block_of r))) (slot_of r))) ≡ keep_to b oldest (body_at sh s t b) from r
          by (inl here) =
              ap (λ c. not (is_bare (slot_in (cond c (pruned_in oldest (body_at sh s u (block_of r))) (body_at sh s u (block_of r))) (slot_of r)))) (and_from (u == t) (block_of r == b) e (ap (λ y. y == b) here ∙ num_refl b))
              ∙ ap (λ u. not (is_bare (slot_in (pruned_in oldest (body_at sh s u (block_of r))) (slot_of r)))) same
              ∙ ap (λ d. not (is_bare (slot_in (pruned_in oldest (body_at sh s t d)) (slot_of r)))) here
              ∙ part_of (order (slot_of r) from)
            where
              part_of : (slot_of r < from) ⊎ (from ≤ slot_of r) → not (is_bare (slot_in (pruned_in oldest (body_at sh s t b)) (slot_of r))) ≡ keep_to b oldest (body_at sh s t b) from r
              part_of (inl less) = sym (below_is from r here less)
              part_of (inr le) = ap not (stays k r there here (none (slot_of r) le)) ∙ sym (above_is from r le)
          by (inr ne) =
              ap (λ c. not (is_bare (slot_in (cond c (pruned_in oldest (body_at sh s u (block_of r))) (body_at sh s u (block_of r))) (slot_of r)))) (and_right (u == t) (block_of r == b) (differs (block_of r) b ne))
              ∙ ap not (f.follows.index.filled u r k mine)
              ∙ sym (else_is from r ne)

      go : (c : Bool) → (u == t) ≡ c
          → cond (u == t) (kept_places (keep_to b oldest (body_at sh s t b) from) x) x
          ≡ cond (u == t) (kept_places (λ p. not (is_bare (slot_in (cond ((u == t) && (block_of p == b)) (pruned_in oldest (body_at sh s u (block_of p))) (body_at sh s u (block_of p))) (slot_of p)))) x) x
      go true e = ap (λ y. cond (u == t) y x)
          (sym (sweeps_agree i x (keep_to b oldest (body_at sh s t b) from)
          (λ p. not (is_bare (slot_in (cond ((u == t) && (block_of p == b)) (pruned_in oldest (body_at sh s u (block_of p))) (body_at sh s u (block_of p))) (slot_of p)))) (shards u i x is) (at (num u t e) e)))
      go false e =
          ap (λ c. cond c (kept_places (keep_to b oldest (body_at sh s t b) from) x) x) e
          ∙ sym (ap (λ c. cond c (kept_places (λ p. not (is_bare (slot_in (cond ((u == t) && (block_of p == b)) (pruned_in oldest (body_at sh s u (block_of p))) (body_at sh s u (block_of p))) (slot_of p)))) x) x) e)

  -- behind all slots the body is pruned and the head told, and that is the event's change
  pub last_pruned : (from : ℕ) → IsNextVersioned (body_at sh s t b) from None → (n : Name) (x : CorePart) → part_at sh s n ≡ Some x
      → changed (pruned_by t b oldest (pruned_in oldest (body_at sh s t b))) n (changed (dropped_to sh s t b oldest from) n x) ≡ changed (changes_of sh s (event.Prune t b oldest)) n x
  last_pruned from none = twice_at (λ n x. part_at sh s n ≡ Some x) (dropped_to sh s t b oldest from) (pruned_by t b oldest (pruned_in oldest (body_at sh s t b))) (changes_of sh s (event.Prune t b oldest))
      (record { head = last_head; shard = last_shard from none; body = λ u d x is. refl; desk = λ x is. refl })
