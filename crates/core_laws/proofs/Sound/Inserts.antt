-- An insert at the head's next slot, which may make the least empty block the head.
use Rattle.std.proofs.Common.{◌≡◌, ◌≢◌, ◌⊎◌, ℕ, zero, suc, ◌+◌, ◌<◌, ◌≤◌, ◌^◌, Bool, true, false, cond, not, ◌&&◌, ◌==◌, nat_lt, List, [], ◌∷◌, Some, length, refl, sym, ap, ◌∙◌, subst, arith, get_or-set_other}
use mathlib.Core.Logic.{inl, inr}
use Rattle.std.specs.Prelude.{filter}
use Rattle.std.specs.List.{range_with_len}
use Rattle.std.proofs.lemmas.Bool.Decides.{nat_tests}
use Rattle.std.proofs.lemmas.Bool.{cases_Bool, and_parts}
use Rattle.std.proofs.lemmas.Option.{same_Some}
use Rattle.block_layout.specs.Place.{place_of, block_of, slot_of}
use Rattle.block_spec.specs.Bodies.{Body, is_empty, is_loose, slot_in, with_slot}
use Rattle.block_spec.specs.Slots.{Slot, bare, is_bare}
use Rattle.core_laws.proofs.Events.Heads.{all_bare, block_is, filter_first, slot_is}
use Rattle.core_laws.proofs.Events.Lists.{member_below}
use Rattle.event_spec.specs.declared.part.Head.{Head}
use Rattle.event_spec.specs.Effects.{at_both, moved_on, taken_by}
use Rattle.event_spec.specs.Judged.{first_of_blocks, next_place}
use Rattle.event_spec.specs.Lawful.{Among, HasTable, HasBlock}
use Rattle.event_spec.specs.Parts.{Parts, Shape, Changes, below, blocks_of, slots_of, body_at, head_at, slot_at}
use Rattle.event_spec.specs.Sound.{BodyHolds, IsShape}
use Rattle.core_laws.proofs.Following.Desks.{same_number}
use Rattle.core_laws.proofs.Sound.Bodies.{true_false, dense_fills, slot_filled}
use Rattle.core_laws.proofs.Sound.Held.{SlotFits, slot_holds}
use Rattle.core_laws.proofs.Sound.Kept.{HeadAfter, NoHeadAfter, calm_head, calm_same, filter_same, IsCalm}
use Rattle.core_laws.specs.Sound.Shaped.{Shaped}

-- Numbers that are tested as the same are the same.
num : (a b : ℕ) → (a == b) ≡ true → a ≡ b
num a b e = grind (arith, nat_tests)

-- A number is tested as the same as itself.
num_refl : (a : ℕ) → (a == a) ≡ true
num_refl a = grind (arith, nat_tests)

-- Numbers that differ are not tested as the same.
num_ne : (a b : ℕ) → a ≢ b → (a == b) ≡ false
num_ne a b ne = grind (arith, nat_tests)

-- the first that passes is left out, among numbers that rise
filter_rest : (p : ℕ → Bool) (a n b : ℕ) (rest : List ℕ) → filter p (range_with_len a n) ≡ b ∷ rest → filter (λ x. p x && not (x == b)) (range_with_len a n) ≡ rest
filter_rest p a zero b rest is = cc
filter_rest p a (suc n) b rest is = go (p a) refl is (filter_rest p (a + 1) n b rest)
  where
    later : (n c : ℕ) → a < c → filter (λ x. p x && not (x == a)) (range_with_len c n) ≡ filter p (range_with_len c n)
    later n c lt = filter_same (λ x. p x && not (x == a)) p (range_with_len c n) (λ x in'. at x (from_range c n x in'))
      where
        from_range : (c n x : ℕ) → Among x (range_with_len c n) → c ≤ x
        from_range c zero x y = absurd y
        from_range c (suc n) x (inl e) = omega (arith, e)
        from_range c (suc n) x (inr y) = let r = from_range (c + 1) n x y in omega (arith, r)

        and_true : (q : Bool) → (q && true) ≡ q
        and_true true = refl
        and_true false = refl

        at : (x : ℕ) → c ≤ x → (p x && not (x == a)) ≡ p x
        at x le = ap (λ e. p x && not e) (num_ne x a (λ e. absurd (omega (arith, e, le, lt)))) ∙ and_true (p x)

    go : (c : Bool) → p a ≡ c → cond c (a ∷ filter p (range_with_len (a + 1) n)) (filter p (range_with_len (a + 1) n)) ≡ b ∷ rest
        → (filter p (range_with_len (a + 1) n) ≡ b ∷ rest → filter (λ x. p x && not (x == b)) (range_with_len (a + 1) n) ≡ rest)
        → filter (λ x. p x && not (x == b)) (range_with_len a (suc n)) ≡ rest
    go true pa is rest' =
        let first : a ≡ b = cc in
        let others : filter p (range_with_len (a + 1) n) ≡ rest = cc in
        ap (λ b. filter (λ x. p x && not (x == b)) (range_with_len a (suc n))) (sym first)
        ∙ ap (λ c. cond c (a ∷ filter (λ x. p x && not (x == a)) (range_with_len (a + 1) n)) (filter (λ x. p x && not (x == a)) (range_with_len (a + 1) n)))
        (ap (λ e. p a && not e) (num_refl a) ∙ and_false (p a))
        ∙ later n (a + 1) (omega arith) ∙ others
      where
        and_false : (q : Bool) → (q && false) ≡ false
        and_false true = refl
        and_false false = refl
    go false pa is rest' =
        ap (λ c. cond (c && not (a == b)) (a ∷ filter (λ x. p x && not (x == b)) (range_with_len (a + 1) n)) (filter (λ x. p x && not (x == b)) (range_with_len (a + 1) n))) pa
        ∙ rest' is

-- ---- a slot is taken and written

module _ (sh : Shape) (s : Parts) (ok : Shaped sh s) (shape : IsShape sh) (t : ℕ) (has : HasTable sh t) (p : ℕ)
    (c : Changes) (g : Slot → Slot)
    (goes : next_place (head_at sh s t) (slots_of sh t) ≡ Some p)
    (heads : (u : ℕ) (h : Head) → c.head u h ≡ cond (u == t) (taken_by (slots_of sh t) h) h)
    (bodies : (u b : ℕ) (x : Body) → c.body u b x ≡ at_both t (block_of p) (with_slot (slot_of p) g) u b x)
    (fills : is_bare (g (slot_at sh s t p)) ≡ false)
    (fit : SlotFits sh t (g (slot_at sh s t p))) where
  -- The head of the table in front of the insert.
  abbrev old : Head
  old = head_at sh s t

  -- How many slots a block of the table has.
  abbrev S : ℕ
  S = slots_of sh t

  -- The body of the block to which the insert goes.
  abbrev this : Body
  this = body_at sh s t (block_of p)

  -- That body with the slot written.
  abbrev new : Body
  new = with_slot (slot_of p) g this

  -- the block's number and the slot's
  pub record At (b j : ℕ) : Type 0 where
    pub block : block_of p ≡ b
    pub slot : slot_of p ≡ j

  -- The place of a block and one of its slots has these as its block and slot.
  at : (b j : ℕ) → j < S → place_of b j ≡ p → At b j
  at b j less is =
      let w = (shape.slots t has).1 in
      let small : j < 2 ^ 20 = omega (arith, w, less) in
      record { block = ap block_of (sym is) ∙ block_is b j small; slot = ap slot_of (sym is) ∙ slot_is b j small }

  -- The body of the written block is what the write makes of it.
  body_here : (b : ℕ) → block_of p ≡ b → c.body t b (body_at sh s t b) ≡ with_slot (slot_of p) g (body_at sh s t b)
  body_here b is =
      bodies t b (body_at sh s t b)
      ∙ ap (λ y. cond (y && (b == block_of p)) (with_slot (slot_of p) g (body_at sh s t b)) (body_at sh s t b)) (num_refl t)
      ∙ ap (λ y. cond y (with_slot (slot_of p) g (body_at sh s t b)) (body_at sh s t b)) (ap (λ x. b == x) is ∙ num_refl b)

  -- Every other body is left as it is.
  body_else : (u b : ℕ) → ((u ≡ t) → (b ≡ block_of p) → ⊥) → c.body u b (body_at sh s u b) ≡ body_at sh s u b
  body_else u b no' = bodies u b (body_at sh s u b) ∙ go (u == t) (b == block_of p) refl refl
    where
      go : (y z : Bool) → (u == t) ≡ y → (b == block_of p) ≡ z → cond ((u == t) && (b == block_of p)) (with_slot (slot_of p) g (body_at sh s u b)) (body_at sh s u b) ≡ body_at sh s u b
      go true true y z = absurd (no' (num u t y) (num b (block_of p) z))
      go true false y z = ap (λ a. cond (a && (b == block_of p)) (with_slot (slot_of p) g (body_at sh s u b)) (body_at sh s u b)) y
          ∙ ap (λ a. cond a (with_slot (slot_of p) g (body_at sh s u b)) (body_at sh s u b)) z
      go false z' y z = ap (λ a. cond (a && (b == block_of p)) (with_slot (slot_of p) g (body_at sh s u b)) (body_at sh s u b)) y

  -- an empty block is loose
  empty_loose : (b : ℕ) → HasBlock sh t b → is_empty (body_at sh s t b) ≡ true → is_loose (body_at sh s t b).phase ≡ true
  empty_loose b hb e = go (cases_Bool (is_loose (body_at sh s t b).phase))
    where
      go : (is_loose (body_at sh s t b).phase ≡ true) ⊎ (is_loose (body_at sh s t b).phase ≡ false) → is_loose (body_at sh s t b).phase ≡ true
      go (inl l) = l
      go (inr l) = absurd (true_false (sym e ∙ dense_fills (body_at sh s t b) ((ok.bodies t b hb).dense l)))

  -- the least empty block
  first_empty : (rest : List ℕ) (b : ℕ) → old.empty ≡ b ∷ rest → HasBlock sh t b × (is_empty (body_at sh s t b) ≡ true) × (b ≢ old.block)
  first_empty rest b es =
      let r = filter_first (λ b. is_empty (body_at sh s t b) && not (b == old.block)) (below (blocks_of sh t)) b rest (sym (ok.heads t has).empty ∙ es) in
      let lt : b < blocks_of sh t = let x = member_below 0 (blocks_of sh t) b r.0 in omega (arith, x) in
      let both = and_parts (is_empty (body_at sh s t b)) (not (b == old.block)) r.1 in
      ((has, lt), both.0, λ e. true_false (sym both.1 ∙ ap not (ap (λ x. x == old.block) e ∙ num_refl old.block)))

  -- where it goes
  pub record Spot : Type 0 where
    pub there : HasBlock sh t (block_of p)
    pub inside : slot_of p < length this.slots
    pub loose : is_loose this.phase ≡ true

  -- A slot of a loose block of the table is one to which an insert may go.
  spot_in : (b j : ℕ) → HasBlock sh t b → j < S → is_loose (body_at sh s t b).phase ≡ true → At b j → Spot
  spot_in b j hb less loose is =
      let jp = is.slot in
      let size : length this.slots ≡ S = ap (λ b. length (body_at sh s t b).slots) is.block ∙ (ok.bodies t b hb).slots in
      record {
        there = subst (HasBlock sh t) (sym is.block) hb;
        inside = omega (arith, jp, size, less);
        loose = ap (λ b. is_loose (body_at sh s t b).phase) is.block ∙ loose;
      }

  -- An insert goes to the head's next slot or to the first of the least empty block.
  abbrev Way : Type 0
  Way = ((old.taken < S) × (place_of old.block old.taken ≡ p)) ⊎ ((S ≤ old.taken) × (rest : List ℕ) × (b : ℕ) × (old.empty ≡ b ∷ rest) × (place_of b 0 ≡ p))

  -- The insert goes to the head's next slot, or the block is full and the least empty one follows.
  way : Way
  way = go (nat_lt old.taken S) refl
    where
      moved : (full : S ≤ old.taken) → (blocks : List ℕ) → old.empty ≡ blocks → first_of_blocks blocks ≡ Some p → Way
      moved full [] es is = cc
      moved full (b ∷ rest) es is = inr (full, rest, b, es, same_Some (place_of b 0) p is)

      go : (y : Bool) → nat_lt old.taken S ≡ y → Way
      go true y = inl (grind (arith, nat_tests), same_Some (place_of old.block old.taken) p (sym (ap (λ y. cond y (Some (place_of old.block old.taken)) (first_of_blocks old.empty)) y) ∙ goes))
      go false y = moved (grind (arith, nat_tests)) old.empty refl (sym (ap (λ y. cond y (Some (place_of old.block old.taken)) (first_of_blocks old.empty)) y) ∙ goes)

  -- A block of the table has a slot at least.
  some_slot : 0 < S
  some_slot = let one = (shape.slots t has).0 in omega (arith, one)

  -- the slot to which an insert goes
  pub spot : Spot
  spot = go way
    where
      go : Way → Spot
      go (inl x) = spot_in old.block old.taken (ok.heads t has).block x.0 (ok.heads t has).loose (at old.block old.taken x.0 x.1)
      go (inr x) = let e = first_empty x.1 x.2 x.3 in spot_in x.2 0 e.0 some_slot (empty_loose x.2 e.0 e.1) (at x.2 0 some_slot x.4)

  -- The written body is not empty.
  new_filled : is_empty new ≡ false
  new_filled = slot_filled (slot_of p) g this spot.inside fills

  -- a block after it, as empty as before but for the one written
  filled_at : (b : ℕ) → block_of p ≡ b → is_empty (c.body t b (body_at sh s t b)) ≡ false
  filled_at b is = ap is_empty (body_here b is) ∙ ap (λ b. is_empty (with_slot (slot_of p) g (body_at sh s t b))) (sym is) ∙ new_filled

  -- Another slot of the written block that was bare is bare after the insert.
  bare_from : (b j : ℕ) → block_of p ≡ b → j ≢ slot_of p → is_bare (slot_in (body_at sh s t b) j) ≡ true → is_bare (slot_in (c.body t b (body_at sh s t b)) j) ≡ true
  bare_from b j is ne before =
      ap (λ x. is_bare (slot_in x j)) (body_here b is)
      ∙ ap is_bare (get_or-set_other (body_at sh s t b).slots (slot_of p) j (g (slot_in (body_at sh s t b) (slot_of p))) bare ne) ∙ before

  -- The written block is loose after the insert.
  loose_at : (b : ℕ) → block_of p ≡ b → is_loose (c.body t b (body_at sh s t b)).phase ≡ true
  loose_at b is = ap (λ (x : Body). is_loose x.phase) (body_here b is) ∙ ap (λ b. is_loose (body_at sh s t b).phase) (sym is) ∙ spot.loose

  -- A conjunction whose second is false is false.
  and_false : (x : Bool) → (x && false) ≡ false
  and_false true = refl
  and_false false = refl

  -- A conjunction whose second is true is its first.
  and_true : (x : Bool) → (x && true) ≡ x
  and_true true = refl
  and_true false = refl

  -- the head's next slot
  next_head : old.taken < S → place_of old.block old.taken ≡ p → HeadAfter sh s ok c t (record old { taken = old.taken + 1; inserts = old.inserts + 1 })
  next_head less is = record {
    block = (ok.heads t has).block;
    taken = omega (arith, less);
    unused = λ j le. bare_from old.block j here.block (λ e. let jp = here.slot in absurd (omega (arith, e, jp, le))) ((ok.heads t has).unused j (omega (arith, le)));
    loose = loose_at old.block here.block;
    anew = λ e. absurd (true_false (sym e ∙ filled_at old.block here.block));
    empty = (ok.heads t has).empty
        ∙ filter_same (λ b. is_empty (body_at sh s t b) && not (b == old.block)) (λ b. is_empty (c.body t b (body_at sh s t b)) && not (b == old.block)) (below (blocks_of sh t))
        (λ b a. same b (same_number b old.block));
  }
    where
      here : At old.block old.taken
      here = at old.block old.taken less is

      same : (b : ℕ) → (b ≡ old.block) ⊎ (b ≢ old.block) → (is_empty (body_at sh s t b) && not (b == old.block)) ≡ (is_empty (c.body t b (body_at sh s t b)) && not (b == old.block))
      same b (inl e) =
          let y : (b == old.block) ≡ true = ap (λ x. x == old.block) e ∙ num_refl old.block in
          ap (λ z. is_empty (body_at sh s t b) && not z) y ∙ and_false (is_empty (body_at sh s t b))
          ∙ sym (ap (λ z. is_empty (c.body t b (body_at sh s t b)) && not z) y ∙ and_false (is_empty (c.body t b (body_at sh s t b))))
      same b (inr ne) = ap (λ x. is_empty x && not (b == old.block)) (sym (body_else t b (λ e e'. ne (e' ∙ here.block))))

  -- the least empty block becomes the head
  moved_head : S ≤ old.taken → (rest : List ℕ) (b : ℕ) → old.empty ≡ b ∷ rest → place_of b 0 ≡ p
      → HeadAfter sh s ok c t (record { block = b; taken = 1; inserts = old.inserts + 1; empty = rest })
  moved_head full rest b es is = record {
    block = first.0;
    taken = let one = (shape.slots t has).0 in omega (arith, one);
    unused = λ j le. bare_from b j here.block (λ e. let jp = here.slot in absurd (omega (arith, e, jp, le))) (all_bare (body_at sh s t b).slots j first.1);
    loose = loose_at b here.block;
    anew = λ e. absurd (true_false (sym e ∙ filled_at b here.block));
    empty = sym (filter_rest (λ b. is_empty (body_at sh s t b) && not (b == old.block)) 0 (blocks_of sh t) b rest (sym (ok.heads t has).empty ∙ es))
        ∙ filter_same (λ x. (is_empty (body_at sh s t x) && not (x == old.block)) && not (x == b)) (λ x. is_empty (c.body t x (body_at sh s t x)) && not (x == b)) (below (blocks_of sh t))
        (λ x a. same x (same_number x b) (same_number x old.block));
  }
    where
      here : At b 0
      here = at b 0 some_slot is

      first : HasBlock sh t b × (is_empty (body_at sh s t b) ≡ true) × (b ≢ old.block)
      first = first_empty rest b es

      -- the old head is full, so it is not empty
      old_filled : is_empty (body_at sh s t old.block) ≡ false
      old_filled = go (cases_Bool (is_empty (body_at sh s t old.block)))
        where
          go : (is_empty (body_at sh s t old.block) ≡ true) ⊎ (is_empty (body_at sh s t old.block) ≡ false) → is_empty (body_at sh s t old.block) ≡ false
          go (inl e) = let z = (ok.heads t has).anew e in let one = (shape.slots t has).0 in absurd (omega (arith, z, full, one))
          go (inr e) = e

      same : (x : ℕ) → (x ≡ b) ⊎ (x ≢ b) → (x ≡ old.block) ⊎ (x ≢ old.block)
          → ((is_empty (body_at sh s t x) && not (x == old.block)) && not (x == b)) ≡ (is_empty (c.body t x (body_at sh s t x)) && not (x == b))
      same x (inl e) o =
          let y : (x == b) ≡ true = ap (λ y. y == b) e ∙ num_refl b in
          ap (λ z. (is_empty (body_at sh s t x) && not (x == old.block)) && not z) y ∙ and_false (is_empty (body_at sh s t x) && not (x == old.block))
          ∙ sym (ap (λ z. is_empty (c.body t x (body_at sh s t x)) && not z) y ∙ and_false (is_empty (c.body t x (body_at sh s t x))))
      same x (inr ne) (inl e) =
          let before : is_empty (body_at sh s t x) ≡ false = ap (λ y. is_empty (body_at sh s t y)) e ∙ old_filled in
          ap (λ z. (z && not (x == old.block)) && not (x == b)) before
          ∙ sym (ap (λ y. is_empty y && not (x == b)) (body_else t x (λ e' e''. ne (e'' ∙ here.block))) ∙ ap (λ z. z && not (x == b)) before)
      same x (inr ne) (inr no') =
          ap (λ z. (is_empty (body_at sh s t x) && not z) && not (x == b)) (num_ne x old.block no')
          ∙ ap (λ z. z && not (x == b)) (and_true (is_empty (body_at sh s t x)))
          ∙ ap (λ y. is_empty y && not (x == b)) (sym (body_else t x (λ e' e''. ne (e'' ∙ here.block))))

  -- after the insert what holds of heads holds of the table's
  pub own_head : HeadAfter sh s ok c t (taken_by S old)
  own_head = go way
    where
      go : Way → HeadAfter sh s ok c t (taken_by S old)
      go (inl x) =
          let less : nat_lt old.taken S ≡ true = let l = x.0 in grind (arith, nat_tests, l) in
          subst (λ y. HeadAfter sh s ok c t (cond y (record old { taken = old.taken + 1; inserts = old.inserts + 1 }) (moved_on old.empty old))) (sym less) (next_head x.0 x.1)
      go (inr x) =
          let more : nat_lt old.taken S ≡ false = let l = x.0 in grind (arith, nat_tests, l) in
          subst (λ y. HeadAfter sh s ok c t (cond y (record old { taken = old.taken + 1; inserts = old.inserts + 1 }) (moved_on old.empty old))) (sym more)
          (subst (λ blocks. HeadAfter sh s ok c t (moved_on blocks old)) (sym x.3) (moved_head x.0 x.1 x.2 x.3 x.4))

  -- the bodies after it
  pub own_body : (u b : ℕ) → HasBlock sh u b → BodyHolds sh u (c.body u b (body_at sh s u b))
  own_body u b hb = go (same_number u t) (same_number b (block_of p))
    where
      go : (u ≡ t) ⊎ (u ≢ t) → (b ≡ block_of p) ⊎ (b ≢ block_of p) → BodyHolds sh u (c.body u b (body_at sh s u b))
      go (inl e) (inl e') =
          subst (λ u. BodyHolds sh u (c.body u b (body_at sh s u b))) (sym e) (subst (λ b. BodyHolds sh t (c.body t b (body_at sh s t b))) (sym e')
          (subst (BodyHolds sh t) (sym (body_here (block_of p) refl)) (slot_holds sh t this (ok.bodies t (block_of p) spot.there) (slot_of p) g spot.loose fit)))
      go (inl e) (inr n) = subst (BodyHolds sh u) (sym (body_else u b (λ e e'. n e'))) (ok.bodies u b hb)
      go (inr n) z = subst (BodyHolds sh u) (sym (body_else u b (λ e e'. n e))) (ok.bodies u b hb)

  -- the head's block after it is the old one, or the one written
  new_block : ((taken_by S old).block ≡ old.block) ⊎ ((taken_by S old).block ≡ block_of p)
  new_block = go way
    where
      go : Way → ((taken_by S old).block ≡ old.block) ⊎ ((taken_by S old).block ≡ block_of p)
      go (inl x) =
          let less : nat_lt old.taken S ≡ true = let l = x.0 in grind (arith, nat_tests, l) in
          inl (ap (λ y. (cond y (record old { taken = old.taken + 1; inserts = old.inserts + 1 }) (moved_on old.empty old)).block) less)
      go (inr x) =
          let more : nat_lt old.taken S ≡ false = let l = x.0 in grind (arith, nat_tests, l) in
          inr (ap (λ y. (cond y (record old { taken = old.taken + 1; inserts = old.inserts + 1 }) (moved_on old.empty old)).block) more
          ∙ ap (λ blocks. (moved_on blocks old).block) x.3 ∙ sym (at x.2 0 some_slot x.4).block)

  -- The table's head after the insert is the one with the slot taken.
  head_here : c.head t old ≡ taken_by S old
  head_here = heads t old ∙ ap (λ y. cond y (taken_by S old) old) (num_refl t)

  -- after the insert a block that is cooling or not loose is no head
  pub own_no_head : (u b : ℕ) → HasBlock sh u b → NoHeadAfter sh s ok c u b
  own_no_head u b hb = go (same_number u t) (same_number b (block_of p))
    where
      in_table : (b : ℕ) → HasBlock sh t b → (b ≡ block_of p) ⊎ (b ≢ block_of p) → NoHeadAfter sh s ok c t b
      in_table b hb (inl e) = record {
        cooling = λ is. absurd (true_false (sym is ∙ ap (λ (x : Body). x.cooling) (body_here b (sym e))));
        phase = λ is. absurd (true_false (sym (loose_at b (sym e)) ∙ is));
      }
      in_table b hb (inr n) = record {
        cooling = λ is e. other ((ok.no_head t b hb).cooling (sym (ap (λ (x : Body). x.cooling) (body_else t b (λ e e'. n e'))) ∙ is)) (e ∙ ap (λ (h : Head). h.block) head_here);
        phase = λ is e. other ((ok.no_head t b hb).phase (sym (ap (λ (x : Body). is_loose x.phase) (body_else t b (λ e e'. n e'))) ∙ is)) (e ∙ ap (λ (h : Head). h.block) head_here);
      }
        where
          other : b ≢ old.block → b ≡ (taken_by S old).block → ⊥
          other ne e = at' new_block
            where
              at' : ((taken_by S old).block ≡ old.block) ⊎ ((taken_by S old).block ≡ block_of p) → ⊥
              at' (inl x) = ne (e ∙ x)
              at' (inr x) = n (e ∙ x)

      go : (u ≡ t) ⊎ (u ≢ t) → (b ≡ block_of p) ⊎ (b ≢ block_of p) → NoHeadAfter sh s ok c u b
      go (inl e) z = subst (λ u. NoHeadAfter sh s ok c u b) (sym e) (in_table b (subst (λ u. HasBlock sh u b) e hb) z)
      go (inr n) z =
          let stays : c.head u (head_at sh s u) ≡ head_at sh s u = heads u (head_at sh s u) ∙ ap (λ y. cond y (taken_by S (head_at sh s u)) (head_at sh s u)) (num_ne u t n) in record {
            cooling = λ is e. (ok.no_head u b hb).cooling (sym (ap (λ (x : Body). x.cooling) (body_else u b (λ e e'. n e))) ∙ is) (e ∙ ap (λ (h : Head). h.block) stays);
            phase = λ is e. (ok.no_head u b hb).phase (sym (ap (λ (x : Body). is_loose x.phase) (body_else u b (λ e e'. n e))) ∙ is) (e ∙ ap (λ (h : Head). h.block) stays);
          }

  -- each head after it
  pub each_head : (u : ℕ) → HasTable sh u → HeadAfter sh s ok c u (c.head u (head_at sh s u))
  each_head u hu = go (same_number u t)
    where
      go : (u ≡ t) ⊎ (u ≢ t) → HeadAfter sh s ok c u (c.head u (head_at sh s u))
      go (inl e) = subst (λ u. HeadAfter sh s ok c u (c.head u (head_at sh s u))) (sym e) (subst (HeadAfter sh s ok c t) (sym head_here) own_head)
      go (inr n) =
          let stays : c.head u (head_at sh s u) ≡ head_at sh s u = heads u (head_at sh s u) ∙ ap (λ y. cond y (taken_by S (head_at sh s u)) (head_at sh s u)) (num_ne u t n) in
          subst (HeadAfter sh s ok c u) (sym stays)
          (calm_head sh s ok c u hu (λ b hb. subst (IsCalm sh s ok c u b) (sym (body_else u b (λ e e'. n e))) (calm_same sh s ok c u b hb)))
