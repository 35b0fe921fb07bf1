-- The slot that an insert takes is there and bare.
use Rattle.std.proofs.Common.{◌≡◌, ℕ, zero, suc, ◌^◌, ◌<◌, Bool, true, false, cond, not, ◌&&◌, ◌==◌, List, [], ◌∷◌, Some, length, get_or, refl, sym, ap, ◌∙◌, arith, nat_lt}
use mathlib.Core.Logic.{inl, inr}
use Rattle.std.specs.Prelude.{filter}
use Rattle.std.specs.List.{list_all}
use Rattle.std.proofs.lemmas.Bool.Decides.{nat_tests}
use Rattle.std.proofs.lemmas.Option.{same_Some}
use Rattle.block_layout.specs.Place.{place_of, block_of, slot_of}
use Rattle.block_spec.specs.Bodies.{Body, is_empty, slot_in}
use Rattle.block_spec.specs.Slots.{Slot, bare, is_bare}
use Rattle.core_laws.proofs.Events.Lists.{member_below}
use Rattle.core_laws.proofs.Events.Naming.{body_there}
use Rattle.core_laws.specs.Events.Named.{NextIsFree}
use Rattle.event_spec.specs.declared.part.Part.TheVariants as part
use Rattle.event_spec.specs.Judged.{first_of_blocks, next_place}
use Rattle.event_spec.specs.Lawful.{Among, HasTable, HasBlock}
use Rattle.event_spec.specs.Parts.{Parts, Shape, BodyOf, names, part_named, blocks_of, slots_of, below, body_at, body_from, head_at, slot_at}
use Rattle.event_spec.specs.Sound.{HeadHolds, IsShape, Sound}

-- a slot of an empty body is bare
pub all_bare : (slots : List Slot) (j : ℕ) → list_all is_bare slots ≡ true → is_bare (get_or slots j bare) ≡ true
all_bare [] j is = refl
all_bare (x ∷ slots) zero is = go (is_bare x) (list_all is_bare slots) is
  where
    go : (a b : Bool) → (a && b) ≡ true → a ≡ true
    go true b e = refl
    go false b e = e
all_bare (x ∷ slots) (suc j) is = all_bare slots j (go (is_bare x) (list_all is_bare slots) is)
  where
    go : (a b : Bool) → (a && b) ≡ true → b ≡ true
    go true b e = e
    go false b e = cc

-- the first of those that pass is one of all, and passes
pub filter_first : (p : ℕ → Bool) (xs : List ℕ) (b : ℕ) (rest : List ℕ) → filter p xs ≡ b ∷ rest → Among b xs × (p b ≡ true)
filter_first p [] b rest is = cc
filter_first p (x ∷ xs) b rest is = go (p x) refl is (filter_first p xs b rest)
  where
    go : (c : Bool) → p x ≡ c → cond c (x ∷ filter p xs) (filter p xs) ≡ b ∷ rest → (filter p xs ≡ b ∷ rest → Among b xs × (p b ≡ true)) → Among b (x ∷ xs) × (p b ≡ true)
    go true px is more = let e : x ≡ b = cc in (inl (sym e), sym (ap p e) ∙ px)
    go false px is more = let r = more is in (inr r.0, r.1)

-- a place has the block that it is made of
pub block_is : (b j : ℕ) → j < 2 ^ 20 → block_of (place_of b j) ≡ b
block_is b j lt = omega arith

-- and the slot
pub slot_is : (b j : ℕ) → j < 2 ^ 20 → slot_of (place_of b j) ≡ j
slot_is b j lt = omega arith

-- The slot that a table's head hands out next is there, and free.
pub next_is_there : (sh : Shape) (s : Parts) (t : ℕ) → IsShape sh → Sound sh s → HasTable sh t → NextIsFree sh s t
next_is_there sh s t shape ok has = λ p is. go p (nat_lt (head_at sh s t).taken S) refl is
  where
    S : ℕ
    S = slots_of sh t

    h : HeadHolds sh s t
    h = ok.heads t has

    Free : ℕ → Type 0
    Free p = (body : Body) × (part_named (names sh) s (BodyOf t (block_of p)) ≡ Some (part.Body body)) × (slot_of p < length body.slots) × (is_bare (slot_at sh s t p) ≡ true)

    -- a bare slot of a block is one that an insert may take
    at : (b j p : ℕ) → HasBlock sh t b → j < slots_of sh t → is_bare (slot_in (body_at sh s t b) j) ≡ true → place_of b j ≡ p
        → (body : Body) × (part_named (names sh) s (BodyOf t (block_of p)) ≡ Some (part.Body body)) × (slot_of p < length body.slots) × (is_bare (slot_at sh s t p) ≡ true)
    at b j p hb lt bare' e =
        let small : j < 2 ^ 20 = let w = (shape.slots t has).1 in omega (arith, w, lt) in
        let bp : block_of p ≡ b = ap block_of (sym e) ∙ block_is b j small in
        let jp : slot_of p ≡ j = ap slot_of (sym e) ∙ slot_is b j small in
        let body = body_there sh s ok.kinds t b hb in
        let wide : length body.0.slots ≡ slots_of sh t = ap (λ o. length (body_from o).slots) (sym body.1) ∙ (ok.bodies t b hb).slots in (
          body.0,
          ap (λ b. part_named (names sh) s (BodyOf t b)) bp ∙ body.1,
          omega (arith, jp, wide, lt),
          ap (λ b. is_bare (slot_in (body_at sh s t b) (slot_of p))) bp ∙ ap (λ j. is_bare (slot_in (body_at sh s t b) j)) jp ∙ bare',
        )

    both : (x y : Bool) → (x && y) ≡ true → x ≡ true
    both true y e = refl
    both false y e = e

    first : (p : ℕ) (blocks : List ℕ) → (head_at sh s t).empty ≡ blocks → first_of_blocks blocks ≡ Some p
        → (body : Body) × (part_named (names sh) s (BodyOf t (block_of p)) ≡ Some (part.Body body)) × (slot_of p < length body.slots) × (is_bare (slot_at sh s t p) ≡ true)
    first p [] es is = cc
    first p (b ∷ rest) es is =
        let f = filter_first (λ b. is_empty (body_at sh s t b) && not (b == (head_at sh s t).block)) (below (blocks_of sh t)) b rest (sym (ok.heads t has).empty ∙ es) in
        let lt : b < blocks_of sh t = let r = member_below 0 (blocks_of sh t) b f.0 in omega (arith, r) in
        at b 0 p (has, lt) (let w = (shape.slots t has).0 in omega (arith, w)) (all_bare (body_at sh s t b).slots 0 (both (is_empty (body_at sh s t b)) (not (b == (head_at sh s t).block)) f.1)) (same_Some (place_of b 0) p is)

    go : (p : ℕ) (c : Bool) → nat_lt (head_at sh s t).taken (slots_of sh t) ≡ c → next_place (head_at sh s t) (slots_of sh t) ≡ Some p
        → (body : Body) × (part_named (names sh) s (BodyOf t (block_of p)) ≡ Some (part.Body body)) × (slot_of p < length body.slots) × (is_bare (slot_at sh s t p) ≡ true)
    go p true c is =
        at (head_at sh s t).block (head_at sh s t).taken p (ok.heads t has).block (grind (arith, nat_tests)) ((ok.heads t has).unused (head_at sh s t).taken (omega arith))
        (same_Some (place_of (head_at sh s t).block (head_at sh s t).taken) p (sym (ap (λ c. cond c (Some (place_of (head_at sh s t).block (head_at sh s t).taken)) (first_of_blocks (head_at sh s t).empty)) c) ∙ is))
    go p false c is =
        first p (head_at sh s t).empty refl (sym (ap (λ c. cond c (Some (place_of (head_at sh s t).block (head_at sh s t).taken)) (first_of_blocks (head_at sh s t).empty)) c) ∙ is)
