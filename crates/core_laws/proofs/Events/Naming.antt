-- Which names there are, and that each has its part in a sound state.
use Rattle.std.proofs.Common.{◌≡◌, ◌⊎◌, ℕ, ◌<◌, Bool, true, false, cond, List, [], ◌∷◌, ◌++◌, map, length, Option, None, Some, refl, sym, subst, arith}
use mathlib.Core.Logic.{inl, inr}
use Rattle.std.specs.Prelude.{All}
use Rattle.std.specs.List.{flat_map}
use Rattle.block_spec.specs.Bodies.{Body}
use Rattle.core_laws.proofs.Events.Lists.{split, in_left, in_right, flat_member, member_flat, below_member, member_below, map_member, member_map, all_at}
use Rattle.core_laws.proofs.Events.States.{name_is}
use Rattle.core_laws.specs.Events.Named.{KindIf, FollowsMachine}
use Rattle.event_spec.specs.declared.part.Head.{Head}
use Rattle.event_spec.specs.declared.part.Part.TheVariants as part
use Rattle.event_spec.specs.Lawful.{Among, HasTable, HasBlock}
use Rattle.event_spec.specs.Parts.{CorePart, Parts, Shape, Name, HeadOf, ShardOf, BodyOf, TheDesk, same_name, names, part_named, part_at, below, blocks_of}
use Rattle.event_spec.specs.Sound.{IsOfKind, Sound}
use Rattle.key_index.specs.Candidates.{Places}
use Rattle.txn_desk.specs.Desk.{DeskState}

-- a name of which there is a part is one of the names
pub named_member : (ns : List Name) (s : Parts) (w : Name) (piece : CorePart) → part_named ns s w ≡ Some piece → Among w ns
named_member [] s w piece is = cc
named_member (n ∷ ns) [] w piece is = cc
named_member (n ∷ ns) (p ∷ s) w piece is = go (same_name n w) refl is (named_member ns s w piece)
  where
    go : (b : Bool) → same_name n w ≡ b → cond b (Some p) (part_named ns s w) ≡ Some piece → (part_named ns s w ≡ Some piece → Among w ns) → Among w (n ∷ ns)
    go true e x rest = inl (sym (name_is n w e))
    go false e x rest = inr (rest x)

-- the names of all heads
abbrev pub heads_in : Shape → List Name
heads_in sh = map HeadOf (below (length sh.tables))

-- the names of all shards
abbrev pub shards_in : Shape → List Name
shards_in sh = flat_map (λ t. map (ShardOf t) (below 8)) (below (length sh.tables))

-- the names of all bodies
abbrev pub bodies_in : Shape → List Name
bodies_in sh = flat_map (λ t. map (BodyOf t) (below (blocks_of sh t))) (below (length sh.tables))

-- a body that has a part is of a block that there is
pub body_is_there : (sh : Shape) (s : Parts) (t b : ℕ) (piece : CorePart) → part_named (names sh) s (BodyOf t b) ≡ Some piece → HasBlock sh t b
body_is_there sh s t b piece is =
    either (split (heads_in sh ++ shards_in sh ++ bodies_in sh) (TheDesk ∷ []) (BodyOf t b) (named_member (names sh) s (BodyOf t b) piece is))
    (λ a. either (split (heads_in sh ++ shards_in sh) (bodies_in sh) (BodyOf t b) a)
    (λ a. either (split (heads_in sh) (shards_in sh) (BodyOf t b) a) first second) third)
    (λ a. absurd (no_desk a))
  where
    third : Among (BodyOf t b) (flat_map (λ t. map (BodyOf t) (below (blocks_of sh t))) (below (length sh.tables))) → HasBlock sh t b
    third a =
        let r = flat_member (λ t. map (BodyOf t) (below (blocks_of sh t))) (below (length sh.tables)) (BodyOf t b) a in
        let q = map_member (BodyOf r.0) (below (blocks_of sh r.0)) (BodyOf t b) r.2 in
        let same_t : t ≡ r.0 = cc in let same_b : b ≡ q.0 = cc in
        let lt = member_below 0 (length sh.tables) r.0 r.1 in
        let lb = member_below 0 (blocks_of sh r.0) q.0 q.1 in
        (omega (arith, lt, same_t), subst (λ t. b < blocks_of sh t) (sym same_t) (omega (arith, lb, same_b)))

    first : Among (BodyOf t b) (map HeadOf (below (length sh.tables))) → HasBlock sh t b
    first a = let q = map_member HeadOf (below (length sh.tables)) (BodyOf t b) a in absurd (apart q.0 q.2)
      where
        apart : (x : ℕ) → BodyOf t b ≡ HeadOf x → ⊥
        apart x e = cc

    second : Among (BodyOf t b) (flat_map (λ t. map (ShardOf t) (below 8)) (below (length sh.tables))) → HasBlock sh t b
    second a =
        let r = flat_member (λ t. map (ShardOf t) (below 8)) (below (length sh.tables)) (BodyOf t b) a in
        let q = map_member (ShardOf r.0) (below 8) (BodyOf t b) r.2 in absurd (apart r.0 q.0 q.2)
      where
        apart : (x y : ℕ) → BodyOf t b ≡ ShardOf x y → ⊥
        apart x y e = cc

    either : {A B C : Type 0} → A ⊎ B → (A → C) → (B → C) → C
    either (inl a) f g = f a
    either (inr b) f g = g b

    no_desk : Among (BodyOf t b) (TheDesk ∷ []) → ⊥
    no_desk (inl e) = cc
    no_desk (inr x) = x

-- ---- the names of a shape

-- a table's head is named
pub head_named : (sh : Shape) (t : ℕ) → HasTable sh t → Among (HeadOf t) (names sh)
head_named sh t has =
    in_left (heads_in sh ++ shards_in sh ++ bodies_in sh) (TheDesk ∷ []) (HeadOf t)
    (in_left (heads_in sh ++ shards_in sh) (bodies_in sh) (HeadOf t)
    (in_left (heads_in sh) (shards_in sh) (HeadOf t)
    (member_map HeadOf (below (length sh.tables)) t (below_member 0 (length sh.tables) t (omega arith) (omega (arith, has))))))

-- each of its shards is
pub shard_named : (sh : Shape) (t i : ℕ) → HasTable sh t → i < 8 → Among (ShardOf t i) (names sh)
shard_named sh t i has small =
    in_left (heads_in sh ++ shards_in sh ++ bodies_in sh) (TheDesk ∷ []) (ShardOf t i)
    (in_left (heads_in sh ++ shards_in sh) (bodies_in sh) (ShardOf t i)
    (in_right (heads_in sh) (shards_in sh) (ShardOf t i)
    (member_flat (λ t. map (ShardOf t) (below 8)) (below (length sh.tables)) t (ShardOf t i)
    (below_member 0 (length sh.tables) t (omega arith) (omega (arith, has)))
    (member_map (ShardOf t) (below 8) i (below_member 0 8 i (omega arith) (omega (arith, small)))))))

-- the body of each block is
pub body_named : (sh : Shape) (t b : ℕ) → HasBlock sh t b → Among (BodyOf t b) (names sh)
body_named sh t b has =
    let h0 = has.0 in let h1 = has.1 in
    in_left (heads_in sh ++ shards_in sh ++ bodies_in sh) (TheDesk ∷ []) (BodyOf t b)
    (in_right (heads_in sh ++ shards_in sh) (bodies_in sh) (BodyOf t b)
    (member_flat (λ t. map (BodyOf t) (below (blocks_of sh t))) (below (length sh.tables)) t (BodyOf t b)
    (below_member 0 (length sh.tables) t (omega arith) (omega (arith, h0)))
    (member_map (BodyOf t) (below (blocks_of sh t)) b (below_member 0 (blocks_of sh t) b (omega arith) (omega (arith, h1))))))

-- and the desk is
pub desk_named : (sh : Shape) → Among TheDesk (names sh)
desk_named sh = in_right (heads_in sh ++ shards_in sh ++ bodies_in sh) (TheDesk ∷ []) TheDesk (inl refl)

-- ---- the parts of a sound state

-- Where a name has a part of its kind, its part is of that kind.
kind_if : (name : Name) (o : Option CorePart) → IsOfKind name o → KindIf name o
kind_if (HeadOf t) None k = tt
kind_if (HeadOf t) (Some (part.Head x)) k = tt
kind_if (HeadOf t) (Some (part.Shard x)) k = absurd k
kind_if (HeadOf t) (Some (part.Body x)) k = absurd k
kind_if (HeadOf t) (Some (part.Desk x)) k = absurd k
kind_if (ShardOf t i) None k = tt
kind_if (ShardOf t i) (Some (part.Head x)) k = absurd k
kind_if (ShardOf t i) (Some (part.Shard x)) k = tt
kind_if (ShardOf t i) (Some (part.Body x)) k = absurd k
kind_if (ShardOf t i) (Some (part.Desk x)) k = absurd k
kind_if (BodyOf t b) None k = tt
kind_if (BodyOf t b) (Some (part.Head x)) k = absurd k
kind_if (BodyOf t b) (Some (part.Shard x)) k = absurd k
kind_if (BodyOf t b) (Some (part.Body x)) k = tt
kind_if (BodyOf t b) (Some (part.Desk x)) k = absurd k
kind_if TheDesk None k = tt
kind_if TheDesk (Some (part.Head x)) k = absurd k
kind_if TheDesk (Some (part.Shard x)) k = absurd k
kind_if TheDesk (Some (part.Body x)) k = absurd k
kind_if TheDesk (Some (part.Desk x)) k = tt

-- A part of a head's kind is a head.
a_head : (t : ℕ) (o : Option CorePart) → IsOfKind (HeadOf t) o → (x : Head) × (o ≡ Some (part.Head x))
a_head t None k = absurd k
a_head t (Some (part.Head x)) k = (x, refl)
a_head t (Some (part.Shard x)) k = absurd k
a_head t (Some (part.Body x)) k = absurd k
a_head t (Some (part.Desk x)) k = absurd k

-- A part of a shard's kind is the candidates of a shard.
a_shard : (t i : ℕ) (o : Option CorePart) → IsOfKind (ShardOf t i) o → (x : Places) × (o ≡ Some (part.Shard x))
a_shard t i None k = absurd k
a_shard t i (Some (part.Head x)) k = absurd k
a_shard t i (Some (part.Shard x)) k = (x, refl)
a_shard t i (Some (part.Body x)) k = absurd k
a_shard t i (Some (part.Desk x)) k = absurd k

-- A part of a body's kind is a body.
a_body : (t b : ℕ) (o : Option CorePart) → IsOfKind (BodyOf t b) o → (x : Body) × (o ≡ Some (part.Body x))
a_body t b None k = absurd k
a_body t b (Some (part.Head x)) k = absurd k
a_body t b (Some (part.Shard x)) k = absurd k
a_body t b (Some (part.Body x)) k = (x, refl)
a_body t b (Some (part.Desk x)) k = absurd k

-- A part of the desk's kind is a desk.
a_desk : (o : Option CorePart) → IsOfKind TheDesk o → (x : DeskState) × (o ≡ Some (part.Desk x))
a_desk None k = absurd k
a_desk (Some (part.Head x)) k = absurd k
a_desk (Some (part.Shard x)) k = absurd k
a_desk (Some (part.Body x)) k = absurd k
a_desk (Some (part.Desk x)) k = (x, refl)

module _ (sh : Shape) (s : Parts) (kinds : All (λ name. IsOfKind name (part_at sh s name)) (names sh)) where
  -- what stands at a name is of its kind
  pub at_name : (name : Name) → Among name (names sh) → IsOfKind name (part_at sh s name)
  at_name name a = all_at (λ name. IsOfKind name (part_at sh s name)) (names sh) name kinds a

  -- the head of a table is there
  pub head_there : (t : ℕ) → HasTable sh t → (x : Head) × (part_at sh s (HeadOf t) ≡ Some (part.Head x))
  head_there t has = a_head t (part_at sh s (HeadOf t)) (at_name (HeadOf t) (head_named sh t has))

  -- each of its shards is
  pub shard_there : (t i : ℕ) → HasTable sh t → i < 8 → (x : Places) × (part_at sh s (ShardOf t i) ≡ Some (part.Shard x))
  shard_there t i has small = a_shard t i (part_at sh s (ShardOf t i)) (at_name (ShardOf t i) (shard_named sh t i has small))

  -- the body of each block is
  pub body_there : (t b : ℕ) → HasBlock sh t b → (x : Body) × (part_at sh s (BodyOf t b) ≡ Some (part.Body x))
  body_there t b has = a_body t b (part_at sh s (BodyOf t b)) (at_name (BodyOf t b) (body_named sh t b has))

  -- and the desk is
  pub desk_there : (x : DeskState) × (part_at sh s TheDesk ≡ Some (part.Desk x))
  desk_there = a_desk (part_at sh s TheDesk) (at_name TheDesk (desk_named sh))

  -- what stands at any name, if something does, is of its kind
  pub each_kind : (name : Name) → KindIf name (part_at sh s name)
  each_kind name = go (part_at sh s name) refl
    where
      go : (o : Option CorePart) → part_at sh s name ≡ o → KindIf name o
      go None is = tt
      go (Some piece) is =
          kind_if name (Some piece) (subst (IsOfKind name) is (at_name name (named_member (names sh) s name piece is)))

-- The parts of a sound state follow its machine.
pub follows_machine : (sh : Shape) (s : Parts) (ok : Sound sh s) → FollowsMachine sh s ok.follows.0
follows_machine sh s ok = record {
  kinds = each_kind sh s ok.kinds;
  desk = desk_there sh s ok.kinds;
  shards = shard_there sh s ok.kinds;
  follows = ok.follows.1;
}
