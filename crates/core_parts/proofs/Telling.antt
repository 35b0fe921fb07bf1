-- What a hand on which an event may run tells of a core, and that one core is enough.
use Rattle.std.proofs.Common.{◌≡◌, ◌⊎◌, ℕ, zero, suc, ◌<◌, ℤ, List, [], ◌∷◌, ◌++◌, Option, None, Some, length, map, refl, sym, ap, ◌∙◌, arith, subst, true}
use mathlib.Core.Logic.{inl, inr}
use Rattle.std.specs.Prelude.{slice_get}
use Rattle.block_spec.specs.Bodies.{Body}
use Rattle.core_parts.proofs.Changing.{after_nothing, alike}
use Rattle.core_parts.proofs.Placing.{held_among, in_state}
use Rattle.core_parts.specs.Hands.{Has, Held, Makes, MayRun, after, in_hand}
use Rattle.core_laws.proofs.Events.Lists.{flat_member, map_member, member_below, split}
use Rattle.core_laws.proofs.Events.Naming.{at_name, bodies_in, heads_in, shards_in, head_named, shard_named, body_named, desk_named}
use Rattle.event_spec.specs.declared.part.Head.{Head}
use Rattle.event_spec.specs.declared.part.Part.TheVariants as part
use Rattle.event_spec.specs.Effects.{CoreEvent, changes_of}
use Rattle.event_spec.specs.Lawful.{Among, HasBlock, HasTable}
use Rattle.event_spec.specs.Parts.{Changes, CorePart, Parts, Shape, Name, HeadOf, ShardOf, BodyOf, TheDesk, below, blocks_of, body_at, body_from, changed, desk_at, desk_from, each_changed, head_at, head_from, names, nothing, places_at, shard_from, shard_of}
use Rattle.event_spec.specs.Replies.{CoreReply, reply_to}
use Rattle.event_spec.specs.Sound.{IsOfKind}
use Rattle.core_laws.proofs.Frames.Looks.{look, touches}
use Rattle.core_laws.proofs.Frames.Makes.{makes}
use Rattle.core_laws.proofs.Frames.Replies.{replies}
use Rattle.hall_rule.specs.Hands.{Agrees}
use Rattle.key_index.specs.Candidates.{Places, candidates_of}
use Rattle.txn_desk.specs.Desk.{DeskState}

-- After changes stands in each place its part, changed by its name.
get_changed : (c : Changes) (ns : List Name) (s : Parts) (k : ℕ) (n : Name) (x : CorePart) → slice_get ns k ≡ Some n → slice_get s k ≡ Some x → slice_get (each_changed c ns s) k ≡ Some (changed c n x)
get_changed c [] s k n x is at = cc
get_changed c (m ∷ ns) [] k n x is at = cc
get_changed c (m ∷ ns) (p ∷ s) zero n x is at =
    let a : m ≡ n = cc in let b : p ≡ x = cc in ap (λ m. Some (changed c m p)) a ∙ ap (λ p. Some (changed c n p)) b
get_changed c (m ∷ ns) (p ∷ s) (suc k) n x is at = get_changed c ns s k n x is at

-- What an event makes of a hand for one core that has its parts, and replies, it does for each.
pub from_one : (sh : Shape) (e : CoreEvent) (hand new : Held) (said : CoreReply) (m : MayRun sh e hand)
    → new ≡ after sh (changes_of sh m.parts e) hand → said ≡ reply_to sh m.parts e → Makes sh e hand new said
from_one sh e hand new said m made replied u holds agrees lawful = (
  made ∙ alike (changes_of sh m.parts e) (changes_of sh u e) (names sh) hand same,
  replied ∙ sym (replies sh e hand m.parts u m.holds.measures m.holds.sound m.lawful.1 m.agrees agrees m.covers),
)
  where
    some_is : (x y : CorePart) → Some x ≡ Some y → x ≡ y
    some_is x y e = cc

    same : (k : ℕ) (n : Name) (x : CorePart) → slice_get (names sh) k ≡ Some n → slice_get hand k ≡ Some (Some x) → changed (changes_of sh m.parts e) n x ≡ changed (changes_of sh u e) n x
    same k n x is at = some_is (changed (changes_of sh m.parts e) n x) (changed (changes_of sh u e) n x)
        (sym (get_changed (changes_of sh m.parts e) (names sh) m.parts k n x is (m.agrees.1 k x at))
        ∙ sym (makes sh e hand m.parts u m.holds.measures m.holds.sound holds.sound m.holds.shards m.lawful lawful m.agrees agrees m.covers k (x, at))
        ∙ get_changed (changes_of sh u e) (names sh) u k n x is (agrees.1 k x at))

-- The same of an event that changes nothing.
pub only_told : (sh : Shape) (e : CoreEvent) (hand : Held) (said : CoreReply) (m : MayRun sh e hand)
    → changes_of sh m.parts e ≡ nothing → said ≡ reply_to sh m.parts e → Makes sh e hand hand said
only_told sh e hand said m none replied = from_one sh e hand hand said m
    (sym (after_nothing sh hand) ∙ ap (λ c. after sh c hand) (sym none)) replied

-- ---- parts of a hand on which an event may run

module _ (sh : Shape) (e : CoreEvent) (hand : Held) (m : MayRun sh e hand) where
  -- a part that the event touches is in the hand
  pub has_part : (w : Name) → Among w (names sh) → touches sh e hand w ≡ true → Has sh hand w
  has_part w a is = subst (IsOfKind w) (sym (look sh e hand m.parts w m.covers m.agrees is)) (at_name sh m.parts m.holds.sound.kinds w a)

  -- so is a head that it touches
  pub has_head : (t : ℕ) → HasTable sh t → touches sh e hand (HeadOf t) ≡ true → Has sh hand (HeadOf t)
  has_head t has = has_part (HeadOf t) (head_named sh t has)

  -- and a shard
  pub has_shard : (t i : ℕ) → HasTable sh t → i < 8 → touches sh e hand (ShardOf t i) ≡ true → Has sh hand (ShardOf t i)
  has_shard t i has small = has_part (ShardOf t i) (shard_named sh t i has small)

  -- and a body
  pub has_body : (t b : ℕ) → HasBlock sh t b → touches sh e hand (BodyOf t b) ≡ true → Has sh hand (BodyOf t b)
  has_body t b has = has_part (BodyOf t b) (body_named sh t b has)

  -- and the desk
  pub has_desk : touches sh e hand TheDesk ≡ true → Has sh hand TheDesk
  has_desk = has_part TheDesk (desk_named sh)

  -- the hand has a place for each part
  pub room : length hand ≡ length (names sh)
  room = m.agrees.0 ∙ m.holds.sound.count

-- ---- what a part in a hand is in the core

module _ (sh : Shape) (hand : Held) (s : Parts) (agrees : Agrees hand s) where
  -- a head in the hand is the core's
  pub head_is : (t : ℕ) (x : Head) → in_hand sh hand (HeadOf t) ≡ Some (part.Head x) → head_at sh s t ≡ x
  head_is t x is = ap head_from (in_state (names sh) hand s (HeadOf t) (part.Head x) agrees is)

  -- a shard in the hand tells the core's candidates of its keys
  pub places_are : (t : ℕ) (key : ℤ) (x : Places) → in_hand sh hand (ShardOf t (shard_of key)) ≡ Some (part.Shard x) → places_at sh s t key ≡ candidates_of x key
  places_are t key x is = ap (λ o. candidates_of (shard_from o) key) (in_state (names sh) hand s (ShardOf t (shard_of key)) (part.Shard x) agrees is)

  -- a body in the hand is the core's
  pub body_is : (t b : ℕ) (x : Body) → in_hand sh hand (BodyOf t b) ≡ Some (part.Body x) → body_at sh s t b ≡ x
  body_is t b x is = ap body_from (in_state (names sh) hand s (BodyOf t b) (part.Body x) agrees is)

  -- the desk in the hand is the core's
  pub desk_is : (x : DeskState) → in_hand sh hand TheDesk ≡ Some (part.Desk x) → desk_at sh s ≡ x
  desk_is x is = ap desk_from (in_state (names sh) hand s TheDesk (part.Desk x) agrees is)

-- ---- the part of a name in a hand

-- what the hand has under a head's name is a head
pub a_head : (sh : Shape) (hand : Held) (t : ℕ) → Has sh hand (HeadOf t) → (x : Head) × (in_hand sh hand (HeadOf t) ≡ Some (part.Head x))
a_head sh hand t has = go (in_hand sh hand (HeadOf t)) has
  where
    go : (o : Option CorePart) → IsOfKind (HeadOf t) o → (x : Head) × (o ≡ Some (part.Head x))
    go None k = absurd k
    go (Some (part.Head x)) k = (x, refl)
    go (Some (part.Shard x)) k = absurd k
    go (Some (part.Body x)) k = absurd k
    go (Some (part.Desk x)) k = absurd k

-- under a shard's name a shard
pub a_shard : (sh : Shape) (hand : Held) (t i : ℕ) → Has sh hand (ShardOf t i) → (x : Places) × (in_hand sh hand (ShardOf t i) ≡ Some (part.Shard x))
a_shard sh hand t i has = go (in_hand sh hand (ShardOf t i)) has
  where
    go : (o : Option CorePart) → IsOfKind (ShardOf t i) o → (x : Places) × (o ≡ Some (part.Shard x))
    go None k = absurd k
    go (Some (part.Head x)) k = absurd k
    go (Some (part.Shard x)) k = (x, refl)
    go (Some (part.Body x)) k = absurd k
    go (Some (part.Desk x)) k = absurd k

-- under a body's name a body
pub a_body : (sh : Shape) (hand : Held) (t b : ℕ) → Has sh hand (BodyOf t b) → (x : Body) × (in_hand sh hand (BodyOf t b) ≡ Some (part.Body x))
a_body sh hand t b has = go (in_hand sh hand (BodyOf t b)) has
  where
    go : (o : Option CorePart) → IsOfKind (BodyOf t b) o → (x : Body) × (o ≡ Some (part.Body x))
    go None k = absurd k
    go (Some (part.Head x)) k = absurd k
    go (Some (part.Shard x)) k = absurd k
    go (Some (part.Body x)) k = (x, refl)
    go (Some (part.Desk x)) k = absurd k

-- and under the desk's the desk
pub a_desk : (sh : Shape) (hand : Held) → Has sh hand TheDesk → (x : DeskState) × (in_hand sh hand TheDesk ≡ Some (part.Desk x))
a_desk sh hand has = go (in_hand sh hand TheDesk) has
  where
    go : (o : Option CorePart) → IsOfKind TheDesk o → (x : DeskState) × (o ≡ Some (part.Desk x))
    go None k = absurd k
    go (Some (part.Head x)) k = absurd k
    go (Some (part.Shard x)) k = absurd k
    go (Some (part.Body x)) k = absurd k
    go (Some (part.Desk x)) k = (x, refl)

-- ---- the names of a shape

module _ (sh : Shape) where
  -- a name of these stands among the heads, the shards, the bodies, or is the desk
  pub among_four : {X : Type 0} (n : Name) → Among n (names sh) → (Among n (heads_in sh) → X) → (Among n (shards_in sh) → X) → (Among n (bodies_in sh) → X) → (Among n (TheDesk ∷ []) → X) → X
  among_four {X} n a one two three four = last (split (heads_in sh ++ shards_in sh ++ bodies_in sh) (TheDesk ∷ []) n a)
    where
      front : Among n (heads_in sh) ⊎ Among n (shards_in sh) → X
      front (inl a) = one a
      front (inr a) = two a

      middle : Among n (heads_in sh ++ shards_in sh) ⊎ Among n (bodies_in sh) → X
      middle (inl a) = front (split (heads_in sh) (shards_in sh) n a)
      middle (inr a) = three a

      last : Among n (heads_in sh ++ shards_in sh ++ bodies_in sh) ⊎ Among n (TheDesk ∷ []) → X
      last (inl a) = middle (split (heads_in sh ++ shards_in sh) (bodies_in sh) n a)
      last (inr a) = four a

  -- a head among the names is a table's
  pub table_of_head : (t : ℕ) → Among (HeadOf t) (names sh) → HasTable sh t
  table_of_head t a = among_four (HeadOf t) a
      (λ a. let x = map_member HeadOf (below (length sh.tables)) (HeadOf t) a in
      let same : t ≡ x.0 = cc in let less = member_below 0 (length sh.tables) x.0 x.1 in omega (arith, same, less))
      (λ a. let r = flat_member (λ t. map (ShardOf t) (below 8)) (below (length sh.tables)) (HeadOf t) a in let q = map_member (ShardOf r.0) (below 8) (HeadOf t) r.2 in absurd (no_shard r.0 q.0 q.2))
      (λ a. let r = flat_member (λ t. map (BodyOf t) (below (blocks_of sh t))) (below (length sh.tables)) (HeadOf t) a in let q = map_member (BodyOf r.0) (below (blocks_of sh r.0)) (HeadOf t) r.2 in absurd (no_body r.0 q.0 q.2))
      last
    where
      no_shard : (x y : ℕ) → HeadOf t ≡ ShardOf x y → ⊥
      no_shard x y e = cc

      no_body : (x y : ℕ) → HeadOf t ≡ BodyOf x y → ⊥
      no_body x y e = cc

      last : Among (HeadOf t) (TheDesk ∷ []) → HasTable sh t
      last (inl e) = cc
      last (inr x) = absurd x

  -- a shard among the names is one of a table's eight
  pub table_of_shard : (t i : ℕ) → Among (ShardOf t i) (names sh) → HasTable sh t × (i < 8)
  table_of_shard t i a = among_four (ShardOf t i) a
      (λ a. let x = map_member HeadOf (below (length sh.tables)) (ShardOf t i) a in absurd (no_head x.0 x.2))
      (λ a. let r = flat_member (λ t. map (ShardOf t) (below 8)) (below (length sh.tables)) (ShardOf t i) a in let q = map_member (ShardOf r.0) (below 8) (ShardOf t i) r.2 in
      let same : t ≡ r.0 = one t i r.0 q.0 q.2 in let also : i ≡ q.0 = two t i r.0 q.0 q.2 in
      let less = member_below 0 (length sh.tables) r.0 r.1 in let small = member_below 0 8 q.0 q.1 in (omega (arith, same, less), omega (arith, also, small)))
      (λ a. let r = flat_member (λ t. map (BodyOf t) (below (blocks_of sh t))) (below (length sh.tables)) (ShardOf t i) a in let q = map_member (BodyOf r.0) (below (blocks_of sh r.0)) (ShardOf t i) r.2 in absurd (no_body r.0 q.0 q.2))
      last
    where
      one : (t i u j : ℕ) → ShardOf t i ≡ ShardOf u j → t ≡ u
      one t i u j e = cc

      two : (t i u j : ℕ) → ShardOf t i ≡ ShardOf u j → i ≡ j
      two t i u j e = cc

      no_head : (x : ℕ) → ShardOf t i ≡ HeadOf x → ⊥
      no_head x e = cc

      no_body : (x y : ℕ) → ShardOf t i ≡ BodyOf x y → ⊥
      no_body x y e = cc

      last : Among (ShardOf t i) (TheDesk ∷ []) → HasTable sh t × (i < 8)
      last (inl e) = cc
      last (inr x) = absurd x

  -- a body among the names is of a table's block
  pub block_of_body : (t b : ℕ) → Among (BodyOf t b) (names sh) → HasBlock sh t b
  block_of_body t b a = among_four (BodyOf t b) a
      (λ a. let x = map_member HeadOf (below (length sh.tables)) (BodyOf t b) a in absurd (no_head x.0 x.2))
      (λ a. let r = flat_member (λ t. map (ShardOf t) (below 8)) (below (length sh.tables)) (BodyOf t b) a in let q = map_member (ShardOf r.0) (below 8) (BodyOf t b) r.2 in absurd (no_shard r.0 q.0 q.2))
      (λ a. let r = flat_member (λ t. map (BodyOf t) (below (blocks_of sh t))) (below (length sh.tables)) (BodyOf t b) a in let q = map_member (BodyOf r.0) (below (blocks_of sh r.0)) (BodyOf t b) r.2 in
      let same : t ≡ r.0 = one t b r.0 q.0 q.2 in let also : b ≡ q.0 = two t b r.0 q.0 q.2 in
      let less = member_below 0 (length sh.tables) r.0 r.1 in let small = member_below 0 (blocks_of sh r.0) q.0 q.1 in
      (omega (arith, same, less), subst (λ u. b < blocks_of sh u) (sym same) (omega (arith, also, small))))
      last
    where
      one : (t b u c : ℕ) → BodyOf t b ≡ BodyOf u c → t ≡ u
      one t b u c e = cc

      two : (t b u c : ℕ) → BodyOf t b ≡ BodyOf u c → b ≡ c
      two t b u c e = cc

      no_head : (x : ℕ) → BodyOf t b ≡ HeadOf x → ⊥
      no_head x e = cc

      no_shard : (x y : ℕ) → BodyOf t b ≡ ShardOf x y → ⊥
      no_shard x y e = cc

      last : Among (BodyOf t b) (TheDesk ∷ []) → HasBlock sh t b
      last (inl e) = cc
      last (inr x) = absurd x

  -- a head in the hand is a table's
  pub head_there : (hand : Held) (t : ℕ) → Has sh hand (HeadOf t) → HasTable sh t
  head_there hand t has = let x = a_head sh hand t has in table_of_head t (held_among (names sh) hand (HeadOf t) (part.Head x.0) x.1)

  -- a shard in the hand is one of a table's eight
  pub shard_there : (hand : Held) (t i : ℕ) → Has sh hand (ShardOf t i) → HasTable sh t × (i < 8)
  shard_there hand t i has = let x = a_shard sh hand t i has in table_of_shard t i (held_among (names sh) hand (ShardOf t i) (part.Shard x.0) x.1)

  -- a body in the hand is of a table's block
  pub body_there : (hand : Held) (t b : ℕ) → Has sh hand (BodyOf t b) → HasBlock sh t b
  body_there hand t b has = let x = a_body sh hand t b has in block_of_body t b (held_among (names sh) hand (BodyOf t b) (part.Body x.0) x.1)
