-- A move of rows on the parts, pair by pair.
use Rattle.std.proofs.Common.{◌≡◌, ◌≢◌, ℕ, ◌<◌, ◌≤◌, ℤ, Bool, true, false, cond, ◌&&◌, ◌==◌, List, [], ◌∷◌, Some, option_map, fold, length, refl, sym, ap, ◌∙◌, subst, arith}
use mathlib.Core.Logic.{inl, inr}
use Rattle.std.proofs.lemmas.Bool.Decides.{nat_tests}
use Rattle.std.proofs.lemmas.List.{length-set}
use Rattle.block_layout.specs.Place.{block_of, slot_of}
use Rattle.block_spec.specs.Bodies.{Body, slot_in, with_slot}
use Rattle.block_spec.specs.Slots.{Slot, Row, bare, moved_out, moved_in}
use Rattle.core_laws.proofs.Events.Added.{place_added}
use Rattle.core_laws.proofs.Events.Apart.{Apart, AreFar}
use Rattle.core_laws.proofs.Events.Slots.{write_here, write_else}
use Rattle.core_laws.proofs.Events.States.{IsTwice, each_twice, named_changed, kinds_after, shards_after, desk_after, desk_at_after, places_stay, carried}
use Rattle.core_laws.proofs.Events.Still.{stays}
use Rattle.core_laws.specs.Events.Named.{KindIf, FollowsMachine}
use Rattle.event_spec.specs.declared.event.MovePair.{MovePair}
use Rattle.event_spec.specs.declared.part.Part.TheVariants as part
use Rattle.event_spec.specs.Effects.{at_both, with_place}
use Rattle.event_spec.specs.Lawful.{Among, HasTable, HasBlock, HasPlace}
use Rattle.event_spec.specs.Parts.{Parts, Shape, Changes, Name, BodyOf, ShardOf, nothing, changed, each_changed, names, part_named, slots_of, slot_at, places_at, desk_at, shard_of}
use Rattle.core_laws.proofs.Following.Stepping.{move_follows}
use Rattle.core_laws.specs.Following.Owned.{HasOpen}
use Rattle.core_laws.specs.Following.Steps.{IsAdded, IsMoved}
use Rattle.isolation_spec.specs.Machine.{IsolationMachine}
use Rattle.key_index.specs.Candidates.{Places}
use Rattle.core_laws.specs.Slots.Laws.{plain}
use Rattle.txn_desk.specs.declared.Snapshot.{Snapshot}
use Rattle.txn_desk.specs.Desk.{DeskState}

-- each body of a table has its table's slots
abbrev pub Wide : Shape → Parts → ℕ → Type 0
Wide sh s t = (b : ℕ) → HasBlock sh t b
    → (body : Body) × (part_named (names sh) s (BodyOf t b) ≡ Some (part.Body body)) × (length body.slots ≡ slots_of sh t)

-- bodies that keep how many slots they have keep their table's
pub wide_after : (sh : Shape) (s : Parts) (t : ℕ) (c : Changes) → ((b : ℕ) (x : Body) → length (c.body t b x).slots ≡ length x.slots)
    → Wide sh s t → Wide sh (each_changed c (names sh) s) t
wide_after sh s t c same wide = λ b has. let old = wide b has in (
  c.body t b old.0,
  named_changed c (names sh) s (BodyOf t b) ∙ ap (option_map (changed c (BodyOf t b))) old.1,
  same b old.0 ∙ old.2,
)

-- a change of one slot keeps how many slots a body has
pub length_at : (t b : ℕ) (j : ℕ) (g : Slot → Slot) (u x : ℕ) (body : Body) → length (at_both t b (with_slot j g) u x body).slots ≡ length body.slots
length_at t b j g u x body = go ((u == t) && (x == b))
  where
    go : (y : Bool) → length (cond y (with_slot j g body) body).slots ≡ length body.slots
    go true = length-set body.slots j (g (slot_in body j))
    go false = refl

-- ---- one pair

-- the changes of a pair's two halves
abbrev pub leaving : ℕ → ℕ → Row → (DeskState → DeskState) → MovePair → Changes
leaving t stamp row g pair = record nothing { body = at_both t (block_of pair.source) (with_slot (slot_of pair.source) (moved_out stamp row)); desk = g }

-- the changes of a pair's second half: the row comes to its target, a new candidate of its key
abbrev pub coming : ℕ → ℕ → Row → MovePair → Changes
coming t stamp row pair = record nothing {
  body = at_both t (block_of pair.target) (with_slot (slot_of pair.target) (moved_in stamp row));
  shard = at_both t (shard_of pair.key) (with_place pair.key pair.target);
}

-- the pair may move in this state
pub record IsReady (sh : Shape) (s : Parts) (t : ℕ) (row : Row) (pair : MovePair) : Type 0 where
  pub source_place : HasPlace sh t pair.source
  pub target_place : HasPlace sh t pair.target
  pub full : slot_at sh s t pair.source ≡ plain row
  pub listed : Among pair.source (places_at sh s t pair.key)
  pub free : slot_at sh s t pair.target ≡ bare

module _ (sh : Shape) (s : Parts) (m : IsolationMachine) (f : FollowsMachine sh s m) (t stamp : ℕ) (has : HasTable sh t) (wide : Wide sh s t)
    (g : DeskState → DeskState) (is : g (desk_at sh s) ≡ record (desk_at sh s) { newest = stamp })
    (newest : (desk_at sh s).newest ≤ stamp)
    (later : (session : ℕ) (snapshot : Snapshot) → HasOpen (desk_at sh s) session snapshot → snapshot.stamp < stamp)
    (row : Row) (pair : MovePair) (ready : IsReady sh s t row pair) (two : pair.source ≢ pair.target) where
  -- The changes of the pair's first half.
  abbrev first : Changes
  first = leaving t stamp row g pair

  -- The parts after the first half.
  abbrev half : Parts
  half = each_changed first (names sh) s

  -- The changes of the pair's second half.
  abbrev second : Changes
  second = coming t stamp row pair

  -- the parts after both halves of a pair
  abbrev pub pair_moved : Parts
  pair_moved = each_changed second (names sh) half

  -- After the first half each part is of its name's kind.
  kinds : (name : Name) → KindIf name (part_named (names sh) half name)
  kinds = kinds_after sh s first f.kinds

  -- After the first half each shard is there.
  shards : (u i : ℕ) → HasTable sh u → Rattle.std.proofs.Common.◌<◌ i 8 → (places : Places) × (part_named (names sh) half (ShardOf u i) ≡ Some (part.Shard places))
  shards = shards_after sh s first f.shards

  -- After the first half each body has its table's slots.
  wide_half : Wide sh half t
  wide_half = wide_after sh s t first (λ b x. length_at t (block_of pair.source) (slot_of pair.source) (moved_out stamp row) t b x) wide

  -- each body still has its table's slots
  pub pair_wide : Wide sh pair_moved t
  pair_wide = wide_after sh half t second (λ b x. length_at t (block_of pair.target) (slot_of pair.target) (moved_in stamp row) t b x) wide_half

  -- After the first half the row has left its source.
  left_here : slot_at sh half t pair.source ≡ moved_out stamp row (slot_at sh s t pair.source)
  left_here =
      let body = wide (block_of pair.source) ready.source_place.0 in
      let inside = ready.source_place.1 in let size = body.2 in
      write_here sh s first (moved_out stamp row) t pair.source body.0 f.kinds body.1 (omega (arith, inside, size)) (λ u b x. refl)

  -- The first half leaves each slot but the source.
  left_else : (u r : ℕ) → ((u ≡ t) → (r ≡ pair.source) → ⊥) → slot_at sh half u r ≡ slot_at sh s u r
  left_else =
      let body = wide (block_of pair.source) ready.source_place.0 in
      let inside = ready.source_place.1 in let size = body.2 in
      write_else sh s first (moved_out stamp row) t pair.source body.0 f.kinds body.1 (omega (arith, inside, size)) (λ u b x. refl)

  -- After the second half the row has come to its target.
  come_here : slot_at sh pair_moved t pair.target ≡ moved_in stamp row (slot_at sh half t pair.target)
  come_here =
      let body = wide_half (block_of pair.target) ready.target_place.0 in
      let inside = ready.target_place.1 in let size = body.2 in
      write_here sh half second (moved_in stamp row) t pair.target body.0 kinds body.1 (omega (arith, inside, size)) (λ u b x. refl)

  -- The second half leaves each slot but the target.
  come_else : (u r : ℕ) → ((u ≡ t) → (r ≡ pair.target) → ⊥) → slot_at sh pair_moved u r ≡ slot_at sh half u r
  come_else =
      let body = wide_half (block_of pair.target) ready.target_place.0 in
      let inside = ready.target_place.1 in let size = body.2 in
      write_else sh half second (moved_in stamp row) t pair.target body.0 kinds body.1 (omega (arith, inside, size)) (λ u b x. refl)

  -- the row has moved from its source to its target
  pub pair_slots : IsMoved (slot_at sh s) (slot_at sh pair_moved) stamp t pair.source pair.target row
  pair_slots = record {
    source_before = ready.full;
    target_before = ready.free;
    source_after = come_else t pair.source (λ e x. two x) ∙ left_here ∙ ap (moved_out stamp row) ready.full;
    target_after = come_here ∙ ap (moved_in stamp row) (left_else t pair.target (λ e x. two (sym x)) ∙ ready.free);
    others = λ u r not_source not_target. come_else u r not_target ∙ left_else u r not_source;
  }

  -- The first half leaves the candidates of each key.
  half_places : (u : ℕ) (k : ℤ) → places_at sh half u k ≡ places_at sh s u k
  half_places u k = places_stay sh s first (λ t i x. refl) u k (f.kinds (ShardOf u (shard_of k)))

  -- the target is a new candidate of the key
  pub pair_places : IsAdded (places_at sh s) (places_at sh pair_moved) t pair.target pair.key
  pair_places = subst (λ (places : ℕ → ℤ → List ℕ). IsAdded places (places_at sh pair_moved) t pair.target pair.key)
      (λ i u k. half_places u k i)
      (place_added sh half kinds shards second t pair.key pair.target has (λ u i x. refl))

  -- the desk has the move's stamp, and is else as it was
  pub pair_desk : desk_at sh pair_moved ≡ record (desk_at sh s) { newest = stamp }
  pair_desk =
      desk_at_after sh half second (g f.desk.0) (desk_after sh s first f.desk.0 f.desk.1)
      ∙ desk_at_after sh s first f.desk.0 f.desk.1 ∙ is

  -- After a pair has moved the parts still follow the machine.
  pub pair_follows : FollowsMachine sh pair_moved m
  pair_follows = record {
    kinds = kinds_after sh half second kinds;
    desk = (g f.desk.0, desk_after sh half second (g f.desk.0) (desk_after sh s first f.desk.0 f.desk.1));
    shards = shards_after sh half second shards;
    follows = carried m (λ u r. refl) (λ u k. refl) pair_desk
        (move_follows (slot_at sh s) (slot_at sh pair_moved) (places_at sh s) (places_at sh pair_moved) (desk_at sh s) m
        stamp t pair.source pair.target pair.key row f.follows newest later ready.listed pair_slots pair_places);
  }

  -- another pair stays ready
  pub pair_leaves : (row' : Row) (other : MovePair) → IsReady sh s t row' other → AreFar pair other → IsReady sh pair_moved t row' other
  pair_leaves row' other old far = record {
    source_place = old.source_place;
    target_place = old.target_place;
    full = pair_slots.others t other.source (λ e x. far.sources (sym x)) (λ e x. far.from (sym x)) ∙ old.full;
    listed = pair_places.kept t other.source other.key old.listed;
    free = pair_slots.others t other.target (λ e x. far.to (sym x)) (λ e x. far.targets (sym x)) ∙ old.free;
  }

-- ---- all pairs

-- a body after its halves of a pair, and a shard after its candidate
abbrev pub left_half : ℕ → (MovePair → Row) → ℕ → MovePair → Body → Body
left_half stamp row b pair body = cond (block_of pair.source == b) (with_slot (slot_of pair.source) (moved_out stamp (row pair)) body) body

-- a body after both halves of a pair
abbrev pub halves : ℕ → (MovePair → Row) → ℕ → Body → MovePair → Body
halves stamp row b body pair =
    cond (block_of pair.target == b) (with_slot (slot_of pair.target) (moved_in stamp (row pair)) (left_half stamp row b pair body)) (left_half stamp row b pair body)

-- a shard after a pair's candidate
abbrev pub placed_pair : ℕ → Places → MovePair → Places
placed_pair i places pair = cond (shard_of pair.key == i) (with_place pair.key pair.target places) places

-- the changes of several pairs, and what they make of the desk
abbrev pub moving : ℕ → ℕ → (MovePair → Row) → (DeskState → DeskState) → List MovePair → Changes
moving t stamp row g pairs = record nothing {
  shard = λ u i x. cond (u == t) (fold (placed_pair i) x pairs) x;
  body = λ u b x. cond (u == t) (fold (halves stamp row b) x pairs) x;
  desk = g;
}

-- The changes of both halves of a pair, and of the desk.
abbrev pairing : ℕ → ℕ → Row → (DeskState → DeskState) → MovePair → Changes
pairing t stamp row g pair = record nothing {
  shard = (coming t stamp row pair).shard;
  body = λ u b x. (coming t stamp row pair).body u b ((leaving t stamp row g pair).body u b x);
  desk = g;
}

-- The test of two numbers is the same in either order.
num_flip : (a b : ℕ) → (a == b) ≡ (b == a)
num_flip a b = grind (arith, nat_tests)

-- to move pairs is to move the first and then the rest
pub moving_first : (t stamp : ℕ) (row : MovePair → Row) (g : DeskState → DeskState) (first : MovePair) (rest : List MovePair)
    → IsTwice (pairing t stamp (row first) g first) (moving t stamp row (λ desk. desk) rest) (moving t stamp row g (first ∷ rest))
moving_first t stamp row g first rest = record {
  head = λ u x. refl;
  shard = λ u i x. shard' u i x (u == t) refl;
  body = λ u b x. body' u b x (u == t) refl;
  desk = λ x. refl;
}
  where
    shard' : (u i : ℕ) (x : Places) (y : Bool) → (u == t) ≡ y
        → cond (u == t) (fold (placed_pair i) (placed_pair i x first) rest) x
        ≡ cond (u == t) (fold (placed_pair i) (cond ((u == t) && (i == shard_of first.key)) (with_place first.key first.target x) x) rest) (cond ((u == t) && (i == shard_of first.key)) (with_place first.key first.target x) x)
    shard' u i x true e =
        ap (λ y. cond y (fold (placed_pair i) (placed_pair i x first) rest) x) e
        ∙ ap (λ z. fold (placed_pair i) (cond z (with_place first.key first.target x) x) rest) (num_flip (shard_of first.key) i)
        ∙ ap (λ y. cond y (fold (placed_pair i) (cond (y && (i == shard_of first.key)) (with_place first.key first.target x) x) rest) (cond (y && (i == shard_of first.key)) (with_place first.key first.target x) x)) (sym e)
    shard' u i x false e =
        ap (λ y. cond y (fold (placed_pair i) (placed_pair i x first) rest) x) e
        ∙ ap (λ y. cond y (fold (placed_pair i) (cond (y && (i == shard_of first.key)) (with_place first.key first.target x) x) rest) (cond (y && (i == shard_of first.key)) (with_place first.key first.target x) x)) (sym e)

    left : ℕ → Bool → Body → Body
    left b y x = cond (y && (b == block_of first.source)) (with_slot (slot_of first.source) (moved_out stamp (row first)) x) x

    body' : (u b : ℕ) (x : Body) (y : Bool) → (u == t) ≡ y
        → cond (u == t) (fold (halves stamp row b) (halves stamp row b x first) rest) x
        ≡ cond (u == t)
        (fold (halves stamp row b) (at_both t (block_of first.target) (with_slot (slot_of first.target) (moved_in stamp (row first))) u b (at_both t (block_of first.source) (with_slot (slot_of first.source) (moved_out stamp (row first))) u b x)) rest)
        (at_both t (block_of first.target) (with_slot (slot_of first.target) (moved_in stamp (row first))) u b (at_both t (block_of first.source) (with_slot (slot_of first.source) (moved_out stamp (row first))) u b x))
    body' u b x true e =
        ap (λ y. cond y (fold (halves stamp row b) (halves stamp row b x first) rest) x) e
        ∙ ap (λ z. fold (halves stamp row b) (cond z (with_slot (slot_of first.target) (moved_in stamp (row first)) (left_half stamp row b first x)) (left_half stamp row b first x)) rest) (num_flip (block_of first.target) b)
        ∙ ap (λ z. fold (halves stamp row b) (cond (b == block_of first.target)
        (with_slot (slot_of first.target) (moved_in stamp (row first)) (cond z (with_slot (slot_of first.source) (moved_out stamp (row first)) x) x))
        (cond z (with_slot (slot_of first.source) (moved_out stamp (row first)) x) x)) rest) (num_flip (block_of first.source) b)
        ∙ ap (λ y. cond y
        (fold (halves stamp row b) (cond (y && (b == block_of first.target)) (with_slot (slot_of first.target) (moved_in stamp (row first)) (cond (y && (b == block_of first.source)) (with_slot (slot_of first.source) (moved_out stamp (row first)) x) x)) (cond (y && (b == block_of first.source)) (with_slot (slot_of first.source) (moved_out stamp (row first)) x) x)) rest)
        (cond (y && (b == block_of first.target)) (with_slot (slot_of first.target) (moved_in stamp (row first)) (cond (y && (b == block_of first.source)) (with_slot (slot_of first.source) (moved_out stamp (row first)) x) x)) (cond (y && (b == block_of first.source)) (with_slot (slot_of first.source) (moved_out stamp (row first)) x) x))) (sym e)
    body' u b x false e =
        ap (λ y. cond y (fold (halves stamp row b) (halves stamp row b x first) rest) x) e
        ∙ ap (λ y. cond y
        (fold (halves stamp row b) (cond (y && (b == block_of first.target)) (with_slot (slot_of first.target) (moved_in stamp (row first)) (cond (y && (b == block_of first.source)) (with_slot (slot_of first.source) (moved_out stamp (row first)) x) x)) (cond (y && (b == block_of first.source)) (with_slot (slot_of first.source) (moved_out stamp (row first)) x) x)) rest)
        (cond (y && (b == block_of first.target)) (with_slot (slot_of first.target) (moved_in stamp (row first)) (cond (y && (b == block_of first.source)) (with_slot (slot_of first.source) (moved_out stamp (row first)) x) x)) (cond (y && (b == block_of first.source)) (with_slot (slot_of first.source) (moved_out stamp (row first)) x) x))) (sym e)

-- the parts after the first pair and the rest
pub moving_split : (sh : Shape) (s : Parts) (t stamp : ℕ) (row : MovePair → Row) (g : DeskState → DeskState) (first : MovePair) (rest : List MovePair)
    → each_changed (moving t stamp row g (first ∷ rest)) (names sh) s
    ≡ each_changed (moving t stamp row (λ desk. desk) rest) (names sh)
    (each_changed (coming t stamp (row first) first) (names sh) (each_changed (leaving t stamp (row first) g first) (names sh) s))
moving_split sh s t stamp row g first rest =
    each_twice (pairing t stamp (row first) g first) (moving t stamp row (λ desk. desk) rest) (moving t stamp row g (first ∷ rest)) (moving_first t stamp row g first rest) (names sh) s
    ∙ ap (each_changed (moving t stamp row (λ desk. desk) rest) (names sh))
    (each_twice (leaving t stamp (row first) g first) (coming t stamp (row first) first) (pairing t stamp (row first) g first)
    (record { head = λ u x. refl; shard = λ u i x. refl; body = λ u b x. refl; desk = λ x. refl }) (names sh) s)

-- A choice between two that are the same is either.
cond_same : {X : Type 0} (b : Bool) (x : X) → cond b x x ≡ x
cond_same true x = refl
cond_same false x = refl

-- to move no pair is to change nothing
pub moving_none : (sh : Shape) (s : Parts) (t stamp : ℕ) (row : MovePair → Row) → each_changed (moving t stamp row (λ desk. desk) []) (names sh) s ≡ each_changed nothing (names sh) s
moving_none sh s t stamp row = ap (λ (c : Changes). each_changed c (names sh) s) (λ i. record {
  head = λ u x. x;
  shard = λ u j x. cond_same (u == t) x i;
  body = λ u b x. cond_same (u == t) x i;
  desk = λ x. x;
})

-- Pairs that are apart and ready move one after another, and the parts follow the machine.
pub rest_follows : (sh : Shape) (t stamp : ℕ) (row : MovePair → Row) (m : IsolationMachine) → HasTable sh t
    → (pairs : List MovePair) (s : Parts) → FollowsMachine sh s m → Wide sh s t
    → (desk_at sh s).newest ≡ stamp
    → ((session : ℕ) (snapshot : Snapshot) → HasOpen (desk_at sh s) session snapshot → snapshot.stamp < stamp)
    → ((pair : MovePair) → Among pair pairs → IsReady sh s t (row pair) pair)
    → Apart pairs
    → FollowsMachine sh (each_changed (moving t stamp row (λ desk. desk) pairs) (names sh) s) m
rest_follows sh t stamp row m has [] s f wide newest later ready far =
    subst (λ parts. FollowsMachine sh parts m) (sym (moving_none sh s t stamp row)) (stays sh s m f)
rest_follows sh t stamp row m has (first ∷ rest) s f wide newest later ready far =
    subst (λ parts. FollowsMachine sh parts m) (sym (moving_split sh s t stamp row (λ desk. desk) first rest))
    (rest_follows sh t stamp row m has rest next
    (pair_follows sh s m f t stamp has wide (λ desk. desk) same low later (row first) first (ready first (inl refl)) far.0)
    (pair_wide sh s m f t stamp has wide (λ desk. desk) same low later (row first) first (ready first (inl refl)) far.0)
    (ap (λ (desk : DeskState). desk.newest) desk_is)
    (λ session snapshot open'. later session snapshot (record { counted = open'.counted; is_open = sym (ap (λ (desk : DeskState). Rattle.txn_desk.specs.Oldest.snapshot_of desk session) desk_is) ∙ open'.is_open }))
    (λ pair a. pair_leaves sh s m f t stamp has wide (λ desk. desk) same low later (row first) first (ready first (inl refl)) far.0 (row pair) pair (ready pair (inr a)) (far.1 pair a))
    far.2)
  where
    next : Parts
    next = each_changed (coming t stamp (row first) first) (names sh) (each_changed (leaving t stamp (row first) (λ desk. desk) first) (names sh) s)

    same : desk_at sh s ≡ record (desk_at sh s) { newest = stamp }
    same = ap (λ n. record (desk_at sh s) { newest = n }) newest

    low : (desk_at sh s).newest ≤ stamp
    low = omega (arith, newest)

    desk_is : desk_at sh (each_changed (coming t stamp (row first) first) (names sh) (each_changed (leaving t stamp (row first) (λ desk. desk) first) (names sh) s)) ≡ record (desk_at sh s) { newest = stamp }
    desk_is = pair_desk sh s m f t stamp has wide (λ desk. desk) (ap (λ n. record (desk_at sh s) { newest = n }) newest) (omega (arith, newest)) later (row first) first (ready first (inl refl)) far.0
