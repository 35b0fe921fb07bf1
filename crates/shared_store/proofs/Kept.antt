-- Parts that a pass keeps from one block to the next, and what it is as if it had given them back.
use Rattle.std.proofs.Common.{◌≡◌, ◌≢◌, ◌⊎◌, ℕ, zero, suc, ◌+◌, ◌*◌, ◌<◌, ◌≤◌, Bool, true, false, ◌||◌, List, [], ◌∷◌, Option, None, Some, length, map, set, refl, sym, ap, subst, ◌∙◌, arith}
use mathlib.Core.Logic.{inl, inr}
use Rattle.std.specs.Prelude.{slice_get, slice_index}
use Rattle.std.proofs.lemmas.List.{length-map}
use Rattle.std.proofs.lemmas.Bool.{or_cases, or_left, or_right}
use Rattle.cell_model.specs.declared.table.TableDecl.{TableDecl}
use Rattle.core_parts.specs.Numbers.{first_bodies}
use Rattle.core_parts.proofs.Numbering.{body_at_number, first_at, head_at_number, shard_at_number}
use Rattle.core_parts.proofs.Placing.{named_once, number_less}
use Rattle.core_parts.proofs.Telling.{block_of_body, table_of_head, table_of_shard}
use Rattle.core_laws.proofs.Events.States.{name_is}
use Rattle.event_spec.specs.declared.event.Event.TheVariants as event
use Rattle.event_spec.specs.declared.own.OwnTransaction.{OwnTransaction}
use Rattle.event_spec.specs.Effects.{CoreEvent}
use Rattle.event_spec.specs.Parts.{BodyOf, CorePart, HeadOf, Name, ShardOf, Shape, TheDesk, held_named, names, same_name}
use Rattle.event_spec.specs.Replay.{opening_part}
use Rattle.event_spec.specs.Touched.{is_shard_in, passes_test, touched, touching}
use Rattle.core_laws.proofs.Frames.Looks.{got_among, name_self, true_false}
use Rattle.hall_rule.proofs.Lists.{by_cases, get_set_else, get_set_here}
use Rattle.hall_rule.specs.Hands.{Covers, Holds, IsAboveAll, SameRoom}
use Rattle.hall_steps.specs.Hall.{EachHand, Knows, Settled, first_of, spares_of}
use Rattle.hall_steps.proofs.Knowing.{same_holds}
use Rattle.store_laws.specs.Logs.{store_meaning}
use Rattle.shared_store.specs.Keeping.{IsOnBlock, Keeps, beside_observe, beside_prune, emptied, is_low, rested_hands, rested_seat}
use Rattle.shared_store.specs.Store.{HandsView, IsAt, IsWithin, SeatView, StoreView, shape_in}
use Rattle.shared_store.proofs.Hands.{agrees_with}
use Rattle.shared_store.proofs.Made.{one_hand}

-- ---- heads and shards stand before bodies

-- The first body of a table is not in front of the number to count from.
start_from : (from : ℕ) (tables : List TableDecl) (t start : ℕ) → slice_get (first_bodies from tables) t ≡ Some start → from ≤ start
start_from from [] t start is = cc
start_from from (decl ∷ tables) zero start is = let same : from ≡ start = cc in omega (arith, same)
start_from from (decl ∷ tables) (suc t) start is = let rest = start_from (from + decl.blocks) tables t start is in omega (arith, rest)

module _ (sh : Shape) where
  -- A body's number is behind those of all heads and shards.
  body_high : (t b j : ℕ) → slice_get (names sh) j ≡ Some (BodyOf t b) → 9 * length sh.tables ≤ j
  body_high t b j at =
      let has = block_of_body sh t b (got_among (names sh) j (BodyOf t b) at) in
      let first = first_at (9 * length sh.tables) sh.tables t has.0 in
      let low = start_from (9 * length sh.tables) sh.tables t first.0 first.1 in
      let same = named_once sh j (first.0 + b) (BodyOf t b) at (body_at_number sh t b first.0 has first.1) in
      omega (arith, low, same)

  -- A head or a shard has a number in front of those of all bodies.
  low_under : (n : Name) (k : ℕ) → slice_get (names sh) k ≡ Some n → is_low n ≡ true → k < 9 * length sh.tables
  low_under (HeadOf t) k at low =
      let has = table_of_head sh t (got_among (names sh) k (HeadOf t) at) in
      let same = named_once sh k t (HeadOf t) at (head_at_number sh t has) in
      omega (arith, has, same)
  low_under (ShardOf t i) k at low =
      let has = table_of_shard sh t i (got_among (names sh) k (ShardOf t i) at) in
      let table = has.0 in
      let small = has.1 in
      let same = named_once sh k (length sh.tables + (8 * t + i)) (ShardOf t i) at (shard_at_number sh t i table small) in
      omega (arith, table, small, same)
  low_under (BodyOf t b) k at low = absurd (true_false (sym low))
  low_under TheDesk k at low = absurd (true_false (sym low))

-- ---- which parts an event on a block touches

-- The last two of three may be swapped in a disjunction.
or_swap : (a b c : Bool) → ((a || b) || c) ≡ ((a || c) || b)
or_swap true b c = refl
or_swap false true true = refl
or_swap false true false = refl
or_swap false false true = refl
or_swap false false false = refl

-- What a pruning touches beside a body is a head or a shard.
prune_low : (t : ℕ) (name : Name) → beside_prune t name ≡ true → is_low name ≡ true
prune_low t (HeadOf u) is = refl
prune_low t (ShardOf u i) is = refl
prune_low t (BodyOf u b) is = is
prune_low t TheDesk is = is

-- What an observe touches beside a body is a head.
observe_low : (t : ℕ) (name : Name) → beside_observe t name ≡ true → is_low name ≡ true
observe_low t (HeadOf u) is = refl
observe_low t (ShardOf u i) is = refl
observe_low t (BodyOf u b) is = is
observe_low t TheDesk is = is

-- a pruning of a block touches its body, and beside it the table's head and shards
pub prune_on_block : (sh : Shape) (t b oldest : ℕ) → IsOnBlock sh (beside_prune t) t b (event.Prune t b oldest)
prune_on_block sh t b oldest = record {
  touches = λ held name. or_swap (same_name (HeadOf t) name) (same_name (BodyOf t b) name) (is_shard_in t name);
  low = prune_low t;
}

-- an observe of a block touches its body, and beside it the table's head
pub observe_on_block : (sh : Shape) (t b : ℕ) → IsOnBlock sh (beside_observe t) t b (event.Observe t b)
observe_on_block sh t b = record { touches = λ held name. refl; low = observe_low t }

-- ---- a pass that gave all back

-- an empty place of a hand holds no part
pub part_is_none : (p : CorePart) → Some None ≡ Some (Some p) → ⊥
part_is_none p e = cc

-- A hand that was emptied holds no part.
nothing_there : (hand : List (Option CorePart)) (k : ℕ) (p : CorePart) → slice_get (emptied hand) k ≡ Some (Some p) → ⊥
nothing_there [] k p is = cc
nothing_there (place ∷ hand) zero p is = part_is_none p is
nothing_there (place ∷ hand) (suc k) p is = nothing_there hand k p is

-- The first hand of a pass as if at rest holds no part.
none_in_first : (hands : HandsView) (k : ℕ) → ¬ Holds (first_of (rested_hands hands)) k
none_in_first [] k held = nothing_there [] k held.0 held.1
none_in_first (hand ∷ hands) k held = nothing_there hand k held.0 held.1

-- Stages that are all set to zero are zero.
all_zero : (stages : List ℕ) (k : ℕ) → slice_index (map (λ stage. 0) stages) k ≡ 0
all_zero [] zero = refl
all_zero [] (suc k) = refl
all_zero (s ∷ stages) zero = refl
all_zero (s ∷ stages) (suc k) = all_zero stages k

-- Hands as if at rest have as many places as they had.
rested_places : (n : ℕ) (hands : HandsView) → EachHand (λ hand. length hand ≡ n) hands → EachHand (λ hand. length hand ≡ n) (rested_hands hands)
rested_places n [] each = tt
rested_places n (hand ∷ hands) each = (length-map hand (λ place. None) ∙ each.0, rested_places n hands each.1)

-- Hands as if at rest hold no part.
rested_empty : (hands : HandsView) → EachHand (λ hand. (k : ℕ) → ¬ Holds hand k) (rested_hands hands)
rested_empty [] = tt
rested_empty (hand ∷ hands) = (λ k held. nothing_there hand k held.0 held.1, rested_empty hands)

-- The spare hands of a pass as if at rest hold no part.
rested_spares : (hands : HandsView) → EachHand (λ hand. (k : ℕ) → ¬ Holds hand k) (spares_of (rested_hands hands))
rested_spares [] = tt
rested_spares (hand ∷ hands) = rested_empty hands

module _ (store : StoreView) (session : ℕ) (seat : SeatView) (hands : HandsView) (own : Option OwnTransaction) (is : IsWithin store session seat hands own) where
  -- A pass as if it had given all back knows what it must of its log and its hand.
  rested_knows : Knows (store_meaning (shape_in store)) seat.id (rested_seat seat).me (first_of (rested_hands hands))
  rested_knows = let k = is.pass.of.1 in record {
    none_out = k.none_out;
    home = k.home;
    live = k.live;
    stages = length-map seat.me.0.stages (λ stage. 0) ∙ k.stages;
    begins = k.begins;
    few_hands = k.few_hands;
    sound = k.sound;
    lawful = k.lawful;
    mine = k.mine;
    total = k.total;
    distinct = k.distinct;
    room = k.room;
    agrees = λ i p at. absurd (none_in_first hands i (p, at));
    held = λ i held. absurd (none_in_first hands i held);
    away = λ i away. all_zero seat.me.0.stages i;
    few = k.few;
    budget = k.budget;
    limit = k.limit;
    tied = k.tied;
    wide = k.wide;
    no_bump = k.no_bump;
    claims = k.claims;
    imaged = k.imaged;
  }

  -- It is about to thaw none.
  rested_settled : Settled (store_meaning (shape_in store)) 0 (rested_seat seat).me (first_of (rested_hands hands))
  rested_settled = record {
    worn = λ i p other at. absurd (none_in_first hands i (p, at));
    hot = λ i p same at. absurd (none_in_first hands i (p, at));
    drained = is.pass.of.2.drained;
  }

  -- A pass is one that holds no part, as if it had given back all that it holds.
  pub rested_at : IsAt store session (rested_seat seat) (rested_hands hands) own
  rested_at = record {
    within = record {
      pass = record {
        of = (is.pass.of.0, rested_knows, rested_settled);
        count = length-map hands emptied ∙ is.pass.count;
        places = rested_places (length (store_meaning (shape_in store)).start) hands is.pass.places;
        spares = rested_spares hands;
      };
      knows = record { sessions = is.knows.sessions; sole = is.knows.sole; under = is.knows.under; own_is = is.knows.own_is; opened = is.knows.opened };
    };
    empty = none_in_first hands;
  }

  -- its hand has a place for each part
  pub hand_room : length (first_of hands) ≡ length (names (shape_in store))
  hand_room =
      (agrees_with store seat hands is.pass (one_hand store session seat hands own is)).0
      ∙ is.pass.of.1.room ∙ length-map (names (shape_in store)) (opening_part (shape_in store))

-- ---- a body comes to the parts that are kept, and goes

module _ (sh : Shape) (common : Name → Bool) (t b body : ℕ) (e : CoreEvent)
    (at : slice_get (names sh) body ≡ Some (BodyOf t b)) (on : IsOnBlock sh common t b e)
  where
    abbrev Hand : Type 0
    Hand = List (Option CorePart)

    -- what a name says of its part's number
    named : (hand : Hand) (k : ℕ) (n : Name) → slice_get (names sh) k ≡ Some n → touching sh e hand k ≡ (common n || same_name (BodyOf t b) n)
    named hand k n is = ap (passes_test (touched sh (held_named (names sh) hand) e)) is ∙ on.touches (held_named (names sh) hand) n

    -- a part that is touched is the body or one that is kept
    kind_of : (hand : Hand) (k : ℕ) → touching sh e hand k ≡ true → (k ≡ body) ⊎ (passes_test common (slice_get (names sh) k) ≡ true)
    kind_of hand k is = go (slice_get (names sh) k) refl
      where
        go : (o : Option Name) → slice_get (names sh) k ≡ o → (k ≡ body) ⊎ (passes_test common (slice_get (names sh) k) ≡ true)
        go None none' = absurd (true_false (sym is ∙ ap (passes_test (touched sh (held_named (names sh) hand) e)) none'))
        go (Some n) some = by (or_cases (common n) (same_name (BodyOf t b) n) (sym (named hand k n some) ∙ is))
          where
            by : (common n ≡ true) ⊎ (same_name (BodyOf t b) n ≡ true) → (k ≡ body) ⊎ (passes_test common (slice_get (names sh) k) ≡ true)
            by (inl kept) = inr (ap (passes_test common) some ∙ kept)
            by (inr same) = inl (named_once sh k body n some (at ∙ ap Some (name_is (BodyOf t b) n same)))

    -- one that is kept is touched, and is not the body
    kept_touched : (hand : Hand) (k : ℕ) → passes_test common (slice_get (names sh) k) ≡ true → touching sh e hand k ≡ true
    kept_touched hand k is = go (slice_get (names sh) k) refl is
      where
        go : (o : Option Name) → slice_get (names sh) k ≡ o → passes_test common o ≡ true → touching sh e hand k ≡ true
        go None none' kept = absurd (true_false (sym kept))
        go (Some n) some kept = named hand k n some ∙ or_left (common n) (same_name (BodyOf t b) n) kept

    -- the event on the block touches the block's body
    pub body_touched : (hand : Hand) → touching sh e hand body ≡ true
    body_touched hand = named hand body (BodyOf t b) at ∙ or_right (common (BodyOf t b)) (same_name (BodyOf t b) (BodyOf t b)) (name_self (BodyOf t b))

    kept_low : (k : ℕ) → passes_test common (slice_get (names sh) k) ≡ true → k < body
    kept_low k is = go (slice_get (names sh) k) refl is
      where
        go : (o : Option Name) → slice_get (names sh) k ≡ o → passes_test common o ≡ true → k < body
        go None none' kept = absurd (true_false (sym kept))
        go (Some n) some kept = let a = low_under sh n k some (on.low n kept) in let c = body_high sh t b body at in omega (arith, a, c)

    -- the body is above all that are kept
    pub above_kept : (hand : Hand) → Keeps sh common hand → IsAboveAll body hand
    above_kept hand keeps k held = kept_low k (keeps.only k held)

    module _ (hand later : Hand) (p : CorePart) (room : length hand ≡ length (names sh)) (keeps : Keeps sh common hand) (is : later ≡ set hand body (Some p)) where
      holds_body : Holds later body
      holds_body = (p, ap (λ (h : Hand). slice_get h body) is ∙ get_set_here hand body (Some p) (let less = number_less sh (BodyOf t b) body at in omega (arith, less, room)))

      still_held : (k : ℕ) → Holds hand k → k ≢ body → Holds later k
      still_held k held ne = (held.0, ap (λ (h : Hand). slice_get h k) is ∙ get_set_else hand body k (Some p) ne ∙ held.1)

      -- with the body all that the event touches is held
      pub covers_with : Covers (touching sh e) later
      covers_with k less touched' = go (kind_of later k touched')
        where
          kept : (o : Option Name) → slice_get (names sh) k ≡ o → passes_test common o ≡ true → Holds later k
          kept None none' c = absurd (true_false (sym c))
          kept (Some n) some c = still_held k (keeps.all k n some c) (λ same. let l = kept_low k (ap (passes_test common) some ∙ c) in absurd (omega (arith, l, same)))

          go : (k ≡ body) ⊎ (passes_test common (slice_get (names sh) k) ≡ true) → Holds later k
          go (inl same) = subst (Holds later) (sym same) holds_body
          go (inr c) = kept (slice_get (names sh) k) refl c

      -- and nothing else
      pub only_with : (k : ℕ) → Holds later k → touching sh e later k ≡ true
      only_with k held = by_cases k body (touching sh e later k ≡ true)
          (λ same. ap (touching sh e later) same ∙ body_touched later)
          (λ ne. kept_touched later k (keeps.only k (held.0, sym (get_set_else hand body k (Some p) ne) ∙ ap (λ (h : Hand). slice_get h k) (sym is) ∙ held.1)))

    module _ (hand mid later : Hand) (room : length hand ≡ length (names sh)) (covers : Covers (touching sh e) hand)
        (only : (k : ℕ) → Holds hand k → touching sh e hand k ≡ true) (same : SameRoom hand mid) (is : later ≡ set mid body None)
      where
        -- the body is held
        pub body_held : Holds mid body
        body_held = same.held body (covers body (let less = number_less sh (BodyOf t b) body at in omega (arith, less, room)) (body_touched hand))

        -- without the body the parts are left that are kept
        pub keeps_without : Keeps sh common later
        keeps_without = record {
          all = λ k n some kept.
              let c : passes_test common (slice_get (names sh) k) ≡ true = ap (passes_test common) some ∙ kept in
              let l = kept_low k c in
              let h = same.held k (covers k (let less = number_less sh n k some in omega (arith, less, room)) (kept_touched hand k c)) in
              (h.0, ap (λ (h : Hand). slice_get h k) is ∙ get_set_else mid body k None (λ e. absurd (omega (arith, e, l))) ∙ h.1);
          only = λ k held. by_cases k body (passes_test common (slice_get (names sh) k) ≡ true)
              (λ e. absurd (gone k e held))
              (λ ne.
              let h : Holds mid k = (held.0, sym (get_set_else mid body k None ne) ∙ ap (λ (h : Hand). slice_get h k) (sym is) ∙ held.1) in
              kept_of k ne (kind_of hand k (only k (same_holds hand mid same k h))));
        }
          where
            gone : (k : ℕ) → k ≡ body → ¬ Holds later k
            gone k e held =
                let h : Holds later body = subst (Holds later) e held in
                let less = number_less sh (BodyOf t b) body at in
                let places = same.places in
                part_is_none h.0 (sym (get_set_here mid body None (omega (arith, less, room, places))) ∙ ap (λ (h : Hand). slice_get h body) (sym is) ∙ h.1)

            kept_of : (k : ℕ) → k ≢ body → (k ≡ body) ⊎ (passes_test common (slice_get (names sh) k) ≡ true) → passes_test common (slice_get (names sh) k) ≡ true
            kept_of k ne (inl e) = absurd (ne e)
            kept_of k ne (inr c) = c
