-- Where a key's row lies, and what a sealed body has.
use Rattle.std.proofs.Common.{◌≡◌, ℕ, suc, ◌-◌, ◌<◌, ◌≤◌, ◌^◌, ◌&&◌, ℤ, Bool, true, false, cond, IfOk, Result, Ok, Err, List, [], ◌∷◌, Option, None, Some, drop, is_some, length, map, take, refl, sym, ap, ◌∙◌, subst, arith}
use mathlib.Core.Logic.{inl, inr}
use Rattle.std.proofs.lemmas.List.{length-map}
use Rattle.std.proofs.lemmas.List.Sums.{count_by-le-length}
use Rattle.std.specs.Prelude.{IfSome, count_by, flat_map, option_and_then, option_to_list}
use Rattle.std.specs.Option.{option_or}
use Rattle.block_layout.specs.Place.{block_of, slot_of}
use Rattle.block_spec.specs.Bodies.{Body, has_row, is_front, is_imaged, is_loose, rows_of, slot_in}
use Rattle.block_spec.specs.declared.phase.Phase.TheVariants.{Imaged, Loose, Sealed}
use Rattle.block_spec.specs.Slots.{Row, Slot}
use Rattle.core_parts.proofs.Front.{front_rows}
use Rattle.core_parts.proofs.Telling.{a_body, a_shard, body_is, body_there, places_are}
use Rattle.core_parts.specs.Hands.{Has, Held, in_hand}
use Rattle.engine_core.proofs.Wholes.{agrees, has_its_body, has_its_shard}
use Rattle.engine_core.specs.Asks.{HasKeyParts, IsOfCore, imaged_block, newest_of}
use Rattle.engine_core.specs.Core.{IsWhole, parts_in}
use Rattle.event_spec.specs.declared.part.Part.TheVariants as part
use Rattle.event_spec.specs.Follows.{StandsBefore}
use Rattle.event_spec.specs.Judged.{current_place}
use Rattle.event_spec.specs.Lawful.{Among, HasBlock, HasTable, IsImageOf, IsThawed}
use Rattle.event_spec.specs.Parts.{Parts, Shape, ShardOf, BodyOf, body_at, body_from, places_at, shard_from, shard_of, slot_at}
use Rattle.event_spec.specs.Sound.{BodyHolds}
use Rattle.core_laws.specs.Frames.Shards.{CoreHolds}
use Rattle.hall_rule.specs.Hands.{Agrees}
use Rattle.core_events.specs.Candidates.{candidates_in}
use Rattle.key_index.specs.Candidates.{candidates_of}
use Rattle.core_events.specs.Slots.{HasSlots}
use Rattle.core_laws.proofs.Slots.Ages.{before_among, no_row}
use Rattle.core_laws.proofs.Sound.Written.{filled_there}

-- the candidates are the core's
candidates_by : (sh : Shape) (hand : Held) (t : ℕ) (key : ℤ) → Has sh hand (ShardOf t (shard_of key)) → (s : Parts) → Agrees hand s → places_at sh s t key ≡ candidates_in sh hand t key
candidates_by sh hand t key has s agrees = let x = a_shard sh hand t (shard_of key) has in places_are sh hand s agrees t key x.0 x.1 ∙ ap (λ o. candidates_of (shard_from o) key) (sym x.1)

-- a hand that has every part has what tells where a key's row lies
pub has_key_parts : (sh : Shape) (hand : Held) (t : ℕ) (key : ℤ) → IsWhole sh hand → HasTable sh t → HasKeyParts sh hand t key
has_key_parts sh hand t key whole has =
    let s = parts_in hand in
    let shard = has_its_shard sh hand whole t key has in
    record {
      shard = shard;
      bodies = λ place a.
          let there = filled_there sh s whole.holds.sound t place (whole.holds.sound.follows.1.index.filled t place key (subst (Among place) (sym (candidates_by sh hand t key shard s (agrees sh hand whole))) a)) in
          has_its_body sh hand whole t (block_of place) there.0;
    }

module _ (sh : Shape) (hand : Held) (t : ℕ) (key : ℤ) (has : HasKeyParts sh hand t key) where
  -- the hand's candidates of the key are the core's
  pub candidates_are : (s : Parts) → Agrees hand s → places_at sh s t key ≡ candidates_in sh hand t key
  candidates_are = candidates_by sh hand t key has.shard

  -- each candidate has its slot in the hand
  pub slots_are : IsOfCore sh hand → HasSlots sh hand t (candidates_in sh hand t key)
  slots_are core p a =
      let there = filled_there sh core.parts core.holds.sound t p (core.holds.sound.follows.1.index.filled t p key (subst (Among p) (sym (candidates_are core.parts core.agrees)) a)) in
      let x = a_body sh hand t (block_of p) (has.bodies p a) in
      record {
        body = has.bodies p a;
        slot = subst (λ (b : Body). slot_of p < length b.slots) (body_is sh hand core.parts core.agrees t (block_of p) x.0 x.1 ∙ ap body_from (sym x.1)) there.1;
      }

-- The block of the current row is not imaged, where no imaged one is told.
pub thawed_where : (sh : Shape) (s : Parts) (t : ℕ) (key : ℤ) → imaged_block sh s t key ≡ None → IsThawed sh t key s
thawed_where sh s t key none = go (current_place (slot_at sh s t) (places_at sh s t key)) none
  where
    at : (b : Bool) (block : ℕ) → cond b (Some block) None ≡ None → b ≡ false
    at true block e = cc
    at false block e = refl

    go : (o : Option ℕ) → option_and_then (λ place. cond (is_imaged (body_at sh s t (block_of place)).phase) (Some (block_of place)) None) o ≡ None
        → IfSome o (λ place. is_imaged (body_at sh s t (block_of place)).phase ≡ false)
    go None e = tt
    go (Some p) e = at (is_imaged (body_at sh s t (block_of p)).phase) (block_of p) e

module _ (sh : Shape) (hand : Held) (s : Parts) (t : ℕ) (key : ℤ) where
  -- the imaged block, where the current row lies at this place
  abbrev pub imaged_where : Option ℕ → Option ℕ
  imaged_where o = option_and_then (λ place. cond (is_imaged (body_at sh s t (block_of place)).phase) (Some (block_of place)) None) o

  -- the imaged block that the current place tells is the core's
  pub imaged_told : (places : List ℕ) (o : Option ℕ) → places_at sh s t key ≡ places → o ≡ current_place (slot_at sh s t) places → imaged_where o ≡ imaged_block sh s t key
  imaged_told places o are is = ap imaged_where (is ∙ ap (current_place (slot_at sh s t)) (sym are))

  -- the block of the place is imaged, or it is not
  pub imaged_by : (b p : ℕ) (x : Body) → b ≡ block_of p → in_hand sh hand (BodyOf t b) ≡ Some (part.Body x) → Agrees hand s → (imaged : Bool) → is_imaged x.phase ≡ imaged
      → cond imaged (Some b) None ≡ imaged_where (Some p)
  imaged_by b p x at is agrees imaged told =
      ap (λ (i : Bool). cond i (some_block b) None) (sym (ap (λ (y : Body). is_imaged y.phase) (body_is sh hand s agrees t b x is) ∙ told))
      ∙ ap (λ block. cond (is_imaged (body_at sh s t block).phase) (some_block block) None) at
    where
      some_block : ℕ → Option ℕ
      some_block block = Some block

-- ---- the newest candidate

-- the newest is the last of the places
pub newest_last : (places : List ℕ) → drop (length places - 1) places ≡ newest_of places
newest_last [] = refl
newest_last (p ∷ []) = refl
newest_last (p ∷ q ∷ places) =
    ap (λ n. drop n (p ∷ q ∷ places)) (let e : length (p ∷ q ∷ places) - 1 ≡ suc (length (q ∷ places) - 1) = omega arith in e)
    ∙ newest_last (q ∷ places)

-- it is one of them
newest_among : (places : List ℕ) (r : ℕ) → Among r (newest_of places) → Among r places
newest_among [] r a = a
newest_among (p ∷ []) r a = a
newest_among (p ∷ q ∷ places) r a = inr (newest_among (q ∷ places) r a)

-- The current row lies there, where no place before another has one.
current_newest : (slot : ℕ → Slot) (places : List ℕ) → ((one other : ℕ) → StandsBefore one other places → (slot one).row ≡ None)
    → current_place slot (newest_of places) ≡ current_place slot places
current_newest slot [] none = refl
current_newest slot (p ∷ []) none = refl
current_newest slot (p ∷ q ∷ places) none =
    current_newest slot (q ∷ places) (λ one other b. none one other (inr b))
    ∙ ap (λ (row : Option Row). option_or (cond (is_some row) (Some p) None) (current_place slot (q ∷ places))) (sym (none p q (inl (refl, inl refl))))

module _ (sh : Shape) (hand : Held) (t : ℕ) (key : ℤ) (has : HasKeyParts sh hand t key) (core : IsOfCore sh hand) where
  -- an older candidate has no row
  none_older : (s : Parts) → Agrees hand s → (one other : ℕ) → StandsBefore one other (candidates_in sh hand t key) → (slot_at sh s t one).row ≡ None
  none_older s agrees one other b =
      let x = a_body sh hand t (block_of one) (has.bodies one (before_among one other (candidates_in sh hand t key) b)) in
      let here = body_is sh hand s agrees t (block_of one) x.0 x.1 in
      let there = body_is sh hand core.parts core.agrees t (block_of one) x.0 x.1 in
      let old = core.holds.sound.follows.1.aged t key one other (subst (StandsBefore one other) (sym (candidates_are sh hand t key has core.parts core.agrees)) b) in
      ap (λ (body : Body). (slot_in body (slot_of one)).row) (here ∙ sym there)
      ∙ no_row (slot_at sh core.parts t one) old.settled

  -- so the current row lies at the newest, if anywhere
  pub current_there : (s : Parts) → Agrees hand s → current_place (slot_at sh s t) (newest_of (candidates_in sh hand t key)) ≡ current_place (slot_at sh s t) (candidates_in sh hand t key)
  current_there s agrees = current_newest (slot_at sh s t) (candidates_in sh hand t key) (none_older s agrees)

  -- and the newest has its slot in the hand
  pub newest_there : HasSlots sh hand t (newest_of (candidates_in sh hand t key))
  newest_there p a = slots_are sh hand t key has core p (newest_among (candidates_in sh hand t key) p a)

  -- and its block, where it is imaged, is the one that is told
  pub imaged_newest : (s : Parts) → Agrees hand s → (places : List ℕ) (o : Option ℕ) → places ≡ newest_of (candidates_in sh hand t key)
      → o ≡ current_place (slot_at sh s t) places → imaged_where sh hand s t key o ≡ imaged_block sh s t key
  imaged_newest s agrees places o are is =
      imaged_told sh hand s t key (candidates_in sh hand t key) o (candidates_are sh hand t key has s agrees)
      (is ∙ ap (current_place (slot_at sh s t)) are ∙ current_there s agrees)

-- ---- a sealed body's rows

-- Where a conjunction is true, its second part is.
second : (a b : Bool) → (a && b) ≡ true → b ≡ true
second true b both = both
second false b both = cc

-- Rows that are put into slots and taken out again are the same.
rows_again : (batch : List Row) → flat_map (λ slot. option_to_list slot) (map (λ row. Some row) batch) ≡ batch
rows_again [] = refl
rows_again (row ∷ batch) = ap (λ (rest : List Row). row ∷ rest) (rows_again batch)

-- the rows of the first slots, as many as have one
pub front_is : (x : Body) (rows : ℕ) → is_front x.slots ≡ true → rows ≡ count_by is_some (map (λ (slot : Slot). slot.row) x.slots)
    → flat_map (λ slot. option_to_list slot) (take rows (map (λ (slot : Slot). slot.row) x.slots)) ≡ rows_of x
front_is x rows front is =
    ap (λ n. flat_map (λ slot. option_to_list slot) (take n (map (λ (slot : Slot). slot.row) x.slots))) is
    ∙ ap (λ (slots : List (Option Row)). flat_map (λ slot. option_to_list slot) slots) (front_rows x.slots front)
    ∙ rows_again (rows_of x)

-- how many slots have a row
pub rows_few : (x : Body) (rows : ℕ) → rows ≡ count_by is_some (map (λ (slot : Slot). slot.row) x.slots) → length x.slots ≤ 2 ^ 15 → rows ≤ 2 ^ 15
rows_few x rows is few =
    let most = count_by-le-length is_some (map (λ (slot : Slot). slot.row) x.slots) in
    let long = length-map x.slots (λ (slot : Slot). slot.row) in omega (arith, is, few, most, long)

-- the rows of a sealed body are its image
pub image_sealed : (x : Body) (rows : List Row) (stamp : ℕ) → x.phase ≡ Sealed stamp → rows ≡ rows_of x → IsImageOf (Some rows) x x.phase
image_sealed x rows stamp is same = subst (IsImageOf (Some rows) x) (sym is) (ap Some same)

-- a loose body has no image
pub image_loose : (x : Body) → x.phase ≡ Loose → IsImageOf None x x.phase
image_loose x is = subst (IsImageOf None x) (sym is) refl

-- a body that is imaged already is handed none
pub image_imaged : (x : Body) (stamp : ℕ) → x.phase ≡ Imaged stamp → IsImageOf None x x.phase
image_imaged x stamp is = subst (IsImageOf None x) (sym is) refl

module _ (sh : Shape) (hand : Held) (t b : ℕ) (x : Body) (is : in_hand sh hand (BodyOf t b) ≡ Some (part.Body x)) where
  -- what is the image of the body in the hand is that of the core's
  pub image_there : (image : Option (List Row)) → IsImageOf image x x.phase → (s : Parts) → Agrees hand s → IsImageOf image (body_at sh s t b) (body_at sh s t b).phase
  image_there image of s agrees = subst (λ (y : Body). IsImageOf image y y.phase) (sym (body_is sh hand s agrees t b x is)) of

  module _ (core : IsOfCore sh hand) (has : Has sh hand (BodyOf t b)) where
    there : HasBlock sh t b
    there = body_there sh hand t b has

    -- a sealed body has its rows in front
    pub sealed_front : (stamp : ℕ) → x.phase ≡ Sealed stamp → is_front x.slots ≡ true
    sealed_front stamp sealed =
        let here = body_is sh hand core.parts core.agrees t b x is in
        let holds = subst (BodyHolds sh t) here (core.holds.sound.bodies t b there) in
        second (has_row x) (is_front x.slots) (holds.dense (ap is_loose sealed))

    -- the body has at most 2^15 slots
    pub few_slots : length x.slots ≤ 2 ^ 15
    few_slots =
        let here = body_is sh hand core.parts core.agrees t b x is in
        let holds = subst (BodyHolds sh t) here (core.holds.sound.bodies t b there) in
        let many = holds.slots in
        let most = (core.holds.measures.slots t there.0).1 in omega (arith, many, most)

-- the image that is handed in, of the core whose parts all lie in the hand
pub image_of_whole : {E : Type 0} (sh : Shape) (hand : Held) (t b : ℕ) (whole : IsWhole sh hand) (r : Result (Option (List Row)) E)
    → IfOk r (λ image. (s : Parts) → CoreHolds sh s → Agrees hand s → IsImageOf image (body_at sh s t b) (body_at sh s t b).phase)
    → IfOk r (λ image. IsImageOf image (body_at sh (parts_in hand) t b) (body_at sh (parts_in hand) t b).phase)
image_of_whole sh hand t b whole (Ok image) of = of (parts_in hand) whole.holds (agrees sh hand whole)
image_of_whole sh hand t b whole (Err x) of = of
