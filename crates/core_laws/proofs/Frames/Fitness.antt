-- What an event asks of its parts hangs on those that it touches.
use Rattle.std.proofs.Common.{◌≡◌, ℕ, ◌+◌, ◌<◌, ◌^◌, ℤ, true, false, cond, ◌==◌, List, [], ◌∷◌, ◌++◌, Option, None, Some, is_some, refl, sym, ap, ◌∙◌, subst, ◌||◌}
use mathlib.Core.Logic.{inl, inr}
use Rattle.std.specs.Prelude.{IfSome, option_to_list}
use Rattle.std.specs.List.{list_any}
use Rattle.std.specs.Option.{option_or}
use Rattle.std.proofs.lemmas.Option.{same_Some}
use Rattle.std.proofs.lemmas.Bool.{or_left, or_right, and_from}
use Rattle.block_layout.specs.Place.{block_of, slot_of}
use Rattle.block_spec.specs.Bodies.{Body, is_imaged, slot_in}
use Rattle.block_spec.specs.Slots.{Row, Slot}
use Rattle.core_laws.proofs.Events.Lists.{in_right}
use Rattle.core_laws.proofs.Events.Slots.{num_refl}
use Rattle.event_spec.specs.declared.event.Event.TheVariants as event
use Rattle.event_spec.specs.declared.event.MovePair.{MovePair}
use Rattle.event_spec.specs.Effects.{CoreEvent}
use Rattle.event_spec.specs.Judged.{current_place}
use Rattle.event_spec.specs.Lawful.{Among, HasStamp, IsImageOf, IsThawed}
use Rattle.event_spec.specs.Parts.{CorePart, Parts, Shape, Name, ShardOf, BodyOf, TheDesk, body_at, body_from, desk_from, held_named, names, part_at, places_at, same_name, shard_from, shard_of, slot_at}
use Rattle.event_spec.specs.Touched.{is_body_moved, touched_by_key, touching, is_body_written, touched_by_reads}
use Rattle.core_laws.proofs.Frames.Looks.{block_among, look, name_self, touches}
use Rattle.core_laws.specs.Frames.Laws.{Local}
use Rattle.hall_rule.specs.Hands.{Agrees, Covers}
use Rattle.isolation_spec.specs.Contents.{key_of}
use Rattle.key_index.specs.Candidates.{candidates_of}
use Rattle.txn_desk.specs.Desk.{DeskState}
use Rattle.event_spec.specs.Newest.{judged_reads}

-- the current place of a key is one of its places
pub current_among : (slot : ℕ → Slot) (places : List ℕ) (p : ℕ) → current_place slot places ≡ Some p → Among p places
current_among slot [] p is = cc
current_among slot (x ∷ places) p is = go (slot x).row refl is (current_among slot places p)
  where
    go : (o : Option Row) → (slot x).row ≡ o → option_or (cond (is_some (slot x).row) (Some x) None) (current_place slot places) ≡ Some p → (current_place slot places ≡ Some p → Among p places) → Among p (x ∷ places)
    go None here is rest = inr (rest (sym (ap (λ (o : Option Row). option_or (cond (is_some o) (Some x) None) (current_place slot places)) here) ∙ is))
    go (Some row) here is rest = inl (sym (same_Some x p (sym (ap (λ (o : Option Row). option_or (cond (is_some o) (Some x) None) (current_place slot places)) here) ∙ is)))

-- and is the same where the slots at these places are
pub current_same : (slot other : ℕ → Slot) (places : List ℕ) → ((p : ℕ) → Among p places → other p ≡ slot p) → current_place other places ≡ current_place slot places
current_same slot other [] same = refl
current_same slot other (x ∷ places) same =
    ap (λ (y : Slot). option_or (cond (is_some y.row) (Some x) None) (current_place other places)) (same x (inl refl))
    ∙ ap (option_or (cond (is_some (slot x).row) (Some x) None)) (current_same slot other places (λ p a. same p (inr a)))

-- the body of one of a key's places is touched
pub body_touched : (t : ℕ) (key : ℤ) (first places : List ℕ) (p : ℕ) → Among p places → touched_by_key t key (first ++ places) (BodyOf t (block_of p)) ≡ true
body_touched t key first places p a = and_from (t == t) (list_any (λ place. block_of place == block_of p) (first ++ places)) (num_refl t) (block_among (first ++ places) p (in_right first places p a))

-- what touches a key touches its shard
pub shard_touched : (t : ℕ) (key : ℤ) (places : List ℕ) → touched_by_key t key places (ShardOf t (shard_of key)) ≡ true
shard_touched t key places = or_left (same_name (ShardOf t (shard_of key)) (ShardOf t (shard_of key))) false (name_self (ShardOf t (shard_of key)))

module _ (sh : Shape) (e : CoreEvent) (hand : List (Option CorePart)) (s u : Parts) (covers : Covers (touching sh e) hand) (here : Agrees hand s) (there : Agrees hand u) where
  -- a part that is touched is the same in both
  pub part_same : (w : Name) → touches sh e hand w ≡ true → part_at sh u w ≡ part_at sh s w
  part_same w is = sym (look sh e hand u w covers there is) ∙ look sh e hand s w covers here is

  -- Where the desk is touched and one core has a next stamp, the other has one.
  stamp_same : touches sh e hand TheDesk ≡ true → HasStamp sh s → HasStamp sh u
  stamp_same is less = subst (λ (desk : DeskState). desk.newest + 1 < 2 ^ 63) (sym (ap desk_from (part_same TheDesk is))) less

  -- a body that is touched is the same in both
  pub body_same : (t b : ℕ) → touches sh e hand (BodyOf t b) ≡ true → body_at sh u t b ≡ body_at sh s t b
  body_same t b is = ap body_from (part_same (BodyOf t b) is)

  -- Where a key's shard and bodies are touched, a key thawed in one core is thawed in the other.
  thawed_same : (t : ℕ) (key : ℤ) → touches sh e hand (ShardOf t (shard_of key)) ≡ true
      → ((p : ℕ) → Among p (candidates_of (shard_from (held_named (names sh) hand (ShardOf t (shard_of key)))) key) → touches sh e hand (BodyOf t (block_of p)) ≡ true)
      → IsThawed sh t key s → IsThawed sh t key u
  thawed_same t key shard bodies thawed = go (current_place (slot_at sh s t) (places_at sh s t key)) refl
    where
      places : places_at sh u t key ≡ places_at sh s t key
      places = ap (λ o. candidates_of (shard_from o) key) (part_same (ShardOf t (shard_of key)) shard)

      held : candidates_of (shard_from (held_named (names sh) hand (ShardOf t (shard_of key)))) key ≡ places_at sh s t key
      held = ap (λ o. candidates_of (shard_from o) key) (look sh e hand s (ShardOf t (shard_of key)) covers here shard)

      body : (p : ℕ) → Among p (places_at sh s t key) → body_at sh u t (block_of p) ≡ body_at sh s t (block_of p)
      body p a = body_same t (block_of p) (bodies p (subst (Among p) (sym held) a))

      current : current_place (slot_at sh u t) (places_at sh u t key) ≡ current_place (slot_at sh s t) (places_at sh s t key)
      current =
          ap (current_place (slot_at sh u t)) places
          ∙ current_same (slot_at sh s t) (slot_at sh u t) (places_at sh s t key) (λ p a. ap (λ x. slot_in x (slot_of p)) (body p a))

      go : (o : Option ℕ) → current_place (slot_at sh s t) (places_at sh s t key) ≡ o
          → IfSome (current_place (slot_at sh u t) (places_at sh u t key)) (λ place. is_imaged (body_at sh u t (block_of place)).phase ≡ false)
      go None is = subst (λ o. IfSome o (λ place. is_imaged (body_at sh u t (block_of place)).phase ≡ false)) (sym (current ∙ is)) tt
      go (Some p) is =
          let free : is_imaged (body_at sh s t (block_of p)).phase ≡ false = subst (λ o. IfSome o (λ place. is_imaged (body_at sh s t (block_of place)).phase ≡ false)) is thawed in
          subst (λ o. IfSome o (λ place. is_imaged (body_at sh u t (block_of place)).phase ≡ false)) (sym (current ∙ is))
          (ap (λ (x : Body). is_imaged x.phase) (body p (current_among (slot_at sh s t) (places_at sh s t key) p is)) ∙ free)

-- What an event asks of its parts hangs on those that it touches.
pub local : Local
local sh (event.Begin q) hand s u covers here there fits = tt
local sh (event.Get own t key) hand s u covers here there fits = fits
local sh (event.Insert own t row) hand s u covers here there fits = fits
local sh (event.Update own t row) hand s u covers here there fits = (
  fits.0,
  fits.1,
  thawed_same sh (event.Update own t row) hand s u covers here there t (key_of row)
      (shard_touched t (key_of row) (option_to_list own.written ++ candidates_of (shard_from (held_named (names sh) hand (ShardOf t (shard_of (key_of row))))) (key_of row)))
      (body_touched t (key_of row) (option_to_list own.written) (candidates_of (shard_from (held_named (names sh) hand (ShardOf t (shard_of (key_of row))))) (key_of row)))
      fits.2,
)
local sh (event.Delete own t key) hand s u covers here there fits = (
  fits.0,
  thawed_same sh (event.Delete own t key) hand s u covers here there t key
      (shard_touched t key (option_to_list own.written ++ candidates_of (shard_from (held_named (names sh) hand (ShardOf t (shard_of key)))) key))
      (body_touched t key (option_to_list own.written) (candidates_of (shard_from (held_named (names sh) hand (ShardOf t (shard_of key)))) key))
      fits.1,
)
local sh (event.Read own t b) hand s u covers here there fits = fits
local sh (event.Range own t low high) hand s u covers here there fits = fits
local sh (event.Commit own reads) hand s u covers here there fits = (stamp_same sh (event.Commit own reads) hand s u covers here there desk_there fits.0, fits.1)
  where
    desk_there : touches sh (event.Commit own reads) hand TheDesk ≡ true
    desk_there = or_right (is_body_written own.writes TheDesk || touched_by_reads sh (held_named (names sh) hand) (judged_reads own.writes reads) TheDesk) true refl
local sh (event.Abort own) hand s u covers here there fits = tt
local sh event.Oldest hand s u covers here there fits = tt
local sh (event.Observe t b) hand s u covers here there fits = fits
local sh (event.Prune t b oldest) hand s u covers here there fits = fits
local sh (event.Look t b) hand s u covers here there fits = fits
local sh (event.Move t moves) hand s u covers here there fits =
    (fits.0, fits.1, fits.2, stamp_same sh (event.Move t moves) hand s u covers here there (desk_moved t moves) fits.3)
  where
    desk_moved : (t : ℕ) (moves : List MovePair) → touches sh (event.Move t moves) hand TheDesk ≡ true
    desk_moved t moves = or_right (is_body_moved t moves TheDesk) true refl
local sh (event.Seal t b) hand s u covers here there fits = fits
local sh (event.Image t b image) hand s u covers here there fits = (
  fits.0,
  subst (λ (x : Body). IsImageOf image x x.phase) (sym (body_same sh (event.Image t b image) hand s u covers here there t b (name_self (BodyOf t b)))) fits.1,
)
local sh (event.Thaw t b) hand s u covers here there fits = (
  fits.0,
  subst (λ (x : Body). is_imaged x.phase ≡ true) (sym (body_same sh (event.Thaw t b) hand s u covers here there t b (name_self (BodyOf t b)))) fits.1,
)
