-- What a hand tells of a key's candidates and of a table's next place.
use Rattle.std.proofs.Common.{◌≡◌, ℕ, ◌≤◌, ℤ, List, [], ◌∷◌, filter, map, Option, None, Some, length, unwrap_or, refl, sym, ap, ◌∙◌, arith}
use Rattle.std.specs.Prelude.{option_map, slice_get}
use Rattle.std.specs.FinMap as finite
use Rattle.std.specs.Ordering.{int_cmp}
use Rattle.std.proofs.lemmas.Option.{slice_get_past}
use Rattle.cell_model.specs.Values.{is_between}
use Rattle.core_parts.specs.Hands.{Held, in_hand}
use Rattle.core_parts.proofs.Numbering.{got_within}
use Rattle.core_parts.proofs.Placing.{held_among, held_at, lies, named_once}
use Rattle.core_parts.proofs.Telling.{table_of_head, table_of_shard}
use Rattle.event_spec.specs.Lawful.{Among}
use Rattle.event_spec.specs.Parts.{CorePart, Name, HeadOf, ShardOf, Shape, head_from, names, shard_from, slots_of}
use Rattle.event_spec.specs.Judged.{next_place}
use Rattle.event_spec.specs.Newest.{keys_within}
use Rattle.event_spec.specs.Touched.{held_next}
use Rattle.key_index.specs.Candidates.{candidates_of}

-- Where a hand has no part of a name, what it has there is none.
none_held : (sh : Shape) (hand : Held) (w : Name) → ((p : CorePart) → in_hand sh hand w ≡ Some p → ⊥) → in_hand sh hand w ≡ None
none_held sh hand w never = go (in_hand sh hand w) (λ p e. never p e)
  where
    go : (o : Option CorePart) → ((p : CorePart) → o ≡ Some p → ⊥) → o ≡ None
    go None n = refl
    go (Some p) n = absurd (n p refl)

-- a part that is none, and one that the hand has no place for
away : (sh : Shape) (hand : Held) (w : Name) → (Among w (names sh) → ⊥) → in_hand sh hand w ≡ None
away sh hand w never = none_held sh hand w (λ p e. never (held_among (names sh) hand w p e))

-- A part whose number lies beyond the hand is not in it.
beyond : (sh : Shape) (hand : Held) (w : Name) (k : ℕ) → slice_get (names sh) k ≡ Some w → length hand ≤ k → in_hand sh hand w ≡ None
beyond sh hand w k at high = none_held sh hand w (λ p e. let less = got_within hand k (Some p) (lies sh hand w k p at e) in absurd (omega (arith, high, less)))

-- A shard that is not there has no candidates of any key,
pub no_places : (key : ℤ) → candidates_of (shard_from None) key ≡ []
no_places key = ap (λ o. unwrap_or o []) (finite.get-empty int_cmp key)

-- and no key.
pub no_keys : (low high : ℤ) → keys_within low high (shard_from None) ≡ []
no_keys low high = ap (λ (es : List (ℤ × List ℕ)). filter (is_between low high) (map (λ e. e.0) es)) (none (finite.entries (finite.empty {X = List ℕ} {R = int_cmp})) (sym (finite.len-entries (finite.empty {X = List ℕ} {R = int_cmp})) ∙ finite.len-empty int_cmp (List ℕ)))
  where
    none : (es : List (ℤ × List ℕ)) → length es ≡ 0 → es ≡ []
    none [] is = refl
    none (e ∷ es) is = absurd (omega (arith, is))

module _ (sh : Shape) (hand : Held) (t i : ℕ) where
  -- a table that there is not has no shards
  pub no_table : length sh.tables ≤ t → shard_from (in_hand sh hand (ShardOf t i)) ≡ shard_from None
  no_table high = ap shard_from (away sh hand (ShardOf t i) (λ a. let has = (table_of_shard sh t i a).0 in absurd (omega (arith, has, high))))

  -- nor is there one that lies beyond the hand
  pub no_room : (k : ℕ) → slice_get (names sh) k ≡ Some (ShardOf t i) → length hand ≤ k → shard_from (in_hand sh hand (ShardOf t i)) ≡ shard_from None
  no_room k at high = ap shard_from (beyond sh hand (ShardOf t i) k at high)

  -- a shard is what lies in its place
  pub shard_there : (k : ℕ) (o : Option CorePart) → slice_get (names sh) k ≡ Some (ShardOf t i) → slice_get hand k ≡ Some o → shard_from (in_hand sh hand (ShardOf t i)) ≡ shard_from o
  shard_there k o at is = ap shard_from (held_at (names sh) hand (ShardOf t i) k o (named_once sh) at is)

module _ (sh : Shape) (hand : Held) (t : ℕ) where
  -- the next place of a table that there is not is that of no head
  pub no_head : length sh.tables ≤ t → next_place (head_from None) (slots_of sh t) ≡ held_next sh (in_hand sh hand) t
  no_head high = sym (ap (λ o. next_place (head_from o) (slots_of sh t)) (away sh hand (HeadOf t) (λ a. let has = table_of_head sh t a in absurd (omega (arith, has, high)))))

  -- and so is that of a table whose head lies beyond the hand
  pub head_beyond : (k : ℕ) → slice_get (names sh) k ≡ Some (HeadOf t) → length hand ≤ k → next_place (head_from None) (slots_of sh t) ≡ held_next sh (in_hand sh hand) t
  head_beyond k at high = sym (ap (λ o. next_place (head_from o) (slots_of sh t)) (beyond sh hand (HeadOf t) k at high))

  -- the next place is that of the head in the hand
  pub head_held : (k : ℕ) (o : Option CorePart) → slice_get (names sh) k ≡ Some (HeadOf t) → slice_get hand k ≡ Some o
      → next_place (head_from o) (slots_of sh t) ≡ held_next sh (in_hand sh hand) t
  head_held k o at is = sym (ap (λ o. next_place (head_from o) (slots_of sh t)) (held_at (names sh) hand (HeadOf t) k o (named_once sh) at is))

-- a table that is none has no slots
pub no_slots : (sh : Shape) (t : ℕ) → length sh.tables ≤ t → None ≡ next_place (head_from None) (slots_of sh t)
no_slots sh t high = sym (ap (next_place (head_from None)) (ap (λ o. unwrap_or (option_map (λ decl. decl.slots) o) 0) (slice_get_past sh.tables t high)))
