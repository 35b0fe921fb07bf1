-- Places that are added one after another.
use Rattle.std.proofs.Common.{◌≡◌, ℕ, ◌+◌, List, [], ◌∷◌, ◌++◌, Some, map, append_assoc, refl, sym, ap, ◌∙◌, arith}
use Rattle.std.specs.List.{flat_map}
use Rattle.std.proofs.lemmas.List.{map-append}
use Rattle.std.proofs.lemmas.Grind.{flat_map-append}
use Rattle.core_parts.proofs.Heads.{range_more}
use Rattle.core_parts.specs.Placed.{placed}
use Rattle.core_parts.specs.Hands.{Held}
use Rattle.event_spec.specs.Parts.{Name, Shape, below, names, tables_of, HeadOf, ShardOf, BodyOf, TheDesk, blocks_of}
use Rattle.event_spec.specs.Replay.{opening, opening_part}
use Rattle.hall_rule.specs.Hands.{all_in}

-- a list that grew by one list after another
pub grown : (start front more now next : Held) → now ≡ start ++ front → next ≡ now ++ more → next ≡ start ++ (front ++ more)
grown start front more now next was grew = grew ∙ ap (λ (places : Held). places ++ more) was ∙ append_assoc start front more

module _ (sh : Shape) where
  -- The places of two lists of names are those of the one, then of the other.
  placed_both : (ns ms : List Name) → placed sh (ns ++ ms) ≡ placed sh ns ++ placed sh ms
  placed_both ns ms = map-append (λ name. Some (opening_part sh name)) ns ms

  -- one name more
  pub placed_more : (f : ℕ → Name) (n : ℕ) → placed sh (map f (below (n + 1))) ≡ placed sh (map f (below n)) ++ Some (opening_part sh (f n)) ∷ []
  placed_more f n =
      ap (λ ns. placed sh (map f ns)) (sym (range_more 0 n) ∙ ap (λ k. below n ++ k ∷ []) (let e : 0 + n ≡ n = omega arith in e))
      ∙ ap (placed sh) (map-append f (below n) (n ∷ []))
      ∙ placed_both (map f (below n)) (f n ∷ [])

  -- the names of one table more
  pub placed_table : (f : ℕ → List Name) (n : ℕ) → placed sh (flat_map f (below (n + 1))) ≡ placed sh (flat_map f (below n)) ++ placed sh (f n)
  placed_table f n =
      ap (λ ns. placed sh (flat_map f ns)) (sym (range_more 0 n) ∙ ap (λ k. below n ++ k ∷ []) (let e : 0 + n ≡ n = omega arith in e))
      ∙ ap (placed sh) (flat_map-append f (below n) (n ∷ []))
      ∙ placed_both (flat_map f (below n)) (flat_map f (n ∷ []))
      ∙ ap (λ ns. placed sh (flat_map f (below n)) ++ placed sh ns) (no_more (f n))
    where
      no_more : (ns : List Name) → ns ++ [] ≡ ns
      no_more [] = refl
      no_more (n ∷ ns) = ap (λ ms. n ∷ ms) (no_more ns)

  -- all places
  all_placed : (ns : List Name) → all_in (map (opening_part sh) ns) ≡ placed sh ns
  all_placed [] = refl
  all_placed (n ∷ ns) = ap (λ places. Some (opening_part sh n) ∷ places) (all_placed ns)

  -- the heads, the shards, the bodies and the desk, added in turn, are the opening core's places
  pub opened : (heads shards bodies desk : Held)
      → heads ≡ [] ++ placed sh (map HeadOf (tables_of sh))
      → shards ≡ heads ++ placed sh (flat_map (λ table. map (ShardOf table) (below 8)) (tables_of sh))
      → bodies ≡ shards ++ placed sh (flat_map (λ table. map (BodyOf table) (below (blocks_of sh table))) (tables_of sh))
      → desk ≡ bodies ++ placed sh (TheDesk ∷ [])
      → desk ≡ all_in (opening sh)
  opened heads shards bodies desk one two three four =
      four ∙ ap (λ (places : Held). places ++ placed sh (TheDesk ∷ [])) (three ∙ ap (λ (places : Held). places ++ placed sh bodies_of) (two ∙ ap (λ (places : Held). places ++ placed sh shards_of) one))
      ∙ ap (λ (places : Held). places ++ placed sh bodies_of ++ placed sh (TheDesk ∷ [])) (sym (placed_both heads_of shards_of))
      ∙ ap (λ (places : Held). places ++ placed sh (TheDesk ∷ [])) (sym (placed_both (heads_of ++ shards_of) bodies_of))
      ∙ sym (placed_both (heads_of ++ shards_of ++ bodies_of) (TheDesk ∷ []))
      ∙ sym (all_placed (names sh))
    where
      heads_of : List Name
      heads_of = map HeadOf (tables_of sh)

      shards_of : List Name
      shards_of = flat_map (λ table. map (ShardOf table) (below 8)) (tables_of sh)

      bodies_of : List Name
      bodies_of = flat_map (λ table. map (BodyOf table) (below (blocks_of sh table))) (tables_of sh)
