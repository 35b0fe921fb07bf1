-- What a write meets over several slots, from what it meets at each.
use Rattle.std.proofs.Common.{[], ◌≡◌, ℕ, List, ◌∷◌, ◌++◌, Option, None, Some, max, fold, refl, ap, ◌∙◌, arith}
use Rattle.std.specs.List.{flat_map}
use Rattle.std.specs.Option.{option_or}
use Rattle.core_laws.specs.Slots.Laws.{combined, combined_over}
use Rattle.undo_chain.specs.Conflict.{other_writer, numbers_above, largest, conflict_by, conflict_of}
use Rattle.block_spec.specs.Slots.{Slot}
use Rattle.event_spec.specs.Judged.{first_at}

-- The greater of two numbers, of which either may be missing.
abbrev greater : Option ℕ → Option ℕ → Option ℕ
greater None b = b
greater (Some a) None = Some a
greater (Some a) (Some b) = Some (max a b)

-- The greatest of a number and others is the greater of it and theirs.
fold_max : (x y : ℕ) (ys : List ℕ) → fold max (max x y) ys ≡ max x (fold max y ys)
fold_max x y [] = refl
fold_max x y (z ∷ ys) = ap (λ w. fold max w ys) (assoc x y z) ∙ fold_max x (max y z) ys
  where
    assoc : (a b c : ℕ) → max (max a b) c ≡ max a (max b c)
    assoc a b c = omega arith

-- The largest of two lists of numbers is the greater of the largest of each.
largest_append : (xs ys : List ℕ) → largest (xs ++ ys) ≡ greater (largest xs) (largest ys)
largest_append [] ys = refl
largest_append (x ∷ xs) ys = go xs x ys
  where
    go : (xs : List ℕ) (x : ℕ) (ys : List ℕ) → Some (fold max x (xs ++ ys)) ≡ greater (Some (fold max x xs)) (largest ys)
    go [] x [] = refl
    go [] x (y ∷ ys) = ap Some (fold_max x y ys)
    go (z ∷ xs) x ys = go xs (max x z) ys

-- A conflict by what two parts have is theirs combined.
both : (a c : Option ℕ) (b d : Option ℕ) → conflict_by (option_or a c) (greater b d) ≡ combined (conflict_by a b) (conflict_by c d)
both (Some w) c b d = refl
both None (Some w) None d = refl
both None (Some w) (Some k) d = refl
both None None None d = refl
both None None (Some k) None = refl
both None None (Some k) (Some l) = refl

-- a write of a key meets what it meets at each of the key's slots, combined in turn
pub newer_over : (slot : ℕ → Slot) (ps : List ℕ) (stamp session : ℕ)
    → conflict_by (first_at (λ p. other_writer (slot p).entries session) ps) (largest (flat_map (λ p. numbers_above (slot p).entries stamp) ps)) ≡ combined_over slot ps stamp session
newer_over slot [] stamp session = refl
newer_over slot (p ∷ ps) stamp session =
    ap (conflict_by (option_or (other_writer (slot p).entries session) (first_at (λ p. other_writer (slot p).entries session) ps)))
    (largest_append (numbers_above (slot p).entries stamp) (flat_map (λ p. numbers_above (slot p).entries stamp) ps))
    ∙ both (other_writer (slot p).entries session) (first_at (λ p. other_writer (slot p).entries session) ps) (largest (numbers_above (slot p).entries stamp)) (largest (flat_map (λ p. numbers_above (slot p).entries stamp) ps))
    ∙ ap (combined (conflict_of (slot p).entries stamp session)) (newer_over slot ps stamp session)
