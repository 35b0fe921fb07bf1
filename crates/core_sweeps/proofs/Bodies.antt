-- Bodies after pairs moved, and after pairs are taken back.
use Rattle.std.proofs.Common.{◌≡◌, ◌≢◌, ℕ, zero, suc, ◌<◌, Bool, true, false, cond, ◌||◌, ◌==◌, List, [], ◌∷◌, ◌++◌, Option, None, Some, take, fold, length, get_or, get_or-set_same, refl, sym, ap, ◌∙◌, subst, arith}
use mathlib.Core.Logic.{inl, inr}
use Rattle.std.specs.Prelude.{slice_set, slice_get}
use Rattle.std.proofs.Math.ListN.{length-set, set}
use Rattle.std.proofs.lemmas.Option.{same_Some}
use Rattle.block_layout.specs.Place.{block_of, slot_of}
use Rattle.block_spec.specs.Bodies.{Body, slot_in, taken_back_in, with_slot}
use Rattle.block_spec.specs.Slots.{Row, Slot, bare, has_none, moved_in, moved_out, taken_back}
use Rattle.core_sweeps.specs.MoveSteps.{cooled}
use Rattle.core_sweeps.proofs.Rolling.{differs}
use Rattle.core_laws.proofs.Events.Places.{same_place, with_slot_else, with_slot_here}
use Rattle.core_laws.proofs.Events.Slots.{num, num_refl}
use Rattle.event_spec.specs.declared.event.MovePair.{MovePair}
use Rattle.event_spec.specs.Effects.{half_moved, moved_row}
use Rattle.event_spec.specs.Lawful.{Among}
use Rattle.event_spec.specs.Parts.{Parts, Shape}
use Rattle.core_laws.proofs.Frames.Looks.{true_false}

-- ---- lists

-- the first elements of a list with one more of them
pub take_more : {X : Type 0} (xs : List X) (k : ℕ) (x : X) → slice_get xs k ≡ Some x → take (suc k) xs ≡ take k xs ++ x ∷ []
take_more [] k x is = cc
take_more (y ∷ xs) zero x is = ap (λ z. z ∷ []) (same_Some y x is)
take_more (y ∷ xs) (suc k) x is = ap (λ zs. y ∷ zs) (take_more xs k x is)

-- a fold over one more element, at the end
pub fold_more : {X Y : Type 0} (step : X → Y → X) (x : X) (ys : List Y) (y : Y) → fold step x (ys ++ y ∷ []) ≡ step (fold step x ys) y
fold_more step x [] y = refl
fold_more step x (z ∷ ys) y = fold_more step (step x z) ys y

-- a slot that is set twice
set_twice : (xs : List Slot) (j : ℕ) (a b : Slot) → slice_set (slice_set xs j a) j b ≡ slice_set xs j b
set_twice [] j a b = refl
set_twice (x ∷ xs) zero a b = refl
set_twice (x ∷ xs) (suc j) a b = ap (λ ys. x ∷ ys) (set_twice xs j a b)

-- A slot that is set to what stands there leaves the slots.
set_same : (xs : List Slot) (j : ℕ) (a : Slot) → j < length xs → get_or xs j bare ≡ a → slice_set xs j a ≡ xs
set_same [] j a less is = absurd (omega (arith, less))
set_same (x ∷ xs) zero a less is = ap (λ y. y ∷ xs) (sym is)
set_same (x ∷ xs) (suc j) a less is = ap (λ ys. x ∷ ys) (set_same xs j a (omega (arith, less)) is)

-- ---- one slot moved and taken back

-- a slot whose change is taken back is as it was
out_back : (stamp : ℕ) (row : Row) (slot : Slot) → slot.row ≡ Some row → taken_back (moved_out stamp row slot) ≡ slot
out_back stamp row slot is = ap (λ (o : Option Row). record slot { row = o }) (sym is)

-- A row that moved into an empty slot, taken back, leaves the slot as it was.
in_back : (stamp : ℕ) (row : Row) (slot : Slot) → slot.row ≡ None → taken_back (moved_in stamp row slot) ≡ slot
in_back stamp row slot is = ap (λ (o : Option Row). record slot { row = o }) (sym is)

-- the body is cooled, wherever one slot's change was taken back
pub back_one : (j : ℕ) (change : Slot → Slot) (body : Body) → j < length body.slots → taken_back (change (slot_in body j)) ≡ slot_in body j → taken_back_in j (with_slot j change body) ≡ cooled body
back_one j change body less back =
    ap (λ (slots : List Slot). record body { slots = slots; cooling = true; rounds = 2 })
    (set_twice body.slots j (change (slot_in body j)) (taken_back (get_or (slice_set body.slots j (change (slot_in body j))) j bare))
    ∙ ap (λ (x : Slot). slice_set body.slots j (taken_back x)) (get_or-set_same body.slots j (change (slot_in body j)) bare less)
    ∙ ap (slice_set body.slots j) back
    ∙ set_same body.slots j (slot_in body j) less refl)

-- a row that left its slot is taken back: the body is as it was, but cooled
pub back_out : (j stamp : ℕ) (row : Row) (body : Body) → j < length body.slots → (slot_in body j).row ≡ Some row → taken_back_in j (with_slot j (moved_out stamp row) body) ≡ cooled body
back_out j stamp row body less is = back_one j (moved_out stamp row) body less (out_back stamp row (slot_in body j) is)

-- so is one that came to a slot without a row
pub back_in : (j stamp : ℕ) (row : Row) (body : Body) → j < length body.slots → (slot_in body j).row ≡ None → taken_back_in j (with_slot j (moved_in stamp row) body) ≡ cooled body
back_in j stamp row body less is = back_one j (moved_in stamp row) body less (in_back stamp row (slot_in body j) is)

-- ---- a change of one slot, where it is in the block

-- a change of one slot, made or not, leaves another slot
pub if_here : (c : Bool) (j i : ℕ) (g : Slot → Slot) (body : Body) → (c ≡ true → i ≢ j) → slot_in (cond c (with_slot j g body) body) i ≡ slot_in body i
if_here true j i g body ne = with_slot_else j i g body (ne refl)
if_here false j i g body ne = refl

-- and the number of slots
pub if_long : (c : Bool) (j : ℕ) (g : Slot → Slot) (body : Body) → length (cond c (with_slot j g body) body).slots ≡ length body.slots
if_long true j g body = length-set body.slots j (g (slot_in body j))
if_long false j g body = refl

-- and the phase
pub if_phase : (c : Bool) (j : ℕ) (g : Slot → Slot) (body : Body) → (cond c (with_slot j g body) body).phase ≡ body.phase
if_phase true j g body = refl
if_phase false j g body = refl

-- and the columns
pub if_columns : (c : Bool) (j : ℕ) (g : Slot → Slot) (body : Body) → (cond c (with_slot j g body) body).columns ≡ body.columns
if_columns true j g body = refl
if_columns false j g body = refl

-- ---- bodies after some pairs

module _ (sh : Shape) (s : Parts) (t stamp b : ℕ) where
  -- A body after its halves of one pair.
  abbrev step : Body → MovePair → Body
  step body pair = half_moved sh s t stamp b body pair

  -- a slot of another place stays
  other_slot : (p q : ℕ) → q ≢ p → block_of p ≡ b → (block_of q == b) ≡ true → slot_of p ≢ slot_of q
  other_slot p q ne here there same = ne (same_place q p (num (block_of q) b there ∙ sym here) (sym same))

  -- a pair leaves a slot that is neither its source nor its target
  pub step_slot : (pair : MovePair) (p : ℕ) (body : Body) → block_of p ≡ b → pair.source ≢ p → pair.target ≢ p → slot_in (half_moved sh s t stamp b body pair) (slot_of p) ≡ slot_in body (slot_of p)
  step_slot pair p body here not_source not_target =
      if_here (block_of pair.target == b) (slot_of pair.target) (slot_of p) (moved_in stamp (moved_row sh s t pair))
      (cond (block_of pair.source == b) (with_slot (slot_of pair.source) (moved_out stamp (moved_row sh s t pair)) body) body)
      (other_slot p pair.target not_target here)
      ∙ if_here (block_of pair.source == b) (slot_of pair.source) (slot_of p) (moved_out stamp (moved_row sh s t pair)) body (other_slot p pair.source not_source here)

  -- a pair leaves the number of slots
  pub step_long : (pair : MovePair) (body : Body) → length (half_moved sh s t stamp b body pair).slots ≡ length body.slots
  step_long pair body =
      if_long (block_of pair.target == b) (slot_of pair.target) (moved_in stamp (moved_row sh s t pair))
      (cond (block_of pair.source == b) (with_slot (slot_of pair.source) (moved_out stamp (moved_row sh s t pair)) body) body)
      ∙ if_long (block_of pair.source == b) (slot_of pair.source) (moved_out stamp (moved_row sh s t pair)) body

  -- and the phase
  pub step_phase : (pair : MovePair) (body : Body) → (half_moved sh s t stamp b body pair).phase ≡ body.phase
  step_phase pair body =
      if_phase (block_of pair.target == b) (slot_of pair.target) (moved_in stamp (moved_row sh s t pair))
      (cond (block_of pair.source == b) (with_slot (slot_of pair.source) (moved_out stamp (moved_row sh s t pair)) body) body)
      ∙ if_phase (block_of pair.source == b) (slot_of pair.source) (moved_out stamp (moved_row sh s t pair)) body

  -- and the columns
  pub step_columns : (pair : MovePair) (body : Body) → (half_moved sh s t stamp b body pair).columns ≡ body.columns
  step_columns pair body =
      if_columns (block_of pair.target == b) (slot_of pair.target) (moved_in stamp (moved_row sh s t pair))
      (cond (block_of pair.source == b) (with_slot (slot_of pair.source) (moved_out stamp (moved_row sh s t pair)) body) body)
      ∙ if_columns (block_of pair.source == b) (slot_of pair.source) (moved_out stamp (moved_row sh s t pair)) body

  -- pairs leave a slot that is neither source nor target of one of them
  pub all_slot : (pairs : List MovePair) (p : ℕ) (body : Body) → block_of p ≡ b → ((pair : MovePair) → Among pair pairs → (pair.source ≢ p) × (pair.target ≢ p))
      → slot_in (fold (half_moved sh s t stamp b) body pairs) (slot_of p) ≡ slot_in body (slot_of p)
  all_slot [] p body here far = refl
  all_slot (pair ∷ pairs) p body here far =
      all_slot pairs p (half_moved sh s t stamp b body pair) here (λ other a. far other (inr a))
      ∙ step_slot pair p body here (far pair (inl refl)).0 (far pair (inl refl)).1

  -- pairs leave the number of slots
  pub all_long : (pairs : List MovePair) (body : Body) → length (fold (half_moved sh s t stamp b) body pairs).slots ≡ length body.slots
  all_long [] body = refl
  all_long (pair ∷ pairs) body = all_long pairs (half_moved sh s t stamp b body pair) ∙ step_long pair body

  -- and the phase
  pub all_phase : (pairs : List MovePair) (body : Body) → (fold (half_moved sh s t stamp b) body pairs).phase ≡ body.phase
  all_phase [] body = refl
  all_phase (pair ∷ pairs) body = all_phase pairs (half_moved sh s t stamp b body pair) ∙ step_phase pair body

  -- and the columns
  pub all_columns : (pairs : List MovePair) (body : Body) → (fold (half_moved sh s t stamp b) body pairs).columns ≡ body.columns
  all_columns [] body = refl
  all_columns (pair ∷ pairs) body = all_columns pairs (half_moved sh s t stamp b body pair) ∙ step_columns pair body

-- ---- a pair's two halves in a body

-- what a taking back of both places makes of a body
abbrev pub both_back : ℕ → ℕ → ℕ → Body → Body
both_back b source target body =
    let first : Body = cond (b == block_of target) (taken_back_in (slot_of target) body) body in
    cond (b == block_of source) (taken_back_in (slot_of source) first) first

-- and what both halves made of it
abbrev pub both_moved : ℕ → ℕ → Row → ℕ → ℕ → Body → Body
both_moved b stamp row source target body =
    let first : Body = cond (b == block_of source) (with_slot (slot_of source) (moved_out stamp row) body) body in
    cond (b == block_of target) (with_slot (slot_of target) (moved_in stamp row) first) first

-- The test of two numbers is the same in either order.
num_flip : (a b : ℕ) → (a == b) ≡ (b == a)
num_flip a b = go (a == b) refl
  where
    go : (c : Bool) → (a == b) ≡ c → (a == b) ≡ (b == a)
    go true e = e ∙ sym (ap (λ y. y == a) (sym (num a b e)) ∙ num_refl a)
    go false e = e ∙ sym (differs b a (λ same. true_false (sym (ap (λ y. a == y) same ∙ num_refl a) ∙ e)))

-- the definition's halves
pub half_is : (sh : Shape) (s : Parts) (t stamp b : ℕ) (body : Body) (pair : MovePair) → half_moved sh s t stamp b body pair ≡ both_moved b stamp (moved_row sh s t pair) pair.source pair.target body
half_is sh s t stamp b body pair =
    ap (λ c. cond (block_of pair.target == b) (with_slot (slot_of pair.target) (moved_in stamp (moved_row sh s t pair)) (cond c (with_slot (slot_of pair.source) (moved_out stamp (moved_row sh s t pair)) body) body))
    (cond c (with_slot (slot_of pair.source) (moved_out stamp (moved_row sh s t pair)) body) body)) (num_flip (block_of pair.source) b)
    ∙ ap (λ c. cond c (with_slot (slot_of pair.target) (moved_in stamp (moved_row sh s t pair)) (cond (b == block_of pair.source) (with_slot (slot_of pair.source) (moved_out stamp (moved_row sh s t pair)) body) body))
    (cond (b == block_of pair.source) (with_slot (slot_of pair.source) (moved_out stamp (moved_row sh s t pair)) body) body)) (num_flip (block_of pair.target) b)

-- A pair's halves in a body, taken back, leave it as it was before them, or cooled.
pub pair_back : (b stamp : ℕ) (row : Row) (source target : ℕ) (again : Bool) (body : Body) → source ≢ target
    → (block_of source ≡ b → (slot_of source < length body.slots) × ((slot_in body (slot_of source)).row ≡ Some row))
    → (block_of target ≡ b → (slot_of target < length body.slots) × ((slot_in body (slot_of target)).row ≡ None))
    → both_back b source target (cond again (cooled (both_moved b stamp row source target body)) (both_moved b stamp row source target body))
    ≡ cond (again || (b == block_of source) || (b == block_of target)) (cooled body) body
pair_back b stamp row source target again body ne from to = go (b == block_of source) (b == block_of target) refl refl
  where
    or_true : (c : Bool) → (c || true) ≡ true
    or_true true = refl
    or_true false = refl

    or_none : (c : Bool) → (c || false) ≡ c
    or_none true = refl
    or_none false = refl

    skip : (c : Bool) (j : ℕ) (y : Body) → taken_back_in j (cond c (cooled y) y) ≡ taken_back_in j y
    skip true j y = refl
    skip false j y = refl

    moved_of : (c d : Bool) → Body
    moved_of c d = cond d
        (with_slot (slot_of target) (moved_in stamp row) (cond c (with_slot (slot_of source) (moved_out stamp row) body) body))
        (cond c (with_slot (slot_of source) (moved_out stamp row) body) body)

    back_of : (c d : Bool) → Body → Body
    back_of c d y = cond c
        (taken_back_in (slot_of source) (cond d (taken_back_in (slot_of target) y) y))
        (cond d (taken_back_in (slot_of target) y) y)

    apart : b ≡ block_of source → b ≡ block_of target → slot_of target ≢ slot_of source
    apart at to' same = ne (same_place source target (sym at ∙ to') (sym same))

    main : (c d : Bool) → (c ≡ true → b ≡ block_of source) → (d ≡ true → b ≡ block_of target)
        → back_of c d (cond again (cooled (moved_of c d)) (moved_of c d)) ≡ cond ((again || c) || d) (cooled body) body
    main false false at to' = ap (λ x. cond x (cooled body) body) (sym (or_none (again || false) ∙ or_none again))
    main true false at to' =
        let there = from (sym (at refl)) in
        skip again (slot_of source) (with_slot (slot_of source) (moved_out stamp row) body)
        ∙ back_out (slot_of source) stamp row body there.0 there.1
        ∙ ap (λ x. cond x (cooled body) body) (sym (or_none (again || true) ∙ or_true again))
    main false true at to' =
        let there = to (sym (to' refl)) in
        skip again (slot_of target) (with_slot (slot_of target) (moved_in stamp row) body)
        ∙ back_in (slot_of target) stamp row body there.0 there.1
        ∙ ap (λ x. cond x (cooled body) body) (sym (or_true (again || false)))
    main true true at to' =
        let there = to (sym (to' refl)) in
        let here = from (sym (at refl)) in
        ap (taken_back_in (slot_of source)) (skip again (slot_of target) (with_slot (slot_of target) (moved_in stamp row) (with_slot (slot_of source) (moved_out stamp row) body))
        ∙ back_in (slot_of target) stamp row (with_slot (slot_of source) (moved_out stamp row) body)
        (subst (λ n. slot_of target < n) (sym (length-set body.slots (slot_of source) (moved_out stamp row (slot_in body (slot_of source))))) there.0)
        (ap (λ (x : Slot). x.row) (with_slot_else (slot_of source) (slot_of target) (moved_out stamp row) body (apart (at refl) (to' refl))) ∙ there.1))
        ∙ back_out (slot_of source) stamp row body here.0 here.1
        ∙ ap (λ x. cond x (cooled body) body) (sym (or_true (again || true)))

    go : (c d : Bool) → (b == block_of source) ≡ c → (b == block_of target) ≡ d
        → both_back b source target (cond again (cooled (both_moved b stamp row source target body)) (both_moved b stamp row source target body))
        ≡ cond (again || (b == block_of source) || (b == block_of target)) (cooled body) body
    go c d e e' =
        ap (λ x. back_of x (b == block_of target) (cond again (cooled (moved_of x (b == block_of target))) (moved_of x (b == block_of target)))) e
        ∙ ap (λ y. back_of c y (cond again (cooled (moved_of c y)) (moved_of c y))) e'
        ∙ main c d (λ is. num b (block_of source) (e ∙ is)) (λ is. num b (block_of target) (e' ∙ is))
        ∙ ap (λ x. cond ((again || x) || d) (cooled body) body) (sym e)
        ∙ ap (λ y. cond ((again || (b == block_of source)) || y) (cooled body) body) (sym e')

-- ---- entries of a pair's slots

-- behind both halves the slot that the row left has an entry
pub out_filled : (b stamp : ℕ) (row : Row) (source target : ℕ) (body : Body) → block_of source ≡ b → slot_of source < length body.slots → source ≢ target
    → has_none (slot_in (both_moved b stamp row source target body) (slot_of source)).entries ≡ false
out_filled b stamp row source target body here less ne =
    ap (λ (x : Slot). has_none x.entries)
    (if_here (b == block_of target) (slot_of target) (slot_of source) (moved_in stamp row) (cond (b == block_of source) (with_slot (slot_of source) (moved_out stamp row) body) body)
    (λ e same. ne (same_place source target (here ∙ num b (block_of target) e) same))
    ∙ ap (λ c. slot_in (cond c (with_slot (slot_of source) (moved_out stamp row) body) body) (slot_of source)) (ap (λ y. b == y) here ∙ num_refl b)
    ∙ with_slot_here (slot_of source) (moved_out stamp row) body less)

-- and so has the slot that it came to
pub in_filled : (b stamp : ℕ) (row : Row) (source target : ℕ) (body : Body) → block_of target ≡ b → slot_of target < length body.slots
    → has_none (slot_in (both_moved b stamp row source target body) (slot_of target)).entries ≡ false
in_filled b stamp row source target body here less =
    ap (λ (x : Slot). has_none x.entries)
    (ap (λ c. slot_in (cond c (with_slot (slot_of target) (moved_in stamp row) (cond (b == block_of source) (with_slot (slot_of source) (moved_out stamp row) body) body)) (cond (b == block_of source) (with_slot (slot_of source) (moved_out stamp row) body) body)) (slot_of target))
    (ap (λ y. b == y) here ∙ num_refl b)
    ∙ with_slot_here (slot_of target) (moved_in stamp row) (cond (b == block_of source) (with_slot (slot_of source) (moved_out stamp row) body) body)
    (subst (λ n. slot_of target < n) (sym (if_long (b == block_of source) (slot_of source) (moved_out stamp row) body)) less))

-- a body that is cooled or not has the same slots
pub cooled_slot : (c : Bool) (body : Body) (j : ℕ) → slot_in (cond c (cooled body) body) j ≡ slot_in body j
cooled_slot true body j = refl
cooled_slot false body j = refl
