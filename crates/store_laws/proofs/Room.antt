-- What each event makes of the slots in use.
use Rattle.std.proofs.Common.{◌≡◌, ◌≢◌, ℕ, zero, suc, ◌+◌, ◌*◌, ◌/◌, ◌%◌, ◌<◌, ◌≤◌, ℤ, Bool, true, false, cond, not, ◌&&◌, ◌==◌, nat_lt, List, [], ◌∷◌, fold, length, map, Option, None, Some, is_none, is_some, unwrap_or, sum_by, refl, sym, ap, ◌∙◌, subst, arith}
use mathlib.Core.Logic.{inl, inr}
use Rattle.std.specs.Prelude.{Result, Ok, Err, option_map, slice_get}
use Rattle.std.specs.List.{list_all, range_with_len}
use Rattle.std.specs.Option.{option_or}
use Rattle.std.proofs.Math.Nat.{mul-le-mul_right}
use Rattle.std.proofs.lemmas.Bool.Decides.{nat_tests}
use Rattle.std.proofs.lemmas.List.Sums.{sum_by-cons}
use Rattle.std.proofs.lemmas.Option.{slice_get_past}
use Rattle.std.proofs.lemmas.Bool.{and_parts}
use Rattle.block_layout.specs.Place.{block_of, place_of, slot_of}
use Rattle.block_spec.specs.Bodies.{Body, committed_in, has_row, imaged, is_empty, is_loose, is_written_by, modified, observed, pruned_in, rolled_back_in, seal_fault, sealed, thawed, with_slot}
use Rattle.block_spec.specs.declared.change.Before.{Before}
use Rattle.block_spec.specs.declared.change.Change.{Change}
use Rattle.block_spec.specs.declared.change.Change.TheVariants as change
use Rattle.block_spec.specs.Slots.{Row, Slot, bare, committed, has_none, is_bare, moved_in, moved_out, pruned, rolled_back, written}
use Rattle.cell_model.specs.declared.table.TableDecl.{TableDecl}
use Rattle.core_laws.proofs.Events.Apart.{kept_among}
use Rattle.core_laws.proofs.Events.Heads.{block_is, filter_first}
use Rattle.core_laws.proofs.Events.Moved.{halves, left_half}
use Rattle.core_laws.proofs.Events.Owners.{key_slot}
use Rattle.event_spec.specs.declared.event.Event.TheVariants as event
use Rattle.event_spec.specs.declared.event.MovePair.{MovePair}
use Rattle.event_spec.specs.declared.own.OwnKey.{OwnKey}
use Rattle.event_spec.specs.declared.part.Head.{Head}
use Rattle.event_spec.specs.declared.reply.WriteFault.{WriteFault}
use Rattle.event_spec.specs.declared.reply.WriteFault.TheVariants.{Exists, Full}
use Rattle.event_spec.specs.Effects.{CoreEvent, after_change, after_insert, after_move, at_both, change_judged, changes_of, effect, found, has_key, held_pairs, holds, insert_judged, is_some_write, may_move, moved_on, moved_row, taken_by, with_empty, after_judged, stale_in}
use Rattle.event_spec.specs.Judged.{differences, fault_of, first_of_blocks, newer_by, next_place}
use Rattle.event_spec.specs.Lawful.{Among, HasBlock, HasTable, IsLawful, IsThawed}
use Rattle.event_spec.specs.Parts.{Changes, Parts, Shape, below, blocks_of, body_at, desk_at, head_at, is_head, names, nothing, places_at, slot_at, slots_of}
use Rattle.event_spec.specs.Replay.{columns_in, opening, opening_head, rows_first}
use Rattle.event_spec.specs.Replies.{reply_to, reply_to_write}
use Rattle.event_spec.specs.Sound.{IsShape, Sound}
use Rattle.isolation_spec.specs.Contents.{key_of}
use Rattle.core_laws.proofs.Logs.FirstPlaces.{body_empty, body_filled, quotient_less, row_number}
use Rattle.core_laws.proofs.Logs.Opening.{body, head}
use Rattle.core_laws.proofs.Slots.Kept.{writer_filled}
use Rattle.core_laws.proofs.Sound.Bodies.{not_empty, row_fills, true_false}
use Rattle.core_laws.proofs.Sound.Keeps.{shaped}
use Rattle.core_laws.proofs.Sound.Kept.{body_after, head_after}
use Rattle.core_laws.proofs.Sound.Written.{change_goes, judged_ok}
use Rattle.undo_chain.specs.declared.undo.Undo.{Undo}
use Rattle.store_laws.specs.Room.{CountsRoom, FullIsFull, OpensWithRows, RoomIsCounted, inserted_by, used, used_in, writes_told}
use Rattle.event_spec.specs.declared.own.OwnTransaction.{OwnTransaction}
use Rattle.isolation_spec.specs.declared.read.Read.{Read}

-- Numbers that are tested to be equal are.
num : (a b : ℕ) → (a == b) ≡ true → a ≡ b
num a b e = grind (arith, nat_tests, e)

-- A number is tested to be itself.
num_refl : (a : ℕ) → (a == a) ≡ true
num_refl a = grind (arith, nat_tests)

-- Numbers that are not equal are tested not to be.
num_not : (a b : ℕ) → (a ≡ b → ⊥) → (a == b) ≡ false
num_not a b ne = go (a == b) refl
  where
    go : (x : Bool) → (a == b) ≡ x → (a == b) ≡ false
    go true e = absurd (ne (num a b e))
    go false e = e

-- A number below the count of a table's blocks is that of a block.
within : (sh : Shape) (t b : ℕ) → b < blocks_of sh t → HasBlock sh t b
within sh t b less = (go (nat_lt t (length sh.tables)) refl, less)
  where
    go : (x : Bool) → nat_lt t (length sh.tables) ≡ x → t < length sh.tables
    go true e = grind (arith, nat_tests, e)
    go false e =
        let none : slice_get sh.tables t ≡ None = slice_get_past sh.tables t (grind (arith, nat_tests, e)) in
        let zero_blocks : blocks_of sh t ≡ 0 = ap (λ o. unwrap_or (option_map (λ (decl : TableDecl). decl.blocks) o) 0) none in
        absurd (let never : ⊥ = omega (arith, less, zero_blocks) in never)

-- ---- bodies that stay empty

-- Where the one body is empty, the other is.
abbrev Stays : Body → Body → Type 0
Stays x y = is_empty x ≡ true → is_empty y ≡ true

-- A body without a change stays empty.
stays : (x : Body) → Stays x x
stays x e = e

-- A change of one block leaves bodies empty where it leaves that one so.
at_one : (t b : ℕ) (g : Body → Body) (u c : ℕ) (y : Body) → ((u ≡ t) → (c ≡ b) → Stays y (g y)) → Stays y (at_both t b g u c y)
at_one t b g u c y h = go (u == t) (c == b) refl refl
  where
    go : (m n : Bool) → (u == t) ≡ m → (c == b) ≡ n → Stays y (cond ((u == t) && (c == b)) (g y) y)
    go true true m n = subst (λ e. Stays y (cond (e && (c == b)) (g y) y)) (sym m) (subst (λ e. Stays y (cond e (g y) y)) (sym n) (h (num u t m) (num c b n)))
    go true false m n = subst (λ e. Stays y (cond (e && (c == b)) (g y) y)) (sym m) (subst (λ e. Stays y (cond e (g y) y)) (sym n) (stays y))
    go false n' m n = subst (λ e. Stays y (cond (e && (c == b)) (g y) y)) (sym m) (stays y)

-- A slot that is tested to be bare is the bare one.
bare_is : (x : Slot) → is_bare x ≡ true → x ≡ bare
bare_is x e = go x.row x.entries refl refl
  where
    go : (row : Option Row) (es : List (Undo Before)) → x.row ≡ row → x.entries ≡ es → x ≡ bare
    go None [] r n = let r' : x.row ≡ None = r in let n' : x.entries ≡ [] = n in
        ap (λ (o : Option Row). record { row = o; entries = x.entries }) r' ∙ ap (λ (es : List (Undo Before)). record { row = None; entries = es }) n'
    go None (y ∷ ys) r n = absurd (true_false (sym e ∙ ap (λ (o : Option Row). is_none o && has_none x.entries) r ∙ ap has_none n))
    go (Some row) es r n = absurd (true_false (sym e ∙ ap (λ (o : Option Row). is_none o && has_none x.entries) r))

-- Slots that are all bare stay so by a change that leaves a bare slot bare.
all_map : (f : Slot → Slot) → is_bare (f bare) ≡ true → (slots : List Slot) → list_all is_bare slots ≡ true → list_all is_bare (map f slots) ≡ true
all_map f same [] e = refl
all_map f same (x ∷ slots) e =
    let both = and_parts (is_bare x) (list_all is_bare slots) e in
    ap (λ y. is_bare (f y) && list_all is_bare (map f slots)) (bare_is x both.0)
    ∙ ap (λ b. b && list_all is_bare (map f slots)) same ∙ all_map f same slots both.1

module _ (sh : Shape) (s : Parts) (shape : IsShape sh) (ok : Sound sh s) (t b : ℕ) (has : HasBlock sh t b) where
  -- The block's body in front of the event.
  abbrev x : Body
  x = body_at sh s t b

  -- a write to a slot that is not bare
  write_stays : (u p : ℕ) (g : Slot → Slot) → is_bare (slot_at sh s u p) ≡ false → Stays (body_at sh s t b) (at_both u (block_of p) (with_slot (slot_of p) g) t b (body_at sh s t b))
  write_stays u p g filled = at_one u (block_of p) (with_slot (slot_of p) g) t b (body_at sh s t b) (λ e f empty.
      absurd (true_false (sym empty ∙ ap (λ u. is_empty (body_at sh s u b)) e ∙ ap (λ b. is_empty (body_at sh s u b)) f ∙ not_empty (body_at sh s u (block_of p)) (slot_of p) filled)))

  -- An update or a delete leaves an empty body empty.
  change_stays : (own : OwnKey) (u : ℕ) (key : ℤ) (choice : Row → Change) → IsThawed sh u key s
      → Stays (body_at sh s t b) ((after_change sh s own u choice (change_judged sh s own u key)).body t b (body_at sh s t b))
  change_stays own u key choice thawed = go (change_judged sh s own u key) refl
    where
      go : (r : Result ℕ WriteFault) → change_judged sh s own u key ≡ r → Stays (body_at sh s t b) ((after_change sh s own u choice (change_judged sh s own u key)).body t b (body_at sh s t b))
      go (Err fault) is = subst (λ r. Stays (body_at sh s t b) ((after_change sh s own u choice r).body t b (body_at sh s t b))) (sym is) (stays (body_at sh s t b))
      go (Ok p) is = subst (λ r. Stays (body_at sh s t b) ((after_change sh s own u choice r).body t b (body_at sh s t b))) (sym is)
          (write_stays u p (written own.session (choice (unwrap_or (slot_at sh s u p).row []))) (change_goes sh s ok own u key p thawed is).filled)

  -- A commit leaves an empty body empty, with writes or without.
  commit_stays : (wrote : Bool) (q at number : ℕ) → Stays (body_at sh s t b) ((cond wrote (committed_in q at number) (λ (body : Body). body)) (body_at sh s t b))
  commit_stays true q at number e = all_map (committed q at number) refl (body_at sh s t b).slots e
  commit_stays false q at number e = e

  -- An abort leaves an empty body empty.
  abort_stays : (q : ℕ) → Stays (body_at sh s t b) (rolled_back_in q (body_at sh s t b))
  abort_stays q e = go (is_written_by q (body_at sh s t b))
    where
      go : (w : Bool) → is_empty (cond w (record (modified (body_at sh s t b)) { slots = map (rolled_back q) (body_at sh s t b).slots }) (body_at sh s t b)) ≡ true
      go true = all_map (rolled_back q) refl (body_at sh s t b).slots e
      go false = e

  -- The halves of pairs in other blocks leave a body as it is.
  halves_same : (at : ℕ) (row : MovePair → Row) (pairs : List MovePair) (y : Body)
      → ((pair : MovePair) → Among pair pairs → (block_of pair.source ≢ b) × (block_of pair.target ≢ b)) → fold (halves at row b) y pairs ≡ y
  halves_same at row [] y far = refl
  halves_same at row (first ∷ rest) y far =
      ap (λ z. fold (halves at row b) z rest) (one (block_of first.source == b) (block_of first.target == b) (num_not (block_of first.source) b (far first (inl refl)).0) (num_not (block_of first.target) b (far first (inl refl)).1))
      ∙ halves_same at row rest y (λ pair a. far pair (inr a))
    where
      one : (m n : Bool) → (block_of first.source == b) ≡ false → (block_of first.target == b) ≡ false → halves at row b y first ≡ y
      one m n p q =
          ap (λ e. cond e (with_slot (slot_of first.target) (moved_in at (row first)) (left_half at row b first y)) (left_half at row b first y)) q
          ∙ ap (λ e. cond e (with_slot (slot_of first.source) (moved_out at (row first)) y) y) p

  -- A move leaves an empty body empty.
  move_stays : (u : ℕ) (moves : List MovePair) → Stays (body_at sh s t b) ((changes_of sh s (event.Move u moves)).body t b (body_at sh s t b))
  move_stays u moves = go (held_pairs sh s u moves) (λ pair a. (kept_among (holds sh s u) moves pair a).1)
    where
      row_of : (y : ℕ) → may_move sh s u y ≡ true → has_row (body_at sh s u y) ≡ true
      row_of y may = (and_parts (is_loose (body_at sh s u y).phase && (body_at sh s u y).cooling && not (is_head sh s u y)) (has_row (body_at sh s u y)) may).1

      both : (pair : MovePair) → holds sh s u pair ≡ true → (has_row (body_at sh s u (block_of pair.source)) ≡ true) × (has_row (body_at sh s u (block_of pair.target)) ≡ true)
      both pair held =
          let a = and_parts (may_move sh s u (block_of pair.source) && may_move sh s u (block_of pair.target) && has_key pair.key (slot_at sh s u pair.source).row && has_none (slot_at sh s u pair.source).entries)
          (is_bare (slot_at sh s u pair.target)) held in
          let b' = and_parts (may_move sh s u (block_of pair.source) && may_move sh s u (block_of pair.target) && has_key pair.key (slot_at sh s u pair.source).row) (has_none (slot_at sh s u pair.source).entries) a.0 in
          let c = and_parts (may_move sh s u (block_of pair.source) && may_move sh s u (block_of pair.target)) (has_key pair.key (slot_at sh s u pair.source).row) b'.0 in
          let d = and_parts (may_move sh s u (block_of pair.source)) (may_move sh s u (block_of pair.target)) c.0 in
          (row_of (block_of pair.source) d.0, row_of (block_of pair.target) d.1)

      other : (t ≡ u) → is_empty (body_at sh s t b) ≡ true → (y : ℕ) → has_row (body_at sh s u y) ≡ true → y ≢ b
      other e empty y some same = true_false (sym empty ∙ ap (λ u. is_empty (body_at sh s u b)) e ∙ ap (λ y. is_empty (body_at sh s u y)) (sym same) ∙ row_fills (body_at sh s u y) some)

      go : (pairs : List MovePair) → ((pair : MovePair) → Among pair pairs → holds sh s u pair ≡ true) → Stays (body_at sh s t b) ((after_move sh s u pairs).body t b (body_at sh s t b))
      go [] held empty = empty
      go (first ∷ rest) held empty = at (t == u) refl
        where
          at : (e : Bool) → (t == u) ≡ e → is_empty (cond (t == u) (fold (halves ((desk_at sh s).newest + 1) (moved_row sh s u) b) (body_at sh s t b) (first ∷ rest)) (body_at sh s t b)) ≡ true
          at false e = ap (λ e. is_empty (cond e (fold (halves ((desk_at sh s).newest + 1) (moved_row sh s u) b) (body_at sh s t b) (first ∷ rest)) (body_at sh s t b))) e ∙ empty
          at true e = ap (λ e. is_empty (cond e (fold (halves ((desk_at sh s).newest + 1) (moved_row sh s u) b) (body_at sh s t b) (first ∷ rest)) (body_at sh s t b))) e
              ∙ ap is_empty (halves_same ((desk_at sh s).newest + 1) (moved_row sh s u) (first ∷ rest) (body_at sh s t b)
              (λ pair a. let o = both pair (held pair a) in (other (num t u e) empty (block_of pair.source) o.0, other (num t u e) empty (block_of pair.target) o.1)))
              ∙ empty

  -- A seal leaves an empty body empty, whether it is granted or not.
  seal_stays : (u c : ℕ) → Stays (body_at sh s t b) ((changes_of sh s (event.Seal u c)).body t b (body_at sh s t b))
  seal_stays u c = go (is_none (seal_fault (is_head sh s u c) (body_at sh s u c)))
    where
      go : (e : Bool) → Stays (body_at sh s t b) ((cond e (record nothing { body = at_both u c sealed }) nothing).body t b (body_at sh s t b))
      go true = at_one u c sealed t b (body_at sh s t b) (λ e f empty. empty)
      go false = stays (body_at sh s t b)

-- ---- sums over blocks

-- A bound of each number of a range is one of the sums.
sum_least : (f g d : ℕ → ℕ) (a n : ℕ) → ((b : ℕ) → a ≤ b → b < a + n → f b ≤ g b + d b)
    → sum_by f (range_with_len a n) ≤ sum_by g (range_with_len a n) + sum_by d (range_with_len a n)
sum_least f g d a zero each = omega arith
sum_least f g d a (suc n) each =
    let here = each a (omega arith) (omega arith) in
    let rest = sum_least f g d (a + 1) n (λ b low high. each b (omega (arith, low)) (omega (arith, high))) in
    let i = sum_by-cons f a (range_with_len (a + 1) n) in
    let j = sum_by-cons g a (range_with_len (a + 1) n) in
    let k = sum_by-cons d a (range_with_len (a + 1) n) in
    omega (arith, here, rest, i, j, k)

-- A sum of zeros over a range is zero.
sum_zero : (d : ℕ → ℕ) (a n : ℕ) → ((b : ℕ) → a ≤ b → b < a + n → d b ≡ 0) → sum_by d (range_with_len a n) ≡ 0
sum_zero d a zero each = refl
sum_zero d a (suc n) each =
    let here = each a (omega arith) (omega arith) in
    let rest = sum_zero d (a + 1) n (λ b low high. each b (omega (arith, low)) (omega (arith, high))) in
    let k = sum_by-cons d a (range_with_len (a + 1) n) in
    omega (arith, here, rest, k)

-- A range has one number at most that is a given one.
one_most : (k a n : ℕ) → sum_by (λ b. cond (b == k) 1 0) (range_with_len a n) ≤ 1
one_most k a zero = omega arith
one_most k a (suc n) = go (a == k) refl (one_most k (a + 1) n)
  where
    first : sum_by (λ b. cond (b == k) 1 0) (range_with_len a (suc n)) ≡ cond (a == k) 1 0 + sum_by (λ b. cond (b == k) 1 0) (range_with_len (a + 1) n)
    first = sum_by-cons (λ b. cond (b == k) 1 0) a (range_with_len (a + 1) n)

    go : (e : Bool) → (a == k) ≡ e → sum_by (λ b. cond (b == k) 1 0) (range_with_len (a + 1) n) ≤ 1 → sum_by (λ b. cond (b == k) 1 0) (range_with_len a (suc n)) ≤ 1
    go true e rest =
        let none = sum_zero (λ b. cond (b == k) 1 0) (a + 1) n (λ b low high. let same = num a k e in let ne : (b == k) ≡ false = grind (arith, nat_tests, low, same) in ap (λ x. cond x 1 0) ne) in
        let here : cond {A = ℕ} (a == k) 1 0 ≡ 1 = ap (λ x. cond x 1 0) e in
        omega (arith, first, none, here)
    go false e rest = let here : cond {A = ℕ} (a == k) 1 0 ≡ 0 = ap (λ x. cond x 1 0) e in omega (arith, first, rest, here)

-- A sum over a range is at least as many times what each number counts at least.
all_least : (f : ℕ → ℕ) (w a n : ℕ) → ((b : ℕ) → a ≤ b → b < a + n → w ≤ f b) → n * w ≤ sum_by f (range_with_len a n)
all_least f w a zero each = omega arith
all_least f w a (suc n) each =
    let here = each a (omega arith) (omega arith) in
    let rest = all_least f w (a + 1) n (λ b low high. each b (omega (arith, low)) (omega (arith, high))) in
    let k = sum_by-cons f a (range_with_len (a + 1) n) in
    let m : suc n * w ≡ w + n * w = grind arith in
    omega (arith, here, rest, k, m)

-- ---- one block's use

-- The slots in use of a block, which is the head's, empty, or neither.
abbrev use_of : ℕ → ℕ → ℕ → ℕ → Bool → ℕ
use_of head taken slots b empty = cond (b == head) taken (cond empty 0 slots)

-- A head that took no more and a block that stays empty have no more slots in use.
fewer : (head taken less slots b : ℕ) (e e' : Bool) → less ≤ taken → (e ≡ true → e' ≡ true) → use_of head less slots b e' ≤ use_of head taken slots b e
fewer head taken less slots b e e' few same = go (b == head) e e' same
  where
    go : (h e e' : Bool) → (e ≡ true → e' ≡ true) → cond h less (cond e' 0 slots) ≤ cond h taken (cond e 0 slots)
    go true e e' same = few
    go false true true same = omega arith
    go false true false same = absurd (true_false (sym (same refl)))
    go false false true same = omega arith
    go false false false same = omega arith

module _ (sh : Shape) (s : Parts) (shape : IsShape sh) (ok : Sound sh s) (t : ℕ) (has : HasTable sh t) where
  -- The table's head in front of the event.
  abbrev h : Head
  h = head_at sh s t

  -- Each number of the range over the table's blocks is that of a block.
  block_has : (b : ℕ) → 0 ≤ b → b < 0 + blocks_of sh t → HasBlock sh t b
  block_has b low high = (has, omega (arith, high))

  -- after some changes
  module _ (c : Changes) where
    abbrev now : Head
    now = c.head t (head_at sh s t)

    use_after : (b : ℕ) → HasBlock sh t b → used_in sh (Rattle.event_spec.specs.Parts.each_changed c (names sh) s) t b
        ≡ use_of (c.head t (head_at sh s t)).block (c.head t (head_at sh s t)).taken (slots_of sh t) b (is_empty (c.body t b (body_at sh s t b)))
    use_after b hb =
        ap (λ (h : Head). cond (b == h.block) h.taken (cond (is_empty (body_at sh (Rattle.event_spec.specs.Parts.each_changed c (names sh) s) t b)) 0 (slots_of sh t))) (head_after sh s (shaped sh s ok) c t has)
        ∙ ap (λ x. use_of (c.head t (head_at sh s t)).block (c.head t (head_at sh s t)).taken (slots_of sh t) b (is_empty x)) (body_after sh s (shaped sh s ok) c t b hb)

    -- nothing more is in use
    no_more : (c.head t (head_at sh s t)).block ≡ (head_at sh s t).block → (c.head t (head_at sh s t)).taken ≤ (head_at sh s t).taken
        → (c.head t (head_at sh s t)).inserts ≡ (head_at sh s t).inserts
        → ((b : ℕ) → HasBlock sh t b → Stays (body_at sh s t b) (c.body t b (body_at sh s t b)))
        → (used sh (Rattle.event_spec.specs.Parts.each_changed c (names sh) s) t ≤ used sh s t)
        × ((head_at sh (Rattle.event_spec.specs.Parts.each_changed c (names sh) s) t).inserts ≡ (head_at sh s t).inserts)
    no_more block taken inserts stay =
        let each = sum_least (used_in sh (Rattle.event_spec.specs.Parts.each_changed c (names sh) s) t) (used_in sh s t) (λ b. 0) 0 (blocks_of sh t)
        (λ b low high.
        let hb = block_has b low high in
        let e = use_after b hb in
        let f : use_of (c.head t (head_at sh s t)).block (c.head t (head_at sh s t)).taken (slots_of sh t) b (is_empty (c.body t b (body_at sh s t b))) ≤ used_in sh s t b =
        subst (λ k. use_of k (c.head t (head_at sh s t)).taken (slots_of sh t) b (is_empty (c.body t b (body_at sh s t b))) ≤ used_in sh s t b) (sym block)
        (fewer (head_at sh s t).block (head_at sh s t).taken (c.head t (head_at sh s t)).taken (slots_of sh t) b (is_empty (body_at sh s t b)) (is_empty (c.body t b (body_at sh s t b))) taken (stay b hb)) in
        omega (arith, e, f)) in
        let none = sum_zero (λ b. 0) 0 (blocks_of sh t) (λ b low high. refl) in
        (omega (arith, each, none), ap (λ (h : Head). h.inserts) (head_after sh s (shaped sh s ok) c t has) ∙ inserts)

  -- ---- an insert

  -- The slots in use are more by what the head counts, and this by at most so many.
  abbrev Grows : Parts → ℕ → Type 0
  Grows parts more =
      (used sh parts t + (head_at sh s t).inserts ≤ used sh s t + (head_at sh parts t).inserts)
      × ((head_at sh parts t).inserts ≤ (head_at sh s t).inserts + more)

  -- With no more slots in use and no insert counted, the slots in use grow within any bound.
  still : (c : Changes) (more : ℕ) → (used sh (Rattle.event_spec.specs.Parts.each_changed c (names sh) s) t ≤ used sh s t)
      × ((head_at sh (Rattle.event_spec.specs.Parts.each_changed c (names sh) s) t).inserts ≡ (head_at sh s t).inserts)
      → Grows (Rattle.event_spec.specs.Parts.each_changed c (names sh) s) more
  still c more h = let a = h.0 in let b = h.1 in (omega (arith, a, b), omega (arith, b))

  -- one slot of one block more
  one_more : (c : Changes) (p : ℕ) (empty' : ℕ → Bool) → (c.head t (head_at sh s t)).inserts ≡ (head_at sh s t).inserts + 1
      → ((b : ℕ) → HasBlock sh t b → used_in sh (Rattle.event_spec.specs.Parts.each_changed c (names sh) s) t b ≤ used_in sh s t b + cond (b == p) 1 0)
      → Grows (Rattle.event_spec.specs.Parts.each_changed c (names sh) s) 1
  one_more c p empty' inserts each =
      let sum = sum_least (used_in sh (Rattle.event_spec.specs.Parts.each_changed c (names sh) s) t) (used_in sh s t) (λ b. cond (b == p) 1 0) 0 (blocks_of sh t) (λ b low high. each b (block_has b low high)) in
      let most = one_most p 0 (blocks_of sh t) in
      let now = ap (λ (h : Head). h.inserts) (head_after sh s (shaped sh s ok) c t has) in
      (omega (arith, sum, most, now, inserts), omega (arith, now, inserts))

  -- the next slot
  module _ (own : OwnKey) (row : Row) (p : ℕ) (unwritten : own.written ≡ None) (next : next_place (head_at sh s t) (slots_of sh t) ≡ Some p) where
    abbrev the : Changes
    the = after_insert sh s own t row (Ok p)

    head_is : (after_insert sh s own t row (Ok p)).head t (head_at sh s t) ≡ taken_by (slots_of sh t) (head_at sh s t)
    head_is =
        ap (λ e. cond e ((cond (is_some own.written) (λ (head : Head). head) (taken_by (slots_of sh t))) (head_at sh s t)) (head_at sh s t)) (num_refl t)
        ∙ ap (λ o. (cond (is_some o) (λ (head : Head). head) (taken_by (slots_of sh t))) (head_at sh s t)) unwritten

    -- another block's body stays
    body_is : (b k : ℕ) → block_of p ≡ k → (b == k) ≡ false → (after_insert sh s own t row (Ok p)).body t b (body_at sh s t b) ≡ body_at sh s t b
    body_is b k at other =
        ap (λ e. cond (e && (b == block_of p)) (with_slot (slot_of p) (written own.session (change.Put row)) (body_at sh s t b)) (body_at sh s t b)) (num_refl t)
        ∙ ap (λ k. cond (b == k) (with_slot (slot_of p) (written own.session (change.Put row)) (body_at sh s t b)) (body_at sh s t b)) at
        ∙ ap (λ e. cond e (with_slot (slot_of p) (written own.session (change.Put row)) (body_at sh s t b)) (body_at sh s t b)) other

    in_head : nat_lt (head_at sh s t).taken (slots_of sh t) ≡ true → Grows (Rattle.event_spec.specs.Parts.each_changed (after_insert sh s own t row (Ok p)) (names sh) s) 1
    in_head room = one_more (after_insert sh s own t row (Ok p)) (head_at sh s t).block (λ b. true) (ap (λ (h : Head). h.inserts) head) each
      where
        head : (after_insert sh s own t row (Ok p)).head t (head_at sh s t) ≡ record (head_at sh s t) { taken = (head_at sh s t).taken + 1; inserts = (head_at sh s t).inserts + 1 }
        head = head_is ∙ ap (λ e. cond e (record (head_at sh s t) { taken = (head_at sh s t).taken + 1; inserts = (head_at sh s t).inserts + 1 }) (moved_on (head_at sh s t).empty (head_at sh s t))) room

        some_same : (x y : ℕ) → Some x ≡ Some y → x ≡ y
        some_same x y e = cc

        place : p ≡ place_of (head_at sh s t).block (head_at sh s t).taken
        place = sym (some_same (place_of (head_at sh s t).block (head_at sh s t).taken) p
            (sym (ap (λ e. cond e (Some (place_of (head_at sh s t).block (head_at sh s t).taken)) (first_of_blocks (head_at sh s t).empty)) room) ∙ next))

        at : block_of p ≡ (head_at sh s t).block
        at =
            let low : (head_at sh s t).taken < slots_of sh t = grind (arith, nat_tests, room) in
            let few = (shape.slots t has).1 in
            ap block_of place ∙ block_is (head_at sh s t).block (head_at sh s t).taken (omega (arith, low, few))

        each : (b : ℕ) → HasBlock sh t b
            → used_in sh (Rattle.event_spec.specs.Parts.each_changed (after_insert sh s own t row (Ok p)) (names sh) s) t b ≤ used_in sh s t b + cond (b == (head_at sh s t).block) 1 0
        each b hb = go (b == (head_at sh s t).block) refl
          where
            is : used_in sh (Rattle.event_spec.specs.Parts.each_changed (after_insert sh s own t row (Ok p)) (names sh) s) t b
                ≡ use_of (head_at sh s t).block ((head_at sh s t).taken + 1) (slots_of sh t) b (is_empty ((after_insert sh s own t row (Ok p)).body t b (body_at sh s t b)))
            is = use_after (after_insert sh s own t row (Ok p)) b hb
                ∙ ap (λ (h : Head). use_of h.block h.taken (slots_of sh t) b (is_empty ((after_insert sh s own t row (Ok p)).body t b (body_at sh s t b)))) head

            go : (e : Bool) → (b == (head_at sh s t).block) ≡ e
                → used_in sh (Rattle.event_spec.specs.Parts.each_changed (after_insert sh s own t row (Ok p)) (names sh) s) t b ≤ used_in sh s t b + cond (b == (head_at sh s t).block) 1 0
            go true e =
                let now : used_in sh (Rattle.event_spec.specs.Parts.each_changed (after_insert sh s own t row (Ok p)) (names sh) s) t b ≡ (head_at sh s t).taken + 1 =
                is ∙ ap (λ e. cond e ((head_at sh s t).taken + 1) (cond (is_empty ((after_insert sh s own t row (Ok p)).body t b (body_at sh s t b))) 0 (slots_of sh t))) e in
                let old : used_in sh s t b ≡ (head_at sh s t).taken = ap (λ e. cond e (head_at sh s t).taken (cond (is_empty (body_at sh s t b)) 0 (slots_of sh t))) e in
                let one : cond {A = ℕ} (b == (head_at sh s t).block) 1 0 ≡ 1 = ap (λ e. cond e 1 0) e in
                omega (arith, now, old, one)
            go false e =
                let now : used_in sh (Rattle.event_spec.specs.Parts.each_changed (after_insert sh s own t row (Ok p)) (names sh) s) t b ≡ cond (is_empty (body_at sh s t b)) 0 (slots_of sh t) =
                is ∙ ap (λ e. cond e ((head_at sh s t).taken + 1) (cond (is_empty ((after_insert sh s own t row (Ok p)).body t b (body_at sh s t b))) 0 (slots_of sh t))) e
                ∙ ap (λ x. cond (is_empty x) 0 (slots_of sh t)) (body_is b (head_at sh s t).block at e) in
                let old : used_in sh s t b ≡ cond (is_empty (body_at sh s t b)) 0 (slots_of sh t) = ap (λ e. cond e (head_at sh s t).taken (cond (is_empty (body_at sh s t b)) 0 (slots_of sh t))) e in
                let none : cond {A = ℕ} (b == (head_at sh s t).block) 1 0 ≡ 0 = ap (λ e. cond e 1 0) e in
                omega (arith, now, old, none)

    in_other : nat_lt (head_at sh s t).taken (slots_of sh t) ≡ false → Grows (Rattle.event_spec.specs.Parts.each_changed (after_insert sh s own t row (Ok p)) (names sh) s) 1
    in_other spent = go (head_at sh s t).empty refl
      where
        head : (after_insert sh s own t row (Ok p)).head t (head_at sh s t) ≡ moved_on (head_at sh s t).empty (head_at sh s t)
        head = head_is ∙ ap (λ e. cond e (record (head_at sh s t) { taken = (head_at sh s t).taken + 1; inserts = (head_at sh s t).inserts + 1 }) (moved_on (head_at sh s t).empty (head_at sh s t))) spent

        goes : first_of_blocks (head_at sh s t).empty ≡ Some p
        goes = sym (ap (λ e. cond e (Some (place_of (head_at sh s t).block (head_at sh s t).taken)) (first_of_blocks (head_at sh s t).empty)) spent) ∙ next

        some_same : (x y : ℕ) → Some x ≡ Some y → x ≡ y
        some_same x y e = cc

        none_some : None ≡ Some p → ⊥
        none_some e = cc

        go : (ys : List ℕ) → (head_at sh s t).empty ≡ ys → Grows (Rattle.event_spec.specs.Parts.each_changed (after_insert sh s own t row (Ok p)) (names sh) s) 1
        go [] e = absurd (none_some (ap first_of_blocks (sym e) ∙ goes))
        go (y ∷ ys) e = one_more (after_insert sh s own t row (Ok p)) y (λ b. true) (ap (λ (h : Head). h.inserts) now) each
          where
            now : (after_insert sh s own t row (Ok p)).head t (head_at sh s t) ≡ record { block = y; taken = 1; inserts = (head_at sh s t).inserts + 1; empty = ys }
            now = head ∙ ap (λ es. moved_on es (head_at sh s t)) e

            place : p ≡ place_of y 0
            place = sym (some_same (place_of y 0) p (ap first_of_blocks (sym e) ∙ goes))

            at : block_of p ≡ y
            at = ap block_of place ∙ block_is y 0 (omega arith)

            test : (is_empty (body_at sh s t y) && not (y == (head_at sh s t).block)) ≡ true
            test = (filter_first (λ b. is_empty (body_at sh s t b) && not (b == (head_at sh s t).block)) (below (blocks_of sh t)) y ys (sym (ok.heads t has).empty ∙ e)).1

            each : (b : ℕ) → HasBlock sh t b
                → used_in sh (Rattle.event_spec.specs.Parts.each_changed (after_insert sh s own t row (Ok p)) (names sh) s) t b ≤ used_in sh s t b + cond (b == y) 1 0
            each b hb = at_block (b == y) refl
              where
                is : used_in sh (Rattle.event_spec.specs.Parts.each_changed (after_insert sh s own t row (Ok p)) (names sh) s) t b
                    ≡ use_of y 1 (slots_of sh t) b (is_empty ((after_insert sh s own t row (Ok p)).body t b (body_at sh s t b)))
                is = use_after (after_insert sh s own t row (Ok p)) b hb
                    ∙ ap (λ (h : Head). use_of h.block h.taken (slots_of sh t) b (is_empty ((after_insert sh s own t row (Ok p)).body t b (body_at sh s t b)))) now

                least : (h x : Bool) → slots_of sh t ≤ (head_at sh s t).taken → cond x 0 (slots_of sh t) ≤ cond h (head_at sh s t).taken (cond x 0 (slots_of sh t))
                least true true low = omega arith
                least true false low = omega (arith, low)
                least false true low = omega arith
                least false false low = omega arith

                at_block : (c : Bool) → (b == y) ≡ c
                    → used_in sh (Rattle.event_spec.specs.Parts.each_changed (after_insert sh s own t row (Ok p)) (names sh) s) t b ≤ used_in sh s t b + cond (b == y) 1 0
                at_block true c =
                    let after_one : used_in sh (Rattle.event_spec.specs.Parts.each_changed (after_insert sh s own t row (Ok p)) (names sh) s) t b ≡ 1 =
                    is ∙ ap (λ e. cond e 1 (cond (is_empty ((after_insert sh s own t row (Ok p)).body t b (body_at sh s t b))) 0 (slots_of sh t))) c in
                    let one : cond {A = ℕ} (b == y) 1 0 ≡ 1 = ap (λ e. cond e 1 0) c in
                    omega (arith, after_one, one)
                at_block false c =
                    let then : used_in sh (Rattle.event_spec.specs.Parts.each_changed (after_insert sh s own t row (Ok p)) (names sh) s) t b ≡ cond (is_empty (body_at sh s t b)) 0 (slots_of sh t) =
                    is ∙ ap (λ e. cond e 1 (cond (is_empty ((after_insert sh s own t row (Ok p)).body t b (body_at sh s t b))) 0 (slots_of sh t))) c
                    ∙ ap (λ x. cond (is_empty x) 0 (slots_of sh t)) (body_is b y at c) in
                    let low : slots_of sh t ≤ (head_at sh s t).taken = grind (arith, nat_tests, spent) in
                    let before = least (b == (head_at sh s t).block) (is_empty (body_at sh s t b)) low in
                    omega (arith, then, before)

    -- an insert takes one slot at most, which its head counts
    pub new_slot : Grows (Rattle.event_spec.specs.Parts.each_changed (after_insert sh s own t row (Ok p)) (names sh) s) 1
    new_slot = go (nat_lt (head_at sh s t).taken (slots_of sh t)) refl
      where
        go : (e : Bool) → nat_lt (head_at sh s t).taken (slots_of sh t) ≡ e → Grows (Rattle.event_spec.specs.Parts.each_changed (after_insert sh s own t row (Ok p)) (names sh) s) 1
        go true e = in_head e
        go false e = in_other e

  -- The slots in use of a table grow by no more than its head's count, and this by one at most, and
  -- only where the insert was accepted into this table.
  insert_grows : (own : OwnKey) (u : ℕ) (row : Row) → IsLawful sh (event.Insert own u row) s
      → Grows (effect sh s (event.Insert own u row)) (cond (t == u) (writes_told (reply_to_write (insert_judged sh s own u (key_of row)))) 0)
  insert_grows own u row lawful = go (insert_judged sh s own u (key_of row)) refl
    where
      nothing_more : (more : ℕ) → Grows (Rattle.event_spec.specs.Parts.each_changed nothing (names sh) s) more
      nothing_more more = still nothing more (no_more nothing refl (omega arith) refl (λ b hb. stays (body_at sh s t b)))

      filled : (p : ℕ) → own.written ≡ Some p → is_bare (slot_at sh s u p) ≡ false
      filled p mine = writer_filled (slot_at sh s u p) own.session ((key_slot sh s ok own u (key_of row) lawful.0).there p mine).1

      go : (r : Result ℕ WriteFault) → insert_judged sh s own u (key_of row) ≡ r
          → Grows (Rattle.event_spec.specs.Parts.each_changed (after_insert sh s own u row (insert_judged sh s own u (key_of row))) (names sh) s)
          (cond (t == u) (writes_told (reply_to_write (insert_judged sh s own u (key_of row)))) 0)
      go (Err fault) is = subst (λ r. Grows (Rattle.event_spec.specs.Parts.each_changed (after_insert sh s own u row r) (names sh) s) (cond (t == u) (writes_told (reply_to_write r)) 0)) (sym is)
          (nothing_more (cond (t == u) 0 0))
      go (Ok p) is = subst (λ r. Grows (Rattle.event_spec.specs.Parts.each_changed (after_insert sh s own u row r) (names sh) s) (cond (t == u) (writes_told (reply_to_write r)) 0)) (sym is)
          (by own.written refl (t == u) refl)
        where
          goes : option_or own.written (next_place (head_at sh s u) (slots_of sh u)) ≡ Some p
          goes = (judged_ok
              (option_or (fault_of (newer_by (slot_at sh s u) (places_at sh s u (key_of row)) own)) (cond (is_some (found sh s own u (key_of row))) (Some Exists) None))
              (option_or own.written (next_place (head_at sh s u) (slots_of sh u))) (Full (head_at sh s u).inserts) p is).1

          the : Changes
          the = after_insert sh s own u row (Ok p)

          by : (w : Option ℕ) → own.written ≡ w → (e : Bool) → (t == u) ≡ e
              → Grows (Rattle.event_spec.specs.Parts.each_changed (after_insert sh s own u row (Ok p)) (names sh) s) (cond (t == u) 1 0)
          by w is false other =
              still (after_insert sh s own u row (Ok p)) (cond (t == u) 1 0)
              (no_more (after_insert sh s own u row (Ok p))
              (ap (λ e. (cond e ((cond (is_some own.written) (λ (head : Head). head) (taken_by (slots_of sh u))) (head_at sh s t)) (head_at sh s t)).block) other)
              (let e : (cond (t == u) ((cond (is_some own.written) (λ (head : Head). head) (taken_by (slots_of sh u))) (head_at sh s t)) (head_at sh s t)).taken ≡ (head_at sh s t).taken =
              ap (λ e. (cond e ((cond (is_some own.written) (λ (head : Head). head) (taken_by (slots_of sh u))) (head_at sh s t)) (head_at sh s t)).taken) other in omega (arith, e))
              (ap (λ e. (cond e ((cond (is_some own.written) (λ (head : Head). head) (taken_by (slots_of sh u))) (head_at sh s t)) (head_at sh s t)).inserts) other)
              (λ b hb. at_one u (block_of p) (with_slot (slot_of p) (written own.session (change.Put row))) t b (body_at sh s t b)
              (λ e f. absurd (true_false (sym (ap (λ u. t == u) (sym e) ∙ num_refl t) ∙ other)))))
          by (Some w) is true same =
              let mine : own.written ≡ Some p = is ∙ sym (ap (λ w. option_or w (next_place (head_at sh s u) (slots_of sh u))) is) ∙ goes in
              still (after_insert sh s own u row (Ok p)) (cond (t == u) 1 0)
              (no_more (after_insert sh s own u row (Ok p))
              (ap (λ e. (cond e ((cond (is_some own.written) (λ (head : Head). head) (taken_by (slots_of sh u))) (head_at sh s t)) (head_at sh s t)).block) same
              ∙ ap (λ o. ((cond (is_some o) (λ (head : Head). head) (taken_by (slots_of sh u))) (head_at sh s t)).block) is)
              (let e : (cond (t == u) ((cond (is_some own.written) (λ (head : Head). head) (taken_by (slots_of sh u))) (head_at sh s t)) (head_at sh s t)).taken ≡ (head_at sh s t).taken =
              ap (λ e. (cond e ((cond (is_some own.written) (λ (head : Head). head) (taken_by (slots_of sh u))) (head_at sh s t)) (head_at sh s t)).taken) same
              ∙ ap (λ o. ((cond (is_some o) (λ (head : Head). head) (taken_by (slots_of sh u))) (head_at sh s t)).taken) is in omega (arith, e))
              (ap (λ e. (cond e ((cond (is_some own.written) (λ (head : Head). head) (taken_by (slots_of sh u))) (head_at sh s t)) (head_at sh s t)).inserts) same
              ∙ ap (λ o. ((cond (is_some o) (λ (head : Head). head) (taken_by (slots_of sh u))) (head_at sh s t)).inserts) is)
              (λ b hb. write_stays sh s shape ok t b hb u p (written own.session (change.Put row)) (filled p mine)))
          by None is true same =
              let e : t ≡ u = num t u same in
              let next : next_place (head_at sh s u) (slots_of sh u) ≡ Some p = sym (ap (λ w. option_or w (next_place (head_at sh s u) (slots_of sh u))) is) ∙ goes in
              subst (λ u. Grows (Rattle.event_spec.specs.Parts.each_changed (after_insert sh s own u row (Ok p)) (names sh) s) (cond (t == u) 1 0)) e
              (subst (λ x. Grows (Rattle.event_spec.specs.Parts.each_changed (after_insert sh s own t row (Ok p)) (names sh) s) (cond x 1 0)) (sym (num_refl t))
              (new_slot own row p is (subst (λ u. next_place (head_at sh s u) (slots_of sh u) ≡ Some p) (sym e) next)))

  -- ---- the events

  -- An event that leaves the head, and empty bodies empty, takes no slot.
  calmly : (e : CoreEvent) → (head : (changes_of sh s e).head t (head_at sh s t) ≡ head_at sh s t)
      → ((b : ℕ) → HasBlock sh t b → Stays (body_at sh s t b) ((changes_of sh s e).body t b (body_at sh s t b)))
      → Grows (effect sh s e) 0
  calmly e head stay = still (changes_of sh s e) 0
      (no_more (changes_of sh s e) (ap (λ (h : Head). h.block) head) (let same = ap (λ (h : Head). h.taken) head in omega (arith, same)) (ap (λ (h : Head). h.inserts) head) stay)

  -- where blocks may become empty
  emptied : (c : Changes) (empty : ℕ → Bool) (e : Bool) → c.head t (head_at sh s t) ≡ cond e (with_empty (blocks_of sh t) empty (head_at sh s t)) (head_at sh s t)
      → ((b : ℕ) → HasBlock sh t b → Stays (body_at sh s t b) (c.body t b (body_at sh s t b)))
      → Grows (Rattle.event_spec.specs.Parts.each_changed c (names sh) s) 0
  emptied c empty e head stay = still c 0 (no_more c (ap (λ (h : Head). h.block) head ∙ block e) (let same = ap (λ (h : Head). h.taken) head in let few = taken e in omega (arith, same, few)) (ap (λ (h : Head). h.inserts) head ∙ inserts e) stay)
    where
      block : (e : Bool) → (cond e (with_empty (blocks_of sh t) empty (head_at sh s t)) (head_at sh s t)).block ≡ (head_at sh s t).block
      block true = refl
      block false = refl

      inserts : (e : Bool) → (cond e (with_empty (blocks_of sh t) empty (head_at sh s t)) (head_at sh s t)).inserts ≡ (head_at sh s t).inserts
      inserts true = refl
      inserts false = refl

      cut : (x : Bool) (n : ℕ) → cond x 0 n ≤ n
      cut true n = omega arith
      cut false n = omega arith

      taken : (e : Bool) → (cond e (with_empty (blocks_of sh t) empty (head_at sh s t)) (head_at sh s t)).taken ≤ (head_at sh s t).taken
      taken true = cut (empty (head_at sh s t).block) (head_at sh s t).taken
      taken false = omega arith

  -- A move leaves the table's head.
  move_head : (u : ℕ) (pairs : List MovePair) → (after_move sh s u pairs).head t (head_at sh s t) ≡ head_at sh s t
  move_head u [] = refl
  move_head u (first ∷ rest) = refl

  -- An update or a delete leaves the table's head.
  change_head : (own : OwnKey) (u : ℕ) (choice : Row → Change) (r : Result ℕ WriteFault) → (after_change sh s own u choice r).head t (head_at sh s t) ≡ head_at sh s t
  change_head own u choice (Err fault) = refl
  change_head own u choice (Ok p) = refl

  -- A seal leaves the table's head, whether it is granted or not.
  seal_head : (u c : ℕ) → (changes_of sh s (event.Seal u c)).head t (head_at sh s t) ≡ head_at sh s t
  seal_head u c = go (is_none (seal_fault (is_head sh s u c) (body_at sh s u c)))
    where
      go : (e : Bool) → (cond e (record nothing { body = at_both u c sealed }) nothing).head t (head_at sh s t) ≡ head_at sh s t
      go true = refl
      go false = refl

  -- A commit leaves the head and the slots in use, whether it is refused or not.
  commit_head : (own : OwnTransaction) (stale : Option (Read × ℕ)) → (after_judged sh s own stale).head t (head_at sh s t) ≡ head_at sh s t
  commit_head own (Some stale) = refl
  commit_head own None = refl

  judged_stays : (own : OwnTransaction) (stale : Option (Read × ℕ)) (b : ℕ) → HasBlock sh t b → Stays (body_at sh s t b) ((after_judged sh s own stale).body t b (body_at sh s t b))
  judged_stays own (Some stale) b hb = stays (body_at sh s t b)
  judged_stays own None b hb = commit_stays sh s shape ok t b hb (is_some_write own.writes) own.session ((desk_at sh s).newest + 1) ((desk_at sh s).commits + 1)

  -- A lawful event takes no more slots than its head counts, one for a granted insert.
  event_grows : (e : CoreEvent) → IsLawful sh e s → Grows (effect sh s e) (inserted_by t e (reply_to sh s e))
  event_grows (event.Begin q) lawful = calmly (event.Begin q) refl (λ b hb. stays (body_at sh s t b))
  event_grows (event.Get own u key) lawful = calmly (event.Get own u key) refl (λ b hb. stays (body_at sh s t b))
  event_grows (event.Insert own u row) lawful = insert_grows own u row lawful
  event_grows (event.Update own u row) lawful = calmly (event.Update own u row) (change_head own u (λ old. change.Patch (differences 0 old row)) (change_judged sh s own u (key_of row)))
      (λ b hb. change_stays sh s shape ok t b hb own u (key_of row) (λ old. change.Patch (differences 0 old row)) lawful.1.2)
  event_grows (event.Delete own u key) lawful = calmly (event.Delete own u key) (change_head own u (λ old. change.Gone) (change_judged sh s own u key))
      (λ b hb. change_stays sh s shape ok t b hb own u key (λ old. change.Gone) lawful.1.1)
  event_grows (event.Read own u c) lawful = calmly (event.Read own u c) refl (λ b hb. stays (body_at sh s t b))
  event_grows (event.Range own u low high) lawful = calmly (event.Range own u low high) refl (λ b hb. stays (body_at sh s t b))
  event_grows (event.Commit own reads) lawful = calmly (event.Commit own reads) (commit_head own (stale_in sh s own reads)) (judged_stays own (stale_in sh s own reads))
  event_grows (event.Abort own) lawful = emptied (changes_of sh s (event.Abort own)) (λ block. is_empty (rolled_back_in own.session (body_at sh s t block))) true refl
      (λ b hb. abort_stays sh s shape ok t b hb own.session)
  event_grows event.Oldest lawful = calmly event.Oldest refl (λ b hb. stays (body_at sh s t b))
  event_grows (event.Observe u c) lawful = calmly (event.Observe u c) refl (λ b hb. at_one u c (observed (is_head sh s u c)) t b (body_at sh s t b) (λ e f empty. empty))
  event_grows (event.Prune u c oldest) lawful = emptied (changes_of sh s (event.Prune u c oldest)) (λ block. is_empty (at_both u c (pruned_in oldest) t block (body_at sh s t block))) (t == u) refl
      (λ b hb. at_one u c (pruned_in oldest) t b (body_at sh s t b) (λ e f empty. all_map (pruned oldest) refl (body_at sh s t b).slots empty))
  event_grows (event.Look u c) lawful = calmly (event.Look u c) refl (λ b hb. stays (body_at sh s t b))
  event_grows (event.Move u moves) lawful = calmly (event.Move u moves) (move_head u (held_pairs sh s u moves)) (λ b hb. move_stays sh s shape ok t b hb u moves)
  event_grows (event.Seal u c) lawful = calmly (event.Seal u c) (seal_head u c) (λ b hb. seal_stays sh s shape ok t b hb u c)
  event_grows (event.Image u c image) lawful = calmly (event.Image u c image) refl (λ b hb. at_one u c imaged t b (body_at sh s t b) (λ e f empty. empty))
  event_grows (event.Thaw u c) lawful = calmly (event.Thaw u c) refl (λ b hb. at_one u c thawed t b (body_at sh s t b) (λ e f empty. empty))

-- an event takes no more slots than its head counts, at most one for an insert
pub room_is_counted : RoomIsCounted
room_is_counted sh s made t shape ok lawful has = go made.refused
  where
    go : (refused : Bool) → CountsRoom sh s (record { event = made.event; refused = refused }) t
    go true = record { room = omega arith; inserts = omega arith }
    go false = let grows = event_grows sh s shape ok t has made.event lawful in record { room = grows.0; inserts = grows.1 }

-- The slots in use of blocks that are full before one, empty behind it, and have so many in it.
sum_filled : (f : ℕ → ℕ) (slots last a d n : ℕ) → d < n → ((b : ℕ) → a ≤ b → b < a + d → f b ≡ slots) → f (a + d) ≡ last
    → ((b : ℕ) → a + d < b → b < a + n → f b ≡ 0) → sum_by f (range_with_len a n) ≡ d * slots + last
sum_filled f slots last a d zero less full here none = absurd (omega (arith, less))
sum_filled f slots last a zero (suc n) less full here none =
    let e : a + 0 ≡ a = omega arith in
    let first : f a ≡ last = sym (ap f e) ∙ here in
    let rest = sum_zero f (a + 1) n (λ b low high. none b (omega (arith, low)) (omega (arith, high))) in
    let k = sum_by-cons f a (range_with_len (a + 1) n) in
    omega (arith, first, rest, k)
sum_filled f slots last a (suc d) (suc n) less full here none =
    let e : a + suc d ≡ a + 1 + d = omega arith in
    let first = full a (omega arith) (omega arith) in
    let rest = sum_filled f slots last (a + 1) d n (omega (arith, less)) (λ b low high. full b (omega (arith, low)) (omega (arith, high))) (sym (ap f e) ∙ here)
    (λ b low high. none b (omega (arith, low)) (omega (arith, high))) in
    let k = sum_by-cons f a (range_with_len (a + 1) n) in
    let m : suc d * slots ≡ slots + d * slots = grind arith in
    omega (arith, first, rest, k, m)

-- in the opening core the slots of its rows are in use, and its head counts them
pub opens_with_rows : OpensWithRows
opens_with_rows sh t shape has = go (length (rows_first sh t)) refl
  where
    head_is : (n : ℕ) → length (rows_first sh t) ≡ n → head_at sh (opening sh) t ≡ opening_head (blocks_of sh t) (slots_of sh t) n
    head_is n is = head sh shape t has ∙ ap (opening_head (blocks_of sh t) (slots_of sh t)) is

    -- What a block has in use, by its head and whether it is empty.
    uses : (h : Head) (b : ℕ) (own empty : Bool) → head_at sh (opening sh) t ≡ h → (b == h.block) ≡ own → is_empty (body_at sh (opening sh) t b) ≡ empty
        → used_in sh (opening sh) t b ≡ cond own h.taken (cond empty 0 (slots_of sh t))
    uses h b own empty is mine bare =
        ap (λ (h : Head). cond (b == h.block) h.taken (cond (is_empty (body_at sh (opening sh) t b)) 0 (slots_of sh t))) is
        ∙ ap (λ (own : Bool). cond own h.taken (cond (is_empty (body_at sh (opening sh) t b)) 0 (slots_of sh t))) mine
        ∙ ap (λ (e : Bool). cond own h.taken (cond e 0 (slots_of sh t))) bare

    empty : (b : ℕ) → b < blocks_of sh t → length (rows_first sh t) ≤ b * slots_of sh t → is_empty (body_at sh (opening sh) t b) ≡ true
    empty b less behind = ap is_empty (body sh shape t b (has, less)) ∙ body_empty (columns_in sh t) (slots_of sh t) (rows_first sh t) b behind

    filled : (b : ℕ) → b < blocks_of sh t → b * slots_of sh t < length (rows_first sh t) → is_empty (body_at sh (opening sh) t b) ≡ false
    filled b less before = ap is_empty (body sh shape t b (has, less)) ∙ body_filled (columns_in sh t) (slots_of sh t) (rows_first sh t) b (shape.slots t has).0 before

    either : (b : Bool) → cond {A = ℕ} b 0 0 ≡ 0
    either true = refl
    either false = refl

    go : (n : ℕ) → length (rows_first sh t) ≡ n
        → (used sh (opening sh) t ≡ length (rows_first sh t)) × ((head_at sh (opening sh) t).inserts ≡ length (rows_first sh t))
    go zero is = (
      sum_zero (used_in sh (opening sh) t) 0 (blocks_of sh t)
          (λ b low high. uses (opening_head (blocks_of sh t) (slots_of sh t) 0) b (b == 0) true (head_is 0 is) refl (empty b (omega (arith, high)) (omega (arith, is))) ∙ either (b == 0))
          ∙ sym is,
      ap (λ (h : Head). h.inserts) (head_is 0 is) ∙ sym is,
    )
    go (suc before) is = (
      sum_filled (used_in sh (opening sh) t) (slots_of sh t) (before % slots_of sh t + 1) 0 (before / slots_of sh t) (blocks_of sh t) within full here behind
          ∙ (let whole = row_number (slots_of sh t) before in omega (arith, is, whole)),
      ap (λ (h : Head). h.inserts) (head_is (suc before) is) ∙ sym is,
    )
      where
        within : before / slots_of sh t < blocks_of sh t
        within = quotient_less before (slots_of sh t) (blocks_of sh t) (shape.slots t has).0 (let room = shape.room t has in omega (arith, is, room))

        whole : before / slots_of sh t * slots_of sh t + before % slots_of sh t ≡ before
        whole = row_number (slots_of sh t) before

        full : (b : ℕ) → 0 ≤ b → b < 0 + before / slots_of sh t → used_in sh (opening sh) t b ≡ slots_of sh t
        full b low high =
            let times : b * slots_of sh t ≤ before / slots_of sh t * slots_of sh t = mul-le-mul_right (slots_of sh t) (omega (arith, high)) in
            let sum = whole in
            uses (opening_head (blocks_of sh t) (slots_of sh t) (suc before)) b false false (head_is (suc before) is) (num_not b (before / slots_of sh t) (λ e. absurd (omega (arith, e, high))))
            (filled b (let most = within in omega (arith, high, most)) (omega (arith, times, sum, is)))

        here : used_in sh (opening sh) t (0 + before / slots_of sh t) ≡ before % slots_of sh t + 1
        here =
            let e : 0 + before / slots_of sh t ≡ before / slots_of sh t = omega arith in
            ap (used_in sh (opening sh) t) e
            ∙ uses (opening_head (blocks_of sh t) (slots_of sh t) (suc before)) (before / slots_of sh t) true (is_empty (body_at sh (opening sh) t (before / slots_of sh t))) (head_is (suc before) is) (num_refl (before / slots_of sh t)) refl

        behind : (b : ℕ) → 0 + before / slots_of sh t < b → b < 0 + blocks_of sh t → used_in sh (opening sh) t b ≡ 0
        behind b low high =
            let times : (before / slots_of sh t + 1) * slots_of sh t ≤ b * slots_of sh t = mul-le-mul_right (slots_of sh t) (omega (arith, low)) in
            let sum = whole in
            let rest : before % slots_of sh t < slots_of sh t = let one = (shape.slots t has).0 in omega (arith, one) in
            uses (opening_head (blocks_of sh t) (slots_of sh t) (suc before)) b false true (head_is (suc before) is) (num_not b (before / slots_of sh t) (λ e. absurd (omega (arith, e, low))))
            (empty b (omega (arith, high)) (omega (arith, times, sum, rest, is)))

-- without room for an insert all slots are in use
pub full_is_full : FullIsFull
full_is_full sh s own t none = all_least (used_in sh s t) (slots_of sh t) 0 (blocks_of sh t) each
  where
    each : (b : ℕ) → 0 ≤ b → b < 0 + blocks_of sh t → slots_of sh t ≤ used_in sh s t b
    each b low high = go (b == (head_at sh s t).block) (is_empty (body_at sh s t b)) refl refl
      where
        go : (h e : Bool) → (b == (head_at sh s t).block) ≡ h → is_empty (body_at sh s t b) ≡ e → slots_of sh t ≤ used_in sh s t b
        go true e h f =
            let spent = none.spent in
            let is : used_in sh s t b ≡ (head_at sh s t).taken = ap (λ x. cond x (head_at sh s t).taken (cond (is_empty (body_at sh s t b)) 0 (slots_of sh t))) h in
            omega (arith, spent, is)
        go false true h f =
            let has = within sh t b (omega (arith, high)) in
            let head = none.others b has f in
            absurd (true_false (sym (ap (λ k. b == k) (sym head) ∙ num_refl b) ∙ h))
        go false false h f =
            let is : used_in sh s t b ≡ slots_of sh t = ap (λ x. cond x (head_at sh s t).taken (cond (is_empty (body_at sh s t b)) 0 (slots_of sh t))) h ∙ ap (λ x. cond x 0 (slots_of sh t)) f in
            omega (arith, is)
