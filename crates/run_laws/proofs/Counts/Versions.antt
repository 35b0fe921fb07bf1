-- What each event makes of the entries of all slots.
use Rattle.std.proofs.Common.{◌≡◌, ◌≢◌, ℕ, zero, suc, ◌+◌, ◌*◌, ◌<◌, ◌^◌, ◌≤◌, Bool, true, false, cond, not, ◌&&◌, ◌==◌, List, [], ◌∷◌, fold, length, map, filter, Option, None, Some, is_none, is_some, unwrap_or, sum_by, refl, sym, ap, ◌∙◌, subst, arith}
use mathlib.Core.Logic.{inl, inr}
use Rattle.std.specs.Prelude.{Result, Ok, Err, count_by, slice_get, slice_index_or, slice_set}
use Rattle.std.specs.List.{range_with_len}
use Rattle.std.proofs.lemmas.Bool.Decides.{nat_tests}
use Rattle.std.proofs.lemmas.List.Sums.{sum_by-cons}
use Rattle.std.proofs.lemmas.Option.{none-some}
use Rattle.block_layout.specs.Place.{block_of, place_of, slot_of}
use Rattle.block_spec.specs.Bodies.{Body, committed_in, dropped_from, imaged, is_written_by, modified, observed, pruned_in, rolled_back_in, seal_fault, sealed, slot_in, thawed, with_slot}
use Rattle.block_spec.specs.declared.change.Before.{Before}
use Rattle.block_spec.specs.declared.change.Change.{Change}
use Rattle.block_spec.specs.declared.change.Change.TheVariants as change
use Rattle.block_spec.specs.Slots.{Row, Slot, bare, committed, moved_in, moved_out, pruned, rolled_back, writer_of, written}
use Rattle.core_laws.proofs.Events.Lists.{below_member, member_below}
use Rattle.core_laws.proofs.Events.Heads.{block_is, slot_is}
use Rattle.core_laws.proofs.Events.Moved.{halves}
use Rattle.core_laws.proofs.Events.Naming.{body_named}
use Rattle.event_spec.specs.declared.event.Event.TheVariants as event
use Rattle.event_spec.specs.declared.event.MovePair.{MovePair}
use Rattle.event_spec.specs.declared.own.OwnKey.{OwnKey}
use Rattle.event_spec.specs.declared.reply.Reply.TheVariants as reply
use Rattle.event_spec.specs.declared.reply.WriteFault.{WriteFault}
use Rattle.event_spec.specs.declared.own.OwnTransaction.{OwnTransaction}
use Rattle.event_spec.specs.Effects.{CoreEvent, after_change, after_commit, after_insert, after_judged, after_move, at_both, change_judged, changes_of, effect, held_pairs, insert_judged, is_some_write, moved_row, stale_in}
use Rattle.event_spec.specs.Judged.{differences}
use Rattle.event_spec.specs.Lawful.{Among, HasBlock, IsLawful}
use Rattle.event_spec.specs.Parts.{BodyOf, Changes, Parts, Shape, below, blocks_of, body_at, body_from, desk_at, each_changed, is_head, names, nothing, slot_at, slots_of, tables_of}
use Rattle.event_spec.specs.Replay.{opening, opening_part, rows_first}
use Rattle.event_spec.specs.Replies.{reply_to, reply_to_write, reply_to_commit}
use Rattle.event_spec.specs.Sound.{Sound}
use Rattle.isolation_spec.specs.declared.read.Read.{Read}
use Rattle.isolation_spec.specs.Contents.{key_of}
use Rattle.core_laws.proofs.Logs.Opening.{part_there}
use Rattle.core_laws.proofs.Slots.Endings.{rolled_back_other}
use Rattle.core_laws.proofs.Sound.Bodies.{true_false}
use Rattle.core_laws.proofs.Sound.Keeps.{shaped}
use Rattle.core_laws.proofs.Sound.Kept.{body_after, in_block}
use Rattle.undo_chain.specs.declared.undo.Undo.{Undo}
use Rattle.undo_chain.specs.Entry.{is_at_most, is_own, is_stamped_by}
use Rattle.undo_chain.specs.Stamped.{stamped}
use Rattle.store_laws.specs.Room.{writes_told}
use Rattle.run_laws.specs.Counts.Versions.{CountsVersions, OpensWithout, VersionsAreCounted, IdleOwnNone, commits_told, dropped_by, entries_at, entries_in, is_of, is_stamped, own_entries, stamped_by, stamped_entries, total, written_by}

-- Numbers that are tested to be equal are.
num : (a b : ℕ) → (a == b) ≡ true → a ≡ b
num a b e = grind (arith, nat_tests, e)

-- A number is tested to be itself.
num_refl : (a : ℕ) → (a == a) ≡ true
num_refl a = grind (arith, nat_tests)

-- ---- sums

-- a bound that holds of each element holds of the sums
pub sum_moves : {X : Type 0} (f d g e : X → ℕ) (xs : List X) → ((x : X) → Among x xs → f x + d x ≤ g x + e x)
    → sum_by f xs + sum_by d xs ≤ sum_by g xs + sum_by e xs
sum_moves f d g e [] each = omega arith
sum_moves f d g e (x ∷ xs) each =
    let here = each x (inl refl) in
    let rest = sum_moves f d g e xs (λ y a. each y (inr a)) in
    let i = sum_by-cons f x xs in let j = sum_by-cons d x xs in let k = sum_by-cons g x xs in let l = sum_by-cons e x xs in
    omega (arith, here, rest, i, j, k, l)

-- the sum of nothing each time is nothing
pub sum_none : {X : Type 0} (f : X → ℕ) (xs : List X) → ((x : X) → Among x xs → f x ≡ 0) → sum_by f xs ≡ 0
sum_none f [] each = refl
sum_none f (x ∷ xs) each =
    let here = each x (inl refl) in
    let rest = sum_none f xs (λ y a. each y (inr a)) in
    let i = sum_by-cons f x xs in
    omega (arith, here, rest, i)

-- each of the values is no more than their sum
pub sum_least : {X : Type 0} (f : X → ℕ) (x : X) (xs : List X) → Among x xs → f x ≤ sum_by f xs
sum_least f x [] a = absurd a
sum_least f x (y ∷ ys) (inl e) = let i = sum_by-cons f y ys in let same = ap f e in omega (arith, i, same)
sum_least f x (y ∷ ys) (inr a) = let i = sum_by-cons f y ys in let rest = sum_least f x ys a in omega (arith, i, rest)

-- A sum over images is the sum over elements of what their images count.
sum_mapped : {X Y : Type 0} (g : Y → ℕ) (f : X → Y) (xs : List X) → sum_by g (map f xs) ≡ sum_by (λ x. g (f x)) xs
sum_mapped g f [] = refl
sum_mapped g f (x ∷ xs) =
    let i = sum_by-cons g (f x) (map f xs) in let j = sum_by-cons (λ x. g (f x)) x xs in
    let rest = sum_mapped g f xs in omega (arith, i, j, rest)

-- With one slot set, a sum is more by no more than that slot counts more.
sum_set : (g : Slot → ℕ) (xs : List Slot) (j : ℕ) (y : Slot) (k : ℕ) → g y ≤ g (slice_index_or xs j bare) + k → sum_by g (slice_set xs j y) ≤ sum_by g xs + k
sum_set g [] j y k h = omega arith
sum_set g (x ∷ xs) zero y k h = let i = sum_by-cons g y xs in let j = sum_by-cons g x xs in omega (arith, h, i, j)
sum_set g (x ∷ xs) (suc n) y k h =
    let i = sum_by-cons g x (slice_set xs n y) in let j = sum_by-cons g x xs in
    let rest = sum_set g xs n y k h in omega (arith, rest, i, j)

-- Among those that a filter keeps no more pass a test than among all.
count_kept : {X : Type 0} (p q : X → Bool) (xs : List X) → count_by p (filter q xs) ≤ count_by p xs
count_kept p q [] = omega arith
count_kept p q (x ∷ xs) = go (q x) (count_kept p q xs)
  where
    go : (b : Bool) → count_by p (filter q xs) ≤ count_by p xs → count_by p (cond b (x ∷ filter q xs) (filter q xs)) ≤ count_by p (x ∷ xs)
    go true h = let i = sum_by-cons (λ x. cond {A = ℕ} (p x) 1 0) x (filter q xs) in let j = sum_by-cons (λ x. cond {A = ℕ} (p x) 1 0) x xs in omega (arith, h, i, j)
    go false h = let j = sum_by-cons (λ x. cond {A = ℕ} (p x) 1 0) x xs in omega (arith, h, j)

-- what passes a test is dropped where it fails another
count_parted : {X : Type 0} (p q : X → Bool) (xs : List X) → ((x : X) → q x ≡ true → p x ≡ true)
    → count_by p (filter (λ x. not (q x)) xs) + count_by q xs ≤ count_by p xs
count_parted p q [] both = omega arith
count_parted p q (x ∷ xs) both = go (q x) refl (count_parted p q xs both)
  where
    a : count_by q (x ∷ xs) ≡ cond {A = ℕ} (q x) 1 0 + count_by q xs
    a = sum_by-cons (λ x. cond {A = ℕ} (q x) 1 0) x xs

    b : count_by p (x ∷ xs) ≡ cond {A = ℕ} (p x) 1 0 + count_by p xs
    b = sum_by-cons (λ x. cond {A = ℕ} (p x) 1 0) x xs

    go : (e : Bool) → q x ≡ e → count_by p (filter (λ x. not (q x)) xs) + count_by q xs ≤ count_by p xs
        → count_by p (cond (not (q x)) (x ∷ filter (λ x. not (q x)) xs) (filter (λ x. not (q x)) xs)) + count_by q (x ∷ xs) ≤ count_by p (x ∷ xs)
    go true e h =
        let one : cond {A = ℕ} (p x) 1 0 ≡ 1 = ap (λ b. cond {A = ℕ} b 1 0) (both x e) in
        let here : cond {A = ℕ} (q x) 1 0 ≡ 1 = ap (λ b. cond {A = ℕ} b 1 0) e in
        let list : count_by p (cond (not (q x)) (x ∷ filter (λ x. not (q x)) xs) (filter (λ x. not (q x)) xs)) ≡ count_by p (filter (λ x. not (q x)) xs) =
        ap (λ b. count_by p (cond (not b) (x ∷ filter (λ x. not (q x)) xs) (filter (λ x. not (q x)) xs))) e in
        omega (arith, one, here, list, a, b, h)
    go false e h =
        let here : cond {A = ℕ} (q x) 1 0 ≡ 0 = ap (λ b. cond {A = ℕ} b 1 0) e in
        let list : count_by p (cond (not (q x)) (x ∷ filter (λ x. not (q x)) xs) (filter (λ x. not (q x)) xs)) ≡ count_by p (x ∷ filter (λ x. not (q x)) xs) =
        ap (λ b. count_by p (cond (not b) (x ∷ filter (λ x. not (q x)) xs) (filter (λ x. not (q x)) xs))) e in
        let i : count_by p (x ∷ filter (λ x. not (q x)) xs) ≡ cond {A = ℕ} (p x) 1 0 + count_by p (filter (λ x. not (q x)) xs) = sum_by-cons (λ x. cond {A = ℕ} (p x) 1 0) x (filter (λ x. not (q x)) xs) in
        omega (arith, here, list, i, a, b, h)

-- ---- over all blocks

-- A number among those of the tables is below their count.
in_tables : (sh : Shape) (t : ℕ) → Among t (tables_of sh) → t < length sh.tables
in_tables sh t a = let r = member_below 0 (length sh.tables) t a in omega (arith, r)

-- a bound that holds of each block holds over all blocks
pub total_moves : (sh : Shape) (f d g e : ℕ → ℕ → ℕ) → ((t b : ℕ) → HasBlock sh t b → f t b + d t b ≤ g t b + e t b)
    → total sh f + total sh d ≤ total sh g + total sh e
total_moves sh f d g e each =
    sum_moves (λ t. sum_by (f t) (below (blocks_of sh t))) (λ t. sum_by (d t) (below (blocks_of sh t))) (λ t. sum_by (g t) (below (blocks_of sh t))) (λ t. sum_by (e t) (below (blocks_of sh t))) (tables_of sh)
    (λ t a. sum_moves (f t) (d t) (g t) (e t) (below (blocks_of sh t)) (λ b c. each t b (in_block sh t b (in_tables sh t a) c)))

-- what is nothing in each block is nothing over all blocks
pub total_none : (sh : Shape) (f : ℕ → ℕ → ℕ) → ((t b : ℕ) → HasBlock sh t b → f t b ≡ 0) → total sh f ≡ 0
total_none sh f each = sum_none (λ t. sum_by (f t) (below (blocks_of sh t))) (tables_of sh)
    (λ t a. sum_none (f t) (below (blocks_of sh t)) (λ b c. each t b (in_block sh t b (in_tables sh t a) c)))

-- the count of each block is no more than that over all blocks
pub total_least : (sh : Shape) (f : ℕ → ℕ → ℕ) (t b : ℕ) → HasBlock sh t b → f t b ≤ total sh f
total_least sh f t b has =
    let table = sum_least (λ t. sum_by (f t) (below (blocks_of sh t))) t (tables_of sh) (below_member 0 (length sh.tables) t (omega arith) (let h = has.0 in omega (arith, h))) in
    let block = sum_least (f t) b (below (blocks_of sh t)) (below_member 0 (blocks_of sh t) b (omega arith) (let h = has.1 in omega (arith, h))) in
    omega (arith, table, block)

-- So many at one block, and none at any other.
abbrev only : ℕ → ℕ → ℕ → ℕ → ℕ → ℕ
only u c n t b = cond ((t == u) && (b == c)) n 0

-- a count of one place alone, summed over a range, is no more than that count
pub sum_only : (k n a m : ℕ) → sum_by (λ b. cond (b == k) n 0) (range_with_len a m) ≤ n
sum_only k n a zero = omega arith
sum_only k n a (suc m) = go (a == k) refl (sum_only k n (a + 1) m)
  where
    first : sum_by (λ b. cond (b == k) n 0) (range_with_len a (suc m)) ≡ cond (a == k) n 0 + sum_by (λ b. cond (b == k) n 0) (range_with_len (a + 1) m)
    first = sum_by-cons (λ b. cond (b == k) n 0) a (range_with_len (a + 1) m)

    above : (a m b : ℕ) → Among b (range_with_len a m) → a ≤ b
    above a zero b x = absurd x
    above a (suc m) b (inl e) = omega (arith, e)
    above a (suc m) b (inr x) = let h = above (a + 1) m b x in omega (arith, h)

    go : (e : Bool) → (a == k) ≡ e → sum_by (λ b. cond (b == k) n 0) (range_with_len (a + 1) m) ≤ n → sum_by (λ b. cond (b == k) n 0) (range_with_len a (suc m)) ≤ n
    go true e rest =
        let none = sum_none (λ b. cond (b == k) n 0) (range_with_len (a + 1) m)
        (λ b x. let low = above (a + 1) m b x in let same = num a k e in let ne : (b == k) ≡ false = grind (arith, nat_tests, low, same) in ap (λ x. cond x n 0) ne) in
        let here : cond {A = ℕ} (a == k) n 0 ≡ n = ap (λ x. cond x n 0) e in
        omega (arith, first, none, here)
    go false e rest = let here : cond {A = ℕ} (a == k) n 0 ≡ 0 = ap (λ x. cond x n 0) e in omega (arith, first, here, rest)

-- So many at one block alone are no more over all blocks.
total_only : (sh : Shape) (u c n : ℕ) → total sh (only u c n) ≤ n
total_only sh u c n =
    let each = sum_moves (λ t. sum_by (only u c n t) (below (blocks_of sh t))) (λ t. 0) (λ t. cond (t == u) n 0) (λ t. 0) (tables_of sh) (λ t a. inner t (t == u) refl) in
    let all = sum_only u n 0 (length sh.tables) in
    let z = sum_none (λ (t : ℕ). 0) (tables_of sh) (λ t a. refl) in
    omega (arith, each, all, z)
  where
    inner : (t : ℕ) (e : Bool) → (t == u) ≡ e → sum_by (only u c n t) (below (blocks_of sh t)) + 0 ≤ cond (t == u) n 0 + 0
    inner t true e =
        let one = sum_only c n 0 (blocks_of sh t) in
        let same : sum_by (only u c n t) (below (blocks_of sh t)) ≡ sum_by (λ b. cond (b == c) n 0) (below (blocks_of sh t)) = ap (λ x. sum_by (λ b. cond (x && (b == c)) n 0) (below (blocks_of sh t))) e in
        let here : cond {A = ℕ} (t == u) n 0 ≡ n = ap (λ x. cond x n 0) e in
        omega (arith, one, same, here)
    inner t false e =
        let none = sum_none (only u c n t) (below (blocks_of sh t)) (λ b a. ap (λ x. cond (x && (b == c)) n 0) e) in
        omega (arith, none)

-- ---- one entry, one slot, one body

-- One for a test that holds, and zero else.
abbrev one : Bool → ℕ
one b = cond b 1 0

-- A commit stamps no entry but its session's own.
stamped_one : (q at number : ℕ) (u : Undo Before) → one (is_stamped (stamped q at number u)) + 0 ≤ one (is_stamped u) + one (is_of q u)
stamped_one q at number u = go (is_own u q)
  where
    go : (b : Bool) → one (is_some (cond b (Some at) u.stamp)) + 0 ≤ one (is_stamped u) + one b
    go true = omega arith
    go false = omega arith

-- A commit makes no entry a session's own that was not.
owned_one : (r q at number : ℕ) (u : Undo Before) → one (is_of r (stamped q at number u)) + 0 ≤ one (is_of r u) + 0
owned_one r q at number u = go (is_own u q)
  where
    go : (b : Bool) → one (is_none (cond b (Some at) u.stamp) && not (Rattle.undo_chain.specs.Entry.is_move u.kind) && (u.session == r)) + 0 ≤ one (is_of r u) + 0
    go true = omega arith
    go false = omega arith

-- How many entries of a slot pass a test.
abbrev counts : (Undo Before → Bool) → Slot → ℕ
counts p slot = count_by p slot.entries

-- Of changed entries no more pass a test than passed it or pass another.
count_all : (p d e : Undo Before → Bool) (f : Undo Before → Undo Before) (es : List (Undo Before)) → ((u : Undo Before) → one (p (f u)) + 0 ≤ one (p u) + one (e u))
    → count_by p (map f es) ≤ count_by p es + count_by e es
count_all p d e f es each =
    let m = sum_mapped (λ u. one (p u)) f es in
    let s = sum_moves (λ u. one (p (f u))) (λ u. 0) (λ u. one (p u)) (λ u. one (e u)) es (λ u a. each u) in
    let z = sum_none (λ (u : Undo Before). 0) es (λ u a. refl) in
    omega (arith, m, s, z)

-- each slot of a body changes
slots_move : (p d e : Undo Before → Bool) (f : Slot → Slot) (slots : List Slot) → ((x : Slot) → counts p (f x) + counts d x ≤ counts p x + counts e x)
    → sum_by (counts p) (map f slots) + sum_by (counts d) slots ≤ sum_by (counts p) slots + sum_by (counts e) slots
slots_move p d e f slots each =
    let m = sum_mapped (counts p) f slots in
    let s = sum_moves (λ x. counts p (f x)) (counts d) (counts p) (counts e) slots (λ x a. each x) in
    omega (arith, m, s)

-- A test that no entry passes.
abbrev never : Undo Before → Bool
never u = false

-- Slots have no entry that passes the test which none passes.
none_never : (slots : List Slot) → sum_by (counts never) slots ≡ 0
none_never slots = sum_none (counts never) slots (λ x a. sum_none (λ (u : Undo Before). one (never u)) x.entries (λ u b. refl))

-- one slot of a body changes
slot_moves : (p : Undo Before → Bool) (j k : ℕ) (f : Slot → Slot) (y : Body) → ((x : Slot) → counts p (f x) ≤ counts p x + k)
    → entries_in p (with_slot j f y) ≤ entries_in p y + k
slot_moves p j k f y each = sum_set (counts p) y.slots j (f (slot_in y j)) k (each (slot_in y j))

-- An entry on top counts one more at most, where it passes the test.
pushed : (p : Undo Before → Bool) (u : Undo Before) (es : List (Undo Before)) → count_by p (u ∷ es) ≤ count_by p es + one (p u)
pushed p u es = let i = sum_by-cons (λ x. one (p x)) u es in omega (arith, i)

-- ---- what an event leaves of a test's entries

-- A write adds no more entries to its slot than its own entry counts.
written_counts : (p : Undo Before → Bool) (q : ℕ) (new : Change) (x : Slot) (k : ℕ)
    → ((before' : Before) → one (p (record { session = q; stamp = None; number = 0; kind = Rattle.block_spec.specs.Slots.kind_of new; before = before' })) ≤ k)
    → counts p (written q new x) ≤ counts p x + k
written_counts p q new x k few =
    let u : Undo Before = record { session = q; stamp = None; number = 0; kind = Rattle.block_spec.specs.Slots.kind_of new; before = Rattle.block_spec.specs.Slots.image_before x.row new } in
    let a = pushed p u x.entries in let b = few (Rattle.block_spec.specs.Slots.image_before x.row new) in omega (arith, a, b)

-- A write's entry is a session's own only where that session made the write.
own_write : (q r : ℕ) (new : Change) (before' : Before)
    → one (is_of r (record { session = q; stamp = None; number = 0; kind = Rattle.block_spec.specs.Slots.kind_of new; before = before' })) ≤ one (q == r)
own_write q r (change.Put new) before' = omega arith
own_write q r (change.Patch patch) before' = omega arith
own_write q r change.Gone before' = omega arith

-- A change of one block adds no more entries than it does there.
at_one : (p : Undo Before → Bool) (u c k : ℕ) (g : Body → Body) (t b : ℕ) (y : Body) → entries_in p (g y) ≤ entries_in p y + k
    → entries_in p (at_both u c g t b y) + 0 ≤ entries_in p y + only u c k t b
at_one p u c k g t b y h = go ((t == u) && (b == c))
  where
    go : (e : Bool) → entries_in p (cond e (g y) y) + 0 ≤ entries_in p y + cond e k 0
    go true = omega (arith, h)
    go false = omega arith

-- None at one block, and none at any other, is none.
only_none : (u c t b : ℕ) → only u c 0 t b ≡ 0
only_none u c t b = go ((t == u) && (b == c))
  where
    go : (e : Bool) → cond {A = ℕ} e 0 0 ≡ 0
    go true = refl
    go false = refl

-- The write was judged to go to a place.
abbrev is_write : Result ℕ WriteFault → Bool
is_write (Ok place) = true
is_write (Err fault) = false

-- So many for each source and each target of the pairs that lies in the block.
shares : ℕ → ℕ → List MovePair → ℕ → ℕ → ℕ
shares k u [] t b = 0
shares k u (pair ∷ pairs) t b = only u (block_of pair.source) k t b + (only u (block_of pair.target) k t b + shares k u pairs t b)

-- Over all blocks the shares of pairs are no more than two for each pair.
total_shares : (sh : Shape) (k u : ℕ) (pairs : List MovePair) → total sh (shares k u pairs) ≤ length pairs * (k + k)
unfolding shares
total_shares sh k u [] = let z = total_none sh (shares k u []) (λ t b has. refl) in omega (arith, z)
total_shares sh k u (pair ∷ pairs) =
    let rest = total_shares sh k u pairs in
    let z = total_none sh (λ t b. 0) (λ t b has. refl) in
    let a = total_moves sh (shares k u (pair ∷ pairs)) (λ t b. 0) (only u (block_of pair.source) k) (λ t b. only u (block_of pair.target) k t b + shares k u pairs t b) (λ t b has. omega arith) in
    let c = total_moves sh (λ t b. only u (block_of pair.target) k t b + shares k u pairs t b) (λ t b. 0) (only u (block_of pair.target) k) (shares k u pairs) (λ t b has. omega arith) in
    let d = total_only sh u (block_of pair.source) k in
    let e = total_only sh u (block_of pair.target) k in
    let m : suc (length pairs) * (k + k) ≡ (k + k) + length pairs * (k + k) = grind arith in
    omega (arith, rest, z, a, c, d, e, m)

module _ (p : Undo Before → Bool) (k at : ℕ) (out : (row : Row) (x : Slot) → counts p (moved_out at row x) ≤ counts p x + k)
    (come : (row : Row) (x : Slot) → counts p (moved_in at row x) ≤ counts p x + k) (u t b : ℕ) (same : (t == u) ≡ true) where
  -- One half of a pair adds no more entries than so many to its block.
  one_half : (place : ℕ) (g : Slot → Slot) (y : Body) → ((x : Slot) → counts p (g x) ≤ counts p x + k)
      → entries_in p (cond (block_of place == b) (with_slot (slot_of place) g y) y) ≤ entries_in p y + only u (block_of place) k t b
  one_half place g y each = go (block_of place == b) refl
    where
      go : (e : Bool) → (block_of place == b) ≡ e → entries_in p (cond (block_of place == b) (with_slot (slot_of place) g y) y) ≤ entries_in p y + only u (block_of place) k t b
      go true e =
          let turned : (b == block_of place) ≡ true = ap (λ x. b == x) (num (block_of place) b e) ∙ num_refl b in
          let here : only u (block_of place) k t b ≡ k = ap (λ x. cond (x && (b == block_of place)) k 0) same ∙ ap (λ x. cond x k 0) turned in
          let now : entries_in p (cond (block_of place == b) (with_slot (slot_of place) g y) y) ≡ entries_in p (with_slot (slot_of place) g y) = ap (λ x. entries_in p (cond x (with_slot (slot_of place) g y) y)) e in
          let more = slot_moves p (slot_of place) k g y each in
          omega (arith, here, now, more)
      go false e =
          let now : entries_in p (cond (block_of place == b) (with_slot (slot_of place) g y) y) ≡ entries_in p y = ap (λ x. entries_in p (cond x (with_slot (slot_of place) g y) y)) e in
          omega (arith, now)

  -- The halves of pairs add no more entries to a block than their shares.
  all_halves : (row : MovePair → Row) (pairs : List MovePair) (y : Body) → entries_in p (fold (halves at row b) y pairs) ≤ entries_in p y + shares k u pairs t b
  unfolding shares
  all_halves row [] y = omega arith
  all_halves row (pair ∷ pairs) y =
      let left : Body = cond (block_of pair.source == b) (with_slot (slot_of pair.source) (moved_out at (row pair)) y) y in
      let a = one_half pair.source (moved_out at (row pair)) y (out (row pair)) in
      let c = one_half pair.target (moved_in at (row pair)) left (come (row pair)) in
      let rest = all_halves row pairs (halves at row b y pair) in
      omega (arith, a, c, rest)

module _ (sh : Shape) (s : Parts) (ok : Sound sh s) where
  -- In each block the entries after the changes are bounded by those before, with one amount each.
  abbrev Each : (Undo Before → Bool) → Changes → (ℕ → ℕ → ℕ) → (ℕ → ℕ → ℕ) → Type 0
  Each p c d e = (t b : ℕ) → HasBlock sh t b → entries_in p (c.body t b (body_at sh s t b)) + d t b ≤ entries_at sh p s t b + e t b

  -- What bounds the entries of each block bounds them over all blocks.
  changed : (p : Undo Before → Bool) (c : Changes) (d e : ℕ → ℕ → ℕ) → Each p c d e
      → total sh (entries_at sh p (each_changed c (names sh) s)) + total sh d ≤ total sh (entries_at sh p s) + total sh e
  changed p c d e each = total_moves sh (entries_at sh p (each_changed c (names sh) s)) d (entries_at sh p s) e
      (λ t b has. let now = ap (entries_in p) (body_after sh s (shaped sh s ok) c t b has) in let h = each t b has in omega (arith, now, h))

  -- The changes add no more than so many entries that pass the test.
  abbrev Fewer : (Undo Before → Bool) → Changes → ℕ → Type 0
  Fewer p c n = total sh (entries_at sh p (each_changed c (names sh) s)) ≤ total sh (entries_at sh p s) + n

  -- Changes that add no entry in any block add none at all.
  fewer : (p : Undo Before → Bool) (c : Changes) → Each p c (λ t b. 0) (λ t b. 0) → Fewer p c 0
  fewer p c each =
      let h = changed p c (λ t b. 0) (λ t b. 0) each in let z = total_none sh (λ t b. 0) (λ t b has. refl) in omega (arith, h, z)

  -- Changes that add so many entries at one block alone add no more.
  at_place : (p : Undo Before → Bool) (c : Changes) (u k n : ℕ) → Each p c (λ t b. 0) (only u k n) → Fewer p c n
  at_place p c u k n each =
      let h = changed p c (λ t b. 0) (only u k n) each in let z = total_none sh (λ t b. 0) (λ t b has. refl) in
      let o = total_only sh u k n in omega (arith, h, z, o)

  -- a write
  insert_fewer : (p : Undo Before → Bool) (k : ℕ) (own : OwnKey) (u : ℕ) (row : Row) (r : Result ℕ WriteFault)
      → ((new : Change) (x : Slot) → counts p (written own.session new x) ≤ counts p x + k)
      → Fewer p (after_insert sh s own u row r) (cond (is_write r) k 0)
  insert_fewer p k own u row (Err fault) each = fewer p nothing (λ t b has. omega arith)
  insert_fewer p k own u row (Ok place) each =
      at_place p (after_insert sh s own u row (Ok place)) u (block_of place) k
      (λ t b has. at_one p u (block_of place) k (with_slot (slot_of place) (written own.session (change.Put row))) t b (body_at sh s t b)
      (slot_moves p (slot_of place) k (written own.session (change.Put row)) (body_at sh s t b) (each (change.Put row))))

  -- An update or a delete adds no more entries than its write does, none where it is refused.
  change_fewer : (p : Undo Before → Bool) (k : ℕ) (own : OwnKey) (u : ℕ) (choice : Row → Change) (r : Result ℕ WriteFault)
      → ((new : Change) (x : Slot) → counts p (written own.session new x) ≤ counts p x + k)
      → Fewer p (after_change sh s own u choice r) (cond (is_write r) k 0)
  change_fewer p k own u choice (Err fault) each = fewer p nothing (λ t b has. omega arith)
  change_fewer p k own u choice (Ok place) each =
      let new : Change = choice (unwrap_or (slot_at sh s u place).row []) in
      at_place p (after_change sh s own u choice (Ok place)) u (block_of place) k
      (λ t b has. at_one p u (block_of place) k (with_slot (slot_of place) (written own.session new)) t b (body_at sh s t b)
      (slot_moves p (slot_of place) k (written own.session new) (body_at sh s t b) (each new)))

  -- A move adds no more entries than its two halves do for each pair.
  move_fewer : (p : Undo Before → Bool) (k : ℕ) (u : ℕ) (pairs : List MovePair)
      → ((at : ℕ) (row : Row) (x : Slot) → counts p (moved_out at row x) ≤ counts p x + k)
      → ((at : ℕ) (row : Row) (x : Slot) → counts p (moved_in at row x) ≤ counts p x + k)
      → Fewer p (after_move sh s u pairs) (length pairs * (k + k))
  move_fewer p k u [] out come = let h = fewer p nothing (λ t b has. omega arith) in omega (arith, h)
  move_fewer p k u (first ∷ rest) out come =
      let h = changed p (after_move sh s u (first ∷ rest)) (λ t b. 0) (shares k u (first ∷ rest)) (λ t b has. each t b (t == u) refl) in
      let z = total_none sh (λ t b. 0) (λ t b has. refl) in
      let few = total_shares sh k u (first ∷ rest) in
      omega (arith, h, z, few)
    where
      at : ℕ
      at = (desk_at sh s).newest + 1

      each : (t b : ℕ) (e : Bool) → (t == u) ≡ e
          → entries_in p ((after_move sh s u (first ∷ rest)).body t b (body_at sh s t b)) + 0 ≤ entries_at sh p s t b + shares k u (first ∷ rest) t b
      each t b true e =
          let now : entries_in p ((after_move sh s u (first ∷ rest)).body t b (body_at sh s t b)) ≡ entries_in p (fold (halves ((desk_at sh s).newest + 1) (moved_row sh s u) b) (body_at sh s t b) (first ∷ rest)) =
          ap (λ e. entries_in p (cond e (fold (halves ((desk_at sh s).newest + 1) (moved_row sh s u) b) (body_at sh s t b) (first ∷ rest)) (body_at sh s t b))) e in
          let all = all_halves p k ((desk_at sh s).newest + 1) (out ((desk_at sh s).newest + 1)) (come ((desk_at sh s).newest + 1)) u t b e (moved_row sh s u) (first ∷ rest) (body_at sh s t b) in
          omega (arith, now, all)
      each t b false e =
          let now : entries_in p ((after_move sh s u (first ∷ rest)).body t b (body_at sh s t b)) ≡ entries_in p (body_at sh s t b) =
          ap (λ e. entries_in p (cond e (fold (halves ((desk_at sh s).newest + 1) (moved_row sh s u) b) (body_at sh s t b) (first ∷ rest)) (body_at sh s t b))) e in
          omega (arith, now)

  -- A seal adds no entries, whether it is granted or not.
  seal_fewer : (p : Undo Before → Bool) (u c : ℕ) → Fewer p (changes_of sh s (event.Seal u c)) 0
  seal_fewer p u c = fewer p (changes_of sh s (event.Seal u c)) (λ t b has. go t b (is_none (seal_fault (is_head sh s u c) (body_at sh s u c))))
    where
      go : (t b : ℕ) (e : Bool) → entries_in p ((cond e (record nothing { body = at_both u c sealed }) nothing).body t b (body_at sh s t b)) + 0 ≤ entries_at sh p s t b + 0
      go t b true = let h = at_one p u c 0 sealed t b (body_at sh s t b) (omega arith) in let z = only_none u c t b in omega (arith, h, z)
      go t b false = omega arith

  -- where one body changes none of its entries
  quiet_fewer : (p : Undo Before → Bool) (c : Changes) (u k : ℕ) (g : Body → Body) → ((t b : ℕ) (y : Body) → c.body t b y ≡ at_both u k g t b y)
      → ((y : Body) → entries_in p (g y) ≤ entries_in p y) → Fewer p c 0
  quiet_fewer p c u k g is each = fewer p c (λ t b has.
      let e = ap (entries_in p) (is t b (body_at sh s t b)) in
      let h = each (body_at sh s t b) in
      let a = at_one p u k 0 g t b (body_at sh s t b) (omega (arith, h)) in
      let z = only_none u k t b in omega (arith, e, a, z))

  -- ---- entries with a stamp

  -- A write adds no entry with a stamp to its slot.
  put_stamped : (q : ℕ) (new : Change) (x : Slot) → counts is_stamped (written q new x) ≤ counts is_stamped x + 0
  put_stamped q new x = written_counts is_stamped q new x 0 (λ b. omega arith)

  -- A write adds no entry with a stamp, whether it is granted or not.
  write_stamped : (c : Changes) (r : Result ℕ WriteFault) → Fewer is_stamped c (cond (is_write r) 0 0) → Fewer is_stamped c 0
  write_stamped c (Ok place) h = h
  write_stamped c (Err fault) h = h

  -- A commit adds no more entries with a stamp than its session has of its own.
  commit_stamped : (wrote : Bool) (q at number : ℕ) (y : Body)
      → entries_in is_stamped ((cond wrote (committed_in q at number) (λ (body : Body). body)) y) + 0 ≤ entries_in is_stamped y + entries_in (is_of q) y
  commit_stamped false q at number y = omega arith
  commit_stamped true q at number y =
      let h = slots_move is_stamped never (is_of q) (committed q at number) y.slots
      (λ x. let a = count_all is_stamped never (is_of q) (stamped q at number) x.entries (stamped_one q at number) in
      let z = sum_none (λ (u : Undo Before). one (never u)) x.entries (λ u b. refl) in omega (arith, a, z)) in
      let z = none_never y.slots in omega (arith, h, z)

  -- An abort adds no entry that passes a test.
  abort_kept : (p : Undo Before → Bool) (q : ℕ) (y : Body) → entries_in p (rolled_back_in q y) + 0 ≤ entries_in p y + 0
  abort_kept p q y = go (is_written_by q y)
    where
      go : (e : Bool) → entries_in p (cond e (record (modified y) { slots = map (rolled_back q) y.slots }) y) + 0 ≤ entries_in p y + 0
      go false = omega arith
      go true =
          let h = slots_move p never never (rolled_back q) y.slots
          (λ x. let a = count_kept p (λ undo. not (is_own undo q)) x.entries in
          let z = sum_none (λ (u : Undo Before). one (never u)) x.entries (λ u b. refl) in omega (arith, a, z)) in
          let z = none_never y.slots in omega (arith, h, z)

  -- The entries with a stamp and those that a pruning dropped are no more than before.
  prune_stamped : (u c oldest : ℕ) → HasBlock sh u c
      → stamped_entries sh (effect sh s (event.Prune u c oldest)) + dropped_from oldest (body_at sh s u c) ≤ stamped_entries sh s
  prune_stamped u c oldest has =
      let h = changed is_stamped (changes_of sh s (event.Prune u c oldest)) (only u c (dropped_from oldest (body_at sh s u c))) (λ t b. 0) each in
      let z = total_none sh (λ t b. 0) (λ t b has. refl) in
      let o = total_least sh (only u c (dropped_from oldest (body_at sh s u c))) u c has in
      let here : only u c (dropped_from oldest (body_at sh s u c)) u c ≡ dropped_from oldest (body_at sh s u c) =
      ap (λ e. cond (e && (c == c)) (dropped_from oldest (body_at sh s u c)) 0) (num_refl u) ∙ ap (λ e. cond e (dropped_from oldest (body_at sh s u c)) 0) (num_refl c) in
      omega (arith, h, z, o, here)
    where
      some : (undo : Undo Before) → is_stamped_by undo oldest ≡ true → is_stamped undo ≡ true
      some undo e = go undo.stamp e
        where
          go : (o : Option ℕ) → is_at_most o oldest ≡ true → is_some o ≡ true
          go None e = absurd (true_false (sym e))
          go (Some n) e = refl

      body : (y : Body) → entries_in is_stamped (pruned_in oldest y) + dropped_from oldest y ≤ entries_in is_stamped y
      body y =
          let h = slots_move is_stamped (λ undo. is_stamped_by undo oldest) never (pruned oldest) y.slots
          (λ x. let a = count_parted is_stamped (λ undo. is_stamped_by undo oldest) x.entries some in omega (arith, a)) in
          let z = none_never y.slots in omega (arith, h, z)

      each : Each is_stamped (changes_of sh s (event.Prune u c oldest)) (only u c (dropped_from oldest (body_at sh s u c))) (λ t b. 0)
      each t b has = go (t == u) (b == c) refl refl
        where
          go : (m n : Bool) → (t == u) ≡ m → (b == c) ≡ n
              → entries_in is_stamped (cond ((t == u) && (b == c)) (pruned_in oldest (body_at sh s t b)) (body_at sh s t b)) + cond ((t == u) && (b == c)) (dropped_from oldest (body_at sh s u c)) 0
              ≤ entries_in is_stamped (body_at sh s t b) + 0
          go true true m n =
              let e : ((t == u) && (b == c)) ≡ true = ap (λ x. x && (b == c)) m ∙ n in
              let same : dropped_from oldest (body_at sh s u c) ≡ dropped_from oldest (body_at sh s t b) =
              ap (λ x. dropped_from oldest (body_at sh s x c)) (sym (num t u m)) ∙ ap (λ x. dropped_from oldest (body_at sh s t x)) (sym (num b c n)) in
              let h = body (body_at sh s t b) in
              subst (λ x. entries_in is_stamped (cond x (pruned_in oldest (body_at sh s t b)) (body_at sh s t b)) + cond x (dropped_from oldest (body_at sh s u c)) 0 ≤ entries_in is_stamped (body_at sh s t b) + 0) (sym e)
              (omega (arith, same, h))
          go true false m n =
              let e : ((t == u) && (b == c)) ≡ false = ap (λ x. x && (b == c)) m ∙ n in
              subst (λ x. entries_in is_stamped (cond x (pruned_in oldest (body_at sh s t b)) (body_at sh s t b)) + cond x (dropped_from oldest (body_at sh s u c)) 0 ≤ entries_in is_stamped (body_at sh s t b) + 0) (sym e) (omega arith)
          go false n' m n =
              let e : ((t == u) && (b == c)) ≡ false = ap (λ x. x && (b == c)) m in
              subst (λ x. entries_in is_stamped (cond x (pruned_in oldest (body_at sh s t b)) (body_at sh s t b)) + cond x (dropped_from oldest (body_at sh s u c)) 0 ≤ entries_in is_stamped (body_at sh s t b) + 0) (sym e) (omega arith)

  -- Entries with a stamp, and those dropped, are no more than before with those the event stamps.
  abbrev Stamps : CoreEvent → Type 0
  Stamps e = stamped_entries sh (effect sh s e) + dropped_by e (reply_to sh s e) ≤ stamped_entries sh s + stamped_by sh s e (reply_to sh s e)

  -- An event that adds and drops no entry with a stamp keeps their bound.
  quietly : (e : CoreEvent) → Fewer is_stamped (changes_of sh s e) 0 → dropped_by e (reply_to sh s e) ≡ 0 → Stamps e
  quietly e h none = omega (arith, h, none)

  -- The half of a move by which a row leaves adds one entry with a stamp.
  out_stamped : (at : ℕ) (row : Row) (x : Slot) → counts is_stamped (moved_out at row x) ≤ counts is_stamped x + 1
  out_stamped at row x = pushed is_stamped (record { session = 0; stamp = Some at; number = 0; kind = Rattle.undo_chain.specs.declared.undo.UndoKind.TheVariants.MoveOut; before = Rattle.block_spec.specs.declared.change.Before.TheVariants.Whole row }) x.entries

  -- A row that moves into a slot brings one stamped entry at most.
  in_stamped : (at : ℕ) (row : Row) (x : Slot) → counts is_stamped (moved_in at row x) ≤ counts is_stamped x + 1
  in_stamped at row x = pushed is_stamped (record { session = 0; stamp = Some at; number = 0; kind = Rattle.undo_chain.specs.declared.undo.UndoKind.TheVariants.MoveIn; before = Rattle.block_spec.specs.declared.change.Before.TheVariants.Empty }) x.entries

  -- A commit stamps its session's own entries, and one that is refused none.
  judged_stamps : (own : OwnTransaction) (stale : Option (Read × ℕ))
      → stamped_entries sh (each_changed (after_judged sh s own stale) (names sh) s) + 0 ≤ stamped_entries sh s + commits_told (reply_to_commit sh s own stale) (own_entries sh s own.session)
  judged_stamps own (Some stale) = let h = fewer is_stamped nothing (λ t b has. omega arith) in omega (arith, h)
  judged_stamps own None =
      let h = changed is_stamped (after_commit sh s own) (λ t b. 0) (entries_at sh (is_of own.session) s)
      (λ t b has. commit_stamped (is_some_write own.writes) own.session ((desk_at sh s).newest + 1) ((desk_at sh s).commits + 1) (body_at sh s t b)) in
      let z = total_none sh (λ t b. 0) (λ t b has. refl) in omega (arith, h, z)

  -- Each lawful event keeps the bound of the entries with a stamp.
  event_stamps : (e : CoreEvent) → IsLawful sh e s → Stamps e
  event_stamps (event.Begin q) lawful = quietly (event.Begin q) (fewer is_stamped (changes_of sh s (event.Begin q)) (λ t b has. omega arith)) refl
  event_stamps (event.Get own u key) lawful = quietly (event.Get own u key) (fewer is_stamped nothing (λ t b has. omega arith)) refl
  event_stamps (event.Insert own u row) lawful = quietly (event.Insert own u row)
      (write_stamped (changes_of sh s (event.Insert own u row)) (insert_judged sh s own u (key_of row)) (insert_fewer is_stamped 0 own u row (insert_judged sh s own u (key_of row)) (put_stamped own.session))) refl
  event_stamps (event.Update own u row) lawful = quietly (event.Update own u row)
      (write_stamped (changes_of sh s (event.Update own u row)) (change_judged sh s own u (key_of row)) (change_fewer is_stamped 0 own u (λ old. change.Patch (differences 0 old row)) (change_judged sh s own u (key_of row)) (put_stamped own.session))) refl
  event_stamps (event.Delete own u key) lawful = quietly (event.Delete own u key)
      (write_stamped (changes_of sh s (event.Delete own u key)) (change_judged sh s own u key) (change_fewer is_stamped 0 own u (λ old. change.Gone) (change_judged sh s own u key) (put_stamped own.session))) refl
  event_stamps (event.Read own u c) lawful = quietly (event.Read own u c) (fewer is_stamped nothing (λ t b has. omega arith)) refl
  event_stamps (event.Range own u low high) lawful = quietly (event.Range own u low high) (fewer is_stamped nothing (λ t b has. omega arith)) refl
  event_stamps (event.Commit own reads) lawful = judged_stamps own (stale_in sh s own reads)
  event_stamps (event.Abort own) lawful = quietly (event.Abort own) (fewer is_stamped (changes_of sh s (event.Abort own)) (λ t b has. abort_kept is_stamped own.session (body_at sh s t b))) refl
  event_stamps event.Oldest lawful = quietly event.Oldest (fewer is_stamped nothing (λ t b has. omega arith)) refl
  event_stamps (event.Observe u c) lawful = quietly (event.Observe u c) (quiet_fewer is_stamped (changes_of sh s (event.Observe u c)) u c (observed (is_head sh s u c)) (λ t b y. refl) (λ y. omega arith)) refl
  event_stamps (event.Prune u c oldest) lawful = let h = prune_stamped u c oldest lawful.1 in omega (arith, h)
  event_stamps (event.Look u c) lawful = quietly (event.Look u c) (fewer is_stamped nothing (λ t b has. omega arith)) refl
  event_stamps (event.Move u moves) lawful =
      let h = move_fewer is_stamped 1 u (held_pairs sh s u moves) out_stamped in_stamped in
      omega (arith, h)
  event_stamps (event.Seal u c) lawful = quietly (event.Seal u c) (seal_fewer is_stamped u c) refl
  event_stamps (event.Image u c image) lawful = quietly (event.Image u c image) (quiet_fewer is_stamped (changes_of sh s (event.Image u c image)) u c imaged (λ t b y. refl) (λ y. omega arith)) refl
  event_stamps (event.Thaw u c) lawful = quietly (event.Thaw u c) (quiet_fewer is_stamped (changes_of sh s (event.Thaw u c)) u c thawed (λ t b y. refl) (λ y. omega arith)) refl

  -- ---- a session's own entries

  module _ (r : ℕ) where
    put_own : (q : ℕ) (new : Change) (x : Slot) → counts (is_of r) (written q new x) ≤ counts (is_of r) x + one (q == r)
    put_own q new x = written_counts (is_of r) q new x (one (q == r)) (own_write q r new)

    abbrev Owns : CoreEvent → Type 0
    Owns e = own_entries sh (effect sh s e) r ≤ own_entries sh s r + written_by r e (reply_to sh s e)

    write_own : (q : ℕ) (c : Changes) (w : Result ℕ WriteFault) → Fewer (is_of r) c (cond (is_write w) (one (q == r)) 0)
        → Fewer (is_of r) c (cond (q == r) (writes_told (reply_to_write w)) 0)
    write_own q c (Ok place) h = h
    write_own q c (Err fault) h = omega (arith, h)

    commit_own : (wrote : Bool) (q at number : ℕ) (y : Body)
        → entries_in (is_of r) ((cond wrote (committed_in q at number) (λ (body : Body). body)) y) + 0 ≤ entries_in (is_of r) y + 0
    commit_own false q at number y = omega arith
    commit_own true q at number y =
        let h = slots_move (is_of r) never never (committed q at number) y.slots
        (λ x. let a = count_all (is_of r) never never (stamped q at number) x.entries (owned_one r q at number) in
        let z = sum_none (λ (u : Undo Before). one (never u)) x.entries (λ u b. refl) in omega (arith, a, z)) in
        let z = none_never y.slots in omega (arith, h, z)

    prune_own : (oldest : ℕ) (y : Body) → entries_in (is_of r) (pruned_in oldest y) ≤ entries_in (is_of r) y
    prune_own oldest y =
        let h = slots_move (is_of r) never never (pruned oldest) y.slots
        (λ x. let a = count_kept (is_of r) (λ undo. not (is_stamped_by undo oldest)) x.entries in
        let z = sum_none (λ (u : Undo Before). one (never u)) x.entries (λ u b. refl) in omega (arith, a, z)) in
        let z = none_never y.slots in omega (arith, h, z)

    out_own : (at : ℕ) (row : Row) (x : Slot) → counts (is_of r) (moved_out at row x) ≤ counts (is_of r) x + 0
    out_own at row x = pushed (is_of r) (record { session = 0; stamp = Some at; number = 0; kind = Rattle.undo_chain.specs.declared.undo.UndoKind.TheVariants.MoveOut; before = Rattle.block_spec.specs.declared.change.Before.TheVariants.Whole row }) x.entries

    in_own : (at : ℕ) (row : Row) (x : Slot) → counts (is_of r) (moved_in at row x) ≤ counts (is_of r) x + 0
    in_own at row x = pushed (is_of r) (record { session = 0; stamp = Some at; number = 0; kind = Rattle.undo_chain.specs.declared.undo.UndoKind.TheVariants.MoveIn; before = Rattle.block_spec.specs.declared.change.Before.TheVariants.Empty }) x.entries

    judged_owns : (own : OwnTransaction) (stale : Option (Read × ℕ)) → Fewer (is_of r) (after_judged sh s own stale) 0
    judged_owns own (Some stale) = fewer (is_of r) nothing (λ t b has. omega arith)
    judged_owns own None = fewer (is_of r) (after_commit sh s own)
        (λ t b has. commit_own (is_some_write own.writes) own.session ((desk_at sh s).newest + 1) ((desk_at sh s).commits + 1) (body_at sh s t b))

    event_owns : (e : CoreEvent) → IsLawful sh e s → Owns e
    event_owns (event.Begin q) lawful = fewer (is_of r) (changes_of sh s (event.Begin q)) (λ t b has. omega arith)
    event_owns (event.Get own u key) lawful = fewer (is_of r) nothing (λ t b has. omega arith)
    event_owns (event.Insert own u row) lawful = write_own own.session (changes_of sh s (event.Insert own u row)) (insert_judged sh s own u (key_of row))
        (insert_fewer (is_of r) (one (own.session == r)) own u row (insert_judged sh s own u (key_of row)) (put_own own.session))
    event_owns (event.Update own u row) lawful = write_own own.session (changes_of sh s (event.Update own u row)) (change_judged sh s own u (key_of row))
        (change_fewer (is_of r) (one (own.session == r)) own u (λ old. change.Patch (differences 0 old row)) (change_judged sh s own u (key_of row)) (put_own own.session))
    event_owns (event.Delete own u key) lawful = write_own own.session (changes_of sh s (event.Delete own u key)) (change_judged sh s own u key)
        (change_fewer (is_of r) (one (own.session == r)) own u (λ old. change.Gone) (change_judged sh s own u key) (put_own own.session))
    event_owns (event.Read own u c) lawful = fewer (is_of r) nothing (λ t b has. omega arith)
    event_owns (event.Range own u low high) lawful = fewer (is_of r) nothing (λ t b has. omega arith)
    event_owns (event.Commit own reads) lawful = judged_owns own (stale_in sh s own reads)
    event_owns (event.Abort own) lawful = fewer (is_of r) (changes_of sh s (event.Abort own)) (λ t b has. abort_kept (is_of r) own.session (body_at sh s t b))
    event_owns event.Oldest lawful = fewer (is_of r) nothing (λ t b has. omega arith)
    event_owns (event.Observe u c) lawful = quiet_fewer (is_of r) (changes_of sh s (event.Observe u c)) u c (observed (is_head sh s u c)) (λ t b y. refl) (λ y. omega arith)
    event_owns (event.Prune u c oldest) lawful = quiet_fewer (is_of r) (changes_of sh s (event.Prune u c oldest)) u c (pruned_in oldest) (λ t b y. refl) (prune_own oldest)
    event_owns (event.Look u c) lawful = fewer (is_of r) nothing (λ t b has. omega arith)
    event_owns (event.Move u moves) lawful = let h = move_fewer (is_of r) 0 u (held_pairs sh s u moves) out_own in_own in omega (arith, h)
    event_owns (event.Seal u c) lawful = seal_fewer (is_of r) u c
    event_owns (event.Image u c image) lawful = quiet_fewer (is_of r) (changes_of sh s (event.Image u c image)) u c imaged (λ t b y. refl) (λ y. omega arith)
    event_owns (event.Thaw u c) lawful = quiet_fewer (is_of r) (changes_of sh s (event.Thaw u c)) u c thawed (λ t b y. refl) (λ y. omega arith)

-- entries are more by no more than an event writes or stamps, less what it drops
pub versions_are_counted : VersionsAreCounted
versions_are_counted sh s made ok lawful = go made.refused
  where
    memory_drops : (e : CoreEvent) → dropped_by e reply.Memory ≡ 0
    memory_drops (event.Begin q) = refl
    memory_drops (event.Get own u key) = refl
    memory_drops (event.Insert own u row) = refl
    memory_drops (event.Update own u row) = refl
    memory_drops (event.Delete own u key) = refl
    memory_drops (event.Read own u c) = refl
    memory_drops (event.Range own u low high) = refl
    memory_drops (event.Commit own reads) = refl
    memory_drops (event.Abort own) = refl
    memory_drops event.Oldest = refl
    memory_drops (event.Observe u c) = refl
    memory_drops (event.Prune u c oldest) = refl
    memory_drops (event.Look u c) = refl
    memory_drops (event.Move u moves) = refl
    memory_drops (event.Seal u c) = refl
    memory_drops (event.Image u c image) = refl
    memory_drops (event.Thaw u c) = refl

    go : (refused : Bool) → CountsVersions sh s (record { event = made.event; refused = refused })
    go true = let none = memory_drops made.event in record { stamped = omega (arith, none); own = λ r. omega arith }
    go false = record { stamped = event_stamps sh s ok made.event lawful; own = λ r. event_owns sh s ok r made.event lawful }

-- A slot of this number at first: a row, or none, without entries.
abbrev settled : (ℕ → Option Row) → ℕ → Slot
settled row j = record { row = row j; entries = [] }

-- Such slots have no entry that passes a test.
settled_none : (row : ℕ → Option Row) (at n : ℕ) (p : Undo Before → Bool) → sum_by (counts p) (map (settled row) (range_with_len at n)) ≡ 0
settled_none row at zero p = refl
settled_none row at (suc n) p =
    let i = sum_by-cons (counts p) (settled row at) (map (settled row) (range_with_len (at + 1) n)) in
    let rest = settled_none row (at + 1) n p in
    omega (arith, i, rest)

-- in the opening core there is no entry with a stamp
pub opens_without : OpensWithout
opens_without sh shape = total_none sh (entries_at sh is_stamped (opening sh))
    (λ t b has. ap (entries_in is_stamped) (ap body_from (part_there (opening_part sh) (names sh) (BodyOf t b) (body_named sh t b has)))
    ∙ settled_none (λ j. slice_get (rows_first sh t) (b * slots_of sh t + j)) 0 (slots_of sh t) is_stamped)

-- Where each slot counts none, all of them do.
each_slot : (g : Slot → ℕ) (slots : List Slot) → ((j : ℕ) → j < length slots → g (slice_index_or slots j bare) ≡ 0) → sum_by g slots ≡ 0
each_slot g [] each = refl
each_slot g (x ∷ slots) each =
    let here = each 0 (omega arith) in
    let rest = each_slot g slots (λ j less. each (suc j) (omega (arith, less))) in
    let i = sum_by-cons g x slots in omega (arith, here, rest, i)

-- a session without a transaction has no entry
pub idle_owns_none : IdleOwnNone
idle_owns_none sh s q shape ok low idle = total_none sh (entries_at sh (is_of q) s) (λ t b has. each_slot (counts (is_of q)) (body_at sh s t b).slots (slot t b has))
  where
    slot : (t b : ℕ) → HasBlock sh t b → (j : ℕ) → j < length (body_at sh s t b).slots → counts (is_of q) (slot_in (body_at sh s t b) j) ≡ 0
    slot t b has j less = go (rolled_back_other q (slot_at sh s t (place_of b j)) (ok.follows.1.slots t (place_of b j)).lawful not_his)
      where
        small : j < 2 ^ 20
        small = let size = (ok.bodies t b has).slots in let most = (shape.slots t has.0).1 in omega (arith, less, size, most)

        here : slot_at sh s t (place_of b j) ≡ slot_in (body_at sh s t b) j
        here = ap (λ x. slot_in (body_at sh s t x) (slot_of (place_of b j))) (block_is b j small) ∙ ap (slot_in (body_at sh s t b)) (slot_is b j small)

        not_his : writer_of (slot_at sh s t (place_of b j)).entries ≢ Some q
        not_his e =
            let open' = ok.follows.1.own.writers t (place_of b j) q e in
            none-some open'.0 (sym (ok.follows.1.desked.idle q low idle) ∙ open'.1)

        go : rolled_back q (slot_at sh s t (place_of b j)) ≡ slot_at sh s t (place_of b j) → counts (is_of q) (slot_in (body_at sh s t b) j) ≡ 0
        go same =
            let kept : filter (λ undo. not (is_own undo q)) (slot_at sh s t (place_of b j)).entries ≡ (slot_at sh s t (place_of b j)).entries = ap (λ (x : Slot). x.entries) same in
            let parted = count_parted (is_of q) (is_of q) (slot_at sh s t (place_of b j)).entries (λ x e. e) in
            let list = ap (count_by (is_of q)) kept in
            let slots = ap (counts (is_of q)) here in
            omega (arith, parted, list, slots)
