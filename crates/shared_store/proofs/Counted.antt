-- How many rows some replies told, and the steps of reading them.
use Rattle.std.proofs.Common.{◌≡◌, ℕ, zero, suc, ◌+◌, ◌*◌, ◌<◌, ◌≤◌, Bool, true, false, not, cond, List, [], ◌∷◌, ◌++◌, Option, None, Some, Ok, length, take, get_or, refl, sym, ap, subst, ◌∙◌, append-nil, length-append, arith}
use native.Mathlib.Nat.{mul-add}
use Rattle.std.specs.Prelude.{IsSome, count_by, flat_map, option_to_list}
use Rattle.std.proofs.lemmas.Grind.{flat_map-append}
use Rattle.std.proofs.lemmas.List.Sums.{count_by-le-length, sum_by-append}
use Rattle.block_columns.specs.Images.{ImageValue, IsWhole, rows_of}
use Rattle.block_spec.specs.Slots.{Row}
use Rattle.event_spec.specs.declared.reply.Reply.TheVariants as reply
use Rattle.event_spec.specs.Parts.{Shape, slots_of}
use Rattle.event_spec.specs.Replies.{CoreReply}
use Rattle.run_spec.specs.Told.{is_shared, rows_told}
use Rattle.shared_store.specs.Reading.{most_seen, reply_of, rows_in}
use Rattle.shared_store.specs.Scanning.{scan_cost}
use Rattle.shared_store.specs.declared.reading.SeenBlock.{SeenBlock}
use Rattle.shared_store.specs.declared.reading.SeenBlock.TheVariants as block

-- ---- rows of slots

-- where each of the first slots holds a row, they have as many rows as slots
pub first_rows : (n : ℕ) (slots : List (Option Row)) → ((slot : ℕ) → slot < n → IsSome (get_or slots slot None))
    → length (flat_map (λ slot. option_to_list slot) (take n slots)) ≡ n
first_rows zero slots held = refl
first_rows (suc n) [] held = absurd (let never : false ≡ true = held 0 (omega arith) in let no : ⊥ = cc in no)
first_rows (suc n) (None ∷ slots) held = absurd (let never : false ≡ true = held 0 (omega arith) in let no : ⊥ = cc in no)
first_rows (suc n) (Some row ∷ slots) held = ap suc (first_rows n slots (λ slot less. held (suc slot) (omega (arith, less))))

-- a whole image has as many rows as it says
pub rows_counted : (image : ImageValue) → IsWhole image → length (rows_of image) ≡ image.rows
rows_counted image whole = first_rows image.rows image.slots whole.held

-- ---- what replies count

-- how many rows some replies told together
abbrev pub rows_all : List CoreReply → ℕ
rows_all replies = length (flat_map rows_told replies)

-- a count over two lists of replies is the sum of both counts
pub count_more : (p : CoreReply → Bool) (xs ys : List CoreReply) → count_by p (xs ++ ys) ≡ count_by p xs + count_by p ys
count_more p xs ys = sum_by-append (λ told. cond {A = ℕ} (p told) 1 0) xs ys

-- a count over one reply is one at most
pub count_one : (p : CoreReply → Bool) (told : CoreReply) → count_by p (told ∷ []) ≤ 1
count_one p told = count_by-le-length p (told ∷ [])

-- one more reply adds its rows to those that the others told
pub rows_more : (xs : List CoreReply) (told : CoreReply) → rows_all (xs ++ told ∷ []) ≡ rows_all xs + rows_all (told ∷ [])
rows_more xs told =
    ap (λ (rows : List Row). length rows) (flat_map-append rows_told xs (told ∷ [])) ∙ length-append (flat_map rows_told xs) (flat_map rows_told (told ∷ []))

-- one reply alone counts as many rows as it told
pub rows_one : (told : CoreReply) → rows_all (told ∷ []) ≡ length (rows_told told)
rows_one told = ap (λ (rows : List Row). length rows) (append-nil (rows_told told))

-- ---- steps

-- a number is at most itself and another together
pub le_more : (a b : ℕ) → a ≤ a + b
le_more a b = omega arith

-- steps within one bound and then within another are within both together
pub sum_steps : (spent a b steps later : ℕ) → steps ≤ spent + a → later ≤ steps + b → later ≤ spent + (a + b)
sum_steps spent a b steps later first then = omega (arith, first, then)

-- Who took no step before is within the bound of what came then.
bare_steps : (spent b steps later : ℕ) → steps ≤ spent + 0 → later ≤ steps + b → later ≤ spent + b
bare_steps spent b steps later first then = omega (arith, first, then)

-- The block was not frozen.
abbrev is_loose : CoreReply → Bool
is_loose told = not (is_shared told)

-- Two sums are summed pair by pair.
by_pairs : (a b c d : ℕ) → (a + b) + (c + d) ≡ (a + c) + (b + d)
by_pairs a b c d = omega arith

-- One more reply adds its cost.
cost_more : (sh : Shape) (t : ℕ) (xs : List CoreReply) (told : CoreReply) → scan_cost sh t (xs ++ told ∷ []) ≡ scan_cost sh t xs + scan_cost sh t (told ∷ [])
cost_more sh t xs told =
    ap (λ n. n + rows_all (xs ++ told ∷ [])) (ap (λ n. slots_of sh t * n) (count_more is_loose xs (told ∷ [])) ∙ mul-add (slots_of sh t) (count_by is_loose xs) (count_by is_loose (told ∷ [])))
    ∙ ap (λ n. (slots_of sh t * count_by is_loose xs + slots_of sh t * count_by is_loose (told ∷ [])) + n) (rows_more xs told)
    ∙ by_pairs (slots_of sh t * count_by is_loose xs) (slots_of sh t * count_by is_loose (told ∷ [])) (rows_all xs) (rows_all (told ∷ []))

-- steps within the cost of some replies and then of one more are within that of all
pub scanned_more : (sh : Shape) (t : ℕ) (xs : List CoreReply) (told : CoreReply) (spent steps later : ℕ) → steps ≤ spent + scan_cost sh t xs → later ≤ steps + scan_cost sh t (told ∷ [])
    → later ≤ spent + scan_cost sh t (xs ++ told ∷ [])
scanned_more sh t xs told spent steps later first then =
    subst (λ n. later ≤ spent + n) (sym (cost_more sh t xs told)) (sum_steps spent (scan_cost sh t xs) (scan_cost sh t (told ∷ [])) steps later first then)

-- Of a block that was not frozen the slots are looked at, and the rows that were told are made.
cost_loose : (sh : Shape) (t : ℕ) (told : CoreReply) → is_shared told ≡ false → scan_cost sh t (told ∷ []) ≡ slots_of sh t + length (rows_told told)
cost_loose sh t told loose =
    ap (λ b. slots_of sh t * (0 + cond {A = ℕ} (not b) 1 0) + rows_all (told ∷ [])) loose
    ∙ ap (λ n. n + rows_all (told ∷ [])) (let once : slots_of sh t * 1 ≡ slots_of sh t = omega arith in once)
    ∙ ap (λ n. slots_of sh t + n) (rows_one told)

-- Of a frozen one the rows are made.
cost_frozen : (sh : Shape) (t : ℕ) (told : CoreReply) → is_shared told ≡ true → scan_cost sh t (told ∷ []) ≡ length (rows_told told)
cost_frozen sh t told frozen =
    ap (λ b. slots_of sh t * (0 + cond {A = ℕ} (not b) 1 0) + rows_all (told ∷ [])) frozen
    ∙ ap (λ n. n + rows_all (told ∷ [])) (let none' : slots_of sh t * 0 ≡ 0 = omega arith in none')
    ∙ (let bare : 0 + rows_all (told ∷ []) ≡ rows_all (told ∷ []) = omega arith in bare)
    ∙ rows_one told

-- a read of a block, and then each row that it told once
pub read_costs : (E : Type 0) (sh : Shape) (t : ℕ) (read : SeenBlock) (spent steps later : ℕ) → steps ≤ spent + most_seen {E = E} sh t (Ok read) → later ≤ steps + length (rows_in read)
    → later ≤ spent + scan_cost sh t (reply_of {E = E} (Ok read) ∷ [])
read_costs E sh t (block.Rows rows) spent steps later first then =
    subst (λ n. later ≤ spent + n) (sym (cost_loose sh t (reply.Rows rows) refl)) (sum_steps spent (slots_of sh t) (length rows) steps later first then)
read_costs E sh t (block.Lent lend) spent steps later first then =
    subst (λ n. later ≤ spent + n) (sym (cost_frozen sh t (reply.Shared lend.rows) refl)) (bare_steps spent (length lend.rows) steps later first then)

-- a read for which there was no memory
pub unread_costs : (sh : Shape) (t : ℕ) (spent steps : ℕ) → steps ≤ spent + slots_of sh t → steps ≤ spent + scan_cost sh t (reply.Memory ∷ [])
unread_costs sh t spent steps first =
    subst (λ n. steps ≤ spent + n) (sym (cost_loose sh t reply.Memory refl)) (sum_steps spent (slots_of sh t) 0 steps steps first (omega arith))
