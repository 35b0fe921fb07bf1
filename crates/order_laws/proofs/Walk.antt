-- A reading along what is due: what it keeps holds of what it reads.
use Rattle.std.proofs.Common.{◌≡◌, ℕ, ◌+◌, ◌≤◌, ◌⊎◌, inl, inr, Bool, true, false, cond, ◌&&◌, ◌||◌, not, eqb, nat_lt, nat_le, List, [], ◌∷◌, ◌++◌, map, drop, Option, None, Some, Result, Ok, Err, ℤ, refl, sym, ap, ◌∙◌, subst, arith, append_assoc, append-nil}
use Rattle.std.specs.Prelude.{is_some, is_none, if◌then◌else◌}
use Rattle.std.specs.Option.{option_map_or}
use Rattle.std.specs.List.{list_all, find, filter, count_by}
use Rattle.std.proofs.lemmas.Bool.{and_parts, and_from, or_cases, or_left, or_right, not-true}
use Rattle.std.proofs.lemmas.Bool.Decides.{nat_tests}
use Rattle.std.proofs.lemmas.List.Folds.{list_all-append}
use Rattle.std.specs.Ordering.{int_eq}
use Rattle.cell_model.specs.declared.cell.Cell.{Cell}
use Rattle.cell_model.specs.declared.kind.Kind.TheVariants as kind
use Rattle.cell_model.specs.Values.{is_between, is_integer_of}
use Rattle.isolation_spec.specs.Contents.{key_of}
use Rattle.cell_model.specs.declared.table.TableDecl.{TableDecl}
use Rattle.workload_spec.specs.declared.command.Command.{Command}
use Rattle.workload_spec.specs.declared.command.Command.TheVariants as command
use Rattle.workload_spec.specs.declared.reply.Who.{Who}
use Rattle.workload_spec.specs.declared.reply.StaleRead.{StaleRead}
use Rattle.std.proofs.Common.{negsuc, pos, ◌^◌, ◌-◌}
use Rattle.outcome_spec.specs.Forms.{stale_reply, key_named, table_named, range_named}
use Rattle.workload_spec.specs.declared.reply.Said.{Said}
use Rattle.workload_spec.specs.declared.reply.Said.TheVariants as said
use Rattle.outcome_spec.specs.Entries.{Entry, is_same, snapshot_in}
use Rattle.outcome_spec.specs.Forms.{Due, begins_with, entry_behind, further, is_silent, is_upkeep, is_worker, is_within, line_count, lines_begun, may_be_silent, next_line, reading, reply_at, replies_due, replies_within, replies_without}
use Rattle.outcome_spec.specs.Reading.{words_in, row_of, integer_at, u64_at}
use Rattle.outcome_spec.specs.Tables.{columns_at}
use Rattle.order_laws.specs.Places.{Rises, is_ahead, is_earlier, is_in_front, is_up_to}
use Rattle.order_laws.specs.Sides.{is_past, is_own}
use Rattle.order_laws.specs.Opened.{OpensOutside}
use Rattle.order_laws.proofs.Pieces.{count-append, count-cons, all-weaker, all-both}
use Rattle.order_laws.proofs.Places.{same-is}
use Rattle.order_laws.proofs.Order.{same-itself}
use Rattle.order_laws.proofs.Dues.{is_ahead_of, DuesRise, is_upkeep_due}

-- ---- the ways of a reading

-- The replies that were read, or the line at which the reading fails.
abbrev Reading : Type 0
Reading = Result (List Entry) ℕ

-- What one due makes of a reading, by whether its reply is there and may be silent.
abbrev way : Bool → Option Entry → (Entry → Reading) → ℕ → Reading → Reading
way silent at next fail skip = elim silent as (λ b. Reading) [
  | true ↦ further (elim at as (λ o. Reading) [ Some entry ↦ next entry | None ↦ Err fail ]) skip
  | false ↦ elim at as (λ o. Reading) [ Some entry ↦ next entry | None ↦ Err fail ]
]

-- Where the further of two readings comes to the end, one of them does so.
further-either : (a b : Reading) (entries : List Entry) → further a b ≡ Ok entries → (a ≡ Ok entries) ⊎ (b ≡ Ok entries)
further-either (Ok x) b entries h = inl h
further-either (Err line) (Ok x) entries h = inr h
further-either (Err line) (Err other) entries h = absurd (let never : ⊥ = cc in never)

-- Where a due's way comes to the end, its reply was taken or it was passed over.
way-cases : (silent : Bool) (at : Option Entry) (next : Entry → Reading) (fail : ℕ) (skip : Reading) (entries : List Entry) → way silent at next fail skip ≡ Ok entries
    → ((entry : Entry) × (at ≡ Some entry) × (next entry ≡ Ok entries)) ⊎ (skip ≡ Ok entries)
way-cases true (Some entry) next fail skip entries h = elim (further-either (next entry) skip entries h) [ inl taken ↦ inl (entry, refl, taken) | inr passed ↦ inr passed ]
way-cases true None next fail skip entries h = elim (further-either (Err fail) skip entries h) [ inl taken ↦ absurd (let never : ⊥ = cc in never) | inr passed ↦ inr passed ]
way-cases false (Some entry) next fail skip entries h = inl (entry, refl, h)
way-cases false None next fail skip entries h = absurd (let never : ⊥ = cc in never)

-- A reading that comes to the end with these replies.
abbrev read : List Entry → Reading
read entries = Ok entries

-- Readings that come to the end alike have the same replies.
same-read : (a b : List Entry) → read a ≡ read b → a ≡ b
same-read a b e = cc

-- Where nothing more is due and the end is come to, the replies are the earlier ones.
end-chosen : (b : Bool) (earlier entries : List Entry) (line : ℕ) → cond {A = Reading} b (Ok earlier) (Err line) ≡ Ok entries → earlier ≡ entries
end-chosen true earlier entries line h = same-read earlier entries h
end-chosen false earlier entries line h = absurd (let never : ⊥ = cc in never)

-- what is found among images is the image of one that passes what all do
found-step : {X Y : Type 0} (p : Y → Bool) (q : X → Bool) (f : X → Y) (x : X) (xs : List X) (y : Y) (b : Bool) → cond b (Some (f x)) (find p (map f xs)) ≡ Some y → q x ≡ true
    → (find p (map f xs) ≡ Some y → (z : X) × (f z ≡ y) × (q z ≡ true)) → (z : X) × (f z ≡ y) × (q z ≡ true)
found-step p q f x xs y true h here rest = (x, (let e : f x ≡ y = cc in e), here)
found-step p q f x xs y false h here rest = rest h

-- What is found among images is the image of one that passes what all do.
found-mapped : {X Y : Type 0} (p : Y → Bool) (q : X → Bool) (f : X → Y) (xs : List X) (y : Y) → list_all q xs ≡ true → find p (map f xs) ≡ Some y → (x : X) × (f x ≡ y) × (q x ≡ true)
found-mapped p q f [] y all h = absurd (let never : ⊥ = cc in never)
found-mapped p q f (x ∷ xs) y all h =
    let parts = and_parts (q x) (list_all q xs) all in
    found-step p q f x xs y (p (f x)) h parts.0 (found-mapped p q f xs y parts.1)

module _ (tables : List TableDecl) (may : List Entry → Due → Said → Bool)
    (allowed : (earlier : List Entry) (due : Due) (words : List (List ℕ)) (behind : List (List ℕ)) → list_all (may earlier due) (replies_due tables earlier due words behind) ≡ true)
    (Holds : List Due → List Entry → Type 0)
    (skip : (due : Due) (dues : List Due) (earlier : List Entry) → Holds (due ∷ dues) earlier → Holds dues earlier)
    (taking : (due : Due) (dues : List Due) (earlier : List Entry) (told : Said) → may earlier due told ≡ true → Holds (due ∷ dues) earlier → Holds dues (earlier ++ entry_behind tables earlier due told ∷ [])) where
  -- what holds behind the replies that are read
  pub walked : (dues : List Due) (earlier : List Entry) (lines : List (List ℕ)) (entries : List Entry) → Holds dues earlier → reading tables dues earlier lines ≡ Ok entries → (left : List Due) × Holds left entries
  walked [] earlier [] entries h is = ([], subst (Holds []) (same-read earlier entries is) h)
  walked [] earlier (line ∷ behind) entries h is = absurd (let never : ⊥ = cc in never)
  walked (due ∷ dues) earlier [] entries h is = (due ∷ dues, subst (Holds (due ∷ dues)) (end-chosen (list_all may_be_silent (due ∷ dues)) earlier entries (next_line tables earlier) is) h)
  walked (due ∷ dues) earlier (line ∷ behind) entries h is =
      by (way-cases (may_be_silent due) (reply_at tables earlier due line behind) (λ entry. reading tables dues (earlier ++ entry ∷ []) (drop (line_count tables entry) (line ∷ behind)))
      (next_line tables earlier + lines_begun tables earlier due line behind) (reading tables dues earlier (line ∷ behind)) entries is)
      (λ entry held more. walked dues (earlier ++ entry ∷ []) (drop (line_count tables entry) (line ∷ behind)) entries held more)
      (walked dues earlier (line ∷ behind) entries (skip due dues earlier h))
    where
      by : ((entry : Entry) × (reply_at tables earlier due line behind ≡ Some entry) × (reading tables dues (earlier ++ entry ∷ []) (drop (line_count tables entry) (line ∷ behind)) ≡ Ok entries))
          ⊎ (reading tables dues earlier (line ∷ behind) ≡ Ok entries)
          → ((entry : Entry) → Holds dues (earlier ++ entry ∷ []) → reading tables dues (earlier ++ entry ∷ []) (drop (line_count tables entry) (line ∷ behind)) ≡ Ok entries → (left : List Due) × Holds left entries)
          → (reading tables dues earlier (line ∷ behind) ≡ Ok entries → (left : List Due) × Holds left entries)
          → (left : List Due) × Holds left entries
      by (inl taken) on over =
          let found = found-mapped (begins_with tables (line ∷ behind)) (may earlier due) (entry_behind tables earlier due) (replies_due tables earlier due (drop 3 (words_in line)) behind) taken.0
          (allowed earlier due (drop 3 (words_in line)) behind) taken.1 in
          on taken.0 (subst (λ (e : Entry). Holds dues (earlier ++ e ∷ [])) found.1 (taking due dues earlier found.0 found.2 h)) taken.2
      by (inr passed) on over = over passed

-- ---- the order

-- another of the same round and to the same one
abbrev is_with : ℕ → Who → Entry → Bool
is_with round who y = eqb y.reply.round round && is_same y.reply.who who

-- A reply's index is not above the count of those of its round to the same one.
abbrev is_counted : List Entry → Entry → Bool
is_counted earlier x = nat_le x.reply.index (count_by (is_with x.reply.round x.reply.who) earlier)

pub record Ordered (dues : List Due) (earlier : List Entry) : Type 0 where
  pub rises : Rises earlier
  pub due_order : DuesRise dues
  pub cross : list_all (λ x. list_all (is_ahead_of x.reply.round x.reply.who) dues) earlier ≡ true
  pub indexes : list_all (is_counted earlier) earlier ≡ true

-- Where all of a list and one more pass a test, all with that one do.
all-push : {X : Type 0} (p : X → Bool) (xs : List X) (x : X) → list_all p xs ≡ true → p x ≡ true → list_all p (xs ++ x ∷ []) ≡ true
all-push p xs x h k = list_all-append p xs (x ∷ []) ∙ and_from (list_all p xs) (p x && true) h (and_from (p x) true k refl)

-- Replies that rise do so with one more that each of them is ahead of.
rises-push : (xs : List Entry) (e : Entry) → Rises xs → list_all (λ x. is_ahead x e) xs ≡ true → Rises (xs ++ e ∷ [])
rises-push [] e h k = (refl, tt)
rises-push (x ∷ xs) e h k =
    let parts = and_parts (is_ahead x e) (list_all (λ y. is_ahead y e) xs) k in
    (all-push (is_ahead x) xs e h.0 parts.0, rises-push xs e h.1 parts.1)

-- The order is kept where what is due next is passed over.
skip-ordered : (due : Due) (dues : List Due) (earlier : List Entry) → Ordered (due ∷ dues) earlier → Ordered dues earlier
skip-ordered due dues earlier h = record {
  rises = h.rises;
  due_order = h.due_order.1;
  cross = all-weaker (λ x. list_all (is_ahead_of x.reply.round x.reply.who) (due ∷ dues)) (λ x. list_all (is_ahead_of x.reply.round x.reply.who) dues)
      (λ x k. (and_parts (is_ahead_of x.reply.round x.reply.who due) (list_all (is_ahead_of x.reply.round x.reply.who) dues) k).1) earlier h.cross;
  indexes = h.indexes;
}

-- a reply in front of what is due, with its index among those of its own, is ahead of the answer
ahead-by : (x e : Entry) (earlier : List Entry) → is_ahead_of x.reply.round x.reply.who (record { round = e.reply.round; who = e.reply.who; command = e.command }) ≡ true → is_counted earlier x ≡ true
    → e.reply.index ≡ 1 + count_by (is_with e.reply.round e.reply.who) earlier → is_ahead x e ≡ true
ahead-by x e earlier ahead counted index = by (or_cases (nat_lt x.reply.round e.reply.round) (eqb x.reply.round e.reply.round && is_up_to x.reply.who e.reply.who) ahead)
  where
    front : is_in_front e x ≡ true → is_ahead x e ≡ true
    front h = or_left (is_in_front e x) (is_own e x && nat_lt x.reply.index e.reply.index) h

    with_it : eqb x.reply.round e.reply.round ≡ true → (is_earlier x.reply.who e.reply.who ≡ true) ⊎ (is_same x.reply.who e.reply.who ≡ true) → is_ahead x e ≡ true
    with_it round (inl early) = front (or_right (is_past e x) (eqb x.reply.round e.reply.round && is_earlier x.reply.who e.reply.who) (and_from (eqb x.reply.round e.reply.round) (is_earlier x.reply.who e.reply.who) round early))
    with_it round (inr same) =
        let round_is : x.reply.round ≡ e.reply.round = grind (arith, nat_tests, round) in
        let who_is = same-is x.reply.who e.reply.who same in
        let count : count_by (is_with x.reply.round x.reply.who) earlier ≡ count_by (is_with e.reply.round e.reply.who) earlier =
        ap (λ (n : ℕ). count_by (is_with n x.reply.who) earlier) round_is ∙ ap (λ (w : Who). count_by (is_with e.reply.round w) earlier) who_is in
        let low : nat_lt x.reply.index e.reply.index ≡ true = less x.reply.index e.reply.index (count_by (is_with x.reply.round x.reply.who) earlier) counted (index ∙ ap (λ (n : ℕ). 1 + n) (sym count)) in
        or_right (is_in_front e x) (is_own e x && nat_lt x.reply.index e.reply.index)
        (and_from (is_own e x) (nat_lt x.reply.index e.reply.index) (and_from (eqb x.reply.round e.reply.round) (is_same x.reply.who e.reply.who) round same) low)
      where
        less : (i j n : ℕ) → nat_le i n ≡ true → j ≡ 1 + n → nat_lt i j ≡ true
        less i j n h k = grind (arith, nat_tests, h, k)

    by : (nat_lt x.reply.round e.reply.round ≡ true) ⊎ ((eqb x.reply.round e.reply.round && is_up_to x.reply.who e.reply.who) ≡ true) → is_ahead x e ≡ true
    by (inl past) = front (or_left (is_past e x) (eqb x.reply.round e.reply.round && is_earlier x.reply.who e.reply.who) past)
    by (inr beside) =
        let parts = and_parts (eqb x.reply.round e.reply.round) (is_up_to x.reply.who e.reply.who) beside in
        with_it parts.0 (or_cases (is_earlier x.reply.who e.reply.who) (is_same x.reply.who e.reply.who) parts.1)

-- With one reply more no fewer are counted.
count-grows : (p : Entry → Bool) (earlier : List Entry) (e : Entry) → count_by p earlier ≤ count_by p (earlier ++ e ∷ [])
count-grows p earlier e = let a = count-append p earlier (e ∷ []) in omega (arith, a)

-- An index that the earlier replies count is counted with one reply more.
still-counted : (earlier : List Entry) (e x : Entry) → is_counted earlier x ≡ true → is_counted (earlier ++ e ∷ []) x ≡ true
still-counted earlier e x h =
    more x.reply.index (count_by (is_with x.reply.round x.reply.who) earlier) (count_by (is_with x.reply.round x.reply.who) (earlier ++ e ∷ [])) h (count-grows (is_with x.reply.round x.reply.who) earlier e)
  where
    more : (i m n : ℕ) → nat_le i m ≡ true → m ≤ n → nat_le i n ≡ true
    more i m n h k = grind (arith, nat_tests, h, k)

-- The next reply's own index is counted with that reply.
own-counted : (earlier : List Entry) (e : Entry) → e.reply.index ≡ 1 + count_by (is_with e.reply.round e.reply.who) earlier → is_counted (earlier ++ e ∷ []) e ≡ true
own-counted earlier e index =
    let whole = count-append (is_with e.reply.round e.reply.who) earlier (e ∷ []) in
    let itself : is_with e.reply.round e.reply.who e ≡ true = and_from (eqb e.reply.round e.reply.round) (is_same e.reply.who e.reply.who) (grind (arith, nat_tests)) (same-itself e.reply.who) in
    let one : count_by (is_with e.reply.round e.reply.who) (e ∷ []) ≡ 1 + 0 = count-cons (is_with e.reply.round e.reply.who) e [] ∙ ap (λ (b : Bool). cond b 1 0 + 0) itself in
    up-to e.reply.index (count_by (is_with e.reply.round e.reply.who) (earlier ++ e ∷ [])) (omega (arith, whole, one, index))
  where
    up-to : (i n : ℕ) → i ≤ n → nat_le i n ≡ true
    up-to i n h = grind (arith, nat_tests, h)

-- The order is kept where what is due next has its reply.
take-ordered : (tables : List TableDecl) (due : Due) (dues : List Due) (earlier : List Entry) (told : Said) → Ordered (due ∷ dues) earlier → Ordered dues (earlier ++ entry_behind tables earlier due told ∷ [])
take-ordered tables due dues earlier told h =
    let e = entry_behind tables earlier due told in
    let rest = skip-ordered due dues earlier h in
    let ahead : list_all (λ x. is_ahead_of x.reply.round x.reply.who due) earlier ≡ true =
    all-weaker (λ x. list_all (is_ahead_of x.reply.round x.reply.who) (due ∷ dues)) (λ x. is_ahead_of x.reply.round x.reply.who due)
    (λ x k. (and_parts (is_ahead_of x.reply.round x.reply.who due) (list_all (is_ahead_of x.reply.round x.reply.who) dues) k).0) earlier h.cross in
    record {
      rises = rises-push earlier e h.rises
          (all-both (λ x. is_ahead_of x.reply.round x.reply.who due) (is_counted earlier) (λ x. is_ahead x e) (λ x k m. ahead-by x e earlier k m refl) earlier ahead h.indexes);
      due_order = h.due_order.1;
      cross = all-push (λ x. list_all (is_ahead_of x.reply.round x.reply.who) dues) earlier e rest.cross h.due_order.0;
      indexes = all-push (is_counted (earlier ++ e ∷ [])) earlier e (all-weaker (is_counted earlier) (is_counted (earlier ++ e ∷ [])) (still-counted earlier e) earlier h.indexes) (own-counted earlier e refl);
    }

-- All pass a test that everything passes.
all-any : {X : Type 0} (xs : List X) → list_all (λ x. true) xs ≡ true
all-any [] = refl
all-any (x ∷ xs) = all-any xs

-- The replies that are read rise.
pub read-rise : (tables : List TableDecl) (dues : List Due) (lines : List (List ℕ)) (entries : List Entry) → DuesRise dues → reading tables dues [] lines ≡ Ok entries → Rises entries
read-rise tables dues lines entries rise is =
    (walked tables (λ earlier due told. true) (λ earlier due words behind. all-any (replies_due tables earlier due words behind)) Ordered
    (λ due rest earlier h. skip-ordered due rest earlier h) (λ due rest earlier told may h. take-ordered tables due rest earlier told h)
    dues [] lines entries (record { rises = tt; due_order = rise; cross = refl; indexes = refl }) is).1.rises

-- ---- where transactions are opened

-- one that is told so, where it is due, opens none, or a session's that is in none
abbrev may_open : List Entry → Due → Said → Bool
may_open earlier due told = is_none (snapshot_in told) || not (is_within due.who earlier || is_upkeep due.command)

-- What is said opens no transaction.
abbrev opens_none : Said → Bool
opens_none told = is_none (snapshot_in told)

-- A row that is found, or none, opens no transaction.
rows-open-none : (f : List Cell → Bool) (o : Option (List Cell)) → list_all opens_none (option_map_or (λ row. if f row then said.Found row ∷ [] else []) o []) ≡ true
rows-open-none f None = refl
rows-open-none f (Some row) = by (f row)
  where
    by : (b : Bool) → list_all opens_none (if b then said.Found row ∷ [] else []) ≡ true
    by true = refl
    by false = refl

-- The refusal of an export for a key, or none, opens no transaction.
dirty-open-none : (b : Bool) (key : ℤ) → list_all opens_none (if b then said.Dirty key ∷ [] else []) ≡ true
dirty-open-none true key = refl
dirty-open-none false key = refl

-- A total, or none, opens no transaction.
total-open-none : (b : Bool) (count : ℕ) (sum : ℤ) → list_all opens_none (if b then said.Totalled count sum ∷ [] else []) ≡ true
total-open-none true count sum = refl
total-open-none false count sum = refl

-- Where none of two lists opens a transaction, none of both does.
both-open-none : (a b : List Said) → list_all opens_none a ≡ true → list_all opens_none b ≡ true → list_all opens_none (a ++ b) ≡ true
both-open-none [] b h k = k
both-open-none (x ∷ xs) b h k =
    let parts = and_parts (opens_none x) (list_all opens_none xs) h in
    and_from (opens_none x) (list_all opens_none (xs ++ b)) parts.0 (both-open-none xs b parts.1 k)

-- A read that a stale commit names, or none, opens no transaction.
stale-open-none : (words : List (List ℕ)) (at : ℕ) (what : Option StaleRead) → list_all opens_none (stale_reply words at what) ≡ true
stale-open-none words at None = refl
stale-open-none words at (Some what) = refl

-- within a transaction no reply opens one
within-none : (tables : List TableDecl) (words : List (List ℕ)) (behind : List (List ℕ)) (asked : Command) → list_all opens_none (replies_within tables words behind asked) ≡ true
within-none tables words behind (command.Get table key) = rows-open-none (λ row. int_eq (key_of row) key) (row_of (columns_at tables table) (drop 1 words))
within-none tables words behind (command.Export table) = dirty-open-none (is_integer_of kind.I64 (integer_at words 1)) (integer_at words 1)
within-none tables words behind (command.Begin checked) = refl
within-none tables words behind (command.Range table low high) = refl
within-none tables words behind (command.Total table column low high) = total-open-none (is_between (negsuc (2 ^ 127 - 1)) (pos (2 ^ 127 - 1)) (integer_at words 2)) (u64_at words 1) (integer_at words 2)
within-none tables words behind (command.Scan table) = refl
within-none tables words behind (command.Insert table row) = refl
within-none tables words behind (command.Update table row) = refl
within-none tables words behind (command.Delete table key) = refl
within-none tables words behind command.Commit =
    both-open-none (stale_reply words 3 (key_named tables words) ++ stale_reply words 3 (table_named tables words)) (stale_reply words 5 (range_named tables words))
    (both-open-none (stale_reply words 3 (key_named tables words)) (stale_reply words 3 (table_named tables words))
    (stale-open-none words 3 (key_named tables words)) (stale-open-none words 3 (table_named tables words)))
    (stale-open-none words 5 (range_named tables words))
within-none tables words behind command.Abort = refl
within-none tables words behind command.Observe = refl
within-none tables words behind command.Prune = refl
within-none tables words behind (command.Compact table) = refl
within-none tables words behind (command.Seal table block) = refl
within-none tables words behind (command.Gather table block) = refl

-- Where all of a list pass a test, all that are kept of it do.
all-filter : {X : Type 0} (p q : X → Bool) (xs : List X) → list_all p xs ≡ true → list_all p (filter q xs) ≡ true
all-filter p q [] h = refl
all-filter p q (x ∷ xs) h =
    let parts = and_parts (p x) (list_all p xs) h in
    by (q x) parts.0 (all-filter p q xs parts.1)
  where
    by : (b : Bool) → p x ≡ true → list_all p (filter q xs) ≡ true → list_all p (cond b (x ∷ filter q xs) (filter q xs)) ≡ true
    by true here rest = and_from (p x) (list_all p (filter q xs)) here rest
    by false here rest = rest

-- What is listed for what is due opens a transaction only where that may be.
may-by : (tables : List TableDecl) (earlier : List Entry) (due : Due) (words : List (List ℕ)) (behind : List (List ℕ)) (b : Bool) → (is_within due.who earlier || is_upkeep due.command) ≡ b
    → list_all (may_open earlier due) (if b then replies_within tables words behind due.command else replies_without words due.command) ≡ true
may-by tables earlier due words behind true is =
    all-weaker opens_none (may_open earlier due) (λ told h. or_left (is_none (snapshot_in told)) (not (is_within due.who earlier || is_upkeep due.command)) h)
    (replies_within tables words behind due.command) (within-none tables words behind due.command)
may-by tables earlier due words behind false is =
    all-weaker (λ told. true) (may_open earlier due) (λ told h. or_right (is_none (snapshot_in told)) (not (is_within due.who earlier || is_upkeep due.command)) (ap not is))
    (replies_without words due.command) (all-any (replies_without words due.command))

-- What may stand where a reply is due opens a transaction only where that may be.
may-allowed : (tables : List TableDecl) (earlier : List Entry) (due : Due) (words : List (List ℕ)) (behind : List (List ℕ)) → list_all (may_open earlier due) (replies_due tables earlier due words behind) ≡ true
may-allowed tables earlier due words behind =
    all-filter (may_open earlier due) (λ told. not (is_worker due.who && is_silent told))
    (if is_within due.who earlier || is_upkeep due.command then replies_within tables words behind due.command else replies_without words due.command)
    (may-by tables earlier due words behind (is_within due.who earlier || is_upkeep due.command) refl)

-- each of the replies behind a front opens none, or where its session is in none
abbrev Opens : List Entry → Entry → Type 0
Opens front entry = is_some (snapshot_in entry.reply.said) ≡ true → (is_within entry.reply.who front ≡ false) × (is_worker entry.reply.who ≡ false)

-- Each of the replies behind a front opens a transaction only where its session is in none.
abbrev Outside : List Entry → List Entry → Type 0
Outside front [] = Unit {0}
Outside front (entry ∷ entries) = Opens front entry × Outside (front ++ entry ∷ []) entries

-- With one reply more that opens only where it may, all behind the front do so.
outside-push : (front xs : List Entry) (e : Entry) → Outside front xs → Opens (front ++ xs) e → Outside front (xs ++ e ∷ [])
outside-push front [] e h k = (subst (λ (es : List Entry). Opens es e) (append-nil front) k, tt)
outside-push front (x ∷ xs) e h k = (h.0, outside-push (front ++ x ∷ []) xs e h.1 (subst (λ (es : List Entry). Opens es e) (sym (append_assoc front (x ∷ []) xs)) k))

-- A reply among those behind a front opens a transaction only where it may.
outside-at : (front ahead : List Entry) (entry : Entry) (rest : List Entry) → Outside front (ahead ++ entry ∷ rest) → Opens (front ++ ahead) entry
outside-at front [] entry rest h = subst (λ (es : List Entry). Opens es entry) (sym (append-nil front)) h.0
outside-at front (x ∷ ahead) entry rest h = subst (λ (es : List Entry). Opens es entry) (append_assoc front (x ∷ []) ahead) (outside-at (front ++ x ∷ []) ahead entry rest h.1)

pub record Opening (dues : List Due) (earlier : List Entry) : Type 0 where
  pub outside : Outside [] earlier
  pub upkeep : list_all is_upkeep_due dues ≡ true

-- What is asked of openings is kept where what is due next is passed over.
skip-opening : (due : Due) (dues : List Due) (earlier : List Entry) → Opening (due ∷ dues) earlier → Opening dues earlier
skip-opening due dues earlier h = record { outside = h.outside; upkeep = (and_parts (is_upkeep_due due) (list_all is_upkeep_due dues) h.upkeep).1 }

-- What may open a transaction, and does, is to a session that is in none.
opens-by : (earlier : List Entry) (due : Due) (told : Said) → may_open earlier due told ≡ true → is_upkeep_due due ≡ true → is_some (snapshot_in told) ≡ true → (is_within due.who earlier ≡ false) × (is_worker due.who ≡ false)
opens-by earlier due told may upkeep some = from (or_cases (is_none (snapshot_in told)) (not (is_within due.who earlier || is_upkeep due.command)) may)
  where
    none-some : (o : Option ℕ) → is_none o ≡ true → is_some o ≡ true → ⊥
    none-some None h k = let never : ⊥ = cc in never
    none-some (Some n) h k = let never : ⊥ = cc in never

    kept : (w u k : Bool) → (w || u) ≡ false → (not k || u) ≡ true → (w ≡ false) × (k ≡ false)
    kept false false false h j = (refl, refl)
    kept false false true h j = absurd (let never : ⊥ = cc in never)
    kept false true k h j = absurd (let never : ⊥ = cc in never)
    kept true u k h j = absurd (let never : ⊥ = cc in never)

    from : (is_none (snapshot_in told) ≡ true) ⊎ (not (is_within due.who earlier || is_upkeep due.command) ≡ true) → (is_within due.who earlier ≡ false) × (is_worker due.who ≡ false)
    from (inl none) = absurd (none-some (snapshot_in told) none some)
    from (inr apart) = kept (is_within due.who earlier) (is_upkeep due.command) (is_worker due.who) (not-true (is_within due.who earlier || is_upkeep due.command) apart) upkeep

-- What is asked of openings is kept where what is due next has its reply.
take-opening : (tables : List TableDecl) (due : Due) (dues : List Due) (earlier : List Entry) (told : Said) → may_open earlier due told ≡ true → Opening (due ∷ dues) earlier → Opening dues (earlier ++ entry_behind tables earlier due told ∷ [])
take-opening tables due dues earlier told may h =
    let parts = and_parts (is_upkeep_due due) (list_all is_upkeep_due dues) h.upkeep in
    record {
      outside = outside-push [] earlier (entry_behind tables earlier due told) h.outside (opens-by earlier due told may parts.0);
      upkeep = parts.1;
    }

-- They open transactions only where their session is in none.
pub read-outside : (tables : List TableDecl) (dues : List Due) (lines : List (List ℕ)) (entries : List Entry) → list_all is_upkeep_due dues ≡ true → reading tables dues [] lines ≡ Ok entries → OpensOutside entries
read-outside tables dues lines entries upkeep is =
    let held = (walked tables may_open (may-allowed tables) Opening skip-opening (λ due rest earlier told may h. take-opening tables due rest earlier told may h) dues [] lines entries (record { outside = tt; upkeep = upkeep }) is).1 in
    λ front entry rest whole. outside-at [] front entry rest (subst (Outside []) whole held.outside)
