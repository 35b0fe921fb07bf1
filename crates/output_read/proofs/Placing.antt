-- Which steps of a turn may be next, by their tables and blocks.
use Rattle.std.proofs.Common.{◌≡◌, ℕ, ◌+◌, ◌-◌, ◌≤◌, ◌<◌, ◌^◌, Bool, true, false, cond, ◌&&◌, List, [], ◌∷◌, ◌++◌, length, drop, Option, None, Some, refl, sym, ap, ◌∙◌, subst, arith, suc, zero, get_or, drop-cons}
use Rattle.std.specs.Prelude.{◌==◌, nat_lt, nat_le, is_some, if◌then◌else◌}
use Rattle.std.specs.List.{list_all, flat_map, range_with_len, enumerate_from}
use Rattle.std.specs.Option.{option_map_or}
use Rattle.std.proofs.lemmas.Bool.{and_parts, eqb-true, eq-eqb, ne_eqb, ltb-true, ltb-false, lt-ltb, leb-true}
use Rattle.std.proofs.lemmas.List.FromFn.{length-enumerate_from, get_or-enumerate_from}
use Rattle.std.proofs.lemmas.Option.{slice_get_past, slice_get-get_or}
use Rattle.cell_model.specs.declared.table.TableDecl.{TableDecl}
use Rattle.workload_spec.specs.declared.command.Command.{Command}
use Rattle.workload_spec.specs.declared.command.Command.TheVariants as command
use Rattle.workload_spec.specs.Valid.{is_table, is_table_place, is_name, are_columns, are_slots, are_blocks}
use Rattle.outcome_spec.specs.Entries.{Entry}
use Rattle.outcome_spec.specs.Tables.{blocks_at}
use Rattle.outcome_spec.specs.Forms.{Due, reading}
use Rattle.reply_text.specs.Shown.{is_u32}
use Rattle.output_read.specs.declared.turns.NextSteps.{NextSteps}
use Rattle.output_read.proofs.Fitting.{never}
use Rattle.output_read.proofs.Walks.{Reading}
use Rattle.output_read.proofs.Silences.{first_hit, blocks_of, AreQuiet, AllQuiet, joined, from_steps}

-- the steps over blocks from one on
abbrev pub blocks_from : ℕ → ℕ → ℕ → List Command
blocks_from table first count = flat_map (λ block. command.Seal table block ∷ command.Gather table block ∷ []) (range_with_len first count)

-- the steps that are left of a table
abbrev pub steps_left : List TableDecl → NextSteps → List Command
steps_left tables steps =
    if steps.sealed then command.Gather steps.table steps.block ∷ blocks_from steps.table (steps.block + 1) (blocks_at tables steps.table - (steps.block + 1))
    else blocks_from steps.table steps.block (blocks_at tables steps.table - steps.block)

-- ---- which of them says something

module _ (test : Command → Bool) (table : ℕ) where
  -- a step that does not say it is passed over
  pub miss-one : (asked : Command) (steps : List Command) → test asked ≡ false → first_hit test (asked ∷ steps) ≡ first_hit test steps
  miss-one asked steps h = ap (λ (b : Bool). cond b (Some steps) (first_hit test steps)) h

  -- a step that says it is the first, and the others are left
  pub hit-one : (asked : Command) (steps : List Command) → test asked ≡ true → first_hit test (asked ∷ steps) ≡ Some steps
  hit-one asked steps h = ap (λ (b : Bool). cond b (Some steps) (first_hit test steps)) h

  -- no step over a range of blocks says what no seal and no gathering does
  pub none-says : ((block : ℕ) → test (command.Seal table block) ≡ false) → ((block : ℕ) → test (command.Gather table block) ≡ false) → (first count : ℕ) → first_hit test (blocks_from table first count) ≡ None
  none-says seals gathers first zero = refl
  none-says seals gathers first (suc count) =
      miss-one (command.Seal table first) _ (seals first) ∙ miss-one (command.Gather table first) _ (gathers first) ∙ none-says seals gathers (first + 1) count

  -- what every gathering says, and no seal, is said by the first block's gathering
  pub memory-says : ((block : ℕ) → test (command.Seal table block) ≡ false) → ((block : ℕ) → test (command.Gather table block) ≡ true) → (first count : ℕ)
      → first_hit test (blocks_from table first (suc count)) ≡ Some (blocks_from table (first + 1) count)
  memory-says seals gathers first count = miss-one (command.Seal table first) _ (seals first) ∙ hit-one (command.Gather table first) _ (gathers first)

  module _ (block : ℕ) where
    -- what the seal of a block alone says leaves its gathering and the blocks behind it
    pub seal-says : ((at : ℕ) → test (command.Seal table at) ≡ (block == at)) → ((at : ℕ) → test (command.Gather table at) ≡ false) → (first count : ℕ) → first ≤ block → block < first + count
        → first_hit test (blocks_from table first count) ≡ Some (command.Gather table block ∷ blocks_from table (block + 1) (first + count - (block + 1)))
    seal-says seals gathers first zero low high = absurd (omega (arith, low, high))
    seal-says seals gathers first (suc count) low high = by (block == first) refl (λ more. seal-says seals gathers (first + 1) count more (omega (arith, high)))
      where
        by : (b : Bool) → (block == first) ≡ b
            → (first + 1 ≤ block → first_hit test (blocks_from table (first + 1) count) ≡ Some (command.Gather table block ∷ blocks_from table (block + 1) (first + 1 + count - (block + 1))))
            → first_hit test (blocks_from table first (suc count)) ≡ Some (command.Gather table block ∷ blocks_from table (block + 1) (first + suc count - (block + 1)))
        by true same later =
            let e : block ≡ first = eqb-true block first same in
            hit-one (command.Seal table first) _ (seals first ∙ same)
            ∙ ap (λ (n : ℕ). Some (command.Gather table first ∷ blocks_from table (first + 1) n)) (let m : count ≡ first + suc count - (first + 1) = omega arith in m)
            ∙ ap (λ (n : ℕ). Some (command.Gather table n ∷ blocks_from table (n + 1) (first + suc count - (n + 1)))) (sym e)
        by false other later =
            let more : first + 1 ≤ block = apart block first low other in
            miss-one (command.Seal table first) _ (seals first ∙ other) ∙ miss-one (command.Gather table first) _ (gathers first) ∙ later more
            ∙ ap (λ (n : ℕ). Some (command.Gather table block ∷ blocks_from table (block + 1) (n - (block + 1)))) (let m : first + 1 + count ≡ first + suc count = omega arith in m)
          where
            apart : (a b : ℕ) → b ≤ a → (a == b) ≡ false → b + 1 ≤ a
            apart a b low other = above a b low (λ e. never (sym other ∙ eq-eqb a b e))
              where
                above : (a b : ℕ) → b ≤ a → (a ≡ b → ⊥) → b + 1 ≤ a
                above a b low h = omega (arith, low, h)

    -- what the gathering of a block alone says leaves the blocks behind it
    pub gather-says : ((at : ℕ) → test (command.Seal table at) ≡ false) → ((at : ℕ) → test (command.Gather table at) ≡ (block == at)) → (first count : ℕ) → first ≤ block → block < first + count
        → first_hit test (blocks_from table first count) ≡ Some (blocks_from table (block + 1) (first + count - (block + 1)))
    gather-says seals gathers first zero low high = absurd (omega (arith, low, high))
    gather-says seals gathers first (suc count) low high = by (block == first) refl (λ more. gather-says seals gathers (first + 1) count more (omega (arith, high)))
      where
        above : (a b : ℕ) → b ≤ a → (a ≡ b → ⊥) → b + 1 ≤ a
        above a b low h = omega (arith, low, h)

        by : (b : Bool) → (block == first) ≡ b
            → (first + 1 ≤ block → first_hit test (blocks_from table (first + 1) count) ≡ Some (blocks_from table (block + 1) (first + 1 + count - (block + 1))))
            → first_hit test (blocks_from table first (suc count)) ≡ Some (blocks_from table (block + 1) (first + suc count - (block + 1)))
        by true same later =
            let e : block ≡ first = eqb-true block first same in
            miss-one (command.Seal table first) _ (seals first) ∙ hit-one (command.Gather table first) _ (gathers first ∙ same)
            ∙ ap (λ (n : ℕ). Some (blocks_from table (first + 1) n)) (let m : count ≡ first + suc count - (first + 1) = omega arith in m)
            ∙ ap (λ (n : ℕ). Some (blocks_from table (n + 1) (first + suc count - (n + 1)))) (sym e)
        by false other later =
            miss-one (command.Seal table first) _ (seals first) ∙ miss-one (command.Gather table first) _ (gathers first ∙ other)
            ∙ later (above block first low (λ e. never (sym other ∙ eq-eqb block first e)))
            ∙ ap (λ (n : ℕ). Some (blocks_from table (block + 1) (n - (block + 1)))) (let m : first + 1 + count ≡ first + suc count = omega arith in m)

    -- a block that is not among them
    pub seal-none : ((at : ℕ) → test (command.Seal table at) ≡ (block == at)) → ((at : ℕ) → test (command.Gather table at) ≡ false) → (first count : ℕ) → ((at : ℕ) → first ≤ at → at < first + count → block ≡ at → ⊥)
        → first_hit test (blocks_from table first count) ≡ None
    seal-none seals gathers first zero out = refl
    seal-none seals gathers first (suc count) out =
        miss-one (command.Seal table first) _ (seals first ∙ ne_eqb block first (out first (omega arith) (omega arith))) ∙ miss-one (command.Gather table first) _ (gathers first)
        ∙ seal-none seals gathers (first + 1) count (λ at low high. out at (omega (arith, low)) (omega (arith, high)))

    -- what only the gathering of a block says, no step of a range without the block says
    pub gather-none : ((at : ℕ) → test (command.Seal table at) ≡ false) → ((at : ℕ) → test (command.Gather table at) ≡ (block == at)) → (first count : ℕ) → ((at : ℕ) → first ≤ at → at < first + count → block ≡ at → ⊥)
        → first_hit test (blocks_from table first count) ≡ None
    gather-none seals gathers first zero out = refl
    gather-none seals gathers first (suc count) out =
        miss-one (command.Seal table first) _ (seals first) ∙ miss-one (command.Gather table first) _ (gathers first ∙ ne_eqb block first (out first (omega arith) (omega arith)))
        ∙ gather-none seals gathers (first + 1) count (λ at low high. out at (omega (arith, low)) (omega (arith, high)))

-- ---- further tables

-- A table without columns and blocks, which stands where there is none.
abbrev no_table : TableDecl
no_table = record { name = []; schema = []; slots = 0; blocks = 0 }

module _ (tables : List TableDecl) where
  -- the table at a place
  abbrev pub decl_at : ℕ → TableDecl
  decl_at table = get_or tables table no_table

  -- the tables from one on, with their places
  abbrev pub entries_at : ℕ → List (ℕ × TableDecl)
  entries_at table = drop table (enumerate_from 0 tables)

  -- the tables from a place on begin with the one there
  pub entries-first : (table : ℕ) → table < length tables → entries_at table ≡ (table, decl_at table) ∷ entries_at (table + 1)
  entries-first table few =
      drop-cons (enumerate_from 0 tables) table (0, no_table) (let e = length-enumerate_from 0 tables in omega (arith, e, few))
      ∙ ap (λ (e : ℕ × TableDecl). e ∷ drop (suc table) (enumerate_from 0 tables)) (get_or-enumerate_from 0 tables table (0, no_table) few ∙ ap (λ (n : ℕ). (n, decl_at table)) (let m : 0 + table ≡ table = omega arith in m))
      ∙ ap (λ (n : ℕ). (table, decl_at table) ∷ drop n (enumerate_from 0 tables)) (let m : suc table ≡ table + 1 = omega arith in m)

  -- how many blocks a table at a place has
  pub blocks-is : (table : ℕ) → table < length tables → blocks_at tables table ≡ (decl_at table).blocks
  blocks-is table few = ap (λ (o : Option TableDecl). option_map_or (λ decl. decl.blocks) o 0) (slice_get-get_or tables table no_table few)

  -- a block belongs to a table that is there
  pub has-blocks : (table block : ℕ) → block < blocks_at tables table → table < length tables
  has-blocks table block few = by (nat_lt table (length tables)) refl
    where
      by : (b : Bool) → nat_lt table (length tables) ≡ b → table < length tables
      by true h = ltb-true table (length tables) h
      by false h =
          let past : blocks_at tables table ≡ 0 = ap (λ (o : Option TableDecl). option_map_or (λ decl. decl.blocks) o 0) (slice_get_past tables table (ltb-false table (length tables) h)) in
          absurd (omega (arith, past, few))

  -- Behind the end of a list nothing is left of it.
  entries-past : (xs : List (ℕ × TableDecl)) (k : ℕ) → length xs ≤ k → drop k xs ≡ []
  entries-past [] zero few = refl
  entries-past [] (suc k) few = refl
  entries-past (x ∷ xs) zero few = absurd (omega (arith, few))
  entries-past (x ∷ xs) (suc k) few = entries-past xs k (omega (arith, few))

  -- from behind the last table on there is none
  pub entries-none : (table : ℕ) → length tables ≤ table → entries_at table ≡ []
  entries-none table few = entries-past (enumerate_from 0 tables) table (let e = length-enumerate_from 0 tables in omega (arith, e, few))

  -- Of a list are left as many as it has, less those that were taken away.
  length-left : (xs : List (ℕ × TableDecl)) (k : ℕ) → length (drop k xs) ≡ length xs - k
  length-left xs zero = let e : length xs ≡ length xs - 0 = omega arith in e
  length-left [] (suc k) = let e : 0 ≡ 0 - suc k = omega arith in e
  length-left (x ∷ xs) (suc k) = let e = length-left xs k in let m : length xs - k ≡ length (x ∷ xs) - suc k = omega arith in e ∙ m

  -- how many tables there are from a place on
  pub entries-count : (table : ℕ) → length (entries_at table) ≡ length tables - table
  entries-count table = length-left (enumerate_from 0 tables) table ∙ ap (λ (n : ℕ). n - table) (length-enumerate_from 0 tables)

  -- ---- they are quiet

  module _ (round worker : ℕ) (valid : list_all is_table tables ≡ true) where
    is-place : (table : ℕ) → table < length tables → is_table_place tables table ≡ true
    is-place table few = ap is_some (slice_get-get_or tables table no_table few)

    blocks-quiet : (table : ℕ) → table < length tables → (first count : ℕ) → first + count ≤ 2 ^ 32 → AreQuiet tables round worker (blocks_from table first count)
    blocks-quiet table few first zero small = tt
    blocks-quiet table few first (suc count) small =
        let fits : is_u32 first ≡ true = lt-ltb first (2 ^ 32) (omega (arith, small)) in
        let place = is-place table few in
        ((refl, (λ words behind. (place, fits)), refl, refl), ((refl, (λ words behind. (place, fits)), refl, refl), blocks-quiet table few (first + 1) count (omega (arith, small))))

    valid-at : (ts : List TableDecl) (k : ℕ) → list_all is_table ts ≡ true → k < length ts → is_table (get_or ts k no_table) ≡ true
    valid-at [] k all few = absurd (omega (arith, few))
    valid-at (t ∷ ts) zero all few = (and_parts (is_table t) (list_all is_table ts) all).0
    valid-at (t ∷ ts) (suc k) all few = valid-at ts k (and_parts (is_table t) (list_all is_table ts) all).1 (omega (arith, few))

    -- a valid table has at most 1024 blocks
    pub few-blocks : (table : ℕ) → table < length tables → blocks_at tables table ≤ 1024
    few-blocks table few =
        let is = valid-at tables table valid few in
        let decl = decl_at table in
        let parts = and_parts (is_name decl.name && are_columns decl.schema && are_slots decl.schema decl.slots) (are_blocks decl.blocks) is in
        let most = leb-true decl.blocks 1024 (and_parts (nat_le 1 decl.blocks) (nat_le decl.blocks 1024) parts.1).1 in
        let same = blocks-is table few in
        omega (arith, most, same)

    -- the blocks of a table, as the turn has them
    pub blocks-whole : (table : ℕ) → table < length tables → blocks_of (table, decl_at table) ≡ blocks_from table 0 (blocks_at tables table)
    blocks-whole table few = ap (blocks_from table 0) (sym (blocks-is table few))

    -- the steps over a table's blocks may all leave no line
    pub entry-quiet : (table : ℕ) → table < length tables → AreQuiet tables round worker (blocks_of (table, decl_at table))
    entry-quiet table few =
        subst (AreQuiet tables round worker) (sym (blocks-whole table few)) (blocks-quiet table few 0 (blocks_at tables table) (let e = few-blocks table few in omega (arith, e)))

    quiet-from : (left table : ℕ) → table + left ≡ length tables → AllQuiet tables round worker [] (entries_at table)
    quiet-from zero table whole = subst (AllQuiet tables round worker []) (sym (entries-none table (omega (arith, whole)))) tt
    quiet-from (suc left) table whole =
        let few : table < length tables = omega (arith, whole) in
        subst (AllQuiet tables round worker []) (sym (entries-first table few)) (entry-quiet table few, quiet-from left (table + 1) (omega (arith, whole)))

    -- ---- where the steps that may be next are

    pub record InTurn (steps : NextSteps) : Type 0 where
      pub table : steps.table < length tables
      pub behind : steps.table < steps.until
      pub until : steps.until ≤ length tables
      pub block : steps.block ≤ blocks_at tables steps.table
      pub sealed : steps.sealed ≡ true → steps.block < blocks_at tables steps.table

    left-by : (table block : ℕ) → table < length tables → (sealed : Bool) → block ≤ blocks_at tables table → (sealed ≡ true → block < blocks_at tables table)
        → AreQuiet tables round worker (steps_left tables (record { table = table; block = block; sealed = sealed; until = 0 }))
    left-by table block few true most there =
        let fits : is_u32 block ≡ true = lt-ltb block (2 ^ 32) (let a = there refl in let b = few-blocks table few in omega (arith, a, b)) in
        ((refl, (λ words behind. (is-place table few, fits)), refl, refl), blocks-quiet table few (block + 1) (blocks_at tables table - (block + 1)) (let a = there refl in let b = few-blocks table few in omega (arith, a, b)))
    left-by table block few false most there = blocks-quiet table few block (blocks_at tables table - block) (let b = few-blocks table few in omega (arith, most, b))

    -- the steps that are left of a table may all leave no line
    pub left-quiet : (steps : NextSteps) → InTurn steps → AreQuiet tables round worker (steps_left tables steps)
    left-quiet steps in_turn = left-by steps.table steps.block in_turn.table steps.sealed in_turn.block in_turn.sealed

    -- the steps over the blocks of further tables may all leave no line
    pub further-quiet : (steps : NextSteps) → InTurn steps → AllQuiet tables round worker [] (entries_at (steps.table + 1))
    further-quiet steps in_turn = quiet-from (length tables - (steps.table + 1)) (steps.table + 1) (let e = in_turn.table in omega (arith, e))

    all-quiet-dues : (dues : List Due) (entries : List (ℕ × TableDecl)) → AllQuiet tables round worker [] entries → AllQuiet tables round worker dues entries
    all-quiet-dues dues [] h = tt
    all-quiet-dues dues (e ∷ entries) h = (h.0, all-quiet-dues dues entries h.1)

    module _ (dues : List Due) where
      -- what is read from the steps that may be next on
      abbrev pub from_next : NextSteps → List Entry → List (List ℕ) → Reading
      from_next steps earlier lines = from_steps tables round worker dues (steps_left tables steps) (entries_at (steps.table + 1)) (steps.until - (steps.table + 1)) earlier lines

      -- the steps over the blocks of further tables may all leave no line, whatever is due behind
      -- them
      pub quiet-next : (steps : NextSteps) → InTurn steps → AllQuiet tables round worker dues (entries_at (steps.table + 1))
      quiet-next steps in_turn = all-quiet-dues dues (entries_at (steps.table + 1)) (further-quiet steps in_turn)

      -- no more tables count than there are
      pub joined-cap : (n : ℕ) (entries : List (ℕ × TableDecl)) (earlier : List Entry) (lines : List (List ℕ)) → length entries ≤ n → joined tables round worker dues (suc n) entries earlier lines ≡ joined tables round worker dues n entries earlier lines
      joined-cap zero [] earlier lines few = refl
      joined-cap (suc n) [] earlier lines few = refl
      joined-cap zero (e ∷ entries) earlier lines few = absurd (omega (arith, few))
      joined-cap (suc n) (e ∷ entries) earlier lines few =
          ap (λ (r : Reading). Rattle.outcome_spec.specs.Forms.further (reading tables (Rattle.output_read.proofs.Silences.worker_dues tables round worker (blocks_of e) ++ Rattle.output_read.proofs.Silences.tail tables round worker dues entries) earlier lines) r)
          (joined-cap n entries earlier lines (omega (arith, few)))
