-- What may be said where a reply is due, both ways: by kind, and among those that the definition of
-- forms lists.
use Rattle.std.proofs.Common.{◌≡◌, ℕ, ◌^◌, ◌<◌, Bool, true, false, cond, ◌&&◌, ◌||◌, not, List, [], ◌∷◌, length, drop, Option, None, Some, refl, sym, ap, ◌∙◌, subst, arith, ℤ}
use Rattle.std.proofs.Common.{◌≤◌, ◌-◌}
use Rattle.std.proofs.lemmas.Bool.{leb-true}
use Rattle.std.specs.Prelude.{◌==◌, ◌++◌, nat_le, nat_lt, if◌then◌else◌, unwrap_or, option_and_then, option_map, position, is_some, bytes_eq, pos, negsuc}
use Rattle.workload_spec.specs.Valid.{is_within as is_within_range}
use Rattle.workload_spec.specs.Reading.{natural_of}
use Rattle.outcome_spec.specs.Reading.{word_at}
use Rattle.std.specs.List.{filter, list_all}
use Rattle.std.specs.Option.{option_map_or}
use Rattle.std.specs.Ordering.{int_eq}
use Rattle.std.proofs.lemmas.Bool.{and_parts, and_from, lt-ltb, ltb-true, eqb-true, eq-eqb}
use Rattle.cell_model.specs.declared.cell.Cell.{Cell}
use Rattle.cell_model.specs.declared.column.Column.{Column}
use Rattle.cell_model.specs.declared.kind.Kind.TheVariants as kind
use Rattle.cell_model.specs.declared.table.TableDecl.{TableDecl}
use Rattle.cell_model.specs.Rows.{fits}
use Rattle.cell_model.specs.Values.{is_between, is_integer_of}
use Rattle.isolation_spec.specs.Contents.{key_of}
use Rattle.workload_spec.specs.declared.command.Command.{Command}
use Rattle.workload_spec.specs.declared.command.Command.TheVariants as command
use Rattle.workload_spec.specs.declared.reply.Said.{Said}
use Rattle.workload_spec.specs.declared.reply.Said.TheVariants as said
use Rattle.workload_spec.specs.declared.reply.StaleRead.{StaleRead}
use Rattle.workload_spec.specs.declared.reply.StaleRead.TheVariants as stale
use Rattle.workload_spec.specs.declared.script.Cause.TheVariants as cause
use Rattle.workload_spec.specs.ScriptText.{name_of_table}
use Rattle.workload_spec.specs.ReplyText.{lines_behind}
use Rattle.workload_spec.specs.Valid.{is_lower_case, is_name_byte, is_name, is_table, have_own_names, is_table_place, is_key_number}
use Rattle.workload_laws.proofs.CommandsBack.{place_stands}
use Rattle.workload_laws.proofs.Lists.{position_is}
use Rattle.workload_laws.proofs.Results.{some_of}
use Rattle.workload_laws.proofs.TablesBack.{table_parts}
use Rattle.outcome_spec.specs.Entries.{Entry}
use Rattle.outcome_spec.specs.Reading.{row_of, u32_at, u64_at, tagged_u64_at, integer_at}
use Rattle.outcome_spec.specs.Tables.{columns_at}
use Rattle.outcome_spec.specs.Forms.{Due, is_upkeep, is_worker, is_silent, is_within, replies_within, replies_without, replies_due, conflict_replies, change_replies, table_at, key_at, key_named, table_named, range_named, stale_reply, stale_replies}
use Rattle.reply_text.specs.Shown.{is_u32, is_u64, is_sum, is_stale, is_said, are_tables}
use Rattle.timeline_spec.specs.Forms.{IsReplyWithin, IsReplyWithout, IsBeginReply, IsChangeReply, IsInsertReply, IsGetReply, IsScanReply, IsTotalReply, IsStaleRead, IsCommitReply, IsExportReply, IsObserveReply, IsPruneReply, IsCompactReply, IsSealReply, IsGatherReply}
use Rattle.timeline_laws.proofs.ReadNumbers.{u32_small, u64_small}
use Rattle.timeline_laws.proofs.Stated.{GotFits, IsNamed, stale_table, StaleFits, RowsFit, IsReply}
use Rattle.timeline_laws.proofs.Turns.{EachSaid}
use Rattle.output_read.specs.Answers.{answers, answers_within, answers_without, answers_begin, answers_get, answers_scan, answers_total, answers_insert, answers_change, answers_commit, answers_abort, answers_observe, answers_prune, answers_compact, answers_seal, answers_gather, answers_export, is_opening, is_without, may_say}
use Rattle.output_read.proofs.Fitting.{never, row_fits, row_of_is}

-- ---- by kind: what answers is a reply

-- What answers a begin in a transaction says that one is open.
begin-reply : (told : Said) → answers_begin told ≡ true → told ≡ said.InTransaction
begin-reply said.InTransaction h = refl
begin-reply _ h = absurd (never h)

-- What answers a get is a get's reply, with a row that fits and has the key.
get-reply : (columns : List Column) (key : ℤ) (told : Said) → answers_get columns key told ≡ true → IsGetReply told × GotFits columns key told
get-reply columns key (said.Found row) h = (tt, and_parts (fits columns row) (int_eq (key_of row) key) h)
get-reply columns key said.Absent h = (tt, tt)
get-reply columns key said.Memory h = (tt, tt)
get-reply columns key _ h = absurd (never h)

-- What may answer an insert and may be said is one of an insert's replies.
insert-reply : (tables : List TableDecl) (told : Said) → answers_insert told ≡ true → is_said tables told ≡ true → IsInsertReply told
insert-reply tables said.Accepted h fit = tt
insert-reply tables said.Exists h fit = tt
insert-reply tables said.Full h fit = tt
insert-reply tables said.Memory h fit = tt
insert-reply tables (said.ConflictSession session) h fit = ltb-true session (2 ^ 32) fit
insert-reply tables (said.ConflictCommit number) h fit = ltb-true number (2 ^ 64) fit
insert-reply tables _ h fit = absurd (never h)

-- What answers an update or a delete, and fits the tables, is a reply to one.
change-reply : (tables : List TableDecl) (table : ℕ) (told : Said) → answers_change table told ≡ true → is_said tables told ≡ true → IsChangeReply table told
change-reply tables table said.Accepted h fit = tt
change-reply tables table said.Missing h fit = tt
change-reply tables table said.Memory h fit = tt
change-reply tables table (said.Freezing of block stamp) h fit =
    let parts = and_parts (is_table_place tables of && is_u32 block) (is_u32 stamp) fit in
    let first = and_parts (is_table_place tables of) (is_u32 block) parts.0 in
    (eqb-true of table h, ltb-true block (2 ^ 32) first.1, ltb-true stamp (2 ^ 32) parts.1)
change-reply tables table (said.ConflictSession session) h fit = ltb-true session (2 ^ 32) fit
change-reply tables table (said.ConflictCommit number) h fit = ltb-true number (2 ^ 64) fit
change-reply tables table _ h fit = absurd (never h)

-- What answers a total, and fits the tables, is a total's reply.
total-reply : (tables : List TableDecl) (told : Said) → answers_total told ≡ true → is_said tables told ≡ true → IsTotalReply told
total-reply tables (said.Totalled count sum) h fit = let parts = and_parts (is_u64 count) (is_sum sum) fit in (ltb-true count (2 ^ 64) parts.0, parts.1)
total-reply tables said.Memory h fit = tt
total-reply tables _ h fit = absurd (never h)

-- the first letter of a name, and what stands behind it
record NameFirst (name : List ℕ) : Type 0 where
  first : ℕ
  rest : List ℕ
  is : name ≡ first ∷ rest
  letter : 58 ≤ first

-- A name begins with a letter.
name-first : (name : List ℕ) → is_name name ≡ true → NameFirst name
name-first [] h = absurd (never h)
name-first (first ∷ rest) h =
    let parts = and_parts (is_lower_case first && list_all is_name_byte rest) (nat_lt (length rest) 32) h in
    let lower = and_parts (is_lower_case first) (list_all is_name_byte rest) parts.0 in
    let least = leb-true 97 first (and_parts (nat_le 97 first) (nat_le first 122) lower.0).0 in
    record { first = first; rest = rest; is = refl; letter = omega (arith, least) }

-- A table that there is is named.
named : (tables : List TableDecl) (table : ℕ) → are_tables tables ≡ true → is_table_place tables table ≡ true → IsNamed tables table
named tables table are is =
    let b = and_parts (list_all is_table tables) (have_own_names tables) are in
    let s = place_stands tables table b.0 b.1 is in
    let name : name_of_table tables table ≡ s.table.name = ap (λ (o : Option TableDecl). option_map_or (λ (t : TableDecl). t.name) o []) s.at in
    let first = name-first s.table.name (table_parts s.table s.is).named in
    record {
      at = some_of cause.Unknown (position (λ decl. bytes_eq decl.name (name_of_table tables table)) tables) table s.named;
      first = first.first;
      rest = first.rest;
      is = name ∙ first.is;
      letter = first.letter;
    }

-- A stale read that fits the tables has keys of 64 bits, and its table is named.
stale-reply : (tables : List TableDecl) (what : StaleRead) → are_tables tables ≡ true → is_stale tables what ≡ true → IsStaleRead what × IsNamed tables (stale_table what)
stale-reply tables (stale.Key table key) are fit = let parts = and_parts (is_table_place tables table) (is_key_number key) fit in (parts.1, named tables table are parts.0)
stale-reply tables (stale.Table table) are fit = (tt, named tables table are fit)
stale-reply tables (stale.Range table low high) are fit =
    let parts = and_parts (is_table_place tables table && is_key_number low) (is_key_number high) fit in
    let first = and_parts (is_table_place tables table) (is_key_number low) parts.0 in
    ((first.1, parts.1), named tables table are first.0)

-- What answers a commit, and fits the tables, is a commit's reply.
commit-reply : (tables : List TableDecl) (told : Said) → are_tables tables ≡ true → answers_commit told ≡ true → is_said tables told ≡ true → IsCommitReply told × StaleFits tables told
commit-reply tables (said.Committed None) are h fit = (tt, tt)
commit-reply tables (said.Committed (Some number)) are h fit = (ltb-true number (2 ^ 64) fit, tt)
commit-reply tables (said.Stale what number) are h fit =
    let parts = and_parts (is_stale tables what) (is_u64 number) fit in
    let read = stale-reply tables what are parts.0 in
    ((read.0, ltb-true number (2 ^ 64) parts.1), read.1)
commit-reply tables _ are h fit = absurd (never h)

-- What answers an abort says that it was aborted.
abort-reply : (told : Said) → answers_abort told ≡ true → told ≡ said.Aborted
abort-reply said.Aborted h = refl
abort-reply _ h = absurd (never h)

-- What answers an observation, and fits the tables, is a reply to one.
observe-reply : (tables : List TableDecl) (told : Said) → answers_observe told ≡ true → is_said tables told ≡ true → IsObserveReply told
observe-reply tables (said.Cooling count) h fit = ltb-true count (2 ^ 64) fit
observe-reply tables _ h fit = absurd (never h)

-- What answers a pruning, and fits the tables, is a reply to one.
prune-reply : (tables : List TableDecl) (told : Said) → answers_prune told ≡ true → is_said tables told ≡ true → IsPruneReply told
prune-reply tables (said.Pruned count) h fit = ltb-true count (2 ^ 64) fit
prune-reply tables _ h fit = absurd (never h)

-- What answers a compaction, and fits the tables, is a reply to one.
compact-reply : (tables : List TableDecl) (told : Said) → answers_compact told ≡ true → is_said tables told ≡ true → IsCompactReply told
compact-reply tables (said.Moved count) h fit = ltb-true count (2 ^ 64) fit
compact-reply tables said.Memory h fit = tt
compact-reply tables _ h fit = absurd (never h)

-- What answers a seal of a block, and fits the tables, is a reply to it.
seal-reply : (tables : List TableDecl) (table block : ℕ) (told : Said) → answers_seal table block told ≡ true → is_said tables told ≡ true → IsSealReply table block told
seal-reply tables table block (said.Sealed of at stamp) h fit =
    let same = and_parts (of == table) (at == block) h in
    (eqb-true of table same.0, eqb-true at block same.1, ltb-true stamp (2 ^ 32) (and_parts (is_table_place tables of && is_u32 at) (is_u32 stamp) fit).1)
seal-reply tables table block (said.NotSealed cause) h fit = tt
seal-reply tables table block _ h fit = absurd (never h)

-- What answers a gathering of a block, and fits the tables, is a reply to it.
gather-reply : (tables : List TableDecl) (table block : ℕ) (told : Said) → answers_gather table block told ≡ true → is_said tables told ≡ true → IsGatherReply table block told
gather-reply tables table block (said.Frozen of at rows) h fit =
    let same = and_parts (of == table) (at == block) h in
    (eqb-true of table same.0, eqb-true at block same.1, ltb-true rows (2 ^ 32) (and_parts (is_table_place tables of && is_u32 at) (is_u32 rows) fit).1)
gather-reply tables table block said.NotFrozen h fit = tt
gather-reply tables table block said.Memory h fit = tt
gather-reply tables table block _ h fit = absurd (never h)

-- What answers an export, and fits the tables, is a reply to one.
export-reply : (tables : List TableDecl) (told : Said) → answers_export told ≡ true → is_said tables told ≡ true → IsExportReply told
export-reply tables (said.Exported number rows batches frozen) h fit =
    let a = and_parts (is_u64 number && is_u64 rows && is_u32 batches) (is_u32 frozen) fit in
    let b = and_parts (is_u64 number && is_u64 rows) (is_u32 batches) a.0 in
    let c = and_parts (is_u64 number) (is_u64 rows) b.0 in
    (ltb-true number (2 ^ 64) c.0, ltb-true rows (2 ^ 64) c.1, ltb-true batches (2 ^ 32) b.1, ltb-true frozen (2 ^ 32) a.1)
export-reply tables (said.Dirty key) h fit = fit
export-reply tables said.Memory h fit = tt
export-reply tables _ h fit = absurd (never h)

-- What answers a scan in one line says that memory was refused.
scan-reply : (told : Said) → answers_scan told ≡ true → told ≡ said.Memory
scan-reply said.Memory h = refl
scan-reply _ h = absurd (never h)

-- What answers a command in a transaction is a reply to it, whose rows fit.
within-reply : (tables : List TableDecl) (asked : Command) (told : Said) → are_tables tables ≡ true → answers_within tables asked told ≡ true → is_said tables told ≡ true → IsReplyWithin asked told × RowsFit tables asked told
within-reply tables (command.Begin checked) told are h fit = (begin-reply told h, tt)
within-reply tables (command.Get table key) told are h fit = get-reply (columns_at tables table) key told h
within-reply tables (command.Scan table) told are h fit =
    subst (λ (s : Said). IsScanReply s × RowsFit tables (command.Scan table) s) (sym (scan-reply told h)) (tt, tt)
within-reply tables (command.Range table low high) told are h fit =
    subst (λ (s : Said). IsScanReply s × RowsFit tables (command.Range table low high) s) (sym (scan-reply told h)) (tt, tt)
within-reply tables (command.Total table column low high) told are h fit = (total-reply tables told h fit, tt)
within-reply tables (command.Insert table row) told are h fit = (insert-reply tables told h fit, tt)
within-reply tables (command.Update table row) told are h fit = (change-reply tables table told h fit, tt)
within-reply tables (command.Delete table key) told are h fit = (change-reply tables table told h fit, tt)
within-reply tables command.Commit told are h fit = commit-reply tables told are h fit
within-reply tables command.Abort told are h fit = (abort-reply told h, tt)
within-reply tables command.Observe told are h fit = (observe-reply tables told h fit, tt)
within-reply tables command.Prune told are h fit = (prune-reply tables told h fit, tt)
within-reply tables (command.Compact table) told are h fit = (compact-reply tables told h fit, tt)
within-reply tables (command.Seal table block) told are h fit = (seal-reply tables table block told h fit, tt)
within-reply tables (command.Gather table block) told are h fit = (gather-reply tables table block told h fit, tt)
within-reply tables (command.Export table) told are h fit = (export-reply tables told h fit, tt)

-- What opens a transaction, and fits the tables, is a begin's reply.
opening-reply : (tables : List TableDecl) (told : Said) → is_opening told ≡ true → is_said tables told ≡ true → IsBeginReply told
opening-reply tables (said.At number) h fit = ltb-true number (2 ^ 64) fit
opening-reply tables _ h fit = absurd (never h)

-- What answers without a transaction says that there is none.
without-reply : (told : Said) → is_without told ≡ true → told ≡ said.NoTransaction
without-reply said.NoTransaction h = refl
without-reply _ h = absurd (never h)

-- a session's reply without a transaction shows no row
none-fit : (tables : List TableDecl) (asked : Command) (told : Said) → told ≡ said.NoTransaction → RowsFit tables asked told
none-fit tables (command.Get table key) told e = subst (GotFits (columns_at tables table) key) (sym e) tt
none-fit tables (command.Scan table) told e = subst (λ (s : Said). RowsFit tables (command.Scan table) s) (sym e) tt
none-fit tables (command.Range table low high) told e = subst (λ (s : Said). RowsFit tables (command.Range table low high) s) (sym e) tt
none-fit tables command.Commit told e = subst (StaleFits tables) (sym e) tt
none-fit tables _ told e = tt

-- What answers a command but upkeep without a transaction is a reply to it there.
without-replies : (tables : List TableDecl) (asked : Command) (told : Said) → is_upkeep asked ≡ false → answers_without asked told ≡ true → is_said tables told ≡ true → IsReplyWithout asked told × RowsFit tables asked told
without-replies tables (command.Begin checked) told up h fit = (opening-reply tables told h fit, tt)
without-replies tables (command.Get table key) told up h fit = let e = without-reply told h in (e, none-fit tables (command.Get table key) told e)
without-replies tables (command.Scan table) told up h fit = let e = without-reply told h in (e, none-fit tables (command.Scan table) told e)
without-replies tables (command.Range table low high) told up h fit = let e = without-reply told h in (e, none-fit tables (command.Range table low high) told e)
without-replies tables (command.Total table column low high) told up h fit = (without-reply told h, tt)
without-replies tables (command.Insert table row) told up h fit = (without-reply told h, tt)
without-replies tables (command.Update table row) told up h fit = (without-reply told h, tt)
without-replies tables (command.Delete table key) told up h fit = (without-reply told h, tt)
without-replies tables command.Commit told up h fit = let e = without-reply told h in (e, none-fit tables command.Commit told e)
without-replies tables command.Abort told up h fit = (without-reply told h, tt)
without-replies tables (command.Export table) told up h fit = (without-reply told h, tt)
without-replies tables _ told up h fit = absurd (never (sym up))

-- What answers in a transaction or without one is a reply there, whose rows fit.
chosen-reply : (tables : List TableDecl) (asked : Command) (told : Said) (b : Bool) → are_tables tables ≡ true → (b ≡ false → is_upkeep asked ≡ false)
    → (if b then answers_within tables asked told else answers_without asked told) ≡ true → is_said tables told ≡ true
    → (elim b as (λ x. Type 0) [ true ↦ IsReplyWithin asked told | false ↦ IsReplyWithout asked told ]) × RowsFit tables asked told
chosen-reply tables asked told true are up h fit = within-reply tables asked told are h fit
chosen-reply tables asked told false are up h fit = without-replies tables asked told (up refl) h fit

-- Where neither of two is true, the second is false.
or-false : (a b : Bool) → (a || b) ≡ false → b ≡ false
or-false true b h = absurd (never (sym h))
or-false false b h = h

-- what may be said is a reply, in a transaction or not
pub answer-reply : (tables : List TableDecl) (within : Bool) (asked : Command) (told : Said) → are_tables tables ≡ true → answers tables within asked told ≡ true → is_said tables told ≡ true → IsReply within asked told × RowsFit tables asked told
answer-reply tables within asked told are h fit = chosen-reply tables asked told (within || is_upkeep asked) are (or-false within (is_upkeep asked)) h fit

-- ---- among those listed: each answers

-- it answers, fits its widths, and has no line behind it
abbrev pub Answered : List TableDecl → (Said → Bool) → Said → Type 0
Answered tables test told = (test told ≡ true) × (is_said tables told ≡ true) × (lines_behind told ≡ [])

-- A number of 64 bits that is read of a line's words fits them.
fits_u64 : (words : List (List ℕ)) (at : ℕ) → is_u64 (u64_at words at) ≡ true
fits_u64 words at = lt-ltb (u64_at words at) (2 ^ 64) (u64_small words at)

-- A number of 32 bits that is read of a line's words fits them.
fits_u32 : (words : List (List ℕ)) (at : ℕ) → is_u32 (u32_at words at) ≡ true
fits_u32 words at = lt-ltb (u32_at words at) (2 ^ 32) (u32_small words at)

-- A number is tested as the same as itself.
same-number : (n : ℕ) → (n == n) ≡ true
same-number n = eq-eqb n n refl

-- A value that is chosen only within a range, and else none, is not above its most.
chosen_most : (b : Bool) (most value : ℕ) → is_within_range 0 most value ≡ b → unwrap_or (cond b (Some value) None) 0 ≤ most
chosen_most true most value h = let e : value ≤ most = leb-true value most (and_parts (nat_le 0 value) (nat_le value most) h).1 in e
chosen_most false most value h = omega arith

-- What is read within a range, or else none, is not above its most.
read_most : (most : ℕ) (o : Option ℕ) → unwrap_or (option_and_then (λ value. cond (is_within_range 0 most value) (Some value) None) o) 0 ≤ most
read_most most None = omega arith
read_most most (Some value) = chosen_most (is_within_range 0 most value) most value refl

-- A tagged number that is read of a line's words fits 64 bits.
tagged_small : (words : List (List ℕ)) (at : ℕ) → is_u64 (tagged_u64_at words at) ≡ true
tagged_small words at =
    let e : tagged_u64_at words at ≤ 2 ^ 64 - 1 = read_most (2 ^ 64 - 1) (natural_of (drop 1 (word_at words at))) in
    lt-ltb (tagged_u64_at words at) (2 ^ 64) (omega (arith, e))

module _ (tables : List TableDecl) (words behind : List (List ℕ)) where
  -- Each of these replies answers the command in a transaction, on one line.
  abbrev Each : Command → List Said → Type 0
  Each asked saids = EachSaid (Answered tables (answers_within tables asked)) saids

  -- The row that a get finds answers it where it has the key.
  each-got : (columns : List Column) (key : ℤ) (row : List Cell) (b : Bool) → 0 < length columns → fits columns row ≡ true → int_eq (key_of row) key ≡ b
      → EachSaid (Answered tables (answers_get columns key)) (if b then said.Found row ∷ [] else [])
  each-got columns key row true some fit same = ((and_from (fits columns row) (int_eq (key_of row) key) fit same, row_fits columns row some fit, refl), tt)
  each-got columns key row false some fit same = tt

  -- The row of the line's words answers a get, where there is one with the key.
  each-row : (columns : List Column) (key : ℤ) → 0 < length columns → (o : Option (List Cell)) → row_of columns (drop 1 words) ≡ o
      → EachSaid (Answered tables (answers_get columns key)) (option_map_or (λ row. if int_eq (key_of row) key then said.Found row ∷ [] else []) o [])
  each-row columns key some None is = tt
  each-row columns key some (Some row) is = each-got columns key row (int_eq (key_of row) key) some (row_of_is columns (drop 1 words) row is).1 refl

  -- The two conflicts of the line's words answer where a test passes them.
  each-conflict : (test : Said → Bool) → test (said.ConflictSession (u32_at words 2)) ≡ true → test (said.ConflictCommit (tagged_u64_at words 1)) ≡ true
      → EachSaid (Answered tables test) (conflict_replies words)
  each-conflict test h k = ((h, fits_u32 words 2, refl), ((k, tagged_small words 1, refl), tt))

  -- Each reply that is listed for an update or a delete answers it.
  each-change : (table : ℕ) → is_table_place tables table ≡ true → EachSaid (Answered tables (answers_change table)) (change_replies table words)
  each-change table place = (
    (refl, refl, refl),
    (
      (refl, refl, refl),
      (
        (refl, refl, refl),
        (
          (same-number table, and_from (is_table_place tables table && is_u32 (u32_at words 2)) (is_u32 (u32_at words 3)) (and_from (is_table_place tables table) (is_u32 (u32_at words 2)) place (fits_u32 words 2)) (fits_u32 words 3), refl),
          each-conflict (answers_change table) refl refl,
        ),
      ),
    ),
  )

  -- The refusal of an export for a key answers it where the key fits.
  each-dirty : (key : ℤ) (b : Bool) → is_integer_of kind.I64 key ≡ b → EachSaid (Answered tables answers_export) (if b then said.Dirty key ∷ [] else [])
  each-dirty key true fit = ((refl, fit, refl), tt)
  each-dirty key false fit = tt

  -- The total that is listed answers it where its sum fits.
  each-total : (b : Bool) → is_between (negsuc (2 ^ 127 - 1)) (pos (2 ^ 127 - 1)) (integer_at words 2) ≡ b
      → EachSaid (Answered tables answers_total) (if b then said.Totalled (u64_at words 1) (integer_at words 2) ∷ [] else [])
  each-total true fit = ((refl, and_from (is_u64 (u64_at words 1)) (is_sum (integer_at words 2)) (fits_u64 words 1) fit, refl), tt)
  each-total false fit = tt

  -- Replies of two lists that each answer all answer.
  each-both : (test : Said → Bool) (first others : List Said) → EachSaid (Answered tables test) first → EachSaid (Answered tables test) others → EachSaid (Answered tables test) (first ++ others)
  each-both test [] others each more = more
  each-both test (told ∷ first) others each more = (each.0, each-both test first others each.1 more)

  -- The reply that names a read, where there is one, answers a commit where the read fits.
  each-stale : (at : ℕ) (what : Option StaleRead) → ((its : StaleRead) → what ≡ Some its → is_stale tables its ≡ true) → EachSaid (Answered tables answers_commit) (stale_reply words at what)
  each-stale at None fit = tt
  each-stale at (Some its) fit = ((refl, and_from (is_stale tables its) (is_u64 (tagged_u64_at words at)) (fit its refl) (tagged_small words at), refl), tt)

  -- A table that is named is there.
  table-named : (at table : ℕ) → table_at tables words at ≡ Some table → is_table_place tables table ≡ true
  table-named at table is = let p = position_is (λ (decl : TableDecl). bytes_eq decl.name (word_at words at)) tables table is in ap is_some p.1

  -- A key that is read is one of 64 bits.
  key-read : (at : ℕ) (key : ℤ) → key_at words at ≡ Some key → is_key_number key ≡ true
  key-read at key is = by (is_integer_of kind.I64 (integer_at words at)) refl is
    where
      by : (b : Bool) → is_integer_of kind.I64 (integer_at words at) ≡ b → (if b then Some (integer_at words at) else None) ≡ Some key → is_key_number key ≡ true
      by true fits e = let same : integer_at words at ≡ key = cc in ap (is_integer_of kind.I64) (sym same) ∙ fits
      by false fits e = absurd (let n : ⊥ = cc in n)

  -- Each read that may be named is of a table that there is and of keys.
  named-key : (its : StaleRead) → key_named tables words ≡ Some its → is_stale tables its ≡ true
  named-key its is = by (table_at tables words 1) (key_at words 2) refl refl is
    where
      by : (table : Option ℕ) (key : Option ℤ) → table_at tables words 1 ≡ table → key_at words 2 ≡ key → option_and_then (λ t. option_map (λ k. stale.Key t k) key) table ≡ Some its → is_stale tables its ≡ true
      by None key t k e = absurd (let n : ⊥ = cc in n)
      by (Some table) None t k e = absurd (let n : ⊥ = cc in n)
      by (Some table) (Some key) t k e =
          let same : stale.Key table key ≡ its = cc in
          subst (λ (what : StaleRead). is_stale tables what ≡ true) same (and_from (is_table_place tables table) (is_key_number key) (table-named 1 table t) (key-read 2 key k))

  named-table : (its : StaleRead) → table_named tables words ≡ Some its → is_stale tables its ≡ true
  named-table its is = by (table_at tables words 2) refl is
    where
      by : (table : Option ℕ) → table_at tables words 2 ≡ table → option_map (λ t. stale.Table t) table ≡ Some its → is_stale tables its ≡ true
      by None t e = absurd (let n : ⊥ = cc in n)
      by (Some table) t e = let same : stale.Table table ≡ its = cc in subst (λ (what : StaleRead). is_stale tables what ≡ true) same (table-named 2 table t)

  named-range : (its : StaleRead) → range_named tables words ≡ Some its → is_stale tables its ≡ true
  named-range its is = by (table_at tables words 2) (key_at words 3) (key_at words 4) refl refl refl is
    where
      by : (table : Option ℕ) (low high : Option ℤ) → table_at tables words 2 ≡ table → key_at words 3 ≡ low → key_at words 4 ≡ high
          → option_and_then (λ t. option_and_then (λ l. option_map (λ h. stale.Range t l h) high) low) table ≡ Some its → is_stale tables its ≡ true
      by None low high t l h e = absurd (let n : ⊥ = cc in n)
      by (Some table) None high t l h e = absurd (let n : ⊥ = cc in n)
      by (Some table) (Some low) None t l h e = absurd (let n : ⊥ = cc in n)
      by (Some table) (Some low) (Some high) t l h e =
          let same : stale.Range table low high ≡ its = cc in
          subst (λ (what : StaleRead). is_stale tables what ≡ true) same
          (and_from (is_table_place tables table && is_key_number low) (is_key_number high) (and_from (is_table_place tables table) (is_key_number low) (table-named 2 table t) (key-read 3 low l)) (key-read 4 high h))

  -- Each refusal of a commit that is listed answers it.
  each-refused : EachSaid (Answered tables answers_commit) (stale_replies tables words)
  each-refused =
      each-both answers_commit (stale_reply words 3 (key_named tables words) ++ stale_reply words 3 (table_named tables words)) (stale_reply words 5 (range_named tables words))
      (each-both answers_commit (stale_reply words 3 (key_named tables words)) (stale_reply words 3 (table_named tables words)) (each-stale 3 (key_named tables words) named-key) (each-stale 3 (table_named tables words) named-table))
      (each-stale 5 (range_named tables words) named-range)

  -- The numbers of a reply about a block fit where the table is there.
  block-fits : (table block : ℕ) (number : ℕ) → is_table_place tables table ≡ true → is_u32 block ≡ true → is_u32 number ≡ true → (is_table_place tables table && is_u32 block && is_u32 number) ≡ true
  block-fits table block number a b c = and_from (is_table_place tables table && is_u32 block) (is_u32 number) (and_from (is_table_place tables table) (is_u32 block) a b) c

  -- A block is tested as the same as itself.
  same-block : (table block : ℕ) → (table == table && block == block) ≡ true
  same-block table block = and_from (table == table) (block == block) (same-number table) (same-number block)

  -- the command names tables, blocks and columns that there are, and asks for no rows
  abbrev pub IsListed : Command → Type 0
  IsListed (command.Get table key) = 0 < length (columns_at tables table)
  IsListed (command.Scan table) = ⊥
  IsListed (command.Range table low high) = ⊥
  IsListed (command.Update table row) = is_table_place tables table ≡ true
  IsListed (command.Delete table key) = is_table_place tables table ≡ true
  IsListed (command.Seal table block) = (is_table_place tables table ≡ true) × (is_u32 block ≡ true)
  IsListed (command.Gather table block) = (is_table_place tables table ≡ true) × (is_u32 block ≡ true)
  IsListed _ = Unit {0}

  -- Each reply that is listed for a command in a transaction answers it.
  each-within : (asked : Command) → IsListed asked → Each asked (replies_within tables words behind asked)
  each-within (command.Begin checked) h = ((refl, refl, refl), tt)
  each-within (command.Get table key) h =
      ((refl, refl, refl), ((refl, refl, refl), each-row (columns_at tables table) key h (row_of (columns_at tables table) (drop 1 words)) refl))
  each-within (command.Scan table) h = absurd h
  each-within (command.Range table low high) h = absurd h
  each-within (command.Total table column low high) h = ((refl, refl, refl), each-total (is_between (negsuc (2 ^ 127 - 1)) (pos (2 ^ 127 - 1)) (integer_at words 2)) refl)
  each-within (command.Insert table row) h = ((refl, refl, refl), ((refl, refl, refl), ((refl, refl, refl), ((refl, refl, refl), each-conflict answers_insert refl refl))))
  each-within (command.Update table row) h = each-change table h
  each-within (command.Delete table key) h = each-change table h
  each-within command.Commit h = ((refl, refl, refl), ((refl, fits_u64 words 1, refl), each-refused))
  each-within command.Abort h = ((refl, refl, refl), tt)
  each-within command.Observe h = ((refl, fits_u64 words 1, refl), tt)
  each-within command.Prune h = ((refl, fits_u64 words 1, refl), tt)
  each-within (command.Compact table) h = ((refl, fits_u64 words 1, refl), ((refl, refl, refl), tt))
  each-within (command.Seal table block) h = (
    (same-block table block, block-fits table block (u32_at words 3) h.0 h.1 (fits_u32 words 3), refl),
    ((refl, refl, refl), ((refl, refl, refl), ((refl, refl, refl), ((refl, refl, refl), ((refl, refl, refl), ((refl, refl, refl), ((refl, refl, refl), tt))))))),
  )
  each-within (command.Gather table block) h = (
    (same-block table block, block-fits table block (u32_at words 3) h.0 h.1 (fits_u32 words 3), refl),
    ((refl, refl, refl), ((refl, refl, refl), tt)),
  )
  each-within (command.Export table) h = (
    (
      refl,
      and_from (is_u64 (u64_at words 1) && is_u64 (u64_at words 3) && is_u32 (u32_at words 5)) (is_u32 (u32_at words 7))
          (and_from (is_u64 (u64_at words 1) && is_u64 (u64_at words 3)) (is_u32 (u32_at words 5)) (and_from (is_u64 (u64_at words 1)) (is_u64 (u64_at words 3)) (fits_u64 words 1) (fits_u64 words 3)) (fits_u32 words 5)) (fits_u32 words 7),
      refl,
    ),
    ((refl, refl, refl), each-dirty (integer_at words 1) (is_integer_of kind.I64 (integer_at words 1)) refl),
  )

  -- Each reply that is listed for a command without a transaction answers it.
  each-without : (asked : Command) → EachSaid (Answered tables (answers_without asked)) (replies_without words asked)
  each-without (command.Begin checked) = ((refl, fits_u64 words 1, refl), tt)
  each-without (command.Get table key) = ((refl, refl, refl), tt)
  each-without (command.Scan table) = ((refl, refl, refl), tt)
  each-without (command.Range table low high) = ((refl, refl, refl), tt)
  each-without (command.Total table column low high) = ((refl, refl, refl), tt)
  each-without (command.Insert table row) = ((refl, refl, refl), tt)
  each-without (command.Update table row) = ((refl, refl, refl), tt)
  each-without (command.Delete table key) = ((refl, refl, refl), tt)
  each-without command.Commit = ((refl, refl, refl), tt)
  each-without command.Abort = ((refl, refl, refl), tt)
  each-without command.Observe = ((refl, refl, refl), tt)
  each-without command.Prune = ((refl, refl, refl), tt)
  each-without (command.Compact table) = ((refl, refl, refl), tt)
  each-without (command.Seal table block) = ((refl, refl, refl), tt)
  each-without (command.Gather table block) = ((refl, refl, refl), tt)
  each-without (command.Export table) = ((refl, refl, refl), tt)

  -- Each reply that is listed answers, be it in a transaction or without one.
  each-chosen : (asked : Command) (b : Bool) → (b ≡ true → IsListed asked)
      → EachSaid (Answered tables (λ told. if b then answers_within tables asked told else answers_without asked told)) (if b then replies_within tables words behind asked else replies_without words asked)
  each-chosen asked true h = each-within asked (h refl)
  each-chosen asked false h = each-without asked

-- What holds of those kept holds with one more that is kept only where it holds of it.
kept-step : (Q : Said → Type 0) (b : Bool) (told : Said) (kept : List Said) → (b ≡ true → Q told) → EachSaid Q kept → EachSaid Q (cond b (told ∷ kept) kept)
kept-step Q true told kept h rest = (h refl, rest)
kept-step Q false told kept h rest = rest

-- Of replies that answer, those that are kept answer and pass the test that keeps them.
each-kept : (tables : List TableDecl) (keep test : Said → Bool) (saids : List Said) → EachSaid (Answered tables test) saids → EachSaid (Answered tables (λ told. keep told && test told)) (filter keep saids)
each-kept tables keep test [] h = tt
each-kept tables keep test (told ∷ saids) h =
    kept-step (Answered tables (λ s. keep s && test s)) (keep told) told (filter keep saids) (λ kept. (and_from (keep told) (test told) kept h.0.0, h.0.1, h.0.2)) (each-kept tables keep test saids h.1)

-- each reply that is due answers
pub each-due : (tables : List TableDecl) (earlier : List Entry) (due : Due) (words behind : List (List ℕ)) → ((is_within due.who earlier || is_upkeep due.command) ≡ true → IsListed tables words behind due.command)
    → EachSaid (Answered tables (may_say tables (is_within due.who earlier) due)) (replies_due tables earlier due words behind)
each-due tables earlier due words behind h =
    each-kept tables (λ told. not (is_worker due.who && is_silent told)) (answers tables (is_within due.who earlier) due.command)
    (if is_within due.who earlier || is_upkeep due.command then replies_within tables words behind due.command else replies_without words due.command)
    (each-chosen tables words behind due.command (is_within due.who earlier || is_upkeep due.command) h)
