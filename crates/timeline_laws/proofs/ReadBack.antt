-- Each reply that may stand is read back where its command's is due.
use Rattle.std.proofs.Common.{◌≡◌, ℕ, ◌-◌, ◌^◌, ◌<◌, nat_lt, Bool, true, false, cond, List, [], ◌∷◌, ◌++◌, length, take, drop, map, Option, None, Some, refl, sym, ap, ◌∙◌, subst, arith, append_assoc, inl, inr, ℤ, pos, negsuc, int_lt}
use Rattle.std.specs.Prelude.{bytes_eq, decimal, codes, ◌==◌, option_and_then, option_map}
use Rattle.std.specs.Fmt.{signed_decimal}
use Rattle.std.specs.List.{list_all}
use Rattle.std.specs.Ordering.{int_eq}
use Rattle.std.proofs.lemmas.Bool.{and_parts, ltb-true, ne_eqb}
use Rattle.std.specs.Option.{option_map_or}
use Rattle.cell_model.specs.declared.cell.Cell.{Cell}
use Rattle.cell_model.specs.declared.column.Column.{Column}
use Rattle.cell_model.specs.declared.kind.Kind.TheVariants as kind
use Rattle.cell_model.specs.declared.table.TableDecl.{TableDecl}
use Rattle.cell_model.specs.Rows.{fits}
use Rattle.cell_model.specs.Values.{is_between, is_integer_of}
use Rattle.isolation_spec.specs.Contents.{key_of}
use Rattle.workload_spec.specs.declared.command.Command.{Command}
use Rattle.workload_spec.specs.declared.command.Command.TheVariants as command
use Rattle.workload_spec.specs.declared.reply.Said.{Said}
use Rattle.workload_spec.specs.declared.reply.Said.TheVariants as said
use Rattle.workload_spec.specs.declared.reply.StaleRead.{StaleRead}
use Rattle.workload_spec.specs.declared.reply.StaleRead.TheVariants as stale
use Rattle.workload_spec.specs.declared.reply.SealCause.TheVariants.{Phase, Head, Empty, Gaps, Versions, Hot, Last}
use Rattle.workload_spec.specs.ReplyText.{said_words, row_line, lines_behind}
use Rattle.workload_spec.specs.ScriptText.{name_of_table}
use Rattle.workload_spec.specs.Words.{cell_words, spaced}
use Rattle.outcome_spec.specs.Reading.{words_in, word_at, row_of, row_at, rows_above, u32_at, u64_at, tagged_u64_at, integer_at}
use Rattle.outcome_spec.specs.Tables.{columns_at}
use Rattle.outcome_spec.specs.Forms.{is_upkeep, dirty_replies, change_replies, stale_reply, stale_replies, key_at, table_at, key_named, table_named, range_named, replies_within, replies_without}
use Rattle.workload_laws.proofs.Apart.{AreWords, is_plain, is_whole, words_whole}
use Rattle.workload_laws.proofs.Numbers.{Begins, decimal_begins, other_bytes}
use Rattle.std.proofs.lemmas.Slice.Eq.{bytes_eq-Decides}
use Rattle.timeline_spec.specs.Forms.{IsReplyWithin, IsBeginReply, IsChangeReply, IsInsertReply, IsGetReply, IsScanReply, IsTotalReply, IsStaleRead, IsCommitReply, IsExportReply, IsObserveReply, IsPruneReply, IsCompactReply, IsSealReply, IsGatherReply}
use Rattle.timeline_laws.proofs.ReadLines.{words_of_line}
use Rattle.timeline_laws.proofs.Cells.{row_back}
use Rattle.timeline_laws.proofs.Stated.{RowsRise, GotFits, ScannedFits, IsNamed, stale_table, StaleFits, RowsFit, IsReply}
use Rattle.timeline_laws.proofs.ReadNumbers.{is_digit_byte, digits_signed, plain_decimal, plain_signed, u64_read, u32_read, key_read, sum_read}
use Rattle.timeline_laws.proofs.Lines.{a-word, AreUnbroken, ended, IsSaid, tail_of, Picks, replies_at, IsRead}

-- each of the words is of plain bytes
abbrev pub ArePlain : List (List ℕ) → Type 0
ArePlain [] = Unit {0}
ArePlain (word ∷ words) = (list_all is_plain word ≡ true) × ArePlain words

-- Where each word is of plain bytes, they are all words.
plain-words : (words : List (List ℕ)) → ArePlain words → AreWords words
plain-words [] h = tt
plain-words (word ∷ words) h = (a-word word h.0, plain-words words h.1)

-- what is said in plain words
plainly : (tables : List TableDecl) (told : Said) (first : List ℕ) (others : List (List ℕ)) → said_words tables told ≡ first ∷ others → ArePlain (first ∷ others) → lines_behind told ≡ [] → IsSaid tables told
plainly tables told first others words plain one = record { first = first; others = others; words = words; read = plain-words (first ∷ others) plain; behind = subst AreUnbroken (sym one) tt }

-- Lists of four words and of six are not one.
fewer-words : (a b : List (List ℕ)) → length a ≡ 4 → length b ≡ 6 → a ≡ b → ⊥
fewer-words a b four six same = let e : length a ≡ length b = ap length same in omega (arith, four, six, e)

-- a row that is read, and is above, goes before the others
row-chosen : (o : Option (List Cell)) (row : List Cell) (test : List Cell → Bool) (next : List Cell → List (List Cell)) (more : List (List Cell)) → o ≡ Some row → test row ≡ true → next row ≡ more
    → elim o as (λ x. List (List Cell)) [ Some r ↦ cond (test r) (r ∷ next r) [] | None ↦ [] ] ≡ row ∷ more
row-chosen o row test next more is passes rest = rw (is, passes) (ap (λ (rs : List (List Cell)). row ∷ rs) rest)

-- the tables have plain names
abbrev pub NamesPlain : List TableDecl → Type 0
NamesPlain tables = (table : ℕ) → list_all is_plain (name_of_table tables table) ≡ true

module _ (tables : List TableDecl) (names : NamesPlain tables) where
  -- The line that shows a snapshot is of words.
  at-said : (n : ℕ) → IsSaid tables (said.At n)
  at-said n = plainly tables (said.At n) (codes "at") (decimal n ∷ []) refl (refl, (plain_decimal n, tt)) refl

  -- The line of a begin within a transaction is of words.
  in-said : IsSaid tables said.InTransaction
  in-said = plainly tables said.InTransaction (codes "in") (codes "transaction" ∷ []) refl (refl, (refl, tt)) refl

  -- The line that tells of no transaction is of words.
  no-said : IsSaid tables said.NoTransaction
  no-said = plainly tables said.NoTransaction (codes "no") (codes "transaction" ∷ []) refl (refl, (refl, tt)) refl

  -- The line of a get that found no row is of words.
  absent-said : IsSaid tables said.Absent
  absent-said = plainly tables said.Absent (codes "none") [] refl (refl, tt) refl

  -- The line of an accepted write is of words.
  ok-said : IsSaid tables said.Accepted
  ok-said = plainly tables said.Accepted (codes "ok") [] refl (refl, tt) refl

  -- The line of a row that exists already is of words.
  exists-said : IsSaid tables said.Exists
  exists-said = plainly tables said.Exists (codes "exists") [] refl (refl, tt) refl

  -- The line of a row that is missing is of words.
  missing-said : IsSaid tables said.Missing
  missing-said = plainly tables said.Missing (codes "missing") [] refl (refl, tt) refl

  -- The line of a full table is of words.
  full-said : IsSaid tables said.Full
  full-said = plainly tables said.Full (codes "full") [] refl (refl, tt) refl

  -- the line of refused memory is of words
  pub memory-said : IsSaid tables said.Memory
  memory-said = plainly tables said.Memory (codes "memory") [] refl (refl, tt) refl

  -- The line of an abort is of words.
  aborted-said : IsSaid tables said.Aborted
  aborted-said = plainly tables said.Aborted (codes "aborted") [] refl (refl, tt) refl

  -- The line of a conflict with a session is of words.
  session-said : (n : ℕ) → IsSaid tables (said.ConflictSession n)
  session-said n = plainly tables (said.ConflictSession n) (codes "conflict") (codes "session" ∷ decimal n ∷ []) refl (refl, (refl, (plain_decimal n, tt))) refl

  -- The line of a conflict with a commit is of words.
  commit-said : (n : ℕ) → IsSaid tables (said.ConflictCommit n)
  commit-said n = plainly tables (said.ConflictCommit n) (codes "conflict") ((codes "#" ++ decimal n) ∷ []) refl (refl, (plain_decimal n, tt)) refl

  -- The line of a freezing block is of words.
  freezing-said : (t b g : ℕ) → IsSaid tables (said.Freezing t b g)
  freezing-said t b g = plainly tables (said.Freezing t b g) (codes "freezing") (name_of_table tables t ∷ decimal b ∷ decimal g ∷ []) refl (refl, (names t, (plain_decimal b, (plain_decimal g, tt)))) refl

  -- The line of a commit of nothing is of words.
  nothing-said : IsSaid tables (said.Committed None)
  nothing-said = plainly tables (said.Committed None) (codes "committed") (codes "-" ∷ []) refl (refl, (refl, tt)) refl

  -- The line of a commit with a number is of words.
  committed-said : (n : ℕ) → IsSaid tables (said.Committed (Some n))
  committed-said n = plainly tables (said.Committed (Some n)) (codes "committed") (decimal n ∷ []) refl (refl, (plain_decimal n, tt)) refl

  -- the line of how many blocks cool is of words
  pub cooling-said : (n : ℕ) → IsSaid tables (said.Cooling n)
  cooling-said n = plainly tables (said.Cooling n) (codes "cooling") (decimal n ∷ []) refl (refl, (plain_decimal n, tt)) refl

  -- that of how much was pruned
  pub pruned-said : (n : ℕ) → IsSaid tables (said.Pruned n)
  pruned-said n = plainly tables (said.Pruned n) (codes "pruned") (decimal n ∷ []) refl (refl, (plain_decimal n, tt)) refl

  -- that of how many rows were moved
  pub moved-said : (n : ℕ) → IsSaid tables (said.Moved n)
  moved-said n = plainly tables (said.Moved n) (codes "moved") (decimal n ∷ []) refl (refl, (plain_decimal n, tt)) refl

  -- that of a sealed block
  pub sealed-said : (t b g : ℕ) → IsSaid tables (said.Sealed t b g)
  sealed-said t b g = plainly tables (said.Sealed t b g) (codes "sealed") (name_of_table tables t ∷ decimal b ∷ decimal g ∷ []) refl (refl, (names t, (plain_decimal b, (plain_decimal g, tt)))) refl

  -- and that of a frozen block
  pub frozen-said : (t b r : ℕ) → IsSaid tables (said.Frozen t b r)
  frozen-said t b r = plainly tables (said.Frozen t b r) (codes "frozen") (name_of_table tables t ∷ decimal b ∷ decimal r ∷ []) refl (refl, (names t, (plain_decimal b, (plain_decimal r, tt)))) refl

  -- The line of a gathering that freezes nothing is of words.
  idle-said : IsSaid tables said.NotFrozen
  idle-said = plainly tables said.NotFrozen (codes "not") (codes "frozen" ∷ []) refl (refl, (refl, tt)) refl

  -- The line of an export that was sent is of words.
  export-said : (n r b f : ℕ) → IsSaid tables (said.Exported n r b f)
  export-said n r b f =
      plainly tables (said.Exported n r b f) (codes "export") (decimal n ∷ codes "rows" ∷ decimal r ∷ codes "batches" ∷ decimal b ∷ codes "frozen" ∷ decimal f ∷ []) refl
      (refl, (plain_decimal n, (refl, (plain_decimal r, (refl, (plain_decimal b, (refl, (plain_decimal f, tt)))))))) refl

  -- The line of a total is of words.
  total-said : (count : ℕ) (sum : ℤ) → IsSaid tables (said.Totalled count sum)
  total-said count sum = plainly tables (said.Totalled count sum) (codes "total") (decimal count ∷ signed_decimal sum ∷ []) refl (refl, (plain_decimal count, (plain_signed sum, tt))) refl

  -- The line of a stale commit is of words.
  stale-said : (what : StaleRead) (n : ℕ) → IsSaid tables (said.Stale what n)
  stale-said (stale.Key table key) n =
      plainly tables (said.Stale (stale.Key table key) n) (codes "stale") (name_of_table tables table ∷ signed_decimal key ∷ (codes "#" ++ decimal n) ∷ []) refl
      (refl, (names table, (plain_signed key, (plain_decimal n, tt)))) refl
  stale-said (stale.Table table) n =
      plainly tables (said.Stale (stale.Table table) n) (codes "stale") (codes "table" ∷ name_of_table tables table ∷ (codes "#" ++ decimal n) ∷ []) refl
      (refl, (refl, (names table, (plain_decimal n, tt)))) refl
  stale-said (stale.Range table low high) n =
      plainly tables (said.Stale (stale.Range table low high) n) (codes "stale") (codes "range" ∷ name_of_table tables table ∷ signed_decimal low ∷ signed_decimal high ∷ (codes "#" ++ decimal n) ∷ []) refl
      (refl, (refl, (names table, (plain_signed low, (plain_signed high, (plain_decimal n, tt)))))) refl

  -- The line of an export refused for an own write is of words.
  dirty-said : (key : ℤ) → IsSaid tables (said.Dirty key)
  dirty-said key = plainly tables (said.Dirty key) (codes "dirty") (signed_decimal key ∷ []) refl (refl, (plain_signed key, tt)) refl

  -- ---- a transaction's begin and end

  -- A reply to a begin is read back where no transaction is open.
  begin-read : (checked : Bool) (told : Said) → IsBeginReply told → IsRead tables false (command.Begin checked) told
  begin-read checked (said.At n) small = record { is_said = at-said n; picks = λ rest. inl (ap said.At (u64_read n small)) }
  begin-read checked _ h = absurd h

  -- A reply that there is no transaction is read back where it alone is due.
  without-read : (asked : Command) (told : Said) → ((words behind : List (List ℕ)) → replies_at false tables words behind asked ≡ said.NoTransaction ∷ []) → told ≡ said.NoTransaction → IsRead tables false asked told
  without-read asked told only is = subst (IsRead tables false asked) (sym is) (record {
    is_said = no-said;
    picks = λ rest. subst (Picks tables said.NoTransaction) (sym (only (said_words tables said.NoTransaction) rest)) (inl refl);
  })

  -- The line of a commit with a number is not that of one of nothing.
  no-dash : (word : List ℕ) → Begins word → bytes_eq (codes "committed -\n") (codes "committed " ++ (word ++ 10 ∷ [])) ≡ false
  no-dash word first = let other : (45 == first.first) ≡ false = ne_eqb 45 first.first (λ e. omega (arith, e, first.least)) in rw first.is (rw other refl)

  -- ---- stale commits

  -- The words of what is said are read from its line.
  tail-words : (told : Said) → IsSaid tables told → words_in (tail_of tables told) ≡ said_words tables told
  unfolding tail_of
  tail-words told h = ap (λ (words : List (List ℕ)). words_in (spaced words ++ 10 ∷ [])) h.words ∙ words_of_line h.first h.others h.read ∙ sym h.words

  -- What is said in other words has another line.
  words-apart : (other told : Said) → IsSaid tables other → IsSaid tables told → (said_words tables other ≡ said_words tables told → ⊥) → bytes_eq (tail_of tables other) (tail_of tables told) ≡ false
  words-apart other told h k apart =
      other_bytes (tail_of tables other) (tail_of tables told) (λ same. apart (sym (tail-words other h) ∙ ap words_in same ∙ tail-words told k))

  -- A read that may be named, of another line, is passed over.
  passed-over : (told : Said) (words : List (List ℕ)) (at : ℕ) (what : Option StaleRead) (rest : List Said) → IsSaid tables told
      → ((its : StaleRead) → what ≡ Some its → said_words tables (said.Stale its (tagged_u64_at words at)) ≡ said_words tables told → ⊥)
      → Picks tables told rest → Picks tables told (stale_reply words at what ++ rest)
  passed-over told words at None rest h apart picks = picks
  passed-over told words at (Some its) rest h apart picks =
      let other = stale-said its (tagged_u64_at words at) in
      inr (other, refl, words-apart (said.Stale its (tagged_u64_at words at)) told other h (apart its refl), picks)

  -- What is named as a key is a key.
  key-named : (table : Option ℕ) (key : Option ℤ) (its : StaleRead) → option_and_then (λ t. option_map (λ k. stale.Key t k) key) table ≡ Some its → (t : ℕ) × (k : ℤ) × (its ≡ stale.Key t k)
  key-named None key its is = absurd (let never : ⊥ = cc in never)
  key-named (Some t) None its is = absurd (let never : ⊥ = cc in never)
  key-named (Some t) (Some k) its is = (t, k, (let e : its ≡ stale.Key t k = cc in e))

  -- What is named as a table is one.
  table-named : (table : Option ℕ) (its : StaleRead) → option_map (λ t. stale.Table t) table ≡ Some its → (t : ℕ) × (its ≡ stale.Table t)
  table-named None its is = absurd (let never : ⊥ = cc in never)
  table-named (Some t) its is = (t, (let e : its ≡ stale.Table t = cc in e))

  -- The word at a place of two equal lists is one.
  same-word : (at : ℕ) (a b : List (List ℕ)) → a ≡ b → word_at a at ≡ word_at b at
  same-word at a b e = ap (λ (words : List (List ℕ)). word_at words at) e

  -- No number is spelled as a name is.
  number-name : (table : ℕ) (key : ℤ) → IsNamed tables table → signed_decimal key ≡ name_of_table tables table → ⊥
  number-name table key named e =
      let digits : list_all is_digit_byte (named.first ∷ named.rest) ≡ true = subst (λ (word : List ℕ). list_all is_digit_byte word ≡ true) (e ∙ named.is) (digits_signed key) in
      let first = and_parts (is_digit_byte named.first) (list_all is_digit_byte named.rest) digits in
      let low : named.first < 58 = let e : named.first < 58 = ltb-true named.first 58 (and_parts (nat_lt 34 named.first) (nat_lt named.first 58) first.0).1 in e in
      omega (arith, low, named.letter)

  -- A key that is read back is one of 64 bits.
  key-by : (back key : ℤ) → back ≡ key → is_integer_of kind.I64 key ≡ true → cond (is_integer_of kind.I64 back) (Some back) None ≡ Some key
  key-by back key e small = subst (λ (k : ℤ). cond (is_integer_of kind.I64 k) (Some k) None ≡ Some key) (sym e) (rw small refl)

  -- A stale commit is picked among those that its line may tell.
  stale-picks : (what : StaleRead) (n : ℕ) → IsStaleRead what → n < 2 ^ 64 → IsNamed tables (stale_table what) → Picks tables (said.Stale what n) (stale_replies tables (said_words tables (said.Stale what n)))
  stale-picks (stale.Key table key) n fits small named =
      let words = said_words tables (said.Stale (stale.Key table key) n) in
      let is : key_named tables words ≡ Some (stale.Key table key) =
      ap (option_and_then (λ t. option_map (λ k. stale.Key t k) (key_at words 2))) named.at ∙ ap (option_map (λ k. stale.Key table k)) (key-by (integer_at words 2) key (key_read key fits) fits) in
      subst (λ (o : Option StaleRead). Picks tables (said.Stale (stale.Key table key) n) (stale_reply words 3 o ++ stale_reply words 3 (table_named tables words) ++ stale_reply words 5 (range_named tables words))) (sym is)
      (inl (ap (said.Stale (stale.Key table key)) (u64_read n small)))
  stale-picks (stale.Table table) n fits small named =
      let told = said.Stale (stale.Table table) n in
      let words = said_words tables told in
      let first = stale_reply words 3 (key_named tables words) in
      let second = stale_reply words 3 (table_named tables words) in
      let third = stale_reply words 5 (range_named tables words) in
      let is : table_named tables words ≡ Some (stale.Table table) = ap (option_map (λ t. stale.Table t)) named.at in
      subst (Picks tables told) (sym (append_assoc first second third))
      (passed-over told words 3 (key_named tables words) (second ++ third) (stale-said (stale.Table table) n)
      (λ its found same. let key = key-named (table_at tables words 1) (key_at words 2) its found in
      number-name table key.1 named (same-word 2 (said_words tables (said.Stale (stale.Key key.0 key.1) (tagged_u64_at words 3))) words
      (ap (λ (other : StaleRead). said_words tables (said.Stale other (tagged_u64_at words 3))) (sym key.2) ∙ same)))
      (subst (λ (o : Option StaleRead). Picks tables told (stale_reply words 3 o ++ third)) (sym is) (inl (ap (said.Stale (stale.Table table)) (u64_read n small)))))
  stale-picks (stale.Range table low high) n fits small named =
      let told = said.Stale (stale.Range table low high) n in
      let words = said_words tables told in
      let first = stale_reply words 3 (key_named tables words) in
      let second = stale_reply words 3 (table_named tables words) in
      let third = stale_reply words 5 (range_named tables words) in
      let is : range_named tables words ≡ Some (stale.Range table low high) =
      ap (option_and_then (λ t. option_and_then (λ l. option_map (λ h. stale.Range t l h) (key_at words 4)) (key_at words 3))) named.at
      ∙ ap (option_and_then (λ l. option_map (λ h. stale.Range table l h) (key_at words 4))) (key-by (integer_at words 3) low (key_read low fits.0) fits.0)
      ∙ ap (option_map (λ h. stale.Range table low h)) (key-by (integer_at words 4) high (key_read high fits.1) fits.1) in
      subst (Picks tables told) (sym (append_assoc first second third))
      (passed-over told words 3 (key_named tables words) (second ++ third) (stale-said (stale.Range table low high) n)
      (λ its found same. let key = key-named (table_at tables words 1) (key_at words 2) its found in
      fewer-words (said_words tables (said.Stale (stale.Key key.0 key.1) (tagged_u64_at words 3))) words refl refl
      (ap (λ (other : StaleRead). said_words tables (said.Stale other (tagged_u64_at words 3))) (sym key.2) ∙ same))
      (passed-over told words 3 (table_named tables words) third (stale-said (stale.Range table low high) n)
      (λ its found same. let one = table-named (table_at tables words 2) its found in
      fewer-words (said_words tables (said.Stale (stale.Table one.0) (tagged_u64_at words 3))) words refl refl
      (ap (λ (other : StaleRead). said_words tables (said.Stale other (tagged_u64_at words 3))) (sym one.1) ∙ same))
      (subst (λ (o : Option StaleRead). Picks tables told (stale_reply words 5 o)) (sym is) (inl (ap (said.Stale (stale.Range table low high)) (u64_read n small))))))

  -- A stale commit is read back in a transaction.
  stale-read : (what : StaleRead) (n : ℕ) → IsStaleRead what × (n < 2 ^ 64) → IsNamed tables (stale_table what) → IsRead tables true command.Commit (said.Stale what n)
  unfolding tail_of
  stale-read (stale.Key table key) n h named =
      let words = said_words tables (said.Stale (stale.Key table key) n) in
      record { is_said = stale-said (stale.Key table key) n; picks = λ rest. inr (nothing-said, refl, refl, inr (committed-said (u64_at words 1), refl, refl, stale-picks (stale.Key table key) n h.0 h.1 named)) }
  stale-read (stale.Table table) n h named =
      let words = said_words tables (said.Stale (stale.Table table) n) in
      record { is_said = stale-said (stale.Table table) n; picks = λ rest. inr (nothing-said, refl, refl, inr (committed-said (u64_at words 1), refl, refl, stale-picks (stale.Table table) n h.0 h.1 named)) }
  stale-read (stale.Range table low high) n h named =
      let words = said_words tables (said.Stale (stale.Range table low high) n) in
      record { is_said = stale-said (stale.Range table low high) n; picks = λ rest. inr (nothing-said, refl, refl, inr (committed-said (u64_at words 1), refl, refl, stale-picks (stale.Range table low high) n h.0 h.1 named)) }

  -- A reply to a commit is read back in a transaction.
  commit-read : (told : Said) → IsCommitReply told → StaleFits tables told → IsRead tables true command.Commit told
  unfolding tail_of
  commit-read (said.Stale what n) h fit = stale-read what n h fit
  commit-read (said.Committed None) h fit = record { is_said = nothing-said; picks = λ rest. inl refl }
  commit-read (said.Committed (Some n)) small fit = record {
    is_said = committed-said n;
    picks = λ rest. inr (nothing-said, refl, no-dash (decimal n) (decimal_begins n small), inl (ap (λ (m : ℕ). said.Committed (Some m)) (u64_read n small)));
  }
  commit-read _ h fit = absurd h

  -- ---- writes

  -- An insert's replies are read back where the insert is due.
  insert-read : (table : ℕ) (row : List Cell) (told : Said) → IsInsertReply told → IsRead tables true (command.Insert table row) told
  unfolding tail_of
  insert-read table row said.Accepted h = record { is_said = ok-said; picks = λ rest. inl refl }
  insert-read table row said.Exists h = record { is_said = exists-said; picks = λ rest. inr (ok-said, refl, refl, inl refl) }
  insert-read table row said.Full h = record { is_said = full-said; picks = λ rest. inr (ok-said, refl, refl, inr (exists-said, refl, refl, inl refl)) }
  insert-read table row said.Memory h = record { is_said = memory-said; picks = λ rest. inr (ok-said, refl, refl, inr (exists-said, refl, refl, inr (full-said, refl, refl, inl refl))) }
  insert-read table row (said.ConflictSession n) small = record {
    is_said = session-said n;
    picks = λ rest. inr (ok-said, refl, refl, inr (exists-said, refl, refl, inr (full-said, refl, refl, inr (memory-said, refl, refl, inl (ap said.ConflictSession (u32_read n small))))));
  }
  insert-read table row (said.ConflictCommit n) small = record {
    is_said = commit-said n;
    picks = λ rest. inr (ok-said, refl, refl, inr (exists-said, refl, refl, inr (full-said, refl, refl, inr (memory-said, refl, refl, inr (session-said (u32_at (said_words tables (said.ConflictCommit n)) 2), refl, refl, inl (ap said.ConflictCommit (u64_read n small)))))));
  }
  insert-read table row _ h = absurd h

  -- The block and the stamp of a freezing block are read back from its words.
  freezing-is : (table of b g : ℕ) → (of ≡ table) × (b < 2 ^ 32) × (g < 2 ^ 32) → said.Freezing table (u32_at (said_words tables (said.Freezing of b g)) 2) (u32_at (said_words tables (said.Freezing of b g)) 3) ≡ said.Freezing of b g
  freezing-is table of b g h =
      let block : u32_at (said_words tables (said.Freezing of b g)) 2 ≡ b = u32_read b h.1 in
      let stamp : u32_at (said_words tables (said.Freezing of b g)) 3 ≡ g = u32_read g h.2 in
      ap (λ (x : ℕ). said.Freezing table x (u32_at (said_words tables (said.Freezing of b g)) 3)) block ∙ ap (said.Freezing table b) stamp ∙ ap (λ (t : ℕ). said.Freezing t b g) (sym h.0)

  -- What is told of an update or a delete is of words, and is picked.
  change-picks : (table : ℕ) (told : Said) → IsChangeReply table told → IsSaid tables told × Picks tables told (change_replies table (said_words tables told))
  unfolding tail_of
  change-picks table said.Accepted h = (ok-said, inl refl)
  change-picks table said.Missing h = (missing-said, inr (ok-said, refl, refl, inl refl))
  change-picks table said.Memory h = (memory-said, inr (ok-said, refl, refl, inr (missing-said, refl, refl, inl refl)))
  change-picks table (said.Freezing of b g) h =
      (freezing-said of b g, inr (ok-said, refl, refl, inr (missing-said, refl, refl, inr (memory-said, refl, refl, inl (freezing-is table of b g h)))))
  change-picks table (said.ConflictSession n) small =
      (session-said n, inr (ok-said, refl, refl, inr (missing-said, refl, refl, inr (memory-said, refl, refl, inr (freezing-said table (u32_at (said_words tables (said.ConflictSession n)) 2) (u32_at (said_words tables (said.ConflictSession n)) 3), refl, refl, inl (ap said.ConflictSession (u32_read n small)))))))
  change-picks table (said.ConflictCommit n) small =
      (commit-said n, inr (ok-said, refl, refl, inr (missing-said, refl, refl, inr (memory-said, refl, refl, inr (freezing-said table (u32_at (said_words tables (said.ConflictCommit n)) 2) (u32_at (said_words tables (said.ConflictCommit n)) 3), refl, refl, inr (session-said (u32_at (said_words tables (said.ConflictCommit n)) 2), refl, refl, inl (ap said.ConflictCommit (u64_read n small))))))))
  change-picks table _ h = absurd h

  -- ---- reads

  -- The line of a row that is found is of words where its cells are.
  found-said : (row : List Cell) → AreWords (cell_words row) → IsSaid tables (said.Found row)
  found-said row h = record { first = codes "row"; others = cell_words row; words = refl; read = (a-word (codes "row") refl, h); behind = tt }

  -- The line of no row is not that of a row.
  none-other : (row : List Cell) → bytes_eq (tail_of tables said.Absent) (tail_of tables (said.Found row)) ≡ false
  unfolding tail_of
  none-other [] = refl
  none-other (cell ∷ row) = refl

  -- The line of refused memory is not that of a row.
  memory-other : (row : List Cell) → bytes_eq (tail_of tables said.Memory) (tail_of tables (said.Found row)) ≡ false
  unfolding tail_of
  memory-other [] = refl
  memory-other (cell ∷ row) = refl

  -- A row that is read and has the key is the one that may be told.
  row-by : (columns : List Column) (key : ℤ) (words : List (List ℕ)) (row : List Cell) → row_of columns words ≡ Some row → int_eq (key_of row) key ≡ true
      → option_map_or (λ r. cond (int_eq (key_of r) key) (said.Found r ∷ []) []) (row_of columns words) [] ≡ said.Found row ∷ []
  row-by columns key words row e g = rw (e, g) refl

  -- A reply to a get is read back in a transaction.
  get-read : (table : ℕ) (key : ℤ) (told : Said) → IsGetReply told → GotFits (columns_at tables table) key told → IsRead tables true (command.Get table key) told
  unfolding tail_of
  get-read table key (said.Found row) h fit =
      let read = row_back (columns_at tables table) row fit.0 in
      record {
        is_said = found-said row read.words;
        picks = λ rest. subst (λ (rows : List Said). Picks tables (said.Found row) (said.Absent ∷ said.Memory ∷ rows))
            (sym (row-by (columns_at tables table) key (cell_words row) row read.back fit.1))
            (inr (absent-said, refl, none-other row, inr (memory-said, refl, memory-other row, inl refl)));
      }
  get-read table key said.Absent h fit = record { is_said = absent-said; picks = λ rest. inl refl }
  get-read table key said.Memory h fit = record { is_said = memory-said; picks = λ rest. inr (absent-said, refl, refl, inl refl) }
  get-read table key _ h fit = absurd h

  -- The line of a row whose cells are words has no line end in it.
  row-line-whole : (row : List Cell) → AreWords (cell_words row) → is_whole (row_line row) ≡ true
  row-line-whole row h = words_whole (codes "|" ∷ cell_words row) (a-word (codes "|") refl, h)

  -- The lines of rows that rise have no line end in them.
  lines-whole : (columns : List Column) (key : Option ℤ) (rows : List (List Cell)) → RowsRise columns key rows → AreUnbroken (map row_line rows)
  lines-whole columns key [] h = tt
  lines-whole columns key (row ∷ rows) h = (row-line-whole row (row_back columns row h.0).words, lines-whole columns (Some (key_of row)) rows h.2)

  -- the row of its line
  line-back : (columns : List Column) (row : List Cell) → fits columns row ≡ true → row_at columns (row_line row ++ 10 ∷ []) ≡ Some row
  line-back columns row fit =
      let read = row_back columns row fit in
      let same : bytes_eq (row_line row ++ 10 ∷ []) (row_line row ++ 10 ∷ []) ≡ true = (bytes_eq-Decides (row_line row ++ 10 ∷ []) (row_line row ++ 10 ∷ [])).1 refl in
      ap (λ (words : List (List ℕ)). option_and_then (λ r. cond (bytes_eq (row_line r ++ 10 ∷ []) (row_line row ++ 10 ∷ [])) (Some r) None) (row_of columns (drop 1 words)))
      (words_of_line (codes "|") (cell_words row) (a-word (codes "|") refl, read.words))
      ∙ ap (option_and_then (λ r. cond (bytes_eq (row_line r ++ 10 ∷ []) (row_line row ++ 10 ∷ [])) (Some r) None)) read.back
      ∙ ap (λ (b : Bool). cond b (Some row) None) same

  -- A row that is read from its line, and is above, goes before the others.
  above-step : (columns : List Column) (key : Option ℤ) (row : List Cell) (line : List ℕ) (lines : List (List ℕ)) (more : List (List Cell)) → row_at columns line ≡ Some row
      → option_map_or (λ below. int_lt below (key_of row)) key true ≡ true → rows_above columns (Some (key_of row)) lines ≡ more → rows_above columns key (line ∷ lines) ≡ row ∷ more
  above-step columns key row line lines more is rises rest =
      row-chosen (row_at columns line) row (λ r. option_map_or (λ below. int_lt below (key_of r)) key true) (λ r. rows_above columns (Some (key_of r)) lines) more is rises rest

  -- Rows that rise are read back from their lines, whatever follows.
  rows-back : (columns : List Column) (key : Option ℤ) (rows : List (List Cell)) (rest : List (List ℕ)) → RowsRise columns key rows
      → rows_above columns key (take (length rows) (ended (map row_line rows) ++ rest)) ≡ rows
  rows-back columns key [] rest h = refl
  rows-back columns key (row ∷ rows) rest h =
      above-step columns key row (row_line row ++ 10 ∷ []) (take (length rows) (ended (map row_line rows) ++ rest)) rows (line-back columns row h.0) h.1
      (rows-back columns (Some (key_of row)) rows rest h.2)

  -- A reply to a scan is read back in a transaction.
  scan-read : (table : ℕ) (told : Said) → IsScanReply told → ScannedFits (columns_at tables table) told → IsRead tables true (command.Scan table) told
  unfolding tail_of
  scan-read table (said.Scanned rows) h fit =
      let columns = columns_at tables table in
      let count : u64_at (said_words tables (said.Scanned rows)) 1 ≡ length rows = u64_read (length rows) h in
      record {
        is_said = record {
          first = codes "rows";
          others = decimal (length rows) ∷ [];
          words = refl;
          read = plain-words (codes "rows" ∷ decimal (length rows) ∷ []) (refl, (plain_decimal (length rows), tt));
          behind = lines-whole columns None rows fit;
        };
        picks = λ rest. inr (
          memory-said,
          refl,
          refl,
          inl (ap said.Scanned
              (ap (λ (n : ℕ). rows_above columns None (take n (ended (map row_line rows) ++ rest))) count ∙ rows-back columns None rows rest fit)),
        );
      }
  scan-read table said.Memory h fit = record { is_said = memory-said; picks = λ rest. inl refl }
  scan-read table _ h fit = absurd h

  -- A reply to a range is read back as one to a scan.
  range-read : (table : ℕ) (low high : ℤ) (told : Said) → IsScanReply told → ScannedFits (columns_at tables table) told → IsRead tables true (command.Range table low high) told
  range-read table low high told h fit = let read = scan-read table told h fit in record { is_said = read.is_said; picks = read.picks }

  -- A total that is read back is the one that may be told.
  total-by : (count back_count : ℕ) (sum back : ℤ) → back_count ≡ count → back ≡ sum → is_between (negsuc (2 ^ 127 - 1)) (pos (2 ^ 127 - 1)) sum ≡ true
      → cond (is_between (negsuc (2 ^ 127 - 1)) (pos (2 ^ 127 - 1)) back) (said.Totalled back_count back ∷ []) [] ≡ said.Totalled count sum ∷ []
  total-by count back_count sum back is_count is_sum fits =
      ap (λ (z : ℤ). cond (is_between (negsuc (2 ^ 127 - 1)) (pos (2 ^ 127 - 1)) z) (said.Totalled back_count z ∷ []) []) is_sum
      ∙ ap (λ (b : Bool). cond b (said.Totalled back_count sum ∷ []) []) fits ∙ ap (λ (n : ℕ). said.Totalled n sum ∷ []) is_count

  -- A reply to a total is read back in a transaction.
  total-read : (table column : ℕ) (low high : ℤ) (told : Said) → IsTotalReply told → IsRead tables true (command.Total table column low high) told
  unfolding tail_of
  total-read table column low high (said.Totalled count sum) h =
      let words = said_words tables (said.Totalled count sum) in
      record {
        is_said = total-said count sum;
        picks = λ rest. subst (λ (others : List Said). Picks tables (said.Totalled count sum) (said.Memory ∷ others))
            (sym (total-by count (u64_at words 1) sum (integer_at words 2) (u64_read count h.0) (sum_read sum h.1) h.1))
            (inr (memory-said, refl, refl, inl refl));
      }
  total-read table column low high said.Memory h = record { is_said = memory-said; picks = λ rest. inl refl }
  total-read table column low high _ h = absurd h

  -- ---- upkeep

  -- A reply to an observe is read back.
  observe-read : (told : Said) (within : Bool) → IsObserveReply told → IsRead tables true command.Observe told
  observe-read (said.Cooling n) within small = record { is_said = cooling-said n; picks = λ rest. inl (ap said.Cooling (u64_read n small)) }
  observe-read _ within h = absurd h

  -- A reply to a pruning is read back.
  prune-read : (told : Said) → IsPruneReply told → IsRead tables true command.Prune told
  prune-read (said.Pruned n) small = record { is_said = pruned-said n; picks = λ rest. inl (ap said.Pruned (u64_read n small)) }
  prune-read _ h = absurd h

  -- A reply to a compaction is read back.
  compact-read : (table : ℕ) (told : Said) → IsCompactReply told → IsRead tables true (command.Compact table) told
  unfolding tail_of
  compact-read table (said.Moved n) small = record { is_said = moved-said n; picks = λ rest. inl (ap said.Moved (u64_read n small)) }
  compact-read table said.Memory h = record { is_said = memory-said; picks = λ rest. inr (moved-said (u64_at (said_words tables said.Memory) 1), refl, refl, inl refl) }
  compact-read table _ h = absurd h

  -- The line of a block not sealed for its phase is of words.
  phase-said : IsSaid tables (said.NotSealed Phase)
  phase-said = plainly tables (said.NotSealed Phase) (codes "not") (codes "sealed" ∷ codes "phase" ∷ []) refl (refl, (refl, (refl, tt))) refl

  -- The line of a block not sealed as the head is of words.
  head-said : IsSaid tables (said.NotSealed Head)
  head-said = plainly tables (said.NotSealed Head) (codes "not") (codes "sealed" ∷ codes "head" ∷ []) refl (refl, (refl, (refl, tt))) refl

  -- The line of a block not sealed as it is empty is of words.
  empty-said : IsSaid tables (said.NotSealed Empty)
  empty-said = plainly tables (said.NotSealed Empty) (codes "not") (codes "sealed" ∷ codes "empty" ∷ []) refl (refl, (refl, (refl, tt))) refl

  -- The line of a block not sealed for its gaps is of words.
  gaps-said : IsSaid tables (said.NotSealed Gaps)
  gaps-said = plainly tables (said.NotSealed Gaps) (codes "not") (codes "sealed" ∷ codes "gaps" ∷ []) refl (refl, (refl, (refl, tt))) refl

  -- The line of a block not sealed for its versions is of words.
  versions-said : IsSaid tables (said.NotSealed Versions)
  versions-said = plainly tables (said.NotSealed Versions) (codes "not") (codes "sealed" ∷ codes "versions" ∷ []) refl (refl, (refl, (refl, tt))) refl

  -- The line of a block not sealed as it is hot is of words.
  hot-said : IsSaid tables (said.NotSealed Hot)
  hot-said = plainly tables (said.NotSealed Hot) (codes "not") (codes "sealed" ∷ codes "hot" ∷ []) refl (refl, (refl, (refl, tt))) refl

  -- The line of a block not sealed as the last is of words.
  last-said : IsSaid tables (said.NotSealed Last)
  last-said = plainly tables (said.NotSealed Last) (codes "not") (codes "sealed" ∷ codes "last" ∷ []) refl (refl, (refl, (refl, tt))) refl

  -- A reply to a seal is read back.
  seal-read : (table block : ℕ) (told : Said) → IsSealReply table block told → IsRead tables true (command.Seal table block) told
  unfolding tail_of
  seal-read table block (said.Sealed of at g) h = record {
    is_said = sealed-said of at g;
    picks = λ rest. inl (ap (said.Sealed table block) (u32_read g h.2) ∙ ap (λ (t : ℕ). said.Sealed t block g) (sym h.0) ∙ ap (λ (b : ℕ). said.Sealed of b g) (sym h.1));
  }
  seal-read table block (said.NotSealed Phase) h = record { is_said = phase-said; picks = λ rest. inr (sealed-said table block (u32_at (said_words tables (said.NotSealed Phase)) 3), refl, refl, inl refl) }
  seal-read table block (said.NotSealed Head) h = record { is_said = head-said; picks = λ rest. inr (sealed-said table block (u32_at (said_words tables (said.NotSealed Head)) 3), refl, refl, inr (phase-said, refl, refl, inl refl)) }
  seal-read table block (said.NotSealed Empty) h = record { is_said = empty-said; picks = λ rest. inr (sealed-said table block (u32_at (said_words tables (said.NotSealed Empty)) 3), refl, refl, inr (phase-said, refl, refl, inr (head-said, refl, refl, inl refl))) }
  seal-read table block (said.NotSealed Gaps) h = record { is_said = gaps-said; picks = λ rest. inr (sealed-said table block (u32_at (said_words tables (said.NotSealed Gaps)) 3), refl, refl, inr (phase-said, refl, refl, inr (head-said, refl, refl, inr (empty-said, refl, refl, inl refl)))) }
  seal-read table block (said.NotSealed Versions) h = record { is_said = versions-said; picks = λ rest. inr (sealed-said table block (u32_at (said_words tables (said.NotSealed Versions)) 3), refl, refl, inr (phase-said, refl, refl, inr (head-said, refl, refl, inr (empty-said, refl, refl, inr (gaps-said, refl, refl, inl refl))))) }
  seal-read table block (said.NotSealed Hot) h = record { is_said = hot-said; picks = λ rest. inr (sealed-said table block (u32_at (said_words tables (said.NotSealed Hot)) 3), refl, refl, inr (phase-said, refl, refl, inr (head-said, refl, refl, inr (empty-said, refl, refl, inr (gaps-said, refl, refl, inr (versions-said, refl, refl, inl refl)))))) }
  seal-read table block (said.NotSealed Last) h = record { is_said = last-said; picks = λ rest. inr (sealed-said table block (u32_at (said_words tables (said.NotSealed Last)) 3), refl, refl, inr (phase-said, refl, refl, inr (head-said, refl, refl, inr (empty-said, refl, refl, inr (gaps-said, refl, refl, inr (versions-said, refl, refl, inr (hot-said, refl, refl, inl refl))))))) }
  seal-read table block _ h = absurd h

  -- A reply to a gathering is read back.
  gather-read : (table block : ℕ) (told : Said) → IsGatherReply table block told → IsRead tables true (command.Gather table block) told
  unfolding tail_of
  gather-read table block (said.Frozen of at r) h = record {
    is_said = frozen-said of at r;
    picks = λ rest. inl (ap (said.Frozen table block) (u32_read r h.2) ∙ ap (λ (t : ℕ). said.Frozen t block r) (sym h.0) ∙ ap (λ (b : ℕ). said.Frozen of b r) (sym h.1));
  }
  gather-read table block said.NotFrozen h = record { is_said = idle-said; picks = λ rest. inr (frozen-said table block (u32_at (said_words tables said.NotFrozen) 3), refl, refl, inl refl) }
  gather-read table block said.Memory h = record { is_said = memory-said; picks = λ rest. inr (frozen-said table block (u32_at (said_words tables said.Memory) 3), refl, refl, inr (idle-said, refl, refl, inl refl)) }
  gather-read table block _ h = absurd h

  -- ---- exports

  -- A key that is read back as itself is what an export may be refused for.
  dirty-by : (key back : ℤ) → back ≡ key → is_integer_of kind.I64 key ≡ true → dirty_replies back ≡ said.Dirty key ∷ []
  dirty-by key back e small = subst (λ (k : ℤ). dirty_replies k ≡ said.Dirty key ∷ []) (sym e) (rw small refl)

  -- A reply to an export is read back in a transaction.
  export-read : (table : ℕ) (told : Said) → IsExportReply told → IsRead tables true (command.Export table) told
  unfolding tail_of
  export-read table (said.Exported n r b f) h =
      let e = u64_read n h.0 in
      let g = u64_read r h.1 in
      let i = u32_read b h.2 in
      let j = u32_read f h.3 in
      record { is_said = export-said n r b f; picks = λ rest. inl cc }
  export-read table (said.Dirty key) small = record {
    is_said = dirty-said key;
    picks = λ rest. subst (λ (others : List Said). Picks tables (said.Dirty key) (said.Exported (u64_at (said_words tables (said.Dirty key)) 1) (u64_at (said_words tables (said.Dirty key)) 3) (u32_at (said_words tables (said.Dirty key)) 5) (u32_at (said_words tables (said.Dirty key)) 7) ∷ said.Memory ∷ others))
        (sym (dirty-by key (integer_at (said_words tables (said.Dirty key)) 1) (key_read key small) small))
        (inr (export-said (u64_at (said_words tables (said.Dirty key)) 1) (u64_at (said_words tables (said.Dirty key)) 3) (u32_at (said_words tables (said.Dirty key)) 5) (u32_at (said_words tables (said.Dirty key)) 7), refl, refl, inr (memory-said, refl, refl, inl refl)));
  }
  export-read table said.Memory h = record { is_said = memory-said; picks = λ rest. inr (export-said (u64_at (said_words tables said.Memory) 1) (u64_at (said_words tables said.Memory) 3) (u32_at (said_words tables said.Memory) 5) (u32_at (said_words tables said.Memory) 7), refl, refl, inl refl) }
  export-read table _ h = absurd h

  -- ---- each reply

  -- What upkeep tells is read back without a transaction as in one.
  again : (asked : Command) (told : Said) → is_upkeep asked ≡ true → IsRead tables true asked told → IsRead tables false asked told
  again asked told up h = record {
    is_said = h.is_said;
    picks = λ rest. subst (λ (b : Bool). Picks tables told (cond b (replies_within tables (said_words tables told) (ended (lines_behind told) ++ rest) asked) (replies_without (said_words tables told) asked))) (sym up) (h.picks rest);
  }

  -- Each reply that may stand in a transaction is read back.
  within-read : (asked : Command) (told : Said) → IsReplyWithin asked told → RowsFit tables asked told → IsRead tables true asked told
  within-read (command.Begin checked) told is fit = subst (IsRead tables true (command.Begin checked)) (sym is) (record { is_said = in-said; picks = λ rest. inl refl })
  within-read (command.Get table key) told h fit = get-read table key told h fit
  within-read (command.Scan table) told h fit = scan-read table told h fit
  within-read (command.Range table low high) told h fit = range-read table low high told h fit
  within-read (command.Total table column low high) told h fit = total-read table column low high told h
  within-read (command.Insert table row) told h fit = insert-read table row told h
  within-read (command.Update table row) told h fit = let read = change-picks table told h in record { is_said = read.0; picks = λ rest. read.1 }
  within-read (command.Delete table key) told h fit = let read = change-picks table told h in record { is_said = read.0; picks = λ rest. read.1 }
  within-read command.Commit told h fit = commit-read told h fit
  within-read command.Abort told is fit = subst (IsRead tables true command.Abort) (sym is) (record { is_said = aborted-said; picks = λ rest. inl refl })
  within-read command.Observe told h fit = observe-read told true h
  within-read command.Prune told h fit = prune-read told h
  within-read (command.Compact table) told h fit = compact-read table told h
  within-read (command.Seal table block) told h fit = seal-read table block told h
  within-read (command.Gather table block) told h fit = gather-read table block told h
  within-read (command.Export table) told h fit = export-read table told h

  -- A reply that may stand where it is due is read back.
  pub reply-back : (within : Bool) (asked : Command) (told : Said) → IsReply within asked told → RowsFit tables asked told → IsRead tables within asked told
  reply-back true asked told h fit = within-read asked told h fit
  reply-back false (command.Begin checked) told h fit = begin-read checked told h
  reply-back false command.Observe told h fit = again command.Observe told refl (within-read command.Observe told h fit)
  reply-back false command.Prune told h fit = again command.Prune told refl (within-read command.Prune told h fit)
  reply-back false (command.Compact table) told h fit = again (command.Compact table) told refl (within-read (command.Compact table) told h fit)
  reply-back false (command.Seal table block) told h fit = again (command.Seal table block) told refl (within-read (command.Seal table block) told h fit)
  reply-back false (command.Gather table block) told h fit = again (command.Gather table block) told refl (within-read (command.Gather table block) told h fit)
  reply-back false asked told h fit = without-read asked told (λ words behind. refl) h
