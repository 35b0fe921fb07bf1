-- The reply to a session's command, by what the next line says.
use Rattle.std.proofs.Common.{◌≡◌, ℕ, ◌+◌, ◌-◌, ◌^◌, ◌<◌, ◌≤◌, Bool, true, false, ◌||◌, List, [], ◌∷◌, ◌++◌, length, drop, take, map, Option, None, Some, Err, refl, sym, ap, ◌∙◌, subst, arith}
use Rattle.std.specs.Prelude.{◌==◌}
use Rattle.std.specs.List.{list_all}
use Rattle.std.specs.Option.{option_map_or}
use Rattle.std.proofs.lemmas.Bool.{and_from, and_parts, eq-eqb, lt-ltb}
use Rattle.cell_model.specs.declared.table.TableDecl.{TableDecl}
use Rattle.std.specs.Prelude.{codes}
use Rattle.std.proofs.lemmas.List.{length-map, length_push, take_at}
use Rattle.std.proofs.Common.{length-append}
use Rattle.std.proofs.lemmas.Option.{same_Some}
use Rattle.cell_model.specs.declared.cell.Cell.{Cell}
use Rattle.cell_model.specs.declared.column.Column.{Column}
use Rattle.cell_model.specs.Rows.{fits}
use Rattle.workload_spec.specs.Reading.{parts}
use Rattle.workload_spec.specs.ReplyText.{row_line}
use Rattle.workload_spec.specs.Words.{lines_text, spaced}
use Rattle.workload_laws.proofs.Apart.{plain_word}
use Rattle.outcome_spec.specs.Lines.{lines_of}
use Rattle.reply_text.specs.Readers.{◌>>=◌, behind as behind_front, u64_in, scanned_in, told_in}
use Rattle.reply_text.specs.Shown.{is_row}
use Rattle.reply_text.proofs.PieceLemmas.{step, where_is}
use Rattle.reply_text.proofs.RowsBack.{lines_back, row_whole}
use Rattle.timeline_laws.proofs.Lines.{AreUnbroken, dropped, ended, lines-of}
use Rattle.output_read.specs.declared.kept.Told.{Told}
use Rattle.output_read.specs.Fronts.{words_at, words_behind}
use Rattle.output_read.specs.Rows.{AreAbove}
use Rattle.output_read.proofs.Fitting.{row_fits}
use Rattle.output_read.proofs.Names.{place-columns}
use Rattle.output_read.proofs.Scans.{rows-few, scan-is, scan-whole, scan_words}
use Rattle.output_read.proofs.Texts.{said-line, words-line}
use Rattle.workload_spec.specs.declared.command.Command.{Command}
use Rattle.workload_spec.specs.declared.command.Command.TheVariants as command
use Rattle.workload_spec.specs.declared.reply.Who.{Who}
use Rattle.workload_spec.specs.declared.reply.Who.TheVariants.{Session}
use Rattle.workload_spec.specs.declared.reply.Said.{Said}
use Rattle.workload_spec.specs.declared.reply.Said.TheVariants as said
use Rattle.workload_spec.specs.Valid.{is_command, is_table_place}
use Rattle.outcome_spec.specs.Entries.{Entry, is_same}
use Rattle.outcome_spec.specs.Reading.{words_in, rows_above}
use Rattle.outcome_spec.specs.Tables.{columns_at}
use Rattle.outcome_spec.specs.Forms.{Due, entry_behind, line_count, lines_begun, lines_of_scan, next_line, reply_at, is_within, is_upkeep, scanned_by, within_behind}
use Rattle.reply_text.specs.Shown.{are_tables}
use Rattle.timeline_laws.proofs.ReadBack.{NamesPlain}
use Rattle.output_read.specs.declared.kept.KeptReply.{KeptReply}
use Rattle.output_read.specs.declared.reader.Reader.{Reader}
use Rattle.output_read.specs.declared.sessions.Thread.{Thread}
use Rattle.output_read.specs.Answers.{answers}
use Rattle.output_read.specs.Fronts.{said_at, said_first, count_at, count_first, is_single}
use Rattle.output_read.specs.Kept.{entry_of, is_told, said_of}
use Rattle.output_read.specs.Readers.{IsReading, FailsAt, read_by, lines_left, is_of, next_index}
use Rattle.output_read.specs.Threads.{IsThread, NoCount, ThreadGoes, session_due}
use Rattle.output_read.proofs.Fitting.{never}
use Rattle.output_read.proofs.Keys.{absurdly, who-same, said_there, may, next, IsNarrow, matches, misses, alone}
use Rattle.output_read.proofs.Scans.{AsksRows, asks-scan, asks-range, scan-misses, scan-unbegun, scan-matches, scan-begun, rows_of}
use Rattle.output_read.proofs.Names.{names-plain, tables-valid, command-listed, IsNoScan}
use Rattle.output_read.proofs.Keeping.{Kept, read-more, still-reading, passes, fails-anew, fails-at, fails-end, next-index, within-more, index-few}

-- ---- the first of lines

-- a line that says something
pub record Line (T : List TableDecl) (round : ℕ) (who : Who) (index : ℕ) (lines : List (List ℕ)) (told : Said) : Type 0 where
  pub line : List ℕ
  pub behind : List (List ℕ)
  pub is : lines ≡ line ∷ behind
  pub says : said_at T round who index line ≡ Some told

-- where the first of lines says something, there is a line that says it
pub line-of : (T : List TableDecl) (round : ℕ) (who : Who) (index : ℕ) (lines : List (List ℕ)) (told : Said) → Some told ≡ said_first T round who index lines → Line T round who index lines told
line-of T round who index [] told h = absurd (absurdly h)
line-of T round who index (line ∷ behind) told h = record { line = line; behind = behind; is = refl; says = sym h }

-- a command that asks for no rows in a transaction
no-scan : (within : Bool) (asked : Command) → scanned_by within asked ≡ None → (within || is_upkeep asked) ≡ true → IsNoScan asked
no-scan true (command.Scan table) h up = absurd (absurdly h)
no-scan false (command.Scan table) h up = absurd (never up)
no-scan true (command.Range table low high) h up = absurd (absurdly h)
no-scan false (command.Range table low high) h up = absurd (never up)
no-scan within _ h up = tt

-- a line that says how many rows follow it
pub record CountLine (round : ℕ) (who : Who) (index : ℕ) (lines : List (List ℕ)) (count : ℕ) : Type 0 where
  pub line : List ℕ
  pub behind : List (List ℕ)
  pub is : lines ≡ line ∷ behind
  pub counts : count_at round who index line ≡ Some count

-- where the first of lines says a count of rows, there is a line that says it
pub count-of : (round : ℕ) (who : Who) (index : ℕ) (lines : List (List ℕ)) (count : ℕ) → Some count ≡ count_first round who index lines → CountLine round who index lines count
count-of round who index [] count h = absurd (absurdly h)
count-of round who index (line ∷ behind) count h = record { line = line; behind = behind; is = refl; counts = sym h }

-- the columns of a table
pub columns-is : (T : List TableDecl) (table : ℕ) (d : TableDecl) → is_table_place T table ≡ true → columns_at T table ≡ (Rattle.std.specs.List.slice_index_or T table d).schema
columns-is [] table d h = absurd (never h)
columns-is (decl ∷ T) Rattle.std.proofs.Common.zero d h = refl
columns-is (decl ∷ T) (Rattle.std.proofs.Common.suc table) d h = columns-is T table d h

-- a command that asks for rows of a table
pub record Scans (within : Bool) (asked : Command) (table : ℕ) : Type 0 where
  pub is_within : within ≡ true
  pub asks : AsksRows table asked

-- rows are asked for only by a scan or a range in a transaction
pub scans : (within : Bool) (asked : Command) (table : ℕ) → scanned_by within asked ≡ Some table → Scans within asked table
scans true (command.Scan of) table h = record { is_within = refl; asks = subst (λ (t : ℕ). AsksRows t (command.Scan of)) (same_Some of table h) (asks-scan of) }
scans false (command.Scan of) table h = absurd (absurdly (sym h))
scans true (command.Range of low high) table h = record { is_within = refl; asks = subst (λ (t : ℕ). AsksRows t (command.Range of low high)) (same_Some of table h) (asks-range of low high) }
scans false (command.Range of low high) table h = absurd (absurdly (sym h))
scans within _ table h = absurd (absurdly (sym h))

module _ (old : Reader) (thread : Thread) (asked : Command) (are : are_tables old.tables.now ≡ true) (reading : IsReading old) (is_thread : IsThread thread (read_by old)) (valid : is_command old.tables.now asked ≡ true) where
  -- The tables of the reader in front of the reply.
  abbrev T : List TableDecl
  T = old.tables.now

  -- The replies that were read in front of the reply.
  abbrev E : List Entry
  E = read_by old

  -- What is due to the session, which is the command of its line.
  abbrev due : Due
  due = session_due thread asked

  -- The session of the thread, as whom a reply answers.
  abbrev who : Who
  who = Session thread.session

  -- The index of the session's next reply in the round.
  abbrev heading : ℕ
  heading = thread.index + 1

  -- the names of the reader's tables are plain words
  pub plain : NamesPlain T
  plain = names-plain T (tables-valid T are)

  -- The session's next index by the replies that were read fits 64 bits.
  few-index : next_index thread.round who E < 2 ^ 64
  few-index = let a = index-few old thread.round who reading in let b = reading.room in omega (arith, a, b)

  -- the next index fits 64 bits
  pub heading-small : heading < 2 ^ 64
  heading-small = let a = few-index in let b = is_thread.index in omega (arith, a, b)

  -- the next index is not above the number of the line
  pub heading-low : heading ≤ old.line
  heading-low = let a = index-few old thread.round who reading in let b = is_thread.index in omega (arith, a, b)

  -- The numbers of what is due to the session have their widths.
  narrow-of : (d : Command) → IsNarrow T are E (session_due thread d)
  narrow-of d = record { round = lt-ltb thread.round (2 ^ 32) is_thread.round; who = lt-ltb thread.session (2 ^ 32) is_thread.session; index = lt-ltb (next T are E (session_due thread d)) (2 ^ 64) few-index }

  -- What a line says at the thread's next index it says as the reply that is due.
  said-there : (line : List ℕ) (told : Said) → said_at T thread.round who heading line ≡ Some told → said_there T are E due line ≡ Some told
  said-there line told h = ap (λ (n : ℕ). said_at T thread.round who n line) (sym is_thread.index) ∙ h

  -- What a line says as the reply that is due it says at the thread's next index.
  said-here : (line : List ℕ) (told : Said) → said_there T are E due line ≡ Some told → said_at T thread.round who heading line ≡ Some told
  said-here line told h = ap (λ (n : ℕ). said_at T thread.round who n line) is_thread.index ∙ h

  -- What may be said is what answers the command by the thread's flag.
  may-is : (told : Said) → may T are E due told ≡ answers T thread.within asked told
  may-is told = ap (λ (b : Bool). answers T b asked told) (sym is_thread.within)

  -- What table the command scans is the same by the thread's flag and by the replies.
  scanned-is : (o : Option ℕ) → scanned_by thread.within asked ≡ o → scanned_by (is_within who E) asked ≡ o
  scanned-is o h = ap (λ (b : Bool). scanned_by b asked) (sym is_thread.within) ∙ h

  -- ---- it is read

  -- the reply is found
  pub single-found : (line : List ℕ) (behind : List (List ℕ)) (told : Said) → said_at T thread.round who heading line ≡ Some told → answers T thread.within asked told ≡ true
      → reply_at T E due line behind ≡ Some (entry_behind T E due told)
  single-found line behind told says can = matches T are E due plain line behind told (said-there line told says) (may-is told ∙ can)

  -- what was kept is the reply
  pub kept-entry : (kept : KeptReply) (told : Said) → kept ≡ record { number = old.line; command = kept.command; round = thread.round; who = who; index = heading; told = kept.told } → option_map_or (λ c. c.now) kept.command command.Observe ≡ asked
      → said_of kept.told ≡ told → entry_of kept ≡ entry_behind T E due told
  kept-entry kept told is command_is said_is =
      ap entry_of is
      ∙ ap (λ (c : Command). record { number = old.line; command = c; reply = record { round = thread.round; who = who; index = heading; said = said_of kept.told } }) command_is
      ∙ ap (λ (s : Said). record { number = old.line; command = asked; reply = record { round = thread.round; who = who; index = heading; said = s } }) said_is
      ∙ ap (λ (n : ℕ). record { number = n; command = asked; reply = record { round = thread.round; who = who; index = heading; said = told } }) reading.line
      ∙ ap (λ (n : ℕ). record { number = next_line T E; command = asked; reply = record { round = thread.round; who = who; index = n; said = told } }) is_thread.index

  -- the thread behind it
  module _ (new : Reader) (kept : KeptReply) (n : ℕ) (k : Kept old new kept n) (told : Said) (told_ok : is_told kept.told ≡ true) (entry : entry_of kept ≡ entry_behind T E due told) (count : line_count T (entry_behind T E due told) ≡ n)
      (line : List ℕ) (behind : List (List ℕ)) (front : lines_left old ≡ line ∷ behind) (at : reply_at T E due line behind ≡ Some (entry_behind T E due told)) (within : Bool) (within_is : within ≡ within_behind thread.within told) where
    counted : line_count T (entry_of kept) ≡ n
    counted = ap (line_count T) entry ∙ count

    own : is_of thread.round who (entry_of kept) ≡ true
    own = ap (λ (e : Entry). is_of thread.round who e) entry ∙ and_from (thread.round == thread.round) (is_same who who) (eq-eqb thread.round thread.round refl) (who-same who)

    abbrev after : Thread
    after = record { round = thread.round; session = thread.session; index = heading; within = within }

    -- what was due was read: the reader behind it, and the session's thread
    pub goes : ThreadGoes old new thread after asked
    goes = record {
      reading = still-reading old new kept n k reading told_ok counted;
      thread_on = record {
        round = is_thread.round;
        session = is_thread.session;
        index = (let a = is_thread.index in let b = next-index thread.round who E (entry_of kept) own in
            let e : heading + 1 ≡ next_index thread.round who (E ++ entry_of kept ∷ []) = omega (arith, a, b) in e) ∙ ap (next_index thread.round who) (sym (read-more old new kept n k));
        within = within_is ∙ ap (λ (b : Bool). within_behind b told) is_thread.within
            ∙ ap (λ (e : Entry). within_behind (is_within who E) e.reply.said) (sym entry)
            ∙ sym (within-more who E (entry_of kept) (ap (λ (e : Entry). is_same e.reply.who who) entry ∙ who-same who))
            ∙ ap (is_within who) (sym (read-more old new kept n k));
      };
      round = refl;
      session = refl;
      passes = passes old new kept n k due told refl entry counted line behind front at;
      adds = record { entry = entry_of kept; is = read-more old new kept n k; own = own };
    }

  -- ---- it fails

  -- What fails no lines behind the reader's next line fails at that line.
  zero-fails : FailsAt old (due ∷ []) (old.line + 0) → FailsAt old (due ∷ []) old.line
  zero-fails h dues anew = h dues anew ∙ ap Err (let e : old.line + 0 ≡ old.line = omega arith in e)

  -- Where the command scans no table, no line of its reply is begun.
  unscanned-begun : (line : List ℕ) (behind : List (List ℕ)) → scanned_by thread.within asked ≡ None → lines_begun T E due line behind ≡ 0
  unscanned-begun line behind none =
      ap (λ (o : Option ℕ). option_map_or (lines_of_scan T (entry_behind T E due said.Memory).reply line behind) o 0) (scanned-is None none)

  -- the line says nothing that may be said
  pub single-fails : (lines : List (List ℕ)) → lines_left old ≡ lines → NoCount (scanned_by thread.within asked) (count_first thread.round who heading lines)
      → ((told : Said) → Some told ≡ said_first T thread.round who heading lines → answers T thread.within asked told ≡ true → ⊥) → FailsAt old (due ∷ []) old.line
  single-fails [] front no_count none = fails-anew old (due ∷ []) old.line (fails-end old due reading refl front)
  single-fails (line ∷ behind) front no_count none = by (scanned_by thread.within asked) refl no_count
    where
      says-nothing : (told : Said) → said_there T are E due line ≡ Some told → may T are E due told ≡ true → ⊥
      says-nothing told is can = none told (sym (said-here line told is)) (sym (may-is told) ∙ can)

      by : (o : Option ℕ) → scanned_by thread.within asked ≡ o → NoCount o (count_first thread.round who heading (line ∷ behind)) → FailsAt old (due ∷ []) old.line
      by None is c =
          zero-fails (λ rest anew. fails-at old due line behind 0 reading refl front
          (misses T are E due (narrow-of asked) line behind
          (λ up. command-listed T (Rattle.std.proofs.Common.drop 3 (words_in line)) behind (tables-valid T are) asked valid (no-scan (is_within who E) asked (scanned-is None is) up))
          says-nothing)
          (unscanned-begun line behind is) rest)
      by (Some table) is c =
          let s = scans thread.within asked table is in
          let within : is_within who E ≡ true = sym is_thread.within ∙ s.is_within in
          let count : count_at thread.round who (next T are E due) line ≡ None = ap (λ (n : ℕ). count_at thread.round who n line) (sym is_thread.index) ∙ c in
          let at : reply_at T E due line behind ≡ None =
          scan-misses T are plain E thread.round thread.session table asked s.asks within (narrow-of asked) line behind
          (λ memory. none said.Memory (sym (ap (λ (n : ℕ). said_at T thread.round who n line) is_thread.index ∙ memory)) (ap (λ (b : Bool). answers T b asked said.Memory) s.is_within ∙ s.asks.memory T))
          (λ n counted many. absurdly (sym counted ∙ count)) in
          let begun : lines_begun T E due line behind ≡ 0 = scan-unbegun T are plain E thread.round thread.session table asked s.asks within (narrow-of asked) line behind count in
          zero-fails (λ rest anew. fails-at old due line behind 0 reading refl front at begun rest)

  -- nothing is said
  pub nothing-fails : None ≡ said_first T thread.round who heading (lines_left old) → NoCount (scanned_by thread.within asked) (count_first thread.round who heading (lines_left old)) → FailsAt old (due ∷ []) old.line
  nothing-fails none no_count = single-fails (lines_left old) refl no_count (λ told is can. absurdly (is ∙ sym none))

  -- something else is said
  pub other-fails : (told : Said) → Some told ≡ said_first T thread.round who heading (lines_left old) → NoCount (scanned_by thread.within asked) (count_first thread.round who heading (lines_left old))
      → answers T thread.within asked told ≡ false → FailsAt old (due ∷ []) old.line
  other-fails told is no_count cannot = single-fails (lines_left old) refl no_count (λ other other_is can. never (sym cannot ∙ ap (answers T thread.within asked) (same_Some told other (is ∙ sym other_is)) ∙ can))

  -- ---- a reply of one line is kept

  -- the session goes on where its reply of one line was kept
  pub single-goes : (new : Reader) (kept : KeptReply) (told : Said) (within : Bool) → Kept old new kept 1
      → kept ≡ record { number = old.line; command = kept.command; round = thread.round; who = who; index = heading; told = kept.told } → option_map_or (λ c. c.now) kept.command command.Observe ≡ asked
      → said_of kept.told ≡ told → is_told kept.told ≡ true → within ≡ within_behind thread.within told
      → Some told ≡ said_first T thread.round who heading (lines_left old) → answers T thread.within asked told ≡ true
      → ThreadGoes old new thread (record { round = thread.round; session = thread.session; index = heading; within = within }) asked
  single-goes new kept told within k kept_is command_is said_is told_ok within_is says can =
      let l = line-of T thread.round who heading (lines_left old) told says in
      let one : line_count T (entry_behind T E due told) ≡ 1 = ap (λ (ls : List (List ℕ)). Rattle.std.proofs.Common.suc (length ls)) (alone T thread.within asked told can) in
      goes new kept 1 k told told_ok (kept-entry kept told kept_is command_is said_is) one l.line l.behind l.is (single-found l.line l.behind told l.says can) within within_is

  -- what answers in one line is single
  pub answer-single : (told : Said) → answers T thread.within asked told ≡ true → is_single told ≡ true
  answer-single told can = by told can
    where
      by : (s : Said) → answers T thread.within asked s ≡ true → is_single s ≡ true
      by (said.Scanned rows) h = absurd (Rattle.output_read.proofs.Keys.chosen-scanned T asked rows (thread.within || is_upkeep asked) h)
      by _ h = refl

  -- ---- a scan

  module _ (table : ℕ) (scan : scanned_by thread.within asked ≡ Some table) (columns : List Column) (columns_is : columns_at T table ≡ columns) where
    -- the command asks for rows of the table, in a transaction
    pub its_scan : Scans thread.within asked table
    its_scan = scans thread.within asked table scan

    in_transaction : is_within who E ≡ true
    in_transaction = sym is_thread.within ∙ (its_scan).is_within

    -- the table that is scanned is one of the tables
    pub table-there : is_table_place T table ≡ true
    table-there = (its_scan).asks.there T valid

    -- a table that is scanned has columns
    pub columns-some : 0 < length columns
    columns-some = subst (λ (cs : List Column). 0 < length cs) columns_is (place-columns T table (tables-valid T are) table-there)

    -- ---- rows and their text

    rows-fit : (rows : List (List Cell)) → list_all (fits columns) rows ≡ true → list_all is_row rows ≡ true
    rows-fit [] h = refl
    rows-fit (row ∷ rows) h =
        let p = and_parts (fits columns row) (list_all (fits columns) rows) h in
        and_from (is_row row) (list_all is_row rows) (row_fits columns row columns-some p.0) (rows-fit rows p.1)

    unbroken : (rows : List (List Cell)) → list_all is_row rows ≡ true → AreUnbroken (map row_line rows)
    unbroken [] h = tt
    unbroken (row ∷ rows) h =
        let p = and_parts (is_row row) (list_all is_row rows) h in
        (row_whole (codes "|") row (plain_word (codes "|") refl) p.0, unbroken rows p.1)

    text-long : (rows : List (List Cell)) → length rows ≤ length (lines_text (map row_line rows))
    text-long [] = omega arith
    text-long (row ∷ rows) =
        let a = length-append (row_line row ++ 10 ∷ []) (lines_text (map row_line rows)) in
        let b = length_push (row_line row) 10 in
        let d = text-long rows in
        omega (arith, a, b, d)

    -- what is taken of a text in front of the rest
    front-taken : (front rest : List ℕ) (n : ℕ) → n ≡ length (front ++ rest) - length rest → take n (front ++ rest) ≡ front
    front-taken front rest n is = take_at front rest n (let a = length-append front rest in omega (arith, a, is))

    module _ (count : ℕ) (line : List ℕ) (behind : List (List ℕ)) (front : lines_left old ≡ line ∷ behind) (counts : count_at thread.round who heading line ≡ Some count) where
      abbrev rows_there : List (List Cell)
      rows_there = rows_of T are plain E thread.round thread.session table count behind

      counted-there : count_at thread.round who (next T are E due) line ≡ Some count
      counted-there = ap (λ (n : ℕ). count_at thread.round who n line) (sym is_thread.index) ∙ counts

      -- no memory is refused in such a line
      no-memory : said_there T are E due line ≡ Some said.Memory → ⊥
      no-memory h =
          let s = scan-is thread.round (next T are E due) count who line counted-there in
          let x = spaced (scan_words thread.round who (next T are E due) count) in
          let whole = scan-whole thread.round (next T are E due) count who in
          step (words_at thread.round who (next T are E due) line) _ count counted-there (λ words at e.
          step (behind_front (codes "rows ") words) _ count e (λ word rows_at e2.
          let words_is : words_behind thread.round who (next T are E due) x ≡ Some words = sym (words-line thread.round who (next T are E due) x whole) ∙ ap (words_at thread.round who (next T are E due)) (sym s.text) ∙ at in
          let told : told_in T words [] ≡ Some said.Memory =
          sym (ap (λ (o : Option (List ℕ)). o >>= λ ws. told_in T ws []) words_is) ∙ sym (said-line thread.round who (next T are E due) T x whole) ∙ ap (said_at T thread.round who (next T are E due)) (sym s.text) ∙ h in
          let scanned : scanned_in word [] ≡ Some said.Memory =
          sym (ap (λ (o : Option (List ℕ)). elim o as (λ y. Option Said) [ Some w ↦ scanned_in w [] | None ↦ Rattle.reply_text.specs.Readers.said_in T words ]) rows_at) ∙ told in
          step (u64_in word) _ said.Memory scanned (λ n counted f1.
          step (Rattle.reply_text.specs.Readers.rows_in (parts 10 [])) _ said.Memory f1 (λ rows read f2.
          let w = where_is (length rows == n) (said.Scanned rows) said.Memory f2 in
          (let e3 = w.1 in let bad : ⊥ = cc in bad)))))

      module _ (lines rest : List ℕ) (many : ℕ) (above : AreAbove columns count lines many rest) (lines_is : lines_of lines ≡ behind) where
        rows-are : rows_there ≡ above.rows
        rows-are =
            ap (λ (cs : List Column). rows_above cs None (take count behind)) columns_is ∙ ap (λ (ls : List (List ℕ)). rows_above columns None (take count ls)) (sym lines_is) ∙ above.are

        rows-many : length rows_there ≡ many
        rows-many = ap (λ (rs : List (List Cell)). length rs) rows-are ∙ above.counted

        -- no more rows stand there than the scan's first line counts
        pub rows-most : many ≤ count
        rows-most = let a = rows-few T are plain E thread.round thread.session table count behind in let b = rows-many in omega (arith, a, b)

        -- rows lack
        pub scan-lacks : many < count → FailsAt old (due ∷ []) (old.line + 1 + many)
        scan-lacks few =
            let at : reply_at T E due line behind ≡ None =
            scan-misses T are plain E thread.round thread.session table asked (its_scan).asks in_transaction (narrow-of asked) line behind no-memory
            (λ n is whole.
            let same : count ≡ n = same_Some count n (sym counted-there ∙ is) in
            let short : length (rows_of T are plain E thread.round thread.session table n behind) ≡ many = ap (λ (m : ℕ). length (rows_of T are plain E thread.round thread.session table m behind)) (sym same) ∙ rows-many in
            omega (arith, whole, same, short, few)) in
            let begun : lines_begun T E due line behind ≡ 1 + many =
            scan-begun T are plain E thread.round thread.session table asked (its_scan).asks in_transaction line behind count counted-there ∙ ap (λ (n : ℕ). 1 + n) rows-many in
            λ dues anew. fails-at old due line behind (1 + many) reading refl front at begun dues ∙ ap Err (let e : old.line + (1 + many) ≡ old.line + 1 + many = omega arith in e)

        -- all are there
        module _ (full : many ≡ count) where
          abbrev its_said : Said
          its_said = said.Scanned rows_there

          scan-at : reply_at T E due line behind ≡ Some (entry_behind T E due its_said)
          scan-at = scan-matches T are plain E thread.round thread.session table asked (its_scan).asks in_transaction line behind count counted-there (rows-many ∙ full)

          rows-text : Rattle.reply_text.specs.Readers.rows_in (parts 10 (lines_text (map row_line above.rows))) ≡ Some above.rows
          rows-text = lines_back above.rows (rows-fit above.rows above.fit)

          -- the text of the rows that was taken is kept as the scan's reply
          pub taken-said : (taken : List ℕ) → taken ≡ lines_text (map row_line above.rows) → said.Scanned (Rattle.std.specs.Option.unwrap_or (Rattle.reply_text.specs.Readers.rows_in (parts 10 taken)) []) ≡ its_said
          taken-said taken is =
              ap (λ (t : List ℕ). said.Scanned (Rattle.std.specs.Option.unwrap_or (Rattle.reply_text.specs.Readers.rows_in (parts 10 t)) [])) is
              ∙ ap (λ (o : Option (List (List Cell))). said.Scanned (Rattle.std.specs.Option.unwrap_or o [])) rows-text ∙ ap said.Scanned (sym rows-are)

          -- the rows of the text that was taken are as many as the first line counts
          pub taken-told : (taken : List ℕ) → taken ≡ lines_text (map row_line above.rows) → option_map_or (λ rows. length rows == count) (Rattle.reply_text.specs.Readers.rows_in (parts 10 taken)) false ≡ true
          taken-told taken is =
              ap (λ (t : List ℕ). option_map_or (λ rows. length rows == count) (Rattle.reply_text.specs.Readers.rows_in (parts 10 t)) false) is
              ∙ ap (λ (o : Option (List (List Cell))). option_map_or (λ rows. length rows == count) o false) rows-text
              ∙ eq-eqb (length above.rows) count (above.counted ∙ full)

          -- what the lines have in front of the rest is the text of the rows
          pub taken-text : (n : ℕ) → n ≡ length lines - length rest → take n lines ≡ lines_text (map row_line above.rows)
          taken-text n is =
              ap (λ (t : List ℕ). take n t) above.text
              ∙ front-taken (lines_text (map row_line above.rows)) rest n (is ∙ ap (λ (t : List ℕ). length t - length rest) above.text)

          lines-count : line_count T (entry_behind T E due its_said) ≡ 1 + count
          lines-count = let a = length-map rows_there row_line in let b = rows-many in
              let e : Rattle.std.proofs.Common.suc (length (map row_line rows_there)) ≡ 1 + count = omega (arith, a, b, full) in e

          rest-lines : lines_of rest ≡ drop (1 + count) (lines_left old)
          rest-lines =
              let rows = above.rows in
              let whole : behind ≡ ended (map row_line rows) ++ lines_of rest = sym lines_is ∙ ap lines_of above.text ∙ lines-of (map row_line rows) rest (unbroken rows (rows-fit rows above.fit)) in
              let a = length-map rows row_line in
              let n : count ≡ length (map row_line rows) = (let b = above.counted in omega (arith, a, b, full)) in
              sym (ap (λ (ls : List (List ℕ)). drop (1 + count) ls) front
              ∙ ap (λ (m : ℕ). drop m (line ∷ behind)) (let e : 1 + count ≡ Rattle.std.proofs.Common.suc count = omega arith in e)
              ∙ ap (λ (ls : List (List ℕ)). drop count ls) whole
              ∙ ap (λ (m : ℕ). drop m (ended (map row_line rows) ++ lines_of rest)) n
              ∙ dropped (map row_line rows) (lines_of rest))

          rest-short : length lines < length old.rest.now → length rest + (1 + count) ≤ length old.rest.now
          rest-short few =
              let a = ap (λ (t : List ℕ). length t) above.text in
              let b = length-append (lines_text (map row_line above.rows)) rest in
              let d = text-long above.rows in
              let e = above.counted in
              omega (arith, a, b, d, e, few, full)

          -- the session goes on where a scan with all its rows was kept
          pub scan-goes : (new : Reader) (kept : KeptReply) (told : Told) → new.tables.now ≡ old.tables.now → new.replies.items ≡ old.replies.items ++ kept ∷ [] → new.line ≡ old.line + (1 + count) → new.rest.now ≡ rest
              → length lines < length old.rest.now
              → kept ≡ record { number = old.line; command = kept.command; round = thread.round; who = who; index = heading; told = told } → option_map_or (λ c. c.now) kept.command command.Observe ≡ asked
              → said_of told ≡ its_said → is_told told ≡ true
              → ThreadGoes old new thread (record { round = thread.round; session = thread.session; index = heading; within = thread.within }) asked
          scan-goes new kept told tables items line_is rest_is few kept_is command_is said_is told_ok =
              let k : Kept old new kept (1 + count) = record {
                tables = tables;
                items = items;
                line = line_is;
                rest = ap lines_of rest_is ∙ rest-lines;
                shorter = let a = ap (λ (t : List ℕ). length t) rest_is in let b = rest-short few in omega (arith, a, b);
                some = omega arith;
              } in
              let told_same : kept.told ≡ told = ap (λ (r : KeptReply). r.told) kept_is in
              let entry = kept-entry kept its_said (kept_is ∙ ap (λ (t : Told). record { number = old.line; command = kept.command; round = thread.round; who = who; index = heading; told = t }) (sym told_same)) command_is (ap said_of told_same ∙ said_is) in
              goes new kept (1 + count) k its_said (ap is_told told_same ∙ told_ok) entry
              lines-count
              line behind front
              scan-at
              thread.within refl
