-- The reply to a scan at the front of lines.
use Rattle.std.proofs.Common.{◌≡◌, ℕ, ◌+◌, ◌^◌, ◌<◌, ◌≤◌, Bool, true, false, cond, ◌&&◌, ◌||◌, List, [], ◌∷◌, ◌++◌, length, take, drop, map, Option, None, Some, refl, sym, ap, ◌∙◌, subst, arith, append_assoc, ◌⊎◌, inl, inr, ℤ, int_lt, suc, zero}
use Rattle.std.specs.Prelude.{◌==◌, bytes_eq, decimal, codes, if◌then◌else◌}
use Rattle.std.specs.List.{starts_with, filter}
use Rattle.std.specs.Option.{option_map_or}
use Rattle.std.proofs.lemmas.Bool.{and_parts, and_from, eqb-true, eq-eqb, ltb-true, lt-ltb}
use Rattle.std.proofs.lemmas.Slice.Eq.{bytes_eq-Decides}
use Rattle.cell_model.specs.declared.cell.Cell.{Cell}
use Rattle.cell_model.specs.declared.column.Column.{Column}
use Rattle.cell_model.specs.declared.table.TableDecl.{TableDecl}
use Rattle.isolation_spec.specs.Contents.{key_of}
use Rattle.workload_spec.specs.declared.command.Command.{Command}
use Rattle.workload_spec.specs.declared.command.Command.TheVariants as command
use Rattle.workload_spec.specs.declared.reply.Who.{Who}
use Rattle.workload_spec.specs.declared.reply.Who.TheVariants.{Session}
use Rattle.workload_spec.specs.declared.reply.Said.{Said}
use Rattle.workload_spec.specs.declared.reply.Said.TheVariants as said
use Rattle.workload_spec.specs.ReplyText.{lines_behind, reply_lines, who_text, row_line}
use Rattle.workload_spec.specs.Words.{line_feed, spaced}
use Rattle.workload_spec.specs.Valid.{is_command, is_table_place, is_key_number}
use Rattle.workload_laws.proofs.Apart.{is_whole, whole_append}
use Rattle.outcome_spec.specs.Entries.{Entry, is_same}
use Rattle.outcome_spec.specs.Reading.{words_in, row_at, rows_above, u64_at}
use Rattle.outcome_spec.specs.Tables.{columns_at}
use Rattle.outcome_spec.specs.Forms.{Due, begins_with, replies_due, reply_at, entry_behind, is_upkeep, is_within, replies_within, replies_without, scan_replies, lines_of_scan, lines_begun, scanned_by}
use Rattle.reply_text.specs.Shown.{is_u32, is_u64, is_who, are_tables}
use Rattle.reply_text.specs.Readers.{where_true, behind as behind_front, cut, Heading, head_in}
use Rattle.reply_text.proofs.PieceLemmas.{step, where_is, gives, cut_is, cut_back, behind_is}
use Rattle.reply_text.proofs.Spelled.{u64_is, u64_back}
use Rattle.reply_text.proofs.Readings.{head_is}
use Rattle.reply_text.proofs.SaidBack.{plain_whole}
use Rattle.reply_text.proofs.RepliesBack.{head_back}
use Rattle.timeline_laws.proofs.Lines.{a-word, ended, first_line, lines-alone, IsSaid, IsRead, reply-unbroken, is_said as is_spoken, reply-read, who-word, all-words}
use Rattle.timeline_laws.proofs.ReadBack.{NamesPlain, reply-back}
use Rattle.timeline_laws.proofs.ReadLines.{words_of_line}
use Rattle.timeline_laws.proofs.ReadNumbers.{plain_decimal, u64_read, u64_small}
use Rattle.timeline_spec.specs.Forms.{IsScanReply}
use Rattle.timeline_laws.proofs.Stated.{RowsRise, ScannedFits}
use Rattle.timeline_laws.proofs.Turns.{EachSaid, found-by}
use Rattle.output_read.specs.Answers.{answers}
use Rattle.output_read.specs.Fronts.{words_at, count_at}
use Rattle.output_read.proofs.Fitting.{row_at_is}
use Rattle.output_read.proofs.Keys.{absurdly, same-who, who-same, said_there, next, reply_of, IsNarrow, reads-own, begins-own, is-reply}

-- ---- the first line of a scan

-- the words of a scan's first line
abbrev pub scan_words : ℕ → Who → ℕ → ℕ → List (List ℕ)
scan_words round who index count = decimal round ∷ who_text who ∷ decimal index ∷ codes "rows" ∷ decimal count ∷ []

-- the text of a scan's first line
abbrev pub scan_text : ℕ → Who → ℕ → ℕ → List ℕ
scan_text round who index count = spaced (scan_words round who index count) ++ 10 ∷ []

pub record IsScanLine (round : ℕ) (who : Who) (index : ℕ) (line : List ℕ) (count : ℕ) : Type 0 where
  pub text : line ≡ scan_text round who index count
  pub fits : is_u64 count ≡ true

-- a line that says a count of rows is a scan's first line with that count
pub scan-is : (round index count : ℕ) (who : Who) (line : List ℕ) → count_at round who index line ≡ Some count → IsScanLine round who index line count
scan-is round index count who line h =
    step (words_at round who index line) _ count h (λ words is h1.
    step (behind_front (codes "rows ") words) _ count h1 (λ word at h2.
    step (cut line_feed line) _ words is (λ both c1 i1.
    step (head_in both.0) _ words i1 (λ head c2 i2.
    let w = where_is (bytes_eq both.1 [] && head.round == round && is_same head.who who && head.index == index) head.words words i2 in
    let a = and_parts (bytes_eq both.1 [] && head.round == round && is_same head.who who) (head.index == index) w.0 in
    let b = and_parts (bytes_eq both.1 [] && head.round == round) (is_same head.who who) a.0 in
    let d = and_parts (bytes_eq both.1 []) (head.round == round) b.0 in
    let i = head_is both.0 head c2 in
    let n = u64_is word count h2 in
    let ws : head.words ≡ codes "rows " ++ decimal count = w.1 ∙ behind_is (codes "rows ") words word at ∙ ap (λ (v : List ℕ). codes "rows " ++ v) (sym n.text) in
    let none : both.1 ≡ [] = (bytes_eq-Decides both.1 []).0 d.0 in
    let line_is : both.0 ≡ spaced (scan_words round who index count) =
    i.text
    ∙ ap (λ (v : List ℕ). decimal head.round ++ 32 ∷ (who_text head.who ++ 32 ∷ (decimal head.index ++ 32 ∷ v))) ws
    ∙ ap (λ (k : ℕ). decimal k ++ 32 ∷ (who_text head.who ++ 32 ∷ (decimal head.index ++ 32 ∷ (codes "rows " ++ decimal count)))) (eqb-true head.round round d.1)
    ∙ ap (λ (v : Who). decimal round ++ 32 ∷ (who_text v ++ 32 ∷ (decimal head.index ++ 32 ∷ (codes "rows " ++ decimal count)))) (same-who head.who who b.1)
    ∙ ap (λ (k : ℕ). decimal round ++ 32 ∷ (who_text who ++ 32 ∷ (decimal k ++ 32 ∷ (codes "rows " ++ decimal count)))) (eqb-true head.index index a.1) in
    record {
      text = cut_is line_feed line both c1 ∙ ap (λ (v : List ℕ). both.0 ++ 10 ∷ v) none ∙ ap (λ (v : List ℕ). v ++ 10 ∷ []) line_is;
      fits = n.fits;
    }))))

-- the words of a scan's first line have no end of a line among them
pub scan-whole : (round index count : ℕ) (who : Who) → is_whole (spaced (scan_words round who index count)) ≡ true
scan-whole round index count who =
    let rows : is_whole (codes "rows " ++ decimal count) ≡ true = whole_append (codes "rows ") (decimal count) refl (plain_whole (decimal count) (plain_decimal count)) in
    whole_append (decimal round) (32 ∷ (who_text who ++ 32 ∷ (decimal index ++ 32 ∷ (codes "rows " ++ decimal count)))) (plain_whole (decimal round) (plain_decimal round))
    (whole_append (who_text who) (32 ∷ (decimal index ++ 32 ∷ (codes "rows " ++ decimal count))) (who-word who).whole
    (whole_append (decimal index) (32 ∷ (codes "rows " ++ decimal count)) (plain_whole (decimal index) (plain_decimal index)) rows))

-- the count is read back from a scan's first line
pub scan-back : (round index count : ℕ) (who : Who) → is_u32 round ≡ true → is_who who ≡ true → is_u64 index ≡ true → is_u64 count ≡ true → count_at round who index (scan_text round who index count) ≡ Some count
scan-back round index count who a b c d =
    let words : List ℕ = codes "rows " ++ decimal count in
    let line = spaced (scan_words round who index count) in
    let head : Heading = record { round = round; who = who; index = index; words = words } in
    let test : (true && round == round && is_same who who && index == index) ≡ true =
    and_from (true && round == round && is_same who who) (index == index) (and_from (true && round == round) (is_same who who) (eq-eqb round round refl) (who-same who)) (eq-eqb index index refl) in
    let at : words_at round who index (scan_text round who index count) ≡ Some words =
    gives (cut 10 (line ++ 10 ∷ [])) _ (Some words) (line, []) (cut_back 10 line [] (scan-whole round index count who))
    (gives (head_in line) _ (Some words) head (head_back round index who words a b c) (ap (λ (t : Bool). where_true t words) test)) in
    gives (words_at round who index (scan_text round who index count)) _ (Some count) words at (u64_back count d)

-- the number of rows that it says
pub scan-counts : (round index count : ℕ) (who : Who) → is_u64 count ≡ true → u64_at (drop 3 (words_in (scan_text round who index count))) 1 ≡ count
scan-counts round index count who fit =
    ap (λ (words : List (List ℕ)). u64_at (drop 3 words) 1)
    (words_of_line (decimal round) (who_text who ∷ decimal index ∷ codes "rows" ∷ decimal count ∷ []) (all-words round index who (codes "rows" ∷ decimal count ∷ []) (a-word (codes "rows") refl, (a-word (decimal count) (plain_decimal count), tt))))
    ∙ u64_read count (ltb-true count (2 ^ 64) fit)

-- ---- the rows behind it

-- What rows are read from a line on, by what row that line is.
above-by : (columns : List Column) (key : Option ℤ) (line : List ℕ) (lines : List (List ℕ)) (o : Option (List Cell)) → row_at columns line ≡ o → rows_above columns key (line ∷ lines)
    ≡ elim o as (λ x. List (List Cell)) [ Some row ↦ cond (option_map_or (λ below. int_lt below (key_of row)) key true) (row ∷ rows_above columns (Some (key_of row)) lines) [] | None ↦ [] ]
above-by columns key line lines o is = ap (λ (x : Option (List Cell)). elim x as (λ y. List (List Cell)) [ Some row ↦ cond (option_map_or (λ below. int_lt below (key_of row)) key true) (row ∷ rows_above columns (Some (key_of row)) lines) [] | None ↦ [] ]) is

-- rows at the front of lines, with those behind them
pub record AreRows (columns : List Column) (key : Option ℤ) (all : List (List ℕ)) (rows : List (List Cell)) : Type 0 where
  pub rise : RowsRise columns key rows
  pub behind : List (List ℕ)
  pub lines : all ≡ ended (map row_line rows) ++ behind
  pub few : length rows ≤ length all

-- No rows stand at the front of any lines.
no-rows : (columns : List Column) (key : Option ℤ) (lines : List (List ℕ)) → AreRows columns key lines []
no-rows columns key lines = record { rise = tt; behind = lines; lines = refl; few = omega arith }

-- the rows that are read from lines stand at their front, with rising keys
pub are-rows : (columns : List Column) (key : Option ℤ) (lines : List (List ℕ)) → AreRows columns key lines (rows_above columns key lines)
are-rows columns key [] = no-rows columns key []
are-rows columns key (line ∷ lines) = by (row_at columns line) refl (λ row. are-rows columns (Some (key_of row)) lines)
  where
    more : (row : List Cell) (b : Bool) → row_at columns line ≡ Some row → option_map_or (λ below. int_lt below (key_of row)) key true ≡ b
        → AreRows columns (Some (key_of row)) lines (rows_above columns (Some (key_of row)) lines)
        → AreRows columns key (line ∷ lines) (cond b (row ∷ rows_above columns (Some (key_of row)) lines) [])
    more row true at rises r =
        let is = row_at_is columns line row at in
        record {
          rise = (is.1, rises, r.rise);
          behind = r.behind;
          lines = ap (λ (l : List ℕ). l ∷ lines) (sym is.0) ∙ ap (λ (ls : List (List ℕ)). (row_line row ++ 10 ∷ []) ∷ ls) r.lines;
          few = let few = r.few in omega (arith, few);
        }
    more row false at rises r = no-rows columns key (line ∷ lines)

    by : (o : Option (List Cell)) → row_at columns line ≡ o → ((row : List Cell) → AreRows columns (Some (key_of row)) lines (rows_above columns (Some (key_of row)) lines))
        → AreRows columns key (line ∷ lines) (rows_above columns key (line ∷ lines))
    by None is later = subst (AreRows columns key (line ∷ lines)) (sym (above-by columns key line lines None is)) (no-rows columns key (line ∷ lines))
    by (Some row) is later = subst (AreRows columns key (line ∷ lines)) (sym (above-by columns key line lines (Some row) is))
        (more row (option_map_or (λ below. int_lt below (key_of row)) key true) is refl (later row))

-- The first so many lines are no more than that.
most : (n : ℕ) (lines : List (List ℕ)) → length (take n lines) ≤ n
most zero lines = omega arith
most (suc n) [] = omega arith
most (suc n) (line ∷ lines) = let e = most n lines in omega (arith, e)

-- The first so many lines and those behind them are all lines.
rejoined : (n : ℕ) (lines : List (List ℕ)) → take n lines ++ drop n lines ≡ lines
rejoined zero lines = refl
rejoined (suc n) [] = refl
rejoined (suc n) (line ∷ lines) = ap (λ (ls : List (List ℕ)). line ∷ ls) (rejoined n lines)

-- a command that asks for rows of a table: what is due to it in a transaction
pub record AsksRows (table : ℕ) (asked : Command) : Type 0 where
  pub scanned : scanned_by true asked ≡ Some table
  pub listed : (tables : List TableDecl) (words behind : List (List ℕ)) → replies_within tables words behind asked ≡ said.Memory ∷ scan_replies (columns_at tables table) words behind
  pub read : (tables : List TableDecl) → NamesPlain tables → (told : Said) → IsScanReply told → ScannedFits (columns_at tables table) told → IsRead tables true asked told
  pub memory : (tables : List TableDecl) → answers tables true asked said.Memory ≡ true
  pub there : (tables : List TableDecl) → is_command tables asked ≡ true → is_table_place tables table ≡ true

-- a scan asks for rows of its table
pub asks-scan : (table : ℕ) → AsksRows table (command.Scan table)
asks-scan table = record { scanned = refl; listed = λ tables words behind. refl; read = λ tables names told is fit. reply-back tables names true (command.Scan table) told is fit; memory = λ tables. refl; there = λ tables is. is }

-- and a range asks for rows of its
pub asks-range : (table : ℕ) (low high : ℤ) → AsksRows table (command.Range table low high)
asks-range table low high = record {
  scanned = refl;
  listed = λ tables words behind. refl;
  read = λ tables names told is fit. reply-back tables names true (command.Range table low high) told is fit;
  memory = λ tables. refl;
  there = λ tables is. (and_parts (is_table_place tables table) (is_key_number low) (and_parts (is_table_place tables table && is_key_number low) (is_key_number high) is).0).0;
}

module _ (tables : List TableDecl) (are : are_tables tables ≡ true) (names : NamesPlain tables) (earlier : List Entry) (round session table : ℕ) where
  -- The columns of the table of which rows are asked for.
  abbrev columns : List Column
  columns = columns_at tables table

  -- the rows at the front of the lines behind, up to so many
  abbrev pub rows_of : ℕ → List (List ℕ) → List (List Cell)
  rows_of count behind = rows_above columns None (take count behind)

  -- The reply of a scan with the rows at the front of the lines behind, up to a count.
  abbrev scanned : ℕ → List (List ℕ) → Said
  scanned count behind = said.Scanned (rows_of count behind)

  -- no more rows are read than are counted
  pub rows-few : (count : ℕ) (behind : List (List ℕ)) → length (rows_of count behind) ≤ count
  rows-few count behind = let a = (are-rows columns None (take count behind)).few in let b = most count behind in omega (arith, a, b)

  module _ (asked : Command) (asks : AsksRows table asked) where
    -- what is due of a session's scan of a table, or of a range of it
    abbrev pub scan_due : Due
    scan_due = record { round = round; who = Session session; command = asked }

    -- The index of the session's next reply in the round.
    abbrev there : ℕ
    there = next tables are earlier scan_due

    module _ (within : is_within (Session session) earlier ≡ true) where
      scan-read : (count : ℕ) (behind : List (List ℕ)) → count < 2 ^ 64 → IsRead tables true asked (scanned count behind)
      scan-read count behind small =
          let few = rows-few count behind in
          asks.read tables names (scanned count behind) (omega (arith, few, small)) (are-rows columns None (take count behind)).rise

      scan-said : (count : ℕ) (behind : List (List ℕ)) → count < 2 ^ 64 → IsSaid tables (scanned count behind)
      scan-said count behind small = (scan-read count behind small).is_said

      -- a scan whose rows are all there
      pub scan-matches : (line : List ℕ) (behind : List (List ℕ)) (count : ℕ) → count_at round (Session session) there line ≡ Some count → length (rows_of count behind) ≡ count
          → reply_at tables earlier scan_due line behind ≡ Some (entry_behind tables earlier scan_due (scanned count behind))
      scan-matches line behind count is many =
          let s = scan-is round there count (Session session) line is in
          let small : count < 2 ^ 64 = ltb-true count (2 ^ 64) s.fits in
          let a = are-rows columns None (take count behind) in
          let split : behind ≡ ended (map row_line (rows_of count behind)) ++ (a.behind ++ drop count behind) =
          sym (rejoined count behind) ∙ ap (λ (ls : List (List ℕ)). ls ++ drop count behind) a.lines ∙ append_assoc (ended (map row_line (rows_of count behind))) a.behind (drop count behind) in
          let first : line ≡ first_line tables (reply_of tables are earlier scan_due (scanned count behind)) ++ 10 ∷ [] = s.text ∙ ap (λ (k : ℕ). scan_text round (Session session) there k) (sym many) in
          ap (λ (l : List ℕ). reply_at tables earlier scan_due l behind) first
          ∙ ap (reply_at tables earlier scan_due (first_line tables (reply_of tables are earlier scan_due (scanned count behind)) ++ 10 ∷ [])) split
          ∙ reply-read tables earlier scan_due (scanned count behind) (a.behind ++ drop count behind) refl
          (subst (λ (b : Bool). IsRead tables b asked (scanned count behind)) (sym within) (scan-read count behind small))

      -- what is due, and what of it is found
      abbrev Listed : ℕ → List (List ℕ) → Said → Type 0
      Listed count behind told = (told ≡ said.Memory) ⊎ (told ≡ scanned count behind)

      due-list : (words behind : List (List ℕ)) → replies_due tables earlier scan_due words behind ≡ said.Memory ∷ scanned (u64_at words 1) behind ∷ []
      due-list words behind = ap (λ (b : Bool). filter (is_spoken scan_due) (cond (b || is_upkeep asked) (replies_within tables words behind asked) (replies_without words asked))) within
          ∙ ap (filter (is_spoken scan_due)) (asks.listed tables words behind)

      same-first : (line own : List ℕ) (behind others : List (List ℕ)) → starts_with bytes_eq (line ∷ behind) (own ∷ others) ≡ true → own ≡ line
      same-first line own behind others h = (bytes_eq-Decides own line).0 (and_parts (bytes_eq own line) (starts_with bytes_eq behind others) h).0

      -- the rows of what begins the lines are all that its first line says
      rows-whole : is_u32 round ≡ true → is_who (Session session) ≡ true → is_u64 there ≡ true → (line : List ℕ) (behind : List (List ℕ))
          → begins_with tables (line ∷ behind) (entry_behind tables earlier scan_due (scanned (u64_at (drop 3 (words_in line)) 1) behind)) ≡ true
          → (count_at round (Session session) there line ≡ Some (u64_at (drop 3 (words_in line)) 1)) × (length (rows_of (u64_at (drop 3 (words_in line)) 1) behind) ≡ u64_at (drop 3 (words_in line)) 1)
      rows-whole a b c line behind h =
          let count = u64_at (drop 3 (words_in line)) 1 in
          let small = u64_small (drop 3 (words_in line)) 1 in
          let few = rows-few count behind in
          let many = length (rows_of count behind) in
          let fit : is_u64 many ≡ true = lt-ltb many (2 ^ 64) (omega (arith, few, small)) in
          let reply = reply_of tables are earlier scan_due (scanned count behind) in
          let own = first_line tables reply ++ 10 ∷ [] in
          let said = scan-said count behind small in
          let text : own ≡ line =
          same-first line own behind (ended (lines_behind (scanned count behind)))
          (sym (ap (starts_with bytes_eq (line ∷ behind)) (lines-alone (reply_lines tables reply) (reply-unbroken tables reply said))) ∙ h) in
          let counted : many ≡ count = sym (scan-counts round there many (Session session) fit) ∙ ap (λ (l : List ℕ). u64_at (drop 3 (words_in l)) 1) text in
          (ap (count_at round (Session session) there) (sym text) ∙ scan-back round there many (Session session) a b c fit ∙ ap Some counted, counted)

      found-none : (line : List ℕ) (behind : List (List ℕ)) (o : Option Entry) → reply_at tables earlier scan_due line behind ≡ o → ((entry : Entry) → o ≡ Some entry → ⊥) → reply_at tables earlier scan_due line behind ≡ None
      found-none line behind None is h = is
      found-none line behind (Some entry) is h = absurd (h entry refl)

      -- no scan is there where its first line isn't, or rows lack, and memory is not refused
      pub scan-misses : IsNarrow tables are earlier scan_due → (line : List ℕ) (behind : List (List ℕ))
          → (said_there tables are earlier scan_due line ≡ Some said.Memory → ⊥)
          → ((count : ℕ) → count_at round (Session session) there line ≡ Some count → length (rows_of count behind) ≡ count → ⊥)
          → reply_at tables earlier scan_due line behind ≡ None
      scan-misses narrow line behind no_memory no_rows = found-none line behind (reply_at tables earlier scan_due line behind) refl not-found
        where
          not-found : (entry : Entry) → reply_at tables earlier scan_due line behind ≡ Some entry → ⊥
          not-found entry at =
              let words = drop 3 (words_in line) in
              let f = found-by (Listed (u64_at words 1) behind) (entry_behind tables earlier scan_due) (begins_with tables (line ∷ behind)) entry (replies_due tables earlier scan_due words behind)
              (subst (EachSaid (Listed (u64_at words 1) behind)) (sym (due-list words behind)) (inl refl, (inr refl, tt))) at in
              elim f.of [
                | inl memory ↦ no_memory (reads-own tables are earlier scan_due line said.Memory (is-reply tables are earlier scan_due narrow said.Memory refl)
                    (begins-own tables are earlier scan_due line behind said.Memory refl refl (subst (λ (s : Said). begins_with tables (line ∷ behind) (entry_behind tables earlier scan_due s) ≡ true) memory f.passes)))
                | inr rows ↦ let whole = rows-whole narrow.round narrow.who narrow.index line behind (subst (λ (s : Said). begins_with tables (line ∷ behind) (entry_behind tables earlier scan_due s) ≡ true) rows f.passes) in
                    no_rows (u64_at words 1) whole.0 whole.1
              ]

      -- ---- how much of it is there

      begun-by : (line : List ℕ) (behind : List (List ℕ)) → lines_begun tables earlier scan_due line behind ≡ lines_of_scan tables (reply_of tables are earlier scan_due said.Memory) line behind table
      begun-by line behind = ap (λ (b : Bool). option_map_or (lines_of_scan tables (reply_of tables are earlier scan_due said.Memory) line behind) (scanned_by b asked) 0) within
          ∙ ap (λ (o : Option ℕ). option_map_or (lines_of_scan tables (reply_of tables are earlier scan_due said.Memory) line behind) o 0) asks.scanned

      -- the rows that are there, behind the first line
      pub scan-begun : (line : List ℕ) (behind : List (List ℕ)) (count : ℕ) → count_at round (Session session) there line ≡ Some count
          → lines_begun tables earlier scan_due line behind ≡ 1 + length (rows_of count behind)
      scan-begun line behind count is =
          let s = scan-is round there count (Session session) line is in
          let counted : u64_at (drop 3 (words_in line)) 1 ≡ count = ap (λ (l : List ℕ). u64_at (drop 3 (words_in l)) 1) s.text ∙ scan-counts round there count (Session session) s.fits in
          let first : bytes_eq line (scan_text round (Session session) there count) ≡ true = (bytes_eq-Decides line (scan_text round (Session session) there count)).1 s.text in
          begun-by line behind
          ∙ ap (λ (k : ℕ). if bytes_eq line (scan_text round (Session session) there k) then 1 + length (rows_of k behind) else 0) counted
          ∙ ap (λ (b : Bool). if b then 1 + length (rows_of count behind) else 0) first

      unbegun : (line : List ℕ) (behind : List (List ℕ)) (count : ℕ) (b : Bool) → bytes_eq line (scan_text round (Session session) there count) ≡ b
          → (line ≡ scan_text round (Session session) there count → ⊥) → (if b then 1 + length (rows_of count behind) else 0) ≡ 0
      unbegun line behind count true is h = absurd (h ((bytes_eq-Decides line (scan_text round (Session session) there count)).0 is))
      unbegun line behind count false is h = refl

      -- none of it, where the line is not a scan's first
      pub scan-unbegun : IsNarrow tables are earlier scan_due → (line : List ℕ) (behind : List (List ℕ)) → count_at round (Session session) there line ≡ None → lines_begun tables earlier scan_due line behind ≡ 0
      scan-unbegun narrow line behind none =
          let count = u64_at (drop 3 (words_in line)) 1 in
          let fit : is_u64 count ≡ true = lt-ltb count (2 ^ 64) (u64_small (drop 3 (words_in line)) 1) in
          begun-by line behind
          ∙ unbegun line behind count (bytes_eq line (scan_text round (Session session) there count)) refl
          (λ same. absurdly (sym (scan-back round there count (Session session) narrow.round narrow.who narrow.index fit) ∙ ap (count_at round (Session session) there) (sym same) ∙ none))
