-- A reply that is kept, and what is read behind it.
use Rattle.std.proofs.Common.{◌≡◌, ℕ, ◌+◌, ◌≤◌, Bool, true, false, ◌&&◌, List, [], ◌∷◌, ◌++◌, length, drop, map, None, Some, Err, refl, sym, ap, ◌∙◌, arith}
use Rattle.std.specs.List.{count_by, filter, fold}
use Rattle.std.proofs.lemmas.Bool.{and_from}
use Rattle.std.proofs.lemmas.List.{map-append, length_push, length-map}
use Rattle.std.proofs.lemmas.List.Folds.{list_all-append}
use Rattle.std.proofs.Common.{cond, append-nil}
use Rattle.std.proofs.lemmas.List.Sums.{sum_by_push, fold-append, count_by-le-length}
use Rattle.std.proofs.lemmas.List.Elements.{filter-append}
use Rattle.cell_model.specs.declared.table.TableDecl.{TableDecl}
use Rattle.workload_spec.specs.declared.reply.Who.{Who}
use Rattle.workload_spec.specs.declared.reply.Said.{Said}
use Rattle.outcome_spec.specs.Entries.{Entry, is_same}
use Rattle.outcome_spec.specs.Forms.{Due, entry_behind, line_count, lines_begun, may_be_silent, next_line, reading, reply_at, is_within, within_behind}
use Rattle.output_read.specs.declared.kept.KeptReply.{KeptReply}
use Rattle.output_read.specs.declared.reader.Reader.{Reader}
use Rattle.output_read.specs.Kept.{entry_of, entries_of, are_told, is_told}
use Rattle.output_read.specs.Readers.{IsReading, Passes, PassesAll, FailsAll, FailsAt, read_by, lines_left, is_of, next_index}
use Rattle.output_read.proofs.Walks.{taken, failed, missing, next-more}

-- the reader behind a kept reply
pub record Kept (old new : Reader) (kept : KeptReply) (n : ℕ) : Type 0 where
  pub tables : new.tables.now ≡ old.tables.now
  pub items : new.replies.items ≡ old.replies.items ++ kept ∷ []
  pub line : new.line ≡ old.line + n
  pub rest : lines_left new ≡ drop n (lines_left old)
  pub shorter : length new.rest.now + n ≤ length old.rest.now
  pub some : 1 ≤ n

-- behind a kept reply one more was read, which is the last
pub read-more : (old new : Reader) (kept : KeptReply) (n : ℕ) → Kept old new kept n → read_by new ≡ read_by old ++ entry_of kept ∷ []
read-more old new kept n k = ap entries_of k.items ∙ map-append entry_of old.replies.items (kept ∷ [])

-- behind a kept reply that says something, the next line is behind all that were read
pub still-reading : (old new : Reader) (kept : KeptReply) (n : ℕ) → Kept old new kept n → IsReading old → is_told kept.told ≡ true → line_count old.tables.now (entry_of kept) ≡ n → IsReading new
still-reading old new kept n k reading told count = record {
  line = k.line ∙ ap (λ (m : ℕ). m + n) reading.line ∙ ap (λ (m : ℕ). next_line old.tables.now (read_by old) + m) (sym count)
      ∙ sym (next-more old.tables.now (read_by old) (entry_of kept)) ∙ ap (next_line old.tables.now) (sym (read-more old new kept n k)) ∙ ap (λ (ts : List TableDecl). next_line ts (read_by new)) (sym k.tables);
  told = ap are_told k.items ∙ list_all-append (λ reply. is_told reply.told) old.replies.items (kept ∷ []) ∙ and_from (are_told old.replies.items) (is_told kept.told && true) reading.told (and_from (is_told kept.told) true told refl);
  room = let a = k.line in let b = reading.room in let d = k.shorter in omega (arith, a, b, d);
  few = let a = k.line in let b = reading.few in let d = k.some in let e = ap (λ (xs : List KeptReply). length xs) k.items ∙ length_push old.replies.items kept in omega (arith, a, b, d, e);
}

module _ (old new : Reader) (kept : KeptReply) (n : ℕ) (k : Kept old new kept n) (due : Due) (told : Said) (speaks : may_be_silent due ≡ false)
    (entry : entry_of kept ≡ entry_behind old.tables.now (read_by old) due told) (count : line_count old.tables.now (entry_of kept) ≡ n) where
  -- The tables of the reader in front of the kept reply.
  abbrev T : List TableDecl
  T = old.tables.now

  -- The replies that were read in front of the kept reply.
  abbrev E : List Entry
  E = read_by old

  -- what is due was taken
  pub passes-all : (line : List ℕ) (behind : List (List ℕ)) → lines_left old ≡ line ∷ behind → reply_at T E due line behind ≡ Some (entry_behind T E due told) → PassesAll old new (due ∷ [])
  passes-all line behind front at dues =
      ap (reading T (due ∷ dues) E) front
      ∙ taken T due dues E line behind (entry_behind T E due told) speaks at
      ∙ ap (λ (e : Entry). reading T dues (E ++ e ∷ []) (drop (line_count T e) (line ∷ behind))) (sym entry)
      ∙ ap (λ (m : ℕ). reading T dues (E ++ entry_of kept ∷ []) (drop m (line ∷ behind))) count
      ∙ ap (λ (ls : List (List ℕ)). reading T dues (E ++ entry_of kept ∷ []) (drop n ls)) (sym front)
      ∙ ap (reading T dues (E ++ entry_of kept ∷ [])) (sym k.rest)
      ∙ ap (λ (es : List Entry). reading T dues es (lines_left new)) (sym (read-more old new kept n k))
      ∙ ap (λ (ts : List TableDecl). reading ts dues (read_by new) (lines_left new)) (sym k.tables)

  -- what is due is read where its reply is found in the next line and is kept
  pub passes : (line : List ℕ) (behind : List (List ℕ)) → lines_left old ≡ line ∷ behind → reply_at T E due line behind ≡ Some (entry_behind T E due told) → Passes old new (due ∷ [])
  passes line behind front at dues anew = passes-all line behind front at dues

-- what is due fails
pub fails-at : (reader : Reader) (due : Due) (line : List ℕ) (behind : List (List ℕ)) (n : ℕ) → IsReading reader → may_be_silent due ≡ false → lines_left reader ≡ line ∷ behind
    → reply_at reader.tables.now (read_by reader) due line behind ≡ None → lines_begun reader.tables.now (read_by reader) due line behind ≡ n → FailsAll reader (due ∷ []) (reader.line + n)
fails-at reader due line behind n reading speaks front at begun dues =
    ap (Rattle.outcome_spec.specs.Forms.reading reader.tables.now (due ∷ dues) (read_by reader)) front
    ∙ failed reader.tables.now due dues (read_by reader) line behind speaks at
    ∙ ap Err (let a = reading.line in let e : next_line reader.tables.now (read_by reader) + lines_begun reader.tables.now (read_by reader) due line behind ≡ reader.line + n = omega (arith, a, begun) in e)

-- what may not be silent fails where no line is left
pub fails-end : (reader : Reader) (due : Due) → IsReading reader → may_be_silent due ≡ false → lines_left reader ≡ [] → FailsAll reader (due ∷ []) reader.line
fails-end reader due reading speaks end dues =
    ap (Rattle.outcome_spec.specs.Forms.reading reader.tables.now (due ∷ dues) (read_by reader)) end
    ∙ missing reader.tables.now due dues (read_by reader) speaks ∙ ap Err (sym reading.line)

-- what fails whatever comes behind it fails where that begins anew
pub fails-anew : (reader : Reader) (dues : List Due) (n : ℕ) → FailsAll reader dues n → FailsAt reader dues n
fails-anew reader dues n h rest anew = h rest

-- ---- one more of the round to one

-- One entry more that passes a test is counted once more.
count-more : (test : Entry → Bool) (entries : List Entry) (entry : Entry) → test entry ≡ true → count_by test (entries ++ entry ∷ []) ≡ count_by test entries + 1
count-more test entries entry is = sum_by_push (λ e. cond (test e) 1 0) entries entry ∙ ap (λ (b : Bool). count_by test entries + cond b 1 0) is

-- one reply more of a round to one raises its next index by one
pub next-index : (round : ℕ) (who : Who) (entries : List Entry) (entry : Entry) → is_of round who entry ≡ true → next_index round who (entries ++ entry ∷ []) ≡ next_index round who entries + 1
next-index round who entries entry is = let e = count-more (is_of round who) entries entry is in omega (arith, e)

-- whether one is in a transaction behind a reply more is told by what it says
pub within-more : (who : Who) (entries : List Entry) (entry : Entry) → is_same entry.reply.who who ≡ true → is_within who (entries ++ entry ∷ []) ≡ within_behind (is_within who entries) entry.reply.said
within-more who entries entry is =
    ap (λ (es : List Entry). fold within_behind false (map (λ e. e.reply.said) es)) (filter-append (λ e. is_same e.reply.who who) entries (entry ∷ []))
    ∙ ap (λ (b : Bool). fold within_behind false (map (λ e. e.reply.said) (filter (λ e. is_same e.reply.who who) entries ++ cond b (entry ∷ []) []))) is
    ∙ ap (fold within_behind false) (map-append (λ (e : Entry). e.reply.said) (filter (λ e. is_same e.reply.who who) entries) (entry ∷ []))
    ∙ fold-append within_behind false (map (λ e. e.reply.said) (filter (λ e. is_same e.reply.who who) entries)) (entry.reply.said ∷ [])

-- and of another one
pub within-other : (who : Who) (entries : List Entry) (entry : Entry) → is_same entry.reply.who who ≡ false → is_within who (entries ++ entry ∷ []) ≡ is_within who entries
within-other who entries entry is =
    ap (λ (es : List Entry). fold within_behind false (map (λ e. e.reply.said) es)) (filter-append (λ e. is_same e.reply.who who) entries (entry ∷ []))
    ∙ ap (λ (b : Bool). fold within_behind false (map (λ e. e.reply.said) (filter (λ e. is_same e.reply.who who) entries ++ cond b (entry ∷ []) []))) is
    ∙ ap (λ (es : List Entry). fold within_behind false (map (λ e. e.reply.said) es)) (append-nil (filter (λ e. is_same e.reply.who who) entries))

-- the next index in a round is not above the number of the line
pub index-few : (reader : Reader) (round : ℕ) (who : Who) → IsReading reader → next_index round who (read_by reader) ≤ reader.line
index-few reader round who reading =
    let a = count_by-le-length (is_of round who) (read_by reader) in
    let b = length-map reader.replies.items entry_of in
    let c = reading.few in
    omega (arith, a, b, c)
