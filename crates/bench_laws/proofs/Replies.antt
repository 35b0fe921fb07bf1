-- What a session's command of a generated workload may be told, and the reading of one reply behind
-- the others.
use Rattle.std.proofs.Common.{◌≡◌, ℕ, ◌+◌, Bool, true, false, cond, ◌&&◌, ◌||◌, not, List, [], ◌∷◌, ◌++◌, map, drop, Option, None, Some, Result, Ok, Err, ℤ, fold, refl, sym, ap, ◌∙◌, subst}
use Rattle.std.specs.Prelude.{if◌then◌else◌}
use Rattle.std.specs.List.{filter}
use Rattle.std.proofs.lemmas.List.{map-append}
use Rattle.std.proofs.lemmas.List.Elements.{filter-append}
use Rattle.std.proofs.lemmas.List.Sums.{fold_push}
use Rattle.cell_model.specs.declared.kind.Kind.TheVariants as kind
use Rattle.cell_model.specs.declared.table.TableDecl.{TableDecl}
use Rattle.cell_model.specs.Values.{is_integer_of}
use Rattle.workload_spec.specs.declared.command.Command.{Command}
use Rattle.workload_spec.specs.declared.command.Command.TheVariants as command
use Rattle.workload_spec.specs.declared.reply.Who.{Who}
use Rattle.workload_spec.specs.declared.reply.Who.TheVariants.{Session}
use Rattle.workload_spec.specs.declared.reply.Said.{Said}
use Rattle.workload_spec.specs.declared.reply.Said.TheVariants as said
use Rattle.workload_spec.specs.declared.reply.StaleRead.{StaleRead}
use Rattle.outcome_spec.specs.Entries.{Entry, is_end, is_same}
use Rattle.outcome_spec.specs.Forms.{Due, begins_with, entry_behind, is_silent, is_upkeep, is_within, line_count, lines_begun, next_line, reading, reply_at, replies_due, replies_within, replies_without, within_behind, stale_reply, stale_replies, key_named, table_named, range_named}
use Rattle.outcome_spec.specs.Reading.{words_in, integer_at}
use Rattle.bench_laws.proofs.Every.{Every, every-any, every-append, every-filter, found-image}

-- a begin outside of a transaction may be told this
abbrev pub IsBeginReply : Said → Type 0
IsBeginReply (said.At number) = Unit {0}
IsBeginReply _ = ⊥

-- an insert may be told this
abbrev pub IsInsertReply : Said → Type 0
IsInsertReply said.Accepted = Unit {0}
IsInsertReply said.Exists = Unit {0}
IsInsertReply said.Full = Unit {0}
IsInsertReply said.Memory = Unit {0}
IsInsertReply (said.ConflictSession session) = Unit {0}
IsInsertReply (said.ConflictCommit number) = Unit {0}
IsInsertReply _ = ⊥

-- an update of the table may be told this
abbrev pub IsUpdateReply : ℕ → Said → Type 0
IsUpdateReply table said.Accepted = Unit {0}
IsUpdateReply table said.Missing = Unit {0}
IsUpdateReply table said.Memory = Unit {0}
IsUpdateReply table (said.Freezing of block stamp) = of ≡ table
IsUpdateReply table (said.ConflictSession session) = Unit {0}
IsUpdateReply table (said.ConflictCommit number) = Unit {0}
IsUpdateReply table _ = ⊥

-- a commit may be told this
abbrev pub IsCommitReply : Said → Type 0
IsCommitReply (said.Committed number) = Unit {0}
IsCommitReply (said.Stale what number) = Unit {0}
IsCommitReply _ = ⊥

-- a scan may be told this
abbrev pub IsScanReply : Said → Type 0
IsScanReply (said.Scanned rows) = Unit {0}
IsScanReply said.Memory = Unit {0}
IsScanReply _ = ⊥

-- an export may be told this
abbrev pub IsExportReply : Said → Type 0
IsExportReply (said.Exported number rows batches frozen) = Unit {0}
IsExportReply (said.Dirty key) = Unit {0}
IsExportReply said.Memory = Unit {0}
IsExportReply _ = ⊥

-- what pruning, observing and compacting are told
abbrev pub IsCountReply : Said → Type 0
IsCountReply (said.Cooling count) = Unit {0}
IsCountReply (said.Pruned count) = Unit {0}
IsCountReply (said.Moved count) = Unit {0}
IsCountReply said.Memory = Unit {0}
IsCountReply _ = ⊥

-- sealing this block of the table may be told this
abbrev pub IsSealReply : ℕ → ℕ → Said → Type 0
IsSealReply table block (said.Sealed of at stamp) = (of ≡ table) × (at ≡ block)
IsSealReply table block (said.NotSealed cause) = Unit {0}
IsSealReply table block _ = ⊥

-- gathering this block of the table may be told this
abbrev pub IsGatherReply : ℕ → ℕ → Said → Type 0
IsGatherReply table block (said.Frozen of at rows) = (of ≡ table) × (at ≡ block)
IsGatherReply table block said.NotFrozen = Unit {0}
IsGatherReply table block said.Memory = Unit {0}
IsGatherReply table block _ = ⊥

-- what a command may be told in a transaction, or as upkeep
abbrev pub FitsWithin : Command → Said → Type 0
FitsWithin (command.Begin checked) told = Unit {0}
FitsWithin (command.Get table key) told = Unit {0}
FitsWithin (command.Scan table) told = IsScanReply told
FitsWithin (command.Range table low high) told = Unit {0}
FitsWithin (command.Total table column low high) told = Unit {0}
FitsWithin (command.Insert table row) told = IsInsertReply told
FitsWithin (command.Update table row) told = IsUpdateReply table told
FitsWithin (command.Delete table key) told = Unit {0}
FitsWithin command.Commit told = IsCommitReply told
FitsWithin command.Abort told = Unit {0}
FitsWithin command.Observe told = IsCountReply told
FitsWithin command.Prune told = IsCountReply told
FitsWithin (command.Compact table) told = IsCountReply told
FitsWithin (command.Seal table block) told = IsSealReply table block told
FitsWithin (command.Gather table block) told = IsGatherReply table block told
FitsWithin (command.Export table) told = IsExportReply told

-- and outside of one
abbrev pub FitsWithout : Command → Said → Type 0
FitsWithout (command.Begin checked) told = IsBeginReply told
FitsWithout _ told = Unit {0}

-- what it may be told, in a transaction or outside of one
abbrev pub FitsBy : Bool → Command → Said → Type 0
FitsBy true asked told = FitsWithin asked told
FitsBy false asked told = FitsWithout asked told

-- Where an export may be told of a dirty key, that is a reply to an export.
dirty-fits : (b : Bool) (key : ℤ) → Every IsExportReply (if b then said.Dirty key ∷ [] else [])
dirty-fits true key = (tt, tt)
dirty-fits false key = tt

-- Where a commit may be told of a stale read, that is a reply to a commit.
stale-one : (words : List (List ℕ)) (at : ℕ) (what : Option StaleRead) → Every IsCommitReply (stale_reply words at what)
stale-one words at (Some what) = (tt, tt)
stale-one words at None = tt

-- So it is of a key, of a table and of a range.
stale-fits : (tables : List TableDecl) (words : List (List ℕ)) → Every IsCommitReply (stale_replies tables words)
stale-fits tables words =
    let key = stale_reply words 3 (key_named tables words) in
    let table = stale_reply words 3 (table_named tables words) in
    let range = stale_reply words 5 (range_named tables words) in
    every-append IsCommitReply (key ++ table) range
    (every-append IsCommitReply key table (stale-one words 3 (key_named tables words)) (stale-one words 3 (table_named tables words)))
    (stale-one words 5 (range_named tables words))

-- Each reply that is read for a command in a transaction, or for upkeep, fits it.
within-fits : (tables : List TableDecl) (words behind : List (List ℕ)) (asked : Command) → Every (FitsWithin asked) (replies_within tables words behind asked)
within-fits tables words behind (command.Begin checked) = (tt, tt)
within-fits tables words behind (command.Get table key) = every-any (replies_within tables words behind (command.Get table key))
within-fits tables words behind (command.Scan table) = (tt, (tt, tt))
within-fits tables words behind (command.Range table low high) = every-any (replies_within tables words behind (command.Range table low high))
within-fits tables words behind (command.Total table column low high) = every-any (replies_within tables words behind (command.Total table column low high))
within-fits tables words behind (command.Insert table row) = (tt, (tt, (tt, (tt, (tt, (tt, tt))))))
within-fits tables words behind (command.Update table row) = (tt, (tt, (tt, (refl, (tt, (tt, tt))))))
within-fits tables words behind (command.Delete table key) = every-any (replies_within tables words behind (command.Delete table key))
within-fits tables words behind command.Commit = (tt, (tt, stale-fits tables words))
within-fits tables words behind command.Abort = (tt, tt)
within-fits tables words behind command.Observe = (tt, tt)
within-fits tables words behind command.Prune = (tt, tt)
within-fits tables words behind (command.Compact table) = (tt, (tt, tt))
within-fits tables words behind (command.Seal table block) = ((refl, refl), (tt, (tt, (tt, (tt, (tt, (tt, (tt, tt))))))))
within-fits tables words behind (command.Gather table block) = ((refl, refl), (tt, (tt, tt)))
within-fits tables words behind (command.Export table) = (tt, (tt, dirty-fits (is_integer_of kind.I64 (integer_at words 1)) (integer_at words 1)))

-- Each reply that is read for a command outside of a transaction fits it.
without-fits : (words : List (List ℕ)) (asked : Command) → Every (FitsWithout asked) (replies_without words asked)
without-fits words (command.Begin checked) = (tt, tt)
without-fits words (command.Get table key) = (tt, tt)
without-fits words (command.Scan table) = (tt, tt)
without-fits words (command.Range table low high) = (tt, tt)
without-fits words (command.Total table column low high) = (tt, tt)
without-fits words (command.Insert table row) = (tt, tt)
without-fits words (command.Update table row) = (tt, tt)
without-fits words (command.Delete table key) = (tt, tt)
without-fits words command.Commit = (tt, tt)
without-fits words command.Abort = (tt, tt)
without-fits words command.Observe = (tt, tt)
without-fits words command.Prune = (tt, tt)
without-fits words (command.Compact table) = (tt, tt)
without-fits words (command.Seal table block) = (tt, tt)
without-fits words (command.Gather table block) = (tt, tt)
without-fits words (command.Export table) = (tt, tt)

-- what is due to a session
abbrev pub due : ℕ → ℕ → Command → Due
due round session asked = record { round = round; who = Session session; command = asked }

-- Each reply that is read for a command fits it, in a transaction or outside of one.
by-fits : (tables : List TableDecl) (words behind : List (List ℕ)) (asked : Command) (b : Bool)
    → Every (FitsBy b asked) (if b then replies_within tables words behind asked else replies_without words asked)
by-fits tables words behind asked true = within-fits tables words behind asked
by-fits tables words behind asked false = without-fits words asked

-- Each reply that is read for what is due to a session fits it.
due-fits : (tables : List TableDecl) (earlier : List Entry) (round session : ℕ) (asked : Command) (words behind : List (List ℕ))
    → Every (FitsBy (is_within (Session session) earlier || is_upkeep asked) asked) (replies_due tables earlier (due round session asked) words behind)
due-fits tables earlier round session asked words behind =
    every-filter (FitsBy (is_within (Session session) earlier || is_upkeep asked) asked) (λ told. not (false && is_silent told))
    (if is_within (Session session) earlier || is_upkeep asked then replies_within tables words behind asked else replies_without words asked)
    (by-fits tables words behind asked (is_within (Session session) earlier || is_upkeep asked))

-- The lines behind these replies are read as what is due.
abbrev pub Goes : List TableDecl → List Entry → List Due → List Entry → Type 0
Goes tables earlier dues entries = (lines : List (List ℕ)) × (reading tables dues earlier lines ≡ Ok entries)

-- the reply that is read next, and the reading behind it
pub record Answered (tables : List TableDecl) (earlier : List Entry) (round session : ℕ) (asked : Command) (dues : List Due) (entries : List Entry) : Type 0 where
  pub told : Said
  pub fits : FitsBy (is_within (Session session) earlier || is_upkeep asked) asked told
  pub rest : Goes tables (earlier ++ entry_behind tables earlier (due round session asked) told ∷ []) dues entries

-- Where a reading goes on with an entry and succeeds, there was an entry.
chosen : (at : Option Entry) (next : Entry → Result (List Entry) ℕ) (fail : ℕ) (entries : List Entry)
    → elim at as (λ o. Result (List Entry) ℕ) [ Some entry ↦ next entry | None ↦ Err fail ] ≡ Ok entries → (entry : Entry) × (at ≡ Some entry) × (next entry ≡ Ok entries)
chosen (Some entry) next fail entries h = (entry, refl, h)
chosen None next fail entries h = absurd (let never : ⊥ = cc in never)

-- Lines that are read as a due command and more begin with an answer to it.
step-at : (tables : List TableDecl) (earlier : List Entry) (round session : ℕ) (asked : Command) (dues : List Due) (entries : List Entry) (lines : List (List ℕ))
    → reading tables (due round session asked ∷ dues) earlier lines ≡ Ok entries → Answered tables earlier round session asked dues entries
step-at tables earlier round session asked dues entries [] is = absurd (let never : ⊥ = cc in never)
step-at tables earlier round session asked dues entries (line ∷ behind) is =
    let its = due round session asked in
    let taken = chosen (reply_at tables earlier its line behind) (λ entry. reading tables dues (earlier ++ entry ∷ []) (drop (line_count tables entry) (line ∷ behind)))
    (next_line tables earlier + lines_begun tables earlier its line behind) entries is in
    let found = found-image (begins_with tables (line ∷ behind)) (entry_behind tables earlier its) (FitsBy (is_within (Session session) earlier || is_upkeep asked) asked)
    (replies_due tables earlier its (drop 3 (words_in line)) behind) taken.0 (due-fits tables earlier round session asked (drop 3 (words_in line)) behind) taken.1 in
    record {
      told = found.0;
      fits = found.2;
      rest = subst (λ (e : Entry). Goes tables (earlier ++ e ∷ []) dues entries) (sym found.1) (drop (line_count tables taken.0) (line ∷ behind), taken.2);
    }

-- What is due next is answered.
pub step : (tables : List TableDecl) (earlier : List Entry) (round session : ℕ) (asked : Command) (dues : List Due) (entries : List Entry)
    → Goes tables earlier (due round session asked ∷ dues) entries → Answered tables earlier round session asked dues entries
step tables earlier round session asked dues entries h = step-at tables earlier round session asked dues entries h.0 h.1

-- where nothing more is due, that is all
done-at : (tables : List TableDecl) (earlier entries : List Entry) (lines : List (List ℕ)) → reading tables [] earlier lines ≡ Ok entries → entries ≡ earlier
done-at tables earlier entries [] is = let e : earlier ≡ entries = cc in sym e
done-at tables earlier entries (line ∷ lines) is = absurd (let never : ⊥ = cc in never)

-- where nothing is due any more, the replies that were read are all
pub done : (tables : List TableDecl) (earlier entries : List Entry) → Goes tables earlier [] entries → entries ≡ earlier
done tables earlier entries h = done-at tables earlier entries h.0 h.1

-- ---- whether a session is in a transaction

-- one more reply changes only whether its own session is in a transaction
pub within-more : (who : Who) (earlier : List Entry) (e : Entry)
    → is_within who (earlier ++ e ∷ []) ≡ cond (is_same e.reply.who who) (within_behind (is_within who earlier) e.reply.said) (is_within who earlier)
within-more who earlier e =
    ap (λ (es : List Entry). fold within_behind false (map (λ entry. entry.reply.said) es)) (filter-append (λ entry. is_same entry.reply.who who) earlier (e ∷ []))
    ∙ by (is_same e.reply.who who)
  where
    by : (b : Bool) → fold within_behind false (map (λ (entry : Entry). entry.reply.said) (filter (λ entry. is_same entry.reply.who who) earlier ++ cond b (e ∷ []) []))
        ≡ cond b (within_behind (is_within who earlier) e.reply.said) (is_within who earlier)
    by true =
        ap (fold within_behind false) (map-append (λ (entry : Entry). entry.reply.said) (filter (λ entry. is_same entry.reply.who who) earlier) (e ∷ []))
        ∙ fold_push within_behind false (map (λ (entry : Entry). entry.reply.said) (filter (λ entry. is_same entry.reply.who who) earlier)) e.reply.said
    by false =
        ap (fold within_behind false) (map-append (λ (entry : Entry). entry.reply.said) (filter (λ entry. is_same entry.reply.who who) earlier) [] ∙ nothing (map (λ (entry : Entry). entry.reply.said) (filter (λ entry. is_same entry.reply.who who) earlier)))
      where
        nothing : (xs : List Said) → xs ++ [] ≡ xs
        nothing [] = refl
        nothing (x ∷ xs) = ap (λ ys. x ∷ ys) (nothing xs)

-- what a reply that fits leaves of it
pub within-insert : (told : Said) → IsInsertReply told → within_behind true told ≡ true
within-insert said.Accepted h = refl
within-insert said.Exists h = refl
within-insert said.Full h = refl
within-insert said.Memory h = refl
within-insert (said.ConflictSession session) h = refl
within-insert (said.ConflictCommit number) h = refl
within-insert _ h = absurd h

-- behind an update the session is in its transaction still
pub within-update : (told : Said) → IsUpdateReply 0 told → within_behind true told ≡ true
within-update said.Accepted h = refl
within-update said.Missing h = refl
within-update said.Memory h = refl
within-update (said.Freezing of block stamp) h = refl
within-update (said.ConflictSession session) h = refl
within-update (said.ConflictCommit number) h = refl
within-update _ h = absurd h

-- pruning, observing and compacting open and end no transaction
pub within-count : (b : Bool) (told : Said) → IsCountReply told → within_behind b told ≡ b
within-count b (said.Cooling count) h = refl
within-count b (said.Pruned count) h = refl
within-count b (said.Moved count) h = refl
within-count b said.Memory h = refl
within-count b _ h = absurd h

-- nor does sealing
pub within-seal : (b : Bool) (block : ℕ) (told : Said) → IsSealReply 0 block told → within_behind b told ≡ b
within-seal b block (said.Sealed of at stamp) h = refl
within-seal b block (said.NotSealed cause) h = refl
within-seal b block _ h = absurd h

-- nor does gathering
pub within-gather : (b : Bool) (block : ℕ) (told : Said) → IsGatherReply 0 block told → within_behind b told ≡ b
within-gather b block (said.Frozen of at rows) h = refl
within-gather b block said.NotFrozen h = refl
within-gather b block said.Memory h = refl
within-gather b block _ h = absurd h

-- behind a scan the session is in its transaction still
pub within-scan : (told : Said) → IsScanReply told → within_behind true told ≡ true
within-scan (said.Scanned rows) h = refl
within-scan said.Memory h = refl
within-scan _ h = absurd h

-- behind an export too
pub within-export : (told : Said) → IsExportReply told → within_behind true told ≡ true
within-export (said.Exported number rows batches frozen) h = refl
within-export (said.Dirty key) h = refl
within-export said.Memory h = refl
within-export _ h = absurd h

-- a begin shows a snapshot, and a commit is one
pub begin-shows : (told : Said) (P : Said → Type 0) → IsBeginReply told → P told → (number : ℕ) × P (said.At number)
begin-shows (said.At number) P h p = (number, p)
begin-shows _ P h p = absurd h

-- a commit that is refused is told so
abbrev pub IsStale : Said → Type 0
IsStale (said.Stale what number) = Unit {0}
IsStale _ = ⊥

-- a commit that is not refused shows a number or none
pub commit-shows : (told : Said) (P : Said → Type 0) → IsCommitReply told → (IsStale told → ⊥) → P told → (number : Option ℕ) × P (said.Committed number)
commit-shows (said.Committed number) P h stands p = (number, p)
commit-shows (said.Stale what number) P h stands p = absurd (stands tt)
commit-shows _ P h stands p = absurd h

-- What leaves a session in its transaction ends none.
pub stays : (told : Said) → within_behind true told ≡ true → is_end told ≡ false
stays (said.Committed number) h = absurd (let never : ⊥ = cc in never)
stays said.Aborted h = absurd (let never : ⊥ = cc in never)
stays _ h = refl

-- in a transaction, outside of one, and for upkeep
pub fits-in : (b : Bool) (asked : Command) (told : Said) → b ≡ true → is_upkeep asked ≡ false → FitsBy (b || is_upkeep asked) asked told → FitsWithin asked told
fits-in true asked told is up h = h
fits-in false asked told is up h = absurd (let never : ⊥ = cc in never)

-- a begin outside of a transaction is told a snapshot
pub fits-out : (b : Bool) (told : Said) → b ≡ false → FitsBy (b || false) (command.Begin false) told → IsBeginReply told
fits-out true told is h = absurd (let never : ⊥ = cc in never)
fits-out false told is h = h

-- upkeep may be told the same outside of a transaction as in one
pub fits-upkeep : (b c : Bool) (asked : Command) (told : Said) → c ≡ true → FitsBy (b || c) asked told → FitsWithin asked told
fits-upkeep true c asked told is h = h
fits-upkeep false true asked told is h = h
fits-upkeep false false asked told is h = absurd (let never : ⊥ = cc in never)
