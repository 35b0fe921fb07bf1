-- What is counted of the replies: the commits, what the scan tells, and what the export does.
use Rattle.std.proofs.Common.{◌≡◌, inl, inr, ℕ, ◌*◌, ◌≤◌, Bool, true, false, cond, ◌&&◌, eqb, nat_le, List, [], ◌∷◌, ◌++◌, length, All, Option, None, Some, refl, sym, ap, ◌∙◌, subst, arith}
use Rattle.std.specs.Prelude.{is_none, is_some, IsSome, unwrap_or}
use Rattle.std.specs.Cmp.Lexicographic.{pointwise}
use Rattle.std.specs.List.{AllByRecursion, filter, filter_map}
use Rattle.std.specs.Option.{option_map_or}
use Rattle.std.specs.Ordering.{int_eq}
use Rattle.std.proofs.lemmas.Bool.{and_parts, eqb-true}
use Rattle.std.proofs.lemmas.Bool.Decides.{Decides-int_eq}
use Rattle.std.proofs.lemmas.Slice.Eq.{bytes_eq-Decides}
use Rattle.std.proofs.lemmas.List.{length-append}
use Rattle.std.proofs.lemmas.List.Elements.{All-from_recursion, filter_map-append}
use Rattle.cell_model.specs.declared.cell.Cell.{Cell}
use Rattle.cell_model.specs.declared.cell.Cell.TheVariants.{Null, Num, Truth, Text, Blob}
use Rattle.isolation_spec.specs.Contents.{State, contents_of, laid_over, state_at}
use Rattle.workload_spec.specs.declared.command.Command.{Command}
use Rattle.workload_spec.specs.declared.command.Command.TheVariants as command
use Rattle.workload_spec.specs.declared.reply.Said.{Said}
use Rattle.workload_spec.specs.declared.reply.Said.TheVariants as said
use Rattle.outcome_spec.specs.Entries.{Entry, before, commit_in, is_before, not_after, shown_in}
use Rattle.outcome_spec.specs.Runs.{Run, Span, accepted_write, commit_count, seen_at, write_of, writes_in}
use Rattle.outcome_spec.specs.Answers.{is_cell, is_row, read_holds}
use Rattle.outcome_spec.specs.Tables.{blocks_at, slots_at}
use Rattle.outcome_spec.specs.Upkeep.{export_reply_holds, frozen_blocks, summary_holds}
use Rattle.isolation_spec.specs.Contents.{least_key}
use Rattle.bench_spec.specs.Counted.{counted, exported, exported_in, first_told, is_refused, scanned, scanned_in}
use Rattle.bench_spec.specs.Generated.{generated}
use Rattle.bench_laws.specs.Left.{left_by}
use Rattle.bench_laws.specs.Laws.{counts_of, rows_left}
use Rattle.bench_laws.proofs.Every.{Every, Has, every-append, every-has}
use Rattle.bench_laws.proofs.Replies.{IsInsertReply, IsUpdateReply, IsCountReply, IsSealReply, IsGatherReply, IsScanReply, IsExportReply}
use Rattle.bench_laws.proofs.Parts.{Part, Writing, Keeping, Freezing, Wrote, Last, Good, IsKept, begin, commit, replies_to, kept_entry, seal_entry, gather_entry, entries_in, entries_of, last_begin, last_scan, last_export, last_commit, last_entries, wrotes}
use Rattle.bench_laws.proofs.Told.{Told, every-reply, sound-at}
use Rattle.bench_laws.proofs.Full.{many}
use Rattle.bench_laws.proofs.Spans.{belongs-last, last_span}
use Rattle.bench_laws.proofs.Writes.{last-unwritten}
use Rattle.bench_laws.proofs.Commits.{SnapshotFacts, among-last, export-commits-none, gather-commits-none, insert-commits-none, last-unnumbered, run, scan-commits-none, seal-commits-none, snapshot-facts, update-commits-none, count-commits-none}
use Rattle.bench_laws.proofs.States.{state-is}
use Rattle.bench_laws.proofs.Accepted.{insert-accepted, numbered, update-accepted}
use Rattle.bench_laws.proofs.Left.{rows-many}
use Rattle.bench_laws.proofs.Equal.{state-left}

-- ---- rows that are tested to be one

-- Cells that are tested to be one are one.
cell-same : (a b : Cell) → is_cell a b ≡ true → a ≡ b
cell-same Null Null h = refl
cell-same (Num a) (Num b) h = ap (λ n. Num n) ((Decides-int_eq a b).0 h)
cell-same (Truth true) (Truth true) h = refl
cell-same (Truth false) (Truth false) h = refl
cell-same (Text a) (Text b) h = ap (λ n. Text n) ((bytes_eq-Decides a b).0 h)
cell-same (Blob a) (Blob b) h = ap (λ n. Blob n) ((bytes_eq-Decides a b).0 h)
cell-same a b h = absurd (let never : ⊥ = cc in never)

-- Lists whose elements are tested to be one, pair by pair, are one.
pointwise-same : {X : Type 0} (E : X → X → Bool) → ((a b : X) → E a b ≡ true → a ≡ b) → (xs ys : List X) → pointwise E xs ys ≡ true → xs ≡ ys
pointwise-same E same [] [] h = refl
pointwise-same E same [] (y ∷ ys) h = absurd (let never : ⊥ = cc in never)
pointwise-same E same (x ∷ xs) [] h = absurd (let never : ⊥ = cc in never)
pointwise-same E same (x ∷ xs) (y ∷ ys) h =
    let parts = and_parts (E x y) (pointwise E xs ys) h in
    ap (λ z. z ∷ xs) (same x y parts.0) ∙ ap (λ zs. y ∷ zs) (pointwise-same E same xs ys parts.1)

-- Rows whose cells are tested to be one are one.
rows-same : (a b : List (List Cell)) → pointwise is_row a b ≡ true → a ≡ b
rows-same a b h = pointwise-same is_row (pointwise-same is_cell cell-same) a b h

-- ---- replies that tell no rows

-- The reply tells neither scanned rows nor what was exported.
abbrev Plain : Said → Type 0
Plain (said.Scanned rows) = ⊥
Plain (said.Exported number rows batches frozen) = ⊥
Plain _ = Unit {0}

-- A reply that tells neither scan nor export has no scanned rows.
plain-scans-none : (told : Said) → Plain told → scanned_in told ≡ None
plain-scans-none (said.Scanned rows) h = absurd h
plain-scans-none _ h = refl

-- A reply that tells neither scan nor export has no exported rows.
plain-exports-none : (told : Said) → Plain told → exported_in told ≡ None
plain-exports-none (said.Exported number rows batches frozen) h = absurd h
plain-exports-none _ h = refl

-- A reply to an insert tells neither of a scan nor of an export.
insert-plain : (told : Said) → IsInsertReply told → Plain told
insert-plain (said.Scanned rows) h = h
insert-plain (said.Exported number rows batches frozen) h = h
insert-plain _ h = tt

-- An update is told neither scanned rows nor what was exported.
update-plain : (told : Said) → IsUpdateReply 0 told → Plain told
update-plain (said.Scanned rows) h = h
update-plain (said.Exported number rows batches frozen) h = h
update-plain _ h = tt

-- Pruning, observing and compacting are told neither scanned rows nor what was exported.
count-plain : (told : Said) → IsCountReply told → Plain told
count-plain (said.Scanned rows) h = h
count-plain (said.Exported number rows batches frozen) h = h
count-plain _ h = tt

-- Sealing a block is told neither scanned rows nor what was exported.
seal-plain : (block : ℕ) (told : Said) → IsSealReply 0 block told → Plain told
seal-plain block (said.Scanned rows) h = h
seal-plain block (said.Exported number rows batches frozen) h = h
seal-plain block _ h = tt

-- Gathering a block is told neither scanned rows nor what was exported.
gather-plain : (block : ℕ) (told : Said) → IsGatherReply 0 block told → Plain told
gather-plain block (said.Scanned rows) h = h
gather-plain block (said.Exported number rows batches frozen) h = h
gather-plain block _ h = tt

-- Each reply of a part tells neither scanned rows nor what was exported.
part-plain : (seed : ℕ) (part : Part) → Good seed part → Every (λ e. Plain e.reply.said) (entries_of part)
part-plain seed (Writing w) good = (tt, (insert-plain w.insert_said good.insert_fits, (update-plain w.update_said good.update_fits, (tt, tt))))
part-plain seed (Keeping k) good = (count-plain k.told good.1, tt)
part-plain seed (Freezing f) good = (seal-plain f.block f.seal_said good.0, (gather-plain f.block f.gather_said good.1, tt))

-- Behind replies that tell neither scan nor export, the first told is the rest's.
first-behind : {X : Type 0} (f : Said → Option X) → ((told : Said) → Plain told → f told ≡ None) → (front rest : List Entry) → Every (λ e. Plain e.reply.said) front → first_told f (front ++ rest) ≡ first_told f rest
first-behind f none [] rest h = refl
first-behind f none (e ∷ front) rest h = rw (none e.reply.said h.0) (first-behind f none front rest h.1)

-- Where no reply is of an accepted write, those that a filter keeps write nothing.
nothing-written : (p : Entry → Bool) (xs : List Entry) → ((x : Entry) → Has x xs → accepted_write x ≡ None) → filter_map accepted_write (filter p xs) ≡ []
nothing-written p [] none = refl
nothing-written p (x ∷ xs) none = by (p x) (none x (inl refl)) (nothing-written p xs (λ y has. none y (inr has)))
  where
    by : (b : Bool) → accepted_write x ≡ None → filter_map accepted_write (filter p xs) ≡ [] → filter_map accepted_write (cond b (x ∷ filter p xs) (filter p xs)) ≡ []
    by true here rest = rw here rest
    by false here rest = rest

-- ---- the commits

-- A transaction with a number shows it as its one commit, in front of the rest's.
one-commit : (w : Wrote) (k : ℕ) (rest : List Entry) → commit_in w.insert_said ≡ None → commit_in w.update_said ≡ None → w.number ≡ Some k → shown_in commit_in (replies_to w ++ rest) ≡ k ∷ shown_in commit_in rest
one-commit w k rest a b c = rw (a, b, c) refl

-- Where each transaction has a number, the parts show as many commits as transactions.
parts-commits : (seed : ℕ) (parts : List Part) → Every (Good seed) parts → ((w : Wrote) → Has w (wrotes parts) → (k : ℕ) × (w.number ≡ Some k)) → length (shown_in commit_in (entries_in parts)) ≡ length (wrotes parts)
parts-commits seed [] good numbers = refl
parts-commits seed (Writing w ∷ parts) good numbers =
    let k = numbers w (inl refl) in
    let one = one-commit w k.0 (entries_in parts) (insert-commits-none w.insert_said good.0.insert_fits) (update-commits-none w.update_said good.0.update_fits) k.1 in
    let rest = parts-commits seed parts good.1 (λ v has. numbers v (inr has)) in
    ap length one ∙ omega (arith, rest)
parts-commits seed (Keeping k ∷ parts) good numbers = rw (count-commits-none k.told good.0.1) (parts-commits seed parts good.1 numbers)
parts-commits seed (Freezing f ∷ parts) good numbers = rw (seal-commits-none f.block f.seal_said good.0.0, gather-commits-none f.block f.gather_said good.0.1) (parts-commits seed parts good.1 numbers)

-- What the first reply tells is told first.
told-first : {X : Type 0} (f : Said → Option X) (e : Entry) (rest : List Entry) (x : X) → f e.reply.said ≡ Some x → first_told f (e ∷ rest) ≡ Some x
told-first {X} f e rest x h = ap (λ (o : Option X). elim o as (λ p. Option X) [ Some value ↦ Some value | None ↦ first_told f rest ]) h

-- Where the first reply tells nothing, what the rest tells first is.
told-next : {X : Type 0} (f : Said → Option X) (e : Entry) (rest : List Entry) → f e.reply.said ≡ None → first_told f (e ∷ rest) ≡ first_told f rest
told-next {X} f e rest h = ap (λ (o : Option X). elim o as (λ p. Option X) [ Some value ↦ Some value | None ↦ first_told f rest ]) h

-- The rows that the last round's scan is told are the first it tells.
last-scanned : (l : Last) (rows : List (List Cell)) → l.scan_said ≡ said.Scanned rows → first_told scanned_in (last_entries l) ≡ Some rows
last-scanned l rows is =
    told-next scanned_in (last_begin l) (last_scan l ∷ last_export l ∷ last_commit l ∷ []) refl
    ∙ told-first scanned_in (last_scan l) (last_export l ∷ last_commit l ∷ []) rows (ap scanned_in is)

-- The count that the last round's export is told is the first it tells.
last-exported : (l : Last) (rows : List (List Cell)) (count : ℕ) → l.scan_said ≡ said.Scanned rows → exported_in l.export_said ≡ Some count → first_told exported_in (last_entries l) ≡ Some count
last-exported l rows count is exports =
    told-next exported_in (last_begin l) (last_scan l ∷ last_export l ∷ last_commit l ∷ []) refl
    ∙ told-next exported_in (last_scan l) (last_export l ∷ last_commit l ∷ []) (ap exported_in is)
    ∙ told-first exported_in (last_export l) (last_commit l ∷ []) count exports

-- A scan that was not refused memory is told rows.
scan-rows : (told : Said) → IsScanReply told → is_refused told ≡ false → (rows : List (List Cell)) × (told ≡ said.Scanned rows)
scan-rows (said.Scanned rows) fits granted = (rows, refl)
scan-rows said.Memory fits granted = absurd (let never : ⊥ = cc in never)
scan-rows _ fits granted = absurd fits

-- The first two of seven that are all true.
two-of-seven : (a b c d e f g : Bool) → (a && b && c && d && e && f && g) ≡ true → (a ≡ true) × (b ≡ true)
two-of-seven true true c d e f g h = (refl, refl)
two-of-seven false b c d e f g h = absurd (let never : ⊥ = cc in never)
two-of-seven true false c d e f g h = absurd (let never : ⊥ = cc in never)

-- an export shows its snapshot, and how many rows there are at it
summary-parts : (its : Run) (t : Span) (e : Entry) (table number rows batches frozen : ℕ) → summary_holds its t e table number rows batches frozen ≡ true
    → (number ≡ t.snapshot) × (rows ≡ length (contents_of table (state_at its.history number)))
summary-parts its t e table number rows batches frozen h =
    let parts = two-of-seven (eqb number t.snapshot) (eqb rows (length (contents_of table (state_at its.history number)))) (nat_le frozen batches) (nat_le batches rows)
    (nat_le rows (batches * slots_at its.tables table)) (nat_le batches (blocks_at its.tables table)) (nat_le frozen (frozen_blocks its.tables table (not_after its.entries e))) h in
    (eqb-true number t.snapshot parts.0, eqb-true rows (length (contents_of table (state_at its.history number))) parts.1)

module _ (seed size : ℕ) (small : 4 * size ≤ 32768) (replies : List Entry) (told : Told seed size replies) where
  -- The run that the replies tell.
  abbrev the_run : Run
  the_run = run seed size replies told

  -- The last round of the output.
  abbrev l : Last
  l = told.last

  -- as many commits show numbers as the write rounds have transactions
  pub commits-are : commit_count replies ≡ 4 * size
  commits-are =
      let last : shown_in commit_in (last_entries l) ≡ [] =
      rw (scan-commits-none l.scan_said told.scan_fits, export-commits-none l.export_said told.export_fits, last-unnumbered seed size replies told) refl in
      let whole = ap (shown_in commit_in) told.whole ∙ filter_map-append (λ (x : Entry). commit_in x.reply.said) (entries_in told.parts) (last_entries l) ∙ ap (λ (xs : List ℕ). shown_in commit_in (entries_in told.parts) ++ xs) last in
      let front = parts-commits seed told.parts told.good (λ w has. numbered seed size small replies told w has) in
      let split = length-append (shown_in commit_in (entries_in told.parts)) [] in
      let count = many seed size replies told in
      ap length whole ∙ omega (arith, split, front, count)

  -- ---- the last round

  -- No reply of the last round was refused memory.
  granted : (e : Entry) → Has e (last_entries l) → is_refused e.reply.said ≡ false
  granted e has = every-has (λ x. is_refused x.reply.said ≡ false) replies e told.unrefused (among-last seed size replies told e has)

  -- Nothing of the last round is written before a reply of it.
  own-none : (e : Entry) → writes_in (before (last_entries l) e) ≡ []
  own-none e = rw (nothing-written (λ other. is_before other e) (last_entries l) (last-unwritten l told.scan_fits told.export_fits)) refl

  -- What is known of the last round's snapshot.
  facts : SnapshotFacts seed size replies told (last_begin l) l.snapshot
  facts = snapshot-facts seed size replies told (last_begin l) l.snapshot refl (among-last seed size replies told (last_begin l) (inl refl))

  -- The state at the last round's snapshot is what the writes leave.
  state-last : state_at the_run.history l.snapshot ≡ left_by (generated seed size)
  state-last = state-is seed size replies told l.snapshot facts.low ∙ state-left seed size small replies told

  -- The last round's scan is told rows.
  its-rows : (rows : List (List Cell)) × (l.scan_said ≡ said.Scanned rows)
  its-rows = scan-rows l.scan_said told.scan_fits (granted (last_scan l) (inr (inl refl)))

  -- The rows that the last round's scan is told are those that the writes leave.
  rows-are : its-rows.0 ≡ rows_left seed size
  rows-are =
      let e = last_scan l in
      let here : Has e (last_entries l) = inr (inl refl) in
      let sound = sound-at seed size replies told e (among-last seed size replies told e here) in
      let holds : read_holds (seen_at the_run (last_span l) e) (command.Scan 0) l.scan_said ≡ true =
      sym (ap (λ (o : Option Span). option_map_or (λ t. read_holds (seen_at the_run t e) (command.Scan 0) l.scan_said) o true) (belongs-last seed size replies told e here refl refl)) ∙ sound.reads in
      let pass : pointwise is_row its-rows.0 (contents_of 0 (seen_at the_run (last_span l) e)) ≡ true = subst (λ (s : Said). read_holds (seen_at the_run (last_span l) e) (command.Scan 0) s ≡ true) its-rows.1 holds in
      rows-same its-rows.0 (contents_of 0 (seen_at the_run (last_span l) e)) pass
      ∙ ap (λ own. contents_of 0 (laid_over (state_at the_run.history l.snapshot) own)) (own-none e)
      ∙ ap (contents_of 0) state-last

  -- Each reply of the parts tells neither scanned rows nor what was exported.
  plain : Every (λ e. Plain e.reply.said) (entries_in told.parts)
  plain = every-reply seed (λ e. Plain e.reply.said) (part-plain seed) told.parts told.good

  -- The scan tells what the writes leave.
  pub scanned-are : scanned replies ≡ rows_left seed size
  scanned-are =
      ap scanned told.whole
      ∙ ap (λ (o : Option (List (List Cell))). unwrap_or o []) (first-behind scanned_in plain-scans-none (entries_in told.parts) (last_entries l) plain)
      ∙ ap (λ (o : Option (List (List Cell))). unwrap_or o []) (last-scanned l its-rows.0 its-rows.1)
      ∙ rows-are

  -- What the last round's export is told holds of the run.
  export-holds : export_reply_holds the_run (last_span l) (last_export l) 0 l.export_said ≡ true
  export-holds =
      let e = last_export l in
      let here : Has e (last_entries l) = inr (inr (inl refl)) in
      let sound = sound-at seed size replies told e (among-last seed size replies told e here) in
      sym (ap (λ (o : Option Span). option_map_or (λ t. export_reply_holds the_run t e 0 l.export_said) o true) (belongs-last seed size replies told e here refl refl)) ∙ sound.exports

  -- An export that was not refused memory tells as many rows as the writes leave.
  its-export : (exporting : Said) → l.export_said ≡ exporting → IsExportReply exporting → is_refused exporting ≡ false → exported_in exporting ≡ Some (length (rows_left seed size))
  its-export (said.Exported number rows batches frozen) is fits given =
      let e = last_export l in
      let holds : export_reply_holds the_run (last_span l) e 0 (said.Exported number rows batches frozen) ≡ true = subst (λ (s : Said). export_reply_holds the_run (last_span l) e 0 s ≡ true) is export-holds in
      let summary = (and_parts (is_none (least_key 0 (writes_in (before (last_entries l) e)))) (summary_holds the_run (last_span l) e 0 number rows batches frozen) holds).1 in
      let parts = summary-parts the_run (last_span l) e 0 number rows batches frozen summary in
      ap (λ n. Some n) (parts.1 ∙ ap (λ n. length (contents_of 0 (state_at the_run.history n))) parts.0 ∙ ap (λ (s : State). length (contents_of 0 s)) state-last)
  its-export (said.Dirty key) is fits given =
      let holds : export_reply_holds the_run (last_span l) (last_export l) 0 (said.Dirty key) ≡ true = subst (λ (s : Said). export_reply_holds the_run (last_span l) (last_export l) 0 s ≡ true) is export-holds in
      absurd (let e : false ≡ true = sym (ap (λ own. option_map_or (int_eq key) (least_key 0 own) false) (own-none (last_export l))) ∙ holds in let never : ⊥ = cc in never)
  its-export said.Memory is fits given = absurd (let never : ⊥ = cc in never)
  its-export _ is fits given = absurd fits

  -- the export tells as many rows as the writes leave
  pub exported-are : exported replies ≡ length (rows_left seed size)
  exported-are =
      ap exported told.whole
      ∙ ap (λ (o : Option ℕ). unwrap_or o 0) (first-behind exported_in plain-exports-none (entries_in told.parts) (last_entries l) plain)
      ∙ ap (λ (o : Option ℕ). unwrap_or o 0) (last-exported l its-rows.0 (length (rows_left seed size)) its-rows.1 (its-export l.export_said refl told.export_fits (granted (last_export l) (inr (inr (inl refl))))))

  -- What is counted is that of the seed and the size.
  pub counted-are : counted replies ≡ counts_of seed size
  counted-are =
      rw (commits-are, scanned-are, exported-are, rows-many seed size) refl

-- ---- each write

-- the reply accepts what its command writes, where it writes
abbrev pub Accepts : Entry → Type 0
Accepts e = IsSome (write_of e.command) → e.reply.said ≡ said.Accepted

-- A reply to a command that writes nothing has no write to accept.
unwritten : (e : Entry) → write_of e.command ≡ None → Accepts e
unwritten e none h = absurd (let f : false ≡ true = sym (ap is_some none) ∙ h in let never : ⊥ = cc in never)

-- Pruning, observing and compacting write nothing.
kept-unwritten : (asked : Command) → IsKept asked → write_of asked ≡ None
kept-unwritten command.Observe h = refl
kept-unwritten command.Prune h = refl
kept-unwritten (command.Compact table) h = refl
kept-unwritten _ h = absurd h

-- Where each transaction's writes are accepted, each write of the parts is.
parts-accept : (seed : ℕ) (parts : List Part) → Every (Good seed) parts → ((w : Wrote) → Has w (wrotes parts) → (w.insert_said ≡ said.Accepted) × (w.update_said ≡ said.Accepted)) → Every Accepts (entries_in parts)
parts-accept seed [] good each = tt
parts-accept seed (Writing w ∷ parts) good each =
    let both = each w (inl refl) in
    (unwritten (begin w) refl, (λ h. both.0, (λ h. both.1, (unwritten (commit w) refl, parts-accept seed parts good.1 (λ v has. each v (inr has))))))
parts-accept seed (Keeping k ∷ parts) good each = (unwritten (kept_entry k) (kept-unwritten k.asked good.0.0), parts-accept seed parts good.1 each)
parts-accept seed (Freezing f ∷ parts) good each = (unwritten (seal_entry f) refl, (unwritten (gather_entry f) refl, parts-accept seed parts good.1 each))

-- What each reply accepts, in the form that goes through the list by recursion.
by-recursion : (xs : List Entry) → Every Accepts xs → AllByRecursion Accepts xs
by-recursion [] h = tt
by-recursion (x ∷ xs) h = (h.0, by-recursion xs h.1)

-- Each write of the replies is accepted.
pub all-accepted : (seed size : ℕ) → 4 * size ≤ 32768 → (replies : List Entry) → Told seed size replies → All Accepts replies
all-accepted seed size small replies told =
    All-from_recursion Accepts replies
    (by-recursion replies
    (subst (Every Accepts) (sym told.whole)
    (every-append Accepts (entries_in told.parts) (last_entries told.last)
    (parts-accept seed told.parts told.good (λ w has. (insert-accepted seed size small replies told w has, update-accepted seed size small replies told w has)))
    (unwritten (last_begin told.last) refl, (unwritten (last_scan told.last) refl, (unwritten (last_export told.last) refl, (unwritten (last_commit told.last) refl, tt)))))))
