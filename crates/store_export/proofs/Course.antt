-- An export's reads and what it sent, block after block, and how it ends.
use Rattle.std.proofs.Common.{◌≡◌, ◌⊎◌, ℕ, ℤ, ◌+◌, ◌*◌, ◌-◌, ◌<◌, ◌≤◌, ◌^◌, Bool, true, false, List, [], ◌∷◌, ◌++◌, Option, None, Some, Ok, Err, length, map, refl, sym, ap, subst, ◌∙◌, arith}
use mathlib.Core.Logic.{inl, inr}
use native.Mathlib.Nat.{mul-add}
use Rattle.std.specs.Prelude.{Result, count_by, flat_map, option_map}
use Rattle.std.specs.Io.KnownBytes.{Appends}
use Rattle.std.proofs.KnownBytes.{Appends-nil}
use Rattle.std.proofs.lemmas.List.{map-append, length-map}
use Rattle.std.proofs.lemmas.List.FromFn.{length-range_with_len}
use Rattle.std.proofs.lemmas.Option.{same_Some}
use Rattle.arrow_spec.specs.Streams.{end_word, schema_message, stream_of}
use Rattle.byte_ports.specs.Calls.{AppendsFront, Rose}
use Rattle.cell_model.specs.declared.column.Column.{Column}
use Rattle.event_spec.specs.declared.event.Event.TheVariants as event
use Rattle.event_spec.specs.declared.own.OwnTransaction.{OwnTransaction}
use Rattle.event_spec.specs.Effects.{CoreEvent}
use Rattle.event_spec.specs.declared.reply.Reply.TheVariants as reply
use Rattle.event_spec.specs.Parts.{Parts, Shape, below, blocks_of, slots_of}
use Rattle.event_spec.specs.Replay.{columns_in}
use Rattle.event_spec.specs.Replies.{CoreReply}
use Rattle.export_spec.specs.Calls.{AreAllRead, BreaksOff, groups_told}
use Rattle.ipc_write.specs.Calls.{WriterView, MakesPiece, SinkFailed, WritesPiece}
use Rattle.ipc_write.specs.declared.faults.PieceFault.{PieceFault}
use Rattle.ipc_write.specs.declared.faults.PieceFault.TheVariants.{Sink, Memory}
use Rattle.ipc_write.specs.declared.faults.SinkFault.{SinkFault}
use Rattle.run_spec.specs.Asked.{at_blocks, events_of}
use Rattle.run_spec.specs.Calls.{Call, IsCallBy, IsPart, IsWhole, is_cut_short, is_memory, reads_behind}
use Rattle.run_spec.specs.Occurrences.{Occurrence, events_in, replies_in}
use Rattle.run_spec.specs.Opened.{least_written}
use Rattle.run_spec.specs.Told.{is_shared, is_some_row, refusal_of, rows_told, summary_of}
use Rattle.shared_store.specs.Reading.{IsReadOf, ReadsBlock, Went}
use Rattle.shared_store.specs.Scanning.{ArePlain}
use Rattle.shared_store.specs.Store.{Answers, IsFree, IsSession, KeepsLend, StoreView, TookPartsOf, own_of, seen, shape_in, taken_by, view_of, reads_of, swept, Notes, wrote_of}
use Rattle.shared_store.proofs.Noted.{unwritten}
use Rattle.shared_store.specs.declared.session.Session.{Session}
use Rattle.shared_store.proofs.Calls.{ends_call, refused_call, took_none}
use Rattle.shared_store.proofs.Claims.{keeps_none, keeps_stays}
use Rattle.shared_store.proofs.Counted.{count_more, count_one, le_more, rows_all, rows_more, rows_one, sum_steps}
use Rattle.shared_store.proofs.Scanned.{below_more, is_asked, one_read, plain_added, plain_cut, plain_cut_behind, plain_granted, plain_reads, read_at, rest_of, unlent_call, went_nowhere, went_on}
use Rattle.workload_spec.specs.declared.command.Command.TheVariants as command
use Rattle.workload_spec.specs.declared.reply.Said.{Said}
use Rattle.workload_spec.specs.declared.reply.Said.TheVariants as said
use Rattle.store_export.specs.Exports.{ExportsCounted, SendsBlock, counted}
use Rattle.store_export.specs.Groups.{group_message}
use Rattle.store_export.specs.Writers.{LeavesByPiece, SinkFailed as LeavesSink}
use Rattle.store_export.specs.declared.exporting.ExportFault.{ExportFault}
use Rattle.store_export.specs.declared.exporting.ExportFault.TheVariants as export_fault
use Rattle.store_export.specs.declared.exporting.Summary.{Summary}
use Rattle.store_export.specs.declared.sent.Sent.{Sent}
use Rattle.store_export.proofs.Breaking.{HasBroken, HasSent, breaks_before, breaks_behind, breaks_first, breaks_last, breaks_nowhere, breaks_there, breaks_within, sending_begins, sending_ends, sending_goes_on}
use Rattle.shared_store.specs.Reads.{ReadSet}
use Rattle.shared_store.proofs.ReadSets.{swept_export, swept_session}
use Rattle.event_spec.specs.Lawful.{HasTable}

-- An event of a session at these parts, with its reply.
abbrev event_at : ℕ → Parts → CoreEvent → CoreReply → Occurrence
event_at session parts event told = record { session = session; before = parts; event = event; reply = told }

-- ---- what replies count

-- Whether a reply told a row at all.
abbrev with_row : CoreReply → Bool
with_row told = is_some_row (rows_told told)

-- ---- steps

-- A product is no less where its second factor is no less.
times_most : (a b c : ℕ) → b ≤ c → a * b ≤ a * c
times_most a b c le =
    let apart : c ≡ b + (c - b) = omega (arith, le) in
    subst (λ n. a * b ≤ n) (sym (ap (λ n. a * n) apart ∙ mul-add a b (c - b))) (le_more (a * b) (a * (c - b)))

-- Steps within a bound are within any that is no less.
sum_most : (spent a b later : ℕ) → later ≤ spent + a → a ≤ b → later ≤ spent + b
sum_most spent a b later first then = omega (arith, first, then)

-- one block more, of which no slot is looked at where it is frozen
steps_more : (slots spent steps later k frozen more : ℕ) → frozen ≤ k → more ≤ 1 → steps ≤ spent + slots * (k - frozen) → later ≤ steps + slots * (1 - more)
    → later ≤ spent + slots * ((k + 1) - (frozen + more))
steps_more slots spent steps later k frozen more le one first then =
    let apart : (k + 1) - (frozen + more) ≡ (k - frozen) + (1 - more) = omega (arith, le, one) in
    subst (λ n. later ≤ spent + n) (sym (ap (λ n. slots * n) apart ∙ mul-add slots (k - frozen) (1 - more)))
    (sum_steps spent (slots * (k - frozen)) (slots * (1 - more)) steps later first then)

-- of all blocks there are no fewer
steps_rest : (slots spent later k blocks frozen : ℕ) → k ≤ blocks → later ≤ spent + slots * (k - frozen) → later ≤ spent + slots * (blocks - frozen)
steps_rest slots spent later k blocks frozen le first =
    sum_most spent (slots * (k - frozen)) (slots * (blocks - frozen)) later first (times_most slots (k - frozen) (blocks - frozen) (omega (arith, le)))

-- ---- a sink that fails

-- A count that rose from one moment rose from another with the same count.
rose_since : (before between now : ℕ) → between ≡ before → Rose between now → Rose before now
rose_since before between now same rose = subst (λ n. Rose n now) same rose

-- a call of the sink failed, of a writer that had not failed
sink_fails : {W : Type 0} (written : W → Option (List ℕ)) (faults : W → ℕ) (old new : WriterView W) (piece : List ℕ) (earlier : Bool)
    → old.failed ≡ false → SinkFailed written faults old new piece earlier
    → Rose (faults old.sink) (faults new.sink) × AppendsFront (written old.sink) (written new.sink) piece
sink_fails written faults old new piece true fresh failed = absurd (let both : true ≡ false = sym failed.0 ∙ fresh in let never : ⊥ = cc in never)
sink_fails written faults old new piece false fresh failed = (failed.3, failed.2)

-- of a writer that had not failed at the start or since
module _ {W : Type 0} (written : W → Option (List ℕ)) (faults : W → ℕ) (start old new : WriterView W) (piece : List ℕ)
    (first : start.failed ≡ false) (fresh : old.failed ≡ false) (kept : faults old.sink ≡ faults start.sink) where
  -- the sink failed now
  broke_now : (earlier : Bool) → SinkFailed written faults old new piece earlier → LeavesSink faults start new earlier
  broke_now true failed = absurd (let both : true ≡ false = sym failed.0 ∙ fresh in let never : ⊥ = cc in never)
  broke_now false failed = record { before = first; after = failed.1; rose = rose_since (faults start.sink) (faults old.sink) (faults new.sink) kept failed.3 }

  -- a piece that failed leaves the writer so
  pub piece_leaves : (T S : Type 0) (fault : PieceFault) → MakesPiece {T = T} written faults old new piece (Err fault) → LeavesByPiece {T = S} faults start new (Err fault)
  piece_leaves T S (Sink fault) failed = broke_now fault.earlier failed
  piece_leaves T S (Memory refused) failed = record { before = first; after = ap (λ (w : WriterView W). w.failed) failed.1 ∙ fresh; kept = ap (λ (w : WriterView W). faults w.sink) failed.1 ∙ kept }

  -- so does the end that failed
  pub end_leaves : (T S : Type 0) (fault : SinkFault) → WritesPiece {T = T} written faults old new piece (Err fault) → LeavesByPiece {T = S} faults start new (Err (Sink fault))
  end_leaves T S fault failed = broke_now fault.earlier failed

  -- its fault is no earlier one
  pub piece_is_now : (T : Type 0) (fault : PieceFault) → MakesPiece {T = T} written faults old new piece (Err fault) → fault ≡ Sink (record { earlier = true }) → ⊥
  piece_is_now T (Sink fault) failed is =
      let same : fault.earlier ≡ true = is_earlier fault is in
      let both : true ≡ false = sym (subst (SinkFailed written faults old new piece) same failed).0 ∙ fresh in cc
    where
      is_earlier : (fault : SinkFault) → Sink fault ≡ Sink (record { earlier = true }) → fault.earlier ≡ true
      is_earlier fault is = let same : fault ≡ record { earlier = true } = cc in ap (λ (f : SinkFault). f.earlier) same
  piece_is_now T (Memory refused) failed is = cc

-- A table that was not sent for this fault, and an export that was not.
abbrev pub of_piece : PieceFault → Result Sent PieceFault
of_piece fault = Err fault

abbrev pub of_sink : SinkFault → Result Summary ExportFault
of_sink fault = Err (export_fault.Sink fault)

-- Results that are the same error have the same fault.
pub same_fault : (a b : PieceFault) → of_piece a ≡ of_piece b → a ≡ b
same_fault a b is = cc

-- The fault of a sink that an export tells is that of its pieces.
pub piece_fault : (a b : SinkFault) → of_sink a ≡ of_sink b → of_piece (Sink a) ≡ of_piece (Sink b)
piece_fault a b is = let same : a ≡ b = cc in ap (λ (f : SinkFault). of_piece (Sink f)) same

-- The first piece of a writer, which had failed or not, leaves it so where it fails.
pub first_leaves : {W : Type 0} (T S : Type 0) (written : W → Option (List ℕ)) (faults : W → ℕ) (old new : WriterView W) (piece : List ℕ) (fault : PieceFault)
    → MakesPiece {T = T} written faults old new piece (Err fault) → LeavesByPiece {T = S} faults old new (Err fault)
first_leaves {W} T S written faults old new piece (Sink fault) failed = go fault.earlier failed
  where
    go : (earlier : Bool) → SinkFailed written faults old new piece earlier → LeavesSink faults old new earlier
    go true failed = record { failed = failed.0; same = failed.1 }
    go false failed = record { before = failed.0; after = failed.1; rose = failed.3 }
first_leaves {W} T S written faults old new piece (Memory refused) failed =
    record { before = failed.0; after = ap (λ (w : WriterView W). w.failed) failed.1 ∙ failed.0; kept = ap (λ (w : WriterView W). faults w.sink) failed.1 }

-- ---- reads and messages

-- So many blocks of the table were read, and their messages were sent.
pub record Sending
    (store : StoreView) (old new : Session) (own : OwnTransaction) (table count : ℕ)
    (before now : Option (List ℕ)) (sent : Sent) (spent steps : ℕ)
    : Type 0 where
  pub made : List Occurrence
  pub went : Went store old new (at_blocks (shape_in store) table (event.Read own table)) made
  pub events : events_in made ≡ map (event.Read own table) (below count)
  pub plain : ArePlain made
  pub gone : HasSent (columns_in (shape_in store) table) made before now
  pub rows_are : sent.rows ≡ length (flat_map rows_told (replies_in made))
  pub batches_are : sent.batches ≡ count_by (λ told. is_some_row (rows_told told)) (replies_in made)
  pub frozen_are : sent.frozen ≡ count_by is_shared (replies_in made)
  pub rows_few : sent.rows ≤ 2 ^ 15 * count
  pub batches_few : sent.batches ≤ count
  pub frozen_few : sent.frozen ≤ count
  pub steps_few : steps ≤ spent + slots_of (shape_in store) table * (count - sent.frozen)

module _ (store : StoreView) (own : OwnTransaction) (t : ℕ) where
  -- The shape of the parts of the store.
  abbrev sh : Shape
  sh = shape_in store

  -- The columns of the table that is exported.
  abbrev columns : List Column
  columns = columns_in sh t

  -- The reads that an export asks for, one for each block of the table.
  abbrev asked : List CoreEvent
  asked = at_blocks sh t (event.Read own t)

  -- the schema has gone
  pub sending_starts : (s : Session) (before now : Option (List ℕ)) (nothing : Sent) (spent : ℕ) → IsSession store s → nothing.rows ≡ 0 → nothing.batches ≡ 0 → nothing.frozen ≡ 0
      → Appends before now (schema_message columns) → Sending store s s own t 0 before now nothing spent spent
  sending_starts s before now nothing spent is rows batches frozen gone = record {
    made = [];
    went = went_nowhere store s asked is;
    events = refl;
    plain = tt;
    gone = sending_begins columns before now gone;
    rows_are = rows;
    batches_are = batches;
    frozen_are = frozen;
    rows_few = omega (arith, rows);
    batches_few = omega (arith, batches);
    frozen_few = omega (arith, frozen);
    steps_few = le_more spent (slots_of sh t * (0 - nothing.frozen));
  }

  -- each read is an event
  pub sending_count : (old new : Session) (k : ℕ) (before now : Option (List ℕ)) (sent : Sent) (spent steps : ℕ) → (s : Sending store old new own t k before now sent spent steps) → length s.made ≡ k
  sending_count old new k before now sent spent steps s =
      let a : length (events_in s.made) ≡ length s.made = length-map s.made (λ (o : Occurrence). o.event) in
      let b : length {A = CoreEvent} (map (event.Read own t) (below k)) ≡ length (below k) = length-map (below k) (event.Read own t) in
      let c : length (below k) ≡ k = length-range_with_len 0 k in
      sym a ∙ ap (λ (es : List CoreEvent). length es) s.events ∙ b ∙ c

  -- a block has few rows, and is one batch at most
  pub more_few : {W : Type 0} (written : W → Option (List ℕ)) (faults : W → ℕ) (old new : Session) (at : ℕ) (before now : WriterView W) (spent steps : ℕ) (more : Sent)
      → SendsBlock store old new own t at written faults before now spent steps (Ok more) → (more.rows ≤ 2 ^ 15) × (more.batches ≤ 1) × (more.frozen ≤ 1)
  more_few written faults old new at before now spent steps more b =
      let rows_now : more.rows ≡ rows_all (b.told ∷ []) = ap (λ (x : Sent). x.rows) b.counts in
      let batch_now : more.batches ≡ count_by with_row (b.told ∷ []) = ap (λ (x : Sent). x.batches) b.counts in
      let frozen_now : more.frozen ≡ count_by is_shared (b.told ∷ []) = ap (λ (x : Sent). x.frozen) b.counts in
      let one = rows_one b.told in
      let most = b.reads.few in
      let slots = b.slots in
      let batch = count_one with_row b.told in
      let frozen = count_one is_shared b.told in
      (omega (arith, rows_now, one, most, slots), omega (arith, batch_now, batch), omega (arith, frozen_now, frozen))

  -- one read more
  module _ (old mid new : Session) (k : ℕ) (before between : Option (List ℕ)) (sent : Sent) (spent steps : ℕ) (told : CoreReply)
      (s : Sending store old mid own t k before between sent spent steps) (r : ReadsBlock store mid new own t k told) (keeps : KeepsLend (view_of mid) (view_of new))
      (parts : Parts) (one : r.made ≡ event_at mid.session parts (event.Read own t k) told ∷ []) (lt : k < blocks_of sh t) where
    abbrev next : Occurrence
    next = read_at old own t k parts told

    abbrev further : List Occurrence
    further = s.made ++ next ∷ []

    went_further : Went store old new asked further
    went_further = went_on store old mid new own t k told asked s.made s.went r (is_asked store own t k lt) keeps parts one

    events_further : events_in further ≡ map (event.Read own t) (below (k + 1))
    events_further =
        map-append (λ (o : Occurrence). o.event) s.made (next ∷ [])
        ∙ ap (λ es. es ++ event.Read own t k ∷ []) s.events
        ∙ sym (ap (map (event.Read own t)) (below_more k) ∙ map-append (event.Read own t) (below k) (k ∷ []))

    replies_further : replies_in further ≡ replies_in s.made ++ told ∷ []
    replies_further = map-append (λ (o : Occurrence). o.reply) s.made (next ∷ [])

    counted_further : (p : CoreReply → Bool) → count_by p (replies_in further) ≡ count_by p (replies_in s.made) + count_by p (told ∷ [])
    counted_further p = ap (count_by p) replies_further ∙ count_more p (replies_in s.made) (told ∷ [])

    rows_further : rows_all (replies_in further) ≡ rows_all (replies_in s.made) + rows_all (told ∷ [])
    rows_further = ap rows_all replies_further ∙ rows_more (replies_in s.made) told

    -- One block more is read, and its group is sent.
    sending_on : (now : Option (List ℕ)) (more later : Sent) (steps_later : ℕ) → is_memory told ≡ false → slots_of sh t ≤ 2 ^ 15
        → Appends between now (group_message columns (rows_told told)) → more ≡ counted (told ∷ []) → steps_later ≤ steps + slots_of sh t * (1 - count_by is_shared (told ∷ []))
        → later.rows ≡ sent.rows + more.rows → later.batches ≡ sent.batches + more.batches → later.frozen ≡ sent.frozen + more.frozen
        → Sending store old new own t (k + 1) before now later spent steps_later
    sending_on now more later steps_later granted slots gone counts few rows batches frozen =
        let rows_told_now : more.rows ≡ rows_all (told ∷ []) = ap (λ (x : Sent). x.rows) counts in
        let batch_now : more.batches ≡ count_by with_row (told ∷ []) = ap (λ (x : Sent). x.batches) counts in
        let frozen_now : more.frozen ≡ count_by is_shared (told ∷ []) = ap (λ (x : Sent). x.frozen) counts in
        let rows_most : length (rows_told told) ≤ slots_of sh t = r.few in
        let row_count = rows_one told in
        let batch_count = count_one with_row told in
        let frozen_count = count_one is_shared told in
        let rows_were = s.rows_few in
        let batches_were = s.batches_few in
        let frozen_were = s.frozen_few in
        let rows_are_few : more.rows ≤ 2 ^ 15 = omega (arith, rows_told_now, row_count, rows_most, slots) in
        let batch_few : more.batches ≤ 1 = omega (arith, batch_now, batch_count) in
        let frozen_few : more.frozen ≤ 1 = omega (arith, frozen_now, frozen_count) in
        let few_by_more : steps_later ≤ steps + slots_of sh t * (1 - more.frozen) = subst (λ n. steps_later ≤ steps + slots_of sh t * (1 - n)) (sym frozen_now) few in
        record {
          made = further;
          went = went_further;
          events = events_further;
          plain = plain_added s.made next s.plain granted refl;
          gone = sending_goes_on columns s.made next before between now s.gone gone;
          rows_are = rows ∙ ap (λ n. n + more.rows) s.rows_are ∙ ap (λ n. rows_all (replies_in s.made) + n) rows_told_now ∙ sym rows_further;
          batches_are = batches ∙ ap (λ n. n + more.batches) s.batches_are ∙ ap (λ n. count_by with_row (replies_in s.made) + n) batch_now ∙ sym (counted_further with_row);
          frozen_are = frozen ∙ ap (λ n. n + more.frozen) s.frozen_are ∙ ap (λ n. count_by is_shared (replies_in s.made) + n) frozen_now ∙ sym (counted_further is_shared);
          rows_few = omega (arith, rows, rows_are_few, rows_were);
          batches_few = omega (arith, batches, batch_few, batches_were);
          frozen_few = omega (arith, frozen, frozen_few, frozen_were);
          steps_few = subst (λ n. steps_later ≤ spent + slots_of sh t * ((k + 1) - n)) (sym frozen)
              (steps_more (slots_of sh t) spent steps steps_later k sent.frozen more.frozen s.frozen_few frozen_few s.steps_few few_by_more);
        }

  -- one block more is read, and its group is sent
  pub sending_more : {W : Type 0} (written : W → Option (List ℕ)) (faults : W → ℕ) (old mid new : Session) (k : ℕ) (before : Option (List ℕ)) (between now : WriterView W) (sent more later : Sent) (spent steps steps_later : ℕ)
      → Sending store old mid own t k before (written between.sink) sent spent steps → SendsBlock store mid new own t k written faults between now steps steps_later (Ok more) → IsFree mid → k < blocks_of sh t
      → later.rows ≡ sent.rows + more.rows → later.batches ≡ sent.batches + more.batches → later.frozen ≡ sent.frozen + more.frozen
      → Sending store old new own t (k + 1) before (written now.sink) later spent steps_later
  sending_more written faults old mid new k before between now sent more later spent steps steps_later s b free lt rows batches frozen =
      let one = one_read mid.session own t k b.told b.reads.made b.reads.is_read b.granted in
      sending_on old mid new k before (written between.sink) sent spent steps b.told s b.reads (keeps_none free b.free) one.0 one.1 lt
      (written now.sink) more later steps_later b.granted b.slots b.writes.bytes b.counts b.few rows batches frozen

  -- ---- how it ends

  -- an export with these events and this line
  abbrev export_call : Option ReadSet → List Occurrence → Said → Call
  export_call read_before made line = record { command = command.Export t; made = made; told = Some line; reads = read_before }

  module _ (old : Session) (is : IsSession store old) (open' : own_of old ≡ Some own) (clean : least_written t own ≡ None) where
    asks : (made : List Occurrence) → events_of sh (own_of old) (reads_of old) old.session (command.Export t) made ≡ asked
    asks made = ap (λ o. events_of sh o (reads_of old) old.session (command.Export t) made) open'

    granted_here : refusal_of (command.Export t) (own_of old) ≡ None
    granted_here = ap (refusal_of (command.Export t)) open' ∙ ap (option_map said.Dirty) clean

    -- what the events made is the call of an export, told as it is, whose session has read what that
    -- tells
    answered : (new : Session) (read : Option ReadSet) (made : List Occurrence) (line : Said) → Went store old new asked made
        → read ≡ reads_behind (reads_of old) (command.Export t) line
        → IsWhole sh false old.session (own_of old) (export_call (reads_of old) made line) ⊎ IsPart sh old.session (own_of old) (export_call (reads_of old) made line)
        → (a : Answers store old (record new { reads = read }) (command.Export t) line) × (a.made ≡ made)
    answered new read made line w keeps either = (
      record {
        made = made;
        keeps = keeps;
        wrote = ap (λ (notes : Notes). notes.wrote) w.kept ∙ sym (unwritten made w.unwritten (wrote_of old));
        called = record {
          stretch = w.stretch;
          is_call = subst (λ o. IsCallBy sh false old.session o (refusal_of (command.Export t) o) (export_call (reads_of old) made line)) is.own
              (subst (λ r. IsCallBy sh false old.session (own_of old) r (export_call (reads_of old) made line)) (sym granted_here) either);
        };
        count = w.count;
        ends = ends_call line made (seen new) w.ends;
        reads = w.reads;
        took = subst (λ es. TookPartsOf sh es (seen old) (seen new) (taken_by old) (taken_by new)) (sym (asks made)) w.took;
      },
      refl,
    )

    -- Some reads are a call that is cut short.
    is_part : (n : ℕ) (made : List Occurrence) → n ≤ blocks_of sh t → events_in made ≡ map (event.Read own t) (below n) → is_cut_short made ≡ true
        → IsPart sh old.session (own_of old) (export_call (reads_of old) made said.Memory)
    is_part n made le events cut = record {
      may = refl;
      missed = map (event.Read own t) (rest_of (blocks_of sh t) n le).0;
      events = asks made ∙ ap (map (event.Read own t)) (rest_of (blocks_of sh t) n le).1 ∙ map-append (event.Read own t) (below n) (rest_of (blocks_of sh t) n le).0
          ∙ ap (λ es. es ++ map (event.Read own t) (rest_of (blocks_of sh t) n le).0) (sym events);
      cut = cut;
      line = refl;
    }

    -- memory was wanting behind some reads
    part_call : (new : Session) (n : ℕ) (made : List Occurrence) → n ≤ blocks_of sh t → Went store old new asked made → events_in made ≡ map (event.Read own t) (below n)
        → is_cut_short made ≡ true → (a : Answers store old new (command.Export t) said.Memory) × (a.made ≡ made)
    part_call new n made le w events cut = answered new (reads_of new) made said.Memory w (ap (λ (notes : Notes). notes.reads) w.kept) (inr (is_part n made le events cut))

    -- An export that was told so of these reads broke off.
    broke_by : (new : Session) (n : ℕ) (made : List Occurrence) (before now : Option (List ℕ)) (spent steps : ℕ) → n ≤ blocks_of sh t
        → (a : Answers store old new (command.Export t) said.Memory) × (a.made ≡ made) → IsSession store new → new.session ≡ old.session → own_of new ≡ own_of old
        → HasBroken columns (blocks_of sh t) made before now
        → steps ≤ spent + slots_of sh t * (n - count_by is_shared (replies_in made)) → ExportsCounted store old new t said.Memory before now spent steps
    broke_by new n made before now spent steps le a session same opened broken few = record {
      exports = record {
        session = session;
        same = same;
        opened = opened;
        answers = a.0;
        bytes = broken.bytes;
        sent = broken.sent;
        sends = subst (λ (os : List Occurrence). BreaksOff columns (blocks_of sh t) os broken.bytes) (sym a.1) broken.breaks;
      };
      few = subst (λ (os : List Occurrence). steps ≤ spent + slots_of sh t * (blocks_of sh t - count_by is_shared (replies_in os))) (sym a.1)
          (steps_rest (slots_of sh t) spent steps n (blocks_of sh t) (count_by is_shared (replies_in made)) le few);
    }

    -- It broke off behind these reads.
    broke : (new : Session) (n : ℕ) (made : List Occurrence) (before now : Option (List ℕ)) (spent steps : ℕ) → n ≤ blocks_of sh t → Went store old new asked made
        → events_in made ≡ map (event.Read own t) (below n) → is_cut_short made ≡ true → HasBroken columns (blocks_of sh t) made before now
        → steps ≤ spent + slots_of sh t * (n - count_by is_shared (replies_in made)) → ExportsCounted store old new t said.Memory before now spent steps
    broke new n made before now spent steps le w events cut broken few =
        broke_by new n made before now spent steps le (part_call new n made le w events cut) w.session w.same w.opened broken few

    -- the schema's message failed
    pub schema_broke : {W : Type 0} (T : Type 0) (written : W → Option (List ℕ)) (faults : W → ℕ) (start now : WriterView W) (spent : ℕ) (fault : PieceFault)
        → MakesPiece {T = T} written faults start now (schema_message columns) (Err fault)
        → ExportsCounted store old old t said.Memory (written start.sink) (written now.sink) spent spent
    schema_broke {W} T written faults start now spent fault failed =
        broke old 0 [] (written start.sink) (written now.sink) spent spent (omega arith) (went_nowhere store old asked is) refl refl (go fault failed) (le_more spent (slots_of sh t * (0 - 0)))
      where
        go : (fault : PieceFault) → MakesPiece {T = T} written faults start now (schema_message columns) (Err fault) → HasBroken columns (blocks_of sh t) [] (written start.sink) (written now.sink)
        go (Sink sink) failed = by sink.earlier failed
          where
            by : (earlier : Bool) → SinkFailed written faults start now (schema_message columns) earlier → HasBroken columns (blocks_of sh t) [] (written start.sink) (written now.sink)
            by true failed = subst (λ (w : WriterView W). HasBroken columns (blocks_of sh t) [] (written start.sink) (written w.sink)) (sym failed.1) (breaks_nowhere columns (blocks_of sh t) (written start.sink))
            by false failed = breaks_first columns (blocks_of sh t) (written start.sink) (written now.sink) failed.2
        go (Memory refused) failed = subst (λ (w : WriterView W). HasBroken columns (blocks_of sh t) [] (written start.sink) (written w.sink)) (sym failed.1) (breaks_nowhere columns (blocks_of sh t) (written start.sink))

    -- A block was read or lent, and its message failed, or a read was refused memory.
    read_broke : {W : Type 0} (written : W → Option (List ℕ)) (faults : W → ℕ) (mid new : Session) (k : ℕ) (before : Option (List ℕ)) (between now : WriterView W) (sent : Sent) (spent steps later : ℕ)
        (fault : PieceFault) → Sending store old mid own t k before (written between.sink) sent spent steps → between.failed ≡ false → IsFree mid → k < blocks_of sh t
        → (b : SendsBlock store mid new own t k written faults between now steps later (Err fault))
        → (parts : Parts) → b.reads.made ≡ event_at mid.session parts (event.Read own t k) b.told ∷ [] → ExportsCounted store old new t said.Memory before (written now.sink) spent later
    read_broke {W} written faults mid new k before between now sent spent steps later fault s fresh free lt b parts one =
        let last = read_at old own t k parts b.told in
        let keeps : KeepsLend (view_of mid) (view_of new) = keeps_none free b.free in
        let few = steps_more (slots_of sh t) spent steps later k sent.frozen (count_by is_shared (b.told ∷ [])) s.frozen_few (count_one is_shared b.told) s.steps_few b.few in
        broke new (k + 1) (s.made ++ last ∷ []) before (written now.sink) spent later (omega (arith, lt))
        (went_further old mid new k before (written between.sink) sent spent steps b.told s b.reads keeps parts one lt)
        (events_further old mid new k before (written between.sink) sent spent steps b.told s b.reads keeps parts one lt)
        (plain_cut_behind s.made last s.plain refl)
        (go fault b.writes)
        (subst (λ n. later ≤ spent + slots_of sh t * ((k + 1) - n))
        (ap (λ n. n + count_by is_shared (b.told ∷ [])) s.frozen_are ∙ sym (counted_further old mid new k before (written between.sink) sent spent steps b.told s b.reads keeps parts one lt is_shared)) few)
      where
        go : (fault : PieceFault) → MakesPiece {T = Sent} written faults between now (group_message columns (rows_told b.told)) (Err fault)
            → HasBroken columns (blocks_of sh t) (s.made ++ read_at old own t k parts b.told ∷ []) before (written now.sink)
        go (Sink sink) failed = breaks_within columns (blocks_of sh t) s.made (read_at old own t k parts b.told) before (written between.sink) (written now.sink) s.gone
            (sink_fails written faults between now (group_message columns (rows_told b.told)) sink.earlier fresh failed).1
        go (Memory refused) failed = subst (λ (w : WriterView W). HasBroken columns (blocks_of sh t) (s.made ++ read_at old own t k parts b.told ∷ []) before (written w.sink)) (sym failed.1)
            (breaks_before columns (blocks_of sh t) s.made (read_at old own t k parts b.told) before (written between.sink) s.gone)

    -- There was no memory to lend a block behind some reads.
    unlent : (mid new : Session) (k : ℕ) (made : List Occurrence) (told : CoreReply) → Went store old mid asked made → (r : ReadsBlock store mid new own t k told) → KeepsLend (view_of mid) (view_of new)
        → k < blocks_of sh t → r.made ≡ [] → events_in made ≡ map (event.Read own t) (below k) → ArePlain made
        → (a : Answers store old new (command.Export t) said.Memory) × (a.made ≡ made)
    unfolding unlent_call
    unlent mid new k made told w r keeps lt none' events plain = (
      unlent_call store old mid new own t k told (command.Export t) asked made is w r (is_asked store own t k lt) keeps none'
          (plain_reads own t made (below k) events plain) (asks made) granted_here (is_part k made (omega (arith, lt)) events (plain_cut made plain)),
      refl,
    )

    -- There was no memory to lend the block: nothing of it was sent.
    unlent_broke : {W : Type 0} (written : W → Option (List ℕ)) (faults : W → ℕ) (mid new : Session) (k : ℕ) (before : Option (List ℕ)) (between now : WriterView W) (sent : Sent) (spent steps later : ℕ)
        (fault : PieceFault) → Sending store old mid own t k before (written between.sink) sent spent steps → between.failed ≡ false → IsFree mid → k < blocks_of sh t
        → (b : SendsBlock store mid new own t k written faults between now steps later (Err fault))
        → b.told ≡ reply.Memory → b.reads.made ≡ [] → ExportsCounted store old new t said.Memory before (written now.sink) spent later
    unlent_broke {W} written faults mid new k before between now sent spent steps later fault s fresh free lt b told none' =
        broke_by new (k + 1) s.made before (written now.sink) spent later (omega (arith, lt))
        (unlent mid new k s.made b.told s.went b.reads (keeps_none free b.free) lt none' s.events s.plain)
        b.reads.session (b.reads.same ∙ s.went.same) (b.reads.opened ∙ s.went.opened)
        (go fault (subst (λ (told : CoreReply). MakesPiece {T = Sent} written faults between now (group_message columns (rows_told told)) (Err fault)) told b.writes))
        (subst (λ n. later ≤ spent + slots_of sh t * ((k + 1) - n)) s.frozen_are
        (let few = steps_more (slots_of sh t) spent steps later k sent.frozen 0 s.frozen_few (omega arith) s.steps_few
        (subst (λ (told : CoreReply). later ≤ steps + slots_of sh t * (1 - count_by is_shared (told ∷ []))) told b.few) in
        let same : sent.frozen + 0 ≡ sent.frozen = omega arith in subst (λ n. later ≤ spent + slots_of sh t * ((k + 1) - n)) same few))
      where
        go : (fault : PieceFault) → MakesPiece {T = Sent} written faults between now [] (Err fault) → HasBroken columns (blocks_of sh t) s.made before (written now.sink)
        go (Sink sink) failed =
            let none' = (sink_fails written faults between now [] sink.earlier fresh failed).1 in
            breaks_behind columns (blocks_of sh t) s.made before (written between.sink) (written now.sink) s.gone none'
        go (Memory refused) failed = subst (λ (w : WriterView W). HasBroken columns (blocks_of sh t) s.made before (written w.sink)) (sym failed.1)
            (breaks_there columns (blocks_of sh t) s.made before (written between.sink) s.gone)

    -- a read found no memory, or a block's message failed
    pub block_broke : {W : Type 0} (written : W → Option (List ℕ)) (faults : W → ℕ) (mid new : Session) (k : ℕ) (before : Option (List ℕ)) (between now : WriterView W) (sent : Sent) (spent steps later : ℕ)
        (fault : PieceFault) → Sending store old mid own t k before (written between.sink) sent spent steps → between.failed ≡ false → IsFree mid → k < blocks_of sh t
        → SendsBlock store mid new own t k written faults between now steps later (Err fault) → ExportsCounted store old new t said.Memory before (written now.sink) spent later
    block_broke written faults mid new k before between now sent spent steps later fault s fresh free lt b = go b.reads.is_read
      where
        go : IsReadOf mid.session own t k b.told b.reads.made → ExportsCounted store old new t said.Memory before (written now.sink) spent later
        go (inl one) = read_broke written faults mid new k before between now sent spent steps later fault s fresh free lt b one.0 one.1
        go (inr none') = unlent_broke written faults mid new k before between now sent spent steps later fault s fresh free lt b none'.0 none'.1

    -- all blocks were read
    all_read : (new : Session) (before now : Option (List ℕ)) (sent : Sent) (spent steps : ℕ) → (s : Sending store old new own t (blocks_of sh t) before now sent spent steps) → AreAllRead (blocks_of sh t) s.made
    all_read new before now sent spent steps s =
        (sending_count old new (blocks_of sh t) before now sent spent steps s, plain_granted s.made s.plain)

    -- the word that ends the stream failed
    pub end_broke : {W : Type 0} (T : Type 0) (written : W → Option (List ℕ)) (faults : W → ℕ) (new : Session) (before : Option (List ℕ)) (between now : WriterView W) (sent : Sent) (spent steps : ℕ) (fault : SinkFault)
        → Sending store old new own t (blocks_of sh t) before (written between.sink) sent spent steps → between.failed ≡ false
        → WritesPiece {T = T} written faults between now end_word (Err fault) → ExportsCounted store old new t said.Memory before (written now.sink) spent steps
    end_broke T written faults new before between now sent spent steps fault s fresh failed =
        broke new (blocks_of sh t) s.made before (written now.sink) spent steps (omega arith) s.went s.events (plain_cut s.made s.plain)
        (breaks_last columns (blocks_of sh t) s.made before (written between.sink) (written now.sink) (all_read new before (written between.sink) sent spent steps s) s.gone
        (sink_fails written faults between now end_word fault.earlier fresh failed).1)
        (subst (λ n. steps ≤ spent + slots_of sh t * (blocks_of sh t - n)) s.frozen_are s.steps_few)

    -- the stream has ended
    whole_call : (new : Session) (before now : Option (List ℕ)) (sent : Sent) (spent steps : ℕ) → (s : Sending store old new own t (blocks_of sh t) before now sent spent steps)
        → (a : Answers store old (swept t new) (command.Export t) (said.Exported own.snapshot.number sent.rows sent.batches sent.frozen)) × (a.made ≡ s.made)
    whole_call new before now sent spent steps s = answered new (reads_of (swept t new)) s.made (said.Exported own.snapshot.number sent.rows sent.batches sent.frozen) s.went
        (swept_export old new t own.snapshot.number sent.rows sent.batches sent.frozen (ap (λ (notes : Notes). notes.reads) s.went.kept)) (inl (record {
          events = s.events ∙ sym (asks s.made);
          granted = plain_granted s.made s.plain;
          line = ap (λ n. Some (said.Exported own.snapshot.number n sent.batches sent.frozen)) s.rows_are
              ∙ ap (λ n. Some (said.Exported own.snapshot.number (rows_all (replies_in s.made)) n sent.frozen)) s.batches_are
              ∙ ap (λ n. Some (said.Exported own.snapshot.number (rows_all (replies_in s.made)) (count_by with_row (replies_in s.made)) n)) s.frozen_are
              ∙ sym (ap (option_map (λ (x : OwnTransaction). summary_of x (replies_in s.made))) open');
        }))

    -- behind all blocks the end word is sent, and the export tells what it sent; its session has read
    -- the table
    pub ended : HasTable sh t → (new : Session) (before between now : Option (List ℕ)) (sent : Sent) (spent steps : ℕ) → Sending store old new own t (blocks_of sh t) before between sent spent steps
        → Appends between now end_word → ExportsCounted store old (swept t new) t (said.Exported own.snapshot.number sent.rows sent.batches sent.frozen) before now spent steps
    ended has new before between now sent spent steps s last =
        let a = whole_call new before between sent spent steps s in
        record {
          exports = record {
            session = swept_session store new t has s.went.session;
            same = s.went.same;
            opened = s.went.opened;
            answers = a.0;
            bytes = stream_of columns (groups_told s.made);
            sent = sending_ends columns s.made before between now s.gone last;
            sends = ap (λ (os : List Occurrence). stream_of columns (groups_told os)) (sym a.1);
          };
          few = subst (λ (os : List Occurrence). steps ≤ spent + slots_of sh t * (blocks_of sh t - count_by is_shared (replies_in os))) (sym a.1)
              (subst (λ n. steps ≤ spent + slots_of sh t * (blocks_of sh t - n)) s.frozen_are s.steps_few);
        }

-- ---- an export that is refused

-- The transaction wrote the table: nothing was read and nothing sent.
pub refused : (store : StoreView) (old : Session) (t : ℕ) (key : ℤ) (before : Option (List ℕ)) (spent : ℕ) → IsSession store old
    → option_map (least_written t) (own_of old) ≡ Some (Some key) → ExportsCounted store old old t (said.Dirty key) before before spent spent
refused store old t key before spent is written = record {
  exports = record {
    session = is;
    same = refl;
    opened = refl;
    answers = a.0;
    bytes = [];
    sent = Appends-nil before;
    sends = refl;
  };
  few = le_more spent (slots_of (shape_in store) t * (blocks_of (shape_in store) t - count_by is_shared (replies_in a.0.made)));
}
  where
    go : (o : Option OwnTransaction) → option_map (least_written t) o ≡ Some (Some key) → refusal_of (command.Export t) o ≡ Some (said.Dirty key)
    go None h = absurd (let never : ⊥ = cc in never)
    go (Some own) h = ap (option_map said.Dirty) (let same : least_written t own ≡ Some key = cc in same)

    a : (a : Answers store old old (command.Export t) (said.Dirty key)) × (a.made ≡ [])
    a = (
      record {
        made = [];
        keeps = refl;
        wrote = sym (unwritten [] (λ w. refl) (wrote_of old));
        called = refused_call (shape_in store) old.session (seen old) (own_of old) is.own (reads_of old) (command.Export t) (said.Dirty key) (go (own_of old) written);
        count = omega arith;
        ends = tt;
        reads = keeps_stays;
        took = took_none (shape_in store) (events_of (shape_in store) (own_of old) (reads_of old) old.session (command.Export t) []) (seen old) (taken_by old);
      },
      refl,
    )

-- ---- what the transaction wrote

-- where no written key of the table is found, the session's transaction wrote none
pub clean_here : (s : Session) (own : OwnTransaction) (t : ℕ) (found : Option ℤ) → option_map (least_written t) (own_of s) ≡ Some found → own_of s ≡ Some own → found ≡ None → least_written t own ≡ None
clean_here s own t found told is none' = same_Some (least_written t own) found (sym (ap (option_map (least_written t)) is) ∙ told) ∙ none'

-- the snapshot that is told is that of the session's transaction
pub number_here : (s : Session) (own : OwnTransaction) (number : ℕ) → option_map (λ (own : OwnTransaction). own.snapshot.number) (own_of s) ≡ Some number → own_of s ≡ Some own → own.snapshot.number ≡ number
number_here s own number told is = same_Some own.snapshot.number number (sym (ap (option_map (λ (own : OwnTransaction). own.snapshot.number)) is) ∙ told)
