-- What a session keeps of its open transaction's reads, from call to call.
use Rattle.std.proofs.Common.{◌≡◌, ℕ, Bool, true, false, cond, List, Option, None, Some, refl, sym, ap, subst, ◌∙◌, [], ◌∷◌}
use Rattle.std.specs.Prelude.{Result, Ok, Err, option_and_then}
use Rattle.std.specs.Ordering.{nat_cmp}
use Rattle.std.proofs.lemmas.List.Elements.{All-append, All-cons, All-nil}
use Rattle.std.proofs.lemmas.Map.Views.{All-insert_key}
use Rattle.event_spec.specs.Lawful.{HasTable}
use Rattle.event_spec.specs.Parts.{Shape, Parts, desk_at, places_at, slot_at}
use Rattle.isolation_spec.specs.Contents.{place_cmp, PlaceMap}
use Rattle.isolation_spec.specs.Reads.{ReadSet, first_stale, reads_in}
use Rattle.isolation_spec.specs.declared.place.Place.{Place}
use Rattle.isolation_spec.specs.declared.read.KeyRange.{KeyRange}
use Rattle.isolation_spec.specs.declared.read.Read.TheVariants as read
use Rattle.run_spec.specs.Calls.{is_memory, reads_behind}
use Rattle.workload_spec.specs.declared.command.Command.{Command}
use Rattle.workload_spec.specs.declared.command.Command.TheVariants as command
use Rattle.workload_spec.specs.declared.reply.Said.TheVariants as said
use Rattle.shared_store.specs.Open.{FindsRows}
use Rattle.shared_store.specs.Ranging.{range_read}
use Rattle.shared_store.specs.Reads.{ReadsFit, read_by, reads_begun, with_one}
use Rattle.shared_store.specs.Store.{IsSession, KeepsNotes, Notes, StoreView, notes_of, reads_of, shape_in, swept}
use Rattle.shared_store.specs.Told.{written_told}
use Rattle.shared_store.specs.declared.faults.StoreFault.{StoreFault}
use Rattle.shared_store.specs.declared.faults.StoreFault.TheVariants as fault
use Rattle.event_spec.specs.declared.reply.WriteFault.TheVariants as refusal
use Rattle.event_spec.specs.Replies.{CoreReply, reply_to, reply_to_commit}
use Rattle.shared_store.specs.declared.session.Session.{Session}
use Rattle.block_spec.specs.Slots.{Row}
use Rattle.event_spec.specs.declared.event.Event.TheVariants as event
use Rattle.event_spec.specs.declared.reply.Reply.TheVariants as reply
use Rattle.event_spec.specs.declared.own.OwnTransaction.{OwnTransaction}
use Rattle.event_spec.specs.Effects.{range_keys}
use Rattle.event_spec.specs.Newest.{judged_reads, newest_of}
use Rattle.isolation_spec.specs.declared.read.Read.{Read}
use Rattle.txn_desk.specs.Desk.{wrote_table}

-- ---- reads of tables that there are

pub begun_fit : (shape : Shape) (checked : Bool) → ReadsFit shape (reads_begun checked)
begun_fit shape true = record {
  places = All-nil (λ (place : Place). HasTable shape place.table);
  tables = All-nil (HasTable shape);
  ranges = All-nil (λ (range : KeyRange). HasTable shape range.table);
}
begun_fit shape false = tt

pub table_fits : (shape : Shape) (table : ℕ) (reads : Option ReadSet) → HasTable shape table → ReadsFit shape reads → ReadsFit shape (with_one (read.Table table) reads)
table_fits shape table None has fits = tt
table_fits shape table (Some set) has fits = record {
  places = fits.places;
  tables = All-insert_key nat_cmp table (HasTable shape) set.tables fits.tables has;
  ranges = fits.ranges;
}

pub key_fits : (shape : Shape) (place : Place) (reads : Option ReadSet) → HasTable shape place.table → ReadsFit shape reads → ReadsFit shape (with_one (read.Key place.table place.key) reads)
key_fits shape place None has fits = tt
key_fits shape place (Some set) has fits = record {
  places = All-insert_key place_cmp place (λ (p : Place). HasTable shape p.table) set.places fits.places has;
  tables = fits.tables;
  ranges = fits.ranges;
}

pub range_fits : (shape : Shape) (range : KeyRange) (reads : Option ReadSet) → HasTable shape range.table → ReadsFit shape reads → ReadsFit shape (with_one (read.Range range.table range.low range.high) reads)
range_fits shape range None has fits = tt
range_fits shape range (Some set) has fits = record {
  places = fits.places;
  tables = fits.tables;
  ranges = All-append (λ (r : KeyRange). HasTable shape r.table) set.ranges (range ∷ []) fits.ranges
      (All-cons (λ (r : KeyRange). HasTable shape r.table) range [] has (All-nil (λ (r : KeyRange). HasTable shape r.table)));
}

pub ranged_fits : {E : Type 0} (shape : Shape) (range : KeyRange) (found : Result (List Row) E) (reads : Option ReadSet) → HasTable shape range.table → ReadsFit shape reads → ReadsFit shape (range_read range found reads)
ranged_fits shape range (Ok rows) reads has fits = range_fits shape range reads has fits
ranged_fits shape range (Err memory) reads has fits = fits

pub got_fits : (shape : Shape) (place : Place) (told : CoreReply) (reads : Option ReadSet) → HasTable shape place.table → ReadsFit shape reads → ReadsFit shape (read_by place told reads)
got_fits shape place told reads has fits = go (is_memory told)
  where
    go : (b : Bool) → ReadsFit shape (cond b reads (with_one (read.Key place.table place.key) reads))
    go true = fits
    go false = key_fits shape place reads has fits

-- the reads of a session stay where they are the same
pub fits_on : (store : StoreView) (old new : Session) → IsSession store old → notes_of new ≡ notes_of old → KeepsNotes store old new
fits_on store old new is same = (same, subst (λ (notes : Notes). ReadsFit (shape_in store) notes.reads) (sym same) is.fits)

-- a session that has read a table is one
pub swept_session : (store : StoreView) (s : Session) (table : ℕ) → HasTable (shape_in store) table → IsSession store s → IsSession store (swept table s)
swept_session store s table has is = record {
  stands = is.stands;
  own = is.own;
  lawful = is.lawful;
  named = is.named;
  fits = table_fits (shape_in store) table (reads_of s) has is.fits;
}

-- and has read what the line of an export tells
pub swept_export : (old new : Session) (table number rows batches frozen : ℕ) → reads_of new ≡ reads_of old
    → reads_of (swept table new) ≡ reads_behind (reads_of old) (command.Export table) (said.Exported number rows batches frozen)
swept_export old new table number rows batches frozen kept = ap (with_one (read.Table table)) kept

-- its transaction sees what it saw
pub swept_finds : {E : Type 0} (store : StoreView) (old new : Session) (table : ℕ) (found : Result (List Row) E) → FindsRows store old new table found → FindsRows store old (swept table new) table found
swept_finds store old new table found finds commits own o =
    let f = finds commits own o in
    record { is_open = record { busy = f.is_open.busy; has = f.is_open.has }; rows = f.rows }

-- ---- what lines tell that was read

-- the line of a write tells no read
pub write_reads : {X : Type 0} (reads : Option ReadSet) (command : Command) (table : ℕ) (result : Result X StoreFault) → reads_behind reads command (written_told table result) ≡ reads
write_reads reads command table (Ok done) = refl
write_reads reads command table (Err (fault.Write (refusal.ConflictSession session))) = refl
write_reads reads command table (Err (fault.Write (refusal.ConflictCommit number))) = refl
write_reads reads command table (Err (fault.Write refusal.Exists)) = refl
write_reads reads command table (Err (fault.Write refusal.Missing)) = refl
write_reads reads command table (Err (fault.Write (refusal.Freezing block stamp))) = refl
write_reads reads command table (Err (fault.Write (refusal.Full inserts))) = refl
write_reads reads command table (Err fault.Memory) = refl

-- ---- commits

-- a commit replies that it stands, or what was stale
pub commit_tells : (shape : Shape) (parts : Parts) (own : OwnTransaction) (stale : Option (Read × ℕ)) (told : CoreReply) → told ≡ reply_to_commit shape parts own stale
    → ((number : Option ℕ) → told ≡ reply.Committed number → ⊥) → ((what : Read) (number : ℕ) → told ≡ reply.Stale what number → ⊥) → ⊥
commit_tells shape parts own (Some stale) told is committed refused = refused stale.0 stale.1 is
commit_tells shape parts own None told is committed refused = committed _ is

-- a plain transaction's is never stale
pub plain_stands : (shape : Shape) (parts : Parts) (own : OwnTransaction) (reads : Option ReadSet) (what : Read) (number : ℕ) → reads ≡ None
    → reply.Stale what number ≡ reply_to shape parts (event.Commit own reads) → ⊥
plain_stands shape parts own reads what number plain told = never (told ∙ ap (λ r. reply_to shape parts (event.Commit own r)) plain ∙ ap (reply_to_commit shape parts own) (unread own.writes))
  where
    unread : (writes : PlaceMap ℕ) → option_and_then
        (λ set. first_stale (newest_of (slot_at shape parts) (places_at shape parts) (range_keys shape parts) (wrote_table (desk_at shape parts)) own.snapshot) (reads_in set))
        (judged_reads writes None) ≡ None
    unread [] = refl
    unread (first ∷ rest) = refl

    never : reply.Stale what number ≡ reply_to_commit shape parts own None → ⊥
    never e = cc
