-- What the definitions say a transaction sees is what is kept of it.
use Rattle.std.proofs.Common.{◌≡◌, ℕ, ◌<◌, Bool, true, List, [], ◌∷◌, length, take, Option, None, Some, Result, Ok, Err, IfOk, refl, sym, ap, ◌∙◌, subst, arith}
use Rattle.std.specs.Option.{option_map_or}
use Rattle.std.specs.Prelude.{option_and_then, slice_index_or}
use Rattle.std.proofs.lemmas.List.{length-map, take_all}
use Rattle.cell_model.specs.declared.cell.Cell.{Cell}
use Rattle.cell_model.specs.declared.table.TableDecl.{TableDecl}
use Rattle.isolation_spec.specs.Contents.{State, laid_over, state_at, with_write}
use Rattle.isolation_spec.specs.declared.place.Place.{Place}
use Rattle.outcome_spec.specs.Answers.{read_holds, reads_hold, write_holds, writes_hold, is_acceptable}
use Rattle.outcome_spec.specs.Entries.{Entry, before, snapshot_in}
use Rattle.outcome_spec.specs.Runs.{Run, Span, run_of, seen_at, transaction_of, writes_in}
use Rattle.outcome_counts.specs.Asked.{asked_at}
use Rattle.outcome_counts.proofs.Starts.{kept-at, KeptAt}
use Rattle.output_read.specs.Kept.{entries_of, entry_of}
use Rattle.output_read.specs.declared.kept.KeptReply.{KeptReply}
use Rattle.outcome_counts.specs.Openings.{AreOpenings, opening_of, openings_in}
use Rattle.outcome_judge.specs.Timed.{TimedWrite, after_writes, timed, up_to}
use Rattle.outcome_judge.specs.Own.{changes_of, own_writes}
use Rattle.outcome_judge.specs.Seen.{IsOutput, base_at, history_of, seen_up_to, snapshot_at}
use Rattle.outcome_judge.proofs.WritesHeld.{openings-long}
use Rattle.outcome_judge.proofs.Laid.{laid-writes}
use Rattle.outcome_judge.proofs.Seen.{base-rises}
use Rattle.outcome_judge.proofs.Spanned.{IsSpan, spanned, unspanned}
use Rattle.std.proofs.lemmas.List.{get_or_default}

-- The changes of some writes leave the same rows at whatever time they are made.
after-changes : (time : ℕ) (rows : State) (writes : List TimedWrite) → after_writes rows (timed time (changes_of writes)) ≡ after_writes rows writes
after-changes time rows [] = refl
after-changes time rows (write ∷ writes) = after-changes time (with_write rows write.place write.row) writes

module _ (tables : List TableDecl) (openings : List (Option ℕ)) (replies : List KeptReply) (output : IsOutput openings (entries_of replies)) (at : ℕ) (inside : at < length replies) (none : KeptReply) where
  -- The replies as they are judged.
  abbrev entries : List Entry
  entries = entries_of replies

  -- The reply that is judged.
  abbrev entry : Entry
  entry = asked_at replies at none

  -- What all the replies tell.
  abbrev run : Run
  run = run_of tables entries

  -- The judged reply is kept at its place.
  its : KeptAt replies at (slice_index_or replies at none)
  its = kept-at replies at (slice_index_or replies at none) inside (get_or_default replies at none (slice_index_or replies at none) inside)

  -- The openings that the replies tell are theirs.
  own : AreOpenings entries (openings_in entries)
  own = subst (AreOpenings entries) output.each output.own

  -- a reply that has an opening is in the transaction that is opened there
  pub span-of : (owner : ℕ) → opening_of openings at ≡ Some owner → IsSpan entries at entry owner
  span-of owner h =
      let there : opening_of (openings_in entries) (length its.front) ≡ Some owner = ap (λ (os : List (Option ℕ)). opening_of os (length its.front)) (sym output.each) ∙ ap (opening_of openings) its.far ∙ h in
      subst (λ (n : ℕ). IsSpan entries n entry owner) its.far (spanned entries its.front entry its.rest its.whole output.rises output.outside own owner there)

  -- a reply without one is in none
  pub none-of : opening_of openings at ≡ None → transaction_of run entry ≡ None
  none-of h =
      unspanned entries its.front entry its.rest its.whole output.rises output.outside own
      (ap (λ (os : List (Option ℕ)). opening_of os (length its.front)) (sym output.each) ∙ ap (opening_of openings) its.far ∙ h)

  -- What the reply's transaction sees at it is what is kept of it.
  pub seen-is : (owner : ℕ) → (span : IsSpan entries at entry owner) → seen_at run span.span entry ≡ seen_up_to openings entries (length replies) owner at
  seen-is owner span =
      let snapshot : snapshot_at entries owner ≡ span.span.snapshot =
      ap (λ (o : Option Entry). option_map_or (λ (n : ℕ). n) (option_and_then (λ (e : Entry). snapshot_in e.reply.said) o) 0) span.there ∙ ap (λ (o : Option ℕ). option_map_or (λ (n : ℕ). n) o 0) span.shown in
      let long : length entries ≡ length replies = length-map replies entry_of in
      let all_entries : take (length replies) entries ≡ entries = take_all (length replies) entries (omega (arith, long)) in
      let same : openings ≡ openings_in entries = output.each in
      let as_long : length openings ≡ length entries = ap length same ∙ openings-long 0 (λ who. None) entries in
      let all_openings : take (length replies) openings ≡ openings = take_all (length replies) openings (omega (arith, long, as_long)) in
      ap (λ (n : ℕ). laid_over (state_at (history_of entries) n) (writes_in (before span.span.replies entry))) (sym snapshot)
      ∙ laid-writes 0 (base_at entries owner) (before span.span.replies entry) (base-rises entries owner)
      ∙ ap (λ (cs : List (Place × Option (List Cell))). after_writes (base_at entries owner) (timed 0 cs)) span.accepted
      ∙ after-changes 0 (base_at entries owner) (up_to at (own_writes owner 0 (openings_in entries) entries))
      ∙ ap (λ (os : List (Option ℕ)). after_writes (base_at entries owner) (up_to at (own_writes owner 0 os entries))) (sym (all_openings ∙ same))
      ∙ ap (λ (es : List Entry). after_writes (base_at entries owner) (up_to at (own_writes owner 0 (take (length replies) openings) es))) (sym all_entries)

  -- a condition that is true of what is said in no transaction, or said so
  pub writes-none : opening_of openings at ≡ None → true ≡ writes_hold run entry
  writes-none h = sym (ap (λ (o : Option Span). option_map_or (λ t. write_holds (is_acceptable (seen_at run t entry) entry.command) entry.reply.said) o true) (none-of h))

  -- a write is judged by what its transaction sees
  pub writes-some : (owner : ℕ) → opening_of openings at ≡ Some owner
      → writes_hold run entry ≡ write_holds (is_acceptable (seen_up_to openings entries (length replies) owner at) entry.command) entry.reply.said
  writes-some owner h =
      let span = span-of owner h in
      ap (λ (o : Option Span). option_map_or (λ t. write_holds (is_acceptable (seen_at run t entry) entry.command) entry.reply.said) o true) span.found
      ∙ ap (λ (s : State). write_holds (is_acceptable s entry.command) entry.reply.said) (seen-is owner span)

  -- a read without a transaction holds
  pub reads-none : opening_of openings at ≡ None → true ≡ reads_hold run entry
  reads-none h = sym (ap (λ (o : Option Span). option_map_or (λ t. read_holds (seen_at run t entry) entry.command entry.reply.said) o true) (none-of h))

  -- a read is judged by what its transaction sees
  pub reads-some : (owner : ℕ) → opening_of openings at ≡ Some owner
      → read_holds (seen_up_to openings entries (length replies) owner at) entry.command entry.reply.said ≡ reads_hold run entry
  reads-some owner h =
      let span = span-of owner h in
      sym (ap (λ (o : Option Span). option_map_or (λ t. read_holds (seen_at run t entry) entry.command entry.reply.said) o true) span.found
      ∙ ap (λ (s : State). read_holds s entry.command entry.reply.said) (seen-is owner span))

-- what holds of each answer that is judged
pub if-each : {E : Type 0} (r : Result Bool E) (f g : KeptReply → Bool) → ((none : KeptReply) → IfOk r (λ answer. answer ≡ f none)) → ((none : KeptReply) → f none ≡ g none)
    → IfOk r (λ answer. (none : KeptReply) → answer ≡ g none)
if-each (Ok answer) f g h k = λ none. h none ∙ k none
if-each (Err refused) f g h k = tt
