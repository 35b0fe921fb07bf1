-- Reads of a table's blocks one after another, and the scan that they make.
use Rattle.std.proofs.Common.{◌≡◌, ◌⊎◌, ℕ, zero, suc, ◌+◌, ◌-◌, ◌<◌, ◌≤◌, Bool, true, false, cond, not, ◌&&◌, ◌||◌, List, [], ◌∷◌, ◌++◌, Option, None, Some, Result, Ok, Err, length, map, refl, sym, ap, subst, ◌∙◌, append-nil, arith}
use mathlib.Core.Logic.{inl, inr}
use Rattle.std.specs.Prelude.{All, IfSome, IsErr, OnOk, count_by, flat_map}
use Rattle.std.specs.List.{last_or, list_any, range_with_len}
use Rattle.std.proofs.lemmas.List.FromFn.{length-range_with_len}
use Rattle.std.proofs.lemmas.List.Sums.{count_by-le-length, sum_by-append}
use Rattle.std.proofs.lemmas.List.{append_assoc, length-map, map-append}
use Rattle.block_spec.specs.Slots.{Row}
use Rattle.event_spec.specs.declared.event.Event.TheVariants as event
use Rattle.event_spec.specs.declared.own.OwnTransaction.{OwnTransaction}
use Rattle.event_spec.specs.Effects.{CoreEvent}
use Rattle.event_spec.specs.Lawful.{Among}
use Rattle.event_spec.specs.Parts.{Parts, Shape, below, blocks_of}
use Rattle.event_spec.specs.Replies.{CoreReply}
use Rattle.hall_rule.specs.EventLog.{has}
use Rattle.run_spec.specs.Asked.{at_blocks, events_of}
use Rattle.run_spec.specs.Calls.{Call, IsCallBy, IsPart, IsWhole, is_cut_short, is_final, is_memory, is_refused, may_lack_memory, reads_behind}
use Rattle.run_spec.specs.Handed.{GoesOn, Stretch}
use Rattle.run_spec.specs.Occurrences.{Logged, Occurrence, events_in, replies_in}
use Rattle.run_spec.specs.Told.{in_key_order, is_shared, line_of, refusal_of, rows_told}
use Rattle.store_laws.proofs.Calling.{event_stretch, goes_far, made_on}
use Rattle.store_laws.proofs.Lends.{no_image_told}
use Rattle.store_laws.proofs.Lent.{stretch_goes}
use Rattle.store_laws.proofs.Stretches.{nothing_is_a_stretch, stretches_join}
use Rattle.store_laws.specs.Stretches.{is_event, reads_block}
use Rattle.store_laws.specs.Own.{MakesOne, entry_of, occurrence_at, parts_after}
use Rattle.workload_spec.specs.declared.command.Command.{Command}
use Rattle.workload_spec.specs.declared.command.Command.TheVariants.{Scan}
use Rattle.workload_spec.specs.declared.reply.Said.{Said}
use Rattle.workload_spec.specs.declared.reply.Said.TheVariants as said
use Rattle.shared_store.specs.Reading.{IsReadOf, ReadsBlock, Went, reply_of, rows_in}
use Rattle.shared_store.specs.declared.reading.SeenBlock.{SeenBlock}
use Rattle.shared_store.specs.declared.reading.SeenBlock.TheVariants as block
use Rattle.shared_store.specs.Told.{scanned_told}
use Rattle.shared_store.specs.Scanning.{ArePlain, ReadsOnce, Scans, scan_cost}
use Rattle.std.proofs.lemmas.List.Elements.{All-append, All-nil}
use Rattle.cell_model.specs.Rows.{Fits}
use Rattle.event_spec.specs.Replay.{columns_in}
use Rattle.shared_store.specs.Store.{Answers, EndsWithLast, IsSession, IsTouched, KeepsLend, StoreView, TookPartsOf, own_of, seen, shape_in, taken_by, events_made, view_of, reads_of, swept, Notes, notes_of, wrote_of}
use Rattle.shared_store.proofs.Noted.{none_both, one_none, unwritten, writes_none}
use Rattle.shared_store.specs.declared.session.Session.{Session}
use Rattle.shared_store.proofs.Calls.{ends_call, took_none}
use Rattle.shared_store.proofs.Claims.{keeps_on, keeps_stays}
use Rattle.shared_store.proofs.Counted.{le_more, scanned_more}
use Rattle.shared_store.specs.Reads.{with_one}
use Rattle.isolation_spec.specs.Reads.{ReadSet}
use Rattle.isolation_spec.specs.declared.read.Read.TheVariants as what

-- ---- parts that were taken

-- A part that is in two lists in a row is in one of them.
has_either : (k : ℕ) (xs ys : List ℕ) → has k (xs ++ ys) ≡ true → (has k xs ≡ true) ⊎ (has k ys ≡ true)
has_either k [] ys is = inr is
has_either k (x ∷ xs) ys is = go (Rattle.std.specs.Prelude.nat_eq k x) is (has_either k xs ys)
  where
    go : (b : Bool) → (b || has k (xs ++ ys)) ≡ true → (has k (xs ++ ys) ≡ true → (has k xs ≡ true) ⊎ (has k ys ≡ true)) → ((b || has k xs) ≡ true) ⊎ (has k ys ≡ true)
    go true h rest = inl refl
    go false h rest = rest h

-- parts of some events, and then parts of one of them
pub took_more : (sh : Shape) (events : List CoreEvent) (e : CoreEvent) (old mid new : List Logged) (taken between later : List ℕ)
    → Among e events → GoesOn old mid → GoesOn mid new
    → TookPartsOf sh events old mid taken between → TookPartsOf sh (e ∷ []) mid new between later
    → TookPartsOf sh events old new taken later
took_more sh events e old mid new taken between later one on more first then = record {
  parts = first.parts ++ then.parts;
  took = then.took ∙ ap (λ (t : List ℕ). t ++ then.parts) first.took ∙ append_assoc taken first.parts then.parts;
  touched = λ k is. go k (has_either k first.parts then.parts is);
}
  where
    among : (x : CoreEvent) → Among x (e ∷ []) → Among x events
    among x (inl same) = subst (λ y. Among y events) (sym same) one
    among x (inr none) = absurd none

    go : (k : ℕ) → (has k first.parts ≡ true) ⊎ (has k then.parts ≡ true) → IsTouched sh events old new k
    go k (inl is) =
        let t = first.touched k is in
        record { event = t.event; is_one = t.is_one; log = t.log; saw = t.saw; left = goes_far t.log mid new t.left more; touches = t.touches }
    go k (inr is) =
        let t = then.touched k is in
        record { event = t.event; is_one = among t.event t.is_one; log = t.log; saw = goes_far old mid t.log on t.saw; left = t.left; touches = t.touches }

-- ---- events one after another

-- The last of events with one more behind them is that one.
last_added : (o : Option Occurrence) (xs : List Occurrence) (x : Occurrence) → last_or o (xs ++ x ∷ []) ≡ Some x
last_added o [] x = refl
last_added o (y ∷ ys) x = last_added (Some y) ys x

-- a session that made no event has gone nowhere
pub went_nowhere : (store : StoreView) (s : Session) (events : List CoreEvent) → IsSession store s → Went store s s events []
went_nowhere store s events is = record {
  session = is;
  same = refl;
  opened = refl;
  kept = refl;
  unwritten = λ w. refl;
  stretch = nothing_is_a_stretch (shape_in store) s.session (seen s) (seen s) ([], sym (append-nil (seen s))) refl;
  count = omega arith;
  ends = tt;
  took = took_none (shape_in store) events (seen s) (taken_by s);
  reads = keeps_stays;
}

-- A count over two lists is the sum of both counts.
events_both : (xs ys : List Occurrence) → count_by is_event (xs ++ ys) ≡ count_by is_event xs + count_by is_event ys
events_both xs ys = sum_by-append (λ (o : Occurrence). cond {A = ℕ} (is_event o) 1 0) xs ys

-- one event more, of those that the command makes
pub went_more : (store : StoreView) (old mid new : Session) (e : CoreEvent) (told : CoreReply) (events : List CoreEvent) (made : List Occurrence)
    → Went store old mid events made → IsSession store new → new.session ≡ mid.session → own_of new ≡ own_of mid → notes_of new ≡ notes_of mid
    → (m : MakesOne (shape_in store) mid.session (seen mid) (seen new) e told) → events_made new ≡ events_made mid + 1
    → TookPartsOf (shape_in store) (e ∷ []) (seen mid) (seen new) (taken_by mid) (taken_by new) → Among e events
    → reads_block e ≡ false → writes_none e ≡ true → KeepsLend (view_of mid) (view_of new)
    → Went store old new events (made ++ occurrence_at old.session (parts_after (shape_in store) m.before) e told ∷ [])
went_more store old mid new e told events made w is same opened kept m one took among other quiet keeps = record {
  session = is;
  same = same ∙ w.same;
  opened = opened ∙ w.opened;
  kept = kept ∙ w.kept;
  unwritten = none_both made (last ∷ []) w.unwritten (one_none last quiet);
  stretch = stretches_join (shape_in store) old.session (seen old) (seen mid) (seen new) made (last ∷ []) w.stretch
      (subst (λ q. Stretch (shape_in store) q (seen mid) (seen new) (occurrence_at q (parts_after (shape_in store) m.before) e told ∷ [])) w.same
      (event_stretch (shape_in store) mid.session (seen mid) (seen new) e told m unshared));
  count =
      let a = w.count in
      let c = events_both made (last ∷ []) in
      let d : count_by is_event (last ∷ []) ≡ 1 = ap (λ b. 0 + cond {A = ℕ} (not b) 1 0) unshared in
      omega (arith, a, one, c, d);
  ends = subst (λ o. IfSome o (λ last. is_event last ≡ true → (before : List Logged) × (seen new ≡ before ++ entry_of last.session last.event last.reply ∷ [])))
      (sym (last_added None made last))
      (λ event'. (m.before, subst (λ q. seen new ≡ m.before ++ entry_of q e told ∷ []) w.same m.log));
  took = took_more (shape_in store) events e (seen old) (seen mid) (seen new) (taken_by old) (taken_by mid) (taken_by new) among w_on on w.took took;
  reads = keeps_on w.reads keeps;
}
  where
    last : Occurrence
    last = occurrence_at old.session (parts_after (shape_in store) m.before) e told

    unshared : is_shared told ≡ false
    unshared = ap is_shared m.reply ∙ no_image_told (shape_in store) (parts_after (shape_in store) m.before) e (is_memory told) other

    on : GoesOn (seen mid) (seen new)
    on = made_on (shape_in store) mid.session (seen mid) (seen new) e told m

    w_on : GoesOn (seen old) (seen mid)
    w_on = stretch_goes (shape_in store) old.session (seen old) (seen mid) made w.stretch

-- ---- reads

-- the read of a block, as it was told
abbrev pub read_at : (old : Session) (own : OwnTransaction) (t b : ℕ) (parts : Parts) (told : CoreReply) → Occurrence
read_at old own t b parts told = occurrence_at old.session parts (event.Read own t b) told

-- A read that told anything but want of memory is one occurrence.
pub one_read : (session : ℕ) (own : OwnTransaction) (t b : ℕ) (told : CoreReply) (made : List Occurrence) → IsReadOf session own t b told made → is_memory told ≡ false
    → (parts : Parts) × (made ≡ occurrence_at session parts (event.Read own t b) told ∷ [])
one_read session own t b told made (inl one) granted = one
one_read session own t b told made (inr none') granted = absurd (never (sym granted ∙ ap is_memory none'.0))
  where
    never : false ≡ true → ⊥
    never e = cc

-- A read is one event at most.
pub read_once : (session : ℕ) (own : OwnTransaction) (t b : ℕ) (told : CoreReply) (made : List Occurrence) → IsReadOf session own t b told made → count_by is_event made ≤ 1
read_once session own t b told made (inl one) =
    let few = count_by-le-length is_event (occurrence_at session one.0 (event.Read own t b) told ∷ []) in
    let same = ap (λ (os : List Occurrence). count_by is_event os) one.1 in
    omega (arith, few, same)
read_once session own t b told made (inr none') = let same = ap (λ (os : List Occurrence). count_by is_event os) none'.1 in omega (arith, same)

-- one read more
pub went_on : (store : StoreView) (old mid new : Session) (own : OwnTransaction) (t b : ℕ) (told : CoreReply) (events : List CoreEvent) (made : List Occurrence)
    → Went store old mid events made → (r : ReadsBlock store mid new own t b told) → Among (event.Read own t b) events → KeepsLend (view_of mid) (view_of new)
    → (parts : Parts) → r.made ≡ occurrence_at mid.session parts (event.Read own t b) told ∷ []
    → Went store old new events (made ++ read_at old own t b parts told ∷ [])
went_on store old mid new own t b told events made w r one keeps parts is = record {
  session = r.session;
  same = r.same ∙ w.same;
  opened = r.opened ∙ w.opened;
  kept = r.kept ∙ w.kept;
  unwritten = none_both made (last ∷ []) w.unwritten (one_none last refl);
  stretch = stretches_join (shape_in store) old.session (seen old) (seen mid) (seen new) made (last ∷ []) w.stretch
      (subst (λ os. Stretch (shape_in store) old.session (seen mid) (seen new) os) here
      (subst (λ q. Stretch (shape_in store) q (seen mid) (seen new) r.made) w.same r.stretch));
  count =
      let a = w.count in
      let b' = r.count in
      let c = events_both made (last ∷ []) in
      let d = ap (λ (os : List Occurrence). count_by is_event os) here in
      omega (arith, a, b', c, d);
  ends = subst (λ o. IfSome o (λ last. is_event last ≡ true → (before : List Logged) × (seen new ≡ before ++ entry_of last.session last.event last.reply ∷ [])))
      (sym (last_added None made last))
      (subst (λ (os : List Occurrence). EndsWithLast os (seen new)) here r.ends);
  took = took_more (shape_in store) events (event.Read own t b) (seen old) (seen mid) (seen new) (taken_by old) (taken_by mid) (taken_by new) one
      (stretch_goes (shape_in store) old.session (seen old) (seen mid) made w.stretch)
      (stretch_goes (shape_in store) mid.session (seen mid) (seen new) r.made r.stretch) w.took r.took;
  reads = keeps_on w.reads keeps;
}
  where
    last : Occurrence
    last = read_at old own t b parts told

    here : r.made ≡ last ∷ []
    here = is ∙ ap (λ q. occurrence_at q parts (event.Read own t b) told ∷ []) w.same

-- ---- calls

-- Events made one after another are a command's call where they are whole or cut short. Its session
-- has read what the line tells.
unfoldable pub went_swept : (store : StoreView) (old new : Session) (read : Option ReadSet) (c : Command) (events : List CoreEvent) (made : List Occurrence) (line : Said)
    → IsSession store old → Went store old new events made → events_of (shape_in store) (own_of old) (reads_of old) old.session c made ≡ events
    → refusal_of c (own_of old) ≡ None → read ≡ reads_behind (reads_of old) c line
    → IsWhole (shape_in store) false old.session (own_of old) (record { command = c; made = made; told = Some line; reads = reads_of old })
    ⊎ IsPart (shape_in store) old.session (own_of old) (record { command = c; made = made; told = Some line; reads = reads_of old })
    → Answers store old (record new { reads = read }) c line
went_swept store old new read c events made line is w same granted keeps either = record {
  made = made;
  keeps = keeps;
  wrote = ap (λ (notes : Notes). notes.wrote) w.kept ∙ sym (unwritten made w.unwritten (wrote_of old));
  called = record {
    stretch = w.stretch;
    is_call = subst (λ o. IsCallBy (shape_in store) false old.session o (refusal_of c o) (record { command = c; made = made; told = Some line; reads = reads_of old })) is.own
        (subst (λ r. IsCallBy (shape_in store) false old.session (own_of old) r (record { command = c; made = made; told = Some line; reads = reads_of old })) (sym granted) either);
  };
  count = w.count;
  ends = ends_call line made (seen new) w.ends;
  took = subst (λ es. TookPartsOf (shape_in store) es (seen old) (seen new) (taken_by old) (taken_by new)) (sym same) w.took;
  reads = w.reads;
}

-- where the line tells none, it has read what it had
unfoldable pub went_call : (store : StoreView) (old new : Session) (c : Command) (events : List CoreEvent) (made : List Occurrence) (line : Said)
    → IsSession store old → Went store old new events made → events_of (shape_in store) (own_of old) (reads_of old) old.session c made ≡ events
    → refusal_of c (own_of old) ≡ None → reads_behind (reads_of old) c line ≡ reads_of old
    → IsWhole (shape_in store) false old.session (own_of old) (record { command = c; made = made; told = Some line; reads = reads_of old })
    ⊎ IsPart (shape_in store) old.session (own_of old) (record { command = c; made = made; told = Some line; reads = reads_of old })
    → Answers store old new c line
went_call store old new c events made line is w same granted unread either =
    went_swept store old new (reads_of new) c events made line is w same granted (ap (λ (notes : Notes). notes.reads) w.kept ∙ sym unread) either

-- Each is a read that was granted.
abbrev AreReads : List Occurrence → Type 0
AreReads [] = Unit {0}
AreReads (o ∷ os) = ((reads_block o.event ≡ true) × (is_refused o ≡ false)) × AreReads os

-- Plain reads of blocks are such.
pub plain_reads : (own : OwnTransaction) (t : ℕ) (made : List Occurrence) (blocks : List ℕ) → events_in made ≡ map (event.Read own t) blocks → ArePlain made → AreReads made
plain_reads own t [] blocks is plain = tt
plain_reads own t (o ∷ os) [] is plain = absurd (some_none o.event (events_in os) is)
  where
    some_none : (e : CoreEvent) (es : List CoreEvent) → e ∷ es ≡ [] → ⊥
    some_none e es x = cc
plain_reads own t (o ∷ os) (b ∷ bs) is plain = (
  (ap reads_block (heads o.event (event.Read own t b) (events_in os) (map (event.Read own t) bs) is), plain.0),
  plain_reads own t os bs (tails o.event (event.Read own t b) (events_in os) (map (event.Read own t) bs) is) plain.2,
)
  where
    heads : (x y : CoreEvent) (xs ys : List CoreEvent) → x ∷ xs ≡ y ∷ ys → x ≡ y
    heads x y xs ys e = cc

    tails : (x y : CoreEvent) (xs ys : List CoreEvent) → x ∷ xs ≡ y ∷ ys → xs ≡ ys
    tails x y xs ys e = cc

-- Behind such reads the call did not end with one of them, where there was no memory to lend a block.
pub no_end : (log : List Logged) (o : Option Occurrence) (xs : List Occurrence) → IfSome o (λ last. (reads_block last.event ≡ true) × (is_refused last ≡ false)) → AreReads xs
    → IfSome (last_or o xs) (λ last. is_event last ≡ true → (said.Memory ≡ said.Memory → reads_block last.event ≡ true → is_refused last ≡ true)
    → (before : List Logged) × (log ≡ before ++ entry_of last.session last.event last.reply ∷ []))
no_end log None [] h all = tt
no_end log (Some last) [] h all = λ event' wanting. absurd (apart (sym (wanting refl h.0) ∙ h.1))
  where
    apart : true ≡ false → ⊥
    apart e = cc
no_end log o (x ∷ xs) h all = no_end log (Some x) xs all.0 all.1

-- So they are where there was no memory to lend the block behind them.
unfoldable pub unlent_call : (store : StoreView) (old mid new : Session) (own : OwnTransaction) (t b : ℕ) (told : CoreReply) (c : Command) (events : List CoreEvent) (made : List Occurrence)
    → IsSession store old → Went store old mid events made → (r : ReadsBlock store mid new own t b told) → Among (event.Read own t b) events → KeepsLend (view_of mid) (view_of new)
    → r.made ≡ [] → AreReads made
    → events_of (shape_in store) (own_of old) (reads_of old) old.session c made ≡ events → refusal_of c (own_of old) ≡ None
    → IsPart (shape_in store) old.session (own_of old) (record { command = c; made = made; told = Some said.Memory; reads = reads_of old })
    → Answers store old new c said.Memory
unlent_call store old mid new own t b told c events made is w r one keeps none' reads same granted part = record {
  made = made;
  keeps = ap (λ (notes : Notes). notes.reads) (r.kept ∙ w.kept);
  wrote = ap (λ (notes : Notes). notes.wrote) (r.kept ∙ w.kept) ∙ sym (unwritten made w.unwritten (wrote_of old));
  called = record {
    stretch = subst (Stretch (shape_in store) old.session (seen old) (seen new)) (append-nil made)
        (stretches_join (shape_in store) old.session (seen old) (seen mid) (seen new) made [] w.stretch
        (subst (Stretch (shape_in store) old.session (seen mid) (seen new)) none'
        (subst (λ q. Stretch (shape_in store) q (seen mid) (seen new) r.made) w.same r.stretch)));
    is_call = subst (λ o. IsCallBy (shape_in store) false old.session o (refusal_of c o) call) is.own
        (subst (λ x. IsCallBy (shape_in store) false old.session (own_of old) x call) (sym granted) (inr part));
  };
  count = let a = w.count in let b' = r.count in let d = ap (λ (os : List Occurrence). count_by is_event os) none' in omega (arith, a, b', d);
  ends = no_end (seen new) None made tt reads;
  took = subst (λ es. TookPartsOf (shape_in store) es (seen old) (seen new) (taken_by old) (taken_by new)) (sym same)
      (took_more (shape_in store) events (event.Read own t b) (seen old) (seen mid) (seen new) (taken_by old) (taken_by mid) (taken_by new) one
      (stretch_goes (shape_in store) old.session (seen old) (seen mid) made w.stretch)
      (stretch_goes (shape_in store) mid.session (seen mid) (seen new) r.made r.stretch) w.took r.took);
  reads = keeps_on w.reads keeps;
}
  where
    call : Call
    call = record { command = c; made = made; told = Some said.Memory; reads = reads_of old }

-- ---- a scan

-- events that are neither refused nor final stay so with one more such
pub plain_added : (xs : List Occurrence) (x : Occurrence) → ArePlain xs → is_refused x ≡ false → is_final x.event ≡ false → ArePlain (xs ++ x ∷ [])
plain_added [] x plain granted open' = (granted, open', tt)
plain_added (y ∷ ys) x plain granted open' = (plain.0, plain.1, plain_added ys x plain.2 granted open')

-- no plain event was refused memory
pub plain_granted : (xs : List Occurrence) → ArePlain xs → list_any is_refused xs ≡ false
plain_granted [] plain = refl
plain_granted (x ∷ xs) plain = ap (λ b. b || list_any is_refused xs) plain.0 ∙ plain_granted xs plain.2

-- plain events are cut short where the one behind them may stand last
pub plain_cut_ending : (xs : List Occurrence) (x : Occurrence) → ArePlain xs → (is_refused x || not (is_final x.event)) ≡ true → is_cut_short (xs ++ x ∷ []) ≡ true
plain_cut_ending [] x plain ends = ends
plain_cut_ending (y ∷ []) x plain ends =
    ap (λ r. not (r || is_final y.event) && is_cut_short (x ∷ [])) plain.0 ∙ ap (λ f. not f && is_cut_short (x ∷ [])) plain.1 ∙ ends
plain_cut_ending (y ∷ z ∷ zs) x plain ends =
    ap (λ r. not (r || is_final y.event) && is_cut_short (z ∷ zs ++ x ∷ [])) plain.0
    ∙ ap (λ f. not f && is_cut_short (z ∷ zs ++ x ∷ [])) plain.1
    ∙ plain_cut_ending (z ∷ zs) x plain.2 ends

-- as one that ends no call
pub plain_cut_behind : (xs : List Occurrence) (x : Occurrence) → ArePlain xs → is_final x.event ≡ false → is_cut_short (xs ++ x ∷ []) ≡ true
plain_cut_behind xs x plain open' = plain_cut_ending xs x plain (ap (λ f. is_refused x || not f) open' ∙ either (is_refused x))
  where
    either : (b : Bool) → (b || true) ≡ true
    either true = refl
    either false = refl

-- plain events are a call that is cut short
pub plain_cut : (xs : List Occurrence) → ArePlain xs → is_cut_short xs ≡ true
plain_cut [] plain = refl
plain_cut (y ∷ []) plain = ap (λ f. is_refused y || not f) plain.1 ∙ either (is_refused y)
  where
    either : (b : Bool) → (b || true) ≡ true
    either true = refl
    either false = refl
plain_cut (y ∷ z ∷ zs) plain =
    ap (λ r. not (r || is_final y.event) && is_cut_short (z ∷ zs)) plain.0
    ∙ ap (λ f. not f && is_cut_short (z ∷ zs)) plain.1
    ∙ plain_cut (z ∷ zs) plain.2

-- the numbers below one more
range_more : (a n : ℕ) → range_with_len a (suc n) ≡ range_with_len a n ++ (a + n) ∷ []
range_more a zero = ap (λ x. x ∷ []) (omega arith)
range_more a (suc n) = ap (λ xs. a ∷ xs) (range_more (a + 1) n ∙ ap (λ x. range_with_len (a + 1) n ++ x ∷ []) (omega arith))

-- the numbers below one more
pub below_more : (n : ℕ) → below (n + 1) ≡ below n ++ n ∷ []
below_more n =
    let next : n + 1 ≡ suc n = omega arith in
    let last : 0 + n ≡ n = omega arith in
    ap below next ∙ range_more 0 n ∙ ap (λ x. below n ++ x ∷ []) last

-- the numbers below one are a front of those below another
below_rest : (n more : ℕ) → (rest : List ℕ) × (below (n + more) ≡ below n ++ rest)
below_rest n zero = ([], ap below (omega arith) ∙ sym (append-nil (below n)))
below_rest n (suc more) =
    let r = below_rest n more in
    (r.0 ++ (n + more) ∷ [], ap below (omega arith) ∙ below_more (n + more) ∙ ap (λ xs. xs ++ (n + more) ∷ []) r.1 ∙ append_assoc (below n) r.0 ((n + more) ∷ []))

-- the first of some numbers, and the others
pub rest_of : (n k : ℕ) → k ≤ n → (rest : List ℕ) × (below n ≡ below k ++ rest)
rest_of n k le =
    let r = below_rest k (n - k) in
    (r.0, ap below (omega (arith, le)) ∙ r.1)

-- The image of an element is among the images.
member_map : {X Y : Type 0} (f : X → Y) (xs ys : List X) (x : X) → Among (f x) (map f (xs ++ x ∷ ys))
member_map f [] ys x = inl refl
member_map f (z ∷ zs) ys x = inr (member_map f zs ys x)

-- A command that asks for the reads of all blocks of a table, and may find no memory for them.
pub record Sweeps (store : StoreView) (own : OwnTransaction) (t : ℕ) (c : Command) : Type 0 where
  pub asks : (reads : Option ReadSet) (q : ℕ) (made : List Occurrence) → events_of (shape_in store) (Some own) reads q c made ≡ at_blocks (shape_in store) t (event.Read own t)
  pub granted : refusal_of c (Some own) ≡ None
  pub unread : (reads : Option ReadSet) → reads_behind reads c said.Memory ≡ reads
  pub may : may_lack_memory c ≡ true

pub scan_sweeps : (store : StoreView) (own : OwnTransaction) (t : ℕ) → Sweeps store own t (Scan t)
scan_sweeps store own t = record { asks = λ reads q made. refl; granted = refl; unread = λ reads. refl; may = refl }

module _ (store : StoreView) (own : OwnTransaction) (t : ℕ) where
  -- the shape of the store
  abbrev pub sh : Shape
  sh = shape_in store

  -- the reads that a scan of the table asks for
  abbrev pub asked : List CoreEvent
  asked = at_blocks sh t (event.Read own t)

  -- before the first block a scan has read nothing
  unfoldable pub scan_begins : (s : Session) → IsSession store s → Scans store s s own t 0 []
  scan_begins s is = record {
    made = [];
    went = went_nowhere store s asked is;
    events = refl;
    plain = tt;
    rows = refl;
    fits = All-nil (Fits (columns_in sh t));
  }

  -- each of the table's blocks is read by the scan
  pub is_asked : (k : ℕ) → k < blocks_of sh t → Among {X = CoreEvent} (event.Read own t k) asked
  is_asked k lt =
      let r = rest_of (blocks_of sh t) (k + 1) (omega (arith, lt)) in
      subst (λ bs. Among {X = CoreEvent} (event.Read own t k) (map (event.Read own t) bs)) (sym (r.1 ∙ ap (λ xs. xs ++ r.0) (below_more k) ∙ append_assoc (below k) (k ∷ []) r.0))
      (member_map (event.Read own t) (below k) r.0 k)

  -- the next block was read
  pub next_made : (old mid : Session) (k : ℕ) (read : List Row) (parts : Parts) (told : CoreReply) → (s : Scans store old mid own t k read)
      → events_in (s.made ++ read_at old own t k parts told ∷ []) ≡ map (event.Read own t) (below (k + 1))
  next_made old mid k read parts told s =
      map-append (λ (o : Occurrence). o.event) s.made (read_at old own t k parts told ∷ [])
      ∙ ap (λ es. es ++ event.Read own t k ∷ []) s.events
      ∙ sym (ap (map (event.Read own t)) (below_more k) ∙ map-append (event.Read own t) (below k) (k ∷ []))

  -- The rows told by replies with one more are theirs and that one's.
  pub flat_more : (replies : List CoreReply) (told : CoreReply) → flat_map rows_told (replies ++ told ∷ []) ≡ flat_map rows_told replies ++ rows_told told
  flat_more [] told = append-nil (rows_told told)
  flat_more (x ∷ xs) told = ap (λ rs. rows_told x ++ rs) (flat_more xs told) ∙ sym (append_assoc (rows_told x) (flat_map rows_told xs) (rows_told told))

  -- one block more was read
  unfoldable pub scan_goes_on : (old mid new : Session) (k : ℕ) (read now : List Row) (told : CoreReply) → Scans store old mid own t k read → (r : ReadsBlock store mid new own t k told)
      → KeepsLend (view_of mid) (view_of new) → k < blocks_of sh t → (granted : is_memory told ≡ false) → now ≡ read ++ rows_told told → Scans store old new own t (k + 1) now
  scan_goes_on old mid new k read now told s r keeps lt granted rows =
      let one = one_read mid.session own t k told r.made r.is_read granted in
      let last : Occurrence = read_at old own t k one.0 told in
      record {
        made = s.made ++ last ∷ [];
        went = went_on store old mid new own t k told asked s.made s.went r (is_asked k lt) keeps one.0 one.1;
        events = next_made old mid k read one.0 told s;
        plain = plain_added s.made last s.plain granted refl;
        rows = rows ∙ ap (λ rs. rs ++ rows_told told) s.rows ∙ sym (flat_more (replies_in s.made) told)
            ∙ ap (flat_map rows_told) (sym (map-append (λ (o : Occurrence). o.reply) s.made (last ∷ [])));
        fits = subst (All (Fits (columns_in sh t))) (sym rows) (All-append (Fits (columns_in sh t)) read (rows_told told) s.fits r.fits);
      }

  module _ (old : Session) (is : IsSession store old) (open' : own_of old ≡ Some own) (c : Command) (sweeps : Sweeps store own t c) where
    asks : (made : List Occurrence) → events_of sh (own_of old) (reads_of old) old.session c made ≡ asked
    asks made = ap (λ o. events_of sh o (reads_of old) old.session c made) open' ∙ sweeps.asks (reads_of old) old.session made

    granted_here : refusal_of c (own_of old) ≡ None
    granted_here = ap (refusal_of c) open' ∙ sweeps.granted

    -- a sweep that read all blocks answers with the line that they make, and has read the table
    pub sweep_whole : (new : Session) (rows : List Row) (s : Scans store old new own t (blocks_of sh t) rows) (line : Said)
        → with_one (what.Table t) (reads_of old) ≡ reads_behind (reads_of old) c line → Some line ≡ line_of (own_of old) c (replies_in s.made)
        → (answers : Answers store old (swept t new) c line) × (answers.made ≡ s.made)
    unfolding went_swept
    sweep_whole new rows s line behind tells = (
      went_swept store old new (with_one (what.Table t) (reads_of new)) c asked s.made line is s.went (asks s.made) granted_here
          (ap (λ (notes : Notes). with_one (what.Table t) notes.reads) s.went.kept ∙ behind) (inl (record {
            events = s.events ∙ sym (asks s.made);
            granted = plain_granted s.made s.plain;
            line = tells;
          })),
      refl,
    )

    -- no memory for what was read
    pub sweep_unlaid : (new : Session) (k : ℕ) (read : List Row) → k ≤ blocks_of sh t → (s : Scans store old new own t k read)
        → (answers : Answers store old new c said.Memory) × (answers.made ≡ s.made)
    unfolding went_call went_swept
    sweep_unlaid new k read le s = (
      went_call store old new c asked s.made said.Memory is s.went (asks s.made) granted_here (sweeps.unread (reads_of old)) (inr (record {
        may = sweeps.may;
        missed = map (event.Read own t) (rest_of (blocks_of sh t) k le).0;
        events = asks s.made ∙ ap (map (event.Read own t)) (rest_of (blocks_of sh t) k le).1 ∙ map-append (event.Read own t) (below k) (rest_of (blocks_of sh t) k le).0
            ∙ ap (λ es. es ++ map (event.Read own t) (rest_of (blocks_of sh t) k le).0) (sym s.events);
        cut = plain_cut s.made s.plain;
        line = refl;
      })),
      refl,
    )

    -- a read was refused memory, or there was none for its rows
    pub sweep_unread_one : (mid new : Session) (k : ℕ) (read : List Row) (told : CoreReply) → k < blocks_of sh t → (s : Scans store old mid own t k read) → (r : ReadsBlock store mid new own t k told)
        → KeepsLend (view_of mid) (view_of new) → (parts : Parts) → r.made ≡ occurrence_at mid.session parts (event.Read own t k) told ∷ []
        → (answers : Answers store old new c said.Memory) × (answers.made ≡ s.made ++ read_at old own t k parts told ∷ [])
    unfolding went_call went_swept
    sweep_unread_one mid new k read told lt s r keeps parts one =
        let le : k + 1 ≤ blocks_of sh t = omega (arith, lt) in
        let last : Occurrence = read_at old own t k parts told in
        let made = s.made ++ last ∷ [] in (
          went_call store old new c asked made said.Memory is (went_on store old mid new own t k told asked s.made s.went r (is_asked k lt) keeps parts one) (asks made) granted_here (sweeps.unread (reads_of old)) (inr (record {
            may = sweeps.may;
            missed = map (event.Read own t) (rest_of (blocks_of sh t) (k + 1) le).0;
            events = asks made ∙ ap (map (event.Read own t)) (rest_of (blocks_of sh t) (k + 1) le).1 ∙ map-append (event.Read own t) (below (k + 1)) (rest_of (blocks_of sh t) (k + 1) le).0
                ∙ ap (λ es. es ++ map (event.Read own t) (rest_of (blocks_of sh t) (k + 1) le).0) (sym (next_made old mid k read parts told s));
            cut = plain_cut_behind s.made last s.plain refl;
            line = refl;
          })),
          refl,
        )

    -- there was no memory to lend the block
    pub sweep_unlent : (mid new : Session) (k : ℕ) (read : List Row) (told : CoreReply) → k < blocks_of sh t → (s : Scans store old mid own t k read) → (r : ReadsBlock store mid new own t k told)
        → KeepsLend (view_of mid) (view_of new) → r.made ≡ [] → (answers : Answers store old new c said.Memory) × (answers.made ≡ s.made)
    unfolding unlent_call
    sweep_unlent mid new k read told lt s r keeps none' =
        let le : k ≤ blocks_of sh t = omega (arith, lt) in (
          unlent_call store old mid new own t k told c asked s.made is s.went r (is_asked k lt) keeps none' (plain_reads own t s.made (below k) s.events s.plain) (asks s.made) granted_here (record {
            may = sweeps.may;
            missed = map (event.Read own t) (rest_of (blocks_of sh t) k le).0;
            events = asks s.made ∙ ap (map (event.Read own t)) (rest_of (blocks_of sh t) k le).1 ∙ map-append (event.Read own t) (below k) (rest_of (blocks_of sh t) k le).0
                ∙ ap (λ es. es ++ map (event.Read own t) (rest_of (blocks_of sh t) k le).0) (sym s.events);
            cut = plain_cut s.made s.plain;
            line = refl;
          }),
          refl,
        )

    -- one or the other
    pub sweep_unread : (mid new : Session) (k : ℕ) (read : List Row) (told : CoreReply) → k < blocks_of sh t → (s : Scans store old mid own t k read) → (r : ReadsBlock store mid new own t k told)
        → KeepsLend (view_of mid) (view_of new) → Answers store old new c said.Memory
    sweep_unread mid new k read told lt s r keeps = go r.is_read
      where
        go : IsReadOf mid.session own t k told r.made → Answers store old new c said.Memory
        go (inl one) = (sweep_unread_one mid new k read told lt s r keeps one.0 one.1).0
        go (inr none') = (sweep_unlent mid new k read told lt s r keeps none'.1).0

  module _ (old : Session) (is : IsSession store old) (open' : own_of old ≡ Some own) where
    -- a scan that read all blocks answers with what they told in key order, and has read the table
    pub scan_whole : (new : Session) (rows : List Row) (s : Scans store old new own t (blocks_of sh t) rows)
        → (answers : Answers store old (swept t new) (Scan t) (said.Scanned (in_key_order t rows))) × (answers.made ≡ s.made)
    scan_whole new rows s = sweep_whole old is open' (Scan t) (scan_sweeps store own t) new rows s (said.Scanned (in_key_order t rows)) refl (ap (λ rs. Some (said.Scanned (in_key_order t rs))) s.rows)

    pub scan_unlaid : (new : Session) (k : ℕ) (read : List Row) → k ≤ blocks_of sh t → Scans store old new own t k read → Answers store old new (Scan t) said.Memory
    scan_unlaid new k read le s = (sweep_unlaid old is open' (Scan t) (scan_sweeps store own t) new k read le s).0

    pub scan_unread : (mid new : Session) (k : ℕ) (read : List Row) (told : CoreReply) → k < blocks_of sh t → (s : Scans store old mid own t k read) → (r : ReadsBlock store mid new own t k told)
        → KeepsLend (view_of mid) (view_of new) → Answers store old new (Scan t) said.Memory
    scan_unread = sweep_unread old is open' (Scan t) (scan_sweeps store own t)

-- ---- how a scan's calls end

-- false is not true
pub never : false ≡ true → ⊥
never e = cc

-- of an answer without memory nothing is said
pub on_ok : {T E : Type 0} (P : Type 0) (r : Result T E) → IsErr r → OnOk r P
on_ok P (Ok v) is = absurd (never is)
on_ok P (Err e) is = tt

-- a scan without an answer is told as want of memory
pub unscanned : {E : Type 0} (r : Result (List Row) E) → IsErr r → scanned_told r ≡ said.Memory
unscanned (Ok v) is = absurd (never is)
unscanned (Err e) is = refl

-- the rows that a read has are those of its reply, which is no want of memory
pub rows_same : (E : Type 0) (seen : SeenBlock) → rows_told (reply_of {E = E} (Ok seen)) ≡ rows_in seen
rows_same E (block.Rows rows) = refl
rows_same E (block.Lent lend) = refl

-- a read that has rows was not refused memory
pub read_granted : (E : Type 0) (seen : SeenBlock) → is_memory (reply_of {E = E} (Ok seen)) ≡ false
read_granted E (block.Rows rows) = refl
read_granted E (block.Lent lend) = refl

-- a scan made one event for each block that it read
pub scans_count : (store : StoreView) (old new : Session) (own : OwnTransaction) (t k : ℕ) (read : List Row) → (s : Scans store old new own t k read) → length s.made ≡ k
scans_count store old new own t k read s =
    let a : length (events_in s.made) ≡ length s.made = length-map s.made (λ (o : Occurrence). o.event) in
    let b : length {A = CoreEvent} (map (event.Read own t) (below k)) ≡ length (below k) = length-map (below k) (event.Read own t) in
    let c : length (below k) ≡ k = length-range_with_len 0 k in
    let d = ap (λ (es : List CoreEvent). length es) s.events in
    omega (arith, a, b, c, d)

-- a scan that read all blocks answers with its rows
pub scan_ends : (store : StoreView) (own : OwnTransaction) (t : ℕ) (old new : Session) (read ordered : List Row)
    → IsSession store old → own_of old ≡ Some own → Scans store old new own t (blocks_of (shape_in store) t) read
    → ordered ≡ in_key_order t read → Answers store old (swept t new) (Scan t) (said.Scanned ordered)
scan_ends store own t old new read ordered is open' s same =
    subst (λ (rows : List Row). Answers store old (swept t new) (Scan t) (said.Scanned rows)) (sym same) (scan_whole store own t old is open' new read s).0

-- what holds in any case holds where there is an answer
pub ok_if : {T E P : Type 0} (r : Result T E) → P → OnOk r P
ok_if (Ok v) p = p
ok_if (Err e) p = tt

-- ---- steps

-- So many blocks of the table were read, by no more steps than that costs.
pub record ScansBy
    (store : StoreView) (old new : Session) (own : OwnTransaction) (table count : ℕ) (read : List Row) (spent steps : ℕ)
    : Type 0 where
  pub scans : Scans store old new own table count read
  pub few : steps ≤ spent + scan_cost (shape_in store) table (replies_in scans.made)

module _ (store : StoreView) (own : OwnTransaction) (t : ℕ) where
  -- before the first block no step was taken
  pub steps_begin : (s : Session) (spent : ℕ) → IsSession store s → ScansBy store s s own t 0 [] spent spent
  unfolding scan_begins
  steps_begin s spent is = record {
    scans = scan_begins store own t s is;
    few = le_more spent (scan_cost (shape_in store) t []);
  }

  module _ (old mid new : Session) (k : ℕ) (read : List Row) (told : CoreReply) (spent steps later : ℕ)
      (s : ScansBy store old mid own t k read spent steps) (r : ReadsBlock store mid new own t k told) (keeps : KeepsLend (view_of mid) (view_of new)) (lt : k < blocks_of (shape_in store) t)
      (few : later ≤ steps + scan_cost (shape_in store) t (told ∷ [])) where
    few_further : (parts : Parts) → later ≤ spent + scan_cost (shape_in store) t (replies_in (s.scans.made ++ read_at old own t k parts told ∷ []))
    few_further parts = subst (λ (replies : List CoreReply). later ≤ spent + scan_cost (shape_in store) t replies)
        (sym (map-append (λ (o : Occurrence). o.reply) s.scans.made (read_at old own t k parts told ∷ [])))
        (scanned_more (shape_in store) t (replies_in s.scans.made) told spent steps later s.few few)

    -- one block more was read
    pub steps_go_on : (now : List Row) → is_memory told ≡ false → now ≡ read ++ rows_told told → ScansBy store old new own t (k + 1) now spent later
    unfolding scan_goes_on
    steps_go_on now granted rows = record {
      scans = scan_goes_on store own t old mid new k read now told s.scans r keeps lt granted rows;
      few = few_further (one_read mid.session own t k told r.made r.is_read granted).0;
    }

    -- one block more was read, and there was no memory for it or for its rows
    pub steps_break : (is : IsSession store old) → own_of old ≡ Some own → (r.made ≡ [] → later ≤ steps) → ReadsOnce store old new t said.Memory spent later
    steps_break is open' unlooked = go r.is_read
      where
        go : IsReadOf mid.session own t k told r.made → ReadsOnce store old new t said.Memory spent later
        go (inl one) =
            let a = sweep_unread_one store own t old is open' (Scan t) (scan_sweeps store own t) mid new k read told lt s.scans r keeps one.0 one.1 in
            record { answers = a.0; few = subst (λ (made : List Occurrence). later ≤ spent + scan_cost (shape_in store) t (replies_in made)) (sym a.1) (few_further one.0) }
        go (inr none') =
            let a = sweep_unlent store own t old is open' (Scan t) (scan_sweeps store own t) mid new k read told lt s.scans r keeps none'.1 in
            let first = s.few in
            let then = unlooked none'.1 in
            record {
              answers = a.0;
              few = subst (λ (made : List Occurrence). later ≤ spent + scan_cost (shape_in store) t (replies_in made)) (sym a.1) (omega (arith, first, then));
            }

  -- behind the last block, with its rows or without memory for them
  pub steps_end : (old new : Session) (read : List Row) (spent steps : ℕ) (ordered : List Row) (is : IsSession store old) → own_of old ≡ Some own
      → (s : ScansBy store old new own t (blocks_of (shape_in store) t) read spent steps) → ordered ≡ in_key_order t read
      → ReadsOnce store old (swept t new) t (said.Scanned ordered) spent steps
  steps_end old new read spent steps ordered is open' s same =
      let a = scan_whole store own t old is open' new read s.scans in
      subst (λ (rows : List Row). ReadsOnce store old (swept t new) t (said.Scanned rows) spent steps) (sym same)
      (record { answers = a.0; few = subst (λ (made : List Occurrence). steps ≤ spent + scan_cost (shape_in store) t (replies_in made)) (sym a.1) s.few })

  pub steps_unlaid : (old new : Session) (read : List Row) (spent steps : ℕ) (is : IsSession store old) → own_of old ≡ Some own
      → (s : ScansBy store old new own t (blocks_of (shape_in store) t) read spent steps) → ReadsOnce store old new t said.Memory spent steps
  steps_unlaid old new read spent steps is open' s =
      let a = sweep_unlaid store own t old is open' (Scan t) (scan_sweeps store own t) new (blocks_of (shape_in store) t) read (omega arith) s.scans in
      record { answers = a.0; few = subst (λ (made : List Occurrence). steps ≤ spent + scan_cost (shape_in store) t (replies_in made)) (sym a.1) s.few }
