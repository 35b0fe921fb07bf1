-- What a session notes of what it wrote, behind its events.
use Rattle.std.proofs.Common.{◌≡◌, ℕ, Bool, true, false, cond, List, [], ◌∷◌, ◌++◌, Option, None, Some, drop, Result, Ok, Err, is_some, option_map, refl, sym, ap, subst, ◌∙◌, append-nil}
use Rattle.std.proofs.lemmas.List.Sums.{fold-append}
use Rattle.std.specs.Prelude.{IfOk, OnErr, fold, map, option_and_then, option_to_list}
use Rattle.std.specs.BTreeMap.{insert_entry}
use Rattle.std.specs.List.{last_or}
use Rattle.block_spec.specs.Slots.{Row}
use Rattle.event_spec.specs.declared.event.Event.TheVariants as event
use Rattle.event_spec.specs.declared.own.OwnTransaction.{OwnTransaction}
use Rattle.event_spec.specs.declared.reply.Reply.TheVariants as reply
use Rattle.event_spec.specs.Effects.{CoreEvent}
use Rattle.event_spec.specs.Parts.{Parts, Shape}
use Rattle.event_spec.specs.Replies.{CoreReply}
use Rattle.isolation_spec.specs.Contents.{WriteSet, place_cmp}
use Rattle.isolation_spec.specs.Reads.{ReadSet}
use Rattle.isolation_spec.specs.declared.place.Place.{Place}
use Rattle.isolation_spec.specs.declared.read.Read.{Read}
use Rattle.outcome_spec.specs.Entries.{is_accepted}
use Rattle.run_spec.specs.Asked.{imaged_block, parts_before}
use Rattle.run_spec.specs.Calls.{is_memory}
use Rattle.run_spec.specs.declared.commit.Commit.{Commit}
use Rattle.run_spec.specs.Commits.{SessionWrites, commit_by, commit_told, entered, own_written, says, writes_behind}
use Rattle.run_spec.specs.Occurrences.{Occurrence, events_in, replies_in}
use Rattle.store_laws.specs.Own.{occurrence_at}
use Rattle.shared_store.specs.Changing.{HasMade}
use Rattle.shared_store.specs.KeptCommits.{with_change, with_commit, without_own}
use Rattle.shared_store.specs.Commits.{KeepsChange, LeavesRow, MayLeaveRow, WritesNothing, written_behind}
use Rattle.shared_store.specs.Writing.{is_accepted_in}
use Rattle.shared_store.specs.Store.{Notes, notes_of, reads_of, wrote_of}
use Rattle.shared_store.specs.declared.session.Session.{Session}
use Rattle.shared_store.proofs.Made.{memory_is}

-- the event neither writes a row nor ends a transaction
abbrev pub writes_none : CoreEvent → Bool
writes_none (event.Begin session) = true
writes_none (event.Get own table key) = true
writes_none (event.Insert own table row) = false
writes_none (event.Update own table row) = false
writes_none (event.Delete own table key) = false
writes_none (event.Read own table block) = true
writes_none (event.Range own table low high) = true
writes_none (event.Commit own reads) = false
writes_none (event.Abort own) = false
writes_none event.Oldest = true
writes_none (event.Observe table block) = true
writes_none (event.Prune table block oldest) = true
writes_none (event.Look table block) = true
writes_none (event.Move table moves) = true
writes_none (event.Seal table block) = true
writes_none (event.Image table block image) = true
writes_none (event.Thaw table block) = true

-- what a session wrote, by its parts
abbrev parts_of : WriteSet → List Commit → SessionWrites
parts_of own commits = record { own = own; commits = commits }

-- what it wrote behind an event
abbrev behind : SessionWrites → CoreEvent → CoreReply → SessionWrites
behind w e told = parts_of (own_written w.own e told) (w.commits ++ commit_by w.own e told)

-- no commit more
same_commits : (w : SessionWrites) → parts_of w.own (w.commits ++ []) ≡ w
same_commits w = ap (λ commits. parts_of w.own commits) (append-nil w.commits)

-- so what was written stays
none_event : (w : SessionWrites) (e : CoreEvent) (told : CoreReply) → writes_none e ≡ true
    → behind w e told ≡ w
none_event w (event.Begin session) told is = same_commits w
none_event w (event.Get own table key) told is = same_commits w
none_event w (event.Insert own table row) told is = cc
none_event w (event.Update own table row) told is = cc
none_event w (event.Delete own table key) told is = cc
none_event w (event.Read own table block) told is = same_commits w
none_event w (event.Range own table low high) told is = same_commits w
none_event w (event.Commit own reads) told is = cc
none_event w (event.Abort own) told is = cc
none_event w event.Oldest told is = same_commits w
none_event w (event.Observe table block) told is = same_commits w
none_event w (event.Prune table block oldest) told is = same_commits w
none_event w (event.Look table block) told is = same_commits w
none_event w (event.Move table moves) told is = same_commits w
none_event w (event.Seal table block) told is = same_commits w
none_event w (event.Image table block image) told is = same_commits w
none_event w (event.Thaw table block) told is = same_commits w

-- one such event writes nothing
pub one_none : (o : Occurrence) → writes_none o.event ≡ true → WritesNothing (o ∷ [])
one_none o is w = none_event w o.event o.reply is

-- nor do some one behind the other
pub none_both : (made more : List Occurrence) → WritesNothing made → WritesNothing more → WritesNothing (made ++ more)
none_both made more first then w = fold-append writes_behind w made more ∙ ap (λ w. fold writes_behind w more) (first w) ∙ then w

-- what is noted, by its parts
abbrev notes_with : Option ReadSet → Option SessionWrites → Notes
notes_with reads wrote = record { reads = reads; wrote = wrote }

-- what is noted is the same where the reads are and what was written
pub noted : (old new : Session) → reads_of new ≡ reads_of old → wrote_of new ≡ wrote_of old → notes_of new ≡ notes_of old
noted old new reads wrote =
    ap (λ (r : Option ReadSet). notes_with r (wrote_of new)) reads
    ∙ ap (λ (w : Option SessionWrites). notes_with (reads_of old) w) wrote

-- what a session keeps stays behind events that write nothing
pub unwritten : (made : List Occurrence) → WritesNothing made → (wrote : Option SessionWrites) → written_behind made wrote ≡ wrote
unwritten made none' None = refl
unwritten made none' (Some w) = ap (λ (w : SessionWrites). Some w) (none' w)

-- so it stays behind one event that writes nothing
pub still : (e : CoreEvent) → writes_none e ≡ true → (session : ℕ) (told : CoreReply) (wrote : Option SessionWrites) (parts : Parts)
    → wrote ≡ written_behind (occurrence_at session parts e told ∷ []) wrote
still e none' session told wrote parts = sym (unwritten (occurrence_at session parts e told ∷ []) (one_none (occurrence_at session parts e told) none') wrote)

-- ---- writes

-- one event of a write leaves its row where it was accepted
one_write : (place : Place) (change : Option Row) (e : CoreEvent) (told : CoreReply) → LeavesRow place change e → (w : SessionWrites)
    → behind w e told ≡ with_change place change (says is_accepted told) w
one_write place change e told leaves w =
    ap (λ own. parts_of own (w.commits ++ commit_by w.own e told)) (leaves.own w.own told)
    ∙ ap (λ more. parts_of (entered place change told w.own) (w.commits ++ more)) (leaves.none w.own told)
    ∙ go (says is_accepted told)
  where
    go : (accepted : Bool) → parts_of (cond accepted (insert_entry place_cmp w.own place change) w.own) (w.commits ++ []) ≡ with_change place change accepted w
    go true = ap (λ commits. parts_of (insert_entry place_cmp w.own place change) commits) (append-nil w.commits)
    go false = same_commits w

-- the copy of its row is what it leaves
pub leaves_copy : {E : Type 0} (copy : Result (Option Row) E) (wrote : Option SessionWrites) (place : Place) (row : Row) (e : CoreEvent)
    → IfOk copy (λ change. is_some wrote ≡ true → change ≡ Some row) → LeavesRow place (Some row) e → IfOk copy (MayLeaveRow wrote place e)
leaves_copy (Ok change) wrote place row e copied leaves = λ some. subst (λ change. LeavesRow place change e) (sym (copied some)) leaves
leaves_copy (Err memory) wrote place row e copied leaves = tt

-- what a session keeps behind it
pub wrote_one : (place : Place) (change : Option Row) (e : CoreEvent) (told : CoreReply) (session : ℕ) (parts : Parts) (wrote : Option SessionWrites)
    → MayLeaveRow wrote place e change
    → written_behind (occurrence_at session parts e told ∷ []) wrote ≡ option_map (with_change place change (says is_accepted told)) wrote
wrote_one place change e told session parts None leaves = refl
wrote_one place change e told session parts (Some w) leaves = ap (λ (w : SessionWrites). Some w) (one_write place change e told (leaves refl) w)

-- A reply that is want of memory accepts nothing.
not_accepted : (told : CoreReply) → is_memory told ≡ true → says is_accepted told ≡ false
not_accepted told memory = ap (says is_accepted) (memory_is told memory)

-- a change that may thaw before leaves its row where it was accepted
pub wrote_change : (shape : Shape) (place : Place) (change : Option Row) (write : CoreEvent) (made : List Occurrence) (told : CoreReply) (wrote : Option SessionWrites)
    → HasMade shape place write made told → MayLeaveRow wrote place write change
    → written_behind made wrote ≡ option_map (with_change place change (says is_accepted told)) wrote
wrote_change shape place change write made told None has leaves = refl
wrote_change shape place change write made told (Some w) has leaves =
    ap (λ (w : SessionWrites). Some w) (go made (option_and_then (imaged_block shape place.table place.key) (parts_before made)) has.events has.last)
  where
    laid : SessionWrites
    laid = with_change place change (says is_accepted told) w

    first : (x y : CoreEvent) (xs ys : List CoreEvent) → x ∷ xs ≡ y ∷ ys → x ≡ y
    first x y xs ys e = cc

    second : (x y a b : CoreEvent) (xs ys : List CoreEvent) → x ∷ a ∷ xs ≡ y ∷ b ∷ ys → a ≡ b
    second x y a b xs ys e = cc

    told_is : (x y : CoreReply) → Some x ≡ Some y → x ≡ y
    told_is x y e = cc

    none_some : (x : CoreReply) → None ≡ Some x → ⊥
    none_some x e = cc

    nil : (x : CoreEvent) (xs : List CoreEvent) → [] ≡ x ∷ xs → ⊥
    nil x xs e = cc

    written : (o : Occurrence) → o.event ≡ write → o.reply ≡ told → writes_behind w o ≡ laid
    written o is said =
        ap (λ e. behind w e o.reply) is
        ∙ ap (λ r. behind w write r) said
        ∙ one_write place change write told (leaves refl) w

    thawed : (o : Occurrence) (block : ℕ) → event.Thaw place.table block ≡ o.event → writes_behind w o ≡ w
    thawed o block is = none_event w o.event o.reply (ap writes_none (sym is))

    go : (made : List Occurrence) (block : Option ℕ)
        → map (event.Thaw place.table) (option_to_list block) ++ write ∷ [] ≡ events_in made ++ has.missed
        → last_or None (replies_in made) ≡ Some told
        → fold writes_behind w made ≡ laid
    go [] block events last = absurd (none_some told last)
    go (o ∷ []) None events last =
        written o (sym (first write o.event [] has.missed events)) (told_is o.reply told last)
    go (o ∷ []) (Some block) events last = thawed o block (first (event.Thaw place.table block) o.event (write ∷ []) has.missed events) ∙ unmade (is_memory told) refl
      where
        unmade : (b : Bool) → is_memory told ≡ b → w ≡ laid
        unmade true memory = ap (λ accepted. with_change place change accepted w) (sym (not_accepted told memory))
        unmade false granted = absurd (nil write [] (sym (ap (drop 1) events ∙ (has.granted granted).0)))
    go (o ∷ p ∷ []) None events last = absurd (nil p.event has.missed (ap (drop 1) events))
    go (o ∷ p ∷ []) (Some block) events last =
        ap (λ w. writes_behind w p) (thawed o block (first (event.Thaw place.table block) o.event (write ∷ []) (p.event ∷ has.missed) events))
        ∙ written p (sym (second (event.Thaw place.table block) o.event write p.event [] has.missed events)) (told_is p.reply told last)
    go (o ∷ p ∷ q ∷ made) None events last = absurd (nil p.event (q.event ∷ events_in made ++ has.missed) (ap (drop 1) events))
    go (o ∷ p ∷ q ∷ made) (Some block) events last = absurd (nil q.event (events_in made ++ has.missed) (ap (drop 2) events))

-- ---- ends of a transaction

-- a commit keeps what was written, at its number
pub wrote_commit : (t : OwnTransaction) (reads : Option ReadSet) (number : Option ℕ) (told : CoreReply) → told ≡ reply.Committed number
    → (session : ℕ) (later wrote : Option SessionWrites) → later ≡ option_map (with_commit number) wrote → (parts : Parts)
    → later ≡ written_behind (occurrence_at session parts (event.Commit t reads) told ∷ []) wrote
wrote_commit t reads number told is session later wrote left parts =
    left ∙ go wrote ∙ ap (λ r. written_behind (occurrence_at session parts (event.Commit t reads) r ∷ []) wrote) (sym is)
  where
    go : (wrote : Option SessionWrites) → option_map (with_commit number) wrote ≡ written_behind (occurrence_at session parts (event.Commit t reads) (reply.Committed number) ∷ []) wrote
    go None = refl
    go (Some w) = refl

-- one that is refused leaves what was written
pub wrote_stale : (t : OwnTransaction) (reads : Option ReadSet) (what : Read) (number : ℕ) (told : CoreReply) → told ≡ reply.Stale what number
    → (session : ℕ) (wrote : Option SessionWrites) (parts : Parts)
    → wrote ≡ written_behind (occurrence_at session parts (event.Commit t reads) told ∷ []) wrote
wrote_stale t reads what number told is session wrote parts =
    go wrote ∙ ap (λ r. written_behind (occurrence_at session parts (event.Commit t reads) r ∷ []) wrote) (sym is)
  where
    none_told : (own : WriteSet) → commit_told own (reply.Stale what number) ≡ []
    none_told [] = refl
    none_told (write ∷ writes) = refl

    go : (wrote : Option SessionWrites) → wrote ≡ written_behind (occurrence_at session parts (event.Commit t reads) (reply.Stale what number) ∷ []) wrote
    go None = refl
    go (Some w) = ap (λ (w : SessionWrites). Some w) (sym
        (ap (λ more. parts_of w.own (w.commits ++ more)) (none_told w.own) ∙ same_commits w))

-- an abort drops what its transaction wrote
pub wrote_abort : (t : OwnTransaction) (told : CoreReply) (session : ℕ) (later wrote : Option SessionWrites) → later ≡ option_map without_own wrote → (parts : Parts)
    → later ≡ written_behind (occurrence_at session parts (event.Abort t) told ∷ []) wrote
wrote_abort t told session later wrote left parts = left ∙ go wrote
  where
    go : (wrote : Option SessionWrites) → option_map without_own wrote ≡ written_behind (occurrence_at session parts (event.Abort t) told ∷ []) wrote
    go None = refl
    go (Some w) = ap (λ (w : SessionWrites). Some w) (sym (ap (λ commits. parts_of [] commits) (append-nil w.commits)))

-- ---- around a write

-- a write that was made is kept where it was accepted
pub change_kept : {E F : Type 0} (place : Place) (copy : Result (Option Row) E) (change : Option Row) (before now : Option SessionWrites) (told : Result CoreReply F)
    → copy ≡ Ok change → now ≡ option_map (with_change place change (is_accepted_in told)) before → IfOk told (KeepsChange place copy before now)
change_kept place copy change before now (Ok told) copied kept = record { change = change; copied = copied; kept = kept }
change_kept place copy change before now (Err memory) copied kept = tt

-- and one that was not leaves what is kept
pub change_left : {F : Type 0} (place : Place) (change : Option Row) (before now : Option SessionWrites) (told : Result CoreReply F)
    → now ≡ option_map (with_change place change (is_accepted_in told)) before → OnErr told (now ≡ before)
change_left place change before now (Ok told) kept = tt
change_left place change None now (Err memory) kept = kept
change_left place change (Some w) now (Err memory) kept = kept
