-- What a session keeps of its commits, along its calls: what its own events wrote, but what was taken.
use Rattle.std.proofs.Common.{◌≡◌, ◌≤◌, ℕ, zero, suc, ◌==◌, Bool, true, false, cond, List, [], ◌∷◌, ◌++◌, Some, drop, fold, length, refl, sym, ap, subst, ◌∙◌, arith, length-append}
use Rattle.std.proofs.lemmas.List.Sums.{fold-append}
use Rattle.core_laws.proofs.Sound.Bodies.{true_false}
use Rattle.event_spec.specs.declared.event.Event.TheVariants as event
use Rattle.event_spec.specs.Effects.{CoreEvent}
use Rattle.event_spec.specs.Parts.{Parts, Shape}
use Rattle.event_spec.specs.Replay.{after}
use Rattle.isolation_spec.specs.Contents.{WriteSet}
use Rattle.run_spec.specs.Commits.{SessionWrites, commit_by, own_written, writes_behind, writes_of}
use Rattle.run_spec.specs.declared.commit.Commit.{Commit}
use Rattle.run_spec.specs.Handed.{Stretch, own_in, parts_left}
use Rattle.run_spec.specs.Occurrences.{Logged, Occurrence, occurrence_of, occurrences_from, under}
use Rattle.run_spec.specs.Traces.{Action, EachAlong, MayLend, as_log, log_in}
use Rattle.store_laws.proofs.Lends.{lend_leaves, no_image_told}
use Rattle.store_laws.proofs.Lent.{events_grown, own_events}
use Rattle.store_laws.proofs.Stretches.{lent_lawful}
use Rattle.store_laws.proofs.Traces.{Lawful}
use Rattle.store_laws.specs.Stretches.{reads_block}
use Rattle.workload_spec.specs.declared.command.Command.{Command}
use Rattle.workload_spec.specs.declared.reply.Said.{Said}
use Rattle.shared_store.specs.Building.{IsNewSession, StartsKeeping}
use Rattle.shared_store.specs.Commits.{without_first, written_behind}
use Rattle.shared_store.specs.KeptCommits.{nothing_written}
use Rattle.shared_store.specs.Store.{Answers, IsSession, KeepsCommits, KeepsOn, StoreView, handed_over, own_writes, seen, shape_in, wrote_of}
use Rattle.shared_store.specs.declared.session.Session.{Session}
use Rattle.shared_store.proofs.Noted.{one_none, writes_none}

-- ---- lends write nothing

-- what a session wrote, by its parts
abbrev with_commits : WriteSet → List Commit → SessionWrites
with_commits own commits = record { own = own; commits = commits }

-- a read of a block writes nothing
read_none : (e : CoreEvent) → reads_block e ≡ true → writes_none e ≡ true
read_none (event.Begin session) is = cc
read_none (event.Get own table key) is = cc
read_none (event.Insert own table row) is = cc
read_none (event.Update own table row) is = cc
read_none (event.Delete own table key) is = cc
read_none (event.Read own table block) is = refl
read_none (event.Range own table low high) is = cc
read_none (event.Commit own reads) is = cc
read_none (event.Abort own) is = cc
read_none event.Oldest is = cc
read_none (event.Observe table block) is = cc
read_none (event.Prune table block oldest) is = cc
read_none (event.Look table block) is = cc
read_none (event.Move table moves) is = cc
read_none (event.Seal table block) is = cc
read_none (event.Image table block image) is = cc
read_none (event.Thaw table block) is = cc

module _ (shape : Shape) where
  -- What may be lent is a read of a block.
  lend_reads : (parts : Parts) (entry : Logged) → MayLend shape parts entry → writes_none entry.made.event ≡ true
  lend_reads parts entry may = go (reads_block entry.made.event) refl
    where
      go : (b : Bool) → reads_block entry.made.event ≡ b → writes_none entry.made.event ≡ true
      go true is = read_none entry.made.event is
      go false is = absurd (true_false (sym may.imaged ∙ no_image_told shape parts entry.made.event entry.made.refused is))

  -- what a session wrote behind some of its events
  abbrev wrote : SessionWrites → List Occurrence → SessionWrites
  wrote w made = fold writes_behind w made

  -- What a session wrote is what the events of a trace tell.
  same_written : (session : ℕ) (parts : Parts) (trace : List Action) → EachAlong shape (Lawful shape) parts trace → (w : SessionWrites)
      → wrote w (under session (occurrences_from shape parts (as_log trace))) ≡ wrote w (under session (occurrences_from shape parts (log_in trace)))
  same_written session parts [] along w = refl
  same_written session parts (action ∷ trace) along w =
      go (same_written session (after shape parts action.entry.made) trace along.1) action.lent refl
    where
      next : Parts
      next = after shape parts action.entry.made

      whole : List Occurrence
      whole = under session (occurrences_from shape next (as_log trace))

      rest : List Occurrence
      rest = under session (occurrences_from shape next (log_in trace))

      here : Occurrence
      here = occurrence_of shape parts action.entry

      mine : Bool
      mine = action.entry.session == session

      go : ((w : SessionWrites) → wrote w whole ≡ wrote w rest) → (lent : Bool) → action.lent ≡ lent
          → wrote w (cond mine (here ∷ whole) whole)
          ≡ wrote w (under session (occurrences_from shape parts (cond lent (log_in trace) (action.entry ∷ log_in trace))))
      go h true is = at_lend mine ∙ h w ∙ ap (λ s. wrote w (under session (occurrences_from shape s (log_in trace)))) (lend_leaves shape parts action.entry (along.0 is))
        where
          at_lend : (b : Bool) → wrote w (cond b (here ∷ whole) whole) ≡ wrote w whole
          at_lend true = ap (λ w. wrote w whole) (one_none here (lend_reads parts action.entry (along.0 is)) w)
          at_lend false = refl
      go h false is = at_event mine
        where
          at_event : (b : Bool) → wrote w (cond b (here ∷ whole) whole) ≡ wrote w (cond b (here ∷ rest) rest)
          at_event true = h (writes_behind w here)
          at_event false = h w

-- what one wrote behind a stretch
pub stretch_wrote : (shape : Shape) (session : ℕ) (old new : List Logged) (made : List Occurrence) → Stretch shape session old new made
    → writes_of (own_in shape session new) ≡ fold writes_behind (writes_of (own_in shape session old)) made
stretch_wrote shape session old new made s =
    ap writes_of (events_grown shape session old new made s)
    ∙ fold-append writes_behind (with_commits [] []) (own_in shape session old) (own_events shape session old new made s)
    ∙ sym (same_written shape session (parts_left shape old) s.trace (lent_lawful shape session (parts_left shape old) s.trace s.lends) (writes_of (own_in shape session old)))
    ∙ ap (fold writes_behind (writes_of (own_in shape session old))) s.own

-- ---- what was taken stays so

-- the first of a list that grows are the first of the list
drop_grown : (n : ℕ) (xs ys : List Commit) → n ≤ length xs → drop n (xs ++ ys) ≡ drop n xs ++ ys
drop_grown zero xs ys within = refl
drop_grown (suc n) [] ys within = absurd (omega (arith, within))
drop_grown (suc n) (x ∷ xs) ys within = drop_grown n xs ys (omega (arith, within))

-- so it is behind events
kept_on : (taken : ℕ) (made : List Occurrence) (w : SessionWrites) → taken ≤ length w.commits
    → (fold writes_behind (without_first taken w) made ≡ without_first taken (fold writes_behind w made))
    × (taken ≤ length (fold writes_behind w made).commits)
kept_on taken [] w within = (refl, within)
kept_on taken (o ∷ made) w within =
    let more = commit_by w.own o.event o.reply in
    let long = length-append w.commits more in
    let rest = kept_on taken made (writes_behind w o) (omega (arith, within, long)) in (
      ap (λ commits. fold writes_behind (with_commits (own_written w.own o.event o.reply) commits) made) (sym (drop_grown taken w.commits more within)) ∙ rest.0,
      rest.1,
    )

-- a session from which its commits were taken is one
pub handed_session : (store : StoreView) (s : Session) → IsSession store s → IsSession store (handed_over s)
handed_session store s is = record { stands = is.stands; own = is.own; lawful = is.lawful; named = is.named; fits = is.fits }

-- A session that was just built, and keeps its commits, keeps all of them.
pub keeps_new : (store : StoreView) (number : ℕ) (s : Session) → IsNewSession store number s → StartsKeeping true s → KeepsCommits store 0 s
keeps_new store number s is starts =
    let none' : own_writes store s ≡ nothing_written =
    ap (λ q. writes_of (own_in (shape_in store) q (seen s))) is.numbered ∙ ap writes_of is.none in
    record {
      within = omega arith;
      kept = starts ∙ ap (λ (w : SessionWrites). Some (without_first 0 w)) (sym none');
    }

-- A session that keeps its commits keeps them behind a call.
pub keeps_along : (store : StoreView) (old new : Session) (command : Command) (line : Said) → Answers store old new command line
    → new.session ≡ old.session → KeepsOn store old new
keeps_along store old new command line a same taken keeps =
    let grown = stretch_wrote (shape_in store) old.session (seen old) (seen new) a.made a.called.stretch in
    let here : own_writes store new ≡ fold writes_behind (own_writes store old) a.made =
    ap (λ q. writes_of (own_in (shape_in store) q (seen new))) same ∙ grown in
    let on = kept_on taken a.made (own_writes store old) keeps.within in
    record {
      within = subst (λ (w : SessionWrites). taken ≤ length w.commits) (sym here) on.1;
      kept = a.wrote ∙ ap (written_behind a.made) keeps.kept ∙ ap (λ (w : SessionWrites). Some w) (on.0 ∙ ap (without_first taken) (sym here));
    }

-- So does one that saw more of the log and made no event.
pub keeps_still : (store : StoreView) (old new : Session) → wrote_of new ≡ wrote_of old
    → own_in (shape_in store) new.session (seen new) ≡ own_in (shape_in store) old.session (seen old) → KeepsOn store old new
keeps_still store old new wrote nothing_more taken keeps =
    let here : own_writes store new ≡ own_writes store old = ap writes_of nothing_more in
    record {
      within = subst (λ (w : SessionWrites). taken ≤ length w.commits) (sym here) keeps.within;
      kept = wrote ∙ keeps.kept ∙ ap (λ (w : SessionWrites). Some (without_first taken w)) (sym here);
    }
