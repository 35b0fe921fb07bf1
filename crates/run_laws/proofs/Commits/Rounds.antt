-- A round of a run goes on by what its sessions committed.
use Rattle.std.proofs.Common.{◌≡◌, ◌≢◌, ◌⊎◌, inl, inr, ℕ, zero, suc, ◌+◌, ◌<◌, ◌≤◌, Bool, true, false, cond, ◌==◌, List, [], ◌∷◌, ◌++◌, length, take, drop, refl, sym, ap, ◌∙◌, subst, arith, append-nil}
use Rattle.std.specs.Prelude.{All}
use Rattle.std.specs.List.{flat_map, range_with_len}
use Rattle.std.specs.List.Sorted.{IsPermutation}
use Rattle.std.proofs.Math.Seq.{take-append_seam}
use Rattle.std.proofs.lemmas.Bool.Decides.{nat_tests}
use Rattle.std.proofs.lemmas.Grind.{flat_map-append}
use Rattle.std.proofs.lemmas.List.{take-append-drop}
use Rattle.std.proofs.lemmas.List.Elements.{All-append, All-head, All-nil, All-tail, All-weaker}
use Rattle.event_spec.specs.declared.event.Event.TheVariants as event
use Rattle.event_spec.specs.Effects.{CoreEvent}
use Rattle.event_spec.specs.Replies.{CoreReply}
use Rattle.isolation_spec.specs.Commits.{AreCommitsOf, IsCommitOf}
use Rattle.isolation_spec.specs.Contents.{WriteSet}
use Rattle.timeline_laws.proofs.Ranges.{range-append}
use Rattle.workload_spec.specs.declared.script.Script.{Script}
use Rattle.workload_spec.specs.Valid.{is_valid}
use Rattle.run_spec.specs.declared.commit.Commit.{Commit}
use Rattle.run_spec.specs.Commits.{commit_by, commits_along, history_behind, write_sets, writes_of}
use Rattle.run_spec.specs.Occurrences.{Occurrence, under}
use Rattle.run_spec.specs.Ran.{AreRounds, IsOfScript, RoundRun, shape_of}
use Rattle.run_spec.specs.Traces.{as_log}
use Rattle.run_laws.proofs.Calls.Named.{run_lawful, run_named}
use Rattle.run_laws.proofs.Commits.Histories.{same_or_not}
use Rattle.run_laws.proofs.Commits.Numbers.{all_behind, all_front}
use Rattle.run_laws.proofs.Commits.Shares.{along_of, histories_go_on, made_by, since_is, sorted_shares_are}
use Rattle.run_laws.proofs.Commits.Tables.{EventFits, OccurrenceFits, along_fit, is_no_commit, run_fits}
use Rattle.run_laws.specs.Commits.Rounds.{HistoriesAreOfTheTables, RoundsGoOnByTheirCommits}
use Rattle.run_laws.specs.Commits.Shares.{IsEndOf, IsUnderOne, commits_since}

-- the events of some rounds
abbrev made_in : List RoundRun → List Occurrence
made_in rounds = flat_map (λ (round : RoundRun). round.made) rounds

-- ---- lists

-- True is not the same as false.
true_false : true ≡ false → ⊥
true_false e = cc

-- What gives nothing for each number from one on gives nothing.
none_from : (A : ℕ → List Commit) (base n : ℕ) → ((q : ℕ) → base ≤ q → A q ≡ []) → flat_map A (range_with_len base n) ≡ []
none_from A base zero none = refl
none_from A base (suc n) none =
    ap (λ (cs : List Commit). cs ++ flat_map A (range_with_len (base + 1) n)) (none base (omega arith))
    ∙ none_from A (base + 1) n (λ q low. none q (omega (arith, low)))

-- All rounds are taken, with the last.
take_whole : (whole : List RoundRun) (round : RoundRun) → take (length whole + 1) (whole ++ round ∷ []) ≡ whole ++ round ∷ []
take_whole [] round = refl
take_whole (r ∷ whole) round =
    let one : suc (length whole) + 1 ≡ suc (length whole + 1) = omega arith in
    ap (λ (n : ℕ). take n (r ∷ (whole ++ round ∷ []))) one ∙ ap (λ (rs : List RoundRun). r ∷ rs) (take_whole whole round)

-- ---- workers

-- An event that is no commit makes none.
makes_none : (own : WriteSet) (e : CoreEvent) (told : CoreReply) → is_no_commit e ≡ true → commit_by own e told ≡ []
makes_none own (event.Commit handed reads) told h = absurd (true_false (sym h))
makes_none own (event.Begin session) told h = refl
makes_none own (event.Get handed table key) told h = refl
makes_none own (event.Insert handed table row) told h = refl
makes_none own (event.Update handed table row) told h = refl
makes_none own (event.Delete handed table key) told h = refl
makes_none own (event.Read handed table block) told h = refl
makes_none own (event.Range handed table low high) told h = refl
makes_none own (event.Abort handed) told h = refl
makes_none own event.Oldest told h = refl
makes_none own (event.Observe table block) told h = refl
makes_none own (event.Prune table block oldest) told h = refl
makes_none own (event.Look table block) told h = refl
makes_none own (event.Move table moves) told h = refl
makes_none own (event.Seal table block) told h = refl
makes_none own (event.Image table block image) told h = refl
makes_none own (event.Thaw table block) told h = refl

module _ (script : Script) (valid : is_valid script ≡ true) where
  -- A worker's commits along events that fit.
  worker_none : (q : ℕ) → script.sessions < q → (front made : List Occurrence) → All (OccurrenceFits script valid) made → along_of q front made ≡ []
  worker_none q high front [] all = refl
  worker_none q high front (o ∷ rest) all = go (same_or_not o.session q) (worker_none q high (front ++ o ∷ []) rest (All-tail (OccurrenceFits script valid) o rest all))
    where
      go : (o.session ≡ q) ⊎ (o.session ≢ q) → along_of q (front ++ o ∷ []) rest ≡ [] → cond (o.session == q) (made_by front o q) [] ++ along_of q (front ++ o ∷ []) rest ≡ []
      go (inl same) later =
          let is : (o.session == q) ≡ true = grind (arith, nat_tests, same) in
          let its = All-head (OccurrenceFits script valid) o rest all in
          ap (λ (b : Bool). cond b (made_by front o q) [] ++ along_of q (front ++ o ∷ []) rest) is
          ∙ ap (λ (cs : List Commit). cs ++ along_of q (front ++ o ∷ []) rest)
          (makes_none (writes_of (under q front)).own o.event o.reply (its.worker (subst (λ (s : ℕ). script.sessions < s) (sym same) high)))
          ∙ later
      go (inr apart) later =
          let is : (o.session == q) ≡ false = grind (arith, nat_tests, apart) in
          ap (λ (b : Bool). cond b (made_by front o q) [] ++ along_of q (front ++ o ∷ []) rest) is ∙ later

  -- So the shares of all are those of the sessions.
  sessions_only : (front made : List Occurrence) → All (OccurrenceFits script valid) made
      → flat_map (commits_since front made) (range_with_len 1 (script.sessions + script.workers)) ≡ flat_map (commits_since front made) (range_with_len 1 script.sessions)
  sessions_only front made all =
      ap (flat_map (commits_since front made)) (range-append 1 script.sessions script.workers)
      ∙ flat_map-append (commits_since front made) (range_with_len 1 script.sessions) (range_with_len (1 + script.sessions) script.workers)
      ∙ ap (λ (cs : List Commit). flat_map (commits_since front made) (range_with_len 1 script.sessions) ++ cs)
      (none_from (commits_since front made) (1 + script.sessions) script.workers (λ q low. since_is q front made ∙ worker_none q (omega (arith, low)) front made all))
      ∙ append-nil (flat_map (commits_since front made) (range_with_len 1 script.sessions))

  -- The events' writes fit.
  writes_fit : (made : List Occurrence) → All (OccurrenceFits script valid) made → All (EventFits script.tables) made
  writes_fit made all = All-weaker (OccurrenceFits script valid) (EventFits script.tables) (λ o fit. fit.write) made all

-- ---- the laws

-- Behind any of its rounds the history of a run is one of commits of its tables.
pub histories_fit : HistoriesAreOfTheTables
histories_fit script log text count valid ran =
    let P = OccurrenceFits script valid.valid in
    let parted : made_in ran.rounds ≡ made_in (take count ran.rounds) ++ made_in (drop count ran.rounds) =
    ap made_in (sym (take-append-drop count ran.rounds)) ∙ flat_map-append (λ (round : RoundRun). round.made) (take count ran.rounds) (drop count ran.rounds) in
    let all = all_front P (made_in (take count ran.rounds)) (made_in (drop count ran.rounds)) (subst (All P) parted (run_fits script valid.valid log text ran)) in
    All-append (IsCommitOf script.tables) script.begun (write_sets (commits_along [] (made_in (take count ran.rounds)))) valid.shape.commits
    (along_fit script.tables [] (made_in (take count ran.rounds)) (All-nil (EventFits script.tables)) (writes_fit script valid.valid (made_in (take count ran.rounds)) all))

-- The events of the last round are of the script.
last_of_script : (script : Script) (front : List Occurrence) (whole : List RoundRun) (round : RoundRun) → AreRounds script front (whole ++ round ∷ []) → All (IsOfScript script) round.made
last_of_script script front [] round are = are.0.nobody_else
last_of_script script front (r ∷ whole) round are = last_of_script script (front ++ r.made) whole round are.1

-- The last round of a run goes on by what its sessions committed.
pub rounds_go_on : RoundsGoOnByTheirCommits
rounds_go_on script log text whole round sorted valid ran is of_round = record {
  history =
      ap (λ (rs : List RoundRun). history_behind script.begun (made_in (take (length whole + 1) rs))) is
      ∙ ap (λ (rs : List RoundRun). history_behind script.begun (made_in rs)) (take_whole whole round)
      ∙ ap (history_behind script.begun) parted
      ∙ histories_go_on script.begun front round.made
      ∙ ap (λ (cs : List Commit). history_behind script.begun front ++ write_sets cs) (sym same)
      ∙ ap (λ (rs : List RoundRun). history_behind script.begun (made_in rs) ++ write_sets sorted) (sym (ap (take (length whole)) is ∙ take-append_seam whole (round ∷ [])));
  tables = subst (λ (cs : List Commit). AreCommitsOf script.tables (write_sets cs)) (sym same)
      (along_fit script.tables front round.made (writes_fit script valid.valid front (all_front P front round.made fits)) (writes_fit script valid.valid round.made here));
}
  where
    front : List Occurrence
    front = made_in whole

    P : Occurrence → Type 0
    P = OccurrenceFits script valid.valid

    parted : made_in (whole ++ round ∷ []) ≡ front ++ round.made
    parted = flat_map-append (λ (round : RoundRun). round.made) whole (round ∷ []) ∙ ap (λ (es : List Occurrence). front ++ es) (append-nil round.made)

    fits : All P (front ++ round.made)
    fits = subst (All P) (ap made_in is ∙ parted) (run_fits script valid.valid log text ran)

    here : All P round.made
    here = all_behind P front round.made fits

    ends : IsEndOf (shape_of script) (as_log ran.trace) front round.made
    ends = record {
      lawful = run_lawful script log text ran;
      named = run_named script log text ran;
      parted = ran.parted ∙ ap made_in is ∙ parted;
    }

    within : All (IsUnderOne (script.sessions + script.workers)) round.made
    within = last_of_script script [] whole round (subst (AreRounds script []) is ran.done)

    same : sorted ≡ commits_along front round.made
    same = sorted_shares_are (shape_of script) (as_log ran.trace) front round.made (script.sessions + script.workers) sorted valid.shape ends within
        (subst (λ (cs : List Commit). IsPermutation cs sorted) (sym (sessions_only script valid.valid front round.made here)) of_round.same) of_round.rises
