-- What ran is a run, and its lines say all that was sent.
use Rattle.std.proofs.Common.{◌≡◌, ℕ, List, [], ◌∷◌, ◌++◌, map, Option, None, refl, sym, subst}
use Rattle.std.specs.Prelude.{All}
use Rattle.run_laws.specs.Explained.Timelines.{PruningsFit}
use Rattle.run_laws.proofs.Exports.Sending.{nothing_says_nothing, runs_say_all_sent}
use Rattle.export_spec.specs.Calls.{CallsSend, calls_in}
use Rattle.export_spec.specs.Sent.{SaysAllSent}
use Rattle.outcome_spec.specs.Explained.{Explained}
use Rattle.run_laws.proofs.Rounds.Fronts.{first_rounds_are_valid}
use Rattle.run_laws.proofs.Rounds.Texts.{counts_fit, nothing_is_explained, rounds_are_explained, rounds_ran}
use Rattle.run_laws.specs.Rounds.Fronts.{with_rounds}
use Rattle.run_laws.specs.Rounds.Lines.{rounds_text}
use Rattle.run_laws.specs.Rounds.Rounds.{RanSoFar}
use Rattle.run_laws.specs.Rounds.Texts.{AreCounted}
use Rattle.run_spec.specs.Occurrences.{Logged}
use Rattle.run_spec.specs.Calls.{Kept}
use Rattle.run_spec.specs.Ran.{IsRunnable, RoundRun, agenda_of, agendas_in, calls_of, told_in}
use Rattle.workload_spec.specs.declared.reply.Who.{Who}
use Rattle.store_rounds.specs.Answered.{SentBy}
use Rattle.store_rounds.specs.Workloads.{Went}
use Rattle.workload_spec.specs.declared.script.Line.{Line}
use Rattle.workload_spec.specs.declared.script.Script.{Script}

module _ (script : Script) (rounds : List RoundRun) (finished : List Logged) (exported now : Option (List ℕ)) (counted : All AreCounted rounds) (kept : (who : Who) → Kept None (calls_of who rounds))
    (sent : SentBy script.tables (calls_in rounds) exported now) where
  -- rounds of a workload
  module _ (asked : List (List Line)) (valid : IsRunnable (with_rounds asked script)) (ran : RanSoFar script asked rounds finished) where
    -- the lines of the rounds say all that the outlet was sent
    pub says : SaysAllSent (with_rounds asked script) (rounds_text script.tables 1 rounds) sent.bytes
    says =
        let run = rounds_ran script asked rounds finished ran kept in
        runs_say_all_sent (with_rounds asked script) finished (rounds_text script.tables 1 rounds) sent.bytes valid run.ran
        (subst (λ (rounds : List RoundRun). PruningsFit (told_in rounds)) (sym run.rounds_are) (counts_fit rounds counted))
        (subst (λ (rounds : List RoundRun). CallsSend script.tables (calls_in rounds) sent.bytes) (sym run.rounds_are) sent.by_calls)

    -- the rounds ran, are explained, and say what was sent
    abbrev pub went : Went (with_rounds asked script) rounds (rounds_text script.tables 1 rounds) exported now
    went = record {
      log = finished;
      ran = (rounds_ran script asked rounds finished ran kept).ran;
      rounds_are = (rounds_ran script asked rounds finished ran kept).rounds_are;
      explained = rounds_are_explained script asked rounds finished valid ran kept counted;
      bytes = sent.bytes;
      sent = sent.sent;
      says = says;
    }

-- ---- some first rounds, which may be none

-- no round was asked and none ran
none_ran : (script : Script) (rounds : List RoundRun) → map (λ (round : RoundRun). map agenda_of round.shares) rounds ≡ map (agendas_in script) [] → rounds ≡ []
none_ran script [] e = refl
none_ran script (round ∷ rounds) e = absurd (let never : ⊥ = cc e in never)

module _ (script : Script) (rounds : List RoundRun) (finished : List Logged) (exported now : Option (List ℕ)) (counted : All AreCounted rounds) (kept : (who : Who) → Kept None (calls_of who rounds))
    (sent : SentBy script.tables (calls_in rounds) exported now) where
  -- before the first round the text is explained
  pub explained_at_first : RanSoFar script [] rounds finished → Explained (with_rounds [] script) (rounds_text script.tables 1 rounds)
  explained_at_first ran =
      subst (λ rounds. Explained (with_rounds [] script) (rounds_text script.tables 1 rounds)) (sym (none_ran script rounds ran.agendas)) (nothing_is_explained script)

  -- and the lines say all that was sent, which is nothing
  pub says_at_first : RanSoFar script [] rounds finished → SaysAllSent (with_rounds [] script) (rounds_text script.tables 1 rounds) sent.bytes
  says_at_first ran =
      let none : rounds ≡ [] = none_ran script rounds ran.agendas in
      subst (λ (rounds : List RoundRun). SaysAllSent (with_rounds [] script) (rounds_text script.tables 1 rounds) sent.bytes) (sym none)
      (subst (SaysAllSent (with_rounds [] script) [])
      (sym (subst (λ (rounds : List RoundRun). CallsSend script.tables (calls_in rounds) sent.bytes) none sent.by_calls))
      (nothing_says_nothing script))

  -- so nothing went yet, whatever the script is
  abbrev pub went_at_first : RanSoFar script [] rounds finished → Went (with_rounds [] script) rounds (rounds_text script.tables 1 rounds) exported now
  went_at_first ran = record {
    log = finished;
    ran = (rounds_ran script [] rounds finished ran kept).ran;
    rounds_are = (rounds_ran script [] rounds finished ran kept).rounds_are;
    explained = explained_at_first ran;
    bytes = sent.bytes;
    sent = sent.sent;
    says = says_at_first ran;
  }

  -- the first rounds of a script that can be run are one
  first_runnable : (first : List Line) (asked rest : List (List Line)) → script.rounds ≡ (first ∷ asked) ++ rest → IsRunnable script → IsRunnable (with_rounds (first ∷ asked) script)
  first_runnable first asked rest split valid = record { valid = first_rounds_are_valid script first asked rest split valid.valid; shape = valid.shape }

  -- the text of the first rounds of a script is explained, also where there is none yet
  pub explained_so_far : (asked rest : List (List Line)) → script.rounds ≡ asked ++ rest → IsRunnable script → RanSoFar script asked rounds finished
      → Explained (with_rounds asked script) (rounds_text script.tables 1 rounds)
  explained_so_far [] rest split valid ran = explained_at_first ran
  explained_so_far (first ∷ asked) rest split valid ran =
      rounds_are_explained script (first ∷ asked) rounds finished (first_runnable first asked rest split valid) ran kept counted

  -- the lines of the first rounds say all that was sent, also where there is none yet
  pub says_so_far : (asked rest : List (List Line)) → script.rounds ≡ asked ++ rest → IsRunnable script → RanSoFar script asked rounds finished
      → SaysAllSent (with_rounds asked script) (rounds_text script.tables 1 rounds) sent.bytes
  says_so_far [] rest split valid ran = says_at_first ran
  says_so_far (first ∷ asked) rest split valid ran =
      says script rounds finished exported now counted kept sent (first ∷ asked) (first_runnable first asked rest split valid) ran

  -- the first rounds of a script ran, are explained, and say what was sent
  abbrev pub went_so_far : (asked rest : List (List Line)) → script.rounds ≡ asked ++ rest → IsRunnable script → RanSoFar script asked rounds finished
      → Went (with_rounds asked script) rounds (rounds_text script.tables 1 rounds) exported now
  went_so_far asked rest split valid ran = record {
    log = finished;
    ran = (rounds_ran script asked rounds finished ran kept).ran;
    rounds_are = (rounds_ran script asked rounds finished ran kept).rounds_are;
    explained = explained_so_far asked rest split valid ran;
    bytes = sent.bytes;
    sent = sent.sent;
    says = says_so_far asked rest split valid ran;
  }
