-- How a run ends, by how its rounds ended.
use Rattle.std.proofs.Common.{◌≡◌, ◌⊎◌, ℕ, Bool, true, false, List, [], Option, None, Some, refl, sym, subst, inl, inr, arith}
use Rattle.std.specs.Prelude.{IsSome, is_some}
use Rattle.run_spec.specs.Ran.{RoundRun}
use Rattle.store_rounds.specs.Logging.{OfLogged}
use Rattle.store_rounds.specs.Workloads.{GoesCutOff, GoesStopped, GoesTo, GoesToExport, GoesTooLong, GoesUnadded, GoesUnshown, GoesWhole, OfRounds, WentBy}
use Rattle.run_laws.specs.Rounds.Fronts.{with_rounds}
use Rattle.workload_spec.specs.declared.script.Line.{Line}
use Rattle.workload_spec.specs.declared.script.Script.{Script}
use Rattle.program.specs.Outcome.{Delivers, IsSilent, Outside, RanRounds, RoundsEnd, Sends, StopsAtExport, TellsFaults, outside, started_by}
use Rattle.program.specs.Played.{PlayEnds}
use Rattle.program.specs.Runs.{IsAlone}
use Rattle.program.specs.declared.status.Status.{Status}
use Rattle.program.specs.declared.status.Status.TheVariants as status
use Rattle.program.proofs.Exports.{export_asked}

-- whatever is told in these words can be told in those
abbrev TellsBy : OfRounds → OfRounds → Type 0
TellsBy Goes Told = (asked : List (List Line)) (ran added : List RoundRun) (printed : ℕ) (text : List ℕ) → Goes asked ran added printed text → Told asked ran added printed text

module _ (Goes Told : OfRounds) (script : Script) (before now : Option (List ℕ)) (told : TellsBy Goes Told) where
  -- A run that went whole is told so in other words too.
  whole_told : GoesWhole Goes script before now → GoesWhole Told script before now
  whole_told goes = record {
    ran = goes.ran;
    text = goes.text;
    went = told _ _ _ _ _ goes.went;
    printed = goes.printed;
  }

  -- A run whose text was cut off is told so in other words too.
  cut_told : GoesCutOff Goes script before now → GoesCutOff Told script before now
  cut_told goes = record {
    whole = goes.whole;
    round = goes.round;
    rest = goes.rest;
    rounds = goes.rounds;
    ran = goes.ran;
    last = goes.last;
    shown = goes.shown;
    cut = goes.cut;
    of_round = goes.of_round;
    went = told _ _ _ _ _ goes.went;
    between = goes.between;
    printed = goes.printed;
    cut_off = goes.cut_off;
  }

  -- A run that went up to some lines is told so in other words too.
  abbrev to_told : (adds : Bool) (lines : List Line) → GoesTo Goes adds script lines before now → GoesTo Told adds script lines before now
  to_told adds lines goes = record {
    whole = goes.whole;
    round = goes.round;
    rest = goes.rest;
    rounds = goes.rounds;
    first = goes.first;
    ran = goes.ran;
    last = goes.last;
    shown = goes.shown;
    hidden = goes.hidden;
    of_round = goes.of_round;
    explained_shown = goes.explained_shown;
    went = told _ _ _ _ _ goes.went;
    printed = goes.printed;
  }

  -- A run whose last round was not shown is told so in other words too.
  abbrev unshown_told : (adds : Bool) → GoesUnshown Goes adds script before now → GoesUnshown Told adds script before now
  unshown_told adds goes = record {
    lines = goes.lines;
    to = to_told adds goes.lines goes.to;
    whole = goes.whole;
  }

  -- A run that stopped is told so in other words too.
  stopped_told : GoesStopped Goes script before now → GoesStopped Told script before now
  stopped_told (inl goes) = inl (record {
    whole = goes.whole;
    round = goes.round;
    rest = goes.rest;
    rounds = goes.rounds;
    ran = goes.ran;
    text = goes.text;
    went = told _ _ _ _ _ goes.went;
    printed = goes.printed;
  })
  stopped_told (inr goes) = inr (unshown_told false goes)

  -- A run whose last round was too long for its log is told so in other words too.
  long_told : GoesTooLong Goes script before now → GoesTooLong Told script before now
  long_told goes = record { unshown = unshown_told false goes.unshown; long = goes.long }

  -- A run whose last round its log failed to take is told so in other words too.
  unadded_told : GoesUnadded Goes script before now → GoesUnadded Told script before now
  unadded_told goes = record { unshown = unshown_told true goes.unshown; fits = goes.fits }

  -- A run that went to an export is told so in other words too.
  export_told : GoesToExport Goes script before now → GoesToExport Told script before now
  export_told goes = record {
    lines = goes.lines;
    to = to_told false goes.lines goes.to;
    session = goes.session;
    last = goes.last;
    told = goes.told;
    others = goes.others;
  }

-- rounds that went so ran, where what they sent is delivered
ran_rounds : (path : Option (List ℕ)) (Logs : OfLogged) (script : Script) (before now : Outside) (exported exported_now : Option (List ℕ))
    → ((ran : Script) (text : List ℕ) → Sends ran text exported exported_now → Delivers path script ran text before now)
    → TellsBy (WentBy script exported exported_now Logs) (RanRounds path Logs script before now)
ran_rounds path Logs script before now exported exported_now delivers = λ asked rounds added printed text by. record {
  log = by.went.log;
  ran = by.went.ran;
  rounds_are = by.went.rounds_are;
  explained = by.went.explained;
  outlet = delivers (with_rounds asked script) text (record { sent = by.went.bytes; grown = by.went.sent; says = by.went.says });
  logs = by.logs;
}

-- How a run ends by how its rounds ended, where they are told so. The outlet fails only where the
-- words name a path, and the log only where one is kept.
module _ (Goes : OfRounds) (path : Option (List ℕ)) (keeps : Bool) (Logs : OfLogged) (script : Script) (before now : Outside)
    (told : TellsBy Goes (RanRounds path Logs script before now)) where
  play_ends : (ended : Status) → (ended ≡ status.ExportFault → IsSome path)
      → (ended ≡ status.LogFault → keeps ≡ true) → (ended ≡ status.GroupTooLong → keeps ≡ true)
      → PlayEnds Goes script ended before.printed now.printed → RoundsEnd path keeps Logs script ended before now
  play_ends status.Done named kept fits ends =
      whole_told Goes (RanRounds path Logs script before now) script before.printed now.printed told ends
  play_ends status.OutFault named kept fits ends =
      cut_told Goes (RanRounds path Logs script before now) script before.printed now.printed told ends
  play_ends status.Memory named kept fits ends =
      stopped_told Goes (RanRounds path Logs script before now) script before.printed now.printed told ends
  play_ends status.ExportFault named kept fits ends = record {
    named = named refl;
    asked = export_asked script ends.to.whole ends.to.rest ends.to.round ends.lines ends.session ends.to.rounds ends.to.first ends.last;
    failed = inr (export_told Goes (RanRounds path Logs script before now) script before.printed now.printed told ends);
  }
  play_ends status.LogFault named kept fits ends = record {
    kept = kept refl;
    failed = unadded_told Goes (RanRounds path Logs script before now) script before.printed now.printed told ends;
  }
  play_ends status.GroupTooLong named kept fits ends = record {
    kept = fits refl;
    stopped = long_told Goes (RanRounds path Logs script before now) script before.printed now.printed told ends;
  }
  play_ends _ named kept fits ends = absurd ends

-- without a path the rounds send to an outlet that never fails, and the own one is left alone
pub ends_without_path : (path : Option (List ℕ)) (keeps : Bool) (Logs : OfLogged) (script : Script) (ended : Status) (left left_now printed printed_now exported pure pure_now : Option (List ℕ)) (started : Option (List (List ℕ)))
    → path ≡ None
    → TellsFaults status.ExportFault ended 0 0
    → (ended ≡ status.LogFault → keeps ≡ true) → (ended ≡ status.GroupTooLong → keeps ≡ true)
    → PlayEnds (WentBy script pure pure_now Logs) script ended printed printed_now
    → RoundsEnd path keeps Logs script ended (outside left printed exported started) (outside left_now printed_now exported started)
ends_without_path path keeps Logs script ended left left_now printed printed_now exported pure pure_now started none faults kept fits ends =
    let before = outside left printed exported started in
    let now = outside left_now printed_now exported started in
    subst (λ (p : Option (List ℕ)). RoundsEnd p keeps Logs script ended before now) (sym none)
    (play_ends (WentBy script pure pure_now Logs) None keeps Logs script before now
    (ran_rounds None Logs script before now pure pure_now (λ ran text sends. record { exported = refl; started = refl }))
    ended (λ failed. absurd (let rose = faults.told failed (λ same. omega (arith, same)) in omega (arith, rose)))
    kept fits ends)

-- with a path they send to the own outlet, which was started
pub ends_with_path : (path : Option (List ℕ)) (name : List ℕ) (keeps : Bool) (Logs : OfLogged) (script : Script) (ended : Status) (before now : Outside)
    → path ≡ Some name
    → now.started ≡ started_by name script before.started
    → (ended ≡ status.LogFault → keeps ≡ true) → (ended ≡ status.GroupTooLong → keeps ≡ true)
    → PlayEnds (WentBy script before.exported now.exported Logs) script ended before.printed now.printed
    → RoundsEnd path keeps Logs script ended before now
ends_with_path path name keeps Logs script ended before now named started kept fits ends =
    subst (λ (p : Option (List ℕ)). RoundsEnd p keeps Logs script ended before now) (sym named)
    (play_ends (WentBy script before.exported now.exported Logs) (Some name) keeps Logs script before now
    (ran_rounds (Some name) Logs script before now before.exported now.exported (λ ran text sends. (started, sends)))
    ended (λ failed. refl) kept fits ends)

-- What is told of a log may be told in other words.
module _ (path : Option (List ℕ)) (keeps : Bool) (Logs Told : OfLogged) (script : Script) (before now : Outside)
    (told : (rounds : List RoundRun) (printed : ℕ) → Logs rounds printed → Told rounds printed) where
  with_log : TellsBy (RanRounds path Logs script before now) (RanRounds path Told script before now)
  with_log = λ asked rounds added printed text ran. record {
    log = ran.log;
    ran = ran.ran;
    rounds_are = ran.rounds_are;
    explained = ran.explained;
    outlet = ran.outlet;
    logs = told added printed ran.logs;
  }

  pub rounds_told : (ended : Status) → RoundsEnd path keeps Logs script ended before now → RoundsEnd path keeps Told script ended before now
  rounds_told status.Done ends =
      whole_told (RanRounds path Logs script before now) (RanRounds path Told script before now) script before.printed now.printed with_log ends
  rounds_told status.OutFault ends =
      cut_told (RanRounds path Logs script before now) (RanRounds path Told script before now) script before.printed now.printed with_log ends
  rounds_told status.Memory ends =
      stopped_told (RanRounds path Logs script before now) (RanRounds path Told script before now) script before.printed now.printed with_log ends
  rounds_told status.ExportFault ends = record {
    named = ends.named;
    asked = ends.asked;
    failed = export_failed ends.failed;
  }
    where
      export_failed : (IsSilent before now × Logs [] 0) ⊎ StopsAtExport path Logs script before now
          → (IsSilent before now × Told [] 0) ⊎ StopsAtExport path Told script before now
      export_failed (inl (silent, logs)) = inl (silent, told [] 0 logs)
      export_failed (inr stops) = inr
          (export_told (RanRounds path Logs script before now) (RanRounds path Told script before now) script before.printed now.printed with_log stops)
  rounds_told status.LogFault ends = record {
    kept = ends.kept;
    failed = unadded_told (RanRounds path Logs script before now) (RanRounds path Told script before now) script before.printed now.printed with_log ends.failed;
  }
  rounds_told status.GroupTooLong ends = record {
    kept = ends.kept;
    stopped = long_told (RanRounds path Logs script before now) (RanRounds path Told script before now) script before.printed now.printed with_log ends.stopped;
  }
  rounds_told _ ends = absurd ends

-- A fault of a log comes only where there is one.
pub fails_log : {T D : Type 0} (log : Option T) (old new : D) (ended : Status) → (log ≡ None → IsAlone old new ended)
    → ended ≡ status.LogFault → is_some log ≡ true
fails_log None old new ended alone is = absurd ((alone refl).no_fault is)
fails_log (Some log) old new ended alone is = refl

pub too_long : {T D : Type 0} (log : Option T) (old new : D) (ended : Status) → (log ≡ None → IsAlone old new ended)
    → ended ≡ status.GroupTooLong → is_some log ≡ true
too_long None old new ended alone is = absurd ((alone refl).fits is)
too_long (Some log) old new ended alone is = refl
