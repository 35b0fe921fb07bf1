-- How a run goes, told without the store.
use Rattle.std.proofs.Common.{ℕ, Bool, true, false, List, Option, Ok, Err}
use mathlib.Core.Logic.{inl, inr}
use Rattle.std.specs.Prelude.{IfErr, Result}
use Rattle.workload_spec.specs.declared.script.Line.{Line}
use Rattle.workload_spec.specs.declared.script.Script.{Script}
use Rattle.run_spec.specs.Ran.{RoundRun}
use Rattle.store_rounds.specs.Workloads.{GoesPart, GoesTo, GoesUnshown, OfRounds}
use Rattle.store_rounds.specs.declared.fault.RunFault.{RunFault}
use Rattle.store_rounds.specs.declared.fault.RunFault.TheVariants as fault

module _ (Goes Other : OfRounds) (told : (asked : List (List Line)) (ran added : List RoundRun) (printed : ℕ) (text : List ℕ) → Goes asked ran added printed text → Other asked ran added printed text)
    (script : Script) (before now : Option (List ℕ)) where
  -- A run that stopped at a round, told without the store.
  abbrev to_told : (adds : Bool) (lines : List Line) → GoesTo Goes adds script lines before now → GoesTo Other adds script lines before now
  to_told adds lines to = record {
    whole = to.whole;
    round = to.round;
    rest = to.rest;
    rounds = to.rounds;
    first = to.first;
    ran = to.ran;
    last = to.last;
    shown = to.shown;
    hidden = to.hidden;
    of_round = to.of_round;
    explained_shown = to.explained_shown;
    went = told _ _ _ _ _ to.went;
    printed = to.printed;
  }

  -- One that stopped behind a round that ran whole, told without the store.
  abbrev unshown_told : (adds : Bool) → GoesUnshown Goes adds script before now → GoesUnshown Other adds script before now
  unshown_told adds goes = record { lines = goes.lines; to = to_told adds goes.lines goes.to; whole = goes.whole }

  -- A run that does not come to its last round, told without the store.
  part_told : (failed : RunFault) → GoesPart Goes script failed before now → GoesPart Other script failed before now
  part_told fault.Out goes = record {
    whole = goes.whole;
    round = goes.round;
    rest = goes.rest;
    rounds = goes.rounds;
    ran = goes.ran;
    last = goes.last;
    shown = goes.shown;
    cut = goes.cut;
    of_round = goes.of_round;
    went = told _ _ _ _ _ goes.went;
    between = goes.between;
    printed = goes.printed;
    cut_off = goes.cut_off;
  }
  part_told fault.Export goes = record {
    lines = goes.lines;
    to = to_told false goes.lines goes.to;
    session = goes.session;
    last = goes.last;
    told = goes.told;
    others = goes.others;
  }
  part_told fault.Memory (inl goes) = inl (record {
    whole = goes.whole;
    round = goes.round;
    rest = goes.rest;
    rounds = goes.rounds;
    ran = goes.ran;
    text = goes.text;
    went = told _ _ _ _ _ goes.went;
    printed = goes.printed;
  })
  part_told fault.Memory (inr goes) = inr (unshown_told false goes)
  part_told fault.Log goes = record { unshown = unshown_told true goes.unshown; fits = goes.fits }
  part_told fault.GroupTooLong goes = record { unshown = unshown_told false goes.unshown; long = goes.long }

  -- what a failed run tells in part is told without the store
  pub on_part : {T : Type 0} (r : Result T RunFault) → IfErr r (λ failed. GoesPart Goes script failed before now) → IfErr r (λ failed. GoesPart Other script failed before now)
  on_part (Ok value) goes = tt
  on_part (Err failed) goes = part_told failed goes
