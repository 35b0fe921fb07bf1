-- A further round extends a run.
use Rattle.std.proofs.Common.{◌≡◌, List, [], ◌∷◌, ◌++◌, map, refl, sym, ap, ◌∙◌, subst, append-nil, append_assoc}
use Rattle.std.specs.Prelude.{All}
use Rattle.std.specs.List.{flat_map}
use Rattle.std.proofs.lemmas.List.Elements.{All-tail}
use Rattle.event_spec.specs.Replay.{opening}
use Rattle.workload_spec.specs.declared.script.Script.{Script}
use Rattle.run_spec.specs.Handed.{parts_left}
use Rattle.run_spec.specs.Occurrences.{Occurrence, occurrences_from, occurrences_in}
use Rattle.run_spec.specs.Ran.{Agenda, AreRounds, IsRound, RoundRun, agenda_of, agendas_in, shape_of}
use Rattle.run_spec.specs.Traces.{FitsAt, LendsFit, as_log, log_in}
use Rattle.store_laws.proofs.Entries.{left_by, occurrences_append}
use Rattle.store_laws.proofs.Traces.{along_append, entries_append, log_append, same_left}
use Rattle.run_laws.proofs.Calls.Laying.{lends_lawful}
use Rattle.run_laws.proofs.Calls.Meeting.{met_rounds_are_done}
use Rattle.run_laws.specs.Calls.Meeting.{IsNamedIn}
use Rattle.run_laws.specs.Rounds.Rounds.{NothingRan, RoundMet, RoundsGoOn}

-- Before the first round nothing ran.
pub nothing_ran : NothingRan
nothing_ran script = record { lawful = tt; trace = []; log_is = refl; lends = tt; agendas = refl; parted = refl; done = tt }

-- what all of a list have, those behind a front have
behind_all : {X : Type 0} (P : X → Type 0) (front rest : List X) → All P (front ++ rest) → All P rest
behind_all P [] rest all = all
behind_all P (x ∷ front) rest all = behind_all P front rest (All-tail P x (front ++ rest) all)

-- the events of rounds
abbrev made_by : List RoundRun → List Occurrence
made_by rounds = flat_map (λ (round : RoundRun). round.made) rounds

-- a round behind others
last_round : (script : Script) (front : List Occurrence) (rounds : List RoundRun) (round : RoundRun)
    → AreRounds script front rounds → IsRound script (front ++ made_by rounds) round
    → AreRounds script front (rounds ++ round ∷ [])
last_round script front [] round are is =
    (subst (λ (made : List Occurrence). IsRound script made round) (append-nil front) is, tt)
last_round script front (first ∷ rounds) round are is = (
  are.0,
  last_round script (front ++ first.made) rounds round are.1
      (subst (λ (made : List Occurrence). IsRound script made round) (sym (append_assoc front first.made (made_by rounds))) is),
)

-- The events of rounds with one more are theirs and that one's.
made_append : (rounds : List RoundRun) (round : RoundRun) → made_by (rounds ++ round ∷ []) ≡ made_by rounds ++ round.made
made_append [] round = append-nil round.made
made_append (first ∷ rounds) round =
    ap (λ (made : List Occurrence). first.made ++ made) (made_append rounds round)
    ∙ sym (append_assoc first.made (made_by rounds) round.made)

-- a list with one element more, mapped
pub map_last : {X Y : Type 0} (f : X → Y) (xs : List X) (x : X) → map f (xs ++ x ∷ []) ≡ map f xs ++ f x ∷ []
map_last f [] x = refl
map_last f (y ∷ xs) x = ap (λ ys. f y ∷ ys) (map_last f xs x)

-- A further round in which all met extends the run.
pub rounds_go_on : RoundsGoOn
rounds_go_on script asked rounds finished now lines shares ran met =
    let shape = shape_of script in
    let behind : RoundMet script (log_in ran.trace) now lines shares = subst (λ log. RoundMet script log now lines shares) ran.log_is met in
    let further = met_rounds_are_done script lines ran.trace now shares ran.lends behind.agendas
    (behind_all (IsNamedIn script) (log_in ran.trace) now behind.named)
    behind.brought in
    let left : left_by shape (opening shape) (as_log ran.trace) ≡ parts_left shape (log_in ran.trace) =
    same_left shape (opening shape) ran.trace (lends_lawful shape (opening shape) ran.trace ran.lends) in
    let made : List Occurrence = occurrences_from shape (parts_left shape (log_in ran.trace)) (as_log further.trace) in
    let round : RoundRun = record { made = made; shares = shares } in
    record {
      made = made;
      ran = record {
        lawful = met.lawful;
        trace = ran.trace ++ further.trace;
        log_is = ap (λ log. log ++ now) ran.log_is
            ∙ ap (λ more. log_in ran.trace ++ more) further.log_is
            ∙ sym (log_append ran.trace further.trace);
        lends = along_append shape (FitsAt shape) (opening shape) ran.trace further.trace ran.lends
            (subst (λ parts. LendsFit shape parts further.trace) (sym left) further.lends);
        agendas = map_last (λ (round : RoundRun). map agenda_of round.shares) rounds round
            ∙ ap (λ (agendas : List (List Agenda)). agendas ++ map agenda_of shares ∷ []) ran.agendas
            ∙ ap (λ (agendas : List Agenda). map (agendas_in script) asked ++ agendas ∷ []) met.agendas
            ∙ sym (map_last (agendas_in script) asked lines);
        parted = ap (occurrences_in shape) (entries_append ran.trace further.trace)
            ∙ occurrences_append shape (opening shape) (as_log ran.trace) (as_log further.trace)
            ∙ ap (λ parts. occurrences_in shape (as_log ran.trace) ++ occurrences_from shape parts (as_log further.trace)) left
            ∙ ap (λ (front : List Occurrence). front ++ made) ran.parted
            ∙ sym (made_append rounds round);
        done = last_round script [] rounds round ran.done
            (subst (λ (front : List Occurrence). IsRound script front round) ran.parted further.round);
      };
    }
