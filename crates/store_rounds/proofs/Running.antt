-- A run, round by round.
use Rattle.std.proofs.Common.{◌≡◌, ℕ, ◌+◌, ◌*◌, ◌<◌, ◌≤◌, ◌^◌, true, ◌&&◌, None, cond, List, [], ◌∷◌, ◌++◌, map, length, get_or, take, Option, refl, sym, ap, ◌∙◌, subst, append-nil, append_assoc, arith, length-append}
use Rattle.std.specs.Prelude.{All, count_by, sum_by}
use Rattle.std.specs.List.{flat_map, list_all, range_with_len}
use Rattle.std.specs.Io.KnownBytes.{Appends}
use Rattle.std.proofs.KnownBytes.{Appends-nil, Appends-trans}
use Rattle.std.proofs.lemmas.Bool.{and_from, and_parts}
use Rattle.std.proofs.lemmas.Grind.{flat_map-append}
use Rattle.std.proofs.lemmas.Grind.{elements}
use Rattle.std.proofs.lemmas.List.{length-map, length_push}
use Rattle.std.proofs.lemmas.List.Elements.{All-append, All-cons, All-nil}
use Rattle.std.proofs.lemmas.List.Folds.{list_all-append}
use Rattle.std.proofs.lemmas.List.Sums.{sum_by-append}
use Rattle.byte_ports.specs.Calls.{AppendsFront}
use Rattle.export_spec.specs.Calls.{calls_in}
use Rattle.workload_spec.specs.Valid.{all_lines, is_command, is_export, is_line, is_within, takes_command}
use Rattle.workload_spec.specs.declared.reply.Who.{Who}
use Rattle.workload_spec.specs.declared.reply.Who.TheVariants.{Session as TheSession, Worker as TheWorker}
use Rattle.workload_spec.specs.declared.script.Line.{Line}
use Rattle.workload_spec.specs.declared.script.Script.{Script}
use Rattle.event_spec.specs.Parts.{Shape}
use Rattle.isolation_spec.specs.Contents.{History}
use Rattle.run_spec.specs.Calls.{Call, Kept}
use Rattle.run_spec.specs.Occurrences.{Logged}
use Rattle.run_spec.specs.Ran.{IsRunnable, RoundRun, Share, shape_of}
use Rattle.run_spec.specs.Ran.{calls_of as kept_calls}
use Rattle.run_laws.proofs.Commits.Rounds.{rounds_go_on as commits_go_on}
use Rattle.run_laws.proofs.Rounds.Lines.{rounds_grow}
use Rattle.run_laws.proofs.Rounds.Rounds.{nothing_ran, rounds_go_on}
use Rattle.run_laws.proofs.Rounds.Texts.{rounds_ran}
use Rattle.run_laws.specs.Commits.Rounds.{GoesOnBy}
use Rattle.run_laws.specs.Rounds.Fronts.{with_rounds}
use Rattle.run_laws.specs.Rounds.Lines.{round_text, rounds_text}
use Rattle.run_laws.specs.Rounds.Rounds.{RanFurther, RanSoFar}
use Rattle.run_laws.specs.Rounds.Texts.{AreCounted}
use Rattle.shared_store.specs.Building.{IsNewRow, IsNewSession}
use Rattle.shared_store.specs.Store.{StoreView, events_made, seen, shape_in}
use Rattle.shared_store.specs.declared.session.Session.{Session}
use Rattle.store_rounds.specs.Turns.{most_of_turn}
use Rattle.store_rounds.specs.Answered.{IsServed, SentBy, most_events}
use Rattle.store_rounds.specs.Crews.{calls_of, crew_calls, crew_of, crew_shares, shares_of}
use Rattle.store_rounds.specs.Duties.{IsWholeText}
use Rattle.store_rounds.specs.Grouped.{AreByNumber, HandedOver, MayHaveHandedOver, kept_in}
use Rattle.store_rounds.specs.Logging.{OfLogged}
use Rattle.store_rounds.specs.Rounds.{AllTurned, AskedAll, HaveRoomFor, RanRound, RowRan}
use Rattle.store_rounds.specs.Runs.{IsRowOf, RunsIn, Standing}
use Rattle.store_rounds.specs.Worked.{KeptAlong, share_of}
use Rattle.store_rounds.specs.Workloads.{GoesCutOff, GoesWhole}
use Rattle.store_rounds.specs.declared.crew.Crew.{Crew}
use Rattle.store_rounds.specs.declared.duty.Duty.{Duty}
use Rattle.store_rounds.proofs.Duties.{commands_few}
use Rattle.store_rounds.proofs.Grouping.{RowKeeps, of_the_round, row_keeps_on}
use Rattle.store_rounds.proofs.HandedOver.{events_stay, reads_stay, standing_stays}
use Rattle.store_rounds.proofs.Logged.{Adds}
use Rattle.store_rounds.proofs.Readings.{KeptBy, kept_begins, kept_by, kept_further}
use Rattle.store_rounds.proofs.Runs.{Place, gone_on, is_row, of_session, of_worker, place, row_met, shares_counted, stand_behind}
use Rattle.store_rounds.proofs.Scripts.{few_exports, few_turns, has_sessions, lines_are_valid}
use Rattle.store_rounds.proofs.Sends.{calls_sent, nothing_sent}
use Rattle.store_rounds.proofs.Went.{went_so_far}

-- ---- lines

-- The lines of some rounds, one round behind the other.
abbrev lines_in : List (List Line) → List Line
lines_in rounds = flat_map (λ (round : List Line). round) rounds

-- The lines of all rounds are those in front, a round's own, and those behind.
parted_lines : (asked rest : List (List Line)) (lines : List Line) → lines_in (asked ++ lines ∷ rest) ≡ lines_in asked ++ (lines ++ lines_in rest)
parted_lines asked rest lines = flat_map-append (λ (round : List Line). round) asked (lines ∷ rest)

-- All lines are as many as those in front, a round's own, and those behind.
count_lines : (asked rest : List (List Line)) (lines : List Line)
    → length (lines_in (asked ++ lines ∷ rest)) ≡ length (lines_in asked) + (length lines + length (lines_in rest))
count_lines asked rest lines =
    let parted = ap length (parted_lines asked rest lines) in
    let first = length-append (lines_in asked) (lines ++ lines_in rest) in
    let second = length-append lines (lines_in rest) in
    omega (arith, parted, first, second)

-- ---- a run so far

-- In rounds of these lines a session makes the events of its commands at most, and a worker those
-- of its turns.
abbrev most_so_far : List (List Line) → ℕ
most_so_far asked = most_events * length (lines_in asked) + most_of_turn * 100 * length asked

pub record Running (script : Script) (store : StoreView) (row : List Session) (asked : List (List Line)) (before now exported exported_now : Option (List ℕ)) (number : ℕ) : Type 0 where
  pub rounds : List RoundRun
  pub finished : List Logged
  pub ran : RanSoFar script asked rounds finished
  pub counted : All AreCounted rounds
  pub kept : KeptBy script row rounds
  pub stands : Standing store finished row
  pub is : IsRowOf script store row
  pub some : 0 < script.sessions
  pub turns : script.turns ≤ 100
  pub few : (k : ℕ) (d : Session) → k < length row → events_made (get_or row k d) ≤ most_so_far asked
  pub printed : Appends before now (rounds_text script.tables 1 rounds)
  pub sent : SentBy script.tables (calls_in rounds) exported exported_now
  pub count : number ≡ length rounds
  pub asked_count : number ≡ length asked

-- At each place of a new row stands a new session, numbered from one on.
pub new_at : (store : StoreView) (count : ℕ) (row : List Session) (k : ℕ) (d : Session) → IsNewRow store count row → k < length row
    → IsNewSession store (k + 1) (get_or row k d)
new_at store count row k d new within = new.each k (get_or row k d) (grind (arith, elements))

-- A new row stands behind no rounds, with an empty log.
pub new_row_stands : (store : StoreView) (count : ℕ) (row : List Session) → IsNewRow store count row → Standing store [] row
new_row_stands store count row new = record {
  sessions = λ k d within.
      let one = new_at store count row k d new within in
      record { stands = one.session; free = one.free };
  numbers = λ k d within. (new_at store count row k d new within).numbered;
  behind = λ k d within. record { saw = (seen (get_or row k d), refl); nothing_yet = (new_at store count row k d new within).none };
}

-- before the first round, a new row stands behind no rounds, and nothing was printed or sent
abbrev pub running_begins : (script : Script) (store : StoreView) (row : List Session) (before exported : Option (List ℕ))
    → IsRunnable script → shape_in store ≡ shape_of script → IsNewRow store (script.sessions + script.workers) row
    → Running script store row [] before before exported exported 0
running_begins script store row before exported valid shape new = record {
  rounds = [];
  finished = [];
  ran = nothing_ran script;
  counted = All-nil AreCounted;
  kept = kept_begins script row new.many (λ k d within. (new_at store (script.sessions + script.workers) row k d new within).unread);
  stands = new_row_stands store (script.sessions + script.workers) row new;
  is = record { shape = shape; size = new.many };
  some = let one = has_sessions script valid.valid in omega (arith, one);
  turns = few_turns script valid.valid;
  few = λ k d within. let none = (new_at store (script.sessions + script.workers) row k d new within).made in omega (arith, none);
  printed = Appends-nil before;
  sent = nothing_sent script.tables exported;
  count = refl;
  asked_count = refl;
}

-- one of a row that has one
pub one_of : (row : List Session) → 0 < length row → Session
one_of [] some = absurd (omega (arith, some))
one_of (d ∷ row) some = d

-- the calls of each keep what it read
pub keeps_now : (script : Script) (store : StoreView) (row : List Session) (asked : List (List Line)) (before now exported exported_now : Option (List ℕ)) (number : ℕ)
    → (running : Running script store row asked before now exported exported_now number) → (who : Who) → Kept None (kept_calls who running.rounds)
keeps_now script store row asked before now exported exported_now number running =
    kept_by script row running.rounds (one_of row (let size = running.is.size in let some = running.some in omega (arith, size, some))) running.kept

-- the calls of the shares of so many of a kind
pub calls_in_shares : (who : ℕ → Who) (calls : ℕ → List Call) (numbers : List ℕ)
    → flat_map (λ (share : Share). share.calls) (map (λ n. share_of (who n) (calls n)) numbers) ≡ flat_map calls numbers
calls_in_shares who calls [] = refl
calls_in_shares who calls (n ∷ numbers) = ap (λ (cs : List Call). calls n ++ cs) (calls_in_shares who calls numbers)

-- The calls in the shares of a crew are the calls of the crew.
calls_in_crew : (crew : Crew) (calls : Who → List Call) → flat_map (λ (share : Share). share.calls) (crew_shares crew calls) ≡ crew_calls crew calls
calls_in_crew crew calls =
    let workers : List Share = shares_of TheWorker crew.workers (λ n. calls (TheWorker n)) in
    flat_map-append (λ (share : Share). share.calls) (shares_of TheSession crew.sessions (λ n. calls (TheSession n))) workers
    ∙ ap (λ (cs : List Call). cs ++ flat_map (λ (share : Share). share.calls) workers)
    (calls_in_shares (λ n. TheSession n) (λ n. calls (TheSession n)) (range_with_len 1 crew.sessions))
    ∙ ap (λ (cs : List Call). calls_of crew.sessions (λ n. calls (TheSession n)) ++ cs)
    (calls_in_shares (λ n. TheWorker n) (λ n. calls (TheWorker n)) (range_with_len 1 crew.workers))

-- A round of these lines ran on a row of the script's sessions and workers.
pub record RoundDone (script : Script) (store : StoreView) (old new : List Session) (lines : List Line) (exported exported_now : Option (List ℕ)) : Type 0 where
  pub calls : Who → List Call
  pub ran : RowRan store (crew_of script) old new calls
  pub asked : AskedAll script.sessions lines (λ n. calls (TheSession n))
  pub turned : AllTurned (shape_in store).tables (crew_of script) calls
  pub sent : SentBy (shape_in store).tables (crew_calls (crew_of script) calls) exported exported_now

-- the round that ran, and the log in which all met
module _ (script : Script) (store : StoreView) (old new : List Session) (asked : List (List Line)) (before now exported exported_now exported_later : Option (List ℕ)) (number : ℕ)
    (running : Running script store old asked before now exported exported_now number) (lines : List Line)
    (done : RoundDone script store old new lines exported_now exported_later) where
  -- what each of the crew called in the round
  abbrev pub shares : List Share
  shares = crew_shares (crew_of script) done.calls

  -- the first session of the row
  abbrev pub first_of_row : Session
  first_of_row = one_of old (let size = running.is.size in let some = running.some in omega (arith, size, some))

  -- the entries by which the log in which all met grew in the round
  abbrev pub more : List Logged
  more = (gone_on script store running.finished old new running.is running.stands done.calls done.ran first_of_row running.some).0

  -- the run went one round further
  pub further : RanFurther script (asked ++ lines ∷ []) running.rounds (running.finished ++ more) shares
  further = rounds_go_on script asked running.rounds running.finished more lines shares running.ran
      (row_met script store running.finished old new running.is running.stands done.calls done.ran first_of_row running.some lines done.asked
      (subst (λ (shape : Shape). AllTurned shape.tables (crew_of script) done.calls) running.is.shape done.turned))

  -- the round that ran, as a round of the run
  abbrev pub round : RoundRun
  round = record { made = further.made; shares = shares }

  -- the rounds so far, and this one
  abbrev pub both : List RoundRun
  both = running.rounds ++ round ∷ []

  -- with this round too, the rounds so far ran in the log of all that was finished
  pub ran_further : RanSoFar script (asked ++ lines ∷ []) both (running.finished ++ more)
  ran_further = further.ran

  -- the pruning counts that the rounds tell fit 64 bits, with this one too
  pub counted_further : All AreCounted both
  counted_further = All-append AreCounted running.rounds (round ∷ []) running.counted
      (All-cons AreCounted round [] (shares_counted script store running.finished old new running.is running.stands done.calls done.ran first_of_row) (All-nil AreCounted))

  -- what each has read is what its calls keep, with this round too
  pub kept_more : KeptBy script new both
  kept_more = kept_further script store old new done.calls running.rounds round done.ran refl running.kept

  pub keeps_more : (who : Who) → Kept None (kept_calls who both)
  keeps_more = kept_by script new both first_of_row kept_more

  -- the text of the rounds grows by the text of this one
  pub text_further : rounds_text script.tables 1 both
      ≡ rounds_text script.tables 1 running.rounds ++ round_text script.tables (number + 1) shares
  text_further = rounds_grow script.tables 1 running.rounds round
      ∙ ap (λ n. rounds_text script.tables 1 running.rounds ++ round_text script.tables n shares)
      (let e : 1 + length running.rounds ≡ number + 1 = omega (arith, running.count) in e)

  -- the row stands behind this round
  pub stands_further : Standing store (running.finished ++ more) new
  stands_further = subst (λ log. Standing store log new)
      (gone_on script store running.finished old new running.is running.stands done.calls done.ran first_of_row running.some).1
      (stand_behind script store running.finished old new running.is running.stands done.calls done.ran)

  -- the text of the round's lines, told of the script's tables
  pub told_further : (text : List ℕ) → text ≡ round_text (shape_in store).tables (number + 1) shares
      → rounds_text script.tables 1 running.rounds ++ text ≡ rounds_text script.tables 1 both
  told_further text is =
      ap (λ (more : List ℕ). rounds_text script.tables 1 running.rounds ++ more)
      (is ∙ ap (λ (shape : Shape). round_text shape.tables (number + 1) shares) running.is.shape)
      ∙ sym text_further

  -- The calls of all rounds are those so far, and then this round's.
  calls_further : calls_in both ≡ calls_in running.rounds ++ crew_calls (crew_of script) done.calls
  calls_further =
      flat_map-append (λ (round : RoundRun). flat_map (λ (share : Share). share.calls) round.shares) running.rounds (round ∷ [])
      ∙ ap (λ (cs : List Call). calls_in running.rounds ++ cs)
      (append-nil (flat_map (λ (share : Share). share.calls) shares) ∙ calls_in_crew (crew_of script) done.calls)

  -- what the calls of the rounds sent grew by this round's
  pub sent_further : SentBy script.tables (calls_in both) exported exported_later
  sent_further = subst (λ (cs : List Call). SentBy script.tables cs exported exported_later) (sym calls_further)
      (calls_sent script.tables (calls_in running.rounds) (crew_calls (crew_of script) done.calls) exported exported_now exported_later running.sent
      (subst (λ (shape : Shape). SentBy shape.tables (crew_calls (crew_of script) done.calls) exported_now exported_later) running.is.shape done.sent))

  -- With this round too, each of the row made few enough events.
  pub few_further : (k : ℕ) (d : Session) → k < length new → events_made (get_or new k d) ≤ most_so_far (asked ++ lines ∷ [])
  few_further k d within = go (place script.sessions script.workers k (omega (arith, within, done.ran.size, running.is.size)))
    where
      go : Place script.sessions script.workers k → events_made (get_or new k d) ≤ most_so_far (asked ++ lines ∷ [])
      go (of_session inside) =
          let ran = done.ran.sessions k d inside in
          let before = running.few k d (omega (arith, within, done.ran.size)) in
          let worked = ran.worked.few in
          let met = ran.met_in.looks_on.made in
          let each = length-map (done.calls (TheSession (k + 1))) (λ (call : Call). call.command) in
          let own = ap length (done.asked k inside) in
          let some = commands_few (k + 1) lines in
          let counted = count_lines asked [] lines in
          let rounds = length_push asked lines in
          omega (arith, before, worked, met, each, own, some, counted, rounds)
      go (of_worker n inside same) = subst (λ j. events_made (get_or new j d) ≤ most_so_far (asked ++ lines ∷ [])) same
          (let ran = done.ran.workers n d inside in
          let before = running.few (script.sessions + n) d (omega (arith, inside, running.is.size)) in
          let worked = ran.worked.few in
          let met = ran.met_in.looks_on.made in
          let turns = running.turns in
          let counted = count_lines asked [] lines in
          let rounds = length_push asked lines in
          omega (arith, before, worked, met, turns, counted, rounds))

  -- What is taken behind the round is what it adds to the history.
  pub adds : IsRunnable (with_rounds (asked ++ lines ∷ []) script) → script.sessions ≤ length new
      → RowKeeps script.sessions store old running.rounds → (group : History) → AreByNumber (kept_in (take script.sessions new)) group → Adds script running.rounds round group
  adds valid few keeps group sets =
      let ran = rounds_ran script (asked ++ lines ∷ []) both (running.finished ++ more) ran_further keeps_more in
      let goes = commits_go_on (with_rounds (asked ++ lines ∷ []) script) (running.finished ++ more) (rounds_text script.tables 1 both) running.rounds round sets.sorted
      valid ran.ran ran.rounds_are
      (record {
        same = (of_the_round script store old new running.rounds further.made done.calls done.ran ran_further.done keeps group few sets).same;
        rises = sets.rises;
      }) in
      let by = subst (λ (rounds : List RoundRun). GoesOnBy (with_rounds (asked ++ lines ∷ []) script) rounds (length running.rounds) sets.sorted) ran.rounds_are goes in
      record { sorted = sets.sorted; sets = sets.sets_are; by = record { history = by.history; tables = by.tables } }

  -- Those of whom it was taken keep none of it.
  pub keeps_none : (row : List Session) → RowKeeps script.sessions store old running.rounds → HandedOver script.sessions new row → RowKeeps script.sessions store row both
  keeps_none row keeps taken = row_keeps_on script store old new running.rounds further.made done.calls done.ran ran_further.done keeps row taken

-- ---- a round that ran

-- A run stands as it stood where commits were taken of its row.
abbrev row_stays : (script : Script) (store : StoreView) (old new : List Session) (asked : List (List Line)) (before now exported exported_now : Option (List ℕ)) (number : ℕ)
    → MayHaveHandedOver old new → Running script store old asked before now exported exported_now number → Running script store new asked before now exported exported_now number
row_stays script store old new asked before now exported exported_now number may running = record {
  rounds = running.rounds;
  finished = running.finished;
  ran = running.ran;
  counted = running.counted;
  kept = record {
    sessions = λ k d within. subst (KeptAlong None (kept_calls (TheSession (k + 1)) running.rounds))
        (sym (reads_stay old new may k d (let size = running.is.size in omega (arith, within, size)))) (running.kept.sessions k d within);
    workers = λ k d within. subst (KeptAlong None (kept_calls (TheWorker (k + 1)) running.rounds))
        (sym (reads_stay old new may (script.sessions + k) d (let size = running.is.size in omega (arith, within, size)))) (running.kept.workers k d within);
    no_session = running.kept.no_session;
    no_worker = running.kept.no_worker;
  };
  stands = standing_stays store running.finished old new may running.stands;
  is = record { shape = running.is.shape; size = may.size ∙ running.is.size };
  some = running.some;
  turns = running.turns;
  few = λ k d within.
      let inside : k < length old = omega (arith, within, may.size) in
      subst (λ n. n ≤ most_so_far asked) (sym (events_stay old new may k d inside)) (running.few k d inside);
  printed = running.printed;
  sent = running.sent;
  count = running.count;
  asked_count = running.asked_count;
}

module _ (script : Script) (store : StoreView) (old new row : List Session) (asked : List (List Line)) (before now exported exported_now exported_later : Option (List ℕ)) (number : ℕ) (lines : List Line) (duties : List Duty) (text : List ℕ)
    (running : Running script store old asked before now exported exported_now number)
    (did : RanRound store (number + 1) (crew_of script) old new lines duties exported_now exported_later)
    (whole : IsWholeText duties text) (may : MayHaveHandedOver new row) where
  -- The round that ran, told without its text.
  abbrev pub done : RoundDone script store old new lines exported_now exported_later
  done = record { calls = did.calls; ran = did.ran; asked = did.asked; turned = did.turned; sent = did.sent }

  -- the text of its lines
  pub its_text : text ≡ round_text (shape_in store).tables (number + 1) (crew_shares (crew_of script) did.calls)
  its_text = whole.text_is ∙ did.text_is whole.none_lost

  -- once the round's text was printed, the run goes on one round further
  abbrev pub running_goes_on : (later : Option (List ℕ)) → Appends now later text
      → Running script store row (asked ++ lines ∷ []) before later exported exported_later (number + 1)
  running_goes_on later grown = row_stays script store new row (asked ++ lines ∷ []) before later exported exported_later (number + 1) may (record {
    rounds = both script store old new asked before now exported exported_now exported_later number running lines done;
    finished = running.finished ++ more script store old new asked before now exported exported_now exported_later number running lines done;
    ran = ran_further script store old new asked before now exported exported_now exported_later number running lines done;
    counted = counted_further script store old new asked before now exported exported_now exported_later number running lines done;
    kept = kept_more script store old new asked before now exported exported_now exported_later number running lines done;
    stands = stands_further script store old new asked before now exported exported_now exported_later number running lines done;
    is = is_row script store running.finished old new running.is running.stands did.calls did.ran;
    some = running.some;
    turns = running.turns;
    few = few_further script store old new asked before now exported exported_now exported_later number running lines done;
    printed = subst (Appends before later)
        (told_further script store old new asked before now exported exported_now exported_later number running lines done text its_text)
        (Appends-trans before now later (rounds_text script.tables 1 running.rounds) text running.printed grown);
    sent = sent_further script store old new asked before now exported exported_now exported_later number running lines done;
    count = ap (λ n. n + 1) running.count
        ∙ sym (length_push running.rounds (round script store old new asked before now exported exported_now exported_later number running lines done));
    asked_count = ap (λ n. n + 1) running.asked_count ∙ sym (length_push asked lines);
  })

  -- its lines were not printed
  pub running_is_cut_off : (Logs : OfLogged) (rest : List (List Line)) (later : Option (List ℕ)) → IsRunnable script → asked ++ lines ∷ rest ≡ script.rounds
      → Logs (both script store old new asked before now exported exported_now exported_later number running lines done) (length running.rounds + 1)
      → AppendsFront now later text
      → GoesCutOff (RunsIn script store row exported exported_later Logs) script before later
  running_is_cut_off Logs rest later valid split logs front =
      let parted : script.rounds ≡ (asked ++ lines ∷ []) ++ rest = sym split ∙ sym (append_assoc asked (lines ∷ []) rest) in
      let these : List Share = crew_shares (crew_of script) did.calls in record {
        whole = asked;
        round = lines;
        rest = rest;
        rounds = sym split;
        ran = running.rounds;
        last = round script store old new asked before now exported exported_now exported_later number running lines done;
        shown = rounds_text script.tables 1 running.rounds;
        cut = text;
        of_round = its_text
            ∙ ap (λ (shape : Shape). round_text shape.tables (number + 1) these) running.is.shape
            ∙ ap (λ n. round_text script.tables (n + 1) these) running.asked_count;
        went = subst (RunsIn script store row exported exported_later Logs (asked ++ lines ∷ [])
            (both script store old new asked before now exported exported_now exported_later number running lines done)
            (both script store old new asked before now exported exported_now exported_later number running lines done) (length running.rounds + 1))
            (sym (told_further script store old new asked before now exported exported_now exported_later number running lines done text its_text))
            (record {
              went = went_so_far script
                  (both script store old new asked before now exported exported_now exported_later number running lines done)
                  (running.finished ++ more script store old new asked before now exported exported_now exported_later number running lines done)
                  exported exported_later
                  (counted_further script store old new asked before now exported exported_now exported_later number running lines done)
                  (keeps_more script store old new asked before now exported exported_now exported_later number running lines done)
                  (sent_further script store old new asked before now exported exported_now exported_later number running lines done)
                  (asked ++ lines ∷ []) rest parted valid
                  (ran_further script store old new asked before now exported exported_now exported_later number running lines done);
              stands = standing_stays store (running.finished ++ more script store old new asked before now exported exported_now exported_later number running lines done) new row may
                  (stands_further script store old new asked before now exported exported_now exported_later number running lines done);
              logs = logs;
            });
        between = now;
        printed = running.printed;
        cut_off = front;
      }

-- all rounds ran
pub running_ends : (script : Script) (store : StoreView) (row : List Session) (asked : List (List Line)) (before now exported exported_now : Option (List ℕ)) (number : ℕ) (Logs : OfLogged)
    → IsRunnable script → (running : Running script store row asked before now exported exported_now number) → Logs running.rounds (length running.rounds) → asked ≡ script.rounds
    → GoesWhole (RunsIn script store row exported exported_now Logs) script before now
running_ends script store row asked before now exported exported_now number Logs valid running logs all = record {
  ran = running.rounds;
  text = rounds_text script.tables 1 running.rounds;
  went = subst (λ (rounds : List (List Line)). RunsIn script store row exported exported_now Logs rounds running.rounds running.rounds (length running.rounds) (rounds_text script.tables 1 running.rounds)) all
      (record {
        went = went_so_far script running.rounds running.finished exported exported_now running.counted (keeps_now script store row asked before now exported exported_now number running) running.sent asked []
            (sym all ∙ sym (append-nil asked)) valid running.ran;
        stands = running.stands;
        logs = logs;
      });
  printed = running.printed;
}

-- ---- what a round asks

-- each line of a round of a valid script is one
round_valid : (script : Script) (asked rest : List (List Line)) (lines : List Line)
    → asked ++ lines ∷ rest ≡ script.rounds → IsRunnable script → list_all (is_line script) lines ≡ true
round_valid script asked rest lines split valid =
    let cut : list_all (is_line script) (lines_in asked ++ (lines ++ lines_in rest)) ≡ true =
    ap (list_all (is_line script)) (sym (ap lines_in (sym split) ∙ parted_lines asked rest lines)) ∙ lines_are_valid script valid.valid in
    let behind = (and_parts (list_all (is_line script) (lines_in asked)) (list_all (is_line script) (lines ++ lines_in rest))
    (sym (list_all-append (is_line script) (lines_in asked) (lines ++ lines_in rest)) ∙ cut)).1 in
    (and_parts (list_all (is_line script) lines) (list_all (is_line script) (lines_in rest))
    (sym (list_all-append (is_line script) lines (lines_in rest)) ∙ behind)).0

-- so its session is one of the script's, and its command names what the tables have
module _ (script : Script) where
  -- The session of each valid line is one of the script's.
  each_within : (lines : List Line) → list_all (is_line script) lines ≡ true → list_all (λ (line : Line). is_within 1 script.sessions line.session) lines ≡ true
  each_within [] all = refl
  each_within (line ∷ lines) all =
      let parts = and_parts (is_line script line) (list_all (is_line script) lines) all in
      and_from (is_within 1 script.sessions line.session) (list_all (λ (line : Line). is_within 1 script.sessions line.session) lines)
      (and_parts (is_within 1 script.sessions line.session) (is_command script.tables line.command)
      (and_parts (is_within 1 script.sessions line.session && is_command script.tables line.command) (takes_command script.version line.command) parts.0).0).0
      (each_within lines parts.1)

  -- The command of each valid line may be asked of the script's tables.
  each_served : (lines : List Line) → list_all (is_line script) lines ≡ true → All (λ (line : Line). IsServed script.tables line.command) lines
  each_served [] all = All-nil (λ (line : Line). IsServed script.tables line.command)
  each_served (line ∷ lines) all =
      let parts = and_parts (is_line script line) (list_all (is_line script) lines) all in
      All-cons (λ (line : Line). IsServed script.tables line.command) line lines
      (and_parts (is_within 1 script.sessions line.session) (is_command script.tables line.command)
      (and_parts (is_within 1 script.sessions line.session && is_command script.tables line.command) (takes_command script.version line.command) parts.0).0).1
      (each_served lines parts.1)

module _ (script : Script) (store : StoreView) (row : List Session) (asked rest : List (List Line)) (lines : List Line)
    (is : IsRowOf script store row) (split : asked ++ lines ∷ rest ≡ script.rounds) (valid : IsRunnable script) where
  -- each line of the round is of one of the script's sessions
  pub round_within : list_all (λ (line : Line). is_within 1 script.sessions line.session) lines ≡ true
  round_within = each_within script lines (round_valid script asked rest lines split valid)

  -- each line of the round may be asked of the store
  pub round_served : All (λ (line : Line). IsServed (shape_in store).tables line.command) lines
  round_served = subst (λ (shape : Shape). All (λ (line : Line). IsServed shape.tables line.command) lines) (sym is.shape)
      (each_served script lines (round_valid script asked rest lines split valid))

-- it has one export at most
pub round_once : (script : Script) (asked rest : List (List Line)) (lines : List Line) → asked ++ lines ∷ rest ≡ script.rounds → IsRunnable script
    → count_by (λ (line : Line). is_export line.command) lines ≤ 1
round_once script asked rest lines split valid =
    let exports = λ (line : Line). cond (is_export line.command) 1 0 in
    let few = few_exports script valid.valid in
    let all = ap (λ rounds. sum_by exports (lines_in rounds)) (sym split) in
    let cut = ap (sum_by exports) (parted_lines asked rest lines) in
    let first = sum_by-append exports (lines_in asked) (lines ++ lines_in rest) in
    let second = sum_by-append exports lines (lines_in rest) in
    omega (arith, few, all, cut, first, second)

-- each of the row may make the events of a further round
pub round_has_room : (script : Script) (store : StoreView) (row : List Session) (asked rest : List (List Line)) (before now exported exported_now : Option (List ℕ)) (number : ℕ) (lines : List Line)
    → Running script store row asked before now exported exported_now number → asked ++ lines ∷ rest ≡ script.rounds
    → length (all_lines script) < 2 ^ 32 → length script.rounds < 2 ^ 32
    → HaveRoomFor (most_events * length lines + most_of_turn * script.turns) row
round_has_room script store row asked rest before now exported exported_now number lines running split few short k d within =
    let made = running.few k d within in
    let turns = running.turns in
    let counted = count_lines asked rest lines in
    let all = ap (λ (rounds : List (List Line)). length (lines_in rounds)) split in
    let rounds = length-append asked (lines ∷ rest) in
    let rounds_all = ap length split in
    omega (arith, made, turns, counted, all, few, rounds, rounds_all, short)

-- a round's number has 32 bits, where there are fewer rounds
pub number_fits : (asked rest all : List (List Line)) (lines : List Line) (number : ℕ) → number ≡ length asked → asked ++ lines ∷ rest ≡ all → length all < 2 ^ 32 → number + 1 < 2 ^ 32
number_fits asked rest all lines number count split few = omega (arith, count, few, ap length split, length-append asked (lines ∷ rest))
