-- A row's round extends the run.
use Rattle.std.proofs.Common.{◌≡◌, ℕ, zero, suc, ◌+◌, ◌-◌, ◌*◌, ◌<◌, ◌≤◌, nat_lt, Bool, true, false, List, [], ◌∷◌, ◌++◌, map, length, get_or, refl, sym, ap, ◌∙◌, subst, arith}
use Rattle.std.specs.Prelude.{All}
use Rattle.std.specs.List.{range_with_len}
use Rattle.std.proofs.lemmas.Bool.Decides.{nat_tests}
use Rattle.std.proofs.lemmas.List.{map-append}
use Rattle.std.proofs.lemmas.List.Elements.{All-append, All-cons, All-nil}
use Rattle.event_spec.specs.Parts.{Shape}
use Rattle.event_spec.specs.Replay.{IsLawfulLog}
use Rattle.outcome_spec.specs.Forms.{commands_of, is_worker}
use Rattle.workload_spec.specs.declared.command.Command.{Command}
use Rattle.workload_spec.specs.declared.reply.Who.{Who}
use Rattle.workload_spec.specs.declared.reply.Who.TheVariants.{Session as TheSession, Worker as TheWorker}
use Rattle.workload_spec.specs.declared.script.Line.{Line}
use Rattle.workload_spec.specs.declared.script.Script.{Script}
use Rattle.run_spec.specs.Calls.{Call}
use Rattle.run_spec.specs.Handed.{Brings, GoesOn, Works, own_in}
use Rattle.run_spec.specs.Occurrences.{Logged}
use Rattle.run_spec.specs.Ran.{Agenda, Share, agenda_of, agendas_in, session_of, shape_of, turns_of}
use Rattle.run_laws.proofs.Rounds.Working.{work_ends}
use Rattle.run_laws.specs.Calls.Meeting.{IsNamedIn}
use Rattle.run_laws.specs.Rounds.Rounds.{RoundMet, made_in}
use Rattle.run_laws.specs.Rounds.Texts.{IsCounted}
use Rattle.run_laws.specs.Rounds.Working.{Ends, MeetsIn, StandsBehind}
use Rattle.shared_store.specs.Store.{IsNamed, StoreView, seen, shape_in}
use Rattle.store_rounds.specs.Sessions.{IsFreeSession}
use Rattle.shared_store.specs.declared.session.Session.{Session}
use Rattle.store_rounds.specs.Turns.{most_of_turn}
use Rattle.store_rounds.specs.Answered.{most_events}
use Rattle.store_rounds.specs.Crews.{crew_of, crew_shares, shares_of}
use Rattle.store_rounds.specs.Rounds.{AllTurned, AskedAll, OneRan, RowRan}
use Rattle.store_rounds.specs.Runs.{IsRowOf, Standing}
use Rattle.store_rounds.specs.Worked.{asked_in, share_of}
use Rattle.store_rounds.proofs.Ranges.{same_on_range}

-- what each place of a range gives
all_on_range : {X : Type 0} (P : X → Type 0) (f : ℕ → X) (a n : ℕ) → ((k : ℕ) → a ≤ k → k < a + n → P (f k)) → All P (map f (range_with_len a n))
all_on_range P f a zero each = All-nil P
all_on_range P f a (suc n) each = All-cons P (f a) (map f (range_with_len (a + 1) n)) (each a (omega arith) (omega arith))
    (all_on_range P f (a + 1) n (λ k low high. each k (omega (arith, low)) (omega (arith, high))))

-- Mapping a list twice is mapping it once by both.
map_of_map : {X Y Z : Type 0} (f : Y → Z) (g : X → Y) (xs : List X) → map f (map g xs) ≡ map (λ x. f (g x)) xs
map_of_map f g [] = refl
map_of_map f g (x ∷ xs) = ap (λ zs. f (g x) ∷ zs) (map_of_map f g xs)

-- ---- one of the row

-- what one did and met, told of its number and the script's shape
one_ends : (script : Script) (store : StoreView) (finished met : List Logged) (old new : Session) (who : Who) (most : ℕ) (calls : List Call)
    → shape_in store ≡ shape_of script → old.session ≡ session_of script who
    → StandsBehind (shape_in store) finished (session_of script who) (seen old) → OneRan store met (is_worker who) most old new calls
    → Ends script finished met (seen new) (share_of who calls)
one_ends script store finished met old new who most calls shape numbered stands ran =
    let ended : Session = ran.ended in
    let number : ℕ = session_of script who in
    let whose : ended.session ≡ number = ran.worked.same ∙ numbered in
    let own : own_in (shape_in store) number (seen new) ≡ own_in (shape_in store) number (seen ended) =
    ap (λ n. own_in (shape_in store) n (seen new)) (sym (ran.met_in.looks_on.same ∙ whose))
    ∙ ran.met_in.looks_on.nothing_more
    ∙ ap (λ n. own_in (shape_in store) n (seen ended)) whose in
    work_ends script finished (seen old) (seen ended) met (seen new) (share_of who calls)
    (subst (λ s. StandsBehind s finished number (seen old)) shape stands)
    (subst (λ s. Works s (is_worker who) number (seen old) calls (seen ended)) shape
    (subst (λ n. Works (shape_in store) (is_worker who) n (seen old) calls (seen ended)) numbered ran.worked.works))
    (subst (λ s. MeetsIn s met number (seen ended) (seen new)) shape
    (record { shown = ran.met_in.shown; saw = ran.met_in.saw; nothing_more = own }))

-- ---- what is asked

-- the agendas of so many of a kind
asked_on_range : (who : ℕ → Who) (count : ℕ) (calls : ℕ → List Call) (commands : ℕ → List Command)
    → ((k : ℕ) → k < count → asked_in (calls (k + 1)) ≡ commands (k + 1))
    → map agenda_of (shares_of who count calls) ≡ map (λ n. record { who = who n; commands = commands n }) (range_with_len 1 count)
asked_on_range who count calls commands asked =
    let agenda : ℕ → Agenda = λ (n : ℕ). record { who = who n; commands = commands n } in
    map_of_map agenda_of (λ (n : ℕ). share_of (who n) (calls n)) (range_with_len 1 count)
    ∙ same_on_range (λ (n : ℕ). agenda_of (share_of (who n) (calls n))) agenda 1 count
    (λ k low high. subst (λ n. agenda_of (share_of (who n) (calls n)) ≡ agenda n) (let e : (k - 1) + 1 ≡ k = omega (arith, low) in e)
    (ap (λ (cs : List Command). record { who = who (k - 1 + 1); commands = cs }) (asked (k - 1) (omega (arith, low, high)))))

-- What was carried out in a round is what its lines ask of each.
agendas_are : (script : Script) (calls : Who → List Call) (lines : List Line) → AskedAll script.sessions lines (λ n. calls (TheSession n))
    → AllTurned script.tables (crew_of script) calls
    → map agenda_of (crew_shares (crew_of script) calls) ≡ agendas_in script lines
agendas_are script calls lines asked turned =
    let workers : List Share = shares_of TheWorker script.workers (λ n. calls (TheWorker n)) in
    map-append agenda_of (shares_of TheSession script.sessions (λ n. calls (TheSession n))) workers
    ∙ ap (λ (agendas : List Agenda). agendas ++ map agenda_of workers)
    (asked_on_range (λ n. TheSession n) script.sessions (λ n. calls (TheSession n)) (λ n. commands_of n lines) asked)
    ∙ ap (λ (agendas : List Agenda). map (λ (n : ℕ). record { who = TheSession n; commands = commands_of n lines }) (range_with_len 1 script.sessions) ++ agendas)
    (asked_on_range (λ n. TheWorker n) script.workers (λ n. calls (TheWorker n)) (λ n. turns_of script) turned)

-- ---- the row

-- What one of the row is now: a session of the store that stands behind the round.
record NowAt (store : StoreView) (finished met : List Logged) (k : ℕ) (old new : Session) : Type 0 where
  is_session : IsFreeSession store new
  same : new.session ≡ old.session
  stands : StandsBehind (shape_in store) met (k + 1) (seen new)
  goes_on : GoesOn finished met

-- a place of the row is a session's or a worker's
pub data Place (sessions workers k : ℕ) : Type 0 where
  of_session : k < sessions → Place sessions workers k
  of_worker : (n : ℕ) → n < workers → sessions + n ≡ k → Place sessions workers k

-- each place of a row is a session's or a worker's
pub place : (sessions workers k : ℕ) → k < sessions + workers → Place sessions workers k
place sessions workers k within = go (nat_lt k sessions) refl
  where
    go : (b : Bool) → nat_lt k sessions ≡ b → Place sessions workers k
    go true e = of_session (grind (arith, nat_tests, e))
    go false e =
        let behind : sessions ≤ k = grind (arith, nat_tests, e) in
        of_worker (k - sessions) (omega (arith, behind, within)) (omega (arith, behind))

-- a member of a kind, by its place among them
on_range : {X : Type 0} (P : X → Type 0) (f : ℕ → X) (count : ℕ) → ((k : ℕ) → k < count → P (f (k + 1))) → All P (map f (range_with_len 1 count))
on_range P f count each = all_on_range P f 1 count
    (λ k low high. subst (λ n. P (f n)) (let e : (k - 1) + 1 ≡ k = omega (arith, low) in e) (each (k - 1) (omega (arith, low, high))))

module _ (script : Script) (store : StoreView) (finished : List Logged) (old new : List Session) (is : IsRowOf script store old) (stands : Standing store finished old)
    (calls : Who → List Call) (ran : RowRan store (crew_of script) old new calls) where
  -- Each session brings its share of the round, and stands behind it.
  session_ends : (k : ℕ) (d : Session) → k < script.sessions
      → Ends script finished ran.met (seen (get_or new k d)) (share_of (TheSession (k + 1)) (calls (TheSession (k + 1))))
  session_ends k d within =
      let inside : k < length old = omega (arith, within, is.size) in
      one_ends script store finished ran.met (get_or old k d) (get_or new k d) (TheSession (k + 1)) (most_events * length (calls (TheSession (k + 1)))) (calls (TheSession (k + 1)))
      is.shape (stands.numbers k d inside) (stands.behind k d inside) (ran.sessions k d within)

  -- Each worker brings its share of the round, and stands behind it.
  worker_ends : (k : ℕ) (d : Session) → k < script.workers
      → Ends script finished ran.met (seen (get_or new (script.sessions + k) d)) (share_of (TheWorker (k + 1)) (calls (TheWorker (k + 1))))
  worker_ends k d within =
      let inside : script.sessions + k < length old = omega (arith, within, is.size) in
      let number : script.sessions + k + 1 ≡ script.sessions + (k + 1) = omega arith in
      one_ends script store finished ran.met (get_or old (script.sessions + k) d) (get_or new (script.sessions + k) d) (TheWorker (k + 1)) (most_of_turn * script.turns) (calls (TheWorker (k + 1)))
      is.shape (stands.numbers (script.sessions + k) d inside ∙ number)
      (subst (λ n. StandsBehind (shape_in store) finished n (seen (get_or old (script.sessions + k) d))) number (stands.behind (script.sessions + k) d inside))
      (ran.workers k d within)

  -- what each place of the row is now
  now_at : (k : ℕ) (d : Session) → k < length new → NowAt store finished ran.met k (get_or old k d) (get_or new k d)
  now_at k d within = go (place script.sessions script.workers k (omega (arith, within, ran.size, is.size)))
    where
      go : Place script.sessions script.workers k → NowAt store finished ran.met k (get_or old k d) (get_or new k d)
      go (of_session inside) =
          let did = ran.sessions k d inside in
          let ends = session_ends k d inside in
          record {
            is_session = did.met_in.looks_on.is_session;
            same = did.met_in.looks_on.same ∙ did.worked.same;
            stands = subst (λ s. StandsBehind s ran.met (k + 1) (seen (get_or new k d))) (sym is.shape) ends.stands;
            goes_on = ends.goes_on;
          }
      go (of_worker n inside same) = subst (λ j. NowAt store finished ran.met j (get_or old j d) (get_or new j d)) same
          (let did = ran.workers n d inside in
          let ends = worker_ends n d inside in
          let number : script.sessions + (n + 1) ≡ script.sessions + n + 1 = omega arith in
          record {
            is_session = did.met_in.looks_on.is_session;
            same = did.met_in.looks_on.same ∙ did.worked.same;
            stands = subst (λ j. StandsBehind (shape_in store) ran.met j (seen (get_or new (script.sessions + n) d))) number
                (subst (λ s. StandsBehind s ran.met (script.sessions + (n + 1)) (seen (get_or new (script.sessions + n) d))) (sym is.shape) ends.stands);
            goes_on = ends.goes_on;
          })

  -- then they stand behind this round
  pub stand_behind : Standing store ran.met new
  stand_behind = record {
    sessions = λ k d within. (now_at k d within).is_session;
    numbers = λ k d within. (now_at k d within).same ∙ stands.numbers k d (omega (arith, within, ran.size));
    behind = λ k d within. (now_at k d within).stands;
  }

  -- the row is still one of the script's sessions and workers
  pub is_row : IsRowOf script store new
  is_row = record { shape = is.shape; size = ran.size ∙ is.size }

  -- the new entries of the log in which all met
  pub gone_on : (d : Session) → 0 < script.sessions → GoesOn finished ran.met
  gone_on d some = (session_ends 0 d some).goes_on

  -- Each of the crew brings its share of the round.
  brought : (d : Session) → All (Brings script finished ran.met) (crew_shares (crew_of script) calls)
  brought d = All-append (Brings script finished ran.met)
      (shares_of TheSession script.sessions (λ n. calls (TheSession n))) (shares_of TheWorker script.workers (λ n. calls (TheWorker n)))
      (on_range (Brings script finished ran.met) (λ n. share_of (TheSession n) (calls (TheSession n))) script.sessions (λ k within. (session_ends k d within).brings))
      (on_range (Brings script finished ran.met) (λ n. share_of (TheWorker n) (calls (TheWorker n))) script.workers (λ k within. (worker_ends k d within).brings))

  -- the round's calls and the log in which all met are a round of the run
  pub row_met : (d : Session) (some : 0 < script.sessions) (lines : List Line) → AskedAll script.sessions lines (λ n. calls (TheSession n))
      → AllTurned script.tables (crew_of script) calls
      → RoundMet script finished (gone_on d some).0 lines (crew_shares (crew_of script) calls)
  row_met d some lines asked turned =
      let now : List Logged = (gone_on d some).0 in
      let split : ran.met ≡ finished ++ now = (gone_on d some).1 in
      record {
        lawful = subst (λ log. IsLawfulLog (shape_of script) (made_in log)) split (subst (λ s. IsLawfulLog s (made_in ran.met)) is.shape ran.lawful);
        named = subst (λ log. All (IsNamedIn script) log) split (subst (λ (s : Shape). All (IsNamed s.passes) ran.met) is.shape ran.named);
        agendas = agendas_are script calls lines asked turned;
        brought = subst (λ log. All (Brings script finished log) (crew_shares (crew_of script) calls)) split (brought d);
      }

  -- the pruning counts that the calls of the round tell fit 64 bits
  pub shares_counted : (d : Session) → All (λ (share : Share). All IsCounted share.calls) (crew_shares (crew_of script) calls)
  shares_counted d = All-append (λ (share : Share). All IsCounted share.calls)
      (shares_of TheSession script.sessions (λ n. calls (TheSession n))) (shares_of TheWorker script.workers (λ n. calls (TheWorker n)))
      (on_range (λ (share : Share). All IsCounted share.calls) (λ n. share_of (TheSession n) (calls (TheSession n))) script.sessions (λ k within. (ran.sessions k d within).worked.counted))
      (on_range (λ (share : Share). All IsCounted share.calls) (λ n. share_of (TheWorker n) (calls (TheWorker n))) script.workers (λ k within. (ran.workers k d within).worked.counted))
