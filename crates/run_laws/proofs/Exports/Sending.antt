-- What calls send one behind the other, and that the printed lines of a run say it.
use Rattle.std.proofs.Common.{◌≡◌, ℕ, ◌+◌, ◌≤◌, nat_le, nat_lt, Bool, true, false, cond, ◌&&◌, ◌||◌, ◌==◌, List, [], ◌∷◌, ◌++◌, length, map, None, Some, sum_by, refl, sym, ap, ◌∙◌, subst, arith, append-nil, append_assoc}
use mathlib.Core.Logic.{inl, inr}
use Rattle.std.specs.Prelude.{All, IfSome, count_by}
use Rattle.std.specs.List.{cons_option, flat_map, list_all, list_any, range_with_len}
use Rattle.std.proofs.lemmas.Bool.{and_parts, or_parts}
use Rattle.std.proofs.lemmas.Bool.Decides.{nat_tests}
use Rattle.std.proofs.lemmas.List.Elements.{All-cons, All-nil}
use Rattle.std.proofs.lemmas.List.Sums.{sum_by-append, sum_by-cons}
use Rattle.cell_model.specs.declared.table.TableDecl.{TableDecl}
use Rattle.run_laws.proofs.Counts.Versions.{sum_moves, sum_none, sum_only}
use Rattle.event_spec.specs.Lawful.{Among}
use Rattle.run_laws.proofs.Explained.Scripts.{worker_upkeep}
use Rattle.run_laws.proofs.Exports.Exported.{exports_are_said}
use Rattle.run_laws.proofs.Exports.Quiet.{is_one, upkeep_no_export, without_an_export_nothing_is_sent}
use Rattle.run_laws.specs.Exports.Laws.{NothingSaysNothing, RunsSayAllSent, SendingGoesOn, SendingsJoin}
use Rattle.export_spec.specs.Calls.{CallsSend, SendsAs, SendsBy, WereSent, calls_in}
use Rattle.run_laws.specs.Moments.Laws.{commands_at}
use Rattle.outcome_spec.specs.Forms.{commands_of, is_upkeep}
use Rattle.outcome_spec.specs.Tables.{blocks_at, columns_at}
use Rattle.outcome_spec.specs.Upkeep.{exported_table}
use Rattle.run_spec.specs.Calls.{Call}
use Rattle.run_spec.specs.Occurrences.{Logged}
use Rattle.run_spec.specs.Ran.{Agenda, IsRunnable, Ran, RoundRun, Share, agenda_of, agendas_in, turns_of}
use Rattle.core_laws.proofs.Sound.Bodies.{true_false}
use Rattle.workload_spec.specs.declared.command.Command.{Command}
use Rattle.workload_spec.specs.declared.command.Command.TheVariants as command
use Rattle.workload_spec.specs.declared.reply.Who.TheVariants.{Session, Worker}
use Rattle.workload_spec.specs.declared.script.Line.{Line}
use Rattle.workload_spec.specs.declared.script.Script.{Script}
use Rattle.workload_spec.specs.Valid.{all_lines, has_head, is_export, is_line}

-- ---- one behind the other

-- What more calls send stands behind what the first sent.
pub sendings_join : SendingsJoin
sendings_join tables [] more sent bytes before behind =
    subst (CallsSend tables more) (sym (ap (λ (xs : List ℕ). xs ++ bytes) before)) behind
sendings_join tables (call ∷ calls) more sent bytes before behind = (
  before.0,
  before.1 ++ bytes,
  ap (λ (xs : List ℕ). xs ++ bytes) before.2 ∙ append_assoc before.0 before.1 bytes,
  before.3,
  sendings_join tables calls more before.1 bytes before.4 behind,
)

-- What one call more sends stands behind what was sent before.
pub sending_goes_on : SendingGoesOn
sending_goes_on tables calls call sent bytes before one =
    sendings_join tables calls (call ∷ []) sent bytes before
    (bytes, [], sym (append-nil bytes), one, refl)

-- ---- one export at most

-- What a test adds to a count: one where it holds, else zero.
abbrev counted : Bool → ℕ
counted b = cond b 1 0

-- none passes a test where none is counted
pub none_counted : {X : Type 0} (test : X → Bool) (xs : List X)
    → count_by test xs ≡ 0
    → list_any test xs ≡ false
none_counted test [] none = refl
none_counted test (x ∷ xs) none =
    go (test x) (none_counted test xs) (sym (sum_by-cons (λ y. counted (test y)) x xs) ∙ none)
  where
    go : (b : Bool)
        → (count_by test xs ≡ 0 → list_any test xs ≡ false)
        → counted b + count_by test xs ≡ 0
        → (b || list_any test xs) ≡ false
    go true rest none = absurd (omega (arith, none))
    go false rest none = rest (omega (arith, none))

-- of another command nothing is said
unsaid : (asked : Command) (P : ℕ → Type 0)
    → is_export asked ≡ false
    → IfSome (exported_table asked) P
unsaid (command.Export table) P is = absurd (true_false is)
unsaid _ P is = tt

module _ (tables : List TableDecl) where
  -- The bytes are what the call's line says it sent, where it is an export.
  abbrev SaysOf : List ℕ → Call → Type 0
  SaysOf bytes call = SendsBy tables call bytes

  -- Of a call that is no export nothing is asked of the bytes.
  other_says : (bytes : List ℕ) (call : Call) → is_export call.command ≡ false → SaysOf bytes call
  other_says bytes call is = unsaid
      call.command
      (λ table. IfSome
      call.told
      (λ told. SendsAs (columns_at tables table) (blocks_at tables table) call.made told bytes))
      is

  -- Of calls of which none is an export nothing is asked of the bytes.
  others_say : (bytes : List ℕ) (calls : List Call)
      → list_any is_one calls ≡ false
      → All (SaysOf bytes) calls
  others_say bytes [] none = All-nil (SaysOf bytes)
  others_say bytes (call ∷ calls) none =
      let both = or_parts (is_one call) (list_any is_one calls) none in
      All-cons (SaysOf bytes) call calls
      (other_says bytes call both.0)
      (others_say bytes calls both.1)

  -- Calls of which none is an export send nothing.
  others_send_nothing : (bytes : List ℕ) (calls : List Call)
      → CallsSend tables calls bytes
      → list_any is_one calls ≡ false
      → bytes ≡ []
  others_send_nothing bytes [] sent none = sent
  others_send_nothing bytes (call ∷ calls) sent none =
      let both = or_parts (is_one call) (list_any is_one calls) none in
      sent.2
      ∙ ap (λ (xs : List ℕ). xs ++ sent.1) (sent.3.quiet both.0)
      ∙ others_send_nothing sent.1 calls sent.4 both.1

  -- Where at most one call is an export, what all sent is what that one did.
  one_sends : (bytes : List ℕ) (calls : List Call)
      → CallsSend tables calls bytes
      → count_by is_one calls ≤ 1
      → All (SaysOf bytes) calls
  one_sends bytes [] sent once = All-nil (SaysOf bytes)
  one_sends bytes (call ∷ calls) sent once =
      go (is_one call) refl (one_sends sent.1 calls sent.4)
      (sym (sum_by-cons (λ (other : Call). counted (is_one other)) call calls))
    where
      go : (b : Bool)
          → is_one call ≡ b
          → (count_by is_one calls ≤ 1 → All (SaysOf sent.1) calls)
          → counted b + count_by is_one calls ≡ count_by is_one (call ∷ calls)
          → All (SaysOf bytes) (call ∷ calls)
      go true is rest count =
          let none = none_counted is_one calls (omega (arith, count, once)) in
          let own : bytes ≡ sent.0 =
          sent.2
          ∙ ap (λ (xs : List ℕ). sent.0 ++ xs) (others_send_nothing sent.1 calls sent.4 none)
          ∙ append-nil sent.0 in
          All-cons (SaysOf bytes) call calls
          (subst (SendsBy tables call) (sym own) sent.3.by_line)
          (others_say bytes calls none)
      go false is rest count =
          let others : bytes ≡ sent.1 =
          sent.2 ∙ ap (λ (xs : List ℕ). xs ++ sent.1) (sent.3.quiet is) in
          All-cons (SaysOf bytes) call calls
          (other_says bytes call is)
          (subst (λ xs. All (SaysOf xs) calls) (sym others) (rest (omega (arith, count, once))))

-- ---- the exports that a run was asked

-- Whether a line of the script asks for an export.
abbrev line_exports : Line → Bool
line_exports line = is_export line.command

-- How many commands of an agenda are exports.
abbrev exports_of : Agenda → ℕ
exports_of agenda = count_by is_export agenda.commands

-- How many exports some agendas have in all.
abbrev exports_in : List Agenda → ℕ
exports_in agendas = sum_by exports_of agendas

-- The agendas of the shares of a round.
abbrev agendas_of : RoundRun → List Agenda
agendas_of round = map agenda_of round.shares

-- A sum over the images of some elements is a sum over the elements.
sum_mapped : {X Y : Type 0} (g : Y → ℕ) (f : X → Y) (xs : List X)
    → sum_by g (map f xs) ≡ sum_by (λ x. g (f x)) xs
sum_mapped g f [] = refl
sum_mapped g f (x ∷ xs) =
    let here = sum_by-cons g (f x) (map f xs) in
    let there = sum_by-cons (λ x. g (f x)) x xs in
    let rest = sum_mapped g f xs in
    omega (arith, here, there, rest)

-- The calls of some shares have as many exports as their agendas.
shares_count : (shares : List Share)
    → count_by is_one (flat_map (λ (share : Share). share.calls) shares)
    ≡ exports_in (map agenda_of shares)
shares_count [] = refl
shares_count (share ∷ shares) =
    let parts = sum_by-append (λ (call : Call). counted (is_one call))
    share.calls (flat_map (λ (share : Share). share.calls) shares) in
    let here = sum_mapped (λ (asked : Command). counted (is_export asked))
    (λ (call : Call). call.command) share.calls in
    let rest = shares_count shares in
    let all = sum_by-cons exports_of (agenda_of share) (map agenda_of shares) in
    omega (arith, parts, here, rest, all)

-- The calls of some rounds have as many exports as the agendas of each round in sum.
rounds_count : (rounds : List RoundRun)
    → count_by is_one (calls_in rounds) ≡ sum_by exports_in (map agendas_of rounds)
rounds_count [] = refl
rounds_count (round ∷ rounds) =
    let parts = sum_by-append (λ (call : Call). counted (is_one call))
    (flat_map (λ (share : Share). share.calls) round.shares) (calls_in rounds) in
    let here = shares_count round.shares in
    let rest = rounds_count rounds in
    let all = sum_by-cons exports_in (agendas_of round) (map agendas_of rounds) in
    omega (arith, parts, here, rest, all)

-- ---- the exports among the lines

-- a line is one session's
line_more : (line : Line) (lines : List Line) (session : ℕ)
    → count_by is_export (commands_of session (line ∷ lines)) + 0
    ≤ count_by is_export (commands_of session lines)
    + cond (session == line.session) (counted (line_exports line)) 0
line_more line lines session = go (line.session == session) refl
  where
    go : (b : Bool)
        → (line.session == session) ≡ b
        → count_by is_export
        (cons_option (cond b (Some line.command) None) (commands_of session lines)) + 0
        ≤ count_by is_export (commands_of session lines)
        + cond (session == line.session) (counted (line_exports line)) 0
    go true is =
        let own : (session == line.session) ≡ true = grind (arith, nat_tests, is) in
        let here = ap (λ b. cond b (counted (line_exports line)) 0) own in
        let more = sum_by-cons (λ (asked : Command). counted (is_export asked))
        line.command (commands_of session lines) in
        omega (arith, here, more)
    go false is = omega arith

-- How many exports a session is asked by some lines.
abbrev session_exports : List Line → ℕ → ℕ
session_exports lines session = count_by is_export (commands_of session lines)

-- Some lines ask all sessions together for no more exports than there are among the lines.
sessions_few : (sessions : ℕ) (lines : List Line)
    → sum_by (session_exports lines) (range_with_len 1 sessions) ≤ count_by line_exports lines
sessions_few sessions [] =
    let none = sum_none (session_exports []) (range_with_len 1 sessions) (λ session among. refl) in
    omega (arith, none)
sessions_few sessions (line ∷ lines) =
    let grows = sum_moves (session_exports (line ∷ lines)) (λ session. 0) (session_exports lines)
    (λ session. cond (session == line.session) (counted (line_exports line)) 0)
    (range_with_len 1 sessions) (λ session among. line_more line lines session) in
    let once = sum_only line.session (counted (line_exports line)) 1 sessions in
    let rest = sessions_few sessions lines in
    let more = sum_by-cons (λ (line : Line). counted (line_exports line)) line lines in
    omega (arith, grows, once, rest, more)

module _ (script : Script) where
  -- A session's agenda for some lines: its commands among them.
  abbrev session_agenda : List Line → ℕ → Agenda
  session_agenda lines session =
      record { who = Session session; commands = commands_of session lines }

  -- A worker's agenda: the turns of the script.
  abbrev worker_agenda : ℕ → Agenda
  worker_agenda worker = record { who = Worker worker; commands = turns_of script }

  -- a worker's turns have none
  turns_none : (lines : List Line)
      → Among lines script.rounds
      → count_by is_export (turns_of script) ≡ 0
  turns_none lines there = sum_none
      (λ (asked : Command). counted (is_export asked))
      (turns_of script)
      (λ asked among. ap counted (upkeep_no_export asked (upkeep asked among)))
    where
      turns : commands_at script lines (script.sessions + 1) ≡ turns_of script
      turns = ap (λ b. cond b (commands_of (script.sessions + 1) lines) (turns_of script)) high
        where
          high : nat_le (script.sessions + 1) script.sessions ≡ false
          high = grind (arith, nat_tests)

      upkeep : (asked : Command) → Among asked (turns_of script) → is_upkeep asked ≡ true
      upkeep asked among = worker_upkeep script (script.sessions + 1) asked
          (omega arith)
          (lines, there, subst (Among asked) (sym turns) among)

  -- The agendas of a round have no more exports than its lines.
  round_few : (lines : List Line)
      → Among lines script.rounds
      → exports_in (agendas_in script lines) ≤ count_by line_exports lines
  round_few lines there =
      let parts = sum_by-append exports_of
      (map (session_agenda lines) (range_with_len 1 script.sessions))
      (map worker_agenda (range_with_len 1 script.workers)) in
      let sessions = sum_mapped exports_of (session_agenda lines)
      (range_with_len 1 script.sessions) in
      let few = sessions_few script.sessions lines in
      let workers = sum_mapped exports_of worker_agenda (range_with_len 1 script.workers) in
      let none = sum_none (λ (worker : ℕ). exports_of (worker_agenda worker))
      (range_with_len 1 script.workers) (λ worker among. turns_none lines there) in
      omega (arith, parts, sessions, few, workers, none)

  -- The agendas of some rounds have no more exports than all their lines.
  rounds_few : (rounds : List (List Line))
      → ((lines : List Line) → Among lines rounds → Among lines script.rounds)
      → sum_by exports_in (map (agendas_in script) rounds)
      ≤ count_by line_exports (flat_map (λ (round : List Line). round) rounds)
  rounds_few [] within = omega arith
  rounds_few (lines ∷ rounds) within =
      let first = round_few lines (within lines (inl refl)) in
      let rest = rounds_few rounds (λ other among. within other (inr among)) in
      let asked = sum_by-cons exports_in (agendas_in script lines)
      (map (agendas_in script) rounds) in
      let parts = sum_by-append (λ (line : Line). counted (line_exports line))
      lines (flat_map (λ (round : List Line). round) rounds) in
      omega (arith, first, rest, asked, parts)

  module _
      (log : List Logged) (text : List ℕ) (valid : IsRunnable script)
      (ran : Ran script log text) where
    -- So at most one call of its run is one.
    one_export : count_by is_one (calls_in ran.rounds) ≤ 1
    one_export =
        let most = (and_parts
        (has_head script && nat_lt 0 (length script.rounds)
        && list_all (is_line script) (all_lines script))
        (nat_le (count_by line_exports (all_lines script)) 1)
        valid.valid).1 in
        let lines : count_by line_exports (all_lines script) ≤ 1 = grind (arith, nat_tests, most) in
        let calls = rounds_count ran.rounds ∙ ap (sum_by exports_in) ran.asked in
        let few = rounds_few script.rounds (λ lines among. among) in
        omega (arith, lines, calls, few)

    were_sent : (bytes : List ℕ)
        → CallsSend script.tables (calls_in ran.rounds) bytes
        → WereSent script.tables ran.rounds bytes
    were_sent bytes sent = record {
      by_calls = one_sends script.tables bytes (calls_in ran.rounds) sent one_export;
      quiet = others_send_nothing script.tables bytes (calls_in ran.rounds) sent;
    }

-- ---- what the lines say

-- A run's printed lines say all that its calls sent.
pub runs_say_all_sent : RunsSayAllSent
runs_say_all_sent script log text bytes valid ran fit sent =
    let were = were_sent script log text valid ran bytes sent in record {
      says = exports_are_said script log text bytes valid ran fit were;
      quiet = without_an_export_nothing_is_sent script log text bytes ran were;
    }

-- The empty text of a workload without a round says that nothing was sent.
pub nothing_says_nothing : NothingSaysNothing
nothing_says_nothing script = record { says = tt; quiet = λ none. refl }
