-- A run that stopped is the run of the front of its workload.
use Rattle.std.proofs.Common.{◌≡◌, ℕ, zero, suc, ◌+◌, ◌<◌, ◌≤◌, Bool, true, false, cond, ◌&&◌, nat_le, nat_lt, List, [], ◌∷◌, ◌++◌, length, take, drop, get_or, Option, None, Some, refl, sym, ap, ◌∙◌, subst, arith, append-nil, append_assoc, sum_by}
use Rattle.std.specs.Prelude.{◌==◌}
use Rattle.std.specs.List.{count_by, cons_option, enumerate_from, flat_map, list_all, range_with_len}
use Rattle.std.proofs.lemmas.Bool.{and_parts, and_from, eqb-true, leb-true, le-leb, lt-ltb}
use Rattle.std.proofs.lemmas.Bool.Decides.{nat_tests}
use Rattle.std.proofs.lemmas.List.{length_push}
use Rattle.std.proofs.lemmas.List.Folds.{list_all-append}
use Rattle.std.proofs.lemmas.List.Sums.{sum_by-append, sum_by-cons}
use Rattle.cell_model.specs.declared.table.TableDecl.{TableDecl}
use Rattle.isolation_spec.specs.Contents.{History}
use Rattle.isolation_spec.specs.Machine.{opening_from}
use Rattle.workload_spec.specs.Valid.{is_valid, is_line, is_export, all_lines, has_head}
use Rattle.workload_spec.specs.declared.command.Command.{Command}
use Rattle.workload_spec.specs.declared.reply.Said.{Said}
use Rattle.workload_spec.specs.declared.reply.Who.TheVariants.{Session, Worker}
use Rattle.workload_spec.specs.declared.script.Line.{Line}
use Rattle.workload_spec.specs.declared.script.Script.{Script}
use Rattle.outcome_spec.specs.Entries.{Entry}
use Rattle.outcome_spec.specs.Forms.{Due, commands_of, dues_in, dues_of, dues_to, entry_behind, turn_of}
use Rattle.timeline_spec.specs.Forms.{AllMayStand}
use Rattle.timeline_spec.specs.Fronts.{lines_up_to}
use Rattle.timeline_spec.specs.Printed.{printed_from, printed_of}
use Rattle.timeline_spec.specs.Timeline.{RunsFrom}
use Rattle.timeline_laws.specs.Fronts.{FrontRuns, RoundsAreDueFirst, RoundsAreValid, FrontIsDueFirst, FrontIsValid, FrontIsExplained}
use Rattle.timeline_laws.proofs.Scripts.{in-turn-explained}

-- The first replies of a run.
pub runs-front : FrontRuns
runs-front begun tables front machine [] rest runs = tt
runs-front begun tables front machine (entry ∷ first) rest runs = (runs.0, runs.1, runs.2, runs-front begun tables (front ++ entry ∷ []) runs.0 first rest runs.3)

-- the printed replies to what is due first, and behind them the others
printed-first : (tables : List TableDecl) (earlier : List Entry) (dues rest : List Due) (told later : List (Option Said)) → AllMayStand dues told
    → (more : List Entry) × (printed_from tables earlier (dues ++ rest) (told ++ later) ≡ printed_from tables earlier dues told ++ more)
printed-first tables earlier [] rest [] later h = (printed_from tables earlier rest later, refl)
printed-first tables earlier [] rest (answer ∷ told) later h = absurd h
printed-first tables earlier (due ∷ dues) rest [] later h = absurd h
printed-first tables earlier (due ∷ dues) rest (None ∷ told) later h = printed-first tables earlier dues rest told later h.1
printed-first tables earlier (due ∷ dues) rest (Some said ∷ told) later h =
    let entry = entry_behind tables earlier due said in
    let others = printed-first tables (earlier ++ entry ∷ []) dues rest told later h.1 in
    (others.0, ap (λ (entries : List Entry). entry ∷ entries) others.1)

-- The front of a run is explained.
pub front-explained : FrontIsExplained
front-explained script part told later valid commits begun same first may runs =
    let printed = printed-first script.tables [] (dues_of part) first.0 told later may in
    let whole : printed_of script (told ++ later) ≡ printed_from script.tables [] (dues_of part) told ++ printed.0 =
    ap (λ (dues : List Due). printed_from script.tables [] dues (told ++ later)) first.1 ∙ printed.1 in
    let opening = opening_from script.begun in
    let front = runs-front script.begun script.tables [] opening (printed_from script.tables [] (dues_of part) told) printed.0 (subst (RunsFrom script.begun script.tables [] opening) whole runs) in
    let of_tables = subst (λ (tables : List TableDecl). RunsFrom script.begun tables [] opening (printed_from tables [] (dues_of part) told)) (sym same) front in
    in-turn-explained part told valid commits may
    (subst (λ (first : History). RunsFrom first part.tables [] (opening_from first) (printed_of part told)) (sym begun) of_tables)

-- ---- the first rounds

-- lists of rounds, the first of which are those of a part
rounds-append : (script : Script) (round : ℕ) (a b : List (List Line))
    → flat_map (λ entry. dues_in script entry.0 entry.1) (enumerate_from round (a ++ b))
    ≡ flat_map (λ entry. dues_in script entry.0 entry.1) (enumerate_from round a) ++ flat_map (λ entry. dues_in script entry.0 entry.1) (enumerate_from (round + length a) b)
rounds-append script round [] b =
    let same : round + 0 ≡ round = omega arith in
    ap (λ (r : ℕ). flat_map (λ entry. dues_in script entry.0 entry.1) (enumerate_from r b)) (sym same)
rounds-append script round (lines ∷ a) b =
    let same : (round + 1) + length a ≡ round + suc (length a) = omega arith in
    ap (λ (dues : List Due). dues_in script round lines ++ dues)
    (rounds-append script (round + 1) a b ∙ ap (λ (r : ℕ). flat_map (λ entry. dues_in script entry.0 entry.1) (enumerate_from (round + 1) a) ++ flat_map (λ entry. dues_in script entry.0 entry.1) (enumerate_from r b)) same)
    ∙ sym (append_assoc (dues_in script round lines) (flat_map (λ entry. dues_in script entry.0 entry.1) (enumerate_from (round + 1) a)) _)

-- the rounds of a list and those behind them
split : {X : Type 0} (n : ℕ) (xs : List X) → take n xs ++ drop n xs ≡ xs
split zero xs = refl
split (suc n) [] = refl
split (suc n) (x ∷ xs) = ap (λ (ys : List _). x ∷ ys) (split n xs)

-- What is due in the first rounds is due first.
pub rounds-due-first : RoundsAreDueFirst
rounds-due-first script count = (
  flat_map (λ entry. dues_in script entry.0 entry.1) (enumerate_from (1 + length (take count script.rounds)) (drop count script.rounds)),
  ap (λ (rounds : List (List Line)). flat_map (λ entry. dues_in script entry.0 entry.1) (enumerate_from 1 rounds)) (sym (split count script.rounds))
      ∙ rounds-append script 1 (take count script.rounds) (drop count script.rounds),
)

-- ---- the next round's first lines

-- a line of another session
other-line : (x : ℕ) (line : Line) (more : List Command) → (line.session == x) ≡ false → cons_option (cond (line.session == x) (Some line.command) None) more ≡ more
other-line x line more h = ap (λ (b : Bool). cons_option (cond b (Some line.command) None) more) h

-- A line of the session puts its command in front of those behind.
own-line : (x : ℕ) (line : Line) (more : List Command) → (line.session == x) ≡ true → cons_option (cond (line.session == x) (Some line.command) None) more ≡ line.command ∷ more
own-line x line more h = ap (λ (b : Bool). cons_option (cond b (Some line.command) None) more) h

-- the first lines, by whether a line is of a session below, or of this one
abbrev first_by : Bool → Bool → Line → List Line → List Line → List Line
first_by below own line kept less = cond below (line ∷ kept) (cond own (line ∷ less) kept)

-- what the first lines ask of a session below: the same
below-step : (x : ℕ) (line : Line) (lines kept less : List Line) (below own : Bool) → (below ≡ false → own ≡ false → (line.session == x) ≡ false)
    → commands_of x kept ≡ commands_of x lines → commands_of x less ≡ commands_of x lines → commands_of x (first_by below own line kept less) ≡ commands_of x (line ∷ lines)
below-step x line lines kept less true own apart h k = ap (cons_option (cond (line.session == x) (Some line.command) None)) h
below-step x line lines kept less false true apart h k = ap (cons_option (cond (line.session == x) (Some line.command) None)) k
below-step x line lines kept less false false apart h k = h ∙ sym (other-line x line (commands_of x lines) (apart refl refl))

-- of one above: nothing
above-step : (x : ℕ) (line : Line) (kept less : List Line) (below own : Bool) → (below ≡ true → (line.session == x) ≡ false) → (own ≡ true → (line.session == x) ≡ false)
    → commands_of x kept ≡ [] → commands_of x less ≡ [] → commands_of x (first_by below own line kept less) ≡ []
above-step x line kept less true own apart from h k = other-line x line (commands_of x kept) (apart refl) ∙ h
above-step x line kept less false true apart from h k = other-line x line (commands_of x less) (from refl) ∙ k
above-step x line kept less false false apart from h k = h

module _ (session : ℕ) where
  -- A line of this session or a higher one is of no lower session.
  not-x : (x : ℕ) (line : Line) → x < session → nat_lt line.session session ≡ false → (line.session == x) ≡ false
  not-x x line low h = grind (arith, nat_tests, low, h)

  -- The first lines have all commands of a lower session.
  first-below : (x count : ℕ) (lines : List Line) → x < session → commands_of x (lines_up_to session count lines) ≡ commands_of x lines
  first-below x count [] low = refl
  first-below x zero (line ∷ lines) low =
      below-step x line lines (lines_up_to session zero lines) (lines_up_to session zero lines) (nat_lt line.session session) false (λ h k. not-x x line low h) (first-below x zero lines low) (first-below x zero lines low)
  first-below x (suc count) (line ∷ lines) low =
      below-step x line lines (lines_up_to session (suc count) lines) (lines_up_to session count lines) (nat_lt line.session session) (line.session == session) (λ h k. not-x x line low h)
      (first-below x (suc count) lines low) (first-below x count lines low)

  -- The first lines have no command of a higher session.
  first-above : (x count : ℕ) (lines : List Line) → session < x → commands_of x (lines_up_to session count lines) ≡ []
  first-above x count [] high = refl
  first-above x zero (line ∷ lines) high =
      above-step x line (lines_up_to session zero lines) (lines_up_to session zero lines) (nat_lt line.session session) false (λ h. grind (arith, nat_tests, high, h)) (λ h. absurd (let never : ⊥ = cc in never))
      (first-above x zero lines high) (first-above x zero lines high)
  first-above x (suc count) (line ∷ lines) high =
      above-step x line (lines_up_to session (suc count) lines) (lines_up_to session count lines) (nat_lt line.session session) (line.session == session)
      (λ h. grind (arith, nat_tests, high, h)) (λ h. grind (arith, nat_tests, high, h)) (first-above x (suc count) lines high) (first-above x count lines high)

  -- A line that is kept for a lower session adds no command of this session.
  own-none : (line : Line) (lines kept : List Line) (below : Bool) → nat_lt line.session session ≡ below → commands_of session kept ≡ [] → commands_of session (cond below (line ∷ kept) kept) ≡ []
  own-none line lines kept true is h = other-line session line (commands_of session kept) (grind (arith, nat_tests, is)) ∙ h
  own-none line lines kept false is h = h

  -- One more line keeps that the first lines have so many of the session's commands.
  own-some : (count : ℕ) (line : Line) (lines kept less : List Line) (below own : Bool) → nat_lt line.session session ≡ below → (line.session == session) ≡ own
      → commands_of session kept ≡ take (suc count) (commands_of session lines) → commands_of session less ≡ take count (commands_of session lines)
      → commands_of session (first_by below own line kept less) ≡ take (suc count) (commands_of session (line ∷ lines))
  own-some count line lines kept less true own is is_own h k =
      let other : (line.session == session) ≡ false = grind (arith, nat_tests, is) in
      other-line session line (commands_of session kept) other ∙ h ∙ ap (take (suc count)) (sym (other-line session line (commands_of session lines) other))
  own-some count line lines kept less false true is is_own h k =
      own-line session line (commands_of session less) is_own ∙ ap (λ (commands : List Command). line.command ∷ commands) k ∙ ap (take (suc count)) (sym (own-line session line (commands_of session lines) is_own))
  own-some count line lines kept less false false is is_own h k =
      h ∙ ap (take (suc count)) (sym (other-line session line (commands_of session lines) is_own))

  -- The first lines have so many of the session's own commands.
  first-own : (count : ℕ) (lines : List Line) → commands_of session (lines_up_to session count lines) ≡ take count (commands_of session lines)
  first-own zero [] = refl
  first-own (suc count) [] = refl
  first-own zero (line ∷ lines) = own-none line lines (lines_up_to session zero lines) (nat_lt line.session session) refl (first-own zero lines)
  first-own (suc count) (line ∷ lines) =
      own-some count line lines (lines_up_to session (suc count) lines) (lines_up_to session count lines) (nat_lt line.session session) (line.session == session) refl refl
      (first-own (suc count) lines) (first-own count lines)

  -- ---- what is due of the first lines

  module _ (round count : ℕ) (lines : List Line) where
    abbrev first_lines : List Line
    first_lines = lines_up_to session count lines

    abbrev of_sessions : List Line → ℕ → ℕ → List Due
    of_sessions of first many = flat_map (λ s. dues_to round (Session s) (commands_of s of)) (range_with_len first many)

    none-above : (first many : ℕ) → session < first → of_sessions first_lines first many ≡ []
    none-above first zero high = refl
    none-above first (suc many) high =
        ap (λ (commands : List Command). dues_to round (Session first) commands ++ of_sessions first_lines (first + 1) many) (first-above first count lines high)
        ∙ none-above (first + 1) many (omega (arith, high))

    to-parts : (who : ℕ) (a b : List Command) → dues_to round (Session who) (a ++ b) ≡ dues_to round (Session who) a ++ dues_to round (Session who) b
    to-parts who [] b = refl
    to-parts who (asked ∷ a) b = ap (λ (dues : List Due). record { round = round; who = Session who; command = asked } ∷ dues) (to-parts who a b)

    sessions-first : (first many : ℕ) (below own : Bool) → nat_lt first session ≡ below → (first == session) ≡ own
        → ((rest : List Due) × (of_sessions lines (first + 1) many ≡ of_sessions first_lines (first + 1) many ++ rest))
        → (rest : List Due) × (of_sessions lines first (suc many) ≡ of_sessions first_lines first (suc many) ++ rest)
    sessions-first first many true own is is_own later =
        let low : first < session = grind (arith, nat_tests, is) in (
          later.0,
          ap (λ (dues : List Due). dues_to round (Session first) (commands_of first lines) ++ dues) later.1
              ∙ ap (λ (commands : List Command). dues_to round (Session first) commands ++ (of_sessions first_lines (first + 1) many ++ later.0)) (sym (first-below first count lines low))
              ∙ sym (append_assoc (dues_to round (Session first) (commands_of first first_lines)) (of_sessions first_lines (first + 1) many) later.0),
        )
    sessions-first first many false true is is_own later =
        let same : first ≡ session = eqb-true first session is_own in
        let commands = commands_of first lines in
        let kept : commands_of first first_lines ≡ take count commands = subst (λ (s : ℕ). commands_of s first_lines ≡ take count (commands_of s lines)) (sym same) (first-own count lines) in
        let nothing : of_sessions first_lines (first + 1) many ≡ [] = none-above (first + 1) many (omega (arith, same)) in (
          dues_to round (Session first) (drop count commands) ++ of_sessions lines (first + 1) many,
          ap (λ (cs : List Command). dues_to round (Session first) cs ++ of_sessions lines (first + 1) many) (sym (split count commands))
              ∙ ap (λ (dues : List Due). dues ++ of_sessions lines (first + 1) many) (to-parts first (take count commands) (drop count commands))
              ∙ append_assoc (dues_to round (Session first) (take count commands)) (dues_to round (Session first) (drop count commands)) (of_sessions lines (first + 1) many)
              ∙ ap (λ (dues : List Due). dues ++ (dues_to round (Session first) (drop count commands) ++ of_sessions lines (first + 1) many))
              (sym (append-nil (dues_to round (Session first) (take count commands)))
              ∙ ap (λ (dues : List Due). dues_to round (Session first) (take count commands) ++ dues) (sym nothing)
              ∙ ap (λ (cs : List Command). dues_to round (Session first) cs ++ of_sessions first_lines (first + 1) many) (sym kept)),
        )
    sessions-first first many false false is is_own later =
        let high : session < first = grind (arith, nat_tests, is, is_own) in
        (of_sessions lines first (suc many), ap (λ (dues : List Due). dues ++ of_sessions lines first (suc many)) (sym (none-above first (suc many) high)))

    -- what is due of sessions in a front of a round's lines is due first in the round
    pub due-first : (first many : ℕ) → (rest : List Due) × (of_sessions lines first many ≡ of_sessions first_lines first many ++ rest)
    due-first first zero = ([], refl)
    due-first first (suc many) = sessions-first first many (nat_lt first session) (first == session) refl refl (due-first (first + 1) many)

-- without workers a round's dues are its sessions'
no-workers : (script : Script) (round : ℕ) (lines : List Line) → script.workers ≡ 0
    → dues_in script round lines ≡ flat_map (λ session. dues_to round (Session session) (commands_of session lines)) (range_with_len 1 script.sessions)
no-workers script round lines none =
    ap (λ (n : ℕ). flat_map (λ session. dues_to round (Session session) (commands_of session lines)) (range_with_len 1 script.sessions)
    ++ flat_map (λ worker. dues_to round (Worker worker) (flat_map (λ turn. turn_of script.tables) (range_with_len 1 script.turns))) (range_with_len 1 n)) none
    ∙ append-nil (flat_map (λ session. dues_to round (Session session) (commands_of session lines)) (range_with_len 1 script.sessions))

-- a list at a place in it
split-at : {X : Type 0} (d : X) (n : ℕ) (xs : List X) → n < length xs → xs ≡ take n xs ++ get_or xs n d ∷ drop (suc n) xs
split-at d n [] inside = absurd (omega (arith, inside))
split-at d zero (x ∷ xs) inside = refl
split-at d (suc n) (x ∷ xs) inside = ap (λ (ys : List _). x ∷ ys) (split-at d n xs (omega (arith, inside)))

-- What is due in a front of a workload without workers is due first.
pub front-due-first : FrontIsDueFirst
front-due-first script rounds session count none inside =
    let first = take rounds script.rounds in
    let lines = get_or script.rounds rounds [] in
    let behind = drop (suc rounds) script.rounds in
    let kept = lines_up_to session count lines in
    let of : List (List Line) → ℕ → List Due = λ rounds round. flat_map (λ entry. dues_in script entry.0 entry.1) (enumerate_from round rounds) in
    let next = 1 + length first in
    let sessions = due-first session next count lines 1 script.sessions in
    let here : dues_in script next lines ≡ dues_in script next kept ++ sessions.0 =
    no-workers script next lines none ∙ sessions.1 ∙ ap (λ (dues : List Due). dues ++ sessions.0) (sym (no-workers script next kept none)) in (
      sessions.0 ++ of behind (next + 1),
      ap (λ (rs : List (List Line)). of rs 1) (split-at [] rounds script.rounds inside)
          ∙ rounds-append script 1 first (lines ∷ behind)
          ∙ ap (λ (dues : List Due). of first 1 ++ (dues ++ of behind (next + 1))) here
          ∙ ap (λ (dues : List Due). of first 1 ++ dues) (append_assoc (dues_in script next kept) sessions.0 (of behind (next + 1)))
          ∙ ap (λ (dues : List Due). of first 1 ++ (dues ++ (sessions.0 ++ of behind (next + 1)))) (sym (append-nil (dues_in script next kept)))
          ∙ sym (append_assoc (of first 1) (dues_in script next kept ++ []) (sessions.0 ++ of behind (next + 1)))
          ∙ ap (λ (dues : List Due). dues ++ (sessions.0 ++ of behind (next + 1))) (sym (rounds-append script 1 first (kept ∷ []))),
    )

-- ---- fronts are workloads

-- rounds of which all lines pass, and few are exports
record Checked (script : Script) (rounds : List (List Line)) : Type 0 where
  lines : list_all (is_line script) (flat_map (λ round. round) rounds) ≡ true
  exports : count_by (λ line. is_export line.command) (flat_map (λ round. round) rounds) ≤ 1

-- A valid script is valid with other rounds that are checked and at least one.
valid-by : (script : Script) (rounds : List (List Line)) → is_valid script ≡ true → 0 < length rounds → Checked script rounds → is_valid (record script { rounds = rounds }) ≡ true
valid-by script rounds valid some checked =
    let outer = and_parts (has_head script && nat_lt 0 (length script.rounds) && list_all (is_line script) (all_lines script)) (nat_le (count_by (λ line. is_export line.command) (all_lines script)) 1) valid in
    let second = and_parts (has_head script && nat_lt 0 (length script.rounds)) (list_all (is_line script) (all_lines script)) outer.0 in
    let head = (and_parts (has_head script) (nat_lt 0 (length script.rounds)) second.0).0 in
    and_from _ _ (and_from _ _ (and_from _ _ head (lt-ltb 0 (length rounds) some)) checked.lines) (le-leb (count_by (λ line. is_export line.command) (flat_map (λ round. round) rounds)) 1 checked.exports)

-- The rounds of a valid script are checked.
script-checked : (script : Script) → is_valid script ≡ true → Checked script script.rounds
script-checked script valid =
    let outer = and_parts (has_head script && nat_lt 0 (length script.rounds) && list_all (is_line script) (all_lines script)) (nat_le (count_by (λ line. is_export line.command) (all_lines script)) 1) valid in
    record {
      lines = (and_parts (has_head script && nat_lt 0 (length script.rounds)) (list_all (is_line script) (all_lines script)) outer.0).1;
      exports = leb-true (count_by (λ line. is_export line.command) (all_lines script)) 1 outer.1;
    }

-- The lines of rounds in two parts are those of both parts.
lines-append : (a b : List (List Line)) → flat_map (λ round. round) (a ++ b) ≡ flat_map (λ round. round) a ++ flat_map (λ round. round) b
lines-append [] b = refl
lines-append (round ∷ a) b = ap (λ (lines : List Line). round ++ lines) (lines-append a b) ∙ sym (append_assoc round (flat_map (λ round. round) a) (flat_map (λ round. round) b))

-- The first ones of checked rounds are checked.
checked-first : (script : Script) (a b : List (List Line)) → Checked script (a ++ b) → Checked script a
checked-first script a b h =
    let first = flat_map (λ (round : List Line). round) a in
    let later = flat_map (λ (round : List Line). round) b in
    let few : count_by (λ line. is_export line.command) (flat_map (λ round. round) (a ++ b)) ≤ 1 = h.exports in
    let counted = ap (count_by (λ (line : Line). is_export line.command)) (lines-append a b) ∙ sum_by-append (λ (line : Line). cond (is_export line.command) 1 0) first later in
    record {
      lines = (and_parts (list_all (is_line script) first) (list_all (is_line script) later) (sym (list_all-append (is_line script) first later) ∙ ap (list_all (is_line script)) (sym (lines-append a b)) ∙ h.lines)).0;
      exports = omega (arith, few, counted);
    }

-- A test that the line and all kept lines pass, they pass together.
kept-lines : (test : Line → Bool) (line : Line) (kept less : List Line) (below own : Bool) → test line ≡ true → list_all test kept ≡ true → list_all test less ≡ true → list_all test (first_by below own line kept less) ≡ true
kept-lines test line kept less true own is h k = and_from (test line) (list_all test kept) is h
kept-lines test line kept less false true is h k = and_from (test line) (list_all test less) is k
kept-lines test line kept less false false is h k = h

-- A test that all lines pass is passed by their first lines.
all-kept : (test : Line → Bool) (session count : ℕ) (lines : List Line) → list_all test lines ≡ true → list_all test (lines_up_to session count lines) ≡ true
all-kept test session count [] h = refl
all-kept test session zero (line ∷ lines) h =
    let parts = and_parts (test line) (list_all test lines) h in
    let rest = all-kept test session zero lines parts.1 in
    kept-lines test line (lines_up_to session zero lines) (lines_up_to session zero lines) (nat_lt line.session session) false parts.0 rest rest
all-kept test session (suc count) (line ∷ lines) h =
    let parts = and_parts (test line) (list_all test lines) h in
    kept-lines test line (lines_up_to session (suc count) lines) (lines_up_to session count lines) (nat_lt line.session session) (line.session == session) parts.0
    (all-kept test session (suc count) lines parts.1) (all-kept test session count lines parts.1)

-- One more line keeps that a sum over the first lines is at most that over all.
counted-lines : (f : Line → ℕ) (line : Line) (lines kept less : List Line) (below own : Bool) → sum_by f kept ≤ sum_by f lines → sum_by f less ≤ sum_by f lines → sum_by f (first_by below own line kept less) ≤ sum_by f (line ∷ lines)
counted-lines f line lines kept less true own h k = omega (arith, h, sum_by-cons f line kept, sum_by-cons f line lines)
counted-lines f line lines kept less false true h k = omega (arith, k, sum_by-cons f line less, sum_by-cons f line lines)
counted-lines f line lines kept less false false h k = omega (arith, h, sum_by-cons f line lines)

-- A sum over the first lines is at most that over all lines.
count-kept : (f : Line → ℕ) (session count : ℕ) (lines : List Line) → sum_by f (lines_up_to session count lines) ≤ sum_by f lines
count-kept f session count [] = omega arith
count-kept f session zero (line ∷ lines) =
    counted-lines f line lines (lines_up_to session zero lines) (lines_up_to session zero lines) (nat_lt line.session session) false (count-kept f session zero lines) (count-kept f session zero lines)
count-kept f session (suc count) (line ∷ lines) =
    counted-lines f line lines (lines_up_to session (suc count) lines) (lines_up_to session count lines) (nat_lt line.session session) (line.session == session)
    (count-kept f session (suc count) lines) (count-kept f session count lines)

-- a last round of fewer lines
checked-last : (script : Script) (a : List (List Line)) (lines kept : List Line) → Checked script (a ++ lines ∷ []) → list_all (is_line script) kept ≡ true
    → sum_by (λ (line : Line). cond (is_export line.command) 1 0) kept ≤ sum_by (λ (line : Line). cond (is_export line.command) 1 0) lines → Checked script (a ++ kept ∷ [])
checked-last script a lines kept h all fewer =
    let f : Line → ℕ = λ line. cond (is_export line.command) 1 0 in
    let first = flat_map (λ (round : List Line). round) a in
    let few : count_by (λ line. is_export line.command) (flat_map (λ round. round) (a ++ lines ∷ [])) ≤ 1 = h.exports in
    let old = ap (sum_by f) (lines-append a (lines ∷ []) ∙ ap (λ (ls : List Line). first ++ ls) (append-nil lines)) ∙ sum_by-append f first lines in
    let new = ap (sum_by f) (lines-append a (kept ∷ []) ∙ ap (λ (ls : List Line). first ++ ls) (append-nil kept)) ∙ sum_by-append f first kept in
    let front = (and_parts (list_all (is_line script) first) (list_all (is_line script) (flat_map (λ (round : List Line). round) (lines ∷ [])))
    (sym (list_all-append (is_line script) first (flat_map (λ (round : List Line). round) (lines ∷ []))) ∙ ap (list_all (is_line script)) (sym (lines-append a (lines ∷ []))) ∙ h.lines)).0 in
    record {
      lines = ap (list_all (is_line script)) (lines-append a (kept ∷ []) ∙ ap (λ (ls : List Line). first ++ ls) (append-nil kept)) ∙ list_all-append (is_line script) first kept
          ∙ and_from (list_all (is_line script) first) (list_all (is_line script) kept) front all;
      exports = omega (arith, few, old, new, fewer);
    }

-- The lines of the last of checked rounds are valid.
last-lines : (script : Script) (a : List (List Line)) (lines : List Line) → Checked script (a ++ lines ∷ []) → list_all (is_line script) lines ≡ true
last-lines script a lines h =
    (and_parts (list_all (is_line script) (flat_map (λ (round : List Line). round) a)) (list_all (is_line script) lines)
    (sym (list_all-append (is_line script) (flat_map (λ (round : List Line). round) a) lines)
    ∙ ap (list_all (is_line script)) (sym (lines-append a (lines ∷ []) ∙ ap (λ (ls : List Line). flat_map (λ (round : List Line). round) a ++ ls) (append-nil lines))) ∙ h.lines)).1

-- Taking at least one of a list that has one leaves one.
some-rounds : {X : Type 0} (n : ℕ) (xs : List X) → 0 < n → 0 < length xs → 0 < length (take n xs)
some-rounds zero xs h k = absurd (omega (arith, h))
some-rounds (suc n) [] h k = absurd (omega (arith, k))
some-rounds (suc n) (x ∷ xs) h k = omega arith

-- A valid script has at least one round.
valid-some : (script : Script) → is_valid script ≡ true → 0 < length script.rounds
valid-some script valid =
    let outer = and_parts (has_head script && nat_lt 0 (length script.rounds) && list_all (is_line script) (all_lines script)) (nat_le (count_by (λ line. is_export line.command) (all_lines script)) 1) valid in
    let second = and_parts (has_head script && nat_lt 0 (length script.rounds)) (list_all (is_line script) (all_lines script)) outer.0 in
    let some = (and_parts (has_head script) (nat_lt 0 (length script.rounds)) second.0).1 in
    grind (arith, nat_tests, some)

-- The first rounds of a workload, one at least, are a workload.
pub rounds-valid : RoundsAreValid
rounds-valid script count some valid =
    valid-by script (take count script.rounds) valid (some-rounds count script.rounds some (valid-some script valid))
    (checked-first script (take count script.rounds) (drop count script.rounds) (subst (Checked script) (sym (split count script.rounds)) (script-checked script valid)))

-- The front of a workload is a workload.
pub front-valid : FrontIsValid
front-valid script rounds session count inside valid =
    let first = take rounds script.rounds in
    let lines = get_or script.rounds rounds [] in
    let behind = drop (suc rounds) script.rounds in
    let whole : script.rounds ≡ (first ++ lines ∷ []) ++ behind = split-at [] rounds script.rounds inside ∙ sym (append_assoc first (lines ∷ []) behind) in
    let checked = checked-first script (first ++ lines ∷ []) behind (subst (Checked script) whole (script-checked script valid)) in
    valid-by script (first ++ lines_up_to session count lines ∷ []) valid (omega (arith, length_push first (lines_up_to session count lines)))
    (checked-last script first lines (lines_up_to session count lines) checked (all-kept (is_line script) session count lines (last-lines script first lines checked))
    (count-kept (λ (line : Line). cond (is_export line.command) 1 0) session count lines))
