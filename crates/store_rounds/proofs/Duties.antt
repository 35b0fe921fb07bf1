-- The duties of a crew, one by one, and that they may be done.
use Rattle.std.proofs.Common.{◌≡◌, ℕ, suc, ◌+◌, ◌*◌, ◌<◌, ◌≤◌, nat_lt, Bool, true, false, cond, ◌==◌, ◌||◌, List, [], ◌∷◌, ◌++◌, length, get_or, None, Some, refl, sym, ap, ◌∙◌, subst, arith, true≢false}
use Rattle.std.specs.Prelude.{All, count_by}
use Rattle.std.specs.Global.{Vec as GlobalVec}
use Rattle.std.specs.List.{cons_option, list_any}
use Rattle.std.proofs.lemmas.Bool.Decides.{nat_tests}
use Rattle.std.proofs.lemmas.List.{get_or_append_left, get_or_push, length_push}
use Rattle.std.proofs.lemmas.List.Elements.{All-cons, All-head, All-nil, All-tail}
use Rattle.std.proofs.lemmas.List.Sums.{sum_by-append}
use Rattle.outcome_spec.specs.Forms.{commands_of}
use Rattle.workload_spec.specs.Valid.{is_export}
use Rattle.workload_spec.specs.declared.command.Command.{Command}
use Rattle.workload_spec.specs.declared.script.Line.{Line}
use Rattle.shared_store.specs.Store.{StoreView, shape_in}
use Rattle.store_rounds.specs.Sessions.{IsFreeSession}
use Rattle.shared_store.specs.declared.session.Session.{Session}
use Rattle.store_rounds.specs.Turns.{most_of_turn}
use Rattle.store_rounds.specs.Answered.{IsServed, most_events}
use Rattle.store_rounds.specs.Duties.{AreDuties, AreOfSessions, AreWithWorkers, IsNew, IsOfSession, asks_export, has_export}
use Rattle.store_rounds.specs.Rounds.{HaveRoomFor}
use Rattle.store_rounds.specs.Row.{AreSessions}
use Rattle.store_rounds.specs.Served.{OneExportsAtMost, MayDo, MayServe, MayServeRow}
use Rattle.store_rounds.specs.declared.agenda.Agenda.{Agenda}
use Rattle.store_rounds.specs.declared.crew.Crew.{Crew}
use Rattle.store_rounds.specs.declared.duty.Duty.{Duty}
use Rattle.store_rounds.specs.declared.duty.Task.{Task}
use Rattle.store_rounds.specs.declared.duty.Task.TheVariants as task
use Rattle.store_rounds.proofs.Ranges.{any_of}
use Rattle.store_rounds.proofs.Runs.{Place, of_session, of_worker, place}

-- ---- duty behind duty

-- of no sessions there are no duties
pub no_duties : (round : ℕ) → AreOfSessions round [] []
no_duties round = record { size = refl; each = λ k a d within. absurd (omega (arith, within)) }

-- the duty of one session more, with the commands of its agenda
pub session_more : (round : ℕ) (agendas : List Agenda) (duties : List Duty) (agenda : Agenda) (commands : GlobalVec Command) (new : Duty)
    → AreOfSessions round agendas duties → commands.items ≡ agenda.commands.items → IsNew round (task.Commands commands) new
    → AreOfSessions round (agendas ++ agenda ∷ []) (duties ++ new ∷ [])
session_more round agendas duties agenda commands new are same is = record {
  size = length_push duties new ∙ ap (λ n. n + 1) are.size ∙ sym (length_push agendas agenda);
  each = λ k a d within. go k a d (omega (arith, within, length_push agendas agenda)) (nat_lt k (length agendas)) refl;
}
  where
    go : (k : ℕ) (a : Agenda) (d : Duty) → k < length agendas + 1 → (b : Bool) → nat_lt k (length agendas) ≡ b
        → IsOfSession round (get_or (agendas ++ agenda ∷ []) k a) (get_or (duties ++ new ∷ []) k d)
    go k a d within true e =
        let low : k < length agendas = grind (arith, nat_tests, e) in
        subst (λ x. IsOfSession round x (get_or (duties ++ new ∷ []) k d)) (sym (get_or_append_left agendas (agenda ∷ []) a k low))
        (subst (IsOfSession round (get_or agendas k a)) (sym (get_or_append_left duties (new ∷ []) d k (omega (arith, low, are.size))))
        (are.each k a d low))
    go k a d within false e =
        let same' : length agendas ≡ k = grind (arith, nat_tests, e, within) in
        subst (λ x. IsOfSession round x (get_or (duties ++ new ∷ []) k d)) (sym (get_or_push agendas agenda a k same'))
        (subst (IsOfSession round agenda) (sym (get_or_push duties new d k (are.size ∙ same')))
        (record { commands = commands; same = same; new = is }))

-- of no workers there are no duties behind the sessions'
pub no_workers : (crew : Crew) (round : ℕ) (duties : List Duty) → AreWithWorkers crew round 0 duties duties
no_workers crew round duties = record { size = omega arith; same = λ k d within. refl; each = λ k d within. absurd (omega (arith, within)) }

-- the duty of one worker more, with its turns
pub worker_more : (crew : Crew) (round workers : ℕ) (before duties : List Duty) (new : Duty)
    → AreWithWorkers crew round workers before duties → IsNew round (task.Turns (workers + 1) crew.turns) new
    → AreWithWorkers crew round (workers + 1) before (duties ++ new ∷ [])
worker_more crew round workers before duties new are is = record {
  size = omega (arith, length_push duties new, are.size);
  same = λ k d within. get_or_append_left duties (new ∷ []) d k (omega (arith, within, are.size)) ∙ are.same k d within;
  each = λ k d within. go k d within (nat_lt k workers) refl;
}
  where
    go : (k : ℕ) (d : Duty) → k < workers + 1 → (b : Bool) → nat_lt k workers ≡ b
        → IsNew round (task.Turns (k + 1) crew.turns) (get_or (duties ++ new ∷ []) (length before + k) d)
    go k d within true e =
        let low : k < workers = grind (arith, nat_tests, e) in
        subst (IsNew round (task.Turns (k + 1) crew.turns)) (sym (get_or_append_left duties (new ∷ []) d (length before + k) (omega (arith, low, are.size))))
        (are.each k d low)
    go k d within false e =
        let last : workers ≡ k = grind (arith, nat_tests, e, within) in
        subst (IsNew round (task.Turns (k + 1) crew.turns)) (sym (get_or_push duties new d (length before + k) (are.size ∙ ap (λ n. length before + n) last)))
        (subst (λ n. IsNew round (task.Turns (n + 1) crew.turns) new) last is)

-- ---- what is asked

-- a session is asked at most as many commands as there are lines
pub commands_few : (session : ℕ) (lines : List Line) → length (commands_of session lines) ≤ length lines
commands_few session [] = omega arith
commands_few session (line ∷ lines) = go (line.session == session) (commands_few session lines)
  where
    go : (own : Bool) → length (commands_of session lines) ≤ length lines
        → length (cons_option (cond own (Some line.command) None) (commands_of session lines)) ≤ suc (length lines)
    go true few = omega (arith, few)
    go false few = omega (arith, few)

-- what each line's command has, the commands of a session have
commands_have : (P : Command → Type 0) (session : ℕ) (lines : List Line) → All (λ (line : Line). P line.command) lines → All P (commands_of session lines)
commands_have P session [] each = All-nil P
commands_have P session (line ∷ lines) each =
    go (line.session == session) (All-head (λ (line : Line). P line.command) line lines each)
    (commands_have P session lines (All-tail (λ (line : Line). P line.command) line lines each))
  where
    go : (own : Bool) → P line.command → All P (commands_of session lines)
        → All P (cons_option (cond own (Some line.command) None) (commands_of session lines))
    go true here rest = All-cons P line.command (commands_of session lines) here rest
    go false here rest = rest

-- ---- at most one exports

-- How many of the lines ask for an export.
abbrev exports_in : List Line → ℕ
exports_in lines = count_by (λ (line : Line). is_export line.command) lines

-- One for a line that asks for an export, and zero for any other.
abbrev export_count : Line → ℕ
export_count line = cond (is_export line.command) 1 0

-- One line more in front adds its own export, if it asks for one.
exports_more : (line : Line) (lines : List Line) → exports_in (line ∷ lines) ≡ export_count line + exports_in lines
exports_more line lines = let more = sum_by-append export_count (line ∷ []) lines in omega (arith, more)

-- a session that exports has a line that does
one_counted : (session : ℕ) (lines : List Line) → list_any is_export (commands_of session lines) ≡ true → 1 ≤ exports_in lines
one_counted session [] some = absurd (let never : ⊥ = cc some in never)
one_counted session (line ∷ lines) some = go (line.session == session) (is_export line.command) refl some (one_counted session lines)
  where
    go : (own exports : Bool) → is_export line.command ≡ exports → list_any is_export (cons_option (cond own (Some line.command) None) (commands_of session lines)) ≡ true
        → (list_any is_export (commands_of session lines) ≡ true → 1 ≤ exports_in lines)
        → 1 ≤ exports_in (line ∷ lines)
    go own true e some rest = let here = ap {B = ℕ} (λ b. cond b 1 0) e in omega (arith, here, exports_more line lines)
    go true false e some rest =
        let behind = rest (sym (ap (λ b. b || list_any is_export (commands_of session lines)) e) ∙ some) in
        let here = ap {B = ℕ} (λ b. cond b 1 0) e in omega (arith, behind, here, exports_more line lines)
    go false false e some rest = let behind = rest some in let here = ap {B = ℕ} (λ b. cond b 1 0) e in omega (arith, behind, here, exports_more line lines)

-- two sessions that export have two
pub two_counted : (s t : ℕ) (lines : List Line) → (s ≡ t → ⊥) → list_any is_export (commands_of s lines) ≡ true → list_any is_export (commands_of t lines) ≡ true
    → 2 ≤ exports_in lines
two_counted s t [] other one more = absurd (let never : ⊥ = cc one in never)
two_counted s t (line ∷ lines) other one more =
    go (line.session == s) refl (line.session == t) refl (is_export line.command) refl one more (two_counted s t lines other)
  where
    go : (a : Bool) → (line.session == s) ≡ a → (b : Bool) → (line.session == t) ≡ b → (exports : Bool) → is_export line.command ≡ exports
        → list_any is_export (cons_option (cond a (Some line.command) None) (commands_of s lines)) ≡ true
        → list_any is_export (cons_option (cond b (Some line.command) None) (commands_of t lines)) ≡ true
        → (list_any is_export (commands_of s lines) ≡ true → list_any is_export (commands_of t lines) ≡ true → 2 ≤ exports_in lines)
        → 2 ≤ exports_in (line ∷ lines)
    go true here true there exports e one more rest =
        let first : line.session ≡ s = grind (arith, nat_tests, here) in
        let second : line.session ≡ t = grind (arith, nat_tests, there) in
        absurd (other (sym first ∙ second))
    go false here b there true e one more rest =
        let behind = one_counted s lines one in let this = ap {B = ℕ} (λ b. cond b 1 0) e in omega (arith, behind, this, exports_more line lines)
    go true here false there true e one more rest =
        let behind = one_counted t lines more in let this = ap {B = ℕ} (λ b. cond b 1 0) e in omega (arith, behind, this, exports_more line lines)
    go true here false there false e one more rest =
        let behind = rest (sym (ap (λ b. b || list_any is_export (commands_of s lines)) e) ∙ one) more in
        let this = ap {B = ℕ} (λ b. cond b 1 0) e in omega (arith, behind, this, exports_more line lines)
    go false here true there false e one more rest =
        let behind = rest one (sym (ap (λ b. b || list_any is_export (commands_of t lines)) e) ∙ more) in
        let this = ap {B = ℕ} (λ b. cond b 1 0) e in omega (arith, behind, this, exports_more line lines)
    go false here false there false e one more rest =
        let behind = rest one more in
        let this = ap {B = ℕ} (λ b. cond b 1 0) e in omega (arith, behind, this, exports_more line lines)

-- ---- the duties of a crew may be done

-- A new duty may be served by a session that may do its task.
new_may : (store : StoreView) (session : Session) (round : ℕ) (to_do : Task) (duty : Duty) → IsNew round to_do duty → IsFreeSession store session
    → MayDo store session (Some to_do) → MayServe store duty session
new_may store session round to_do duty new is may = record {
  is_session = is;
  may = subst (MayDo store session) (sym new.asked) may;
  unhurt = new.new_end;
}

module _ (crew : Crew) (round : ℕ) (lines : List Line) (duties : List Duty) (are : AreDuties crew round lines duties) where
  -- There are as many duties of sessions as the crew has sessions.
  own_size : length are.own ≡ crew.sessions
  own_size = are.sessions.size ∙ are.asked.size

  -- there are as many duties as the crew has sessions and workers
  pub duties_size : length duties ≡ crew.sessions + crew.workers
  duties_size = are.workers.size ∙ ap (λ n. n + crew.workers) own_size

  -- what a session is asked
  pub record AskedOf (k : ℕ) (duty : Duty) : Type 0 where
    pub commands : GlobalVec Command
    pub same : commands.items ≡ commands_of (k + 1) lines
    pub new : IsNew round (task.Commands commands) duty

  -- at a session's place stands its duty, with its commands in the round
  pub of_session_at : (k : ℕ) (d : Duty) → k < crew.sessions → AskedOf k (get_or duties k d)
  of_session_at k d within =
      let low : k < length are.agendas = omega (arith, within, are.asked.size) in
      let agenda : Agenda = any_of are.agendas k low in
      let here = are.sessions.each k agenda d low in
      record {
        commands = here.commands;
        same = here.same ∙ are.asked.each k agenda within;
        new = subst (IsNew round (task.Commands here.commands)) (sym (are.workers.same k d (omega (arith, within, own_size)))) here.new;
      }

  -- at a worker's place, behind the sessions, stands its duty with its turns
  pub of_worker_at : (n : ℕ) (d : Duty) → n < crew.workers → IsNew round (task.Turns (n + 1) crew.turns) (get_or duties (crew.sessions + n) d)
  of_worker_at n d within =
      subst (λ k. IsNew round (task.Turns (n + 1) crew.turns) (get_or duties (k + n) d)) own_size (are.workers.each n d within)

  -- a row may do its duties where each has room for their events and the lines are valid
  pub may_serve_row : (store : StoreView) (row : List Session) → AreSessions store row → length row ≡ crew.sessions + crew.workers
      → HaveRoomFor (most_events * length lines + most_of_turn * crew.turns) row → crew.workers ≤ 16 → crew.turns ≤ 100
      → All (λ (line : Line). IsServed (shape_in store).tables line.command) lines
      → MayServeRow store duties row
  may_serve_row store row sessions size room workers turns served = record {
    size = duties_size ∙ sym size;
    each = λ k d e within. go k d e within (place crew.sessions crew.workers k (omega (arith, within, size)));
  }
    where
      go : (k : ℕ) (d : Session) (e : Duty) → k < length row → Place crew.sessions crew.workers k → MayServe store (get_or duties k e) (get_or row k d)
      go k d e within (of_session inside) =
          let asked = of_session_at k e inside in
          let few = commands_few (k + 1) lines in
          let same = ap length asked.same in
          let each = room k d within in
          new_may store (get_or row k d) round (task.Commands asked.commands) (get_or duties k e) asked.new (sessions k d within)
          (record {
            room = omega (arith, few, same, each);
            served = subst (All (IsServed (shape_in store).tables)) (sym asked.same) (commands_have (IsServed (shape_in store).tables) (k + 1) lines served);
          })
      go k d e within (of_worker n inside same) =
          let each = room k d within in
          new_may store (get_or row k d) round (task.Turns (n + 1) crew.turns) (get_or duties k e)
          (subst (λ j. IsNew round (task.Turns (n + 1) crew.turns) (get_or duties j e)) same (of_worker_at n e inside)) (sessions k d within)
          (record { room = omega (arith, each); few = omega (arith, inside, workers); short = turns })

  -- one that exports is a session, whose lines have an export
  exporter : (k : ℕ) (d : Duty) → k < length duties → asks_export (get_or duties k d) ≡ true
      → (k < crew.sessions) × (list_any is_export (commands_of (k + 1) lines) ≡ true)
  exporter k d within asks = go (place crew.sessions crew.workers k (omega (arith, within, duties_size)))
    where
      go : Place crew.sessions crew.workers k → (k < crew.sessions) × (list_any is_export (commands_of (k + 1) lines) ≡ true)
      go (of_session inside) =
          let asked = of_session_at k d inside in
          (inside, ap (list_any is_export) (sym asked.same) ∙ sym (ap has_export asked.new.asked) ∙ asks)
      go (of_worker n inside same) =
          let new = of_worker_at n d inside in
          absurd (true≢false (sym asks ∙ ap (λ j. asks_export (get_or duties j d)) (sym same) ∙ ap has_export new.asked))

  -- at most one of the duties exports where at most one line of the round does
  pub export_once : count_by (λ (line : Line). is_export line.command) lines ≤ 1 → OneExportsAtMost duties
  export_once once j k d low high one other = go (j == k) refl
    where
      go : (b : Bool) → (j == k) ≡ b → j ≡ k
      go true e = grind (arith, nat_tests, e)
      go false e =
          let apart : j + 1 ≡ k + 1 → ⊥ = λ (same : j + 1 ≡ k + 1). absurd (grind (arith, nat_tests, e, same)) in
          let two = two_counted (j + 1) (k + 1) lines apart (exporter j d low one).1 (exporter k d high other).1 in
          absurd (omega (arith, two, once))
