-- The sessions and the workers of a round, one after the other; and the rounds.
use Rattle.std.proofs.Common.{◌≡◌, ℕ, ◌+◌, ◌-◌, ◌<◌, ◌≤◌, Bool, true, false, ◌&&◌, List, [], ◌∷◌, ◌++◌, length, take, drop, get_or, set, refl, sym, ap, ◌∙◌, subst, arith, suc, zero, append-nil, append_assoc}
use Rattle.std.specs.Prelude.{◌==◌, nat_lt, nat_le}
use Rattle.std.specs.List.{list_all, flat_map, range_with_len, enumerate_from, count_by}
use Rattle.std.proofs.lemmas.Bool.{and_from, and_parts, eq-eqb, eqb-true, ne_eqb, leb-true}
use Rattle.std.proofs.lemmas.Bool.Decides.{nat_tests}
use Rattle.std.proofs.lemmas.List.Folds.{list_all-append}
use Rattle.std.proofs.Common.{drop-cons}
use Rattle.std.proofs.lemmas.List.{get_or-set_same, get_or-set_other, length-set, length_push, take-append-drop, take_more}
use Rattle.cell_model.specs.declared.table.TableDecl.{TableDecl}
use Rattle.workload_spec.specs.declared.reply.Who.{Who}
use Rattle.workload_spec.specs.declared.reply.Who.TheVariants.{Session, Worker}
use Rattle.workload_spec.specs.declared.script.Line.{Line}
use Rattle.workload_spec.specs.declared.script.Script.{Script}
use Rattle.workload_spec.specs.Valid.{is_valid, has_head, is_within as is_within_range, is_table, have_own_names, is_line, is_command, takes_command, all_lines, is_export, most_tables, most_sessions, most_workers, most_turns, has_version}
use Rattle.outcome_spec.specs.Entries.{is_same}
use Rattle.outcome_spec.specs.Forms.{Due, commands_of, dues_to, dues_in, dues_of, is_within, turn_of}
use Rattle.reply_text.specs.Shown.{are_tables}
use Rattle.output_read.specs.declared.reader.Reader.{Reader}
use Rattle.output_read.specs.Order.{are_ahead, comes_before}
use Rattle.output_read.specs.Readers.{IsReading, Passes, FailsAt, read_by}
use Rattle.output_read.specs.Rounds.{AreWithin, Stands, session_part, worker_part}
use Rattle.output_read.specs.Threads.{SessionGoes}
use Rattle.output_read.specs.Work.{IsFew, WorkGoes, turns_of}
use Rattle.output_read.proofs.Fitting.{never}
use Rattle.output_read.proofs.Passing.{OpensAnew, ahead-next, ahead-later, ahead-round, anew-none, anew-session, anew-append, fails-more, passes-append, passes-fails, passes-none, within-as-before}
use Rattle.output_read.proofs.Shifts.{anew-turns}

-- ---- valid scripts

pub record IsSound (script : Script) : Type 0 where
  pub tables : are_tables script.tables ≡ true
  pub few : IsFew (length script.tables)
  pub sessions : script.sessions ≤ 64
  pub lines : list_all (is_line script) (all_lines script) ≡ true

-- what of a valid script the reading uses
pub script-sound : (script : Script) → is_valid script ≡ true → IsSound script
script-sound script h =
    let a = and_parts (has_head script && nat_lt 0 (length script.rounds) && list_all (is_line script) (all_lines script)) (nat_le (count_by (λ line. is_export line.command) (all_lines script)) 1) h in
    let b = and_parts (has_head script && nat_lt 0 (length script.rounds)) (list_all (is_line script) (all_lines script)) a.0 in
    let c = and_parts (has_head script) (nat_lt 0 (length script.rounds)) b.0 in
    let first = has_version script in
    let second = is_within_range 1 most_tables (length script.tables) in
    let third = list_all is_table script.tables in
    let fourth = have_own_names script.tables in
    let fifth = is_within_range 1 most_sessions script.sessions in
    let sixth = nat_le script.workers most_workers in
    let d = and_parts (first && second && third && fourth && fifth && sixth) (nat_le script.turns most_turns) c.0 in
    let e = and_parts (first && second && third && fourth && fifth) sixth d.0 in
    let f = and_parts (first && second && third && fourth) fifth e.0 in
    let g = and_parts (first && second && third) fourth f.0 in
    let i = and_parts (first && second) third g.0 in
    let j = and_parts first second i.0 in
    let k = and_parts (nat_le 1 (length script.tables)) (nat_le (length script.tables) 16) j.1 in
    record {
      tables = and_from third fourth i.1 g.1;
      few = ((let x = leb-true 1 (length script.tables) k.0 in omega (arith, x)), (let y = leb-true (length script.tables) 16 k.1 in omega (arith, y)));
      sessions = leb-true script.sessions 64 (and_parts (nat_le 1 script.sessions) (nat_le script.sessions 64) f.1).1;
      lines = b.1;
    }

-- the commands of valid lines are valid
pub commands-valid : (script : Script) (lines : List Line) → list_all (is_line script) lines ≡ true → list_all (λ line. is_command script.tables line.command) lines ≡ true
commands-valid script [] h = refl
commands-valid script (line ∷ lines) h =
    let p = and_parts (is_line script line) (list_all (is_line script) lines) h in
    let q = and_parts (is_within_range 1 script.sessions line.session && is_command script.tables line.command) (takes_command script.version line.command) p.0 in
    and_from (is_command script.tables line.command) (list_all (λ l. is_command script.tables l.command) lines) (and_parts (is_within_range 1 script.sessions line.session) (is_command script.tables line.command) q.0).1 (commands-valid script lines p.1)

-- what is asked of tables and lines
pub ask-tables : (script : Script) (reader : Reader) → is_valid script ≡ true → reader.tables.now ≡ script.tables → are_tables reader.tables.now ≡ true
ask-tables script reader valid same = subst (λ (ts : List TableDecl). are_tables ts ≡ true) (sym same) (script-sound script valid).tables

-- a reader with the tables of a valid script has few of them, and at least one
pub ask-few : (script : Script) (reader : Reader) → is_valid script ≡ true → reader.tables.now ≡ script.tables → IsFew (length reader.tables.now)
ask-few script reader valid same = subst (λ (ts : List TableDecl). IsFew (length ts)) (sym same) (script-sound script valid).few

-- ---- parts of a round

-- What is due in one part more stands behind what is due in the parts so far.
parts-more : (f : ℕ → List Due) (first n : ℕ) → flat_map f (range_with_len first (n + 1)) ≡ flat_map f (range_with_len first n) ++ f (first + n)
parts-more f first zero = append-nil (f first) ∙ ap f (let e : first ≡ first + 0 = omega arith in e)
parts-more f first (suc n) =
    ap (λ (k : ℕ). flat_map f (range_with_len first k)) (let e : suc n + 1 ≡ suc (n + 1) = omega arith in e)
    ∙ ap (λ (ds : List Due). f first ++ ds) (parts-more f (first + 1) n)
    ∙ sym (append_assoc (f first) (flat_map f (range_with_len (first + 1) n)) (f (first + 1 + n)))
    ∙ ap (λ (k : ℕ). flat_map f (range_with_len first (suc n)) ++ f k) (let e : first + 1 + n ≡ first + suc n = omega arith in e)

-- What is due in parts is due in the first so many and then in the others.
parts-split : (f : ℕ → List Due) (first n k : ℕ) → flat_map f (range_with_len first (n + k)) ≡ flat_map f (range_with_len first n) ++ flat_map f (range_with_len (first + n) k)
parts-split f first zero k =
    ap (λ (m : ℕ). flat_map f (range_with_len first m)) (let e : 0 + k ≡ k = omega arith in e)
    ∙ ap (λ (m : ℕ). flat_map f (range_with_len m k)) (let e : first ≡ first + 0 = omega arith in e)
parts-split f first (suc n) k =
    ap (λ (m : ℕ). flat_map f (range_with_len first m)) (let e : suc n + k ≡ suc (n + k) = omega arith in e)
    ∙ ap (λ (ds : List Due). f first ++ ds) (parts-split f (first + 1) n k)
    ∙ sym (append_assoc (f first) (flat_map f (range_with_len (first + 1) n)) (flat_map f (range_with_len (first + 1 + n) k)))
    ∙ ap (λ (m : ℕ). flat_map f (range_with_len first (suc n)) ++ flat_map f (range_with_len m k)) (let e : first + 1 + n ≡ first + suc n = omega arith in e)

-- Parts that all begin anew begin anew one behind the other.
parts-anew : (f : ℕ → List Due) → ((n : ℕ) → OpensAnew (f n)) → (first n : ℕ) → OpensAnew (flat_map f (range_with_len first n))
parts-anew f h first zero = anew-none
parts-anew f h first (suc n) = anew-append (f first) (flat_map f (range_with_len (first + 1) n)) (h first) (parts-anew f h (first + 1) n)

module _ (f : ℕ → List Due) (opens : (n : ℕ) → OpensAnew (f n)) (old cur : Reader) (n : ℕ) (h : Passes old cur (flat_map f (range_with_len 1 n))) where
  -- Where the next part passes behind those so far, one part more has passed.
  part-passes : (new : Reader) → Passes cur new (f (n + 1)) → Passes old new (flat_map f (range_with_len 1 (n + 1)))
  part-passes new g =
      subst (Passes old new) (sym (parts-more f 1 n ∙ ap (λ (k : ℕ). flat_map f (range_with_len 1 n) ++ f k) (let e : 1 + n ≡ n + 1 = omega arith in e)))
      (passes-append old cur new (flat_map f (range_with_len 1 n)) (f (n + 1)) h g (opens (n + 1)))

  -- Where the next part fails behind those so far, all parts fail at that line.
  part-fails : (many line : ℕ) → n < many → FailsAt cur (f (n + 1)) line → FailsAt old (flat_map f (range_with_len 1 many)) line
  part-fails many line few g =
      let more = flat_map f (range_with_len (1 + n + 1) (many - (n + 1))) in
      subst (λ (ds : List Due). FailsAt old ds line)
      (sym (ap (λ (k : ℕ). flat_map f (range_with_len 1 k)) (let e : many ≡ n + (1 + (many - (n + 1))) = omega (arith, few) in e)
      ∙ parts-split f 1 n (1 + (many - (n + 1)))
      ∙ ap (λ (k : ℕ). flat_map f (range_with_len 1 n) ++ flat_map f (range_with_len (1 + n) k)) (let e : 1 + (many - (n + 1)) ≡ suc (many - (n + 1)) = omega arith in e)
      ∙ ap (λ (k : ℕ). flat_map f (range_with_len 1 n) ++ (f k ++ more)) (let e : 1 + n ≡ n + 1 = omega arith in e)))
      (passes-fails old cur (flat_map f (range_with_len 1 n)) (f (n + 1) ++ more) line h
      (fails-more cur (f (n + 1)) more line g (parts-anew f opens (1 + n + 1) (many - (n + 1))))
      (anew-append (f (n + 1)) more (opens (n + 1)) (parts-anew f opens (1 + n + 1) (many - (n + 1)))))

-- ---- who comes next

-- Who comes before a session comes before the next session.
session-next : (n : ℕ) (other : Who) → comes_before other (Session n) ≡ true → comes_before other (Session (n + 1)) ≡ true
session-next n (Session m) h = grind (arith, nat_tests, h)
session-next n (Worker m) h = absurd (never h)

-- Who comes before a session comes before the first worker.
session-worker : (n : ℕ) (other : Who) → comes_before other (Session n) ≡ true → comes_before other (Worker 1) ≡ true
session-worker n (Session m) h = refl
session-worker n (Worker m) h = absurd (never h)

-- Who comes before a worker comes before the next worker.
worker-next : (n : ℕ) (other : Who) → comes_before other (Worker n) ≡ true → comes_before other (Worker (n + 1)) ≡ true
worker-next n (Session m) h = refl
worker-next n (Worker m) h = grind (arith, nat_tests, h)

-- A number is tested as below the next one.
own-next : (n : ℕ) → nat_lt n (n + 1) ≡ true
own-next n = grind (arith, nat_tests)

-- ---- the sessions of a round

module _ (script : Script) (round : ℕ) (lines : List Line) (old : Reader) where
  -- What is due to a session in the round.
  abbrev of_session : ℕ → List Due
  of_session session = dues_to round (Session session) (commands_of session lines)

  pub record SessionsOn (cur : Reader) (within : List Bool) (at : ℕ) : Type 0 where
    pub tables : cur.tables.now ≡ old.tables.now
    pub stands : Stands script round (Session (at + 1)) cur within
    pub passes : Passes old cur (session_part round lines at)

  -- before the first session of a round nothing of it was read
  pub sessions-start : (within : List Bool) → Stands script round (Session 1) old within → SessionsOn old within 0
  sessions-start within h = record {
    tables = refl;
    stands = subst (λ (n : ℕ). Stands script round (Session n) old within) (let e : 1 ≡ 0 + 1 = omega arith in e) h;
    passes = passes-none old;
  }

  module _ (cur : Reader) (within : List Bool) (at : ℕ) (few : at < script.sessions) (h : SessionsOn cur within at) where
    -- the commands of the round's lines fit the reader's tables
    pub ask-lines : list_all (is_line script) lines ≡ true → list_all (λ line. is_command cur.tables.now line.command) lines ≡ true
    ask-lines valid = subst (λ (ts : List TableDecl). list_all (λ line. is_command ts line.command) lines ≡ true) (sym h.stands.tables) (commands-valid script lines valid)

    -- a session that was read and whose flag was set leaves one more session read
    pub sessions-next : (new : Reader) (after : Bool) → new.tables.now ≡ cur.tables.now → SessionGoes cur new round (at + 1) after lines → SessionsOn new (set within at after) (at + 1)
    sessions-next new after tables g = record {
      tables = tables ∙ h.tables;
      stands = record {
        tables = tables ∙ h.stands.tables;
        reading = g.reading;
        ahead = ahead-next cur new round (Session (at + 1)) (Session (at + 1 + 1)) g.adds h.stands.ahead (session-next (at + 1)) (own-next (at + 1));
        within_are = record {
          many = length-set within at after ∙ h.stands.within_are.many;
          are = λ other d some. by other d some (other == at) refl;
        };
      };
      passes = part-passes of_session (λ n. anew-session round n (commands_of n lines)) old cur at h.passes new g.passes;
    }
      where
        apart : (other : ℕ) → (other == at) ≡ false → is_same (Session (at + 1)) (Session (other + 1)) ≡ false
        apart other no_same = ne_eqb (at + 1) (other + 1) (λ e. never (sym no_same ∙ eq-eqb other at (omega (arith, e))))

        by : (other : ℕ) (d : Bool) → other < script.sessions → (b : Bool) → (other == at) ≡ b → get_or (set within at after) other d ≡ is_within (Session (other + 1)) (read_by new)
        by other d some true same =
            let e : other ≡ at = eqb-true other at same in
            ap (λ (n : ℕ). get_or (set within at after) n d) e
            ∙ get_or-set_same within at after d (let m = h.stands.within_are.many in omega (arith, m, few))
            ∙ g.within_is ∙ ap (λ (n : ℕ). is_within (Session (n + 1)) (read_by new)) (sym e)
        by other d some false no_same =
            get_or-set_other within at other after d (λ e. never (sym no_same ∙ eq-eqb other at e))
            ∙ h.stands.within_are.are other d some
            ∙ sym (within-as-before cur new round (Session (other + 1)) (Session (at + 1)) g.adds (apart other no_same))

    -- where the next session fails, the sessions of the round fail at that line
    pub sessions-fail : (line : ℕ) → FailsAt cur (of_session (at + 1)) line → FailsAt old (session_part round lines script.sessions) line
    sessions-fail line f = part-fails of_session (λ n. anew-session round n (commands_of n lines)) old cur at h.passes script.sessions line few f

  -- behind the last session of a round the first worker comes next
  pub sessions-end : (cur : Reader) (within : List Bool) (at : ℕ) → SessionsOn cur within at → Stands script round (Worker 1) cur within
  sessions-end cur within at h = record {
    tables = h.stands.tables;
    reading = h.stands.reading;
    ahead = ahead-later round (Session (at + 1)) (Worker 1) (read_by cur) (session-worker (at + 1)) h.stands.ahead;
    within_are = h.stands.within_are;
  }

-- ---- the workers of a round

module _ (script : Script) (round : ℕ) (old : Reader) (tables_are : old.tables.now ≡ script.tables) where
  -- What is due to a worker in the round, over all its turns.
  abbrev of_worker : ℕ → List Due
  of_worker worker = dues_to round (Worker worker) (flat_map (λ turn. turn_of script.tables) (range_with_len 1 script.turns))

  -- What is due to a worker in the round begins anew.
  worker-anew : (n : ℕ) → OpensAnew (of_worker n)
  worker-anew n = anew-turns round n 1 script.turns script.tables

  pub record WorkersOn (cur : Reader) (at : ℕ) : Type 0 where
    pub tables : cur.tables.now ≡ old.tables.now
    pub reading : IsReading cur
    pub ahead : are_ahead round (Worker (at + 1)) (read_by cur) ≡ true
    pub within_as : (session : ℕ) → is_within (Session session) (read_by cur) ≡ is_within (Session session) (read_by old)
    pub passes : Passes old cur (worker_part script round at)

  -- before the first worker of a round nothing of the workers was read
  pub workers-start : IsReading old → are_ahead round (Worker 1) (read_by old) ≡ true → WorkersOn old 0
  workers-start reading ahead = record {
    tables = refl;
    reading = reading;
    ahead = ap (λ (n : ℕ). are_ahead round (Worker n) (read_by old)) (let e : 0 + 1 ≡ 1 = omega arith in e) ∙ ahead;
    within_as = λ session. refl;
    passes = passes-none old;
  }

  module _ (cur : Reader) (at : ℕ) (h : WorkersOn cur at) where
    turns-are : dues_to round (Worker (at + 1)) (turns_of script.turns cur.tables.now) ≡ of_worker (at + 1)
    turns-are = ap (λ (ts : List TableDecl). dues_to round (Worker (at + 1)) (turns_of script.turns ts)) (h.tables ∙ tables_are)

    -- one worker that was read leaves one more worker read
    pub workers-next : (new : Reader) → new.tables.now ≡ cur.tables.now → WorkGoes cur new round (at + 1) (turns_of script.turns cur.tables.now) → WorkersOn new (at + 1)
    workers-next new tables g = record {
      tables = tables ∙ h.tables;
      reading = g.reading;
      ahead = ahead-next cur new round (Worker (at + 1)) (Worker (at + 1 + 1)) g.adds h.ahead (worker-next (at + 1)) (own-next (at + 1));
      within_as = λ session. within-as-before cur new round (Session session) (Worker (at + 1)) g.adds refl ∙ h.within_as session;
      passes = part-passes of_worker worker-anew old cur at h.passes new (subst (Passes cur new) turns-are g.passes);
    }

    -- where the next worker fails, the workers of the round fail at that line
    pub workers-fail : at < script.workers → (line : ℕ) → FailsAt cur (dues_to round (Worker (at + 1)) (turns_of script.turns cur.tables.now)) line → FailsAt old (worker_part script round script.workers) line
    workers-fail few line f =
        part-fails of_worker worker-anew old cur at h.passes script.workers line few (subst (λ (ds : List Due). FailsAt cur ds line) turns-are f)

    -- the workers' lines leave it as it was which sessions are in transactions
    pub workers-within : (within : List Bool) → AreWithin script.sessions within (read_by old) → AreWithin script.sessions within (read_by cur)
    workers-within within w = record { many = w.many; are = λ n d few. w.are n d few ∙ sym (h.within_as (n + 1)) }

    -- behind the workers of a round the first session of the next one comes
    pub workers-ahead : are_ahead (round + 1) (Session 1) (read_by cur) ≡ true
    workers-ahead = ahead-round round (Worker (at + 1)) (Session 1) (read_by cur) h.ahead

-- ---- rounds

-- what is due to the sessions of a round begins anew
pub sessions-open : (round : ℕ) (lines : List Line) (sessions : ℕ) → OpensAnew (session_part round lines sessions)
sessions-open round lines sessions = parts-anew (λ session. dues_to round (Session session) (commands_of session lines)) (λ n. anew-session round n (commands_of n lines)) 1 sessions

-- what is due in a round begins anew
pub round-opens : (script : Script) (round : ℕ) (lines : List Line) → OpensAnew (dues_in script round lines)
round-opens script round lines =
    anew-append (session_part round lines script.sessions) (worker_part script round script.workers) (sessions-open round lines script.sessions)
    (parts-anew (λ worker. dues_to round (Worker worker) (flat_map (λ turn. turn_of script.tables) (range_with_len 1 script.turns))) (λ n. anew-turns round n 1 script.turns script.tables) 1 script.workers)

-- a round passes where its sessions and then its workers do
pub round-passes : (script : Script) (round : ℕ) (lines : List Line) (a b c : Reader) → Passes a b (session_part round lines script.sessions) → Passes b c (worker_part script round script.workers) → Passes a c (dues_in script round lines)
round-passes script round lines a b c h k =
    passes-append a b c (session_part round lines script.sessions) (worker_part script round script.workers) h k
    (parts-anew (λ worker. dues_to round (Worker worker) (flat_map (λ turn. turn_of script.tables) (range_with_len 1 script.turns))) (λ n. anew-turns round n 1 script.turns script.tables) 1 script.workers)

-- a round fails where its sessions do
pub round-fails-first : (script : Script) (round : ℕ) (lines : List Line) (a : Reader) (n : ℕ) → FailsAt a (session_part round lines script.sessions) n → FailsAt a (dues_in script round lines) n
round-fails-first script round lines a n h =
    fails-more a (session_part round lines script.sessions) (worker_part script round script.workers) n h
    (parts-anew (λ worker. dues_to round (Worker worker) (flat_map (λ turn. turn_of script.tables) (range_with_len 1 script.turns))) (λ n. anew-turns round n 1 script.turns script.tables) 1 script.workers)

-- a round fails where its workers do, behind sessions that passed
pub round-fails-then : (script : Script) (round : ℕ) (lines : List Line) (a b : Reader) (n : ℕ) → Passes a b (session_part round lines script.sessions) → FailsAt b (worker_part script round script.workers) n → FailsAt a (dues_in script round lines) n
round-fails-then script round lines a b n h k =
    passes-fails a b (session_part round lines script.sessions) (worker_part script round script.workers) n h k
    (parts-anew (λ worker. dues_to round (Worker worker) (flat_map (λ turn. turn_of script.tables) (range_with_len 1 script.turns))) (λ n. anew-turns round n 1 script.turns script.tables) 1 script.workers)

-- what is due in rounds that are counted from a number on
abbrev pub rounds_from : Script → ℕ → List (List Line) → List Due
rounds_from script first rounds = flat_map (λ entry. dues_in script entry.0 entry.1) (enumerate_from first rounds)

-- What is due in some rounds begins anew.
rounds-open : (script : Script) (first : ℕ) (rounds : List (List Line)) → OpensAnew (rounds_from script first rounds)
rounds-open script first [] = anew-none
rounds-open script first (lines ∷ rounds) = anew-append (dues_in script first lines) (rounds_from script (first + 1) rounds) (round-opens script first lines) (rounds-open script (first + 1) rounds)

-- What is due in rounds is due in the first of them and then in those behind.
rounds-append : (script : Script) (first : ℕ) (a b : List (List Line)) → rounds_from script first (a ++ b) ≡ rounds_from script first a ++ rounds_from script (first + length a) b
rounds-append script first [] b = ap (λ (n : ℕ). rounds_from script n b) (let e : first ≡ first + 0 = omega arith in e)
rounds-append script first (lines ∷ a) b =
    ap (λ (ds : List Due). dues_in script first lines ++ ds) (rounds-append script (first + 1) a b)
    ∙ sym (append_assoc (dues_in script first lines) (rounds_from script (first + 1) a) (rounds_from script (first + 1 + length a) b))
    ∙ ap (λ (n : ℕ). (dues_in script first lines ++ rounds_from script (first + 1) a) ++ rounds_from script n b) (let e : first + 1 + length a ≡ first + suc (length a) = omega arith in e)

-- Where the lines of all rounds are valid, so are those of one of them.
lines-valid : (script : Script) (rounds : List (List Line)) (i : ℕ) (d : List Line) → i < length rounds → list_all (is_line script) (flat_map (λ round. round) rounds) ≡ true → list_all (is_line script) (get_or rounds i d) ≡ true
lines-valid script [] i d few h = absurd (omega (arith, few))
lines-valid script (lines ∷ rounds) zero d few h = (and_parts (list_all (is_line script) lines) (list_all (is_line script) (flat_map (λ round. round) rounds)) (sym (list_all-append (is_line script) lines (flat_map (λ round. round) rounds)) ∙ h)).0
lines-valid script (lines ∷ rounds) (suc i) d few h =
    lines-valid script rounds i d (omega (arith, few)) (and_parts (list_all (is_line script) lines) (list_all (is_line script) (flat_map (λ round. round) rounds)) (sym (list_all-append (is_line script) lines (flat_map (λ round. round) rounds)) ∙ h)).1

-- the rounds so far were read
pub record RoundsOn (script : Script) (old cur : Reader) (within : List Bool) (number : ℕ) (so_far : List (List Line)) : Type 0 where
  pub tables : cur.tables.now ≡ old.tables.now
  pub stands : Stands script (number + 1) (Session 1) cur within
  pub passes : Passes old cur (rounds_from script 1 so_far)
  pub many : length so_far ≡ number

module _ (script : Script) (old cur : Reader) (within : List Bool) (i number : ℕ) (item : List Line) (few : i < length script.rounds) (is : item ≡ get_or script.rounds i item) (same : number ≡ i) (h : RoundsOn script old cur within number (take i script.rounds)) where
  -- the lines of a round of a valid script are valid
  pub item-lines : is_valid script ≡ true → list_all (is_line script) item ≡ true
  item-lines valid = ap (list_all (is_line script)) is ∙ lines-valid script script.rounds i item few (script-sound script valid).lines

  -- The rounds up to the next one are those so far and it.
  taken : take (i + 1) script.rounds ≡ take i script.rounds ++ item ∷ []
  taken = take_more script.rounds i item few ∙ ap (λ (l : List Line). take i script.rounds ++ l ∷ []) (sym is)

  -- What is due in the next round alone is what is due in it by its number.
  one : rounds_from script (1 + length (take i script.rounds)) (item ∷ []) ≡ dues_in script (number + 1) item
  one = append-nil (dues_in script (1 + length (take i script.rounds)) item) ∙ ap (λ (n : ℕ). dues_in script n item) (let m = h.many in let e : 1 + length (take i script.rounds) ≡ number + 1 = omega (arith, m) in e)

  -- a round that passed leaves one more round read
  pub rounds-next : (new : Reader) (after : List Bool) → new.tables.now ≡ cur.tables.now → Stands script (number + 1 + 1) (Session 1) new after → Passes cur new (dues_in script (number + 1) item) → RoundsOn script old new after (number + 1) (take (i + 1) script.rounds)
  rounds-next new after tables stands g = record {
    tables = tables ∙ h.tables;
    stands = stands;
    passes = subst (Passes old new) (sym (ap (rounds_from script 1) taken ∙ rounds-append script 1 (take i script.rounds) (item ∷ []) ∙ ap (λ (ds : List Due). rounds_from script 1 (take i script.rounds) ++ ds) one))
        (passes-append old cur new (rounds_from script 1 (take i script.rounds)) (dues_in script (number + 1) item) h.passes g (round-opens script (number + 1) item));
    many = ap (λ (ls : List (List Line)). length ls) taken ∙ length_push (take i script.rounds) item ∙ ap (λ (n : ℕ). n + 1) h.many;
  }

  -- where the next round fails, the script fails at that line
  pub rounds-fail : (line : ℕ) → FailsAt cur (dues_in script (number + 1) item) line → FailsAt old (dues_of script) line
  rounds-fail line f =
      let rest = rounds_from script (1 + length (take i script.rounds) + 1) (drop (i + 1) script.rounds) in
      let whole : script.rounds ≡ take i script.rounds ++ item ∷ drop (i + 1) script.rounds =
      sym (take-append-drop i script.rounds)
      ∙ ap (λ (ls : List (List Line)). take i script.rounds ++ ls) (drop-cons script.rounds i item few ∙ ap (λ (l : List Line). l ∷ drop (suc i) script.rounds) (sym is) ∙ ap (λ (n : ℕ). item ∷ drop n script.rounds) (let e : suc i ≡ i + 1 = omega arith in e)) in
      let number_is : 1 + length (take i script.rounds) ≡ number + 1 = (let m = h.many in omega (arith, m)) in
      subst (λ (ds : List Due). FailsAt old ds line)
      (sym (ap (rounds_from script 1) whole ∙ rounds-append script 1 (take i script.rounds) (item ∷ drop (i + 1) script.rounds)
      ∙ ap (λ (n : ℕ). rounds_from script 1 (take i script.rounds) ++ (dues_in script n item ++ rest)) number_is))
      (passes-fails old cur (rounds_from script 1 (take i script.rounds)) (dues_in script (number + 1) item ++ rest) line h.passes
      (fails-more cur (dues_in script (number + 1) item) rest line f (rounds-open script (1 + length (take i script.rounds) + 1) (drop (i + 1) script.rounds)))
      (anew-append (dues_in script (number + 1) item) rest (round-opens script (number + 1) item) (rounds-open script (1 + length (take i script.rounds) + 1) (drop (i + 1) script.rounds))))
