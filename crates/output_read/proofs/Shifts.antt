-- A worker's turn, and its turns, one line after the other.
use Rattle.std.proofs.Common.{◌≡◌, ℕ, ◌+◌, ◌-◌, ◌^◌, ◌<◌, true, List, [], ◌∷◌, ◌++◌, length, refl, sym, ap, ◌∙◌, subst, arith, suc, zero, append-nil, append_assoc}
use Rattle.std.specs.List.{flat_map, range_with_len}
use Rattle.cell_model.specs.declared.table.TableDecl.{TableDecl}
use Rattle.workload_spec.specs.declared.command.Command.{Command}
use Rattle.workload_spec.specs.declared.command.Command.TheVariants as command
use Rattle.workload_spec.specs.declared.reply.Who.TheVariants.{Worker}
use Rattle.workload_spec.specs.Valid.{is_table_place}
use Rattle.outcome_spec.specs.Forms.{Due, dues_to, turn_of}
use Rattle.output_read.specs.declared.reader.Reader.{Reader}
use Rattle.output_read.specs.declared.workers.Shift.{Shift}
use Rattle.output_read.specs.Order.{AddsAll, are_ahead}
use Rattle.output_read.specs.Readers.{IsReading, Passes, PassesAll, FailsAll, FailsAt, read_by, reads}
use Rattle.output_read.specs.Work.{IsFew, IsShift, ShiftGoes, StepRead, WorkGoes, steps_behind, turns_of, work_dues}
use Rattle.output_read.proofs.Passing.{OpensAnew, adds-append, adds-none, dues-more, first-index, passes-none, passes-append, passes-fails, fails-more}

-- there is a first table
pub first-place : (T : List TableDecl) → 0 < length T → is_table_place T 0 ≡ true
first-place [] some = absurd (omega (arith, some))
first-place (t ∷ T) some = refl

-- What steps have due is the same for shifts of one round and one worker.
moved-dues : (s t : Shift) (steps : List Command) → t.round ≡ s.round → t.worker ≡ s.worker → work_dues t steps ≡ work_dues s steps
moved-dues s t steps r w = ap (λ (n : ℕ). dues_to n (Worker t.worker) steps) r ∙ ap (λ (n : ℕ). dues_to s.round (Worker n) steps) w

-- Replies that were added to a shift's worker are added for shifts of one round and worker.
moved-adds : (a b : Reader) (s t : Shift) → t.round ≡ s.round → t.worker ≡ s.worker → AddsAll a b t.round (Worker t.worker) → AddsAll a b s.round (Worker s.worker)
moved-adds a b s t r w h = subst (λ (n : ℕ). AddsAll a b s.round (Worker n)) w (subst (λ (n : ℕ). AddsAll a b n (Worker t.worker)) r h)

-- what was read so far of a turn, whatever the rest
pub record Partly (old cur : Reader) (begun shift : Shift) (steps : List Command) : Type 0 where
  pub tables : cur.tables.now ≡ old.tables.now
  pub reading : IsReading cur
  pub shift_is : IsShift shift cur
  pub round : shift.round ≡ begun.round
  pub worker : shift.worker ≡ begun.worker
  pub passes : PassesAll old cur (work_dues begun steps)
  pub adds : AddsAll old cur begun.round (Worker begun.worker)

-- before its first step nothing of a turn was read
pub partly-none : (old : Reader) (begun : Shift) → IsReading old → IsShift begun old → Partly old old begun begun []
partly-none old begun reading is = record { tables = refl; reading = reading; shift_is = is; round = refl; worker = refl; passes = λ dues. refl; adds = adds-none old begun.round (Worker begun.worker) }

module _ (old cur : Reader) (begun shift : Shift) (steps : List Command) (h : Partly old cur begun shift steps) where
  -- What a turn reads from its start on is what its rest reads from where it was read to.
  joined : (more : List Command) (dues : List Due) → reads old (work_dues begun (steps ++ more) ++ dues) ≡ reads cur (work_dues shift more ++ dues)
  joined more dues =
      ap (λ (ds : List Due). reads old (ds ++ dues)) (dues-more begun.round (Worker begun.worker) steps more)
      ∙ ap (reads old) (append_assoc (work_dues begun steps) (work_dues begun more) dues)
      ∙ h.passes (work_dues begun more ++ dues)
      ∙ ap (λ (ds : List Due). reads cur (ds ++ dues)) (sym (moved-dues begun shift more h.round h.worker))

  -- one step of a turn more was read
  pub partly-more : (new : Reader) (after : Shift) (asked : Command) → new.tables.now ≡ cur.tables.now → StepRead cur new shift after asked → Partly old new begun after (steps ++ asked ∷ [])
  partly-more new after asked tables g = record {
    tables = tables ∙ h.tables;
    reading = g.reading;
    shift_is = g.shift_on;
    round = g.round ∙ h.round;
    worker = g.worker ∙ h.worker;
    passes = λ dues. joined (asked ∷ []) dues ∙ g.passes dues;
    adds = adds-append old cur new begun.round (Worker begun.worker) h.adds (moved-adds cur new begun shift h.round h.worker g.adds);
  }

  -- where the next step fails, the turn fails there, whatever steps follow
  pub partly-fails : (asked : Command) (more : List Command) (n : ℕ) → FailsAll cur (work_dues shift (asked ∷ [])) n → FailsAt old (work_dues begun (steps ++ asked ∷ more)) n
  partly-fails asked more n f dues anew = joined (asked ∷ more) dues ∙ f (work_dues shift more ++ dues)

  -- a turn whose first steps were read is read where the rest of it is
  pub partly-ends : (new : Reader) (after : Shift) (more : List Command) → ShiftGoes cur new shift after (work_dues shift more) → ShiftGoes old new begun after (work_dues begun (steps ++ more))
  partly-ends new after more g = record {
    reading = g.reading;
    shift_on = g.shift_on;
    round = g.round ∙ h.round;
    worker = g.worker ∙ h.worker;
    passes = λ dues anew. joined more dues ∙ g.passes dues anew;
    adds = adds-append old cur new begun.round (Worker begun.worker) h.adds (moved-adds cur new begun shift h.round h.worker g.adds);
  }

  -- a turn whose first steps were read fails where the rest of it does
  pub partly-lacks : (more : List Command) (n : ℕ) → FailsAt cur (work_dues shift more) n → FailsAt old (work_dues begun (steps ++ more)) n
  partly-lacks more n f dues anew = joined more dues ∙ f dues anew

-- the first steps of a turn
abbrev pub three : List Command
three = command.Observe ∷ command.Prune ∷ command.Compact 0 ∷ []

-- a turn is its first three steps and those behind them
pub turn-steps : (T : List TableDecl) → 0 < length T → three ++ steps_behind T ≡ turn_of T
turn-steps [] some = absurd (omega (arith, some))
turn-steps (t ∷ T) some = refl

-- ---- turn after turn

-- The steps of one turn more stand behind those of the turns so far.
turns-more : (T : List TableDecl) (first n : ℕ) → flat_map (λ (turn : ℕ). turn_of T) (range_with_len first (n + 1)) ≡ flat_map (λ (turn : ℕ). turn_of T) (range_with_len first n) ++ turn_of T
turns-more T first zero = append-nil (turn_of T)
turns-more T first (suc n) =
    ap (λ (k : ℕ). flat_map (λ (turn : ℕ). turn_of T) (range_with_len first k)) (let e : suc n + 1 ≡ suc (n + 1) = omega arith in e)
    ∙ ap (λ (cs : List Command). turn_of T ++ cs) (turns-more T (first + 1) n) ∙ sym (append_assoc (turn_of T) (flat_map (λ (turn : ℕ). turn_of T) (range_with_len (first + 1) n)) (turn_of T))

-- what is due to a worker in turns begins anew
pub anew-turns : (round worker first n : ℕ) (T : List TableDecl) → OpensAnew (dues_to round (Worker worker) (flat_map (λ (turn : ℕ). turn_of T) (range_with_len first n)))
anew-turns round worker first zero T rest anew = anew
anew-turns round worker first (suc n) T rest anew = refl

-- The steps of turns are those of the first so many and then of the others.
turns-split : (T : List TableDecl) (first n k : ℕ) → flat_map (λ (turn : ℕ). turn_of T) (range_with_len first (n + k)) ≡ flat_map (λ (turn : ℕ). turn_of T) (range_with_len first n) ++ flat_map (λ (turn : ℕ). turn_of T) (range_with_len (first + n) k)
turns-split T first zero k =
    ap (λ (m : ℕ). flat_map (λ (turn : ℕ). turn_of T) (range_with_len first m)) (let e : 0 + k ≡ k = omega arith in e)
    ∙ ap (λ (m : ℕ). flat_map (λ (turn : ℕ). turn_of T) (range_with_len m k)) (let e : first ≡ first + 0 = omega arith in e)
turns-split T first (suc n) k =
    ap (λ (m : ℕ). flat_map (λ (turn : ℕ). turn_of T) (range_with_len first m)) (let e : suc n + k ≡ suc (n + k) = omega arith in e)
    ∙ ap (λ (cs : List Command). turn_of T ++ cs) (turns-split T (first + 1) n k)
    ∙ sym (append_assoc (turn_of T) (flat_map (λ (turn : ℕ). turn_of T) (range_with_len (first + 1) n)) (flat_map (λ (turn : ℕ). turn_of T) (range_with_len (first + 1 + n) k)))
    ∙ ap (λ (m : ℕ). flat_map (λ (turn : ℕ). turn_of T) (range_with_len first (suc n)) ++ flat_map (λ (turn : ℕ). turn_of T) (range_with_len m k)) (let e : first + 1 + n ≡ first + suc n = omega arith in e)

pub record Turned (old cur : Reader) (round worker : ℕ) (shift : Shift) (turns : ℕ) : Type 0 where
  pub tables : cur.tables.now ≡ old.tables.now
  pub reading : IsReading cur
  pub shift_is : IsShift shift cur
  pub round_is : shift.round ≡ round
  pub worker_is : shift.worker ≡ worker
  pub passes : Passes old cur (dues_to round (Worker worker) (turns_of turns old.tables.now))
  pub adds : AddsAll old cur round (Worker worker)

-- before its first turn nothing of a worker's round was read
pub turned-start : (old : Reader) (round worker : ℕ) → round < 2 ^ 32 → worker < 2 ^ 32 → IsReading old → are_ahead round (Worker worker) (read_by old) ≡ true
    → Turned old old round worker (record { round = round; worker = worker; index = 0 }) 0
turned-start old round worker a b reading ahead = record {
  tables = refl;
  reading = reading;
  shift_is = record { round = a; worker = b; index = first-index round (Worker worker) (read_by old) ahead };
  round_is = refl;
  worker_is = refl;
  passes = passes-none old;
  adds = adds-none old round (Worker worker);
}

module _ (old cur : Reader) (round worker : ℕ) (shift : Shift) (turns : ℕ) (h : Turned old cur round worker shift turns) where
  -- What a turn has due from the shift on is due to the worker in the round.
  turn-dues : work_dues shift (turn_of cur.tables.now) ≡ dues_to round (Worker worker) (turn_of old.tables.now)
  turn-dues =
      ap (λ (ts : List TableDecl). work_dues shift (turn_of ts)) h.tables ∙ ap (λ (n : ℕ). dues_to n (Worker shift.worker) (turn_of old.tables.now)) h.round_is
      ∙ ap (λ (n : ℕ). dues_to round (Worker n) (turn_of old.tables.now)) h.worker_is

  -- one turn more of a worker was read
  pub turned-more : (new : Reader) (after : Shift) → new.tables.now ≡ cur.tables.now → ShiftGoes cur new shift after (work_dues shift (turn_of cur.tables.now)) → Turned old new round worker after (turns + 1)
  turned-more new after tables g = record {
    tables = tables ∙ h.tables;
    reading = g.reading;
    shift_is = g.shift_on;
    round_is = g.round ∙ h.round_is;
    worker_is = g.worker ∙ h.worker_is;
    passes = subst (Passes old new) (sym (ap (dues_to round (Worker worker)) (turns-more old.tables.now 1 turns) ∙ dues-more round (Worker worker) (turns_of turns old.tables.now) (turn_of old.tables.now)))
        (passes-append old cur new (dues_to round (Worker worker) (turns_of turns old.tables.now)) (dues_to round (Worker worker) (turn_of old.tables.now)) h.passes (subst (Passes cur new) turn-dues g.passes) (λ rest anew. refl));
    adds = adds-append old cur new round (Worker worker) h.adds
        (subst (λ (n : ℕ). AddsAll cur new round (Worker n)) h.worker_is (subst (λ (n : ℕ). AddsAll cur new n (Worker shift.worker)) h.round_is g.adds));
  }

  -- where the next turn fails, the worker's turns fail there
  pub turned-fails : (many : ℕ) → turns < many → (n : ℕ) → FailsAt cur (work_dues shift (turn_of cur.tables.now)) n → FailsAt old (dues_to round (Worker worker) (turns_of many old.tables.now)) n
  turned-fails many few n f =
      let T = old.tables.now in
      let more = flat_map (λ (turn : ℕ). turn_of T) (range_with_len (1 + turns + 1) (many - (turns + 1))) in
      let whole : turns_of many T ≡ turns_of turns T ++ (turn_of T ++ more) =
      ap (λ (k : ℕ). turns_of k T) (let e : many ≡ turns + (1 + (many - (turns + 1))) = omega (arith, few) in e)
      ∙ turns-split T 1 turns (1 + (many - (turns + 1)))
      ∙ ap (λ (k : ℕ). turns_of turns T ++ flat_map (λ (turn : ℕ). turn_of T) (range_with_len (1 + turns) k)) (let e : 1 + (many - (turns + 1)) ≡ suc (many - (turns + 1)) = omega arith in e) in
      subst (λ (ds : List Due). FailsAt old ds n)
      (sym (ap (dues_to round (Worker worker)) whole ∙ dues-more round (Worker worker) (turns_of turns T) (turn_of T ++ more)
      ∙ ap (λ (ds : List Due). dues_to round (Worker worker) (turns_of turns T) ++ ds) (dues-more round (Worker worker) (turn_of T) more)))
      (passes-fails old cur (dues_to round (Worker worker) (turns_of turns T)) (dues_to round (Worker worker) (turn_of T) ++ dues_to round (Worker worker) more) n h.passes
      (fails-more cur (dues_to round (Worker worker) (turn_of T)) (dues_to round (Worker worker) more) n (subst (λ (ds : List Due). FailsAt cur ds n) turn-dues f)
      (anew-turns round worker (1 + turns + 1) (many - (turns + 1)) T))
      (λ rest anew. refl))

  -- behind all its turns, what was due to the worker in the round was read
  pub turned-ends : WorkGoes old cur round worker (turns_of turns old.tables.now)
  turned-ends = record { reading = h.reading; passes = h.passes; adds = h.adds }

  -- the tables are still valid behind some turns
  pub asks-tables : Rattle.reply_text.specs.Shown.are_tables old.tables.now ≡ true → Rattle.reply_text.specs.Shown.are_tables cur.tables.now ≡ true
  asks-tables are = subst (λ (ts : List TableDecl). Rattle.reply_text.specs.Shown.are_tables ts ≡ true) (sym h.tables) are

  -- there are still few tables behind some turns
  pub asks-few : IsFew (length old.tables.now) → IsFew (length cur.tables.now)
  asks-few few = subst (λ (ts : List TableDecl). IsFew (length ts)) (sym h.tables) few
