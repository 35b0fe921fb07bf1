-- What is generated are lines of the workload, and exports stand in the last round alone.
use Rattle.std.proofs.Common.{◌≡◌, ℕ, ◌+◌, ◌*◌, ◌-◌, ◌/◌, ◌%◌, ◌^◌, ◌<◌, ◌≤◌, zero, suc, Bool, true, false, List, [], ◌∷◌, ◌++◌, length, refl, sym, ap, ap₂, ◌∙◌, subst, arith, length-append}
use Rattle.std.specs.Prelude.{◌&&◌, ◌==◌, count_by, flat_map, nat_le, nat_lt, if◌then◌else◌}
use Rattle.std.specs.List.{list_all, range_with_len}
use Rattle.std.proofs.lemmas.Bool.{le-leb, lt-ltb}
use Rattle.std.proofs.lemmas.List.Concat.{flat_map-append}
use Rattle.std.proofs.lemmas.List.Folds.{list_all-append}
use Rattle.std.proofs.lemmas.List.Sums.{sum_by-append}
use Rattle.std.proofs.lemmas.Nat.{mod_below}
use Rattle.cell_model.specs.declared.cell.Cell.{Cell}
use Rattle.cell_model.specs.Rows.{fits}
use Rattle.workload_spec.specs.declared.command.Command.TheVariants as command
use Rattle.workload_spec.specs.declared.script.Line.{Line}
use Rattle.workload_spec.specs.declared.script.Script.{Script}
use Rattle.workload_spec.specs.Valid.{has_head, is_export, is_line, is_valid, is_within}
use Rattle.bench_spec.specs.Generated.{bench_columns, bench_script, draw_in, freezing, generated, key_of, last_round, line, rounds_at, row_of, transaction, updated_key, upkeep_round, write_round}
use Rattle.bench_script.proofs.Fits.{draw_small, row_fits}

-- the head, which all of them have
abbrev bench : Script
bench = bench_script []

-- The command of the line is an export.
abbrev exports : Line → Bool
exports l = is_export l.command

-- These are lines of the workload, and none of them exports.
pub record IsFine (lines : List Line) : Type 0 where
  pub own : list_all (is_line bench) lines ≡ true
  pub none : count_by exports lines ≡ 0

-- Where there are no lines, all are of the workload, and none exports.
fine_none : IsFine []
fine_none = record { own = refl; none = refl }

-- Two lists of lines of the workload without exports are one together.
fine_append : (xs ys : List Line) → IsFine xs → IsFine ys → IsFine (xs ++ ys)
fine_append xs ys first second = record {
  own = list_all-append (is_line bench) xs ys ∙ ap₂ (λ (a b : Bool). a && b) first.own second.own;
  none = sum_by-append _ xs ys ∙ ap₂ (λ (a b : ℕ). a + b) first.none second.none;
}

-- One line of the workload more that is no export leaves lines without exports.
fine_more : (l : Line) (lines : List Line) → is_line bench l ≡ true → is_export l.command ≡ false → IsFine lines → IsFine (l ∷ lines)
fine_more l lines own none others = fine_append (l ∷ []) lines (record { own = ap (λ (b : Bool). b && true) own; none = ap (λ (b : Bool). 0 + (if b then 1 else 0)) none }) others

-- what is made of each of some numbers
fine_each : (f : ℕ → List Line) (a n : ℕ) → ((k : ℕ) → a ≤ k → k < a + n → IsFine (f k)) → IsFine (flat_map f (range_with_len a n))
fine_each f a zero each = fine_none
fine_each f a (suc n) each = fine_append (f a) (flat_map f (range_with_len (a + 1) n)) (each a (omega arith) (omega arith))
    (fine_each f (a + 1) n (λ k low high. each k (omega (arith, low)) (omega (arith, high))))

-- a line that changes a row
row_own : (session : ℕ) (row : List Cell) → is_within 1 4 session ≡ true → fits bench_columns row ≡ true → (is_within 1 4 session && fits bench_columns row && true) ≡ true
row_own session row within fit = ap₂ (λ (a b : Bool). a && b && true) within fit

-- the key that a session inserts in a round fits 63 bits
pub key_few : (round session : ℕ) → round ≤ 4096 → session ≤ 4 → key_of round session < 2 ^ 63
key_few round session few small = omega (arith, few, small)

-- the key that it updates does too
pub old_key_few : (round session drawn : ℕ) → 0 < round → round ≤ 4096 → session ≤ 4 → updated_key round session drawn < 2 ^ 63
old_key_few round session drawn some few small = below (drawn % round) (mod_below drawn round some)
  where
    below : (m : ℕ) → m < round → 4 * m + session < 2 ^ 63
    below m less = omega (arith, less, few, small)

-- a draw fits 31 bits
pub draw_few : (seed round session number : ℕ) → 0 < number → draw_in seed round session number < 2 ^ 31
draw_few seed round session number some = draw_small seed (5 * (key_of round session - 1) + number) (omega (arith, some))

-- The lines of a transaction are of the workload, and none of them exports.
transaction_fine : (seed round session : ℕ) → 0 < round → round ≤ 4096 → is_within 1 4 session ≡ true → session ≤ 4 → IsFine (transaction seed round session)
transaction_fine seed round session some few within small =
    let begins : (is_within 1 4 session && true && true) ≡ true = ap (λ (b : Bool). b && true && true) within in
    let inserts = row_fits (key_of round session) (draw_in seed round session 1) (draw_in seed round session 2) (key_few round session few small) (draw_few seed round session 2 (omega arith)) in
    let updates = row_fits (updated_key round session (draw_in seed round session 3)) (draw_in seed round session 4) (draw_in seed round session 5)
    (old_key_few round session (draw_in seed round session 3) some few small) (draw_few seed round session 5 (omega arith)) in
    fine_more (line session (command.Begin false)) _ begins refl
    (fine_more (line session (command.Insert 0 _)) _ (row_own session (row_of (key_of round session) (draw_in seed round session 1) (draw_in seed round session 2)) within inserts) refl
    (fine_more (line session (command.Update 0 _)) _ (row_own session (row_of (updated_key round session (draw_in seed round session 3)) (draw_in seed round session 4) (draw_in seed round session 5)) within updates) refl
    (fine_more (line session command.Commit) [] begins refl fine_none)))

-- The lines of a write round are of the workload, and none of them exports.
writes_fine : (seed round : ℕ) → 0 < round → round ≤ 4096 → IsFine (write_round seed round)
writes_fine seed round some few = fine_each (transaction seed round) 1 4 (λ q low high.
    transaction_fine seed round q some few (ap₂ (λ (a b : Bool). a && b) (le-leb 1 q low) (le-leb q 4 (omega (arith, high)))) (omega (arith, high)))

-- The lines that freeze a block are of the workload, and none of them exports.
freezing_fine : (block : ℕ) → block < 512 → IsFine (freezing block)
freezing_fine block few =
    let own : (nat_lt block 512 && true) ≡ true = ap (λ (b : Bool). b && true) (lt-ltb block 512 few) in
    fine_more (line 1 (command.Seal 0 block)) _ own refl (fine_more (line 1 (command.Gather 0 block)) [] own refl fine_none)

-- The lines of a round of upkeep are of the workload, and none of them exports.
upkeep_fine : (round : ℕ) → round ≤ 4096 → IsFine (upkeep_round round)
upkeep_fine round few = fine_more (line 1 command.Prune) _ refl refl (fine_more (line 1 command.Observe) _ refl refl
    (fine_more (line 1 command.Observe) _ refl refl (fine_more (line 1 (command.Compact 0)) _ refl refl
    (fine_each freezing 0 (4 * round / 64 + 1) (λ b low high. freezing_fine b (omega (arith, few, high)))))))

-- all lines of rounds
abbrev lines_in : List (List Line) → List Line
lines_in rounds = flat_map (λ round. round) rounds

-- The lines of two lists of rounds are those of the one, then of the other.
lines_append : (xs ys : List (List Line)) → lines_in (xs ++ ys) ≡ lines_in xs ++ lines_in ys
lines_append xs ys = flat_map-append (λ (round : List Line). round) xs ys

-- The rounds of one number are lines of the workload, and none of them exports.
at_fine : (seed round : ℕ) → 0 < round → round ≤ 4096 → IsFine (lines_in (rounds_at seed round))
at_fine seed round some few = by (round % 16 == 0)
  where
    by : (b : Bool) → IsFine (lines_in (write_round seed round ∷ (if b then upkeep_round round ∷ [] else [])))
    by true = fine_append (write_round seed round) _ (writes_fine seed round some few) (fine_append (upkeep_round round) [] (upkeep_fine round few) fine_none)
    by false = fine_append (write_round seed round) [] (writes_fine seed round some few) fine_none

-- The rounds of successive numbers are lines of the workload, and none of them exports.
rounds_fine : (seed a n : ℕ) → 0 < a → a + n ≤ 4097 → IsFine (lines_in (flat_map (rounds_at seed) (range_with_len a n)))
rounds_fine seed a zero some few = fine_none
rounds_fine seed a (suc n) some few =
    let others = flat_map (rounds_at seed) (range_with_len (a + 1) n) in
    subst IsFine (sym (lines_append (rounds_at seed a) others))
    (fine_append (lines_in (rounds_at seed a)) (lines_in others) (at_fine seed a some (omega (arith, few))) (rounds_fine seed (a + 1) n (omega arith) (omega (arith, few))))

-- Four that are true make a conjunction that is true.
all_true : (a b c d : Bool) → a ≡ true → b ≡ true → c ≡ true → d ≡ true → (a && b && c && d) ≡ true
all_true a b c d first second third fourth = rw (first, second, third, fourth) refl

-- the head, a round at least, own lines, and one export
pub generated_valid : (seed size : ℕ) → size ≤ 4096 → is_valid (generated seed size) ≡ true
generated_valid seed size few =
    let rounds = flat_map (rounds_at seed) (range_with_len 1 size) in
    let fine = rounds_fine seed 1 size (omega arith) (omega (arith, few)) in
    let split : lines_in (rounds ++ last_round ∷ []) ≡ lines_in rounds ++ last_round = lines_append rounds (last_round ∷ []) in
    let many : 0 < length (rounds ++ last_round ∷ []) = omega (arith, length-append rounds (last_round ∷ [])) in
    let own : list_all (is_line bench) (lines_in (rounds ++ last_round ∷ [])) ≡ true =
    ap (list_all (is_line bench)) split ∙ list_all-append (is_line bench) (lines_in rounds) last_round ∙ ap (λ (b : Bool). b && true) fine.own in
    let one : count_by exports (lines_in (rounds ++ last_round ∷ [])) ≡ 1 =
    ap (count_by exports) split ∙ sum_by-append (λ (l : Line). if exports l then 1 else 0) (lines_in rounds) last_round ∙ ap (λ (n : ℕ). n + 1) fine.none in
    all_true (has_head bench) (nat_lt 0 (length (rounds ++ last_round ∷ []))) (list_all (is_line bench) (lines_in (rounds ++ last_round ∷ []))) (nat_le (count_by exports (lines_in (rounds ++ last_round ∷ []))) 1)
    refl (lt-ltb 0 (length (rounds ++ last_round ∷ [])) many) own (ap (λ (n : ℕ). nat_le n 1) one)
