-- The front of a workload is one.
use Rattle.std.proofs.Common.{◌≡◌, ℕ, zero, suc, ◌+◌, ◌-◌, ◌<◌, ◌≤◌, nat_le, nat_lt, Bool, true, false, cond, ◌&&◌, ◌==◌, List, [], ◌∷◌, ◌++◌, map, take, drop, length, None, Some, refl, sym, ap, ◌∙◌, subst, append-nil, append_assoc, arith}
use Rattle.std.specs.List.{cons_option, count_by, flat_map, list_all}
use Rattle.std.proofs.lemmas.List.{length_push, take-append-drop, take-map}
use Rattle.std.proofs.lemmas.Bool.{and_from, and_parts, le-leb, leb-true, lt-ltb}
use Rattle.std.proofs.lemmas.Bool.Decides.{nat_tests}
use Rattle.std.proofs.lemmas.Grind.{flat_map-append}
use Rattle.std.proofs.lemmas.List.Folds.{list_all-append}
use Rattle.std.proofs.lemmas.List.Sums.{sum_by-append, sum_by-cons}
use Rattle.outcome_spec.specs.Forms.{commands_of}
use Rattle.workload_spec.specs.Valid.{all_lines, has_head, is_export, is_line, is_valid}
use Rattle.workload_spec.specs.declared.command.Command.{Command}
use Rattle.workload_spec.specs.declared.script.Line.{Line}
use Rattle.workload_spec.specs.declared.script.Script.{Script}
use Rattle.run_laws.specs.Rounds.Fronts.{FirstLinesAreSo, FirstLinesAsk, FirstRoundsAreValid, FrontsAreValid, first_lines, lines_of, one_less, with_rounds}

-- ---- first lines

-- Of a list nothing is taken where none are to be.
nothing_taken : {X : Type 0} (xs : List X) → take 0 xs ≡ []
nothing_taken [] = refl
nothing_taken (x ∷ xs) = refl

-- a line that is kept, of the session or of another
one_kept : (line : Line) (kept lines : List Line) (count less : ℕ) (own : Bool)
    → (own ≡ true → 0 < count) → less ≡ cond own (count - 1) count
    → kept ≡ take less lines
    → cond own (line ∷ kept) kept ≡ take count (cond own (line ∷ lines) lines)
one_kept line kept lines zero less true some is first = absurd (let low : 0 < 0 = some refl in omega (arith, low))
one_kept line kept lines (suc count) less true some is first =
    ap (λ ls. line ∷ ls) (first ∙ ap (λ n. take n lines) (let e : less ≡ count = omega (arith, is) in e))
one_kept line kept lines count less false some is first = first ∙ ap (λ n. take n lines) is

-- a line that is not
one_left : (line : Line) (kept lines : List Line) (count : ℕ) (own : Bool)
    → (own ≡ true → count ≡ 0) → kept ≡ take count lines
    → kept ≡ take count (cond own (line ∷ lines) lines)
one_left line kept lines zero true none first = first ∙ nothing_taken lines
one_left line kept lines (suc count) true none first = absurd (let no : suc count ≡ 0 = none refl in omega (arith, no))
one_left line kept lines count false none first = first

-- A session's lines among the first lines are its first so many.
first_are : (session : ℕ) (counts : ℕ → ℕ) (lines : List Line)
    → lines_of session (first_lines counts lines) ≡ take (counts session) (lines_of session lines)
first_are session counts [] = nothing (counts session)
  where
    nothing : (n : ℕ) → [] ≡ take n (lines_of session [])
    nothing zero = refl
    nothing (suc n) = refl
first_are session counts (line ∷ lines) =
    go (nat_lt 0 (counts line.session)) refl (first_are session (one_less line.session counts) lines) (first_are session counts lines)
  where
    own_is : (line.session == session) ≡ true → line.session ≡ session
    own_is e = grind (arith, nat_tests, e)

    go : (here : Bool) → nat_lt 0 (counts line.session) ≡ here
        → lines_of session (first_lines (one_less line.session counts) lines) ≡ take (one_less line.session counts session) (lines_of session lines)
        → lines_of session (first_lines counts lines) ≡ take (counts session) (lines_of session lines)
        → lines_of session (cond here (line ∷ first_lines (one_less line.session counts) lines) (first_lines counts lines))
        ≡ take (counts session) (lines_of session (line ∷ lines))
    go true e kept left = one_kept line
        (lines_of session (first_lines (one_less line.session counts) lines)) (lines_of session lines)
        (counts session) (one_less line.session counts session) (line.session == session)
        (λ own. subst (λ n. 0 < counts n) (own_is own) (let low : 0 < counts line.session = grind (arith, nat_tests, e) in low))
        refl
        kept
    go false e kept left = one_left line
        (lines_of session (first_lines counts lines)) (lines_of session lines)
        (counts session) (line.session == session)
        (λ own. subst (λ n. counts n ≡ 0) (own_is own) (let none : counts line.session ≡ 0 = grind (arith, nat_tests, e) in none))
        left

-- The first lines of a round are the first of each session.
pub first_lines_are_so : FirstLinesAreSo
first_lines_are_so counts lines session = (
  drop (counts session) (lines_of session lines),
  sym (ap (λ ls. ls ++ drop (counts session) (lines_of session lines)) (first_are session counts lines)
      ∙ take-append-drop (counts session) (lines_of session lines)),
)

-- The commands of a session are those of its lines.
asked_of : (session : ℕ) (lines : List Line)
    → commands_of session lines ≡ map (λ (line : Line). line.command) (lines_of session lines)
asked_of session [] = refl
asked_of session (line ∷ lines) = go (line.session == session) (asked_of session lines)
  where
    go : (own : Bool)
        → commands_of session lines ≡ map (λ (line : Line). line.command) (lines_of session lines)
        → cons_option (cond own (Some line.command) None) (commands_of session lines)
        ≡ map (λ (line : Line). line.command) (cond own (line ∷ lines_of session lines) (lines_of session lines))
    go true rest = ap (λ (cs : List Command). line.command ∷ cs) rest
    go false rest = rest

-- They ask each session its first so many commands.
pub first_lines_ask : FirstLinesAsk
first_lines_ask counts lines session =
    asked_of session (first_lines counts lines)
    ∙ ap (map (λ (line : Line). line.command)) (first_are session counts lines)
    ∙ sym (take-map (λ (line : Line). line.command) (counts session) (lines_of session lines))
    ∙ ap (take (counts session)) (sym (asked_of session lines))

-- ---- workloads

-- what a list's lines pass, the kept ones pass
kept_pass : (test : Line → Bool) (counts : ℕ → ℕ) (lines : List Line)
    → list_all test lines ≡ true → list_all test (first_lines counts lines) ≡ true
kept_pass test counts [] all = refl
kept_pass test counts (line ∷ lines) all =
    let parts = and_parts (test line) (list_all test lines) all in
    go (nat_lt 0 (counts line.session)) parts.0 (kept_pass test (one_less line.session counts) lines parts.1) (kept_pass test counts lines parts.1)
  where
    go : (here : Bool) → test line ≡ true
        → list_all test (first_lines (one_less line.session counts) lines) ≡ true
        → list_all test (first_lines counts lines) ≡ true
        → list_all test (cond here (line ∷ first_lines (one_less line.session counts) lines) (first_lines counts lines)) ≡ true
    go true passes kept left = and_from (test line) (list_all test (first_lines (one_less line.session counts) lines)) passes kept
    go false passes kept left = left

-- A line counts as one where it passes the test, and else as none.
abbrev counts_one : (Line → Bool) → Line → ℕ
counts_one test line = cond (test line) 1 0

-- and no more of the kept lines pass than of all
kept_few : (test : Line → Bool) (counts : ℕ → ℕ) (lines : List Line)
    → count_by test (first_lines counts lines) ≤ count_by test lines
kept_few test counts [] = omega arith
kept_few test counts (line ∷ lines) = go (nat_lt 0 (counts line.session))
    (kept_few test (one_less line.session counts) lines) (kept_few test counts lines)
  where
    go : (here : Bool)
        → count_by test (first_lines (one_less line.session counts) lines) ≤ count_by test lines
        → count_by test (first_lines counts lines) ≤ count_by test lines
        → count_by test (cond here (line ∷ first_lines (one_less line.session counts) lines) (first_lines counts lines))
        ≤ count_by test (line ∷ lines)
    go true kept left =
        let all : count_by test (line ∷ lines) ≡ counts_one test line + count_by test lines = sum_by-cons (counts_one test) line lines in
        let some : count_by test (line ∷ first_lines (one_less line.session counts) lines) ≡ counts_one test line + count_by test (first_lines (one_less line.session counts) lines) =
        sum_by-cons (counts_one test) line (first_lines (one_less line.session counts) lines) in
        let low : count_by test (line ∷ first_lines (one_less line.session counts) lines) ≤ count_by test (line ∷ lines) = omega (arith, all, some, kept) in
        low
    go false kept left =
        let all : count_by test (line ∷ lines) ≡ counts_one test line + count_by test lines = sum_by-cons (counts_one test) line lines in
        let low : count_by test (first_lines counts lines) ≤ count_by test (line ∷ lines) = omega (arith, all, left) in
        low

-- The lines of rounds, one round behind the other.
abbrev lines_in : List (List Line) → List Line
lines_in rounds = flat_map (λ (round : List Line). round) rounds

-- The line is an export.
abbrev is_sent : Line → Bool
is_sent line = is_export line.command

-- the parts of what is asked of a workload
record IsWorkload (script : Script) (rounds : List (List Line)) : Type 0 where
  head : has_head script ≡ true
  some : 0 < length rounds
  lines : list_all (is_line script) (lines_in rounds) ≡ true
  once : count_by is_sent (lines_in rounds) ≤ 1

-- A workload that is valid has what is asked of its head, its rounds and its lines.
parted : (script : Script) → is_valid script ≡ true → IsWorkload script script.rounds
parted script valid =
    let head : Bool = has_head script in
    let some : Bool = nat_lt 0 (length script.rounds) in
    let lines : Bool = list_all (is_line script) (all_lines script) in
    let once : Bool = nat_le (count_by is_sent (all_lines script)) 1 in
    let three = and_parts (head && some && lines) once valid in
    let two = and_parts (head && some) lines three.0 in
    let one = and_parts head some two.0 in
    record {
      head = one.0;
      some = let is = one.1 in grind (arith, nat_tests, is);
      lines = two.1;
      once = leb-true (count_by is_sent (all_lines script)) 1 three.1;
    }

-- What is asked of a head and of rounds makes a valid workload.
joined : (script : Script) (rounds : List (List Line)) → IsWorkload script rounds → is_valid (with_rounds rounds script) ≡ true
joined script rounds is =
    let head : Bool = has_head script in
    let some : Bool = nat_lt 0 (length rounds) in
    let lines : Bool = list_all (is_line script) (lines_in rounds) in
    let once : Bool = nat_le (count_by is_sent (lines_in rounds)) 1 in
    and_from (head && some && lines) once
    (and_from (head && some) lines (and_from head some is.head (lt-ltb 0 (length rounds) is.some)) is.lines)
    (le-leb (count_by is_sent (lines_in rounds)) 1 is.once)

-- the lines of some first rounds pass, and no more of them are exports
front_is : (script : Script) (front rest : List (List Line)) → script.rounds ≡ front ++ rest → 0 < length front
    → IsWorkload script script.rounds → IsWorkload script front
front_is script front rest split some whole =
    let all : lines_in script.rounds ≡ lines_in front ++ lines_in rest =
    ap lines_in split ∙ flat_map-append (λ (round : List Line). round) front rest in
    let passed = and_parts (list_all (is_line script) (lines_in front)) (list_all (is_line script) (lines_in rest))
    (sym (list_all-append (is_line script) (lines_in front) (lines_in rest)) ∙ ap (list_all (is_line script)) (sym all) ∙ whole.lines) in
    let counted : count_by is_sent (lines_in front ++ lines_in rest) ≡ count_by is_sent (lines_in front) + count_by is_sent (lines_in rest) =
    sum_by-append (λ (line : Line). cond (is_sent line) 1 0) (lines_in front) (lines_in rest) in
    record {
      head = whole.head;
      some = some;
      lines = passed.0;
      once = omega (arith, whole.once, counted, ap (count_by is_sent) all);
    }

-- The first rounds of a workload are a workload.
pub first_rounds_are_valid : FirstRoundsAreValid
first_rounds_are_valid script first whole rest split valid =
    joined script (first ∷ whole) (front_is script (first ∷ whole) rest split (omega arith) (parted script valid))

-- And so they are with first lines of the next round.
pub fronts_are_valid : FrontsAreValid
fronts_are_valid script counts round whole rest split valid =
    let kept : List Line = first_lines counts round in
    let some : 0 < length (whole ++ round ∷ []) = omega (arith, length_push whole round) in
    let all = front_is script (whole ++ round ∷ []) rest (split ∙ sym (append_assoc whole (round ∷ []) rest)) some (parted script valid) in
    let split_at : (last : List Line) → lines_in (whole ++ last ∷ []) ≡ lines_in whole ++ last =
    λ (last : List Line). flat_map-append (λ (round : List Line). round) whole (last ∷ []) ∙ ap (λ ls. lines_in whole ++ ls) (append-nil last) in
    let passed = and_parts (list_all (is_line script) (lines_in whole)) (list_all (is_line script) round)
    (sym (list_all-append (is_line script) (lines_in whole) round) ∙ ap (list_all (is_line script)) (sym (split_at round)) ∙ all.lines) in
    let count : (last : List Line) → count_by is_sent (lines_in whole ++ last) ≡ count_by is_sent (lines_in whole) + count_by is_sent last =
    λ (last : List Line). sum_by-append (λ (line : Line). cond (is_sent line) 1 0) (lines_in whole) last in
    joined script (whole ++ kept ∷ [])
    (record {
      head = all.head;
      some = omega (arith, length_push whole kept);
      lines = ap (list_all (is_line script)) (split_at kept)
          ∙ list_all-append (is_line script) (lines_in whole) kept
          ∙ and_from (list_all (is_line script) (lines_in whole)) (list_all (is_line script) kept) passed.0
          (kept_pass (is_line script) counts round passed.1);
      once = omega (arith, all.once, count round, count kept, ap (count_by is_sent) (split_at round), ap (count_by is_sent) (split_at kept), kept_few is_sent counts round);
    })
