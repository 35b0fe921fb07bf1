-- The worked examples of what a crash leaves of a run's log.
use Rattle.std.proofs.Common.{◌≡◌, ◌⊎◌, inl, inr, ℕ, zero, suc, ◌≤◌, List, [], ◌∷◌, ◌++◌, map, length, Some, refl, sym, ap, ◌∙◌, subst, arith, length-append}
use Rattle.std.specs.Prelude.{get_or, pos}
use Rattle.std.specs.List.{flat_map}
use Rattle.std.proofs.lemmas.List.Elements.{All-from_recursion, All-nil}
use lib.Utf8.{encode}
use Rattle.std.specs.Str.{chars, is_utf8}
use Rattle.isolation_spec.specs.Commits.{IsCommitOf, IsWriteOf}
use Rattle.isolation_spec.specs.Contents.{History}
use Rattle.log_spec.specs.Examples.{left, one_row, one_row_bytes, tables, text_row}
use Rattle.log_spec.specs.LogText.{IsLogAt, IsOpen, magic, payload_text, record_text}
use Rattle.log_spec.specs.Reading.{Gives, IsGroupOf}
use Rattle.log_spec.proofs.Unique.{one_log}
use Rattle.run_spec.specs.Histories.{history_at}
use Rattle.run_laws.specs.Recovery.Leaves.{LeavesRounds}
use Rattle.run_laws.specs.Recovery.Examples.{FilesGiveTheFirst, FirstCommitsAreLeft, LogsLeaveRounds, SpoiledFilesDoNotSurvive, SurvivesOn, commits_a_row, cut_log, empty_log, may_leave, over, row_log}

-- ---- what the files give

one_write : IsWriteOf tables (left 0 (text_row (pos 1)))
unfolding is_utf8 chars encode
one_write = record { key = refl; row = record { cells = refl; key = refl } }

set_is_some : left 0 (text_row (pos 1)) ∷ [] ≡ [] → ⊥
set_is_some e = cc

row_is_some : one_row ≡ [] → ⊥
row_is_some e = cc

one_commit : IsCommitOf tables (left 0 (text_row (pos 1)) ∷ [])
one_commit = record {
  some = set_is_some;
  rises = (All-nil _, tt);
  each = All-from_recursion (IsWriteOf tables) (left 0 (text_row (pos 1)) ∷ []) (one_write, tt);
}

one_group : IsGroupOf tables one_row
one_group = record {
  some = row_is_some;
  few = omega arith;
  each = All-from_recursion (IsCommitOf tables) one_row (one_commit, tt);
  short = omega arith;
}

-- The log of no record gives nothing,
none_log : IsLogAt [] 8 empty_log
none_log = record { records = []; behind = []; same = refl; are_open = tt; place = refl; is = refl }

gives_none : Gives tables empty_log []
gives_none = (8, record { groups = []; are = All-nil (IsGroupOf tables); same = refl; log = none_log })

-- that of the row the row,
open_gate : IsOpen (record { gate = 1; payload = one_row_bytes })
open_gate = record { gate = λ closed. absurd (omega (arith, closed)); short = omega arith }

gives_row : Gives tables row_log one_row
gives_row = (
  37,
  record {
    groups = one_row ∷ [];
    are = All-from_recursion (IsGroupOf tables) (one_row ∷ []) (one_group, tt);
    same = refl;
    log = record { records = record { gate = 1; payload = one_row_bytes } ∷ []; behind = []; same = refl; are_open = (open_gate, tt); place = refl; is = refl };
  },
)

-- and the first nothing else.
no_groups : (groups : List History) → map payload_text groups ≡ [] → groups ≡ []
no_groups [] same = refl
no_groups (g ∷ groups) same = absurd (let never : ⊥ = cc in never)

none_given : (commits : History) → Gives tables empty_log commits → commits ≡ []
none_given commits (gate, a) =
    let found = one_log (map payload_text a.groups) [] gate 8 empty_log a.log none_log in
    sym a.same ∙ ap (flat_map (λ (group : History). group)) (no_groups a.groups found.0)

not_row : Gives tables empty_log one_row → ⊥
not_row given = row_is_some (none_given one_row given)

-- The spoiled one gives nothing at all.
not_cut : (commits : History) → Gives tables cut_log commits → ⊥
not_cut commits (gate, a) =
    let texts = flat_map record_text a.log.records in
    let whole = ap length a.log.is in
    let front = length-append magic texts in
    let all = length-append (magic ++ texts) (0 ∷ a.log.behind) in
    omega (arith, whole, front, all)

-- ---- rounds

-- A log that gives nothing is not of the round with the row.
not_without : LeavesRounds (over []) (commits_a_row ∷ []) 1 empty_log → ⊥
not_without left = by left.count left.enough left.within left.gives
  where
    by : (n : ℕ) → 1 ≤ n → n ≤ 1 → Gives tables empty_log (history_at (over []) (commits_a_row ∷ []) n) → ⊥
    by zero low high gives = let never : ⊥ = omega (arith, low) in never
    by (suc zero) low high gives = not_row gives
    by (suc (suc n)) low high gives = let never : ⊥ = omega (arith, high) in never

-- Nor is one of a run that began with the row,
not_first : LeavesRounds (over one_row) [] 0 empty_log → ⊥
not_first left = by left.count left.within left.gives
  where
    by : (n : ℕ) → n ≤ 0 → Gives tables empty_log (history_at (over one_row) [] n) → ⊥
    by zero high gives = not_row gives
    by (suc n) high gives = let never : ⊥ = omega (arith, high) in never

-- and a spoiled one is of no run.
not_spoiled : LeavesRounds (over one_row) [] 0 cut_log → ⊥
not_spoiled left = not_cut (history_at (over one_row) [] left.count) left.gives

with_row : LeavesRounds (over []) (commits_a_row ∷ []) 1 row_log
with_row = record { count = 1; enough = omega arith; within = omega arith; gives = gives_row }

with_row_too : LeavesRounds (over []) (commits_a_row ∷ []) 0 row_log
with_row_too = record { count = 1; enough = omega arith; within = omega arith; gives = gives_row }

without_row : LeavesRounds (over []) (commits_a_row ∷ []) 0 empty_log
without_row = record { count = 0; enough = omega arith; within = omega arith; gives = gives_none }

pub logs_leave : LogsLeaveRounds
logs_leave = (with_row, without_row, not_without)

pub first_left : FirstCommitsAreLeft
first_left = (record { count = 0; enough = omega arith; within = omega arith; gives = gives_row }, not_first, not_spoiled)

-- ---- the commits that a run begins with

same_bytes : (a b : List ℕ) → Some a ≡ Some b → a ≡ b
same_bytes a b e = cc

row_log_is_some : row_log ≡ [] → ⊥
row_log_is_some e = cc

pub files_give : FilesGiveTheFirst
files_give = (
  record {
    made = λ e. absurd (row_log_is_some (same_bytes row_log [] e));
    opened = λ bytes some e. subst (λ (bs : List ℕ). Gives tables bs one_row) (same_bytes row_log bytes e) gives_row;
  },
  record {
    made = λ e. refl;
    opened = λ bytes some e. absurd (some (sym (same_bytes [] bytes e)));
  },
  λ begins. row_is_some (begins.made refl),
  λ begins. not_row (begins.opened empty_log (λ e. let never : ⊥ = cc in never) refl),
)

-- ---- a disk

any_good : (c : List ℕ) (at : ℕ) → 1 ≤ at → at ≤ 2 → c ≡ get_or ([] ∷ empty_log ∷ row_log ∷ []) at [] → LeavesRounds (over []) (commits_a_row ∷ []) 0 c
any_good c zero low high is = absurd (let never : ⊥ = omega (arith, low) in never)
any_good c (suc zero) low high is = subst (LeavesRounds (over []) (commits_a_row ∷ []) 0) (sym is) without_row
any_good c (suc (suc zero)) low high is = subst (LeavesRounds (over []) (commits_a_row ∷ []) 0) (sym is) with_row_too
any_good c (suc (suc (suc n))) low high is = absurd (let never : ⊥ = omega (arith, high) in never)

good : SurvivesOn ([] ∷ empty_log ∷ row_log ∷ []) 2 [] (commits_a_row ∷ []) 1
good = record {
  opened = 1;
  began = omega arith;
  ended = omega arith;
  any_moment = λ c left. any_good c left.0 left.1 left.2 left.3;
  from_start = λ some c left. absurd (some refl);
  kept = λ c is. subst (LeavesRounds (over []) (commits_a_row ∷ []) 1) (sym is) with_row;
}

lines_first : SurvivesOn ([] ∷ empty_log ∷ empty_log ∷ []) 2 [] (commits_a_row ∷ []) 1 → ⊥
lines_first survives = not_without (survives.kept empty_log refl)

cut_or_row : (may_leave (record { files = row_log ∷ cut_log ∷ row_log ∷ []; now = 0 }) cut_log) ⊎ LeavesRounds (over one_row) [] 0 cut_log → ⊥
cut_or_row (inl same) = not_cut one_row (subst (λ (bs : List ℕ). Gives tables bs one_row) (sym same) gives_row)
cut_or_row (inr left) = not_spoiled left

for_a_while : SurvivesOn (row_log ∷ cut_log ∷ row_log ∷ []) 2 one_row [] 0 → ⊥
for_a_while survives = cut_or_row (survives.from_start (λ e. row_log_is_some (same_bytes row_log [] e)) cut_log (1, omega arith, omega arith, refl))

pub spoiled_do_not : SpoiledFilesDoNotSurvive
spoiled_do_not = (good, lines_first, for_a_while)
