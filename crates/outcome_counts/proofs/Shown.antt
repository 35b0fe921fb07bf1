-- What the definitions ask of numbers, by counts and the highest.
use Rattle.std.proofs.Common.{◌≡◌, ℕ, ◌+◌, ◌-◌, ◌^◌, ◌<◌, Bool, true, false, List, [], ◌∷◌, length, nat_lt, nat_le, Option, None, Some, refl, sym, ap, ◌∙◌, arith}
use Rattle.std.specs.List.{count_by, list_all, range_with_len}
use Rattle.std.specs.Option.{option_map_or}
use Rattle.std.specs.Ordering.{is_eq, nat_cmp}
use Rattle.std.specs.Prelude.{◌==◌, ◌&&◌}
use Rattle.std.proofs.lemmas.Bool.Decides.{nat_tests}
use Rattle.std.proofs.lemmas.List.{length-map}
use Rattle.std.proofs.lemmas.List.FromFn.{length-range_with_len}
use Rattle.cell_model.specs.declared.table.TableDecl.{TableDecl}
use Rattle.workload_spec.specs.declared.reply.Said.{Said}
use Rattle.workload_spec.specs.declared.reply.Said.TheVariants as said
use Rattle.outcome_spec.specs.Entries.{Entry, after, before, commit_in, shown_in, snapshot_in}
use Rattle.outcome_spec.specs.Numbers.{number_shown, snapshot_holds}
use Rattle.outcome_spec.specs.Runs.{commits_as, commit_count, committed_writes, run_of, transactions_of}
use Rattle.mark_index.specs.Marks.{highest}
use Rattle.outcome_counts.specs.LaterCommits.{below_commit}
use Rattle.outcome_counts.specs.NumberMarks.{is_commit_of, is_numbered, above_commit, above_shown}
use Rattle.outcome_counts.specs.Numbers.{is_snapshot}
use Rattle.outcome_counts.proofs.Counts.{count-agree, length-shown}
use Rattle.outcome_counts.proofs.Keyed.{nat-same}
use Rattle.outcome_counts.proofs.Later.{all-above}
use Rattle.outcome_counts.proofs.Peaks.{all-below}

-- A number is the one shown exactly where the two compare as one.
commit-told : (number : ℕ) (told : Option ℕ) → option_map_or (λ shown. shown == number) told false ≡ option_map_or (λ its. is_eq (nat_cmp its number)) told false
commit-told number None = refl
commit-told number (Some n) = sym (nat-same n number)

-- the commits with a number are counted as the definitions count them
pub commits-counted : (number : ℕ) (entries : List Entry) → count_by (commits_as number) entries ≡ count_by (is_commit_of number) entries
commits-counted number entries = count-agree (commits_as number) (is_commit_of number) (λ e. commit-told number (commit_in e.reply.said)) entries

-- the commits with any number are counted as the definitions count them
pub numbered-counted : (entries : List Entry) → commit_count entries ≡ count_by is_numbered entries
numbered-counted entries = length-shown (λ (e : Entry). commit_in e.reply.said) entries

-- commit numbers are all below one exactly where the highest, plus one, is at most it
pub commits-below : (number : ℕ) (entries : List Entry) → list_all (λ earlier. nat_lt earlier number) (shown_in commit_in entries) ≡ nat_le (highest above_commit entries) number
commits-below number entries = all-below (λ (e : Entry). commit_in e.reply.said) number entries

-- two tests that follow from each other are one
pub both-ways : (a b : Bool) → (a ≡ true → b ≡ true) → (b ≡ true → a ≡ true) → a ≡ b
both-ways true b f g = sym (f refl)
both-ways false true f g = g refl
both-ways false false f g = refl

-- two tests that agree on each element are passed by all of a list alike
pub all-agree : {X : Type 0} (p q : X → Bool) → ((x : X) → p x ≡ q x) → (xs : List X) → list_all p xs ≡ list_all q xs
all-agree p q same [] = refl
all-agree p q same (x ∷ xs) = ap (λ (b : Bool). b && list_all p xs) (same x) ∙ ap (λ (b : Bool). q x && b) (all-agree p q same xs)

-- the numbers that are shown are all up to one exactly where the highest is
pub shown-up-to : (number : ℕ) (entries : List Entry) → list_all (λ earlier. nat_le earlier number) (shown_in number_shown entries) ≡ nat_le (highest above_shown entries) (number + 1)
shown-up-to number entries =
    all-agree (λ n. nat_le n number) (λ n. nat_lt n (number + 1)) (λ n. same n number) (shown_in number_shown entries)
    ∙ all-below (λ (e : Entry). number_shown e.reply.said) (number + 1) entries
  where
    same : (n number : ℕ) → nat_le n number ≡ nat_lt n (number + 1)
    same n number = grind (arith, nat_tests)

-- commit numbers are all above one exactly where none of them is as far below 2 ^ 64
pub commits-above : (number : ℕ) → number < 2 ^ 64 → (entries : List Entry) → list_all (λ later. nat_lt number later) (shown_in commit_in entries) ≡ nat_lt (highest below_commit entries) (2 ^ 64 - number)
commits-above number small entries = all-above (2 ^ 64) number small (λ (e : Entry). commit_in e.reply.said) entries

-- where the store began with nothing, all commits are those that show a number
pub all-numbered : (tables : List TableDecl) (entries : List Entry) → length (run_of tables entries).history ≡ commit_count entries
all-numbered tables entries =
    length-map (range_with_len 1 (commit_count entries)) (committed_writes entries (transactions_of entries))
    ∙ length-range_with_len 1 (commit_count entries)

-- each number is at least 0
at-least-none : (all earlier later least : Bool) → least ≡ true → (all && least && earlier && later) ≡ (all && earlier && later)
at-least-none true earlier later least is = ap (λ (b : Bool). b && earlier && later) is
at-least-none false earlier later least is = refl

-- what is asked there of a reply that shows a snapshot is asked by its number
pub snapshot-by : (tables : List TableDecl) (entries : List Entry) (entry : Entry) (told : Said)
    → snapshot_holds (run_of tables entries) entry told ≡ option_map_or (λ number. is_snapshot entries number entry) (snapshot_in told) true
snapshot-by tables entries entry (said.At number) =
    let earlier : Bool = list_all (λ earlier. nat_le earlier number) (shown_in number_shown (before entries entry)) in
    let later : Bool = list_all (λ later. nat_lt number later) (shown_in commit_in (after entries entry)) in
    let least : nat_le 0 number ≡ true = grind (arith, nat_tests) in
    ap (λ (n : ℕ). nat_le number n && nat_le 0 number && earlier && later) (all-numbered tables entries)
    ∙ at-least-none (nat_le number (commit_count entries)) earlier later (nat_le 0 number) least
snapshot-by tables entries entry _ = refl
