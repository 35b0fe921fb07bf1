-- Which snapshot may be shown, of a reply among others.
use Rattle.std.specs.Prelude.{ℕ, Bool, ◌&&◌, nat_lt, nat_le, List}
use Rattle.std.specs.List.{list_all}
use Rattle.outcome_spec.specs.Entries.{Entry, before, after, shown_in, commit_in}
use Rattle.outcome_spec.specs.Numbers.{number_shown}
use Rattle.outcome_spec.specs.Runs.{commit_count}

-- the number is at most the count of commit numbers, at least each number shown before, and below
-- each commit number after
abbrev pub is_snapshot : List Entry → ℕ → Entry → Bool
is_snapshot entries number entry =
    nat_le number (commit_count entries)
    && list_all (λ earlier. nat_le earlier number) (shown_in number_shown (before entries entry))
    && list_all (λ later. nat_lt number later) (shown_in commit_in (after entries entry))
