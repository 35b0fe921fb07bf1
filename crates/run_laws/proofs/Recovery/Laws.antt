-- How what a crash leaves of a run's log goes on, and which numbers it keeps.
use Rattle.std.proofs.Common.{◌≡◌, ◌⊎◌, inl, inr, ℕ, zero, suc, ◌+◌, ◌≤◌, List, [], ◌∷◌, ◌++◌, length, take, Option, Some, refl, sym, ap, subst, arith, length-append}
use Rattle.log_spec.specs.Reading.{Gives}
use Rattle.run_spec.specs.Histories.{history_at}
use Rattle.run_spec.specs.Ran.{RoundRun}
use Rattle.run_spec.specs.Commits.{history_behind, write_sets}
use Rattle.std.specs.List.{flat_map}
use Rattle.run_laws.proofs.Commits.Numbers.{numbers_are_within}
use Rattle.run_laws.specs.Recovery.Leaves.{LeavesRounds}
use Rattle.run_laws.specs.Recovery.Laws.{AppendsLeaveRounds, NumbersAreKept, RoundsGoOn, SurvivalGoesOn}

-- The numbers of the rounds that are kept are kept.
pub numbers_are_kept : NumbersAreKept
numbers_are_kept script log text least bytes runs ran left = numbers_are_within script log text least left.count runs ran left.enough

-- As many of the first rounds are those of more.
take_more : (rounds more : List RoundRun) (n : ℕ) → n ≤ length rounds → take n (rounds ++ more) ≡ take n rounds
take_more [] [] zero low = refl
take_more [] (r ∷ more) zero low = refl
take_more [] more (suc n) low = absurd (let never : ⊥ = omega (arith, low) in never)
take_more (r ∷ rounds) more zero low = refl
take_more (r ∷ rounds) more (suc n) low = ap (λ (rs : List RoundRun). r ∷ rs) (take_more rounds more n (omega (arith, low)))

-- What leaves some of the first rounds leaves some of all.
pub rounds_go_on : RoundsGoOn
rounds_go_on script rounds more least bytes left = record {
  count = left.count;
  enough = left.enough;
  within = let low = left.within in let long = length-append rounds more in omega (arith, low, long);
  gives = subst (λ (rs : List RoundRun). Gives script.tables bytes (history_behind script.begun (flat_map (λ (round : RoundRun). round.made) rs)))
      (sym (take_more rounds more left.count left.within)) left.gives;
}

-- A crash in an append, and behind it.
pub appends_leave : AppendsLeaveRounds
appends_leave script rounds count sorted there by = record {
  during = during;
  behind = behind;
}
  where
    behind : (bytes : List ℕ) → Gives script.tables bytes (history_at script rounds count ++ write_sets sorted) → LeavesRounds script rounds (count + 1) bytes
    behind bytes gives = record {
      count = count + 1;
      enough = omega arith;
      within = there;
      gives = subst (Gives script.tables bytes) (sym by.history) gives;
    }

    during : (bytes : List ℕ) → Gives script.tables bytes (history_at script rounds count) ⊎ Gives script.tables bytes (history_at script rounds count ++ write_sets sorted)
        → LeavesRounds script rounds count bytes
    during bytes (inl gives) = record {
      count = count;
      enough = omega arith;
      within = omega (arith, there);
      gives = gives;
    }
    during bytes (inr gives) = record {
      count = count + 1;
      enough = omega arith;
      within = there;
      gives = subst (Gives script.tables bytes) (sym by.history) gives;
    }

-- A log that survived some rounds survives more.
pub survival_goes_on : {D : Type 0} (told : D → Option (List ℕ)) (moment : D → ℕ) (left_since : D → ℕ → List ℕ → Type 0) (may_leave : D → List ℕ → Type 0)
    → SurvivalGoesOn told moment left_since may_leave
survival_goes_on told moment left_since may_leave old mid new script rounds more printed later survived leaves kept = record {
  opened = survived.opened;
  began = survived.began;
  ended = let a = survived.ended in let b = leaves.later in omega (arith, a, b);
  any_moment = λ c left. any c (leaves.before survived.opened c survived.ended left);
  from_start = λ some c left. start some c (leaves.before (moment old) c (let a = survived.began in let b = survived.ended in omega (arith, a, b)) left);
  kept = kept;
}
  where
    any : (c : List ℕ) → left_since mid survived.opened c ⊎ LeavesRounds script (rounds ++ more) 0 c → LeavesRounds script (rounds ++ more) 0 c
    any c (inl earlier) = rounds_go_on script rounds more 0 c (survived.any_moment c earlier)
    any c (inr leaves) = leaves

    first : (c : List ℕ) → may_leave old c ⊎ LeavesRounds script rounds 0 c → may_leave old c ⊎ LeavesRounds script (rounds ++ more) 0 c
    first c (inl before) = inl before
    first c (inr leaves) = inr (rounds_go_on script rounds more 0 c leaves)

    start : (told old ≡ Some [] → ⊥) → (c : List ℕ) → left_since mid (moment old) c ⊎ LeavesRounds script (rounds ++ more) 0 c
        → may_leave old c ⊎ LeavesRounds script (rounds ++ more) 0 c
    start some c (inl earlier) = first c (survived.from_start some c earlier)
    start some c (inr leaves) = inr leaves
