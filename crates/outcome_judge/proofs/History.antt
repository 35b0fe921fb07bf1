-- The state after commits is what their writes leave one after another.
use Rattle.std.proofs.Common.{◌≡◌, ℕ, ◌+◌, ◌<◌, nat_le, zero, suc, Bool, true, false, cond, List, [], ◌∷◌, ◌++◌, length, map, take, Option, None, Some, refl, sym, ap, ◌∙◌, arith}
use Rattle.std.specs.List.{find, range_with_len, slice_get}
use Rattle.std.specs.Option.{option_map_or}
use Rattle.std.specs.Prelude.{◌==◌, fold, option_and_then, if◌then◌else◌}
use Rattle.std.proofs.lemmas.Bool.Decides.{nat_tests}
use Rattle.std.proofs.lemmas.List.Elements.{filter-append}
use Rattle.std.proofs.lemmas.Option.{same_Some}
use Rattle.cell_model.specs.declared.cell.Cell.{Cell}
use Rattle.isolation_spec.specs.Contents.{State, WriteSet, laid_over, state_at}
use Rattle.isolation_spec.specs.declared.place.Place.{Place}
use Rattle.workload_spec.specs.declared.reply.Said.{Said}
use Rattle.workload_spec.specs.declared.reply.Said.TheVariants as said
use Rattle.outcome_spec.specs.Entries.{Entry, commit_in, is_end}
use Rattle.outcome_spec.specs.Runs.{Span, commits_as, commit_count, committed_writes, transactions_of, transaction_with, writes_in}
use Rattle.order_laws.specs.Opened.{OpensOutside}
use Rattle.order_laws.specs.Places.{Rises as Ordered}
use Rattle.outcome_counts.specs.Openings.{AreOpenings, opening_of, openings_in}
use Rattle.si_machine.specs.Kept.{Rises}
use Rattle.si_machine.proofs.Rising.{rises-laid}
use Rattle.mark_index.proofs.Noted.{filter-all}
use Rattle.outcome_judge.specs.Timed.{TimedWrite, after_writes, timed, up_to}
use Rattle.outcome_judge.specs.Own.{own_writes, changes_of}
use Rattle.outcome_judge.specs.Commits.{places_of, first_of, made_of, commit_writes, commits_from}
use Rattle.outcome_judge.specs.Seen.{history_of}
use Rattle.outcome_judge.proofs.Laid.{laid-writes, after-append}
use Rattle.outcome_judge.proofs.CommitsMade.{commit-at, lower}
use Rattle.outcome_judge.proofs.Spanned.{IsSpan, spanned, unspanned}

-- ---- the first that passes a test

pub record FirstAt (test : Entry → Bool) (place : ℕ) (entries : List Entry) (first : ℕ) : Type 0 where
  pub front : List Entry
  pub entry : Entry
  pub rest : List Entry
  pub whole : entries ≡ front ++ entry ∷ rest
  pub far : place + length front ≡ first
  pub found : find test entries ≡ Some entry
  pub passes : test entry ≡ true

-- where no place is the first that passes, nothing passes
pub first-none : (test : Entry → Bool) (place : ℕ) (entries : List Entry) → slice_get (places_of test place entries) 0 ≡ None → find test entries ≡ None
first-none test place [] h = refl
first-none test place (entry ∷ entries) h = by (test entry) (first-none test (place + 1) entries) h
  where
    by : (b : Bool) → (slice_get (places_of test (place + 1) entries) 0 ≡ None → find test entries ≡ None)
        → slice_get (if b then place ∷ places_of test (place + 1) entries else places_of test (place + 1) entries) 0 ≡ None → cond b (Some entry) (find test entries) ≡ None
    by true rest h = absurd (let never : ⊥ = cc in never)
    by false rest h = rest h

-- what stands at the first place that passes
pub first-some : (test : Entry → Bool) (place : ℕ) (entries : List Entry) (first : ℕ) → slice_get (places_of test place entries) 0 ≡ Some first → FirstAt test place entries first
first-some test place [] first h = absurd (let never : ⊥ = cc in never)
first-some test place (entry ∷ entries) first h = by (test entry) refl (first-some test (place + 1) entries first) h
  where
    by : (b : Bool) → test entry ≡ b → (slice_get (places_of test (place + 1) entries) 0 ≡ Some first → FirstAt test (place + 1) entries first)
        → slice_get (if b then place ∷ places_of test (place + 1) entries else places_of test (place + 1) entries) 0 ≡ Some first → FirstAt test place (entry ∷ entries) first
    by true is rest h =
        let e : place ≡ first = same_Some place first h in
        record { front = []; entry = entry; rest = entries; whole = refl; far = omega (arith, e); found = ap (λ (b : Bool). cond b (Some entry) (find test entries)) is; passes = is }
    by false is rest h =
        let later = rest h in
        let far = later.far in
        record {
          front = entry ∷ later.front;
          entry = later.entry;
          rest = later.rest;
          whole = ap (λ (es : List Entry). entry ∷ es) later.whole;
          far = omega (arith, far);
          found = ap (λ (b : Bool). cond b (Some entry) (find test entries)) is ∙ later.found;
          passes = later.passes;
        }

-- what commits ends its transaction
pub commits-end : (number : ℕ) (told : Said) → option_map_or (λ shown. shown == number) (commit_in told) false ≡ true → is_end told ≡ true
commits-end number (said.Committed shown) h = refl
commits-end number _ h = absurd (let never : ⊥ = cc in never)

module _ (entries : List Entry) (ordered : Ordered entries) (outside : OpensOutside entries) (are : AreOpenings entries (openings_in entries)) where
  -- Where the transactions of the replies were opened.
  abbrev os : List (Option ℕ)
  os = openings_in entries

  -- The write set of each commit number.
  abbrev written : ℕ → WriteSet
  written = committed_writes entries (transactions_of entries)

  -- What the transaction of a line wrote, if there is such a line.
  abbrev of_line : Option Entry → WriteSet
  of_line line = option_map_or (λ t. writes_in t.replies) (option_and_then (transaction_with (transactions_of entries)) line) []

  -- what the transaction of a commit leaves
  laid-found : (number place : ℕ) (rows : State) → Rises rows → (first : FirstAt (commits_as number) 0 entries place)
      → (opening : Option ℕ) → opening_of os place ≡ opening
      → laid_over rows (of_line (Some first.entry)) ≡ after_writes rows (option_map_or (made_of os entries number place) opening [])
  laid-found number place rows h first None is =
      let far : length first.front ≡ place = (let f = first.far in omega (arith, f)) in
      let none = unspanned entries first.front first.entry first.rest first.whole ordered outside are (ap (opening_of os) far ∙ is) in
      ap (λ (o : Option Span). laid_over rows (option_map_or (λ t. writes_in t.replies) o [])) none
  laid-found number place rows h first (Some owner) is =
      let far : length first.front ≡ place = (let f = first.far in omega (arith, f)) in
      let its : IsSpan entries (length first.front) first.entry owner = spanned entries first.front first.entry first.rest first.whole ordered outside are owner (ap (opening_of os) far ∙ is) in
      ap (λ (o : Option Span). laid_over rows (option_map_or (λ t. writes_in t.replies) o [])) its.found
      ∙ laid-writes number rows its.span.replies h
      ∙ ap (λ (cs : List (Place × Option (List Cell))). after_writes rows (timed number cs)) (its.ended (commits-end number first.entry.reply.said first.passes))
      ∙ ap (λ (n : ℕ). after_writes rows (made_of os entries number n owner)) far

  -- A commit's write set, laid over rows, leaves what its line's transaction made, if it has a
  -- line.
  laid-line : (number : ℕ) (rows : State) → Rises rows → (first : Option ℕ) → first_of (commits_as number) entries ≡ first
      → laid_over rows (written number) ≡ after_writes rows (option_map_or (λ place. option_map_or (made_of os entries number place) (opening_of os place) []) first [])
  laid-line number rows h None is = ap (λ (o : Option Entry). laid_over rows (of_line o)) (first-none (commits_as number) 0 entries is)
  laid-line number rows h (Some place) is =
      let first = first-some (commits_as number) 0 entries place is in
      ap (λ (o : Option Entry). laid_over rows (of_line o)) first.found ∙ laid-found number place rows h first (opening_of os place) refl

  -- A commit's write set, laid over rows, leaves what its writes leave one after another.
  laid-commit : (number : ℕ) (rows : State) → Rises rows → laid_over rows (written number) ≡ after_writes rows (commit_writes os entries number)
  laid-commit number rows h = laid-line number rows h (first_of (commits_as number) entries) refl

  -- ---- commits up to a number

  -- Of changes made at a number above a bound none is up to the bound.
  none-up-to : (bound number : ℕ) → bound < number → (changes : List (Place × Option (List Cell))) → up_to bound (timed number changes) ≡ []
  none-up-to bound number h [] = refl
  none-up-to bound number h (change ∷ changes) = let late : nat_le number bound ≡ false = grind (arith, nat_tests, h) in rw late (none-up-to bound number h changes)

  -- Of what a transaction made at a number above a bound none is up to the bound.
  none-opened : (bound number place : ℕ) → bound < number → (opening : Option ℕ) → up_to bound (option_map_or (made_of os entries number place) opening []) ≡ []
  none-opened bound number place h None = refl
  none-opened bound number place h (Some owner) = none-up-to bound number h (changes_of (up_to place (own_writes owner 0 os entries)))

  -- Of what the line of a number above a bound made none is up to the bound.
  none-line : (bound number : ℕ) → bound < number → (first : Option ℕ) → up_to bound (option_map_or (λ place. option_map_or (made_of os entries number place) (opening_of os place) []) first []) ≡ []
  none-line bound number h None = refl
  none-line bound number h (Some place) = none-opened bound number place h (opening_of os place)

  -- Of the commits from a number above a bound on no write is up to the bound.
  none-from : (bound number count : ℕ) → bound < number → up_to bound (commits_from os entries number count) ≡ []
  none-from bound number zero h = refl
  none-from bound number (suc count) h =
      filter-append (λ w. nat_le w.time bound) (commit_writes os entries number) (commits_from os entries (number + 1) count)
      ∙ ap (λ (ws : List TimedWrite). ws ++ up_to bound (commits_from os entries (number + 1) count)) (none-line bound number h (first_of (commits_as number) entries))
      ∙ none-from bound (number + 1) count (omega (arith, h))

  -- The first commits, laid over rows, leave what the writes up to the last of them leave.
  fold-commits : (n number count bound : ℕ) (rows : State) → number + n ≡ bound + 1 → Rises rows
      → fold laid_over rows (take n (map written (range_with_len number count))) ≡ after_writes rows (up_to bound (commits_from os entries number count))
  fold-commits zero number count bound rows is h = sym (ap (after_writes rows) (none-from bound number count (omega (arith, is))))
  fold-commits (suc n) number zero bound rows is h = refl
  fold-commits (suc n) number (suc count) bound rows is h =
      fold-commits n (number + 1) count bound (laid_over rows (written number)) (omega (arith, is)) (rises-laid rows (written number) h)
      ∙ ap (λ (s : State). after_writes s (up_to bound (commits_from os entries (number + 1) count))) (laid-commit number rows h)
      ∙ sym (after-append rows (commit_writes os entries number) (up_to bound (commits_from os entries (number + 1) count)))
      ∙ ap (λ (ws : List TimedWrite). after_writes rows (ws ++ up_to bound (commits_from os entries (number + 1) count)))
      (sym (filter-all (λ w. nat_le w.time bound) (commit_writes os entries number) (lower os entries number bound (omega (arith, is)) (commit_writes os entries number) (commit-at os entries number))))
      ∙ ap (after_writes rows) (sym (filter-append (λ w. nat_le w.time bound) (commit_writes os entries number) (commits_from os entries (number + 1) count)))

  -- The state after so many commits.
  pub state-is : (number : ℕ) → state_at (history_of entries) number ≡ after_writes [] (up_to number (commits_from os entries 1 (commit_count entries)))
  state-is number = fold-commits number 1 (commit_count entries) number [] (omega arith) tt
